-- The lemmas on bodies in pieces that other crates cite. Declares nothing, and no other module of proofs/ can be named from outside.
pub use Rattle.blockwise.proofs.Answering.{answers_outcome, continues_next, last_responds, next_continues, outcome_answers, responds_last}
pub use Rattle.blockwise.proofs.OneMessage.{only_answer}
pub use Rattle.blockwise.proofs.Sent.{more_left, next_is_sound, next_szx-le, part_is_at, slice_is_next, start_is_sound, uploads}
pub use Rattle.blockwise.proofs.WholeBlocks.{one_block_more, small_size, whole_number}
