-- The pieces of a body that is sent.
use Rattle.std.proofs.Common.{◌≡◌, ℕ, ◌+◌, ◌<◌, ◌≤◌, inl, inr, Bool, true, false, not, ◌&&◌, ◌==◌, List, [], ◌∷◌, ◌++◌, length, take, drop, Option, Some, None, refl, ap, sym, subst, ◌∙◌, cond, arith, rules, nat_le, length-drop, append-nil}
use Rattle.std.proofs.lemmas.List.{length-take, take-append-drop, drop-drop, take_all}
use Rattle.std.proofs.lemmas.Bool.Decides.{Decides-eqb}
use Rattle.std.proofs.Math.Nat.{zero-mul}
use Rattle.coap_codec.specs.Spelling.{Content}
use Rattle.coap_codec.specs.declared.block.Block.{Block}
use Rattle.coap_codec.specs.Recognition.{class_of}
use Rattle.blockwise.specs.Reading.{block_in, size_of, goes_on, offset_in}
use Rattle.blockwise.specs.Uploads.{UploadValue, IsAligned, IsSound, begun, is_last, is_whole, block_at, next_block, next_payload, next_szx, slice_of, next_of}
use Rattle.blockwise.specs.Joins.{IsFull, IsSized, Part, next_part, IsPartAt, AreInOrder, joined, sent, AllGo, UploadsJoin, AreAnswers, UploadsAnswered, UploadsSucceed}
use Rattle.blockwise.proofs.WholeBlocks.{whole_number, one_block_more}
use Rattle.blockwise.proofs.Answering.{outcome_answers, answers_outcome}

pub more_left : (a b : ℕ) → nat_le a b ≡ false → b < a
more_left a b h = search rules

not_more : (a b : ℕ) → nat_le a b ≡ true → a ≤ b
not_more a b h = search rules

pub next_szx-le : (b : Option Block) (szx : ℕ) → next_szx b szx ≤ szx
next_szx-le None szx = omega arith
next_szx-le (Some b) szx = search rules

pub next_is_sound : (u : UploadValue) (m : Content) → is_last u ≡ false → IsSound u → IsSound (next_of u m)
next_is_sound u m more h = record {
  len = h.len;
  taken = omega (arith, more_left u.len (u.taken + size_of u.szx) more);
  szx = omega (arith, h.szx, next_szx-le (block_in 27 m) u.szx);
  aligned = one_block_more u.taken u.szx (next_szx (block_in 27 m) u.szx) (next_szx-le (block_in 27 m) u.szx) h.aligned;
}

pub start_is_sound : (len szx : ℕ) → len ≤ 65536 → szx < 7 → IsSound (begun len szx)
start_is_sound len szx short lt =
    record { len = short; taken = omega arith; szx = lt; aligned = record { num = 0; blocks = sym (zero-mul (size_of szx)) } }

-- The next piece is the slice of the body that its block has.
pub slice_is_next : (u : UploadValue) (body : List ℕ) → u.szx < 7 → IsAligned u.taken u.szx → slice_of (block_at u) body ≡ next_payload u body
slice_is_next u body lt aligned = ap (λ (n : ℕ). take (size_of u.szx) (drop n body)) (whole_number u.taken u.szx lt aligned)

-- The only piece is the first and the last.
and_both : (a b : Bool) → (a && b) ≡ true → (a ≡ true) × (b ≡ true)
and_both true b e = (refl, e)
and_both false b e = absurd cc

only_first : (u : UploadValue) → is_whole u ≡ true → u.taken ≡ 0
only_first u e = (Decides-eqb u.taken 0).0 ((and_both (u.taken == 0) (is_last u) e).0)

only_last : (u : UploadValue) → is_whole u ≡ true → is_last u ≡ true
only_last u e = (and_both (u.taken == 0) (is_last u) e).1

offset_by : (u : UploadValue) (whole : Bool) → (whole ≡ true → u.taken ≡ 0) → IsSound u → offset_in (cond whole None (Some (block_at u))) ≡ u.taken
offset_by u true first h = sym (first refl)
offset_by u false first h = whole_number u.taken u.szx h.szx h.aligned

more_by : (u : UploadValue) (whole : Bool) → (whole ≡ true → is_last u ≡ true) → goes_on (cond whole None (Some (block_at u))) ≡ not (is_last u)
more_by u true last = ap not (sym (last refl))
more_by u false last = refl

sized_by : (u : UploadValue) (whole : Bool) (len : ℕ) → IsFull (not (is_last u)) len (size_of u.szx) → IsSized (cond whole None (Some (block_at u))) len
sized_by u true len h = tt
sized_by u false len h = h

full_block : (size t : ℕ) (body : List ℕ) → t + size < length body → length (take size (drop t body)) ≡ size
full_block size t body lt = rw (length-take size (drop t body), length-drop t body) (omega (arith, lt))

last_block : (size t : ℕ) (body : List ℕ) → length body ≤ t + size → take size (drop t body) ≡ drop t body
last_block size t body le = take_all size (drop t body) (rw (length-drop t body) (omega (arith, le)))

no_more : (u : UploadValue) → is_last u ≡ true → goes_on (next_block u) ≡ false
no_more u last = more_by u (is_whole u) (only_last u) ∙ ap not last

one_more : (u : UploadValue) → is_last u ≡ false → goes_on (next_block u) ≡ true
one_more u last = more_by u (is_whole u) (only_last u) ∙ ap not last

full_by : (last : Bool) (len size : ℕ) → last ≡ false → len ≡ size → IsFull (not last) len size
full_by true len size e h = absurd cc
full_by false len size e h = h

short_by : (last : Bool) (len size : ℕ) → last ≡ true → len ≤ size → IsFull (not last) len size
short_by true len size e h = h
short_by false len size e h = absurd cc

pub part_is_at : (u : UploadValue) (body : List ℕ) → IsSound u → IsFull (not (is_last u)) (length (next_payload u body)) (size_of u.szx) → IsPartAt u.taken (next_part u body)
part_is_at u body h full = record {
  offset = offset_by u (is_whole u) (only_first u) h;
  sized = sized_by u (is_whole u) (length (next_payload u body)) full;
}

in_order_more : (at next : ℕ) (p : Part) (ps : List Part) → IsPartAt at p → goes_on p.block ≡ true → at + length p.payload ≡ next → AreInOrder next ps → AreInOrder at (p ∷ ps)
in_order_more at next p [] part more e h = absurd h
in_order_more at next p (q ∷ qs) part more e h = (part, more, subst (λ n. AreInOrder n (q ∷ qs)) (sym e) h)

sent_joins : (body : List ℕ) (u : UploadValue) (ms : List Content) → u.len ≡ length body → IsSound u → AllGo u ms → AreInOrder u.taken (sent u body ms) × (joined (sent u body ms) ≡ drop u.taken body)
sent_joins body u [] len h last =
    let le : length body ≤ u.taken + size_of u.szx = rw (← len) (not_more u.len (u.taken + size_of u.szx) last) in
    let all = last_block (size_of u.szx) u.taken body le in
    let short : length (next_payload u body) ≤ size_of u.szx = rw (length-take (size_of u.szx) (drop u.taken body)) (omega arith) in
    ((part_is_at u body h (short_by (is_last u) (length (next_payload u body)) (size_of u.szx) last short), no_more u last), append-nil (next_payload u body) ∙ all)
sent_joins body u (m ∷ ms) len h go =
    let more = go.0.before_last in
    let lt : u.taken + size_of u.szx < length body = rw (← len) (more_left u.len (u.taken + size_of u.szx) more) in
    let others = sent_joins body (next_of u m) ms len (next_is_sound u m more h) go.1 in
    let full = full_block (size_of u.szx) u.taken body lt in (
      in_order_more u.taken (u.taken + size_of u.szx) (next_part u body) (sent (next_of u m) body ms)
          (part_is_at u body h (full_by (is_last u) (length (next_payload u body)) (size_of u.szx) more full)) (one_more u more) (ap (λ (n : ℕ). u.taken + n) full) others.0,
      ap (λ (rest : List ℕ). next_payload u body ++ rest) (others.1 ∙ sym (drop-drop (size_of u.szx) u.taken body)) ∙ take-append-drop (size_of u.szx) (drop u.taken body),
    )

pub uploads : UploadsJoin
uploads body szx ms short lt go =
    let start = start_is_sound (length body) szx short lt in
    let all = sent_joins body (begun (length body) szx) ms refl start go in
    record { in_order = all.0; join = all.1 }

pub answered : UploadsAnswered
answered u ms last = (outcome_answers u ms last, answers_outcome u ms last)

-- A response that is no error answers the last piece.
all_go : (u : UploadValue) (ms : List Content) (last : Content) → AreAnswers u ms last → class_of last ≡ 2 → AllGo u ms
all_go u [] last h two = elim h.last_or_error [ inl e ↦ e | inr ne ↦ absurd (ne two) ]
all_go u (m ∷ ms) last h two = (h.0, all_go (next_of u m) ms last h.1 two)

pub succeeds : UploadsSucceed
succeeds body szx ms last short lt e two =
    uploads body szx ms short lt (all_go (begun (length body) szx) ms last (outcome_answers (begun (length body) szx) ms last e) two)
