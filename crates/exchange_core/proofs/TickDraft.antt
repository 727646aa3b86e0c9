-- The tokens of the exchanges that end.
use Rattle.std.proofs.Common.{◌≡◌, ℕ, List, sym, ap, ◌∙◌}
use Rattle.message_layer.specs.Calls.{is_among}
use Rattle.exchange_model.specs.State.{State}
use Rattle.exchange_model.specs.Hearing.{is_gone}
use Rattle.exchange_model.specs.Entering.{gone_tokens}
use Rattle.exchange_model.proofs.CallerLemmas.{gone-tokens}

pub gone-is : (t : ℕ) (S : State) (gone : List (List ℕ)) → gone ≡ gone_tokens t S
    → is_among gone ≡ is_gone t S
gone-is t S gone e = ap is_among e ∙ sym (gone-tokens t S)
