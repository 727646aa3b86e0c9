use Rattle.std.proofs.Common.{sym, ap, ◌∙◌}
use Rattle.ask_model.specs.Sharing.{key_read}
use Rattle.history_laws.specs.Responses.{Response}
use Rattle.exchange_core.proofs.Listed.{short-at, stale-short}
use Rattle.exchange_core.proofs.wording.validating.Goals as goal

pub validate_request-requires : goal.validate_request-requires
validate_request-requires g c =
    let s = c.in-Some.stored in
    let short = stale-short (key_read c.args.mapped.now.sense) c.args.moment c.args.s.now.journal.entries c.args.s.now.store.pairs s c.requires.askable (sym c.in_ok-stored.ensures ∙ c.in-Some.is) in
    record {
      short = rw (c.as_slice.ensures) (short-at s.response.etag _ short (sym (ap (λ (w : Response). w.etag) c.response.ensures) ∙ c.in-Some-etag.is));
    }
