use Rattle.std.proofs.Common.{◌≡◌, List, Some, None, length, map, sym, ap, subst, ◌∙◌, arith}
use Rattle.std.proofs.lemmas.List.{length-map}
use Rattle.exchange_model.specs.declared.kept.Conn.{Conn}
use Rattle.exchange_model.specs.State.{pend}
use Rattle.exchange_core.specs.Places.{id_of}
use Rattle.exchange_table.specs.Places.{RiseBy}
use Rattle.exchange_core.proofs.Ordered.{rise-pend}
use Rattle.exchange_table.proofs.CallerLemmas.{put-back}
use Rattle.exchange_core.proofs.noting.note_conns.Goals as goal

pub returns-in-Asked-clause-ordered : goal.returns-in-Asked-clause-ordered
returns-in-Asked-clause-ordered g c =
    let old = c.args.conns.now.items in
    let new = c.set_pending.new.conns in
    let f = pend c.in-Asked.conn (Some c.args.number) in
    let is : new ≡ map f old = c.set_pending.ensures ∙ ap (map f) c.deref_mut.ensures.value in
    let len : c.args.conns.now.len ≡ length old = omega (arith, c.args.conns.now.ok.0) in
    subst (λ (cs : List Conn). RiseBy id_of cs) (sym (put-back new old c.args.conns.now.len (ap length is ∙ (length-map old f)) len ∙ is))
    (rise-pend c.in-Asked.conn (Some c.args.number) old c.requires.ordered)

pub returns-in-Answered-clause-ordered : goal.returns-in-Answered-clause-ordered
returns-in-Answered-clause-ordered g c =
    let old = c.args.conns.now.items in
    let new = c.set_pending-in-Answered.new.conns in
    let f = pend c.in-Answered.conn None in
    let is : new ≡ map f old = c.set_pending-in-Answered.ensures ∙ ap (map f) c.deref_mut-in-Answered.ensures.value in
    let len : c.args.conns.now.len ≡ length old = omega (arith, c.args.conns.now.ok.0) in
    subst (λ (cs : List Conn). RiseBy id_of cs) (sym (put-back new old c.args.conns.now.len (ap length is ∙ (length-map old f)) len ∙ is))
    (rise-pend c.in-Answered.conn None old c.requires.ordered)
