use Rattle.std.proofs.Common.{ℕ, Option, List, map, sym, ap, subst, ◌∙◌, arith}
use Rattle.std.specs.Prelude.{filter, option_and_then, option_map}
use Rattle.std.specs.List.{AllByRecursion}
use Rattle.cache_key.specs.Digests.{digests_of}
use Rattle.cache_key.specs.Keys.{key_of}
use Rattle.ask_model.specs.Requests.{CoapRequest}
use Rattle.exchange_model.specs.Matters.{request_in}
use Rattle.exchange_table.specs.Asks.{IsAskedHere}
use Rattle.exchange_table.specs.declared.marks.Mark.{Mark}
use Rattle.exchange_table.specs.Marks.{has_digest, place_in}
use Rattle.exchange_table.specs.Outrunning.{outrun_with}
use Rattle.exchange_table.specs.Places.{RiseBy}
use Rattle.exchange_table.specs.Tables.{opening_of}
use Rattle.exchange_table.proofs.Among.{among, among-all, among-done, among-next, among-none, among-rise, outrun-others, outrun-settles}
use Rattle.exchange_table.proofs.Asks.{among-asks, here-map, outrun-asks}
use Rattle.exchange_table.proofs.Outrun.{left-one, none-outrun, read-outrun}
use Rattle.exchange_table.proofs.outrunning.outrun.Goals as goal

pub returns-in_default : goal.returns-in_default
returns-in_default g c = none-outrun c.args.journal.now.entries c.args.ended.now c.args.rows.now (sym c.asked.ensures ∙ ap (option_and_then _) c.in_default.is)

pub marked-alike-requires : goal.marked-alike-requires
marked-alike-requires g c = c.requires.placed.order

pub each-init : goal.each-init
each-init g c = sym (among-none (outrun_with (request_in c.in-Some.write.now.sense) c.args.journal.now.entries) c.args.rows.now)

pub outrun_at-requires-clause-ordered : goal.outrun_at-requires-clause-ordered
outrun_at-requires-clause-ordered g c =
    let f = outrun_with (request_in c.in-Some.write.now.sense) c.args.journal.now.entries in
    subst (RiseBy opening_of) (sym c.each.invariant)
    (among-rise f (outrun-settles (request_in c.in-Some.write.now.sense) c.args.journal.now.entries) _ c.args.rows.now c.requires.ordered)

pub outrun_at-requires-clause-here : goal.outrun_at-requires-clause-here
outrun_at-requires-clause-here g c =
    let j = c.args.journal.now in
    let f = outrun_with (request_in c.in-Some.write.now.sense) j.entries in
    subst (AllByRecursion (IsAskedHere j.given j.kept)) (sym c.each.invariant)
    (here-map j.given j.kept _ (among-asks _ f (outrun-asks (request_in c.in-Some.write.now.sense) j.entries)) c.args.rows.now c.requires.here)

pub each-preserved : goal.each-preserved
each-preserved g c =
    let none : Mark = record { digest = 0; opening = 0 } in
    among-next (outrun_with (request_in c.in-Some.write.now.sense) c.args.journal.now.entries) (outrun-settles (request_in c.in-Some.write.now.sense) c.args.journal.now.entries)
    c.marked-alike.result.now c.each.mark-index none c.args.rows.now c.each.rows c.outrun_at.new.rows c.each-test.true c.each.invariant c.outrun_at.ensures

pub returns : goal.returns
returns g c =
    let ws = c.args.journal.now.entries in
    let sense = c.in-Some.write.now.sense in
    let place = c.in-Some-writing.place in
    let key = key_of place.peer place.target.now place.accept in
    let f = outrun_with (request_in sense) ws in
    let old = c.args.rows.now in
    let test = c.each-test.false in
    among-done f c.marked-alike.result.now c.each.mark-index old c.each.rows (omega (arith, test)) c.each.invariant
    ∙ ap (λ (ms : List Mark). map (among ms f) old) (c.marked-alike.ensures ∙ ap (λ (d : ℕ). filter (has_digest d) c.args.places.now) c.place_digest.ensures)
    ∙ among-all place_in (place_in (digests_of key)) f old c.args.places.now c.requires.placed
    (outrun-others ws sense key old (sym (ap (option_map _) c.in-Some-writing.is) ∙ c.writing.ensures) c.requires.digested)
    ∙ ap (λ (w : Option CoapRequest). map (outrun_with w ws) old) (sym (ap (option_and_then _) c.in-Some.is) ∙ c.asked.ensures)
    ∙ sym (left-one ws c.args.ended.now old)

pub returns-in_default-writing : goal.returns-in_default-writing
returns-in_default-writing g c =
    read-outrun c.args.journal.now.entries c.args.ended.now c.args.rows.now c.in-Some.write.now.sense
    (sym (ap (option_and_then _) c.in-Some.is) ∙ c.asked.ensures) (sym c.writing.ensures ∙ ap (option_map _) c.in_default-writing.is)
