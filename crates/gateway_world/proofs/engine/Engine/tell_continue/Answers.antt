-- The client is told to go on, or memory is refused for that and it is given up.
use Rattle.std.proofs.Common.{ℕ, List, [], ◌∷◌, ◌++◌, None, inl, inr, refl, ap, ◌∙◌}
use Rattle.gateway_connections.specs.Inlets.{Inlet}
use Rattle.gateway_connections.specs.Reads.{Continues}
use Rattle.gateway_model.specs.Emissions.{Says, emissions}
use Rattle.gateway_model.proofs.CallerLemmas.{open-conn}
use Rattle.gateway_world.proofs.Acting.{gives-up-out, goes-on-lead, rests-lead, serves-lead, then-ok}
use Rattle.gateway_world.proofs.Quiet.{closed-waits}
use Rattle.gateway_world.proofs.ReadingOn.{read-told, without-read}
use Rattle.gateway_world.proofs.engine.Engine.tell_continue.Goals as goal

pub returns-in-Ok-clause-leads : goal.returns-in-Ok-clause-leads
returns-in-Ok-clause-leads g c = λ xs reads.
    let read = record c.args.self.now { table = record c.args.self.now.table { current = xs } } in
    then-ok c.tell_bytes.result _ _ c.tell_bytes.ensures.told
    (λ told.
    serves-lead _ _ c.args.number read c.args.self.now c.args.self.now c.args.outputs.now.items c.tell_bytes.new.outputs.items
    c.tell_bytes.new.outputs.items
    (goes-on-lead _ _ c.args.number read c.args.self.now c.args.outputs.now.items c.tell_bytes.new.outputs.items reads refl
    (record { idle = c.requires.idle; told = c.requires.told })
    (told ∙ ap (λ (bs : List ℕ). emissions c.args.outputs.now.items ++ Says c.args.number bs ∷ []) c.in-Ok.ensures))
    (rests-lead _ _ c.args.number c.args.self.now c.args.self.now c.tell_bytes.new.outputs.items refl (inl refl)
    (inr (read-told c.args.number xs c.args.self.now.table.current reads))))

pub returns-in-Ok-clause-waits : goal.returns-in-Ok-clause-waits
returns-in-Ok-clause-waits g c =
    then-ok c.tell_bytes.result _ _ c.tell_bytes.ensures.told (λ told. record { untaken = refl; unsent = λ e. e })

pub returns-in-Err-clause-leads : goal.returns-in-Err-clause-leads
returns-in-Err-clause-leads g c = λ xs reads.
    then-ok c.give_up.result _ _ c.give_up.ensures.up
    (λ up.
    gives-up-out _ _ c.args.number c.args.self.now.core xs c.args.self.now c.give_up.new.self c.args.outputs.now.items
    c.give_up.new.outputs.items refl
    (without-read c.args.number Continues xs c.args.self.now.table.current reads (λ x y k. ap (λ (z : Inlet). z.number) k.left))
    c.requires.told up)

pub returns-in-Err-clause-waits : goal.returns-in-Err-clause-waits
returns-in-Err-clause-waits g c =
    then-ok c.give_up.result _ _ c.give_up.ensures.up
    (λ up. closed-waits _ c.args.number c.args.self.now.core c.give_up.new.self.core up.shuts.closed)

pub give_up-requires : goal.give_up-requires
give_up-requires g c = record { conn = open-conn c.args.number None c.args.self.now.core.state.conns c.requires.idle }
