-- Its number is above those of all rows.
use Rattle.std.proofs.Common.{◌≡◌, ◌<◌, ◌∙◌, ◌++◌, ◌∷◌, [], List, length, ℕ, true, false, sym, ap, subst, refl, arith}
use Rattle.std.specs.List.{All}
use Rattle.std.proofs.lemmas.List.Elements.{All-push}
use Rattle.gateway_connections.specs.declared.row.Row.{Row}
use Rattle.gateway_connections.specs.Inlets.{Inlet, IsSound, IsAbove}
use Rattle.gateway_connections.specs.Rows.{AreInOrder, IsNoted, IsWhole, noted, number_in}
use Rattle.gateway_connections.proofs.Keeping.{order-push, above-rows}
use Rattle.gateway_connections.proofs.Noting.{noted-push}
use Rattle.gateway_connections.proofs.table.Table.insert.Goals as goal

pub invariant_of-self : goal.invariant_of-self
invariant_of-self c =
    let rows = c.self.inside.rows.items in
    let y : Row = record { inbox = c.of.result; fresh = true; closed = false } in
    let is = c.of.ensures in
    let above = subst (λ t. IsAbove c.args.number t) (sym c.self.view_is) c.requires.above in
    let same : number_in y ≡ c.args.number = ap (λ (x : Inlet). x.number) is.current in
    let all = subst (λ (m : ℕ). All (λ (r : Row). number_in r < m) rows) (sym same) (above-rows c.args.number rows c.self.invariant.1 above.current above.marked) in
    let whole : IsWhole y = record {
      current = is.sound;
      marked = subst IsSound (is.current ∙ sym is.marked) is.sound;
      number = ap (λ (x : Inlet). x.number) (is.marked ∙ sym is.current);
      stays = λ e. refl;
    } in
    let ok = c.self.inside.rows.ok.0 in
    let len = c.len.ensures in
    let last : c.len.result ≡ length rows = omega (arith, ok, len) in
    subst (λ (rs : List Row). AreInOrder rs × All IsWhole rs × IsNoted c.note.new.self rs) (sym c.push_reserved.ensures.items) (
      order-push rows y c.self.invariant.0 all,
      All-push IsWhole rows y c.self.invariant.1 whole,
      subst (λ m. IsNoted m (rows ++ y ∷ [])) (sym (c.note.ensures ∙ ap (λ (k : ℕ). noted k c.self.inside.changed) last)) (noted-push c.self.inside.changed rows y c.self.invariant.2 refl),
    )
