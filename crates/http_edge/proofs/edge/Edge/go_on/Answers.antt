use Rattle.std.proofs.Common.{◌⊎◌, inl, refl, sym, ◌∙◌, None, ◌≡◌}
use Rattle.http_edge.specs.Reading.{IsRefused, HasNone}
use Rattle.http_edge.specs.Edges.{Stands, IsBegun, IsWholeIn, Waits, Leaves}
use Rattle.http_edge.proofs.Edging as law
use Rattle.http_edge.proofs.edge.Edge.go_on.Goals as goal

pub returns-in-Bad-clause-steps : goal.returns-in-Bad-clause-steps
returns-in-Bad-clause-steps c =
    λ text s.
    let filled : IsRefused text c.in-Bad.kind = rw c.in-Bad.is at (c.in_ok-fill.ensures.fills text s c.requires.begun) in
    (text, (filled, refl), inl (refl, refl))

pub returns-in-Whole-clause-steps : goal.returns-in-Whole-clause-steps
returns-in-Whole-clause-steps c =
    λ text s.
    let filled : IsBegun c.fill.new.self × IsWholeIn c.fill.new.self.begun c.fill.new.self.unread text = rw c.in-Whole.is at (c.in_ok-fill.ensures.fills text s c.requires.begun) in
    c.whole.ensures.steps text filled.0 filled.1

pub returns-in-Wait-clause-steps : goal.returns-in-Wait-clause-steps
returns-in-Wait-clause-steps c =
    λ text s.
    let filled : Stands c.fill.new.self text × (HasNone text ⊎ Waits text) × Leaves text c.fill.new.self.unread = rw c.in-Wait.is at (c.in_ok-fill.ensures.fills text s c.requires.begun) in
    ((filled.0.0, filled.0.1, λ e. (law.waits-begun c.fill.new.self.begun text (c.fill.ensures.begun c.requires.begun) filled.1, filled.2)), filled.1)

pub returns-in-Whole-clause-still_told : goal.returns-in-Whole-clause-still_told
returns-in-Whole-clause-still_told c = λ e.
    let none : c.whole.result ≡ None = cc in
    c.whole.ensures.told ∙ sym (c.whole.ensures.none none) ∙ c.fill.ensures.told
