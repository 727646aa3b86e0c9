-- The journals of a story, as a run has them.
use Rattle.std.proofs.Common.{List, [], ◌∷◌}
use Rattle.std.specs.List.{AllByRecursion}
use Rattle.journal_book.specs.Entries.{Written}
use Rattle.gateway_model.specs.Emissions.{Emission, Says, Goes, Closed, GivenUp, Turned, Rotated, Unrotated}
use Rattle.gateway_world.specs.Journals.{EachJournal, Part, gives_first, parts_of}
use Rattle.three_parties.proofs.Orders.{given_in}

module _ (P : List Written → Type 0) where
  all-first : (e : Emission) (ps : List Part) → AllByRecursion (λ (p : Part). P p.journal) ps → AllByRecursion (λ (p : Part). P p.journal) (gives_first e ps)
  all-first e [] h = tt
  all-first e (p ∷ ps) h = h

  -- each that was given out, and the last
  pub each-journal : (out : List Emission) (last : List Written) → AllByRecursion P (given_in out) → P last → EachJournal P out last
  each-journal [] last h l = (l, tt)
  each-journal (Rotated g ∷ out) last h l = (h.0, each-journal out last h.1 l)
  each-journal (Says c x ∷ out) last h l = all-first (Says c x) (parts_of out last) (each-journal out last h l)
  each-journal (Goes d ∷ out) last h l = all-first (Goes d) (parts_of out last) (each-journal out last h l)
  each-journal (Closed c ∷ out) last h l = all-first (Closed c) (parts_of out last) (each-journal out last h l)
  each-journal (GivenUp c ∷ out) last h l = all-first (GivenUp c) (parts_of out last) (each-journal out last h l)
  each-journal (Turned ∷ out) last h l = all-first Turned (parts_of out last) (each-journal out last h l)
  each-journal (Unrotated fault ∷ out) last h l = all-first (Unrotated fault) (parts_of out last) (each-journal out last h l)
