-- What is stored for a GET is one, where nothing renewed it since.
use Rattle.std.proofs.Common.{◌≡◌, ℕ, ◌+◌, ◌<◌, ◌≤◌, true, false, inl, inr, List, ◌∷◌, Option, Some, None, refl, sym, ap, subst, ◌∙◌, arith}
use Rattle.std.specs.Prelude.{is_some}
use Rattle.std.proofs.lemmas.Bool.{false≢true}
use Rattle.cache_key.specs.declared.place.Place.{Place}
use Rattle.ask_model.specs.Requests.{CoapRequest}
use Rattle.ask_model.specs.Sharing.{asked_place, asks_same}
use Rattle.resp_cache.specs.Stored.{Stored}
use Rattle.history_laws.specs.Responses.{Response}
use Rattle.history_laws.specs.Readings.{Noted, before}
use Rattle.history_laws.specs.Progress.{Reply, numbers, Whole}
use Rattle.history_laws.specs.Exchanges.{Begun, begun, End, end_of}
use Rattle.history_laws.specs.Joining.{outrun, asks_the_same, is_joinable}
use Rattle.history_laws.specs.Storing.{EndsSo, IsBrought, IsRenewal, IsStored, ComesSo, UpdatesSo}
use Rattle.history_laws.specs.Justified.{Legal}
use Rattle.history_laws.proofs.CallerLemmas.{at-below, begun-early, end-since, ends-first, ends-renewed, is-outrun, kept-before, legal-before, length-before, not-true, one-joinable, open-exactly, outran, outrun-since, renewal-shared, renews-for, shared-is, Shared, some-is, stored-since, never-both, one-update}
use Rattle.history_claims.proofs.Hands.{ends-after}

-- Of two exchanges that may answer a GET, both of which have ended, the one wasn't open at the end of the other.
pub joinable-so : (l : List Noted) (q : CoapRequest) (x : ℕ) (b : Begun) → begun l x ≡ Some b → asks_same q b.request ≡ true → outrun l (asked_place q) x ≡ false
    → is_joinable l q x ≡ true
joinable-so l q x b opened same fresh =
    let asks : asks_the_same q (begun l x) ≡ true = subst (λ (v : Option Begun). asks_the_same q v ≡ true) (sym opened) same in
    rw (asks, fresh) refl

pub still-fresh : (l : List Noted) (k x : ℕ) (place : Place) → outrun l place x ≡ false → outrun (before l k) place x ≡ false
still-fresh l k x place fresh = not-true (outrun (before l k) place x) (λ t. false≢true (sym fresh ∙ outrun-since l k place x t))

pub open-together : (l : List Noted) (q : CoapRequest) (x y : ℕ) (first second : End) → Legal l → Shared l q x → Shared l q y
    → end_of l x ≡ Some first → end_of l y ≡ Some second → first.number ≤ second.number → y < first.number → x ≡ y
open-together l q x y first second legal a b ended later le below =
    let e : ℕ = first.number in
    let start = ends-first l x e first.how ended in
    let size = at-below l e start.0 start.1 in
    let after = ends-after l x e first.how legal ended in
    one-joinable (before l e) q x y (legal-before l e legal)
    ((open-exactly (before l e) x).1 (ap is_some (begun-early l e x a.exchange size a.opened after), start.2))
    (joinable-so (before l e) q x a.exchange (begun-early l e x a.exchange size a.opened after) a.same (still-fresh l e x (asked_place q) a.fresh))
    ((open-exactly (before l e) y).1 (ap is_some (begun-early l e y b.exchange size b.opened below), going (end_of (before l e) y) refl))
    (joinable-so (before l e) q y b.exchange (begun-early l e y b.exchange size b.opened below) b.same (still-fresh l e y (asked_place q) b.fresh))
  where
    going : (f : Option End) → end_of (before l first.number) y ≡ f → end_of (before l first.number) y ≡ None
    going None is = is
    going (Some f) is =
        let it = ends-first (before l first.number) y f.number f.how is in
        let start = ends-first l x first.number first.how ended in
        let early = subst (λ (m : ℕ). f.number < m) (length-before l first.number start.0 start.1) (at-below (before l first.number) f.number it.0 it.1) in
        let same : f.number ≡ second.number = ap (λ (e : End). e.number) (some-is f second (sym (end-since l first.number y f is) ∙ later)) in
        absurd (omega (arith, early, same, le))

-- What is renewed was asked about after it was stored, so that no write outran that either.
pub renewal-current : (l : List Noted) (q : CoapRequest) (e : ℕ) → Legal l → (it : IsRenewal l q e) → Shared l q it.opening
renewal-current l q e legal it =
    let o : ℕ = it.opening in
    let b = renewal-shared l q o it.same in
    let keeps = kept-before l e o it.kept (ends-renewed l o e it.kept it.reply it.ended).turned.keeps in
    let for_it = renews-for l o b.0 it.kept legal b.1 keeps in
    let earlier = stored-since (o + 1) l o _ b.0.request for_it.stored (omega arith) legal for_it.stands for_it.is in
    let origin : it.kept.opening ≡ for_it.stored.opening = ap (λ (v : Stored). v.opening) for_it.pieces in
    record {
      exchange = b.0;
      opened = b.1;
      same = b.2;
      fresh = not-true (outrun l (asked_place q) o) (λ t.
          let h = outran l (asked_place q) o t in
          let later = h.later in
          false≢true (sym it.current
          ∙ is-outrun l (asked_place q) it.kept.opening (record {
            opening = h.opening;
            write = h.write;
            opened = h.opened;
            changes = h.changes;
            end = h.end;
            ended = h.ended;
            later = omega (arith, later, earlier, origin);
          })));
    }

-- So one response is stored for a GET.
same-whole : (l : List Noted) (q : CoapRequest) (x y e f : ℕ) (w v : Response) (rs ts : List Reply) → Legal l → is_joinable l q x ≡ true → is_joinable l q y ≡ true
    → e ≡ f → ComesSo l x e w rs → ComesSo l y f v ts → rs ≡ ts
same-whole l q x y e f w v rs ts legal may other is (inl a) (inl b) =
    let start = ends-after l y f _ legal b.ended in
    let same = open-together l q x y _ _ legal (shared-is l q x may) (shared-is l q y other) a.ended b.ended (omega (arith, is)) (omega (arith, start, is)) in
    let both : end_of l x ≡ Some (record { number = f; how = Whole v ts }) =
    subst (λ (o : ℕ). end_of l o ≡ Some (record { number = f; how = Whole v ts })) (sym same) b.ended in
    wholes (ap (λ (e : End). e.how) (some-is _ _ (sym a.ended ∙ both)))
  where
    wholes : Whole w rs ≡ Whole v ts → rs ≡ ts
    wholes e = cc
same-whole l q x y e f w v rs ts legal may other is (inl a) (inr b) =
    absurd (never-both l x y f w v rs ts legal (subst (λ (e : ℕ). EndsSo l x e w rs) is a) b)
same-whole l q x y e f w v rs ts legal may other is (inr a) (inl b) =
    absurd (never-both l y x f v w ts rs legal b (subst (λ (e : ℕ). UpdatesSo l x e w rs) is a))
same-whole l q x y e f w v rs ts legal may other is (inr a) (inr b) =
    (one-update l x y f w v rs ts (subst (λ (e : ℕ). UpdatesSo l x e w rs) is a) b).2

-- What nothing renewed since.
abbrev pub IsLatest : List Noted → CoapRequest → Stored → Type 0
IsLatest l q s = (is : IsBrought l q s) × ((e : ℕ) → IsRenewal l q e → e < is.ending)

pub stored-once : (l : List Noted) (q : CoapRequest) (s u : Stored) → Legal l → IsLatest l q s → IsStored l q u → s.list ≡ u.list
stored-once l q s u legal (a, last) (inr r) =
    let later = r.latest a.opening a.ending s.response a.first a.more a.comes a.shared a.newest in
    let sooner = last r.ending r.renewal in
    absurd (omega (arith, later, sooner))
stored-once l q s u legal (a, last) (inl (inr c)) = absurd (c.0.alone a.opening a.ending s.response a.first a.more a.comes a.shared a.newest)
stored-once l q s u legal (a, last) (inl (inl (b, none))) =
    let no-later = b.latest a.opening a.ending s.response a.first a.more a.comes a.shared a.newest in
    let no-sooner = a.latest b.opening b.ending u.response b.first b.more b.comes b.shared b.newest in
    let same = same-whole l q a.opening b.opening a.ending b.ending s.response u.response (a.first ∷ a.more) (b.first ∷ b.more) legal a.shared b.shared
    (omega (arith, no-later, no-sooner)) a.comes b.comes in
    a.list ∙ (ap numbers same ∙ sym b.list)
