-- That sources are compared as they are: the laws of their equality, which their type needs.
use Rattle.std.proofs.Common.{◌≡◌, Bool, true, false, ◌&&◌, ℕ, eqb, refl, sym, ap, ◌∙◌}
use Rattle.std.specs.Prelude.{IsTrue}
use Rattle.std.specs.Cmp.{IsEquivalence}
use Rattle.std.proofs.lemmas.Bool.{eqb-true, false≢true}
use Rattle.uri_map.specs.declared.peer.Peer.{Peer}
use Rattle.uri_map.specs.Peers.{same_peer}
use Rattle.uri_map.proofs.CallerLemmas.{same_peer-itself, same_peer-same}
use Rattle.history_laws.proofs.CallerLemmas.{eqb-itself}
use Rattle.journal_copies.specs.declared.source.Source.{Source}
use Rattle.journal_copies.specs.Sources.{same_source, source_input}

and-true : (a b : Bool) → (a && b) ≡ true → (a ≡ true) × (b ≡ true)
and-true true b e = (refl, e)
and-true false b e = absurd (false≢true e)

pub source-same : (a b : Source) → same_source a b ≡ true → a ≡ b
source-same a b e =
    let both = and-true (same_peer a.peer b.peer) (eqb a.mid b.mid) e in
    by a b (same_peer-same a.peer b.peer both.0) (eqb-true a.mid b.mid both.1)
  where
    by : (x y : Source) → x.peer ≡ y.peer → x.mid ≡ y.mid → x ≡ y
    by x y p m = ap (λ (q : Peer). record { peer = q; mid = x.mid }) p
        ∙ ap (λ (i : ℕ). record { peer = y.peer; mid = i }) m

pub source-itself : (a : Source) → same_source a a ≡ true
source-itself a = rw (same_peer-itself a.peer, eqb-itself a.mid) refl

symmetric : (a b : Source) → same_source a b ≡ same_source b a
symmetric a b = by (same_source a b) refl (same_source b a) refl
  where
    by : (c : Bool) → same_source a b ≡ c → (d : Bool) → same_source b a ≡ d → c ≡ d
    by true e true f = refl
    by true e false f =
        sym (sym f ∙ ap (λ (x : Source). same_source b x) (source-same a b e) ∙ source-itself b)
    by false e true f = sym e ∙ ap (λ (x : Source). same_source a x) (source-same b a f)
        ∙ source-itself a
    by false e false f = refl

pub same_source-equiv : IsEquivalence same_source
same_source-equiv = record {
  refl = source-itself;
  symm = symmetric;
  congr = λ x y z e. ap (λ (w : Source). same_source w z) (source-same x y e);
}

pub same_source-input : (x y : Source) → IsTrue (same_source x y) → source_input x ≡ source_input y
same_source-input x y e = ap source_input (source-same x y e)
