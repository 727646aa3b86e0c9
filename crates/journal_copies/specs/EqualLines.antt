-- That such are compared as they are: the laws of their equality, which their type needs.
use Rattle.std.proofs.Common.{◌≡◌, Bool, true, false, ◌&&◌, List, ℕ, refl, sym, ap, ◌∙◌}
use Rattle.std.specs.Prelude.{IsTrue}
use Rattle.std.specs.Str.{bytes_eq}
use Rattle.std.specs.Cmp.{IsEquivalence}
use Rattle.std.proofs.lemmas.Bool.{false≢true}
use Rattle.std.proofs.lemmas.Slice.Eq.{bytes_eq-Decides}
use Rattle.uri_map.specs.declared.peer.Peer.{Peer}
use Rattle.uri_map.specs.Peers.{same_peer}
use Rattle.uri_map.proofs.CallerLemmas.{same_peer-itself, same_peer-same}
use Rattle.journal_copies.specs.declared.line.Line.{Line}
use Rattle.journal_copies.specs.Lines.{same_line, line_input}

and-true : (a b : Bool) → (a && b) ≡ true → (a ≡ true) × (b ≡ true)
and-true true b e = (refl, e)
and-true false b e = absurd (false≢true e)

pub line-same : (a b : Line) → same_line a b ≡ true → a ≡ b
line-same a b e =
    let both = and-true (same_peer a.peer b.peer) (bytes_eq a.token b.token) e in
    by a b (same_peer-same a.peer b.peer both.0) ((bytes_eq-Decides a.token b.token).0 both.1)
  where
    by : (x y : Line) → x.peer ≡ y.peer → x.token ≡ y.token → x ≡ y
    by x y p k =
        ap (λ (q : Peer). record { peer = q; token = x.token }) p
        ∙ ap (λ (i : List ℕ). record { peer = y.peer; token = i }) k

pub line-itself : (a : Line) → same_line a a ≡ true
line-itself a =
    let token : bytes_eq a.token a.token ≡ true = (bytes_eq-Decides a.token a.token).1 refl in
    rw (same_peer-itself a.peer, token) refl

symmetric : (a b : Line) → same_line a b ≡ same_line b a
symmetric a b = by (same_line a b) refl (same_line b a) refl
  where
    by : (c : Bool) → same_line a b ≡ c → (d : Bool) → same_line b a ≡ d → c ≡ d
    by true e true f = refl
    by true e false f =
        sym (sym f ∙ ap (λ (x : Line). same_line b x) (line-same a b e) ∙ line-itself b)
    by false e true f = sym e ∙ ap (λ (x : Line). same_line a x) (line-same b a f) ∙ line-itself a
    by false e false f = refl

pub same_line-equiv : IsEquivalence same_line
same_line-equiv = record {
  refl = line-itself;
  symm = symmetric;
  congr = λ x y z e. ap (λ (w : Line). same_line w z) (line-same x y e);
}

pub same_line-input : (x y : Line) → IsTrue (same_line x y) → line_input x ≡ line_input y
same_line-input x y e = ap line_input (line-same x y e)
