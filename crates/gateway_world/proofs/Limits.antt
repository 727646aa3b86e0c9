-- The table's count says when more bytes of a connection are too many.
use Rattle.std.proofs.Common.{◌≡◌, ◌⊎◌, inl, inr, ℕ, ◌+◌, ◌<◌, Bool, true, false, not, ◌&&◌, nat_lt, IsTrue, List, length, map, Option, Some, None, refl, sym, ap, subst, ◌∙◌}
use Rattle.std.specs.Prelude.{◌↔◌, option_map}
use Rattle.std.proofs.lemmas.Bool.{ltb-true, lt-ltb, both_ways}
use Rattle.history_laws.proofs.CallerLemmas.{none-some, some-is}
use Rattle.http_edge.specs.Edges.{LeavesBytes}
use Rattle.http_edge.proofs.Leftovers.{left_is_one}
use Rattle.exchange_model.specs.Resting.{HasConn}
use Rattle.exchange_core.specs.Values.{CoreValue}
use Rattle.gateway_connections.specs.Inlets.{Inlet, inlet_at, unread_in, is_full_in, is_full_at}
use Rattle.gateway_model.specs.Acts.{Served}
use Rattle.gateway_model.specs.Backlog.{WaitUnread, PassesLimit}
use Rattle.gateway_model.specs.Resting.{AwaitsAnswer, AwaitsBytes, AllRest}
use Rattle.gateway_model.specs.Unasked.{Unasked, unasked_of, unasked_in}
use Rattle.gateway_model.specs.Waiting.{conn_id}
use Rattle.gateway_model.proofs.CallerLemmas.{same-conn, StandOnce}
use Rattle.gateway_world.proofs.ReadingOn.{unasked-at, stands-at}

one-leaves : (text : List ℕ) (n m : ℕ) → LeavesBytes text n → LeavesBytes text m → n ≡ m
one-leaves text n m x y = x.2 ∙ ap length (left_is_one text x.0 y.0 x.1 y.1) ∙ sym y.2

module _ (c n : ℕ) (v : CoreValue) (xs : List Inlet) (once : StandOnce (map conn_id v.state.conns))
    (rest : AllRest (record { core = v; unasked = unasked_in xs })) where
  abbrev at_rest : Served
  at_rest = record { core = v; unasked = unasked_in xs }

  -- one that waits for no answer is read out
  read-out : (x : Inlet) → inlet_at c xs ≡ Some x → HasConn v.state.conns c None → LeavesBytes x.text x.unread
  read-out x e has = by (rest.rests c (unasked_of x) (stands-at c xs x e))
    where
      by : AwaitsAnswer c (record { core = v; unasked = unasked_in xs }) ⊎ AwaitsBytes (unasked_of x) → LeavesBytes x.text x.unread
      by (inl a) = absurd (none-some a.0 (same-conn c None (Some a.0) v.state.conns once has a.1))
      by (inr y) = y.counted

  counts : (reads : Bool) (x : Inlet) → inlet_at c xs ≡ Some x → (IsTrue reads ↔ HasConn v.state.conns c None)
      → WaitUnread c (unasked_of x) (record { core = v; unasked = unasked_in xs }) (unread_in reads x)
  counts true x e w = let has = w.0 refl in inr (has, read-out x e has)
  counts false x e w = inl ((λ has. (both_ways false refl (w.1 has))), refl)

  counted : (reads : Bool) (x : Inlet) (k : ℕ) → inlet_at c xs ≡ Some x → (IsTrue reads ↔ HasConn v.state.conns c None)
      → WaitUnread c (unasked_of x) (record { core = v; unasked = unasked_in xs }) k → unread_in reads x ≡ k
  counted true x k e w (inl h) = absurd (h.0 (w.0 refl))
  counted true x k e w (inr h) = one-leaves x.text x.unread k (read-out x e h.0) h.1
  counted false x k e w (inl h) = sym h.1
  counted false x k e w (inr h) = absurd (both_ways false refl (w.1 h.0))

  fills : (reads : Bool) (o : Option Inlet) → inlet_at c xs ≡ o → (IsTrue reads ↔ HasConn v.state.conns c None)
      → is_full_in reads n o ≡ true → PassesLimit c n (record { core = v; unasked = unasked_in xs })
  fills reads None e w full = absurd cc
  fills reads (Some x) e w full = by x.closing refl (nat_lt 1048576 (unread_in reads x + n)) refl full
    where
      by : (q : Bool) → x.closing ≡ q → (l : Bool) → nat_lt 1048576 (unread_in reads x + n) ≡ l → (not q && l) ≡ true
          → PassesLimit c n (record { core = v; unasked = unasked_in xs })
      by true t l lt f = absurd cc
      by false t false lt f = absurd cc
      by false t true lt f = record {
        waits = unasked_of x;
        stands = stands-at c xs x e;
        goes_on = t;
        unread = unread_in reads x;
        counts = counts reads x e w;
        many = ltb-true 1048576 (unread_in reads x + n) lt;
      }

  passes : (reads : Bool) (o : Option Inlet) → inlet_at c xs ≡ o → (IsTrue reads ↔ HasConn v.state.conns c None)
      → PassesLimit c n (record { core = v; unasked = unasked_in xs }) → is_full_in reads n o ≡ true
  passes reads None e w p = absurd (none-some p.waits (sym (unasked-at c xs ∙ ap (option_map unasked_of) e) ∙ p.stands))
  passes reads (Some x) e w p =
      let same : unasked_of x ≡ p.waits = some-is (unasked_of x) p.waits (sym (stands-at c xs x e) ∙ p.stands) in
      let stays : x.closing ≡ false = ap (λ (u : Unasked). u.closing) same ∙ p.goes_on in
      let is : unread_in reads x ≡ p.unread = counted reads x p.unread e w
      (subst (λ (u : Unasked). WaitUnread c u (record { core = v; unasked = unasked_in xs }) p.unread) (sym same) p.counts) in
      let lt : nat_lt 1048576 (unread_in reads x + n) ≡ true = lt-ltb 1048576 (unread_in reads x + n) (subst (λ (k : ℕ). 1048576 < k + n) (sym is) p.many) in
      rw (stays, lt) refl

  -- So the table's answer is right, where it is told whether the connection waits for an answer.
  pub limit-so : (reads full : Bool) → (IsTrue reads ↔ HasConn v.state.conns c None) → full ≡ is_full_at c reads n xs
      → IsTrue full ↔ PassesLimit c n (record { core = v; unasked = unasked_in xs })
  limit-so reads full w is = (
    (λ t. fills reads (inlet_at c xs) refl w (sym is ∙ t)),
    (λ p. is ∙ passes reads (inlet_at c xs) refl w p),
  )
