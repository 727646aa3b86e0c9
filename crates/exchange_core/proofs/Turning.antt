-- What a turn leaves, in the terms of its function.
use Rattle.std.proofs.Common.{◌≡◌, ◌⊎◌, ℕ, Bool, true, false, cond, not, inl, inr, List, [], map, Option, Some, None, Result, Ok, Err, refl, sym, ap, subst, ◌∙◌}
use Rattle.std.specs.Prelude.{filter, IfOk}
use Rattle.std.specs.List.{list_any}
use Rattle.uri_map.specs.declared.peer.Peer.{Peer}
use Rattle.uri_map.specs.Peers.{same_peer}
use Rattle.journal_book.specs.Entries.{Written}
use Rattle.journal_copies.specs.Copying.{peers_in}
use Rattle.journal_copies.proofs.CallerLemmas.{peers-of}
use Rattle.history_laws.specs.Justified.{Stands}
use Rattle.exchange_model.specs.Keeping.{Kept}
use Rattle.exchange_model.proofs.CallerLemmas.{kept-stands}
use Rattle.observe_share.specs.declared.registration.Registration.{Registration}
use Rattle.resp_cache.specs.declared.pair.Pair.{Pair}
use Rattle.exchange_model.specs.declared.kept.Conn.{Conn}
use Rattle.exchange_model.specs.declared.kept.Exchange.{Exchange}
use Rattle.exchange_model.specs.declared.kept.Piece.{Piece}
use Rattle.exchange_model.specs.declared.kept.Reader.{Reader}
use Rattle.exchange_model.specs.declared.kept.Stale.{Stale}
use Rattle.exchange_model.specs.State.{PeerLink, State}
use Rattle.exchange_model.specs.Rotating.{RotateFault, Crowded, are_few, copied_entries, copies, fault_of, has_copy, keep_peer, pair_at, rotated, rotated_by, taken, turned}
use Rattle.endpoint_table.specs.Keeping.{is_any, marked}
use Rattle.endpoint_table.proofs.CallerLemmas.{copies-kept}

pub state-turned : (t : ℕ) (S : State) (ws : List Written) (given : ℕ) (kept : List ℕ) (cs : List Conn) (es : List Exchange) (gs : List Piece) (qs : List Stale) (rs : List Reader) (us : List Registration) (ps : List Pair) (xs : List PeerLink)
    → ws ≡ copied_entries t S → given ≡ 0 → kept ≡ [] → cs ≡ [] → es ≡ [] → gs ≡ [] → qs ≡ [] → rs ≡ [] → us ≡ [] → ps ≡ map (pair_at ws) (taken t S)
    → xs ≡ filter (has_copy ws) (map (keep_peer t) S.links)
    → record { entries = ws; sealed = false; given = given; kept = kept; moment = t; opened = S.opened; issued = S.issued; conns = cs; exchanges = es; pieces = gs; stales = qs; readers = rs; watches = us; store = ps; links = xs }
    ≡ turned t S
state-turned t S ws given kept cs es gs qs rs us ps xs a m k b c g q r u p d = rw (d, p, a, m, k, b, c, g, q, r, u) refl

-- the links of the endpoints of which something is copied
pub links-kept : (t : ℕ) (ps : List Peer) (ws : List Written) (xs ys : List PeerLink) (ms : List Bool) → ps ≡ peers_in ws
    → ms ≡ map (is_any ps) xs → ys ≡ map (keep_peer t) (marked ms xs) → ys ≡ filter (has_copy ws) (map (keep_peer t) xs)
links-kept t ps ws xs ys ms peers marks kept =
    copies-kept t ps ws xs ys ms
    (λ (x : PeerLink). ap (λ (qs : List Peer). list_any (λ (q : Peer). same_peer q x.peer) qs) peers ∙ peers-of x.peer ws)
    marks kept

-- where nothing else stands against it, the copies decide
pub fit-few : (t : ℕ) (S : State) (ws : List Written) → fault_of t S ≡ cond (not (are_few (copies t S.entries))) (Some Crowded) None
    → ws ≡ copies t S.entries → are_few ws ≡ true → fault_of t S ≡ None
fit-few t S ws e same few = e ∙ ap (λ (b : Bool). cond (not b) (Some Crowded) None) (ap are_few (sym same) ∙ few)

pub too-many : (t : ℕ) (S : State) (ws : List Written) → fault_of t S ≡ cond (not (are_few (copies t S.entries))) (Some Crowded) None
    → ws ≡ copies t S.entries → are_few ws ≡ false → fault_of t S ≡ Some Crowded
too-many t S ws e same many = e ∙ ap (λ (b : Bool). cond (not b) (Some Crowded) None) (ap are_few (sym same) ∙ many)

-- it is one of these two
pub or-many : (t : ℕ) (S : State) → fault_of t S ≡ cond (not (are_few (copies t S.entries))) (Some Crowded) None
    → (fault_of t S ≡ None) ⊎ (fault_of t S ≡ Some Crowded)
or-many t S e = by (are_few (copies t S.entries)) refl
  where
    by : (b : Bool) → are_few (copies t S.entries) ≡ b → (fault_of t S ≡ None) ⊎ (fault_of t S ≡ Some Crowded)
    by true few = inl (fit-few t S (copies t S.entries) e refl few)
    by false many = inr (too-many t S (copies t S.entries) e refl many)

pub rotated-so : (t : ℕ) (S S1 : State) (given : List Written) → fault_of t S ≡ None → given ≡ S.entries → S1 ≡ turned t S
    → rotated t S ≡ Ok (given, S1)
rotated-so t S S1 given fit a b = ap (λ (f : Option RotateFault). rotated_by f t S) fit ∙ rw (a, b) refl

-- What is given out stood.
abbrev first_or : List Written → Result (List Written × State) RotateFault → List Written
first_or ws (Ok x) = x.0
first_or ws (Err e) = ws

pub stands-given : (t : ℕ) (S S1 : State) (given : List Written) → Kept S → rotated t S ≡ Ok (given, S1) → Stands given
stands-given t S S1 given k e = by (fault_of t S) e
  where
    by : (f : Option RotateFault) → rotated_by f t S ≡ Ok (given, S1) → Stands given
    by None e = subst Stands (ap (first_or S.entries) e) (kept-stands S k)
    by (Some fault) e = absurd cc

pub if-ok : {X E : Type 0} {P Q : X → Type 0} (r : Result X E) → ((x : X) → P x → Q x) → IfOk r P → IfOk r Q
if-ok (Ok x) f p = f x p
if-ok (Err e) f p = tt
