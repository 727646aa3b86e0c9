-- A peer of which nothing is copied has an empty link.
use Rattle.std.proofs.Common.{◌≡◌, ℕ, Bool, true, false, ◌&&◌, cond, List, [], ◌∷◌, length, Option, Some, None, refl, sym, ap, subst, ◌∙◌}
use Rattle.std.specs.Prelude.{◌||◌, filter, option_map, is_some}
use Rattle.std.specs.List.{list_any, find}
use Rattle.std.proofs.lemmas.Bool.{false≢true}
use Rattle.std.proofs.lemmas.List.Folds.{list_any-append}
use Rattle.std.proofs.lemmas.List.Sums.{length-filter}
use Rattle.uri_map.specs.declared.peer.Peer.{Peer}
use Rattle.uri_map.specs.Peers.{same_peer}
use Rattle.journal_book.specs.Entries.{Written}
use Rattle.journal_book.specs.Entries as D
use Rattle.message_layer.specs.Values.{empty_link}
use Rattle.history_laws.specs.Readings.{Noted, entries}
use Rattle.history_laws.specs.Transmissions.{FirstSending, firsts, last_sent, is_recent}
use Rattle.history_laws.specs.Hearing.{is_such, knows, recalls, heard_before, live_heard}
use Rattle.history_links.specs.Agrees.{Start, Agrees, WaitIn, CountUp, IsLast}
use Rattle.exchange_model.specs.Rotating.{is_of}
use Rattle.exchange_model.proofs.Shapes.{Copy, Sent, Aimed, Heard, Bare, copy_as}
use Rattle.exchange_model.proofs.Copies.{add_copy, copied, copy_in}
use Rattle.exchange_model.proofs.CopiedIdle.{none-awaited, none-expected, none-out, none-waits}

-- Who is known is of whom something is copied.

abbrev pub of_peer : Peer → List Written → Bool
of_peer p ws = list_any (λ (w : Written). is_of p w.deed) ws

or-swap : (a b c : Bool) → (a || (b || c)) ≡ (b || (a || c))
or-swap true true c = refl
or-swap true false c = refl
or-swap false b c = refl

or-comm : (a b : Bool) → (a || b) ≡ (b || (a || false))
or-comm true true = refl
or-comm true false = refl
or-comm false true = refl
or-comm false false = refl

-- of whom the copy tells
abbrev pub of_copy : Peer → Copy → Bool
of_copy p (Sent mark q b w m) = same_peer q p
of_copy p (Aimed q b w o m) = same_peer q p
of_copy p (Heard mark q b m a) = same_peer q p
of_copy p (Bare done) = false

-- It is a copy as there may be.
abbrev pub IsSound : Option Copy → Type 0
IsSound (Some (Bare (D.Sent p b w))) = ⊥
IsSound (Some (Bare (D.Heard p b))) = ⊥
IsSound c = Unit {0}

one-sent : (b : Bool) (f : FirstSending) (v : Option FirstSending) (any : Bool) → (is_some (cond b (Some f) v) || any) ≡ (b || (is_some v || any))
one-sent true f v any = refl
one-sent false f v any = refl

pub knows-copy : (p : Peer) (n s : ℕ) (c : Copy) (l : List Noted) → knows (copy_as n s c ∷ l) p ≡ (of_copy p c || knows l p)
knows-copy p n s (Sent mark q b w m) l = one-sent (same_peer q p) (record { number = length l; moment = s; opening = length l; peer = q; message = m }) (last_sent l p) (list_any (recalls p) l)
knows-copy p n s (Aimed q b w o m) l = one-sent (same_peer q p) (record { number = length l; moment = s; opening = o; peer = q; message = m }) (last_sent l p) (list_any (recalls p) l)
knows-copy p n s (Heard mark q b m a) l = or-swap (is_some (last_sent l p)) (same_peer q p) (list_any (recalls p) l)
knows-copy p n s (Bare (D.Asked c a)) l = refl
knows-copy p n s (Bare (D.Sent q b w)) l = refl
knows-copy p n s (Bare (D.Heard q b)) l = refl

of-deed : (p : Peer) (n s : ℕ) (c : Copy) → IsSound (Some c) → of_copy p c ≡ is_of p (copy_as n s c).written.deed
of-deed p n s (Sent mark q b w m) sound = refl
of-deed p n s (Aimed q b w o m) sound = refl
of-deed p n s (Heard mark q b m a) sound = refl
of-deed p n s (Bare (D.Asked c a)) sound = refl
of-deed p n s (Bare (D.Sent q b w)) sound = absurd sound
of-deed p n s (Bare (D.Heard q b)) sound = absurd sound

abbrev Known : Peer → List Noted → Type 0
Known p l = knows l p ≡ of_peer p (entries l)

known-add : (p : Peer) (n s : ℕ) (o : Option Copy) (l : List Noted) → IsSound o → Known p l → Known p (add_copy n s o l)
known-add p n s None l sound e = e
known-add p n s (Some c) l sound e =
    let d = (copy_as n s c).written.deed in
    knows-copy p n s c l
    ∙ (ap (λ (b : Bool). b || knows l p) (of-deed p n s c sound)
    ∙ (ap (λ (b : Bool). is_of p d || b) e
    ∙ (or-comm (is_of p d) (of_peer p (entries l))
    ∙ sym (list_any-append (λ (w : Written). is_of p w.deed) (entries l) ((copy_as n s c).written ∷ [])))))

-- Each copy is one as there may be.
abbrev pub AreSound : (ℕ → ℕ) → List ℕ → ℕ → List Noted → Type 0
AreSound f gs t [] = Unit {0}
AreSound f gs t (x ∷ older) = AreSound f gs t older × IsSound (copy_in f gs t (length older) x)

pub known-copied : (p : Peer) (f : ℕ → ℕ) (gs : List ℕ) (t : ℕ) (l : List Noted) → AreSound f gs t l → knows (copied f gs t l) p ≡ of_peer p (entries (copied f gs t l))
known-copied p f gs t [] sound = refl
known-copied p f gs t (x ∷ older) sound =
    known-add p (length older) x.written.moment (copy_in f gs t (length older) x) (copied f gs t older) sound.1 (known-copied p f gs t older sound.0)

-- What says nothing of a peer has no first sending to it, and nothing that it may repeat.

none-of : {X : Type 0} (v : Option X) → is_some v ≡ false → v ≡ None
none-of None e = refl
none-of (Some x) e = absurd (false≢true (sym e))

or-false : (a b : Bool) → (a || b) ≡ false → (a ≡ false) × (b ≡ false)
or-false true b e = absurd (false≢true (sym e))
or-false false b e = (refl, e)

none-to : (u : ℕ) (p : Peer) (fs : List FirstSending) → find (λ (f : FirstSending). same_peer f.peer p) fs ≡ None → filter (is_recent u p) fs ≡ []
none-to u p [] e = refl
none-to u p (f ∷ fs) e = by (same_peer f.peer p) refl (none-to u p fs) e
  where
    some : (v : FirstSending) → Some v ≡ None → ⊥
    some v h = cc

    by : (b : Bool) → same_peer f.peer p ≡ b → (find (λ (g : FirstSending). same_peer g.peer p) fs ≡ None → filter (is_recent u p) fs ≡ [])
        → cond b (Some f) (find (λ (g : FirstSending). same_peer g.peer p) fs) ≡ None → filter (is_recent u p) (f ∷ fs) ≡ []
    by true is ih h = absurd (some f h)
    by false is ih h = rw (is) (ih h)

and-none : (b : Bool) → (b && false) ≡ false
and-none true = refl
and-none false = refl

-- a test of those that may be repeated, and their number
abbrev Unheard : Peer → List Noted → Type 0
Unheard p l = ((u mid : ℕ) → heard_before l u p mid ≡ None) × ((u : ℕ) → live_heard l u p ≡ 0)

unheard-copy : (p : Peer) (n s : ℕ) (c : Copy) (l : List Noted) → of_copy p c ≡ false → Unheard p l → Unheard p (copy_as n s c ∷ l)
unheard-copy p n s (Sent mark q b w m) l e h = (h.0, h.1)
unheard-copy p n s (Aimed q b w o m) l e h = (h.0, h.1)
unheard-copy p n s (Heard mark q b m a) l e h =
    ((λ u mid. rw (e, and-none (is_such m.kind)) (h.0 u mid)), (λ u. rw (e, and-none (is_such m.kind)) (h.1 u)))
unheard-copy p n s (Bare (D.Asked c a)) l e h = (h.0, h.1)
unheard-copy p n s (Bare (D.Sent q b w)) l e h = (h.0, h.1)
unheard-copy p n s (Bare (D.Heard q b)) l e h = (h.0, h.1)

abbrev Silent : Peer → List Noted → Type 0
Silent p l = knows l p ≡ false → Unheard p l

silent-add : (p : Peer) (n s : ℕ) (o : Option Copy) (l : List Noted) → Silent p l → Silent p (add_copy n s o l)
silent-add p n s None l h = h
silent-add p n s (Some c) l h = λ e.
    let both = or-false _ _ (sym (knows-copy p n s c l) ∙ e) in
    unheard-copy p n s c l both.0 (h both.1)

silent-copied : (p : Peer) (f : ℕ → ℕ) (gs : List ℕ) (t : ℕ) (l : List Noted) → Silent p (copied f gs t l)
silent-copied p f gs t [] = λ e. ((λ u mid. refl), (λ u. refl))
silent-copied p f gs t (x ∷ older) =
    silent-add p (length older) x.written.moment (copy_in f gs t (length older) x) (copied f gs t older) (silent-copied p f gs t older)

none-any : (q : ℕ → Bool) (xs : List ℕ) → xs ≡ [] → false ≡ list_any q xs
none-any q xs e = sym (ap (list_any q) e)

-- So such a peer begins anew.
pub none-agrees : (after : Start) (f : ℕ → ℕ) (gs : List ℕ) (t : ℕ) (l : List Noted) (p : Peer) → knows (copied f gs t l) p ≡ false → Agrees after (copied f gs t l) p empty_link
none-agrees after f gs t l p e =
    let none = (or-false _ _ e).0 in
    let unsent : last_sent (copied f gs t l) p ≡ None = none-of (last_sent (copied f gs t l) p) none in
    let unheard = silent-copied p f gs t l e in
    record {
      turn = none-out f gs t l p;
      known = sym e;
      last = λ u from. subst (IsLast u p None) (sym unsent) tt;
      count_up = λ u from. subst CountUp (sym (none-to u p (firsts (copied f gs t l)) unsent)) tt;
      given = λ u from.
          sym (sym (length-filter (is_recent u p) (firsts (copied f gs t l))) ∙ ap (λ (fs : List FirstSending). length fs) (none-to u p (firsts (copied f gs t l)) unsent));
      waits = subst (λ (os : List ℕ). WaitIn after (copied f gs t l) os []) (sym (none-waits f gs t l p)) tt;
      awaits = λ token. none-expected f gs t l p token;
      acks = λ mid token. none-any _ _ (none-awaited f gs t l);
      heard = record {
        repeats = λ u mid from. sym (ap (option_map _) (unheard.0 u mid));
        live = λ u from. sym (unheard.1 u);
      };
    }
