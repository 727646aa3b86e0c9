-- The first sendings whose IDs are in use yet are all among the copies.
use Rattle.std.proofs.Common.{◌≡◌, ℕ, ◌+◌, ◌<◌, ◌≤◌, Bool, true, false, ◌&&◌, ◌%◌, cond, ltb, List, [], ◌∷◌, length, map, Option, Some, None, refl, sym, ap, subst, ◌∙◌, arith}
use Rattle.std.specs.Prelude.{filter}
use Rattle.std.specs.List.{find}
use Rattle.std.proofs.lemmas.Bool.{false≢true, ltb-true, lt-ltb}
use Rattle.std.proofs.lemmas.List.{length-map}
use Rattle.std.proofs.lemmas.List.Sums.{length-filter}
use Rattle.limits.specs.declared.TheConstants.{MESSAGE_ID_LIFETIME}
use Rattle.coap_codec.specs.Spelling.{Content}
use Rattle.uri_map.specs.declared.peer.Peer.{Peer}
use Rattle.uri_map.specs.Peers.{same_peer}
use Rattle.history_laws.specs.Readings.{Noted}
use Rattle.history_laws.specs.Transmissions.{FirstSending, firsts, last_sent, is_recent, mids_used}
use Rattle.history_links.specs.Agrees.{recent_to, HasMid, CountUp, IsLast}
use Rattle.history_links.proofs.CallerLemmas.{Falling, none-recent}
use Rattle.exchange_model.proofs.Shapes.{Kept, Sending, Hearing, Copy, kept_as, kept_of, copy_as, kept-copy, moment-copy, Fits, opening_as, first_as, firsts-as}
use Rattle.exchange_model.proofs.Copies.{add_copy, copied, copy_in, fits-in, kept_in}

-- what a first sending says but for its number and exchange
pub record View : Type 0 where
  pub moment : ℕ
  pub peer : Peer
  pub message : Content

abbrev pub view : FirstSending → View
view f = record { moment = f.moment; peer = f.peer; message = f.message }

abbrev pub views : List Noted → ℕ → Peer → List View
views l u p = map view (recent_to l u p)

abbrev pub recent_at : ℕ → Peer → ℕ → Peer → Bool
recent_at u p s q = same_peer q p && ltb u (s + MESSAGE_ID_LIFETIME)

abbrev pub view_as : ℕ → Peer → ℕ → Option Kept → List View → List View
view_as u p s (Some (Sending q b w m)) old =
    cond (recent_at u p s q) (record { moment = s; peer = q; message = m } ∷ old) old
view_as u p s _ old = old

views-first : (u : ℕ) (p : Peer) (n s o : ℕ) (k : Option Kept) (old : List FirstSending)
    → map view (filter (is_recent u p) (first_as n s o k old)) ≡ view_as u p s k (map view (filter (is_recent u p) old))
views-first u p n s o None old = refl
views-first u p n s o (Some (Hearing q b m a)) old = refl
views-first u p n s o (Some (Sending q b w m)) old = by (recent_at u p s q)
  where
    f : FirstSending
    f = record { number = n; moment = s; opening = o; peer = q; message = m }

    by : (b : Bool) → map view (cond b (f ∷ filter (is_recent u p) old) (filter (is_recent u p) old))
        ≡ cond b (record { moment = s; peer = q; message = m } ∷ map view (filter (is_recent u p) old)) (map view (filter (is_recent u p) old))
    by true = refl
    by false = refl

pub views-entry : (u : ℕ) (p : Peer) (x : Noted) (l : List Noted)
    → views (x ∷ l) u p ≡ view_as u p x.written.moment (kept_as x.written.deed x.note) (views l u p)
views-entry u p x l =
    ap (λ (fs : List FirstSending). map view (filter (is_recent u p) fs)) (firsts-as (length l) x.written.moment x.written.deed x.note (firsts l))
    ∙ views-first u p (length l) x.written.moment (opening_as (length l) x.note) (kept_as x.written.deed x.note) (firsts l)

views-copy : (u : ℕ) (p : Peer) (n s : ℕ) (c : Copy) (l : List Noted) → views (copy_as n s c ∷ l) u p ≡ view_as u p s (kept_of c) (views l u p)
views-copy u p n s c l =
    views-entry u p (copy_as n s c) l
    ∙ (ap (λ (v : ℕ). view_as u p v (kept_in (copy_as n s c)) (views l u p)) (moment-copy n s c)
    ∙ ap (λ (k : Option Kept). view_as u p s k (views l u p)) (kept-copy n s c))

-- What is in use later is kept.
used-kept : (t u s : ℕ) → t ≤ u → ltb u (s + MESSAGE_ID_LIFETIME) ≡ true → ltb t (s + MESSAGE_ID_LIFETIME) ≡ true
used-kept t u s later e = lt-ltb t (s + MESSAGE_ID_LIFETIME) (let h = ltb-true u (s + MESSAGE_ID_LIFETIME) e in omega (arith, h, later))

and-second : (a b : Bool) → (a && b) ≡ true → b ≡ true
and-second true b e = e
and-second false b e = absurd (false≢true e)

-- What isn't copied isn't in use later.
views-gone : (t u : ℕ) (p : Peer) (s : ℕ) (k : Option Kept) (old : List View) → t ≤ u → Fits t s None k → old ≡ view_as u p s k old
views-gone t u p s None old later fits = refl
views-gone t u p s (Some (Hearing q b m a)) old later fits = refl
views-gone t u p s (Some (Sending q b w m)) old later fits = none (recent_at u p s q) refl
  where
    none : (v : Bool) → recent_at u p s q ≡ v → old ≡ cond v (record { moment = s; peer = q; message = m } ∷ old) old
    none true e = absurd (false≢true (sym (fits (Sending q b w m) refl) ∙ used-kept t u s later (and-second (same_peer q p) _ e)))
    none false e = refl

views-add : (t u : ℕ) (p : Peer) (n s : ℕ) (o : Option Copy) (k : Option Kept) (l : List Noted) → t ≤ u → Fits t s o k
    → views (add_copy n s o l) u p ≡ view_as u p s k (views l u p)
views-add t u p n s None k l later fits = views-gone t u p s k (views l u p) later fits
views-add t u p n s (Some c) k l later fits = views-copy u p n s c l ∙ ap (λ (k : Option Kept). view_as u p s k (views l u p)) fits

module _ (f : ℕ → ℕ) (gs : List ℕ) where
  pub views-copied : (t u : ℕ) (p : Peer) (l : List Noted) → t ≤ u → views (copied f gs t l) u p ≡ views l u p
  views-copied t u p [] later = refl
  views-copied t u p (x ∷ older) later =
      views-add t u p (length older) x.written.moment (copy_in f gs t (length older) x) (kept_in x) (copied f gs t older) later (fits-in f gs t (length older) x)
      ∙ (ap (view_as u p x.written.moment (kept_in x)) (views-copied t u p older later)
      ∙ sym (views-entry u p x older))

-- So as many IDs are in use, they count up as before, and the last one is told.

module _ (f : ℕ → ℕ) (gs : List ℕ) where
  pub used-copied : (t u : ℕ) (p : Peer) (l : List Noted) → t ≤ u → mids_used (copied f gs t l) u p ≡ mids_used l u p
  used-copied t u p l later =
      counted (copied f gs t l) ∙ (ap (λ (vs : List View). length vs) (views-copied f gs t u p l later) ∙ sym (counted l))
    where
      counted : (n : List Noted) → mids_used n u p ≡ length (views n u p)
      counted n = sym (length-filter (is_recent u p) (firsts n)) ∙ sym (length-map (recent_to n u p) view)

abbrev HasMidOf : ℕ → List View → Type 0
HasMidOf mid [] = Unit {0}
HasMidOf mid (f ∷ older) = mid ≡ (f.message.mid + 1) % 65536

abbrev UpBy : List View → Type 0
UpBy [] = Unit {0}
UpBy (f ∷ older) = (f.message.mid < 65536) × HasMidOf f.message.mid older × UpBy older

has-view : (mid : ℕ) (fs : List FirstSending) → HasMid mid fs → HasMidOf mid (map view fs)
has-view mid [] h = tt
has-view mid (f ∷ fs) h = h

view-has : (mid : ℕ) (fs : List FirstSending) → HasMidOf mid (map view fs) → HasMid mid fs
view-has mid [] h = tt
view-has mid (f ∷ fs) h = h

up-view : (fs : List FirstSending) → CountUp fs → UpBy (map view fs)
up-view [] h = tt
up-view (f ∷ fs) h = (h.0, has-view f.message.mid fs h.1, up-view fs h.2)

view-up : (fs : List FirstSending) → UpBy (map view fs) → CountUp fs
view-up [] h = tt
view-up (f ∷ fs) h = (h.0, view-has f.message.mid fs h.1, view-up fs h.2)

pub up-copied : (f : ℕ → ℕ) (gs : List ℕ) (t u : ℕ) (p : Peer) (l : List Noted) → t ≤ u → CountUp (recent_to l u p) → CountUp (recent_to (copied f gs t l) u p)
up-copied f gs t u p l later h = view-up (recent_to (copied f gs t l) u p) (subst UpBy (sym (views-copied f gs t u p l later)) (up-view (recent_to l u p) h))

-- the newest first sending to the peer, as far as its ID is in use

abbrev head_of : List View → Option View
head_of [] = None
head_of (f ∷ fs) = Some f

-- What heads those whose IDs are in use is what was sent last.
head-last : (u : ℕ) (p : Peer) (fs : List FirstSending) → Falling fs → (v : View) → head_of (map view (filter (is_recent u p) fs)) ≡ Some v
    → (f : FirstSending) × (find (λ (g : FirstSending). same_peer g.peer p) fs ≡ Some f) × (view f ≡ v) × (is_recent u p f ≡ true)
head-last u p [] falls v e = absurd cc
head-last u p (g ∷ fs) falls v e = by (same_peer g.peer p) refl (ltb u (g.moment + MESSAGE_ID_LIFETIME)) refl (head-last u p fs falls.1 v) e
  where
    same : (x y : View) → Some x ≡ Some y → x ≡ y
    same x y h = cc

    by : (a : Bool) → same_peer g.peer p ≡ a → (b : Bool) → ltb u (g.moment + MESSAGE_ID_LIFETIME) ≡ b
        → (head_of (map view (filter (is_recent u p) fs)) ≡ Some v
        → (f : FirstSending) × (find (λ (h : FirstSending). same_peer h.peer p) fs ≡ Some f) × (view f ≡ v) × (is_recent u p f ≡ true))
        → head_of (map view (filter (is_recent u p) (g ∷ fs))) ≡ Some v
        → (f : FirstSending) × (find (λ (h : FirstSending). same_peer h.peer p) (g ∷ fs) ≡ Some f) × (view f ≡ v) × (is_recent u p f ≡ true)
    by true a true b ih e = (g, rw (a) refl, same (view g) v (rw (a, b) at e), rw (a, b) refl)
    by true a false b ih e =
        let none : filter (is_recent u p) (g ∷ fs) ≡ [] = rw (a, b) (none-recent u p g.moment fs b falls.0) in
        absurd (no-head v (sym (ap (λ (hs : List FirstSending). head_of (map view hs)) none) ∙ e))
      where
        no-head : (v : View) → None ≡ Some v → ⊥
        no-head v h = cc
    by false a b c ih e = let found = ih (rw (a) at e) in (found.0, rw (a) found.1, found.2, found.3)

-- What was sent last, where its ID is in use, heads those.
last-head : (u : ℕ) (p : Peer) (fs : List FirstSending) (f : FirstSending) → find (λ (g : FirstSending). same_peer g.peer p) fs ≡ Some f → is_recent u p f ≡ true
    → head_of (map view (filter (is_recent u p) fs)) ≡ Some (view f)
last-head u p [] f e recent = absurd cc
last-head u p (g ∷ fs) f e recent = by (same_peer g.peer p) refl (last-head u p fs f) e
  where
    same : (x y : FirstSending) → Some x ≡ Some y → x ≡ y
    same x y h = cc

    by : (a : Bool) → same_peer g.peer p ≡ a
        → (find (λ (h : FirstSending). same_peer h.peer p) fs ≡ Some f → is_recent u p f ≡ true → head_of (map view (filter (is_recent u p) fs)) ≡ Some (view f))
        → cond a (Some g) (find (λ (h : FirstSending). same_peer h.peer p) fs) ≡ Some f → head_of (map view (filter (is_recent u p) (g ∷ fs))) ≡ Some (view f)
    by true a ih e =
        let is = same g f e in
        let now : is_recent u p g ≡ true = subst (λ (h : FirstSending). is_recent u p h ≡ true) (sym is) recent in
        subst (λ (b : Bool). head_of (map view (cond b (g ∷ filter (is_recent u p) fs) (filter (is_recent u p) fs))) ≡ Some (view f)) (sym now) (ap (λ (h : FirstSending). Some (view h)) is)
    by false a ih e = rw (a) (ih e recent)

pub last-copied : (f : ℕ → ℕ) (gs : List ℕ) (t u : ℕ) (p : Peer) (l : List Noted) (mid : Option ℕ) → t ≤ u → Falling (firsts l)
    → IsLast u p mid (last_sent l p) → IsLast u p mid (last_sent (copied f gs t l) p)
last-copied f gs t u p l mid later falls h = by (last_sent (copied f gs t l) p) refl
  where
    by : (v : Option FirstSending) → last_sent (copied f gs t l) p ≡ v → IsLast u p mid v
    by None e = tt
    by (Some g) e = λ (recent : is_recent u p g ≡ true).
        let head = last-head u p (firsts (copied f gs t l)) g e recent in
        let old = head-last u p (firsts l) falls (view g) (ap head_of (sym (views-copied f gs t u p l later)) ∙ head) in
        let its : IsLast u p mid (Some old.0) = subst (IsLast u p mid) old.1 h in
        its old.3 ∙ ap (λ (v : View). Some v.message.mid) old.2
