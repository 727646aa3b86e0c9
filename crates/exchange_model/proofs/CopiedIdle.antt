-- Copies begin nothing: none is outstanding, open, awaited or waits, no token is issued, and no
-- connection opened.
use Rattle.std.proofs.Common.{◌≡◌, ℕ, Bool, false, List, [], ◌∷◌, ◌++◌, length, Option, Some, None, map, refl, ap, ◌∙◌}
use Rattle.std.specs.Prelude.{filter, filter_map, option_and_then, ◌||◌}
use Rattle.std.specs.List.{list_any}
use Rattle.uri_map.specs.declared.peer.Peer.{Peer}
use Rattle.history_laws.specs.Readings.{Noted}
use Rattle.history_laws.specs.Hearing.{went_under}
use Rattle.history_laws.specs.Connections.{is_sealed, has_opened, opened}
use Rattle.history_laws.specs.Transmissions.{FirstSending, first_at, last_sent, transmission, outstanding, if_outstanding}
use Rattle.history_laws.specs.Exchanges.{openings, open_exchanges, awaited, waits_for, waiting, is_waiting, is_submitted_at, is_going, is_issued_at, issued, issued_by}
use Rattle.history_laws.specs.Observing.{watches, watched, sending_of}
use Rattle.history_links.specs.Agrees.{expects}
use Rattle.exchange_model.specs.Reads.{readers_of, conns_of, opens_in}
use Rattle.exchange_model.proofs.Shapes.{Copy, Sent, Aimed, Heard, Bare, copy_as}
use Rattle.exchange_model.proofs.Copies.{add_copy, copied, copy_in}

-- What no copy changes is as before the first.
abbrev SameWith : {A : Type 0} → (List Noted → A) → Type 0
SameWith g = (n s : ℕ) (c : Copy) (l : List Noted) → g (copy_as n s c ∷ l) ≡ g l

same-add : {A : Type 0} (g : List Noted → A) → SameWith g → (n s : ℕ) (o : Option Copy) (l : List Noted) → g (add_copy n s o l) ≡ g l
same-add g h n s None l = refl
same-add g h n s (Some c) l = h n s c l

module _ (f : ℕ → ℕ) (gs : List ℕ) where
  same-copied : {A : Type 0} (g : List Noted → A) → SameWith g → (t : ℕ) (l : List Noted) → g (copied f gs t l) ≡ g []
  same-copied g h t [] = refl
  same-copied g h t (x ∷ older) =
      same-add g h (length older) x.written.moment (copy_in f gs t (length older) x) (copied f gs t older) ∙ same-copied g h t older

  pub openings-copied : (t : ℕ) (l : List Noted) → openings (copied f gs t l) ≡ []
  openings-copied = same-copied openings by
    where
      by : SameWith openings
      by n s (Sent mark p b w m) l = refl
      by n s (Aimed p b w o m) l = refl
      by n s (Heard mark p b m a) l = refl
      by n s (Bare done) l = refl

  way-copied : (i t : ℕ) (l : List Noted) → transmission (copied f gs t l) i ≡ None
  way-copied i = same-copied (λ (l : List Noted). transmission l i) by
    where
      by : SameWith (λ (l : List Noted). transmission l i)
      by n s (Sent mark p b w m) l = refl
      by n s (Aimed p b w o m) l = refl
      by n s (Heard mark p b m a) l = refl
      by n s (Bare done) l = refl

  pub sealed-copied : (t : ℕ) (l : List Noted) → is_sealed (copied f gs t l) ≡ false
  sealed-copied = same-copied is_sealed by
    where
      by : SameWith is_sealed
      by n s (Sent mark p b w m) l = refl
      by n s (Aimed p b w o m) l = refl
      by n s (Heard mark p b m a) l = refl
      by n s (Bare done) l = refl

  pub unwatched : (t : ℕ) (l : List Noted) → watches (copied f gs t l) ≡ []
  unwatched = same-copied watches by
    where
      by : SameWith watches
      by n s (Sent mark p b w m) l = refl
      by n s (Aimed p b w o m) l = refl
      by n s (Heard mark p b m a) l = refl
      by n s (Bare done) l = refl

  pub has-copied : (t : ℕ) (l : List Noted) → has_opened (copied f gs t l) ≡ false
  has-copied = same-copied has_opened by
    where
      by : SameWith has_opened
      by n s (Sent mark p b w m) l = refl
      by n s (Aimed p b w o m) l = refl
      by n s (Heard mark p b m a) l = refl
      by n s (Bare done) l = refl

  pub opened-copied : (t : ℕ) (l : List Noted) → opened (copied f gs t l) ≡ 0
  opened-copied = same-copied opened by
    where
      by : SameWith opened
      by n s (Sent mark p b w m) l = refl
      by n s (Aimed p b w o m) l = refl
      by n s (Heard mark p b m a) l = refl
      by n s (Bare done) l = refl

  pub opens-copied : (t : ℕ) (l : List Noted) → opens_in (copied f gs t l) ≡ 0
  opens-copied = same-copied opens_in by
    where
      by : SameWith opens_in
      by n s (Sent mark p b w m) l = refl
      by n s (Aimed p b w o m) l = refl
      by n s (Heard mark p b m a) l = refl
      by n s (Bare done) l = refl

  pub conns-copied : (t : ℕ) (l : List Noted) → conns_of (copied f gs t l) ≡ []
  conns-copied = same-copied conns_of by
    where
      by : SameWith conns_of
      by n s (Sent mark p b w m) l = refl
      by n s (Aimed p b w o m) l = refl
      by n s (Heard mark p b m a) l = refl
      by n s (Bare done) l = refl

  pub readers-copied : (t : ℕ) (l : List Noted) → readers_of (copied f gs t l) ≡ []
  readers-copied = same-copied readers_of by
    where
      by : SameWith readers_of
      by n s (Sent mark p b w m) l = refl
      by n s (Aimed p b w o m) l = refl
      by n s (Heard mark p b m a) l = refl
      by n s (Bare done) l = refl

  -- Without openings nothing is open or awaited.

  pub none-open : (t : ℕ) (l : List Noted) → open_exchanges (copied f gs t l) ≡ []
  none-open t l = ap (filter (is_going (copied f gs t l))) (openings-copied t l)

  pub none-awaited : (t : ℕ) (l : List Noted) → awaited (copied f gs t l) ≡ []
  none-awaited t l = ap (filter_map (waits_for (copied f gs t l))) (openings-copied t l)

  pub none-out : (t : ℕ) (l : List Noted) (p : Peer) → outstanding (copied f gs t l) p ≡ None
  none-out t l p = by (last_sent (copied f gs t l) p)
    where
      by : (v : Option FirstSending) → option_and_then (if_outstanding (copied f gs t l)) v ≡ None
      by None = refl
      by (Some f) = rw (way-copied f.number t l) refl

-- Nothing waits, and no token is issued, where nothing is open.

abbrev Idle : List Noted → Type 0
Idle l = openings l ≡ []

idle-cons : (n s : ℕ) (c : Copy) (l : List Noted) → Idle l → Idle (copy_as n s c ∷ l)
idle-cons n s (Sent mark p b w m) l e = e
idle-cons n s (Aimed p b w o m) l e = e
idle-cons n s (Heard mark p b m a) l e = e
idle-cons n s (Bare done) l e = e

waits-cons : (p : Peer) (n s : ℕ) (c : Copy) (l : List Noted) → Idle l → waiting l p ≡ [] → waiting (copy_as n s c ∷ l) p ≡ []
waits-cons p n s c l idle e =
    let x = copy_as n s c ∷ l in
    ap (λ (old : List ℕ). filter (is_waiting x p) old ++ filter (is_submitted_at x p (length l)) (openings x)) e
    ∙ ap (filter (is_submitted_at x p (length l))) (idle-cons n s c l idle)

issued-cons : (n s : ℕ) (c : Copy) (l : List Noted) → Idle l → issued l ≡ 0 → issued (copy_as n s c ∷ l) ≡ 0
issued-cons n s c l idle e =
    let x = copy_as n s c ∷ l in
    ap (λ (os : List ℕ). issued_by (list_any (is_issued_at x (length l)) os) (issued l)) (idle-cons n s c l idle) ∙ e

abbrev IsQuiet : List Noted → Type 0
IsQuiet l = Idle l × ((p : Peer) → waiting l p ≡ []) × (issued l ≡ 0)

quiet-add : (n s : ℕ) (o : Option Copy) (l : List Noted) → IsQuiet l → IsQuiet (add_copy n s o l)
quiet-add n s None l h = h
quiet-add n s (Some c) l h = (idle-cons n s c l h.0, (λ p. waits-cons p n s c l h.0 (h.1 p)), issued-cons n s c l h.0 h.2)

module _ (f : ℕ → ℕ) (gs : List ℕ) where
  quiet-copied : (t : ℕ) (l : List Noted) → IsQuiet (copied f gs t l)
  quiet-copied t [] = (refl, (λ p. refl), refl)
  quiet-copied t (x ∷ older) =
      quiet-add (length older) x.written.moment (copy_in f gs t (length older) x) (copied f gs t older) (quiet-copied t older)

  pub none-waits : (t : ℕ) (l : List Noted) (p : Peer) → waiting (copied f gs t l) p ≡ []
  none-waits t l p = (quiet-copied t l).1 p

  pub none-issued : (t : ℕ) (l : List Noted) → issued (copied f gs t l) ≡ 0
  none-issued t l = (quiet-copied t l).2

  -- So no reply and no notification is expected.

  pub none-expected : (t : ℕ) (l : List Noted) (p : Peer) (token : List ℕ) → false ≡ expects (copied f gs t l) p token
  none-expected t l p token = by (awaited (copied f gs t l)) (watched (copied f gs t l)) (none-awaited f gs t l) (ap (map sending_of) (unwatched f gs t l))
    where
      under : ℕ → Bool
      under i = went_under p token (first_at (copied f gs t l) i)

      by : (is ws : List ℕ) → is ≡ [] → ws ≡ [] → false ≡ (list_any under is || list_any under ws)
      by [] [] a b = refl
      by (i ∷ is) ws a b = cc
      by [] (w ∷ ws) a b = cc
