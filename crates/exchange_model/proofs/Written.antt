-- The watches whose place a write changes are those that the state drops.
use Rattle.std.proofs.Common.{◌≡◌, ℕ, ◌<◌, Bool, true, false, cond, not, List, [], ◌∷◌, ◌++◌, length, map, Option, Some, None, option_map, refl, sym, ap, subst, ◌∙◌}
use Rattle.std.specs.Prelude.{filter}
use Rattle.std.specs.List.{AllByRecursion}
use Rattle.std.proofs.lemmas.List.Elements.{filter_agree}
use Rattle.coap_codec.specs.Spelling.{Content}
use Rattle.uri_map.specs.declared.peer.Peer.{Peer}
use Rattle.journal_book.specs.Entries.{Hears}
use Rattle.observe_share.specs.declared.registration.Registration.{Registration}
use Rattle.observe_share.specs.declared.notice.Notice.{Notice as Told}
use Rattle.observe_share.specs.declared.notice.Notice.TheVariants.{Update, Other}
use Rattle.observe_share.specs.Watches.{counted, counts_for, first_changed, in_place, without}
use Rattle.history_laws.specs.Readings.{Noted, Says, Observation, Unobserved, Registers, Updates, Outdates, Cancels, Notice, Starts}
use Rattle.history_laws.specs.Transmissions.{FirstSending, first_at}
use Rattle.history_laws.specs.Exchanges.{Begun}
use Rattle.history_laws.specs.Observing.{Watch, held_by, is_current, is_under, notice_in, registered, registered_of, told_by, watch_for, watches, watches_by}
use Rattle.history_laws.specs.Justified.{Follows, Legal}
use Rattle.history_laws.proofs.CallerLemmas.{all-more, all-push, begun-below, filter-by, IsRegistering, IsSaid, none-some, registering, said, some-is, WatchFits, watches-fit}
use Rattle.exchange_model.specs.declared.kept.Exchange.{Exchange}
use Rattle.exchange_model.specs.State.{State}
use Rattle.exchange_model.specs.Watching.{is_written_by}
use Rattle.exchange_model.specs.Reads.{held_of, Reads}
use Rattle.exchange_model.specs.Matters.{asked_in}
use Rattle.exchange_model.specs.Hearing.{is_written_late}
use Rattle.exchange_model.proofs.Outrun.{EndsThose}
use Rattle.exchange_model.proofs.Unwritten.{current-after, watches-current}
use Rattle.exchange_model.proofs.Watches.{map-filtered, or-no}

-- It was opened before, and is current.
pub record Standing (l : List Noted) (w : Watch) : Type 0 where
  pub current : is_current l w ≡ true
  pub below : w.held.opening < length l

standing-all : (l : List Noted) (ws : List Watch) → AllByRecursion (λ (w : Watch). is_current l w ≡ true) ws → AllByRecursion (WatchFits l) ws → AllByRecursion (Standing l) ws
standing-all l [] a b = tt
standing-all l (w ∷ ws) a b = (record { current = a.0; below = begun-below l w.held.opening b.0.exchange b.0.opened }, standing-all l ws a.1 b.1)

pub watches-stand : (l : List Noted) → Legal l → AllByRecursion (Standing l) (watches l)
watches-stand l legal = standing-all l (watches l) (watches-current l legal) (watches-fit l legal)

changed-all : (P : Watch → Type 0) (q : Watch → Bool) (f : Watch → Option Watch) → ((v x : Watch) → P v → f v ≡ Some x → P x) → (ws : List Watch)
    → AllByRecursion P ws → AllByRecursion P (first_changed q f ws)
changed-all P q f h [] a = tt
changed-all P q f h (v ∷ ws) a = by (q v) (changed-all P q f h ws a.1)
  where
    placed : (o : Option Watch) → f v ≡ o → AllByRecursion P (in_place o ws)
    placed None e = a.1
    placed (Some x) e = (h v x a.0 e, a.1)

    by : (b : Bool) → AllByRecursion P (first_changed q f ws) → AllByRecursion P (cond b (in_place (f v) ws) (v ∷ first_changed q f ws))
    by true ih = placed (f v) refl
    by false ih = (a.0, ih)

held-stands : (l : List Noted) (m : Content) (t : ℕ) (w x : Watch) → Standing l w → held_by m t w ≡ Some x → Standing l x
held-stands l m t w x h e = by (notice_in m) (counts_for (notice_in m) t w.held) e
  where
    by : (n : Told) (b : Bool) → option_map (λ (r : Registration). record w { held = r }) (cond b (counted n t w.held) (Some w.held)) ≡ Some x → Standing l x
    by n false e = subst (Standing l) (some-is _ _ e) (record { current = h.current; below = h.below })
    by (Update v) true e = subst (Standing l) (some-is _ _ e) (record { current = h.current; below = h.below })
    by (Other v) true e = absurd (none-some x e)

pub told-stand : (l : List Noted) (t : ℕ) (p : Peer) (b : List ℕ) (m : Content) (to : Option ℕ) (notice : Notice) → Legal l
    → Follows l t (Hears p b) (Says m to notice) → AllByRecursion (Standing l) (watches_by l t (Hears p b) (Says m to notice) (watches l))
told-stand l t p b m None notice legal follows = watches-stand l legal
told-stand l t p b m (Some i) notice legal follows = by notice.observation refl
  where
    is : IsSaid l t p m i notice
    is = said l t p b m i notice follows

    all : AllByRecursion (Standing l) (watches l)
    all = watches-stand l legal

    changed : AllByRecursion (Standing l) (first_changed (is_under m.token) (held_by m t) (watches l))
    changed = changed-all (Standing l) (is_under m.token) (held_by m t) (λ v x h e. held-stands l m t v x h e) (watches l) all

    new : (r : IsRegistering l m i) → AllByRecursion (Standing l) (watches l ++ registered l t i m (first_at l i))
    new r =
        subst (λ (f : Option FirstSending). AllByRecursion (Standing l) (watches l ++ registered l t i m f)) (sym r.sent)
        (subst (λ (v : Option Begun). AllByRecursion (Standing l) (watches l ++ registered_of l t i m r.first.opening v)) (sym r.opened)
        (all-push (Standing l) (watches l) (watch_for l t i m r.first.opening r.exchange) all
        (record { current = ap not r.current; below = begun-below l r.first.opening r.exchange r.opened })))

    by : (o : Observation) → notice.observation ≡ o → AllByRecursion (Standing l) (told_by l t i m o (watches l))
    by Unobserved e = all
    by Registers e = new (registering l t m i (is.observation ∙ e))
    by Updates e = changed
    by Outdates e = changed
    by (Starts ask request) e = changed
    by Cancels e = changed

-- What ends at an entry, and is a write to its place, ends it.
module _ (x : Noted) (l : List Noted) (S : State) (r : Reads l S) (over : List Exchange) (ends : EndsThose x l S over) (legal : Legal (x ∷ l)) where
  -- These are dropped.
  pub written-left : (ws : List Watch) → AllByRecursion (Standing l) ws
      → map held_of (filter (is_current (x ∷ l)) ws) ≡ without (is_written_late S.entries over) (map held_of ws)
  written-left ws all =
      ap (map held_of) (filter-by (is_current (x ∷ l)) (λ (w : Watch). not (is_written_late S.entries over w.held)) ws
      (all-more (Standing l) (λ (w : Watch). is_current (x ∷ l) w ≡ not (is_written_late S.entries over w.held))
      (λ w h. current-after x l S r legal over ends w h.below h.current) ws all))
      ∙ map-filtered held_of (λ (r : Registration). not (is_written_late S.entries over r)) ws

-- Where nothing ends, or one does, it is so.
pub none-dropped : (rs : List Registration) → without (λ (r : Registration). false) rs ≡ rs
none-dropped [] = refl
none-dropped (r ∷ rs) = ap (λ (ss : List Registration). r ∷ ss) (none-dropped rs)

pub one-written : (S : State) (e : Exchange) (rs : List Registration)
    → without (is_written_late S.entries (e ∷ [])) rs ≡ without (is_written_by (asked_in S.entries e.ask)) rs
one-written S e rs = filter_agree _ _ (λ r. ap not (or-no (is_written_by (asked_in S.entries e.ask) r))) rs
