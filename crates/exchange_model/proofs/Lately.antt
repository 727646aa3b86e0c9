-- What is observed was asked for lately: since the last tick, or not long before it.
use Rattle.std.proofs.Common.{◌≡◌, ℕ, ◌+◌, ◌<◌, ◌≤◌, Bool, true, false, cond, eqb, not, List, [], ◌∷◌, length, Option, Some, None, option_map, refl, sym, ap, subst, ◌∙◌, arith, inl, inr}
use Rattle.history_laws.specs.Progress.{Reply}
use Rattle.std.specs.Prelude.{is_none}
use Rattle.std.specs.List.{AllByRecursion, list_all}
use Rattle.std.proofs.lemmas.Bool.{leb-false, lt-leb, not-true, or_parts, false≢true}
use Rattle.limits.specs.declared.TheConstants.{MAX_TRANSMIT_WAIT}
use Rattle.coap_codec.specs.Spelling.{Content}
use Rattle.uri_map.specs.declared.peer.Peer.{Peer}
use Rattle.ask_model.specs.Requests.{CoapRequest, Sense, Requests, Refuses}
use Rattle.journal_book.specs.Entries.{Deed, Asks, Hears, Passes}
use Rattle.observe_share.specs.declared.registration.Registration.{Registration}
use Rattle.observe_share.specs.declared.notice.Notice as Shared
use Rattle.observe_share.specs.declared.notice.Notice.TheVariants.{Update, Other}
use Rattle.observe_share.specs.Watches.{counted, counts_for, first_changed, in_place}
use Rattle.history_laws.specs.Readings.{Noted, Note, Begins, Joins, Says, Notice, Observation, Unobserved, Registers, Updates, Outdates, Cancels, noted, ticked, ticked_by, Renews, Starts, at, before}
use Rattle.history_laws.specs.Transmissions.{FirstSending, first_at}
use Rattle.history_laws.specs.Exchanges.{Begun, begun, begun_by, End, end_by, end_here, end_of, expires, Expired, is_late, Nothing, opens_by, replies, waits_for, kept as kept_of, heard_for}
use Rattle.history_laws.specs.Observing.{Watch, asked_again, asked_by, asked_last, asked_last_by, current_by, held_by, idles, is_current, is_for, is_under, notice_in, registered, registered_of, told_by, watches, watches_by, observes, unless_replied, wants_in, wants_by}
use Rattle.history_laws.specs.Justified.{is_asked_for, Legal}
use Rattle.history_laws.proofs.CallerLemmas.{all-filter, all-join, all-more, all-passes, at-newest, begun-opening, going-before, IsRegistering, none-some, open-exactly, registering, said, some-is, ticked-newest, at-old, at-same, eqb-itself}
use Rattle.exchange_model.proofs.Expiring.{awaited-open}
use Rattle.exchange_model.proofs.Lists.{all-map, all-pass}

-- An exchange was asked for when it was opened, or later.

since-step : (o n t since old : ℕ) (note : Note) → since ≤ old → since ≤ t → since ≤ asked_last_by o n t note old
since-step o n t since old (Begins q) first later = by (eqb n o)
  where
    by : (c : Bool) → since ≤ cond c t old
    by true = later
    by false = first
since-step o n t since old (Renews q s) first later = by (eqb n o)
  where
    by : (c : Bool) → since ≤ cond c t old
    by true = later
    by false = first
since-step o n t since old (Joins p) first later = by (eqb p o)
  where
    by : (c : Bool) → since ≤ cond c t old
    by true = later
    by false = first
since-step o n t since old note first later = first

since-asked : (l : List Noted) (o : ℕ) (x : Noted) (q : CoapRequest) → Legal l → at l o ≡ Some x → x.note ≡ Begins q → x.written.moment ≤ asked_last l o
since-asked [] o x q legal e note = absurd (none-some x e)
since-asked (y ∷ older) o x q legal e note = elim (at-old y older o x e) [
  | inl w ↦
      subst (λ (z : Noted). z.written.moment ≤ asked_last (y ∷ older) o) w.1
      (subst (λ (n : Note). y.written.moment ≤ asked_last_by o (length older) y.written.moment n (asked_last older o)) (sym (ap (λ (z : Noted). z.note) w.1 ∙ note))
      (rw (w.0, eqb-itself (length older)) (omega arith)))
  | inr old ↦
      let first = at-newest older o x legal.0 old in
      let later = legal.1 in
      since-step o (length older) y.written.moment x.written.moment (asked_last older o) y.note (since-asked older o x q legal.0 old note) (omega (arith, first, later))
]

-- One that asks to observe was opened by an ask.
record AskedFirst (l : List Noted) (o : ℕ) : Type 0 where
  pub entry : Noted
  pub request : CoapRequest
  pub stands : at l o ≡ Some entry
  pub note : entry.note ≡ Begins request

asked-first : (l : List Noted) (o : ℕ) → observes l o ≡ true → AskedFirst l o
asked-first l o e = of (at l o) refl (wanted (wants_in (before l o) (at l o)) (replies l o) e)
  where
    wanted : (b : Bool) (rs : List Reply) → unless_replied b rs ≡ true → b ≡ true
    wanted b [] f = f
    wanted b (r ∷ rs) f = absurd (false≢true f)

    noted-so : (older : List Noted) (d : Deed) (note : Note) → wants_by older d note ≡ true → (q : CoapRequest) × (note ≡ Begins q)
    noted-so older (Asks c a) (Begins q) f = (q, refl)
    noted-so older d note f = absurd (false≢true f)

    of : (v : Option Noted) → at l o ≡ v → wants_in (before l o) v ≡ true → AskedFirst l o
    of None is f = absurd (false≢true f)
    of (Some x) is f = let it = noted-so (before l o) x.written.deed x.note f in record { entry = x; request = it.0; stands = is; note = it.1 }

-- What is open was opened since the last tick, or is no older than it may be.

ends-late : (l : List Noted) (o t n : ℕ) (a : Bool) (old : Option End) → end_by (end_here (begun l o) (kept_of l o) n (heard_for l o) (cond a Expired Nothing)) n old ≡ None → a ≡ false
ends-late l o t n false old e = refl
ends-late l o t n true None e = absurd (none-some _ (sym e))
ends-late l o t n true (Some f) e = absurd (none-some _ (sym e))

unlate : (l : List Noted) (o t : ℕ) (v : Option ℕ) → expires l o t v ≡ false → is_late t (begun l o) ≡ false
unlate l o t None e = e
unlate l o t (Some i) e = (or_parts (is_late t (begun l o)) _ e).0

young-old : (l : List Noted) (o t : ℕ) (d : Deed) (note : Note) (b : Begun) → end_of (noted t d note ∷ l) o ≡ None → begun l o ≡ Some b
    → ticked l < b.since + MAX_TRANSMIT_WAIT → ticked_by t d (ticked l) < b.since + MAX_TRANSMIT_WAIT
young-old l o t Passes note b going is ih =
    let due = unlate l o t (waits_for l o) (ends-late l o t (length l) (expires l o t (waits_for l o)) (end_of l o) going) in
    leb-false (b.since + MAX_TRANSMIT_WAIT) t (subst (λ (v : Option Begun). is_late t v ≡ false) is due)
young-old l o t d note b going is ih = ih

young : (l : List Noted) (o : ℕ) (b : Begun) → Legal l → begun l o ≡ Some b → end_of l o ≡ None → ticked l < b.since + MAX_TRANSMIT_WAIT
young [] o b legal e going = absurd (none-some b e)
young (x ∷ older) o b legal e going =
    by (λ is. young-old older o x.written.moment x.written.deed x.note b going is (young older o b legal.0 is (going-before x older o (ap is_none going)).1))
    (opens_by x.note) (eqb (length older) o) e
  where
    by : (begun older o ≡ Some b → ticked (x ∷ older) < b.since + MAX_TRANSMIT_WAIT) → (v : Option CoapRequest) (c : Bool) → begun_by v c x.written.moment (begun older o) ≡ Some b → ticked (x ∷ older) < b.since + MAX_TRANSMIT_WAIT
    by old None c e = old e
    by old (Some q) false e = old e
    by old (Some q) true e =
        let same = ap (λ (f : Begun). f.since) (some-is _ b e) in
        let last = ticked-newest (x ∷ older) legal in
        omega (arith, same, last)

-- So is what it registers.

abbrev IsAsked : ℕ → Watch → Type 0
IsAsked tick w = tick < w.held.asked + 120000

all-changed : (tick : ℕ) (q : Watch → Bool) (f : Watch → Option Watch) → ((v x : Watch) → f v ≡ Some x → x.held.asked ≡ v.held.asked) → (ws : List Watch)
    → AllByRecursion (IsAsked tick) ws → AllByRecursion (IsAsked tick) (first_changed q f ws)
all-changed tick q f same [] a = tt
all-changed tick q f same (v ∷ ws) a = by (q v) (all-changed tick q f same ws a.1)
  where
    placed : (o : Option Watch) → f v ≡ o → AllByRecursion (IsAsked tick) (in_place o ws)
    placed None e = a.1
    placed (Some x) e = (rw (same v x e) a.0, a.1)

    by : (b : Bool) → AllByRecursion (IsAsked tick) (first_changed q f ws) → AllByRecursion (IsAsked tick) (cond b (in_place (f v) ws) (v ∷ first_changed q f ws))
    by true ih = placed (f v) refl
    by false ih = (a.0, ih)

held-asked : (m : Content) (t : ℕ) (w x : Watch) → held_by m t w ≡ Some x → x.held.asked ≡ w.held.asked
held-asked m t w x e = by (notice_in m) (counts_for (notice_in m) t w.held) e
  where
    by : (n : Shared.Notice) (b : Bool) → option_map (λ (r : Registration). record w { held = r }) (cond b (counted n t w.held) (Some w.held)) ≡ Some x
        → x.held.asked ≡ w.held.asked
    by n false e = ap (λ (v : Watch). v.held.asked) (sym (some-is _ _ e))
    by (Update v) true e = ap (λ (v : Watch). v.held.asked) (sym (some-is _ _ e))
    by (Other v) true e = absurd (none-some x e)

told-asked : (l : List Noted) (t : ℕ) (p : Peer) (b : List ℕ) (m : Content) (i : ℕ) (notice : Notice) → Legal (noted t (Hears p b) (Says m (Some i) notice) ∷ l)
    → AllByRecursion (IsAsked (ticked l)) (watches l) → AllByRecursion (IsAsked (ticked l)) (told_by l t i m notice.observation (watches l))
told-asked l t p b m i notice legal a = by notice.observation refl
  where
    P : Watch → Type 0
    P = IsAsked (ticked l)

    changed : AllByRecursion P (first_changed (is_under m.token) (held_by m t) (watches l))
    changed = all-changed (ticked l) (is_under m.token) (held_by m t) (held-asked m t) (watches l) a

    lately : (r : IsRegistering l m i) → ticked l < asked_last l r.first.opening + 120000
    lately r =
        let going = ((open-exactly l r.first.opening).0 (awaited-open l r.first.opening i legal.0 r.waited)).1 in
        let first = young l r.first.opening r.exchange legal.0 r.opened going in
        let asked = asked-first l r.first.opening r.observing in
        let last = since-asked l r.first.opening asked.entry asked.request legal.0 asked.stands asked.note in
        let same = ap (λ (z : Noted). z.written.moment) (at-same l r.first.opening asked.entry _ asked.stands (begun-opening l r.first.opening r.exchange r.opened).2) in
        omega (arith, first, last, same)

    new : (r : IsRegistering l m i) → AllByRecursion P (registered l t i m (first_at l i))
    new r =
        subst (λ (f : Option FirstSending). AllByRecursion P (registered l t i m f)) (sym r.sent)
        (subst (λ (v : Option Begun). AllByRecursion P (registered_of l t i m r.first.opening v)) (sym r.opened) (lately r, tt))

    by : (o : Observation) → notice.observation ≡ o → AllByRecursion P (told_by l t i m o (watches l))
    by Unobserved e = a
    by Registers e = all-join P (watches l) (registered l t i m (first_at l i)) a (new (registering l t m i ((said l t p b m i notice legal.2).observation ∙ e)))
    by Updates e = changed
    by Outdates e = changed
    by (Starts ask request) e = changed
    by Cancels e = changed

asked-step : (l : List Noted) (t : ℕ) (d : Deed) (note : Note) → Legal (noted t d note ∷ l) → AllByRecursion (IsAsked (ticked l)) (watches l)
    → AllByRecursion (IsAsked (ticked_by t d (ticked l))) (watches_by l t d note (watches l))
asked-step l t (Asks c a) note legal all = by a.sense note
  where
    P : Watch → Type 0
    P = IsAsked (ticked l)

    again : (q : CoapRequest) (w : Watch) → P w → P (asked_again q t w)
    again q w h = touched (is_for q w)
      where
        now : ticked l < t + 120000
        now = let last = ticked-newest l legal.0 in let later = legal.1 in omega (arith, last, later)

        touched : (b : Bool) → P (cond b (record w { held = record w.held { asked = t } }) w)
        touched true = now
        touched false = h

    by : (s : Sense) (n : Note) → AllByRecursion P (asked_by t s n (watches l))
    by (Requests q) (Begins r) = all-filter P (λ (w : Watch). not (is_for q w)) (watches l) all
    by (Requests q) (Renews r s) = all-filter P (λ (w : Watch). not (is_for q w)) (watches l) all
    by (Requests q) n = all-map (asked_again q t) P (watches l) (all-more P (λ (w : Watch). P (asked_again q t w)) (again q) (watches l) all)
    by (Refuses cause status) n = all
asked-step l t (Hears p b) (Says m (Some i) notice) legal all = told-asked l t p b m i notice legal all
asked-step l t (Hears p b) note legal all = all
asked-step l t Passes note legal all =
    all-more (λ (w : Watch). not (idles t w) ≡ true) (IsAsked t) (λ w h. leb-false (w.held.asked + 120000) t (not-true (idles t w) h)) _
    (all-passes (λ (w : Watch). not (idles t w)) (watches l))
asked-step l t d note legal all = all

asked-current : (tick : ℕ) (l : List Noted) (d : Deed) (note : Note) (ws : List Watch) → AllByRecursion (IsAsked tick) ws → AllByRecursion (IsAsked tick) (current_by l d note ws)
asked-current tick l (Hears p b) (Says m to notice) ws a = all-filter (IsAsked tick) (is_current l) ws a
asked-current tick l Passes note ws a = all-filter (IsAsked tick) (is_current l) ws a
asked-current tick l d note ws a = a

pub watches-asked : (l : List Noted) → Legal l → AllByRecursion (λ (w : Watch). ticked l < w.held.asked + 120000) (watches l)
watches-asked [] legal = tt
watches-asked (x ∷ older) legal =
    asked-current (ticked (x ∷ older)) (x ∷ older) x.written.deed x.note _
    (asked-step older x.written.moment x.written.deed x.note legal (watches-asked older legal.0))

pub all-asked-for : (l : List Noted) → Legal l → list_all (is_asked_for l) (watches l) ≡ true
all-asked-for l legal =
    all-pass (is_asked_for l) (watches l)
    (all-more (IsAsked (ticked l)) (λ (w : Watch). is_asked_for l w ≡ true) (λ w h. ap not (lt-leb (w.held.asked + 120000) (ticked l) h)) (watches l) (watches-asked l legal))
