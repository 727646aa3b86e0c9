-- The watches of a history have tokens of their own, under which no reply is awaited.
use Rattle.std.proofs.Common.{◌≡◌, ℕ, inl, inr, Bool, true, false, cond, not, ◌&&◌, ◌||◌, List, [], ◌∷◌, ◌++◌, map, Option, Some, None, option_map, refl, sym, ap, subst, ◌∙◌}
use Rattle.std.specs.Prelude.{filter}
use Rattle.std.specs.List.{AllByRecursion, Contains, list_any, filter_map}
use Rattle.std.specs.Str.{bytes_eq}
use Rattle.std.proofs.lemmas.Slice.Eq.{bytes_eq-Decides}
use Rattle.coap_codec.specs.Spelling.{Content}
use Rattle.uri_map.specs.declared.peer.Peer.{Peer}
use Rattle.uri_map.specs.Peers.{same_peer}
use Rattle.ask_model.specs.Requests.{CoapRequest, Sense, Requests, Refuses}
use Rattle.journal_book.specs.Entries.{Deed, Asks, Hears, Passes}
use Rattle.observe_share.specs.declared.registration.Registration.{Registration}
use Rattle.observe_share.specs.declared.notice.Notice.{Notice}
use Rattle.observe_share.specs.declared.notice.Notice.TheVariants.{Update, Other}
use Rattle.observe_share.specs.Watches.{counted, counts_for, first_changed, in_place}
use Rattle.history_laws.specs.Readings.{Noted, Note, Begins, Renews, Says, Observation, Unobserved, Registers, Updates, Outdates, Cancels, noted}
use Rattle.history_laws.specs.Readings as R
use Rattle.history_laws.specs.Transmissions.{FirstSending, first_at}
use Rattle.history_laws.specs.Exchanges.{Begun, openings, awaited, waits_for}
use Rattle.history_laws.specs.Observing.{Watch, asked_again, asked_by, current_by, held_by, idles, is_current, is_for, is_under, notice_in, registered, registered_of, sending_of, told_by, watch_for, watches, watches_by}
use Rattle.history_laws.specs.Hearing.{answers, went_under}
use Rattle.history_laws.specs.Justified.{Follows, Legal}
use Rattle.history_laws.proofs.CallerLemmas.{all-filter, all-more, contains-none, find-any, find-some, first-found, first-is, first-or-later, found, IsRegistering, IsSaid, none-some, not-rst, registering, said, some-is, waits-first, watch-unwaited, WatchFits, watches-fit}
use Rattle.history_links.specs.Agrees.{awaits, notified}
use Rattle.history_links.proofs.CallerLemmas.{one-token, token-found}
use Rattle.exchange_model.specs.Reads.{held_of}
use Rattle.exchange_model.proofs.Lists.{all-map}

-- the message under whose token notifications come to it
pub record IsUnder (l : List Noted) (w : Watch) : Type 0 where
  pub first : FirstSending
  pub is : first_at l w.sending ≡ Some first
  pub token : first.message.token ≡ w.held.token
  pub peer : first.peer ≡ w.held.key.place.peer
  pub opening : first.opening ≡ w.held.opening

pub under-of : (l : List Noted) (w : Watch) → WatchFits l w → IsUnder l w
under-of l w h = record {
  first = record {
    number = w.sending;
    moment = h.moment;
    opening = w.held.opening;
    peer = h.exchange.request.peer;
    message = _;
  };
  is = first-found l h.moment w.held.opening w.sending h.exchange.request.peer _ h.first;
  token = refl;
  peer = sym (ap (λ (k : _). k.place.peer) h.key);
  opening = refl;
}

-- notifications come from this peer under the token
abbrev pub comes_to : Peer → List ℕ → Registration → Bool
comes_to p token r = same_peer r.key.place.peer p && bytes_eq r.token token

went-held : (l : List Noted) (p : Peer) (token : List ℕ) (w : Watch) → WatchFits l w
    → went_under p token (first_at l w.sending) ≡ comes_to p token w.held
went-held l p token w h =
    let u = under-of l w h in
    ap (went_under p token) u.is
    ∙ (ap (λ (q : Peer). same_peer q p && bytes_eq u.first.message.token token) u.peer
    ∙ ap (λ (k : List ℕ). same_peer w.held.key.place.peer p && bytes_eq k token) u.token)

notified-by : (l : List Noted) (p : Peer) (token : List ℕ) (ws : List Watch) → AllByRecursion (WatchFits l) ws
    → list_any (λ (i : ℕ). went_under p token (first_at l i)) (map sending_of ws)
    ≡ list_any (comes_to p token) (map held_of ws)
notified-by l p token [] a = refl
notified-by l p token (w ∷ ws) a =
    ap (λ (b : Bool). b || list_any (λ (i : ℕ). went_under p token (first_at l i)) (map sending_of ws))
    (went-held l p token w a.0)
    ∙ ap (λ (b : Bool). comes_to p token w.held || b) (notified-by l p token ws a.1)

pub notified-tells : (l : List Noted) (p : Peer) (token : List ℕ) → Legal l
    → notified l p token ≡ list_any (comes_to p token) (map held_of (watches l))
notified-tells l p token legal = notified-by l p token (watches l) (watches-fit l legal)

-- No reply is awaited under the token of a watch.

abbrev pub listed : Option ℕ → List ℕ → List ℕ
listed None os = os
listed (Some j) os = j ∷ os

pub awaited-of : (l : List Noted) (os : List ℕ) (i : ℕ) → Contains (filter_map (waits_for l) os) i
    → (o : ℕ) × (waits_for l o ≡ Some i)
awaited-of l [] i h = absurd (contains-none i h)
awaited-of l (o ∷ os) i h = by (waits_for l o) refl (awaited-of l os i) h
  where
    by : (v : Option ℕ) → waits_for l o ≡ v → (Contains (filter_map (waits_for l) os) i → (o : ℕ) × (waits_for l o ≡ Some i))
        → Contains (listed v (filter_map (waits_for l) os)) i → (o : ℕ) × (waits_for l o ≡ Some i)
    by None e later has = later has
    by (Some j) e later has = elim (first-or-later j (filter_map (waits_for l) os) i has) [
      | inl same ↦ (o, e ∙ ap (λ (k : ℕ). Some k) same)
      | inr older ↦ later older
    ]

-- what awaits a reply under the token of a watch would be its own first message
pub unawaited-by : (l : List Noted) (w : Watch) (i o : ℕ) (p : Peer) → Legal l → WatchFits l w → waits_for l o ≡ Some i
    → went_under p w.held.token (first_at l i) ≡ true → ⊥
unawaited-by l w i o p legal fits waits went =
    let f = token-found p w.held.token (first_at l i) went in
    let u = under-of l w fits in
    let same : i ≡ w.sending = one-token l i w.sending f.0 u.first legal f.1 u.is (f.2 ∙ sym u.token) in
    let own = waits-first l o i waits in
    let is = first-is l own.0 o i own.1 own.2 f.0 own.3 f.1 in
    let both : f.0 ≡ u.first = some-is f.0 u.first (sym f.1 ∙ (ap (first_at l) same ∙ u.is)) in
    let opens : o ≡ w.held.opening =
    sym (ap (λ (g : FirstSending). g.opening) is) ∙ (ap (λ (g : FirstSending). g.opening) both ∙ u.opening) in
    watch-unwaited l w legal fits (ap (waits_for l) (sym opens) ∙ (waits ∙ ap (λ (k : ℕ). Some k) same))

pub watch-unawaited : (l : List Noted) (w : Watch) (p : Peer) → Legal l → WatchFits l w → awaits l p w.held.token ≡ false
watch-unawaited l w p legal fits = by (awaits l p w.held.token) refl
  where
    by : (b : Bool) → awaits l p w.held.token ≡ b → b ≡ false
    by false e = refl
    by true e =
        let one = find-any (λ (i : ℕ). went_under p w.held.token (first_at l i)) (awaited l) e in
        let it = find-some (λ (i : ℕ). went_under p w.held.token (first_at l i)) (awaited l) one.0 one.1 in
        let o = awaited-of l (openings l) one.0 it.0 in
        absurd (unawaited-by l w one.0 o.0 p legal fits o.1 it.1)

-- Each has a token of its own.
abbrev pub AreApart : List Registration → Type 0
AreApart [] = Unit {0}
AreApart (r ∷ rs) = AllByRecursion (λ (s : Registration). bytes_eq s.token r.token ≡ false) rs × AreApart rs

abbrev IsApart : Watch → Watch → Type 0
IsApart w v = bytes_eq v.held.token w.held.token ≡ false

abbrev Apart : List Watch → Type 0
Apart [] = Unit {0}
Apart (w ∷ ws) = AllByRecursion (IsApart w) ws × Apart ws

apart-filter : (q : Watch → Bool) (ws : List Watch) → Apart ws → Apart (filter q ws)
apart-filter q [] a = tt
apart-filter q (w ∷ ws) a = by (q w) (apart-filter q ws a.1)
  where
    by : (b : Bool) → Apart (filter q ws) → Apart (cond b (w ∷ filter q ws) (filter q ws))
    by true ih = (all-filter (IsApart w) q ws a.0, ih)
    by false ih = ih

-- A change leaves the tokens.
all-touched : (v w : Watch) (f : Watch → Watch) → ((w : Watch) → (f w).held.token ≡ w.held.token) → v.held.token ≡ w.held.token → (ws : List Watch)
    → AllByRecursion (IsApart w) ws → AllByRecursion (IsApart v) (map f ws)
all-touched v w f same e [] a = tt
all-touched v w f same e (x ∷ ws) a = (rw (same x, e) a.0, all-touched v w f same e ws a.1)

apart-touched : (f : Watch → Watch) → ((w : Watch) → (f w).held.token ≡ w.held.token) → (ws : List Watch) → Apart ws → Apart (map f ws)
apart-touched f same [] a = tt
apart-touched f same (w ∷ ws) a = (all-touched (f w) w f same (same w) ws a.0, apart-touched f same ws a.1)

all-told : (w : Watch) (q : Watch → Bool) (f : Watch → Option Watch) → ((v x : Watch) → f v ≡ Some x → x.held.token ≡ v.held.token) → (ws : List Watch)
    → AllByRecursion (IsApart w) ws → AllByRecursion (IsApart w) (first_changed q f ws)
all-told w q f same [] a = tt
all-told w q f same (v ∷ ws) a = by (q v) (all-told w q f same ws a.1)
  where
    placed : (o : Option Watch) → f v ≡ o → AllByRecursion (IsApart w) (in_place o ws)
    placed None e = a.1
    placed (Some x) e = (rw (same v x e) a.0, a.1)

    by : (b : Bool) → AllByRecursion (IsApart w) (first_changed q f ws) → AllByRecursion (IsApart w) (cond b (in_place (f v) ws) (v ∷ first_changed q f ws))
    by true ih = placed (f v) refl
    by false ih = (a.0, ih)

apart-told : (q : Watch → Bool) (f : Watch → Option Watch) → ((v x : Watch) → f v ≡ Some x → x.held.token ≡ v.held.token) → (ws : List Watch)
    → Apart ws → Apart (first_changed q f ws)
apart-told q f same [] a = tt
apart-told q f same (v ∷ ws) a = by (q v) (apart-told q f same ws a.1)
  where
    placed : (o : Option Watch) → f v ≡ o → Apart (in_place o ws)
    placed None e = a.1
    placed (Some x) e = (all-more (IsApart v) (IsApart x) (λ y h. rw (same v x e) h) ws a.0, a.1)

    by : (b : Bool) → Apart (first_changed q f ws) → Apart (cond b (in_place (f v) ws) (v ∷ first_changed q f ws))
    by true ih = placed (f v) refl
    by false ih = (all-told v q f same ws a.0, ih)

all-last : (w v : Watch) (ws : List Watch) → AllByRecursion (IsApart w) ws → IsApart w v → AllByRecursion (IsApart w) (ws ++ v ∷ [])
all-last w v [] a h = (h, tt)
all-last w v (x ∷ ws) a h = (a.0, all-last w v ws a.1 h)

apart-last : (v : Watch) (ws : List Watch) → Apart ws → AllByRecursion (λ (w : Watch). IsApart w v) ws → Apart (ws ++ v ∷ [])
apart-last v [] a h = (tt, tt)
apart-last v (w ∷ ws) a h = (all-last w v ws a.0 h.0, apart-last v ws a.1 h.1)

again-token : (q : CoapRequest) (t : ℕ) (w : Watch) → (asked_again q t w).held.token ≡ w.held.token
again-token q t w = by (is_for q w)
  where
    by : (b : Bool) → (cond b (record w { held = record w.held { asked = t } }) w).held.token ≡ w.held.token
    by true = refl
    by false = refl

held-token : (m : Content) (t : ℕ) (w x : Watch) → held_by m t w ≡ Some x → x.held.token ≡ w.held.token
held-token m t w x e = by (notice_in m) (counts_for (notice_in m) t w.held) e
  where
    by : (n : Notice) (b : Bool) → option_map (λ (r : Registration). record w { held = r }) (cond b (counted n t w.held) (Some w.held)) ≡ Some x
        → x.held.token ≡ w.held.token
    by n false e = ap (λ (v : Watch). v.held.token) (sym (some-is _ _ e))
    by (Update v) true e = ap (λ (v : Watch). v.held.token) (sym (some-is _ _ e))
    by (Other v) true e = absurd (none-some x e)

-- What is registered answers a message under a token of its own.
new-apart : (l : List Noted) (t : ℕ) (p : Peer) (m : Content) (i : ℕ) → Legal l → answers l p m ≡ Some i → (it : IsRegistering l m i) → (w : Watch) → WatchFits l w
    → bytes_eq m.token w.held.token ≡ false
new-apart l t p m i legal to it w fits = by (bytes_eq m.token w.held.token) refl
  where
    by : (b : Bool) → bytes_eq m.token w.held.token ≡ b → b ≡ false
    by false e = refl
    by true e = absurd (never ((bytes_eq-Decides m.token w.held.token).0 e))
      where
        u : IsUnder l w
        u = under-of l w fits

        never : m.token ≡ w.held.token → ⊥
        never same =
            let own = waits-first l it.first.opening i it.waited in
            let is = first-is l own.0 it.first.opening i own.1 own.2 it.first own.3 it.sent in
            let there = found l p m i it.response (not-rst l p m i it.response to) to in
            let under : it.first.message.token ≡ m.token =
            ap (λ (g : FirstSending). g.message.token) (some-is it.first there.first (sym it.sent ∙ there.is)) ∙ there.token in
            let at_i : i ≡ w.sending = one-token l i w.sending it.first u.first legal it.sent u.is (under ∙ (same ∙ sym u.token)) in
            let both : it.first ≡ u.first = some-is it.first u.first (sym it.sent ∙ (ap (first_at l) at_i ∙ u.is)) in
            let opens : it.first.opening ≡ w.held.opening = ap (λ (g : FirstSending). g.opening) both ∙ u.opening in
            watch-unwaited l w legal fits (ap (waits_for l) (sym opens) ∙ (it.waited ∙ ap (λ (k : ℕ). Some k) at_i))

told-apart : (l : List Noted) (t : ℕ) (p : Peer) (b : List ℕ) (m : Content) (i : ℕ) (notice : R.Notice) → Legal l
    → Follows l t (Hears p b) (Says m (Some i) notice) → Apart (watches l) → Apart (told_by l t i m notice.observation (watches l))
told-apart l t p b m i notice legal follows a = by notice.observation refl
  where
    is : IsSaid l t p m i notice
    is = said l t p b m i notice follows

    changed : Apart (first_changed (is_under m.token) (held_by m t) (watches l))
    changed = apart-told (is_under m.token) (held_by m t) (held-token m t) (watches l) a

    new : (r : IsRegistering l m i) → Apart (watches l ++ registered l t i m (first_at l i))
    new r =
        subst (λ (f : Option FirstSending). Apart (watches l ++ registered l t i m f)) (sym r.sent)
        (subst (λ (v : Option Begun). Apart (watches l ++ registered_of l t i m r.first.opening v)) (sym r.opened)
        (apart-last (watch_for l t i m r.first.opening r.exchange) (watches l) a
        (all-more (WatchFits l) (λ (w : Watch). IsApart w (watch_for l t i m r.first.opening r.exchange))
        (new-apart l t p m i legal is.to r) (watches l) (watches-fit l legal))))

    by : (o : Observation) → notice.observation ≡ o → Apart (told_by l t i m o (watches l))
    by Unobserved e = a
    by Registers e = new (registering l t m i (is.observation ∙ e))
    by Updates e = changed
    by Outdates e = changed
    by (R.Starts ask request) e = changed
    by Cancels e = changed

apart-by : (l : List Noted) (t : ℕ) (d : Deed) (note : Note) → Legal l → Follows l t d note → Apart (watches l) → Apart (watches_by l t d note (watches l))
apart-by l t (Asks c a) note legal follows all = by a.sense note
  where
    by : (s : Sense) (n : Note) → Apart (asked_by t s n (watches l))
    by (Requests q) (Begins r) = apart-filter (λ (w : Watch). not (is_for q w)) (watches l) all
    by (Requests q) (Renews r s) = apart-filter (λ (w : Watch). not (is_for q w)) (watches l) all
    by (Requests q) n = apart-touched (asked_again q t) (again-token q t) (watches l) all
    by (Refuses cause status) n = all
apart-by l t (Hears p b) (Says m (Some i) notice) legal follows all = told-apart l t p b m i notice legal follows all
apart-by l t (Hears p b) note legal follows all = all
apart-by l t Passes note legal follows all = apart-filter (λ (w : Watch). not (idles t w)) (watches l) all
apart-by l t d note legal follows all = all

apart-current : (l : List Noted) (d : Deed) (note : Note) (ws : List Watch) → Apart ws → Apart (current_by l d note ws)
apart-current l (Hears p b) (Says m to notice) ws a = apart-filter (is_current l) ws a
apart-current l Passes note ws a = apart-filter (is_current l) ws a
apart-current l d note ws a = a

apart-watches : (l : List Noted) → Legal l → Apart (watches l)
apart-watches [] legal = tt
apart-watches (x ∷ older) legal =
    apart-current (x ∷ older) x.written.deed x.note _
    (apart-by older x.written.moment x.written.deed x.note legal.0 legal.2 (apart-watches older legal.0))

apart-held : (ws : List Watch) → Apart ws → AreApart (map held_of ws)
apart-held [] a = tt
apart-held (w ∷ ws) a = (all-map held_of (λ (r : Registration). bytes_eq r.token w.held.token ≡ false) ws a.0, apart-held ws a.1)

pub watches-apart : (l : List Noted) → Legal l → AreApart (map held_of (watches l))
watches-apart l legal = apart-held (watches l) (apart-watches l legal)
