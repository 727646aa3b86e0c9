-- The watches of a history: each came of a reply to a GET that asked to observe, and they are 64 at most.
use Rattle.std.proofs.Common.{◌≡◌, ℕ, zero, ◌≤◌, Bool, true, false, cond, not, eqb, leb, inl, inr, List, [], ◌∷◌, ◌++◌, length, Option, Some, option_map, refl, sym, ap, subst, ◌∙◌, arith, length-append}
use Rattle.std.specs.List.{AllByRecursion, Contains}
use Rattle.std.proofs.lemmas.Bool.{false≢true, and_parts}
use Rattle.std.proofs.lemmas.Bool.Decides.{Decides-eqb}
use Rattle.std.proofs.lemmas.List.Elements.{Contains-append_left, Contains-append_right}
use Rattle.coap_codec.specs.declared.message.MsgType.{MsgType}
use Rattle.coap_codec.specs.declared.message.MsgType.TheVariants.{Con, Non, Ack, Rst}
use Rattle.coap_codec.specs.Spelling.{Content}
use Rattle.uri_map.specs.declared.peer.Peer.{Peer}
use Rattle.ask_model.specs.Requests.{CoapRequest, Sense, Requests, Refuses, Manner, Observing, observing_if, observe_message}
use Rattle.ask_model.specs.Sharing.{asked_key, is_get}
use Rattle.ask_model.specs.Views.{Ask}
use Rattle.resp_cache.specs.Stored.{Stored}
use Rattle.ask_model.specs.Observing.{is_named, may_observe}
use Rattle.journal_book.specs.Entries.{Deed, Asks, Hears, Passes}
use Rattle.observe_share.specs.declared.registration.Registration.{Registration}
use Rattle.observe_share.specs.declared.notice.Notice as Shared
use Rattle.observe_share.specs.declared.notice.Notice.TheVariants.{Update, Other}
use Rattle.observe_share.specs.Watches.{counted, counts_for, first_changed}
use Rattle.history_laws.specs.Readings.{Noted, Note, Begins, Renews, Says, Notice, Observation, Unobserved, Registers, Updates, Outdates, Starts, Cancels, noted, at, before}
use Rattle.history_laws.specs.Progress.{Reply, progress, next_message}
use Rattle.history_laws.specs.Transmissions.{FirstSending, first_at}
use Rattle.history_laws.specs.Exchanges.{Begun, begun, opens_by, Turn, Nothing, Sent, Replied, Rejected, Expired, turn, waits_for, replies_by, replies, begins_with, heard_for, answered_by}
use Rattle.history_laws.specs.Observing.{Watch, asked_again, asked_by, current_by, held_by, idles, is_current, is_for, is_under, manner, manner_by, notice_in, observes, tag_of, registered, registered_of, told_by, unless_replied, wants_in, watch_for, watches, watches_by}
use Rattle.history_laws.specs.Hearing.{answers, answers_by}
use Rattle.history_laws.specs.Justified.{Follows, Legal}
use Rattle.history_laws.specs.Laws.{IsFirst, IsObserved}
use Rattle.history_laws.proofs.Copying.{at-still, before-twice}
use Rattle.history_laws.proofs.Elements.{all-filter, all-more, all-of}
use Rattle.history_laws.proofs.Facts.{eqb-itself, IsFirst-keeps, legal-before, length-before}
use Rattle.history_laws.proofs.Kept.{at-kept}
use Rattle.history_laws.proofs.Firsts.{first-is}
use Rattle.history_laws.proofs.Members.{all-join}
use Rattle.history_laws.proofs.Beginnings.{begins-at}
use Rattle.history_laws.proofs.Quiet.{quiet-since, sends-next}
use Rattle.history_laws.proofs.Places.{at-below, at-keeps}
use Rattle.history_laws.proofs.Replies.{found, replies-fit}
use Rattle.history_laws.proofs.Resting.{none-some, some-is}
use Rattle.history_laws.proofs.Sent.{AskedFor, opened-for, begun-keeps, sent-for}
use Rattle.history_laws.proofs.Turns.{NotRst, waits-first}
use Rattle.history_laws.proofs.Registering.{all-changed, all-mapped, changed-few, filter-few, IsRegistering, IsSaid, map-len, registering, said}

-- what holds of each watch
pub record WatchFits (l : List Noted) (w : Watch) : Type 0 where
  pub exchange : Begun
  pub moment : ℕ
  pub mid : ℕ
  pub first : IsFirst l moment w.held.opening w.sending exchange.request.peer (observe_message exchange.request mid w.held.token)
  pub opened : begun l w.held.opening ≡ Some exchange
  pub for_it : AskedFor l w.held.opening exchange
  pub begins : for_it.note ≡ Begins exchange.request
  pub may : may_observe for_it.ask.rules exchange.request ≡ true
  pub key : w.held.key ≡ asked_key exchange.request
  pub reply : Reply
  pub replied : Contains (replies l w.held.opening) reply
  pub under : reply.sending ≡ w.sending

pub replies-keep : (x : Noted) (l : List Noted) (o : ℕ) (r : Reply) → Contains (replies l o) r → Contains (replies (x ∷ l) o) r
replies-keep x l o r h = by (turn l o x)
  where
    by : (u : Turn) → Contains (replies_by (length l) u (replies l o)) r
    by Nothing = h
    by (Sent i) = h
    by (Replied i m place) = Contains-append_left (replies l o) _ r h
    by Rejected = h
    by Expired = h

WatchFits-keeps : (x : Noted) (l : List Noted) (w : Watch) → WatchFits l w → WatchFits (x ∷ l) w
WatchFits-keeps x l w h = record {
  exchange = h.exchange;
  moment = h.moment;
  mid = h.mid;
  first = IsFirst-keeps x l h.moment w.held.opening w.sending h.exchange.request.peer _ h.first;
  opened = begun-keeps x l w.held.opening h.exchange h.opened;
  for_it = record {
    conn = h.for_it.conn;
    ask = h.for_it.ask;
    note = h.for_it.note;
    stands = at-keeps x l w.held.opening _ h.for_it.stands;
    opens = h.for_it.opens;
    sense = h.for_it.sense;
  };
  begins = h.begins;
  may = h.may;
  key = h.key;
  reply = h.reply;
  replied = replies-keep x l w.held.opening h.reply h.replied;
  under = h.under;
}

touched : (l : List Noted) (w : Watch) (t : ℕ) → WatchFits l w → WatchFits l (record w { held = record w.held { asked = t } })
touched l w t h = record {
  exchange = h.exchange;
  moment = h.moment;
  mid = h.mid;
  first = h.first;
  opened = h.opened;
  for_it = h.for_it;
  begins = h.begins;
  may = h.may;
  key = h.key;
  reply = h.reply;
  replied = h.replied;
  under = h.under;
}

renewed : (l : List Noted) (w : Watch) (v t : ℕ) → WatchFits l w → WatchFits l (record w { held = record w.held { version = v; moment = t } })
renewed l w v t h = record {
  exchange = h.exchange;
  moment = h.moment;
  mid = h.mid;
  first = h.first;
  opened = h.opened;
  for_it = h.for_it;
  begins = h.begins;
  may = h.may;
  key = h.key;
  reply = h.reply;
  replied = h.replied;
  under = h.under;
}

asked-fits : (l : List Noted) (q : CoapRequest) (t : ℕ) (w : Watch) → WatchFits l w → WatchFits l (asked_again q t w)
asked-fits l q t w h = by (is_for q w)
  where
    by : (b : Bool) → WatchFits l (cond b (record w { held = record w.held { asked = t } }) w)
    by true = touched l w t h
    by false = h

held-fits : (l : List Noted) (m : Content) (t : ℕ) (w y : Watch) → WatchFits l w → held_by m t w ≡ Some y → WatchFits l y
held-fits l m t w y h e = by (notice_in m) (counts_for (notice_in m) t w.held) e
  where
    by : (n : Shared.Notice) (b : Bool) → option_map (λ (r : Registration). record w { held = r }) (cond b (counted n t w.held) (Some w.held)) ≡ Some y
        → WatchFits l y
    by n false e = subst (WatchFits l) (some-is _ _ e) h
    by (Update v) true e = subst (WatchFits l) (some-is _ _ e) (renewed l w v t h)
    by (Other v) true e = absurd (none-some y e)

-- the one that is registered

pub not-rst : (l : List Noted) (p : Peer) (m : Content) (i : ℕ) → leb 32 m.code ≡ true → answers l p m ≡ Some i → NotRst m.kind
not-rst l p m i response e = by m.kind (eqb m.code 0) refl (leb 32 m.code) response e
  where
    by : (k : MsgType) (v : Bool) → eqb m.code 0 ≡ v → (b : Bool) → b ≡ true → answers_by l p m k v b ≡ Some i → NotRst k
    by Con v is b y e = tt
    by Non v is b y e = tt
    by Ack v is b y e = tt
    by Rst true is b y e =
        let none = (Decides-eqb m.code 0).0 is in
        absurd (false≢true (sym (ap (λ (n : ℕ). leb 32 n) none) ∙ response))
    by Rst false is true y e = absurd (none-some i e)
    by Rst false is false y e = absurd (none-some i e)

first-asks : (q : CoapRequest) (mid : ℕ) (token : List ℕ) → eqb q.method 1 ≡ true → next_message Observing q (progress q []) mid token ≡ Some (observe_message q mid token)
first-asks q mid token get = rw (get) refl

no-replies : (wants : Bool) (rs : List Reply) → unless_replied wants rs ≡ true → (rs ≡ []) × (wants ≡ true)
no-replies wants [] e = (refl, e)
no-replies wants (r ∷ rs) e = absurd (false≢true e)

pub turn-replies : (l : List Noted) (o t : ℕ) (p : Peer) (b : List ℕ) (m : Content) (i : ℕ) (notice : Notice) → waits_for l o ≡ Some i
    → leb 32 m.code ≡ true → NotRst m.kind → turn l o (noted t (Hears p b) (Says m (Some i) notice)) ≡ Replied i m notice.place
turn-replies l o t p b m i notice waited response kind = rw (waited, eqb-itself i) (by m.kind kind)
  where
    by : (k : MsgType) → NotRst k → answered_by i m notice.place k ≡ Replied i m notice.place
    by Con h = rw (response) refl
    by Non h = rw (response) refl
    by Ack h = rw (response) refl
    by Rst h = absurd h

wants-begins : (l : List Noted) (c : ℕ) (a : Ask) (note : Note) (q : CoapRequest) → opens_by note ≡ Some q → wants_in l (Some (noted 0 (Asks c a) note)) ≡ true
    → note ≡ Begins q
wants-begins l c a (Begins r) q e f = ap Begins (some-is r q e)
wants-begins l c a (Renews r s) q e f = absurd (false≢true f)
wants-begins l c a (Says m to notice) q e f = absurd (false≢true f)
wants-begins l c a note q e f = cc

-- what asks to observe was opened by an ask
wanting-ask : (l : List Noted) (o : ℕ) (b : Begun) → Legal l → begun l o ≡ Some b → wants_in (before l o) (at l o) ≡ true → AskedFor l o b
wanting-ask l o b legal opened wants = elim (opened-for l o b legal opened) [
  | inl it ↦ it
  | inr it ↦ absurd (false≢true (subst (λ (v : Option Noted). wants_in (before l o) v ≡ true) it.stands wants))
]

registered-fits : (l : List Noted) (t : ℕ) (p : Peer) (b : List ℕ) (m : Content) (i : ℕ) (notice : Notice) → Legal l
    → answers l p m ≡ Some i → (it : IsRegistering l m i)
    → WatchFits (noted t (Hears p b) (Says m (Some i) notice) ∷ l) (watch_for l t i m it.first.opening it.exchange)
registered-fits l t p b m i notice legal to it =
    let x : Noted = noted t (Hears p b) (Says m (Some i) notice) in
    let o : ℕ = it.first.opening in
    let q : CoapRequest = it.exchange.request in
    let w = waits-first l o i it.waited in
    let f : IsFirst l w.0 o i w.1 w.2 = w.3 in
    let c : Content = w.2 in
    let sent = sent-for l w.0 o i w.1 c legal f in
    let same : sent.exchange ≡ it.exchange = some-is _ _ (sym sent.opened ∙ it.opened) in
    let peer : w.1 ≡ q.peer = sent.peer ∙ ap (λ (b : Begun). b.request.peer) same in
    let kind = not-rst l p m i it.response to in
    let went = found l p m i it.response kind to in
    let is = first-is l w.0 o i w.1 c went.first f went.is in
    let token : c.token ≡ m.token = sym (ap (λ (g : FirstSending). g.message.token) is) ∙ went.token in
    let none = no-replies (wants_in (before l o) (at l o)) (replies l o) it.observing in
    let ask = wanting-ask l o it.exchange legal it.opened none.1 in
    let begins : ask.note ≡ Begins q =
    wants-begins (before l o) ask.conn ask.ask ask.note q ask.opens
    (subst (λ (v : Option Noted). wants_in (before l o) v ≡ true) ask.stands none.1) in
    let asked : at l o ≡ Some (noted it.exchange.since (Asks ask.conn ask.ask) (Begins q)) =
    subst (λ (n : Note). at l o ≡ Some (noted it.exchange.since (Asks ask.conn ask.ask) n)) begins ask.stands in
    let wants : wants_in (before l o) (Some (noted it.exchange.since (Asks ask.conn ask.ask) (Begins q))) ≡ true =
    subst (λ (v : Option Noted). wants_in (before l o) v ≡ true) asked none.1 in
    let may = (and_parts (may_observe ask.ask.rules q) _ wants).0 in
    let get = (and_parts (eqb q.method 1) _ (and_parts (is_get q) (is_named ask.ask.rules.observed q.target.host) may).0).0 in
    let quiet : replies (before l i) o ≡ [] = quiet-since l o i it.waited ∙ none.0 in
    let still = at-still l i o _ _ f.stands sent.after asked in
    let twice = before-twice l i o _ f.stands sent.after in
    let wanted : wants_in (before (before l i) o) (at (before l i) o) ≡ true =
    ap (λ (v : Option Noted). wants_in (before (before l i) o) v) still
    ∙ (ap (λ (k : List Noted). wants_in k (Some (noted it.exchange.since (Asks ask.conn ask.ask) (Begins q)))) twice ∙ wants) in
    let observing : observes (before l i) o ≡ true =
    ap (λ (rs : List Reply). unless_replied (wants_in (before (before l i) o) (at (before l i) o)) rs) quiet ∙ wanted in
    let how : manner (before l i) o ≡ Observing =
    ap (λ (v : Option Stored). manner_by (tag_of v (replies (before l i) o)) (observes (before l i) o)) (at-kept (before l i) o _ still)
    ∙ ap observing_if observing in
    let begun_with : begins_with (before l i) o ≡ [] = begins-at (before l i) o _ still in
    let heard : heard_for (before l i) o ≡ [] = ap (λ (bs : List Reply). bs ++ replies (before l i) o) begun_with ∙ quiet in
    let next : next_message Observing q (progress q []) c.mid c.token ≡ Some c =
    subst (λ (rs : List Reply). next_message Observing q (progress q rs) c.mid c.token ≡ Some c) heard
    (subst (λ (f : Manner). next_message f q (progress q (heard_for (before l i) o)) c.mid c.token ≡ Some c) how
    (sends-next l w.0 o i w.1 c it.exchange legal f it.opened)) in
    let asks : c ≡ observe_message q c.mid c.token = some-is _ _ (sym next ∙ first-asks q c.mid c.token get) in
    let message : c ≡ observe_message q c.mid m.token = asks ∙ ap (observe_message q c.mid) token in
    let own : IsFirst l w.0 o i q.peer (observe_message q c.mid m.token) =
    subst (λ (p : Peer). IsFirst l w.0 o i p (observe_message q c.mid m.token)) peer
    (subst (λ (n : Content). IsFirst l w.0 o i w.1 n) message f) in
    let turned : turn l o x ≡ Replied i m notice.place = turn-replies l o t p b m i notice it.waited it.response kind in
    record {
      exchange = it.exchange;
      moment = w.0;
      mid = c.mid;
      first = IsFirst-keeps x l w.0 o i q.peer _ own;
      opened = begun-keeps x l o it.exchange it.opened;
      for_it = record {
        conn = ask.conn;
        ask = ask.ask;
        note = ask.note;
        stands = at-keeps x l o _ ask.stands;
        opens = ask.opens;
        sense = ask.sense;
      };
      begins = begins;
      may = may;
      key = refl;
      reply = record { number = length l; sending = i; message = m };
      replied = subst (λ (u : Turn). Contains (replies_by (length l) u (replies l o)) (record { number = length l; sending = i; message = m })) (sym turned)
          (Contains-append_right (replies l o) _ _ (zero, omega arith, refl));
      under = refl;
    }

-- All fit.

told-fits : (l : List Noted) (t : ℕ) (p : Peer) (b : List ℕ) (m : Content) (i : ℕ) (notice : Notice) → Legal l
    → Follows l t (Hears p b) (Says m (Some i) notice)
    → AllByRecursion (WatchFits (noted t (Hears p b) (Says m (Some i) notice) ∷ l)) (watches l)
    → AllByRecursion (WatchFits (noted t (Hears p b) (Says m (Some i) notice) ∷ l)) (told_by l t i m notice.observation (watches l))
told-fits l t p b m i notice legal follows a = by notice.observation refl
  where
    P : Watch → Type 0
    P = WatchFits (noted t (Hears p b) (Says m (Some i) notice) ∷ l)

    is : IsSaid l t p m i notice
    is = said l t p b m i notice follows

    changed : AllByRecursion P (first_changed (is_under m.token) (held_by m t) (watches l))
    changed = all-changed P (is_under m.token) (held_by m t) (λ w y h e. held-fits _ m t w y h e) (watches l) a

    new : (r : IsRegistering l m i) → AllByRecursion P (registered l t i m (first_at l i))
    new r =
        subst (λ (f : Option FirstSending). AllByRecursion P (registered l t i m f)) (sym r.sent)
        (subst (λ (v : Option Begun). AllByRecursion P (registered_of l t i m r.first.opening v)) (sym r.opened)
        (registered-fits l t p b m i notice legal is.to r, tt))

    by : (o : Observation) → notice.observation ≡ o → AllByRecursion P (told_by l t i m o (watches l))
    by Unobserved e = a
    by Registers e = all-join P (watches l) (registered l t i m (first_at l i)) a (new (registering l t m i (is.observation ∙ e)))
    by Updates e = changed
    by Outdates e = changed
    by (Starts k q) e = changed
    by Cancels e = changed

fits-by : (l : List Noted) (t : ℕ) (d : Deed) (note : Note) → Legal l → Follows l t d note
    → AllByRecursion (WatchFits (noted t d note ∷ l)) (watches l)
    → AllByRecursion (WatchFits (noted t d note ∷ l)) (watches_by l t d note (watches l))
fits-by l t (Asks c a) note legal follows all = by a.sense note
  where
    P : Watch → Type 0
    P = WatchFits (noted t (Asks c a) note ∷ l)

    by : (s : Sense) (n : Note) → AllByRecursion P (asked_by t s n (watches l))
    by (Requests q) (Begins r) = all-filter P (λ (w : Watch). not (is_for q w)) (watches l) all
    by (Requests q) (Renews r s) = all-filter P (λ (w : Watch). not (is_for q w)) (watches l) all
    by (Requests q) n = all-mapped P (asked_again q t) (λ w h. asked-fits _ q t w h) (watches l) all
    by (Refuses cause status) n = all
fits-by l t (Hears p b) (Says m (Some i) notice) legal follows all = told-fits l t p b m i notice legal follows all
fits-by l t (Hears p b) note legal follows all = all
fits-by l t Passes note legal follows all = all-filter _ (λ (w : Watch). not (idles t w)) (watches l) all
fits-by l t d note legal follows all = all

fits-current : (l n : List Noted) (d : Deed) (note : Note) (ws : List Watch) → AllByRecursion (WatchFits n) ws
    → AllByRecursion (WatchFits n) (current_by l d note ws)
fits-current l n (Hears p b) (Says m to notice) ws a = all-filter (WatchFits n) (is_current l) ws a
fits-current l n Passes note ws a = all-filter (WatchFits n) (is_current l) ws a
fits-current l n d note ws a = a

pub watches-fit : (l : List Noted) → Legal l → AllByRecursion (WatchFits l) (watches l)
watches-fit [] legal = tt
watches-fit (x ∷ older) legal =
    fits-current (x ∷ older) (x ∷ older) x.written.deed x.note _
    (fits-by older x.written.moment x.written.deed x.note legal.0 legal.2
    (all-more (WatchFits older) (WatchFits (x ∷ older)) (WatchFits-keeps x older) (watches older) (watches-fit older legal.0)))

pub watch-fits : (l : List Noted) (w : Watch) → Legal l → Contains (watches l) w → WatchFits l w
watch-fits l w legal h = all-of (WatchFits l) (watches l) w (watches-fit l legal) h

-- and none has got more than one may be

told-few : (l : List Noted) (t : ℕ) (p : Peer) (b : List ℕ) (m : Content) (i : ℕ) (notice : Notice)
    → Follows l t (Hears p b) (Says m (Some i) notice) → length (watches l) ≤ 64 → length (told_by l t i m notice.observation (watches l)) ≤ 64
told-few l t p b m i notice follows le = by notice.observation refl
  where
    is : IsSaid l t p m i notice
    is = said l t p b m i notice follows

    changed : length (first_changed (is_under m.token) (held_by m t) (watches l)) ≤ 64
    changed = let less = changed-few (is_under m.token) (held_by m t) (watches l) in omega (arith, less, le)

    one : (r : IsRegistering l m i) → length (registered l t i m (first_at l i)) ≡ 1
    one r =
        ap (λ (f : Option FirstSending). length (registered l t i m f)) r.sent
        ∙ ap (λ (v : Option Begun). length (registered_of l t i m r.first.opening v)) r.opened

    by : (o : Observation) → notice.observation ≡ o → length (told_by l t i m o (watches l)) ≤ 64
    by Unobserved e = le
    by Registers e =
        let r = registering l t m i (is.observation ∙ e) in
        let few = r.few in
        let new = one r in
        let all = length-append (watches l) (registered l t i m (first_at l i)) in
        omega (arith, few, new, all)
    by Updates e = changed
    by Outdates e = changed
    by (Starts k q) e = changed
    by Cancels e = changed

few-by : (l : List Noted) (t : ℕ) (d : Deed) (note : Note) → Follows l t d note → length (watches l) ≤ 64
    → length (watches_by l t d note (watches l)) ≤ 64
few-by l t (Asks c a) note follows le = by a.sense note
  where
    by : (s : Sense) (n : Note) → length (asked_by t s n (watches l)) ≤ 64
    by (Requests q) (Begins r) = filter-few (λ (w : Watch). not (is_for q w)) (watches l) 64 le
    by (Requests q) (Renews r s) = filter-few (λ (w : Watch). not (is_for q w)) (watches l) 64 le
    by (Requests q) n = let same = map-len (asked_again q t) (watches l) in omega (arith, same, le)
    by (Refuses cause status) n = le
few-by l t (Hears p b) (Says m (Some i) notice) follows le = told-few l t p b m i notice follows le
few-by l t (Hears p b) note follows le = le
few-by l t Passes note follows le = filter-few (λ (w : Watch). not (idles t w)) (watches l) 64 le
few-by l t d note follows le = le

few-current : (l : List Noted) (d : Deed) (note : Note) (ws : List Watch) → length ws ≤ 64 → length (current_by l d note ws) ≤ 64
few-current l (Hears p b) (Says m to notice) ws le = filter-few (is_current l) ws 64 le
few-current l Passes note ws le = filter-few (is_current l) ws 64 le
few-current l d note ws le = le

pub watches-few : (l : List Noted) → Legal l → length (watches l) ≤ 64
watches-few [] legal = omega arith
watches-few (x ∷ older) legal =
    few-current (x ∷ older) x.written.deed x.note _
    (few-by older x.written.moment x.written.deed x.note legal.2 (watches-few older legal.0))

pub observed-asked : (l : List Noted) (w : Watch) → Legal l → Contains (watches l) w → IsObserved l w
observed-asked l w legal has =
    let h = watch-fits l w legal has in
    record {
      since = h.exchange.since;
      conn = h.for_it.conn;
      ask = h.for_it.ask;
      request = h.exchange.request;
      asked = subst (λ (n : Note). at l w.held.opening ≡ Some (noted h.exchange.since (Asks h.for_it.conn h.for_it.ask) n)) h.begins h.for_it.stands;
      sense = h.for_it.sense;
      may = h.may;
      key = h.key;
      moment = h.moment;
      mid = h.mid;
      sent = h.first;
      reply = h.reply;
      replied = replies-fit l w.held.opening h.reply legal h.replied;
      under = h.under;
    }

-- No reply is awaited to what notifications come to.
pub watch-unwaited : (l : List Noted) (w : Watch) → Legal l → WatchFits l w → waits_for l w.held.opening ≡ Some w.sending → ⊥
watch-unwaited l w legal h e =
    let i : ℕ = w.sending in
    let early : Contains (replies (before l i) w.held.opening) h.reply =
    subst (λ (rs : List Reply). Contains rs h.reply) (sym (quiet-since l w.held.opening i e)) h.replied in
    let fits = replies-fit (before l i) w.held.opening h.reply (legal-before l i legal) early in
    let below = at-below (before l i) h.reply.number _ fits.heard in
    let len = length-before l i _ h.first.stands in
    let after = fits.after in
    let under = h.under in
    omega (arith, below, len, after, under)
