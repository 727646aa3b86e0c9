-- A datagram that is heard: a step keeps what holds between steps.
use Rattle.std.proofs.Common.{◌≡◌, ℕ, ◌<◌, ◌⊎◌, inl, inr, Bool, true, false, cond, ltb, leb, ◌≤◌, ◌-◌, List, [], ◌∷◌, length, Option, Some, None, Result, Ok, Err, refl, sym, ap, subst, ◌∙◌, arith, ◌++◌}
use Rattle.std.proofs.lemmas.List.{length-map}
use Rattle.std.specs.Prelude.{find, ◌&&◌, is_some, option_map, count_by}
use Rattle.std.specs.List.{AllByRecursion, Contains}
use Rattle.std.proofs.lemmas.Bool.{false≢true, leb-true, ltb-true}
use Rattle.std.proofs.lemmas.Option.{none-some}
use Rattle.coap_codec.specs.Spelling.{Content, Spells}
use Rattle.coap_codec.specs.Reading.{message_at}
use Rattle.coap_codec.specs.declared.fault.CodecFault.{CodecFault}
use Rattle.coap_codec.specs.declared.message.MsgType.{MsgType}
use Rattle.coap_codec.specs.declared.message.MsgType.TheVariants.{Con, Non, Ack, Rst}
use Rattle.coap_codec.proofs.Again.{message_again}
use Rattle.coap_codec.proofs.ByteRanges.{IsBytes}
use Rattle.coap_codec.proofs.Takes.{message_takes}
use Rattle.uri_map.specs.declared.peer.Peer.{Peer}
use Rattle.uri_map.specs.Peers.{same_peer}
use Rattle.uri_map.proofs.CallerLemmas.{same_peer-same}
use Rattle.message_layer.specs.Values.{LinkState}
use Rattle.message_layer.specs.Sending.{due_of}
use Rattle.message_layer.specs.Hearing.{is_fresh, is_repeat, replies, reset_for, heard_verdict, verdict_by, verdict_of}
use Rattle.message_layer.specs.declared.state.Heard.{Heard}
use Rattle.message_layer.specs.declared.state.Reply.{Reply}
use Rattle.message_layer.specs.declared.verdict.News.{News}
use Rattle.message_layer.specs.declared.state.Reply.TheVariants as R
use Rattle.message_layer.specs.declared.verdict.News.TheVariants as N
use Rattle.journal_book.specs.Entries.{Grounds, grounds_size, Hears}
use Rattle.history_laws.specs.Progress.{Ending, Whole, NotUnderstood, Reset as ResetSo, TimedOut, Turned, Progress, Renewed, Reply as ReplyTo, messages, progress}
use Rattle.history_laws.specs.Readings.{Noted, Repeats, Garbled, ticked, noted}
use Rattle.history_laws.specs.Confirming.{owed}
use Rattle.history_laws.specs.Hearing.{is_such, heard_before, repeated, can_be_remembered}
use Rattle.history_laws.specs.Justified.{HasGrounds, Legal}
use Rattle.history_laws.proofs.CallerLemmas.{all-filter, all-more, and-left, and-right, any-of, entries-length, find-any, is-some, CameTo, came-to, going-not, goes-so, GoesSo, IsMadeOf}
use Rattle.history_links.specs.Agrees.{Start, IsFrom, due, Agrees}
use Rattle.history_links.specs.Steps.{ended_token, heard_link, heard as heard_entry, reset}
use Rattle.history_links.proofs.CallerLemmas.{none-before}
use Rattle.exchange_model.specs.declared.kept.Conn.{Conn}
use Rattle.exchange_model.specs.declared.kept.Exchange.{Exchange}
use Rattle.exchange_model.specs.declared.kept.Reader.{Reader}
use Rattle.exchange_model.specs.State.{State, link_of}
use Rattle.ask_model.specs.Requests.{CoapRequest}
use Rattle.history_laws.specs.Exchanges.{Begun, heard_for}
use Rattle.exchange_model.specs.Watching.{is_one_of}
use Rattle.exchange_model.specs.Steps.{hears_nothing}
use Rattle.exchange_model.specs.Matters.{Over, answered_in, let_go, matter_of, has_next_place}
use Rattle.exchange_model.specs.Hearing.{gone_by, Numbers, exchanges_by, more_by, link_with, hears}
use Rattle.exchange_model.specs.Resting.{LinkRests, HasExchange}
use Rattle.exchange_model.specs.Growing.{RiseByAsk}
use Rattle.exchange_model.specs.Laws.{Before, MayHear, Heeds, IsContinued}
use Rattle.exchange_model.specs.Calls.{Telling, grounds_for, tell_of, told_for, next, given_back, takes_new, takes_by, repeats, resets, reads_so, goes_with}
use Rattle.exchange_model.specs.Keeping.{HasMids, Kept, MayStep, HearsKeeps}
use Rattle.exchange_model.proofs.Amid.{Amid, Moved, RestAt, IsEarly, next-moves, given-moves, tick-before}
use Rattle.exchange_model.proofs.Telling.{readers_in, AreServed, IsAmong, ReadWith, all-in, all-told, kept-told}
use Rattle.exchange_model.proofs.Readers.{ReaderIn, reader-keeps, readers-wait, readers-rise-in, readers-apart, rise-filter, Apart}
use Rattle.exchange_model.proofs.Tellings.{is-told, over_in, reads_it, ended_list, grounds-bare, grounds-as, readers-for, among-for, for-all}
use Rattle.exchange_model.proofs.Lists.{all-both}
use Rattle.exchange_model.proofs.Opened.{open-ones}
use Rattle.exchange_model.proofs.Brief.{WholeOfFew, ends-brief, whole-few}
use Rattle.exchange_model.proofs.Calling.{IsBriefBy}
use Rattle.exchange_model.proofs.Grounds.{GroundsFor, IsTold, told-grounds, told-moves, both-go}
use Rattle.exchange_model.proofs.Heeded.{next-token}
use Rattle.exchange_model.proofs.Heard.{hears-leads}
use Rattle.exchange_model.proofs.LinksHeard.{waits-with}
use Rattle.exchange_model.proofs.Over.{IsOver, IsMatter, is-matter, reply_of}
use Rattle.exchange_model.proofs.Quiet.{repeats-leads, garbled-leads}
use Rattle.exchange_model.proofs.Silent.{now-from}
use Rattle.exchange_model.proofs.Stepping.{may-come, before-step}
use Rattle.exchange_model.proofs.Tables.{all-links, link-same, link-other}
use Rattle.exchange_model.proofs.Ongoing.{by-since, served-part, goes-ids, ids-with, early-after, starts-now, tells-few}

pub may-hear : (t : ℕ) (p : Peer) (d : List ℕ) (S : State) (m : MayStep t S) → is_some (link_of S.links p).last_mid ≡ true → leb (length d) 2048 ≡ true → MayHear m.kept.reading t p d S
may-hear t p d S m known short = record {
  before = before-step t S m;
  come = may-come t S m;
  short = leb-true _ _ short;
  known = sym (m.kept.rests.reads.links_are p).known ∙ known;
}

-- What is nothing new is answered, and that is all.
answered-only : (t : ℕ) (p : Peer) (S S1 : State) (x : Noted) (mid : ℕ) (r : Reply) (m : MayStep t S) → Before (x ∷ m.kept.reading) t S1 → S1.sealed ≡ false → S1.links ≡ S.links
    → S1.exchanges ≡ S.exchanges → S1.conns ≡ S.conns → S1.readers ≡ S.readers → ticked (x ∷ m.kept.reading) ≡ ticked m.kept.reading → owed (x ∷ m.kept.reading) ≡ due p mid r
    → Kept (given_back t p (replies mid r) S1)
answered-only t p S S1 x mid r m b unsealed links exchanges conns readers tick owes =
    let l = m.kept.reading in
    let rests = m.kept.rests in
    let amid : Amid (x ∷ l) t S1 = record {
      before = b;
      unsealed = unsealed;
      mids = λ q. rw (links) (m.kept.mids q);
      in_time = rw (exchanges, tick) rests.in_time;
    } in
    let made = given-moves (x ∷ l) t p S1 mid r amid owes in
    let n = made.0 in
    let S2 = given_back t p (replies mid r) S1 in
    record {
      reading = n;
      rests = record {
        reads = made.1.amid.before.reads;
        quiet = made.1.quiet;
        links = λ q. rw (made.1.goes.tick, tick) (subst (LinkRests (ticked l)) (sym (same-link q n made.1 made.2 (same_peer p q) refl ∙ ap (λ (v : List _). link_of v q) links)) (rests.links q));
        in_time = made.1.amid.in_time;
        served = subst (λ (cs : List Conn). AreServed S2.readers cs) (sym (made.1.conns ∙ conns))
            (subst (λ (rs : List Reader). AreServed rs S.conns) (sym (made.1.readers ∙ readers)) rests.served);
        reading = subst (λ (rs : List Reader). AllByRecursion (λ (y : Reader). HasExchange S2.exchanges y.opening) rs) (sym (made.1.readers ∙ readers))
            (all-more _ _ (λ (y : Reader) h. made.1.has y.opening (rw (exchanges) h)) S.readers rests.reading);
      };
      mids = made.1.amid.mids;
    }
  where
    same-link : (q : Peer) (n : List Noted) → Moved (x ∷ m.kept.reading) t p S1 n (given_back t p (replies mid r) S1) → link_of (given_back t p (replies mid r) S1).links p ≡ link_of S1.links p
        → (v : Bool) → same_peer p q ≡ v → link_of (given_back t p (replies mid r) S1).links q ≡ link_of S1.links q
    same-link q n moved here true is = subst (λ (k : Peer). link_of (given_back t p (replies mid r) S1).links k ≡ link_of S1.links k) (same_peer-same p q is) here
    same-link q n moved here false is = moved.others q is

-- It repeats one, or is new, or is lost.

repeats-so : {start : Start} (l : List Noted) (t : ℕ) (p : Peer) (s : LinkState) (m : Content) → Agrees start l p s → IsFrom start l t → repeats t s m ≡ true → (j : ℕ) × (repeated l t p m ≡ Some j)
repeats-so l t p s m a later e = by (heard_before l t p m.mid) refl
  where
    such : is_such m.kind ≡ true
    such = and-left (is_such m.kind) _ e

    h : (x : Heard) × (find (is_repeat t m.mid) s.heard ≡ Some x)
    h = is-some _ (and-right (is_such m.kind) _ e)

    some-none : (r : Reply) → Some r ≡ None → ⊥
    some-none r k = cc

    by : (v : Option ℕ) → heard_before l t p m.mid ≡ v → (j : ℕ) × (repeated l t p m ≡ Some j)
    by (Some j) is = (j, rw (such) is)
    by None is = absurd (some-none h.0.reply (sym (ap (option_map (λ (k : Heard). k.reply)) h.1) ∙ (a.heard.repeats t m.mid later ∙ ap (option_map _) is)))

pub lost-or-new : {start : Start} (l : List Noted) (t : ℕ) (p : Peer) (s : LinkState) (m : Content) (k : MsgType) → m.kind ≡ k → Agrees start l p s → IsFrom start l t → repeats t s m ≡ false
    → ((verdict_by t s m k).news ≡ N.Lost) ⊎ ((repeated l t p m ≡ None) × (can_be_remembered l t p m ≡ true))
lost-or-new l t p s m k is a later e = by k is
  where
    unrepeated : is_such m.kind ≡ true → find (is_repeat t m.mid) s.heard ≡ None
    unrepeated such = none (find (is_repeat t m.mid) s.heard) (subst (λ (b : Bool). (b && is_some (find (is_repeat t m.mid) s.heard)) ≡ false) such e)
      where
        none : (v : Option Heard) → is_some v ≡ false → v ≡ None
        none None h = refl
        none (Some x) h = absurd (false≢true (sym h))

    unheard : is_such m.kind ≡ true → heard_before l t p m.mid ≡ None
    unheard such = none-before _ _ (sym (a.heard.repeats t m.mid later) ∙ ap (option_map _) (unrepeated such))

    own : (confirms : Bool) → is_such m.kind ≡ true → ((heard_verdict t s m confirms (find (is_repeat t m.mid) s.heard)).news ≡ N.Lost) ⊎ ((repeated l t p m ≡ None) × (can_be_remembered l t p m ≡ true))
    own confirms such = room (ltb (count_by (is_fresh t) s.heard) 1024) refl
      where
        room : (b : Bool) → ltb (count_by (is_fresh t) s.heard) 1024 ≡ b → ((heard_verdict t s m confirms (find (is_repeat t m.mid) s.heard)).news ≡ N.Lost) ⊎ ((repeated l t p m ≡ None) × (can_be_remembered l t p m ≡ true))
        room true h = inr (rw (such) (unheard such), rw (such) (ap (λ (n : ℕ). ltb n 1024) (sym (a.heard.live t later)) ∙ h))
        room false h = inl (rw (unrepeated such, h) refl)

    by : (k : MsgType) → m.kind ≡ k → ((verdict_by t s m k).news ≡ N.Lost) ⊎ ((repeated l t p m ≡ None) × (can_be_remembered l t p m ≡ true))
    by Con is = own true (ap is_such is)
    by Non is = own false (ap is_such is)
    by Ack is = inr (rw (is) refl, rw (is) refl)
    by Rst is = inr (rw (is) refl, rw (is) refl)

-- A message that is new.

find-none : {X : Type 0} (q : X → Bool) (xs : List X) (x : X) → find q xs ≡ None → Contains xs x → q x ≡ true → ⊥
find-none q xs x e h is = let it = find-any q xs (any-of q xs x h is) in none-some it.0 (sym e ∙ it.1)

pub is-bytes : (d : List ℕ) → AllByRecursion (λ (b : ℕ). b < 256) d → IsBytes d
is-bytes [] a = tt
is-bytes (b ∷ d) a = (a.0, is-bytes d a.1)

new-keeps : (t : ℕ) (p : Peer) (d : List ℕ) (mess : Content) (n : Numbers) (S : State) (m : MayStep t S) → MayHear m.kept.reading t p d S → Spells mess d → repeated m.kept.reading t p mess ≡ None
    → can_be_remembered m.kept.reading t p mess ≡ true
    → ((e : Exchange) (progress : Progress) → goes_with (matter_of t p mess (verdict_of t (link_of S.links p) mess) S) ≡ Some (e, progress) → IsContinued e progress n S)
    → Kept (takes_new t p d mess (verdict_of t (link_of S.links p) mess) n S)
new-keeps t p d mess n S m h spelled none room onward =
    let l = m.kept.reading in
    let rests = m.kept.rests in
    let s = link_of S.links p in
    let v = verdict_of t s mess in
    let x = heard_entry l t p d mess in
    let mt = matter_of t p mess v S in
    let made = hears-leads l t p d mess n S h spelled none room onward in
    let S1 = hears t p d mess n S in
    let heard_so = heard_link t mess.mid mess.token (is_one_of (gone_by mess S.entries mt S.watches)) v s in
    let new = link_with t (more_by n mt) heard_so in
    let ids : HasMids new = ids-with t mt n s heard_so (record { small = (m.kept.mids p).small; enough = (m.kept.mids p).enough }) refl
    (goes-ids t p mess S v.news (has_next_place t p v S) (answered_in (ended_token v.news mess.token) S.exchanges)
    (λ place. ltb-true _ _ (and-right (ltb (length s.waiting - let_go v) 64) _ place))) in
    let amid : Amid (x ∷ l) t S1 = record {
      before = record { reads = made.leads.reads; later = omega arith };
      unsealed = m.unsealed;
      mids = all-links (λ (q : Peer) (u : LinkState). HasMids u) p new S.links ids (λ q away. m.kept.mids q);
      in_time = by-since (ticked l) S.entries n.token mt S.exchanges rests.in_time
          (λ r e progress is.
          let now = starts-now t p mess S v.news (has_next_place t p v S) (answered_in (ended_token v.news mess.token) S.exchanges) r e progress is in
          let tick = tick-before l t S h.before in
          omega (arith, now, tick));
    } in
    let given = given-moves (x ∷ l) t p S1 mess.mid v.reply amid made.owes in
    let S2 = given_back t p (replies mess.mid v.reply) S1 in
    let here : link_of S2.links p ≡ new = given.2 ∙ link-same p new S.links in
    let early : IsEarly given.0 S2 p = λ o is. subst (λ (k : ℕ). k < due_of o) (sym given.1.goes.tick)
    (early-after (ticked l) v.ends s.outstanding s.waiting o (rests.links p) (sym (waits-with t (more_by n mt) heard_so) ∙ (sym (ap (λ (u : LinkState). u.outstanding) here) ∙ is))) in
    let moved = next-moves given.0 t p S2 given.1.amid given.1.quiet early in
    let S3 = next t p S2 in
    let goes = both-go (x ∷ l) given.0 moved.0 given.1.goes moved.1.goes in
    let rest : (q : Peer) → RestAt moved.0 S3 q = λ q. all-rest q moved.0 S3 moved.2 goes.tick (λ away. moved.1.others q away ∙ (given.1.others q away ∙ link-other p q new away S.links)) (same_peer p q) refl in
    let k = length S.entries in
    let xs = told_for k mt S.readers in
    let readers_same : S3.readers ≡ S.readers = moved.1.readers ∙ given.1.readers in
    let readers : AllByRecursion (ReaderIn l) S.readers = subst (AllByRecursion (ReaderIn l)) rests.reads.readers_are (readers-wait l rests.reads.legal) in
    let q = reads_it (over_in mt) in
    let listed = readers-for k mt S.readers in
    let apart : Apart (readers_in xs) = rw (listed)
    (readers-apart l _ (rise-filter q S.readers (subst RiseByAsk rests.reads.readers_are (readers-rise-in l rests.reads.legal))) (all-filter (ReaderIn l) q S.readers readers)) in
    let has : AllByRecursion (Contains S3.readers) (readers_in xs) = rw (listed, readers_same) (all-filter (Contains S.readers) q S.readers (all-in S.readers)) in
    let grounds = for-all (IsTold (x ∷ l)) (ReaderIn (x ∷ l)) k mt S.readers
    (λ e how r is a same. is-told (x ∷ l) (tell_of how k e.sending r) a (over-grounds e how r is same))
    (all-more (ReaderIn l) (ReaderIn (x ∷ l)) (λ r k. reader-keeps x l r (λ e. e) refl refl k) S.readers readers) in
    let told = all-told xs moved.0 t S3 moved.1.amid.before moved.1.quiet (rw (readers_same, moved.1.conns, given.1.conns) rests.served) has apart
    (all-more (IsTold (x ∷ l)) (λ (y : Telling). HasGrounds moved.0 t y.reader.ask y.grounds) (λ y k. told-grounds moved.0 t y (told-moves (x ∷ l) moved.0 y goes k)) xs grounds) in
    let reading : ReadWith S3.exchanges xs S3.readers = rw (readers_same)
    (all-more (λ (r : Reader). HasExchange S.exchanges r.opening × (HasExchange (ended_list (over_in mt)) r.opening → IsAmong xs r.ask)) _
    (λ r k. still S3.exchanges xs r (λ j w. moved.1.has j (given.1.has j w)) k) S.readers
    (all-both _ _ S.readers rests.reading (among-for k mt S.readers))) in
    kept-told moved.0 t xs S3 told.0 told.1 rest moved.1.amid.in_time reading moved.1.amid.mids
  where
    all-rest : (q : Peer) (n : List Noted) (S3 : State) → RestAt n S3 p → ticked n ≡ ticked m.kept.reading → (same_peer p q ≡ false → link_of S3.links q ≡ link_of S.links q)
        → (b : Bool) → same_peer p q ≡ b → RestAt n S3 q
    all-rest q n S3 rest tick others true is = subst (RestAt n S3) (same_peer-same p q is) rest
    all-rest q n S3 rest tick others false is = rw (others is, tick) (m.kept.rests.links q)

    over : (e : Exchange) (how : Ending) → matter_of t p mess (verdict_of t (link_of S.links p) mess) S ≡ Over e how
        → IsOver h.before.reads.start m.kept.reading t p d mess S e how
    over e how is = subst (IsMatter h.before.reads.start m.kept.reading t p d mess S) is (is-matter m.kept.reading t p d mess S h none room)

    over-grounds : (e : Exchange) (how : Ending) (r : Reader) → matter_of t p mess (verdict_of t (link_of S.links p) mess) S ≡ Over e how → r.opening ≡ e.opening
        → GroundsFor (heard_entry m.kept.reading t p d mess ∷ m.kept.reading) r.ask r.opening (grounds_for how (length S.entries) e.sending r)
    over-grounds e how r is same =
        let l = m.kept.reading in
        let x = heard_entry l t p d mess in
        let it = over e how is in
        let long : length l ≡ length S.entries = sym (entries-length l) ∙ ap length m.kept.rests.reads.entries_are in
        let told : GroundsFor (x ∷ l) r.ask e.opening (grounds_for it.real (length l) e.sending r) =
        grounds-as (x ∷ l) e.opening (length l) it.real e.sending r it.ends it.it.kept.sending in
        let equal : grounds_for it.real (length l) e.sending r ≡ grounds_for how (length S.entries) e.sending r =
        ap (λ (k : ℕ). grounds_for it.real k e.sending r) long ∙ (grounds-bare it.real (length S.entries) e.sending r ∙ ap (λ (u : Ending). grounds_for u (length S.entries) e.sending r) (sym it.same)) in
        subst (λ (o : ℕ). GroundsFor (x ∷ l) r.ask o (grounds_for how (length S.entries) e.sending r)) (sym same)
        (subst (GroundsFor (x ∷ l) r.ask e.opening) equal told)

    still : (es : List Exchange) (xs : List Telling) (r : Reader)
        → ((k : ℕ) → HasExchange (exchanges_by S.entries n.token (matter_of t p mess (verdict_of t (link_of S.links p) mess) S) S.exchanges) k → HasExchange es k)
        → HasExchange S.exchanges r.opening × (HasExchange (ended_list (over_in (matter_of t p mess (verdict_of t (link_of S.links p) mess) S))) r.opening → IsAmong xs r.ask)
        → HasExchange es r.opening ⊎ IsAmong xs r.ask
    still es xs r has k = elim (served-part m.kept.rests.reads.start m.kept.reading S n.token (matter_of t p mess (verdict_of t (link_of S.links p) mess) S) m.kept.rests.reads.legal
        (open-ones m.kept.reading S m.kept.rests.reads) (λ e how is. (over e how is).it.has) r.opening k.0) [
          | inl w ↦ inl (has r.opening w)
          | inr w ↦ inr (k.1 w)
        ]

pub hears-keeps : HearsKeeps
hears-keeps t p d n S m bytes onward = by (is_some (link_of S.links p).last_mid) refl (leb (length d) 2048) refl
  where
    l : List Noted
    l = m.kept.reading

    s : LinkState
    s = link_of S.links p

    later : IsFrom m.kept.rests.reads.start l t
    later = now-from l t S record { reads = m.kept.rests.reads; later = m.later }

    agrees : Agrees m.kept.rests.reads.start l p s
    agrees = m.kept.rests.reads.links_are p

    err-ok : (e : CodecFault) (k : Content) → message_at d ≡ Err e → message_at d ≡ Ok k → ⊥
    err-ok e k f g = apart (sym f ∙ g)
      where
        apart : Err e ≡ Ok k → ⊥
        apart h = cc

    garbled : MayHear l t p d S → (e : CodecFault) → message_at d ≡ Err e → Kept (given_back t p (resets (reset_for d)) (hears_nothing t p d S))
    garbled h e is = with (reset_for d) refl
      where
        made : Heeds l (noted t (Hears p d) Garbled) (reset p (reset_for d)) (hears_nothing t p d S)
        made = garbled-leads l t p d S h bytes (λ k spelled. err-ok e k is (message_again k d spelled))

        with : (v : Option ℕ) → reset_for d ≡ v → Kept (given_back t p (resets v) (hears_nothing t p d S))
        with None none = answered-only t p S (hears_nothing t p d S) (noted t (Hears p d) Garbled) 0 R.Nothing m (record { reads = made.leads.reads; later = omega arith }) m.unsealed refl refl refl refl refl
            (made.owes ∙ ap (reset p) none)
        with (Some mid) some = answered-only t p S (hears_nothing t p d S) (noted t (Hears p d) Garbled) mid R.Rst m (record { reads = made.leads.reads; later = omega arith }) m.unsealed refl refl refl refl refl
            (made.owes ∙ ap (reset p) some)

    again : MayHear l t p d S → (k : Content) → Spells k d → repeats t s k ≡ true → Kept (given_back t p (replies k.mid (verdict_of t s k).reply) (hears_nothing t p d S))
    again h k spelled e =
        let j = repeats-so l t p s k agrees later e in
        let made = repeats-leads l t p d k j.0 S h spelled j.1 in
        answered-only t p S (hears_nothing t p d S) (noted t (Hears p d) (Repeats k j.0)) k.mid (verdict_of t s k).reply m (record { reads = made.leads.reads; later = omega arith }) m.unsealed refl refl refl refl refl made.owes

    fresh : MayHear l t p d S → (k : Content) → message_at d ≡ Ok k → Spells k d → repeats t s k ≡ false → ((verdict_of t s k).news ≡ N.Lost → ⊥) → Kept (takes_new t p d k (verdict_of t s k) n S)
    fresh h k at spelled e kept = elim (lost-or-new l t p s k k.kind refl agrees later e) [
      | inl w ↦ absurd (kept w)
      | inr w ↦ new-keeps t p d k n S m h spelled w.0 w.1 (next-token t p d k n S at onward e)
    ]

    new : MayHear l t p d S → (k : Content) → message_at d ≡ Ok k → Spells k d → repeats t s k ≡ false → (news : News) → (verdict_of t s k).news ≡ news → Kept (takes_by t p d k (verdict_of t s k) n news S)
    new h k at spelled e N.Lost is = m.kept
    new h k at spelled e N.Quiet is = fresh h k at spelled e (λ w. quiet-lost (sym is ∙ w))
      where
        quiet-lost : N.Quiet ≡ N.Lost → ⊥
        quiet-lost w = cc
    new h k at spelled e N.Response is = fresh h k at spelled e (λ w. response-lost (sym is ∙ w))
      where
        response-lost : N.Response ≡ N.Lost → ⊥
        response-lost w = cc
    new h k at spelled e (N.Reset token) is = fresh h k at spelled e (λ w. reset-lost (sym is ∙ w))
      where
        reset-lost : N.Reset token ≡ N.Lost → ⊥
        reset-lost w = cc

    message : MayHear l t p d S → (k : Content) → message_at d ≡ Ok k → Spells k d → (b : Bool) → repeats t s k ≡ b
        → Kept (cond b (given_back t p (replies k.mid (verdict_of t s k).reply) (hears_nothing t p d S)) (takes_by t p d k (verdict_of t s k) n (verdict_of t s k).news S))
    message h k at spelled true e = again h k spelled e
    message h k at spelled false e = new h k at spelled e (verdict_of t s k).news refl

    read : MayHear l t p d S → (r : Result Content CodecFault) → message_at d ≡ r → Kept (reads_so t p d n r S)
    read h (Ok k) is = message h k is (message_takes d k (is-bytes d bytes) is) (repeats t s k) refl
    read h (Err e) is = garbled h e is

    by : (b : Bool) → is_some (link_of S.links p).last_mid ≡ b → (c : Bool) → leb (length d) 2048 ≡ c → Kept (cond (b && c) (reads_so t p d n (message_at d) S) S)
    by true known true short = read (may-hear t p d S m known short) (message_at d) refl
    by true known false long = m.kept
    by false none c any = m.kept

-- What it ends with as a whole are few replies.
few-of : {start : Start} (l : List Noted) (t : ℕ) (p : Peer) (d : List ℕ) (m : Content) (S : State) → Legal l → (e : Exchange) (how : Ending)
    → (it : IsOver start l t p d m S e how) → (real : Ending) → it.real ≡ real → WholeOfFew real
few-of l t p d m S legal e how it (Whole w ws) is =
    let a = it.it.kept in
    let q : CoapRequest = a.request in
    let rs : List ReplyTo = heard_for l e.opening in
    let r : ReplyTo = reply_of l it.it.sending m in
    let goes : GoesSo (Some (record { since = e.since; request = q })) rs = subst (λ (v : Option Begun). GoesSo v rs) a.opening (goes-so l e.opening legal it.it.going) in
    let made : IsMadeOf q (rs ++ r ∷ []) w ws =
    subst (CameTo q (rs ++ r ∷ [])) (it.whole w ws is) (came-to q rs r (λ end ends. going-not (progress q rs) end goes.0 ends) goes.1) in
    let few = whole-few q (messages ws) w (λ write. a.short) made.whole in
    let one = length-map ws (λ (r : ReplyTo). r.message) in
    let two = length-map ws (λ (r : ReplyTo). r.number) in
    omega (arith, few, one, two)
few-of l t p d m S legal e how it (Renewed s r) is = tt
few-of l t p d m S legal e how it NotUnderstood is = tt
few-of l t p d m S legal e how it ResetSo is = tt
few-of l t p d m S legal e how it TimedOut is = tt
few-of l t p d m S legal e how it Turned is = tt

-- What an exchange ended with by it isn't long.
pub heard-brief : (t : ℕ) (p : Peer) (d : List ℕ) (S : State) → MayStep t S → IsBriefBy t p d S
heard-brief t p d S m k at again kept known short e how r is = elim (lost-or-new l t p s k k.kind refl (m.kept.rests.reads.links_are p) later again) [
  | inl w ↦ absurd (kept w)
  | inr w ↦
      let h = may-hear t p d S m known short in
      let it : IsOver h.before.reads.start l t p d k S e how = subst (IsMatter h.before.reads.start l t p d k S) is (is-matter l t p d k S h w.0 w.1) in
      let small = ends-brief (length l) it.real e.sending r (few-of l t p d k S m.kept.rests.reads.legal e how it it.real refl)
      (tells-few l t p d k S m.kept.rests.reads e it.it.kept it.real it.ends) in
      let as_real : grounds_size (grounds_for it.real (length S.entries) e.sending r) ≤ 16392 = any-number it.real (length l) (length S.entries) e.sending r small in
      subst (λ (g : Grounds). grounds_size g ≤ 16392) (grounds-bare it.real (length S.entries) e.sending r ∙ ap (λ (u : Ending). grounds_for u (length S.entries) e.sending r) (sym it.same)) as_real
]
  where
    l : List Noted
    l = m.kept.reading

    s : LinkState
    s = link_of S.links p

    later : IsFrom m.kept.rests.reads.start l t
    later = now-from l t S record { reads = m.kept.rests.reads; later = m.later }

    any-number : (how : Ending) (i j : ℕ) (sending : Option ℕ) (r : Reader) → grounds_size (grounds_for how i sending r) ≤ 16392 → grounds_size (grounds_for how j sending r) ≤ 16392
    any-number (Whole w rs) i j sending r h = h
    any-number (Renewed s u) i j sending r h = h
    any-number NotUnderstood i j sending r h = h
    any-number ResetSo i j sending r h = h
    any-number TimedOut i j sending r h = h
    any-number Turned i j sending r h = h
