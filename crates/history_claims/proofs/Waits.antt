-- An ask that can wait for what another one asked for sends nothing, and isn't turned away.
use Rattle.std.proofs.Common.{◌≡◌, ℕ, ◌<◌, Bool, true, not, ◌||◌, eqb, inl, inr, List, Option, Some, None, sym, ap, subst, ◌∙◌, arith}
use Rattle.std.specs.Prelude.{is_some}
use Rattle.std.specs.Option.{option_map_or}
use Rattle.std.proofs.lemmas.Bool.Decides.{leb_tells}
use Rattle.std.proofs.lemmas.Bool.{false≢true, and_parts}
use Rattle.ask_model.specs.declared.cause.Cause.TheVariants as C
use Rattle.ask_model.specs.Requests.{CoapRequest, Sense, Requests}
use Rattle.ask_model.specs.Sharing.{asked_place, asks_same}
use Rattle.ask_model.specs.Views.{Ask}
use Rattle.ask_model.proofs.CallerLemmas.{same-place}
use Rattle.cache_key.specs.declared.place.Place.{Place}
use Rattle.cache_key.specs.Keys.{same_place}
use Rattle.cache_key.proofs.CallerLemmas.{places_decided}
use Rattle.journal_book.specs.Entries.{Fault, Asks, Answers}
use Rattle.history_laws.specs.Readings.{Noted, Note, Plain, entries, at, before, noted}
use Rattle.history_laws.specs.Connections.{is_open, opened}
use Rattle.history_laws.specs.Exchanges.{opens_by, begun, end_of, is_going}
use Rattle.history_laws.specs.Joining.{outrun, joins}
use Rattle.history_laws.specs.Justified.{IsAsk, Caused, reads, reads_open, pending, is_in_hand, AskNote, Follows, Legal, AtRest, MayCome}
use Rattle.history_laws.proofs.CallerLemmas.{at-before, at-below, at-entries, at-same, at-still, begun-before, begun-below, end-since, follows-at, Joined, legal-before, length-before, none-joined, none-of, not-true, open-below, opens-so, open-exactly, outran, Outran, range-passes, reader, Reader, waited-or-answered, write-earlier}
use Rattle.history_claims.specs.Headline.{IsEntry}
use Rattle.history_claims.specs.Causes.{IsUnsent, IsCutOff}
use Rattle.history_claims.specs.Once.{CanWaitFor, IsSentNothing}
use Rattle.history_claims.proofs.Alone.{NeverShut, reads-some, requests-same, still-open}
use Rattle.history_claims.proofs.Alike.{same-get}
use Rattle.history_claims.proofs.Asking.{answers-ask}
use Rattle.history_claims.proofs.Entries.{entries-at}
use Rattle.history_claims.proofs.Halted.{cut-off}
use Rattle.history_claims.proofs.Pending.{senses, unsent-in}
use Rattle.history_claims.proofs.Quiet.{asks-back, asks-through, none-ended}
use Rattle.history_claims.proofs.Readers.{reads-at}
use Rattle.history_claims.proofs.Unsent.{none-for-other}
use Rattle.history_claims.proofs.Unshared.{asked-request}
use Rattle.history_claims.proofs.Written.{unsealed}

-- the ask k, for this GET
module _ (l : List Noted) (k s c : ℕ) (a : Ask) (note : Note) (q : CoapRequest) (legal : Legal l) (here : at l k ≡ Some (noted s (Asks c a) note))
    (sense : a.sense ≡ Requests q) where
  follows : MayCome (before l k) × AskNote (before l k) s (Requests q) note
  follows = by (follows-at l k _ legal here)
    where
      by : Follows (before l k) s (Asks c a) note → MayCome (before l k) × AskNote (before l k) s (Requests q) note
      by may = (may.0, subst (λ (v : Sense). AskNote (before l k) s v note) sense may.3)

  -- and the ask o, for which it can wait
  module _ (o : ℕ) (w : CanWaitFor (entries l) k o q) where
    abbrev asker : Ask
    asker = record { came = w.pending.asked.came; sense = Requests w.request; rules = w.pending.asked.rules }

    stood : (note : Note) × (at l o ≡ Some (noted w.pending.moment (Asks w.pending.conn asker) note))
    stood = entries-at l o _ w.pending.asked.stands

    there : at (before l k) o ≡ Some (noted w.pending.moment (Asks w.pending.conn asker) stood.0)
    there = at-still l k o _ _ here w.pending.before stood.1

    ask : IsAsk (before l k) o w.pending.conn asker
    ask = record { moment = w.pending.moment; note = stood.0; stands = there }

    now-open : is_open (before l k) w.pending.conn ≡ true
    now-open = still-open (before l k) o w.pending.conn never (was (follows-at (before l k) o _ (legal-before l k legal) there))
      where
        never : NeverShut (before l k) w.pending.conn
        never m t note e =
            w.held m t (subst (λ (n : ℕ). m < n) (length-before l k _ here) (at-below (before l k) m _ e)) (at-entries l m _ (at-before l k m _ e))

        was : Follows (before (before l k) o) w.pending.moment (Asks w.pending.conn asker) stood.0 → is_open (before (before l k) o) w.pending.conn ≡ true
        was may = may.1

    waits : pending (before l k) w.pending.conn ≡ Some o
    waits =
        elim (waited-or-answered (before l k) o w.pending.conn asker (legal-before l k legal) ask) [
          | inl u ↦ u
          | inr u ↦
              absurd (w.pending.unanswered u.0 u.2.moment w.pending.conn u.1
              (subst (λ (n : ℕ). u.0 < n) (length-before l k _ here) (at-below (before l k) u.0 _ u.2.stands))
              (at-entries l u.0 _ (at-before l k u.0 _ u.2.stands)))
        ]

    -- it reads an exchange that is open
    going : (x : ℕ) × (reads (before l k) o ≡ Some x) × (is_going (before l k) x ≡ true)
    going =
        let e : List Noted = before l k in
        let rest : AtRest e = follows.0.1 in
        let below = open-below e (legal-before l k legal) w.pending.conn now-open in
        let hand : is_in_hand e w.pending.conn ≡ true = range-passes (is_in_hand e) 0 (opened e) w.pending.conn rest.waits (omega arith) (omega (arith, below)) in
        let reading : (not true || option_map_or (λ (k : ℕ). reads_open e (reads e k)) (pending e w.pending.conn) true) ≡ true =
        subst (λ (b : Bool). (not b || option_map_or (λ (k : ℕ). reads_open e (reads e k)) (pending e w.pending.conn) true) ≡ true) now-open hand in
        let own : option_map_or (λ (k : ℕ). reads_open e (reads e k)) (Some o) true ≡ true =
        subst (λ (o : Option ℕ). option_map_or (λ (k : ℕ). reads_open e (reads e k)) o true ≡ true) waits reading in
        reads-some e (reads e o) own

    read-by : Reader (before l k) o going.0
    read-by = reader (before l k) o going.0 (legal-before l k legal) going.1

    asks-it : read-by.request ≡ w.request
    asks-it =
        requests-same read-by.request w.request
        (sym read-by.sense
        ∙ senses read-by.asked.moment w.pending.moment read-by.conn w.pending.conn read-by.ask asker read-by.asked.note stood.0
        (at-same (before l k) o _ _ read-by.asked.stands there))

    same-as : asks_same q read-by.exchange.request ≡ true
    same-as =
        elim (read-by.way) [
          | inl own ↦ subst (λ (r : CoapRequest). asks_same q r ≡ true) (sym asks-it ∙ own.1) w.same
          | inr along ↦
              asks-through q w.request read-by.exchange.request w.same
              (subst (λ (r : CoapRequest). asks_same r read-by.exchange.request ≡ true) asks-it along.same)
        ]

    -- which no write has outrun
    unoutran : Outran (before l k) (asked_place q) going.0 → ⊥
    unoutran h =
        let later = h.later in
        elim (leb_tells o h.end.number) [
          | inl u ↦
              none-ended l o k _ q legal stood.1 (unsealed l o w.pending.conn asker legal (record { moment = w.pending.moment; note = stood.0; stands = stood.1 })) w.unwritten h.opening h.write h.end
              (begun-before l k h.opening h.write h.opened) h.changes
              (subst (λ (m : ℕ). h.opening < m) (length-before l k _ here) (begun-below (before l k) h.opening h.write h.opened))
              (end-since l k h.opening h.end h.ended) u.1 (no-write h)
          | inr u ↦
              let parts = and_parts (not (eqb h.write.request.method 1)) (same_place (asked_place q) (asked_place h.write.request)) h.changes in
              let place : asked_place h.write.request ≡ asked_place read-by.request =
              sym ((places_decided (asked_place q) (asked_place h.write.request)).0 parts.1)
              ∙ (same-place q w.request w.same ∙ ap asked_place (sym asks-it)) in
              let le = write-earlier (before l k) o going.0 h.end.number (legal-before l k legal) read-by
              (record {
                opening = h.opening;
                write = h.write;
                opened = h.opened;
                changes = λ is. false≢true (subst (λ (n : ℕ). not (eqb n 1) ≡ true) is parts.0);
                place = (ap (λ (p : Place). p.peer) place, ap (λ (p : Place). p.path) place);
                how = h.end.how;
                ended = h.ended;
              })
              u.1 in
              absurd (omega (arith, le, later))
        ]
      where
        no-write : (h : Outran (before l k) (asked_place q) going.0) → h.opening ≡ o → ⊥
        no-write h is =
            let opened = subst (λ (i : ℕ). begun l i ≡ Some h.write) is (begun-before l k h.opening h.write h.opened) in
            let same = asked-request l o w.pending.conn w.pending.moment h.write w.request legal opened w.pending.asked in
            let parts = and_parts (not (eqb h.write.request.method 1)) (same_place (asked_place q) (asked_place h.write.request)) h.changes in
            let get : h.write.request.method ≡ 1 = ap (λ (r : CoapRequest). r.method) same ∙ same-get w.request q (asks-back q w.request w.same) in
            false≢true (subst (λ (n : ℕ). not (eqb n 1) ≡ true) get parts.0)

    joined : Joined (before l k) q going.0
    joined =
        record {
          is_open = (open-exactly (before l k) going.0).1 (ap is_some read-by.opened, none-of (end_of (before l k) going.0) going.2);
          exchange = read-by.exchange;
          opened = read-by.opened;
          same = same-as;
          fresh = not-true (outrun (before l k) (asked_place q) going.0) (λ e. unoutran (outran (before l k) (asked_place q) going.0 e));
        }

    -- so it joins
    pub opens-none : (r : CoapRequest) → opens_by note ≡ Some r → ⊥
    opens-none r is =
        let it = opens-so (before l k) s (Requests q) note r is follows.1 in
        none-joined (before l k) q going.0 (subst (λ (v : CoapRequest). joins (before l k) v ≡ None) (sym (requests-same q r it.sense)) it.alone) joined

    not-plain : note ≡ Plain → ⊥
    not-plain is =
        let may : AskNote (before l k) s (Requests q) Plain = subst (AskNote (before l k) s (Requests q)) is follows.1 in
        none-joined (before l k) q going.0 may.0 joined

    unsent : IsUnsent (entries l) k k k q
    unsent =
        unsent-in l k k k q legal (λ t i p m late. none-for-other l k c s a note legal here opens-none t i p m)
        (λ t i p m late. none-for-other l k c s a note legal here opens-none t i p m)

    cut-off-alone : (n u j : ℕ) → IsEntry (entries l) n u (Answers c k (Fault C.Busy j)) → IsCutOff (entries l) n c k
    cut-off-alone n u j e =
        let stands = entries-at l n _ e in
        let it = answers-ask l n u c k (Fault C.Busy j) legal e in
        by stands.0 stands.1 it.0.ask it.0.asked it.0.grounds
      where
        by : (z : Note) → at l n ≡ Some (noted u (Answers c k (Fault C.Busy j)) z) → (b : Ask) → IsAsk (before l n) k c b
            → Caused (before l n) u k C.Busy j → IsCutOff (entries l) n c k
        by z stands b asked h =
            elim (h.1) [
              | inl away ↦
                  absurd (not-plain (sym (ap (λ (x : Noted). x.note) (at-same l k _ _ (at-before l n k _ away.stands) here))))
              | inr cut ↦
                  cut-off l n u c k cut.0 (Fault C.Busy j) legal z stands (reads-at l n c k cut.0 b _ legal stands asked cut.2) cut.1 cut.3
            ]

    pub sent-nothing : IsSentNothing (entries l) k c q
    sent-nothing = record { unsent = unsent; taken = cut-off-alone }
