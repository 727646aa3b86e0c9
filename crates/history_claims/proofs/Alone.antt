-- Who is turned away had nothing to join.
use Rattle.std.proofs.Common.{◌≡◌, ℕ, ◌<◌, Bool, true, false, not, ◌||◌, eqb, inl, inr, List, [], ◌∷◌, length, Option, Some, None, refl, sym, ap, subst, ◌∙◌, arith}
use Rattle.std.specs.Prelude.{is_some}
use Rattle.std.specs.Option.{option_map_or}
use Rattle.std.proofs.lemmas.Bool.Decides.{eqb_tells}
use Rattle.std.proofs.lemmas.Bool.{false≢true, and_parts}
use Rattle.ask_model.specs.Requests.{CoapRequest, Sense, Requests}
use Rattle.ask_model.specs.Sharing.{asked_place, is_get, asks_same}
use Rattle.ask_model.specs.Views.{Ask}
use Rattle.cache_key.specs.declared.place.Place.{Place}
use Rattle.cache_key.specs.Keys.{same_place}
use Rattle.cache_key.proofs.CallerLemmas.{places_decided}
use Rattle.journal_book.specs.Entries.{Grounds, Deed, Opens, Asks, Answers, Shuts}
use Rattle.history_laws.specs.Readings.{Noted, Note, Plain, entries, at, before, noted}
use Rattle.history_laws.specs.Connections.{open_by, is_open, opened}
use Rattle.history_laws.specs.Exchanges.{end_of, is_going}
use Rattle.history_laws.specs.Joining.{writes_at, outrun, joins}
use Rattle.history_laws.specs.Justified.{IsAsk, reads, reads_open, pending, is_in_hand, AskNote, Follows, Legal, AtRest, MayCome}
use Rattle.history_laws.proofs.CallerLemmas.{at-before, at-below, at-entries, at-keeps, at-new, at-same, at-still, begun-before, begun-below, follows-at, legal-before, length-before, none-joined, none-of, open-below, open-exactly, outran, Outran, range-passes, reader, Reader, waited-or-answered, write-earlier}
use Rattle.history_claims.specs.Headline.{IsEntry, IsPending}
use Rattle.history_claims.specs.Causes.{AreUnshared}
use Rattle.history_claims.proofs.Entries.{entries-at}
use Rattle.history_claims.proofs.Pending.{senses}
use Rattle.history_claims.proofs.Unshared.{asks-itself, is-write, answered-after, write-asked, writes-method}

-- A connection stays open till it is shut.
abbrev pub NeverShut : List Noted → ℕ → Type 0
NeverShut l c = (m s : ℕ) (note : Note) → at l m ≡ Some (noted s (Shuts c) note) → ⊥

stays-open : (l : List Noted) (c t : ℕ) (d : Deed) (note : Note) → NeverShut (noted t d note ∷ l) c → is_open l c ≡ true → open_by c d (is_open l c) ≡ true
stays-open l c t (Opens e) note never h = go (eqb e c)
  where
    go : (b : Bool) → (b || is_open l c) ≡ true
    go true = refl
    go false = h
stays-open l c t (Shuts e) note never h =
    elim (eqb_tells e c) [
      | inl w ↦
          absurd (never (length l) t note
          (subst (λ (c : ℕ). at (noted t (Shuts e) note ∷ l) (length l) ≡ Some (noted t (Shuts c) note)) w.1 (at-new (noted t (Shuts e) note) l)))
      | inr w ↦ rw (w.0) h
    ]
stays-open l c t d note never h = h

pub still-open : (l : List Noted) (o c : ℕ) → NeverShut l c → is_open (before l o) c ≡ true → is_open l c ≡ true
still-open [] o c never h = h
still-open (x ∷ older) o c never h =
    let were : NeverShut older c = λ m s note e. never m s note (at-keeps x older m _ e) in
    elim (eqb_tells o (length older)) [
      | inl w ↦ stays-open older c x.written.moment x.written.deed x.note never (rw (w.0) at h)
      | inr w ↦ stays-open older c x.written.moment x.written.deed x.note never (still-open older o c were (rw (w.0) at h))
    ]

pub requests-same : (q r : CoapRequest) → Requests q ≡ Requests r → q ≡ r
requests-same q r e = cc

pub reads-some : (l : List Noted) (r : Option ℕ) → reads_open l r ≡ true → (x : ℕ) × (r ≡ Some x) × (is_going l x ≡ true)
reads-some l None h = absurd (false≢true h)
reads-some l (Some x) h = (x, refl, h)

-- the ask k, for this GET, which was turned away
module _ (l : List Noted) (k s c : ℕ) (a : Ask) (q : CoapRequest) (legal : Legal l) (here : at l k ≡ Some (noted s (Asks c a) Plain)) (sense : a.sense ≡ Requests q) where
  follows : MayCome (before l k) × (joins (before l k) q ≡ None)
  follows = by (follows-at l k _ legal here)
    where
      told : AskNote (before l k) s (Requests q) Plain → joins (before l k) q ≡ None
      told note = note.0

      by : Follows (before l k) s (Asks c a) Plain → MayCome (before l k) × (joins (before l k) q ≡ None)
      by may = (may.0, told (subst (λ (v : Sense). AskNote (before l k) s v Plain) sense may.3))

  -- and the pending ask o of a connection that wasn't shut
  module _ (o : ℕ) (p : IsPending (entries l) k o q) (held : (m s : ℕ) → m < k → IsEntry (entries l) m s (Shuts p.conn) → ⊥) where
    abbrev asker : Ask
    asker = record { came = p.asked.came; sense = Requests q; rules = p.asked.rules }

    there : (note : Note) × (at (before l k) o ≡ Some (noted p.moment (Asks p.conn asker) note))
    there =
        let it = entries-at l o _ p.asked.stands in
        (it.0, at-still l k o _ _ here p.before it.1)

    ask : IsAsk (before l k) o p.conn asker
    ask = record { moment = p.moment; note = there.0; stands = there.1 }

    now-open : is_open (before l k) p.conn ≡ true
    now-open = still-open (before l k) o p.conn never (was (follows-at (before l k) o _ (legal-before l k legal) there.1))
      where
        never : NeverShut (before l k) p.conn
        never m t note e =
            held m t (subst (λ (n : ℕ). m < n) (length-before l k _ here) (at-below (before l k) m _ e)) (at-entries l m _ (at-before l k m _ e))

        was : Follows (before (before l k) o) p.moment (Asks p.conn asker) there.0 → is_open (before (before l k) o) p.conn ≡ true
        was may = may.1

    waits : pending (before l k) p.conn ≡ Some o
    waits =
        elim (waited-or-answered (before l k) o p.conn asker (legal-before l k legal) ask) [
          | inl w ↦ w
          | inr w ↦
              absurd (p.unanswered w.0 w.2.moment p.conn w.1
              (subst (λ (n : ℕ). w.0 < n) (length-before l k _ here) (at-below (before l k) w.0 _ w.2.stands))
              (at-entries l w.0 _ (at-before l k w.0 _ w.2.stands)))
        ]

    -- it reads an exchange that is open
    going : (x : ℕ) × (reads (before l k) o ≡ Some x) × (is_going (before l k) x ≡ true)
    going =
        let e : List Noted = before l k in
        let rest : AtRest e = follows.0.1 in
        let below = open-below e (legal-before l k legal) p.conn now-open in
        let hand : is_in_hand e p.conn ≡ true = range-passes (is_in_hand e) 0 (opened e) p.conn rest.waits (omega arith) (omega (arith, below)) in
        let reading : (not true || option_map_or (λ (k : ℕ). reads_open e (reads e k)) (pending e p.conn) true) ≡ true =
        subst (λ (b : Bool). (not b || option_map_or (λ (k : ℕ). reads_open e (reads e k)) (pending e p.conn) true) ≡ true) now-open hand in
        let own : option_map_or (λ (k : ℕ). reads_open e (reads e k)) (Some o) true ≡ true =
        subst (λ (o : Option ℕ). option_map_or (λ (k : ℕ). reads_open e (reads e k)) o true ≡ true) waits reading in
        reads-some e (reads e o) own

    read-by : Reader (before l k) o going.0
    read-by = reader (before l k) o going.0 (legal-before l k legal) going.1

    asks-q : read-by.request ≡ q
    asks-q =
        requests-same read-by.request q
        (sym read-by.sense
        ∙ senses read-by.asked.moment p.moment read-by.conn p.conn read-by.ask asker read-by.asked.note there.0
        (at-same (before l k) o _ _ read-by.asked.stands there.1))

    same-as : is_get q ≡ true → asks_same q read-by.exchange.request ≡ true
    same-as get =
        elim (read-by.way) [
          | inl own ↦ subst (λ (r : CoapRequest). asks_same q r ≡ true) (sym asks-q ∙ own.1) (asks-itself q get)
          | inr along ↦ subst (λ (q : CoapRequest). asks_same q read-by.exchange.request ≡ true) asks-q along.same
        ]

    -- so a write outran it
    outran-it : is_get q ≡ true → Outran (before l k) (asked_place q) going.0
    outran-it get = go (outrun (before l k) (asked_place q) going.0) refl
      where
        go : (late : Bool) → outrun (before l k) (asked_place q) going.0 ≡ late → Outran (before l k) (asked_place q) going.0
        go true is = outran (before l k) (asked_place q) going.0 is
        go false is =
            absurd (none-joined (before l k) q going.0 follows.1 (record {
              is_open = (open-exactly (before l k) going.0).1 (ap is_some read-by.opened, none-of (end_of (before l k) going.0) going.2);
              exchange = read-by.exchange;
              opened = read-by.opened;
              same = same-as get;
              fresh = is;
            }))

    -- since the ask o
    late-answer : (h : Outran (before l k) (asked_place q) going.0) (n u e : ℕ) (g : Grounds) → n < o
        → IsEntry (entries l) n u (Answers e h.opening g) → ⊥
    late-answer h n u e g early entry =
        let soon = p.before in
        let after = answered-after l k _ legal here follows.0.0 h.opening h.write h.end (begun-before l k h.opening h.write h.opened)
        (write-asked l h.opening h.write legal (begun-before l k h.opening h.write h.opened) (writes-method q h.write h.changes)) h.ended n u e g
        (omega (arith, early, soon)) entry in
        let parts = and_parts (not (eqb h.write.request.method 1)) (same_place (asked_place q) (asked_place h.write.request)) h.changes in
        let place = sym ((places_decided (asked_place q) (asked_place h.write.request)).0 parts.1) ∙ ap asked_place (sym asks-q) in
        let le = write-earlier (before l k) o going.0 h.end.number (legal-before l k legal) read-by
        (record {
          opening = h.opening;
          write = h.write;
          opened = h.opened;
          changes = λ is. false≢true (subst (λ (n : ℕ). not (eqb n 1) ≡ true) is parts.0);
          place = (ap (λ (p : Place). p.peer) place, ap (λ (p : Place). p.path) place);
          how = h.end.how;
          ended = h.ended;
        })
        (omega (arith, after, early)) in
        let later = h.later in
        absurd (omega (arith, le, later))

  pub alone : (o : ℕ) (p : IsPending (entries l) k o q) → ((m s : ℕ) → m < k → IsEntry (entries l) m s (Shuts p.conn) → ⊥) → AreUnshared (entries l) o k q q
  alone o p held same =
      let h = outran-it o p held (and_parts (is_get q) _ same).0 in (
        h.opening,
        is-write l q h.opening h.write legal (begun-before l k h.opening h.write h.opened) h.changes,
        subst (λ (m : ℕ). h.opening < m) (length-before l k _ here) (begun-below (before l k) h.opening h.write h.opened),
        λ n u e g early entry. late-answer o p held h n u e g early entry,
      )
