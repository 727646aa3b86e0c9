-- A write that was answered before a GET joined an exchange, or was served what it came to, was answered before that
-- was opened.
use Rattle.std.proofs.Common.{◌≡◌, ◌≢◌, ◌⊎◌, ℕ, ◌<◌, ◌≤◌, true, false, inl, inr, List, length, Option, Some, None, refl, sym, ap, subst, ◌∙◌, arith}
use Rattle.std.specs.Prelude.{is_none}
use Rattle.std.proofs.lemmas.Bool.Decides.{eqb_tells, leb_tells}
use Rattle.std.proofs.lemmas.Bool.{false≢true}
use Rattle.coap_codec.specs.Spelling.{Content}
use Rattle.coap_codec.specs.declared.block.Block.{Block}
use Rattle.uri_map.specs.declared.peer.Peer.{Peer}
use Rattle.ask_model.specs.declared.cause.Cause.{Cause}
use Rattle.ask_model.specs.declared.cause.Cause.TheVariants as C
use Rattle.ask_model.specs.Requests.{CoapRequest, Sense, Requests}
use Rattle.ask_model.specs.Sharing.{asked_place}
use Rattle.ask_model.specs.Views.{Ask}
use Rattle.journal_book.specs.Entries.{Grounds, Live, Kept, Fault, Asks, Hears, Answers}
use Rattle.history_laws.specs.Readings.{Noted, Note, Plain, Begins, Renews, Joins, Serves, entries, at, before, noted}
use Rattle.history_laws.specs.Connections.{is_open, is_sealed}
use Rattle.history_laws.specs.Exchanges.{Begun, begun, End, end_of}
use Rattle.history_laws.specs.Joining.{outrun}
use Rattle.history_laws.specs.Justified.{IsAsk, IsRefused, Caused, HasGrounds, AskNote, reads_by, reads_in, reads, pending, Follows, MayCome, Legal}
use Rattle.history_laws.specs.Carrying.{carried}
use Rattle.history_laws.specs.Grounds.{IsWriteEnd}
use Rattle.history_laws.proofs.CallerLemmas.{copied-current, at-before, at-below, at-same, at-still, before-twice, end-since, ends-first, follows-at, joins-is, legal-before, none-some, opening-begun, unoutrun-earlier}
use Rattle.history_claims.specs.Headline.{WasReplied, IsWriteAnswer}
use Rattle.history_claims.proofs.Entries.{entries-at, grows}
use Rattle.history_claims.proofs.Asking.{AnswersAsk, answers-ask}
use Rattle.history_claims.proofs.Unsent.{Over, sealed-still}
use Rattle.history_claims.proofs.Hands.{ends-after, none-comes, not-at-ask, no-input}
use Rattle.history_claims.proofs.Pending.{senses, asks-something, over-grounds}
use Rattle.history_claims.proofs.Alike.{get-method, same-get, stored-get}

-- what stands there is an ask
abbrev pub IsAskedAt : List Noted → ℕ → Type 0
IsAskedAt l o = (t : ℕ) × (d : ℕ) × (b : Ask) × (note : Note) × (at l o ≡ Some (noted t (Asks d b) note))

serves-plain : (js : List ℕ) → Serves js ≡ Plain → ⊥
serves-plain js e = cc

-- An ask that was turned away has that as the cause of its answer.
module _ (l : List Noted) (n o s d : ℕ) (b : Ask) (q : CoapRequest) (stands : at l o ≡ Some (noted s (Asks d b) Plain)) (sense : b.sense ≡ Requests q) where
  not-refused : (cause : Cause) → IsRefused (before l n) o cause → ⊥
  not-refused cause h =
      let same = at-same l o _ _ (at-before l n o _ h.asked.stands) stands in
      asks-something q cause h.status (sym h.sense ∙ (senses h.asked.moment s h.conn d h.ask b h.asked.note Plain same ∙ sense))

  reads-none : (p : ℕ) → reads (before l n) o ≡ Some p → ⊥
  reads-none p r = go (at (before l n) o) refl r
    where
      go : (x : Option Noted) → at (before l n) o ≡ x → reads_in o x ≡ Some p → ⊥
      go None is e = none-some p e
      go (Some x) is e =
          none-some p (subst (λ (v : Noted). reads_by o v.note ≡ Some p) (at-same l o x (noted s (Asks d b) Plain) (at-before l n o x is) stands) e)

  busy-cause : (t j : ℕ) (cause : Cause) → Caused (before l n) t o cause j → Fault cause j ≡ Fault C.Busy o
  busy-cause t j C.Busy h = ap (λ (j : ℕ). Fault C.Busy j) h.0
  busy-cause t j C.Timeout h = absurd (reads-none h.0 h.1)
  busy-cause t j C.Reset h = absurd (reads-none h.0 h.1)
  busy-cause t j C.NotUnderstood h = absurd (reads-none h.0 h.1)
  busy-cause t j C.BadHttp h = absurd (not-refused C.BadHttp h.2)
  busy-cause t j C.NoMap h = absurd (not-refused C.NoMap h.2)
  busy-cause t j C.Method h = absurd (not-refused C.Method h.2)
  busy-cause t j C.Media h = absurd (not-refused C.Media h.2)

  busy-grounds : (t : ℕ) (g : Grounds) → HasGrounds (before l n) t o g → g ≡ Fault C.Busy o
  busy-grounds t (Live js) (inl h) = absurd (reads-none h.0 h.4)
  busy-grounds t (Live js) (inr h) = absurd (reads-none h.0 h.4)
  busy-grounds t (Kept js) h = absurd (serves-plain js (ap (λ (x : Noted). x.note) (at-same l o _ _ (at-before l n o _ h.2) stands)))
  busy-grounds t (Fault cause j) h = busy-cause t j cause h

-- What isn't a GET opens an exchange, or is turned away.
write-note : (l : List Noted) (t : ℕ) (q : CoapRequest) (note : Note) → AskNote l t (Requests q) note → q.method ≢ 1 → (note ≡ Begins q) ⊎ (note ≡ Plain)
write-note l t q (Begins r) h other = inl (ap Begins h.0)
write-note l t q (Renews r s) h other = absurd (other (get-method q h.3))
write-note l t q (Joins o) h other = let it = joins-is l q o h in absurd (other (same-get q it.exchange.request it.same))
write-note l t q (Serves js) h other = absurd (other (get-method q (stored-get l q h.0 h.1)))
write-note l t q Plain h other = inr refl
write-note l t q note h other = absurd h

ask-note : (l : List Noted) (t c : ℕ) (a : Ask) (q : CoapRequest) (note : Note) → Follows l t (Asks c a) note → a.sense ≡ Requests q
    → AskNote l t (Requests q) note
ask-note l t c a q note may sense = subst (λ (s : Sense). AskNote l t s note) sense may.3

pub is-ended : (o : Option End) → is_none o ≡ false → (x : End) × (o ≡ Some x)
is-ended None e = absurd (false≢true (sym e))
is-ended (Some x) e = (x, refl)

-- an ask comes while the journal isn't sealed
pub unsealed : (l : List Noted) (k c : ℕ) (a : Ask) → Legal l → IsAsk l k c a → is_sealed (before l k) ≡ false
unsealed l k c a legal ask = comes (before l k) ask.moment c a ask.note (follows-at l k _ legal ask.stands)
  where
    comes : (v : List Noted) (s d : ℕ) (b : Ask) (note : Note) → Follows v s (Asks d b) note → is_sealed v ≡ false
    comes v s d b note may = may.0.0

-- the write, its answer in the entry n, and the ask k for q
module _ (l : List Noted) (k conn : ℕ) (a : Ask) (q : CoapRequest) (legal : Legal l) (ask : IsAsk l k conn a)
    (n : ℕ) (w : IsWriteAnswer (entries l) q n) (lt : n < k) where
  abbrev write : Ask
  write = record { came = w.write.asked.came; sense = Requests w.write.request; rules = w.write.asked.rules }

  there : (note : Note) × (at l w.ask ≡ Some (noted w.write.moment (Asks w.write.conn write) note))
  there = entries-at l w.ask _ w.write.asked.stands

  answer : (note : Note) × (at l n ≡ Some (noted w.moment (Answers w.write.conn w.ask w.grounds) note))
  answer = entries-at l n _ w.answers

  its : AnswersAsk l n w.moment w.write.conn w.ask w.grounds × (length (before l n) ≡ n)
  its = answers-ask l n w.moment w.write.conn w.ask w.grounds legal w.answers

  asked-before : w.ask < n
  asked-before =
      let it = its.0.asked in
      subst (λ (m : ℕ). w.ask < m) its.1 (at-below (before l n) w.ask _ it.stands)

  begins : there.0 ≡ Begins w.write.request
  begins =
      let follows = follows-at l w.ask _ legal there.1 in
      elim (write-note (before l w.ask) w.write.moment w.write.request there.0 (ask-note (before l w.ask) w.write.moment w.write.conn write w.write.request there.0 follows refl) w.write.changes) [
        | inl is ↦ is
        | inr is ↦
            let plain = subst (λ (note : Note). at l w.ask ≡ Some (noted w.write.moment (Asks w.write.conn write) note)) is there.1 in
            elim (w.had_room) [
              | inl not ↦ absurd (not (busy-grounds l n w.ask w.write.moment w.write.conn write w.write.request plain refl w.moment w.grounds its.0.grounds))
              | inr it ↦ absurd (unreplied plain it)
            ]
      ]
    where
      comes : (v : List Noted) (s : ℕ) (p : Peer) (b : List ℕ) (note : Note) → Follows v s (Hears p b) note → MayCome v
      comes v s p b note may = may.0

      unreplied : at l w.ask ≡ Some (noted w.write.moment (Asks w.write.conn write) Plain) → WasReplied (entries l) n w.ask w.write.request → ⊥
      unreplied plain (block, j, m, less, it) =
          let sent = it.sent_for.after in
          let came = it.response.after in
          let heard = entries-at l j _ it.response.heard.stands in
          none-comes l n w.ask w.write.conn w.write.moment w.moment write w.grounds Plain answer.0 legal plain answer.1
          (subst (λ (x : Option Noted). reads_in w.ask x ≡ None) (sym plain) refl)
          j _ (omega (arith, sent, came)) less heard.1
          (comes (before l j) it.response.moment w.write.request.peer it.response.heard.bytes heard.0 (follows-at l j _ legal heard.1))

  opens : at l w.ask ≡ Some (noted w.write.moment (Asks w.write.conn write) (Begins w.write.request))
  opens = subst (λ (note : Note). at l w.ask ≡ Some (noted w.write.moment (Asks w.write.conn write) note)) begins there.1

  over : Over w.ask (before l n)
  over = over-grounds l n w.ask w.write.moment w.write.conn write (Begins w.write.request) w.write.request refl refl opens refl w.moment w.grounds its.0.grounds

  twice : before (before l k) n ≡ before l n
  twice = before-twice l k n _ ask.stands lt

  not-sealed : is_sealed (before l n) ≡ true → ⊥
  not-sealed sealed =
      let now = grows (λ (l : List Noted). is_sealed l ≡ true) (λ x l h. sealed-still x.written.deed (is_sealed l) h) (before l k) n
      (subst (λ (v : List Noted). is_sealed v ≡ true) (sym twice) sealed) in
      false≢true (sym (unsealed l k conn a legal ask) ∙ now)

  -- it ended before its answer
  ended-write : (x : End) → end_of (before l n) w.ask ≡ Some x → IsWriteEnd l q.peer q.target.path x.number
  ended-write x ended =
      record {
        opening = w.ask;
        write = record { since = w.write.moment; request = w.write.request };
        opened = opening-begun l w.ask w.write.moment (Asks w.write.conn write) w.write.request opens;
        changes = w.write.changes;
        place = w.write.place;
        how = x.how;
        ended = end-since l n w.ask x ended;
      }

  ended-sooner : (x : End) → end_of (before l n) w.ask ≡ Some x → x.number < n
  ended-sooner x ended =
      let first = ends-first (before l n) w.ask x.number x.how ended in
      subst (λ (m : ℕ). x.number < m) its.1 (at-below (before l n) x.number first.0 first.1)

  -- Then nothing is stored that came of what the journal begins with.
  pub carried-unwritten : (o : ℕ) (b : Begun) → carried l o ≡ Some b → outrun (before l k) (asked_place q) o ≡ false → ⊥
  carried-unwritten o b is fresh =
      elim (over) [
        | inl end ↦
            let x = is-ended (end_of (before l n) w.ask) end in
            let sooner = ended-sooner x.0 x.1 in
            let write = ended-write x.0 x.1 in
            copied-current l o x.0.number b q legal is write
            (unoutrun-earlier l k o x.0.number q legal (at-below l k _ ask.stands) fresh write (omega (arith, sooner, lt)))
        | inr sealed ↦ not-sealed sealed
      ]

  -- before which no write had outrun that of the ask o
  module _ (o : ℕ) (opening : IsAskedAt l o) (fresh : outrun (before l k) (asked_place q) o ≡ false) where
    -- it ended before the exchange was opened
    ended-before : (x : End) → end_of (before l n) w.ask ≡ Some x → x.number < o
    ended-before x ended =
        let soon = ended-sooner x ended in
        let all = end-since l n w.ask x ended in
        let le : x.number ≤ o =
        unoutrun-earlier l k o x.number q legal (at-below l k _ ask.stands) fresh
        (ended-write x ended) (omega (arith, soon, lt)) in
        elim (eqb_tells x.number o) [
          | inl u ↦
              absurd (not-at-ask l w.ask x.number opening.0 opening.1 opening.2 opening.3 x.how all
              (subst (λ (i : ℕ). at l i ≡ Some (noted opening.0 (Asks opening.1 opening.2) opening.3)) (sym u.1) opening.4))
          | inr u ↦ let not = u.1 in omega (arith, le, not)
        ]

    answered-before : (x : End) → end_of (before l n) w.ask ≡ Some x → n < o
    answered-before x ended =
        let sooner = ended-before x ended in
        elim (leb_tells o n) [
          | inl u ↦ elim (eqb_tells o n) [
            | inl v ↦
                absurd (no-answer opening.0 w.moment opening.1 w.write.conn w.ask opening.2 w.grounds _ answer.0
                (at-same l n _ _ (subst (λ (i : ℕ). at l i ≡ Some (noted opening.0 (Asks opening.1 opening.2) opening.3)) v.1 opening.4) answer.1))
            | inr v ↦ let le = u.1 in let not = v.1 in absurd (came-between x ended sooner (omega (arith, le, not)))
          ]
          | inr u ↦ u.1
        ]
      where
        no-answer : (s u c d k : ℕ) (b : Ask) (g : Grounds) (v z : Note) → noted s (Asks c b) v ≡ noted u (Answers d k g) z → ⊥
        no-answer s u c d k b g v z e = go (ap (λ (x : Noted). x.written.deed) e)
          where
            go : Asks c b ≡ Answers d k g → ⊥
            go f = cc

        still-open : Follows (before l n) w.moment (Answers w.write.conn w.ask w.grounds) answer.0 → is_open (before l n) w.write.conn ≡ true
        still-open may = may.1

        still-waits : Follows (before l n) w.moment (Answers w.write.conn w.ask w.grounds) answer.0 → pending (before l n) w.write.conn ≡ Some w.ask
        still-waits may = may.2

        comes : (v : List Noted) (s d : ℕ) (b : Ask) (note : Note) → Follows v s (Asks d b) note → MayCome v
        comes v s d b note may = may.0

        came-between : (x : End) → end_of (before l n) w.ask ≡ Some x → x.number < o → o < n → ⊥
        came-between x ended sooner soon =
            let early = legal-before l n legal in
            let last = at-still l n o _ _ answer.1 soon opening.4 in
            let follows = follows-at l n _ legal answer.1 in
            let own : reads (before l n) w.ask ≡ Some w.ask =
            subst (λ (x : Option Noted). reads_in w.ask x ≡ Some w.ask) (sym (at-still l n w.ask _ _ answer.1 asked-before opens)) refl in
            let after = ends-after (before l n) w.ask x.number x.how early ended in
            no-input (before l n) w.write.conn w.ask w.ask x.number x.how its.0.ask early its.0.asked own ended after (still-open follows) (still-waits follows)
            o _ sooner last (comes (before (before l n) o) opening.0 opening.1 opening.2 opening.3 (follows-at (before l n) o _ early last))

    pub fresh-at : n < o
    fresh-at =
        elim (over) [
          | inl end ↦ let x = is-ended (end_of (before l n) w.ask) end in answered-before x.0 x.1
          | inr sealed ↦ absurd (not-sealed sealed)
        ]
