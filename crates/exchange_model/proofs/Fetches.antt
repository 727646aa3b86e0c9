-- An exchange that a notification opens: what is kept of it, and its first message.
use Rattle.std.proofs.Common.{◌≡◌, ℕ, ◌+◌, ◌<◌, ◌≤◌, Bool, true, false, not, cond, eqb, List, [], ◌∷◌, ◌++◌, length, Option, Some, None, inl, inr, refl, sym, ap, subst, ◌∙◌, arith}
use Rattle.std.specs.Prelude.{is_none}
use Rattle.std.proofs.lemmas.Bool.{and_from, and_parts}
use Rattle.std.proofs.lemmas.Bool.Decides.{Decides-eqb}
use Rattle.limits.specs.declared.TheConstants.{MAX_BODY_LEN}
use Rattle.coap_codec.specs.Spelling.{Content, Spells}
use Rattle.uri_map.specs.declared.peer.Peer.{Peer}
use Rattle.blockwise.specs.Downloads.{no_pieces}
use Rattle.blockwise.specs.Uploads.{begun as begun_as}
use Rattle.cache_key.specs.Digests.{digests_of}
use Rattle.observe_share.specs.declared.registration.Registration.{Registration}
use Rattle.resp_cache.specs.Stored.{Stored}
use Rattle.ask_model.specs.Requests.{CoapRequest, Manner, Plainly, Refuses, Requests, Sense, observing_if}
use Rattle.ask_model.specs.Sharing.{asked_key, asked_place}
use Rattle.ask_model.specs.Views.{Ask}
use Rattle.journal_book.specs.Entries.{Deed, Asks, Opens, Sends, Hears, Passes, Answers, Shuts, Seals, Carries, Mark}
use Rattle.journal_book.specs.Entries as D
use Rattle.history_laws.specs.Numbering.{token_number}
use Rattle.history_laws.specs.Readings.{Noted, Note, Observation, Says, Starts, Joins, at, before, Begins, Renews}
use Rattle.history_laws.specs.Transmissions.{firsts, bears_token}
use Rattle.history_laws.specs.Progress.{Reply, Progress, Fetches, Gives, Ends, next_message, progress, step}
use Rattle.history_laws.specs.Exchanges.{Begun, ask_by, begins_by, begun, end_of, heard_for, is_going, kept, opens_by, rank, replies, started_by, submitted, submitted_by, Turn, waits_by, waits_for}
use Rattle.history_laws.specs.Hearing.{answers, can_be_remembered, notice_of, repeated}
use Rattle.history_laws.specs.Joining.{joins}
use Rattle.history_laws.specs.Justified.{AskNote, CopiedNote, Follows, Legal}
use Rattle.history_laws.specs.Observing.{as_first, asked_last, asked_last_by, manner, manner_by, observes, outdated, tag_of, unless_replied, wants_in}
use Rattle.history_laws.proofs.CallerLemmas.{at-new, begins-at, begun-below, behind-at, entries-length, eqb-itself, eqb-same, IsGoing, joins-is, none-outran, none-some, not-yet, opened-rank, opens-begun, replies-none, some-is, unbegun}
use Rattle.history_links.specs.Steps.{GoesOn, heard}
use Rattle.history_links.proofs.CallerLemmas.{hit, still-after}
use Rattle.exchange_model.specs.declared.kept.Exchange.{Exchange}
use Rattle.exchange_model.specs.declared.kept.Work.TheVariants as W
use Rattle.exchange_model.specs.State.{State}
use Rattle.exchange_model.specs.Reads.{ExchangeIn, got_for, got_in, IsNewest, kept_in, kept_yet}
use Rattle.exchange_model.specs.Matters.{asked_in, progress_with, starting, work_by, answered_in}
use Rattle.exchange_model.specs.Hearing.{got_by, Numbers}
use Rattle.exchange_model.specs.Laws.{IsContinued, MayHear}
use Rattle.exchange_model.proofs.Answered.{ended, start}
use Rattle.exchange_model.proofs.Bare.{bare_progress}
use Rattle.exchange_model.proofs.Begins.{unborne}
use Rattle.exchange_model.proofs.Fetched.{IsMore, step-more}
use Rattle.exchange_model.proofs.Fresh.{outdated-now}
use Rattle.exchange_model.proofs.Hearing.{end-kept, replies-kept}
use Rattle.exchange_model.proofs.Onward.{work-goes}
use Rattle.exchange_model.proofs.Outrun.{asked-by}
use Rattle.exchange_model.proofs.Pieces.{unsent-new}
use Rattle.exchange_model.proofs.Retold.{whole-bare}
use Rattle.exchange_model.proofs.ToldAlone.{IsStarted}

-- Nobody has asked yet for what is opened in a later entry.

unasked-by : (l : List Noted) (o t : ℕ) (d : Deed) (note : Note) → length l < o → asked_last l o ≡ 0 → Legal l → Follows l t d note → asked_last_by o (length l) t note (asked_last l o) ≡ 0
unasked-by l o t d (Joins p) below old legal follows = by (eqb p o) refl
  where
    asked : (s : Ask) → AskNote l t s.sense (Joins p) → (q : CoapRequest) × (joins l q ≡ Some p)
    asked a note = of a.sense note
      where
        of : (s : Sense) → AskNote l t s (Joins p) → (q : CoapRequest) × (joins l q ≡ Some p)
        of (Requests q) note = (q, note)
        of (Refuses cause status) note = absurd note

    joined : (d : Deed) → Follows l t d (Joins p) → (q : CoapRequest) × (joins l q ≡ Some p)
    joined (Asks c a) f = asked a f.3
    joined (Opens c) f = absurd f.2
    joined (Sends q b w) f = absurd f.1
    joined (Hears q b) f = absurd f.3
    joined Passes f = absurd f.1
    joined (Answers c k g) f = absurd f.4
    joined (Shuts c) f = absurd f.2
    joined Seals f = absurd f.2
    joined (Carries k mark done) f = absurd (never mark done f.2)
      where
        never : (mark : Mark) (done : D.Done) → CopiedNote l t mark done (Joins p) → ⊥
        never D.Past (D.Sent q b w) h = h
        never D.Past (D.Heard q b) h = h
        never D.Ground (D.Asked c a) h = h
        never D.Ground (D.Sent q b w) h = h
        never D.Ground (D.Heard q b) h = h
        never mark done h = h

    by : (b : Bool) → eqb p o ≡ b → cond b t (asked_last l o) ≡ 0
    by false e = old
    by true e =
        let it = joined d follows in
        let open_one = joins-is l it.0 p it.1 in
        let early = begun-below l p open_one.exchange open_one.opened in
        let same = eqb-same p o e in
        absurd (omega (arith, early, same, below))
unasked-by l o t d (Begins q) below old legal follows = by (eqb (length l) o) refl
  where
    by : (b : Bool) → eqb (length l) o ≡ b → cond b t (asked_last l o) ≡ 0
    by false e = old
    by true e = let same = eqb-same (length l) o e in absurd (omega (arith, same, below))
unasked-by l o t d (Renews q s) below old legal follows = by (eqb (length l) o) refl
  where
    by : (b : Bool) → eqb (length l) o ≡ b → cond b t (asked_last l o) ≡ 0
    by false e = old
    by true e = let same = eqb-same (length l) o e in absurd (omega (arith, same, below))
unasked-by l o t d note below old legal follows = old

unasked : (l : List Noted) (o : ℕ) → Legal l → length l ≤ o → asked_last l o ≡ 0
unasked [] o legal le = refl
unasked (x ∷ l) o legal le =
    unasked-by l o x.written.moment x.written.deed x.note (omega (arith, le)) (unasked l o legal.0 (omega (arith, le))) legal.0 legal.2

going-real : (u : Progress) → IsGoing (bare_progress u) → IsGoing u
going-real (Fetches k pieces got) g = tt
going-real (Gives upload got) g = tt
going-real (Ends how) g = absurd g

module _ (l : List Noted) (t : ℕ) (p : Peer) (d : List ℕ) (m : Content) (n : Numbers) (S : State) (h : MayHear l t p d S)
    (spelled : Spells m d) (none : repeated l t p m ≡ None) (room : can_be_remembered l t p m ≡ true)
    (is : answered_in (ended l t p d m S h none room) S.exchanges ≡ None) (r : Registration) (e : Exchange) (u : Progress)
    (k : IsStarted l t p d m S h none room is r e u) (g : IsContinued e u n S) where
  abbrev x : Noted
  x = heard l t p d m

  abbrev q : CoapRequest
  q = k.exchange.request

  abbrev i : ℕ
  i = k.is_told.sending

  abbrev first : Reply
  first = record { number = length l; sending = i; message = m }

  abbrev pub real : Progress
  real = as_first (length l) i m

  note-is : x.note ≡ Says m (Some i) (record { place = (notice_of l t p m (answers l p m)).place; observation = Starts r.opening q })
  note-is =
      ap (λ (to : Option ℕ). Says m to (notice_of l t p m (answers l p m))) k.is_told.to
      ∙ ap (λ (o : Observation). Says m (Some i) (record { place = (notice_of l t p m (answers l p m)).place; observation = o })) k.starts

  pub opens : opens_by x.note ≡ Some q
  opens = ap started_by k.starts

  pub opened : begun (x ∷ l) (length l) ≡ Some (record { since = t; request = q })
  opened = opens-begun (x ∷ l) (length l) t (Hears p d) x.note q opens (at-new x l)

  yet : (waits_for l (length l) ≡ None) × (end_of l (length l) ≡ None)
  yet = unbegun l (length l) h.before.reads.legal (not-yet l)

  unhit-new : hit (answers l p m) m (waits_for l (length l)) ≡ false
  unhit-new = ap (hit (answers l p m) m) yet.0

  unwaited : waits_for (x ∷ l) (length l) ≡ None
  unwaited =
      ap (λ (v : Turn). waits_by v (waits_for l (length l))) (still-after l t p d m (answers l p m) (notice_of l t p m (answers l p m)) (length l) unhit-new)
      ∙ yet.0

  pub goes-new : is_going (x ∷ l) (length l) ≡ true
  goes-new = ap is_none (end-kept l t p d m (length l) unhit-new ∙ yet.1)

  pub unreplied : replies (x ∷ l) (length l) ≡ []
  unreplied = replies-kept l t p d m (length l) unhit-new ∙ (replies-none l (length l) h.before.reads.legal (not-yet l)).1

  heard-new : heard_for (x ∷ l) (length l) ≡ first ∷ []
  heard-new =
      ap (λ (bs : List Reply). bs ++ replies (x ∷ l) (length l)) (begins-at (x ∷ l) (length l) x (at-new x l) ∙ ap (begins_by (length l)) note-is)
      ∙ ap (λ (rs : List Reply). first ∷ rs) unreplied

  method-is : eqb q.method 1 ≡ true
  method-is = (and_parts (eqb q.method 1) _ k.get).0

  progress-new : progress q (heard_for (x ∷ l) (length l)) ≡ real
  progress-new =
      ap (progress q) heard-new
      ∙ ap (λ (b : Bool). step (cond b (Fetches 0 no_pieces []) (Gives (begun_as (length q.body) 6) [])) first) method-is

  pub here : length S.entries ≡ length l
  here = ap length (sym h.before.reads.entries_are) ∙ entries-length l

  pub same-how : u ≡ bare_progress real
  same-how = k.first ∙ (ap (λ (j : ℕ). as_first j 0 m) here ∙ whole-bare (length l) i m)

  goes-on-now : IsGoing real
  goes-on-now = going-real real (subst IsGoing same-how k.goes)

  pub got-first : got_in (x ∷ l) (length l) ≡ got_by real
  got-first = ap (λ (b : Option Begun). got_for b (heard_for (x ∷ l) (length l))) opened ∙ ap got_by progress-new

  -- It has got that piece, or begins anew.
  pub is-first : IsMore [] first (got_by real)
  is-first = step-more (Fetches 0 no_pieces []) first goes-on-now

  kept-none : kept (x ∷ l) (length l) ≡ None
  kept-none = rw (eqb-itself (length l)) refl

  pub keeps-none : kept_in (x ∷ l) (length l) ≡ None
  keeps-none = ap (kept_yet (kept (x ∷ l) (length l))) unreplied ∙ kept-none

  observes-not : observes (x ∷ l) (length l) ≡ false
  observes-not =
      ap (unless_replied (wants_in (before (x ∷ l) (length l)) (at (x ∷ l) (length l)))) unreplied
      ∙ ap (wants_in (before (x ∷ l) (length l))) (at-new x l)

  pub apart : bears_token l n.token ≡ false
  apart = unborne n.token S.issued g.number (firsts l) h.before.reads.tokens_are

  numbered : token_number n.token ≡ (start l t p d m S h none room).issued + rank (x ∷ l) (length l)
  numbered = g.number ∙ (sym h.before.reads.issued_are ∙ sym (ap (λ (j : ℕ). h.before.reads.start.issued + j) (opened-rank x l h.before.reads.legal)))

  -- This is kept of it.
  pub kept-first : ExchangeIn h.before.reads.start (x ∷ l) (record e { token = n.token })
  kept-first =
      subst (λ (f : Exchange). ExchangeIn h.before.reads.start (x ∷ l) (record f { token = n.token })) (sym k.begins)
      (subst (λ (o : ℕ). ExchangeIn h.before.reads.start (x ∷ l) (record (starting t p r u S) { opening = o; token = n.token })) (sym here) (record {
        request = q;
        opening = opened;
        peer = k.peer;
        method = (Decides-eqb q.method 1).0 method-is;
        number = sym numbered;
        sending = unsent-new l h.before.reads.legal;
        awaits = unwaited;
        observes = observes-not;
        asked = unasked l (length l) h.before.reads.legal (omega arith);
        named = λ v. v;
        sent = apart;
        current = ap not (sym (none-outran (x ∷ l) (asked_place q) (length l) (omega arith)));
        newest = λ get. newest-first (got_by real) is-first got-first;
        newest_kept = λ s has. absurd (none-some s (sym keeps-none ∙ has));
        progress = progress-first;
        short = short;
        digests = ap digests_of (sym k.key);
        behind = behind-at (x ∷ l) (length l) x (at-new x l) ∙ ap (ask_by (length l)) note-is;
      }))
    where
      newest-of : (rs : List Reply) → IsMore [] first rs → IsNewest (x ∷ l) (asked_key q) rs true
      newest-of [] more = tt
      newest-of (y ∷ rs) (inl gone) = absurd (cc gone)
      newest-of (y ∷ rs) (inr one) = ap (outdated (x ∷ l) (asked_key q)) (number-is y rs one) ∙ outdated-now x l (asked_key q)
        where
          number-is : (y : Reply) (rs : List Reply) → (y ∷ rs) ≡ first ∷ [] → y.number ≡ length l
          number-is y rs f = ap (λ (v : Reply). v.number) (first-is y rs f)
            where
              first-is : (y : Reply) (rs : List Reply) → (y ∷ rs) ≡ first ∷ [] → y ≡ first
              first-is y rs f = cc

      newest-first : (rs : List Reply) → IsMore [] first rs → got_in (x ∷ l) (length l) ≡ rs → IsNewest (x ∷ l) (asked_key q) (got_in (x ∷ l) (length l)) true
      newest-first rs more same = subst (λ (got : List Reply). IsNewest (x ∷ l) (asked_key q) got true) (sym same) (newest-of rs more)

      progress-first : progress q (heard_for (x ∷ l) (length l)) ≡ progress_with (work_by u (W.Fetches 0 no_pieces)) (got_in (x ∷ l) (length l))
      progress-first =
          progress-new
          ∙ (work-goes real (W.Fetches 0 no_pieces) goes-on-now
          ∙ (ap (λ (v : Progress). progress_with (work_by v (W.Fetches 0 no_pieces)) (got_by real)) (sym same-how)
          ∙ ap (progress_with (work_by u (W.Fetches 0 no_pieces))) (sym got-first)))

      short : length q.body ≤ MAX_BODY_LEN
      short =
          let empty = (Decides-eqb (length q.body) 0).0 (and_parts (is_none q.format) _ (and_parts (eqb q.method 1) _ k.get).1).1 in
          omega (arith, empty)

  request-is : g.request ≡ q
  request-is =
      some-is g.request q (sym g.asked
      ∙ (ap (λ (f : Exchange). asked_in S.entries f.ask) k.begins
      ∙ asked-by l S h.before.reads r.opening k.opened.conn k.opened.ask q (record { moment = k.exchange.since; note = k.opened.note; stands = k.opened.stands }) k.opened.sense))

  manner-new : manner (x ∷ l) (length l) ≡ Plainly
  manner-new =
      ap (λ (v : Option Stored). manner_by (tag_of v (replies (x ∷ l) (length l))) (observes (x ∷ l) (length l))) kept-none
      ∙ ap observing_if observes-not

  submitted-new : submitted (x ∷ l) (length l) ≡ length l
  submitted-new = ap (submitted_by (length l)) unreplied

  next-is : next_message (manner (x ∷ l) (length l)) q (progress q (heard_for (x ∷ l) (length l))) 0 n.token ≡ Some g.message
  next-is =
      ap (λ (b : Manner). next_message b q (progress q (heard_for (x ∷ l) (length l))) 0 n.token) manner-new
      ∙ (ap (λ (v : Progress). next_message Plainly q v 0 n.token) progress-new
      ∙ (next-bare real ∙ (ap (λ (v : Progress). next_message Plainly q v 0 n.token) (sym same-how)
      ∙ subst (λ (a : CoapRequest). next_message Plainly a u 0 n.token ≡ Some g.message) request-is g.next)))
    where
      next-bare : (v : Progress) → next_message Plainly q v 0 n.token ≡ next_message Plainly q (bare_progress v) 0 n.token
      next-bare (Fetches j pieces got) = refl
      next-bare (Gives upload got) = refl
      next-bare (Ends how) = refl

  pub goes-first : GoesOn h.before.reads.start l x (length l) n.token n.text
  goes-first = record {
    is = and_from _ _ (ap (λ (a : ℕ). eqb a (length l)) submitted-new ∙ eqb-itself (length l)) goes-new;
    since = t;
    request = q;
    opening = opened;
    message = g.message;
    next = next-is;
    spelled = g.spelled;
    token_size = g.token_size;
    token_apart = apart;
    numbered = g.number ∙ sym h.before.reads.issued_are;
  }
