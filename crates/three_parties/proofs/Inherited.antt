-- What a journal begins with as copies was heard in one before, and shows what the resource held then.
use Rattle.std.proofs.Common.{◌≡◌, ◌≢◌, ◌⊎◌, inl, inr, ℕ, ◌<◌, ◌≤◌, true, false, List, [], ◌∷◌, ◌++◌, length, take, Some, refl, sym, ap, subst, ◌∙◌, arith}
use Rattle.std.specs.Prelude.{slice_get}
use Rattle.std.specs.List.{AllByRecursion, Contains}
use Rattle.std.proofs.lemmas.Bool.{false≢true}
use Rattle.std.proofs.lemmas.List.Elements.{Contains-append_left, Contains-push}
use Rattle.coap_codec.specs.Spelling.{Content}
use Rattle.ask_model.specs.Requests.{CoapRequest}
use Rattle.journal_book.specs.Entries.{Mark, Ground, Done, Sent, Carries, Live, Answers, Written}
use Rattle.history_laws.specs.Readings.{before as before_it, carries, entries}
use Rattle.history_laws.specs.Carrying.{carried}
use Rattle.history_laws.specs.Exchanges.{Begun}
use Rattle.history_laws.proofs.CallerLemmas.{at-still, copy-at, follows-at}
use Rattle.history_claims.specs.Headline.{IsEntry, IsFirstSending, IsHeard, RestsOn}
use Rattle.history_claims.specs.Carried.{IsAskCopied}
use Rattle.demo_origin.specs.Calls.{Call}
use Rattle.demo_origin.specs.Done.{told_by, told_in}
use Rattle.demo_origin.specs.Origins.{fresh}
use Rattle.demo_origin.specs.Values.{Device, Relation}
use Rattle.demo_origin.specs.declared.state.Held.{Held}
use Rattle.exchange_model.specs.Keeping.{Kept}
use Rattle.exchange_model.specs.Rotating.{copied_entries, taken}
use Rattle.exchange_model.specs.State.{State}
use Rattle.story_laws.specs.Lateness.{ArePunctual}
use Rattle.story_laws.specs.Reads.{ShowsHeld as ShowsSo}
use Rattle.story_laws.proofs.Ordering.{done-since, sent-first}
use Rattle.story_laws.proofs.Posting.{noted-at}
use Rattle.story_laws.proofs.Showing.{ShowsPart, answer-part, given-ordered, held-shown, held-shown-is, part-more}
use Rattle.three_parties.specs.Flights.{device_at, proxy_at}
use Rattle.three_parties.specs.Reads.{AreAllDone, AreDone}
use Rattle.three_parties.specs.Scenes.{Scene}
use Rattle.three_parties.proofs.Carrying.{IsReplyCopied, WasAskedThere, ask-earlier, ask-there, reply-there}
use Rattle.three_parties.proofs.Chapters.{IsPast}
use Rattle.three_parties.proofs.Calls.{moment_then}
use Rattle.three_parties.proofs.Executing.{Book, book-of, calls-in-time, calls-least, calls_before, done-at, networks, ordered}
use Rattle.three_parties.proofs.Knowing.{Known}
use Rattle.three_parties.proofs.Linked.{Begins}
use Rattle.three_parties.proofs.Lists.{all-at, all-joined, got-both}
use Rattle.three_parties.proofs.Outrunning.{EndedWrite, ended-early, never-ended, write-ended}
use Rattle.three_parties.proofs.Pages.{IsEarlier}
use Rattle.three_parties.proofs.Reading.{all-earlier}
use Rattle.three_parties.proofs.Stamping.{AreOwn}
use Rattle.three_parties.proofs.Timing.{more-told}

module _ (R : Relation) (block : ℕ) (resources : List Held) (s : Scene) (known : Known R (fresh block resources) s) (top : ℕ) where
  abbrev first_device : Device
  first_device = fresh block resources

  abbrev calls : List Call
  calls = known.tale.calls

  -- how many executions there were before a call
  abbrev count : ℕ → ℕ
  count a = length (told_in (take a calls))

  -- A message was sent in one of the journals before, and what was heard under its token at this moment shows what the resource held before, after the
  -- writes that were answered there, for each ask that was copied before it.
  pub record ShownBefore (before : List (List Written)) (h : List Written) (i heard_at : ℕ) (sent m : Content) : Type 0 where
    pub since : ℕ
    pub bound : ℕ
    pub by : moment_then 0 (take bound calls) ≤ heard_at
    pub journal : List Written
    pub among : Contains before journal
    pub number : ℕ
    pub first : IsFirstSending journal number since device_at sent
    pub part : ShowsPart since bound proxy_at first_device calls sent m
    pub done : (o : ℕ) (q : CoapRequest) → IsAskCopied h o q → o < i → q.peer ≡ device_at → AreAllDone before s.flights s.taken q (count part.place)

  -- So it is of all that was copied.
  abbrev pub IsInherited : List (List Written) → List Written → Type 0
  IsInherited before h =
      (i j : ℕ) (sent m : Content) → (c : IsReplyCopied h i j device_at sent m) → sent.code ≡ 1 → m.code ≡ 69 → ShownBefore before h i c.heard_at sent m

  -- A journal without copies inherits nothing.
  pub own-inherits : (before : List (List Written)) (h : List Written) → AreOwn h → IsInherited before h
  own-inherits before h own i j sent m c get content = absurd (false≢true (sym (all-at (λ (w : Written). carries w.deed ≡ false) h own i _ c.first)))

  -- ---- the journal is turned over

  module _ (before : List (List Written)) (t : ℕ) (S : State) (kept : Kept S) (page : IsPast first_device s.flights calls top S.entries)
      (punctual : ArePunctual page.stands.reading)
      (earlier : AllByRecursion (IsEarlier R first_device s known top page.begun) before) (inherited : IsInherited before S.entries) (more : List Written)
      (own : AreOwn more) where
    abbrev g : List Written
    g = S.entries

    abbrev ws : List Written
    ws = copied_entries t S

    abbrev book : Book R first_device s g
    book = book-of R first_device s known top g page

    -- a copy is one of those that it begins with
    in-copies : (i u k : ℕ) (mark : Mark) (done : Done) → IsEntry (ws ++ more) i u (Carries k mark done) → IsEntry ws i u (Carries k mark done)
    in-copies i u k mark done e = elim (got-both ws more i _ e) [
      | inl here ↦ here
      | inr later ↦ absurd (false≢true (sym (all-at (λ (w : Written). carries w.deed ≡ false) more own later.0 _ later.2)))
    ]

    abbrev copied-reply : (i j : ℕ) (sent m : Content) → IsReplyCopied (ws ++ more) i j device_at sent m → IsReplyCopied ws i j device_at sent m
    copied-reply i j sent m c = record {
      sent_at = c.sent_at;
      sent_as = c.sent_as;
      text = c.text;
      timeout = c.timeout;
      first = in-copies i c.sent_at c.sent_as Ground (Sent device_at c.text (Some c.timeout)) c.first;
      sent_spelled = c.sent_spelled;
      heard_at = c.heard_at;
      heard_as = c.heard_as;
      bytes = c.bytes;
      heard = in-copies j c.heard_at c.heard_as Ground _ c.heard;
      spelled = c.spelled;
      token = c.token;
      after = c.after;
    }

    copied-ask : (o : ℕ) (q : CoapRequest) → IsAskCopied (ws ++ more) o q → IsAskCopied ws o q
    copied-ask o q a = record {
      conn = a.conn;
      moment = a.moment;
      number = a.number;
      came = a.came;
      rules = a.rules;
      stands = in-copies o a.moment a.number Ground _ a.stands;
    }

    -- a write that was answered in the journal that is given out
    ended-in : (q : CoapRequest) (n u c w : ℕ) (js : List ℕ) → IsEntry g n u (Answers c w (Live js)) → (y : RestsOn g n c w js) → y.request.method ≢ 1
        → y.request.peer ≡ q.peer → y.request.target.path ≡ q.target.path → EndedWrite kept.reading q js
    ended-in q n u c w js answered y changes peer path =
        write-ended kept.reading g kept.rests.reads.legal kept.rests.reads.entries_are q n u c w js answered y changes peer path

    -- ---- the reply was heard in it

    module _ (i j : ℕ) (sent m : Content) (c : IsReplyCopied ws i j device_at sent m) (get : sent.code ≡ 1) (content : m.code ≡ 69)
        (f : IsFirstSending g c.sent_as c.sent_at device_at sent) (x : IsHeard g device_at c.heard_as c.heard_at m) where
      -- the calls before it was heard
      abbrev bound : ℕ
      bound = calls_before R first_device s g book page.stands punctual c.heard_as

      part : ShowsPart c.sent_at bound proxy_at first_device calls sent m
      part =
          let given = given-ordered R g device_at proxy_at block resources calls (calls_before R first_device s g book page.stands punctual) page.stands
          (ordered R first_device s g book page.stands punctual) device_at c.heard_as m c.heard_at refl x in
          part-more c.sent_at given.0.count bound proxy_at first_device calls sent m given.1
          (answer-part R g device_at proxy_at block resources calls device_at c.sent_as c.sent_at c.heard_as c.heard_at sent m page.stands
          (networks R first_device s g book page.stands punctual) f x given.0 c.token get content)

      shown : ShowsSo c.sent_at bound proxy_at first_device calls sent part.held.state
      shown = held-shown R proxy_at block resources calls c.sent_at bound sent m part.held.state known.tale.follow part refl

      place-is : shown.place ≡ part.place
      unfolding shown
      place-is = held-shown-is R proxy_at block resources calls c.sent_at bound sent m part.held.state known.tale.follow part refl

      since-then : page.begun ≤ part.place
      since-then =
          let after = sent-first R g device_at proxy_at block resources calls (calls_before R first_device s g book page.stands punctual) page.stands
          (networks R first_device s g book page.stands punctual) (ordered R first_device s g book page.stands punctual) c.sent_as c.sent_at bound device_at sent part.held.state f shown in
          let least = calls-least R first_device s g book page.stands punctual c.sent_as in
          let place = place-is in
          omega (arith, after, least, place)

      done-here : (o : ℕ) (q : CoapRequest) → IsAskCopied ws o q → o < i → q.peer ≡ device_at → AreDone g s.flights s.taken (length g) q (count part.place)
      done-here o q a lt to n u d w js answered y changes peer path class below =
          let ask = ask-there t S kept o q a in
          let ended = ended-in q n u d w js answered y changes peer path in
          let early = ended-early kept.reading g kept.rests.reads.legal kept.rests.reads.entries_are q a.number js ask.current ended in
          let rises = ask-earlier t S kept o i j q device_at sent m a c lt in
          let call = done-since R g device_at proxy_at block resources calls (calls_before R first_device s g book page.stands punctual) page.stands
          (networks R first_device s g book page.stands punctual) (ordered R first_device s g book page.stands punctual) c.sent_as c.sent_at bound device_at sent part.held.state f shown
          n u d w js y changes (peer ∙ to) class (λ k has. let late = ended.late k has in omega (arith, late, early, rises)) in
          let mine = done-at R first_device s g book page.stands punctual y.opening y.request js call.0 in
          let rank = known.order.ranks mine.0.place call.0.place mine.1 in
          let before_then = call.1 in
          let place = place-is in
          let told = more-told calls call.0.place part.place call.0.call call.0.executes.taken (omega (arith, before_then, place)) call.0.stands
          (ap told_by call.0.executes.comes) in
          (mine.0, omega (arith, rank, told))

      shown-here : ShownBefore (before ++ g ∷ []) (ws ++ more) i c.heard_at sent m
      shown-here = record {
        since = c.sent_at;
        bound = bound;
        by = calls-in-time R first_device s g book page.stands punctual c.heard_as c.heard_at x.bytes x.stands;
        journal = g;
        among = Contains-push before g;
        number = c.sent_as;
        first = f;
        part = part;
        done = λ o q a lt to.
            all-joined (λ (w : List Written). AreDone w s.flights s.taken (length w) q (count part.place)) before (g ∷ [])
            (all-earlier R block resources s known top g page punctual before earlier q to part.place since-then before earlier)
            (done-here o q (copied-ask o q a) lt to, tt);
      }

    -- ---- or in one before

    -- What stands before a copy is one.
    copies-first : (n i u k : ℕ) (mark : Mark) (done : Done) (w : Written) → IsEntry g i u (Carries k mark done) → n < i → slice_get g n ≡ Some w
        → carries w.deed ≡ true
    copies-first n i u k mark done w copy lt stands =
        let l = kept.reading in
        let legal = kept.rests.reads.legal in
        let same = kept.rests.reads.entries_are in
        let x = noted-at l g i u (Carries k mark done) same copy in
        let y = noted-at l g n w.moment w.deed same stands in
        copy-at (before_it l i) n _ (follows-at l i _ legal x.stands).0 (at-still l i n _ _ x.stands lt y.stands)

    module _ (i j : ℕ) (sent m : Content) (c : IsReplyCopied ws i j device_at sent m) (get : sent.code ≡ 1) (content : m.code ≡ 69)
        (x : IsReplyCopied g c.sent_as c.heard_as device_at sent m) (same : x.heard_at ≡ c.heard_at) where
      it : ShownBefore before g c.sent_as x.heard_at sent m
      it = inherited c.sent_as c.heard_as sent m x get content

      done-there : (o : ℕ) (q : CoapRequest) → IsAskCopied ws o q → o < i → q.peer ≡ device_at
          → AreAllDone (before ++ g ∷ []) s.flights s.taken q (count it.part.place)
      done-there o q a lt to = by ask.either
        where
          ask : WasAskedThere t S kept a.number q
          ask = ask-there t S kept o q a

          rises : a.number < c.sent_as
          rises = ask-earlier t S kept o i j q device_at sent m a c lt

          by : ((w : Written) × (slice_get g a.number ≡ Some w) × (carries w.deed ≡ false))
              ⊎ (IsAskCopied g a.number q × (b : Begun) × (carried kept.reading a.number ≡ Some b))
              → AreAllDone (before ++ g ∷ []) s.flights s.taken q (count it.part.place)
          by (inl mine) =
              absurd (false≢true (sym mine.2 ∙ copies-first a.number c.sent_as x.sent_at x.sent_as Ground (Sent device_at x.text (Some x.timeout)) mine.0 x.first rises mine.1))
          by (inr copy) =
              all-joined (λ (w : List Written). AreDone w s.flights s.taken (length w) q (count it.part.place)) before (g ∷ [])
              (it.done a.number q copy.0 rises to) (
                λ n u d w js answered y changes peer path class below.
                    absurd (never-ended kept.reading g kept.rests.reads.legal kept.rests.reads.entries_are q a.number js copy.1 ask.current copy.2
                    (ended-in q n u d w js answered y changes peer path)),
                tt,
              )

      shown-there : ShownBefore (before ++ g ∷ []) (ws ++ more) i c.heard_at sent m
      shown-there = record {
        since = it.since;
        bound = it.bound;
        by = let by = it.by in omega (arith, by, same);
        journal = it.journal;
        among = Contains-append_left before (g ∷ []) it.journal it.among;
        number = it.number;
        first = it.first;
        part = it.part;
        done = λ o q a lt to. done-there o q (copied-ask o q a) lt to;
      }

    all-inherited : IsInherited (before ++ g ∷ []) (ws ++ more)
    all-inherited i j sent m copy get content =
        let c = copied-reply i j sent m copy in
        elim (reply-there t S kept i j device_at sent m c).1 [
          | inl mine ↦ shown-here i j sent m c get content mine.0 mine.1
          | inr there ↦ shown-there i j sent m c get content there.0 there.1
        ]

  -- What begins with copies of a journal inherits from that, and from those before.
  pub inherits-next : (before : List (List Written)) (g : List Written) (page : IsPast first_device s.flights calls top g) → ArePunctual page.stands.reading
      → AllByRecursion (IsEarlier R first_device s known top page.begun) before → IsInherited before g → (h : List Written) → Begins g h
      → IsInherited (before ++ g ∷ []) h
  inherits-next before g page punctual earlier inherited h b =
      subst (λ (h : List Written). IsInherited (before ++ g ∷ []) h) (sym b.whole) (by g b.entries page punctual earlier inherited)
    where
      by : (g : List Written) → b.state.entries ≡ g → (page : IsPast first_device s.flights calls top g) → ArePunctual page.stands.reading
          → AllByRecursion (IsEarlier R first_device s known top page.begun) before → IsInherited before g
          → IsInherited (before ++ g ∷ []) (copied_entries b.moment b.state ++ b.more)
      by g e =
          subst (λ (g : List Written). (page : IsPast first_device s.flights calls top g) → ArePunctual page.stands.reading
          → AllByRecursion (IsEarlier R first_device s known top page.begun) before → IsInherited before g
          → IsInherited (before ++ g ∷ []) (copied_entries b.moment b.state ++ b.more)) e
          (λ page punctual earlier inherited. all-inherited before b.moment b.state b.kept page punctual earlier inherited b.more b.own)
