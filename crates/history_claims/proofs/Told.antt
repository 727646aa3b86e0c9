-- What was told for a GET is stored for it, as long as none comes after it and no write ends.
use Rattle.std.proofs.Common.{◌≡◌, ◌⊎◌, ℕ, zero, ◌+◌, ◌<◌, ◌≤◌, true, false, not, eqb, leb, inl, inr, List, ◌∷◌, length, Option, Some, None, refl, sym, ap, subst, ◌∙◌, arith, suc}
use Rattle.std.specs.Prelude.{◌==◌, is_none}
use Rattle.std.specs.List.{Contains}
use Rattle.std.proofs.lemmas.Bool.Decides.{Decides-ltb, eqb_tells, leb_tells}
use Rattle.std.proofs.lemmas.Bool.{false≢true, and_parts, and_from}
use Rattle.coap_codec.specs.Spelling.{Content, Spells}
use Rattle.coap_codec.proofs.Unique.{spells_one}
use Rattle.cache_key.specs.declared.place.Place.{Place}
use Rattle.cache_key.specs.Keys.{same_place}
use Rattle.cache_key.proofs.CallerLemmas.{places_decided, keys_decided}
use Rattle.ask_model.specs.Requests.{CoapRequest, Requests}
use Rattle.ask_model.specs.Sharing.{asked_key, asked_place, asks_same, is_get}
use Rattle.ask_model.specs.Views.{Ask}
use Rattle.ask_model.proofs.CallerLemmas.{same-key, same-place}
use Rattle.resp_cache.specs.Stored.{Stored, lifetime, is_fresh}
use Rattle.journal_book.specs.Entries.{Live, Asks, Hears, Answers}
use Rattle.history_laws.specs.Responses.{Response, whole_of}
use Rattle.history_laws.specs.Readings.{Noted, Note, Says, entries, at, before, noted}
use Rattle.history_laws.specs.Connections.{is_open}
use Rattle.history_laws.specs.Progress.{Reply, Ending, numbers, messages, Whole, Renewed}
use Rattle.history_laws.specs.Exchanges.{Begun, begun, End, end_of, ask_behind}
use Rattle.history_laws.specs.Joining.{outrun, is_joinable}
use Rattle.history_laws.specs.Storing.{EndsSo, IsRenewal, IsUse, ComesSo, renewed_list}
use Rattle.history_laws.specs.Justified.{Ends, reads_in, reads, pending, HasGrounds, Legal, MayCome}
use Rattle.history_laws.proofs.CallerLemmas.{at-before, at-below, at-same, at-still, before-twice, behind-since, begun-before, begun-below, begun-early, confirmed-as-asked, end-before, end-since, ends-all, EndsAll, ends-first, follows-at, legal-before, length-before, not-true, open-below, opened-for, outran, Outran, reader, Reader, shared-is, Shared, some-is, write-earlier, counts-since, CountsFor, outdated-by, outdated-keeps, update-counts}
use Rattle.history_claims.specs.Headline.{IsHeardFirst, IsNotified}
use Rattle.history_claims.specs.Once.{AreHeard, IsUnwritten, WasTold, IsUnnotified}
use Rattle.history_claims.proofs.Alike.{asks-like, same-get}
use Rattle.history_claims.proofs.Alone.{requests-same}
use Rattle.history_claims.proofs.Asking.{AnswersAsk, answers-ask}
use Rattle.history_claims.proofs.Entries.{entries-at, grows}
use Rattle.history_claims.proofs.Keeping.{tellable-not, whole-tells}
use Rattle.history_claims.proofs.Hands.{in-hand, no-input, not-at-ask}
use Rattle.history_claims.proofs.Pending.{senses}
use Rattle.history_claims.proofs.Pieces.{heard-fits, whole-like}
use Rattle.history_claims.proofs.Quiet.{asks-a-get, asks-back, asks-through, at-there, none-ended}
use Rattle.history_claims.proofs.Readers.{Reads, reads-at}
use Rattle.history_claims.proofs.Unshared.{asked-request, not-fetched}
use Rattle.history_claims.proofs.Written.{unsealed}
use Rattle.history_claims.proofs.Notified.{notified-news}
use Rattle.history_laws.specs.Observing.{outdated}
use Rattle.history_claims.proofs.Messages.{moments-rise, heard-same, same-messages, Began, began, last-heard, asks-open}
use Rattle.history_claims.proofs.Latest.{joinable-so, still-fresh, open-together, renewal-current, IsLatest}

-- what was told in the entry n, to the ask o
module _ (l : List Noted) (legal : Legal l) (q : CoapRequest) (o n : ℕ) (js : List ℕ) (was : WasTold (entries l) q o n js) where
  its : AnswersAsk l n was.told_at was.conn o (Live js) × (length (before l n) ≡ n)
  its = answers-ask l n was.told_at was.conn o (Live js) legal was.told

  -- A 2.03 is part of no whole response.
  abbrev pub IsWholeEnd : Type 0
  IsWholeEnd =
      (x : ℕ) × (e : ℕ) × (w : Response) × (rs : List Reply) × (reads (before l n) o ≡ Some x) × Ends (before l n) x e (Whole w rs)
      × (js ≡ numbers rs)

  never-renewed : (x e : ℕ) (s : Stored) (r : Reply) → reads (before l n) o ≡ Some x → Ends (before l n) x e (Renewed s r) → js ≡ renewed_list s r.number → ⊥
  never-renewed x e s r own ended list =
      let early = legal-before l n legal in
      let it = reader (before l n) o x early own in
      let c = confirmed-as-asked (before l n) x e it.exchange s r early it.opened ended in
      let tells = whole-tells was.request was.messages was.response (same-get was.request q (asks-back q was.request was.same)) was.whole in
      let last = last-heard (entries l) was.request.peer s.list r.number was.messages
      (subst (λ (js : List ℕ). AreHeard (entries l) was.request.peer js was.messages) list was.heard) tells in
      let stands = entries-at l r.number _ last.2.stands in
      let text = heard-same last.1 c.fits.moment was.request.peer c.fits.peer last.2.bytes c.fits.bytes stands.0 (Says r.message (Some r.sending) c.fits.notice)
      (at-same l r.number _ _ stands.1 (at-before l n r.number _ c.fits.heard)) in
      let here : last.0 ≡ r.message = spells_one last.0 r.message last.2.bytes last.2.spelled (subst (Spells r.message) (sym text) c.fits.spelled) in
      let not_valid : eqb r.message.code 67 ≡ false = subst (λ (m : Content). eqb m.code 67 ≡ false) here (tellable-not last.0 last.3) in
      false≢true (sym not_valid ∙ subst (λ (code : ℕ). eqb code 67 ≡ true) (sym c.code) refl)

  pub grounds : IsWholeEnd
  grounds = by its.0.grounds
    where
      by : HasGrounds (before l n) was.told_at o (Live js) → IsWholeEnd
      by (inl h) = h
      by (inr h) = absurd (never-renewed h.0 h.1 h.2 h.3 h.4 h.5 h.6)

  pub told-in : (note : Note) × (at l n ≡ Some (noted was.told_at (Answers was.conn o (Live js)) note))
  told-in = entries-at l n _ was.told

  abbrev asker : Ask
  asker = record { came = was.asked.came; sense = Requests was.request; rules = was.asked.rules }

  asked-in : (note : Note) × (at l o ≡ Some (noted was.moment (Asks was.conn asker) note))
  asked-in = entries-at l o _ was.asked.stands

  abbrev pub x : ℕ
  x = grounds.0

  abbrev pub e : ℕ
  e = grounds.1

  abbrev pub w : Response
  w = grounds.2

  abbrev pub rs : List Reply
  rs = grounds.3

  -- the exchange that it reads
  own : reads l o ≡ Some x
  own =
      let ask = its.0.asked in
      subst (λ (v : Option Noted). reads_in o v ≡ Some x) (ask.stands ∙ sym (at-before l n o _ ask.stands)) grounds.4

  read-by : Reader l o x
  read-by = reader l o x legal own

  along : Reads l n was.conn o x
  along = reads-at l n was.conn o x its.0.ask _ legal told-in.1 its.0.asked grounds.4

  abbrev exchange : Begun
  exchange = read-by.exchange

  requests : read-by.request ≡ was.request
  requests =
      requests-same read-by.request was.request
      (sym read-by.sense
      ∙ senses read-by.asked.moment was.moment read-by.conn was.conn read-by.ask asker read-by.asked.note asked-in.0
      (at-same l o _ _ read-by.asked.stands asked-in.1))

  same-as-asked : asks_same was.request exchange.request ≡ true
  same-as-asked =
      elim (read-by.way) [
        | inl it ↦
            subst (λ (r : CoapRequest). asks_same was.request r ≡ true) (sym requests ∙ it.1) (asks-through was.request q was.request (asks-back q was.request was.same) was.same)
        | inr it ↦ subst (λ (r : CoapRequest). asks_same r exchange.request ≡ true) requests it.same
      ]

  same : asks_same q exchange.request ≡ true
  same = asks-through q was.request exchange.request was.same same-as-asked

  abbrev pub last : End
  last = record { number = e; how = Whole w rs }

  pub ended : end_of l x ≡ Some last
  ended = end-since l n x last grounds.5

  pub sooner : e < n
  sooner =
      let first = ends-first (before l n) x e (Whole w rs) grounds.5 in
      subst (λ (m : ℕ). e < m) its.1 (at-below (before l n) e first.0 first.1)

  pub asked-first : o < e
  asked-first = along.later e (Whole w rs) grounds.5

  opened-first : x < e
  opened-first = let le = along.not_later in let lt = asked-first in omega (arith, le, lt)

  all : EndsAll (before l n) x e w rs
  all = ends-all (before l n) x e w rs (legal-before l n legal) grounds.5

  said : was.messages ≡ messages rs
  said =
      same-messages l n was.request.peer rs was.messages legal
      (λ r has. heard-fits (before l n) x all.exchange r (legal-before l n legal) all.opened (all.listed r has))
      (subst (λ (js : List ℕ). AreHeard (entries l) was.request.peer js was.messages) grounds.6 was.heard)

  response-is : w ≡ was.response
  response-is =
      let one : all.exchange ≡ exchange = some-is _ _ (sym (begun-before l n x all.exchange all.opened) ∙ read-by.opened) in
      let there : whole_of exchange.request (messages rs) ≡ Some w = subst (λ (b : Begun). whole_of b.request (messages rs) ≡ Some w) one all.whole in
      let here : whole_of was.request (messages rs) ≡ Some was.response = subst (λ (ms : List Content). whole_of was.request ms ≡ Some was.response) said was.whole in
      some-is w was.response
      (sym there ∙ (whole-like exchange.request was.request (messages rs) (asks-like was.request exchange.request same-as-asked) ∙ here))

  start : Began (entries l) was.since rs
  start = began (entries l) was.since rs (subst (IsHeardFirst (entries l) was.since) grounds.6 was.first)

  -- what is stored
  abbrev pub stored : Stored
  stored = record { response = w; opening = ask_behind l x; heard = was.since; list = numbers rs }

  pub listed-so : stored.list ≡ js
  listed-so = sym grounds.6

  pub fresh-so : (t : ℕ) → t < was.since + lifetime was.response.max_age → is_fresh t stored ≡ true
  fresh-so t lt =
      (Decides-ltb t (was.since + lifetime w.max_age)).1
      (subst (λ (r : Response). t < was.since + lifetime r.max_age) (sym response-is) lt)

  -- Between the end and the answer nothing came.
  pub quiet : (i : ℕ) (z : Noted) → e < i → i ≤ n → at l i ≡ Some z → MayCome (before l i) → ⊥
  quiet i z late le there come =
      elim (eqb_tells i n) [
        | inl u ↦ at-answer (subst (λ (i : ℕ). at l i ≡ Some z) u.1 there) (subst (λ (i : ℕ). MayCome (before l i)) u.1 come)
        | inr u ↦ let not = u.1 in before-answer (omega (arith, le, not))
      ]
    where
      open-then : (is_open (before l n) was.conn ≡ true) × (pending (before l n) was.conn ≡ Some o)
      open-then = asks-open (before l n) was.told_at was.conn o (Live js) told-in.0 (follows-at l n _ legal told-in.1)

      before-answer : i < n → ⊥
      before-answer lt =
          let twice = before-twice l n i _ told-in.1 lt in
          no-input (before l n) was.conn o x e (Whole w rs) its.0.ask (legal-before l n legal) its.0.asked grounds.4 grounds.5 asked-first
          open-then.0 open-then.1 i z late (at-still l n i _ z told-in.1 lt there)
          (subst MayCome (sym twice) come)

      -- nor did it at the answer, for which its connection still waited
      at-answer : at l n ≡ Some z → MayCome (before l n) → ⊥
      at-answer here may =
          let below = open-below (before l n) (legal-before l n legal) was.conn open-then.0 in
          let going = in-hand (before l n) was.conn o x may.1 below open-then.0 open-then.1 grounds.4 in
          false≢true (sym (ap is_none grounds.5) ∙ going)

  -- the ask k of a later moment, before which no write to the resource was asked for, or pending, and none told of it
  module _ (k : ℕ) (z : Noted) (here : at l k ≡ Some z) (later_told : n < k) (none : IsUnwritten (entries l) o k q) (untold : IsUnnotified (entries l) js k q)
      (young : z.written.moment < was.since + lifetime was.response.max_age) where
    no-write : (h : Outran (before l k) (asked_place q) x) → h.opening ≡ o → ⊥
    no-write h is =
        let opened = subst (λ (i : ℕ). begun l i ≡ Some h.write) is (begun-before l k h.opening h.write h.opened) in
        let asks = asked-request l o was.conn was.moment h.write was.request legal opened was.asked in
        let parts = and_parts (not (eqb h.write.request.method 1)) (same_place (asked_place q) (asked_place h.write.request)) h.changes in
        let get : h.write.request.method ≡ 1 = ap (λ (r : CoapRequest). r.method) asks ∙ same-get was.request q (asks-back q was.request was.same) in
        false≢true (subst (λ (n : ℕ). not (eqb n 1) ≡ true) get parts.0)

    unoutran : Outran (before l k) (asked_place q) x → ⊥
    unoutran h =
        let later = h.later in
        elim (leb_tells o h.end.number) [
          | inl u ↦
              none-ended l o k _ q legal asked-in.1
              (unsealed l o was.conn asker legal (record { moment = was.moment; note = asked-in.0; stands = asked-in.1 }))
              none h.opening h.write h.end (begun-before l k h.opening h.write h.opened) h.changes
              (subst (λ (m : ℕ). h.opening < m) (length-before l k z here) (begun-below (before l k) h.opening h.write h.opened))
              (end-since l k h.opening h.end h.ended) u.1 (no-write h)
          | inr u ↦
              let parts = and_parts (not (eqb h.write.request.method 1)) (same_place (asked_place q) (asked_place h.write.request)) h.changes in
              let place : asked_place h.write.request ≡ asked_place read-by.request =
              sym ((places_decided (asked_place q) (asked_place h.write.request)).0 parts.1)
              ∙ (same-place q was.request was.same ∙ ap asked_place (sym requests)) in
              let le = write-earlier l o x h.end.number legal read-by
              (record {
                opening = h.opening;
                write = h.write;
                opened = begun-before l k h.opening h.write h.opened;
                changes = λ is. false≢true (subst (λ (n : ℕ). not (eqb n 1) ≡ true) is parts.0);
                place = (ap (λ (p : Place). p.peer) place, ap (λ (p : Place). p.path) place);
                how = h.end.how;
                ended = end-since l k h.opening h.end h.ended;
              })
              u.1 in
              absurd (omega (arith, le, later))
        ]

    fresh-then : outrun (before l k) (asked_place q) x ≡ false
    fresh-then = not-true (outrun (before l k) (asked_place q) x) (λ t. unoutran (outran (before l k) (asked_place q) x t))

    below-k : k < length l
    below-k = at-below l k z here

    -- up to that
    module _ (m : ℕ) (low : n < m) (high : m ≤ k) where
      below : m < length l
      below = let lt = below-k in omega (arith, lt, high)

      after-end : e < m
      after-end = let lt = sooner in omega (arith, lt, low)

      unoutran-then : outrun (before l m) (asked_place q) x ≡ false
      unoutran-then =
          elim (eqb_tells m k) [
            | inl u ↦ subst (λ (m : ℕ). outrun (before l m) (asked_place q) x ≡ false) (sym u.1) fresh-then
            | inr u ↦
                let not = u.1 in
                let twice = before-twice l k m z here (omega (arith, high, not)) in
                subst (λ (v : List Noted). outrun v (asked_place q) x ≡ false) twice (still-fresh (before l k) m x (asked_place q) fresh-then)
          ]

      opened-then : begun (before l m) x ≡ Some exchange
      opened-then = let lt = opened-first in let after = after-end in begun-early l m x exchange below read-by.opened (omega (arith, lt, after))

      ended-then : EndsSo (before l m) x e w rs
      ended-then =
          record {
            ended = end-before l m x last below ended after-end;
            code = ap (λ (r : Response). r.code) response-is ∙ was.content;
          }

      early : Legal (before l m)
      early = legal-before l m legal

      there : (v : Noted) × (at l m ≡ Some v)
      there = at-there l m below

      -- No notification counts since.
      none-counts : (f : ℕ) → start.first.number < f → CountsFor (before l m) (asked_key q) f → ⊥
      none-counts f lt c =
          let it = counts-since l m there.0 (asked_key q) f there.1 c in
          let told = notified-news l f it.watch legal it.news in
          let key : asked_key q ≡ asked_key told.exchange.request =
          sym ((keys_decided it.watch.held.key (asked_key q)).0 it.keyed) ∙ told.key in
          let get = asks-a-get q exchange.request same in
          let alike : asks_same q told.exchange.request ≡ true =
          and_from (is_get q) _ get (and_from (is_get told.exchange.request) _ told.get ((keys_decided (asked_key q) (asked_key told.exchange.request)).1 key)) in
          let untold_since : IsUnnotified (entries l) (numbers (start.first ∷ start.more)) k q =
          subst (λ (ns : List ℕ). IsUnnotified (entries l) ns k q) (grounds.6 ∙ ap numbers start.all) untold in
          let size = at-below (before l m) f _ c.news.stands in
          let len = length-before l m there.0 there.1 in
          untold_since it.watch.held.opening f told.exchange.request it.news.message lt (omega (arith, size, len, high)) told.is alike

      newest-then : outdated (before l m) (asked_key q) start.first.number ≡ false
      newest-then =
          not-true (outdated (before l m) (asked_key q) start.first.number)
          (λ t. let it = outdated-by (before l m) (asked_key q) start.first.number early t in none-counts it.0 it.1 it.2)

      -- The first reply came before the end.
      first-sooner : start.first.number ≤ e
      first-sooner =
          let lt = sooner in
          let deep = told-in in
          let up = at-below l n (noted was.told_at (Answers was.conn o (Live js)) deep.0) deep.1 in
          let next = end-before l (suc e) x last (omega (arith, lt, up)) ended (omega arith) in
          let made = ends-all (before l (suc e)) x e w rs (legal-before l (suc e) legal) next in
          let has : Contains rs start.first = subst (λ (rs : List Reply). Contains rs start.first) (sym start.all) (zero, omega arith, refl) in
          let fits = (heard-fits (before l (suc e)) x made.exchange start.first (legal-before l (suc e) legal) made.opened (made.listed start.first has)).1 in
          let size = at-below (before l (suc e)) start.first.number _ fits.heard in
          let y = at-there l (suc e) (omega (arith, lt, up)) in
          let len = length-before l (suc e) y.0 y.1 in
          omega (arith, size, len)

      -- None was heard since, of the same.
      pub untold-since : (a f : ℕ) (r : CoapRequest) (c : Content) → e < f → f < k → IsNotified (entries l) a r f c → asks_same q r ≡ true → ⊥
      untold-since a f r c after less it alike =
          let le = first-sooner in
          let none_since : IsUnnotified (entries l) (numbers (start.first ∷ start.more)) k q =
          subst (λ (ns : List ℕ). IsUnnotified (entries l) ns k q) (grounds.6 ∙ ap numbers start.all) untold in
          none_since a f r c (omega (arith, le, after)) less it alike

      shared-then : Shared (before l m) q x
      shared-then = record { exchange = exchange; opened = opened-then; same = same; fresh = unoutran-then }

      -- It is stored, where nothing that came later ended with what may answer the GET.
      pub stored-then : ((y : ℕ) (b : Begun) → e < y → y < m → begun l y ≡ Some b → asks_same q b.request ≡ true → ⊥) → IsLatest (before l m) q stored
      stored-then none_opened =
          subst (λ (rs : List Reply). IsLatest (before l m) q (record { response = w; opening = ask_behind l x; heard = was.since; list = numbers rs })) (sym start.all) (
            record {
              opening = x;
              ending = e;
              first = start.first;
              more = start.more;
              comes = inl (subst (EndsSo (before l m) x e w) start.all ended-then);
              shared = joinable-so (before l m) q x exchange opened-then same unoutran-then;
              newest = newest-then;
              latest = latest;
              entry = heard.0;
              heard_in = heard.1;
              heard = heard.2;
              origin = sym (behind-since l m x exchange opened-then);
              list = refl;
            },
            none-renewed,
          )
        where
          heard : (v : Noted) × (at (before l m) start.first.number ≡ Some v) × (was.since ≡ v.written.moment)
          heard =
              let it = entries-at l start.first.number _ start.stands in
              let has : Contains rs start.first = subst (λ (rs : List Reply). Contains rs start.first) (sym start.all) (zero, omega arith, refl) in
              let fits = (heard-fits (before l n) x all.exchange start.first (legal-before l n legal) all.opened (all.listed start.first has)).1 in
              let lt = subst (λ (m : ℕ). start.first.number < m) its.1 (at-below (before l n) start.first.number _ fits.heard) in
              let y = at-there l m below in
              (noted was.since (Hears start.peer start.bytes) it.0, at-still l m start.first.number y.0 _ y.1 (omega (arith, lt, low)) it.1, refl)

          -- What ended no sooner, and may answer the GET, is that.
          same-end : (y f : ℕ) (how : Ending) → Shared (before l m) q y → end_of (before l m) y ≡ Some (record { number = f; how = how }) → e ≤ f
              → last ≡ record { number = f; how = how }
          same-end y f how shared ends le = by (leb_tells y e)
            where
              opened : begun l y ≡ Some shared.exchange
              opened = begun-before l m y shared.exchange shared.opened

              size : length (before l m) ≡ m
              size = let it = at-there l m below in length-before l m it.0 it.1

              by : ((leb y e ≡ true) × (y ≤ e)) ⊎ ((leb y e ≡ false) × (e < y)) → last ≡ record { number = f; how = how }
              by (inl u) =
                  elim (eqb_tells y e) [
                    | inl v ↦ elim (opened-for l y shared.exchange legal opened) [
                      | inl ask ↦
                          absurd (not-at-ask l x e shared.exchange.since ask.conn ask.ask ask.note (Whole w rs) ended
                          (subst (λ (i : ℕ). at l i ≡ Some (noted shared.exchange.since (Asks ask.conn ask.ask) ask.note)) v.1 ask.stands))
                      | inr notice ↦
                          let before_it = ends-first l x e (Whole w rs) ended in
                          let lt = opened-first in
                          let opened_x = begun-early l e x exchange (at-below l e before_it.0 before_it.1) read-by.opened lt in
                          absurd (not-fetched l y shared.exchange legal notice x exchange
                          (subst (λ (i : ℕ). begun (before l i) x ≡ Some exchange) (sym v.1) opened_x)
                          (subst (λ (i : ℕ). end_of (before l i) x ≡ None) (sym v.1) before_it.2)
                          (asks-through shared.exchange.request q exchange.request (asks-back q shared.exchange.request shared.same) same))
                    ]
                    | inr v ↦
                        let sooner = u.1 in
                        let not = v.1 in
                        let one = open-together (before l m) q x y last (record { number = f; how = how }) (legal-before l m legal) shared-then shared ended-then.ended ends le
                        (omega (arith, sooner, not)) in
                        some-is _ _ (sym (subst (λ (i : ℕ). end_of (before l m) i ≡ Some last) one ended-then.ended) ∙ ends)
                  ]
              by (inr u) =
                  absurd (none_opened y shared.exchange u.1 (subst (λ (i : ℕ). y < i) size (begun-below (before l m) y shared.exchange shared.opened)) opened shared.same)

          latest : (y f : ℕ) (v : Response) (t : Reply) (ts : List Reply) → ComesSo (before l m) y f v (t ∷ ts) → is_joinable (before l m) q y ≡ true
              → outdated (before l m) (asked_key q) t.number ≡ false → f ≤ e
          latest y f v t ts (inr u) may new =
              elim (leb_tells f e) [
                | inl le ↦ le.1
                | inr lt ↦
                    let up = lt.1 in
                    let le = first-sooner in
                    absurd (none-counts f (omega (arith, up, le)) (update-counts (before l m) q y f v (t ∷ ts) early may u))
              ]
          latest y f v t ts (inl ends) may new =
              elim (leb_tells f e) [
                | inl u ↦ u.1
                | inr u ↦
                    let lt = u.1 in
                    let number = ap (λ (e : End). e.number) (same-end y f (Whole v (t ∷ ts)) (shared-is (before l m) q y may) ends.ended (omega (arith, lt))) in
                    absurd (omega (arith, number, lt))
              ]

          none-renewed : (f : ℕ) → IsRenewal (before l m) q f → f < e
          none-renewed f it =
              elim (leb_tells e f) [
                | inl u ↦
                    absurd (apart it.kept it.reply
                    (ap (λ (e : End). e.how) (same-end it.opening f (Renewed it.kept it.reply) (renewal-current (before l m) q f early it) it.ended u.1)))
                | inr u ↦ u.1
              ]
            where
              apart : (s : Stored) (r : Reply) → last.how ≡ Renewed s r → ⊥
              apart s r h = cc

      -- It was stored when the exchange ended.
      lasts : (lifetime w.max_age == 0) ≡ false
      lasts =
          let has : Contains rs start.first = subst (λ (rs : List Reply). Contains rs start.first) (sym start.all) (zero, omega arith, refl) in
          let fits = (heard-fits (before l n) x all.exchange start.first (legal-before l n legal) all.opened (all.listed start.first has)).1 in
          let lt = subst (λ (m : ℕ). start.first.number < m) its.1 (at-below (before l n) start.first.number _ fits.heard) in
          let stands = entries-at l start.first.number _ start.stands in
          let le = moments-rise l start.first.number k _ z legal stands.1 here (omega (arith, lt, low, high)) in
          let fresh : z.written.moment < was.since + lifetime w.max_age =
          subst (λ (r : Response). z.written.moment < was.since + lifetime r.max_age) (sym response-is) young in
          elim (eqb_tells (lifetime w.max_age) 0) [
            | inl u ↦ let none = u.1 in absurd (omega (arith, le, fresh, none))
            | inr u ↦ u.0
          ]

      pub used-then : IsUse (before l m) e (asked_key q)
      used-then =
          inr (inl (record {
            opening = x;
            response = w;
            first = start.first;
            more = start.more;
            comes = inl (subst (EndsSo (before l m) x e w) start.all ended-then);
            since = exchange.since;
            request = exchange.request;
            opened = opened-then;
            get = asks-a-get exchange.request q (asks-back q exchange.request same);
            is = sym (same-key q exchange.request same);
            newest = not-true (outdated (before (before l m) e) (asked_key q) start.first.number)
                (λ t. false≢true (sym newest-then ∙ grows (λ (h : List Noted). outdated h (asked_key q) start.first.number ≡ true)
                (λ y h f. outdated-keeps y h (asked_key q) start.first.number f) (before l m) e t));
            current = still-fresh (before l m) e x (asked_place q) unoutran-then;
            lasts = lasts;
          }))
