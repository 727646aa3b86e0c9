-- What a connection is told of an answer is what the entries say of it.
use Rattle.std.proofs.Common.{◌≡◌, ℕ, zero, suc, ◌-◌, arith, List, [], ◌∷◌, ◌++◌, length, Some, refl, sym, ap, subst, ◌∙◌, append-nil, ◌⊎◌, inl, inr}
use Rattle.std.specs.Prelude.{⊤}
use Rattle.std.specs.List.{AllByRecursion, Contains, flat_map, slice_get}
use Rattle.std.proofs.lemmas.List.{append_cancel_left}
use Rattle.coap_codec.specs.Spelling.{Content}
use Rattle.media_map.specs.declared.form.Form.{Form}
use Rattle.uri_map.specs.declared.peer.Peer.{Peer}
use Rattle.http_edge.specs.declared.answer.HttpAnswer.{HttpAnswer}
use Rattle.ask_model.specs.Requests.{CoapRequest, Sense, Requests, Refuses}
use Rattle.ask_model.specs.Views.{Ask, Rules}
use Rattle.journal_book.specs.Entries.{Grounds, Live, Kept, Fault, Heard, Asks, Hears, Answers, Written}
use Rattle.journal_book.specs.Views.{ask_of}
use Rattle.history_laws.specs.Responses.{Response, whole_of}
use Rattle.history_laws.specs.Progress.{Point, first_point}
use Rattle.history_laws.specs.Justified.{Stands}
use Rattle.history_laws.proofs.CallerLemmas.{some-is}
use Rattle.history_claims.specs.Headline.{IsEntry, IsHeardFirst, AreHeardFor, AreHeardOn, BeginsAt, RestsOn}
use Rattle.history_claims.specs.Stored.{IsServed, RestsOnRenewed}
use Rattle.history_claims.specs.Causes.{AreCaused}
use Rattle.history_claims.proofs.CallerLemmas.{rests-on-replies, rests-on-stored}
use Rattle.reply_reading.specs.Findings.{Told, Tells as TellsOf, Fails}
use Rattle.exchange_core.specs.Values.{CoreValue, Untaken, Outgoing, written, answered_in, sent_in}
use Rattle.exchange_core.specs.Answering.{Given, HeardAs, AreHeard, HasFormat, IsFound, IsRenewal, IsResponse, CountsFrom}
use Rattle.http_mapping.specs.Means.{Tells, MeansWhole, MeansTold, last_reply}
use Rattle.gateway_model.specs.declared.input.Happening.{Happening}
use Rattle.gateway_model.specs.declared.input.When.{When}
use Rattle.gateway_model.specs.Acts.{Act, Served, Terms, DoesAll}
use Rattle.gateway_model.specs.Emissions.{Emission, given_up_in}
use Rattle.gateway_model.specs.Going.{goes_in, GoesOut, SendsJust}
use Rattle.gateway_model.specs.Orders.{IsInOrder}
use Rattle.gateway_model.specs.Tellings.{IsMapped, AreMapped, terms_of, IsMeant, AreMeant}
use Rattle.gateway_model.specs.Told.{IsInFormat, IsRenewedAs, ShowsGrounds, ShowsReplies, ShowsRenewed, ShowsStored, TellsAnswer, Piece, interim, final, answers_in, answers_to, IsPiece, AreOnce, IsToldAnswers, IsToldButLast, IsToldWhole, TellsAll, HasCause}
use Rattle.gateway_model.specs.Waiting.{IsDrained}
use Rattle.gateway_model.proofs.Order.{all-append}
use Rattle.gateway_model.proofs.Moves.{Whoever, Nobody, TellsGiven, IsSaid, ToldIn, Wait, Did, nums, nums-in}
use Rattle.gateway_model.proofs.Doing.{did-all}
use Rattle.gateway_model.proofs.Forgoing.{AreKept, ForgoneAt, AtMostLast, all-any, at-most-last, serving-or-kept}
use Rattle.gateway_model.proofs.Pacing.{IsQuiet, flow-once, PacedAt, Paced, paced-all}
use Rattle.gateway_model.proofs.Renewed.{counts-valid, heard-valid, in-format, renewal-whole, renewed-as, served-as, valid-whole}
use Rattle.gateway_model.proofs.Shutting.{AreServing}
use Rattle.gateway_model.proofs.Spelled.{IsFirstAs, asks-same, counts-alike, counts-first, entry-says, messages-rest, request-same}

-- each ask of the entries is meant so
meant-at : (M : Terms) (h : List Written) (k t c : ℕ) (a : Ask) → AreMeant M h → slice_get h k ≡ Some (written t (Asks c a)) → M.IsMeaning a
meant-at M [] k t c a meant e = absurd cc
meant-at M (w ∷ h) zero t c a meant e =
    subst (λ (v : Written). IsMeant M v.deed) (some-is w (written t (Asks c a)) e) meant.0
meant-at M (w ∷ h) (suc k) t c a meant e = meant-at M h k t c a meant.1 e

module _ (holds : Form → Form → List ℕ → List ℕ → Type 0) (takes : Form → Form → List ℕ → Type 0) (rules : Rules)
    (h : List Written) (stands : Stands h) where
  heard-first : (js : List ℕ) (heard k : ℕ) (q : CoapRequest) (point : Point) (ms : List Content) → AreHeardFor h k q point js ms
      → IsFirstAs h js heard → IsHeardFirst h heard js
  heard-first [] heard k q point ms a b = absurd b
  heard-first (j ∷ js) heard k q point [] a b = absurd a
  heard-first (j ∷ js) heard k q point (m ∷ ms) a b =
      let r = a.0.response.heard in
      let now = (entry-says a.0.response.moment heard (Hears q.peer r.bytes) b.1.deed (Heard q.peer r.bytes) (Heard b.1.peer b.1.bytes) (sym r.stands ∙ b.1.stands) refl b.1.says).0 in
      (q.peer, r.bytes, subst (λ (t : ℕ). IsEntry h j t (Hears q.peer r.bytes)) now r.stands)

  notified-first : (js : List ℕ) (heard o : ℕ) (q : CoapRequest) (ms : List Content) → AreHeardOn h o q js ms
      → IsFirstAs h js heard → IsHeardFirst h heard js
  notified-first [] heard o q ms a b = absurd b
  notified-first (j ∷ js) heard o q [] a b = absurd a
  notified-first (j ∷ js) heard o q (m ∷ ms) a b =
      let p : Peer = a.0.0.peer in
      let r = a.0.2.response.heard in
      let now = (entry-says a.0.2.response.moment heard (Hears p r.bytes) b.1.deed (Heard p r.bytes) (Heard b.1.peer b.1.bytes) (sym r.stands ∙ b.1.stands) refl b.1.says).0 in
      (p, r.bytes, subst (λ (t : ℕ). IsEntry h j t (Hears p r.bytes)) now r.stands)

  either-first : (js : List ℕ) (heard e o : ℕ) (q : CoapRequest) (ms : List Content)
      → AreHeardFor h e q (first_point q) js ms ⊎ (BeginsAt e js × AreHeardOn h o q js ms)
      → IsFirstAs h js heard → IsHeardFirst h heard js
  either-first js heard e o q ms (inl a) b = heard-first js heard e q (first_point q) ms a b
  either-first js heard e o q ms (inr a) b = notified-first js heard o q ms a.1 b

  shows-live : (n c : ℕ) (g : Given) (r : HttpAnswer) (js : List ℕ) (w : Response) (q : CoapRequest) (asked : ℕ)
      → slice_get h g.ask ≡ Some (written asked (Asks c (ask_of g.mapping)))
      → g.mapping.rules ≡ rules → g.mapping.sense ≡ Requests q
      → IsEntry h n g.moment (Answers c g.ask (Live js))
      → (ms : List Content) → AreHeard h js ms → IsResponse q ms w → IsInFormat h js w → CountsFrom h (Live js) g.moment g.heard
      → MeansWhole rules.routes holds takes g.mapping w (last_reply (Live js)) (g.moment - g.heard) r
      → ShowsReplies holds takes h n g.moment c g.ask (ask_of g.mapping) js r ⊎ ShowsRenewed holds takes h n g.moment c g.ask (ask_of g.mapping) js r
  shows-live n c g r js w q asked ask rules_are sense answered ms heard found format counts means =
      by (rests-on-replies h n g.moment c g.ask js stands answered) found
    where
      counted : CountsFrom h (Kept js) g.moment g.heard
      counted = counts-alike h js g.moment g.heard counts

      shown : MeansWhole g.mapping.rules.routes holds takes g.mapping w (last_reply (Live js)) (g.moment - g.heard) r
      shown = subst (λ (s : Rules). MeansWhole s.routes holds takes g.mapping w (last_reply (Live js)) (g.moment - g.heard) r) (sym rules_are) means

      as-whole : (rests : RestsOn h n c g.ask js) → whole_of q ms ≡ Some rests.response
      as-whole rests =
          let one = asks-same rests.shared.moment asked c c _ _ (sym rests.shared.asked.stands ∙ ask) in
          let request : rests.request ≡ q = request-same rests.request q (ap (λ (a : Ask). a.sense) one ∙ sense) in
          let messages : rests.messages ≡ ms = messages-rest h rests.entry rests.opening rests.request js rests.messages ms rests.heard heard in
          sym (ap (λ (q : CoapRequest). whole_of q rests.messages) request ∙ ap (whole_of q) messages) ∙ rests.whole

      replied : (rests : RestsOn h n c g.ask js) → whole_of q ms ≡ Some w → ShowsReplies holds takes h n g.moment c g.ask (ask_of g.mapping) js r
      replied rests whole = record {
        rests = rests;
        since = g.heard;
        first = either-first js g.heard rests.entry rests.opening rests.request rests.messages rests.heard
            (counts-first h js g.moment g.heard q ms w heard whole counted);
        shows = subst (λ (v : Response). MeansWhole g.mapping.rules.routes holds takes g.mapping v (last_reply (Live js)) (g.moment - g.heard) r)
            (some-is w rests.response (sym whole ∙ as-whole rests)) shown;
      }

      at-valid : (rests : RestsOnRenewed h n c g.ask js) → HeardAs h rests.number rests.valid.heard.response.moment rests.message
      at-valid rests =
          heard-valid h rests.request.peer rests.number rests.valid.heard.response.moment rests.message rests.valid.heard.response.heard

      renewed : (rests : RestsOnRenewed h n c g.ask js) → IsRenewal ms w → ShowsRenewed holds takes h n g.moment c g.ask (ask_of g.mapping) js r
      renewed rests renewal =
          let u : ℕ = rests.valid.heard.response.moment in
          let since : g.heard ≡ u =
          counts-valid h rests.was.first.list rests.number g.moment g.heard u rests.message (at-valid rests) rests.valid.code
          (subst (λ (js : List ℕ). CountsFrom h (Kept js) g.moment g.heard) (sym rests.list) counted) in
          record {
            rests = rests;
            response = w;
            is = subst (λ (js : List ℕ). IsRenewedAs h js rests.stored.response rests.message w) rests.list
                (renewed-as h rests.request rests.was.first rests.stored rests.opening rests.number u rests.message ms w
                (subst (λ (js : List ℕ). AreHeard h js ms) (sym rests.list) heard) renewal (at-valid rests) rests.was.whole rests.was.renewed
                (subst (λ (js : List ℕ). IsInFormat h js w) (sym rests.list) format));
            shows = subst (λ (u : ℕ). MeansWhole g.mapping.rules.routes holds takes g.mapping w (last_reply (Live js)) (g.moment - u) r) since shown;
          }

      by : RestsOn h n c g.ask js ⊎ RestsOnRenewed h n c g.ask js → IsResponse q ms w
          → ShowsReplies holds takes h n g.moment c g.ask (ask_of g.mapping) js r ⊎ ShowsRenewed holds takes h n g.moment c g.ask (ask_of g.mapping) js r
      by (inl rests) (inl whole) = inl (replied rests whole)
      by (inl rests) (inr renewal) = absurd (renewal-whole q ms w rests.response renewal.1 (as-whole rests))
      by (inr rests) (inl whole) =
          absurd (valid-whole h rests.was.first.list rests.number rests.valid.heard.response.moment rests.message q ms w (at-valid rests) rests.valid.code
          (subst (λ (js : List ℕ). AreHeard h js ms) (sym rests.list) heard) whole)
      by (inr rests) (inr renewal) = inr (renewed rests renewal.1)

  -- what is stored is what the answer tells
  shows-kept : (n c : ℕ) (g : Given) (r : HttpAnswer) (js : List ℕ) (w : Response) (q : CoapRequest) (asked : ℕ)
      → slice_get h g.ask ≡ Some (written asked (Asks c (ask_of g.mapping)))
      → g.mapping.rules ≡ rules → g.mapping.sense ≡ Requests q
      → IsEntry h n g.moment (Answers c g.ask (Kept js))
      → (ms : List Content) → AreHeard h js ms → IsResponse q ms w → IsInFormat h js w → CountsFrom h (Kept js) g.moment g.heard
      → MeansWhole rules.routes holds takes g.mapping w (last_reply (Kept js)) (g.moment - g.heard) r
      → ShowsStored holds takes h g.moment c g.ask (ask_of g.mapping) js r
  shows-kept n c g r js w q asked ask rules_are sense answered ms heard found format counts means =
      let s : IsServed h g.moment c g.ask js = rests-on-stored h n g.moment c g.ask js stands answered in
      let one = asks-same g.moment asked c c _ _ (sym s.asked.stands ∙ ask) in
      let request : s.request ≡ q = request-same s.request q (ap (λ (a : Ask). a.sense) one ∙ sense) in
      let so = served-as h g.moment g.heard g.ask q s.request ms w s.is.first s.stored request
      (subst (λ (js : List ℕ). AreHeard h js ms) (sym s.list) heard) found
      (subst (λ (js : List ℕ). CountsFrom h (Kept js) g.moment g.heard) (sym s.list) counts)
      (subst (λ (js : List ℕ). IsInFormat h js w) (sym s.list) format) s.is.whole s.is.renewed in
      record {
        served = s;
        response = w;
        is = so.0;
        shows = subst (λ (u : ℕ). MeansWhole g.mapping.rules.routes holds takes g.mapping w (last_reply (Kept js)) (g.moment - u) r) (sym so.1)
            (subst (λ (s : Rules). MeansWhole s.routes holds takes g.mapping w (last_reply (Kept js)) (g.moment - g.heard) r) (sym rules_are) means);
      }

  shows-grounds : (n c : ℕ) (g : Given) (r : HttpAnswer) (asked : ℕ)
      → slice_get h g.ask ≡ Some (written asked (Asks c (ask_of g.mapping)))
      → g.mapping.rules ≡ rules
      → (told : Told) (grounds : Grounds) (sense : Sense) → g.mapping.sense ≡ sense
      → IsEntry h n g.moment (Answers c g.ask grounds)
      → IsFound h told grounds sense → HasFormat h told grounds → CountsFrom h grounds g.moment g.heard
      → MeansTold rules.routes holds takes g.mapping told grounds (g.moment - g.heard) r
      → ShowsGrounds holds takes h n g.moment c g.ask (ask_of g.mapping) grounds r
  shows-grounds n c g r asked ask by (TellsOf w) (Live js) (Requests q) sense answered found format counts means =
      shows-live n c g r js w q asked ask by sense answered found.0 found.1 found.2 (in-format h js w format) counts means
  shows-grounds n c g r asked ask by (TellsOf w) (Live js) (Refuses cause status) sense answered found format counts means = absurd found
  shows-grounds n c g r asked ask by (TellsOf w) (Kept js) (Requests q) sense answered found format counts means =
      shows-kept n c g r js w q asked ask by sense answered found.0 found.1 found.2 (in-format h js w format) counts means
  shows-grounds n c g r asked ask by (TellsOf w) (Kept js) (Refuses cause status) sense answered found format counts means = absurd found
  shows-grounds n c g r asked ask by (TellsOf w) (Fault cause j) s sense answered found format counts means = absurd found
  shows-grounds n c g r asked ask by (Fails cause) (Live js) s sense answered found format counts means = absurd found
  shows-grounds n c g r asked ask by (Fails cause) (Kept js) s sense answered found format counts means = absurd found
  shows-grounds n c g r asked ask by (Fails cause) (Fault named j) s sense answered found format counts means =
      subst (λ (x : _). Tells g.mapping x j r) found means

  tells-answer : (c n : ℕ) (bytes : List ℕ) → AreMeant (terms_of holds takes rules) h
      → TellsGiven (terms_of holds takes rules) h c n bytes → TellsAnswer holds takes h c n bytes
  tells-answer c n bytes meant x =
      let g : Given = x.given in
      let ask : slice_get h g.ask ≡ Some (written x.is.asked (Asks c (ask_of g.mapping))) =
      subst (λ (d : ℕ). slice_get h g.ask ≡ Some (written x.is.asked (Asks d (ask_of g.mapping)))) x.conn x.is.ask_stands in
      let answered : IsEntry h n g.moment (Answers c g.ask g.found.grounds) =
      subst (λ (d : ℕ). IsEntry h n g.moment (Answers d g.ask g.found.grounds)) x.conn
      (subst (λ (i : ℕ). IsEntry h i g.moment (Answers g.conn g.ask g.found.grounds)) x.number x.is.stands) in
      let mapped : IsMapped holds takes rules (ask_of g.mapping) =
      meant-at (terms_of holds takes rules) h g.ask x.is.asked c (ask_of g.mapping) meant ask in
      record {
        moment = g.moment;
        number = g.ask;
        grounds = g.found.grounds;
        answered = answered;
        before = x.is.asked;
        ask = ask_of g.mapping;
        asked = ask;
        response = x.response;
        shows = shows-grounds n c g x.response x.is.asked ask mapped.by g.found.told g.found.grounds g.mapping.sense refl
            answered x.is.found x.is.format x.is.counts x.tells;
        text = x.text;
      }

  all-pieces : (c : ℕ) (ps : List Piece) → AreMeant (terms_of holds takes rules) h
      → AllByRecursion (IsSaid (terms_of holds takes rules) Whoever h c) ps → AllByRecursion (IsPiece holds takes h c) ps
  all-pieces c [] meant each = tt
  all-pieces c (interim ∷ ps) meant each = (tt, all-pieces c ps meant each.1)
  all-pieces c (final n bytes ∷ ps) meant each = (tells-answer c n bytes meant each.0, all-pieces c ps meant each.1)

none-waiting : (h : List Written) (v : CoreValue) → IsDrained v → Wait h v.untaken
none-waiting h v d = subst (Wait h) (sym d.answers) (record { apart = tt; answers = tt })

-- the laws

just-sent : (out after before more : List Outgoing) → before ≡ [] → after ≡ [] → out ++ after ≡ before ++ more → out ≡ more
just-sent out after before more old new e =
    sym (append-nil out)
    ∙ (ap (λ (os : List Outgoing). out ++ os) (sym new)
    ∙ (e ∙ ap (λ (os : List Outgoing). os ++ more) old))

module _ (holds : Form → Form → List ℕ → List ℕ → Type 0) (takes : Form → Form → List ℕ → Type 0) where
  pub all-go-out : (rules : Rules) (w : When) (acts : List Act) (old : Served) (out : List Emission) (new : Served)
      → DoesAll (terms_of holds takes rules) w acts old out new → GoesOut old.core out new.core
  all-go-out rules w acts old out new h =
      let d : Did (terms_of holds takes rules) Whoever Whoever old.core out new.core =
      did-all (terms_of holds takes rules) Whoever w acts old out new (all-any acts) h in
      record { more = d.more; added = d.added; sent = d.sent }

  pub did-send : (F : ℕ → Type 0) (rules : Rules) (old new : CoreValue) (out : List Emission) → Did (terms_of holds takes rules) Whoever F old out new
      → old.unsent ≡ [] → new.unsent ≡ [] → SendsJust old out new
  did-send F rules old new out d before after = record {
    more = d.more;
    added = d.added;
    sent = just-sent (goes_in out) new.unsent old.unsent (sent_in d.more) before after d.sent;
  }

  pub all-send-just : (rules : Rules) (w : When) (acts : List Act) (old : Served) (out : List Emission) (new : Served)
      → DoesAll (terms_of holds takes rules) w acts old out new → old.core.unsent ≡ [] → new.core.unsent ≡ []
      → SendsJust old.core out new.core
  all-send-just rules w acts old out new h =
      did-send Whoever rules old.core new.core out (did-all (terms_of holds takes rules) Whoever w acts old out new (all-any acts) h)

  told-just : (c : ℕ) (before more : List Written) (us vs : List Untaken) (out : List Emission) (rules : Rules)
      → us ≡ [] → vs ≡ [] → Stands (before ++ more) → AreMeant (terms_of holds takes rules) (before ++ more)
      → (x : ToldIn (terms_of holds takes rules) Whoever (before ++ more) c (length before) more us out vs)
      → AreOnce x.pieces → IsToldAnswers holds takes before more c out
  told-just c before more us vs out rules old new stands meant x once = record {
    pieces = x.pieces;
    said = x.said;
    each = all-pieces holds takes rules (before ++ more) stands c x.pieces meant x.each;
    once = once;
    answers = sym (append-nil (flat_map answers_in x.pieces))
        ∙ (ap (λ (zs : List Untaken). flat_map answers_in x.pieces ++ nums c zs) (sym new)
        ∙ (x.answers
        ∙ (ap (λ (zs : List Untaken). nums c zs ++ nums c (answered_in (length before) more)) old
        ∙ sym (nums-in c (length before) more))));
  }

  told-but-last : (c : ℕ) (before more : List Written) (out : List Emission) (rules : Rules) (w : When) (old : Served)
      → (stands : Stands (before ++ more)) → before ≡ old.core.state.entries → old.core.untaken ≡ []
      → AreMeant (terms_of holds takes rules) (before ++ more)
      → ForgoneAt (terms_of holds takes rules) w c (before ++ more) stands old more out
      → IsToldButLast holds takes before more c out
  told-but-last c before more out rules w old stands is none meant x = record {
    pieces = x.pieces;
    said = x.said;
    each = all-pieces holds takes rules (before ++ more) stands c x.pieces meant x.each;
    once = flow-once (IsQuiet c old) ⊤ x.pieces x.flow;
    untold = x.untold;
    answers = x.answers
        ∙ (ap (λ (zs : List Untaken). nums c zs ++ nums c (answered_in (length old.core.state.entries) more)) none
        ∙ (sym (nums-in c (length old.core.state.entries) more)
        ∙ ap (λ (es : List Written). answers_to c (length es) more) (sym is)));
  }

  -- so it is of whatever was done that forgoes nobody's answer
  pub record TellsEach (rules : Rules) (old new : CoreValue) (out : List Emission) : Type 0 where
    pub more : List Written
    pub added : new.state.entries ≡ old.state.entries ++ more
    pub mapped : AreMapped holds takes rules new.state.entries
    pub told : (c : ℕ) → IsToldAnswers holds takes old.state.entries more c out

  pub paced-tell : (rules : Rules) (old new : Served) (out : List Emission) → Paced (terms_of holds takes rules) Nobody old out new
      → IsDrained old.core → IsDrained new.core → Stands new.core.state.entries
      → AreMeant (terms_of holds takes rules) old.core.state.entries
      → TellsEach rules old.core new.core out
  paced-tell rules old new out p before after stands mapped =
      let M : Terms = terms_of holds takes rules in
      let d : Did M Whoever Nobody old.core out new.core = p.did in
      let entries : List Written = old.core.state.entries in
      let stand : Stands (entries ++ d.more) = subst Stands d.added stands in
      let meant : AreMeant M (entries ++ d.more) =
      all-append (λ (e : Written). IsMeant M e.deed) entries d.more mapped d.meant in
      let told = p.paced (entries ++ d.more) [] stand (sym d.added ∙ sym (append-nil new.core.state.entries))
      (none-waiting (entries ++ d.more) old.core before) in
      record {
        more = d.more;
        added = d.added;
        mapped = subst (AreMeant M) (sym d.added) meant;
        told = λ c. let t = told.1 c (λ x. x) in
            told-just c entries d.more old.core.untaken new.core.untaken out rules before.answers after.answers stand meant
            t.told (flow-once (IsQuiet c old) (IsQuiet c new) t.told.pieces t.flow);
      }

  -- and of an input's acts
  serving-tell : (rules : Rules) (w : When) (acts : List Act) (old : Served) (out : List Emission) (new : Served)
      → DoesAll (terms_of holds takes rules) w acts old out new → AreServing acts
      → IsDrained old.core → IsDrained new.core → Stands new.core.state.entries
      → AreMeant (terms_of holds takes rules) old.core.state.entries
      → TellsAll holds takes rules old.core new.core out
  serving-tell rules w acts old out new h i before after stands mapped =
      let M : Terms = terms_of holds takes rules in
      let d : Did M Whoever Whoever old.core out new.core = did-all M Whoever w acts old out new (all-any acts) h in
      let entries : List Written = old.core.state.entries in
      let stand : Stands (entries ++ d.more) = subst Stands d.added stands in
      let meant : AreMeant M (entries ++ d.more) =
      all-append (λ (e : Written). IsMeant M e.deed) entries d.more mapped d.meant in
      record {
        more = d.more;
        added = d.added;
        mapped = subst (AreMeant M) (sym d.added) meant;
        told = λ c.
            told-or c d.more stand meant d.added
            (at-most-last M w c (entries ++ d.more) stand acts old out new [] i h
            (sym d.added ∙ sym (append-nil new.core.state.entries)) (none-waiting (entries ++ d.more) old.core before));
      }
    where
      told-or : (c : ℕ) (more : List Written) (stand : Stands (old.core.state.entries ++ more))
          → AreMeant (terms_of holds takes rules) (old.core.state.entries ++ more)
          → new.core.state.entries ≡ old.core.state.entries ++ more
          → AtMostLast (terms_of holds takes rules) w c (old.core.state.entries ++ more) stand old out new
          → IsToldWhole holds takes old.core.state.entries more c out
      told-or c more stand meant added r =
          by r.more r.told (append_cancel_left old.core.state.entries r.more more (sym r.added ∙ added))
        where
          by : (ws : List Written)
              → PacedAt (terms_of holds takes rules) (old.core.state.entries ++ more) c old ws out new
              ⊎ ForgoneAt (terms_of holds takes rules) w c (old.core.state.entries ++ more) stand old ws out
              → ws ≡ more → IsToldWhole holds takes old.core.state.entries more c out
          by ws (inl f) e =
              let t = subst (λ (ws : List Written). PacedAt (terms_of holds takes rules) (old.core.state.entries ++ more) c old ws out new) e f in
              inl (told-just c old.core.state.entries more old.core.untaken new.core.untaken out rules before.answers after.answers stand meant
              t.told (flow-once (IsQuiet c old) (IsQuiet c new) t.told.pieces t.flow))
          by ws (inr f) e =
              let t = subst (λ (ws : List Written). ForgoneAt (terms_of holds takes rules) w c (old.core.state.entries ++ more) stand old ws out) e f in
              inr (t.given_up, told-but-last c old.core.state.entries more out rules w old stand refl before.answers meant t)

  -- what is told, with what was asked and what own errors name
  pub told-meant : (rules : Rules) (h : List Written) (c n : ℕ) (bytes : List ℕ) → AreMapped holds takes rules h → AreCaused h
      → (a : TellsAnswer holds takes h c n bytes)
      → IsMapped holds takes rules a.ask × HasCause h n a.moment c a.number a.grounds
  told-meant rules h c n bytes mapped caused a = (
    meant-at (terms_of holds takes rules) h a.number a.before c a.ask mapped a.asked,
    cause a.grounds a.answered,
  )
    where
      cause : (g : Grounds) → IsEntry h n a.moment (Answers c a.number g) → HasCause h n a.moment c a.number g
      cause (Live js) e = tt
      cause (Kept js) e = tt
      cause (Fault named j) e = caused n a.moment c a.number named j e

  pub all-tell : (rules : Rules) (w : When) (x : Happening) (acts : List Act) (old : Served) (out : List Emission) (new : Served)
      → DoesAll (terms_of holds takes rules) w acts old out new → IsInOrder x acts
      → IsDrained old.core → IsDrained new.core → Stands new.core.state.entries
      → AreMeant (terms_of holds takes rules) old.core.state.entries
      → TellsAll holds takes rules old.core new.core out
  all-tell rules w x acts old out new h o before after stands mapped = by (serving-or-kept x acts o)
    where
      kept : TellsEach rules old.core new.core out → TellsAll holds takes rules old.core new.core out
      kept t = record { more = t.more; added = t.added; mapped = t.mapped; told = λ c. inl (t.told c) }

      by : AreServing acts ⊎ AreKept acts → TellsAll holds takes rules old.core new.core out
      by (inl i) = serving-tell rules w acts old out new h i before after stands mapped
      by (inr k) = kept (paced-tell rules old new out (paced-all (terms_of holds takes rules) Nobody w acts old out new k h) before after stands mapped)

  -- Where nobody is given up, each is told just its answers.
  pub whole-told : (before more : List Written) (c : ℕ) (out : List Emission) → given_up_in out ≡ []
      → IsToldWhole holds takes before more c out → IsToldAnswers holds takes before more c out
  whole-told before more c out none (inl t) = t
  whole-told before more c out none (inr t) = absurd (nobody (subst (λ (ks : List ℕ). Contains ks c) none t.0))
    where
      nobody : Contains [] c → ⊥
      nobody (i, lt, e) = omega (arith, lt)
