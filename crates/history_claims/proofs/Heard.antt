-- What was heard for an exchange, said of entries: for the ask that opened it, or on from the notification that did.
use Rattle.std.proofs.Common.{◌≡◌, ◌⊎◌, ℕ, ◌≤◌, ◌&&◌, eqb, inl, inr, List, [], ◌∷◌, ◌++◌, length, Option, Some, sym, ap, subst, ◌∙◌, refl, arith, append_assoc}
use Rattle.std.specs.Prelude.{is_none, ◌==◌}
use Rattle.std.proofs.lemmas.Bool.{and_parts}
use Rattle.coap_codec.specs.Spelling.{Content}
use Rattle.uri_map.specs.declared.peer.Peer.{Peer}
use Rattle.ask_model.specs.Requests.{CoapRequest}
use Rattle.journal_book.specs.Entries.{Sends, Written}
use Rattle.history_laws.specs.Responses.{Response, whole_of}
use Rattle.history_laws.specs.Readings.{Noted, First, entries, at, before, noted}
use Rattle.history_laws.specs.Progress.{Reply, numbers, messages, Whole, Progress, Point, first_progress, step, progress, first_point, point_after}
use Rattle.history_laws.specs.Exchanges.{Begun, begun, begins_with, ask_behind, heard_for, replies}
use Rattle.history_laws.specs.Storing.{ComesSo}
use Rattle.history_laws.specs.Justified.{Ends as IsEnd, Legal}
use Rattle.history_laws.specs.Laws.{AreFetched}
use Rattle.history_laws.proofs.CallerLemmas.{ask-begins, ask-own, AskedFor, at-before, at-same, began-by, began-fits, begun-before, behind-below, behind-since, ends-all, FetchedOn, first-response, first-whole, first_of, legal-before, news-fits, news-told, notice-begins, notice-behind, opened-for, ordered, Ordered, some-is, started, StartedFor, tell-fits, update-news, updates-since}
use Rattle.history_claims.specs.Headline.{IsNotified, AreHeardFor, AreHeardOn, BeginsAt}
use Rattle.history_claims.specs.Causes.{AreRepliesTo, AreRepliesOn, AreRepliesFor}
use Rattle.history_claims.proofs.Notified.{notice-began, update-is}
use Rattle.history_claims.proofs.Alike.{IsLike, get-method, own-get, same-through}
use Rattle.history_claims.proofs.Pieces.{begins-till, heard-from, made-placed, point-like, progress-like, replies-like, replies-to, sequence-like}
use Rattle.history_claims.proofs.Sending.{first-before}

-- one entry sends for one exchange
owners-same : (s t : ℕ) (p r : Peer) (b c : List ℕ) (v w : Option ℕ) (i o : ℕ) (m n : Content)
    → noted s (Sends p b v) (First i m) ≡ noted t (Sends r c w) (First o n) → i ≡ o
owners-same s t p r b c v w i o m n e = go (ap (λ (x : Noted). x.note) e)
  where
    go : First i m ≡ First o n → i ≡ o
    go f = cc

-- What comes after the first of a list that begins so.
heads-same : (x y : Reply) (xs ys : List Reply) → x ∷ xs ≡ y ∷ ys → (x ≡ y) × (xs ≡ ys)
heads-same x y xs ys e = (cc, cc)

-- the exchange o, before the entry n
module _ (l : List Noted) (n o : ℕ) (b : Begun) (x : Noted) (legal : Legal l) (opened : begun l o ≡ Some b) (here : at l n ≡ Some x)
    (early : begun (before l n) o ≡ Some b) where
  abbrev v : List Noted
  v = before l n

  abbrev q : CoapRequest
  q = b.request

  legal-then : Legal v
  legal-then = legal-before l n legal

  none-first : AskedFor l o b → begins_with v o ≡ []
  none-first it = begins-till l n o b x here early ∙ ask-begins l o b legal it

  one-first : (it : StartedFor l o b) → begins_with v o ≡ first_of l o b it ∷ []
  one-first it = begins-till l n o b x here early ∙ notice-begins l o b it

  pub replies-for : (rest more : List Reply) → replies v o ≡ rest ++ more → AreRepliesFor (entries l) (ask_behind l o) q (begins_with v o ++ rest)
  replies-for rest more e =
      let to = replies-to l n o b x legal opened here early rest more e in
      elim (opened-for l o b legal opened) [
        | inl it ↦
            let none = none-first it in
            let plain : AreRepliesTo (entries l) o q (first_progress q) rest =
            subst (λ (hs : List Reply). AreRepliesTo (entries l) o q (progress q (hs ++ [])) rest) none to in
            subst (λ (i : ℕ). AreRepliesFor (entries l) i q (begins_with v o ++ rest)) (sym (ask-own l o b legal it))
            (inl (subst (λ (hs : List Reply). AreRepliesTo (entries l) o q (first_progress q) (hs ++ rest)) (sym none) plain))
        | inr it ↦
            let first = one-first it in
            let on : AreRepliesTo (entries l) o q (step (first_progress q) (first_of l o b it)) rest =
            subst (λ (hs : List Reply). AreRepliesTo (entries l) o q (progress q (hs ++ [])) rest) first to in
            subst (λ (i : ℕ). AreRepliesFor (entries l) i q (begins_with v o ++ rest)) (sym (notice-behind l o b it))
            (inr (subst (λ (hs : List Reply). AreRepliesOn (entries l) it.ask q (hs ++ rest)) (sym first) ((q, own-get q (get-method q (started l o b legal it).get), (notice-began l o b legal it).notified), on)))
      ]

  -- What was fetched for it stands among the replies, all of it.
  never-first : (it : StartedFor l o b) (p : Point) (r : Reply) (rs : List Reply) → AreFetched v o q p (r ∷ rs) → first_of l o b it ≡ r → ⊥
  never-first it p r rs h same =
      let fits = h.0.fits in
      let by = began-by l o b legal it in
      let own = began-fits l o b legal it in
      let mine = first-before l n fits.sent_at o r.sending fits.peer fits.sent fits.first in
      let sending : it.sending ≡ r.sending = ap (λ (r : Reply). r.sending) same in
      let stands = subst (λ (i : ℕ). at l i ≡ Some (noted own.sent_at (Sends own.peer own.first.bytes own.first.timeout) (First it.ask own.sent))) sending own.first.stands in
      let owner : it.ask ≡ o = owners-same _ _ _ _ _ _ _ _ _ _ _ _ (at-same l r.sending _ _ stands mine.stands) in
      let after = by.after in
      let later = by.fits.after in
      let back = by.goes_back in
      let is = notice-behind l o b it in
      omega (arith, owner, after, later, back, is)

  fetched-placed : (p : Point) (r : Reply) (rs done more : List Reply) → AreFetched v o q p (r ∷ rs) → heard_for v o ≡ done ++ ((r ∷ rs) ++ more)
      → (front : List Reply) × (replies v o ≡ front ++ ((r ∷ rs) ++ more))
  fetched-placed p r rs done more h e =
      elim (opened-for l o b legal opened) [
        | inl it ↦ (done, ap (λ (hs : List Reply). hs ++ replies v o) (sym (none-first it)) ∙ e)
        | inr it ↦ by it done (ap (λ (hs : List Reply). hs ++ replies v o) (sym (one-first it)) ∙ e)
      ]
    where
      by : (it : StartedFor l o b) (done : List Reply) → first_of l o b it ∷ replies v o ≡ done ++ ((r ∷ rs) ++ more)
          → (front : List Reply) × (replies v o ≡ front ++ ((r ∷ rs) ++ more))
      by it [] e = absurd (never-first it p r rs h (heads-same (first_of l o b it) r (replies v o) (rs ++ more) e).0)
      by it (d ∷ ds) e = (ds, (heads-same (first_of l o b it) d (replies v o) (ds ++ ((r ∷ rs) ++ more)) e).1)

  -- Behind the notification that opened it, the others do.
  behind-placed : (it : StartedFor l o b) (r : Reply) (rs done more : List Reply) → heard_for v o ≡ done ++ ((r ∷ rs) ++ more)
      → (front : List Reply) × (replies v o ≡ front ++ (rs ++ more))
  behind-placed it r rs done more e = by done (ap (λ (hs : List Reply). hs ++ replies v o) (sym (one-first it)) ∙ e)
    where
      by : (done : List Reply) → first_of l o b it ∷ replies v o ≡ done ++ ((r ∷ rs) ++ more) → (front : List Reply) × (replies v o ≡ front ++ (rs ++ more))
      by [] e = ([], (heads-same (first_of l o b it) r (replies v o) (rs ++ more) e).1)
      by (d ∷ ds) e = (
        ds ++ r ∷ [],
        (heads-same (first_of l o b it) d (replies v o) (ds ++ ((r ∷ rs) ++ more)) e).1 ∙ sym (append_assoc ds (r ∷ []) (rs ++ more)),
      )

  abbrev pub HeardAll : List Reply → Type 0
  HeardAll rs =
      AreHeardFor (entries l) o q (first_point q) (numbers rs) (messages rs)
      ⊎ (BeginsAt o (numbers rs) × AreHeardOn (entries l) (ask_behind l o) q (numbers rs) (messages rs))

  pub heard-all : (e : ℕ) (w : Response) (rs : List Reply) → IsEnd v o e (Whole w rs) → HeardAll rs
  heard-all e w rs ended = by rs (made-placed v o e w rs legal-then ended) (ordered v o e b w rs legal-then early ended)
    where
      on : (rs : List Reply) → (done : List Reply) × (more : List Reply) × (heard_for v o ≡ done ++ (rs ++ more)) → (f : FetchedOn v o q rs) → StartedFor l o b
          → HeardAll rs
      on rs placed f it =
          let are = f.are in
          let r : Reply = f.first in
          let rest = behind-placed it r f.more placed.0 placed.1
          (subst (λ (rs : List Reply). heard_for v o ≡ placed.0 ++ (rs ++ placed.1)) are placed.2) in
          let same : first_of l o b it ≡ r = (heads-same (first_of l o b it) r [] [] (sym (one-first it) ∙ f.begins)).0 in
          let number : o ≡ r.number = ap (λ (x : Reply). x.number) same in
          let notified : IsNotified (entries l) it.ask q r.number r.message =
          subst (λ (x : Reply). IsNotified (entries l) it.ask q x.number x.message) same (notice-began l o b legal it).notified in
          let others = heard-from l n o b x legal opened here o (point_after (first_point q) r.message) rest.0 f.more placed.1 (inl refl) rest.1 f.fetched in
          let since : AreHeardFor (entries l) r.number q (point_after (first_point q) r.message) (numbers f.more) (messages f.more) =
          subst (λ (i : ℕ). AreHeardFor (entries l) i q (point_after (first_point q) r.message) (numbers f.more) (messages f.more)) number others in
          let all : AreHeardOn (entries l) it.ask q (numbers (r ∷ f.more)) (messages (r ∷ f.more)) =
          ((q, own-get q (get-method q (started l o b legal it).get), notified), since) in
          subst (λ (rs : List Reply). HeardAll rs) (sym are)
          (inr (number, subst (λ (i : ℕ). AreHeardOn (entries l) i q (numbers (r ∷ f.more)) (messages (r ∷ f.more))) (sym (notice-behind l o b it)) all))

      -- an ask begins with nothing
      none-one : (r : Reply) → ◌≡◌ {A = List Reply} [] (r ∷ []) → ⊥
      none-one r e = cc

      by : (rs : List Reply) → (done : List Reply) × (more : List Reply) × (heard_for v o ≡ done ++ (rs ++ more)) → Ordered v o q rs → HeardAll rs
      by [] placed (inl h) = inl tt
      by (r ∷ rs) placed (inl h) =
          let it = fetched-placed (first_point q) r rs placed.0 placed.1 h placed.2 in
          inl (heard-from l n o b x legal opened here o (first_point q) it.0 (r ∷ rs) placed.1 (inl refl) it.1 h)
      by rs placed (inr f) = elim (opened-for l o b legal opened) [
        | inl it ↦ absurd (none-one f.first (sym (none-first it) ∙ f.begins))
        | inr it ↦ on rs placed f it
      ]

-- What was heard since the exchange was heard since the ask that it goes back to.
pub heard-sooner : (h : List Written) (o k : ℕ) (q : CoapRequest) (p : Point) (js : List ℕ) (ms : List Content) → o ≤ k → AreHeardFor h k q p js ms
    → AreHeardFor h o q p js ms
heard-sooner h o k q p [] [] le s = tt
heard-sooner h o k q p [] (m ∷ ms) le s = absurd s
heard-sooner h o k q p (j ∷ js) [] le s = absurd s
heard-sooner h o k q p (j ∷ js) (m ∷ ms) le s =
    let it = s.0 in
    let sent = it.sent_for in
    let after = sent.after in (
      record {
        sending = it.sending;
        sent = it.sent;
        sent_for = record { after = omega (arith, le, after); moment = sent.moment; first = sent.first; asks = sent.asks; issued = sent.issued };
        response = it.response;
        new = it.new;
        first = it.first;
      },
      s.1,
    )

-- What was heard for the one request was heard for one that is alike.
pub on-like : (h : List Written) (o : ℕ) (r q : CoapRequest) (js : List ℕ) (ms : List Content) → IsLike r q → AreHeardOn h o r js ms → AreHeardOn h o q js ms
on-like h o r q [] ms like s = absurd s
on-like h o r q (j ∷ js) [] like s = absurd s
on-like h o r q (j ∷ js) (m ∷ ms) like s = (
  (s.0.0, same-through r q s.0.0 like s.0.1, s.0.2),
  subst (λ (p : Point). AreHeardFor h j q (point_after p m) js ms) (point-like r q like)
      (sequence-like h j r q (point_after (first_point r) m) js ms like s.1),
)

replies-on-like : (h : List Written) (o : ℕ) (r q : CoapRequest) (rs : List Reply) → IsLike r q → AreRepliesOn h o r rs → AreRepliesOn h o q rs
replies-on-like h o r q [] like s = absurd s
replies-on-like h o r q (x ∷ rs) like s = (
  (s.0.0, same-through r q s.0.0 like s.0.1, s.0.2),
  subst (λ (u : Progress). AreRepliesTo h x.number q (step u x) rs) (progress-like r q [] like)
      (replies-like h x.number r q (step (first_progress r) x) rs like s.1),
)

pub replies-for-like : (h : List Written) (o : ℕ) (r q : CoapRequest) (rs : List Reply) → IsLike r q → AreRepliesFor h o r rs → AreRepliesFor h o q rs
replies-for-like h o r q rs like (inl s) =
    inl (subst (λ (u : Progress). AreRepliesTo h o q u rs) (progress-like r q [] like) (replies-like h o r q (first_progress r) rs like s))
replies-for-like h o r q rs like (inr s) = inr (replies-on-like h o r q rs like s)

-- What came for a GET was heard for the ask that opened its exchange, or that this goes back to.
abbrev pub WasHeard : List Noted → ℕ → CoapRequest → Response → List Reply → Type 0
WasHeard l o q w rs =
    (AreHeardFor (entries l) o q (first_point q) (numbers rs) (messages rs) ⊎ AreHeardOn (entries l) o q (numbers rs) (messages rs))
    × (whole_of q (messages rs) ≡ Some w) × (w.code ≡ 69)

pub came-heard : (l : List Noted) (k o e : ℕ) (w : Response) (rs : List Reply) (b : Begun) (x : Noted) → Legal l → at l k ≡ Some x → begun (before l k) o ≡ Some b
    → ComesSo (before l k) o e w rs → WasHeard l (ask_behind l o) b.request w rs
came-heard l k o e w rs b x legal stands opened (inl it) =
    let all = ends-all (before l k) o e w rs (legal-before l k legal) it.ended in
    let same : all.exchange ≡ b = some-is _ _ (sym all.opened ∙ opened) in
    let now = begun-before l k o b opened in
    let below = behind-below l o b legal now in (
      elim (heard-all l k o b x legal now stands opened e w rs it.ended) [
        | inl h ↦ inl (heard-sooner (entries l) (ask_behind l o) o b.request (first_point b.request) (numbers rs) (messages rs) below h)
        | inr h ↦ inr h.1
      ],
      subst (λ (b : Begun). whole_of b.request (messages rs) ≡ Some w) same all.whole,
      it.code,
    )
came-heard l k o e w rs b x legal stands opened (inr u) =
    let now = updates-since l k x o e w rs stands u in
    let it = update-is l o e w rs b legal (begun-before l k o b opened) now in
    let one = first-whole e now.sending now.message w rs now.whole in
    let get = (and_parts (eqb b.request.method 1) (is_none b.request.format && (length b.request.body == 0)) it.1).0 in
    let news = update-news l o e w rs now in
    let f = (tell-fits l e now.watch legal (news-told l e now.watch news (news-fits l e now.watch legal news))).watched in
    let own : ask_behind l o ≡ o =
    subst (λ (i : ℕ). ask_behind l i ≡ i) now.registered
    (sym (behind-since l e now.watch.held.opening f.exchange f.opened)
    ∙ ask-own (before l e) now.watch.held.opening f.exchange (legal-before l e legal) f.for_it) in (
      inr (subst (λ (i : ℕ). AreHeardOn (entries l) i b.request (numbers rs) (messages rs)) (sym own)
          (subst (λ (rs : List Reply). AreHeardOn (entries l) o b.request (numbers rs) (messages rs)) (sym one) ((b.request, own-get b.request (get-method b.request it.1), it.0), tt))),
      first-response b.request e now.sending now.message w rs get now.whole,
      now.code,
    )
