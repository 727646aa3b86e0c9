-- An answer that was kept, and names one entry, rests on what was heard there: nothing renewed it.
use Rattle.std.proofs.Common.{◌≡◌, ◌⊎◌, ℕ, ◌+◌, ◌<◌, inl, inr, List, [], ◌∷◌, ◌++◌, Some, refl, sym, ap, subst, ◌∙◌}
use Rattle.std.specs.List.{Contains}
use Rattle.coap_codec.specs.Spelling.{Content}
use Rattle.ask_model.specs.Requests.{CoapRequest, Requests}
use Rattle.journal_book.specs.Entries.{Mark, Ground, Done, Hears, Carries, Written}
use Rattle.uri_map.specs.declared.peer.Peer.{Peer}
use Rattle.history_laws.proofs.CallerLemmas.{some-is}
use Rattle.resp_cache.specs.Stored.{Stored, lifetime}
use Rattle.history_laws.specs.Responses.{Response, whole_of}
use Rattle.history_laws.specs.Progress.{first_point}
use Rattle.history_claims.specs.Headline.{IsAsked, IsEntry, IsSameGet, IsWriteAnswer, AreHeardFor, IsHeardFirst, AreHeardOn, IsNewest}
use Rattle.history_claims.specs.Carried.{IsAskCopied, AreCarriedFor, IsCarriedFirst}
use Rattle.history_claims.specs.Stored.{WasHeardHere, WasCarried, WasWhole, WasRenewed, never, again, IsServed}

pub record ServedHere (h : List Written) (t c k : ℕ) (js : List ℕ) : Type 0 where
  pub request : CoapRequest
  pub asked : IsAsked h k c t (Requests request)
  pub opening : ℕ
  pub earlier : opening < k
  pub conn : ℕ
  pub moment : ℕ
  pub other : CoapRequest
  pub other_asked : IsAsked h opening conn moment (Requests other)
  pub same : IsSameGet request other
  pub messages : List Content
  pub heard : AreHeardFor h opening other (first_point other) js messages ⊎ AreHeardOn h opening other js messages
  pub before : (j : ℕ) → Contains js j → j < k
  pub response : Response
  pub whole : whole_of other messages ≡ Some response
  pub since : ℕ
  pub first : IsHeardFirst h since js
  pub fresh : t < since + lifetime response.max_age
  pub newest : IsNewest h js k request
  pub current : (n : ℕ) → IsWriteAnswer h request n → n < k → n < opening

pub record ServedCopied (h : List Written) (t c k : ℕ) (js : List ℕ) : Type 0 where
  pub request : CoapRequest
  pub asked : IsAsked h k c t (Requests request)
  pub opening : ℕ
  pub copied : CoapRequest
  pub copied_asked : IsAskCopied h opening copied
  pub same : IsSameGet request copied
  pub messages : List Content
  pub heard : AreCarriedFor h opening copied js messages
  pub response : Response
  pub whole : whole_of copied messages ≡ Some response
  pub heard_at : ℕ
  pub first : IsCarriedFirst h heard_at js
  pub fresh : t < heard_at + lifetime response.max_age
  pub current : (n : ℕ) → IsWriteAnswer h request n → n < k → n < opening

-- What was heard of it is no empty list,
some-here : (h : List Written) (t : ℕ) (js : List ℕ) → IsHeardFirst h t js → (i : ℕ) × (is : List ℕ) × (js ≡ i ∷ is)
some-here h t [] e = absurd e
some-here h t (i ∷ is) e = (i, is, refl)

some-copied : (h : List Written) (t : ℕ) (js : List ℕ) → IsCarriedFirst h t js → (i : ℕ) × (is : List ℕ) × (js ≡ i ∷ is)
some-copied h t [] e = absurd e
some-copied h t (i ∷ is) e = (i, is, refl)

pub some-heard : (h : List Written) (q : CoapRequest) (s : Stored) → WasWhole h q s → (i : ℕ) × (is : List ℕ) × (s.list ≡ i ∷ is)
some-heard h q s w = elim (w.heard) [ inl here ↦ some-here h s.heard s.list here.first | inr copied ↦ some-copied h s.heard s.list copied.first ]

-- so that with a 2.03 it has two entries.
two-entries : (i n j : ℕ) (is : List ℕ) → i ∷ (is ++ n ∷ []) ≡ j ∷ [] → ⊥
two-entries i n j [] e = cc
two-entries i n j (k ∷ is) e = cc

pub unrenewed : (h : List Written) (q : CoapRequest) (first : Stored) (n : ℕ) (s : Stored) (j : ℕ) → WasWhole h q first → WasRenewed h q first n s
    → s.list ≡ j ∷ [] → (first ≡ s) × ((i : ℕ) → Contains first.list i → i < n)
unrenewed h q first n s j w (never below) e = (refl, below)
unrenewed h q first n s j w (again o c t i r m asked same was it below) e =
    let some = some-heard h q first w in
    absurd (two-entries some.0 i j some.1 (sym (ap (λ (js : List ℕ). js ++ i ∷ []) some.2) ∙ e))

pub plain-served : (h : List Written) (t c k j : ℕ) → IsServed h t c k (j ∷ []) → ServedHere h t c k (j ∷ []) ⊎ ServedCopied h t c k (j ∷ [])
plain-served h t c k j s = by s.is.whole.heard
  where
    same : (s.is.first ≡ s.stored) × ((i : ℕ) → Contains s.is.first.list i → i < k)
    same = unrenewed h s.request s.is.first k s.stored j s.is.whole s.is.renewed s.list

    list : s.is.first.list ≡ j ∷ []
    list = ap (λ (v : Stored). v.list) same.0 ∙ s.list

    fresh : t < s.is.first.heard + lifetime s.is.first.response.max_age
    fresh = subst (λ (v : Stored). t < v.heard + lifetime v.response.max_age) (sym same.0) s.fresh

    by : WasHeardHere h s.is.first.opening s.is.whole.other s.is.first.list s.is.whole.messages s.is.first.heard
        ⊎ WasCarried h s.is.first.opening s.is.whole.other s.is.first.list s.is.whole.messages s.is.first.heard
        → ServedHere h t c k (j ∷ []) ⊎ ServedCopied h t c k (j ∷ [])
    by (inl here) =
        inl (subst (λ (js : List ℕ). ServedHere h t c k js) list
        (record {
          request = s.request;
          asked = s.asked;
          opening = s.is.first.opening;
          earlier = s.is.earlier;
          conn = here.conn;
          moment = here.moment;
          other = s.is.whole.other;
          other_asked = here.asked;
          same = s.is.whole.same;
          messages = s.is.whole.messages;
          heard = here.heard;
          before = same.1;
          response = s.is.first.response;
          whole = s.is.whole.whole;
          since = s.is.first.heard;
          first = here.first;
          fresh = fresh;
          newest = s.is.newest;
          current = s.is.current;
        }))
    by (inr copied) =
        inr (subst (λ (js : List ℕ). ServedCopied h t c k js) list
        (record {
          request = s.request;
          asked = s.asked;
          opening = s.is.first.opening;
          copied = s.is.whole.other;
          copied_asked = copied.asked;
          same = s.is.whole.same;
          messages = s.is.whole.messages;
          heard = copied.heard;
          response = s.is.first.response;
          whole = s.is.whole.whole;
          heard_at = s.is.first.heard;
          first = copied.first;
          fresh = fresh;
          current = s.is.current;
        }))

-- Where no entry is a copy, nothing rests on one.
abbrev pub HasNoCopies : List Written → Type 0
HasNoCopies h = (n t k : ℕ) (mark : Mark) (done : Done) → IsEntry h n t (Carries k mark done) → ⊥

-- Where the entry that it names is a copy, it rests on that.
carries-no-hears : (h : List Written) (j s t n : ℕ) (mark : Mark) (done : Done) (p : Peer) (b : List ℕ) → IsEntry h j s (Carries n mark done)
    → IsEntry h j t (Hears p b) → ⊥
carries-no-hears h j s t n mark done p b e f = go (ap (λ (x : Written). x.deed) (some-is _ _ (sym e ∙ f)))
  where
    go : Carries n mark done ≡ Hears p b → ⊥
    go g = cc

pub served-copied : (h : List Written) (t c k j s n : ℕ) (mark : Mark) (done : Done) → IsEntry h j s (Carries n mark done) → IsServed h t c k (j ∷ [])
    → ServedCopied h t c k (j ∷ [])
served-copied h t c k j s n mark done is it = elim (plain-served h t c k j it) [
  | inl here ↦ absurd (carries-no-hears h j s here.since n mark done here.first.0 here.first.1 is here.first.2)
  | inr copied ↦ copied
]

pub served-here : (h : List Written) (t c k j : ℕ) → HasNoCopies h → IsServed h t c k (j ∷ []) → ServedHere h t c k (j ∷ [])
served-here h t c k j none s = elim (plain-served h t c k j s) [
  | inl it ↦ it
  | inr it ↦ absurd (none it.opening it.copied_asked.moment it.copied_asked.number Ground _ it.copied_asked.stands)
]
