-- What a journal begins with that is stored, before and after an entry of its own.
use Rattle.std.proofs.Common.{◌≡◌, ℕ, zero, ◌<◌, ◌⊎◌, Bool, true, false, eqb, inl, inr, List, [], ◌∷◌, length, Option, Some, None, refl, sym, ap, subst, ◌∙◌, arith}
use Rattle.std.specs.List.{Contains}
use Rattle.std.proofs.lemmas.Bool.{false≢true}
use Rattle.cache_key.specs.Keys.{CacheKey}
use Rattle.cache_key.proofs.CallerLemmas.{keys_decided}
use Rattle.ask_model.specs.Requests.{CoapRequest}
use Rattle.ask_model.specs.Sharing.{asked_key, asks_same, is_get}
use Rattle.journal_book.specs.Entries.{Ground, Deed, Carries}
use Rattle.journal_book.specs.Entries as D
use Rattle.history_laws.specs.Responses.{Response}
use Rattle.history_laws.specs.Readings.{Noted, Note, Plain, carries}
use Rattle.history_laws.specs.Progress.{Reply}
use Rattle.history_laws.specs.Exchanges.{Begun, begun_by}
use Rattle.history_laws.specs.Carrying.{asked_for, carried, carried_by, CarriesSo}
use Rattle.history_laws.specs.Grounds.{IsCarriedReply}
use Rattle.history_laws.specs.Storing.{IsCarriedUnder}
use Rattle.history_laws.specs.Justified.{Follows, IsCopiedOnce, Legal}
use Rattle.history_laws.proofs.CallerLemmas.{at-below, carried-below, carried-fit, carried-own, carried-replies-own, eqb-same, none-some, some-is}

-- An entry of the journal's own is no copy.
abbrev pub IsOwn : Noted → Type 0
IsOwn x = carries x.written.deed ≡ false

-- What it began with stays so,
pub carries-stays : (x : Noted) (l : List Noted) (o : ℕ) (w : Response) (rs : List Reply) → IsOwn x → (c : CarriesSo l o w rs)
    → (d : CarriesSo (x ∷ l) o w rs) × (c.exchange ≡ d.exchange)
carries-stays x l o w rs own c = (
  record {
    exchange = c.exchange;
    asked = carried-own x l o own ∙ c.asked;
    get = c.get;
    replies = carried-replies-own x l o own ∙ c.replies;
    whole = c.whole;
  },
  refl,
)

-- and was so before.
pub carries-was : (x : Noted) (l : List Noted) (o : ℕ) (w : Response) (rs : List Reply) → IsOwn x → (c : CarriesSo (x ∷ l) o w rs)
    → (d : CarriesSo l o w rs) × (c.exchange ≡ d.exchange)
carries-was x l o w rs own c = (
  record {
    exchange = c.exchange;
    asked = sym (carried-own x l o own) ∙ c.asked;
    get = c.get;
    replies = sym (carried-replies-own x l o own) ∙ c.replies;
    whole = c.whole;
  },
  refl,
)

pub under-stays : (x : Noted) (l : List Noted) (key : CacheKey) → IsOwn x → IsCarriedUnder l key → IsCarriedUnder (x ∷ l) key
under-stays x l key own a =
    let c = carries-stays x l a.opening a.response a.replies own a.carries in
    record {
      opening = a.opening;
      response = a.response;
      replies = a.replies;
      carries = c.0;
      is = ap (λ (b : Begun). asked_key b.request) (sym c.1) ∙ a.is;
    }

-- Its replies stand as copies.
pub reply-stands : (l : List Noted) (o : ℕ) (w : Response) (rs : List Reply) → Legal l → (c : CarriesSo l o w rs) → (r : Reply) → Contains rs r
    → IsCarriedReply l o c.exchange.request r
reply-stands l o w rs legal c r has =
    carried-fit l o c.exchange r legal c.asked (subst (λ (ts : List Reply). Contains ts r) (sym c.replies) has)

pub first-before : (l : List Noted) (o : ℕ) (w : Response) (first : Reply) (more : List Reply) → Legal l → CarriesSo l o w (first ∷ more) → first.number < length l
first-before l o w first more legal c =
    let fit = reply-stands l o w (first ∷ more) legal c first (zero, omega arith, refl) in
    at-below l first.number _ fit.heard

pub opening-before : (l : List Noted) (o : ℕ) (w : Response) (rs : List Reply) → CarriesSo l o w rs → o < length l
opening-before l o w rs c = carried-below l o c.exchange c.asked

-- Of those that are carried no two ask for the same.

new-or-old : (x : Noted) (l : List Noted) (o : ℕ) (b : Begun) → carried (x ∷ l) o ≡ Some b
    → ((length l ≡ o) × (carried_by x.written.deed ≡ Some b.request)) ⊎ (carried l o ≡ Some b)
new-or-old x l o b e = by (carried_by x.written.deed) refl (eqb (length l) o) refl e
  where
    by : (v : Option CoapRequest) → carried_by x.written.deed ≡ v → (here : Bool) → eqb (length l) o ≡ here
        → begun_by v here x.written.moment (carried l o) ≡ Some b
        → ((length l ≡ o) × (carried_by x.written.deed ≡ Some b.request)) ⊎ (carried l o ≡ Some b)
    by None is here at_o f = inr f
    by (Some q) is true at_o f = inl (eqb-same (length l) o at_o, is ∙ ap (λ (c : Begun). Some c.request) (some-is _ _ f))
    by (Some q) is false at_o f = inr f

once : (l : List Noted) (t : ℕ) (d : Deed) (note : Note) (q : CoapRequest) → Follows l t d note → carried_by d ≡ Some q → IsCopiedOnce l q × (is_get q ≡ true)
once l t (Carries k Ground (D.Asked c a)) Plain q f e =
    let same : f.2.0 ≡ q = some-is _ _ (sym (ap asked_for f.2.1) ∙ e) in
    subst (λ (r : CoapRequest). IsCopiedOnce l r × (is_get r ≡ true)) same (f.2.3, f.2.2)
once l t (Carries k Ground (D.Asked c a)) note q f e = absurd f.2
once l t d note q f e = absurd (none-some q e)

both-get : (q r : CoapRequest) → is_get q ≡ true → is_get r ≡ true → asked_key q ≡ asked_key r → asks_same q r ≡ true
both-get q r g h keys = rw (g, h, (keys_decided (asked_key q) (asked_key r)).1 keys) refl

copied-get : (l : List Noted) (o : ℕ) (b : Begun) → Legal l → carried l o ≡ Some b → is_get b.request ≡ true
copied-get [] o b legal e = absurd (none-some b e)
copied-get (x ∷ l) o b legal e = elim (new-or-old x l o b e) [
  | inl now ↦ (once l x.written.moment x.written.deed x.note b.request legal.2 now.1).1
  | inr old ↦ copied-get l o b legal.0 old
]

pub one-carried : (l : List Noted) (o p : ℕ) (b c : Begun) → Legal l → carried l o ≡ Some b → carried l p ≡ Some c → asked_key b.request ≡ asked_key c.request → o ≡ p
one-carried [] o p b c legal e f keys = absurd (none-some b e)
one-carried (x ∷ l) o p b c legal e f keys = by (new-or-old x l o b e) (new-or-old x l p c f) (λ g h. one-carried l o p b c legal.0 g h keys)
  where
    apart : (i : ℕ) (u v : Begun) → carried_by x.written.deed ≡ Some u.request → carried l i ≡ Some v → asked_key u.request ≡ asked_key v.request → ⊥
    apart i u v new old same =
        let it = once l x.written.moment x.written.deed x.note u.request legal.2 new in
        false≢true (sym (it.0 i v old) ∙ both-get u.request v.request it.1 (copied-get l i v legal.0 old) same)

    by : ((length l ≡ o) × (carried_by x.written.deed ≡ Some b.request)) ⊎ (carried l o ≡ Some b)
        → ((length l ≡ p) × (carried_by x.written.deed ≡ Some c.request)) ⊎ (carried l p ≡ Some c)
        → (carried l o ≡ Some b → carried l p ≡ Some c → o ≡ p) → o ≡ p
    by (inl g) (inl h) ih = sym g.0 ∙ h.0
    by (inl g) (inr h) ih = absurd (apart p b c g.1 h keys)
    by (inr g) (inl h) ih = absurd (apart o c b h.1 g (sym keys))
    by (inr g) (inr h) ih = ih g h
