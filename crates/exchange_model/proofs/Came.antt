-- What comes for a GET, before and after an entry.
use Rattle.std.proofs.Common.{◌≡◌, ◌≢◌, ℕ, zero, ◌<◌, Bool, true, false, ltb, inl, inr, List, [], ◌∷◌, ◌++◌, length, Option, Some, None, refl, sym, ap, subst, ◌∙◌, arith}
use Rattle.std.specs.Prelude.{◌&&◌, ◌||◌}
use Rattle.std.specs.List.{Contains}
use Rattle.std.proofs.lemmas.Bool.{false≢true}
use Rattle.std.proofs.lemmas.Bool.Decides.{Decides-ltb}
use Rattle.std.proofs.lemmas.List.Elements.{Contains-append_right}
use Rattle.coap_codec.specs.Spelling.{Content}
use Rattle.uri_map.specs.declared.peer.Peer.{Peer}
use Rattle.cache_key.specs.Keys.{CacheKey}
use Rattle.journal_book.specs.Entries.{Hears, Sends}
use Rattle.history_laws.specs.Readings.{First, Noted, Notice, Says, at, before, noted}
use Rattle.history_laws.specs.Responses.{Response}
use Rattle.history_laws.specs.Progress.{Reply, Whole}
use Rattle.history_laws.specs.Exchanges.{Begun, End, begun, end_here, end_of, kept, replies, turn, heard_for, Replied}
use Rattle.history_laws.specs.Observing.{counting, outdated, outdates, watch_under}
use Rattle.history_laws.specs.Storing.{ComesSo, EndsSo, UpdatesSo}
use Rattle.history_laws.specs.Justified.{Legal}
use Rattle.history_laws.proofs.CallerLemmas.{at-below, at-new, at-old, before-keeps, before-new, begun-before, comes-since, end-below, end-old, ended-begun, find-some, legal-before, never-both, none-some, one-update, outdated-keeps, replies-fit, some-is, unended, watch-fits, ends-whole, turn-replied, waits-first}

-- What was heard in it stands before the end of the history.
pub comes-below : (l : List Noted) (o e : ℕ) (w : Response) (rs : List Reply) → ComesSo l o e w rs → e < length l
comes-below l o e w rs (inl h) = end-below l o e _ h.ended
comes-below l o e w rs (inr u) = at-below l e _ u.stands

pub comes-keeps : (x : Noted) (l : List Noted) (o e : ℕ) (w : Response) (rs : List Reply) → ComesSo l o e w rs → ComesSo (x ∷ l) o e w rs
comes-keeps x l o e w rs h =
    comes-since (x ∷ l) (length l) x o e w rs (at-new x l) (subst (λ (k : List Noted). ComesSo k o e w rs) (sym (before-new x l)) h)

pub comes-back : (x : Noted) (l : List Noted) (o e : ℕ) (w : Response) (rs : List Reply) → ComesSo (x ∷ l) o e w rs → e ≢ length l → ComesSo l o e w rs
comes-back x l o e w rs (inl h) other = elim (end-old (end_here (begun l o) (kept l o) (length l) (heard_for l o) (turn l o x)) (length l) (end_of l o) _ h.ended) [
  | inl old ↦ inl (record { ended = old; code = h.code })
  | inr new ↦ absurd (other (sym new.1))
]
comes-back x l o e w rs (inr u) other = elim (at-old x l e _ u.stands) [
  | inl new ↦ absurd (other new.0)
  | inr old ↦ inr (record {
    moment = u.moment;
    peer = u.peer;
    bytes = u.bytes;
    message = u.message;
    sending = u.sending;
    place = u.place;
    stands = old;
    watch = u.watch;
    under = subst (λ (k : List Noted). watch_under k u.message.token ≡ Some u.watch) (before-keeps x l e (at-below l e _ old)) u.under;
    registered = u.registered;
    whole = u.whole;
    code = u.code;
  })
]

-- It comes to an exchange that was opened.
update-begun : (l : List Noted) (o e : ℕ) (w : Response) (rs : List Reply) → Legal l → (u : UpdatesSo l o e w rs) → (b : Begun) × (begun (before l e) o ≡ Some b)
update-begun l o e w rs legal u =
    let fits = watch-fits (before l e) u.watch (legal-before l e legal) (find-some _ _ u.watch u.under).0 in
    (fits.exchange, subst (λ (k : ℕ). begun (before l e) k ≡ Some fits.exchange) u.registered fits.opened)

pub comes-begun : (l : List Noted) (o e : ℕ) (w : Response) (rs : List Reply) → Legal l → ComesSo l o e w rs → (b : Begun) × (begun l o ≡ Some b)
comes-begun l o e w rs legal (inl h) = ended-begun l o _ legal h.ended
comes-begun l o e w rs legal (inr u) = let it = update-begun l o e w rs legal u in (it.0, begun-before l e o it.0 it.1)

pub comes-was : (x : Noted) (l : List Noted) (o e : ℕ) (w : Response) (rs : List Reply) → Legal (x ∷ l) → ComesSo (x ∷ l) o e w rs → (b : Begun) × (begun l o ≡ Some b)
comes-was x l o e w rs legal (inl h) = begun-of (begun l o) refl
  where
    begun-of : (b : Option Begun) → begun l o ≡ b → (b : Begun) × (begun l o ≡ Some b)
    begun-of None is = absurd (none-some _ (sym (unended x l o legal is) ∙ h.ended))
    begun-of (Some b) is = (b, is)
comes-was x l o e w rs legal (inr u) =
    let it = update-begun (x ∷ l) o e w rs legal u in
    elim (at-old x l e _ u.stands) [
      | inl new ↦ (it.0, subst (λ (k : List Noted). begun k o ≡ Some it.0) (ap (before (x ∷ l)) new.0 ∙ before-new x l) it.1)
      | inr old ↦
          let below = at-below l e _ old in
          (it.0, begun-before l e o it.0 (subst (λ (k : List Noted). begun k o ≡ Some it.0) (before-keeps x l e below) it.1))
    ]

-- Where no notification counts none brings anything,
pub none-updates : (x : Noted) (l : List Noted) (o : ℕ) (w : Response) (rs : List Reply) → counting l x.note ≡ None → UpdatesSo (x ∷ l) o (length l) w rs → ⊥
none-updates x l o w rs silent u = elim (at-old x l (length l) _ u.stands) [
  | inr old ↦ let below = at-below l (length l) _ old in omega (arith, below)
  | inl new ↦
      let under = subst (λ (k : List Noted). watch_under k u.message.token ≡ Some u.watch) (before-new x l) u.under in
      none-some u.watch (sym (subst (λ (y : Noted). counting l y.note ≡ None) new.1 silent) ∙ under)
]

-- and where no exchange ends either, nothing comes.
pub none-comes : (x : Noted) (l : List Noted) (o : ℕ) (w : Response) (rs : List Reply) → end_of (x ∷ l) o ≡ end_of l o → counting l x.note ≡ None
    → ComesSo (x ∷ l) o (length l) w rs → ⊥
none-comes x l o w rs same silent (inl h) = let below = end-below l o (length l) _ (sym same ∙ h.ended) in omega (arith, below)
none-comes x l o w rs same silent (inr u) = none-updates x l o w rs silent u

-- By what isn't out of date now, nothing is told that counts for its key.
pub uncounted-by : (x : Noted) (l : List Noted) (key : CacheKey) (k : ℕ) → k < length l → outdated (x ∷ l) key k ≡ false → (n : ℕ) → outdated (x ∷ l) key n ≡ outdated l key n
uncounted-by x l key k below fresh n = by (outdates l key x.note) refl (ltb n (length l))
  where
    late : outdates l key x.note ≡ true → outdated (x ∷ l) key k ≡ true
    late e = rw ((Decides-ltb k (length l)).1 below, e) refl

    by : (b : Bool) → outdates l key x.note ≡ b → (c : Bool) → ((c && outdates l key x.note) || outdated l key n) ≡ outdated l key n
    by true e c = absurd (false≢true (sym fresh ∙ late e))
    by false e true = rw (e) refl
    by false e false = refl

pub fresh-before : (x : Noted) (l : List Noted) (key : CacheKey) (n : ℕ) → outdated (x ∷ l) key n ≡ false → outdated l key n ≡ false
fresh-before x l key n e = by (outdated l key n) refl
  where
    by : (b : Bool) → outdated l key n ≡ b → b ≡ false
    by false f = refl
    by true f = absurd (false≢true (sym e ∙ outdated-keeps x l key n f))

-- What comes in one entry is one.
pub record Same (o p : ℕ) (w v : Response) (rs ts : List Reply) : Type 0 where
  pub opening : o ≡ p
  pub response : w ≡ v
  pub replies : rs ≡ ts

-- A reply is one to one exchange.
pub is-last-of : (rs : List Reply) (r : Reply) (all : List Reply) → all ≡ rs ++ r ∷ [] → Contains all r
is-last-of rs r all e = subst (λ (v : List Reply). Contains v r) (sym e) (Contains-append_right rs (r ∷ []) r (zero, omega arith, refl))

pub opened-by-one : (l : List Noted) (o p : ℕ) (r v : Reply) → Legal l → Contains (replies l o) r → Contains (replies l p) v → r.number ≡ v.number → o ≡ p
opened-by-one l o p r v legal has had number =
    let f = replies-fit l o r legal has in
    let g = replies-fit l p v legal had in
    let sending : r.sending ≡ v.sending = said f.moment g.moment f.peer g.peer f.bytes g.bytes r.message v.message r.sending v.sending f.notice g.notice
    (some-is _ _ (sym f.heard ∙ (ap (at l) number ∙ g.heard))) in
    sent f.sent_at g.sent_at f.peer g.peer f.first.bytes g.first.bytes f.first.timeout g.first.timeout f.sent g.sent o p
    (some-is _ _ (sym f.first.stands ∙ (ap (at l) sending ∙ g.first.stands)))
  where
    said : (t v : ℕ) (p r : Peer) (c d : List ℕ) (m n : Content) (i j : ℕ) (f g : Notice) → noted t (Hears p c) (Says m (Some i) f) ≡ noted v (Hears r d) (Says n (Some j) g) → i ≡ j
    said t v p r c d m n i j f g e = says (ap (λ (x : Noted). x.note) e)
      where
        says : Says m (Some i) f ≡ Says n (Some j) g → i ≡ j
        says h = cc

    sent : (t v : ℕ) (p r : Peer) (c d : List ℕ) (w z : Option ℕ) (m n : Content) (o k : ℕ) → noted t (Sends p c w) (First o m) ≡ noted v (Sends r d z) (First k n) → o ≡ k
    sent t v p r c d w z m n o k e = firsts-of (ap (λ (x : Noted). x.note) e)
      where
        firsts-of : First o m ≡ First k n → o ≡ k
        firsts-of h = cc

-- An entry is a reply to one exchange.
pub one-turn : (l : List Noted) (o p : ℕ) (x : Noted) (i j : ℕ) (m n : Content) (a b : Bool) → turn l o x ≡ Replied i m a → turn l p x ≡ Replied j n b → o ≡ p
one-turn l o p x i j m n a b one other =
    let f = turn-replied l o x i m a one in
    let g = turn-replied l p x j n b other in
    let sending : i ≡ j = said m n i j f.notice g.notice (ap (λ (x : Noted). x.note) (sym f.entry ∙ g.entry)) in
    let first = waits-first l o i f.waited in
    let second = waits-first l p j g.waited in
    sent (some-is _ _ (sym first.3.stands ∙ (ap (at l) sending ∙ second.3.stands)))
  where
    said : (m n : Content) (i j : ℕ) (f g : Notice) → Says m (Some i) f ≡ Says n (Some j) g → i ≡ j
    said m n i j f g h = cc

    sent : {s t : ℕ} {q r : Peer} {c d : List ℕ} {w z : Option ℕ} {m n : Content} → noted s (Sends q c w) (First o m) ≡ noted t (Sends r d z) (First p n) → o ≡ p
    sent {m = m} {n = n} e = firsts-of m n (ap (λ (x : Noted). x.note) e)
      where
        firsts-of : (m n : Content) → First o m ≡ First p n → o ≡ p
        firsts-of m n h = cc

one-end : (l : List Noted) (o p e : ℕ) (w v : Response) (rs ts : List Reply) → Legal l → EndsSo l o e w rs → EndsSo l p e v ts → Same o p w v rs ts
one-end l o p e w v rs ts legal a b =
    let one = ends-whole l o e w rs legal a.ended in
    let other = ends-whole l p e v ts legal b.ended in
    let opening = one-turn (before l e) o p one.entry one.turned.sending other.turned.sending one.turned.message other.turned.message one.turned.place other.turned.place
    one.turned.is (subst (λ (x : Noted). turn (before l e) p x ≡ Replied other.turned.sending other.turned.message other.turned.place) (some-is _ _ (sym other.stands ∙ one.stands)) other.turned.is) in
    let how = whole-same (ap (λ (z : End). z.how) (some-is _ _ (sym a.ended ∙ (ap (end_of l) opening ∙ b.ended)))) in
    record { opening = opening; response = how.0; replies = how.1 }
  where
    whole-same : Whole w rs ≡ Whole v ts → (w ≡ v) × (rs ≡ ts)
    whole-same e = (cc, cc)

pub one-comes : (l : List Noted) (o p e : ℕ) (w v : Response) (rs ts : List Reply) → Legal l → ComesSo l o e w rs → ComesSo l p e v ts → Same o p w v rs ts
one-comes l o p e w v rs ts legal (inl a) (inl b) = one-end l o p e w v rs ts legal a b
one-comes l o p e w v rs ts legal (inl a) (inr b) = absurd (never-both l o p e w v rs ts legal a b)
one-comes l o p e w v rs ts legal (inr a) (inl b) = absurd (never-both l p o e v w ts rs legal b a)
one-comes l o p e w v rs ts legal (inr a) (inr b) =
    let it = one-update l o p e w v rs ts a b in record { opening = it.0; response = it.1; replies = it.2 }
