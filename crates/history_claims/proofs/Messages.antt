-- The messages of entries, and what is told of them.
use Rattle.std.proofs.Common.{◌≡◌, ℕ, zero, ◌<◌, ◌≤◌, true, List, [], ◌∷◌, ◌++◌, Some, refl, sym, ap, subst, arith}
use Rattle.std.specs.List.{Contains, list_all}
use Rattle.std.proofs.lemmas.Bool.{and_parts}
use Rattle.coap_codec.specs.Spelling.{Content, Spells}
use Rattle.coap_codec.proofs.Unique.{spells_one}
use Rattle.uri_map.specs.declared.peer.Peer.{Peer}
use Rattle.ask_model.specs.Views.{Ask}
use Rattle.journal_book.specs.Entries.{Grounds, Deed, Asks, Hears, Answers, Written}
use Rattle.history_laws.specs.Responses.{is_tellable}
use Rattle.history_laws.specs.Readings.{Noted, Note, Says, entries, at, before, noted}
use Rattle.history_laws.specs.Connections.{is_open}
use Rattle.history_laws.specs.Progress.{Reply, numbers, messages}
use Rattle.history_laws.specs.Laws.{IsReplyTo}
use Rattle.history_laws.specs.Justified.{pending, Follows, Legal}
use Rattle.history_laws.proofs.CallerLemmas.{at-before, at-newest, at-same, at-still, contains-later, legal-before}
use Rattle.history_claims.specs.Headline.{IsEntry, IsHeard, IsHeardFirst}
use Rattle.history_claims.specs.Once.{AreHeard}
use Rattle.history_claims.proofs.Entries.{entries-at, newest-before}

pub moments-rise : (l : List Noted) (i k : ℕ) (x y : Noted) → Legal l → at l i ≡ Some x → at l k ≡ Some y → i < k → x.written.moment ≤ y.written.moment
moments-rise l i k x y legal there here lt =
    let a = at-newest (before l k) i x (legal-before l k legal) (at-still l k i y x here lt there) in
    let b = newest-before l k y legal here in
    omega (arith, a, b)

-- the texts of two entries that are one
pub heard-same : (s t : ℕ) (p r : Peer) (b c : List ℕ) (u v : Note) → noted s (Hears p b) u ≡ noted t (Hears r c) v → b ≡ c
heard-same s t p r b c u v e = go (ap (λ (x : Noted). x.written.deed) e)
  where
    go : Hears p b ≡ Hears r c → b ≡ c
    go f = cc

-- The messages of entries are those of the replies that they heard.
pub same-messages : (l : List Noted) (n : ℕ) (p : Peer) (rs : List Reply) (ms : List Content) → Legal l
    → ((r : Reply) → Contains rs r → (k : ℕ) × IsReplyTo (before l n) k r)
    → AreHeard (entries l) p (numbers rs) ms → ms ≡ messages rs
same-messages l n p [] [] legal listed h = refl
same-messages l n p [] (m ∷ ms) legal listed h = absurd h
same-messages l n p (r ∷ rs) [] legal listed h = absurd h
same-messages l n p (r ∷ rs) (m ∷ ms) legal listed h =
    let fits = (listed r (zero, omega arith, refl)).1 in
    let heard = h.0.1 in
    let stands = entries-at l r.number _ heard.stands in
    let text = heard-same h.0.0 fits.moment p fits.peer heard.bytes fits.bytes stands.0 (Says r.message (Some r.sending) fits.notice)
    (at-same l r.number _ _ stands.1 (at-before l n r.number _ fits.heard)) in
    let here : m ≡ r.message = spells_one m r.message heard.bytes heard.spelled (subst (Spells r.message) (sym text) fits.spelled) in
    let more = same-messages l n p rs ms legal (λ v has. listed v (contains-later r rs v has)) h.1 in
    rw (here, more) refl

-- the first of the replies that an answer names
pub record Began (h : List Written) (since : ℕ) (rs : List Reply) : Type 0 where
  pub first : Reply
  pub more : List Reply
  pub all : rs ≡ first ∷ more
  pub peer : Peer
  pub bytes : List ℕ
  pub stands : IsEntry h first.number since (Hears peer bytes)

pub began : (h : List Written) (since : ℕ) (rs : List Reply) → IsHeardFirst h since (numbers rs) → Began h since rs
began h since [] e = absurd e
began h since (r ∷ rs) e = record { first = r; more = rs; all = refl; peer = e.0; bytes = e.1; stands = e.2 }

moments-same : (s t : ℕ) (d e : Deed) (u v : Note) → noted s d u ≡ noted t e v → s ≡ t
moments-same s t d e u v h = ap (λ (x : Noted). x.written.moment) h

-- The last of messages that were heard is one that may be told, where all are.
pub last-heard : (h : List Written) (p : Peer) (js : List ℕ) (n : ℕ) (ms : List Content) → AreHeard h p (js ++ n ∷ []) ms → list_all is_tellable ms ≡ true
    → (m : Content) × (t : ℕ) × IsHeard h p n t m × (is_tellable m ≡ true)
last-heard h p [] n [] a e = absurd a
last-heard h p [] n (m ∷ ms) a e = (m, a.0.0, a.0.1, (and_parts (is_tellable m) (list_all is_tellable ms) e).0)
last-heard h p (j ∷ js) n [] a e = absurd a
last-heard h p (j ∷ js) n (m ∷ ms) a e = last-heard h p js n ms a.1 (and_parts (is_tellable m) (list_all is_tellable ms) e).1

asks-no-answer : (s t c d k : ℕ) (a : Ask) (g : Grounds) (u v : Note) → noted s (Asks c a) u ≡ noted t (Answers d k g) v → ⊥
asks-no-answer s t c d k a g u v e = go (ap (λ (x : Noted). x.written.deed) e)
  where
    go : Asks c a ≡ Answers d k g → ⊥
    go f = cc

pub asks-open : (l : List Noted) (t c k : ℕ) (g : Grounds) (note : Note) → Follows l t (Answers c k g) note → (is_open l c ≡ true) × (pending l c ≡ Some k)
asks-open l t c k g note may = (may.1, may.2)
