-- What the pairs that are carried over rest on may be copied, entry by entry.
use Rattle.std.proofs.Common.{◌≡◌, ℕ, ◌<◌, Bool, true, false, ◌&&◌, cond, eqb, inl, inr, List, [], ◌∷◌, length, Option, Some, None, refl, sym, ap, subst, ◌∙◌, arith}
use Rattle.std.specs.List.{Contains}
use Rattle.std.proofs.lemmas.Bool.{false≢true, and_parts}
use Rattle.std.proofs.lemmas.Bool.Decides.{eqb_tells}
use Rattle.std.proofs.lemmas.Slice.Eq.{bytes_eq-Decides}
use Rattle.coap_codec.specs.Spelling.{Content}
use Rattle.uri_map.specs.declared.peer.Peer.{Peer}
use Rattle.uri_map.specs.Peers.{same_peer}
use Rattle.uri_map.proofs.CallerLemmas.{same_peer-itself}
use Rattle.ask_model.specs.Requests.{CoapRequest}
use Rattle.ask_model.specs.Sharing.{asked_key, asks_same, is_get}
use Rattle.cache_key.specs.Keys.{same_key}
use Rattle.cache_key.proofs.CallerLemmas.{keys_decided}
use Rattle.journal_book.specs.Entries.{Done, done_of, Deed}
use Rattle.journal_book.specs.Entries as D
use Rattle.history_laws.specs.Readings.{Noted, at, before}
use Rattle.history_laws.specs.Progress.{Reply}
use Rattle.history_laws.specs.Transmissions.{FirstSending, firsts, first_at}
use Rattle.history_laws.specs.Exchanges.{Begun, begun_by, ask_behind}
use Rattle.history_laws.specs.Carrying.{asked_for, is_replied_by, replied_by}
use Rattle.history_laws.specs.Justified.{Legal}
use Rattle.history_laws.proofs.CallerLemmas.{any-of, at-below, at-cases, at-keeps, at-new, at-old, at-same, at-still, before-keeps, before-new, eqb-itself, find-any, find-some, first-listed, first-older, firsts-tokens, legal-before, length-before, none-some, some-is, behind-at}
use Rattle.exchange_model.specs.Rotating.{has, Backed, carried_numbers}
use Rattle.exchange_model.proofs.Backed.{asks_by, asked_at, asked-below, asked-keeps, not-here, AreBacked, BackedEntry}
use Rattle.exchange_model.proofs.StoredFacts.{AskFacts}
use Rattle.exchange_model.proofs.Taken.{AreTaken, BackedFacts, IsListed, listed, one-pair, opening-listed, reply-listed}

-- What is asked at an entry is what that says.

asked-here : (x : Noted) (l : List Noted) (b : Begun) → asked_at (x ∷ l) (length l) ≡ Some b
    → (asks_by (done_of x.written.deed) ≡ Some b.request) × (b.since ≡ x.written.moment)
asked-here x l b e = by (asks_by (done_of x.written.deed)) refl (rw (eqb-itself (length l)) at e)
  where
    by : (v : Option CoapRequest) → asks_by (done_of x.written.deed) ≡ v → begun_by v true x.written.moment (asked_at l (length l)) ≡ Some b
        → (asks_by (done_of x.written.deed) ≡ Some b.request) × (b.since ≡ x.written.moment)
    by None v e = let below = asked-below l (length l) b e in absurd (omega (arith, below))
    by (Some q) v e =
        let made : record { since = x.written.moment; request = q } ≡ b = some-is _ _ e in
        (v ∙ ap (λ (b : Begun). Some b.request) made, ap (λ (b : Begun). b.since) (sym made))

pub asked-by : (l : List Noted) (n : ℕ) (x : Noted) (b : Begun) → at l n ≡ Some x → asked_at l n ≡ Some b
    → (asks_by (done_of x.written.deed) ≡ Some b.request) × (b.since ≡ x.written.moment)
asked-by [] n x b is e = cc
asked-by (y ∷ older) n x b is e =
    elim (at-old y older n x is) [
      | inl w ↦
          subst (λ (x : Noted). (asks_by (done_of x.written.deed) ≡ Some b.request) × (b.since ≡ x.written.moment)) w.1
          (asked-here y older b (ap (asked_at (y ∷ older)) (sym w.0) ∙ e))
      | inr w ↦
          let below = at-below older n x w in
          elim (eqb_tells (length older) n) [
            | inl v ↦ let same = v.1 in absurd (omega (arith, below, same))
            | inr v ↦ asked-by older n x b w (sym (not-here (asks_by (done_of y.written.deed)) y.written.moment (asked_at older n)) ∙ (rw (v.0) at e))
          ]
    ]

pub asked-is : (l : List Noted) (n : ℕ) (x : Noted) (q : CoapRequest) → at l n ≡ Some x → asks_by (done_of x.written.deed) ≡ Some q
    → asked_at l n ≡ Some (record { since = x.written.moment; request = q })
asked-is [] n x q is e = cc
asked-is (y ∷ older) n x q is e =
    elim (at-old y older n x is) [
      | inl w ↦
          let here : asked_at (x ∷ older) (length older) ≡ Some (record { since = x.written.moment; request = q }) =
          rw (eqb-itself (length older)) (ap (λ (v : Option CoapRequest). begun_by v true x.written.moment (asked_at older (length older))) e) in
          subst (λ (y : Noted). asked_at (y ∷ older) n ≡ Some (record { since = x.written.moment; request = q })) (sym w.1)
          (subst (λ (n : ℕ). asked_at (x ∷ older) n ≡ Some (record { since = x.written.moment; request = q })) (sym w.0) here)
      | inr w ↦ asked-keeps y older n _ (asked-is older n x q w e)
    ]

pub asked-ask : (l : List Noted) (o : ℕ) (q : CoapRequest) → (h : AskFacts l o q) → asked_at l o ≡ Some (record { since = h.entry.written.moment; request = q })
asked-ask l o q h = asked-is l o h.entry q h.stands (ap asks_by h.done ∙ ap asked_for h.sense)

pub asked-later : (l : List Noted) (n o : ℕ) (b : Begun) → asked_at (before l n) o ≡ Some b → asked_at l o ≡ Some b
asked-later [] n o b e = e
asked-later (x ∷ older) n o b e = by (eqb n (length older)) (asked-later older n o b) e
  where
    by : (c : Bool) → (asked_at (before older n) o ≡ Some b → asked_at older o ≡ Some b) → asked_at (cond c older (before older n)) o ≡ Some b → asked_at (x ∷ older) o ≡ Some b
    by true ih e = asked-keeps x older o b e
    by false ih e = asked-keeps x older o b (ih e)

-- First sendings before an entry are those before it.

pub first-before : (l : List Noted) (n i : ℕ) (x : Noted) → at l n ≡ Some x → i < n → first_at (before l n) i ≡ first_at l i
first-before [] n i x is lt = cc
first-before (y ∷ older) n i x is lt =
    elim (at-cases y older n) [
      | inl w ↦
          let same = w.0 in
          subst (λ (k : ℕ). first_at (before (y ∷ older) k) i ≡ first_at (y ∷ older) i) (sym w.0)
          (ap (λ (k : List Noted). first_at k i) (before-new y older) ∙ sym (first-older y older i (omega (arith, same, lt))))
      | inr w ↦
          let below = at-below older n x (sym w.1 ∙ is) in
          ap (λ (k : List Noted). first_at k i) (before-keeps y older n below)
          ∙ (first-before older n i x (sym w.1 ∙ is) lt ∙ sym (first-older y older i (omega (arith, below, lt))))
    ]

-- A reply came to the one first sending under its token.
pub replied-first : (l : List Noted) (p : Peer) (m : Content) (i : ℕ) (f : FirstSending) → Legal l → first_at l i ≡ Some f → f.peer ≡ p → m.token ≡ f.message.token
    → replied_by l p m ≡ Some f
replied-first l p m i f legal is peer token =
    let among = find-some (λ (g : FirstSending). eqb g.number i) (firsts l) f is in
    let hit : is_replied_by p m f ≡ true = both (same_peer f.peer p) _ (ap (same_peer f.peer) (sym peer) ∙ same_peer-itself f.peer)
    ((bytes_eq-Decides f.message.token m.token).1 (sym token)) in
    let found = find-any (is_replied_by p m) (firsts l) (any-of (is_replied_by p m) (firsts l) f among.0 hit) in
    let other = find-some (is_replied_by p m) (firsts l) found.0 found.1 in
    let same : found.0.message.token ≡ m.token = (bytes_eq-Decides found.0.message.token m.token).0 (and_parts (same_peer found.0.peer p) _ other.1).1 in
    let number = firsts-tokens l found.0 f legal other.0 among.0 (same ∙ token) in
    found.1 ∙ (sym (first-listed l found.0 other.0) ∙ (ap (first_at l) number ∙ first-listed l f among.0))
  where
    both : (a b : Bool) → a ≡ true → b ≡ true → (a && b) ≡ true
    both true true e k = refl
    both true false e k = absurd (false≢true k)
    both false b e k = absurd (false≢true e)

-- What holds of each entry holds of all.
pub all-entries : (gs : List ℕ) (l : List Noted)
    → ((n : ℕ) (x : Noted) → has gs n ≡ true → at l n ≡ Some x → BackedEntry gs (before l n) x.written.deed x.note) → AreBacked gs l
all-entries gs [] h = tt
all-entries gs (x ∷ older) h = (
  all-entries gs older
      (λ n y is stands.
      subst (λ (k : List Noted). BackedEntry gs k y.written.deed y.note) (before-keeps x older n (at-below older n y stands)) (h n y is (keeps n y stands))),
  λ is. subst (λ (k : List Noted). BackedEntry gs k x.written.deed x.note) (before-new x older) (h (length older) x is here),
)
  where
    keeps : (n : ℕ) (y : Noted) → at older n ≡ Some y → at (x ∷ older) n ≡ Some y
    keeps n y stands = at-keeps x older n y stands

    here : at (x ∷ older) (length older) ≡ Some x
    here = at-new x older

module _ (l : List Noted) (bs : List Backed) (legal : Legal l) (taken : AreTaken l bs) where
  abbrev gs : List ℕ
  gs = carried_numbers bs

  -- what is sent or heard asks for nothing
  unasked : (n : ℕ) (x : Noted) (k : List Noted) (b : Begun) (done : Done) → at k n ≡ Some x → done_of x.written.deed ≡ Some done → asks_by (Some done) ≡ None
      → asked_at k n ≡ Some b → ⊥
  unasked n x k b done stands is none e =
      none-some b.request (sym none ∙ (ap asks_by (sym is) ∙ (asked-by k n x b stands e).0))

  opening-of : (b c : Backed) → Contains bs b → Contains bs c → (h : BackedFacts l b) → (k : BackedFacts l c) → asked_key h.facts.request ≡ asked_key k.facts.request → b ≡ c
  opening-of b c hb hc h k same = one-pair bs b c taken.apart hb hc (sym h.facts.key ∙ (same ∙ k.facts.key))

  -- an ask of these is the opening of one of them
  pub ask-listed : (n : ℕ) (b : Begun) → has gs n ≡ true → asked_at l n ≡ Some b
      → (c : Backed) × Contains bs c × ((k : BackedFacts l c) × (n ≡ c.pair.stored.opening) × (b.request ≡ k.facts.request))
  ask-listed n b is e =
      let it = listed l bs n legal taken.facts is in
      let facts = it.known.facts in
      elim it.one [
        | inl u ↦ (
          it.backed,
          it.among,
          (
            it.known,
            u,
            ap (λ (b : Begun). b.request)
                (some-is _ _ (sym e ∙ (ap (asked_at l) u ∙ asked-ask l it.backed.pair.stored.opening facts.request facts.ask))),
          ),
        )
        | inr u ↦
            let r = facts.replies u.0 u.1 in
            elim u.2 [
              | inl v ↦ absurd (unasked u.0.sending r.sent_in l b (D.Sent facts.request.peer r.text r.timeout) r.sending r.sent_done refl (ap (asked_at l) (sym v) ∙ e))
              | inr v ↦ absurd (unasked u.0.number r.heard_in l b (D.Heard facts.request.peer r.bytes) r.heard r.done refl (ap (asked_at l) (sym v) ∙ e))
            ]
      ]

  asked-earlier : (n o : ℕ) (x : Noted) (q : CoapRequest) → at l n ≡ Some x → o < n → (h : AskFacts l o q)
      → asked_at (before l n) o ≡ Some (record { since = h.entry.written.moment; request = q })
  asked-earlier n o x q stands lt h =
      asked-is (before l n) o h.entry q (at-still l n o x h.entry stands lt h.stands) (ap asks_by h.done ∙ ap asked_for h.sense)

  pub same-keys : (q r : CoapRequest) → asks_same q r ≡ true → asked_key q ≡ asked_key r
  same-keys q r e =
      let a = and_parts (is_get q) (is_get r && same_key (asked_key q) (asked_key r)) e in
      let b = and_parts (is_get r) (same_key (asked_key q) (asked_key r)) a.1 in
      (keys_decided (asked_key q) (asked_key r)).0 b.1

  -- the ask
  backed-ask : (n : ℕ) (x : Noted) (b : Backed) → Contains bs b → (h : BackedFacts l b) → at l n ≡ Some x → n ≡ b.pair.stored.opening
      → BackedEntry gs (before l n) x.written.deed x.note
  backed-ask n x b among h stands is =
      let ask = h.facts.ask in
      let same : ask.entry ≡ x = at-same l n ask.entry x (ap (at l) is ∙ ask.stands) stands in
      subst (λ (x : Noted). BackedEntry gs (before l n) x.written.deed x.note) same
      (ask.backs gs (before l n) (record {
        request = h.facts.request;
        sense = ask.sense;
        get = h.facts.get;
        once = λ o c listed_it e. apart o c listed_it e (asks_same h.facts.request c.request) refl;
      }))
    where
      apart : (o : ℕ) (c : Begun) → has gs o ≡ true → asked_at (before l n) o ≡ Some c → (v : Bool) → asks_same h.facts.request c.request ≡ v
          → asks_same h.facts.request c.request ≡ false
      apart o c listed_it e false k = k
      apart o c listed_it e true k =
          let it = ask-listed o c listed_it (asked-later l n o c e) in
          let one = opening-of b it.0 among it.1 h it.2.0 (same-keys h.facts.request c.request k ∙ ap asked_key it.2.2) in
          let below = asked-below (before l n) o c e in
          let len = length-before l n x stands in
          let same : o ≡ n = it.2.1 ∙ (ap (λ (b : Backed). b.pair.stored.opening) (sym one) ∙ sym is) in
          absurd (omega (arith, below, len, same))

  -- the exchange of a reply goes back to it
  pub home-then : (n : ℕ) (x : Noted) (b : Backed) (r : Reply) → (h : BackedFacts l b) → (of : Contains (h.facts.first ∷ h.facts.more) r)
      → at l n ≡ Some x → (h.facts.replies r of).owner < n → ask_behind (before l n) (h.facts.replies r of).owner ≡ b.pair.stored.opening
  home-then n x b r h of stands lt =
      let facts = h.facts.replies r of in
      behind-at (before l n) facts.owner facts.opening_in (at-still l n facts.owner x facts.opening_in stands lt facts.opened_at) ∙ facts.home

  -- a message that was sent for it
  backed-sending : (n : ℕ) (x : Noted) (b : Backed) (r : Reply) → Contains bs b → (h : BackedFacts l b) → Contains (h.facts.first ∷ h.facts.more) r
      → at l n ≡ Some x → n ≡ r.sending → BackedEntry gs (before l n) x.written.deed x.note
  backed-sending n x b r among h of stands is =
      let facts = h.facts.replies r of in
      let same : facts.sent_in ≡ x = at-same l n facts.sent_in x (ap (at l) is ∙ facts.sending) stands in
      let after = facts.after in
      subst (λ (x : Noted). BackedEntry gs (before l n) x.written.deed x.note) same
      (facts.sends gs (before l n) (record {
        opened = (let lt = facts.opened in let len = length-before l n x stands in omega (arith, lt, len, is));
        ask = b.pair.stored.opening;
        back = home-then n x b r h of stands (let lt = facts.opened in omega (arith, lt, is));
        exchange = record { since = h.facts.ask.entry.written.moment; request = h.facts.request };
        asked = asked-earlier n b.pair.stored.opening x h.facts.request stands (omega (arith, after, is)) h.facts.ask;
        listed = opening-listed l bs b legal among h;
        peer = refl;
        manner = facts.manner;
        block = facts.block;
        asks = facts.asks;
      }))

  -- the first sending to which a reply came
  pub reply-under : (n : ℕ) (x : Noted) (b : Backed) (r : Reply) → (h : BackedFacts l b) → (of : Contains (h.facts.first ∷ h.facts.more) r)
      → at l n ≡ Some x → n ≡ r.number
      → replied_by (before l n) h.facts.request.peer r.message
      ≡ Some (record { number = r.sending; moment = (h.facts.replies r of).sent_at; opening = (h.facts.replies r of).owner; peer = h.facts.request.peer; message = (h.facts.replies r of).sent })
  reply-under n x b r h of stands is =
      let facts = h.facts.replies r of in
      let later = facts.later in
      replied-first (before l n) h.facts.request.peer r.message r.sending _ (legal-before l n legal)
      (first-before l n r.sending x stands (omega (arith, later, is)) ∙ facts.listed) refl facts.token

  -- a reply
  backed-reply : (n : ℕ) (x : Noted) (b : Backed) (r : Reply) → Contains bs b → (h : BackedFacts l b) → Contains (h.facts.first ∷ h.facts.more) r
      → at l n ≡ Some x → n ≡ r.number → BackedEntry gs (before l n) x.written.deed x.note
  backed-reply n x b r among h of stands is =
      let facts = h.facts.replies r of in
      let same : facts.heard_in ≡ x = at-same l n facts.heard_in x (ap (at l) is ∙ facts.heard) stands in
      subst (λ (x : Noted). BackedEntry gs (before l n) x.written.deed x.note) same
      (facts.hears gs (before l n) (record {
        response = facts.response;
        first = record { number = r.sending; moment = facts.sent_at; opening = facts.owner; peer = h.facts.request.peer; message = facts.sent };
        under = reply-under n x b r h of stands is;
        listed = (reply-listed l bs b legal among h r of).0;
        kind = facts.kind;
      }))

  pub are-backed : AreBacked gs l
  are-backed = all-entries gs l (λ n x is stands. by n x stands (listed l bs n legal taken.facts is))
    where
      by : (n : ℕ) (x : Noted) → at l n ≡ Some x → IsListed l bs n → BackedEntry gs (before l n) x.written.deed x.note
      by n x stands it =
          elim it.one [
            | inl u ↦ backed-ask n x it.backed it.among it.known stands u
            | inr u ↦ elim u.2 [
              | inl v ↦ backed-sending n x it.backed u.0 it.among it.known u.1 stands v
              | inr v ↦ backed-reply n x it.backed u.0 it.among it.known u.1 stands v
            ]
          ]
