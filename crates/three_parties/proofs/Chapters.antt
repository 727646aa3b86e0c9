-- What is known of one journal: how many calls went before each entry, and what the device heard of it and of others.
use Rattle.std.proofs.Common.{◌≡◌, ◌⊎◌, ℕ, ◌+◌, ◌≤◌, inl, inr, List, [], ◌∷◌, ◌++◌, length, length-append, map, take, Option, Some, refl, sym, ap, subst, ◌∙◌, arith}
use Rattle.std.specs.Prelude.{slice_get}
use Rattle.uri_map.specs.declared.peer.Peer.{Peer}
use Rattle.journal_book.specs.Entries.{Sends, Hears, Written}
use Rattle.history_laws.specs.Justified.{Stands}
use Rattle.history_claims.specs.Headline.{IsEntry}
use Rattle.demo_origin.specs.Calls.{Call}
use Rattle.demo_origin.specs.Once.{heard}
use Rattle.demo_origin.specs.Values.{Device}
use Rattle.demo_origin.specs.declared.execution.Taken.{Taken}
use Rattle.exchange_model.specs.Keeping.{start}
use Rattle.exchange_core.specs.Values.{Outgoing}
use Rattle.gateway_model.specs.Emissions.{Emission}
use Rattle.gateway_model.specs.Going.{goes_in}
use Rattle.story_laws.specs.declared.TheConstants.{LONGEST_WAY}
use Rattle.three_parties.specs.Flights.{Going, Sender, ByProxy, ByDevice, by_proxy, device_at, proxy_at}
use Rattle.three_parties.specs.declared.story.Execution.{Execution}
use Rattle.three_parties.proofs.Calls.{last_moment, moment_then, then-last, WasGiven}
use Rattle.three_parties.proofs.Foreign.{IsApart}
use Rattle.three_parties.proofs.Giving.{AllHeard}
use Rattle.three_parties.proofs.Bearing.{AreIssued}
use Rattle.three_parties.proofs.Lists.{alike, alike-len, alike-there, all-got, got-alike, got-back, got-below, got-both, got-from, got-front, taken-all}
use Rattle.three_parties.proofs.Stamping.{AreAt, IsSentIn}

-- a datagram of the proxy's, and the entry that sends it
pub record IsEnteredAs (h : List Written) (counts : List ℕ) (g : Going) : Type 0 where
  pub number : ℕ
  pub timeout : Option ℕ
  pub stands : IsEntry h number g.moment (Sends g.peer g.bytes timeout)
  pub count : ℕ
  pub counted : slice_get counts number ≡ Some count

-- what the device heard in the call of this number had been sent
pub record IsSentBefore (h : List Written) (counts : List ℕ) (a t : ℕ) (d : List ℕ) : Type 0 where
  pub number : ℕ
  pub moment : ℕ
  pub timeout : Option ℕ
  pub stands : IsEntry h number moment (Sends device_at d timeout)
  pub after : moment ≤ t
  pub within : t ≤ moment + LONGEST_WAY
  pub count : ℕ
  pub counted : slice_get counts number ≡ Some count
  pub before : count ≤ a

-- what the proxy heard in the entry of this number, at this moment, had been given out: the calls before weren't later
pub record IsGivenBefore (first : Device) (calls : List Call) (counts : List ℕ) (n t : ℕ) (bytes : List ℕ) : Type 0 where
  pub given : WasGiven first calls proxy_at bytes
  pub count : ℕ
  pub counted : slice_get counts n ≡ Some count
  pub before : length given.front ≤ count
  pub by : moment_then 0 (take count calls) ≤ t

abbrev pub taken_of : Execution → Taken
taken_of y = y.taken

-- Of each entry of a journal it is known how many calls there were before it, and before the journal began. What its entries
-- don't send, another journal's sent, and this is so of it.
pub record Chapter (Q : List ℕ → Type 0) (begun : ℕ) (first : Device) (flights : List Going) (calls : List Call) (h : List Written) : Type 0 where
  pub counts : List ℕ
  pub whole : length counts ≡ length h
  pub rising : (i j a b : ℕ) → i ≤ j → slice_get counts i ≡ Some a → slice_get counts j ≡ Some b → a ≤ b
  pub started : begun ≤ length calls
  pub least : (i a : ℕ) → slice_get counts i ≡ Some a → begun ≤ a
  pub most : (i a : ℕ) → slice_get counts i ≡ Some a → a ≤ length calls
  pub entered : (n : ℕ) (g : Going) → slice_get flights n ≡ Some g → g.by ≡ ByProxy → IsEnteredAs h counts g ⊎ Q g.bytes
  pub sent_first : (a t : ℕ) (p : Peer) (d : List ℕ) (k : Option Taken) (c : Call) → slice_get calls a ≡ Some c → c.event ≡ heard t p d k
      → IsSentBefore h counts a t d ⊎ Q d
  pub heard_after : (n t : ℕ) (bytes : List ℕ) → IsEntry h n t (Hears device_at bytes) → IsGivenBefore first calls counts n t bytes

-- a journal that was given out, before a token of this number was issued
pub record IsPast (first : Device) (flights : List Going) (calls : List Call) (top : ℕ) (h : List Written) : Type 0 where
  pub lo : ℕ
  pub hi : ℕ
  pub below : hi ≤ top
  pub stands : Stands h
  pub issued : AreIssued lo hi h
  pub begun : ℕ
  pub ended : ℕ
  pub within : begun ≤ ended
  pub chapter : Chapter (IsApart lo hi) begun first flights calls h
  pub upto : (i a : ℕ) → slice_get chapter.counts i ≡ Some a → a ≤ ended

-- such journals, one after another
abbrev pub ArePast : Device → List Going → List Call → ℕ → ℕ → List (List Written) → ℕ → Type 0
ArePast first flights calls top from [] to = from ≤ to
ArePast first flights calls top from (h ∷ hs) to =
    (p : IsPast first flights calls top h) × (from ≤ p.begun) × ArePast first flights calls top p.ended hs to

pub past-map : (first : Device) (fs gs : List Going) (cs ds : List Call) (lo top : ℕ)
    → ((h : List Written) (p : IsPast first fs cs lo h) → (q : IsPast first gs ds top h) × (q.begun ≡ p.begun) × (q.ended ≡ p.ended))
    → (from to : ℕ) (hs : List (List Written)) → ArePast first fs cs lo from hs to → ArePast first gs ds top from hs to
past-map first fs gs cs ds lo top f from to [] h = h
past-map first fs gs cs ds lo top f from to (g ∷ hs) h =
    let q = f g h.0 in
    let le = h.1 in
    let is = q.1 in
    (q.0, omega (arith, le, is), subst (λ (from : ℕ). ArePast first gs ds top from hs to) (sym q.2) (past-map first fs gs cs ds lo top f h.0.ended to hs h.2))

pub past-join : (first : Device) (flights : List Going) (calls : List Call) (top from to last : ℕ) (hs : List (List Written)) (h : List Written)
    → ArePast first flights calls top from hs to → (p : IsPast first flights calls top h) → to ≤ p.begun → p.ended ≤ last
    → ArePast first flights calls top from (hs ++ h ∷ []) last
past-join first flights calls top from to last [] h a p le end = (p, omega (arith, a, le), end)
past-join first flights calls top from to last (g ∷ hs) h a p le end =
    (a.0, a.1, past-join first flights calls top a.0.ended to last hs h a.2 p le end)

-- ---- what an input adds

pub not-both : (s : Sender) → s ≡ ByProxy → s ≡ ByDevice → ⊥
not-both s e f = cc

-- Datagrams are sent that another journal has.
abbrev pub chapter-past : (Q : List ℕ → Type 0) (begun : ℕ) (first : Device) (flights out : List Going) (calls : List Call) (h : List Written)
    → ((n : ℕ) (g : Going) → slice_get out n ≡ Some g → g.by ≡ ByProxy → Q g.bytes) → Chapter Q begun first flights calls h
    → Chapter Q begun first (flights ++ out) calls h
chapter-past Q begun first flights out calls h others o = record {
  counts = o.counts;
  whole = o.whole;
  rising = o.rising;
  started = o.started;
  least = o.least;
  most = o.most;
  entered = λ n g e by. elim (got-both flights out n g e) [ inl k ↦ o.entered n g k by | inr k ↦ inr (others k.0 g k.2 by) ];
  sent_first = o.sent_first;
  heard_after = o.heard_after;
}

module _ (Q : List ℕ → Type 0) (begun : ℕ) (first : Device) (flights : List Going) (t : ℕ) (given : List Emission) (h more : List Written) (calls : List Call)
    (o : Chapter Q begun first flights calls h) (all : AllHeard first calls more) (bear : AreAt t more) (late : last_moment 0 calls ≤ t)
    (sends : (n : ℕ) (d : Outgoing) → slice_get (goes_in given) n ≡ Some d → IsSentIn t more d) where
  abbrev newest : List ℕ
  newest = alike (length calls) more

  abbrev all_counts : List ℕ
  all_counts = o.counts ++ newest

  abbrev out : List Going
  out = map (by_proxy t) (goes_in given)

  counted : length all_counts ≡ length (h ++ more)
  counted =
      let a = length-append o.counts newest in
      let b = length-append h more in
      let c = alike-len (length calls) more in
      let d = o.whole in
      omega (arith, a, b, c, d)

  rises : (i j a b : ℕ) → i ≤ j → slice_get all_counts i ≡ Some a → slice_get all_counts j ≡ Some b → a ≤ b
  rises i j a b le e f =
      elim (got-both o.counts newest i a e) [
        | inl k ↦ elim (got-both o.counts newest j b f) [
          | inl m ↦ o.rising i j a b le k m
          | inr m ↦ let top = o.most i a k in let is = got-alike (length calls) more m.0 b m.2 in omega (arith, top, is)
        ]
        | inr k ↦ elim (got-both o.counts newest j b f) [
          | inl m ↦ let lt = got-below o.counts j b m in let is = k.1 in absurd (omega (arith, lt, is, le))
          | inr m ↦
              let x = got-alike (length calls) more k.0 a k.2 in
              let y = got-alike (length calls) more m.0 b m.2 in
              omega (arith, x, y)
        ]
      ]

  tops : (i a : ℕ) → slice_get all_counts i ≡ Some a → a ≤ length calls
  tops i a e =
      elim (got-both o.counts newest i a e) [
        | inl k ↦ o.most i a k
        | inr k ↦ let is = got-alike (length calls) more k.0 a k.2 in omega (arith, is)
      ]

  bottoms : (i a : ℕ) → slice_get all_counts i ≡ Some a → begun ≤ a
  bottoms i a e =
      elim (got-both o.counts newest i a e) [
        | inl k ↦ o.least i a k
        | inr k ↦ let is = got-alike (length calls) more k.0 a k.2 in let start = o.started in omega (arith, is, start)
      ]

  still : (n : ℕ) (x : Written) → slice_get h n ≡ Some x → slice_get (h ++ more) n ≡ Some x
  still n x e = got-front h more n x e

  -- the place of a new entry
  there : (n k : ℕ) (x : Written) → n ≡ length h + k → slice_get more k ≡ Some x
      → (slice_get (h ++ more) n ≡ Some x) × (slice_get all_counts n ≡ Some (length calls))
  there n k x is e =
      let d = o.whole in (
        got-back h more n k x is e,
        got-back o.counts newest n k (length calls) (omega (arith, is, d)) (alike-there (length calls) more k x e),
      )

  enters : (n : ℕ) (g : Going) → slice_get (flights ++ out) n ≡ Some g → g.by ≡ ByProxy → IsEnteredAs (h ++ more) all_counts g ⊎ Q g.bytes
  enters n g e by =
      elim (got-both flights out n g e) [
        | inl k ↦ elim (o.entered n g k by) [
          | inl it ↦ inl (record {
            number = it.number;
            timeout = it.timeout;
            stands = still it.number _ it.stands;
            count = it.count;
            counted = got-front o.counts newest it.number it.count it.counted;
          })
          | inr other ↦ inr other
        ]
        | inr k ↦
            let it = got-from (by_proxy t) (goes_in given) k.0 g k.2 in
            inl (subst (IsEnteredAs (h ++ more) all_counts) it.2 (goes it.0 (sends k.0 it.0 it.1)))
      ]
    where
      goes : (d : Outgoing) → IsSentIn t more d → IsEnteredAs (h ++ more) all_counts (by_proxy t d)
      goes d i =
          let place = there (length h + i.number) i.number _ refl i.stands in record {
            number = length h + i.number;
            timeout = i.timeout;
            stands = place.0;
            count = length calls;
            counted = place.1;
          }

  sent-before : (a u : ℕ) (p : Peer) (d : List ℕ) (k : Option Taken) (c : Call) → slice_get calls a ≡ Some c → c.event ≡ heard u p d k
      → IsSentBefore (h ++ more) all_counts a u d ⊎ Q d
  sent-before a u p d k c e f =
      elim (o.sent_first a u p d k c e f) [
        | inl it ↦ inl (record {
          number = it.number;
          moment = it.moment;
          timeout = it.timeout;
          stands = still it.number _ it.stands;
          after = it.after;
          within = it.within;
          count = it.count;
          counted = got-front o.counts newest it.number it.count it.counted;
          before = it.before;
        })
        | inr other ↦ inr other
      ]

  given-before : (n u : ℕ) (bytes : List ℕ) → IsEntry (h ++ more) n u (Hears device_at bytes) → IsGivenBefore first calls all_counts n u bytes
  given-before n u bytes e =
      elim (got-both h more n _ e) [
        | inl k ↦
            let it = o.heard_after n u bytes k in record {
              given = it.given;
              count = it.count;
              counted = got-front o.counts newest n it.count it.counted;
              before = it.before;
              by = it.by;
            }
        | inr k ↦
            let it = all k.0 u bytes k.2 in
            let at : u ≡ t = all-got (λ (w : Written). w.moment ≡ t) more bear k.0 _ k.2 in
            let then = ap (moment_then 0) (taken-all calls (length calls) (omega arith)) ∙ then-last 0 calls in
            let len = ap length it.parts ∙ length-append it.front it.rest in record {
              given = it;
              count = length calls;
              counted = (there n k.0 _ k.1 k.2).1;
              before = omega (arith, len);
              by = omega (arith, then, late, at);
            }
      ]

  pub chapter-gave : Chapter Q begun first (flights ++ out) calls (h ++ more)
  chapter-gave = record {
    counts = all_counts;
    whole = counted;
    rising = rises;
    started = o.started;
    least = bottoms;
    most = tops;
    entered = enters;
    sent_first = sent-before;
    heard_after = given-before;
  }
