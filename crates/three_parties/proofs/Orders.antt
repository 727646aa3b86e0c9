-- In which order the proxy's entries were made, datagrams were sent, and the device was called, journal by journal.
use Rattle.std.proofs.Common.{◌≡◌, ℕ, ◌+◌, ◌≤◌, inl, inr, List, [], ◌∷◌, ◌++◌, append-nil, append_assoc, length, map, take, Option, Some, None, refl, sym, ap, subst, ◌∙◌, arith}
use Rattle.std.specs.Prelude.{slice_get}
use Rattle.uri_map.specs.declared.peer.Peer.{Peer}
use Rattle.ask_model.specs.Views.{Rules}
use Rattle.journal_book.specs.Entries.{Sends, Hears, Written}
use Rattle.history_laws.specs.Justified.{Stands}
use Rattle.history_laws.proofs.CallerLemmas.{none-some}
use Rattle.history_claims.specs.Headline.{IsEntry}
use Rattle.demo_origin.specs.Calls.{Call}
use Rattle.demo_origin.specs.Done.{told_in}
use Rattle.demo_origin.specs.Once.{heard}
use Rattle.demo_origin.specs.Values.{Device}
use Rattle.demo_origin.specs.declared.execution.Taken.{Taken}
use Rattle.exchange_model.specs.Keeping.{start}
use Rattle.exchange_model.specs.State.{State}
use Rattle.exchange_core.specs.Values.{Outgoing}
use Rattle.gateway_model.specs.Emissions.{Emission, Says, Goes, Closed, GivenUp, Turned, Rotated, Unrotated}
use Rattle.gateway_model.specs.Going.{goes_in}
use Rattle.gateway_model.proofs.CallerLemmas.{AreCopies, AreNoJournals}
use Rattle.gateway_world.specs.Worlds.{WorldValue}
use Rattle.limits.specs.declared.TheConstants.{LAST_MOMENT}
use Rattle.three_parties.specs.Flights.{Going, ByProxy, by_proxy, device_at}
use Rattle.three_parties.specs.Scenes.{Scene, gave as gave_out, later}
use Rattle.three_parties.specs.Stories.{opening}
use Rattle.three_parties.proofs.Foreign.{IsApart, IsOlder, older-apart, still-older}
use Rattle.three_parties.proofs.Giving.{AllHeard}
use Rattle.three_parties.proofs.Bearing.{IsIssued, Issued}
use Rattle.three_parties.proofs.Lists.{alike, alike-len, all-got, got-alike, got-back, got-from}
use Rattle.three_parties.proofs.Calls.{last_moment}
use Rattle.three_parties.proofs.Stamping.{AreAt, IsSentIn}
use Rattle.three_parties.proofs.Tales.{IsBroughtBy}
use Rattle.three_parties.proofs.Turning.{copy-at}
use Rattle.three_parties.proofs.Chapters.{Chapter, IsPast, ArePast, past-map, past-join, chapter-past, chapter-gave, taken_of}

-- the journals that were given out
abbrev pub given_by : Emission → List (List Written)
given_by (Rotated h) = h ∷ []
given_by e = []

abbrev pub given_in : List Emission → List (List Written)
given_in [] = []
given_in (e ∷ out) = given_by e ++ given_in out

-- So it is of the journal that there is, and of each that there was.
pub record Order (first : Device) (s : Scene) (calls : List Call) (places : List ℕ) : Type 0 where
  pub lo : ℕ
  pub issued : Issued lo s.world.core.state
  pub begun : ℕ
  pub now : Chapter (IsOlder lo) begun first s.flights calls s.world.core.state.entries
  pub past : ArePast first s.flights calls lo 0 (given_in s.out) begun
  pub tells : told_in calls ≡ map taken_of s.taken
  pub ranks : (e a : ℕ) → slice_get places e ≡ Some a → length (told_in (take a calls)) ≡ e

-- the moments of a scene's proxy are none after its own
pub record IsTimely (s : Scene) : Type 0 where
  pub entries : s.world.core.state.moment ≤ s.moment
  pub world : s.world.moment ≤ s.moment
  pub last : s.moment ≤ LAST_MOMENT

-- ---- nothing happens

none-issued : Issued 0 start
none-issued = record {
  least = omega arith;
  sent = tt;
  links = λ p. record { out = λ o e. absurd (none-some o e); waits = tt };
}

pub no-order : (rules : Rules) (first : Device) → Order first (opening rules first) [] []
no-order rules first = record {
  lo = 0;
  issued = none-issued;
  begun = 0;
  now = record {
    counts = [];
    whole = refl;
    rising = λ i j a b le e f. absurd (none-some a e);
    started = omega arith;
    least = λ i a e. absurd (none-some a e);
    most = λ i a e. absurd (none-some a e);
    entered = λ n g e by. absurd (none-some g e);
    sent_first = λ a t p d k c e f. absurd (none-some c e);
    heard_after = λ n t bytes e. absurd (none-some _ e);
  };
  past = omega arith;
  tells = refl;
  ranks = λ e a f. absurd (none-some a f);
}

pub order-as : (first : Device) (s : Scene) (cs ds : List Call) (ps qs : List ℕ) → cs ≡ ds → ps ≡ qs → Order first s ds qs → Order first s cs ps
order-as first s cs ds ps qs e f o =
    subst (λ (cs : List Call). Order first s cs ps) (sym e) (subst (λ (ps : List ℕ). Order first s ds ps) (sym f) o)

pub order-later : (first : Device) (s : Scene) (t : ℕ) (calls : List Call) (places : List ℕ) → Order first s calls places
    → Order first (later t s) calls places
order-later first s t calls places o =
    record { lo = o.lo; issued = o.issued; begun = o.begun; now = o.now; past = o.past; tells = o.tells; ranks = o.ranks }

pub given-both : (xs ys : List Emission) → given_in (xs ++ ys) ≡ given_in xs ++ given_in ys
given-both [] ys = refl
given-both (x ∷ xs) ys = ap (λ (hs : List (List Written)). given_by x ++ hs) (given-both xs ys) ∙ sym (append_assoc (given_by x) (given_in xs) (given_in ys))

pub given-none : (out : List Emission) → AreNoJournals out → given_in out ≡ []
given-none [] h = refl
given-none (Rotated g ∷ out) h = absurd h.0
given-none (Says c x ∷ out) h = given-none out h.1
given-none (Goes d ∷ out) h = given-none out h.1
given-none (Closed c ∷ out) h = given-none out h.1
given-none (GivenUp c ∷ out) h = given-none out h.1
given-none (Turned ∷ out) h = given-none out h.1
given-none (Unrotated fault ∷ out) h = given-none out h.1

pub given-more : (out given : List Emission) → AreNoJournals given → given_in (out ++ given) ≡ given_in out
given-more out given silent =
    given-both out given ∙ (ap (λ (hs : List (List Written)). given_in out ++ hs) (given-none given silent) ∙ append-nil (given_in out))

-- ---- the proxy takes an input

-- what an input sends bears a token of the journal that there is
sent-apart : (lo hi top : ℕ) (S : State) (more : List Written) (h : List Written) (t : ℕ) (d : Outgoing) → S.entries ≡ h ++ more → Issued top S → hi ≤ top
    → IsSentIn t more d → IsApart lo hi d.bytes
sent-apart lo hi top S more h t d added issued le it =
    by it.timeout
    (all-got (λ (w : Written). IsIssued top S.issued w.deed) S.entries issued.sent (length h + it.number) _
    (subst (λ (ws : List Written). slice_get ws (length h + it.number) ≡ Some (record { moment = t; deed = Sends d.peer d.bytes it.timeout })) (sym added)
    (got-back h more (length h + it.number) it.number _ refl it.stands)))
  where
    by : (w : Option ℕ) → IsIssued top S.issued (Sends d.peer d.bytes w) → IsApart lo hi d.bytes
    by (Some w) b = inr (top, S.issued, b, inr le)
    by None (inl four) = inl four
    by None (inr b) = inr (top, S.issued, b, inr le)

pub order-gave : (first : Device) (s : Scene) (t : ℕ) (w : WorldValue) (given : List Emission) (more : List Written) (calls : List Call) (places : List ℕ)
    (o : Order first s calls places) → w.core.state.entries ≡ s.world.core.state.entries ++ more → AllHeard first calls more → AreAt t more
    → last_moment 0 calls ≤ t → ((n : ℕ) (d : Outgoing) → slice_get (goes_in given) n ≡ Some d → IsSentIn t more d) → AreNoJournals given
    → ((lo : ℕ) → Issued lo s.world.core.state → Issued lo w.core.state)
    → Order first (gave_out t w given s) calls places
order-gave first s t w given more calls places o added all bear late sends silent issues = record {
  lo = o.lo;
  issued = issues o.lo o.issued;
  begun = o.begun;
  now = subst (Chapter (IsOlder o.lo) o.begun first (s.flights ++ out) calls) (sym added)
      (chapter-gave (IsOlder o.lo) o.begun first s.flights t given s.world.core.state.entries more calls o.now all bear late sends);
  past = subst (λ (hs : List (List Written)). ArePast first (s.flights ++ out) calls o.lo 0 hs o.begun) (sym same)
      (past-map first s.flights (s.flights ++ out) calls calls o.lo o.lo (λ h p. (still h p, refl, refl)) 0 o.begun (given_in s.out) o.past);
  tells = o.tells;
  ranks = o.ranks;
}
  where
    out : List Going
    out = map (by_proxy t) (goes_in given)

    same : given_in (s.out ++ given) ≡ given_in s.out
    same = given-more s.out given silent

    still : (h : List Written) → IsPast first s.flights calls o.lo h → IsPast first (s.flights ++ out) calls o.lo h
    still h p = record {
      lo = p.lo;
      hi = p.hi;
      below = p.below;
      stands = p.stands;
      issued = p.issued;
      begun = p.begun;
      ended = p.ended;
      within = p.within;
      upto = p.upto;
      chapter = chapter-past (IsApart p.lo p.hi) p.begun first s.flights out calls h (λ n g e by.
          let it = got-from (by_proxy t) (goes_in given) n g e in
          subst (λ (g : Going). IsApart p.lo p.hi g.bytes) it.2
          (sent-apart p.lo p.hi o.lo w.core.state more s.world.core.state.entries t it.0 added (issues o.lo o.issued) p.below (sends n it.0 it.1))) p.chapter;
    }

-- ---- the journal is turned over

-- What was sent before is older than the next journal.
sent-older : (first : Device) (s : Scene) (calls : List Call) (places : List ℕ) (o : Order first s calls places) (n : ℕ) (g : Going)
    → slice_get s.flights n ≡ Some g → g.by ≡ ByProxy → IsOlder s.world.core.state.issued g.bytes
sent-older first s calls places o n g e by =
    elim (o.now.entered n g e by) [
      | inl it ↦
          bears it.timeout
          (all-got (λ (w : Written). IsIssued o.lo s.world.core.state.issued w.deed) s.world.core.state.entries o.issued.sent it.number _ it.stands)
      | inr old ↦ still-older o.lo s.world.core.state.issued g.bytes o.issued.least old
    ]
  where
    bears : (w : Option ℕ) → IsIssued o.lo s.world.core.state.issued (Sends g.peer g.bytes w) → IsOlder s.world.core.state.issued g.bytes
    bears (Some w) b = inr (o.lo, s.world.core.state.issued, b, omega arith)
    bears None (inl four) = inl four
    bears None (inr b) = inr (o.lo, s.world.core.state.issued, b, omega arith)

-- a journal of copies has nothing of its own
no-copy-hears : (h : List Written) → AreCopies h → (n t : ℕ) (p : Peer) (bytes : List ℕ) → IsEntry h n t (Hears p bytes) → ⊥
no-copy-hears h copies n t p bytes e = (copy-at h copies n _ e).0

abbrev chapter-as : (lo hi begun : ℕ) (first : Device) (flights : List Going) (calls : List Call) (h : List Written) → Chapter (IsOlder lo) begun first flights calls h
    → Chapter (IsApart lo hi) begun first flights calls h
chapter-as lo hi begun first flights calls h o = record {
  counts = o.counts;
  whole = o.whole;
  rising = o.rising;
  started = o.started;
  least = o.least;
  most = o.most;
  entered = λ n g e by. elim (o.entered n g e by) [ inl it ↦ inl it | inr old ↦ inr (older-apart lo hi g.bytes old) ];
  sent_first = λ a t p d k c e f. elim (o.sent_first a t p d k c e f) [ inl it ↦ inl it | inr old ↦ inr (older-apart lo hi d old) ];
  heard_after = o.heard_after;
}

abbrev pub past-more : (first : Device) (flights : List Going) (calls : List Call) (lo top : ℕ) → lo ≤ top → (h : List Written) → IsPast first flights calls lo h
    → IsPast first flights calls top h
past-more first flights calls lo top le h p =
    let below = p.below in
    record { lo = p.lo; hi = p.hi; below = omega (arith, below, le); stands = p.stands; issued = p.issued; begun = p.begun; ended = p.ended; within = p.within; chapter = p.chapter; upto = p.upto }

-- the journal that there is, as one that was
abbrev pub now-past : (first : Device) (s : Scene) (calls : List Call) (places : List ℕ) (o : Order first s calls places) → Stands s.world.core.state.entries
    → IsPast first s.flights calls s.world.core.state.issued s.world.core.state.entries
now-past first s calls places o stands = record {
  lo = o.lo;
  hi = s.world.core.state.issued;
  below = omega arith;
  stands = stands;
  issued = o.issued.sent;
  begun = o.begun;
  ended = length calls;
  within = o.now.started;
  chapter = chapter-as o.lo s.world.core.state.issued o.begun first s.flights calls s.world.core.state.entries o.now;
  upto = o.now.most;
}

pub order-turned : (first : Device) (s new : Scene) (calls : List Call) (places : List ℕ) (o : Order first s calls places)
    → Stands s.world.core.state.entries → AreCopies new.world.core.state.entries → Issued s.world.core.state.issued new.world.core.state
    → new.flights ≡ s.flights → given_in new.out ≡ given_in s.out ++ s.world.core.state.entries ∷ [] → new.taken ≡ s.taken
    → ((a t : ℕ) (p : Peer) (d : List ℕ) (k : Option Taken) (c : Call) → slice_get calls a ≡ Some c → c.event ≡ heard t p d k → IsBroughtBy s.flights t p d)
    → Order first new calls places
order-turned first s new calls places o stands copies issued flights given taken brought = record {
  lo = s.world.core.state.issued;
  issued = issued;
  begun = length calls;
  now = subst (λ (fs : List Going). Chapter (IsOlder s.world.core.state.issued) (length calls) first fs calls new.world.core.state.entries) (sym flights) (record {
    counts = alike (length calls) new.world.core.state.entries;
    whole = alike-len (length calls) new.world.core.state.entries;
    rising = λ i j a b le e f.
        let x = got-alike (length calls) new.world.core.state.entries i a e in
        let y = got-alike (length calls) new.world.core.state.entries j b f in
        omega (arith, x, y);
    started = omega arith;
    least = λ i a e. let x = got-alike (length calls) new.world.core.state.entries i a e in omega (arith, x);
    most = λ i a e. let x = got-alike (length calls) new.world.core.state.entries i a e in omega (arith, x);
    entered = λ n g e by. inr (sent-older first s calls places o n g e by);
    sent_first = λ a t p d k c e f.
        let it = brought a t p d k c e f in
        inr (subst (IsOlder s.world.core.state.issued) it.bytes (sent-older first s calls places o it.number it.flight it.stands it.by));
    heard_after = λ n t bytes e. absurd (no-copy-hears new.world.core.state.entries copies n t device_at bytes e);
  });
  past = subst (λ (fs : List Going). ArePast first fs calls s.world.core.state.issued 0 (given_in new.out) (length calls)) (sym flights)
      (subst (λ (hs : List (List Written)). ArePast first s.flights calls s.world.core.state.issued 0 hs (length calls)) (sym given)
      (past-join first s.flights calls s.world.core.state.issued 0 o.begun (length calls) (given_in s.out) s.world.core.state.entries
      (past-map first s.flights s.flights calls calls o.lo s.world.core.state.issued
      (λ h p. (past-more first s.flights calls o.lo s.world.core.state.issued o.issued.least h p, refl, refl)) 0 o.begun (given_in s.out) o.past)
      (now-past first s calls places o stands) (omega arith) (omega arith)));
  tells = o.tells ∙ ap (map taken_of) (sym taken);
  ranks = o.ranks;
}
