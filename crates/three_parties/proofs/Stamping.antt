-- What an input adds to the journal bears its moment, and so do the datagrams that it sends.
use Rattle.std.proofs.Common.{◌≡◌, inl, inr, ℕ, zero, suc, Bool, true, false, List, [], ◌∷◌, ◌++◌, Option, Some, refl, sym, ap, subst, ◌∙◌, append-nil, append_assoc, arith}
use Rattle.std.specs.Prelude.{slice_get}
use Rattle.std.specs.List.{AllByRecursion}
use Rattle.std.proofs.lemmas.List.{append_cancel_left}
use Rattle.uri_map.specs.declared.peer.Peer.{Peer}
use Rattle.http_mapping.specs.Means.{closes}
use Rattle.ask_model.specs.Views.{Ask}
use Rattle.journal_book.specs.Entries.{Deed, Opens, Asks, Sends, Hears, Passes, Answers, Shuts, Seals, Carries, Written}
use Rattle.history_laws.specs.Readings.{carries}
use Rattle.history_laws.proofs.CallerLemmas.{none-some, some-is}
use Rattle.exchange_model.specs.Growing.{Adds}
use Rattle.exchange_model.specs.State.{State}
use Rattle.exchange_model.proofs.CallerLemmas.{asks-add, hears-add, opens-add, ticks-add}
use Rattle.exchange_core.specs.Calls.{now, IsClosed, AsksSo}
use Rattle.exchange_core.specs.Values.{CoreValue, Outgoing, sent_by, sent_in}
use Rattle.gateway_model.specs.Acts.{Act, Served, Terms, Does, DoesAll, Ends, at}
use Rattle.gateway_model.specs.Acts.{Opens as OpensOne, TurnsAway, Takes, Hears as HearsOne, Passes as PassesOne, Asks as AsksOne, Denies, Sends as SendsOne, Tells, GoesOn, GivesUp, Forgoes, Rests, Leaves, Misses}
use Rattle.gateway_model.specs.Emissions.{Emission}
use Rattle.gateway_model.specs.Going.{SendsJust, goes_in}
use Rattle.gateway_model.specs.declared.input.When.{When}
use Rattle.three_parties.proofs.Moments.{Counts, asks-count, hears-count, opens-count, shuts-count, ticks-count}

abbrev pub AreAt : ℕ → List Written → Type 0
AreAt t ws = AllByRecursion (λ (w : Written). w.moment ≡ t) ws

-- None of them is a copy.
abbrev pub AreOwn : List Written → Type 0
AreOwn ws = AllByRecursion (λ (w : Written). carries w.deed ≡ false) ws

pub record Stamps (t : ℕ) (S S1 : State) : Type 0 where
  pub more : List Written
  pub added : S1.entries ≡ S.entries ++ more
  pub bear : AreAt t more
  pub own : AreOwn more
  pub counts : Counts t S S1

bear-both : (t : ℕ) (xs ys : List Written) → AreAt t xs → AreAt t ys → AreAt t (xs ++ ys)
bear-both t [] ys a b = b
bear-both t (x ∷ xs) ys a b = (a.0, bear-both t xs ys a.1 b)

pub own-both : (xs ys : List Written) → AreOwn xs → AreOwn ys → AreOwn (xs ++ ys)
own-both [] ys a b = b
own-both (x ∷ xs) ys a b = (a.0, own-both xs ys a.1 b)

stamps-none : (t : ℕ) (S S1 : State) → S1 ≡ S → Stamps t S S1
stamps-none t S S1 e =
    record { more = []; added = ap (λ (S : State). S.entries) e ∙ sym (append-nil S.entries); bear = tt; own = tt; counts = inl (ap (λ (S : State). S.moment) e) }

counts-both : (t : ℕ) (S S1 S2 : State) → Counts t S S1 → Counts t S1 S2 → Counts t S S2
counts-both t S S1 S2 a (inr e) = inr e
counts-both t S S1 S2 (inl d) (inl e) = inl (e ∙ d)
counts-both t S S1 S2 (inr d) (inl e) = inr (e ∙ d)

stamps-both : (t : ℕ) (S S1 S2 : State) → Stamps t S S1 → Stamps t S1 S2 → Stamps t S S2
stamps-both t S S1 S2 a b = record {
  more = a.more ++ b.more;
  added = b.added ∙ ap (λ (es : List Written). es ++ b.more) a.added ∙ append_assoc S.entries a.more b.more;
  bear = bear-both t a.more b.more a.bear b.bear;
  own = own-both a.more b.more a.own b.own;
  counts = counts-both t S S1 S2 a.counts b.counts;
}

stamps-so : (t : ℕ) (S S1 S2 : State) → S2 ≡ S1 → Adds t S S1 → Counts t S S1 → Stamps t S S2
stamps-so t S S1 S2 e a c =
    subst (λ (S2 : State). Stamps t S S2) (sym e) (record { more = a.more; added = a.entries; bear = a.at; own = a.own; counts = c })

-- An act.
closes-stamp : (t c : ℕ) (old new : CoreValue) → IsClosed t c old new → Stamps t old.state new.state
closes-stamp t c old new h =
    subst (λ (S : State). Stamps t old.state S) (sym (ap (λ (v : CoreValue). v.state) h.1)) (record {
      more = record { moment = t; deed = Shuts c } ∷ [];
      added = refl;
      bear = (refl, tt);
      own = (refl, tt);
      counts = shuts-count t c old.state;
    })

asks-stamp : (t word c : ℕ) (a : Ask) (old new : CoreValue) → AsksSo t word c a old new → Stamps t old.state new.state
asks-stamp t word c a old new h =
    stamps-so t old.state _ new.state (ap (λ (v : CoreValue). v.state) h.is) (asks-add t c a h.numbers old.state) (asks-count t c a h.numbers old.state)

-- The moment that counts is the same after an act.
pub still-now : (t m : ℕ) (S S1 : State) → t ≡ now S.moment m → Counts t S S1 → now S1.moment m ≡ t
still-now t m S S1 is (inl e) = ap (λ (k : ℕ). now k m) e ∙ sym is
still-now t m S S1 is (inr e) = ap (λ (k : ℕ). now k m) e ∙ (ap (λ (k : ℕ). now k m) is ∙ (again ∙ sym is))
  where
    again : now (now S.moment m) m ≡ now S.moment m
    again = omega arith

does-stamp : (M : Terms) (w : When) (a : Act) (old : Served) (out : List Emission) (new : Served) → Does M w a old out new
    → Stamps (at w old) old.core.state new.core.state
does-stamp M w (OpensOne c) old out new h =
    stamps-so (at w old) old.core.state _ new.core.state (ap (λ (v : CoreValue). v.state) h.0.1) (opens-add (at w old) old.core.state) (opens-count (at w old) old.core.state)
does-stamp M w TurnsAway old out new h = elim h.0 [
  | inl k ↦ stamps-none (at w old) old.core.state new.core.state (ap (λ (v : CoreValue). v.state) k.0)
  | inr k ↦ stamps-so (at w old) old.core.state _ new.core.state (ap (λ (v : CoreValue). v.state) k.0) (opens-add (at w old) old.core.state) (opens-count (at w old) old.core.state)
]
does-stamp M w (Takes c bytes) old out new h = stamps-none (at w old) old.core.state new.core.state (ap (λ (s : Served). s.core.state) h.0)
does-stamp M w (HearsOne p bytes) old out new h =
    stamps-so (at w old) old.core.state _ new.core.state (ap (λ (v : CoreValue). v.state) h.0.is)
    (hears-add (at w old) p bytes h.0.numbers old.core.state) (hears-count (at w old) p bytes h.0.numbers old.core.state)
does-stamp M w PassesOne old out new h =
    stamps-so (at w old) old.core.state _ new.core.state (ap (λ (s : Served). s.core.state) h.0) (ticks-add (at w old) old.core.state) (ticks-count (at w old) old.core.state)
does-stamp M w (AsksOne c) old out new h = asks-stamp (at w old) w.word c h.0.ask old.core new.core h.0.asked.2
does-stamp M w (Denies c) old out new h =
    stamps-both (at w old) old.core.state h.0.core.state new.core.state denied
    (subst (λ (t : ℕ). Stamps t h.0.core.state new.core.state) (still-now (at w old) w.moment old.core.state h.0.core.state refl denied.counts)
    (closes-stamp (at w h.0) c h.0.core new.core h.2.0))
  where
    denied : Stamps (at w old) old.core.state h.0.core.state
    denied = elim (h.1.denied.2) [
      | inl k ↦ stamps-none (at w old) old.core.state h.0.core.state (ap (λ (v : CoreValue). v.state) k.1)
      | inr k ↦ asks-stamp (at w old) w.word c h.1.ask old.core h.0.core k
    ]
does-stamp M w SendsOne old out new h = stamps-none (at w old) old.core.state new.core.state (ap (λ (v : CoreValue). v.state) h.sent.1)
does-stamp M w (Tells c k) old out new h = by (closes h.answer.mapping.came) h.ends
  where
    taken : h.told.core.state ≡ old.core.state
    taken = ap (λ (v : CoreValue). v.state) h.taken.3

    by : (b : Bool) → Ends w c b h.told h.after new → Stamps (at w old) old.core.state new.core.state
    by true e =
        subst (λ (S : State). Stamps (now S.moment w.moment) S new.core.state) taken (closes-stamp (at w h.told) c h.told.core new.core e.0.0)
    by false e = stamps-none (at w old) old.core.state new.core.state (ap (λ (s : Served). s.core.state) e.0 ∙ taken)
does-stamp M w (GoesOn c) old out new h = stamps-none (at w old) old.core.state new.core.state (ap (λ (v : CoreValue). v.state) h.1)
does-stamp M w (GivesUp c) old out new h = closes-stamp (at w old) c old.core new.core h.0.0
does-stamp M w (Forgoes c k) old out new h =
    subst (λ (S : State). Stamps (now S.moment w.moment) S new.core.state) (ap (λ (v : CoreValue). v.state) h.1.taken.3)
    (closes-stamp (at w h.0) c h.0.core new.core h.2.0)
does-stamp M w (Rests c) old out new h = stamps-none (at w old) old.core.state new.core.state (ap (λ (v : CoreValue). v.state) h.0)
does-stamp M w (Leaves c) old out new h = closes-stamp (at w old) c old.core new.core h.0.0
does-stamp M w (Misses c) old out new h = stamps-none (at w old) old.core.state new.core.state (ap (λ (s : Served). s.core.state) h.0)

-- Acts, one after another.
pub all-stamp : (M : Terms) (w : When) (acts : List Act) (old : Served) (out : List Emission) (new : Served) → DoesAll M w acts old out new
    → Stamps (at w old) old.core.state new.core.state
all-stamp M w [] old out new h = stamps-none (at w old) old.core.state new.core.state (ap (λ (s : Served). s.core.state) h.0)
all-stamp M w (a ∷ acts) old out new h =
    let one = does-stamp M w a old h.1 h.0 h.3 in
    stamps-both (at w old) old.core.state h.0.core.state new.core.state one
    (subst (λ (t : ℕ). Stamps t h.0.core.state new.core.state) (still-now (at w old) w.moment old.core.state h.0.core.state refl one.counts)
    (all-stamp M w acts h.0 h.2 new h.4))

-- ---- what is sent

abbrev outgoing : Peer → List ℕ → Outgoing
outgoing p b = record { peer = p; bytes = b }

-- a datagram that entries send stands in one of them
pub record IsSentIn (t : ℕ) (ws : List Written) (d : Outgoing) : Type 0 where
  pub number : ℕ
  pub timeout : Option ℕ
  pub stands : slice_get ws number ≡ Some (record { moment = t; deed = Sends d.peer d.bytes timeout })

sent-later : (t : ℕ) (w : Written) (ws : List Written) (d : Outgoing) → IsSentIn t ws d → IsSentIn t (w ∷ ws) d
sent-later t w ws d h = record { number = suc h.number; timeout = h.timeout; stands = h.stands }

sent-first : (t : ℕ) (w : Written) (ws : List Written) (d : Outgoing) (p : Peer) (b : List ℕ) (timeout : Option ℕ)
    → w.moment ≡ t → w.deed ≡ Sends p b timeout → outgoing p b ≡ d → IsSentIn t (w ∷ ws) d
sent-first t w ws d p b timeout m deed is =
    subst (λ (d : Outgoing). IsSentIn t (w ∷ ws) d) is (record {
      number = 0;
      timeout = timeout;
      stands = ap (λ (w : Written). Some w) (written-is w m deed);
    })
  where
    written-is : (w : Written) → w.moment ≡ t → w.deed ≡ Sends p b timeout → w ≡ record { moment = t; deed = Sends p b timeout }
    written-is w m e = ap (λ (t : ℕ). record { moment = t; deed = w.deed }) m ∙ ap (λ (d : Deed). record { moment = t; deed = d }) e

-- of one entry more
sent-with : (t : ℕ) (w : Written) (ws : List Written) (d : Outgoing) → w.moment ≡ t
    → ((k : ℕ) → slice_get (sent_in ws) k ≡ Some d → IsSentIn t ws d)
    → (n : ℕ) → slice_get (sent_by w.deed ++ sent_in ws) n ≡ Some d → IsSentIn t (w ∷ ws) d
sent-with t w ws d at others n e = by w.deed refl e
  where
    rest : (k : ℕ) → slice_get (sent_in ws) k ≡ Some d → IsSentIn t (w ∷ ws) d
    rest k f = sent-later t w ws d (others k f)

    first : (p : Peer) (b : List ℕ) (timeout : Option ℕ) (n : ℕ) → w.deed ≡ Sends p b timeout
        → slice_get (outgoing p b ∷ sent_in ws) n ≡ Some d → IsSentIn t (w ∷ ws) d
    first p b timeout zero deed f = sent-first t w ws d p b timeout at deed (some-is (outgoing p b) d f)
    first p b timeout (suc k) deed f = rest k f

    by : (x : Deed) → w.deed ≡ x → slice_get (sent_by x ++ sent_in ws) n ≡ Some d → IsSentIn t (w ∷ ws) d
    by (Sends p b timeout) deed f = first p b timeout n deed f
    by (Opens c) deed f = rest n f
    by (Asks c a) deed f = rest n f
    by (Hears p b) deed f = rest n f
    by Passes deed f = rest n f
    by (Answers c k g) deed f = rest n f
    by (Shuts c) deed f = rest n f
    by Seals deed f = rest n f
    by (Carries k m x) deed f = rest n f

pub sent-stands : (t : ℕ) (ws : List Written) → AreAt t ws → (n : ℕ) (d : Outgoing) → slice_get (sent_in ws) n ≡ Some d → IsSentIn t ws d
sent-stands t [] bear n d e = absurd (none-some d e)
sent-stands t (w ∷ ws) bear n d e = sent-with t w ws d bear.0 (λ k f. sent-stands t ws bear.1 k d f) n e

-- What goes out by an input stands in what that adds.
pub goes-stand : (t : ℕ) (old new : CoreValue) (out : List Emission) (more : List Written) → new.state.entries ≡ old.state.entries ++ more
    → Stamps t old.state new.state → SendsJust old out new → (n : ℕ) (d : Outgoing) → slice_get (goes_in out) n ≡ Some d → IsSentIn t more d
goes-stand t old new out more added s j n d e =
    let bear : AreAt t more = subst (AreAt t) (append_cancel_left old.state.entries s.more more (sym s.added ∙ added)) s.bear in
    let same : j.more ≡ more = append_cancel_left old.state.entries j.more more (sym j.added ∙ added) in
    sent-stands t more bear n d
    (subst (λ (ws : List Written). slice_get (sent_in ws) n ≡ Some d) same (subst (λ (ds : List Outgoing). slice_get ds n ≡ Some d) j.sent e))
