-- Which tokens a core gives out by acts, and after a turn of its journal.
use Rattle.std.proofs.Common.{◌≡◌, inl, inr, ℕ, Bool, true, false, cond, List, [], ◌∷◌, length, map, None, refl, sym, ap, subst, ◌∙◌, arith}
use Rattle.std.specs.Prelude.{filter, is_some, nat_le}
use Rattle.std.specs.List.{AllByRecursion}
use Rattle.std.proofs.lemmas.Bool.{and_parts, leb-true}
use Rattle.uri_map.specs.declared.peer.Peer.{Peer}
use Rattle.uri_map.specs.Peers.{same_peer}
use Rattle.message_layer.specs.Calls.{kept_link}
use Rattle.message_layer.specs.Values.{LinkState}
use Rattle.http_mapping.specs.Means.{closes}
use Rattle.ask_model.specs.Views.{Ask}
use Rattle.journal_book.specs.Entries.{Deed, Opens, Asks, Sends, Hears, Passes, Answers, Shuts, Seals, Carries, Written}
use Rattle.history_laws.proofs.CallerLemmas.{none-some}
use Rattle.exchange_model.specs.Rotating.{has_copy, keep_peer, turned}
use Rattle.exchange_model.specs.State.{PeerLink, State, link_of}
use Rattle.exchange_core.specs.Calls.{AsksSo, HearsSo, IsClosed}
use Rattle.exchange_core.specs.Values.{CoreValue}
use Rattle.gateway_model.specs.Acts.{Act, Served, Terms, Does, DoesAll, Ends, at}
use Rattle.gateway_model.specs.Acts.{Opens as OpensOne, TurnsAway, Takes, Hears as HearsOne, Passes as PassesOne, Asks as AsksOne, Denies, Sends as SendsOne, Tells, GoesOn, GivesUp, Forgoes, Rests, Leaves, Misses}
use Rattle.gateway_model.specs.Emissions.{Emission}
use Rattle.gateway_model.specs.declared.input.When.{When}
use Rattle.gateway_model.proofs.CallerLemmas.{AreCopies, begins-copied}
use Rattle.three_parties.proofs.Bearing.{Issued, IsIssued, AreIssued}
use Rattle.three_parties.proofs.Issuing.{asks-issue, hears-in-room-issue, opens-issue, shuts-issue, ticks-issue}

issued-so : (lo : ℕ) (S S1 : State) → S1 ≡ S → Issued lo S → Issued lo S1
issued-so lo S S1 e h = subst (Issued lo) (sym e) h

closes-issue : (lo t c : ℕ) (old new : CoreValue) → IsClosed t c old new → Issued lo old.state → Issued lo new.state
closes-issue lo t c old new h i = issued-so lo _ new.state (ap (λ (v : CoreValue). v.state) h.1) (shuts-issue lo t c old.state i)

asks-so : (lo t word c : ℕ) (a : Ask) (old new : CoreValue) → AsksSo t word c a old new → Issued lo old.state → Issued lo new.state
asks-so lo t word c a old new h i =
    issued-so lo _ new.state (ap (λ (v : CoreValue). v.state) h.is)
    (asks-issue lo t c a h.numbers old.state h.spelled h.worded.token_size h.worded.number i)

hears-so : (lo t word : ℕ) (p : Peer) (d : List ℕ) (old new : CoreValue) → HearsSo t word p d old new → Issued lo old.state → Issued lo new.state
hears-so lo t word p d old new h i =
    issued-so lo _ new.state (ap (λ (v : CoreValue). v.state) h.is)
    (hears-in-room-issue lo t p d h.numbers old.state
    (λ open_yet came.
    let both = and_parts (is_some (link_of old.state.links p).last_mid) (nat_le (length d) 2048) came in
    h.goes (record { unsealed = open_yet; known = both.0; short = leb-true (length d) 2048 both.1 })) i)

does-issue : (lo : ℕ) (M : Terms) (w : When) (a : Act) (old : Served) (out : List Emission) (new : Served) → Does M w a old out new
    → Issued lo old.core.state → Issued lo new.core.state
does-issue lo M w (OpensOne c) old out new h i =
    issued-so lo _ new.core.state (ap (λ (v : CoreValue). v.state) h.0.1) (opens-issue lo (at w old) old.core.state i)
does-issue lo M w TurnsAway old out new h i = elim h.0 [
  | inl k ↦ issued-so lo old.core.state new.core.state (ap (λ (v : CoreValue). v.state) k.0) i
  | inr k ↦ issued-so lo _ new.core.state (ap (λ (v : CoreValue). v.state) k.0) (opens-issue lo (at w old) old.core.state i)
]
does-issue lo M w (Takes c bytes) old out new h i = issued-so lo old.core.state new.core.state (ap (λ (s : Served). s.core.state) h.0) i
does-issue lo M w (HearsOne p bytes) old out new h i = hears-so lo (at w old) w.word p bytes old.core new.core h.0 i
does-issue lo M w PassesOne old out new h i =
    issued-so lo _ new.core.state (ap (λ (s : Served). s.core.state) h.0) (ticks-issue lo (at w old) old.core.state i)
does-issue lo M w (AsksOne c) old out new h i = asks-so lo (at w old) w.word c h.0.ask old.core new.core h.0.asked.2 i
does-issue lo M w (Denies c) old out new h i = closes-issue lo (at w h.0) c h.0.core new.core h.2.0 denied
  where
    denied : Issued lo h.0.core.state
    denied = elim (h.1.denied.2) [
      | inl k ↦ issued-so lo old.core.state h.0.core.state (ap (λ (v : CoreValue). v.state) k.1) i
      | inr k ↦ asks-so lo (at w old) w.word c h.1.ask old.core h.0.core k i
    ]
does-issue lo M w SendsOne old out new h i = issued-so lo old.core.state new.core.state (ap (λ (v : CoreValue). v.state) h.sent.1) i
does-issue lo M w (Tells c k) old out new h i = by (closes h.answer.mapping.came) h.ends
  where
    taken : Issued lo h.told.core.state
    taken = issued-so lo old.core.state h.told.core.state (ap (λ (v : CoreValue). v.state) h.taken.3) i

    by : (b : Bool) → Ends w c b h.told h.after new → Issued lo new.core.state
    by true e = closes-issue lo _ c h.told.core new.core e.0.0 taken
    by false e = issued-so lo h.told.core.state new.core.state (ap (λ (s : Served). s.core.state) e.0) taken
does-issue lo M w (GoesOn c) old out new h i = issued-so lo old.core.state new.core.state (ap (λ (v : CoreValue). v.state) h.1) i
does-issue lo M w (GivesUp c) old out new h i = closes-issue lo (at w old) c old.core new.core h.0.0 i
does-issue lo M w (Forgoes c k) old out new h i =
    closes-issue lo (at w h.0) c h.0.core new.core h.2.0
    (issued-so lo old.core.state h.0.core.state (ap (λ (v : CoreValue). v.state) h.1.taken.3) i)
does-issue lo M w (Rests c) old out new h i = issued-so lo old.core.state new.core.state (ap (λ (v : CoreValue). v.state) h.0) i
does-issue lo M w (Leaves c) old out new h i = closes-issue lo (at w old) c old.core new.core h.0.0 i
does-issue lo M w (Misses c) old out new h i = issued-so lo old.core.state new.core.state (ap (λ (s : Served). s.core.state) h.0) i

-- Acts, one after another.
pub all-issue : (lo : ℕ) (M : Terms) (w : When) (acts : List Act) (old : Served) (out : List Emission) (new : Served) → DoesAll M w acts old out new
    → Issued lo old.core.state → Issued lo new.core.state
all-issue lo M w [] old out new h i = issued-so lo old.core.state new.core.state (ap (λ (s : Served). s.core.state) h.0) i
all-issue lo M w (a ∷ acts) old out new h i = all-issue lo M w acts h.0 h.2 new h.4 (does-issue lo M w a old h.1 h.0 h.3 i)

-- ---- a turn of the journal

copies-issued : (lo hi : ℕ) (ws : List Written) → AreCopies ws → AreIssued lo hi ws
copies-issued lo hi [] h = tt
copies-issued lo hi (w ∷ ws) h = (by w.deed (h.0, tt), copies-issued lo hi ws h.1)
  where
    by : (d : Deed) → AreCopies (record { moment = 0; deed = d } ∷ []) → IsIssued lo hi d
    by (Carries n m d) k = tt
    by (Opens c) k = absurd k.0
    by (Asks c a) k = absurd k.0
    by (Sends p b v) k = absurd k.0
    by (Hears p b) k = absurd k.0
    by Passes k = absurd k.0
    by (Answers c n g) k = absurd k.0
    by (Shuts c) k = absurd k.0
    by Seals k = absurd k.0

-- nothing waits, and nothing is on its way
abbrev pub IsQuiet : LinkState → Type 0
IsQuiet s = (s.outstanding ≡ None) × (s.waiting ≡ [])

quiet-links : (t : ℕ) (ws : List Written) (xs : List PeerLink) (p : Peer) → IsQuiet (link_of (filter (has_copy ws) (map (keep_peer t) xs)) p)
quiet-links t ws [] p = (refl, refl)
quiet-links t ws (x ∷ xs) p = by (has_copy ws (keep_peer t x)) (quiet-links t ws xs p)
  where
    here : (b : Bool) → IsQuiet (link_of (filter (has_copy ws) (map (keep_peer t) xs)) p)
        → IsQuiet (cond b (kept_link t x.link) (link_of (filter (has_copy ws) (map (keep_peer t) xs)) p))
    here true rest = (refl, refl)
    here false rest = rest

    by : (b : Bool) → IsQuiet (link_of (filter (has_copy ws) (map (keep_peer t) xs)) p)
        → IsQuiet (link_of (cond b (keep_peer t x ∷ filter (has_copy ws) (map (keep_peer t) xs)) (filter (has_copy ws) (map (keep_peer t) xs))) p)
    by true rest = here (same_peer x.peer p) rest
    by false rest = rest

pub turned-quiet : (t : ℕ) (S : State) (p : Peer) → IsQuiet (link_of (turned t S).links p)
turned-quiet t S p = quiet-links t (turned t S).entries S.links p

pub turned-issued : (t : ℕ) (S : State) → Issued S.issued (turned t S)
turned-issued t S = record {
  least = omega arith;
  sent = copies-issued S.issued S.issued (turned t S).entries (begins-copied t S);
  links = λ p.
      let q = turned-quiet t S p in record {
        out = λ o e. absurd (none-some o (sym q.0 ∙ e));
        waits = subst (AllByRecursion _) (sym q.1) tt;
      };
}
