-- The timeouts of the first sendings, how many entries a tick adds, and what it leaves.
use Rattle.std.proofs.Common.{◌≡◌, ℕ, ◌<◌, ◌^◌, Bool, true, false, cond, List, [], ◌∷◌, ◌++◌, Option, Some, None, refl, sym, ap, subst, ◌∙◌, arith}
use Rattle.std.specs.List.{AllByRecursion}
use Rattle.std.specs.Option.{option_to_list}
use Rattle.std.proofs.lemmas.Bool.{false≢true}
use Rattle.uri_map.specs.declared.peer.Peer.{Peer}
use Rattle.uri_map.specs.Peers.{same_peer}
use Rattle.uri_map.proofs.CallerLemmas.{same_peer-same, same_peer-itself}
use Rattle.message_layer.specs.Values.{LinkState, empty_link}
use Rattle.message_layer.specs.Sending.{IsNext}
use Rattle.message_layer.specs.Prepared.{IsTick}
use Rattle.message_layer.specs.Calls.{without}
use Rattle.message_layer.specs.declared.prepared.FirstSending.{FirstSending}
use Rattle.message_layer.specs.declared.prepared.Ticking.{Ticking}
use Rattle.message_layer.specs.declared.prepared.Ticking.TheVariants.{Rests, Copies, GivesUp}
use Rattle.message_layer.specs.declared.state.Outstanding.{Outstanding}
use Rattle.message_layer.specs.declared.state.Waiting.{Waiting}
use Rattle.history_links.specs.Agrees.{WaitIn, Start}
use Rattle.history_laws.specs.Exchanges.{waiting}
use Rattle.history_laws.specs.Readings.{Noted}
use Rattle.history_laws.proofs.CallerLemmas.{all-filter}
use Rattle.exchange_model.specs.State.{PeerLink, State, link_of}
use Rattle.exchange_model.specs.Entering.{StandsOnce, IsDrained}
use Rattle.exchange_model.specs.Keeping.{Kept}
use Rattle.endpoint_table.specs.declared.turns.Turn.{Turn}
use Rattle.endpoint_table.specs.Turns.{AreTurns, IsTurnOf}
use Rattle.exchange_core.specs.Turns.{AreTimed, IsTimedTurn}
use Rattle.exchange_core.specs.Sending.{IsTimed}

abbrev InTime : LinkState → Type 0
InTime s = AllByRecursion (λ (w : Waiting). w.timeout < 2 ^ 32) s.waiting

wait-timed : (start : Start) (l : List Noted) (os : List ℕ) (ws : List Waiting) → WaitIn start l os ws
    → AllByRecursion (λ (w : Waiting). w.timeout < 2 ^ 32) ws
wait-timed start l [] [] a = tt
wait-timed start l (o ∷ os) [] a = absurd a
wait-timed start l [] (w ∷ ws) a = absurd a
wait-timed start l (o ∷ os) (w ∷ ws) a =
    let s = a.0.greatest in (omega (arith, s), wait-timed start l os ws a.1)

link-timed : (S : State) → Kept S → (p : Peer) → InTime (link_of S.links p)
link-timed S k p = wait-timed k.rests.reads.start k.reading (waiting k.reading p) (link_of S.links p).waiting
    (k.rests.reads.links_are p).waits

-- Each link is the one of its own endpoint.
gone-link : (q p : Peer) (ys : List PeerLink)
    → AllByRecursion (λ (y : PeerLink). same_peer q y.peer ≡ false) ys → same_peer q p ≡ true
    → link_of ys p ≡ empty_link
gone-link q p [] a e = refl
gone-link q p (y ∷ ys) a e = by (same_peer y.peer p) refl (gone-link q p ys a.1 e)
  where
    by : (b : Bool) → same_peer y.peer p ≡ b → link_of ys p ≡ empty_link
        → cond b y.link (link_of ys p) ≡ empty_link
    by true f rest =
        absurd (false≢true (sym a.0 ∙ ap (same_peer q) (same_peer-same y.peer p f) ∙ e))
    by false f rest = rest

all-timed : (xs : List PeerLink) → StandsOnce xs → ((p : Peer) → InTime (link_of xs p))
    → AllByRecursion (λ (x : PeerLink). InTime x.link) xs
all-timed [] once h = tt
all-timed (x ∷ xs) once h = (
  subst (λ (b : Bool). InTime (cond b x.link (link_of xs x.peer))) (same_peer-itself x.peer)
      (h x.peer),
  all-timed xs once.1 (λ p. rest p (same_peer x.peer p) refl (h p)),
)
  where
    rest : (p : Peer) (b : Bool) → same_peer x.peer p ≡ b → InTime (cond b x.link (link_of xs p))
        → InTime (link_of xs p)
    rest p true e k = subst InTime (sym (gone-link x.peer p xs once.0 e)) tt
    rest p false e k = k

first-timed : (t : ℕ) (last : Option ℕ) (ws : List Waiting) (next : Option FirstSending)
    → AllByRecursion (λ (w : Waiting). w.timeout < 2 ^ 32) ws → IsNext t last ws next
    → IsTimed next
first-timed t last ws None a h = tt
first-timed t last [] (Some f) a h = absurd h
first-timed t last (w ∷ ws) (Some f) a h =
    subst (λ (o : Outstanding). o.timeout < 2 ^ 32) (sym h.0) a.0

turn-timed : (t : ℕ) (s : LinkState) (room : Bool) (k : Ticking) → InTime s → IsTick t s room k
    → IsTimedTurn k
turn-timed t s room Rests a h = tt
turn-timed t s room (Copies d) a h = tt
turn-timed t s room (GivesUp token next) a h = first-timed t s.last_mid s.waiting next a h.sent

turns-timed : (t : ℕ) (gone : List (List ℕ)) (xs : List PeerLink) (rooms : List Bool)
    (ks : List Turn) → AllByRecursion (λ (x : PeerLink). InTime x.link) xs
    → AreTurns t gone xs rooms ks → AreTimed ks
turns-timed t gone [] rooms ks a h = subst AreTimed (sym h) tt
turns-timed t gone (x ∷ xs) [] ks a h = absurd h
turns-timed t gone (x ∷ xs) (room ∷ rooms) ks a h =
    subst AreTimed (sym h.are)
    (by h.turn h.is (turns-timed t gone xs rooms h.others a.1 h.rest))
  where
    by : (o : Option Turn) → IsTurnOf t gone x room o → AreTimed h.others
        → AreTimed (option_to_list o ++ h.others)
    by None is others = others
    by (Some k) is others = (
      turn-timed t (without gone x.link) room k.ticking
          (all-filter (λ (w : Waiting). w.timeout < 2 ^ 32) _ x.link.waiting a.0) is.2,
      others,
    )

pub are-timed : (t : ℕ) (gone : List (List ℕ)) (S : State) (rooms : List Bool) (ks : List Turn)
    → Kept S → IsDrained S → AreTurns t gone S.links rooms ks → AreTimed ks
are-timed t gone S rooms ks k drained h =
    turns-timed t gone S.links rooms ks (all-timed S.links drained.once (link-timed S k)) h
