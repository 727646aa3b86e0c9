-- What a tick leaves; and after each call links gave out all.
use Rattle.std.proofs.Common.{◌≡◌, ℕ, Bool, true, false, cond, List, [], ◌∷◌, map, refl, sym, ap, subst, ◌∙◌}
use Rattle.std.specs.Prelude.{filter, fold}
use Rattle.std.specs.List.{AllByRecursion}
use Rattle.uri_map.specs.declared.peer.Peer.{Peer}
use Rattle.uri_map.specs.Peers.{same_peer}
use Rattle.message_layer.specs.Values.{LinkState}
use Rattle.journal_book.specs.Entries.{Passes, Deed}
use Rattle.observe_share.specs.Watches.{without}
use Rattle.exchange_model.specs.Steps.{entered}
use Rattle.exchange_model.specs.Hearing.{is_unwatched, is_of_none, retired, is_gone, passes, timed_out, is_stale_of_none}
use Rattle.exchange_model.specs.Entering.{tick_deeds, answer_of, all_deeds, moved_by, entered_all, link_after, StandsOnce, TicksEnter, StaysDrained}
use Rattle.exchange_model.specs.State.{PeerLink, State, with_link}
use Rattle.exchange_model.specs.Calls.{Telling, tells, told_late, move_all}
use Rattle.exchange_model.proofs.Entered.{stored, put, after}
use Rattle.exchange_model.proofs.Lists.{all-map}
use Rattle.exchange_model.proofs.Heeded.{told-put}
use Rattle.exchange_model.proofs.Passed.{moved-put}

pub ticks-enter : TicksEnter
ticks-enter t S may drained due =
    ap (λ (b : Bool). cond b (fold (tells t) (move_all t (passes t S)) xs) S) due
    ∙ after t (Passes ∷ all_deeds t (is_gone t S) S.links) (map answer_of xs) (moved_by t S).exchanges (moved_by t S).exchanges
    (moved_by t S).links (moved_by t S).links K (move_all t (passes t S)) (fold (tells t) (move_all t (passes t S)) xs) moved
    (told-put t xs (move_all t (passes t S)) ∙ ap (λ (U : State). put t (map answer_of xs) U.exchanges U.links (move_all t (passes t S))) moved)
    ∙ ap (λ (U : State). record U { exchanges = (moved_by t S).exchanges; links = (moved_by t S).links }) (stored t (tick_deeds t S) K.pieces K.stales K.watches K.store S)
  where
    -- the state with the pieces, the watches and what is stored after it
    K : State
    K = record S {
      pieces = filter (is_of_none (timed_out t S)) S.pieces;
      stales = filter (is_stale_of_none (timed_out t S)) S.stales;
      watches = without (is_unwatched t S) S.watches;
      store = retired S.entries (timed_out t S) S.store;
    }

    xs : List Telling
    xs = told_late (timed_out t S) S.readers

    moved : move_all t (passes t S) ≡ put t (Passes ∷ all_deeds t (is_gone t S) S.links) (moved_by t S).exchanges (moved_by t S).links K
    moved = moved-put t S may drained

-- links that gave out all

with-apart : (x : PeerLink) (p : Peer) (s : LinkState) (xs : List PeerLink)
    → AllByRecursion (λ (y : PeerLink). same_peer x.peer y.peer ≡ false) xs
    → same_peer x.peer p ≡ false
    → AllByRecursion (λ (y : PeerLink). same_peer x.peer y.peer ≡ false) (with_link p s xs)
with-apart x p s [] a h = (h, tt)
with-apart x p s (y ∷ ys) a h = by (same_peer y.peer p) (with-apart x p s ys a.1 h)
  where
    by : (b : Bool) → AllByRecursion (λ (z : PeerLink). same_peer x.peer z.peer ≡ false)
        (with_link p s ys)
        → AllByRecursion (λ (z : PeerLink). same_peer x.peer z.peer ≡ false)
        (cond b (record { peer = y.peer; link = s } ∷ ys) (y ∷ with_link p s ys))
    by true ih = a
    by false ih = (a.0, ih)

once-with : (p : Peer) (s : LinkState) (xs : List PeerLink) → StandsOnce xs
    → StandsOnce (with_link p s xs)
once-with p s [] a = (tt, tt)
once-with p s (x ∷ xs) a = by (same_peer x.peer p) refl (once-with p s xs a.1)
  where
    by : (b : Bool) → same_peer x.peer p ≡ b → StandsOnce (with_link p s xs)
        → StandsOnce (cond b (record { peer = x.peer; link = s } ∷ xs) (x ∷ with_link p s xs))
    by true e ih = a
    by false e ih = (with-apart x p s xs a.0 e, ih)

abbrev GaveOut : List PeerLink → Type 0
GaveOut xs = AllByRecursion (λ (x : PeerLink). x.link.out ≡ []) xs

out-with : (p : Peer) (s : LinkState) (xs : List PeerLink) → s.out ≡ [] → GaveOut xs
    → GaveOut (with_link p s xs)
out-with p s [] e a = (e, tt)
out-with p s (x ∷ xs) e a = by (same_peer x.peer p) (out-with p s xs e a.1)
  where
    by : (b : Bool) → GaveOut (with_link p s xs)
        → GaveOut (cond b (record { peer = x.peer; link = s } ∷ xs) (x ∷ with_link p s xs))
    by true ih = (e, a.1)
    by false ih = (a.0, ih)

once-after : (t : ℕ) (gone : List ℕ → Bool) (xs : List PeerLink) → StandsOnce xs
    → StandsOnce (map (link_after t gone) xs)
once-after t gone [] a = tt
once-after t gone (x ∷ xs) a = (
  all-map (link_after t gone) (λ (y : PeerLink). same_peer x.peer y.peer ≡ false) xs a.0,
  once-after t gone xs a.1,
)

out-after : (t : ℕ) (gone : List ℕ → Bool) (xs : List PeerLink)
    → GaveOut (map (link_after t gone) xs)
out-after t gone [] = tt
out-after t gone (x ∷ xs) = (refl, out-after t gone xs)

links-entered : (t : ℕ) (ds : List Deed) (S : State) → (entered_all t ds S).links ≡ S.links
links-entered t [] S = refl
links-entered t (d ∷ ds) S = links-entered t ds (entered t d S)

pub stays-drained : StaysDrained
stays-drained t S drained = (
  λ c a q n. record {
    once = once-with q.peer _ S.links drained.once;
    out =
        out-with q.peer _ S.links refl drained.out;
  },
  λ p d mid token v g. record {
    once = once-with p _ S.links drained.once;
    out =
        out-with p _ S.links refl drained.out;
  },
  record {
    once = once-after t (is_gone t S) S.links drained.once;
    out =
        out-after t (is_gone t S) S.links;
  },
  λ ds. record {
    once = subst StandsOnce (sym (links-entered t ds S)) drained.once;
    out = subst GaveOut (sym (links-entered t ds S)) drained.out;
  },
)
