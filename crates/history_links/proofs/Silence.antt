-- Entries that are nothing to a link leave what it keeps.
use Rattle.std.proofs.Common.{◌≡◌, ℕ, ◌≤◌, false, List, ◌∷◌, refl, Bool, true, [], cond}
use Rattle.std.specs.Prelude.{map, ⊤}
use Rattle.uri_map.specs.declared.peer.Peer.{Peer}
use Rattle.ask_model.specs.Requests.{Sense, Requests, Refuses}
use Rattle.journal_book.specs.Entries.{Deed, Opens, Asks, Sends, Hears, Answers, Shuts, Seals}
use Rattle.history_laws.specs.Readings.{Noted, Note, Plain, Joins, Serves, Confirms, Repeats, Garbled, newest, noted, Begins, Renews}
use Rattle.history_laws.specs.Transmissions.{firsts, transmission}
use Rattle.history_laws.specs.Exchanges.{begun, openings, turn, waits_for, end_of}
use Rattle.history_laws.specs.Observing.{Watch, asked_again, asked_by, is_for, sending_of, watched, watches}
use Rattle.history_laws.specs.Hearing.{heard_before, live_heard, recalls}
use Rattle.history_laws.proofs.CallerLemmas.{at-keeps, NoReply}
use Rattle.history_links.specs.Steps.{IsSilent, SilentAgrees}
use Rattle.history_links.proofs.Still.{Still, still-by, SameHeard, heard-at, rest-still}
use Rattle.history_links.proofs.Queueing.{turn-kept}

-- the newest entry changes neither messages, nor exchanges, nor what was heard
abbrev IsNothing : Noted → List Noted → Type 0
IsNothing x l =
    (firsts (x ∷ l) ≡ firsts l) × ((i : ℕ) → transmission (x ∷ l) i ≡ transmission l i)
    × (openings (x ∷ l) ≡ openings l) × ((o : ℕ) → begun (x ∷ l) o ≡ begun l o)
    × ((o : ℕ) → waits_for (x ∷ l) o ≡ waits_for l o) × ((o : ℕ) → end_of (x ∷ l) o ≡ end_of l o)
    × ((o : ℕ) → NoReply (turn l o x)) × ((p : Peer) → recalls p x ≡ false)
    × ((t : ℕ) (p : Peer) (mid : ℕ) → heard_before (x ∷ l) t p mid ≡ heard_before l t p mid)
    × ((t : ℕ) (p : Peer) → live_heard (x ∷ l) t p ≡ live_heard l t p) × (watched (x ∷ l) ≡ watched l)

-- An ask that opens no exchange leaves the watches, but for its moment.
abbrev OpensNone : Note → Type 0
OpensNone (Begins q) = ⊥
OpensNone (Renews q s) = ⊥
OpensNone note = ⊤

asked-still : (t : ℕ) (s : Sense) (note : Note) → OpensNone note → (ws : List Watch) → map sending_of (asked_by t s note ws) ≡ map sending_of ws
asked-still t (Refuses cause status) note none ws = refl
asked-still t (Requests q) (Begins r) none ws = absurd none
asked-still t (Requests q) (Renews r s) none ws = absurd none
asked-still t (Requests q) note none ws = all ws
  where
    one : (w : Watch) (b : Bool) → (cond b (record w { held = record w.held { asked = t } }) w).sending ≡ w.sending
    one w true = refl
    one w false = refl

    all : (ws : List Watch) → map sending_of (map (asked_again q t) ws) ≡ map sending_of ws
    all [] = refl
    all (w ∷ ws) = rw (one w (is_for q w), all ws) refl

nothing : (l : List Noted) (t : ℕ) (d : Deed) (note : Note) → IsSilent d note → IsNothing (noted t d note) l
nothing l t (Opens c) Plain i = (refl, λ j. refl, refl, λ o. refl, λ o. refl, λ o. refl, λ o. tt, λ p. refl, λ u p mid. refl, λ u p. refl, refl)
nothing l t (Asks c a) Plain i = (refl, λ j. refl, refl, λ o. refl, λ o. refl, λ o. refl, λ o. tt, λ p. refl, λ u p mid. refl, λ u p. refl, asked-still t a.sense Plain tt (watches l))
nothing l t (Asks c a) (Joins q) i = (refl, λ j. refl, refl, λ o. refl, λ o. refl, λ o. refl, λ o. tt, λ p. refl, λ u p mid. refl, λ u p. refl, asked-still t a.sense (Joins q) tt (watches l))
nothing l t (Asks c a) (Serves js) i = (refl, λ j. refl, refl, λ o. refl, λ o. refl, λ o. refl, λ o. tt, λ p. refl, λ u p mid. refl, λ u p. refl, asked-still t a.sense (Serves js) tt (watches l))
nothing l t (Answers c k g) Plain i = (refl, λ j. refl, refl, λ o. refl, λ o. refl, λ o. refl, λ o. tt, λ p. refl, λ u p mid. refl, λ u p. refl, refl)
nothing l t (Shuts c) Plain i = (refl, λ j. refl, refl, λ o. refl, λ o. refl, λ o. refl, λ o. tt, λ p. refl, λ u p mid. refl, λ u p. refl, refl)
nothing l t Seals Plain i = (refl, λ j. refl, refl, λ o. refl, λ o. refl, λ o. refl, λ o. tt, λ p. refl, λ u p mid. refl, λ u p. refl, refl)
nothing l t (Sends r b w) Confirms i = (refl, λ j. refl, refl, λ o. refl, λ o. refl, λ o. refl, λ o. tt, λ p. refl, λ u p mid. refl, λ u p. refl, refl)
nothing l t (Hears r b) (Repeats m k) i = (refl, λ j. refl, refl, λ o. refl, λ o. refl, λ o. refl, λ o. tt, λ p. refl, λ u p mid. refl, λ u p. refl, refl)
nothing l t (Hears r b) Garbled i = (refl, λ j. refl, refl, λ o. refl, λ o. refl, λ o. refl, λ o. tt, λ p. refl, λ u p mid. refl, λ u p. refl, refl)
nothing l t d note i = absurd i

pub still : (l : List Noted) (t : ℕ) (d : Deed) (note : Note) → newest l ≤ t → IsSilent d note → Still l (noted t d note ∷ l)
still l t d note later i =
    let h = nothing l t d note i in
    still-by (noted t d note) l later h.0 h.2 h.3 h.4 h.5 h.6 h.7 h.10

unheard : (l : List Noted) (t : ℕ) (d : Deed) (note : Note) (p : Peer) → newest l ≤ t → IsSilent d note → SameHeard l (noted t d note ∷ l) p
unheard l t d note p later i =
    let h = nothing l t d note i in
    record { later = later; before = λ u mid. h.8 u p mid; live = λ u. h.9 u p; below = λ u mid x e. heard-at (noted t d note) l u p mid x e }

pub silent-agrees : SilentAgrees
silent-agrees start l t p s d note before i =
    let h = nothing l t d note i in
    rest-still l (noted t d note ∷ l) p s s (still l t d note before.later i) (unheard l t d note p before.later i) before.agrees
    (turn-kept l (noted t d note ∷ l) p s.outstanding (λ j x e. at-keeps (noted t d note) l j x e) h.0 h.1 before.agrees.turn) refl refl refl refl refl
