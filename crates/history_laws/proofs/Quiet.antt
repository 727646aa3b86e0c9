-- Each message of an exchange is the next one after what was heard for it before; since it went out no reply came.
use Rattle.std.proofs.Common.{◌≡◌, ℕ, List, [], ◌∷◌, ◌++◌, length, Option, Some, refl, sym, ap, subst, ◌∙◌}
use Rattle.coap_codec.specs.Spelling.{Content}
use Rattle.uri_map.specs.declared.peer.Peer.{Peer}
use Rattle.history_laws.specs.Readings.{Noted, before}
use Rattle.history_laws.specs.Progress.{Reply, progress, next_message}
use Rattle.history_laws.specs.Exchanges.{Begun, begun, Turn, Nothing, Sent, Replied, Rejected, Expired, turn, waits_by, waits_for, replies_by, replies, begins_with, heard_for}
use Rattle.history_laws.specs.Observing.{manner}
use Rattle.history_laws.specs.Justified.{Legal}
use Rattle.history_laws.specs.Laws.{IsFirst}
use Rattle.history_laws.proofs.Beginnings.{begins-early}
use Rattle.history_laws.proofs.Facts.{IsFirst-below}
use Rattle.history_laws.proofs.Places.{before-keeps, before-new}
use Rattle.history_laws.proofs.Resting.{some-is}
use Rattle.history_laws.proofs.Sent.{begun-opening, sent-for}
use Rattle.history_laws.proofs.Turns.{turn-sent, waits-first}

pub sends-next : (l : List Noted) (t o i : ℕ) (p : Peer) (m : Content) (b : Begun) → Legal l → IsFirst l t o i p m → begun l o ≡ Some b
    → next_message (manner (before l i) o) b.request (progress b.request (heard_for (before l i) o)) m.mid m.token ≡ Some m
sends-next l t o i p m b legal f opened =
    let it = sent-for l t o i p m legal f in
    subst (λ (b : Begun). next_message (manner (before l i) o) b.request (progress b.request (heard_for (before l i) o)) m.mid m.token ≡ Some m)
    (some-is _ _ (sym it.opened ∙ opened)) it.next

-- Since what an exchange waits for went out no reply came to it.
quiet-step : (x : Noted) (l : List Noted) (o i : ℕ) → (waits_for l o ≡ Some i → replies (before l i) o ≡ replies l o)
    → (u : Turn) → turn l o x ≡ u → waits_by u (waits_for l o) ≡ Some i → replies (before (x ∷ l) i) o ≡ replies_by (length l) u (replies l o)
quiet-step x l o i ih Nothing is e =
    let w = waits-first l o i e in
    ap (λ (k : List Noted). replies k o) (before-keeps x l i (IsFirst-below l w.0 o i w.1 w.2 w.3)) ∙ ih e
quiet-step x l o i ih (Sent j) is e =
    let here : length l ≡ i = (turn-sent l o x j is).here ∙ some-is j i e in
    ap (λ (k : List Noted). replies k o) (ap (before (x ∷ l)) (sym here) ∙ before-new x l)
quiet-step x l o i ih (Replied j m place) is e = cc
quiet-step x l o i ih Rejected is e = cc
quiet-step x l o i ih Expired is e = cc

pub quiet-since : (l : List Noted) (o i : ℕ) → waits_for l o ≡ Some i → replies (before l i) o ≡ replies l o
quiet-since [] o i e = cc
quiet-since (x ∷ older) o i e = quiet-step x older o i (quiet-since older o i) (turn older o x) refl e

-- So all that was heard for it was heard before.
pub heard-quiet : (l : List Noted) (o i : ℕ) (b : Begun) → Legal l → begun l o ≡ Some b → waits_for l o ≡ Some i → heard_for (before l i) o ≡ heard_for l o
heard-quiet l o i b legal opened waited =
    let w = waits-first l o i waited in
    let it = sent-for l w.0 o i w.1 w.2 legal w.3 in
    let h = begun-opening l o b opened in
    ap (λ (bs : List Reply). bs ++ replies (before l i) o) (begins-early l i o _ _ w.3.stands h.2 it.after)
    ∙ ap (λ (rs : List Reply). begins_with l o ++ rs) (quiet-since l o i waited)
