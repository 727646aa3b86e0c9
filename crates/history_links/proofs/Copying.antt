-- A copy leaves nothing changed but the timer of its message.
use Rattle.std.proofs.Common.{◌≡◌, ℕ, ◌≤◌, ◌<◌, Bool, true, false, cond, List, ◌∷◌, Option, Some, None, refl, sym, subst}
use Rattle.std.specs.Prelude.{is_some, option_and_then}
use Rattle.uri_map.specs.declared.peer.Peer.{Peer}
use Rattle.uri_map.specs.Peers.{same_peer}
use Rattle.journal_book.specs.Entries.{Sends}
use Rattle.message_layer.specs.declared.state.Outstanding.{Outstanding}
use Rattle.message_layer.specs.Sending.{again, due_of, with_copy}
use Rattle.history_laws.specs.Readings.{Noted, Note, Copies, newest, ticked, noted}
use Rattle.history_laws.specs.Transmissions.{FirstSending, Transmission, transmission, copied_way, if_outstanding, firsts, last_sent}
use Rattle.history_laws.specs.Justified.{MayBeCopy}
use Rattle.history_laws.proofs.CallerLemmas.{at-keeps, eqb-itself, find-some}
use Rattle.history_links.specs.Agrees.{way_of, IsOut, TurnIn}
use Rattle.history_links.specs.Steps.{copy, CopyFollows}
use Rattle.history_links.proofs.Tokens.{found-first}
use Rattle.history_links.proofs.Still.{Still, still-by, SameHeard, rest-still, heard-at}

pub still-copy : (l : List Noted) (t : ℕ) (p : Peer) (b : List ℕ) (i : ℕ) → newest l ≤ t → Still l (noted t (Sends p b None) (Copies i) ∷ l)
still-copy l t p b i later = still-by (noted t (Sends p b None) (Copies i)) l later refl refl (λ o. refl) (λ o. refl) (λ o. refl) (λ o. tt) (λ r. refl) refl

-- the timer of the copied message
way-copied : (l : List Noted) (t : ℕ) (p : Peer) (b : List ℕ) (i : ℕ) (x : Transmission) → transmission l i ≡ Some x
    → transmission (noted t (Sends p b None) (Copies i) ∷ l) i ≡ Some (copied_way t x)
way-copied l t p b i x e = rw (eqb-itself i, e) refl

chosen : (b : Bool) (g f : FirstSending) → cond b (Some g) None ≡ Some f → Some g ≡ Some f
chosen true g f e = e
chosen false g f e = cc

-- what is outstanding is the last that was sent
pub is-last : (l : List Noted) (p : Peer) (last : Option FirstSending) (f : FirstSending)
    → option_and_then (if_outstanding l) last ≡ Some f → last ≡ Some f
is-last l p None f e = cc
is-last l p (Some g) f e = chosen (is_some (transmission l g.number)) g f e

pub is-outstanding : (l : List Noted) (f : FirstSending) (x : Transmission) → transmission l f.number ≡ Some x → if_outstanding l f ≡ Some f
is-outstanding l f x e = rw (e) refl

out-copied : (l : List Noted) (t : ℕ) (p : Peer) (o : Outstanding) (a : IsOut l p o)
    → IsOut (noted t (Sends p o.datagram None) (Copies a.first.number) ∷ l) p (again t o)
out-copied l t p o a =
    let x = noted t (Sends p o.datagram None) (Copies a.first.number) in
    let last : last_sent l p ≡ Some a.first = is-last l p (last_sent l p) a.first a.is in
    let way = way-copied l t p o.datagram a.first.number (way_of o) a.way in
    record {
      first = a.first;
      timeout = a.timeout;
      stands = at-keeps x l a.first.number _ a.stands;
      is = subst (λ (v : Option FirstSending). option_and_then (if_outstanding (x ∷ l)) v ≡ Some a.first) (sym last) (is-outstanding (x ∷ l) a.first _ way);
      way = way;
      token = a.token;
      mid = a.mid;
    }

pub may-copy : (l : List Noted) (p : Peer) (o : Outstanding) (a : IsOut l p o) → o.retransmissions < 4 → due_of o ≤ ticked l
    → MayBeCopy l a.first.number p o.datagram
may-copy l p o a few due = record {
  opening = a.first.opening;
  message = a.first.message;
  moment = a.first.moment;
  timeout = a.timeout;
  way = way_of o;
  stands = a.stands;
  is_outstanding = a.way;
  few = few;
  is_due = due;
}

-- Nothing was heard in a sending.
pub unheard-sent : (l : List Noted) (t : ℕ) (p q : Peer) (b : List ℕ) (w : Option ℕ) (note : Note) → newest l ≤ t
    → SameHeard l (noted t (Sends p b w) note ∷ l) q
unheard-sent l t p q b w note later = record {
  later = later;
  before = λ u mid. refl;
  live = λ u. refl;
  below = λ u mid j e. heard-at (noted t (Sends p b w) note) l u q mid j e;
}

pub copy-follows : CopyFollows
copy-follows start l t p s o b q is few due =
    let out : IsOut l p o = subst (TurnIn l p) is b.agrees.turn in
    let i = out.first.number in
    let last = is-last l p (last_sent l p) out.first out.is in (
      i,
      out.first,
      found-first l (λ (f : FirstSending). same_peer f.peer p) out.first last,
      (find-some (λ (f : FirstSending). same_peer f.peer p) (firsts l) out.first last).1,
      record {
        follows = (q.unsealed, (q.quiet, refl, may-copy l p o out few due));
        agrees = rest-still l (copy t p o i ∷ l) p s (with_copy t s o) (still-copy l t p o.datagram i b.later) (unheard-sent l t p p o.datagram None (Copies i) b.later) b.agrees
            (out-copied l t p o out) refl refl refl refl refl;
      },
    )
