-- What goes out is in order, in every journal that stands.
use Rattle.std.proofs.Common.{ℕ, ◌<◌, List, Option, Some, subst}
use Rattle.coap_codec.specs.Spelling.{Content}
use Rattle.uri_map.specs.declared.peer.Peer.{Peer}
use Rattle.journal_book.specs.Entries.{Sends, Written}
use Rattle.history_laws.specs.Justified.{Stands}
use Rattle.history_laws.specs.Laws.{WritesInOrder}
use Rattle.history_claims.specs.Headline.{IsEntry, IsFirstSending}
use Rattle.history_claims.specs.Order.{AreSentFor, IsAccounted, IsSentAgain, IsOver, AreInOrder}
use Rattle.history_claims.proofs.Accounted.{accounted-in}
use Rattle.history_claims.proofs.Again.{sent-again}
use Rattle.history_claims.proofs.Apart.{ids-once}
use Rattle.history_claims.proofs.Current.{current}
use Rattle.history_claims.proofs.InTurn.{in-turn}
use Rattle.history_claims.proofs.Owned.{are-sent-for}
use Rattle.history_claims.proofs.Shared.{replies-once}

abbrev Accounted : List Written → Type 0
Accounted h = (i t : ℕ) (p : Peer) (b : List ℕ) (w : Option ℕ) → IsEntry h i t (Sends p b w) → IsAccounted h i p b w

abbrev InTurn : List Written → Type 0
InTurn h =
    (i j s t : ℕ) (p : Peer) (m n : Content) → IsFirstSending h i s p m → IsFirstSending h j t p n → i < j → IsOver h p i m j

abbrev Copies : List Written → Type 0
Copies h = (i t w : ℕ) (p : Peer) (b : List ℕ) → IsEntry h i t (Sends p b (Some w)) → IsSentAgain h p b w i t

pub in-order : WritesInOrder → (h : List Written) → Stands h → AreInOrder h
in-order law h s =
    record {
      sent = subst AreSentFor s.entries_are (are-sent-for law s.reading s.legal);
      accounted = subst Accounted s.entries_are (accounted-in s.reading s.legal);
      in_turn = subst InTurn s.entries_are (in-turn s.reading s.legal);
      ids = λ i j u t p m n. ids-once h i j u t p m n s;
      copies = subst Copies s.entries_are (sent-again s.reading s.legal);
      replies = λ i j t u c d k o n g e. replies-once h i j t u c d k o n g e s;
      current = current h s;
    }
