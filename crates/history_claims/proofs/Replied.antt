-- What is sent for an ask goes out after the response to what was sent for it before.
use Rattle.std.proofs.Common.{◌≡◌, ℕ, zero, suc, ◌<◌, true, inl, inr, List, Option, Some, None, refl, sym, ap, subst, ◌∙◌, arith}
use Rattle.std.specs.Prelude.{is_none}
use Rattle.std.specs.List.{Contains}
use Rattle.std.proofs.lemmas.Bool.Decides.{eqb_tells}
use Rattle.std.proofs.lemmas.Bool.{false≢true, and_parts}
use Rattle.std.proofs.lemmas.List.Elements.{Contains-push}
use Rattle.coap_codec.specs.Spelling.{Content}
use Rattle.uri_map.specs.declared.peer.Peer.{Peer}
use Rattle.journal_book.specs.Entries.{Sends}
use Rattle.history_laws.specs.Readings.{Noted, First, entries, at, before, noted}
use Rattle.history_laws.specs.Progress.{Reply}
use Rattle.history_laws.specs.Transmissions.{sent_last}
use Rattle.history_laws.specs.Exchanges.{Begun, begun, end_of, is_going, goes_to, waits_for, replies}
use Rattle.history_laws.specs.Justified.{MayBeFirst, Legal}
use Rattle.history_laws.specs.Hearing.{IsReplyKind}
use Rattle.history_laws.specs.Laws.{IsFirst}
use Rattle.history_laws.proofs.CallerLemmas.{at-before, at-below, at-same, at-still, begun-early, first-waits, follows-at, legal-before, length-before, none-of, none-some, replies-fit, sent-for}
use Rattle.history_claims.specs.Headline.{IsHeard, IsResponse}
use Rattle.history_claims.proofs.Repeats.{heard-entry}
use Rattle.history_claims.proofs.Sending.{first-before}
use Rattle.history_claims.proofs.Unsent.{sent-last-first, sent-last-none}
use Rattle.history_claims.proofs.Waiting.{brings, latest, last-newest}

firsts-same : (s t : ℕ) (p r : Peer) (b c : List ℕ) (w v : Option ℕ) (o q : ℕ) (m n : Content)
    → noted s (Sends p b w) (First o m) ≡ noted t (Sends r c v) (First q n) → (p ≡ r) × (m ≡ n)
firsts-same s t p r b c w v o q m n e = (peers (ap (λ (x : Noted). x.written.deed) e), texts (ap (λ (x : Noted). x.note) e))
  where
    peers : Sends p b w ≡ Sends r c v → p ≡ r
    peers f = cc

    texts : First o m ≡ First q n → m ≡ n
    texts f = cc

none-waits : (w : Option ℕ) (i : ℕ) → is_none w ≡ true → w ≡ Some i → ⊥
none-waits None i e f = none-some i f
none-waits (Some j) i e f = false≢true e

module _ (l : List Noted) (legal : Legal l) (o : ℕ) (b : Begun) (opened : begun l o ≡ Some b) where
  abbrev WasReplied : ℕ → Peer → Content → ℕ → Type 0
  WasReplied i p m j = (k : ℕ) × (x : Content) × (k < j) × IsResponse (entries l) p i m k x

  replied-by : (i s j : ℕ) (p : Peer) (m : Content) (y : Noted) → IsFirst l s o i p m → at l j ≡ Some y → (r : Reply) → Contains (replies (before l j) o) r
      → r.sending ≡ i → WasReplied i p m j
  replied-by i s j p m y f there r has same =
      let fits = replies-fit (before l j) o r (legal-before l j legal) has in
      let first : IsFirst (before l j) fits.sent_at o i fits.peer fits.sent =
      subst (λ (i : ℕ). IsFirst (before l j) fits.sent_at o i fits.peer fits.sent) same fits.first in
      let one = firsts-same fits.sent_at s fits.peer p first.bytes f.bytes first.timeout f.timeout o o fits.sent m
      (at-same l i _ _ (at-before l j i _ first.stands) f.stands) in
      let heard = at-before l j r.number _ fits.heard in
      let after = fits.after in (
        r.number,
        r.message,
        subst (λ (n : ℕ). r.number < n) (length-before l j y there) (at-below (before l j) r.number _ fits.heard),
        record {
          after = subst (λ (i : ℕ). i < r.number) same after;
          moment = fits.moment;
          heard = subst (λ (p : Peer). IsHeard (entries l) p r.number fits.moment r.message) one.0
              (heard-entry l fits.peer r.number fits.moment fits.bytes r.message _ heard fits.spelled);
          response = fits.response;
          token = fits.token ∙ ap (λ (m : Content). m.token) one.1;
          kind = brings r.message.kind r.message.mid m.mid
              (subst (λ (m : Content). IsReplyKind r.message.kind r.message.mid m.mid) one.1 fits.kind);
        },
      )

  replied-before : (fuel j : ℕ) → j < fuel → (t : ℕ) (q : Peer) (n : Content) → IsFirst l t o j q n → (i s : ℕ) (p : Peer) (m : Content) → IsFirst l s o i p m
      → i < j → WasReplied i p m j
  replied-before zero j lt t q n g i s p m f less = absurd (omega (arith, lt))
  replied-before (suc fuel) j lt t q n g i s p m f less =
      by (sent_last (before l j) o) refl
      (λ k t q n h above sooner. replied-before fuel k (omega (arith, lt, sooner)) t q n h i s p m f above)
    where
      early : Legal (before l j)
      early = legal-before l j legal

      there : IsFirst (before l j) s o i p m
      there = record { bytes = f.bytes; timeout = f.timeout; stands = at-still l j i _ _ g.stands less f.stands }

      going : (is_going (before l j) o ≡ true) × (is_none (waits_for (before l j) o) ≡ true)
      going = at-turn (follows-at l j _ legal g.stands).1.1
        where
          at-turn : MayBeFirst (before l j) t o q g.bytes n g.timeout → (is_going (before l j) o ≡ true) × (is_none (waits_for (before l j) o) ≡ true)
          at-turn may =
              and_parts (is_going (before l j) o) (is_none (waits_for (before l j) o))
              (and_parts (goes_to q (begun (before l j) o)) _ (first-waits (before l j) t o q g.bytes n g.timeout may)).1

      by : (last : Option ℕ) → sent_last (before l j) o ≡ last
          → ((k t : ℕ) (q : Peer) (n : Content) → IsFirst l t o k q n → i < k → k < j → WasReplied i p m k) → WasReplied i p m j
      by None e earlier = absurd (sent-last-none (before l j) s o i p m e there)
      by (Some k) e earlier =
          let after = (sent-for l t o j q n legal g).after in
          let last = sent-last-first (before l j) o k b (legal-before l j legal) (begun-early l j o b (at-below l j _ g.stands) opened after) e in
          let le = last-newest (before l j) s o i k p m e there in
          let below = subst (λ (n : ℕ). k < n) (length-before l j _ g.stands) (at-below (before l j) k _ last.3.stands) in
          elim (eqb_tells i k) [
            | inl u ↦
                elim (latest (before l j) last.0 o k last.1 last.2 last.3 (none-of (end_of (before l j) o) going.0)
                (λ s i p m h. last-newest (before l j) s o i k p m e h)) [
                  | inl waits ↦ absurd (none-waits (waits_for (before l j) o) k going.1 waits)
                  | inr w ↦
                      replied-by i s j p m _ f g.stands w.1
                      (subst (λ (rs : List Reply). Contains rs w.1) (sym w.2) (Contains-push w.0 w.1)) (w.3 ∙ sym u.1)
                ]
            | inr u ↦
                let not = u.1 in
                let h = first-before l j last.0 o k last.1 last.2 last.3 in
                let it = earlier k last.0 last.1 last.2 h (omega (arith, le, not)) below in
                let sooner = it.2 in
                (it.0, it.1, omega (arith, sooner, below), it.3)
          ]

pub replied : (l : List Noted) → Legal l → (o s t i j : ℕ) (p q : Peer) (m n : Content) → IsFirst l s o i p m → IsFirst l t o j q n → i < j
    → (k : ℕ) × (x : Content) × (k < j) × IsResponse (entries l) p i m k x
replied l legal o s t i j p q m n f g lt =
    let it = sent-for l t o j q n legal g in
    replied-before l legal o it.exchange it.opened (suc j) j (omega arith) t q n g i s p m f lt
