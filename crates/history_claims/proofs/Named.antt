-- A GET whose message went out can't name itself, though an equal one was answered before.
use Rattle.std.proofs.Common.{◌≡◌, ℕ, ◌<◌, ◌≤◌, Bool, true, false, eqb, inl, inr, List, [], ◌∷◌, ◌++◌, Option, Some, None, refl, sym, ap, subst, ◌∙◌, arith, lit<}
use Rattle.std.proofs.lemmas.Bool.{false≢true, or_cases}
use Rattle.coap_codec.specs.Spelling.{Content, Spells}
use Rattle.coap_codec.proofs.Unique.{spells_one}
use Rattle.uri_map.specs.declared.peer.Peer.{Peer}
use Rattle.ask_model.specs.Requests.{CoapRequest, Plainly}
use Rattle.journal_book.specs.Entries.{Live, Done, Sent, done_of, Deed, Sends, Written}
use Rattle.history_laws.specs.Readings.{entries}
use Rattle.history_laws.specs.Worked.{server, ask_for}
use Rattle.history_laws.specs.WorkedMessages as M
use Rattle.history_laws.specs.WorkedCopies as W
use Rattle.history_laws.proofs.CallerLemmas.{eqb-same, get-again-spelled, get-spelled, some-is}
use Rattle.history_laws.specs.Progress.{Reply, first_progress}
use Rattle.history_claims.specs.Headline.{IsEntry, IsPending, IsOpen, IsNotified, IsFirstSending, WasFirstSent, IsSentFor, IsShared}
use Rattle.history_claims.specs.Causes.{AreRepliesTo, AreRepliesOn, IsUnsent}
use Rattle.history_claims.specs.Worked.{asked_again, Unnamed}
use Rattle.history_claims.proofs.Examples.{is_hearing, not-notified, places, entry_of, fourth, sense-same}
use Rattle.history_claims.proofs.Pieces.{last-reply}
use Rattle.history_claims.proofs.Together.{is_ask, asks-sends, requests-same}

abbrev h : List Written
h = entries asked_again

-- the GET of entry 1 was answered in entry 4
not-pending : (k : ℕ) (r : CoapRequest) → 4 < k → IsPending h k 1 r → ⊥
not-pending k r lt p = p.unanswered 4 700 0 (Live (3 ∷ [])) lt refl

-- One message was heard, so nothing is a notification.
abbrev heard-once : (j : ℕ) → Type 0
heard-once j = (i s : ℕ) (d : Deed) → IsEntry h i s d → is_hearing d ≡ true → i ≤ j → i ≡ 3

only-third : (j : ℕ) → heard-once j
only-third j i s d e is lt =
    elim (or_cases (eqb i 3) false (places is_hearing h (3 ∷ []) 9 i s d refl refl e is)) [ inl w ↦ eqb-same i 3 w | inr w ↦ absurd (false≢true w) ]

none-notified : (o : ℕ) (q : CoapRequest) (j : ℕ) (m : Content) → IsNotified h o q j m → ⊥
none-notified o q j m n = not-notified h o q j m 3 n (only-third j)

-- so what is pending then is the second
pending-second : (k a : ℕ) (r : CoapRequest) → 4 < k → IsPending h k a r → a ≡ 5
pending-second k a r lt p =
    elim (or_cases (eqb a 1) _ (places is_ask h (1 ∷ 5 ∷ []) 9 a p.moment _ refl refl p.asked.stands refl)) [
      | inl w ↦ absurd (not-pending k r lt (subst (λ (a : ℕ). IsPending h k a r) (eqb-same a 1 w) p))
      | inr v ↦ elim (or_cases (eqb a 5) false v) [ inl w ↦ eqb-same a 5 w | inr w ↦ absurd (false≢true w) ]
    ]

open-second : (k a : ℕ) (r : CoapRequest) → 4 < k → IsOpen h k a r → a ≡ 5
open-second k a r lt (inl p) = pending-second k a r lt p
open-second k a r lt (inr f) = absurd (none-notified f.0 r a f.2.message f.2.notified)

-- its message is that of entry 6, under a token of its own
abbrev is_sent_so : Option Done → Bool
is_sent_so (Some (Sent p b (Some w))) = true
is_sent_so x = false

abbrev is_sent : Deed → Bool
is_sent d = is_sent_so (done_of d)

done-bytes : (p r : Peer) (b c : List ℕ) (w v : Option ℕ) → Some (Sent p b w) ≡ Some (Sent r c v) → b ≡ c
done-bytes p r b c w v e = cc

deeds-same : (t s : ℕ) (d e : Deed) → Some (entry_of t d) ≡ Some (entry_of s e) → d ≡ e
deeds-same t s d e f = ap (λ (x : Written). x.deed) (some-is _ _ f)

other-token : (s : ℕ) (p : Peer) (m : Content) → WasFirstSent h 2 s p m → m.token ≡ W.get_again.token → ⊥
other-token s p m was same =
    let text : M.get_bytes ≡ was.bytes =
    done-bytes server p M.get_bytes was.bytes (Some 2000) (Some was.timeout)
    (ap done_of (deeds-same 0 s (Sends server M.get_bytes (Some 2000)) was.done.deed was.done.stands) ∙ was.done.says) in
    let is = spells_one m M.get_message was.bytes was.spelled (subst (Spells M.get_message) text get-spelled) in
    let numbers : 0 ≡ 2 = ap fourth (sym (ap (λ (m : Content). m.token) is) ∙ same) in
    absurd (omega (arith, numbers))

issued : (j s : ℕ) (p : Peer) (m : Content) → WasFirstSent h j s p m → m.token ≡ W.get_again.token → j ≡ 6
issued j s p m was same =
    elim (or_cases (eqb j 2) _ (places is_sent h (2 ∷ 6 ∷ []) 9 j s was.done.deed refl refl was.done.stands (ap is_sent_so was.done.says))) [
      | inl w ↦ absurd (other-token s p m (subst (λ (j : ℕ). WasFirstSent h j s p m) (eqb-same j 2 w) was) same)
      | inr v ↦ elim (or_cases (eqb j 6) false v) [ inl w ↦ eqb-same j 6 w | inr w ↦ absurd (false≢true w) ]
    ]

sent : IsSentFor h 5 M.get_light None 6 W.get_again
sent =
    record {
      after = lit< tt;
      moment = 800;
      first = record { bytes = W.get_under 2 2; timeout = 2000; stands = refl; spelled = get-again-spelled };
      asks = (Plainly, refl);
      issued = issued;
    }

-- which shares with no other
second-alone : (q : CoapRequest) (n o since : ℕ) → IsShared h 0 5 q n o since → n ≡ 5
second-alone q n o since s =
    elim (s.shares) [
      | inl own ↦ own.0
      | inr (inl j) ↦ j.0 ∙ pending-second 5 o j.1.request (lit< tt) j.1.pending
      | inr (inr to) ↦ absurd (none-notified o to.request n to.fetching.message to.fetching.notified)
    ]

pub unnamed : Unnamed
unnamed c =
    elim (c.names) [
      | inl w ↦
          let f = w.2.first in
          absurd (asks-sends 800 w.2.moment 0 (ask_for M.get_light) c.request.peer f.bytes f.timeout f.stands)
      | inr (inl r) ↦ elim (r.went.heard) [
        | inl heard ↦ replied r.others r.last heard r.names
        | inr heard ↦ none-on (r.others ++ r.last ∷ []) heard
      ]
      | inr (inr w) ↦ absurd (never (subst (λ (n : ℕ). IsUnsent h n 5 n c.request) (second-alone c.request c.entry c.opening c.since c.shared) w.1))
    ]
  where
    asks : M.get_light ≡ c.request
    asks = requests-same M.get_light c.request (sense-same 800 c.shared.moment 0 0 (ask_for M.get_light) _ c.shared.asked.stands)

    replied : (others : List Reply) (last : Reply) → AreRepliesTo h c.opening c.request (first_progress c.request) (others ++ last ∷ []) → last.sending ≡ 5 → ⊥
    replied others last heard names =
        let it = last-reply h c.opening c.request (first_progress c.request) others last heard in
        let s = it.2.0.sent_for in
        let f = subst (λ (i : ℕ). IsFirstSending h i s.moment c.request.peer it.2.0.sent) (it.2.1 ∙ names) s.first in
        asks-sends 800 s.moment 0 (ask_for M.get_light) c.request.peer f.bytes f.timeout f.stands

    none-on : (rs : List Reply) → AreRepliesOn h c.opening c.request rs → ⊥
    none-on [] heard = heard
    none-on (r ∷ rs) heard = none-notified c.opening heard.0.0 r.number r.message heard.0.2

    never : IsUnsent h 5 5 5 c.request → ⊥
    never none =
        let it = none 6 W.get_again None (lit< tt) (subst (λ (q : CoapRequest). IsSentFor h 5 q None 6 W.get_again) asks sent) in
        it.3 (open-second 6 it.0 it.1 (lit< tt) it.5)
