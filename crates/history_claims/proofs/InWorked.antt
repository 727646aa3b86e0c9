-- The worked journals of what is asked once and goes out in order, and of what isn't so.
use Rattle.std.proofs.Common.{◌≡◌, ◌⊎◌, ℕ, ◌+◌, ◌<◌, ◌≤◌, Bool, true, false, eqb, inl, inr, List, [], ◌∷◌, None, refl, sym, ap, subst, ◌∙◌, arith, lit<}
use Rattle.std.specs.List.{Contains}
use Rattle.std.proofs.lemmas.Bool.{false≢true, or_cases}
use Rattle.coap_codec.specs.Spelling.{Content, Spells}
use Rattle.uri_map.specs.declared.peer.Peer.{Peer}
use Rattle.ask_model.specs.Requests.{CoapRequest, Requests}
use Rattle.ask_model.specs.Sharing.{asked_key, is_get}
use Rattle.journal_book.specs.Entries.{Live, Kept, Deed, Asks, Sends, Hears, Passes, Answers, Shuts, Written}
use Rattle.history_laws.specs.Laws.{WritesInOrder}
use Rattle.history_laws.specs.Responses.{joined}
use Rattle.history_laws.specs.Readings.{entries}
use Rattle.history_laws.specs.Worked.{server, ask_for}
use Rattle.history_laws.specs.WorkedMessages as M
use Rattle.history_laws.specs.WorkedCopies as W
use Rattle.history_laws.specs.WorkedEndings as E
use Rattle.history_laws.specs.WorkedStore as K
use Rattle.history_laws.specs.WorkedUploads as U
use Rattle.history_laws.proofs.CallerLemmas.{all_answered-holds, contains-none, eqb-same, get-again-spelled, get-spelled, put-spelled, read_from_store-holds, uploaded-holds, some-is}
use Rattle.history_claims.specs.Headline.{IsEntry, IsAsked, IsFirstSending, IsNotified, IsOpen, IsPending, IsWrite}
use Rattle.history_claims.specs.Causes.{AreCopies}
use Rattle.history_claims.specs.Once.{WasAsked, told, WasTold, IsAtHand, CanWaitFor}
use Rattle.history_claims.specs.Order.{IsOver, confirmed, rejected, answered, given_up}
use Rattle.history_claims.specs.Worked.{asked_by_two}
use Rattle.history_claims.specs.WorkedOrder.{ServedAgain, asked_anew, AskedAnew, Waited, asked_apart, AskedApart, InOrder, CopiedEarly, NotWaited}
use Rattle.history_claims.proofs.AtHand.{served-in}
use Rattle.history_claims.proofs.Examples.{is_hearing, places, lies_in, moment-same, not-notified, sense-same}
use Rattle.history_claims.proofs.InOrder.{in-order}
use Rattle.history_claims.proofs.Together.{is_ask, requests-same}

-- kinds of entries
abbrev is_answer : Deed → Bool
is_answer (Answers c k g) = true
is_answer d = false

abbrev is_kept : Deed → Bool
is_kept (Answers c k (Kept js)) = true
is_kept d = false

abbrev is_shut : Deed → Bool
is_shut (Shuts c) = true
is_shut d = false

abbrev is_tick : Deed → Bool
is_tick Passes = true
is_tick d = false

abbrev is_again : Deed → Bool
is_again (Sends p b None) = true
is_again d = false

pub one-of : (i a : ℕ) → lies_in (a ∷ []) i ≡ true → i ≡ a
one-of i a e = elim (or_cases (eqb i a) false e) [ inl w ↦ eqb-same i a w | inr w ↦ absurd (false≢true w) ]

two-of : (i a b : ℕ) → lies_in (a ∷ b ∷ []) i ≡ true → (i ≡ a) ⊎ (i ≡ b)
two-of i a b e = elim (or_cases (eqb i a) _ e) [ inl w ↦ inl (eqb-same i a w) | inr w ↦ inr (one-of i b w) ]

-- the GET of entry 1, which is answered in entry 4
module _ (h : List Written) (asks : IsEntry h 1 0 (Asks 0 (ask_for M.get_light))) (hears : IsEntry h 3 700 (Hears server E.non_bytes))
    (answers : IsEntry h 4 700 (Answers 0 1 (Live (3 ∷ [])))) (only : (i s : ℕ) (d : Deed) → IsEntry h i s d → is_ask d ≡ true → i < 5 → i ≡ 1)
    (once : (i s : ℕ) (d : Deed) → IsEntry h i s d → is_hearing d ≡ true → i ≡ 3) where
  non-spelled : Spells E.non_message E.non_bytes
  non-spelled = read_from_store-holds.0.0.0.0.2.3.spelled

  asked-once : IsAsked h 1 0 0 (Requests M.get_light)
  asked-once = record { came = (ask_for M.get_light).came; rules = (ask_for M.get_light).rules; stands = asks }

  abbrev told-once : WasTold h M.get_light 1 4 (3 ∷ [])
  told-once =
      record {
        conn = 0;
        moment = 0;
        request = M.get_light;
        asked = asked-once;
        same = refl;
        told_at = 700;
        told = answers;
        messages = E.non_message ∷ [];
        heard = ((700, record { bytes = E.non_bytes; stands = hears; spelled = non-spelled }), tt);
        response = joined E.non_message [];
        whole = refl;
        content = refl;
        since = 700;
        first = (server, E.non_bytes, hears);
      }

  its-key : (a c s : ℕ) (r : CoapRequest) → a ≡ 1 → IsAsked h a c s (Requests r) → asked_key r ≡ asked_key M.get_light
  its-key a c s r place asked =
      let it = subst (λ (a : ℕ). IsAsked h a c s (Requests r)) place asked in
      ap asked_key (sym (requests-same M.get_light r (sense-same 0 s 0 c (ask_for M.get_light) _ (sym asks ∙ it.stands))))

  few : (a : ℕ) (r : CoapRequest) → WasAsked h 4 5 a r → is_get r ≡ true → (asked_key r ≡ asked_key M.get_light) ⊎ Contains [] (asked_key r)
  few a r w get = inl (its-key a w.conn w.moment r (only a w.moment _ w.asked.stands refl w.before) w.asked)

  unwritten : (w : ℕ) (it : IsWrite h M.get_light w) → WasAsked h 1 5 w it.request → ⊥
  unwritten w it a =
      let place = only w a.moment _ a.asked.stands refl a.before in
      elim (a.since) [
        | inl after ↦ omega (arith, place, after)
        | inr pending ↦ let sooner = pending.before in omega (arith, place, sooner)
      ]

  unheard : (o j : ℕ) (r : CoapRequest) (m : Content) → IsNotified h o r j m → ⊥
  unheard o j r m n = not-notified h o r j m 3 n (λ i s d e is lt. once i s d e is)

  at-hand : IsAtHand h 5 60699 M.get_light (3 ∷ [])
  at-hand =
      record {
        ask = 1;
        answer = 4;
        told = told-once;
        fresh = lit< tt;
        held = told (lit< tt) (record { others = []; few = lit< tt; all = few; told = λ o j r m n low up. absurd (unheard o j r m n) });
        unnotified = λ o j r m up low n same. unheard o j r m n;
        unwritten = unwritten;
      }

first-ask : (i : ℕ) → lies_in (1 ∷ 5 ∷ []) i ≡ true → i < 5 → i ≡ 1
first-ask i e lt = elim (two-of i 1 5 e) [ inl w ↦ w | inr w ↦ absurd (omega (arith, w, lt)) ]

pub served-again : ServedAgain
served-again =
    let h : List Written = entries K.read_from_store in
    let hand = at-hand h refl refl refl (λ i s d e is lt. first-ask i (places is_ask h (1 ∷ 5 ∷ []) 7 i s d refl refl e is) lt)
    (λ i s d e is. one-of i 3 (places is_hearing h (3 ∷ []) 7 i s d refl refl e is)) in
    let asked : IsAsked h 5 0 60699 (Requests M.get_light) =
    record { came = (ask_for M.get_light).came; rules = (ask_for M.get_light).rules; stands = refl } in
    (hand, served-in K.read_from_store read_from_store-holds.0 read_from_store-holds.1 5 0 60699 M.get_light (3 ∷ []) asked hand)

pub asked-anew : AskedAnew
asked-anew claim =
    let h : List Written = entries asked_anew in
    let hand = at-hand h refl refl refl (λ i s d e is lt. first-ask i (places is_ask h (1 ∷ 5 ∷ []) 7 i s d refl refl e is) lt)
    (λ i s d e is. one-of i 3 (places is_hearing h (3 ∷ []) 7 i s d refl refl e is)) in
    let asked : IsAsked h 5 0 60699 (Requests M.get_light) =
    record { came = (ask_for M.get_light).came; rules = (ask_for M.get_light).rules; stands = refl } in
    elim ((claim.served 5 0 60699 M.get_light (3 ∷ []) asked hand).answered) [
      | inl it ↦ false≢true (places is_kept h [] 7 it.0 60699 _ refl refl it.1 refl)
      | inr it ↦ false≢true (places is_shut h [] 7 it.0 it.1 _ refl refl it.3 refl)
    ]

-- two who ask for the same
module _ (h : List Written) (asks : IsEntry h 1 0 (Asks 0 (ask_for M.get_light))) (only : (i s : ℕ) (d : Deed) → IsEntry h i s d → is_ask d ≡ true → i < 4 → i ≡ 1)
    (unanswered : (i s : ℕ) (d : Deed) → IsEntry h i s d → is_answer d ≡ true → ⊥)
    (unticked : (i s : ℕ) (d : Deed) → IsEntry h i s d → is_tick d ≡ true → ⊥)
    (unshut : (i s : ℕ) (d : Deed) → IsEntry h i s d → is_shut d ≡ true → ⊥) where
  no-write : (w : ℕ) (it : IsWrite h M.get_light w) → WasAsked h 1 4 w it.request → ⊥
  no-write w it a =
      let place = only w a.moment _ a.asked.stands refl a.before in
      elim (a.since) [
        | inl after ↦ omega (arith, place, after)
        | inr pending ↦ let sooner = pending.before in omega (arith, place, sooner)
      ]

  can-wait : CanWaitFor h 4 1 M.get_light
  can-wait =
      record {
        request = M.get_light;
        pending = record {
          before = lit< tt;
          conn = 0;
          moment = 0;
          asked = record { came = (ask_for M.get_light).came; rules = (ask_for M.get_light).rules; stands = asks };
          unanswered = λ n t c g lt e. unanswered n t _ e refl;
          in_time = λ i t after less e. absurd (unticked i t _ e refl);
        };
        same = refl;
        held = λ m s lt e. unshut m s _ e refl;
        unwritten = no-write;
      }

sooner-ask : (i : ℕ) → lies_in (1 ∷ 4 ∷ []) i ≡ true → i < 4 → i ≡ 1
sooner-ask i e lt = elim (two-of i 1 4 e) [ inl w ↦ w | inr w ↦ absurd (omega (arith, w, lt)) ]

pub waited : Waited
waited =
    let h : List Written = entries asked_by_two in
    can-wait h refl (λ i s d e is lt. sooner-ask i (places is_ask h (1 ∷ 4 ∷ []) 5 i s d refl refl e is) lt)
    (λ i s d e is. false≢true (places is_answer h [] 5 i s d refl refl e is))
    (λ i s d e is. false≢true (places is_tick h [] 5 i s d refl refl e is))
    (λ i s d e is. false≢true (places is_shut h [] 5 i s d refl refl e is))

-- Nothing was heard, so what is open was asked for.
asked-open : (k a : ℕ) (r : CoapRequest) → IsOpen (entries asked_apart) k a r → IsPending (entries asked_apart) k a r
asked-open k a r (inl p) = p
asked-open k a r (inr f) =
    let it = f.2.notified.response in
    absurd (false≢true (places is_hearing (entries asked_apart) [] 6 a it.moment _ refl refl it.heard.stands refl))

owned-by : (k a : ℕ) (r : CoapRequest) → IsOpen (entries asked_apart) k a r → ((a ≡ 1) ⊎ (a ≡ 4)) × (a < k)
owned-by k a r opened =
    let it = asked-open k a r opened in
    (two-of a 1 4 (places is_ask (entries asked_apart) (1 ∷ 4 ∷ []) 6 a it.moment _ refl refl it.asked.stands refl), it.before)

pub asked-apart : AskedApart
asked-apart claim =
    elim ((owned-by 5 (claim.owner 5) _ (claim.each 5 600 server W.get_again again).pending).0) [
      | inl first_one ↦
          let it = claim.replied 2 5 0 600 server server M.get_message W.get_again first again (owner_first ∙ sym first_one) (lit< tt) in
          false≢true (places is_hearing (entries asked_apart) [] 6 it.0 it.3.moment _ refl refl it.3.heard.stands refl)
      | inr second ↦
          claim.spared 4 1 600 5 600 server W.get_again M.get_light
          (record { came = (ask_for M.get_light).came; rules = (ask_for M.get_light).rules; stands = refl }) (inr (1, wait)) again second
    ]
  where
    first : IsFirstSending (entries asked_apart) 2 0 server M.get_message
    first = record { bytes = M.get_bytes; timeout = 2000; stands = refl; spelled = get-spelled }

    again : IsFirstSending (entries asked_apart) 5 600 server W.get_again
    again = record { bytes = W.get_under 2 2; timeout = 2000; stands = refl; spelled = get-again-spelled }

    wait : CanWaitFor (entries asked_apart) 4 1 M.get_light
    wait =
        can-wait (entries asked_apart) refl (λ i s d e is lt. sooner-ask i (places is_ask (entries asked_apart) (1 ∷ 4 ∷ []) 6 i s d refl refl e is) lt)
        (λ i s d e is. false≢true (places is_answer (entries asked_apart) [] 6 i s d refl refl e is))
        (λ i s d e is. false≢true (places is_tick (entries asked_apart) [] 6 i s d refl refl e is))
        (λ i s d e is. false≢true (places is_shut (entries asked_apart) [] 6 i s d refl refl e is))

    owner_first : claim.owner 2 ≡ 1
    owner_first =
        let it = owned-by 2 (claim.owner 2) _ (claim.each 2 0 server M.get_message first).pending in
        let sooner = it.1 in
        elim (it.0) [ inl w ↦ w | inr w ↦ absurd (omega (arith, sooner, w)) ]

-- in order
pub in-order-both : WritesInOrder → InOrder
in-order-both law = (
  in-order law (entries M.all_answered)
      (record { reading = M.all_answered; entries_are = refl; legal = all_answered-holds.0; at_rest = all_answered-holds.1 }),
  in-order law (entries U.uploaded) (record { reading = U.uploaded; entries_are = refl; legal = uploaded-holds.0; at_rest = uploaded-holds.1 }),
)

-- the first of the copies goes out when the timeout is over
first-copy : (h : List Written) (p : Peer) (b : List ℕ) (w i t j : ℕ) (js : List ℕ) (last : ℕ) → AreCopies h p b w i t (j ∷ js) last
    → (k : ℕ) × (s : ℕ) × IsEntry h k s (Sends p b None) × (t + w ≤ s)
first-copy h p b w i t j [] last it =
    let late = it.2.1 in
    let start = it.2.2 in
    (j, last, it.0, omega (arith, late, start))
first-copy h p b w i t j (k ∷ js) last it = first-copy h p b w i t k js it.2.0 it.2.2

pub copied-early : CopiedEarly
copied-early claim =
    let it = claim.copies 2 0 2000 server M.get_bytes refl in
    go it.again it.last (it.all 6 1999 refl) it.due
  where
    go : (js : List ℕ) (last : ℕ) → Contains js 6 → AreCopies (entries M.copied_early) server M.get_bytes 2000 2 0 js last → ⊥
    go [] last has due = contains-none 6 has
    go (j ∷ js) last has due =
        let it = first-copy (entries M.copied_early) server M.get_bytes 2000 2 0 j js last due in
        let place = one-of it.0 6 (places is_again (entries M.copied_early) (6 ∷ []) 7 it.0 it.1 _ refl refl it.2 refl) in
        let here = subst (λ (k : ℕ). IsEntry (entries M.copied_early) k it.1 (Sends server M.get_bytes None)) place it.2 in
        let moment : 1999 ≡ it.1 = moment-same 1999 it.1 _ _ here in
        let late = it.3 in
        omega (arith, moment, late)

pub not-waited : NotWaited
not-waited claim = by (claim.in_turn 2 5 0 500 server M.get_message M.put_message first second (lit< tt))
  where
    first : IsFirstSending (entries M.not_waited) 2 0 server M.get_message
    first = record { bytes = M.get_bytes; timeout = 2000; stands = refl; spelled = get-spelled }

    second : IsFirstSending (entries M.not_waited) 5 500 server M.put_message
    second = record { bytes = M.put_bytes; timeout = 2000; stands = refl; spelled = put-spelled }

    unheard : (j s : ℕ) (p : Peer) (b : List ℕ) → IsEntry (entries M.not_waited) j s (Hears p b) → ⊥
    unheard j s p b e = false≢true (places is_hearing (entries M.not_waited) [] 6 j s _ refl refl e refl)

    by : IsOver (entries M.not_waited) server 2 M.get_message 5 → ⊥
    by (confirmed j t after less it) = unheard j t server it.bytes it.stands
    by (rejected j t after less it) = unheard j t server it.bytes it.stands
    by (answered j m less it) = unheard j it.moment server it.heard.bytes it.heard.stands
    by (given_up it) = false≢true (places is_tick (entries M.not_waited) [] 6 it.tick it.ticked _ refl refl it.passes refl)
