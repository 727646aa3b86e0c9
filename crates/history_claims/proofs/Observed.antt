-- The worked journal of what is observed, as entries.
use Rattle.std.proofs.Common.{◌≡◌, ℕ, ◌<◌, true, false, eqb, inl, inr, List, [], ◌∷◌, Option, Some, refl, sym, ap, subst, ◌∙◌, arith, lit<, lit≤}
use Rattle.std.proofs.lemmas.Bool.{false≢true, or_cases}
use Rattle.coap_codec.specs.Spelling.{Content, Spells}
use Rattle.coap_codec.proofs.Unique.{spells_one}
use Rattle.uri_map.specs.declared.peer.Peer.{Peer}
use Rattle.ask_model.specs.Requests.{CoapRequest, Requests}
use Rattle.ask_model.specs.Sharing.{asks_same}
use Rattle.journal_book.specs.Entries.{Sends, Hears, Written}
use Rattle.observe_share.specs.Newer.{newer}
use Rattle.history_laws.specs.Readings.{entries}
use Rattle.history_laws.specs.Observing.{number_or_zero, version}
use Rattle.history_laws.specs.Worked.{server}
use Rattle.history_laws.specs.WorkedWatches as O
use Rattle.history_laws.proofs.CallerLemmas.{eqb-same, greatest-1-spelled, least-2-spelled, registers-spelled, served-holds, some-is, watch-get-spelled}
use Rattle.history_claims.specs.Headline.{IsEntry, IsAsked, IsHeard, IsNotice, IsNotified, IsOlder}
use Rattle.history_claims.specs.Worked.{Updated, Outdated}
use Rattle.history_claims.proofs.Examples.{is_hearing, places, lies_in, heard-texts, moment-same, sense-same}
use Rattle.history_claims.proofs.Repeats.{says-new}
use Rattle.history_claims.proofs.Plain.{ServedHere, served-here}
use Rattle.history_claims.proofs.Served.{served-in}
use Rattle.history_claims.proofs.Stored.{no-copies}
use Rattle.history_claims.proofs.Together.{is_ask, requests-same}

pub updated : Updated
updated = served-in O.served 10 4000 1 9 (6 ∷ []) served-holds.0 refl

-- not so

hears-no-sends : (t s : ℕ) (p r : Peer) (b c : List ℕ) (w : Option ℕ) → IsEntry (entries O.served) 7 t (Hears p b) → IsEntry (entries O.served) 7 s (Sends r c w) → ⊥
hears-no-sends t s p r b c w e f = go (ap (λ (x : Written). x.deed) (some-is _ _ (sym e ∙ f)))
  where
    go : Hears p b ≡ Sends r c w → ⊥
    go g = cc

-- the update, which wasn't rejected
newer-one : IsNotice (entries O.served) server 6 (O.least 2)
newer-one = record {
  sending = 2;
  sent = O.get_message;
  moment = 0;
  first = record { bytes = O.get_bytes; timeout = 2000; stands = refl; spelled = watch-get-spelled };
  earlier = 3;
  reply = O.registers_message;
  replied = record {
    after = lit< tt;
    moment = 10;
    heard = record { bytes = O.registers_bytes; stands = refl; spelled = registers-spelled };
    response = lit≤ tt;
    token = refl;
    kind = refl;
  };
  new_then = says-new O.served server 3 _ served-holds.0 refl tt;
  before = lit< tt;
  response = record {
    after = lit< tt;
    moment = 2000;
    heard = record { bytes = O.least_bytes 2; stands = refl; spelled = least-2-spelled };
    response = lit≤ tt;
    token = refl;
    kind = tt;
  };
  new = says-new O.served server 6 _ served-holds.0 refl tt;
  kind = tt;
  kept = λ t bytes e s. hears-no-sends 3000 t server server (O.greatest_bytes 3) bytes _ refl e;
}

-- It is newer than all before it.
at-three : (m : Content) (t : ℕ) (p : Peer) → IsHeard (entries O.served) p 3 t m → (v : ℕ) → v ≡ 0 → newer (number_or_zero (version m)) t v 2000 ≡ false → ⊥
at-three m t p r v zero older =
    let text : O.registers_bytes ≡ r.bytes = heard-texts 10 t server p O.registers_bytes r.bytes r.stands in
    let is : m ≡ O.registers_message = spells_one m O.registers_message r.bytes r.spelled (subst (Spells O.registers_message) text registers-spelled) in
    let moment : 10 ≡ t = moment-same 10 t _ _ r.stands in
    false≢true (sym (subst (λ (s : ℕ). newer (number_or_zero (version O.registers_message)) s 0 2000 ≡ false) (sym moment)
    (subst (λ (n : Content). newer (number_or_zero (version n)) t 0 2000 ≡ false) is (subst (λ (v : ℕ). newer (number_or_zero (version m)) t v 2000 ≡ false) zero older))))

at-five : (m : Content) (t : ℕ) (p : Peer) → IsHeard (entries O.served) p 5 t m → (v : ℕ) → v ≡ 0 → newer (number_or_zero (version m)) t v 2000 ≡ false → ⊥
at-five m t p r v zero older =
    let text : O.greatest_bytes 1 ≡ r.bytes = heard-texts 1000 t server p (O.greatest_bytes 1) r.bytes r.stands in
    let is : m ≡ O.greatest 1 = spells_one m (O.greatest 1) r.bytes r.spelled (subst (Spells (O.greatest 1)) text greatest-1-spelled) in
    let moment : 1000 ≡ t = moment-same 1000 t _ _ r.stands in
    false≢true (sym (subst (λ (s : ℕ). newer (number_or_zero (version (O.greatest 1))) s 0 2000 ≡ false) (sym moment)
    (subst (λ (n : Content). newer (number_or_zero (version n)) t 0 2000 ≡ false) is (subst (λ (v : ℕ). newer (number_or_zero (version m)) t v 2000 ≡ false) zero older))))

zero-one : (v w : ℕ) → Some v ≡ Some w → v ≡ w
zero-one v w e = cc

never-older : (o : ℕ) (r : CoapRequest) (n : IsNotified (entries O.served) o r 6 (O.least 2)) → IsOlder (entries O.served) o r 6 (O.least 2) n → ⊥
never-older o r n it =
    elim (or_cases (eqb it.other 3) _ lies) [
      | inl w ↦ at-three it.reply it.response.moment r.peer (there 3 (eqb-same it.other 3 w)) it.number number older
      | inr v ↦ elim (or_cases (eqb it.other 5) _ v) [
        | inl w ↦ at-five it.reply it.response.moment r.peer (there 5 (eqb-same it.other 5 w)) it.number number older
        | inr w ↦ elim (or_cases (eqb it.other 6) _ w) [
          | inl x ↦ let place = eqb-same it.other 6 x in let lt = it.earlier in absurd (omega (arith, place, lt))
          | inr x ↦ elim (or_cases (eqb it.other 7) false x) [
            | inl y ↦ let place = eqb-same it.other 7 y in let lt = it.earlier in absurd (omega (arith, place, lt))
            | inr y ↦ absurd (false≢true y)
          ]
        ]
      ]
    ]
  where
    lies : lies_in (3 ∷ 5 ∷ 6 ∷ 7 ∷ []) it.other ≡ true
    lies = places is_hearing (entries O.served) (3 ∷ 5 ∷ 6 ∷ 7 ∷ []) 11 it.other it.response.moment _ refl refl it.response.heard.stands refl

    there : (i : ℕ) → it.other ≡ i → IsHeard (entries O.served) r.peer i it.response.moment it.reply
    there i e = subst (λ (i : ℕ). IsHeard (entries O.served) r.peer i it.response.moment it.reply) e it.response.heard

    number : it.number ≡ 0
    number = sym (zero-one 0 it.number it.numbered)

    moment : 2000 ≡ n.response.moment
    moment = moment-same 2000 n.response.moment _ _ n.response.heard.stands

    older : newer (number_or_zero (version it.reply)) it.response.moment it.number 2000 ≡ false
    older = subst (λ (t : ℕ). newer (number_or_zero (version it.reply)) it.response.moment it.number t ≡ false) (sym moment) it.older

-- Who observes is the one who asked first.
the-one : (o c t : ℕ) (r : CoapRequest) → IsAsked (entries O.served) o c t (Requests r) → o < 6 → r ≡ O.get_t
the-one o c t r asked lt =
    elim (or_cases (eqb o 1) _ (places is_ask (entries O.served) (1 ∷ 9 ∷ []) 11 o t _ refl refl asked.stands refl)) [
      | inl w ↦
          let it = subst (λ (o : ℕ). IsAsked (entries O.served) o c t (Requests r)) (eqb-same o 1 w) asked in
          sym (requests-same O.get_t r (sense-same 0 t 0 c (O.observed O.get_t) _ it.stands))
      | inr v ↦ elim (or_cases (eqb o 9) false v) [
        | inl w ↦ let place = eqb-same o 9 w in absurd (omega (arith, place, lt))
        | inr w ↦ absurd (false≢true w)
      ]
    ]

pub outdated : Outdated
outdated is =
    let s : ServedHere (entries O.served) 4000 1 9 (5 ∷ []) = served-here (entries O.served) 4000 1 9 5 (no-copies (entries O.served) 11 refl refl) is in
    let asks : s.request ≡ O.get_t = sym (requests-same O.get_t s.request (sense-same 4000 4000 1 1 (O.observed O.get_t) _ s.asked.stands)) in
    let it = s.newest server 6 (O.least 2) (lit< tt) (lit< tt) newer-one in
    let known = it.2 in
    let sent = known.observed.heard.sent_for.after in
    let came = known.response.after in
    let r = the-one it.0 known.observed.conn known.observed.moment it.1 known.observed.asked (omega (arith, sent, came)) in
    let same : asks_same s.request it.1 ≡ true =
    subst (λ (q : CoapRequest). asks_same q it.1 ≡ true) (sym asks) (subst (λ (q : CoapRequest). asks_same O.get_t q ≡ true) (sym r) refl) in
    never-older it.0 it.1 known (it.3 same)
