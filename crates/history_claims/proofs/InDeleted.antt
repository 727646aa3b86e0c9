-- The worked journal of a DELETE that goes out twice.
use Rattle.std.proofs.Common.{◌≡◌, ◌⊎◌, ℕ, ◌<◌, ◌≤◌, Bool, true, false, inl, inr, List, [], ◌∷◌, length, Ok, refl, sym, ap, subst, ◌∙◌, arith, lit<}
use Rattle.std.proofs.lemmas.Bool.{false≢true, ltb-true, and_parts}
use Rattle.std.specs.Prelude.{nat_lt}
use Rattle.std.specs.List.{list_all}
use Rattle.coap_codec.specs.Spelling.{Content, Spells}
use Rattle.coap_codec.specs.Reading.{message_at}
use Rattle.coap_codec.specs.Reading as X
use Rattle.coap_codec.proofs.ByteRanges.{IsBytes}
use Rattle.coap_codec.proofs.Takes.{message_takes}
use Rattle.ask_model.specs.Requests.{CoapRequest, Requests}
use Rattle.journal_book.specs.Entries.{Asks, Written}
use Rattle.history_laws.specs.Readings.{entries}
use Rattle.history_laws.specs.Worked.{server, ask_for}
use Rattle.history_claims.specs.Headline.{IsEntry, IsAsked, IsFirstSending, IsOpen, IsSentFor}
use Rattle.history_claims.specs.Order.{SaysMore, IsInSeries, IsSentAsSaid, AreSentFor}
use Rattle.history_claims.specs.WorkedOrder.{delete_light, delete_bytes, deletes, sent_twice, SentTwice}
use Rattle.history_claims.proofs.Examples.{is_hearing, places, lies_in, not-notified, sense-same}
use Rattle.history_claims.proofs.Together.{is_ask, requests-same}
use Rattle.history_claims.proofs.InWorked.{one-of}

are-bytes : (bytes : List ℕ) → list_all (λ (b : ℕ). nat_lt b 256) bytes ≡ true → IsBytes bytes
are-bytes [] e = tt
are-bytes (b ∷ bytes) e = let both = and_parts (nat_lt b 256) _ e in (ltb-true _ _ both.0, are-bytes bytes both.1)

spelled-0 : Spells (deletes 0) (delete_bytes 0)
unfolding message_at X.options_at X.option_at
spelled-0 = message_takes (delete_bytes 0) _ (are-bytes (delete_bytes 0) refl) refl

spelled-1 : Spells (deletes 1) (delete_bytes 1)
unfolding message_at X.options_at X.option_at
spelled-1 = message_takes (delete_bytes 1) _ (are-bytes (delete_bytes 1) refl) refl

abbrev h : List Written
h = entries sent_twice

first : IsFirstSending h 2 0 server (deletes 0)
first = record { bytes = delete_bytes 0; timeout = 2000; stands = refl; spelled = spelled-0 }

second : IsFirstSending h 4 700 server (deletes 1)
second = record { bytes = delete_bytes 1; timeout = 2000; stands = refl; spelled = spelled-1 }

-- Both are for the one ask.
asked-for : (i o : ℕ) (r : CoapRequest) → IsOpen h i o r → (o ≡ 1) × (r ≡ delete_light)
asked-for i o r (inr it) =
    absurd (not-notified h it.0 r o it.2.message 3 it.2.notified
    (λ i s d e is le. one-of i 3 (places is_hearing h (3 ∷ []) 5 i s d refl refl e is)))
asked-for i o r (inl it) =
    let place = one-of o 1 (places is_ask h (1 ∷ []) 5 o it.moment _ refl refl it.asked.stands refl) in
    let asked = subst (λ (o : ℕ). IsAsked h o it.conn it.moment (Requests r)) place it.asked in
    (place, sym (requests-same delete_light r (sense-same 0 it.moment 0 it.conn (ask_for delete_light) _ asked.stands)))

pub sent-twice : SentTwice
sent-twice claim = elim (series.1) [
  | inl it ↦ let le = it.0 2 (same, 0, server, deletes 0, first) in omega (arith, le)
  | inr it ↦
      let left = it.5 in
      let none : length it_is.request.body ≡ 0 = ap (λ (r : CoapRequest). length r.body) its.1 in
      omega (arith, left, none)
]
  where
    it_was : IsSentAsSaid h claim.owner claim.block 2 (deletes 0)
    it_was = claim.each 2 0 server (deletes 0) first

    it_is : IsSentAsSaid h claim.owner claim.block 4 (deletes 1)
    it_is = claim.each 4 700 server (deletes 1) second

    its : (claim.owner 4 ≡ 1) × (it_is.request ≡ delete_light)
    its = asked-for 4 (claim.owner 4) it_is.request it_is.pending

    same : claim.owner 2 ≡ claim.owner 4
    same = (asked-for 2 (claim.owner 2) it_was.request it_was.pending).0 ∙ sym its.0

    series : IsSentFor h (claim.owner 4) it_is.request (claim.block 4) 4 (deletes 1) × IsInSeries h claim.owner claim.block it_is.request 4
        × SaysMore (claim.block 4) it_is.request.body
    series = it_is.series (λ get. let method = sym (ap (λ (r : CoapRequest). r.method) its.1) ∙ get in absurd (omega (arith, method)))
