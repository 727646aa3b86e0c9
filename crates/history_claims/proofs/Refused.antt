-- What the worked journals of what comes too late don't excuse.
use Rattle.std.proofs.Common.{◌≡◌, ℕ, ◌+◌, ◌<◌, ◌⊎◌, Bool, true, false, eqb, inl, inr, List, [], ◌∷◌, ◌++◌, Option, Some, None, refl, sym, ap, subst, ◌∙◌, arith, lit<, lit≤}
use Rattle.std.proofs.lemmas.Bool.{false≢true, or_cases}
use Rattle.limits.specs.declared.TheConstants.{MAX_TRANSMIT_WAIT}
use Rattle.coap_codec.specs.declared.message.MsgType.TheVariants.{Ack, Rst}
use Rattle.coap_codec.specs.declared.block.Block.{Block}
use Rattle.coap_codec.specs.Spelling.{Content, Spells}
use Rattle.coap_codec.proofs.Unique.{spells_one}
use Rattle.uri_map.specs.declared.peer.Peer.{Peer}
use Rattle.ask_model.specs.Requests.{CoapRequest}
use Rattle.journal_book.specs.Entries.{Done, Heard, done_of, Deed, Sends, Hears, Written}
use Rattle.history_laws.specs.Confirmations.{empty}
use Rattle.history_laws.specs.Readings.{entries}
use Rattle.history_laws.specs.Progress.{Reply, Ending, Progress, Ends, first_progress, fetched_whole, step, progress, ended_by, first_point, block_for}
use Rattle.history_laws.specs.Worked.{server, ask_for, empty_ack, empty_rst}
use Rattle.history_laws.specs.WorkedMessages as M
use Rattle.history_laws.specs.WorkedLate as L
use Rattle.history_laws.proofs.CallerLemmas.{ack-spelled, content-spelled, eqb-same, get-spelled, none-some, other-spelled, put-spelled, rst-0-spelled, some-is}
use Rattle.history_claims.specs.Headline.{IsEntry, IsFirstSending, IsHeard, MayRepeat, IsRepeat, again, IsResponse, IsUnanswered, IsHeardFor, IsNotified, AreHeardFor}
use Rattle.history_claims.specs.Causes.{IsNextReply, AreRepliesTo, AreRepliesOn}
use Rattle.history_claims.specs.Worked.{heard_late, Late, Second, Unheeded, Unrejected, Abandoned}
use Rattle.history_claims.proofs.Examples.{first-alone, entry_of, is_first, places, lies_in, texts, heard-texts, fourth, moment-same, sense-same}
use Rattle.history_claims.proofs.Pieces.{last-reply}
use Rattle.history_claims.proofs.Together.{requests-same}

-- where datagrams were heard
abbrev is_heard_so : Option Done → Bool
is_heard_so (Some (Heard p b)) = true
is_heard_so x = false

abbrev is_heard : Deed → Bool
is_heard d = is_heard_so (done_of d)

-- of two places, one
one-of : (j a b : ℕ) → lies_in (a ∷ b ∷ []) j ≡ true → (j ≡ a) ⊎ (j ≡ b)
one-of j a b e =
    elim (or_cases (eqb j a) _ e) [
      | inl w ↦ inl (eqb-same j a w)
      | inr w ↦ elim (or_cases (eqb j b) false w) [ inl v ↦ inr (eqb-same j b v) | inr v ↦ absurd (false≢true v) ]
    ]

peers-heard : (t s : ℕ) (p r : Peer) (b c : List ℕ) → Some (entry_of t (Hears p b)) ≡ Some (entry_of s (Hears r c)) → p ≡ r
peers-heard t s p r b c e = go (ap (λ (x : Written). x.deed) (same _ _ e))
  where
    same : (x y : Written) → Some x ≡ Some y → x ≡ y
    same x y f = cc

    go : Hears p b ≡ Hears r c → p ≡ r
    go f = cc

deeds-same : (t s : ℕ) (d e : Deed) → Some (entry_of t d) ≡ Some (entry_of s e) → d ≡ e
deeds-same t s d e f = ap (λ (x : Written). x.deed) (some-is _ _ f)

done-texts : (p r : Peer) (b c : List ℕ) → Some (Heard p b) ≡ Some (Heard r c) → b ≡ c
done-texts p r b c e = cc

peers-sent : (t s : ℕ) (p r : Peer) (b c : List ℕ) (w v : Option ℕ) → Some (entry_of t (Sends p b w)) ≡ Some (entry_of s (Sends r c v)) → p ≡ r
peers-sent t s p r b c w v e = go (ap (λ (x : Written). x.deed) (same _ _ e))
  where
    same : (x y : Written) → Some x ≡ Some y → x ≡ y
    same x y f = cc

    go : Sends p b w ≡ Sends r c v → p ≡ r
    go f = cc

-- the messages that the first sendings of a journal spell
module _ (h : List Written) (get : IsEntry h 2 0 (Sends server M.get_bytes (Some 2000))) where
  get-sent : (t : ℕ) (p : Peer) (m : Content) → IsFirstSending h 2 t p m → (p ≡ server) × (m ≡ M.get_message)
  get-sent t p m f =
      let same = sym get ∙ f.stands in (
        sym (peers-sent 0 t server p M.get_bytes f.bytes _ _ same),
        spells_one m M.get_message f.bytes f.spelled (subst (Spells M.get_message) (texts 0 t server p M.get_bytes f.bytes _ _ same) get-spelled),
      )

  put-sent : IsEntry h 8 2100 (Sends server M.put_bytes (Some 2000)) → (t : ℕ) (p : Peer) (m : Content) → IsFirstSending h 8 t p m → m ≡ M.put_message
  put-sent put t p m f =
      let same = sym put ∙ f.stands in
      spells_one m M.put_message f.bytes f.spelled (subst (Spells M.put_message) (texts 2100 t server p M.put_bytes f.bytes _ _ same) put-spelled)

  -- the GET's response, which is no repeat
  module _ (ack : IsEntry h 7 2100 (Hears server (empty_ack 0))) (heard : IsEntry h 9 5000 (Hears server M.content_bytes))
      (only : (i s : ℕ) (d : Deed) → IsEntry h i s d → is_heard d ≡ true → i < 9 → i ≡ 7) where
    no-repeat : (p : Peer) → IsRepeat h p 9 → ⊥
    no-repeat p (again i alike new) =
        let first = alike.heard_first in
        let d : Deed = first.done.deed in
        let place : i ≡ 7 = only i alike.moment d first.done.stands (ap is_heard_so first.done.says) alike.earlier in
        let stands : IsEntry h 7 alike.moment d = subst (λ (i : ℕ). IsEntry h i alike.moment d) place first.done.stands in
        let text = done-texts server p (empty_ack 0) first.bytes (ap done_of (deeds-same 2100 alike.moment (Hears server (empty_ack 0)) d (sym ack ∙ stands)) ∙ first.done.says) in
        let is : alike.first ≡ empty Ack 0 =
        spells_one alike.first (empty Ack 0) first.bytes first.spelled (subst (Spells (empty Ack 0)) text ack-spelled) in
        subst (λ (m : Content). MayRepeat m.kind) is alike.kinds.0

    answered : (p : Peer) (m : Content) (n : ℕ) → p ≡ server → m ≡ M.get_message → 9 < n → IsUnanswered h p 2 m n → ⊥
    answered p m n peer is less none =
        let response : IsResponse h server 2 M.get_message 9 M.content_message =
        record {
          after = lit< tt;
          moment = 5000;
          heard = record { bytes = M.content_bytes; stands = heard; spelled = content-spelled };
          response = lit≤ tt;
          token = refl;
          kind = tt;
        } in
        no-repeat p
        (none 9 M.content_message less
        (subst (λ (p : Peer). IsResponse h p 2 m 9 M.content_message) (sym peer)
        (subst (λ (m : Content). IsResponse h server 2 m 9 M.content_message) (sym is) response)))

-- where the journals heard something
abbrev twice : List Written
twice = entries L.heard_twice

twice-heard : (i s : ℕ) (d : Deed) → IsEntry twice i s d → is_heard d ≡ true → i < 9 → i ≡ 7
twice-heard i s d e is less =
    elim (or_cases (eqb i 7) _ (places is_heard twice (7 ∷ 9 ∷ 12 ∷ []) 14 i s d refl refl e is)) [
      | inl w ↦ eqb-same i 7 w
      | inr w ↦ elim (one-of i 9 12 w) [ inl v ↦ absurd (omega (arith, v, less)) | inr v ↦ absurd (omega (arith, v, less)) ]
    ]

abbrev half : List Written
half = entries L.half_answered

half-heard : (i s : ℕ) (d : Deed) → IsEntry half i s d → is_heard d ≡ true → i < 9 → i ≡ 7
half-heard i s d e is less =
    elim (one-of i 7 9 (places is_heard half (7 ∷ 9 ∷ []) 15 i s d refl refl e is)) [ inl v ↦ v | inr v ↦ absurd (omega (arith, v, less)) ]

-- the second response is no reply to the GET, nor to the PUT
second-heard : (k : ℕ) (q : CoapRequest) (block : Option Block) (m : Content) → IsHeardFor twice k q block 12 m → ⊥
second-heard k q block m h =
    elim (one-of h.sending 2 8 (places is_first twice (2 ∷ 8 ∷ []) 14 h.sending _ _ refl refl h.sent_for.first.stands refl)) [
      | inl w ↦ to-get w
      | inr w ↦ to-put w
    ]
  where
    to-get : h.sending ≡ 2 → ⊥
    to-get place =
        let f = subst (λ (i : ℕ). IsFirstSending twice i h.sent_for.moment q.peer h.sent) place h.sent_for.first in
        let it = get-sent twice refl h.sent_for.moment q.peer h.sent f in
        answered twice refl refl refl twice-heard q.peer h.sent 12 it.0 it.1 (lit< tt)
        (subst (λ (i : ℕ). IsUnanswered twice q.peer i h.sent 12) place h.first)

    to-put : h.sending ≡ 8 → ⊥
    to-put place =
        let f = subst (λ (i : ℕ). IsFirstSending twice i h.sent_for.moment q.peer h.sent) place h.sent_for.first in
        let sent = put-sent twice refl refl h.sent_for.moment q.peer h.sent f in
        let r = h.response.heard in
        let text = heard-texts 5100 h.response.moment server q.peer L.other_bytes r.bytes r.stands in
        let said = spells_one m L.other_message r.bytes r.spelled (subst (Spells L.other_message) text other-spelled) in
        let tokens : L.other_message.token ≡ M.put_message.token =
        sym (ap (λ (m : Content). m.token) said) ∙ (h.response.token ∙ ap (λ (m : Content). m.token) sent) in
        let numbers : 0 ≡ 1 = ap fourth tokens in
        absurd (omega (arith, numbers))

pub second : Second
second h = elim (h.heard) [
  | inl heard ↦ go h.messages heard
  | inr on ↦
      let own = (first-alone twice 0 h.request h.entry h.opening h.since 0 0 refl h.shared).0 in
      let begins = on.0 in
      absurd (omega (arith, own, begins))
]
  where
    go : (ms : List Content) → AreHeardFor twice h.entry h.request (first_point h.request) (12 ∷ []) ms → ⊥
    go [] heard = absurd heard
    go (m ∷ ms) heard = second-heard h.entry h.request (block_for (first_point h.request)) m heard.0

-- the one response that was heard is that of entry 9
half-response : (p : Peer) (i j : ℕ) (sent m : Content) → IsResponse half p i sent j m → m ≡ M.content_message
half-response p i j sent m r =
    elim (one-of j 7 9 (places is_heard half (7 ∷ 9 ∷ []) 15 j r.moment _ refl refl r.heard.stands refl)) [
      | inl w ↦
          let heard = subst (λ (j : ℕ). IsHeard half p j r.moment m) w r.heard in
          let text = heard-texts 2100 r.moment server p (empty_ack 0) heard.bytes heard.stands in
          let is = spells_one m (empty Ack 0) heard.bytes heard.spelled (subst (Spells (empty Ack 0)) text ack-spelled) in
          let code : m.code ≡ 0 = ap (λ (m : Content). m.code) is in
          let response = r.response in
          absurd (omega (arith, code, response))
      | inr w ↦
          let heard = subst (λ (j : ℕ). IsHeard half p j r.moment m) w r.heard in
          let text = heard-texts 5000 r.moment server p M.content_bytes heard.bytes heard.stands in
          spells_one m M.content_message heard.bytes heard.spelled (subst (Spells M.content_message) text content-spelled)
    ]

half-nine : (p : Peer) (i j : ℕ) (sent m : Content) → IsResponse half p i sent j m → j ≡ 9
half-nine p i j sent m r =
    elim (one-of j 7 9 (places is_heard half (7 ∷ 9 ∷ []) 15 j r.moment _ refl refl r.heard.stands refl)) [
      | inl w ↦
          let heard = subst (λ (j : ℕ). IsHeard half p j r.moment m) w r.heard in
          let text = heard-texts 2100 r.moment server p (empty_ack 0) heard.bytes heard.stands in
          let is = spells_one m (empty Ack 0) heard.bytes heard.spelled (subst (Spells (empty Ack 0)) text ack-spelled) in
          let code : m.code ≡ 0 = ap (λ (m : Content). m.code) is in
          let response = r.response in
          absurd (omega (arith, code, response))
      | inr w ↦ w
    ]

half-notified : (o : ℕ) (q : CoapRequest) (j : ℕ) (m : Content) → IsNotified half o q j m → ⊥
half-notified o q j m n =
    let it = n.observed.heard in
    let first = half-nine q.peer it.sending n.registered it.sent n.observed.reply it.response in
    let second = half-nine q.peer it.sending j it.sent m n.response in
    let later = n.later in
    omega (arith, first, second, later)

ended-whole : (r : Reply) → r.message ≡ M.content_message → (q : CoapRequest) → M.get_light ≡ q → (how : Ending) × (step (first_progress q) r ≡ Ends how)
ended-whole r is q asks =
    subst (λ (q : CoapRequest). (how : Ending) × (step (first_progress q) r ≡ Ends how)) asks
    (subst (λ (m : Content). (how : Ending) × (step (first_progress M.get_light) (record { number = r.number; sending = r.sending; message = m }) ≡ Ends how)) (sym is)
    (fetched_whole (record { number = r.number; sending = r.sending; message = M.content_message } ∷ []), refl))

pub unheeded : Unheeded
unheeded h =
    elim (h.names) [
      | inl w ↦
          let it = get-sent half refl w.2.moment h.request.peer w.0 w.2.first in
          answered half refl refl refl half-heard h.request.peer w.0 15 it.0 it.1 (lit< tt) w.3
      | inr (inl r) ↦ elim (r.went.heard) [
        | inl heard ↦ more-to-come r.others r.last heard r.went.going
        | inr heard ↦ none-on h.opening h.request (r.others ++ r.last ∷ []) heard
      ]
      | inr (inr w) ↦ let other = w.0 in absurd (omega (arith, other))
    ]
  where
    asks : M.get_light ≡ h.request
    asks = requests-same M.get_light h.request (sense-same 0 h.shared.moment 0 0 (ask_for M.get_light) _ h.shared.asked.stands)

    -- the first reply to the GET was all of it
    whole : (r : Reply) → IsNextReply half h.opening h.request (first_progress h.request) r
        → (how : Ending) × (step (first_progress h.request) r ≡ Ends how)
    whole r s =
        let it = (last-reply half h.opening h.request (first_progress h.request) [] r (s, tt)).2.0 in
        ended-whole r (half-response h.request.peer it.sending r.number it.sent r.message it.response) h.request asks

    none-after : (k : ℕ) (how : Ending) (others : List Reply) (last : Reply) → AreRepliesTo half k h.request (Ends how) (others ++ last ∷ []) → ⊥
    none-after k how [] last heard = heard.0
    none-after k how (r ∷ others) last heard = heard.0

    none-on : (o : ℕ) (q : CoapRequest) (rs : List Reply) → AreRepliesOn half o q rs → ⊥
    none-on o q [] heard = heard
    none-on o q (r ∷ rs) heard = half-notified o heard.0.0 r.number r.message heard.0.2

    more-to-come : (others : List Reply) (last : Reply) → AreRepliesTo half h.opening h.request (first_progress h.request) (others ++ last ∷ [])
        → ended_by true (progress h.request (others ++ last ∷ [])) ≡ None → ⊥
    more-to-come [] last heard going =
        let it = whole last heard.0 in
        none-some it.0 (sym going ∙ ap (ended_by true) it.1)
    more-to-come (r ∷ others) last heard going =
        let it = whole r heard.0 in
        none-after r.number it.0 others last (subst (λ (u : Progress). AreRepliesTo half r.number h.request u (others ++ last ∷ [])) it.1 heard.1)

-- the RST isn't to the PUT, and the GET was acknowledged
abbrev after : List Written
after = entries L.rejected_after

pub unrejected : Unrejected
unrejected h =
    elim (one-of h.sending 2 8 (places is_first after (2 ∷ 8 ∷ []) 10 h.sending _ _ refl refl h.sent_for.first.stands refl)) [
      | inl w ↦ to-get w
      | inr w ↦ to-put w
    ]
  where
    to-get : h.sending ≡ 2 → ⊥
    to-get place =
        let f = subst (λ (i : ℕ). IsFirstSending after i h.sent_for.moment h.request.peer h.sent) place h.sent_for.first in
        let it = get-sent after refl h.sent_for.moment h.request.peer h.sent f in
        let heard : IsHeard after server 7 2100 (empty Ack 0) = record { bytes = empty_ack 0; stands = refl; spelled = ack-spelled } in
        h.unsettled.unconfirmed 7 2100 (subst (λ (i : ℕ). i < 7) (sym place) (lit< tt)) (lit< tt)
        (subst (λ (p : Peer). IsHeard after p 7 2100 (empty Ack h.sent.mid)) (sym it.0)
        (subst (λ (n : ℕ). IsHeard after server 7 2100 (empty Ack n)) (sym (ap (λ (m : Content). m.mid) it.1)) heard))

    to-put : h.sending ≡ 8 → ⊥
    to-put place =
        let f = subst (λ (i : ℕ). IsFirstSending after i h.sent_for.moment h.request.peer h.sent) place h.sent_for.first in
        let sent = put-sent after refl refl h.sent_for.moment h.request.peer h.sent f in
        let text = heard-texts 2200 h.reset server h.request.peer (empty_rst 0) h.heard.bytes h.heard.stands in
        let is = spells_one (empty Rst h.sent.mid) (empty Rst 0) h.heard.bytes h.heard.spelled (subst (Spells (empty Rst 0)) text rst-0-spelled) in
        let numbers : 1 ≡ 0 = sym (ap (λ (m : Content). m.mid) sent) ∙ ap (λ (m : Content). m.mid) is in
        absurd (omega (arith, numbers))

pub abandoned : Abandoned
abandoned q h =
    let young : 93500 < h.moment + MAX_TRANSMIT_WAIT = h.in_time 5 93500 (lit< tt) (lit< tt) refl in
    let asked : 0 ≡ h.moment = moment-same 0 h.moment _ _ h.asked.stands in
    absurd (omega (arith, young, asked))

pub late : Late
late h =
    let young : 93500 < h.since + MAX_TRANSMIT_WAIT = h.in_time 5 93500 (lit< tt) (lit< tt) refl in
    let asked : 0 ≡ h.shared.moment = moment-same 0 h.shared.moment _ _ h.shared.asked.stands in
    let alone = (first-alone (entries heard_late) 0 h.request h.entry h.opening h.since 0 0 refl h.shared).2 in
    absurd (omega (arith, young, asked, alone))
