-- Within a step: the next message of an endpoint goes out, an ACK or RST is given.
use Rattle.std.proofs.Common.{◌≡◌, ℕ, ◌+◌, ◌*◌, ◌/◌, ◌%◌, ◌<◌, ◌≤◌, Bool, true, false, cond, inl, inr, List, [], ◌∷◌, length, map, Option, Some, None, refl, sym, ap, subst, ◌∙◌, arith, length-append}
use Rattle.std.specs.Prelude.{count_by}
use Rattle.std.specs.List.{AllByRecursion}
use Rattle.std.proofs.lemmas.List.Sums.{count_by-le-length}
use Rattle.std.proofs.lemmas.Bool.{false≢true}
use Rattle.uri_map.proofs.CallerLemmas.{same_peer-itself}
use Rattle.std.proofs.lemmas.Bool.Decides.{eqb_tells}
use Rattle.limits.specs.declared.TheConstants.{MAX_MESSAGE_IDS, MAX_TRANSMIT_WAIT}
use Rattle.coap_codec.specs.Spelling.{Content, Spells, code_of}
use Rattle.coap_codec.specs.declared.message.MsgType.{MsgType}
use Rattle.coap_codec.specs.declared.message.MsgType.TheVariants.{Ack, Rst}
use Rattle.uri_map.specs.declared.peer.Peer.{Peer}
use Rattle.uri_map.specs.Peers.{same_peer}
use Rattle.journal_book.specs.Entries.{Sends}
use Rattle.history_laws.specs.Confirmations.{empty}
use Rattle.message_layer.specs.Values.{LinkState}
use Rattle.message_layer.specs.Mids.{is_in_use}
use Rattle.message_layer.specs.Hearing.{replies}
use Rattle.message_layer.specs.Sending.{due_of, first_sent, with_outstanding}
use Rattle.message_layer.specs.declared.state.Outstanding.{Outstanding}
use Rattle.message_layer.specs.declared.state.Reply.{Reply}
use Rattle.message_layer.specs.declared.state.Reply.TheVariants as R
use Rattle.message_layer.specs.declared.state.Waiting.{Waiting}
use Rattle.history_laws.specs.Readings.{Noted, Confirms, ticked, noted}
use Rattle.history_laws.specs.Transmissions.{mids_used}
use Rattle.history_laws.specs.Exchanges.{End, end_of, is_waiting}
use Rattle.history_laws.specs.Confirming.{owed}
use Rattle.history_laws.specs.Justified.{MayConfirm}
use Rattle.history_laws.proofs.CallerLemmas.{all-more, at-keeps, first-waits, some-is, ticked-newest, waiting-goes}
use Rattle.history_links.specs.Agrees.{due}
use Rattle.history_links.proofs.CallerLemmas.{ends-sent, sent}
use Rattle.exchange_model.specs.declared.kept.Exchange.{Exchange}
use Rattle.exchange_model.specs.State.{State, link_of}
use Rattle.exchange_model.specs.Steps.{given_out, is_under, went_out, confirms}
use Rattle.exchange_model.specs.Resting.{IsUndue, LinkRests, HasExchange}
use Rattle.exchange_model.specs.Keeping.{HasMids}
use Rattle.exchange_model.specs.Laws.{Before}
use Rattle.exchange_model.specs.Calls.{next_by, next, given_back}
use Rattle.exchange_model.proofs.Firsts.{first-leads}
use Rattle.exchange_model.proofs.Grounds.{GoesOn, same-goes}
use Rattle.exchange_model.proofs.Lists.{all-map}
use Rattle.exchange_model.proofs.Quiet.{confirms-leads}
use Rattle.exchange_model.proofs.Silent.{now-from, later-than}
use Rattle.exchange_model.proofs.Tables.{all-links, link-other}

pub record Amid (l : List Noted) (t : ℕ) (S : State) : Type 0 where
  pub before : Before l t S
  pub unsealed : S.sealed ≡ false
  pub mids : (p : Peer) → HasMids (link_of S.links p)
  pub in_time : AllByRecursion (λ (e : Exchange). ticked l < e.since + MAX_TRANSMIT_WAIT) S.exchanges

abbrev pub RestAt : List Noted → State → Peer → Type 0
RestAt l S p = LinkRests (ticked l) (link_of S.links p)

-- what is outstanding wasn't due at the last tick
abbrev pub IsEarly : List Noted → State → Peer → Type 0
IsEarly l S p = (o : Outstanding) → (link_of S.links p).outstanding ≡ Some o → ticked l < due_of o

-- what a part of a step leaves, that concerns one endpoint
pub record Moved (l : List Noted) (t : ℕ) (p : Peer) (S : State) (n : List Noted) (S1 : State) : Type 0 where
  pub goes : GoesOn l n
  pub amid : Amid n t S1
  pub quiet : owed n ≡ None
  pub others : (q : Peer) → same_peer p q ≡ false → link_of S1.links q ≡ link_of S.links q
  pub conns : S1.conns ≡ S.conns
  pub readers : S1.readers ≡ S.readers
  pub has : (k : ℕ) → HasExchange S.exchanges k → HasExchange S1.exchanges k

pub rest-by : (tick : ℕ) (s : LinkState) (v : Option Outstanding) (ws : List Waiting) → s.outstanding ≡ v → s.waiting ≡ ws → IsUndue tick v ws → LinkRests tick s
rest-by tick s v ws e f h = rw (e, f) h

-- the first sending of an exchange that waits

first-goes : (l : List Noted) (t : ℕ) (p : Peer) (b : List ℕ) (w : Option ℕ) (o : ℕ) (m : Content) → is_waiting l p o ≡ true → GoesOn l (sent t p b w o m ∷ l)
first-goes l t p b w o m waits = record {
  ends = λ q e h. ends-sent l t p b w o m q ∙ h;
  sent = λ q e h. elim (eqb_tells o q) [
    | inl v ↦ absurd (some-none e (sym (subst (λ (k : ℕ). end_of l k ≡ Some e) (sym v.1) h) ∙ waiting-goes l p o waits))
    | inr v ↦ rw (v.0) refl
  ];
  stands = λ i x h. at-keeps (sent t p b w o m) l i x h;
  tick = refl;
}
  where
    some-none : (e : End) → Some e ≡ None → ⊥
    some-none e h = cc

has-sent : (token : List ℕ) (i : ℕ) (es : List Exchange) (k : ℕ) → HasExchange es k → HasExchange (map (went_out token i) es) k
has-sent token i [] k h = h
has-sent token i (e ∷ es) k (inl h) = inl (by (is_under token e))
  where
    by : (b : Bool) → (cond b (record e { sending = Some i; awaits = true }) e).opening ≡ k
    by true = h
    by false = h
has-sent token i (e ∷ es) k (inr h) = inr (has-sent token i es k h)

since-sent : (tick : ℕ) (token : List ℕ) (i : ℕ) (e : Exchange) → tick < e.since + MAX_TRANSMIT_WAIT → tick < (went_out token i e).since + MAX_TRANSMIT_WAIT
since-sent tick token i e h = by (is_under token e)
  where
    by : (b : Bool) → tick < (cond b (record e { sending = Some i; awaits = true }) e).since + MAX_TRANSMIT_WAIT
    by true = h
    by false = h

pub tick-before : (l : List Noted) (t : ℕ) (S : State) → Before l t S → ticked l ≤ t
tick-before l t S b = let tick = ticked-newest l b.reads.legal in let later = later-than l t S b in omega (arith, tick, later)

few-used : (l : List Noted) (t : ℕ) (p : Peer) (S : State) (w : Waiting) (ws : List Waiting) → Amid l t S → (link_of S.links p).waiting ≡ w ∷ ws → mids_used l t p < MAX_MESSAGE_IDS
few-used l t p S w ws a e =
    let s = link_of S.links p in
    let same : count_by (is_in_use t) s.given ≡ mids_used l t p = (a.before.reads.links_are p).given t (now-from l t S a.before) in
    let most = count_by-le-length (is_in_use t) s.given in
    let enough = (a.mids p).enough in
    let size : length s.waiting ≡ length (w ∷ ws) = ap length e in
    omega (arith, same, most, enough, size)

pub next-moves : (l : List Noted) (t : ℕ) (p : Peer) (S : State) → Amid l t S → owed l ≡ None → IsEarly l S p
    → (n : List Noted) × Moved l t p S n (next t p S) × RestAt n (next t p S) p
next-moves l t p S a quiet early = by (link_of S.links p).outstanding (link_of S.links p).waiting refl refl
  where
    stays : Moved l t p S l S
    stays = record { goes = same-goes l; amid = a; quiet = quiet; others = λ q away. refl; conns = refl; readers = refl; has = λ k h. h }

    by : (v : Option Outstanding) (ws : List Waiting) → (link_of S.links p).outstanding ≡ v → (link_of S.links p).waiting ≡ ws
        → (n : List Noted) × Moved l t p S n (next_by t p v ws S) × RestAt n (next_by t p v ws S) p
    by None [] free none = (l, stays, rest-by (ticked l) (link_of S.links p) None [] free none refl)
    by (Some o) ws out waiting = (l, stays, rest-by (ticked l) (link_of S.links p) (Some o) ws out waiting (early o out))
    by None (w ∷ ws) free is =
        let b = a.before in
        let small = subst (AllByRecursion (λ (w : Waiting). w.first_mid < 65536)) is (a.mids p).small in
        let made = first-leads l t p w ws S b (record { unsealed = b.reads.sealed_is ∙ a.unsealed; quiet = quiet }) small.0 (few-used l t p S w ws a is) free is in
        let v = first_sent t (link_of S.links p).last_mid w in
        let s = given_out (with_outstanding (link_of S.links p) ws v) in
        let x = sent t p v.datagram (Some v.timeout) made.0 made.1 in
        let may = made.2.follows.1.1 in
        let due_later : ticked l < due_of v =
        let tick = tick-before l t S b in let least = may.least in let wait = some-is v.timeout may.wait may.first_wait in omega (arith, tick, least, wait) in (
          x ∷ l,
          record {
            goes = first-goes l t p v.datagram (Some v.timeout) made.0 made.1 (first-waits l t made.0 p v.datagram made.1 (Some v.timeout) may);
            amid = record {
              before = record { reads = made.2.reads; later = omega arith };
              unsealed = a.unsealed;
              mids = all-links (λ (q : Peer) (u : LinkState). HasMids u) p s S.links
                  (record {
                    small = small.1;
                    enough = let enough = (a.mids p).enough in let size : length (link_of S.links p).waiting ≡ length (w ∷ ws) = ap length is in let more = length-append (link_of S.links p).given (t ∷ []) in omega (arith, enough, size, more);
                  })
                  (λ q away. a.mids q);
              in_time = all-map (went_out w.token (length S.entries)) (λ (e : Exchange). ticked l < e.since + MAX_TRANSMIT_WAIT) S.exchanges
                  (all-more _ _ (λ e h. since-sent (ticked l) w.token (length S.entries) e h) S.exchanges a.in_time);
            };
            quiet = refl;
            others = λ q away. link-other p q s away S.links;
            conns = refl;
            readers = refl;
            has = λ k h. has-sent w.token (length S.entries) S.exchanges k h;
          },
          all-links (λ (q : Peer) (u : LinkState). q ≡ p → LinkRests (ticked l) u) p s S.links (λ same. due_later) (λ q away same. absurd (apart q away same)) p refl,
        )
      where
        apart : (q : Peer) → same_peer p q ≡ false → q ≡ p → ⊥
        apart q away same = false≢true (sym (subst (λ (r : Peer). same_peer p r ≡ false) same away) ∙ same_peer-itself p)

-- ACKs and RSTs

confirmed : (l : List Noted) (t : ℕ) (p : Peer) (S : State) (mid : ℕ) (kind : MsgType) (bytes : List ℕ) → Amid l t S → owed l ≡ Some (record { peer = p; kind = kind; mid = mid })
    → Spells (empty kind mid) bytes → (n : List Noted) × Moved l t p S n (confirms t p bytes S) × (link_of S.links p ≡ link_of S.links p)
confirmed l t p S mid kind bytes a is spelled =
    let may : MayConfirm l p bytes = record { confirmation = record { peer = p; kind = kind; mid = mid }; is_owed = is; peer = refl; spelled = spelled } in
    let made = confirms-leads l t p bytes S a.before a.unsealed may in
    let x = noted t (Sends p bytes None) Confirms in (
      x ∷ l,
      record {
        goes = record { ends = λ o e h. h; sent = λ o e h. refl; stands = λ i y h. at-keeps x l i y h; tick = refl };
        amid = record { before = record { reads = made.reads; later = omega arith }; unsealed = a.unsealed; mids = a.mids; in_time = a.in_time };
        quiet = refl;
        others = λ q away. refl;
        conns = refl;
        readers = refl;
        has = λ k h. h;
      },
      refl,
    )

spelled-empty : (kind : MsgType) (mid : ℕ) (first : ℕ) → first ≡ 64 + 16 * code_of kind → Spells (empty kind mid) (first ∷ 0 ∷ (mid / 256) ∷ (mid % 256) ∷ [])
spelled-empty kind mid first is = record {
  options = [];
  payload = [];
  mid_high = mid / 256;
  mid_low = mid % 256;
  short_token = omega arith;
  mid = omega arith;
  mid_low_is_byte = omega arith;
  options_are = refl;
  payload_is = refl;
  nothing_else = λ e. (refl, refl, refl);
  whole = ap (λ (k : ℕ). k ∷ 0 ∷ (mid / 256) ∷ (mid % 256) ∷ []) (omega (arith, is));
}

-- the ACK or RST that a link gives is the one that is owed
pub given-moves : (l : List Noted) (t : ℕ) (p : Peer) (S : State) (mid : ℕ) (r : Reply) → Amid l t S → owed l ≡ due p mid r
    → (n : List Noted) × Moved l t p S n (given_back t p (replies mid r) S) × (link_of (given_back t p (replies mid r) S).links p ≡ link_of S.links p)
given-moves l t p S mid R.Nothing a is = (l, record { goes = same-goes l; amid = a; quiet = is; others = λ q away. refl; conns = refl; readers = refl; has = λ k h. h }, refl)
given-moves l t p S mid R.Ack a is = confirmed l t p S mid Ack _ a is (spelled-empty Ack mid 96 refl)
given-moves l t p S mid R.Rst a is = confirmed l t p S mid Rst _ a is (spelled-empty Rst mid 112 refl)
