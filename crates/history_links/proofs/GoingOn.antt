-- A message by which an exchange goes on: the next message of that waits last.
use Rattle.std.proofs.Common.{◌≡◌, ◌⊎◌, inl, inr, ℕ, zero, ◌+◌, ◌≤◌, ◌<◌, Bool, true, false, cond, eqb, leb, List, [], ◌∷◌, ◌++◌, length, Option, Some, None, refl, sym, ap, subst, ◌∙◌, arith}
use Rattle.std.specs.Prelude.{◌&&◌, filter, is_some, is_none}
use Rattle.std.specs.List.{Contains, list_any}
use Rattle.std.proofs.lemmas.Bool.{false≢true, and_from}
use Rattle.coap_codec.specs.Spelling.{Content}
use Rattle.uri_map.specs.declared.peer.Peer.{Peer}
use Rattle.uri_map.specs.Peers.{same_peer}
use Rattle.message_layer.specs.Values.{LinkState}
use Rattle.message_layer.specs.Sending.{waits, queued}
use Rattle.message_layer.specs.Hearing.{verdict_of}
use Rattle.message_layer.specs.declared.state.Waiting.{Waiting}
use Rattle.uri_map.proofs.CallerLemmas.{same_peer-itself}
use Rattle.journal_book.specs.Entries.{Hears}
use Rattle.ask_model.specs.Requests.{CoapRequest}
use Rattle.history_laws.specs.Readings.{Noted, Notice, Observation, Unobserved, Registers, Updates, Outdates, Starts, Cancels, Says, before, noted}
use Rattle.history_laws.specs.Transmissions.{FirstSending, first_at}
use Rattle.history_laws.specs.Exchanges.{Begun, begun_by, begun, started_by, Turn, waits_by, openings, is_going, is_waiting, is_submitted_at, is_issued_at, issued, issued_by, submitted, rank, waits_for, waiting, goes_to}
use Rattle.history_laws.specs.Hearing.{answers, notice_of, observation_of}
use Rattle.history_laws.specs.Justified.{Legal}
use Rattle.history_laws.proofs.CallerLemmas.{and-left, and-right, before-new, begun-keeps, begun-listed, contains-filter, contains-none, eqb-same, filtered-from, first-is, first-or-later, found, Found, IsOneAtMost, listed-begun, NotRst, one-at-most, openings-rising, rising-filter, sent-for, some-is, submits-by, submitted-once, turn-replied, waiting-all, waits-first, eqb-itself, none-some, not-yet, said-either, starts-peer, unbegun}
use Rattle.history_links.specs.Agrees.{WaitIn}
use Rattle.history_links.specs.Steps.{GoesOnAgrees, heard, heard_link}
use Rattle.history_links.proofs.Queueing.{pruned-count, wait-push}
use Rattle.history_links.proofs.Replying.{queue-after, waits-after}
use Rattle.history_links.proofs.Saying.{said-so}
use Rattle.history_links.proofs.Still.{waits-all}

-- Of a list that rises, what passes a test that one member alone passes is that one.
only-one : (q : ℕ → Bool) (n : List Noted) (o : ℕ) → Contains (openings n) o → q o ≡ true
    → ((a : ℕ) → Contains (openings n) a → q a ≡ true → a ≡ o) → filter q (openings n) ≡ o ∷ []
only-one q n o has is only =
    by (one-at-most (filter q (openings n)) (rising-filter q (openings n) (openings-rising n))
    (λ a b g h. let f = filtered-from q (openings n) a g in let k = filtered-from q (openings n) b h in only a f.0 f.1 ∙ sym (only b k.0 k.1)))
  where
    mine : Contains (filter q (openings n)) o
    mine = contains-filter q (openings n) o has is

    by : IsOneAtMost (filter q (openings n)) → filter q (openings n) ≡ o ∷ []
    by (inl none) = absurd (contains-none o (subst (λ (v : List ℕ). Contains v o) none mine))
    by (inr one) =
        one.1 ∙ ap (λ (k : ℕ). k ∷ []) (elim (first-or-later one.0 [] o (subst (λ (v : List ℕ). Contains v o) one.1 mine)) [
          | inl w ↦ w
          | inr w ↦ absurd (contains-none o w)
        ])

-- Which exchange goes on: its peer is the one that was heard, it awaits no reply any more, and its message is the one
-- that is submitted.
pub record Onward (l : List Noted) (t : ℕ) (p : Peer) (d : List ℕ) (m : Content) (o : ℕ) (b : Begun) : Type 0 where
  pub here : submitted (heard l t p d m ∷ l) o ≡ length l
  pub peer : b.request.peer ≡ p
  pub unsent : waits_for (heard l t p d m ∷ l) o ≡ None

-- What is opened by what is heard is fetched of whom that came from.
began-peer : (l : List Noted) (t : ℕ) (p : Peer) (d : List ℕ) (m : Content) (o : ℕ) (b : Begun) → Legal l → o ≡ length l → begun (heard l t p d m ∷ l) o ≡ Some b
    → b.request.peer ≡ p
began-peer l t p d m o b legal here begins = by (answers l p m) refl (started (observation_of l t m (answers l p m)) refl)
  where
    opened : (q : Option CoapRequest) → begun_by q true t (begun l (length l)) ≡ Some b → q ≡ Some b.request
    opened None e = absurd (none-some b (sym (not-yet l) ∙ e))
    opened (Some q) e = ap (λ (c : Begun). Some c.request) (some-is _ _ e)

    starts : started_by (observation_of l t m (answers l p m)) ≡ Some b.request
    starts =
        opened (started_by (observation_of l t m (answers l p m)))
        (subst (λ (v : Bool). begun_by (started_by (observation_of l t m (answers l p m))) v t (begun l (length l)) ≡ Some b) (eqb-itself (length l))
        (subst (λ (k : ℕ). begun (heard l t p d m ∷ l) k ≡ Some b) here begins))

    started : (v : Observation) → observation_of l t m (answers l p m) ≡ v → (k : ℕ) × (observation_of l t m (answers l p m) ≡ Starts k b.request)
    started (Starts k q) e = (k, e ∙ ap (Starts k) (some-is q b.request (sym (ap started_by e) ∙ starts)))
    started Unobserved e = absurd (none-some _ (sym (ap started_by e) ∙ starts))
    started Registers e = absurd (none-some _ (sym (ap started_by e) ∙ starts))
    started Updates e = absurd (none-some _ (sym (ap started_by e) ∙ starts))
    started Outdates e = absurd (none-some _ (sym (ap started_by e) ∙ starts))
    started Cancels e = absurd (none-some _ (sym (ap started_by e) ∙ starts))

    never : (k : ℕ) → Unobserved ≡ Starts k b.request → ⊥
    never k e = cc

    by : (to : Option ℕ) → answers l p m ≡ to → (k : ℕ) × (observation_of l t m (answers l p m) ≡ Starts k b.request) → b.request.peer ≡ p
    by None e s = absurd (never s.0 (sym (ap (observation_of l t m) e) ∙ s.1))
    by (Some i) e s = starts-peer l t p m i s.0 b.request legal e (sym (ap (observation_of l t m) e) ∙ s.1)

pub onward : (l : List Noted) (t : ℕ) (p : Peer) (d : List ℕ) (m : Content) (o : ℕ) (b : Begun) → Legal l → begun (heard l t p d m ∷ l) o ≡ Some b
    → is_issued_at (heard l t p d m ∷ l) (length l) o ≡ true → Onward l t p d m o b
onward l t p d m o b legal begins e =
    let x = heard l t p d m in
    let here = eqb-same (submitted (x ∷ l) o) (length l) (and-left _ (is_going (x ∷ l) o) e) in
    elim (submits-by x l o here) [
      | inl opened ↦
          let none = unbegun l (length l) legal (not-yet l) in
          record {
            here = here;
            peer = began-peer l t p d m o b legal opened begins;
            unsent = subst (λ (k : ℕ). waits_for (x ∷ l) k ≡ None) (sym opened) (waits-after l t p d m (answers l p m) (notice_of l t p m (answers l p m)) (length l) ∙ rw (none.0) refl);
          }
      | inr it ↦
          let turned = turn-replied l o x it.0 it.1 it.2 it.3 in
          let said = said-so-to l t p d m it.0 it.1 turned.peer turned.bytes turned.notice turned.entry in
          let response = subst (λ (n : Content). leb 32 n.code ≡ true) (sym said.1) turned.response in
          let kind = subst (λ (n : Content). NotRst n.kind) (sym said.1) turned.kind in
          let f = found l p m it.0 response kind said.0 in
          let sent = waits-first l o it.0 turned.waited in
          let asks = sent-for l sent.0 o it.0 sent.1 sent.2 legal sent.3 in
          let same : asks.exchange ≡ b = some-is _ _ (sym (begun-keeps x l o asks.exchange asks.opened) ∙ begins) in
          let own = first-is l sent.0 o it.0 sent.1 sent.2 f.first sent.3 f.is in
          record {
            here = here;
            peer = sym (asks.peer ∙ ap (λ (v : Begun). v.request.peer) same) ∙ (sym (ap (λ (v : FirstSending). v.peer) own) ∙ f.peer);
            unsent = ap (λ (u : Turn). waits_by u (waits_for l o)) it.3;
          }
    ]
  where
    said-so-to : (l : List Noted) (t : ℕ) (p : Peer) (d : List ℕ) (m : Content) (i : ℕ) (n : Content) (r : Peer) (b : List ℕ) (v : Notice)
        → heard l t p d m ≡ noted (heard l t p d m).written.moment (Hears r b) (Says n (Some i) v) → (answers l p m ≡ Some i) × (m ≡ n)
    said-so-to l t p d m i n r b v e = both (ap (λ (x : Noted). x.note) e)
      where
        both : Says m (answers l p m) (notice_of l t p m (answers l p m)) ≡ Says n (Some i) v → (answers l p m ≡ Some i) × (m ≡ n)
        both f = (cc, cc)

-- It waits last at its peer.
pub goes-last : (l : List Noted) (t : ℕ) (p : Peer) (d : List ℕ) (m : Content) (o : ℕ) (b : Begun) → begun (heard l t p d m ∷ l) o ≡ Some b
    → is_issued_at (heard l t p d m ∷ l) (length l) o ≡ true → Onward l t p d m o b
    → filter (is_submitted_at (heard l t p d m ∷ l) p (length l)) (openings (heard l t p d m ∷ l)) ≡ o ∷ []
goes-last l t p d m o b begins e h =
    only-one (is_submitted_at n p (length l)) n o (begun-listed n o (ap is_some begins))
    (and_from _ _ (and-left _ (is_going n o) e) waits)
    (λ a has is.
    submitted-once x l a o (said-either l t p d m (answers l p m) (notice_of l t p m (answers l p m)) refl) (listed-begun n a has) (ap is_some begins)
    (eqb-same (submitted n a) (length l) (and-left _ (is_waiting n p a) is)) h.here)
  where
    x : Noted
    x = heard l t p d m

    n : List Noted
    n = x ∷ l

    goes : goes_to p (begun n o) ≡ true
    goes = rw (begins, h.peer) (same_peer-itself p)

    waits : is_waiting n p o ≡ true
    waits = and_from _ _ goes (and_from _ _ (and-right (eqb (submitted n o) (length l)) _ e) (ap is_none h.unsent))

pub goes-on-agrees : GoesOnAgrees
goes-on-agrees start l t p s d m o token text word gone b none room forgets resets g =
    let to = answers l p m in
    let u = notice_of l t p m to in
    let x = heard l t p d m in
    let n = x ∷ l in
    let so = said-so start l t p s d m gone b none room forgets resets in
    let h = onward l t p d m o _ b.legal g.opening g.is in
    let order : waiting n p ≡ waiting l p ++ o ∷ [] =
    queue-after l t p p d m to u ∙ ap (λ (v : List ℕ). waiting l p ++ v) (goes-last l t p d m o _ g.opening g.is h) in
    let w = waits token text word in
    let link = heard_link t m.mid m.token gone (verdict_of t s m) s in
    record {
      owes = so.owes;
      agrees = record {
        turn = so.but.turn;
        known = so.but.known;
        last = so.but.last;
        count_up = so.but.count_up;
        given = λ v after. pruned-count t v (length link.waiting) link.given after.1 ∙ so.but.given v after;
        waits = subst (λ (os : List ℕ). WaitIn start n os (s.waiting ++ w ∷ [])) (sym order)
            (wait-push start n (waiting l p) s.waiting o w (waits-all start x l p refl (waiting l p) s.waiting (waiting-all l p) b.agrees.waits) record {
              since = g.since;
              request = g.request;
              opening = g.opening;
              message = g.message;
              next = g.next;
              spelled = g.spelled;
              token_size = g.token_size;
              token_apart = g.token_apart;
              numbered = g.numbered ∙ sym (ap (λ (k : List Noted). start.issued + issued k) ((ap (before n) h.here ∙ before-new x l)));
              least = omega arith;
              greatest = omega arith;
            });
        awaits = so.but.awaits;
        acks = so.but.acks;
        heard = so.but.heard;
      };
    }
