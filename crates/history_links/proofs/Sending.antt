-- The message that waits first may follow, where nothing is outstanding.
use Rattle.std.proofs.Common.{◌≡◌, ℕ, ◌<◌, ◌+◌, ◌%◌, true, List, [], ◌∷◌, Option, Some, None, refl, sym, ap, subst, ◌∙◌, arith, Bool, false}
use Rattle.std.specs.List.{AllByRecursion}
use Rattle.limits.specs.declared.TheConstants.{MAX_MESSAGE_IDS}
use Rattle.coap_codec.specs.Spelling.{Content, Spells}
use Rattle.uri_map.specs.declared.peer.Peer.{Peer}
use Rattle.uri_map.specs.Peers.{same_peer}
use Rattle.ask_model.specs.Requests.{CoapRequest, request_message, block_message, asking, observe_message, validate_message, Manner, Plainly, Observing, Validating}
use Rattle.uri_map.proofs.CallerLemmas.{same_peer-same}
use Rattle.message_layer.specs.Values.{LinkState}
use Rattle.message_layer.specs.Sending.{next_mid, first_sent}
use Rattle.message_layer.specs.declared.state.Waiting.{Waiting}
use Rattle.message_layer.proofs.Sendings.{sent-spells}
use Rattle.history_laws.specs.Readings.{Noted}
use Rattle.coap_codec.specs.declared.block.Block.{Block}
use Rattle.blockwise.specs.Uploads.{next_block}
use Rattle.history_laws.specs.Progress.{Progress, Ends, progress, next_message, Fetches, Gives, block_after}
use Rattle.history_laws.specs.Transmissions.{mids_used}
use Rattle.history_laws.specs.Exchanges.{Begun, begun, heard_for, goes_to, is_waiting, waiting}
use Rattle.history_laws.specs.Observing.{manner}
use Rattle.history_laws.specs.Justified.{Legal, MayBeFirst}
use Rattle.history_links.specs.Agrees.{Start, IsFrom, TurnIn, IsWaitingFor, WaitIn, Agrees}
use Rattle.history_laws.proofs.CallerLemmas.{and-left, none-some, some-is, waiting-all}
use Rattle.history_links.proofs.Mids.{has-next, mid-apart}

-- the first that waits

pub record Head (start : Start) (l : List Noted) (os : List ℕ) (w : Waiting) (ws : List Waiting) : Type 0 where
  pub opening : ℕ
  pub others : List ℕ
  pub is : os ≡ opening ∷ others
  pub waits : IsWaitingFor start l opening w
  pub more : WaitIn start l others ws

head-of : (start : Start) (l : List Noted) (os : List ℕ) (w : Waiting) (ws : List Waiting) → WaitIn start l os (w ∷ ws) → Head start l os w ws
head-of start l [] w ws a = absurd a
head-of start l (o ∷ os) w ws a = record { opening = o; others = os; is = refl; waits = a.0; more = a.1 }

pub head : {start : Start} (l : List Noted) (p : Peer) (s : LinkState) (w : Waiting) (ws : List Waiting) → Agrees start l p s → s.waiting ≡ w ∷ ws → Head start l (waiting l p) w ws
head {start = start} l p s w ws a e = head-of start l (waiting l p) w ws (subst (WaitIn start l (waiting l p)) e a.waits)

pub head-waits : {start : Start} (l : List Noted) (p : Peer) (w : Waiting) (ws : List Waiting) (h : Head start l (waiting l p) w ws) → is_waiting l p h.opening ≡ true
head-waits l p w ws h =
    let all : AllByRecursion (λ (q : ℕ). is_waiting l p q ≡ true) (h.opening ∷ h.others) =
    subst (λ (v : List ℕ). AllByRecursion (λ (q : ℕ). is_waiting l p q ≡ true) v) h.is (waiting-all l p) in
    all.0

-- its ID is the next one

pub next-of : (last : Option ℕ) (first m : ℕ) → last ≡ Some m → next_mid last first ≡ (m + 1) % 65536
next-of last first m e = ap (λ (v : Option ℕ). next_mid v first) e

pub next-small : (last : Option ℕ) (first : ℕ) → first < 65536 → next_mid last first < 65536
next-small None first h = h
next-small (Some m) first h = omega arith

-- the message that is sent: that which waits, with its ID
abbrev pub message-of : {start : Start} (l : List Noted) (o : ℕ) (w : Waiting) (a : IsWaitingFor start l o w) (last : Option ℕ) → Content
message-of l o w a last = record a.message { mid = next_mid last w.first_mid; token = w.token }

block-under : (q : CoapRequest) (block : Option Block) (token : List ℕ) (mid : ℕ) (m : Content) → Some (block_message q block 0 token) ≡ Some m
    → Some (block_message q block mid token) ≡ Some (record m { mid = mid; token = token })
block-under q None token mid m e = ap (λ (n : Content). Some (record n { mid = mid; token = token })) (some-is (request_message q 0 token) m e)
block-under q (Some b) token mid m e =
    ap (λ (n : Content). Some (record n { mid = mid; token = token })) (some-is (block_message q (Some b) 0 token) m e)

asking-under : (f : Manner) (q : CoapRequest) (block : Option Block) (token : List ℕ) (mid : ℕ) (m : Content) → Some (asking f q block 0 token) ≡ Some m
    → Some (asking f q block mid token) ≡ Some (record m { mid = mid; token = token })
asking-under Observing q None token mid m e = ap (λ (n : Content). Some (record n { mid = mid; token = token })) (some-is (observe_message q 0 token) m e)
asking-under Plainly q None token mid m e = ap (λ (n : Content). Some (record n { mid = mid; token = token })) (some-is (request_message q 0 token) m e)
asking-under (Validating etag) q None token mid m e = ap (λ (n : Content). Some (record n { mid = mid; token = token })) (some-is (validate_message etag q 0 token) m e)
asking-under f q (Some b) token mid m e = block-under q (Some b) token mid m e

next-under : (f : Manner) (q : CoapRequest) (pr : Progress) (token : List ℕ) (mid : ℕ) (m : Content) → next_message f q pr 0 token ≡ Some m
    → next_message f q pr mid token ≡ Some (record m { mid = mid; token = token })
next-under f q (Fetches restarts pieces got) token mid m e = asking-under f q (block_after pieces) token mid m e
next-under f q (Gives upload got) token mid m e = block-under q (next_block upload) token mid m e
next-under f q (Ends how) token mid m e = absurd (none-some m e)

pub may-be-first : {start : Start} (l : List Noted) (t : ℕ) (p : Peer) (s : LinkState) (w : Waiting) (ws : List Waiting) (h : Head start l (waiting l p) w ws) → Legal l
    → IsFrom start l t → Agrees start l p s → mids_used l t p < MAX_MESSAGE_IDS → s.outstanding ≡ None
    → MayBeFirst l t h.opening p (first_sent t s.last_mid w).datagram (message-of l h.opening w h.waits s.last_mid) (Some (first_sent t s.last_mid w).timeout)
may-be-first l t p s w ws h legal from a few free =
    let waits = head-waits l p w ws h in
    let goes : goes_to p (begun l h.opening) ≡ true = and-left (goes_to p (begun l h.opening)) _ waits in
    let peer : same_peer h.waits.request.peer p ≡ true = subst (λ (v : Option Begun). goes_to p v ≡ true) h.waits.opening goes in
    let mid = next_mid s.last_mid w.first_mid in
    let progressed = progress h.waits.request (heard_for l h.opening) in
    let waiting_one : Content = record h.waits.message { token = w.token } in
    let same : h.waits.message ≡ record waiting_one { mid = 0 } = some-is _ _ (sym h.waits.next ∙ next-under (manner l h.opening) h.waits.request progressed w.token 0 h.waits.message h.waits.next) in
    record {
      since = h.waits.since;
      request = h.waits.request;
      opening = h.waits.opening;
      others = h.others;
      first = h.is;
      free = subst (TurnIn l p) free a.turn;
      peer = sym (same_peer-same h.waits.request.peer p peer);
      message = next-under (manner l h.opening) h.waits.request progressed w.token mid h.waits.message h.waits.next;
      spelled = sent-spells waiting_one w.datagram mid (subst (λ (m : Content). Spells m w.datagram) same h.waits.spelled);
      token_size = h.waits.token_size;
      token_apart = h.waits.token_apart;
      mid_apart = mid-apart l t p mid (a.count_up t from) (has-next l t p s.last_mid mid legal (a.last t from) (next-of s.last_mid w.first_mid)) few;
      wait = w.timeout;
      first_wait = refl;
      least = h.waits.least;
      greatest = h.waits.greatest;
    }
