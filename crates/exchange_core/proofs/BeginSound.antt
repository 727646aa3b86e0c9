-- What an ask that begins an exchange leaves is sound, and is what the step says.
use Rattle.std.proofs.Common.{◌≡◌, ℕ, ◌+◌, ◌<◌, ◌≤◌, Bool, true, false, List, [], ◌∷◌, ◌++◌, length, cond, Option, Some, None, Result, Ok, Err, refl, sym, ap, subst, ◌∙◌, arith}
use Rattle.std.specs.Prelude.{sum_by}
use Rattle.uri_map.specs.declared.peer.Peer.{Peer}
use Rattle.std.specs.Prelude.{is_none, ◌&&◌, ◌==◌}
use Rattle.std.proofs.lemmas.Bool.{and_parts}
use Rattle.limits.specs.declared.TheConstants.{MAX_BODY_LEN, MAX_MESSAGE_LEN}
use Rattle.coap_codec.specs.Spelling.{Spells}
use Rattle.coap_codec.specs.declared.block.Block.{Block}
use Rattle.blockwise.specs.Uploads.{begun, next_block}
use Rattle.ask_model.specs.Datagrams.{IsSentFor, asked_body, block_named}
use Rattle.ask_model.specs.Observing.{IsObserving, is_named}
use Rattle.ask_model.specs.Validating.{IsValidating}
use Rattle.resp_cache.specs.Stored.{Stored}
use Rattle.ask_model.specs.Requests.{CoapRequest, Sense, Requests, Refuses, Manner, Plainly, Observing, Validating, asking, block_message, first_block, observe_message, validate_message}
use Rattle.ask_model.specs.Sharing.{is_get}
use Rattle.ask_model.specs.Sizes.{capped}
use Rattle.ask_model.specs.Views.{Mapping, Rules}
use Rattle.journal_book.specs.Entries.{Asks, Written, entry_size}
use Rattle.journal_book.specs.Views.{ask_of}
use Rattle.message_layer.specs.Sending.{waits, IsNext}
use Rattle.message_layer.specs.Prepared.{at_once as next_list, IsUnnumberedCon}
use Rattle.message_layer.specs.declared.prepared.FirstSending.{FirstSending}
use Rattle.message_layer.specs.declared.state.Waiting.{Waiting}
use Rattle.exchange_model.specs.declared.kept.Exchange.{Exchange}
use Rattle.exchange_model.specs.declared.kept.Reader.{Reader}
use Rattle.exchange_model.specs.State.{State, link_of}
use Rattle.exchange_model.proofs.CallerLemmas.{within-limits}
use Rattle.exchange_core.specs.declared.fault.AskFault.{AskFault}
use Rattle.exchange_core.specs.declared.fault.AskFault.TheVariants as Ask
use Rattle.exchange_core.specs.declared.state.State.{State as RustState}
use Rattle.exchange_core.specs.Answering.{Given}
use Rattle.exchange_core.specs.Wording.{IsTextFor, keeps_for, wants_for}
use Rattle.exchange_core.specs.Beginning.{exchange_by, reader_by, with_exchange, Leaves, MayBegin, IsEntered, IsBegunBy}
use Rattle.exchange_core.specs.Sending.{sent_first}
use Rattle.exchange_core.specs.Drafts.{DraftValue, Drafts}
use Rattle.exchange_core.specs.Sound.{SoundState, IsSound}
use Rattle.exchange_core.specs.States.{state_of, given_in, outgoing, seen, core_of, with_draft, SeesSame}
use Rattle.exchange_core.specs.Values.{Outgoing}
use Rattle.exchange_core.specs.Watching.{observed_by}
use Rattle.exchange_core.proofs.Begins.{sound-begun, begun-so, sound-sealed, sealed-so}
use Rattle.exchange_core.proofs.MatterBy.{unnumbered as con-under}
use Rattle.exchange_core.proofs.Sounding.{roomier}

-- the numbers of tokens have 32 bits
pub issued-below : (S : State) (bytes room : ℕ) (gs : List Given) → SoundState S bytes room gs → S.issued < 4294967295
issued-below S bytes room gs s =
    let held = (within-limits S s.kept).0 in
    let within = s.kept.here.counted.within in
    let issued = s.kept.here.counted.issued in omega (arith, held, within, issued)

-- where nothing but places changes
sound-same : (S S1 : State) (bytes bytes1 room room1 : ℕ) (gs gs1 : List Given) → SoundState S bytes room gs
    → S1 ≡ S → bytes1 ≡ bytes → room ≤ room1 → gs1 ≡ gs → SoundState S1 bytes1 room1 gs1
sound-same S S1 bytes bytes1 room room1 gs gs1 s a b c d = rw (a, b, d) (roomier S bytes room room1 gs s c)

core-same : (S S1 : State) (gs gs1 : List Given) (os os1 : List Outgoing) → S1 ≡ S → gs1 ≡ gs → os1 ≡ os
    → core_of S1 gs1 os1 ≡ core_of S gs os
core-same S S1 gs gs1 os os1 a b c = rw (a, b, c) refl

pub same-sound : {R : Type 0} (old new : RustState R) → IsSound old → SeesSame old new → IsSound new
same-sound old new s e = sound-same (state_of old) (state_of new) old.bytes new.bytes old.journal.room new.journal.room (given_in old) (given_in new) s e.state e.bytes e.room e.answers

pub same-seen : {R : Type 0} (old new : RustState R) → SeesSame old new → seen new ≡ seen old
same-seen old new e = core-same (state_of old) (state_of new) (given_in old) (given_in new) (outgoing old) (outgoing new) e.state e.answers e.sends

-- what was entered after places were made
pub leaves : {R : Type 0} (t : ℕ) (sense : Sense) (e : Exchange) (r : Reader) (keeps : Option Stored) (w : Waiting) (d : DraftValue) (old mid new : RustState R) → SeesSame old mid
    → Leaves (with_exchange t sense e r keeps w (with_draft t d (state_of mid))) d mid new
    → Leaves (with_exchange t sense e r keeps w (with_draft t d (state_of old))) d old new
leaves t sense e r keeps w d old mid new s l = record {
  state = l.state ∙ ap (λ (S : State). with_exchange t sense e r keeps w (with_draft t d S)) s.state;
  bytes = l.bytes ∙ ap (λ (k : ℕ). capped (k + capped (sum_by entry_size d.entries))) s.bytes;
  held =
      let held = l.held in
      let conns = ap (λ (S : State). length S.conns) s.state in omega (arith, held, conns);
  answers = l.answers ∙ ap (λ (gs : List Given). gs ++ d.answers) s.answers;
  sends = l.sends ∙ ap (λ (os : List Outgoing). os ++ d.sends) s.sends;
}

pub entered-by : {R X : Type 0} (r : Result X AskFault) (t : ℕ) (i j : Sense) (x e : Exchange) (n k : ℕ) (c : ℕ) (f g : Option Stored) (v w : Waiting) (d : DraftValue) (old new : RustState R)
    → i ≡ j → x ≡ e → n ≡ k → f ≡ g → v ≡ w → IsEntered r t i x (reader_by c n) f v d old new → IsEntered r t j e (reader_by c k) g w d old new
entered-by r t i j x e n k c f g v w d old new meant a num keeps b entered =
    subst (λ (s : Sense). IsEntered r t s e (reader_by c k) g w d old new) meant
    (subst (λ (u : Waiting). IsEntered r t i e (reader_by c k) g u d old new) b
    (subst (λ (h : Option Stored). IsEntered r t i e (reader_by c k) h v d old new) keeps
    (subst (λ (y : Exchange). IsEntered r t i y (reader_by c k) f v d old new) a
    (subst (λ (l : ℕ). IsEntered r t i x (reader_by c l) f v d old new) num entered))))

pub exchange-is : (t : ℕ) (token : List ℕ) (p : Peer) (i j : Sense) (o v : Bool) (sent : Option FirstSending) (n k : ℕ) (e : Exchange) → i ≡ j → o ≡ v → n ≡ k
    → e ≡ exchange_by t token p i o sent n → e ≡ exchange_by t token p j v sent k
exchange-is t token p i j o v sent n k e a asks b is =
    is ∙ ap (λ (x : Sense). exchange_by t token p x o sent n) a ∙ ap (λ (x : Bool). exchange_by t token p j x sent n) asks ∙ ap (λ (x : ℕ). exchange_by t token p j v sent x) b

pub unnumbered : (o : Manner) (s : Sense) (token text : List ℕ) → IsTextFor o s token text → IsUnnumberedCon token text
unnumbered o s token text x = by o (first_block x.request) x.spelled
  where
    by : (v : Manner) (b : Option Block) → Spells (asking v x.request b 0 token) text → IsUnnumberedCon token text
    by v (Some b) h = con-under x.request (Some b) token text h
    by Plainly None h = con-under x.request None token text h
    by Observing None h = record { m = observe_message x.request 0 token; spelled = h; con = refl; under = refl; unnumbered = refl }
    by (Validating tag) None h = record { m = validate_message tag x.request 0 token; spelled = h; con = refl; under = refl; unnumbered = refl }

-- the first message, which asks to observe or doesn't

plain-text : (q : CoapRequest) (b : Option Block) (token text : List ℕ) → Spells (block_message q b 0 token) text → Spells (asking Plainly q b 0 token) text
plain-text q None token text h = h
plain-text q (Some b) token text h = h

pub text-plain : (s : Sense) (token text : List ℕ) → length (asked_body s) ≤ MAX_BODY_LEN → IsSentFor s (block_named s None) 0 token (Some text) → length text ≤ MAX_MESSAGE_LEN
    → IsTextFor Plainly s token text
text-plain (Requests q) token text body sent short = record { request = q; is = refl; body = body; spelled = plain-text q (first_block q) token text sent; short = short }
text-plain (Refuses cause status) token text body sent short = absurd (cc (sent))

whole-get : (q : CoapRequest) → is_get q ≡ true → first_block q ≡ None
whole-get q get = ap (λ (b : Bool). cond b None (next_block (begun (length q.body) 6))) (and_parts (q.method == 1) (is_none q.format && (length q.body == 0)) get).0

pub text-observes : (rules : Rules) (s : Sense) (token text : List ℕ) → length (asked_body s) ≤ MAX_BODY_LEN → IsObserving rules s 0 token (Some text) → length text ≤ MAX_MESSAGE_LEN
    → IsTextFor Observing s token text × (observed_by rules s ≡ true)
text-observes rules (Requests q) token text body sent short = (
  record {
    request = q;
    is = refl;
    body = body;
    spelled = subst (λ (b : Option Block). Spells (asking Observing q b 0 token) text)
        (sym (whole-get q (and_parts (is_get q) (is_named rules.observed q.target.host) sent.0).0)) sent.1;
    short = short;
  },
  sent.0,
)
text-observes rules (Refuses cause status) token text body sent short = absurd (cc (sent))

-- the first message that asks whether what is kept is valid still
pub text-validates : (tag : List ℕ) (s : Sense) (token text : List ℕ) → length (asked_body s) ≤ MAX_BODY_LEN → IsValidating tag s 0 token (Some text) → length text ≤ MAX_MESSAGE_LEN
    → IsTextFor (Validating tag) s token text
text-validates tag (Requests q) token text body sent short = record {
  request = q;
  is = refl;
  body = body;
  spelled = subst (λ (b : Option Block). Spells (asking (Validating tag) q b 0 token) text) (sym (whole-get q sent.0)) sent.1;
  short = short;
}
text-validates tag (Refuses cause status) token text body sent short = absurd (cc (sent))

pub observes-not : (rules : Rules) (s : Sense) (token : List ℕ) → IsObserving rules s 0 token None → observed_by rules s ≡ false
observes-not rules (Requests q) token sent = sent
observes-not rules (Refuses cause status) token sent = refl

module _ {R : Type 0} (t word c : ℕ) (m : Mapping) (p : Peer) (token text : List ℕ) (sent : Option FirstSending)
    (d : DraftValue) (old new : RustState R) (s : IsSound old) (b : MayBegin t word c m p token text (state_of old))
    (h : Drafts t (state_of old) (Asks c (ask_of m) ∷ sent_first p sent) d)
    (next : IsNext t (link_of (state_of old).links p).last_mid (next_list (waits token text word) (link_of (state_of old).links p).outstanding) sent)
    (none : d.answers ≡ []) where
  abbrev e : Exchange
  e = exchange_by t token p m.sense (wants_for m old.watches.standing) sent (length old.journal.entries)

  abbrev first : Reader
  first = reader_by c (length old.journal.entries)

  abbrev w : Waiting
  w = waits token text word

  abbrev keeps : Option Stored
  keeps = keeps_for t m (state_of old)

  pub enters-sound : {X : Type 0} (r : Result X AskFault) → IsEntered r t m.sense e first keeps w d old new → IsSound new
  enters-sound (Ok x) i =
      sound-begun t word c m p token text (state_of old) sent d old.bytes old.journal.room (given_in old) (outgoing old) s b h next none
      (state_of new) new.bytes new.journal.room (given_in new) i.0 i.1.state i.1.bytes i.1.held i.1.answers
  enters-sound (Err Ask.Sealed) i =
      sound-sealed t word c m p token text (state_of old) sent d old.bytes old.journal.room (given_in old) (outgoing old) s b h next none
      (state_of new) new.bytes new.journal.room (given_in new) i.0 i.1.state i.1.bytes i.1.room i.1.answers
  enters-sound (Err Ask.Memory) i = same-sound old new s i
  enters-sound (Err Ask.Unknown) i = absurd i
  enters-sound (Err Ask.Pending) i = absurd i

  pub enters-ok : {X : Type 0} (x : X) → IsEntered (Ok x) t m.sense e first keeps w d old new
      → IsBegunBy (Ok (length old.journal.entries)) t word c m (seen old) (seen new)
  enters-ok x i =
      begun-so t word c m p token text (state_of old) sent d old.bytes old.journal.room (given_in old) (outgoing old) s b h next none
      (state_of new) (given_in new) (outgoing new) i.0 i.1.state i.1.answers i.1.sends

  pub enters-err : (X : Type 0) (f : AskFault) → IsEntered {X = X} (Err f) t m.sense e first keeps w d old new
      → IsBegunBy (Err f) t word c m (seen old) (seen new)
  enters-err X Ask.Sealed i =
      sealed-so t word c m p token text (state_of old) sent d old.bytes old.journal.room (given_in old) (outgoing old) s b h next none
      (state_of new) (given_in new) (outgoing new) i.0 i.1.state i.1.answers i.1.sends
  enters-err X Ask.Memory i = same-seen old new i
  enters-err X Ask.Unknown i = absurd i
  enters-err X Ask.Pending i = absurd i
