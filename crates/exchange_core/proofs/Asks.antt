-- What an ask is answered with.
use Rattle.std.proofs.Common.{◌≡◌, ◌≢◌, ℕ, ◌/◌, ◌^◌, ◌≤◌, Bool, true, false, inr, List, [], length, Option, Some, None, Result, Ok, Err, refl, sym, ap, subst, ◌∙◌, arith}
use Rattle.std.specs.Prelude.{IfOk, OnOk, drop}
use Rattle.std.specs.Arc.{arc_value}
use Rattle.ask_model.specs.Requests.{CoapRequest, Requests, Refuses}
use Rattle.ask_model.specs.Views.{Ask, Mapping}
use Rattle.ask_model.specs.Sizes.{came_size}
use Rattle.ask_model.specs.declared.cause.Cause.{Cause}
use Rattle.resp_cache.specs.Stored.{Stored}
use Rattle.resp_cache.specs.declared.pair.Pair.{Pair}
use Rattle.journal_book.specs.Views.{ask_of}
use Rattle.history_laws.specs.Numbering.{token_number}
use Rattle.std.specs.List.{find}
use Rattle.journal_book.specs.Entries.{Written}
use Rattle.exchange_model.specs.State.{State}
use Rattle.exchange_model.specs.Resting.{HasConn}
use Rattle.exchange_model.specs.Calls.{has_place, joined, asked}
use Rattle.exchange_model.specs.Keeping.{IsProper}
use Rattle.exchange_model.specs.Room.{KeptInRoom}
use Rattle.exchange_model.specs.Entering.{refusal_deeds, entered_all}
use Rattle.exchange_model.specs.Sealing.{in_room, asks_in_room}
use Rattle.exchange_model.specs.Watching.{touched}
use Rattle.exchange_model.proofs.CallerLemmas.{asks-in-room, busy-enters, joins-enter, refusals-enter}
use Rattle.std.specs.Prelude.{◌&&◌, nat_lt}
use Rattle.std.proofs.lemmas.Bool.{false≢true}
use Rattle.std.proofs.lemmas.Bool.{ltb-true}
use Rattle.limits.specs.declared.TheConstants.{MAX_REQUEST_SIZE}
use Rattle.uri_map.specs.declared.peer.Peer.{Peer}
use Rattle.ask_model.specs.Requests.{Sense}
use Rattle.ask_model.specs.Datagrams.{asked_peer}
use Rattle.ask_model.specs.declared.cause.Cause.TheVariants as C
use Rattle.history_laws.specs.Causes.{IsRefusal}
use Rattle.history_laws.proofs.CallerLemmas.{some-is}
use Rattle.message_layer.specs.Sending.{mids_in_use}
use Rattle.exchange_model.specs.State.{link_of}
use Rattle.exchange_core.specs.declared.answer.Ticket.{Ticket}
use Rattle.exchange_core.specs.declared.fault.AskFault.{AskFault}
use Rattle.exchange_core.specs.declared.fault.AskFault.TheVariants as F
use Rattle.exchange_core.specs.Values.{CoreValue, stepped}
use Rattle.exchange_core.specs.Calls.{AsksSo, IsAsked}
use Rattle.exchange_model.specs.declared.kept.Exchange.{Exchange}
use Rattle.exchange_model.specs.Steps.{joins}
use Rattle.exchange_model.specs.Hearing.{Numbers}
use Rattle.exchange_table.specs.Joining.{is_joined_by}
use Rattle.exchange_core.specs.Joining.{MayJoin, joined_for}
use Rattle.exchange_core.specs.Recalling.{MayRecall, recalled, served_for}
use Rattle.exchange_core.specs.Refusing.{MayRefuse, BeginsNothing, refused}
use Rattle.exchange_core.specs.States.{number_in}
use Rattle.exchange_core.proofs.Recalls.{alone-by, enters-served, served-is, was-heard}
use Rattle.exchange_core.proofs.Sounding.{second-of}

-- an ask that is answered at once, whose message would go under this token
away : (t word c : ℕ) (a : Ask) (token : List ℕ) (old new : CoreValue)
    → length token ≡ 8 → token_number token ≡ old.state.issued → token_number (drop 4 token) ≡ word / 2 ^ 32
    → BeginsNothing t a old.state → HasConn old.state.conns c None
    → ((n : Numbers) → new ≡ stepped (asks_in_room t c a n old.state) old)
    → AsksSo t word c a old new
away t word c a token old new size number random none idle is =
    let n : Numbers = record { token = token; text = []; word = word } in
    record {
      numbers = n;
      worded = record { word_is = refl; token_size = size; number = number; random = random };
      spelled = λ q s j p. absurd (none q s j p);
      idle = idle;
      is = is n;
    }

pub turned-away : {R : Type 0} (r : Result (Ticket R) AskFault) (t word c : ℕ) (a : Ask) (token : List ℕ) (old new : CoreValue)
    → length token ≡ 8 → token_number token ≡ old.state.issued → token_number (drop 4 token) ≡ word / 2 ^ 32
    → BeginsNothing t a old.state → HasConn old.state.conns c None → old.state.sealed ≡ false
    → IfOk r (λ (k : Ticket R). k.number ≡ length old.state.entries)
    → OnOk r (new.state.sealed ≡ false)
    → (r ≡ Err F.Sealed → new.state.sealed ≡ true)
    → (r ≢ Err F.Memory → (n : Numbers) → new ≡ stepped (asks_in_room t c a n old.state) old)
    → (r ≡ Err F.Memory → new ≡ old)
    → (r ≢ Err F.Unknown) × (r ≢ Err F.Pending)
    → IsAsked (number_in r) t word c a old new
turned-away (Ok k) t word c a token old new size number random none idle unsealed ticket free sealed is memory others =
    (ticket, free, away t word c a token old new size number random none idle (is (λ e. absurd cc)))
turned-away (Err F.Sealed) t word c a token old new size number random none idle unsealed ticket free sealed is memory others =
    (sealed refl, idle, inr (away t word c a token old new size number random none idle (is (λ e. absurd cc))))
turned-away (Err F.Memory) t word c a token old new size number random none idle unsealed ticket free sealed is memory others =
    (memory refl, unsealed, idle)
turned-away (Err F.Unknown) t word c a token old new size number random none idle unsealed ticket free sealed is memory others = absurd (others.0 refl)
turned-away (Err F.Pending) t word c a token old new size number random none idle unsealed ticket free sealed is memory others = absurd (others.1 refl)

-- an ask that begins nothing may be refused
pub may-refuse : (t c : ℕ) (a : Ask) (cause : Cause) (S : State)
    → KeptInRoom S → S.sealed ≡ false → S.moment ≤ t → HasConn S.conns c None → IsProper a.sense → came_size a.came ≤ MAX_REQUEST_SIZE
    → BeginsNothing t a S → ((n : Numbers) → asked t c a n S ≡ refused t c a cause S)
    → MayRefuse t c a cause S
may-refuse t c a cause S k unsealed later idle proper size none is =
    let n : Numbers = record { token = []; text = []; word = 0 } in
    let kept = asks-in-room t c a n S k later idle proper (λ q s j p. absurd (none q s j p)) (record { request = size; message = omega arith }) in
    record {
      is = is;
      kept = subst (λ (U : State). KeptInRoom (in_room t U S)) (is n) (second-of S.sealed S (in_room t (asked t c a n S) S) unsealed kept);
    }

pub ticket-number : {R : Type 0} (r : Result (Ticket R) AskFault) (c n : ℕ) (m : Mapping)
    → IfOk r (λ (k : Ticket R). (k.conn ≡ c) × (k.number ≡ n) × (arc_value k.mapped ≡ m)) → IfOk r (λ (k : Ticket R). k.number ≡ n)
ticket-number (Ok k) c n m e = e.1
ticket-number (Err f) c n m e = e

-- There is no place where as many exchanges are open as may be.

limit-and : (n : ℕ) (b v : Bool) → nat_lt n 256 ≡ v → 256 ≤ n → (nat_lt n 256 && b) ≡ false
limit-and n b true e full = absurd (let lt = ltb-true n 256 e in omega (arith, lt, full))
limit-and n b false e full = rw (e) refl

pub full-no-place : (t : ℕ) (p : Peer) (S : State) → 256 ≤ length S.exchanges → has_place t p S ≡ false
full-no-place t p S full =
    limit-and (length S.exchanges) (nat_lt (length (link_of S.links p).waiting) 64 && nat_lt (mids_in_use t (link_of S.links p)) 32768) _ refl full

same-request : (q r : CoapRequest) → Requests q ≡ Requests r → q ≡ r
same-request q r e = cc

pub no-place : (t : ℕ) (a : Ask) (q : CoapRequest) (S : State) → a.sense ≡ Requests q → has_place t q.peer S ≡ false → BeginsNothing t a S
no-place t a q S sense full = λ r is alone place.
    let same = same-request q r (sym sense ∙ is) in
    false≢true (sym full ∙ subst (λ (x : CoapRequest). has_place t x.peer S ≡ true) (sym same) place)

pub refuses-no-place : (t : ℕ) (a : Ask) (cause : Cause) (status : ℕ) (S : State) → a.sense ≡ Refuses cause status → BeginsNothing t a S
refuses-no-place t a cause status S sense = λ r is alone place. never (sym sense ∙ is)
  where
    never : {q : CoapRequest} → Refuses cause status ≡ Requests q → ⊥
    never e = absurd cc

-- what is asked of a server
pub request-of : (s : Sense) (p : Peer) → asked_peer s ≡ Some p → (q : CoapRequest) × (s ≡ Requests q) × (q.peer ≡ p)
request-of (Requests q) p e = (q, refl, some-is q.peer p e)
request-of (Refuses cause status) p e = absurd cc

-- what it joins
pub joined-is : (a : Ask) (q : CoapRequest) (S : State) (v : Option Exchange) → a.sense ≡ Requests q → joined_for a.sense S ≡ v → joined q S ≡ v
joined-is a q S v sense is = ap (λ (s : Sense). joined_for s S) (sym sense) ∙ is

pub found-by : (ws : List Written) (m k : Mapping) (es : List Exchange) (v w : Option Exchange)
    → v ≡ find (is_joined_by ws k.sense) es → k ≡ m → v ≡ w → find (is_joined_by ws m.sense) es ≡ w
found-by ws m k es v w found same is =
    sym (found ∙ ap (λ (x : Mapping). find (is_joined_by ws x.sense) es) same) ∙ is

-- what is served
pub stored-by : (m k : Mapping) (t : ℕ) (ps : List Pair) (v w : Option Stored) → v ≡ served_for k.sense t ps → k ≡ m → v ≡ w → served_for m.sense t ps ≡ w
stored-by m k t ps v w found same is = ap (λ (x : Mapping). served_for x.sense t ps) (sym same) ∙ sym found ∙ is

joined-nothing : (t : ℕ) (a : Ask) (e : Exchange) (S : State) → joined_for a.sense S ≡ Some e → BeginsNothing t a S
joined-nothing t a e S found = λ q is alone place. never (sym (joined-is a q S (Some e) is found) ∙ alone.1)
  where
    never : Some e ≡ None → ⊥
    never k = absurd cc

served-nothing : (t : ℕ) (a : Ask) (s : Stored) (S : State) → served_for a.sense t S.store ≡ Some s → BeginsNothing t a S
served-nothing t a s S found = λ q is alone place. never (sym (served-is t a.sense q S (Some s) is found) ∙ alone.0)
  where
    never : Some s ≡ None → ⊥
    never k = absurd cc

-- an ask that the store answers
pub may-recall : (t c : ℕ) (m : Mapping) (q : CoapRequest) (s : Stored) (S : State)
    → KeptInRoom S → S.sealed ≡ false → S.moment ≤ t → HasConn S.conns c None → came_size m.came ≤ MAX_REQUEST_SIZE
    → m.sense ≡ Requests q → served_for m.sense t S.store ≡ Some s → MayRecall t c m s S × BeginsNothing t (ask_of m) S
may-recall t c m q s S k unsealed later idle size sense found =
    let a = ask_of m in
    let n : Numbers = record { token = []; text = []; word = 0 } in
    let none = served-nothing t a s S found in
    let is : (d : Numbers) → asked t c a d S ≡ recalled t c a s S = λ d. enters-served t c a q d s S sense found in
    let kept = asks-in-room t c a n S k later idle (subst IsProper (sym sense) tt) (λ r e j p. absurd (none r e j p)) (record { request = size; message = omega arith }) in
    let heard = was-heard t m.sense q s S k sense found in (
      record {
        request = q;
        sense = sense;
        get = heard.0;
        heard = heard.1;
        is = is;
        kept = subst (λ (U : State). KeptInRoom (in_room t U S)) (is n) (second-of S.sealed S (in_room t (asked t c a n S) S) unsealed kept);
      },
      none,
    )

-- an ask that joins an exchange
pub may-join : (t c : ℕ) (a : Ask) (q : CoapRequest) (e : Exchange) (S : State)
    → KeptInRoom S → S.sealed ≡ false → S.moment ≤ t → HasConn S.conns c None → came_size a.came ≤ MAX_REQUEST_SIZE
    → a.sense ≡ Requests q → served_for a.sense t S.store ≡ None → joined_for a.sense S ≡ Some e
    → MayJoin t c a e.opening S × BeginsNothing t a S
may-join t c a q e S k unsealed later idle size sense unserved found =
    let n : Numbers = record { token = []; text = []; word = 0 } in
    let none = joined-nothing t a e S found in
    let is : (m : Numbers) → asked t c a m S ≡ joins t c a e.opening S = λ m. joins-enter t c a q m e S sense (served-is t a.sense q S None sense unserved) (joined-is a q S (Some e) sense found) in
    let kept = asks-in-room t c a n S k later idle (subst IsProper (sym sense) tt) (λ r s j p. absurd (none r s j p)) (record { request = size; message = omega arith }) in (
      record {
        is = is;
        kept = subst (λ (U : State). KeptInRoom (in_room t U S)) (is n) (second-of S.sealed S (in_room t (asked t c a n S) S) unsealed kept);
      },
      none,
    )

-- the ask and its answer, where what it means is noted
abbrev noted-by : ℕ → ℕ → Ask → Cause → State → Sense → State
noted-by t c a cause S sense = let U = entered_all t (refusal_deeds c a cause S) S in record U { watches = touched t sense S.watches }

-- an ask that is busy may be refused
pub may-be-busy : (t c : ℕ) (a : Ask) (q : CoapRequest) (S : State)
    → KeptInRoom S → S.sealed ≡ false → S.moment ≤ t → HasConn S.conns c None → came_size a.came ≤ MAX_REQUEST_SIZE
    → a.sense ≡ Requests q → served_for a.sense t S.store ≡ None → joined_for a.sense S ≡ None → has_place t q.peer S ≡ false
    → MayRefuse t c a C.Busy S
may-be-busy t c a q S k unsealed later idle size sense unserved alone full =
    may-refuse t c a C.Busy S k unsealed later idle (subst IsProper (sym sense) tt) size (no-place t a q S sense full)
    (λ n. busy-enters t c a q n S sense (alone-by t a.sense q S sense unserved alone) full ∙ ap (noted-by t c a C.Busy S) (sym sense))

pub may-be-refused : (t c : ℕ) (a : Ask) (cause : Cause) (status : ℕ) (S : State)
    → KeptInRoom S → S.sealed ≡ false → S.moment ≤ t → HasConn S.conns c None → came_size a.came ≤ MAX_REQUEST_SIZE
    → a.sense ≡ Refuses cause status → IsRefusal cause → MayRefuse t c a cause S
may-be-refused t c a cause status S k unsealed later idle size sense proper =
    may-refuse t c a cause S k unsealed later idle (subst IsProper (sym sense) proper) size (refuses-no-place t a cause status S sense)
    (λ n. refusals-enter t c a n cause status S sense ∙ ap (noted-by t c a cause S) (sym sense))
