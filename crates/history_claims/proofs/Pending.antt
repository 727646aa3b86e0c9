-- An ask whose exchange goes on is pending; and what is said of one for which nothing was sent.
use Rattle.blockwise.specs.declared.fault.BlockFault.TheVariants as F
use Rattle.ask_model.specs.Sharing.{is_get}
use Rattle.history_laws.specs.Responses.{is_tellable}
use Rattle.coap_codec.specs.declared.block.Block.{Block}
use Rattle.blockwise.specs.declared.pieces.Step.TheVariants.{Next, Last}
use Rattle.blockwise.specs.declared.fault.BlockFault.{BlockFault}
use Rattle.blockwise.specs.Uploads.{begun as begun_as}
use Rattle.std.proofs.Common.{Bool, ◌≡◌, ℕ, ◌+◌, ◌<◌, true, false, inl, inr, List, [], ◌∷◌, ◌++◌, Option, Some, None, refl, sym, ap, subst, ◌∙◌, arith, cond, eqb, Ok, length}
use Rattle.blockwise.specs.Reading.{block_in}
use Rattle.blockwise.specs.Downloads.{fault_of, judged, judged_by, next_block, no_pieces, step_of, with_piece}
use Rattle.std.specs.Prelude.{is_none, fold}
use Rattle.std.proofs.lemmas.Bool.Decides.{leb_tells}
use Rattle.std.proofs.lemmas.Bool.{false≢true, and_parts}
use Rattle.limits.specs.declared.TheConstants.{MAX_TRANSMIT_WAIT}
use Rattle.coap_codec.specs.Spelling.{Content}
use Rattle.uri_map.specs.declared.peer.Peer.{Peer}
use Rattle.ask_model.specs.declared.cause.Cause.{Cause}
use Rattle.ask_model.specs.declared.cause.Cause.TheVariants as C
use Rattle.ask_model.specs.Requests.{CoapRequest, Sense, Requests, Refuses}
use Rattle.ask_model.specs.Views.{Ask}
use Rattle.journal_book.specs.Entries.{Grounds, Live, Kept, Fault, Asks}
use Rattle.history_laws.specs.Readings.{Noted, Note, Plain, Begins, Renews, Says, Serves, entries, at, before, noted}
use Rattle.history_laws.specs.Connections.{is_sealed}
use Rattle.history_laws.specs.Progress.{Reply, Ending, Progress, Fetches, Gives, Ends, first_progress, step, progress, ended_by, NotUnderstood, fetched_by}
use Rattle.history_laws.specs.Exchanges.{opens_by, Begun, begun, is_going, goes_to, waits_for, end_of, begins_with, heard_for, replies}
use Rattle.history_laws.specs.Justified.{AskNote, IsRefused, Caused, HasGrounds, MayBeFirst, reads_by, reads_in, reads, Legal}
use Rattle.history_laws.specs.Laws.{IsFirst}
use Rattle.history_laws.proofs.CallerLemmas.{AskedFor, at-before, at-same, before-twice, begins-at, begun-before, begun-below, begun-opening, first-waits, first_of, follows-at, goes-so, GoesSo, IsGoing, legal-before, length-before, none-of, none-some, notice-begins, opened-for, some-is, StartedFor}
use Rattle.history_claims.specs.Headline.{IsInTime, IsPending, IsFetching, IsOpen}
use Rattle.history_claims.specs.Causes.{IsUnsent}
use Rattle.history_claims.proofs.Entries.{entries-at, asked-entry, grows}
use Rattle.history_claims.proofs.Asking.{answers-ask}
use Rattle.history_claims.proofs.Sending.{first-of, sent-in}
use Rattle.history_claims.proofs.Unsent.{Over, over-still}
use Rattle.history_claims.proofs.InTime.{going-in-time}
use Rattle.history_claims.proofs.Notified.{notice-began}

-- An ask that opened an exchange is answered only when that is over.
pub plain-opens : (note : Note) (q : CoapRequest) → opens_by note ≡ Some q → Plain ≡ note → ⊥
plain-opens note q opens e = none-some q (ap opens_by e ∙ opens)

pub serves-opens : (js : List ℕ) (note : Note) (q : CoapRequest) → opens_by note ≡ Some q → Serves js ≡ note → ⊥
serves-opens js note q opens e = none-some q (ap opens_by e ∙ opens)

pub opens-reads : (l : List Noted) (t o : ℕ) (s : Sense) (note : Note) (q : CoapRequest) → AskNote l t s note → opens_by note ≡ Some q
    → reads_by o note ≡ Some o
opens-reads l t o s (Begins r) q h e = refl
opens-reads l t o s (Renews r v) q h e = refl
opens-reads l t o (Requests r) (Says m to notice) q h e = absurd h
opens-reads l t o (Refuses cause status) (Says m to notice) q h e = absurd h
opens-reads l t o s note q h e = cc

pub asked-reads : (l : List Noted) (o : ℕ) (b : Begun) → Legal l → (it : AskedFor l o b) → reads_by o it.note ≡ Some o
asked-reads l o b legal it = opens-reads (before l o) b.since o it.ask.sense it.note b.request (follows-at l o _ legal it.stands).3 it.opens

pub senses : (s t : ℕ) (c d : ℕ) (a b : Ask) (u v : Note) → noted s (Asks c a) u ≡ noted t (Asks d b) v → a.sense ≡ b.sense
senses s t c d a b u v e = go (ap (λ (x : Noted). x.written.deed) e)
  where
    asks-same : Asks c a ≡ Asks d b → a ≡ b
    asks-same f = cc

    go : Asks c a ≡ Asks d b → a.sense ≡ b.sense
    go f = ap (λ (a : Ask). a.sense) (asks-same f)

pub asks-something : (q : CoapRequest) (cause : Cause) (status : ℕ) → Refuses cause status ≡ Requests q → ⊥
asks-something q cause status e = cc

module _ (l : List Noted) (n o s d : ℕ) (b : Ask) (note : Note) (q : CoapRequest) (opens : opens_by note ≡ Some q) (own : reads_by o note ≡ Some o) (stands : at l o ≡ Some (noted s (Asks d b) note))
    (sense : b.sense ≡ Requests q) where
  not-refused : (cause : Cause) → IsRefused (before l n) o cause → ⊥
  not-refused cause h =
      let same = at-same l o _ _ (at-before l n o _ h.asked.stands) stands in
      asks-something q cause h.status (sym h.sense ∙ (senses h.asked.moment s h.conn d h.ask b h.asked.note note same ∙ sense))

  -- it reads what it opened
  own-read : (p : ℕ) → reads (before l n) o ≡ Some p → o ≡ p
  own-read p r = go (at (before l n) o) refl r
    where
      go : (x : Option Noted) → at (before l n) o ≡ x → reads_in o x ≡ Some p → o ≡ p
      go None is e = absurd (none-some p e)
      go (Some x) is e =
          some-is o p
          (sym own
          ∙ subst (λ (v : Noted). reads_by o v.note ≡ Some p) (at-same l o x (noted s (Asks d b) note) (at-before l n o x is) stands) e)

  over-cause : (t j : ℕ) (cause : Cause) → Caused (before l n) t o cause j → Over o (before l n)
  over-cause t j C.Busy h =
      elim (h.1) [
        | inl away ↦ absurd (plain-opens note q opens (ap (λ (x : Noted). x.note) (at-same l o _ _ (at-before l n o _ away.stands) stands)))
        | inr cut ↦ subst (λ (o : ℕ). Over o (before l n)) (sym (own-read cut.0 cut.2)) (inl (ap is_none cut.3))
      ]
  over-cause t j C.Timeout h =
      subst (λ (o : ℕ). Over o (before l n)) (sym (own-read h.0 h.1))
      (elim (h.3) [ inl end ↦ inl (ap is_none end.1) | inr due ↦ inr due.0 ])
  over-cause t j C.Reset h = subst (λ (o : ℕ). Over o (before l n)) (sym (own-read h.0 h.1)) (inl (ap is_none h.2))
  over-cause t j C.NotUnderstood h = subst (λ (o : ℕ). Over o (before l n)) (sym (own-read h.0 h.1)) (inl (ap is_none h.2))
  over-cause t j C.BadHttp h = absurd (not-refused C.BadHttp h.2)
  over-cause t j C.NoMap h = absurd (not-refused C.NoMap h.2)
  over-cause t j C.Method h = absurd (not-refused C.Method h.2)
  over-cause t j C.Media h = absurd (not-refused C.Media h.2)

  pub over-grounds : (t : ℕ) (g : Grounds) → HasGrounds (before l n) t o g → Over o (before l n)
  over-grounds t (Live js) (inl h) = subst (λ (o : ℕ). Over o (before l n)) (sym (own-read h.0 h.4)) (inl (ap is_none h.5))
  over-grounds t (Live js) (inr h) = subst (λ (o : ℕ). Over o (before l n)) (sym (own-read h.0 h.4)) (inl (ap is_none h.5))
  over-grounds t (Kept js) h = absurd (serves-opens js note q opens (ap (λ (x : Noted). x.note) (at-same l o _ _ (at-before l n o _ h.2) stands)))
  over-grounds t (Fault cause j) h = over-cause t j cause h

not-going : (l : List Noted) (o : ℕ) → is_sealed l ≡ false → is_going l o ≡ true → Over o l → ⊥
not-going l o unsealed going (inl h) = false≢true (sym h ∙ going)
not-going l o unsealed going (inr h) = false≢true (sym unsealed ∙ h)

-- No tick finds late what goes on.
in-time : (l : List Noted) (k o : ℕ) (x : Noted) → Legal l → at l k ≡ Some x → is_going (before l k) o ≡ true
    → (b : Begun) → begun (before l k) o ≡ Some b → IsInTime (entries l) b.since o k
in-time l k o x legal here going b opened n t after early e =
    let there = entries-at l n _ e in
    elim (leb_tells (b.since + MAX_TRANSMIT_WAIT) t) [
      | inl w ↦ absurd (going-in-time l k o n t x there.0 b legal here going opened after early there.1 w.1)
      | inr w ↦ let young = w.1 in omega (arith, young)
    ]

-- an exchange that goes on and that an ask opened is that of one which wasn't answered
pub pending-is : (l : List Noted) (k o : ℕ) (x : Noted) → Legal l → at l k ≡ Some x → is_sealed (before l k) ≡ false → is_going (before l k) o ≡ true
    → (b : Begun) → begun (before l k) o ≡ Some b → AskedFor l o b → (p : IsPending (entries l) k o b.request) × (b.since ≡ p.moment)
pending-is l k o x legal here unsealed going b opened ask = (
  record {
    before = subst (λ (m : ℕ). o < m) (length-before l k x here) (begun-below (before l k) o b opened);
    conn = ask.conn;
    moment = b.since;
    asked = asked-entry l o ask.conn b.since ask.ask ask.note (Requests b.request) ask.stands ask.sense;
    unanswered = λ n t c g lt e.
        let it = answers-ask l n t c o g legal e in
        let over = over-grounds l n o b.since ask.conn ask.ask ask.note b.request ask.opens (asked-reads l o b legal ask) ask.stands ask.sense t g it.0.grounds in
        let twice = before-twice l k n x here lt in
        not-going (before l k) o unsealed going (grows (Over o) (over-still o) (before l k) n (subst (Over o) (sym twice) over));
    in_time = in-time l k o x legal here going b opened;
  },
  refl,
)

-- What went on after the first reply had gone on after that.
ends-stay : (how : Ending) (rs : List Reply) → fold step (Ends how) rs ≡ Ends how
ends-stay how [] = refl
ends-stay how (r ∷ rs) = ends-stay how rs

went-on : (q : CoapRequest) (r : Reply) (rs : List Reply) → IsGoing (progress q (r ∷ rs)) → IsGoing (step (first_progress q) r)
went-on q r rs goes = by (step (first_progress q) r) refl
  where
    by : (u : Progress) → step (first_progress q) r ≡ u → IsGoing u
    by (Ends how) e = subst IsGoing (ap (λ (u : Progress). fold step u rs) e ∙ ends-stay how rs) goes
    by (Fetches k p got) e = tt
    by (Gives upload got) e = tt

-- Where a GET goes on after its first piece, there is more to come.
abbrev MoreComes : Option Block → Type 0
MoreComes c = (b : Block) × (c ≡ Some b) × (b.more ≡ true)

unchanged : (a b c : Bool) → cond a (Some F.Size) (cond b (Some F.Gap) (cond c (Some F.TooLarge) None)) ≡ Some F.Changed → ⊥
unchanged true b c e = cc
unchanged false true c e = cc
unchanged false false true e = cc
unchanged false false false e = cc

more-by : (v : Option BlockFault) → (v ≡ Some F.Changed → ⊥) → (c : Option Block) (m : Content) (rs : List Reply)
    → IsGoing (fetched_by (judged_by v (step_of c)) 0 (with_piece no_pieces m) rs) → MoreComes c
more-by None other None m rs g = absurd g
more-by None other (Some b) m rs g = of b.more refl g
  where
    of : (e : Bool) → b.more ≡ e → IsGoing (fetched_by (Ok (cond e (Next (next_block b)) Last)) 0 (with_piece no_pieces m) rs) → MoreComes (Some b)
    of true is g = (b, refl, is)
    of false is g = absurd g
more-by (Some F.Changed) other c m rs g = absurd (other refl)
more-by (Some F.Size) other c m rs g = absurd g
more-by (Some F.Gap) other c m rs g = absurd g
more-by (Some F.TooLarge) other c m rs g = absurd g
more-by (Some F.Memory) other c m rs g = absurd g

more-comes : (q : CoapRequest) (r : Reply) → is_get q ≡ true → IsGoing (step (first_progress q) r) → MoreComes (block_in 23 r.message)
more-comes q r get g =
    by (is_tellable r.message)
    (subst IsGoing (ap (λ (b : Bool). step (cond b (Fetches 0 no_pieces []) (Gives (begun_as (length q.body) 6) [])) r) (and_parts (eqb q.method 1) _ get).0) g)
  where
    by : (b : Bool) → IsGoing (cond b (fetched_by (judged no_pieces r.message) 0 (with_piece no_pieces r.message) ([] ++ r ∷ [])) (Ends NotUnderstood))
        → MoreComes (block_in 23 r.message)
    by true h = more-by (fault_of no_pieces r.message) (unchanged _ _ _) (block_in 23 r.message) r.message (r ∷ []) h
    by false h = absurd h

-- One that a notification opened fetches what that began.
pub fetching-is : (l : List Noted) (k o : ℕ) (x : Noted) → Legal l → at l k ≡ Some x → is_going (before l k) o ≡ true
    → (b : Begun) → begun (before l k) o ≡ Some b → (it : StartedFor l o b) → IsFetching (entries l) k o it.ask b.request b.since
fetching-is l k o x legal here going b opened it =
    let v : List Noted = before l k in
    let early = legal-before l k legal in
    let by = notice-began l o b legal it in
    let r : Reply = first_of l o b it in
    let opening = begun-opening v o b opened in
    let begins : begins_with v o ≡ r ∷ [] =
    begins-at v o _ opening.2 ∙ (sym (begins-at l o _ (at-before l k o _ opening.2)) ∙ notice-begins l o b it) in
    let goes : GoesSo (Some b) (heard_for v o) =
    subst (λ (c : Option Begun). GoesSo c (heard_for v o)) opened (goes-so v o early (none-of (end_of v o) going)) in
    let goes_first = went-on b.request r (replies v o) (subst (λ (rs : List Reply). IsGoing (progress b.request (rs ++ replies v o))) begins goes.0) in
    let more = more-comes b.request r (and_parts (is_get b.request) _ by.notified.observed.may).0 goes_first in
    record {
      before = subst (λ (m : ℕ). o < m) (length-before l k x here) (begun-below v o b opened);
      message = it.message;
      notified = by.notified;
      moment = by.moment;
      block = more.0;
      piece = more.1;
      more = more.2;
      in_time = in-time l k o x legal here going b opened;
    }

-- an exchange that goes on is open
pub open-is : (l : List Noted) (k o : ℕ) (x : Noted) → Legal l → at l k ≡ Some x → is_sealed (before l k) ≡ false → is_going (before l k) o ≡ true
    → (b : Begun) → begun (before l k) o ≡ Some b → IsOpen (entries l) k o b.request
open-is l k o x legal here unsealed going b opened = elim (opened-for l o b legal (begun-before l k o b opened)) [
  | inl it ↦ inl (pending-is l k o x legal here unsealed going b opened it).0
  | inr it ↦ inr (it.ask, b.since, fetching-is l k o x legal here going b opened it)
]

-- While a message of its exchange is sent, an ask is pending, or what a notification began is fetched.
pub sent-open : (l : List Noted) (t o i : ℕ) (p : Peer) (m : Content) (b : Begun) → Legal l → IsFirst l t o i p m → begun l o ≡ Some b
    → IsOpen (entries l) i o b.request
sent-open l t o i p m b legal f opened =
    let follows = follows-at l i _ legal f.stands in
    let may : MayBeFirst (before l i) t o p f.bytes m f.timeout = follows.1.1 in
    let going = and_parts (is_going (before l i) o) (is_none (waits_for (before l i) o))
    (and_parts (goes_to p (begun (before l i) o)) _ (first-waits (before l i) t o p f.bytes m f.timeout may)).1 in
    let same : record { since = may.since; request = may.request } ≡ b = some-is _ b (sym (begun-before l i o _ may.opening) ∙ opened) in
    open-is l i o _ legal f.stands follows.0 going.0 b (may.opening ∙ ap (λ (b : Begun). Some b) same)

-- Where no first sending after an entry is that of the ask's exchange, each is that of another.
pub unsent-in : (l : List Noted) (s k o : ℕ) (q : CoapRequest) → Legal l → ((t i : ℕ) (p : Peer) (m : Content) → s < i → IsFirst l t k i p m → ⊥)
    → ((t i : ℕ) (p : Peer) (m : Content) → s < i → IsFirst l t o i p m → ⊥) → IsUnsent (entries l) s k o q
unsent-in l s k o q legal none none_shared i m block late sent =
    let first = first-of l i sent.moment q.peer m legal sent.first in
    let a : ℕ = first.0 in
    let it = sent-in l sent.moment a i q.peer m legal first.1 in (
      a,
      it.exchange.request,
      it.block,
      λ same. none sent.moment i q.peer m late (subst (λ (o : ℕ). IsFirst l sent.moment o i q.peer m) same first.1),
      λ same. none_shared sent.moment i q.peer m late (subst (λ (o : ℕ). IsFirst l sent.moment o i q.peer m) same first.1),
      sent-open l sent.moment a i q.peer m it.exchange legal first.1 it.opened,
      it.sent_for,
    )
