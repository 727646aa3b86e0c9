-- What a turn of the journal copies is what stored responses rest on: the ask, the messages that were sent for it, and the replies.
use Rattle.std.proofs.Common.{◌≡◌, ◌≢◌, ◌⊎◌, inl, inr, ℕ, zero, ◌+◌, Bool, true, false, cond, eqb, List, [], ◌∷◌, ◌++◌, Option, Some, None, refl, sym, ap, subst, ◌∙◌, arith}
use Rattle.std.specs.Prelude.{not, ◌||◌, slice_get, option_and_then, Ok}
use Rattle.std.specs.List.{AllByRecursion, Contains, list_all}
use Rattle.std.proofs.lemmas.Bool.{and_parts, false≢true}
use Rattle.std.proofs.lemmas.Bool.Decides.{eqb_tells}
use Rattle.coap_codec.specs.Spelling.{Content}
use Rattle.coap_codec.specs.Recognition.{is_forwardable}
use Rattle.coap_codec.proofs.Again.{message_again}
use Rattle.uri_map.specs.declared.peer.Peer.{Peer}
use Rattle.resp_cache.specs.Stored.{Stored, is_fresh}
use Rattle.resp_cache.specs.declared.pair.Pair.{Pair}
use Rattle.ask_model.specs.Requests.{CoapRequest}
use Rattle.ask_model.specs.Views.{Ask}
use Rattle.journal_book.specs.Entries.{Asked, Sent, Heard, done_of, Written}
use Rattle.history_laws.specs.Readings.{Noted, at, carries, entries}
use Rattle.history_laws.specs.Progress.{Reply, numbers}
use Rattle.history_laws.specs.Responses.{confirms}
use Rattle.history_laws.specs.Carrying.{carried}
use Rattle.history_laws.specs.Storing.{IsAsHeard, IsRenewed, IsStored}
use Rattle.history_laws.proofs.CallerLemmas.{ask-behind, at-entries, carried-at, contains-later, ends-renewed, heard-of, renewed-of, replies-fit, shared-is}
use Rattle.exchange_model.specs.Backing.{backing, done_at}
use Rattle.exchange_model.specs.Keeping.{Kept}
use Rattle.exchange_model.specs.Reads.{PairIn, Reads}
use Rattle.exchange_model.specs.Rotating.{Backed, backed, backed_by, backed_if, are_few, carried_numbers, copies_with, few_of, has, may_carry, taken}
use Rattle.exchange_model.specs.State.{State}
use Rattle.exchange_model.specs.Steps.{heard_by, heard_in, is_piece_at, is_valid, read_as}
use Rattle.three_parties.proofs.Copies.{WasHeardIn, WasSent, backing-has, has-joined}
use Rattle.three_parties.proofs.Lists.{all-joined}

pub record IsTaken (t : ℕ) (S : State) (l : List Noted) (b : Backed) : Type 0 where
  pub may : may_carry t S b.pair ≡ true
  pub backs : backing S.entries b.pair.stored ≡ Some b.numbers
  pub pair : PairIn l b.pair

module _ (t : ℕ) (S : State) (l : List Noted) where
  all-backed : (ps : List Pair) → AllByRecursion (PairIn l) ps → AllByRecursion (IsTaken t S l) (backed t S ps)
  all-backed [] h = tt
  all-backed (p ∷ ps) h =
      all-joined (IsTaken t S l) (backed_if (may_carry t S p) S.entries p) (backed t S ps) (one (may_carry t S p) refl) (all-backed ps h.1)
    where
      two : may_carry t S p ≡ true → (o : Option (List ℕ)) → backing S.entries p.stored ≡ o → AllByRecursion (IsTaken t S l) (backed_by p o)
      two may None e = tt
      two may (Some ns) e = (record { may = may; backs = e; pair = h.0 }, tt)

      one : (c : Bool) → may_carry t S p ≡ c → AllByRecursion (IsTaken t S l) (backed_if c S.entries p)
      one true e = two e (backing S.entries p.stored) refl
      one false e = tt

  all-few : (gs : List ℕ) (bs : List Backed) → AllByRecursion (IsTaken t S l) bs → AllByRecursion (IsTaken t S l) (few_of t S.entries gs bs)
  all-few gs [] h = tt
  all-few gs (b ∷ bs) h = by (are_few (copies_with t S.entries (gs ++ b.numbers))) (all-few (gs ++ b.numbers) bs h.1)
    where
      by : (c : Bool) → AllByRecursion (IsTaken t S l) (few_of t S.entries (gs ++ b.numbers) bs)
          → AllByRecursion (IsTaken t S l) (cond c (b ∷ few_of t S.entries (gs ++ b.numbers) bs) [])
      by true rest = (h.0, rest)
      by false rest = tt

  carried-has : (bs : List Backed) (n : ℕ) → AllByRecursion (IsTaken t S l) bs → has (carried_numbers bs) n ≡ true
      → (b : Backed) × IsTaken t S l b × (has b.numbers n ≡ true)
  carried-has [] n h e = absurd (false≢true e)
  carried-has (b ∷ bs) n h e = elim (has-joined n b.numbers (carried_numbers bs) e) [
    | inl here ↦ (b, h.0, here)
    | inr later ↦ carried-has bs n h.1 later
  ]

last-passes : (f : ℕ → Bool) (xs : List ℕ) (n : ℕ) → list_all f (xs ++ n ∷ []) ≡ true → f n ≡ true
last-passes f [] n e = (and_parts (f n) true e).0
last-passes f (x ∷ xs) n e = last-passes f xs n (and_parts (f x) (list_all f (xs ++ n ∷ [])) e).1

has-among : (gs : List ℕ) (n : ℕ) → has gs n ≡ true → Contains gs n
has-among [] n e = absurd (false≢true e)
has-among (g ∷ gs) n e = elim (eqb_tells g n) [
  | inl w ↦ (zero, omega arith, w.1)
  | inr w ↦ contains-later g gs n (has-among gs n (subst (λ (b : Bool). (b || has gs n) ≡ true) w.0 e))
]

confirms-valid : (tag : Option (List ℕ)) (m : Content) → confirms tag m ≡ true → eqb m.code 67 ≡ true
confirms-valid None m e = absurd (false≢true e)
confirms-valid (Some tag) m e = (and_parts (eqb m.code 67) _ (and_parts (is_forwardable m.options) _ e).1).0

pub sent-done : (p q : Peer) (a b : List ℕ) (v w : Option ℕ) → Some (Sent p a v) ≡ Some (Sent q b w) → (p ≡ q) × (a ≡ b) × (v ≡ w)
sent-done p q a b v w e = (cc, cc, cc)

pub heard-done : (p q : Peer) (a b : List ℕ) → Some (Heard p a) ≡ Some (Heard q b) → (p ≡ q) × (a ≡ b)
heard-done p q a b e = (cc, cc)

pub asked-done : (c d : ℕ) (a b : Ask) → Some (Asked c a) ≡ Some (Asked d b) → (c ≡ d) × (a ≡ b)
asked-done c d a b e = (cc, cc)

sent-not-asked : (p : Peer) (b : List ℕ) (w : Option ℕ) (c : ℕ) (a : Ask) → Some (Sent p b w) ≡ Some (Asked c a) → ⊥
sent-not-asked p b w c a e = cc

heard-not-asked : (p : Peer) (b : List ℕ) (c : ℕ) (a : Ask) → Some (Heard p b) ≡ Some (Asked c a) → ⊥
heard-not-asked p b c a e = cc

sent-not-heard : (p : Peer) (b : List ℕ) (w : Option ℕ) (q : Peer) (c : List ℕ) → Some (Sent p b w) ≡ Some (Heard q c) → ⊥
sent-not-heard p b w q c e = cc

module _ (t : ℕ) (S : State) (kept : Kept S) where
  abbrev l : List Noted
  l = kept.reading

  abbrev reads : Reads l S
  reads = kept.rests.reads

  abbrev gs : List ℕ
  gs = carried_numbers (taken t S)

  -- an entry as the reading has it
  pub entry-in : (n : ℕ) (x : Noted) → at l n ≡ Some x → slice_get S.entries n ≡ Some x.written
  entry-in n x e = subst (λ (ws : List Written). slice_get ws n ≡ Some x.written) reads.entries_are (at-entries l n x e)

  pub done-in : (n : ℕ) (x : Noted) → at l n ≡ Some x → done_at S.entries n ≡ done_of x.written.deed
  done-in n x e = ap (option_and_then (λ (w : Written). done_of w.deed)) (entry-in n x e)

  -- What a 2.03 renewed isn't carried over.
  renewed-not : (q : CoapRequest) (s : Stored) → IsRenewed l q s → list_all (is_piece_at S.entries) s.list ≡ true → ⊥
  renewed-not q s a pieces =
      let r : Reply = a.renewal.reply in
      let o : ℕ = a.renewal.opening in
      let fits = replies-fit l o r reads.legal (renewed-of l o a.ending a.renewal.kept r a.renewal.ended) in
      let was = ends-renewed l o a.ending a.renewal.kept r a.renewal.ended in
      let heard : heard_in S.entries r.number ≡ read_as r.number (Ok r.message) =
      ap (option_and_then (λ (w : Written). heard_by r.number w.deed)) (entry-in r.number _ fits.heard)
      ∙ ap (read_as r.number) (message_again r.message fits.bytes fits.spelled) in
      let last = last-passes (is_piece_at S.entries) a.renewal.kept.list r.number
      (subst (λ (js : List ℕ). list_all (is_piece_at S.entries) js ≡ true) a.list pieces) in
      let valid = confirms-valid a.renewal.kept.response.etag r.message was.turned.tells in
      false≢true (sym (ap (λ (o : Option Reply). not (is_valid o)) heard ∙ ap not valid) ∙ last)

  pub as-heard : (b : Backed) (k : IsTaken t S l b) → IsAsHeard l k.pair.request b.pair.stored
  as-heard b k = by k.pair.stored
    where
      by : IsStored l k.pair.request b.pair.stored → IsAsHeard l k.pair.request b.pair.stored
      by (inl a) = heard-of l k.pair.request b.pair.stored a
      by (inr a) =
          absurd (renewed-not k.pair.request b.pair.stored a (and_parts (list_all (is_piece_at S.entries) b.pair.stored.list) _ (and_parts (is_fresh t b.pair.stored) _ k.may).1).0)

  -- what backs it was asked in the entry of its opening
  record OpensAt (n : ℕ) : Type 0 where
    conn : ℕ
    ask : Ask
    is : done_at S.entries n ≡ Some (Asked conn ask)

  opens-at : (b : Backed) (k : IsTaken t S l b) → OpensAt b.pair.stored.opening
  opens-at b k = by (as-heard b k)
    where
      by : IsAsHeard l k.pair.request b.pair.stored → OpensAt b.pair.stored.opening
      by (inl is) =
          let shared = shared-is l k.pair.request is.opening is.shared in
          let back = ask-behind l is.opening shared.exchange reads.legal shared.opened in
          record { conn = back.conn; ask = back.ask; is = ap (done_at S.entries) (is.origin ∙ back.is) ∙ done-in back.number _ back.asked.stands }
      by (inr is) =
          let ask = carried-at l is.opening is.carries.exchange is.carries.asked in
          record { conn = ask.conn; ask = ask.ask; is = ap (done_at S.entries) is.origin ∙ done-in is.opening _ ask.stands }

  -- an entry of which a copy is a ground
  ground-of : (n : ℕ) → has gs n ≡ true
      → (b : Backed) × IsTaken t S l b × ((b.pair.stored.opening ≡ n)
      ⊎ (WasSent S.entries n ⊎ (WasHeardIn S.entries n × (has b.pair.stored.list n ≡ true))))
  ground-of n e =
      let all = all-few t S l [] (backed t S S.store) (all-backed t S l S.store reads.store_is.pairs) in
      let it = carried-has t S l (taken t S) n all e in
      (it.0, it.1, backing-has S.entries it.0.pair.stored it.0.numbers n it.1.backs it.2)

  -- it is that of an ask
  pub asked-ground : (n c : ℕ) (a : Ask) → has gs n ≡ true → done_at S.entries n ≡ Some (Asked c a)
      → (b : Backed) × IsTaken t S l b × (b.pair.stored.opening ≡ n)
  asked-ground n c a e is =
      let it = ground-of n e in
      elim it.2 [
        | inl same ↦ (it.0, it.1, same)
        | inr other ↦ elim other [
          | inl x ↦ absurd (sent-not-asked x.peer x.bytes x.timeout c a (sym x.is ∙ is))
          | inr x ↦ absurd (heard-not-asked x.0.peer x.0.bytes c a (sym x.0.is ∙ is))
        ]
      ]

  -- or of a reply
  pub heard-ground : (n : ℕ) (p : Peer) (d : List ℕ) → has gs n ≡ true → done_at S.entries n ≡ Some (Heard p d)
      → (b : Backed) × IsTaken t S l b × Contains b.pair.stored.list n
  heard-ground n p d e is =
      let it = ground-of n e in
      elim it.2 [
        | inl same ↦
            let o = opens-at it.0 it.1 in
            absurd (heard-not-asked p d o.conn o.ask (sym is ∙ (ap (done_at S.entries) (sym same) ∙ o.is)))
        | inr other ↦ elim other [
          | inl x ↦ absurd (sent-not-heard x.peer x.bytes x.timeout p d (sym x.is ∙ is))
          | inr x ↦ (it.0, it.1, has-among it.0.pair.stored.list n x.1)
        ]
      ]
