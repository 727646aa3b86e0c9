-- The first sendings of a write bring its body piece by piece.
use Rattle.std.proofs.Common.{◌≡◌, ◌≢◌, ◌⊎◌, inl, inr, ℕ, ◌+◌, ◌*◌, ◌<◌, Bool, true, false, cond, eqb, List, [], ◌∷◌, ◌++◌, length, take, drop, Option, Some, None, refl, sym, ap, subst, ◌∙◌, arith, length-append, length-drop}
use Rattle.std.specs.Prelude.{fold, is_none, ◌&&◌}
use Rattle.std.proofs.Math.Nat.{zero-mul}
use Rattle.std.proofs.lemmas.Bool.{false≢true, and_parts}
use Rattle.std.proofs.lemmas.Bool.Decides.{eqb_tells, leb_tells}
use Rattle.std.proofs.lemmas.List.{length-take}
use Rattle.std.proofs.lemmas.List.Sums.{fold-append}
use Rattle.coap_codec.specs.Spelling.{Content}
use Rattle.coap_codec.specs.Recognition.{is_forwardable}
use Rattle.coap_codec.specs.declared.block.Block.{Block}
use Rattle.uri_map.specs.declared.peer.Peer.{Peer}
use Rattle.blockwise.specs.Reading.{offset_in, size_of}
use Rattle.blockwise.specs.Uploads.{UploadValue, IsAligned, begun as begun_as, answer_to, block_at, is_last, next_block, next_of}
use Rattle.blockwise.specs.declared.upload.Answered.{Answered}
use Rattle.blockwise.specs.declared.upload.Answered.TheVariants as A
use Rattle.blockwise.proofs.CallerLemmas.{more_left, next_continues, next_szx-le, one_block_more, slice_is_next, whole_number}
use Rattle.ask_model.specs.Requests.{CoapRequest, block_message, carried_by}
use Rattle.history_laws.specs.Readings.{Noted, before}
use Rattle.history_laws.specs.Progress.{Reply, messages, NotUnderstood, Progress, Fetches, Gives, Ends, answered_so, progress, next_message, step}
use Rattle.history_laws.specs.Exchanges.{Begun, begun, replies, heard_for, End, end_of, goes_to, waits_for}
use Rattle.history_laws.specs.Observing.{manner}
use Rattle.history_laws.specs.Justified.{Legal, MayBeFirst}
use Rattle.history_laws.specs.Laws.{IsFirst, IsSending, IsPart, block_sent, brings, bytes_sent}
use Rattle.history_laws.proofs.Copying.{at-still, before-twice}
use Rattle.history_laws.proofs.Facts.{IsFirst-below, at-before, eqb-apart, follows-at, legal-before, length-before}
use Rattle.history_laws.proofs.Fetching.{CameTo, messages-push, progress-push, upload_in}
use Rattle.history_laws.proofs.Going.{goes-so, GoesSo, IsGoing}
use Rattle.history_laws.proofs.Members.{first-waits}
use Rattle.history_laws.proofs.Order.{came-next, write-begins}
use Rattle.history_laws.proofs.Quiet.{sends-next}
use Rattle.history_laws.proofs.Resting.{some-is}
use Rattle.history_laws.proofs.Sent.{begun-before, first-more}

-- how much of the body was taken

upload-push : (q : CoapRequest) (rs : List Reply) (r : Reply) → upload_in q (rs ++ r ∷ []) ≡ next_of (upload_in q rs) r.message
upload-push q rs r =
    ap (fold next_of (begun_as (length q.body) 6)) (messages-push rs r)
    ∙ fold-append next_of (begun_as (length q.body) 6) (messages rs) (r.message ∷ [])

-- whole blocks of its size
abbrev AreBlocks : UploadValue → Type 0
AreBlocks u = (u.szx < 7) × IsAligned u.taken u.szx

blocks-next : (u : UploadValue) (m : Content) → AreBlocks u → AreBlocks (next_of u m)
blocks-next u m h =
    let le = next_szx-le _ u.szx in
    (let small = h.0 in omega (arith, le, small), one_block_more u.taken u.szx _ le h.1)

blocks-all : (ms : List Content) (u : UploadValue) → AreBlocks u → AreBlocks (fold next_of u ms)
blocks-all [] u h = h
blocks-all (m ∷ ms) u h = blocks-all ms (next_of u m) (blocks-next u m h)

blocks-in : (q : CoapRequest) (rs : List Reply) → AreBlocks (upload_in q rs)
blocks-in q rs = blocks-all (messages rs) (begun_as (length q.body) 6) (omega arith, record { num = 0; blocks = sym (zero-mul (size_of 6)) })

len-all : (ms : List Content) (u : UploadValue) → (fold next_of u ms).len ≡ u.len
len-all [] u = refl
len-all (m ∷ ms) u = len-all ms (next_of u m)

-- The next block begins where what was taken ends.
offset-next : (u : UploadValue) → AreBlocks u → offset_in (next_block u) ≡ u.taken
offset-next u h = by (eqb u.taken 0) refl (is_last u)
  where
    number : (block_at u).num * size_of u.szx ≡ u.taken
    number = whole_number u.taken u.szx h.0 h.1

    by : (b : Bool) → eqb u.taken 0 ≡ b → (last : Bool) → offset_in (cond (b && last) None (Some (block_at u))) ≡ u.taken
    by true is true = elim (eqb_tells u.taken 0) [ inl w ↦ sym w.1 | inr w ↦ absurd (false≢true (sym w.0 ∙ is)) ]
    by true is false = number
    by false is last = number

-- Where more follow, it is full.
not-whole : (u : UploadValue) → is_last u ≡ false → next_block u ≡ Some (block_at u)
not-whole u more = by (eqb u.taken 0) (is_last u) more
  where
    by : (b last : Bool) → last ≡ false → cond (b && last) None (Some (block_at u)) ≡ Some (block_at u)
    by true true e = absurd (false≢true (sym e))
    by true false e = refl
    by false last e = refl

full : (u : UploadValue) (method : ℕ) (body : List ℕ) → AreBlocks u → eqb method 1 ≡ false → u.len ≡ length body → is_last u ≡ false
    → length (carried_by method (next_block u) body) ≡ size_of u.szx
full u method body h write len more =
    ap (λ (b : Option Block). length (carried_by method b body)) (not-whole u more)
    ∙ (rw (write) (ap (λ (v : List ℕ). length v) (slice_is_next u body h.0 h.1) ∙ exact))
  where
    exact : length (take (size_of u.szx) (drop u.taken body)) ≡ size_of u.szx
    exact =
        let left = more_left u.len (u.taken + size_of u.szx) more in
        rw (length-take (size_of u.szx) (drop u.taken body), length-drop u.taken body) (omega (arith, left, len))

-- how far a write has come when a message of it goes out

given-so : (q : CoapRequest) (rs : List Reply) (u : Progress) → eqb q.method 1 ≡ false → progress q rs ≡ u → IsGoing u → CameTo q rs u → progress q rs ≡ Gives (upload_in q rs) rs
given-so q rs (Fetches k p got) write is going h = absurd (false≢true (sym write ∙ h.0))
given-so q rs (Gives u got) write is going h =
    is ∙ (ap (λ (v : UploadValue). Gives v got) h.1.is ∙ ap (λ (v : List Reply). Gives (upload_in q v) v) (sym h.1.all))
given-so q rs (Ends how) write is going h = absurd going

-- All that was heard for a write are the replies.
write-heard : (l : List Noted) (o : ℕ) (b : Begun) → Legal l → begun l o ≡ Some b → eqb b.request.method 1 ≡ false → heard_for l o ≡ replies l o
write-heard l o b legal opened write = ap (λ (bs : List Reply). bs ++ replies l o) (write-begins l o b legal opened write)

given-at : (l : List Noted) (o : ℕ) (b : Begun) → Legal l → begun l o ≡ Some b → end_of l o ≡ None → eqb b.request.method 1 ≡ false
    → progress b.request (replies l o) ≡ Gives (upload_in b.request (replies l o)) (replies l o)
given-at l o b legal opened going write =
    let it : GoesSo (Some b) (replies l o) =
    subst (λ (rs : List Reply). GoesSo (Some b) rs) (write-heard l o b legal opened write)
    (subst (λ (b : Option Begun). GoesSo b (heard_for l o)) opened (goes-so l o legal going)) in
    given-so b.request (replies l o) (progress b.request (replies l o)) write refl it.0 it.1

-- By a reply after which it goes on a piece was taken.
taken-so : (b : Bool) (how : Answered) (u v : UploadValue) (got more : List Reply) (r : Reply)
    → cond b (answered_so how u got r) (Ends NotUnderstood) ≡ Gives v more → how ≡ A.Next
taken-so true A.Next u v got more r e = refl
taken-so true A.Last u v got more r e = absurd (cc (e))
taken-so true A.Wrong u v got more r e = absurd (cc (e))
taken-so false how u v got more r e = absurd (cc (e))

-- the last of some replies
last-of : (rs : List Reply) → (rs ≡ []) ⊎ ((ss : List Reply) × (r : Reply) × (rs ≡ ss ++ r ∷ []))
last-of [] = inl refl
last-of (x ∷ rs) = elim (last-of rs) [
  | inl w ↦ inr ([], x, ap (λ (v : List Reply). x ∷ v) w)
  | inr w ↦ inr (x ∷ w.0, w.1, ap (λ (v : List Reply). x ∷ v) w.2)
]

module _ (l : List Noted) (o : ℕ) (b : Begun) (legal : Legal l) (opened : begun l o ≡ Some b) (write : eqb b.request.method 1 ≡ false) where
  abbrev q : CoapRequest
  q = b.request

  -- A later one has more replies before it.
  more-before : (i j : ℕ) → IsSending l o i → IsSending l o j → i < j → length (replies (before l i) o) < length (replies (before l j) o)
  more-before i j f g lt =
      let first : IsFirst l f.0 o i f.1 f.2 = f.3 in
      let second : IsFirst l g.0 o j g.1 g.2 = g.3 in
      let here : IsFirst (before l j) f.0 o i f.1 f.2 = record { bytes = first.bytes; timeout = first.timeout; stands = at-still l j i _ _ second.stands lt first.stands } in
      let may : MayBeFirst (before l j) g.0 o g.1 second.bytes g.2 second.timeout = (follows-at l j _ legal second.stands).1.1 in
      subst (λ (k : List Noted). length (replies k o) < length (replies (before l j) o)) (before-twice l j i _ second.stands lt)
      (first-more (before l j) f.0 g.0 o i f.1 g.1 _ _ f.2 g.2 here may)

  -- where it stands when one goes out
  record Stands (i : ℕ) : Type 0 where
    opened_before : begun (before l i) o ≡ Some b
    given : progress q (replies (before l i) o) ≡ Gives (upload_in q (replies (before l i) o)) (replies (before l i) o)

  stands : (i : ℕ) → IsSending l o i → Stands i
  stands i f =
      let first : IsFirst l f.0 o i f.1 f.2 = f.3 in
      let may : MayBeFirst (before l i) f.0 o f.1 first.bytes f.2 first.timeout = (follows-at l i _ legal first.stands).1.1 in
      let waits = first-waits (before l i) f.0 o f.1 first.bytes f.2 first.timeout may in
      let early : begun (before l i) o ≡ Some b =
      may.opening ∙ ap (λ (c : Begun). Some c) (some-is _ _ (sym (begun-before l i o _ may.opening) ∙ opened)) in
      let none : end_of (before l i) o ≡ None =
      none-is (end_of (before l i) o) (and_parts (is_none (end_of (before l i) o)) (is_none (waits_for (before l i) o))
      (and_parts (goes_to f.1 (begun (before l i) o)) (is_none (end_of (before l i) o) && is_none (waits_for (before l i) o)) waits).1).0 in
      record { opened_before = early; given = given-at (before l i) o b (legal-before l i legal) early none write }
    where
      none-is : (e : Option End) → is_none e ≡ true → e ≡ None
      none-is None h = refl
      none-is (Some e) h = absurd (false≢true h)

  heard-before : (i : ℕ) → Stands i → heard_for (before l i) o ≡ replies (before l i) o
  heard-before i it = write-heard (before l i) o b (legal-before l i legal) it.opened_before write

  -- Its message is that of the block after what was taken.
  pub part-message : (t i : ℕ) (p : Peer) (m : Content) → IsFirst l t o i p m → m ≡ block_message q (block_sent l o q i) m.mid m.token
  part-message t i p m f =
      let it = stands i (t, p, m, f) in
      let next = sends-next l t o i p m b legal f opened in
      let now : progress q (heard_for (before l i) o) ≡ Gives (upload_in q (replies (before l i) o)) (replies (before l i) o) = ap (progress q) (heard-before i it) ∙ it.given in
      let given : next_message (manner (before l i) o) q (Gives (upload_in q (replies (before l i) o)) (replies (before l i) o)) m.mid m.token ≡ Some m =
      ap (λ (u : Progress). next_message (manner (before l i) o) q u m.mid m.token) (sym now) ∙ next in
      sym (some-is _ _ given) ∙ ap (λ (u : Progress). block_message q (brings u) m.mid m.token) (sym now)

  block-is : (i : ℕ) → IsSending l o i → block_sent l o q i ≡ next_block (upload_in q (replies (before l i) o))
  block-is i f = ap brings (ap (progress q) (heard-before i (stands i f)) ∙ (stands i f).given)

  -- It begins where what was taken ends.
  begins-at : (i : ℕ) → IsSending l o i → offset_in (block_sent l o q i) ≡ (upload_in q (replies (before l i) o)).taken
  begins-at i f = ap offset_in (block-is i f) ∙ offset-next (upload_in q (replies (before l i) o)) (blocks-in q (replies (before l i) o))

  -- the first one
  first-part : (i : ℕ) → IsSending l o i → replies (before l i) o ≡ [] → IsPart l o q i
  first-part i f none = inl (
    λ j g. elim (leb_tells i j) [
      | inl w ↦ w.1
      | inr w ↦
          let more = more-before j i g f w.1 in
          let zero_now = ap (λ (v : List Reply). length v) none in
          absurd (omega (arith, more, zero_now))
    ],
    begins-at i f ∙ ap (λ (v : List Reply). (upload_in q v).taken) none,
  )

  -- Each other one follows the one whose reply is the last before it.
  next-part : (i : ℕ) → IsSending l o i → (ss : List Reply) (r : Reply) → replies (before l i) o ≡ ss ++ r ∷ [] → IsPart l o q i
  next-part i f ss r are =
      let it = stands i f in
      let second : IsFirst l f.0 o i f.1 f.2 = f.3 in
      let came = came-next (before l i) o b ss [] r (legal-before l i legal) it.opened_before are in
      let sent : IsFirst (before l i) came.moment o r.sending q.peer came.message = came.first in
      let j : ℕ = r.sending in
      let stands_there = at-before l i j _ sent.stands in
      let below : j < i = subst (λ (n : ℕ). j < n) (length-before l i _ second.stands) (IsFirst-below (before l i) came.moment o j q.peer came.message sent) in
      let g : IsSending l o j = (came.moment, q.peer, came.message, record { bytes = sent.bytes; timeout = sent.timeout; stands = stands_there }) in
      let before_it : replies (before l j) o ≡ ss =
      ap (λ (k : List Noted). replies k o) (sym (before-twice l i j _ second.stands below)) ∙ came.replied in
      let u : UploadValue = upload_in q ss in
      let so : progress q ss ≡ Gives u ss = subst (λ (rs : List Reply). progress q rs ≡ Gives (upload_in q rs) rs) before_it (stands j g).given in
      let goes : step (Gives u ss) r ≡ Gives (upload_in q (replies (before l i) o)) (replies (before l i) o) =
      ap (λ (v : Progress). step v r) (sym so) ∙ (sym (progress-push q ss r) ∙ (ap (progress q) (sym are) ∙ it.given)) in
      let answer : answer_to u r.message ≡ A.Next = taken-so (is_forwardable r.message.options) (answer_to u r.message) u _ ss _ r goes in
      let more : is_last u ≡ false = (next_continues u r.message answer).before_last in
      let blocks = blocks-in q ss in
      let long : bytes_sent l o q j ≡ size_of u.szx =
      ap (λ (b : Option Block). length (carried_by q.method b q.body)) (block-is j g ∙ ap (λ (v : List Reply). next_block (upload_in q v)) before_it)
      ∙ full u q.method q.body blocks write (len-all (messages ss) (begun_as (length q.body) 6)) more in
      let here : offset_in (block_sent l o q j) ≡ u.taken = begins-at j g ∙ ap (λ (v : List Reply). (upload_in q v).taken) before_it in
      let there : offset_in (block_sent l o q i) ≡ u.taken + size_of u.szx =
      begins-at i f ∙ (ap (λ (v : List Reply). (upload_in q v).taken) are ∙ ap (λ (v : UploadValue). v.taken) (upload-push q ss r)) in
      let few : length (replies (before l i) o) ≡ length (replies (before l j) o) + 1 =
      ap (λ (v : List Reply). length v) are ∙ (length-append ss (r ∷ []) ∙ ap (λ (v : List Reply). length v + 1) (sym before_it)) in
      inr (
        j,
        g,
        below,
        λ k h lt. elim (leb_tells k j) [
          | inl w ↦ w.1
          | inr w ↦
              let first_more = more-before j k g h w.1 in
              let then_more = more-before k i h f lt in
              absurd (omega (arith, first_more, then_more, few))
        ],
        omega (arith, here, there, long),
      )

  pub is-part : (i : ℕ) → IsSending l o i → IsPart l o q i
  is-part i f = elim (last-of (replies (before l i) o)) [ inl w ↦ first-part i f w | inr w ↦ next-part i f w.0 w.1 w.2 ]

pub writes-in-order : (l : List Noted) (t o i : ℕ) (p : Peer) (m : Content) (b : Begun) → Legal l → begun l o ≡ Some b → b.request.method ≢ 1
    → IsFirst l t o i p m → (m ≡ block_message b.request (block_sent l o b.request i) m.mid m.token) × IsPart l o b.request i
writes-in-order l t o i p m b legal opened write f =
    let no_get = eqb-apart b.request.method 1 write in
    (part-message l o b legal opened no_get t i p m f, is-part l o b legal opened no_get i (t, p, m, f))
