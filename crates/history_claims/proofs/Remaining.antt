-- A message of a write that isn't its first one has some of the body left to bring, and each says whether more follows.
use Rattle.std.proofs.Common.{◌≡◌, ◌≢◌, ◌⊎◌, inl, inr, ℕ, ◌+◌, ◌*◌, ◌/◌, ◌<◌, ◌≤◌, Bool, true, false, cond, eqb, List, [], ◌∷◌, ◌++◌, length, Option, Some, None, refl, sym, ap, subst, ◌∙◌, arith}
use Rattle.std.specs.Prelude.{fold, is_none, is_some, ◌&&◌, not, nat_le, nat_lt}
use Rattle.std.proofs.Math.Nat.{div-mul-le_self, zero-mul}
use Rattle.std.proofs.lemmas.Bool.{false≢true, and_parts, leb-true, ltb-false, ltb-true}
use Rattle.coap_codec.specs.Spelling.{Content}
use Rattle.coap_codec.specs.Recognition.{is_forwardable}
use Rattle.coap_codec.specs.declared.block.Block.{Block}
use Rattle.uri_map.specs.declared.peer.Peer.{Peer}
use Rattle.blockwise.specs.Reading.{block_in, offset_in, size_of}
use Rattle.blockwise.specs.Downloads.{no_pieces}
use Rattle.blockwise.specs.Uploads.{UploadValue, IsAligned, begun as begun_as, answer_to, block_at, is_last, next_block, next_of}
use Rattle.blockwise.specs.declared.upload.Answered.{Answered}
use Rattle.blockwise.specs.declared.upload.Answered.TheVariants as A
use Rattle.blockwise.proofs.CallerLemmas.{more_left, next_continues, next_szx-le, one_block_more, whole_number}
use Rattle.ask_model.specs.Requests.{CoapRequest, Manner}
use Rattle.history_laws.specs.Readings.{Noted, before}
use Rattle.history_laws.specs.Progress.{Reply, NotUnderstood, Progress, Fetches, Gives, Ends, answered_so, progress, next_message, step}
use Rattle.history_laws.specs.Exchanges.{Begun, begun, replies, begins_with, heard_for, end_of, goes_to, waits_for}
use Rattle.history_laws.specs.Observing.{manner}
use Rattle.history_laws.specs.Justified.{Legal, MayBeFirst}
use Rattle.history_laws.specs.Laws.{IsFirst, IsSending, brings, block_sent}
use Rattle.history_laws.proofs.CallerLemmas.{at-below, at-still, begun-early, eqb-apart, first-waits, follows-at, legal-before, none-some, past, Past, sends-next, sent-for, write-begins}
use Rattle.history_claims.specs.Order.{SaysMore}

-- What was taken of the body are whole blocks; or it ended.
abbrev IsUpload : CoapRequest → UploadValue → Type 0
IsUpload q u = (u.len ≡ length q.body) × (u.szx < 7) × IsAligned u.taken u.szx

abbrev IsGiving : CoapRequest → Progress → Type 0
IsGiving q (Fetches k p got) = ⊥
IsGiving q (Gives u got) = IsUpload q u
IsGiving q (Ends how) = Unit {0}

-- And some of it was taken, and some is left.
abbrev HasLeft : CoapRequest → Progress → Type 0
HasLeft q (Fetches k p got) = ⊥
HasLeft q (Gives u got) = IsUpload q u × (u.taken < u.len)
HasLeft q (Ends how) = Unit {0}

upload-first : (q : CoapRequest) → IsUpload q (begun_as (length q.body) 6)
upload-first q = (refl, omega arith, record { num = 0; blocks = sym (zero-mul (size_of 6)) })

upload-next : (q : CoapRequest) (u : UploadValue) (m : Content) → IsUpload q u → IsUpload q (next_of u m)
upload-next q u m h =
    let le = next_szx-le (block_in 27 m) u.szx in
    (h.0, let small = h.1 in omega (arith, le, small), one_block_more u.taken u.szx _ le h.2)

-- By a reply after which it goes on a piece before the last was taken.
left-by : (q : CoapRequest) (b : Bool) (how : Answered) (u : UploadValue) (got : List Reply) (r : Reply) → IsUpload q u → answer_to u r.message ≡ how
    → HasLeft q (cond b (answered_so how u got r) (Ends NotUnderstood))
left-by q true A.Next u got r h is = (upload-next q u r.message h, more_left u.len (u.taken + size_of u.szx) (next_continues u r.message is).before_last)
left-by q true A.Last u got r h is = tt
left-by q true A.Wrong u got r h is = tt
left-by q false how u got r h is = tt

left-step : (q : CoapRequest) (u : UploadValue) (got : List Reply) (r : Reply) → IsUpload q u → HasLeft q (step (Gives u got) r)
left-step q u got r h = left-by q (is_forwardable r.message.options) (answer_to u r.message) u got r h refl

left-next : (q : CoapRequest) (p : Progress) (r : Reply) → HasLeft q p → HasLeft q (step p r)
left-next q (Fetches k p got) r h = absurd h
left-next q (Gives u got) r h = left-step q u got r h.0
left-next q (Ends how) r h = tt

left-all : (q : CoapRequest) (rs : List Reply) (p : Progress) → HasLeft q p → HasLeft q (fold step p rs)
left-all q [] p h = h
left-all q (r ∷ rs) p h = left-all q rs (step p r) (left-next q p r h)

-- So it is once a reply came.
left-after : (q : CoapRequest) (rs : List Reply) → eqb q.method 1 ≡ false → 0 < length rs → HasLeft q (progress q rs)
left-after q [] write more = absurd (omega (arith, more))
left-after q (r ∷ rs) write more =
    subst (λ (get : Bool). HasLeft q (fold step (cond get (Fetches 0 no_pieces []) (Gives (begun_as (length q.body) 6) [])) (r ∷ rs))) (sym write)
    (left-all q rs (step (Gives (begun_as (length q.body) 6) []) r) (left-step q (begun_as (length q.body) 6) [] r (upload-first q)))

still-giving : (q : CoapRequest) (p : Progress) → HasLeft q p → IsGiving q p
still-giving q (Fetches k p got) h = h
still-giving q (Gives u got) h = h.0
still-giving q (Ends how) h = h

gives-so : (q : CoapRequest) (rs : List Reply) → eqb q.method 1 ≡ false → IsGiving q (progress q rs)
gives-so q [] write = subst (λ (get : Bool). IsGiving q (cond get (Fetches 0 no_pieces []) (Gives (begun_as (length q.body) 6) []))) (sym write) (upload-first q)
gives-so q (r ∷ rs) write = still-giving q (progress q (r ∷ rs)) (left-after q (r ∷ rs) write (omega arith))

-- The next block begins in what is left.
offset-below : (u : UploadValue) → offset_in (next_block u) ≤ u.taken
offset-below u = by (eqb u.taken 0) (is_last u)
  where
    by : (none last : Bool) → offset_in (cond (none && last) None (Some (block_at u))) ≤ u.taken
    by true true = omega arith
    by true false = div-mul-le_self u.taken (size_of u.szx)
    by false last = div-mul-le_self u.taken (size_of u.szx)

begins-below : (q : CoapRequest) (p : Progress) (f : Manner) (m : Content) → HasLeft q p → next_message f q p m.mid m.token ≡ Some m
    → offset_in (brings p) < length q.body
begins-below q (Fetches k p got) f m h next = absurd h
begins-below q (Gives u got) f m h next =
    let le = offset-below u in
    let len = h.0.0 in
    let left = h.1 in
    omega (arith, le, len, left)
begins-below q (Ends how) f m h next = absurd (none-some m next)

-- It says whether more follows.
not-most : (a b : ℕ) → not (nat_le a b) ≡ nat_lt b a
not-most a b = by (nat_le a b) refl (nat_lt b a) refl
  where
    by : (x : Bool) → nat_le a b ≡ x → (y : Bool) → nat_lt b a ≡ y → not x ≡ y
    by true e true f = let le = leb-true a b e in let lt = ltb-true b a f in absurd (omega (arith, le, lt))
    by true e false f = refl
    by false e true f = refl
    by false e false f = let lt = more_left a b e in let le = ltb-false b a f in absurd (omega (arith, lt, le))

block-says : (q : CoapRequest) (u : UploadValue) → IsUpload q u → SaysMore (Some (block_at u)) q.body
block-says q u h =
    let number : (block_at u).num * size_of u.szx ≡ u.taken = whole_number u.taken u.szx h.1 h.2 in (
      h.1,
      not-most u.len (u.taken + size_of u.szx)
          ∙ (ap (λ (n : ℕ). nat_lt (u.taken + size_of u.szx) n) h.0
          ∙ ap (λ (n : ℕ). nat_lt (n + size_of u.szx) (length q.body)) (sym number)),
    )

upload-says : (q : CoapRequest) (u : UploadValue) → IsUpload q u → SaysMore (next_block u) q.body
upload-says q u h = by (eqb u.taken 0) (is_last u)
  where
    by : (none last : Bool) → SaysMore (cond (none && last) None (Some (block_at u))) q.body
    by true true = tt
    by true false = block-says q u h
    by false last = block-says q u h

brings-says : (q : CoapRequest) (p : Progress) → IsGiving q p → SaysMore (brings p) q.body
brings-says q (Fetches k p got) h = absurd h
brings-says q (Gives u got) h = upload-says q u h
brings-says q (Ends how) h = tt

-- the entry i first sent a message of the write
module _ (l : List Noted) (o : ℕ) (b : Begun) (legal : Legal l) (opened : begun l o ≡ Some b) (write : b.request.method ≢ 1) (i : ℕ) (sends : IsSending l o i) where
  its : IsFirst l sends.0 o i sends.1 sends.2
  its = sends.3

  may : MayBeFirst (before l i) sends.0 o sends.1 its.bytes sends.2 its.timeout
  may = (follows-at l i _ legal its.stands).1.1

  no_get : eqb b.request.method 1 ≡ false
  no_get = eqb-apart b.request.method 1 write

  heard-so : heard_for (before l i) o ≡ replies (before l i) o
  heard-so = ap (λ (bs : List Reply). bs ++ replies (before l i) o) (write-begins (before l i) o b (legal-before l i legal) early no_get)
    where
      early : begun (before l i) o ≡ Some b
      early = begun-early l i o b (at-below l i _ its.stands) opened (sent-for l sends.0 o i sends.1 sends.2 legal its).after

  pub says-more : SaysMore (block_sent l o b.request i) b.request.body
  says-more =
      brings-says b.request (progress b.request (heard_for (before l i) o))
      (subst (λ (rs : List Reply). IsGiving b.request (progress b.request rs)) (sym heard-so) (gives-so b.request (replies (before l i) o) no_get))

  -- After what was sent for it before, a reply came.
  module _ (j : ℕ) (earlier : IsSending l o j) (lt : j < i) where
    first : IsFirst (before l i) earlier.0 o j earlier.1 earlier.2
    first =
        let f : IsFirst l earlier.0 o j earlier.1 earlier.2 = earlier.3 in
        record { bytes = f.bytes; timeout = f.timeout; stands = at-still l i j _ _ its.stands lt f.stands }

    replied-since : 0 < length (replies (before l i) o)
    replied-since = by (past (before l i) earlier.0 o j earlier.1 earlier.2 first)
      where
        free : (is_none (end_of (before l i) o) ≡ true) × (is_none (waits_for (before l i) o) ≡ true)
        free =
            and_parts (is_none (end_of (before l i) o)) (is_none (waits_for (before l i) o))
            (and_parts (goes_to sends.1 (begun (before l i) o)) _ (first-waits (before l i) sends.0 o sends.1 its.bytes sends.2 its.timeout may)).1

        waits : (w : Option ℕ) → is_none w ≡ true → is_some w ≡ true → ⊥
        waits None e f = false≢true f
        waits (Some k) e f = false≢true e

        by : Past (waits_for (before l i) o) (end_of (before l i) o) (length (replies (before (before l i) j) o)) (length (replies (before l i) o))
            → 0 < length (replies (before l i) o)
        by (le, inl h) = absurd (waits (waits_for (before l i) o) free.1 h)
        by (le, inr (inl h)) = absurd (false≢true (sym h ∙ free.0))
        by (le, inr (inr more)) = omega (arith, more)

    pub more-left : offset_in (block_sent l o b.request i) < length b.request.body
    more-left =
        let next = sends-next l sends.0 o i sends.1 sends.2 b legal its opened in
        let left : HasLeft b.request (progress b.request (heard_for (before l i) o)) =
        subst (λ (rs : List Reply). HasLeft b.request (progress b.request rs)) (sym heard-so)
        (left-after b.request (replies (before l i) o) no_get replied-since) in
        begins-below b.request (progress b.request (heard_for (before l i) o)) (manner (before l i) o) sends.2 left next
