-- A whole response has few pieces, so that what is told of it isn't long.
use Rattle.std.proofs.Common.{◌≡◌, ℕ, ◌+◌, ◌*◌, ◌≤◌, Bool, true, false, not, cond, eqb, ltb, leb, inl, inr, List, [], ◌∷◌, ◌++◌, length, Option, Some, None, refl, sym, ap, subst, ◌∙◌, arith, length-append, suc, zero, append-nil, ◌<◌}
use Rattle.std.specs.Prelude.{◌&&◌, is_some, filter}
use Rattle.std.specs.List.{list_all}
use Rattle.std.proofs.lemmas.Bool.{false≢true, and_parts, ltb-false}
use Rattle.std.proofs.lemmas.Bool.Decides.{eqb_tells}
use Rattle.std.proofs.lemmas.List.{length-map}
use Rattle.std.proofs.lemmas.Nat.{pow-add, pow_pos}
use Rattle.coap_codec.specs.Spelling.{Content}
use Rattle.coap_codec.specs.Recognition.{is_forwardable}
use Rattle.coap_codec.specs.declared.block.Block.{Block}
use Rattle.blockwise.specs.Reading.{block_in, size_of, offset_in}
use Rattle.blockwise.specs.Downloads.{PiecesValue, differs, is_sized, is_no_larger, fits_blocks, fault_of, step_of, judged_by, with_piece, DownloadValue, nothing, pieces_of, adds_by, taken_by, given_by, given}
use Rattle.blockwise.specs.Uploads.{UploadValue, begun, answer_to, next_of}
use Rattle.blockwise.specs.declared.upload.Answered.{Answered}
use Rattle.blockwise.specs.declared.upload.Answered.TheVariants as A
use Rattle.blockwise.proofs.CallerLemmas.{more_left, next_continues}
use Rattle.blockwise.specs.declared.fault.BlockFault.{BlockFault}
use Rattle.blockwise.specs.declared.fault.BlockFault.TheVariants.{Changed, Size, Gap, TooLarge}
use Rattle.cache_key.specs.Keys.{same_key}
use Rattle.ask_model.specs.Requests.{CoapRequest}
use Rattle.ask_model.specs.Sharing.{asked_key, asks_same, is_get}
use Rattle.history_laws.specs.Exchanges.{Begun, begun as begun_in}
use Rattle.history_laws.specs.Joining.{asks_the_same}
use Rattle.journal_book.specs.Entries.{grounds_size}
use Rattle.history_laws.specs.Readings.{Noted, at, before}
use Rattle.history_laws.specs.Responses.{Response, is_tellable, joined, whole_by, whole_fetched, whole_given, whole_of}
use Rattle.history_laws.specs.Progress.{Reply, numbers, messages, Ending, Whole, NotUnderstood, Reset, TimedOut, Turned, Renewed}
use Rattle.history_laws.specs.Justified.{Ends, Legal}
use Rattle.history_laws.specs.Storing.{ComesSo, IsBrought, IsStored, IsAsHeard, IsRenewal, is_valid_in, pieces_in, renewed_list}
use Rattle.history_laws.proofs.CallerLemmas.{ends-all, first-whole, none-some, begun-below, ends-renewed, heard-of, legal-before, length-before, renewed-of, RenewsFor, replies-fit}
use Rattle.resp_cache.specs.Stored.{Stored}
use Rattle.exchange_model.specs.declared.kept.Reader.{Reader}
use Rattle.exchange_model.specs.Calls.{grounds_for}
use Rattle.std.proofs.lemmas.List.Sums.{length-filter, count_by-le-length}
use Rattle.std.proofs.lemmas.List.Elements.{filter-append}
use Rattle.exchange_model.proofs.Renewals.{renewal-for, says-valid}

-- what holds of a piece that may be the next one
faultless : (a p r d : Bool) → cond a (Some Changed) (cond (not p) (Some Size) (cond (not r) (Some Gap) (cond d (Some TooLarge) None))) ≡ None
    → (p ≡ true) × (d ≡ false)
faultless true p r d e = absurd cc
faultless false false r d e = absurd cc
faultless false true false d e = absurd cc
faultless false true true true e = absurd cc
faultless false true true false e = (refl, refl)

large : (szx : ℕ) → 16 ≤ size_of szx
large szx = let split = pow-add 2 szx 4 in let some = pow_pos szx in omega (arith, split, some)

-- A piece that others follow has 16 bytes or more.
full : (p : PiecesValue) (b : Block) (len : ℕ) → b.more ≡ true → fits_blocks p (Some b) len ≡ true → 16 ≤ len
full p b len more e =
    let sized : cond b.more (eqb len (size_of b.szx)) (leb len (size_of b.szx)) ≡ true = (and_parts (is_sized (Some b) len) (is_no_larger (Some b) p.szx) e).0 in
    let same : eqb len (size_of b.szx) ≡ true = ap (λ (c : Bool). cond c (eqb len (size_of b.szx)) (leb len (size_of b.szx))) (sym more) ∙ sized in
    elim (eqb_tells len (size_of b.szx)) [
      | inl w ↦ let is = w.1 in let many = large b.szx in omega (arith, is, many)
      | inr w ↦ absurd (false≢true (sym w.0 ∙ same))
    ]

pub given-few : (d : DownloadValue) (ms : List Content) (body : List ℕ) → given d ms ≡ Some body → length d.bytes + 16 * length ms ≤ 65552
given-few d [] body e = absurd cc
given-few d (m ∷ ms) body e = judged (fault_of (pieces_of d) m) refl e (λ f k. given-few f ms body k)
  where
    p : PiecesValue
    p = pieces_of d

    bytes : List ℕ
    bytes = d.bytes ++ m.payload

    more : length bytes ≡ length d.bytes + length m.payload
    more = length-append d.bytes m.payload

    last : length d.bytes + length m.payload ≤ 65536 → (ns : List Content) → ns ≡ ms → given_by (taken_by (adds_by (judged_by None (step_of None)) (with_piece p m)) bytes) (λ (e : DownloadValue). given e ns) ns ≡ Some body
        → length d.bytes + 16 * length (m ∷ ms) ≤ 65552
    last short [] same k = let none = ap (λ (v : List Content). length v) same in omega (arith, short, none)
    last short (n ∷ ns) same k = absurd cc

    judged : (v : Option BlockFault) → fault_of p m ≡ v
        → given_by (taken_by (adds_by (judged_by v (step_of (block_in 23 m))) (with_piece p m)) bytes) (λ (e : DownloadValue). given e ms) ms ≡ Some body
        → ((f : DownloadValue) → given f ms ≡ Some body → length f.bytes + 16 * length ms ≤ 65552)
        → length d.bytes + 16 * length (m ∷ ms) ≤ 65552
    judged (Some fault) is k later = absurd cc
    judged None is k later = by (block_in 23 m) refl k
      where
        fine : (fits_blocks p (block_in 23 m) (length m.payload) ≡ true) × (ltb 65536 (p.len + length m.payload) ≡ false)
        fine = faultless (differs p.of m) (fits_blocks p (block_in 23 m) (length m.payload)) (eqb (offset_in (block_in 23 m)) p.len) (ltb 65536 (p.len + length m.payload)) is

        short : length d.bytes + length m.payload ≤ 65536
        short = let le = ltb-false _ _ fine.1 in omega (arith, le)

        by : (b : Option Block) → block_in 23 m ≡ b
            → given_by (taken_by (adds_by (judged_by None (step_of b)) (with_piece p m)) bytes) (λ (e : DownloadValue). given e ms) ms ≡ Some body
            → length d.bytes + 16 * length (m ∷ ms) ≤ 65552
        by None at k = last short ms refl k
        by (Some b) at k = goes b.more refl k
          where
            goes : (c : Bool) → b.more ≡ c
                → given_by (taken_by (adds_by (judged_by None (step_of (Some (record b { more = c })))) (with_piece p m)) bytes) (λ (e : DownloadValue). given e ms) ms ≡ Some body
                → length d.bytes + 16 * length (m ∷ ms) ≤ 65552
            goes false is_last k = last short ms refl k
            goes true follows k =
                let rest = later (record { of = (with_piece p m).of; bytes = bytes; szx = (with_piece p m).szx }) k in
                let sixteen = full p b (length m.payload) follows (ap (λ (v : Option Block). fits_blocks p v (length m.payload)) (sym at) ∙ fine.0) in
                omega (arith, rest, sixteen, more)

-- By each reply to a piece of a body but the last 16 bytes or more were taken.
given-room : (u : UploadValue) (ms : List Content) (w : Response) → whole_given u ms ≡ Some w → u.taken ≤ u.len → u.taken + 16 * length ms ≤ u.len + 16
given-room u [] w e le = absurd (none-some w e)
given-room u (m ∷ ms) w e le = by (is_forwardable m.options) (answer_to u m) refl e (λ f more. given-room (next_of u m) ms w f more)
  where
    last : (ns : List Content) → ns ≡ ms → whole_by A.Last m ns (whole_given (next_of u m) ms) ≡ Some w → u.taken + 16 * length (m ∷ ms) ≤ u.len + 16
    last [] same f = let none = ap (λ (v : List Content). length v) same in omega (arith, none, le)
    last (n ∷ ns) same f = absurd (none-some w f)

    by : (b : Bool) (how : Answered) → answer_to u m ≡ how → cond b (whole_by how m ms (whole_given (next_of u m) ms)) None ≡ Some w
        → (whole_given (next_of u m) ms ≡ Some w → u.taken + size_of u.szx ≤ u.len → u.taken + size_of u.szx + 16 * length ms ≤ u.len + 16)
        → u.taken + 16 * length (m ∷ ms) ≤ u.len + 16
    by true A.Next is f later =
        let more = more_left u.len (u.taken + size_of u.szx) (next_continues u m is).before_last in
        let rest = later f (omega (arith, more)) in
        let sixteen = large u.szx in
        omega (arith, rest, sixteen)
    by true A.Last is f later = last ms refl f
    by true A.Wrong is f later = absurd (none-some w f)
    by false how is f later = absurd (none-some w f)

pub whole-few : (q : CoapRequest) (ms : List Content) (w : Response) → (eqb q.method 1 ≡ false → length q.body ≤ 65536) → whole_of q ms ≡ Some w
    → length ms ≤ 4097
whole-few q [] w short e = absurd cc
whole-few q (m ∷ ms) w short e = by (eqb q.method 1) refl e
  where
    fetched : (b : Bool) (v : Option (List ℕ)) → given nothing (m ∷ ms) ≡ v → cond (b && is_some v) (Some (joined m ms)) None ≡ Some w → length (m ∷ ms) ≤ 4097
    fetched false v is k = absurd cc
    fetched true None is k = absurd cc
    fetched true (Some body) is k = let few = given-few nothing (m ∷ ms) body is in omega (arith, few)

    by : (b : Bool) → eqb q.method 1 ≡ b → cond b (whole_fetched m ms) (whole_given (begun (length q.body) 6) (m ∷ ms)) ≡ Some w → length (m ∷ ms) ≤ 4097
    by true is k = fetched (list_all is_tellable (m ∷ ms)) (given nothing (m ∷ ms)) refl k
    by false is k =
        let room = given-room (begun (length q.body) 6) (m ∷ ms) w k (omega arith) in
        let limit = short is in
        omega (arith, room, limit)

alike-get : (q r : CoapRequest) → asks_same q r ≡ true → eqb r.method 1 ≡ true
alike-get q r e =
    let b = and_parts (is_get q) (is_get r && same_key (asked_key q) (asked_key r)) e in
    let c = and_parts (is_get r) (same_key (asked_key q) (asked_key r)) b.1 in
    (and_parts (eqb r.method 1) _ c.0).0

-- An exchange is for a GET, or for a body within its limit.
abbrev pub IsShortFor : List Noted → ℕ → Type 0
IsShortFor l o = (b : Begun) → begun_in l o ≡ Some b → eqb b.request.method 1 ≡ false → length b.request.body ≤ 65536

pub ends-few : (l : List Noted) (o e : ℕ) (w : Response) (rs : List Reply) → Legal l → IsShortFor l o → Ends l o e (Whole w rs) → length (numbers rs) ≤ 4097
ends-few l o e w rs legal short h =
    let it = ends-all l o e w rs legal h in
    let few = whole-few it.exchange.request (messages rs) w (short it.exchange it.opened) it.whole in
    let one = length-map rs (λ (r : Reply). r.message) in
    let two = length-map rs (λ (r : Reply). r.number) in
    omega (arith, few, one, two)

-- Of what is renewed few pieces are told.
abbrev pub TellsFew : Ending → Type 0
TellsFew (Renewed s u) = length s.list ≤ 4097
TellsFew how = Unit {0}

-- and few are whole
abbrev pub WholeOfFew : Ending → Type 0
WholeOfFew (Whole w rs) = length (numbers rs) ≤ 4097
WholeOfFew how = Unit {0}

-- so of what an exchange ended with
pub ends-brief : (n : ℕ) (how : Ending) (sending : Option ℕ) (r : Reader) → WholeOfFew how → TellsFew how → grounds_size (grounds_for how n sending r) ≤ 16392
ends-brief n (Whole w rs) sending r few tells = omega (arith, few)
ends-brief n (Renewed s u) sending r few tells =
    let more = length-append s.list (u.number ∷ []) in
    omega (arith, tells, more)
ends-brief n NotUnderstood sending r few tells = omega arith
ends-brief n Reset sending r few tells = omega arith
ends-brief n TimedOut sending r few tells = omega arith
ends-brief n Turned sending r few tells = omega arith

-- and of what is stored
brought-few : (l : List Noted) (q : CoapRequest) (s : Stored) → Legal l → IsBrought l q s → length s.list ≤ 4097
brought-few l q s legal a =
    let few = by a.comes in
    let same = ap (λ (js : List ℕ). length js) a.list in
    omega (arith, few, same)
  where
    get : IsShortFor l a.opening
    get b opened write =
        let both = and_parts (asks_the_same q (begun_in l a.opening)) _ a.shared in
        absurd (false≢true (sym write ∙ alike-get q b.request (subst (λ (v : Option Begun). asks_the_same q v ≡ true) opened both.0)))

    -- a notification is one message
    by : ComesSo l a.opening a.ending s.response (a.first ∷ a.more) → length (numbers (a.first ∷ a.more)) ≤ 4097
    by (inl so) = ends-few l a.opening a.ending s.response (a.first ∷ a.more) legal get so.ended
    by (inr told) =
        let one = ap (λ (rs : List Reply). length (numbers rs)) (first-whole a.ending told.sending told.message s.response (a.first ∷ a.more) told.whole) in
        omega (arith, one)

heard-few : (l : List Noted) (q : CoapRequest) (s : Stored) → Legal l → IsAsHeard l q s → length s.list ≤ 4097
heard-few l q s legal (inl a) = brought-few l q s legal a
heard-few l q s legal (inr a) =
    let rs : List Reply = a.first ∷ a.more in
    let get : eqb a.carries.exchange.request.method 1 ≡ true = alike-get q a.carries.exchange.request a.same in
    let few = whole-few a.carries.exchange.request (messages rs) s.response (λ write. absurd (false≢true (sym write ∙ get))) a.carries.whole in
    let one = length-map rs (λ (r : Reply). r.message) in
    let two = length-map rs (λ (r : Reply). r.number) in
    let same = ap (λ (js : List ℕ). length js) a.list in
    omega (arith, few, one, two, same)

fewer : (f : ℕ → Bool) (js : List ℕ) → length (filter f js) ≤ length js
fewer f js = let is = length-filter f js in let le = count_by-le-length f js in omega (arith, is, le)

-- The 2.03 is none of them.
last-valid : (l : List Noted) (q : CoapRequest) (e : ℕ) → Legal l → (a : IsRenewal l q e) → is_valid_in (at l a.reply.number) ≡ true
last-valid l q e legal a =
    let fits = replies-fit l a.opening a.reply legal (renewed-of l a.opening e a.kept a.reply a.ended) in
    let was = ends-renewed l a.opening e a.kept a.reply a.ended in
    ap is_valid_in fits.heard ∙ says-valid a.kept.response.etag a.reply.message was.turned.tells

pub renewed-pieces-are : (l : List Noted) (q : CoapRequest) (e : ℕ) → Legal l → (a : IsRenewal l q e)
    → pieces_in l (renewed_list a.kept a.reply.number) ≡ pieces_in l a.kept.list
renewed-pieces-are l q e legal a =
    filter-append (λ (j : ℕ). not (is_valid_in (at l j))) a.kept.list (a.reply.number ∷ [])
    ∙ rw (last-valid l q e legal a) (append-nil (pieces_in l a.kept.list))

pub pieces-few : (fuel : ℕ) (l : List Noted) (q : CoapRequest) (s : Stored) → length l < fuel → Legal l → IsStored l q s → length (pieces_in l s.list) ≤ 4097
pieces-few zero l q s lt legal is = absurd (omega (arith, lt))
pieces-few (suc fuel) l q s lt legal (inl it) =
    let few = heard-few l q s legal (heard-of l q s it) in
    let less = fewer (λ (j : ℕ). not (is_valid_in (at l j))) s.list in
    omega (arith, few, less)
pieces-few (suc fuel) l q s lt legal (inr it) =
    let f = renewal-for l q it.ending legal it.renewal in
    let o : ℕ = it.renewal.opening in
    let below = begun-below l o f.exchange f.opened in
    let len = length-before l o _ f.renews.stands in
    let few = pieces-few fuel (before l o) f.exchange.request f.renews.stored (omega (arith, lt, below, len)) (legal-before l o legal) f.renews.is in
    let was = ap (λ (v : Stored). length v.list) f.renews.pieces in
    let all = ap (λ (js : List ℕ). length (pieces_in l js)) it.list ∙ ap (λ (js : List ℕ). length js) (renewed-pieces-are l q it.ending legal it.renewal) in
    let less = fewer (λ (j : ℕ). not (is_valid_in (at l j))) it.renewal.kept.list in
    omega (arith, few, was, all, less)

-- So of what an exchange asks about.
pub kept-few : (l : List Noted) (o : ℕ) (b : Begun) (s : Stored) → Legal l → RenewsFor l o b s → length s.list ≤ 4097
kept-few l o b s legal it =
    let few = pieces-few (suc (length (before l o))) (before l o) b.request it.stored (omega arith) (legal-before l o legal) it.is in
    let same = ap (λ (v : Stored). length v.list) it.pieces in
    omega (arith, few, same)

pub stored-few : (l : List Noted) (q : CoapRequest) (s : Stored) → Legal l → IsStored l q s → length s.list ≤ 4098
stored-few l q s legal (inl it) = let few = heard-few l q s legal (heard-of l q s it) in omega (arith, few)
stored-few l q s legal (inr it) =
    let f = renewal-for l q it.ending legal it.renewal in
    let few = kept-few l it.renewal.opening f.exchange it.renewal.kept legal f.renews in
    let all = ap (λ (js : List ℕ). length js) it.list in
    let more = length-append it.renewal.kept.list (it.renewal.reply.number ∷ []) in
    omega (arith, few, all, more)
