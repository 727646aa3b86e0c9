-- A download gives a body exactly where its messages are the pieces of one representation.
use Rattle.std.proofs.Common.{◌≡◌, ℕ, ◌+◌, ◌<◌, ◌≤◌, ◌⊎◌, inl, inr, Bool, true, false, not, ◌&&◌, ◌==◌, List, [], ◌∷◌, ◌++◌, length, Option, Some, None, refl, ap, sym, subst, ◌∙◌, cond, arith, rules, nat_le, nat_lt, append_assoc, append-nil, length-append}
use Rattle.std.specs.Bool.{Decides}
use Rattle.std.proofs.lemmas.Bool.{false≢true}
use Rattle.std.proofs.lemmas.Bool.Decides.{Decides-eqb}
use Rattle.std.proofs.lemmas.Slice.Eq.{bytes_eq-Decides}
use Rattle.coap_codec.specs.Spelling.{Content}
use Rattle.coap_codec.specs.declared.block.Block.{Block}
use Rattle.blockwise.specs.Reading.{block_in, size_of, goes_on, offset_in}
use Rattle.blockwise.specs.Representations.{representation_of, same_format, same_tag, same_representation}
use Rattle.blockwise.specs.Downloads.{differs, is_sized, is_no_larger, fault_of, first_of, last_szx, next_block, step_of, DownloadValue, nothing, pieces_of, is_whole, body_by, given}
use Rattle.blockwise.specs.Joins.{IsFull, IsSized, IsNoLarger, IsPiece, AreFollowing, payloads, AreWhole, DownloadsJoin}
use Rattle.blockwise.specs.declared.representation.EntityTag.{EntityTag}
use Rattle.blockwise.specs.declared.representation.Representation.{Representation}
use Rattle.blockwise.specs.declared.fault.BlockFault.{BlockFault}
use Rattle.blockwise.specs.declared.fault.BlockFault.TheVariants.{Changed, Size, Gap, TooLarge}
use Rattle.blockwise.specs.declared.pieces.Step.TheVariants.{Next, Last}

le_decided : (a b : ℕ) → Decides (nat_le a b) (a ≤ b)
le_decided a b = search rules

lt_decided : (a b : ℕ) → Decides (nat_lt a b) (a < b)
lt_decided a b = search rules

full_decided : (more : Bool) (len size : ℕ) → Decides (cond more (len == size) (nat_le len size)) (IsFull more len size)
full_decided true len size = Decides-eqb len size
full_decided false len size = le_decided len size

pub sized_decided : (b : Option Block) (len : ℕ) → Decides (is_sized b len) (IsSized b len)
sized_decided None len = (λ e. tt, λ h. refl)
sized_decided (Some b) len = full_decided b.more len (size_of b.szx)

smaller_decided : (b : Option Block) (szx : ℕ) → Decides (is_no_larger b szx) (IsNoLarger b szx)
smaller_decided None szx = (λ e. tt, λ h. refl)
smaller_decided (Some b) szx = le_decided b.szx szx

-- representations pass for the same where they are
and_both : (a b : Bool) → (a && b) ≡ true → (a ≡ true) × (b ≡ true)
and_both true b e = (refl, e)
and_both false b e = cc

format-same : (a b : Option ℕ) → same_format a b ≡ true → a ≡ b
format-same None None e = refl
format-same (Some m) (Some n) e =
    let made : ℕ → Option ℕ = λ x. Some x in
    ap made ((Decides-eqb m n).0 e)
format-same None (Some n) e = cc
format-same (Some m) None e = cc

format-itself : (a : Option ℕ) → same_format a a ≡ true
format-itself None = refl
format-itself (Some m) = (Decides-eqb m m).1 refl

tag-same : (a b : Option EntityTag) → same_tag a b ≡ true → a ≡ b
tag-same None None e = refl
tag-same (Some a) (Some b) e =
    let made : List ℕ → Option EntityTag = λ x. Some (record { bytes = x }) in
    ap made ((bytes_eq-Decides a.bytes b.bytes).0 e)
tag-same None (Some b) e = cc
tag-same (Some a) None e = cc

tag-itself : (a : Option EntityTag) → same_tag a a ≡ true
tag-itself None = refl
tag-itself (Some a) = (bytes_eq-Decides a.bytes a.bytes).1 refl

representation-same : (a b : Representation) → same_representation a b ≡ true → a ≡ b
representation-same a b e =
    let p = and_both (a.code == b.code) (same_format a.format b.format && same_tag a.etag b.etag) e in
    let q = and_both (same_format a.format b.format) (same_tag a.etag b.etag) p.1 in
    let with_code : ℕ → Representation = λ x. record { code = x; format = a.format; etag = a.etag } in
    let with_format : Option ℕ → Representation = λ x. record { code = b.code; format = x; etag = a.etag } in
    let with_tag : Option EntityTag → Representation = λ x. record { code = b.code; format = b.format; etag = x } in
    ap with_code ((Decides-eqb a.code b.code).0 p.0) ∙ (ap with_format (format-same _ _ q.0) ∙ ap with_tag (tag-same _ _ q.1))

representation-itself : (a : Representation) → same_representation a a ≡ true
representation-itself a = rw ((Decides-eqb a.code a.code).1 refl, format-itself a.format, tag-itself a.etag) refl

not_true : (b : Bool) → not b ≡ false → b ≡ true
not_true true e = refl
not_true false e = cc

-- the first piece's representation, which each other piece has too
Begins : Option Representation → Representation → Content → Type 0
Begins None of m = representation_of m ≡ of
Begins (Some first) of m = first ≡ of

same_of : (first : Option Representation) (of : Representation) (m : Content) → Begins first of m → differs first m ≡ false → representation_of m ≡ of
unfolding Begins
same_of None of m b e = b
same_of (Some first) of m b e = sym (representation-same first (representation_of m) (not_true _ e)) ∙ b

agrees : (first : Option Representation) (of : Representation) (m : Content) → Begins first of m → representation_of m ≡ of → differs first m ≡ false
unfolding Begins
agrees None of m b e = refl
agrees (Some first) of m b e =
    let same : same_representation first (representation_of m) ≡ true = rw (b ∙ sym e) (representation-itself (representation_of m)) in
    ap not same

first_is : (first : Option Representation) (of : Representation) (m : Content) → Begins first of m → representation_of m ≡ of → first_of first m ≡ Some of
unfolding Begins
first_is None of m b e = ap Some e
first_is (Some first) of m b e = ap Some b

-- no fault
passes : (a p q r d : Bool) → cond a (Some Changed) (cond (not (p && q)) (Some Size) (cond (not r) (Some Gap) (cond d (Some TooLarge) None))) ≡ None
    → (a ≡ false) × (p ≡ true) × (q ≡ true) × (r ≡ true) × (d ≡ false)
passes true p q r d e = absurd cc
passes false false q r d e = absurd cc
passes false true false r d e = absurd cc
passes false true true false d e = absurd cc
passes false true true true true e = absurd cc
passes false true true true false e = (refl, refl, refl, refl, refl)

record Joins (of : Representation) (f : DownloadValue) (m : Content) : Type 0 where
  piece : IsPiece of (length f.bytes) f.szx m
  short : length f.bytes + length m.payload ≤ 65536

joins : (of : Representation) (f : DownloadValue) (m : Content) → Begins f.of of m → fault_of (pieces_of f) m ≡ None → Joins of f m
joins of f m b e =
    let p = passes (differs f.of m) (is_sized (block_in 23 m) (length m.payload)) (is_no_larger (block_in 23 m) f.szx) (offset_in (block_in 23 m) == length f.bytes) (nat_lt 65536 (length f.bytes + length m.payload)) e in
    record {
      piece = record {
        representation = same_of f.of of m b p.0;
        sized = (sized_decided (block_in 23 m) (length m.payload)).0 p.1;
        smaller = (smaller_decided (block_in 23 m) f.szx).0 p.2;
        offset = (Decides-eqb (offset_in (block_in 23 m)) (length f.bytes)).0 p.3;
      };
      short = not_long p.4;
    }
  where
    not_long : nat_lt 65536 (length f.bytes + length m.payload) ≡ false → length f.bytes + length m.payload ≤ 65536
    not_long h = search rules

no_fault : (of : Representation) (f : DownloadValue) (m : Content) → Begins f.of of m → Joins of f m → fault_of (pieces_of f) m ≡ None
no_fault of f m b h =
    let short : nat_lt 65536 (length f.bytes + length m.payload) ≡ false = is_short (length f.bytes + length m.payload) h.short in
    rw (
      agrees f.of of m b h.piece.representation,
      (sized_decided (block_in 23 m) (length m.payload)).1 h.piece.sized,
      (smaller_decided (block_in 23 m) f.szx).1 h.piece.smaller,
      (Decides-eqb (offset_in (block_in 23 m)) (length f.bytes)).1 h.piece.offset,
      short,
    ) refl
  where
    is_short : (n : ℕ) → n ≤ 65536 → nat_lt 65536 n ≡ false
    is_short n le = search rules

-- what comes after a piece
record GoesOn (b : Option Block) : Type 0 where
  block : Block
  more : goes_on b ≡ true
  step : step_of b ≡ Next block

record Ends (b : Option Block) : Type 0 where
  no_more : goes_on b ≡ false
  step : step_of b ≡ Last

steps_by : (b : Block) (more : Bool) → b.more ≡ more → GoesOn (Some b) ⊎ Ends (Some b)
steps_by b true e = inl (record { block = next_block b; more = e; step = rw e refl })
steps_by b false e = inr (record { no_more = e; step = rw e refl })

steps : (b : Option Block) → GoesOn b ⊎ Ends b
steps None = inr (record { no_more = refl; step = refl })
steps (Some b) = steps_by b b.more refl

with_bytes_of : DownloadValue → Content → DownloadValue
with_bytes_of f m = record { of = first_of f.of m; bytes = f.bytes ++ m.payload; szx = last_szx (block_in 23 m) f.szx }

given_more : (f : DownloadValue) (m : Content) (ms : List Content) → fault_of (pieces_of f) m ≡ None → GoesOn (block_in 23 m) → given f (m ∷ ms) ≡ given (with_bytes_of f m) ms
unfolding with_bytes_of
given_more f m ms none h = rw (none, h.step) refl

given_last : (f : DownloadValue) (m : Content) (ms : List Content) → fault_of (pieces_of f) m ≡ None → Ends (block_in 23 m) → given f (m ∷ ms) ≡ body_by (is_whole (f.bytes ++ m.payload)) None ms
given_last f m [] none h = rw (none, h.step) refl
given_last f m (n ∷ ms) none h = rw (none, h.step) refl

no_body : {X : Type 0} (body : List ℕ) → None ≡ Some body → X
no_body body e = absurd cc

some_same : (a b : List ℕ) → Some a ≡ Some b → a ≡ b
some_same a b e = cc

-- what the messages from here on are
record Follows (of : Representation) (f : DownloadValue) (m : Content) (ms : List Content) (body : List ℕ) : Type 0 where
  following : AreFollowing of (length f.bytes) f.szx (m ∷ ms)
  join : body ≡ f.bytes ++ payloads (m ∷ ms)
  short : length body ≤ 65536

-- the representation, of a download that goes on
goes_of : (of : Representation) (f : DownloadValue) (m : Content) → Begins f.of of m → fault_of (pieces_of f) m ≡ None → (with_bytes_of f m).of ≡ Some of
unfolding with_bytes_of
goes_of of f m b h = first_is f.of of m b ((joins of f m b h).piece.representation)

begins_by : (first : Option Representation) (of : Representation) (n : Content) → first ≡ Some of → Begins first of n
unfolding Begins
begins_by None of n e = absurd cc
begins_by (Some first) of n e = some_is first of e
  where
    some_is : (a b : Representation) → Some a ≡ Some b → a ≡ b
    some_is a b e = cc

one_more : (of : Representation) (f : DownloadValue) (m n : Content) (ms : List Content) (body : List ℕ) → Begins f.of of m → fault_of (pieces_of f) m ≡ None → GoesOn (block_in 23 m)
    → Follows of (with_bytes_of f m) n ms body → Follows of f m (n ∷ ms) body
unfolding with_bytes_of
one_more of f m n ms body b h s next =
    record {
      following = ((joins of f m b h).piece, s.more, subst (λ (at : ℕ). AreFollowing of at (last_szx (block_in 23 m) f.szx) (n ∷ ms)) (length-append f.bytes m.payload) next.following);
      join = next.join ∙ append_assoc f.bytes m.payload (payloads (n ∷ ms));
      short = next.short;
    }

one_last : (of : Representation) (f : DownloadValue) (m : Content) (body : List ℕ) → Begins f.of of m → fault_of (pieces_of f) m ≡ None → Ends (block_in 23 m) → f.bytes ++ m.payload ≡ body → Follows of f m [] body
one_last of f m body b h s e =
    record {
      following = ((joins of f m b h).piece, s.no_more);
      join = sym e ∙ ap (λ (xs : List ℕ). f.bytes ++ xs) (sym (append-nil m.payload));
      short = rw (sym e, length-append f.bytes m.payload) ((joins of f m b h).short);
    }

stops : (of : Representation) (f : DownloadValue) (m : Content) (ms : List Content) (body : List ℕ) (fault : BlockFault) → fault_of (pieces_of f) m ≡ Some fault → given f (m ∷ ms) ≡ Some body → Follows of f m ms body
stops of f m ms body fault h e =
    let none : given f (m ∷ ms) ≡ None = rw h refl in
    no_body body (sym none ∙ e)

follows_one : (of : Representation) (f : DownloadValue) (m : Content) (body : List ℕ) (o : Option BlockFault) → fault_of (pieces_of f) m ≡ o → Begins f.of of m → given f (m ∷ []) ≡ Some body → Follows of f m [] body
follows_one of f m body (Some fault) h b e = stops of f m [] body fault h e
follows_one of f m body None h b e =
    elim (steps (block_in 23 m)) [ inl s ↦ no_body body (sym (given_more f m [] h s) ∙ e) | inr s ↦ one_last of f m body b h s (some_same (f.bytes ++ m.payload) body (sym (given_last f m [] h s) ∙ e)) ]

-- the message is one of the series, and not the last
follows_more : (of : Representation) (f : DownloadValue) (m n : Content) (ns : List Content) (body : List ℕ) → Begins f.of of m → given f (m ∷ n ∷ ns) ≡ Some body
    → (Begins (with_bytes_of f m).of of n → given (with_bytes_of f m) (n ∷ ns) ≡ Some body → Follows of (with_bytes_of f m) n ns body) → Follows of f m (n ∷ ns) body
follows_more of f m n ns body b e others = more_by (fault_of (pieces_of f) m) refl
  where
    more_by : (o : Option BlockFault) → fault_of (pieces_of f) m ≡ o → Follows of f m (n ∷ ns) body
    more_by (Some fault) h = stops of f m (n ∷ ns) body fault h e
    more_by None h =
        elim (steps (block_in 23 m)) [ inl s ↦ one_more of f m n ns body b h s (others (begins_by (with_bytes_of f m).of of n (goes_of of f m b h)) (sym (given_more f m (n ∷ ns) h s) ∙ e)) | inr s ↦ no_body body (sym (given_last f m (n ∷ ns) h s) ∙ e) ]

given_follows : (of : Representation) (f : DownloadValue) (m : Content) (ms : List Content) (body : List ℕ) → Begins f.of of m → given f (m ∷ ms) ≡ Some body → Follows of f m ms body
given_follows of f m [] body b e = follows_one of f m body _ refl b e
given_follows of f m (n ∷ ns) body b e =
    follows_more of f m n ns body b e (λ c g. given_follows of (with_bytes_of f m) n ns body c g)

short_of : {of : Representation} (f : DownloadValue) (m : Content) (ms : List Content) (body : List ℕ) → Follows of f m ms body → length f.bytes + length m.payload ≤ 65536
short_of f m ms body h =
    let whole : length body ≡ length f.bytes + (length m.payload + length (payloads ms)) = ap length h.join ∙ (length-append f.bytes (m.payload ++ payloads ms) ∙ ap (λ (k : ℕ). length f.bytes + k) (length-append m.payload (payloads ms))) in
    omega (arith, h.short, whole)

next_follows : (of : Representation) (f : DownloadValue) (m n : Content) (ns : List Content) (body : List ℕ) → Follows of f m (n ∷ ns) body → Follows of (with_bytes_of f m) n ns body
unfolding with_bytes_of
next_follows of f m n ns body h =
    record {
      following = subst (λ (at : ℕ). AreFollowing of at (last_szx (block_in 23 m) f.szx) (n ∷ ns)) (sym (length-append f.bytes m.payload)) h.following.2;
      join = h.join ∙ sym (append_assoc f.bytes m.payload (payloads (n ∷ ns)));
      short = h.short;
    }

follows_given : (of : Representation) (f : DownloadValue) (m : Content) (ms : List Content) (body : List ℕ) → Begins f.of of m → Follows of f m ms body → given f (m ∷ ms) ≡ Some body
follows_given of f m [] body b h =
    let fits : length f.bytes + length m.payload ≤ 65536 = short_of f m [] body h in
    let none = no_fault of f m b (record { piece = h.following.0; short = fits }) in
    elim (steps (block_in 23 m)) [ inl s ↦ absurd (false≢true (sym h.following.1 ∙ s.more)) | inr s ↦ given_last f m [] none s ∙ ap (λ (xs : List ℕ). Some xs) (sym (h.join ∙ ap (λ (xs : List ℕ). f.bytes ++ xs) (append-nil m.payload))) ]
follows_given of f m (n ∷ ns) body b h =
    let fits : length f.bytes + length m.payload ≤ 65536 = short_of f m (n ∷ ns) body h in
    let none = no_fault of f m b (record { piece = h.following.0; short = fits }) in
    let next = follows_given of (with_bytes_of f m) n ns body (begins_by (with_bytes_of f m).of of n (goes_of of f m b none)) (next_follows of f m n ns body h) in
    elim (steps (block_in 23 m)) [ inl s ↦ given_more f m (n ∷ ns) none s ∙ next | inr s ↦ absurd (false≢true (sym s.no_more ∙ h.following.1)) ]

starts : (m : Content) → Begins None (representation_of m) m
unfolding Begins
starts m = refl

pub downloads : DownloadsJoin
downloads m ms body = (forth, back)
  where
    forth : given nothing (m ∷ ms) ≡ Some body → AreWhole m ms body
    forth e =
        let h = given_follows (representation_of m) nothing m ms body (starts m) e in
        record { following = h.following; join = h.join; short = h.short }

    back : AreWhole m ms body → given nothing (m ∷ ms) ≡ Some body
    back h = follows_given (representation_of m) nothing m ms body (starts m) (record { following = h.following; join = h.join; short = h.short })
