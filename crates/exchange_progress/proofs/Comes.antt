-- What is found of replies that are all there, and the block that comes after some.
use Rattle.std.proofs.Common.{◌≡◌, ◌≢◌, ℕ, ◌+◌, ◌*◌, ◌/◌, ◌<◌, Bool, true, false, not, cond, eqb, leb, List, [], ◌∷◌, ◌++◌, length, Option, Some, None, Ok, inl, inr, refl, sym, ap, subst, ◌∙◌, arith}
use Rattle.std.specs.Prelude.{◌&&◌, is_none, option_map}
use Rattle.std.proofs.Math.Nat.{mul-div_cancel}
use Rattle.std.proofs.lemmas.Bool.{false≢true, and_parts}
use Rattle.std.proofs.lemmas.Bool.Decides.{eqb_tells}
use Rattle.std.proofs.lemmas.List.{map_push}
use Rattle.std.proofs.lemmas.Nat.{pow_pos}
use Rattle.coap_codec.specs.Spelling.{Content}
use Rattle.coap_codec.specs.declared.block.Block.{Block}
use Rattle.blockwise.specs.Reading.{block_in, size_of, offset_in}
use Rattle.blockwise.specs.Downloads.{PiecesValue, differs, first_of, fits_blocks, fault_of, judged_by, judged, last_szx, next_block, step_of, with_piece}
use Rattle.blockwise.specs.declared.representation.Representation.{Representation}
use Rattle.blockwise.specs.declared.fault.BlockFault.{BlockFault}
use Rattle.blockwise.specs.declared.fault.BlockFault.TheVariants.{Changed, Size, Gap, TooLarge}
use Rattle.blockwise.specs.declared.pieces.Step.{Step}
use Rattle.blockwise.specs.declared.pieces.Step.TheVariants.{Next, Last}
use Rattle.journal_book.specs.Entries.{Live, Written}
use Rattle.coap_codec.specs.Recognition.{is_forwardable}
use Rattle.blockwise.specs.Uploads.{UploadValue, answer_to, block_at as upload_block, is_last, next_block as next_upload, next_of}
use Rattle.blockwise.specs.declared.upload.Answered.TheVariants as A
use Rattle.history_laws.specs.Responses.{is_tellable, response_of}
use Rattle.history_laws.specs.Progress.{Reply, messages, numbers, Ending, Whole, Progress, Ends, answered, block_at, block_after, fetched, fetched_whole}
use Rattle.reply_reading.specs.Findings.{Found, Tells, joined_all}
use Rattle.exchange_model.specs.declared.kept.Work.TheVariants as W
use Rattle.exchange_model.specs.declared.kept.Piece.{Piece}
use Rattle.exchange_model.specs.declared.kept.Reader.{Reader}
use Rattle.exchange_model.specs.Steps.{heard_in, reply_at}
use Rattle.exchange_model.specs.Matters.{fetched_in}
use Rattle.exchange_progress.specs.Coming.{AllFind, IsOnward, found_for, first_got, renews}

-- one piece after another

pub messages-each : (ws : List Written) (o : ℕ) (p : Piece) (ps : List Piece)
    → messages (fetched_in ws o (p ∷ ps)) ≡ messages (fetched_in ws o (p ∷ [])) ++ messages (fetched_in ws o ps)
messages-each ws o p ps = by (eqb p.opening o) refl (heard_in ws p.number) refl
  where
    by : (b : Bool) → eqb p.opening o ≡ b → (v : Option Reply) → heard_in ws p.number ≡ v
        → messages (fetched_in ws o (p ∷ ps)) ≡ messages (fetched_in ws o (p ∷ [])) ++ messages (fetched_in ws o ps)
    by true e (Some r) f = rw (e, f) refl
    by true e None f = rw (e, f) refl
    by false e v f = rw (e) refl

pub numbers-each : (ws : List Written) (o : ℕ) (p : Piece) (ps : List Piece)
    → numbers (fetched_in ws o (p ∷ ps)) ≡ numbers (fetched_in ws o (p ∷ [])) ++ numbers (fetched_in ws o ps)
numbers-each ws o p ps = by (eqb p.opening o) refl (heard_in ws p.number) refl
  where
    by : (b : Bool) → eqb p.opening o ≡ b → (v : Option Reply) → heard_in ws p.number ≡ v
        → numbers (fetched_in ws o (p ∷ ps)) ≡ numbers (fetched_in ws o (p ∷ [])) ++ numbers (fetched_in ws o ps)
    by true e (Some r) f = rw (e, f) refl
    by true e None f = rw (e, f) refl
    by false e v f = rw (e) refl

-- All the pieces are one response.
abbrev pub EndsWith : Progress → ℕ → Found → Type 0
EndsWith u n f = (how : Ending) × (u ≡ Ends how) × (AllFind n f how × (renews how ≡ false))

renews-none : (fs : List Reply) → renews (fetched_whole fs) ≡ false
renews-none [] = refl
renews-none (r ∷ rs) = refl

messages-push : (rs : List Reply) (r : Reply) → messages (rs ++ r ∷ []) ≡ messages rs ++ r.message ∷ []
messages-push rs r = map_push (λ (r : Reply). r.message) rs r

numbers-push : (rs : List Reply) (r : Reply) → numbers (rs ++ r ∷ []) ≡ numbers rs ++ r.number ∷ []
numbers-push rs r = map_push (λ (r : Reply). r.number) rs r

abbrev whole_found : List Reply → ℕ → Content → Found
whole_found fs n m = record { told = Tells (joined_all (messages fs) m); grounds = Live (numbers fs ++ n ∷ []) }

pub joined-found : (fs : List Reply) (n : ℕ) (m : Content) (ms : List Content) (ns : List ℕ) (f : Found)
    → f ≡ record { told = Tells (joined_all ms m); grounds = Live ns } → ms ≡ messages fs → ns ≡ numbers fs ++ n ∷ []
    → EndsWith (Ends (fetched_whole (fs ++ reply_at n m ∷ []))) n f
joined-found fs n m ms ns f is read named = (
  fetched_whole (fs ++ reply_at n m ∷ []),
  refl,
  (
    λ sending r. is
        ∙ (ap (λ (v : List Content). record { told = Tells (joined_all v m); grounds = Live ns }) read
        ∙ (ap (λ (v : List ℕ). record { told = Tells (joined_all (messages fs) m); grounds = Live v }) named ∙ by fs sending r)),
    renews-none (fs ++ reply_at n m ∷ []),
  ),
)
  where
    by : (fs : List Reply) (sending : Option ℕ) (r : Reader) → whole_found fs n m ≡ found_for (fetched_whole (fs ++ reply_at n m ∷ [])) n sending r
    by [] sending r = refl
    by (g ∷ gs) sending r = rw (messages-push gs (reply_at n m), numbers-push gs (reply_at n m)) refl

-- The last reply is the answer.
pub answered-found : (fs : List Reply) (n : ℕ) (m : Content) (ns : List ℕ) (f : Found)
    → f ≡ record { told = Tells (response_of m); grounds = Live ns } → ns ≡ numbers fs ++ n ∷ []
    → EndsWith (Ends (Whole (response_of m) (fs ++ reply_at n m ∷ []))) n f
answered-found fs n m ns f is named = (
  Whole (response_of m) (fs ++ reply_at n m ∷ []),
  refl,
  (
    λ sending r. is ∙ ap (λ (v : List ℕ). record { told = Tells (response_of m); grounds = Live v }) (named ∙ sym (numbers-push fs (reply_at n m))),
    refl,
  ),
)

-- The block that comes next follows those that came.

faultless : (a p r d : Bool) → cond a (Some Changed) (cond (not p) (Some Size) (cond (not r) (Some Gap) (cond d (Some TooLarge) None))) ≡ None
    → (p ≡ true) × (r ≡ true)
faultless true p r d e = absurd cc
faultless false false r d e = absurd cc
faultless false true false d e = absurd cc
faultless false true true true e = absurd cc
faultless false true true false e = (refl, refl)

large : (szx : ℕ) → 0 < size_of szx
large szx = pow_pos (szx + 4)

is-same : (a b : ℕ) → eqb a b ≡ true → a ≡ b
is-same a b e = elim (eqb_tells a b) [ inl w ↦ w.1 | inr w ↦ absurd (false≢true (sym w.0 ∙ e)) ]

next-number : (num size len : ℕ) → 0 < size → num * size + size ≡ len → num + 1 ≡ len / size
next-number num size len some is = sym (ap (λ (k : ℕ). k / size) (sym (one-more ∙ is)) ∙ mul-div_cancel (num + 1) some)
  where
    one-more : (num + 1) * size ≡ num * size + size
    one-more = omega arith

next-block : (p : PiecesValue) (m : Content) (b : Block) → judged p m ≡ Ok (Next b) → Some b ≡ block_after (with_piece p m)
next-block p m b e = by (fault_of p m) refl e
  where
    following : (c : Block) → block_in 23 m ≡ Some c → fault_of p m ≡ None → c.more ≡ true → next_block c ≡ b → Some b ≡ block_after (with_piece p m)
    following c at none more same =
        let fine = faultless (differs p.of m) (fits_blocks p (block_in 23 m) (length m.payload)) (eqb (offset_in (block_in 23 m)) p.len) _ none in
        let fits : fits_blocks p (Some c) (length m.payload) ≡ true = subst (λ (v : Option Block). fits_blocks p v (length m.payload) ≡ true) at fine.0 in
        let sized : cond c.more (eqb (length m.payload) (size_of c.szx)) (leb (length m.payload) (size_of c.szx)) ≡ true = (and_parts _ _ fits).0 in
        let full : length m.payload ≡ size_of c.szx = is-same _ _ (ap (λ (v : Bool). cond v (eqb (length m.payload) (size_of c.szx)) (leb (length m.payload) (size_of c.szx))) (sym more) ∙ sized) in
        let offset : c.num * size_of c.szx ≡ p.len = is-same _ _ (subst (λ (v : Option Block). eqb (offset_in v) p.len ≡ true) at fine.1) in
        let long : c.num * size_of c.szx + size_of c.szx ≡ p.len + length m.payload = omega (arith, full, offset) in
        let number : c.num + 1 ≡ (p.len + length m.payload) / size_of c.szx = next-number c.num (size_of c.szx) (p.len + length m.payload) (large c.szx) long in
        ap Some (sym same)
        ∙ (ap (λ (k : ℕ). Some (record { num = k; more = false; szx = c.szx })) number
        ∙ (ap (λ (v : Option Block). Some (record { num = (p.len + length m.payload) / size_of (last_szx v p.szx); more = false; szx = last_szx v p.szx })) (sym at)
        ∙ first p.of))
      where
        first : (of : Option Representation)
            → Some (record { num = (p.len + length m.payload) / size_of (last_szx (block_in 23 m) p.szx); more = false; szx = last_szx (block_in 23 m) p.szx })
            ≡ option_map (block_at (with_piece p m)) (first_of of m)
        first None = refl
        first (Some representation) = refl

    stepped : (v : Option Block) → block_in 23 m ≡ v → fault_of p m ≡ None → step_of v ≡ Next b → Some b ≡ block_after (with_piece p m)
    stepped None at none h = absurd (cc (h))
    stepped (Some c) at none h = more c.more refl h
      where
        inner : (x y : Block) → Next x ≡ Next y → x ≡ y
        inner x y k = cc

        more : (v : Bool) → c.more ≡ v → cond v (Next (next_block c)) Last ≡ Next b → Some b ≡ block_after (with_piece p m)
        more true is k = following c at none is (inner (next_block c) b k)
        more false is k = absurd (cc (k))

    step-inner : (x y : Step) → judged_by None x ≡ judged_by None y → x ≡ y
    step-inner x y k = cc

    by : (v : Option BlockFault) → fault_of p m ≡ v → judged_by v (step_of (block_in 23 m)) ≡ Ok (Next b) → Some b ≡ block_after (with_piece p m)
    by (Some fault) is h = absurd (cc (h))
    by None is h = stepped (block_in 23 m) refl is (step-inner (step_of (block_in 23 m)) (Next b) h)

named : (rs : List Reply) (r : Reply) → false ≡ is_none (first_got (rs ++ r ∷ []))
named [] r = refl
named (x ∷ rs) r = refl

pub goes-next : (k : ℕ) (p known : PiecesValue) (got : List Reply) (n : ℕ) (m : Content) (b : Block) → is_tellable m ≡ true → judged p m ≡ Ok (Next b) → known ≡ with_piece p m
    → IsOnward (record { work = W.Fetches k known; block = Some b }) (fetched k p got (reply_at n m))
goes-next k p known got n m b tellable is same = record {
  got = got ++ reply_at n m ∷ [];
  is = rw (tellable, is, same) refl;
  block = next-block p m b is ∙ ap block_after (sym same);
  anew = named got (reply_at n m);
  fetches = λ none. refl;
}

-- After a piece of a body was taken the next one is a block.
is-block : (u : UploadValue) (b : Option Block) → 0 < u.taken → b ≡ next_upload u → is_none b ≡ false
is-block u b some is = ap (λ (v : Option Block). is_none v) is ∙ by (eqb u.taken 0) refl (is_last u)
  where
    by : (c : Bool) → eqb u.taken 0 ≡ c → (last : Bool) → is_none (cond (c && last) None (Some (upload_block u))) ≡ false
    by true e last = let zero_taken = is-same u.taken 0 e in absurd (omega (arith, zero_taken, some))
    by false e last = refl

pub gives-next : (u known : UploadValue) (got : List Reply) (n : ℕ) (m : Content) (b : Option Block) → is_forwardable m.options ≡ true → answer_to u m ≡ A.Next
    → known ≡ next_of u m → b ≡ next_upload known
    → IsOnward (record { work = W.Gives known; block = b }) (answered u got (reply_at n m))
gives-next u known got n m b passes is same block = record {
  got = got ++ reply_at n m ∷ [];
  is = rw (passes, is, same) refl;
  block = block;
  anew = some ∙ named got (reply_at n m);
  fetches = λ none. absurd (false≢true (sym some ∙ none));
}
  where
    some : is_none b ≡ false
    some = is-block known b (let size = large u.szx in let taken = ap (λ (v : UploadValue). v.taken) same in omega (arith, size, taken)) block
