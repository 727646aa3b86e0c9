-- A pass that writes what it reads, step by step.
use Rattle.std.proofs.Common.{◌≡◌, ℕ, ◌+◌, ◌-◌, ◌<◌, ◌≤◌, List, [], ◌∷◌, ◌++◌, length, ltb, Bool, true, false, Option, Some, None, Result, Ok, Err, IfOk, IsSome, ◌↔◌, String, Vec, Global, string_bytes, string_cmp, is_some, refl, sym, ap, ◌∙◌, subst, arith, append_assoc, length-append, lt-ltb, ◌^◌, negsuc, true≢false}
use Rattle.std.specs.BTreeMap.{insert_entry, is_at}
use Rattle.std.specs.Fmt.{signed_decimal}
use Rattle.std.specs.Map.{lookup}
use Rattle.std.specs.Str.{IsUtf8}
use Rattle.json.specs.Print.{quoted}
use Rattle.serde_json.specs.Data.{Data, negative, number, string, array, object, Members, no_members, member, put}
use Rattle.serde_json.specs.Find.{get_member}
use Rattle.serde_json.specs.Read.{read}
use Rattle.serde_json.specs.View.{items_of}
use Rattle.serde_json.specs.Written.{comma_if, compact_text}
use Rattle.transformers.specs.declared.head.Major.TheVariants.{Array, Map}
use Rattle.transformers.specs.declared.refused.Refused.{Refused}
use Rattle.transformers.specs.declared.refused.Refused.TheVariants.{Content, Memory}
use Rattle.transformers.specs.Item.{◌>>=◌, negative_of, text_at, denoted, inner_of, item_at, body_at, key_at, many_at, next_item, next_member, put_new, simple_at, simple_data}
use Rattle.transformers.specs.Keeps.{Fits}
use Rattle.transformers.specs.Kinds.{CborToJson, TakesCbor}
use Rattle.transformers.specs.Told.{AreSound, AreSoundMembers, Tells, TellsItem, TellsItems, TellsMembers, Hold, Holds, Piece, pieces_text}
use Rattle.transformers.proofs.Compact.{put_sound, read_compact, compact_utf8}
use Rattle.transformers.proofs.Items.{read_simple, more, ended, item_read, member_read, array_read, map_read}
use Rattle.transformers.proofs.Telling.{front, front_more, front_closed, sound_more, hold_insert, hold_lookup, hold_text}
use Rattle.transformers.proofs.Texts.{key_utf8, text_utf8}
use Rattle.transformers.proofs.Within.{denoted_within}

-- ---- items

-- the same, of what reads alike
pub as_read : {A : Type 0} {IsGood : A → Type 0} {text : A → List ℕ} (r s : Option (A × List ℕ)) (rest old new : List ℕ) → r ≡ s → Tells IsGood text s rest old new → Tells IsGood text r rest old new
as_read r s rest old new e t = record { value = t.value; is = e ∙ t.is; good = t.good; told = t.told }

pub told_simple : (levels : ℕ) (bytes rest old new : List ℕ) (s : Option Bool) → simple_at bytes ≡ Some (simple_data s, rest) → new ≡ old ++ compact_text (simple_data s)
    → TellsItem (item_at levels bytes) rest old new
told_simple levels bytes rest old new None e f = record { value = simple_data None; is = read_simple levels bytes _ e; good = tt; told = f }
told_simple levels bytes rest old new (Some b) e f = record { value = simple_data (Some b); is = read_simple levels bytes _ e; good = tt; told = f }

pub told_negative : (n : ℕ) (bytes old new : List ℕ) → n < 2 ^ 63 → new ≡ old ++ signed_decimal (negsuc n) → TellsItem (negative_of n >>= λ d. Some (d, bytes)) bytes old new
unfolding negative_of
told_negative n bytes old new small f =
    record { value = number (negative (negsuc n)); is = rw (lt-ltb n (2 ^ 63) small) refl; good = (n, refl, small); told = f }

pub told_text : (n : ℕ) (bytes text rest old new : List ℕ) → text_at n bytes ≡ Some (text, rest) → new ≡ old ++ quoted text → TellsItem (text_at n bytes >>= λ t. Some (string t.0, t.1)) rest old new
told_text n bytes text rest old new e f = record { value = string text; is = rw e refl; good = text_utf8 n bytes (text, rest) e; told = f }

-- ---- arrays

abbrev pub ItemsSoFar : (List ℕ → Option (Data × List ℕ)) → ℕ → ℕ → List ℕ → Option (List Data × List ℕ) → List ℕ → List ℕ → Type 0
ItemsSoFar one left i bytes total start new =
    (ds : List Data) × (length ds ≡ i) × (many_at (next_item one) left ds bytes ≡ total) × AreSound (items_of ds) × (new ≡ start ++ 91 ∷ front false ds)

pub none_told : (one : List ℕ → Option (Data × List ℕ)) (count : ℕ) (bytes start new : List ℕ) → new ≡ start ++ 91 ∷ [] → ItemsSoFar one (count - 0) 0 bytes (many_at (next_item one) count [] bytes) start new
none_told one count bytes start new e =
    let k : count - 0 ≡ count = omega arith in
    ([], refl, ap (λ (n : ℕ). many_at (next_item one) n [] bytes) k, tt, e)

pub one_told : (one : List ℕ → Option (Data × List ℕ)) (count i : ℕ) (bytes rest : List ℕ) (total : Option (List Data × List ℕ)) (later : Bool) (start old mid new : List ℕ) → i < count → later ≡ ltb 0 i
    → ItemsSoFar one (count - i) i bytes total start old → mid ≡ old ++ comma_if later → TellsItem (one bytes) rest mid new
    → ItemsSoFar one (count - (i + 1)) (i + 1) rest total start new
one_told one count i bytes rest total later start old mid new lt flag so_far comma t =
    let ds = so_far.0 in
    let d = t.value in
    let c = comma_if later in
    let grown = front_more false ds d ∙ ap (λ (n : ℕ). front false ds ++ (comma_if (ltb 0 n) ++ compact_text d)) so_far.1 ∙ ap (λ (b : Bool). front false ds ++ (comma_if b ++ compact_text d)) (sym flag) in
    let text =
    t.told ∙ ap (λ (x : List ℕ). x ++ compact_text d) (comma ∙ ap (λ (x : List ℕ). x ++ c) so_far.4)
    ∙ append_assoc (start ++ 91 ∷ front false ds) c (compact_text d) ∙ append_assoc start (91 ∷ front false ds) (c ++ compact_text d)
    ∙ ap (λ (x : List ℕ). start ++ 91 ∷ x) (sym grown) in
    (ds ++ d ∷ [], omega (arith, so_far.1, length-append ds (d ∷ [])), more (next_item one) count i ds bytes (ds ++ d ∷ [], rest) total lt (item_read one ds bytes (d, rest) t.is) so_far.2, sound_more ds d so_far.3 (t.good, tt), text)

pub all_told : (one : List ℕ → Option (Data × List ℕ)) (count i : ℕ) (bytes : List ℕ) (total : Option (List Data × List ℕ)) (start old new : List ℕ) → count ≤ i
    → ItemsSoFar one (count - i) i bytes total start old → new ≡ old ++ 93 ∷ [] → TellsItems total bytes start new
all_told one count i bytes total start old new le so_far closed =
    let ds = so_far.0 in
    record {
      value = ds;
      is = ended (next_item one) count i ds bytes total le so_far.2;
      good = so_far.3;
      told = closed ∙ ap (λ (x : List ℕ). x ++ 93 ∷ []) so_far.4 ∙ append_assoc start (91 ∷ front false ds) (93 ∷ []) ∙ ap (λ (x : List ℕ). start ++ 91 ∷ x) (sym (front_closed false ds));
    }

pub told_array : (levels n : ℕ) (bytes rest old new : List ℕ) → 0 < levels → TellsItems (many_at (next_item (item_at (levels - 1))) n [] bytes) rest old new
    → TellsItem (body_at (inner_of levels) Array n bytes) rest old new
told_array levels n bytes rest old new lt t =
    record { value = array (items_of t.value); is = array_read levels n bytes (t.value, rest) lt t.is; good = t.good; told = t.told }

-- ---- maps

pub add_fresh : (key : String Global) (piece : Vec ℕ Global) (d : Data) (es all : List Piece) (ms : Members) → None ≡ lookup (is_at (string_cmp key)) es → all ≡ insert_entry string_cmp es key piece → Hold es ms → piece.items ≡ compact_text d
    → (put_new (string_bytes key) d ms ≡ Some (put (string_bytes key) d ms)) × Hold all (put (string_bytes key) d ms)
unfolding put_new
add_fresh key piece d es all ms e is held text =
    let none : is_some (get_member (string_bytes key) ms) ≡ false = sym (hold_lookup es ms key held) ∙ ap (λ (o : Option (Vec ℕ Global)). is_some o) (sym e) in
    (rw none refl, subst (λ (xs : List Piece). Hold xs (put (string_bytes key) d ms)) (sym is) (hold_insert es ms key piece d held text))

pub add_there : (key : String Global) (old : Vec ℕ Global) (d : Data) (es : List Piece) (ms : Members) → Some old ≡ lookup (is_at (string_cmp key)) es → Hold es ms → put_new (string_bytes key) d ms ≡ None
unfolding put_new
add_there key old d es ms e held =
    let there : is_some (get_member (string_bytes key) ms) ≡ true = sym (hold_lookup es ms key held) ∙ ap (λ (o : Option (Vec ℕ Global)). is_some o) (sym e) in
    rw there refl

pub one_held : (one : List ℕ → Option (Data × List ℕ)) (ms : Members) (bytes name next rest old piece : List ℕ) (pieces : List Piece) → AreSoundMembers ms → key_at bytes ≡ Some (name, next)
    → (t : TellsItem (one next) rest old piece) → (put_new name t.value ms ≡ Some (put name t.value ms)) × Hold pieces (put name t.value ms)
    → Holds (next_member one ms bytes) rest pieces
one_held one ms bytes name next rest old piece pieces sound key t added =
    record {
      members = put name t.value ms;
      is = member_read one ms bytes (name, next) (t.value, rest) (put name t.value ms) key t.is added.0;
      good = put_sound name t.value ms (key_utf8 bytes (name, next) key) t.good sound;
      held = added.1;
    }

abbrev pub MembersSoFar : (List ℕ → Option (Data × List ℕ)) → ℕ → List ℕ → Option (Members × List ℕ) → List Piece → Type 0
MembersSoFar one left bytes total pieces =
    (ms : Members) × (many_at (next_member one) left ms bytes ≡ total) × AreSoundMembers ms × Hold pieces ms

pub none_held : (one : List ℕ → Option (Data × List ℕ)) (count : ℕ) (bytes : List ℕ) (pieces : List Piece) → pieces ≡ [] → MembersSoFar one (count - 0) bytes (many_at (next_member one) count no_members bytes) pieces
none_held one count bytes pieces e =
    let k : count - 0 ≡ count = omega arith in
    (no_members, ap (λ (n : ℕ). many_at (next_member one) n no_members bytes) k, tt, subst (λ (es : List Piece). Hold es no_members) (sym e) tt)

pub more_held : (one : List ℕ → Option (Data × List ℕ)) (count i : ℕ) (bytes rest : List ℕ) (total : Option (Members × List ℕ)) (old new : List Piece) → i < count → (s : MembersSoFar one (count - i) bytes total old)
    → Holds (next_member one s.0 bytes) rest new → MembersSoFar one (count - (i + 1)) rest total new
more_held one count i bytes rest total old new lt s h =
    (h.members, more (next_member one) count i s.0 bytes (h.members, rest) total lt h.is s.1, h.good, h.held)

pub all_held : (one : List ℕ → Option (Data × List ℕ)) (count i : ℕ) (bytes : List ℕ) (total : Option (Members × List ℕ)) (pieces : List Piece) (start mid new : List ℕ) → count ≤ i
    → MembersSoFar one (count - i) bytes total pieces → mid ≡ start ++ 123 ∷ [] → new ≡ mid ++ pieces_text false pieces → TellsMembers total bytes start new
all_held one count i bytes total pieces start mid new le s opened closed =
    record {
      value = s.0;
      is = ended (next_member one) count i s.0 bytes total le s.1;
      good = s.2;
      told = closed ∙ ap (λ (x : List ℕ). x ++ pieces_text false pieces) opened ∙ append_assoc start (123 ∷ []) (pieces_text false pieces) ∙ ap (λ (x : List ℕ). start ++ 123 ∷ x) (hold_text false pieces s.0 s.3);
    }

pub told_map : (levels n : ℕ) (bytes rest old new : List ℕ) → 0 < levels → TellsMembers (many_at (next_member (item_at (levels - 1))) n no_members bytes) rest old new
    → TellsItem (body_at (inner_of levels) Map n bytes) rest old new
told_map levels n bytes rest old new lt t =
    record { value = object t.value; is = map_read levels n bytes (t.value, rest) lt t.is; good = t.good; told = t.told }

-- ---- a map of one member

pub only_one : (one : List ℕ → Option (Data × List ℕ)) (n : ℕ) (bytes : List ℕ) → n ≡ 1 → (r : Option (Members × List ℕ)) → next_member one no_members bytes ≡ r → many_at (next_member one) n no_members bytes ≡ r
unfolding many_at
only_one one n bytes is None e = rw (is, e) refl
only_one one n bytes is (Some x) e = rw (is, e) refl

pub told_only : (one : List ℕ → Option (Data × List ℕ)) (bytes name next rest : List ℕ) (start o1 o2 o3 o4 new : List ℕ) → key_at bytes ≡ Some (name, next) → o1 ≡ start ++ 123 ∷ [] → o2 ≡ o1 ++ quoted name → o3 ≡ o2 ++ 58 ∷ []
    → TellsItem (one next) rest o3 o4 → new ≡ o4 ++ 125 ∷ [] → TellsMembers (next_member one no_members bytes) rest start new
unfolding put_new
told_only one bytes name next rest start o1 o2 o3 o4 new key e1 e2 e3 t e =
    let q = quoted name in
    let v = compact_text t.value in
    let before : o3 ≡ start ++ 123 ∷ (q ++ 58 ∷ []) =
    e3 ∙ ap (λ (x : List ℕ). x ++ 58 ∷ []) (e2 ∙ ap (λ (x : List ℕ). x ++ q) e1 ∙ append_assoc start (123 ∷ []) q) ∙ append_assoc start (123 ∷ q) (58 ∷ []) in
    let text : new ≡ start ++ 123 ∷ (q ++ 58 ∷ (v ++ 125 ∷ [])) =
    e ∙ ap (λ (x : List ℕ). x ++ 125 ∷ []) (t.told ∙ ap (λ (x : List ℕ). x ++ v) before ∙ append_assoc start (123 ∷ (q ++ 58 ∷ [])) v)
    ∙ append_assoc start (123 ∷ ((q ++ 58 ∷ []) ++ v)) (125 ∷ [])
    ∙ ap (λ (x : List ℕ). start ++ 123 ∷ x) (append_assoc (q ++ 58 ∷ []) v (125 ∷ []) ∙ append_assoc q (58 ∷ []) (v ++ 125 ∷ [])) in
    record {
      value = member name t.value no_members;
      is = member_read one no_members bytes (name, next) (t.value, rest) (member name t.value no_members) key t.is refl;
      good = (key_utf8 bytes (name, next) key, tt, t.good, tt);
      told = text;
    }

-- ---- a whole input

told_whole : (bytes out : List ℕ) → TellsItem (item_at 32 bytes) [] [] out → CborToJson bytes out
unfolding denoted
told_whole bytes out t =
    let from : denoted bytes ≡ Some t.value = rw t.is refl in
    let within = denoted_within bytes t.value from in
    record {
      value = t.value;
      from = from;
      utf8 = subst IsUtf8 (sym t.told) (compact_utf8 t.value t.good);
      to = ap read t.told ∙ read_compact t.value t.good (omega (arith, within.1));
      compact = t.told;
    }

never_taken : (bytes : List ℕ) → denoted bytes ≡ None → ¬ TakesCbor bytes
never_taken bytes e taken = true≢false (sym (subst IsSome e taken))

pub text_fits : (bytes : List ℕ) (r : Result (Vec ℕ Global) Refused) → IfOk r (λ v. TellsItem (item_at 32 bytes) [] [] v.items) → (r ≡ Err Content → denoted bytes ≡ None) → Fits (CborToJson bytes) (TakesCbor bytes) r
text_fits bytes (Ok v) ok content = told_whole bytes v.items ok
text_fits bytes (Err e) ok content = λ is. never_taken bytes (content (ap Err is))

pub text_refused : (bytes : List ℕ) (r : Result (Vec ℕ Global) Refused) → IfOk r (λ v. TellsItem (item_at 32 bytes) [] [] v.items) → (r ≡ Err Content → denoted bytes ≡ None) → (r ≡ Err Memory → IsSome (denoted bytes))
    → (r ≡ Err Content) ↔ (¬ TakesCbor bytes)
text_refused bytes (Ok v) ok content memory =
    let made = told_whole bytes v.items ok in
    (λ e. absurd cc, λ never. absurd (never (rw made.from refl)))
text_refused bytes (Err Content) ok content memory = (λ e. never_taken bytes (content refl), λ never. refl)
text_refused bytes (Err Memory) ok content memory = (λ e. absurd cc, λ never. absurd (never (memory refl)))
