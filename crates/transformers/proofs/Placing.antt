-- The members of an object that count, and a pass that writes them.
use Rattle.std.proofs.Common.{◌≡◌, ℕ, zero, suc, ◌<◌, ◌≤◌, List, [], ◌∷◌, ◌++◌, length, get_or, false, Option, Some, IsSome, Bor, IsUtf8, nat_cmp, Ordering, Less, Equal, Greater, refl, sym, ap, ◌∙◌, subst, arith, append_assoc, append-nil}
use Rattle.std.proofs.lemmas.Bool.{or_parts}
use Rattle.std.proofs.lemmas.Option.{same_Some}
use Rattle.std.specs.BTreeMap.{insert_entry}
use Rattle.std.specs.Cmp.Lexicographic.{slice_cmp}
use Rattle.std.specs.Ordering.{match_ordering}
use Rattle.json.specs.Json as json
use Rattle.json.specs.Json.{Json}
use Rattle.json.specs.Value.{value_view, members_view}
use Rattle.serde_json.specs.Data.{Data, Members, no_members, member, put, depth, members_depth}
use Rattle.serde_json.specs.Events.{members_len}
use Rattle.serde_json.specs.Read.{of_json, of_members}
use Rattle.serde_json.specs.Written.{has_float, members_have_float}
use Rattle.transformers.specs.declared.head.Major.TheVariants.{Map}
use Rattle.transformers.specs.Puts.{PutsItem, PutsMember, PutsMembers, PutsFront, RefusesItem, RefusesMembers, Entry, json_at, StandsFor, ArePlaced, HasKeys}
use Rattle.transformers.specs.Shortest.{shortest, shortest_head, members_bytes, text_bytes}
use Rattle.transformers.specs.Told.{IsSound, AreSoundMembers}
use Rattle.transformers.proofs.Compact.{above, below_all, below_put}
use Rattle.transformers.proofs.Putting.{is_some_of, some_of, then_some}

-- ---- the members of an object that count

abbrev pub Places : Type 0
Places = List (Bor (List ℕ) × ℕ)

pub json_at_is : (all : List Entry) (i : ℕ) (e : Entry) → i < length all → e ≡ get_or all i e → json_at all i ≡ Some (value_view e.1)
json_at_is [] i e lt is = absurd (omega arith)
json_at_is (f ∷ all) zero e lt is = ap (λ (g : Entry). Some (value_view g.1)) (sym is)
json_at_is (f ∷ all) (suc i) e lt is = json_at_is all i e (omega arith) is

pub json_within : (all : List Entry) (i : ℕ) (j : Json) → json_at all i ≡ Some j → i < length all
json_within [] i j e = absurd cc
json_within (f ∷ all) zero j e = omega arith
json_within (f ∷ all) (suc i) j e = omega (arith, json_within all i j e)

member_split : (k : List ℕ) (j : Json) (js : json.Members) (found all : Members) → of_members (json.member k j js) found ≡ Some all → (d : Data) × (of_json j ≡ Some d) × (of_members js (put k d found) ≡ Some all)
member_split k j js found all e = then_some (of_json j) (λ d. of_members js (put k d found)) all e

keys_at : (o : Ordering) (k : List ℕ) (d : Data) (l : List ℕ) (e : Data) (ms : Members) → slice_cmp nat_cmp k l ≡ o → HasKeys (member l e ms) → HasKeys (put k d ms)
    → HasKeys (match_ordering o (member k d (member l e ms)) (member l d ms) (member l e (put k d ms)))
keys_at Less k d l e ms is all later = ((is, below_all k l ms is all.0), all)
keys_at Equal k d l e ms is all later = all
keys_at Greater k d l e ms is all later = (below_put l k d ms (above k l is) all.0, later)

put_keys : (k : List ℕ) (d : Data) (ms : Members) → HasKeys ms → HasKeys (put k d ms)
put_keys k d no_members all = (tt, tt)
put_keys k d (member l e ms) all = keys_at (slice_cmp nat_cmp k l) k d l e ms refl all (put_keys k d ms all.1)

placed_at : (all : List Entry) (o : Ordering) (a b c : Places) (x y z : Members) → ArePlaced all a x → ArePlaced all b y → ArePlaced all c z → ArePlaced all (match_ordering o a b c) (match_ordering o x y z)
placed_at all Less a b c x y z p q r = p
placed_at all Equal a b c x y z p q r = q
placed_at all Greater a b c x y z p q r = r

-- how texts that are borrowed are compared
abbrev pub text_cmp : Bor (List ℕ) → Bor (List ℕ) → Ordering
text_cmp a b = slice_cmp nat_cmp a.now b.now

placed_insert : (all : List Entry) (es : Places) (ms : Members) (key : Bor (List ℕ)) (i : ℕ) (d : Data) → ArePlaced all es ms → StandsFor all i d → ArePlaced all (insert_entry text_cmp es key i) (put key.now d ms)
placed_insert all [] no_members key i d h is = (refl, is, tt)
placed_insert all [] (member l e ms) key i d h is = absurd h
placed_insert all (f ∷ es) no_members key i d h is = absurd h
placed_insert all (f ∷ es) (member l e ms) key i d h is =
    let same : slice_cmp nat_cmp key.now l ≡ text_cmp key f.0 = ap (λ (x : List ℕ). slice_cmp nat_cmp key.now x) (sym h.0) in
    subst (λ (o : Ordering). ArePlaced all (match_ordering (text_cmp key f.0) ((key, i) ∷ f ∷ es) ((f.0, i) ∷ es) (f ∷ insert_entry text_cmp es key i)) (match_ordering o (member key.now d (member l e ms)) (member l d ms) (member l e (put key.now d ms))))
    (sym same)
    (placed_at all (text_cmp key f.0) ((key, i) ∷ f ∷ es) ((f.0, i) ∷ es) (f ∷ insert_entry text_cmp es key i) (member key.now d (member l e ms)) (member l d ms) (member l e (put key.now d ms))
    (refl, is, h) (h.0, is, h.2) (h.0, h.1, placed_insert all es ms key i d h.2 is))

pub places_counted : (all : List Entry) (es : Places) (ms : Members) → ArePlaced all es ms → members_len ms ≡ length es
places_counted all [] no_members h = refl
places_counted all [] (member k d ms) h = absurd h
places_counted all (e ∷ es) no_members h = absurd h
places_counted all (e ∷ es) (member k d ms) h = ap suc (places_counted all es ms h.2)

-- the places of the members before those that are left
pub record PlacedSoFar (all left : List Entry) (total : Members) (places : Places) : Type 0 where
  pub found : Members
  pub is : of_members (members_view left) found ≡ Some total
  pub placed : ArePlaced all places found
  pub keys : HasKeys found

pub places_begun : (all : List Entry) (total : Members) (places : Places) → places ≡ [] → of_members (members_view all) no_members ≡ Some total → PlacedSoFar all all total places
places_begun all total places e is =
    record { found = no_members; is = is; placed = subst (λ (es : Places). ArePlaced all es no_members) (sym e) tt; keys = tt }

pub one_placed : (all left : List Entry) (e : Entry) (i : ℕ) (total : Members) (old new : Places) → PlacedSoFar all (e ∷ left) total old → json_at all i ≡ Some (value_view e.1) → new ≡ insert_entry text_cmp old e.0 i
    → PlacedSoFar all left total new
one_placed all left e i total old new p at is =
    let s = member_split e.0.now (value_view e.1) (members_view left) p.found total p.is in
    record {
      found = put e.0.now s.0 p.found;
      is = s.2;
      placed = subst (λ (es : Places). ArePlaced all es (put e.0.now s.0 p.found)) (sym is) (placed_insert all old p.found e.0 i s.0 p.placed (value_view e.1, at, s.1));
      keys = put_keys e.0.now s.0 p.found p.keys;
    }

pub all_placed : (all : List Entry) (total : Members) (places : Places) → PlacedSoFar all [] total places → ArePlaced all places total × HasKeys total
all_placed all total places p =
    let same : p.found ≡ total = same_Some p.found total p.is in
    (subst (λ (ms : Members). ArePlaced all places ms) same p.placed, subst HasKeys same p.keys)

-- those that are left are the end of all that count
pub record MembersLeft (all : List Entry) (levels : ℕ) (left : Places) (total : Members) (start out : List ℕ) : Type 0 where
  pub value : Members
  pub placed : ArePlaced all left value
  pub keys : HasKeys value
  pub good : AreSoundMembers value → AreSoundMembers total
  pub nested : members_depth value ≤ levels → members_depth total ≤ levels
  pub whole : members_have_float total ≡ false → members_have_float value ≡ false
  pub shallow : members_depth total ≤ levels → members_depth value ≤ levels
  pub told : out ++ members_bytes value ≡ start ++ members_bytes total

-- the same, of a list that is the same
pub members_at : (all : List Entry) (levels : ℕ) (left next : Places) (total : Members) (start out : List ℕ) → left ≡ next → MembersLeft all levels left total start out → MembersLeft all levels next total start out
members_at all levels left next total start out e l = subst (λ es. MembersLeft all levels es total start out) e l

pub members_begun : (all : List Entry) (levels : ℕ) (left : Places) (total : Members) (start : List ℕ) → ArePlaced all left total → HasKeys total → MembersLeft all levels left total start start
members_begun all levels left total start placed keys =
    record { value = total; placed = placed; keys = keys; good = λ h. h; nested = λ h. h; whole = λ h. h; shallow = λ h. h; told = refl }

-- the entry at the front, and its value
placed_split : (all : List Entry) (e : Bor (List ℕ) × ℕ) (es : Places) (ms : Members) → ArePlaced all (e ∷ es) ms → (d : Data) × (rest : Members) × (ms ≡ member e.0.now d rest) × StandsFor all e.1 d × ArePlaced all es rest
placed_split all e es no_members h = absurd h
placed_split all e es (member k d ms) h = (d, ms, ap (λ (l : List ℕ). member l d ms) (sym h.0), h.1, h.2)

pub place_within : (all : List Entry) (levels : ℕ) (e : Bor (List ℕ) × ℕ) (es : Places) (total : Members) (start out : List ℕ) → MembersLeft all levels (e ∷ es) total start out → e.1 < length all
place_within all levels e es total start out l =
    let s = placed_split all e es l.value l.placed in json_within all e.1 s.3.0 s.3.1

stands_for : (all : List Entry) (i : ℕ) (d : Data) (f : Entry) → StandsFor all i d → i < length all → f ≡ get_or all i f → of_json (value_view f.1) ≡ Some d
stands_for all i d f s lt is =
    let same : value_view f.1 ≡ s.0 = same_Some (value_view f.1) s.0 (sym (json_at_is all i f lt is) ∙ s.1) in
    ap of_json same ∙ s.2

pub member_readable : (all : List Entry) (levels : ℕ) (e : Bor (List ℕ) × ℕ) (es : Places) (total : Members) (start out : List ℕ) (f : Entry) → MembersLeft all levels (e ∷ es) total start out → f ≡ get_or all e.1 f
    → IsSome (of_json (value_view f.1))
member_readable all levels e es total start out f l is =
    let s = placed_split all e es l.value l.placed in
    is_some_of (of_json (value_view f.1)) s.0 (stands_for all e.1 s.0 f s.3 (json_within all e.1 s.3.0 s.3.1) is)

pub member_put : (all : List Entry) (levels : ℕ) (e : Bor (List ℕ) × ℕ) (es : Places) (total : Members) (start old new : List ℕ) (f : Entry) → MembersLeft all levels (e ∷ es) total start old → f ≡ get_or all e.1 f
    → PutsMember e.0.now levels (of_json (value_view f.1)) old new → MembersLeft all levels es total start new
member_put all levels e es total start old new f l is p =
    let s = placed_split all e es l.value l.placed in
    let k = e.0.now in
    let whole_one = member k s.0 s.1 in
    let same : p.value ≡ s.0 = same_Some p.value s.0 (sym p.is ∙ stands_for all e.1 s.0 f s.3 (json_within all e.1 s.3.0 s.3.1) is) in
    let sound : IsSound s.0 = subst IsSound same p.good.1 in
    let within : depth s.0 ≤ levels = subst (λ (d : Data). depth d ≤ levels) same p.nested in
    let keys : HasKeys whole_one = subst HasKeys s.2 l.keys in
    record {
      value = s.1;
      placed = s.4;
      keys = keys.1;
      good = λ h. l.good (subst AreSoundMembers (sym s.2) (p.good.0, keys.0, sound, h));
      nested = λ h. l.nested (subst (λ (ms : Members). members_depth ms ≤ levels) (sym s.2) (omega (arith, within, h)));
      whole = λ h. (or_parts (has_float s.0) (members_have_float s.1) (subst (λ (ms : Members). members_have_float ms ≡ false) s.2 (l.whole h))).1;
      shallow = λ h. (let both : members_depth whole_one ≤ levels = subst (λ (ms : Members). members_depth ms ≤ levels) s.2 (l.shallow h) in omega (arith, both));
      told = ap (λ (x : List ℕ). x ++ members_bytes s.1) (p.told ∙ ap (λ (d : Data). old ++ (text_bytes k ++ shortest d)) same) ∙ append_assoc old (text_bytes k ++ shortest s.0) (members_bytes s.1)
          ∙ ap (λ (x : List ℕ). old ++ x) (append_assoc (text_bytes k) (shortest s.0) (members_bytes s.1)) ∙ ap (λ (ms : Members). old ++ members_bytes ms) (sym s.2) ∙ l.told;
    }

pub member_refused : (all : List Entry) (levels : ℕ) (e : Bor (List ℕ) × ℕ) (es : Places) (total : Members) (start out : List ℕ) (f : Entry) → MembersLeft all levels (e ∷ es) total start out → f ≡ get_or all e.1 f
    → RefusesItem levels (of_json (value_view f.1)) → RefusesMembers levels (Some total)
member_refused all levels e es total start out f l is refuses x same within =
    let s = placed_split all e es l.value l.placed in
    let whole_one = member e.0.now s.0 s.1 in
    let back : x ≡ total = sym (same_Some total x same) in
    let has = subst (λ (ms : Members). members_have_float ms ≡ false) s.2 (l.whole (subst (λ (ms : Members). members_have_float ms ≡ false) back within.0)) in
    let both : members_depth whole_one ≤ levels = subst (λ (ms : Members). members_depth ms ≤ levels) s.2 (l.shallow (subst (λ (ms : Members). members_depth ms ≤ levels) back within.1)) in
    refuses s.0 (stands_for all e.1 s.0 f s.3 (json_within all e.1 s.3.0 s.3.1) is) ((or_parts (has_float s.0) (members_have_float s.1) has).0, omega (arith, both))

none_left : (all : List Entry) (ms : Members) → ArePlaced all [] ms → no_members ≡ ms
none_left all no_members h = refl
none_left all (member k d ms) h = absurd h

pub members_done : (all : List Entry) (levels : ℕ) (total : Members) (start out : List ℕ) → MembersLeft all levels [] total start out → PutsFront levels total start out
members_done all levels total start out l =
    let none = none_left all l.value l.placed in
    record {
      value = total;
      is = refl;
      good = l.good (subst AreSoundMembers none tt);
      nested = l.nested (subst (λ (ms : Members). members_depth ms ≤ levels) none (omega arith));
      told = sym (append-nil out) ∙ ap (λ (ms : Members). out ++ members_bytes ms) none ∙ l.told;
    }

-- behind the head
pub front_put : (levels count : ℕ) (read : Option Members) (total : Members) (old mid new : List ℕ) → read ≡ Some total → mid ≡ old ++ shortest_head Map count → count ≡ members_len total → PutsFront levels total mid new → PutsMembers levels read old new
front_put levels count read total old mid new is head counted p =
    let same : p.value ≡ total = same_Some p.value total (sym p.is) in
    record {
      value = total;
      is = is;
      good = subst AreSoundMembers same p.good;
      nested = subst (λ (ms : Members). members_depth ms ≤ levels) same p.nested;
      told = p.told ∙ ap (λ (ms : Members). mid ++ members_bytes ms) same ∙ ap (λ (x : List ℕ). x ++ members_bytes total) head ∙ append_assoc old (shortest_head Map count) (members_bytes total)
          ∙ ap (λ (n : ℕ). old ++ (shortest_head Map n ++ members_bytes total)) counted;
    }

pub member_told : (levels : ℕ) (key : List ℕ) (read : Option Data) (old mid new : List ℕ) → IsUtf8 key → mid ≡ old ++ text_bytes key → PutsItem levels read mid new → PutsMember key levels read old new
member_told levels key read old mid new utf8 e p =
    record {
      value = p.value;
      is = p.is;
      good = (utf8, p.good);
      nested = p.nested;
      told = p.told ∙ ap (λ (x : List ℕ). x ++ shortest p.value) e ∙ append_assoc old (text_bytes key) (shortest p.value);
    }

-- ---- an object of one member

pub only_list : {A : Type 0} (xs : List A) (x : A) → length xs ≡ 1 → x ≡ get_or xs 0 x → xs ≡ x ∷ []
only_list [] x one is = absurd (omega (arith, one))
only_list (y ∷ []) x one is = ap (λ z. z ∷ []) (sym is)
only_list (y ∷ z ∷ xs) x one is = absurd (omega (arith, one))

only_is : (e : Entry) (total : Members) → of_members (members_view (e ∷ [])) no_members ≡ Some total → (d : Data) × (of_json (value_view e.1) ≡ Some d) × (member e.0.now d no_members ≡ total)
only_is e total is =
    let s = member_split e.0.now (value_view e.1) json.no_members no_members total is in (s.0, s.1, same_Some (member e.0.now s.0 no_members) total s.2)

pub only_readable : (e : Entry) (read : Option Members) → read ≡ of_members (members_view (e ∷ [])) no_members → IsSome read → IsSome (of_json (value_view e.1))
only_readable e read is h =
    let t = some_of read h in
    let s = only_is e t.0 (sym is ∙ t.1) in is_some_of (of_json (value_view e.1)) s.0 s.1

pub only_put : (levels : ℕ) (e : Entry) (read : Option Members) (old mid new : List ℕ) → read ≡ of_members (members_view (e ∷ [])) no_members → mid ≡ old ++ shortest_head Map 1 → PutsMember e.0.now levels (of_json (value_view e.1)) mid new
    → PutsMembers levels read old new
only_put levels e read old mid new is head p =
    let k = e.0.now in
    let d = p.value in
    record {
      value = member k d no_members;
      is = is ∙ rw p.is refl;
      good = (p.good.0, tt, p.good.1, tt);
      nested = omega (arith, p.nested);
      told = p.told ∙ ap (λ (x : List ℕ). x ++ (text_bytes k ++ shortest d)) head ∙ append_assoc old (shortest_head Map 1) (text_bytes k ++ shortest d)
          ∙ ap (λ (x : List ℕ). old ++ (shortest_head Map 1 ++ (text_bytes k ++ x))) (sym (append-nil (shortest d)));
    }

pub only_refused : (levels : ℕ) (e : Entry) (read : Option Members) → read ≡ of_members (members_view (e ∷ [])) no_members → RefusesItem levels (of_json (value_view e.1)) → RefusesMembers levels read
only_refused levels e read is refuses x r within =
    let s = only_is e x (sym is ∙ r) in
    let both = subst (λ (ms : Members). (members_have_float ms ≡ false) × (members_depth ms ≤ levels)) (sym s.2) within in
    refuses s.0 s.1 ((or_parts (has_float s.0) false both.0).0, omega (arith, both.1))
