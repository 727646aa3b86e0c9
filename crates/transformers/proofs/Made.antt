-- A whole JSON text, and the item that is made of it.
use Rattle.std.proofs.Common.{◌≡◌, List, ℕ, [], ◌∷◌, ◌++◌, Option, Some, None, is_some, false, true≢false, option_and_then, Result, Ok, Err, IfOk, IsUtf8, Vec, Global, refl, sym, ap, ◌∙◌}
use Rattle.json.specs.Token.{Token}
use Rattle.json.specs.Lex.{tokens}
use Rattle.json.specs.Json as json
use Rattle.serde_json.specs.Data.{Data}
use Rattle.serde_json.specs.Read.{of_json, read}
use Rattle.transformers.specs.declared.refused.Refused.{Refused}
use Rattle.transformers.specs.declared.refused.Refused.TheVariants.{Content}
use Rattle.transformers.specs.Item.{denoted}
use Rattle.transformers.specs.Keeps.{Fits}
use Rattle.transformers.specs.Kinds.{JsonToCbor, TakesJson}
use Rattle.transformers.specs.Puts.{PutsItem, RefusesItem}
use Rattle.transformers.specs.Shortest.{shortest}
use Rattle.transformers.proofs.Back.{sound_back, sound_whole, whole_back}

abbrev whole : Option (json.Json × List Token) → Option Data
whole o = option_and_then of_json (option_and_then (λ p. json.if_last p.0 p.1) o)

pub read_whole : (text : List ℕ) (ts : List Token) (j : json.Json) → ts ≡ tokens text → json.value 127 ts ≡ Some (j, []) → of_json j ≡ read text
read_whole text ts j is e = sym (ap whole e) ∙ ap (λ (us : List Token). whole (json.value 127 us)) is

pub read_more : (text : List ℕ) (ts : List Token) (j : json.Json) (t : Token) (left : List Token) → ts ≡ tokens text → json.value 127 ts ≡ Some (j, t ∷ left) → read text ≡ None
read_more text ts j t left is e = sym (ap (λ (us : List Token). whole (json.value 127 us)) is) ∙ ap whole e

pub read_invalid : (text : List ℕ) (ts : List Token) → ts ≡ tokens text → json.value 127 ts ≡ None → read text ≡ None
read_invalid text ts is e = sym (ap (λ (us : List Token). whole (json.value 127 us)) is) ∙ ap whole e

-- the same, of what reads alike, behind nothing
pub put_alone : (r s : Option Data) (old new : List ℕ) → r ≡ s → old ≡ [] → PutsItem 32 r old new → PutsItem 32 s [] new
put_alone r s old new e none p =
    record { value = p.value; is = sym e ∙ p.is; good = p.good; nested = p.nested; told = p.told ∙ ap (λ (x : List ℕ). x ++ shortest p.value) none }

pub cbor_fits : (input text : List ℕ) (r : Result (Vec ℕ Global) Refused) → text ≡ input → IsUtf8 input → IfOk r (λ v. PutsItem 32 (read text) [] v.items) → (r ≡ Err Content → RefusesItem 32 (read text)) → Fits (JsonToCbor input) (TakesJson input) r
cbor_fits input text (Ok v) same utf8 ok content =
    record {
      value = ok.value;
      utf8 = utf8;
      from = ap read (sym same) ∙ ok.is;
      profile = record { whole = sound_whole ok.value ok.good; nested = ok.nested };
      to = ap denoted ok.told ∙ whole_back ok.value (sound_back ok.value 32 ok.good ok.nested);
      shortest = ok.told;
    }
cbor_fits input text (Err e) same utf8 ok content = λ is taken. content (ap Err is) taken.value (ap read same ∙ taken.from) (taken.profile.whole, taken.profile.nested)

pub none_of : {A : Type 0} (o : Option A) → is_some o ≡ false → o ≡ None
none_of None e = refl
none_of (Some a) e = absurd (true≢false e)

pub nothing_refused : (r : Option Data) → r ≡ None → RefusesItem 32 r
nothing_refused r e d is within = absurd (true≢false (sym (ap is_some (sym e ∙ is))))
