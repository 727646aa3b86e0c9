-- Laws of the relations.
use Rattle.std.proofs.Common.{◌≡◌, List, ℕ, Some, refl, sym, ap, ◌∙◌}
use Rattle.std.proofs.lemmas.Option.{same_Some}
use Rattle.serde_json.specs.Data.{Data}
use Rattle.serde_json.specs.Written.{compact_text}
use Rattle.transformers.specs.Kinds.{CborToJson, JsonToCbor, TakesCbor, TakesJson, IsInProfile, IsShortestOf}
use Rattle.transformers.specs.Item.{denoted}
use Rattle.transformers.specs.Shortest.{shortest}
use Rattle.transformers.proofs.Within.{denoted_within}

pub one_json : (x y z : List ℕ) → CborToJson x y → CborToJson x z → y ≡ z
one_json x y z a b = a.compact ∙ ap compact_text (same_Some a.value b.value (sym a.from ∙ b.from)) ∙ sym b.compact

pub one_cbor : (x y z : List ℕ) → JsonToCbor x y → JsonToCbor x z → y ≡ z
one_cbor x y z a b = a.shortest ∙ ap shortest (same_Some a.value b.value (sym a.from ∙ b.from)) ∙ sym b.shortest

pub cbor_taken : (x y : List ℕ) → CborToJson x y → TakesCbor x
cbor_taken x y a = rw a.from refl

pub json_taken : (x y : List ℕ) → JsonToCbor x y → TakesJson x
json_taken x y a = record { value = a.value; utf8 = a.utf8; from = a.from; profile = a.profile }

pub made_taken : (x y : List ℕ) → CborToJson x y → TakesJson y
made_taken x y a =
    let within = denoted_within x a.value a.from in
    record { value = a.value; utf8 = a.utf8; from = a.to; profile = record { whole = within.0; nested = within.1 } }

pub made_shortest : (x y z : List ℕ) → CborToJson x y → JsonToCbor y z → IsShortestOf x z
made_shortest x y z a b =
    let same : b.value ≡ a.value = same_Some b.value a.value (sym b.from ∙ a.to) in
    record { value = a.value; from = a.from; to = b.to ∙ ap Some same; shortest = b.shortest ∙ ap shortest same }

-- ---- the shortest encoding

pub one_shortest : (x y z : List ℕ) → IsShortestOf x y → IsShortestOf x z → y ≡ z
one_shortest x y z a b = a.shortest ∙ ap shortest (same_Some a.value b.value (sym a.from ∙ b.from)) ∙ sym b.shortest

pub shortest_itself : (x z : List ℕ) → IsShortestOf x z → IsShortestOf z z
shortest_itself x z a = record { value = a.value; from = a.to; to = a.to; shortest = a.shortest }

pub shortest_tells : (x y z : List ℕ) → IsShortestOf x z → IsShortestOf y z → denoted x ≡ denoted y
shortest_tells x y z a b = a.from ∙ sym a.to ∙ b.to ∙ sym b.from

pub in_profile : (x : List ℕ) (d : Data) → denoted x ≡ Some d → IsInProfile d
in_profile x d e = let within = denoted_within x d e in record { whole = within.0; nested = within.1 }
