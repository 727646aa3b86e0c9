use Rattle.std.proofs.Common.{◌∙◌, sym}
use Rattle.media_map.proofs.Reading.{is_named, is_not_named, first_false, second_false}
use Rattle.media_map.proofs.media_type.MediaType.parse.Goals.{else-is_essence_text-via-then-is_essence_text+else-are_parameters, else-is_essence_text-via-else-is_essence_text}
use Rattle.media_map.proofs.media_type.MediaType.parse.Goals as goal

pub returns-then-are_parameters : goal.returns-then-are_parameters
returns-then-are_parameters c =
    sym (is_named _ _ _ _ c.next_piece.ensures.pieces c.trim-essence.ensures
    (sym c.is_essence_text.ensures ∙ c.if-is_essence_text.true) (sym c.are_parameters.ensures ∙ c.if-are_parameters.true))

pub returns-else-is_essence_text : goal.returns-else-is_essence_text
returns-else-is_essence_text c =
    sym (is_not_named _ _ _ _ c.next_piece.ensures.pieces c.trim-essence.ensures
    (elim c.else-is_essence_text.branch [
      | else-is_essence_text-via-then-is_essence_text+else-are_parameters w ↦ second_false _ _ (sym w.are_parameters.ensures ∙ w.if-are_parameters.false)
      | else-is_essence_text-via-else-is_essence_text w ↦ first_false _ _ (sym c.is_essence_text.ensures ∙ w.if-is_essence_text.false)
    ]))
