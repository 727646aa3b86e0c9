-- The bank has the routes that the settings list.
use Rattle.std.proofs.Common.{List, subst}
use Rattle.media_map.specs.declared.form.Form.{Form}
use Rattle.http_mapping.specs.Typings.{typing_shown, IsAlong}
use Rattle.http_mapping.proofs.mapping.request_meant.Goals as goal

pub sending_of-requires-clause-along : goal.sending_of-requires-clause-along
sending_of-requires-clause-along g c =
    subst (λ (routes : List (Form × Form)). IsAlong routes (typing_shown c.typing_of-typing.result)) c.requires.suits.routes_are c.typing_of-typing.ensures.along
