-- The bytes that are rendered are those of a response that means the answer.
use Rattle.std.proofs.Common.{List, ◌-◌, sym, subst}
use Rattle.std.specs.Arc.{arc_value}
use Rattle.media_map.specs.declared.form.Form.{Form}
use Rattle.http_mapping.specs.Means.{Means}
use Rattle.sessions.proofs.writing.reply_of.Goals as goal

pub returns : goal.returns
returns g c rules suits =
    let answer = c.args.answer.now in
    let written = c.in_ok-bytes.ensures in (
      written.answer,
      subst
          (λ (routes : List (Form × Form)).
          Means routes g.R.Relation.holds g.R.Relation.takes (arc_value answer.mapped) answer.finding
          (answer.moment - answer.heard) written.answer)
          (sym suits.routes_are) (rw (c.deref.ensures, c.saturating_sub-age.ensures) at written.means),
      written.text,
    )
