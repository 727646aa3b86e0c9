use Rattle.std.proofs.Common.{◌≡◌, ℕ, List, ◌++◌, Option, refl, ap, subst, ◌∙◌}
use Rattle.coap_codec.specs.Spelling.{content}
use Rattle.demo_origin.specs.Origins.{device}
use Rattle.demo_origin.specs.Hearing.{Executes}
use Rattle.demo_origin.specs.Uploads.{upload_of, body_at, before_piece, with_piece, with_body}
use Rattle.demo_origin.specs.declared.state.Upload.{Upload}
use Rattle.demo_origin.proofs.origin.Origin.finish.Goals as goal

pub returns-clause-ok : goal.returns-clause-ok
returns-clause-ok g c =
    let p = c.args.to.peer in
    let i = c.args.place in
    let b = c.args.b in
    let all = c.args.self.now.state.uploads.items in
    let k : c.upload_of-k.result ≡ upload_of p i all =
    c.upload_of-k.ensures
    ∙ ap (λ (us : List Upload). upload_of p i us) c.deref.ensures.value in
    let came : c.before_piece-before.result.now ≡ before_piece b (body_at (upload_of p i all) all) =
    c.before_piece-before.ensures
    ∙ ap (λ (us : List Upload). before_piece b (body_at c.upload_of-k.result us))
    c.deref-2.ensures.value
    ∙ ap (λ (o : Option ℕ). before_piece b (body_at o all)) k in
    let whole : c.in_ok-body.body.items
    ≡ with_piece p i b c.args.m.now.payload.items (device c.args.self.now) =
    c.in_ok-body.ensures
    ∙ ap (λ (xs : List ℕ). xs ++ c.deref-3.result.now) came
    ∙ ap (λ (ys : List ℕ). before_piece b (body_at (upload_of p i all) all) ++ ys)
    c.deref-3.ensures.value in
    let P : List ℕ → Type 0 = λ body.
    Executes g.H.Behaviour.relation c.args.to (with_body body (content c.args.m.now)) i
    c.args.method (device c.args.self.now) (device c.execute.new.self) c.in_ok-taken.taken in (
      device c.execute.new.self,
      subst P whole c.in_ok-taken.ensures.ok,
      rw c.drop_upload.ensures refl,
    )
