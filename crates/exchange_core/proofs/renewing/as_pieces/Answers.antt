use Rattle.std.proofs.Common.{◌≡◌, ℕ, true, false, List, ◌∷◌, ◌++◌, [], sym, ap, subst, ◌∙◌}
use Rattle.std.specs.Prelude.{IfOk}
use Rattle.std.specs.List.{list_all}
use Rattle.resp_cache.specs.Stored.{Stored, stored_of}
use Rattle.exchange_model.specs.Steps.{as_pieces, is_piece_at}
use Rattle.exchange_core.proofs.Listed.{all-kept, front-kept, heard-ends}
use Rattle.exchange_core.proofs.renewing.as_pieces.Goals as goal

pub returns-then-is_as_heard : goal.returns-then-is_as_heard
returns-then-is_as_heard g c =
    let ws = c.args.journal.now.entries in
    let s : Stored = c.args.stored.now in
    let e : list_all (is_piece_at ws) s.list ≡ true = sym (heard-ends ws s.list c.requires.listed) ∙ (sym c.is_as_heard.ensures ∙ c.if-is_as_heard.true) in
    subst (λ (v : Stored). IfOk c.share.result (λ (r : Stored). r ≡ v)) (all-kept ws s e) c.share.ensures

pub returns-in_ok-list-in-Some : goal.returns-in_ok-list-in-Some
returns-in_ok-list-in-Some g c =
    let ws = c.args.journal.now.entries in
    let s : Stored = c.args.stored.now in
    let n = c.in-Some.field-0-0.now in
    let front = c.in-Some.pieces.now in
    let e : list_all (is_piece_at ws) s.list ≡ false = sym (heard-ends ws s.list c.requires.listed) ∙ (sym c.is_as_heard.ensures ∙ c.if-is_as_heard.false) in
    let last : s.list ≡ front ++ n ∷ [] = sym c.list.ensures ∙ c.in-Some.ensures.cases.0 in
    let is : stored_of s.response c.opening.result s.heard c.in_ok-list-in-Some.list.items ≡ as_pieces ws s =
    ap (λ (o : ℕ). stored_of s.response o s.heard c.in_ok-list-in-Some.list.items) c.opening.ensures
    ∙ (ap (λ (js : List ℕ). stored_of s.response s.opening s.heard js) c.in_ok-list-in-Some.ensures.items ∙ front-kept ws s n front c.requires.listed e last) in
    subst (λ (v : Stored). IfOk c.carried.result (λ (r : Stored). r ≡ v)) is c.carried.ensures
