-- What calls do to the table of tokens that are awaited.
use Rattle.std.proofs.Common.{◌≡◌, ℕ, List, [], ◌∷◌, filter, map, None, Bool, true, false, not, cond, ◌&&◌, ◌||◌, refl, sym, ◌∙◌, ap, subst}
use Rattle.std.specs.List.{list_any}
use Rattle.std.specs.Str.{bytes_eq}
use Rattle.std.proofs.lemmas.Slice.Eq.{bytes_eq-Decides}
use Rattle.std.proofs.lemmas.List.Folds.{list_any-append}
use Rattle.std.proofs.lemmas.Map.Views.{any-filter_same}
use Rattle.coap_codec.specs.Spelling.{Content}
use Rattle.message_layer.specs.Hearing.{is_awaited, is_awaited_by_ack, mid_is, says, answered, answered_in}
use Rattle.message_layer.specs.Calls.{expected_in, is_other}
use Rattle.message_layer.specs.Awaiting.{tells_under}
use Rattle.message_layer.specs.declared.state.Awaited.{Awaited}
use Rattle.message_layer.specs.declared.verdict.News.{News}
use Rattle.message_layer.specs.declared.verdict.News.TheVariants.{Quiet, Response, Reset, Lost}
use Rattle.message_layer.proofs.Sound.{either}

pub or-false : (b : Bool) → b ≡ (b || false)
or-false true = refl
or-false false = refl

-- what a response that is told does to the table
token-same : (a b : List ℕ) → bytes_eq a b ≡ true → a ≡ b
token-same a b e = (bytes_eq-Decides a b).0 e

same-token : (a : List ℕ) → bytes_eq a a ≡ true
same-token a = (bytes_eq-Decides a a).1 refl

turn-over : (a b : List ℕ) → bytes_eq a b ≡ bytes_eq b a
turn-over a b = by (bytes_eq a b) (bytes_eq b a) refl refl
  where
    by : (p q : Bool) → bytes_eq a b ≡ p → bytes_eq b a ≡ q → bytes_eq a b ≡ bytes_eq b a
    by true true e f = e ∙ sym f
    by false false e f = e ∙ sym f
    by true false e f = absurd (let x : false ≡ true = sym f ∙ ap (λ (y : List ℕ). bytes_eq b y) (token-same a b e) ∙ same-token b in cc)
    by false true e f = absurd (let x : false ≡ true = sym e ∙ ap (λ (y : List ℕ). bytes_eq a y) (token-same b a f) ∙ same-token a in cc)

answered-token : (of token : List ℕ) (a : Awaited) → is_awaited token (answered of a) ≡ is_awaited token a
answered-token of token a = either (λ (b : Awaited). is_awaited token b ≡ is_awaited token a) (bytes_eq a.token of) _ _ (λ e. refl) (λ e. refl)

answered-awaited : (of token : List ℕ) (table : List Awaited) → list_any (is_awaited token) (map (answered of) table) ≡ list_any (is_awaited token) table
answered-awaited of token [] = refl
answered-awaited of token (a ∷ table) = rw (answered-token of token a, answered-awaited of token table) refl

and-step : (p a q x : Bool) → p ≡ (a && q) → ((p || (x && q)) ≡ ((a || x) && q))
and-step p true q true e = rw e (both q)
  where
    both : (q : Bool) → (q || q) ≡ q
    both true = refl
    both false = refl
and-step p true q false e = rw e (sym (or-false q))
and-step p false q x e = rw e refl

answered-ack : (of token : List ℕ) (mid : ℕ) (a : Awaited) → is_awaited_by_ack mid token (answered of a) ≡ (is_awaited_by_ack mid token a && not (bytes_eq token of))
answered-ack of token mid a = either (λ (b : Awaited). is_awaited_by_ack mid token b ≡ (is_awaited_by_ack mid token a && not (bytes_eq token of))) (bytes_eq a.token of) _ _
    (λ e. taken (mid_is mid a.mid) (bytes_eq a.token token) refl e)
    (λ e. kept (mid_is mid a.mid) (bytes_eq a.token token) refl e)
  where
    taken : (m b : Bool) → bytes_eq a.token token ≡ b → bytes_eq a.token of ≡ true → false ≡ ((m && b) && not (bytes_eq token of))
    taken false b e f = refl
    taken true false e f = refl
    taken true true e f = let g : bytes_eq token of ≡ true = subst (λ (x : List ℕ). bytes_eq x of ≡ true) (token-same a.token token e) f in rw g refl

    kept : (m b : Bool) → bytes_eq a.token token ≡ b → bytes_eq a.token of ≡ false → (m && b) ≡ ((m && b) && not (bytes_eq token of))
    kept false b e f = refl
    kept true false e f = refl
    kept true true e f = let g : bytes_eq token of ≡ false = subst (λ (x : List ℕ). bytes_eq x of ≡ false) (token-same a.token token e) f in rw g refl

answered-acks : (of token : List ℕ) (mid : ℕ) (table : List Awaited) → list_any (is_awaited_by_ack mid token) (map (answered of) table) ≡ (list_any (is_awaited_by_ack mid token) table && not (bytes_eq token of))
answered-acks of token mid [] = refl
answered-acks of token mid (a ∷ table) =
    rw (answered-acks of token mid table) (and-step (is_awaited_by_ack mid token (answered of a)) (is_awaited_by_ack mid token a) (not (bytes_eq token of)) (list_any (is_awaited_by_ack mid token) table) (answered-ack of token mid a))

pub and-true : (b : Bool) → b ≡ (b && true)
and-true true = refl
and-true false = refl

pub news-awaited : (news : News) (m : Content) (token : List ℕ) (table : List Awaited) → list_any (is_awaited token) (answered_in m.token news table) ≡ list_any (is_awaited token) table
news-awaited Quiet m token table = refl
news-awaited Response m token table = answered-awaited m.token token table
news-awaited (Reset other) m token table = refl
news-awaited Lost m token table = refl

pub news-acks : (news : News) (m : Content) (mid : ℕ) (token : List ℕ) (table : List Awaited)
    → list_any (is_awaited_by_ack mid token) (answered_in m.token news table) ≡ (list_any (is_awaited_by_ack mid token) table && not (tells_under token (says news m)))
news-acks Quiet m mid token table = and-true _
news-acks Response m mid token table = answered-acks m.token token mid table
news-acks (Reset other) m mid token table = and-true _
news-acks Lost m mid token table = and-true _

-- what is expected
expected-off : (of token : List ℕ) (table : List Awaited) → list_any (is_awaited token) (filter (is_other of) table) ≡ (not (bytes_eq token of) && list_any (is_awaited token) table)
expected-off of token table = any-filter_same (is_awaited token) (is_other of) (not (bytes_eq token of)) (λ a e. ap (λ (x : List ℕ). not (bytes_eq x of)) (token-same a.token token e)) table

right-true : (a b : Bool) → (a && b) ≡ true → b ≡ true
right-true true b e = e
right-true false b e = absurd cc

expected-off-acks : (of token : List ℕ) (mid : ℕ) (table : List Awaited) → list_any (is_awaited_by_ack mid token) (filter (is_other of) table) ≡ (not (bytes_eq token of) && list_any (is_awaited_by_ack mid token) table)
expected-off-acks of token mid table = any-filter_same (is_awaited_by_ack mid token) (is_other of) (not (bytes_eq token of))
    (λ a e. ap (λ (x : List ℕ). not (bytes_eq x of)) (token-same a.token token (right-true (mid_is mid a.mid) (bytes_eq a.token token) e))) table

pub expected-awaited : (of token : List ℕ) (on : Bool) (table : List Awaited) → list_any (is_awaited token) (expected_in of on table) ≡ cond (bytes_eq token of) on (list_any (is_awaited token) table)
expected-awaited of token false table = expected-off of token table ∙ by (bytes_eq token of) (list_any (is_awaited token) table)
  where
    by : (b x : Bool) → (not b && x) ≡ cond b false x
    by true x = refl
    by false x = refl
expected-awaited of token true table = either (λ (xs : List Awaited). list_any (is_awaited token) xs ≡ cond (bytes_eq token of) true (list_any (is_awaited token) table)) (list_any (is_awaited of) table) _ _
    (λ e. there (bytes_eq token of) refl e)
    (λ e. list_any-append (is_awaited token) table (record { token = of; mid = None } ∷ []) ∙ rw (turn-over of token) (more (bytes_eq token of) (list_any (is_awaited token) table)))
  where
    there : (b : Bool) → bytes_eq token of ≡ b → list_any (is_awaited of) table ≡ true → list_any (is_awaited token) table ≡ cond b true (list_any (is_awaited token) table)
    there true e f = subst (λ (x : List ℕ). list_any (is_awaited x) table ≡ true) (sym (token-same token of e)) f
    there false e f = refl

    more : (b x : Bool) → (x || (b || false)) ≡ cond b true x
    more true true = refl
    more true false = refl
    more false true = refl
    more false false = refl

pub expected-acks : (of token : List ℕ) (mid : ℕ) (on : Bool) (table : List Awaited)
    → list_any (is_awaited_by_ack mid token) (expected_in of on table) ≡ (list_any (is_awaited_by_ack mid token) table && (on || not (bytes_eq token of)))
expected-acks of token mid false table = expected-off-acks of token mid table ∙ by (not (bytes_eq token of)) (list_any (is_awaited_by_ack mid token) table)
  where
    by : (b x : Bool) → (b && x) ≡ (x && b)
    by true true = refl
    by true false = refl
    by false true = refl
    by false false = refl
expected-acks of token mid true table = either (λ (xs : List Awaited). list_any (is_awaited_by_ack mid token) xs ≡ (list_any (is_awaited_by_ack mid token) table && true)) (list_any (is_awaited of) table) _ _
    (λ e. and-true _)
    (λ e. list_any-append (is_awaited_by_ack mid token) table (record { token = of; mid = None } ∷ []) ∙ sym (or-false _) ∙ and-true _)
