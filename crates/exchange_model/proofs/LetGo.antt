-- Tokens under which nothing is expected any more: whether a link lets go of them before it hands in a message or
-- after that is the same.
use Rattle.std.proofs.Common.{◌≡◌, ℕ, Bool, true, false, not, List, [], ◌∷◌, ◌++◌, Option, Some, None, refl, sym, ap, subst, ◌∙◌}
use Rattle.std.specs.Prelude.{◌&&◌, ◌||◌, filter}
use Rattle.std.specs.List.{AllByRecursion}
use Rattle.std.specs.Str.{bytes_eq}
use Rattle.std.proofs.lemmas.List.Elements.{filter_agree}
use Rattle.message_layer.specs.Values.{LinkState}
use Rattle.message_layer.specs.Calls.{expected, is_other}
use Rattle.message_layer.specs.Sending.{first_sent, next_by, queued, submitted, submitted_by, with_outstanding}
use Rattle.message_layer.specs.declared.state.Awaited.{Awaited}
use Rattle.message_layer.specs.declared.state.Outstanding.{Outstanding}
use Rattle.message_layer.specs.declared.state.Waiting.{Waiting}
use Rattle.history_laws.proofs.CallerLemmas.{filter-push}
use Rattle.history_links.specs.Steps.{lets_go}
use Rattle.exchange_model.specs.Watching.{is_one_of}
use Rattle.exchange_model.specs.Entering.{awaits_no_more}
use Rattle.exchange_model.proofs.Lists.{filter-both}

none-gone : (xs : List Awaited) → filter (λ (a : Awaited). true) xs ≡ xs
none-gone [] = refl
none-gone (a ∷ xs) = ap (λ (bs : List Awaited). a ∷ bs) (none-gone xs)

-- one after another, or all at once
pub let-go-all : (tokens : List (List ℕ)) (s : LinkState) → awaits_no_more tokens s ≡ lets_go (is_one_of tokens) s
let-go-all [] s = ap (λ (xs : List Awaited). record s { awaited = xs }) (sym (none-gone s.awaited))
let-go-all (token ∷ tokens) s =
    let-go-all tokens (expected token false s)
    ∙ ap (λ (xs : List Awaited). record s { awaited = xs })
    (sym (filter-both (λ (a : Awaited). not (is_one_of tokens a.token)) (is_other token) s.awaited)
    ∙ filter_agree (λ (a : Awaited). not (is_one_of tokens a.token) && is_other token a) (λ (a : Awaited). not (is_one_of (token ∷ tokens) a.token))
    (λ a. neither (bytes_eq a.token token) (is_one_of tokens a.token)) s.awaited)
  where
    neither : (b c : Bool) → (not c && not b) ≡ not (b || c)
    neither true true = refl
    neither true false = refl
    neither false true = refl
    neither false false = refl

-- The next message goes out under another token.
pub next-let-go : (t : ℕ) (gone : List ℕ → Bool) (s : LinkState) (ws : List Waiting) → AllByRecursion (λ (w : Waiting). gone w.token ≡ false) ws
    → lets_go gone (next_by t s ws) ≡ next_by t (lets_go gone s) ws
next-let-go t gone s [] h = refl
next-let-go t gone s (w ∷ ws) h =
    ap (λ (xs : List Awaited). record (with_outstanding s ws (first_sent t s.last_mid w)) { awaited = xs })
    (filter-push (λ (a : Awaited). not (gone a.token)) s.awaited _ (ap not h.0))

-- So does the one that is handed in, where no other may go before it.
pub handed-let-go : (t : ℕ) (w : Waiting) (gone : List ℕ → Bool) (s : LinkState) → gone w.token ≡ false → (s.outstanding ≡ None → s.waiting ≡ [])
    → lets_go gone (submitted t w s) ≡ submitted t w (lets_go gone s)
handed-let-go t w gone s apart first = by s.outstanding refl
  where
    by : (v : Option Outstanding) → s.outstanding ≡ v → lets_go gone (submitted_by t (queued t w s) v) ≡ submitted_by t (queued t w (lets_go gone s)) v
    by (Some o) e = refl
    by None e = next-let-go t gone (queued t w s) (s.waiting ++ w ∷ [])
        (subst (λ (ws : List Waiting). AllByRecursion (λ (u : Waiting). gone u.token ≡ false) (ws ++ w ∷ [])) (sym (first e)) (apart, tt))
