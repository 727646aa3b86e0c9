-- What is done for a connection serves it, and leaves the others as they are.
use Rattle.std.proofs.Common.{◌≡◌, ◌≢◌, ℕ, Bool, true, false, not, List, [], ◌∷◌, map, Some, refl, sym, ap, ◌∙◌, subst}
use Rattle.std.specs.Prelude.{◌==◌}
use Rattle.std.specs.List.{filter}
use Rattle.std.proofs.lemmas.Bool.{both_ways}
use Rattle.ask_model.specs.Views.{Ask}
use Rattle.journal_book.specs.Entries.{Asks as Asked}
use Rattle.journal_book.specs.Views.{ask_of}
use Rattle.http_mapping.specs.Means.{closes}
use Rattle.history_claims.specs.Headline.{IsEntry}
use Rattle.exchange_core.specs.Values.{CoreValue, Untaken}
use Rattle.gateway_model.specs.declared.input.When.{When}
use Rattle.gateway_model.specs.Acts.{Act, Opens, TurnsAway, Takes, Hears, Passes, Asks, Denies, Sends, Tells, GoesOn, GivesUp, Forgoes, Rests, Leaves, Misses, Served, Terms, IsClosing, Ends, IsTelling, IsForgoing, Does, DoesAll}
use Rattle.gateway_model.specs.Emissions.{Emission}
use Rattle.gateway_model.specs.Orders.{IsFor, AreFor}
use Rattle.gateway_model.specs.Resting.{number_of}
use Rattle.gateway_model.specs.Unasked.{Unasked, unasked_at}
use Rattle.gateway_model.specs.Waiting.{conn_id}
use Rattle.gateway_model.proofs.Conns.{StandOnce}
use Rattle.gateway_model.proofs.Awaiting.{Awaits, AskTheirOwn, same-entry, taken-await}
use Rattle.gateway_model.proofs.Numbers.{at-number, numbered}
use Rattle.gateway_model.proofs.Serving.{IsLast, IsAny, Base, LastAt, KeepsAt, keeps-then, keeps-same, keeps-shut, gone-shut, base-shut, base-same, ServesOne, serves-kept, serves-then, serves-as, asks-serve, denies-serve, bytes-serve, sends-keep, sends-base, shut-serves}

-- an answer is taken

abbrev pub told-forgone : (M : Terms) (w : When) (c k : ℕ) (old : Served) (out : List Emission) (new : Served)
    → (h : IsTelling M w c k old out new) → IsForgoing c k old h.told
told-forgone M w c k old out new h =
    record { answer = h.answer; own = h.conn; taken = h.taken; unasked = h.unasked }

module _ (c k : ℕ) (old new : Served) (h : IsForgoing c k old new) where
  taken-core : new.core ≡ record old.core { untaken = filter (λ (u : Untaken). not (u.ask == k)) old.core.untaken }
  taken-core = h.taken.3

  -- who waits for this answer is its connection
  own-answer : (P : Ask → Type 0) (d : ℕ) (x : Awaits P d old.core) → x.number ≡ k → (d ≡ c) × (x.ask ≡ ask_of h.answer.mapping)
  own-answer P d x e =
      let given = h.taken.2 in
      let mine : IsEntry old.core.state.entries h.answer.ask x.moment (Asked d x.ask) =
      subst (λ (i : ℕ). IsEntry old.core.state.entries i x.moment (Asked d x.ask)) (e ∙ sym h.taken.0) x.asked in
      let same = same-entry old.core.state.entries h.answer.ask x.moment given.asked d h.answer.conn x.ask
      (ask_of h.answer.mapping) mine given.ask_stands in
      (same.0 ∙ h.own, same.1)

  awaits-still : (P : Ask → Type 0) (d : ℕ) (x : Awaits P d old.core) → (x.number ≡ k → ⊥) → Awaits P d new.core
  awaits-still P d x ne = taken-await P d k old.core new.core taken-core x ne

  taken-base : Base old → Base new
  taken-base b = record {
    numbered = ap (map number_of) h.unasked ∙ b.numbered ∙ sym (ap (λ (v : CoreValue). map conn_id v.state.conns) taken-core);
    once = subst (λ (v : CoreValue). StandOnce (map conn_id v.state.conns)) (sym taken-core) b.once;
    own = subst (λ (v : CoreValue). AskTheirOwn v.state.entries v.state.conns) (sym taken-core) b.own;
  }

  taken-others : (d : ℕ) → d ≢ c → KeepsAt d old new
  taken-others d ne = record {
    at_same = λ x e. subst (λ (xs : List Unasked). unasked_at d xs ≡ Some x) h.unasked e;
    last = λ x. awaits-still IsLast d x (λ e. ne (own-answer IsLast d x e).0);
    any = λ x. awaits-still IsAny d x (λ e. ne (own-answer IsAny d x e).0);
  }

  -- nobody is told it, and its connection is closed
  forgoes-serve : (w : When) (s : Served) → IsClosing w c new s → Base old → ServesOne c old s
  forgoes-serve w s k b = record {
    base = base-shut w c new s k (taken-base b);
    others = λ d ne. keeps-then d old new s (taken-others d ne) (keeps-shut w c d new s ne k);
    last = λ l x e t. absurd (gone-shut w c new s k x e);
  }

-- an answer that is told

pub ends-serve : (w : When) (c : ℕ) (b : Bool) (told : Served) (after : List Emission) (new : Served) → Ends w c b told after new
    → Base told → Base new × ((d : ℕ) → d ≢ c → KeepsAt d told new)
ends-serve w c true told after new h b = (base-shut w c told new h.0 b, λ d ne. keeps-shut w c d told new ne h.0)
ends-serve w c false told after new h b = (base-same told new h.0 b, λ d ne. keeps-same d told new h.0)

pub tells-serve : (M : Terms) (w : When) (c k : ℕ) (old : Served) (out : List Emission) (new : Served) → IsTelling M w c k old out new
    → Base old → ServesOne c old new
tells-serve M w c k old out new h b =
    let ended = ends-serve w c (closes h.answer.mapping.came) h.told h.after new h.ends (taken-base c k old h.told taken b) in
    record {
      base = ended.0;
      others = λ d ne. keeps-then d old h.told new (taken-others c k old h.told taken d ne) (ended.1 d ne);
      last = λ l. own_last (closes h.answer.mapping.came) refl h.ends l;
    }
  where
    taken : IsForgoing c k old h.told
    taken = told-forgone M w c k old out new h

    own_last : (q : Bool) → closes h.answer.mapping.came ≡ q → Ends w c q h.told h.after new → LastAt c old → LastAt c new
    own_last true t ends l = λ x e closing. absurd (gone-shut w c h.told new ends.0 x e)
    own_last false t ends l = λ x e closing.
        let there : unasked_at c old.unasked ≡ Some x =
        subst (λ (xs : List Unasked). unasked_at c xs ≡ Some x) (ap (λ (s : Served). s.unasked) ends.0 ∙ h.unasked) e in
        let y : Awaits IsLast c old.core = l x there closing in
        subst (λ (s : Served). Awaits IsLast c s.core) (sym ends.0)
        (awaits-still c k old h.told taken IsLast c y
        (λ e. (both_ways (closes h.answer.mapping.came) t
        (sym (ap (λ (a : Ask). closes a.came) (own-answer c k old h.told taken IsLast c y e).1) ∙ y.such))))

-- each act that is done for a connection

pub for-serves : (M : Terms) (w : When) (c : ℕ) (a : Act) (old : Served) (out : List Emission) (new : Served)
    → IsFor c a → Does M w a old out new → Base old → ServesOne c old new
for-serves M w c (Opens d) old out new i h b = absurd i
for-serves M w c TurnsAway old out new i h b = absurd i
for-serves M w c (Takes d bytes) old out new i h b = absurd i
for-serves M w c (Hears p bytes) old out new i h b = absurd i
for-serves M w c Passes old out new i h b = absurd i
for-serves M w c (Asks d) old out new i h b =
    serves-as c d old new i (asks-serve M w d old new h.0 (numbered M w (Asks d) old out new h b.numbered) b)
for-serves M w c (Denies d) old out new i h b =
    serves-as c d old new i
    (denies-serve M w d old h.0 new h.1 h.2 (numbered M w (Denies d) old out new h b.numbered) b)
for-serves M w c Sends old out new i h b =
    serves-kept c old new (sends-base M w old out new h b) (λ d. sends-keep M w d old out new h)
for-serves M w c (Tells d k) old out new i h b = serves-as c d old new i (tells-serve M w d k old out new h b)
for-serves M w c (GoesOn d) old out new i h b =
    serves-as c d old new i
    (bytes-serve w d (λ (x : Unasked). record h.0.before { told = true; unread = h.0.unread }) old new
    (λ x n. at-number d old.unasked h.0.before h.0.stands)
    (λ x e t. absurd (both_ways h.0.before.closing h.0.goes_on t)) h.0.left h.1
    (numbered M w (GoesOn d) old out new h b.numbered) b)
for-serves M w c (GivesUp d) old out new i h b = serves-as c d old new i (shut-serves w d old new h.0 b)
for-serves M w c (Forgoes d k) old out new i h b =
    serves-as c d old new i (forgoes-serve d k old h.0 h.1 w new h.2 b)
for-serves M w c (Rests d) old out new i h b = absurd i
for-serves M w c (Leaves d) old out new i h b = absurd i
for-serves M w c (Misses d) old out new i h b = absurd i

pub acts-serve : (M : Terms) (w : When) (c : ℕ) (acts : List Act) (old : Served) (out : List Emission) (new : Served)
    → AreFor c acts → DoesAll M w acts old out new → Base old → ServesOne c old new
acts-serve M w c [] old out new i h b = serves-kept c old new (base-same old new h.0 b) (λ d. keeps-same d old new h.0)
acts-serve M w c (a ∷ acts) old out new i h b =
    let first : ServesOne c old h.0 = for-serves M w c a old h.1 h.0 i.0 h.3 b in
    serves-then c old h.0 new first (acts-serve M w c acts h.0 h.2 new i.1 h.4 first.base)
