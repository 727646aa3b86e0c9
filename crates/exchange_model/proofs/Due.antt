-- When a tick has something to do.
use Rattle.std.proofs.Common.{◌≡◌, ℕ, min, Bool, true, false, leb, List, [], ◌∷◌, Option, Some, None, refl, sym, ap, ◌∙◌, arith}
use Rattle.std.specs.Prelude.{◌&&◌, ◌||◌, option_map}
use Rattle.std.specs.List.{list_any}
use Rattle.std.proofs.lemmas.Bool.{leb-true, leb-false, le-leb, lt-leb}
use Rattle.message_layer.specs.Values.{LinkState}
use Rattle.message_layer.specs.Hearing.{is_outstanding_under}
use Rattle.message_layer.specs.Sending.{due_of}
use Rattle.message_layer.specs.declared.state.Outstanding.{Outstanding}
use Rattle.observe_share.specs.Watches.{is_idle}
use Rattle.history_links.specs.Steps.{is_over}
use Rattle.exchange_model.specs.declared.kept.Exchange.{Exchange}
use Rattle.exchange_model.specs.State.{PeerLink, link_of}
use Rattle.exchange_model.specs.Hearing.{is_past, is_in_vain, expires}
use Rattle.exchange_model.specs.Calls.{is_due, link_due}
use Rattle.exchange_model.specs.Due.{earlier, earliest, timer, deadline, has_come, idle_from, NextDue}
use Rattle.exchange_model.proofs.Ticking.{undue-link}

least : (a b t : ℕ) → leb (min a b) t ≡ (leb a t || leb b t)
least a b t = by (leb a t) refl (leb b t) refl
  where
    by : (c : Bool) → leb a t ≡ c → (d : Bool) → leb b t ≡ d → leb (min a b) t ≡ (c || d)
    by true e d f = let le = leb-true a t e in le-leb (min a b) t (omega (arith, le))
    by false e true f = let le = leb-true b t f in le-leb (min a b) t (omega (arith, le))
    by false e false f = let gt = leb-false a t e in let gu = leb-false b t f in lt-leb (min a b) t (omega (arith, gt, gu))

or-none : (c : Bool) → c ≡ (c || false)
or-none true = refl
or-none false = refl

either-came : (t : ℕ) (a b : Option ℕ) → has_come t (earlier a b) ≡ (has_come t a || has_come t b)
either-came t None b = refl
either-came t (Some a) None = or-none (leb a t)
either-came t (Some a) (Some b) = least a b t

pub any-came : {X : Type 0} (t : ℕ) (f : X → Option ℕ) (xs : List X) → has_come t (earliest f xs) ≡ list_any (λ (x : X). has_come t (f x)) xs
any-came t f [] = refl
any-came t f (x ∷ xs) = either-came t (f x) (earliest f xs) ∙ ap (λ (b : Bool). has_come t (f x) || b) (any-came t f xs)

timer-came : (t : ℕ) (xs : List PeerLink) → list_any (λ (x : PeerLink). has_come t (timer x)) xs ≡ list_any (link_due t) xs
timer-came t [] = refl
timer-came t (x ∷ xs) = rw (timer-came t xs) (ap (λ (b : Bool). b || list_any (link_due t) xs) (by x.link.outstanding))
  where
    by : (v : Option Outstanding) → has_come t (option_map due_of v) ≡ is_due t v
    by None = refl
    by (Some o) = refl

-- what was sent in vain has a timer that is over
not-vain : (t : ℕ) (s : LinkState) (e : Exchange) → is_due t s.outstanding ≡ false → is_in_vain t s e ≡ false
not-vain t s e none = by s.outstanding none
  where
    and-none : (a b c : Bool) → c ≡ false → (a && (b && c)) ≡ false
    and-none true true c h = h
    and-none true false c h = refl
    and-none false b c h = refl

    and-false : (a c : Bool) → c ≡ false → (a && c) ≡ false
    and-false true c h = h
    and-false false c h = refl

    by : (v : Option Outstanding) → is_due t v ≡ false → (e.awaits && (is_outstanding_under e.token v && is_over t v)) ≡ false
    by None h = and-none e.awaits false false refl
    by (Some o) h = and-none e.awaits (is_outstanding_under e.token (Some o)) (is_over t (Some o)) (and-false _ (leb (due_of o) t) h)

past-only : (t : ℕ) (links : List PeerLink) (es : List Exchange) → list_any (link_due t) links ≡ false → list_any (expires t links) es ≡ list_any (λ (e : Exchange). has_come t (deadline e)) es
past-only t links [] h = refl
past-only t links (e ∷ es) h =
    rw (past-only t links es h, not-vain t (link_of links e.peer) e (undue-link t links h e.peer))
    (ap (λ (b : Bool). b || list_any (λ (e : Exchange). has_come t (deadline e)) es) (sym (or-none (is_past t e))))

pub next-due : NextDue
next-due t S =
    by (list_any (link_due t) S.links) refl
    ∙ sym (either-came t (earliest timer S.links) (earlier (earliest deadline S.exchanges) (earliest idle_from S.watches))
    ∙ rw (either-came t (earliest deadline S.exchanges) (earliest idle_from S.watches), any-came t timer S.links, any-came t deadline S.exchanges, any-came t idle_from S.watches, timer-came t S.links) refl)
  where
    by : (b : Bool) → list_any (link_due t) S.links ≡ b
        → (list_any (link_due t) S.links || (list_any (expires t S.links) S.exchanges || list_any (is_idle t) S.watches))
        ≡ (list_any (link_due t) S.links || (list_any (λ (e : Exchange). has_come t (deadline e)) S.exchanges || list_any (is_idle t) S.watches))
    by true e = rw (e) refl
    by false e = ap (λ (b : Bool). list_any (link_due t) S.links || (b || list_any (is_idle t) S.watches)) (past-only t S.links S.exchanges e)
