-- What is stored for a GET is one.
use Rattle.std.proofs.Common.{arith, ◌≡◌, ℕ, ◌≤◌, inl, inr, List, ◌∷◌, Some, sym, ap, subst, ◌∙◌}
use Rattle.resp_cache.specs.Stored.{Stored}
use Rattle.ask_model.specs.Requests.{CoapRequest}
use Rattle.ask_model.specs.Sharing.{asked_key}
use Rattle.ask_model.proofs.CallerLemmas.{same-key}
use Rattle.history_laws.specs.Readings.{at, Noted}
use Rattle.history_laws.specs.Progress.{messages, numbers, Renewed, Reply}
use Rattle.history_laws.specs.Exchanges.{Begun, end_of, ask_behind}
use Rattle.history_laws.specs.Responses.{Response, renewed_response, whole_of}
use Rattle.history_laws.specs.Carrying.{carried, carried_replies}
use Rattle.history_laws.specs.Storing.{ComesSo, IsBrought, IsCarried, IsRenewal, IsRenewed, IsStored, renewed_list}
use Rattle.history_laws.specs.Justified.{Legal}
use Rattle.history_laws.proofs.CallerLemmas.{some-is}
use Rattle.exchange_model.proofs.Carried.{one-carried}
use Rattle.exchange_model.proofs.Came.{one-comes}
use Rattle.exchange_model.proofs.Renewals.{one-renewed, renewed-alone}

-- What is stored is one.

alike : (s u : Stored) → s.response ≡ u.response → s.opening ≡ u.opening → s.heard ≡ u.heard → s.list ≡ u.list → s ≡ u
alike s u e o f g =
    ap (λ (w : Response). record { response = w; opening = s.opening; heard = s.heard; list = s.list }) e
    ∙ (ap (λ (n : ℕ). record { response = u.response; opening = n; heard = s.heard; list = s.list }) o
    ∙ (ap (λ (t : ℕ). record { response = u.response; opening = u.opening; heard = t; list = s.list }) f
    ∙ ap (λ (js : List ℕ). record { response = u.response; opening = u.opening; heard = u.heard; list = js }) g))

first-of : (f g : Reply) (fs gs : List Reply) → (f ∷ fs) ≡ (g ∷ gs) → f ≡ g
first-of f g fs gs e = cc

brought-one : (l : List Noted) (q : CoapRequest) (s u : Stored) → Legal l → IsBrought l q s → IsBrought l q u → s ≡ u
brought-one l q s u legal a b =
    let le = b.latest a.opening a.ending s.response a.first a.more a.comes a.shared a.newest in
    let ge = a.latest b.opening b.ending u.response b.first b.more b.comes b.shared b.newest in
    let same : a.ending ≡ b.ending = omega (arith, le, ge) in
    let it = one-comes l a.opening b.opening a.ending s.response u.response (a.first ∷ a.more) (b.first ∷ b.more) legal a.comes
    (subst (λ (n : ℕ). ComesSo l b.opening n u.response (b.first ∷ b.more)) (sym same) b.comes) in
    let first = first-of a.first b.first a.more b.more it.replies in
    let entry : a.entry ≡ b.entry = some-is _ _ (sym a.heard_in ∙ (ap (λ (r : Reply). at l r.number) first ∙ b.heard_in)) in
    alike s u it.response (a.origin ∙ (ap (ask_behind l) it.opening ∙ sym b.origin)) (a.heard ∙ (ap (λ (x : Noted). x.written.moment) entry ∙ sym b.heard)) (a.list ∙ (ap numbers it.replies ∙ sym b.list))

carried-one : (l : List Noted) (q : CoapRequest) (s u : Stored) → Legal l → IsCarried l q s → IsCarried l q u → s ≡ u
carried-one l q s u legal a b =
    let keys : asked_key a.carries.exchange.request ≡ asked_key b.carries.exchange.request =
    sym (same-key q a.carries.exchange.request a.same) ∙ same-key q b.carries.exchange.request b.same in
    let opening : a.opening ≡ b.opening = one-carried l a.opening b.opening a.carries.exchange b.carries.exchange legal a.carries.asked b.carries.asked keys in
    let replies : (a.first ∷ a.more) ≡ (b.first ∷ b.more) = sym a.carries.replies ∙ (ap (carried_replies l) opening ∙ b.carries.replies) in
    let asked : a.carries.exchange ≡ b.carries.exchange = some-is _ _ (sym a.carries.asked ∙ (ap (carried l) opening ∙ b.carries.asked)) in
    let response : s.response ≡ u.response = some-is _ _
    (sym a.carries.whole ∙ (ap (λ (c : Begun). whole_of c.request (messages (a.first ∷ a.more))) asked
    ∙ (ap (λ (rs : List Reply). whole_of b.carries.exchange.request (messages rs)) replies ∙ b.carries.whole))) in
    let first = first-of a.first b.first a.more b.more replies in
    let entry : a.entry ≡ b.entry = some-is _ _ (sym a.heard_in ∙ (ap (λ (r : Reply). at l r.number) first ∙ b.heard_in)) in
    alike s u response (a.origin ∙ (opening ∙ sym b.origin)) (a.heard ∙ (ap (λ (x : Noted). x.written.moment) entry ∙ sym b.heard)) (a.list ∙ (ap numbers replies ∙ sym b.list))

brought-renewed : (l : List Noted) (q : CoapRequest) (s u : Stored) → Legal l → (a : IsBrought l q s) → ((e : ℕ) → IsRenewal l q e → e ≤ a.ending) → IsRenewed l q u → ⊥
brought-renewed l q s u legal a none b =
    let le = none b.ending b.renewal in
    let ge = b.latest a.opening a.ending s.response a.first a.more a.comes a.shared a.newest in
    let same : b.ending ≡ a.ending = omega (arith, le, ge) in
    renewed-alone l b.renewal.opening a.opening a.ending b.renewal.kept b.renewal.reply s.response (a.first ∷ a.more) legal
    (subst (λ (n : ℕ). end_of l b.renewal.opening ≡ Some (record { number = n; how = Renewed b.renewal.kept b.renewal.reply })) same b.renewal.ended) a.comes

pub stored-one : (l : List Noted) (q : CoapRequest) (s u : Stored) → Legal l → IsStored l q s → IsStored l q u → s ≡ u
stored-one l q s u legal (inl (inl a)) (inl (inl b)) = brought-one l q s u legal a.0 b.0
stored-one l q s u legal (inl (inl a)) (inl (inr b)) = absurd (b.0.alone a.0.opening a.0.ending s.response a.0.first a.0.more a.0.comes a.0.shared a.0.newest)
stored-one l q s u legal (inl (inr a)) (inl (inl b)) = absurd (a.0.alone b.0.opening b.0.ending u.response b.0.first b.0.more b.0.comes b.0.shared b.0.newest)
stored-one l q s u legal (inl (inr a)) (inl (inr b)) = carried-one l q s u legal a.0 b.0
stored-one l q s u legal (inl (inr a)) (inr b) = absurd (a.1 b.ending b.renewal)
stored-one l q s u legal (inr a) (inl (inr b)) = absurd (b.1 a.ending a.renewal)
stored-one l q s u legal (inl (inl a)) (inr b) = absurd (brought-renewed l q s u legal a.0 a.1 b)
stored-one l q s u legal (inr a) (inl (inl b)) = absurd (brought-renewed l q u s legal b.0 b.1 a)
stored-one l q s u legal (inr a) (inr b) =
    let le = a.last b.ending b.renewal in
    let ge = b.last a.ending a.renewal in
    let same : b.ending ≡ a.ending = omega (arith, le, ge) in
    let it = one-renewed l a.renewal.opening b.renewal.opening a.ending a.renewal.kept b.renewal.kept a.renewal.reply b.renewal.reply legal a.renewal.ended
    (subst (λ (n : ℕ). end_of l b.renewal.opening ≡ Some (record { number = n; how = Renewed b.renewal.kept b.renewal.reply })) same b.renewal.ended) in
    let entry : a.entry ≡ b.entry = some-is _ _ (sym a.heard_in ∙ (ap (λ (r : Reply). at l r.number) it.reply ∙ b.heard_in)) in
    alike s u (a.response ∙ (ap (λ (k : Stored). renewed_response k.response a.renewal.reply.message) it.kept
    ∙ (ap (λ (v : Reply). renewed_response b.renewal.kept.response v.message) it.reply ∙ sym b.response)))
    (a.origin ∙ (ap (λ (k : Stored). k.opening) it.kept ∙ sym b.origin))
    (a.heard ∙ (ap (λ (x : Noted). x.written.moment) entry ∙ sym b.heard))
    (a.list ∙ (ap (λ (k : Stored). renewed_list k a.renewal.reply.number) it.kept
    ∙ (ap (λ (v : Reply). renewed_list b.renewal.kept v.number) it.reply ∙ sym b.list)))
