-- Which of the open exchanges a message answers, and what that leaves of the others.
use Rattle.std.proofs.Common.{◌≡◌, ℕ, Bool, true, false, not, cond, List, [], ◌∷◌, length, Option, Some, None, refl, sym, ap, subst, ◌∙◌, arith}
use Rattle.ask_model.specs.Requests.{CoapRequest}
use Rattle.std.specs.Prelude.{find, is_some, is_none, ◌&&◌}
use Rattle.std.specs.List.{AllByRecursion, Contains, list_any}
use Rattle.std.proofs.lemmas.Bool.{false≢true, not-true}
use Rattle.std.proofs.lemmas.Slice.Eq.{bytes_eq-Decides}
use Rattle.coap_codec.specs.Spelling.{Content}
use Rattle.uri_map.specs.declared.peer.Peer.{Peer}
use Rattle.message_layer.specs.Hearing.{verdict_of}
use Rattle.message_layer.specs.declared.verdict.Verdict.{Verdict}
use Rattle.history_laws.specs.Numbering.{token_number}
use Rattle.history_laws.specs.Readings.{Noted}
use Rattle.history_laws.specs.Exchanges.{turn, openings, is_going, is_issued_at, issued, issued_by, waits_for, end_of, rank, opened_by, opens_by}
use Rattle.history_laws.specs.Hearing.{repeated, can_be_remembered, answers, notice_of}
use Rattle.history_laws.proofs.CallerLemmas.{all-of, contains-mapped, eqb-itself, going-before, issued-same, NoReply, none-some, open-exactly, sent-for, waits-first}
use Rattle.history_links.specs.Agrees.{Start}
use Rattle.history_links.specs.Steps.{ended_token, heard, NoneGoesOn}
use Rattle.history_links.proofs.CallerLemmas.{ends_by, hit, is_to, judge, Judged, still-after}
use Rattle.exchange_model.specs.declared.kept.Exchange.{Exchange}
use Rattle.exchange_model.specs.State.{State, link_of}
use Rattle.exchange_model.specs.Reads.{ExchangeIn, opening_of}
use Rattle.exchange_model.specs.Steps.{is_under}
use Rattle.exchange_model.specs.Matters.{is_other, answered_in}
use Rattle.exchange_model.specs.Laws.{MayHear}
use Rattle.exchange_model.proofs.Hearing.{end-kept, hit-kept, is_apart}
use Rattle.exchange_model.proofs.Opened.{cancel, OpenIn, one-rank}
use Rattle.exchange_model.proofs.Over.{AnswersIt}
use Rattle.exchange_model.proofs.Silent.{now-from}

none-found : {X : Type 0} (q : X → Bool) (xs : List X) → find q xs ≡ None → AllByRecursion (λ (x : X). q x ≡ false) xs
none-found q [] e = tt
none-found {X = X} q (x ∷ xs) e = by (q x) refl e (λ h. none-found q xs h)
  where
    by : (b : Bool) → q x ≡ b → cond b (Some x) (find q xs) ≡ None → (find q xs ≡ None → AllByRecursion (λ (y : X). q y ≡ false) xs)
        → (q x ≡ false) × AllByRecursion (λ (y : X). q y ≡ false) xs
    by true is h ih = absurd (none-some x (sym h))
    by false is h ih = (is, ih h)

module _ (l : List Noted) (t : ℕ) (p : Peer) (d : List ℕ) (m : Content) (S : State)
    (h : MayHear l t p d S) (none : repeated l t p m ≡ None) (room : can_be_remembered l t p m ≡ true) where
  abbrev pub start : Start
  start = h.before.reads.start

  abbrev pub entry : Noted
  entry = heard l t p d m

  abbrev pub verdict : Verdict
  verdict = verdict_of t (link_of S.links p) m

  abbrev pub ended : Option (List ℕ)
  ended = ended_token verdict.news m.token

  -- it answers what this exchange waits for
  abbrev pub hits : ℕ → Bool
  hits o = hit (answers l p m) m (waits_for l o)

  pub judged : Judged l p (link_of S.links p) m (answers l p m) verdict
  judged = judge l t p (link_of S.links p) m m.kind (now-from l t S h.before) h.before.reads.legal (h.before.reads.links_are p) refl none room

  pub hits-kept : (e : Exchange) → ExchangeIn start l e → not (hits e.opening) ≡ is_apart ended e
  hits-kept e a = hit-kept l t p (link_of S.links p) m h.before.reads.legal (h.before.reads.links_are p) judged e a

  pub kept-in : (e : Exchange) → Contains S.exchanges e → ExchangeIn start l e
  kept-in e has = all-of (ExchangeIn start l) S.exchanges e h.before.reads.exchanges_are has

  -- what it answers is one that is kept
  pub hit-one : (o : ℕ) → end_of l o ≡ None → hits o ≡ true → (e : Exchange) × Contains S.exchanges e × (e.opening ≡ o)
  hit-one o going hit_it = by (waits_for l o) refl hit_it
    where
      by : (v : Option ℕ) → waits_for l o ≡ v → hit (answers l p m) m v ≡ true → (e : Exchange) × Contains S.exchanges e × (e.opening ≡ o)
      by None is e = absurd (false≢true e)
      by (Some i) is e =
          let f = waits-first l o i is in
          let opened = (sent-for l f.0 o i f.1 f.2 h.before.reads.legal f.3).opened in
          contains-mapped opening_of S.exchanges o
          (subst (λ (os : List ℕ). Contains os o) h.before.reads.keys ((open-exactly l o).1 (ap is_some opened, going)))

  -- It opens none.
  pub openings-same : opens_by entry.note ≡ None → openings (entry ∷ l) ≡ openings l
  openings-same unopened = ap (λ (q : Option CoapRequest). opened_by (length l) q (openings l)) unopened

  -- By it no exchange goes on where each that it answers is over.
  module _ (unopened : opens_by entry.note ≡ None) (over : (e : Exchange) → Contains S.exchanges e → hits e.opening ≡ true → is_going (entry ∷ l) e.opening ≡ false) where
    pub quiet : (o : ℕ) → is_going (entry ∷ l) o ≡ true → NoReply (turn l o entry)
    quiet o goes = by (hits o) refl
      where
        by : (b : Bool) → hits o ≡ b → NoReply (turn l o entry)
        by false is = subst NoReply (sym (still-after l t p d m (answers l p m) (notice_of l t p m (answers l p m)) o is)) tt
        by true is =
            let e = hit-one o (going-before entry l o goes).1 is in
            let gone = over e.0 e.1 (subst (λ (k : ℕ). hits k ≡ true) (sym e.2) is) in
            absurd (false≢true (sym gone ∙ subst (λ (k : ℕ). is_going (entry ∷ l) k ≡ true) (sym e.2) goes))

    pub issued-still : issued (entry ∷ l) ≡ issued l
    issued-still = issued-same entry l (openings-same unopened) quiet

    pub none-goes-on : NoneGoesOn l entry
    none-goes-on = by (list_any (is_issued_at (entry ∷ l) (length l)) (openings (entry ∷ l))) issued-still
      where
        by : (b : Bool) → issued_by b (issued l) ≡ issued l → b ≡ false
        by false e = refl
        by true e = absurd (omega (arith, e))

  -- It answers none that is kept.
  pub none-hit : answered_in ended S.exchanges ≡ None → (e : Exchange) → Contains S.exchanges e → hits e.opening ≡ false
  none-hit is e has = not-true (hits e.opening) (hits-kept e (kept-in e has) ∙ by ended refl is)
    where
      by : (v : Option (List ℕ)) → ended ≡ v → answered_in v S.exchanges ≡ None → is_apart v e ≡ true
      by None at found = refl
      by (Some token) at found = ap not (all-of (λ (f : Exchange). is_under token f ≡ false) S.exchanges e (none-found (is_under token) S.exchanges found) has)

  -- It answers this one.
  module _ (e : Exchange) (it : AnswersIt start l t p m S e) where
    pub hits-it : hits e.opening ≡ true
    hits-it = ap (hit (answers l p m) m) it.waits ∙ (ap (λ (to : Option ℕ). is_to to it.sending && ends_by m.kind m.code) it.answered ∙ rw (eqb-itself it.sending) it.ends)

    pub of-it : ended ≡ Some e.token
    of-it = it.token ∙ ap Some (sym ((bytes_eq-Decides e.token it.of).0 it.under))

    pub open-it : OpenIn start l e
    open-it = (it.kept, ap is_none it.going)

    pub kept-hits : (f : Exchange) → ExchangeIn start l f → not (hits f.opening) ≡ is_other e.token f
    kept-hits f a = hits-kept f a ∙ ap (λ (v : Option (List ℕ)). is_apart v f) of-it

    pub other-unhit : (f : Exchange) → ExchangeIn start l f → is_other e.token f ≡ true → hits f.opening ≡ false
    other-unhit f a other = not-true (hits f.opening) (kept-hits f a ∙ other)

    pub other-opening : (f : Exchange) → ExchangeIn start l f → is_other e.token f ≡ true → f.opening ≡ e.opening → ⊥
    other-opening f a other same =
        false≢true (sym (other-unhit f a other) ∙ subst (λ (o : ℕ). hits o ≡ true) (sym same) hits-it)

    pub same-opening : (f : Exchange) → OpenIn start l f → is_under e.token f ≡ true → f.opening ≡ e.opening
    same-opening f a under =
        one-rank l f.opening e.opening _ _ h.before.reads.legal a.0.opening it.kept.opening a.1 (ap is_none it.going)
        (cancel start.issued (rank l f.opening) (rank l e.opening)
        (a.0.number ∙ (ap token_number ((bytes_eq-Decides f.token e.token).0 under) ∙ sym it.kept.number)))

    -- The others stay.
    pub other-going : (f : Exchange) → OpenIn start l f → is_other e.token f ≡ true → is_going (entry ∷ l) f.opening ≡ true
    other-going f a other = ap is_none (end-kept l t p d m f.opening (other-unhit f a.0 other)) ∙ a.1
