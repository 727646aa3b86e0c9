-- What is left where a journal is given out, and that no act gives one out.
use Rattle.std.proofs.Common.{◌≡◌, ℕ, ◌+◌, Bool, true, false, cond, List, [], ◌∷◌, ◌++◌, length, Option, Some, None, Result, Ok, Err, refl, sym, ap, ◌∙◌, subst, arith}
use Rattle.std.specs.Prelude.{⊤, not, nat_lt}
use Rattle.std.specs.List.{AllByRecursion}
use Rattle.std.proofs.lemmas.Bool.{ltb-false}
use Rattle.ask_model.specs.Views.{Ask}
use Rattle.http_mapping.specs.Means.{closes}
use Rattle.journal_book.specs.Entries.{Mark, Done, Deed, Carries, Written, done_of}
use Rattle.exchange_model.specs.declared.kept.Conn.{Conn}
use Rattle.exchange_model.specs.State.{State}
use Rattle.exchange_model.specs.Rotating.{RotateFault, Unsealed, Given, Connected, Exchanging, Spent, Crowded, Seen, carried_numbers, copies_from, copy_if, copy_of, fault_of, mark_of, rotated, rotated_by, seen, taken, turned}
use Rattle.exchange_core.specs.declared.fault.RotateFault.{RotateFault as Refusal}
use Rattle.exchange_core.specs.declared.fault.RotateFault.TheVariants as F
use Rattle.exchange_core.specs.Rotating.{IsRefused, fault_in}
use Rattle.exchange_core.specs.Values.{Outgoing, sent_by, sent_in}
use Rattle.gateway_model.specs.declared.input.When.{When}
use Rattle.gateway_model.specs.Acts.{Act, Opens, TurnsAway, Takes, Hears, Passes, Asks, Denies, Sends, Tells, GoesOn, GivesUp, Forgoes, Rests, Leaves, Misses, Served, Terms, Does, DoesAll, Ends}
use Rattle.gateway_model.specs.Asking.{asked_by, asked_on}
use Rattle.gateway_model.specs.Emissions.{Emission, Rotated, Closed, GivenUp}
use Rattle.gateway_model.specs.Tellings.{IsMeant, AreMeant}
use Rattle.gateway_model.specs.Told.{answers_by, answers_to}
use Rattle.gateway_model.proofs.Order.{all-append}

-- what is given out, and what is gone on with

abbrev given_out : Result (List Written × State) RotateFault → List Written
given_out (Ok x) = x.0
given_out (Err fault) = []

abbrev gone_on : State → Result (List Written × State) RotateFault → State
gone_on S (Ok x) = x.1
gone_on S (Err fault) = S

pub record Rotation (t : ℕ) (S : State) (h : List Written) (S1 : State) : Type 0 where
  pub fit : fault_of t S ≡ None
  pub out : h ≡ S.entries
  pub is : S1 ≡ turned t S

pub rotation-is : (t : ℕ) (S : State) (h : List Written) (S1 : State) → rotated t S ≡ Ok (h, S1) → Rotation t S h S1
rotation-is t S h S1 e = by (fault_of t S) refl e
  where
    by : (o : Option RotateFault) → fault_of t S ≡ o → rotated_by o t S ≡ Ok (h, S1) → Rotation t S h S1
    by None fit f = record { fit = fit; out = sym (ap given_out f); is = sym (ap (gone_on S) f) }
    by (Some fault) fit f = absurd cc

-- Where it is refused, and memory isn't wanted, for the reason that is told.
pub refused-so : (t : ℕ) (S : State) (fault : Refusal) → IsRefused t S fault → (fault ≡ F.Memory → ⊥)
    → (why : RotateFault) × (fault_in fault ≡ Some why) × (rotated t S ≡ Err why)
refused-so t S F.Unsealed r not = (Unsealed, refl, ap (λ (o : Option RotateFault). rotated_by o t S) r)
refused-so t S F.Given r not = (Given, refl, ap (λ (o : Option RotateFault). rotated_by o t S) r)
refused-so t S F.Connected r not = (Connected, refl, ap (λ (o : Option RotateFault). rotated_by o t S) r)
refused-so t S F.Exchanging r not = (Exchanging, refl, ap (λ (o : Option RotateFault). rotated_by o t S) r)
refused-so t S F.Spent r not = (Spent, refl, ap (λ (o : Option RotateFault). rotated_by o t S) r)
refused-so t S F.Crowded r not = (Crowded, refl, ap (λ (o : Option RotateFault). rotated_by o t S) r)
refused-so t S F.Memory r not = absurd (not refl)

-- Nobody is connected where it is given out.

first-none : (b : Bool) (x : RotateFault) (rest : Option RotateFault) → cond b (Some x) rest ≡ None → (b ≡ false) × (rest ≡ None)
first-none true x rest e = absurd cc
first-none false x rest e = (refl, e)

none-there : (cs : List Conn) → nat_lt 0 (length cs) ≡ false → cs ≡ []
none-there [] e = refl
none-there (x ∷ cs) e = absurd (let le = ltb-false 0 (length (x ∷ cs)) e in omega (arith, le))

pub nobody-there : (t : ℕ) (S : State) → fault_of t S ≡ None → S.conns ≡ []
nobody-there t S e =
    let sealed = first-none (not S.sealed) Unsealed _ e in
    let whole = first-none (nat_lt 0 S.given) Given _ sealed.1 in
    let alone = first-none (nat_lt 0 (length S.conns)) Connected _ whole.1 in
    none-there S.conns alone.0

-- Nothing was given out before.
pub none-given : (t : ℕ) (S : State) → fault_of t S ≡ None → S.given ≡ 0
none-given t S e =
    let sealed = first-none (not S.sealed) Unsealed _ e in
    let whole = first-none (nat_lt 0 S.given) Given _ sealed.1 in
    let le = ltb-false 0 S.given whole.0 in
    omega (arith, le)

-- What the new journal begins with is copies.

abbrev pub IsCopy : Deed → Type 0
IsCopy (Carries number mark done) = ⊤
IsCopy _ = ⊥

abbrev pub AreCopies : List Written → Type 0
AreCopies ws = AllByRecursion (λ (w : Written). IsCopy w.deed) ws

copy-if : (m : Option Mark) (n s : ℕ) (done : Done) → AreCopies (copy_if m n s done)
copy-if (Some mark) n s done = (tt, tt)
copy-if None n s done = tt

copy-one : (t : ℕ) (xs : List Seen) (gs : List ℕ) (n s : ℕ) (o : Option Done)
    → AreCopies (copy_of t xs gs n s o)
copy-one t xs gs n s None = tt
copy-one t xs gs n s (Some done) = copy-if (mark_of t xs gs n s done) n s done

copies-all : (t : ℕ) (xs : List Seen) (gs : List ℕ) (n : ℕ) (ws : List Written)
    → AreCopies (copies_from t xs gs n ws)
copies-all t xs gs n [] = tt
copies-all t xs gs n (w ∷ ws) =
    all-append (λ (v : Written). IsCopy v.deed) (copy_of t xs gs n w.moment (done_of w.deed))
    (copies_from t xs gs (n + 1) ws)
    (copy-one t xs gs n w.moment (done_of w.deed)) (copies-all t xs gs (n + 1) ws)

pub begins-copied : (t : ℕ) (S : State) → AreCopies (turned t S).entries
begins-copied t S = copies-all t (seen S.entries) (carried_numbers (taken t S)) 0 S.entries

-- A copy answers nothing, sends nothing and asks nothing.

answers-none : (c n : ℕ) (d : Deed) → IsCopy d → answers_by c n d ≡ []
answers-none c n (Carries number mark done) h = refl
answers-none c n d h = absurd h

pub answers-after : (c n : ℕ) (ws more : List Written) → AreCopies ws → answers_to c n (ws ++ more) ≡ answers_to c (n + length ws) more
answers-after c n [] more h = let e : n ≡ n + 0 = omega arith in ap (λ (k : ℕ). answers_to c k more) e
answers-after c n (w ∷ ws) more h =
    let e : (n + 1) + length ws ≡ n + length (w ∷ ws) = omega arith in
    ap (λ (ks : List ℕ). ks ++ answers_to c (n + 1) (ws ++ more)) (answers-none c n w.deed h.0)
    ∙ (answers-after c (n + 1) ws more h.1 ∙ ap (λ (k : ℕ). answers_to c k more) e)

sends-none : (d : Deed) → IsCopy d → sent_by d ≡ []
sends-none (Carries number mark done) h = refl
sends-none d h = absurd h

pub sends-after : (ws more : List Written) → AreCopies ws → sent_in (ws ++ more) ≡ sent_in more
sends-after [] more h = refl
sends-after (w ∷ ws) more h =
    ap (λ (os : List Outgoing). os ++ sent_in (ws ++ more)) (sends-none w.deed h.0) ∙ sends-after ws more h.1

asks-none : (c : ℕ) (d : Deed) → IsCopy d → asked_by c d ≡ []
asks-none c (Carries number mark done) h = refl
asks-none c d h = absurd h

pub copies-ask : (c : ℕ) (ws : List Written) → AreCopies ws → asked_on c ws ≡ []
copies-ask c [] h = refl
copies-ask c (w ∷ ws) h = ap (λ (ks : List Ask). ks ++ asked_on c ws) (asks-none c w.deed h.0) ∙ copies-ask c ws h.1

meant-none : (M : Terms) (d : Deed) → IsCopy d → IsMeant M d
meant-none M (Carries number mark done) h = tt
meant-none M d h = absurd h

pub copies-mean : (M : Terms) (ws : List Written) → AreCopies ws → AreMeant M ws
copies-mean M [] h = tt
copies-mean M (w ∷ ws) h = (meant-none M w.deed h.0, copies-mean M ws h.1)

-- No act gives a journal out.

abbrev pub IsNoJournal : Emission → Type 0
IsNoJournal (Rotated h) = ⊥
IsNoJournal _ = ⊤

abbrev pub AreNoJournals : List Emission → Type 0
AreNoJournals out = AllByRecursion IsNoJournal out

module _ (M : Terms) (w : When) where
  none-said : (out : List Emission) → out ≡ [] → AreNoJournals out
  none-said out e = subst AreNoJournals (sym e) tt

  one-said : (e : Emission) (out : List Emission) → out ≡ e ∷ [] → IsNoJournal e → AreNoJournals out
  one-said e out is i = subst AreNoJournals (sym is) (i, tt)

  ended : (c : ℕ) (b : Bool) (old : Served) (out : List Emission) (new : Served) → Ends w c b old out new → AreNoJournals out
  ended c true old out new h = one-said (Closed c) out h.1 tt
  ended c false old out new h = none-said out h.1

  gives-none : (a : Act) (old : Served) (out : List Emission) (new : Served) → Does M w a old out new → AreNoJournals out
  gives-none (Opens c) old out new h = none-said out h.2
  gives-none TurnsAway old out new h = one-said _ out h.2 tt
  gives-none (Takes c bytes) old out new h = none-said out h.1
  gives-none (Hears p bytes) old out new h = none-said out h.2
  gives-none Passes old out new h = none-said out h.1
  gives-none (Asks c) old out new h = none-said out h.1
  gives-none (Denies c) old out new h = one-said (Closed c) out h.3 tt
  gives-none Sends old out new h = one-said _ out h.given tt
  gives-none (Tells c k) old out new h =
      subst AreNoJournals (sym h.given) (tt, ended c (closes h.answer.mapping.came) h.told h.after new h.ends)
  gives-none (GoesOn c) old out new h = one-said _ out h.2 tt
  gives-none (GivesUp c) old out new h = one-said (GivenUp c) out h.1 tt
  gives-none (Forgoes c k) old out new h = one-said (GivenUp c) out h.3 tt
  gives-none (Rests c) old out new h = none-said out h.1
  gives-none (Leaves c) old out new h = none-said out h.1
  gives-none (Misses c) old out new h = none-said out h.1

  pub give-none : (acts : List Act) (old : Served) (out : List Emission) (new : Served) → DoesAll M w acts old out new → AreNoJournals out
  give-none [] old out new h = none-said out h.1
  give-none (a ∷ acts) old out new h =
      subst AreNoJournals (sym h.5)
      (all-append IsNoJournal h.1 h.2 (gives-none a old h.1 h.0 h.3) (give-none acts h.0 h.2 new h.4))
