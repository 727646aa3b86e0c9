-- A CON or NON that is new is remembered, with what answered it.
use Rattle.std.proofs.Common.{◌≡◌, ℕ, ◌≤◌, ◌+◌, ◌-◌, Bool, true, false, cond, eqb, ltb, List, [], ◌∷◌, ◌++◌, length, Option, Some, None, inl, inr, refl, sym, ap, subst, ◌∙◌, arith}
use Rattle.std.specs.Prelude.{option_map, filter, count_by, ◌&&◌}
use Rattle.std.specs.List.{find}
use Rattle.std.proofs.lemmas.Bool.{lt-ltb, le-ltb, ltb-true, ltb-false, and_from}
use Rattle.std.proofs.lemmas.Bool.Decides.{eqb_tells}
use Rattle.std.proofs.lemmas.List.Sums.{length-filter}
use Rattle.std.proofs.lemmas.List.Folds.{find-append}
use Rattle.std.specs.Option.{option_or}
use Rattle.limits.specs.declared.TheConstants.{EXCHANGE_LIFETIME}
use Rattle.coap_codec.specs.Spelling.{Content}
use Rattle.uri_map.specs.declared.peer.Peer.{Peer}
use Rattle.uri_map.proofs.CallerLemmas.{same_peer-itself}
use Rattle.journal_book.specs.Entries.{Hears}
use Rattle.message_layer.specs.Hearing.{is_fresh, is_repeat, remembered_in}
use Rattle.message_layer.specs.declared.state.Heard.{Heard}
use Rattle.message_layer.specs.declared.state.Reply.{Reply}
use Rattle.message_layer.proofs.Effects.{filter-kept}
use Rattle.history_laws.specs.Readings.{Noted, Says, Notice, at, noted}
use Rattle.history_laws.specs.Hearing.{is_such, is_live, heard_before, live_heard}
use Rattle.history_laws.specs.Confirming.{answered}
use Rattle.history_laws.proofs.CallerLemmas.{and-left, and-right, at-new}
use Rattle.history_links.proofs.Still.{since}
use Rattle.history_links.specs.Agrees.{Start, IsFrom, reply_of, HeardIn}
use Rattle.history_links.proofs.Sent.{count-push}
use Rattle.history_links.proofs.Still.{heard-at, answers_in}

-- what is fresh later is fresh now

fresh-before : (t u : ℕ) (h : Heard) → t ≤ u → is_fresh u h ≡ true → is_fresh t h ≡ true
fresh-before t u h later e = let lt = ltb-true (u - h.moment) 247000 e in lt-ltb (t - h.moment) 247000 (omega (arith, lt, later))

fresh-now : (t u : ℕ) → t ≤ u → ltb (u - t) 247000 ≡ ltb u (t + EXCHANGE_LIFETIME)
fresh-now t u later = by (ltb u (t + 247000)) refl
  where
    by : (b : Bool) → ltb u (t + 247000) ≡ b → ltb (u - t) 247000 ≡ b
    by true e = lt-ltb (u - t) 247000 (let h = ltb-true u (t + 247000) e in omega (arith, h, later))
    by false e = le-ltb (u - t) 247000 (let h = ltb-false u (t + 247000) e in omega (arith, h, later))

-- looking through a list with one more

find-kept : {X : Type 0} (q k : X → Bool) → ((x : X) → q x ≡ true → k x ≡ true) → (xs : List X) → find q (filter k xs) ≡ find q xs
find-kept q k h [] = refl
find-kept {X = X} q k h (x ∷ xs) = by (k x) (q x) refl refl (find-kept q k h xs)
  where
    by : (a b : Bool) → k x ≡ a → q x ≡ b → find q (filter k xs) ≡ find q xs → find q (cond a (x ∷ filter k xs) (filter k xs)) ≡ cond b (Some x) (find q xs)
    by true b e f ih = rw (f, ih) refl
    by false true e f ih = absurd (false-true (sym e ∙ h x f))
      where
        false-true : false ≡ true → ⊥
        false-true e = cc
    by false false e f ih = ih

find-push : {X : Type 0} (q : X → Bool) (xs : List X) (x : X) → find q (xs ++ x ∷ []) ≡ option_or (find q xs) (cond (q x) (Some x) None)
find-push q xs x = find-append q xs (x ∷ [])

pub none-before : {X Y : Type 0} (f : X → Y) (v : Option X) → option_map f v ≡ None → v ≡ None
none-before f None e = refl
none-before f (Some x) e = cc

-- nothing that is fresh later has the ID, where nothing that is fresh now has it
none-later : (t u mid : ℕ) (heard : List Heard) → t ≤ u → find (is_repeat t mid) heard ≡ None → find (is_repeat u mid) heard ≡ None
none-later t u mid [] later e = refl
none-later t u mid (h ∷ heard) later e = by (is_repeat t mid h) refl e (none-later t u mid heard later)
  where
    by : (b : Bool) → is_repeat t mid h ≡ b → cond b (Some h) (find (is_repeat t mid) heard) ≡ None
        → (find (is_repeat t mid) heard ≡ None → find (is_repeat u mid) heard ≡ None) → find (is_repeat u mid) (h ∷ heard) ≡ None
    by true f e ih = cc
    by false f e ih = also (is_repeat u mid h) refl
      where
        false-true : false ≡ true → ⊥
        false-true e = cc

        also : (c : Bool) → is_repeat u mid h ≡ c → cond c (Some h) (find (is_repeat u mid) heard) ≡ None
        also true g = absurd (false-true (sym f ∙ (and_from _ _ (and-left (eqb h.mid mid) (is_fresh u h) g) (fresh-before t u h later (and-right (eqb h.mid mid) (is_fresh u h) g)))))
        also false g = ih e

-- the new one

says-live : (t u : ℕ) (p : Peer) (d : List ℕ) (m : Content) (to : Option ℕ) (notice : Notice) → is_such m.kind ≡ true → t ≤ u
    → is_live u p t (Hears p d) (Says m to notice) ≡ ltb (u - t) 247000
says-live t u p d m to notice such later = rw (such, same_peer-itself p) (sym (fresh-now t u later))

remembered-reply : (l : List Noted) (t u mid : ℕ) (p : Peer) (d : List ℕ) (m : Content) (to : Option ℕ) (notice : Notice) (r : Reply) (old : Option Heard)
    → is_such m.kind ≡ true → t ≤ u → r ≡ reply_of (answered (Says m to notice))
    → (eqb m.mid mid ≡ true → old ≡ None)
    → option_map (λ (h : Heard). h.reply) old ≡ option_map (answers_in l) (heard_before l u p mid)
    → option_map (λ (h : Heard). h.reply) (option_or old (cond (eqb m.mid mid && ltb (u - t) 247000) (Some (record { mid = m.mid; moment = t; reply = r })) None))
    ≡ option_map (answers_in (noted t (Hears p d) (Says m to notice) ∷ l)) (heard_before (noted t (Hears p d) (Says m to notice) ∷ l) u p mid)
remembered-reply l t u mid p d m to notice r old such later reply none same =
    let x = noted t (Hears p d) (Says m to notice) in
    let live = says-live t u p d m to notice such later in
    by (eqb m.mid mid) (ltb (u - t) 247000) refl live old none same
  where
    older : (v : Option ℕ) → ((j : ℕ) → v ≡ Some j → at (noted t (Hears p d) (Says m to notice) ∷ l) j ≡ at l j)
        → option_map (answers_in l) v ≡ option_map (answers_in (noted t (Hears p d) (Says m to notice) ∷ l)) v
    older None h = refl
    older (Some j) h = rw (h j refl) refl

    unchanged : option_map (answers_in l) (heard_before l u p mid) ≡ option_map (answers_in (noted t (Hears p d) (Says m to notice) ∷ l)) (heard_before l u p mid)
    unchanged = older (heard_before l u p mid) (λ j e. heard-at (noted t (Hears p d) (Says m to notice)) l u p mid j e)

    or-none : (v : Option Heard) → option_or v None ≡ v
    or-none None = refl
    or-none (Some h) = refl

    by : (a b : Bool) → eqb m.mid mid ≡ a → is_live u p t (Hears p d) (Says m to notice) ≡ b → (old : Option Heard) → (a ≡ true → old ≡ None)
        → option_map (λ (h : Heard). h.reply) old ≡ option_map (answers_in l) (heard_before l u p mid)
        → option_map (λ (h : Heard). h.reply) (option_or old (cond (a && b) (Some (record { mid = m.mid; moment = t; reply = r })) None))
        ≡ option_map (answers_in (noted t (Hears p d) (Says m to notice) ∷ l)) (heard_before (noted t (Hears p d) (Says m to notice) ∷ l) u p mid)
    by true true e f old none same =
        rw (none refl, e, f, at-new (noted t (Hears p d) (Says m to notice)) l, reply) refl
    by true false e f old none same = rw (e, f, or-none old) (same ∙ unchanged)
    by false true e f old none same = rw (e, f, or-none old) (same ∙ unchanged)
    by false false e f old none same = rw (e, f, or-none old) (same ∙ unchanged)

pub count-kept : (t u : ℕ) (heard : List Heard) → t ≤ u → count_by (is_fresh u) (filter (is_fresh t) heard) ≡ count_by (is_fresh u) heard
count-kept t u heard later =
    sym (length-filter (is_fresh u) (filter (is_fresh t) heard))
    ∙ (ap length (filter-kept (is_fresh u) (is_fresh t) (λ h e. fresh-before t u h later e) heard) ∙ length-filter (is_fresh u) heard)

pub repeats-kept : (t u mid : ℕ) (heard : List Heard) → t ≤ u → find (is_repeat u mid) (filter (is_fresh t) heard) ≡ find (is_repeat u mid) heard
repeats-kept t u mid heard later =
    find-kept (is_repeat u mid) (is_fresh t) (λ g e. fresh-before t u g later (and-right (eqb g.mid mid) (is_fresh u g) e)) heard

one-live : (l : List Noted) (t u : ℕ) (p : Peer) (d : List ℕ) (m : Content) (to : Option ℕ) (notice : Notice) (b : Bool)
    → is_live u p t (Hears p d) (Says m to notice) ≡ b
    → cond b (1 + live_heard l u p) (live_heard l u p) ≡ live_heard (noted t (Hears p d) (Says m to notice) ∷ l) u p
one-live l t u p d m to notice true e = rw (e) (omega arith)
one-live l t u p d m to notice false e = rw (e) refl

pub remembers : {start : Start} (l : List Noted) (t : ℕ) (p : Peer) (d : List ℕ) (m : Content) (to : Option ℕ) (notice : Notice) (r : Reply) (heard : List Heard) → IsFrom start l t
    → HeardIn start l p heard → is_such m.kind ≡ true → heard_before l t p m.mid ≡ None → r ≡ reply_of (answered (Says m to notice))
    → HeardIn start (noted t (Hears p d) (Says m to notice) ∷ l) p (remembered_in t m.mid r true heard)
remembers l t p d m to notice r heard after h such none reply = record {
  repeats = λ u mid from.
      let later = from.1 in
      ap (option_map (λ (h : Heard). h.reply)) (find-push (is_repeat u mid) (filter (is_fresh t) heard) new
      ∙ ap (λ (v : Option Heard). option_or v (cond (eqb m.mid mid && ltb (u - t) 247000) (Some new) None))
      (repeats-kept t u mid heard later))
      ∙ remembered-reply l t u mid p d m to notice r (find (is_repeat u mid) heard) such later reply
      (λ same. none-later t u mid heard later (none-before (λ (h : Heard). h.reply) (find (is_repeat t mid) heard) (unheard mid same)))
      (h.repeats u mid (since l after.1 from));
  live = λ u from.
      let later = from.1 in
      count-push (is_fresh u) (filter (is_fresh t) heard) new
      ∙ (ap (λ (n : ℕ). cond (ltb (u - t) 247000) (1 + n) n) (count-kept t u heard later ∙ h.live u (since l after.1 from))
      ∙ one-live l t u p d m to notice (ltb (u - t) 247000) (says-live t u p d m to notice such later));
}
  where
    new : Heard
    new = record { mid = m.mid; moment = t; reply = r }

    true-false : false ≡ true → ⊥
    true-false e = cc

    unheard : (mid : ℕ) → eqb m.mid mid ≡ true → option_map (λ (h : Heard). h.reply) (find (is_repeat t mid) heard) ≡ None
    unheard mid same = elim (eqb_tells m.mid mid) [
      | inl w ↦ subst (λ (k : ℕ). option_map (λ (h : Heard). h.reply) (find (is_repeat t k) heard) ≡ None) w.1 (h.repeats t m.mid after ∙ ap (option_map (answers_in l)) none)
      | inr w ↦ absurd (true-false (sym w.0 ∙ same))
    ]
