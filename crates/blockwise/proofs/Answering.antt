-- What an answer to a piece means, in the words of the standard.
use Rattle.std.proofs.Common.{◌≡◌, ◌≢◌, ◌↔◌, ℕ, ◌⊎◌, inl, inr, Bool, true, false, not, ◌&&◌, ◌||◌, ◌==◌, List, [], ◌∷◌, Option, Some, None, refl, sym, ◌∙◌, cond}
use Rattle.std.proofs.lemmas.Bool.{false≢true}
use Rattle.std.specs.Bool.{Decides}
use Rattle.std.proofs.lemmas.Bool.Decides.{Decides-eqb}
use Rattle.coap_codec.specs.Spelling.{Content}
use Rattle.coap_codec.specs.declared.block.Block.{Block}
use Rattle.coap_codec.specs.Recognition.{class_of, is_final}
use Rattle.blockwise.specs.Reading.{block_in, IsAlone, is_alone, names_piece, answers_piece}
use Rattle.blockwise.specs.Uploads.{UploadValue, is_last, next_num, next_of, if_final, answer_to, Names, IsAnswerTo, Continues, Responds, outcome_by}
use Rattle.blockwise.specs.Joins.{outcome, AreAnswers}
use Rattle.blockwise.specs.declared.upload.Answered.{Answered}
use Rattle.blockwise.specs.declared.upload.Answered.TheVariants.{Next, Last, Wrong}

names_decided : (num : ℕ) (b : Option Block) → Decides (names_piece num b) (Names b num)
names_decided num None = (λ e. tt, λ h. refl)
names_decided num (Some b) = Decides-eqb b.num num

-- An answer is sorted by its tests: it answers the piece, the piece is the last, its code is the final one, 2.31, an
-- error that ends the request.
next_means : (answers last final continue error : Bool)
    → cond (not answers) Wrong (cond last (if_final final) (cond continue Next (if_final error))) ≡ Next
    → (last ≡ false) × (continue ≡ true) × (answers ≡ true)
next_means false last final continue error e = absurd cc
next_means true true true continue error e = absurd cc
next_means true true false continue error e = absurd cc
next_means true false final true error e = (refl, refl, refl)
next_means true false final false true e = absurd cc
next_means true false final false false e = absurd cc

last_means : (answers last final continue error : Bool)
    → cond (not answers) Wrong (cond last (if_final final) (cond continue Next (if_final error))) ≡ Last
    → (answers ≡ true) × (((last ≡ true) × (final ≡ true)) ⊎ ((last ≡ false) × (error ≡ true)))
last_means false last final continue error e = absurd cc
last_means true true true continue error e = (refl, inl (refl, refl))
last_means true true false continue error e = absurd cc
last_means true false final true error e = absurd cc
last_means true false final false true e = (refl, inr (refl, refl))
last_means true false final false false e = absurd cc

pub and_both : (a b : Bool) → (a && b) ≡ true → (a ≡ true) × (b ≡ true)
and_both true b e = (refl, e)
and_both false b e = absurd cc

pub not_false : (b : Bool) → not b ≡ true → b ≡ false
not_false true e = absurd cc
not_false false e = refl

pub alone_found : (b : Option Block) → is_alone b ≡ true → IsAlone b
alone_found None e = tt
alone_found (Some b) e =
    let p = and_both (b.num == 0) (not b.more) e in
    record { first = (Decides-eqb b.num 0).0 p.0; last = not_false b.more p.1 }

pub alone_told : (b : Option Block) → IsAlone b → is_alone b ≡ true
alone_told None h = refl
alone_told (Some b) h = rw ((Decides-eqb b.num 0).1 h.first, h.last) refl

answers_found : (num : ℕ) (m : Content) → answers_piece num m ≡ true → IsAnswerTo num m
answers_found num m e =
    let p = and_both (names_piece num (block_in 27 m)) (is_alone (block_in 23 m)) e in
    record { number = (names_decided num (block_in 27 m)).0 p.0; alone = alone_found (block_in 23 m) p.1 }

answers_told : (num : ℕ) (m : Content) → IsAnswerTo num m → answers_piece num m ≡ true
answers_told num m h = rw ((names_decided num (block_in 27 m)).1 h.number, alone_told (block_in 23 m) h.alone) refl

differ : (a b : ℕ) → (a == b) ≡ false → a ≢ b
differ a b e same = false≢true (sym e ∙ (Decides-eqb a b).1 same)

unequal : (a b : ℕ) → a ≢ b → (a == b) ≡ false
unequal a b ne = by_test (a == b) refl
  where
    by_test : (t : Bool) → (a == b) ≡ t → (a == b) ≡ false
    by_test true e = absurd (ne ((Decides-eqb a b).0 e))
    by_test false e = e

pub next_continues : (u : UploadValue) (m : Content) → answer_to u m ≡ Next → Continues u m
next_continues u m e =
    let p = next_means (answers_piece (next_num u) m) (is_last u) (is_final m) (m.code == 95) (is_final m && not (class_of m == 2)) e in
    record {
      answers = answers_found (next_num u) m p.2;
      before_last = p.0;
      code = (Decides-eqb m.code 95).0 p.1;
    }

next_by : (answers last final continue error : Bool)
    → answers ≡ true → last ≡ false → continue ≡ true
    → cond (not answers) Wrong (cond last (if_final final) (cond continue Next (if_final error))) ≡ Next
next_by answers last final continue error a b c = rw (a, b, c) refl

pub continues_next : (u : UploadValue) (m : Content) → Continues u m → answer_to u m ≡ Next
continues_next u m h =
    next_by (answers_piece (next_num u) m) (is_last u) (is_final m) (m.code == 95) (is_final m && not (class_of m == 2))
    (answers_told (next_num u) m h.answers) h.before_last ((Decides-eqb m.code 95).1 h.code)

pub last_responds : (u : UploadValue) (m : Content) → answer_to u m ≡ Last → Responds u m
last_responds u m e =
    let p = last_means (answers_piece (next_num u) m) (is_last u) (is_final m) (m.code == 95) (is_final m && not (class_of m == 2)) e in
    elim p.1 [ inl q ↦ by_last p.0 q.0 q.1 | inr q ↦ by_error p.0 (and_both (is_final m) (not (class_of m == 2)) q.1) ]
  where
    by_last : answers_piece (next_num u) m ≡ true → is_last u ≡ true → is_final m ≡ true → Responds u m
    by_last answers last final = record {
      answers = answers_found (next_num u) m answers;
      final = final;
      last_or_error = inl last;
    }

    by_error : answers_piece (next_num u) m ≡ true → (is_final m ≡ true) × (not (class_of m == 2) ≡ true) → Responds u m
    by_error answers q = record {
      answers = answers_found (next_num u) m answers;
      final = q.0;
      last_or_error = inr (differ (class_of m) 2 (not_false (class_of m == 2) q.1));
    }

-- What ends a request isn't 2.31.
no_continue : (m : Content) → is_final m ≡ true → (m.code == 95) ≡ false
no_continue m e =
    let classes = (class_of m == 2) || ((class_of m == 4) || (class_of m == 5)) in
    let p = and_both classes (not (m.code == 67) && (not (m.code == 95) && not (m.code == 136))) e in
    let q = and_both (not (m.code == 67)) (not (m.code == 95) && not (m.code == 136)) p.1 in
    not_false (m.code == 95) ((and_both (not (m.code == 95)) (not (m.code == 136)) q.1).0)

last_by : (answers last final continue error : Bool)
    → answers ≡ true → last ≡ true → final ≡ true
    → cond (not answers) Wrong (cond last (if_final final) (cond continue Next (if_final error))) ≡ Last
last_by answers last final continue error a b c = rw (a, b, c) refl

error_by : (answers last whole continue final success : Bool)
    → answers ≡ true → last ≡ false → continue ≡ false → final ≡ true → success ≡ false
    → cond (not answers) Wrong (cond last (if_final whole) (cond continue Next (if_final (final && not success)))) ≡ Last
error_by answers last whole continue final success a b c d e = rw (a, b, c, d, e) refl

pub responds_last : (u : UploadValue) (m : Content) → Responds u m → answer_to u m ≡ Last
responds_last u m h = by_last (is_last u) refl h.last_or_error
  where
    answers : answers_piece (next_num u) m ≡ true
    answers = answers_told (next_num u) m h.answers

    by_last : (last : Bool) → is_last u ≡ last → (is_last u ≡ true) ⊎ (class_of m ≢ 2) → answer_to u m ≡ Last
    by_last true e how =
        last_by (answers_piece (next_num u) m) (is_last u) (is_final m) (m.code == 95) (is_final m && not (class_of m == 2))
        answers e h.final
    by_last false e (inl l) = absurd (false≢true (sym e ∙ l))
    by_last false e (inr ne) =
        error_by (answers_piece (next_num u) m) (is_last u) (is_final m) (m.code == 95) (is_final m) (class_of m == 2)
        answers e (no_continue m h.final) h.final (unequal (class_of m) 2 ne)

pub next_is : (u : UploadValue) (m : Content) → (answer_to u m ≡ Next) ↔ Continues u m
next_is u m = (next_continues u m, continues_next u m)

pub last_is : (u : UploadValue) (m : Content) → (answer_to u m ≡ Last) ↔ Responds u m
last_is u m = (last_responds u m, responds_last u m)

-- The same, over the answers to an upload.
outcome_next : (u : UploadValue) (a : Answered) (later : Answered) → outcome_by a later ≡ Last → (a ≡ Next) × (later ≡ Last)
outcome_next u Next later e = (refl, e)
outcome_next u Last later e = absurd cc
outcome_next u Wrong later e = absurd cc

pub outcome_answers : (u : UploadValue) (ms : List Content) (last : Content) → outcome u ms last ≡ Last → AreAnswers u ms last
outcome_answers u [] last e = last_responds u last e
outcome_answers u (m ∷ ms) last e =
    let p = outcome_next u (answer_to u m) (outcome (next_of u m) ms last) e in
    (next_continues u m p.0, outcome_answers (next_of u m) ms last p.1)

pub answers_outcome : (u : UploadValue) (ms : List Content) (last : Content) → AreAnswers u ms last → outcome u ms last ≡ Last
answers_outcome u [] last h = responds_last u last h
answers_outcome u (m ∷ ms) last h = rw (continues_next u m h.0) (answers_outcome (next_of u m) ms last h.1)
