-- What is drafted, one entry after another.
use Rattle.std.proofs.Common.{◌≡◌, ℕ, ◌+◌, suc, List, [], ◌∷◌, ◌++◌, length, map, Option, refl, sym, ap, subst, ◌∙◌, arith, append_assoc, length-append, append-nil}
use Rattle.std.proofs.lemmas.List.{map-append, length-map}
use Rattle.std.specs.List.{AllByRecursion}
use Rattle.history_laws.proofs.CallerLemmas.{all-push}
use Rattle.uri_map.specs.declared.peer.Peer.{Peer}
use Rattle.journal_book.specs.Entries.{Deed, Opens, Asks, Sends, Hears, Passes, Answers, Shuts, Seals, Carries, Written}
use Rattle.exchange_model.specs.State.{State}
use Rattle.exchange_core.specs.Values.{Outgoing, Untaken, written, answered_by, answered_in, sent_by, sent_in}
use Rattle.exchange_core.specs.Answering.{Given, IsGiven}
use Rattle.exchange_core.specs.Drafts.{AllKeep, DraftValue, Drafts, IsDrafted, IsAlone, KeepsConns, empty_draft, draft_with, draft_sending, draft_answering, untaken_of}

pub sent-append : (xs ys : List Written) → sent_in (xs ++ ys) ≡ sent_in xs ++ sent_in ys
sent-append [] ys = refl
sent-append (w ∷ ws) ys = ap (λ zs. sent_by w.deed ++ zs) (sent-append ws ys) ∙ sym (append_assoc (sent_by w.deed) (sent_in ws) (sent_in ys))

pub answered-append : (n : ℕ) (xs ys : List Written) → answered_in n (xs ++ ys) ≡ answered_in n xs ++ answered_in (n + length xs) ys
answered-append n [] ys = let e : n ≡ n + 0 = omega arith in ap (λ (k : ℕ). answered_in k ys) e
answered-append n (w ∷ ws) ys =
    let e : (n + 1) + length ws ≡ n + suc (length ws) = omega arith in
    ap (λ zs. answered_by n w.deed ++ zs) (answered-append (n + 1) ws ys ∙ ap (λ (k : ℕ). answered_in (n + 1) ws ++ answered_in k ys) e)
    ∙ sym (append_assoc (answered_by n w.deed) (answered_in (n + 1) ws) (answered_in (n + suc (length ws)) ys))

pub drafts-none : (t : ℕ) (S : State) → Drafts t S [] (empty_draft (length S.entries))
drafts-none t S = record { next = omega arith; entries = refl; keep = tt; sends = refl; answers = refl }

-- nothing is answered
pub answers-none : (t : ℕ) (S : State) (ds : List Deed) (d : DraftValue) → Drafts t S ds d → d.answers ≡ [] → IsDrafted t S ds d
answers-none t S ds d h none = record {
  drafts = h;
  given = subst (AllByRecursion (IsGiven (S.entries ++ d.entries))) (sym none) tt;
}

-- one deed more, with what it sends and answers
drafts-more : (t : ℕ) (S : State) (ds : List Deed) (x : Deed) (d e : DraftValue) → Drafts t S ds d
    → KeepsConns x → e.next ≡ d.next + 1 → e.entries ≡ d.entries ++ written t x ∷ []
    → e.sends ≡ d.sends ++ sent_by x → map untaken_of e.answers ≡ map untaken_of d.answers ++ answered_by d.next x
    → Drafts t S (ds ++ x ∷ []) e
drafts-more t S ds x d e h keeps next entries sends answers =
    let n = length S.entries in
    let len : length (ds ++ x ∷ []) ≡ length ds + 1 = length-append ds (x ∷ []) in
    let all : map (written t) (ds ++ x ∷ []) ≡ map (written t) ds ++ written t x ∷ [] = map-append (written t) ds (x ∷ []) in
    record {
      next = let a = h.next in omega (arith, a, len, next);
      entries = entries ∙ ap (λ zs. zs ++ written t x ∷ []) h.entries ∙ sym all;
      keep = subst AllKeep (sym entries) (all-push (λ (w : Written). KeepsConns w.deed) d.entries (written t x) h.keep keeps);
      sends = sends ∙ ap (λ zs. zs ++ sent_by x) h.sends
          ∙ (let one : sent_by x ≡ sent_in (written t x ∷ []) = sym (append-nil (sent_by x)) in
          ap (λ zs. sent_in (map (written t) ds) ++ zs) one ∙ sym (sent-append (map (written t) ds) (written t x ∷ [])) ∙ ap sent_in (sym all));
      answers = answers ∙ ap (λ zs. zs ++ answered_by d.next x) h.answers
          ∙ (let at : d.next ≡ n + length (map (written t) ds) = h.next ∙ ap (λ (k : ℕ). n + k) (sym (length-map ds (written t))) in
          let one : answered_by d.next x ≡ answered_in (n + length (map (written t) ds)) (written t x ∷ []) = ap (λ (k : ℕ). answered_by k x) at ∙ sym (append-nil (answered_by (n + length (map (written t) ds)) x)) in
          ap (λ zs. answered_in n (map (written t) ds) ++ zs) one ∙ sym (answered-append n (map (written t) ds) (written t x ∷ [])) ∙ ap (answered_in n) (sym all));
    }

alone-sends : (x : Deed) (xs : List Outgoing) → IsAlone x → xs ≡ xs ++ sent_by x
alone-sends (Sends p b w) xs a = absurd a
alone-sends (Answers c k g) xs a = absurd a
alone-sends (Opens c) xs a = sym (append-nil xs)
alone-sends (Asks c k) xs a = sym (append-nil xs)
alone-sends (Hears p b) xs a = sym (append-nil xs)
alone-sends Passes xs a = sym (append-nil xs)
alone-sends (Shuts c) xs a = sym (append-nil xs)
alone-sends Seals xs a = sym (append-nil xs)
alone-sends (Carries n mark done) xs a = sym (append-nil xs)

alone-answers : (x : Deed) (n : ℕ) (xs : List Untaken) → IsAlone x → xs ≡ xs ++ answered_by n x
alone-answers (Sends p b w) n xs a = absurd a
alone-answers (Answers c k g) n xs a = absurd a
alone-answers (Opens c) n xs a = sym (append-nil xs)
alone-answers (Asks c k) n xs a = sym (append-nil xs)
alone-answers (Hears p b) n xs a = sym (append-nil xs)
alone-answers Passes n xs a = sym (append-nil xs)
alone-answers (Shuts c) n xs a = sym (append-nil xs)
alone-answers Seals n xs a = sym (append-nil xs)
alone-answers (Carries k mark done) n xs a = sym (append-nil xs)

pub drafts-alone : (t : ℕ) (S : State) (ds : List Deed) (x : Deed) (d : DraftValue) → KeepsConns x → IsAlone x → Drafts t S ds d
    → Drafts t S (ds ++ x ∷ []) (draft_with (written t x) d)
drafts-alone t S ds x d keeps a h =
    drafts-more t S ds x d (draft_with (written t x) d) h keeps refl refl (alone-sends x d.sends a) (alone-answers x d.next (map untaken_of d.answers) a)

pub drafts-send : (t : ℕ) (S : State) (ds : List Deed) (p : Peer) (b : List ℕ) (w : Option ℕ) (d : DraftValue) → Drafts t S ds d
    → Drafts t S (ds ++ Sends p b w ∷ []) (draft_sending t p b w d)
drafts-send t S ds p b w d h =
    drafts-more t S ds (Sends p b w) d (draft_sending t p b w d) h tt refl refl refl (sym (append-nil (map untaken_of d.answers)))

pub drafts-answer : (S : State) (ds : List Deed) (g : Given) (d : DraftValue) → g.number ≡ d.next → Drafts g.moment S ds d
    → Drafts g.moment S (ds ++ Answers g.conn g.ask g.found.grounds ∷ []) (draft_answering g d)
drafts-answer S ds g d n h =
    drafts-more g.moment S ds (Answers g.conn g.ask g.found.grounds) d (draft_answering g d) h tt refl refl
    (sym (append-nil d.sends)) (map-append untaken_of d.answers (g ∷ []) ∙ ap (λ (k : ℕ). map untaken_of d.answers ++ record { conn = g.conn; ask = g.ask; number = k } ∷ []) n)
