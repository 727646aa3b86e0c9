-- One entry more is looked at.
use Rattle.std.proofs.Common.{◌≡◌, ℕ, ◌+◌, Bool, true, false, ◌&&◌, cond, ltb, List, [], Option, Some, None, option_map, refl, sym, ap, subst, ◌∙◌}
use Rattle.std.specs.Prelude.{◌||◌}
use Rattle.std.specs.HashMap.{HashMap}
use Rattle.limits.specs.declared.TheConstants.{EXCHANGE_LIFETIME}
use Rattle.uri_map.specs.declared.peer.Peer.{Peer}
use Rattle.journal_book.specs.Entries.{Past, Done, Asked, Sent, Heard, done_of, Written}
use Rattle.exchange_model.specs.Rotating.{Seen, seen_by, is_recent_first}
use Rattle.journal_copies.specs.declared.source.Source.{Source}
use Rattle.journal_copies.specs.Knowing.{Knows, AreBefore, Sees}
use Rattle.journal_copies.specs.Marking.{kept_as, mark_if, past_if}
use Rattle.journal_copies.specs.Copying.{heard_in, is_recent_by, Looks}
use Rattle.journal_copies.proofs.Known.{none-here, before-more}

or-false : (b : Bool) → (b || false) ≡ b
or-false true = refl
or-false false = refl

past-is : (b : Bool) → option_map kept_as (cond b (Some Past) None) ≡ past_if b
past-is true = refl
past-is false = refl

abbrev first_or : Peer → Option (Peer × List ℕ) → Peer
first_or p None = p
first_or p (Some x) = x.0

abbrev second_or : Option (Peer × List ℕ) → List ℕ
second_or None = []
second_or (Some x) = x.1

module _ {S : Type 0} (m : HashMap Source ℕ S) where
  -- what was heard
  pub looks-heard : (t n : ℕ) (w : Written) (p : Peer) (b : List ℕ) (old : List Seen) (more : Bool) → heard_in (done_of w.deed) ≡ Some (p, b)
      → Sees n w.moment (Some (Heard p b)) old m more → Looks t n w old m (more && ltb t (w.moment + EXCHANGE_LIFETIME))
  looks-heard t n w p b old more is s = by (done_of w.deed) refl is
    where
      by : (d : Option Done) → done_of w.deed ≡ d → heard_in d ≡ Some (p, b) → Looks t n w old m (more && ltb t (w.moment + EXCHANGE_LIFETIME))
      by (Some (Heard q c)) e is = heard q c e (ap (first_or p) is, ap second_or is)
        where
          heard : (q : Peer) (c : List ℕ) → done_of w.deed ≡ Some (Heard q c) → (q ≡ p) × (c ≡ b) → Looks t n w old m (more && ltb t (w.moment + EXCHANGE_LIFETIME))
          heard q c e same =
              let done : done_of w.deed ≡ Some (Heard p b) = e ∙ (ap (λ (r : Peer). Some (Heard r c)) same.0 ∙ ap (λ (d : List ℕ). Some (Heard p d)) same.1) in
              record {
                knows = subst (λ (d : Option Done). Knows m (seen_by n w.moment d old)) (sym done) s.knows;
                before = subst (λ (d : Option Done). AreBefore (n + 1) (seen_by n w.moment d old)) (sym done) s.before;
                kept_is =
                    ap (λ (d : Option Done). mark_if t (seen_by n w.moment d old) [] n w.moment d) done
                    ∙ (ap (λ (v : Bool). option_map kept_as (cond v (Some Past) None)) (s.more_is t)
                    ∙ past-is (more && ltb t (w.moment + EXCHANGE_LIFETIME)));
              }
      by (Some (Asked c a)) e is = absurd cc
      by (Some (Sent q c v)) e is = absurd cc
      by None e is = absurd cc

  -- all else
  pub looks-else : (t n : ℕ) (w : Written) (old : List Seen) (kept : Bool) → heard_in (done_of w.deed) ≡ None → AreBefore n old → Knows m old
      → kept ≡ is_recent_by t w.moment (done_of w.deed) → Looks t n w old m kept
  looks-else t n w old kept is before knows same =
      subst (λ (b : Bool). Looks t n w old m b) (sym same) (by (done_of w.deed) refl is)
    where
      as_it_is : (d : Option Done) → done_of w.deed ≡ d → seen_by n w.moment d old ≡ old → mark_if t old [] n w.moment d ≡ past_if (is_recent_by t w.moment d)
          → Looks t n w old m (is_recent_by t w.moment (done_of w.deed))
      as_it_is d e same mark =
          let seen_is : seen_by n w.moment (done_of w.deed) old ≡ old = ap (λ (x : Option Done). seen_by n w.moment x old) e ∙ same in
          record {
            knows = subst (Knows m) (sym seen_is) knows;
            before = subst (AreBefore (n + 1)) (sym seen_is) (before-more n old before);
            kept_is =
                ap (λ (xs : List Seen). mark_if t xs [] n w.moment (done_of w.deed)) seen_is
                ∙ (ap (mark_if t old [] n w.moment) e ∙ (mark ∙ ap (λ (x : Option Done). past_if (is_recent_by t w.moment x)) (sym e)));
          }

      of-done : (done : Done) → mark_if t old [] n w.moment (Some done) ≡ past_if (is_recent_first t w.moment done)
      of-done done =
          ap (λ (v : Bool). option_map kept_as (cond (is_recent_first t w.moment done || v) (Some Past) None)) (none-here t n old before)
          ∙ (ap (λ (v : Bool). option_map kept_as (cond v (Some Past) None)) (or-false (is_recent_first t w.moment done))
          ∙ past-is (is_recent_first t w.moment done))

      by : (d : Option Done) → done_of w.deed ≡ d → heard_in d ≡ None → Looks t n w old m (is_recent_by t w.moment (done_of w.deed))
      by (Some (Heard q c)) e is = absurd cc
      by (Some (Asked c a)) e is = as_it_is (Some (Asked c a)) e refl (of-done (Asked c a))
      by (Some (Sent q c v)) e is = as_it_is (Some (Sent q c v)) e refl (of-done (Sent q c v))
      by None e is = as_it_is None e refl refl
