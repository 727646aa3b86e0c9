-- One entry more is traced.
use Rattle.std.proofs.Common.{◌≡◌, ℕ, ◌+◌, cond, List, [], ◌∷◌, ◌++◌, length, get_or, take, Option, Some, None, refl, sym, ap, ◌∙◌, arith, zero, suc, append_assoc, append-nil}
use Rattle.std.specs.HashMap.{HashMap, get}
use Rattle.uri_map.specs.declared.peer.Peer.{Peer}
use Rattle.journal_book.specs.Entries.{Done, Asked, Sent, Heard, done_of, Written}
use Rattle.exchange_model.specs.Backing.{done_at, replied_to_by, token_in, unanswered, unanswered_by, unanswered_from}
use Rattle.journal_copies.specs.declared.line.Line.{Line}
use Rattle.journal_copies.specs.Lines.{same_line}
use Rattle.journal_copies.specs.Tracing.{Awaits, Traced, AreTraced, line_in, line_of, replied_by}
use Rattle.journal_copies.specs.Copying.{first_in, heard_in}

abbrev peer_or : Peer → Option (Peer × List ℕ) → Peer
peer_or p None = p
peer_or p (Some x) = x.0

abbrev bytes_or : Option (Peer × List ℕ) → List ℕ
bytes_or None = []
bytes_or (Some x) = x.1

module _ {S : Type 0} (m n : HashMap Line ℕ S) where
  -- a first sending
  pub traced-first : (k : ℕ) (d : Option Done) (ws : List Written) (p : Peer) (b : List ℕ)
      → first_in d ≡ Some (p, b) → Awaits m ws
      → ((q : Line) → get same_line n q ≡ cond (same_line (line_in p b) q) (Some k) (get same_line m q))
      → Traced k d ws n None
  traced-first k (Some (Sent q c (Some w))) ws p b is old update =
      record {
        awaits = λ r token. update (line_of r token)
            ∙ (ap (λ (x : Peer × List ℕ). cond (same_line (line_in x.0 x.1) (line_of r token)) (Some k) (get same_line m (line_of r token))) (sym (same is))
            ∙ ap (λ (o : Option ℕ). cond (same_line (line_in q c) (line_of r token)) (Some k) o) (old r token));
        told_is = refl;
      }
    where
      same : {x y : Peer × List ℕ} → Some x ≡ Some y → x ≡ y
      same e = cc
  traced-first k (Some (Sent q c None)) ws p b is old update = absurd cc
  traced-first k (Some (Heard q c)) ws p b is old update = absurd cc
  traced-first k (Some (Asked c a)) ws p b is old update = absurd cc
  traced-first k None ws p b is old update = absurd cc

  -- what was heard
  pub traced-heard : (k : ℕ) (d : Option Done) (ws : List Written) (p : Peer) (b : List ℕ) (told : Option ℕ)
      → heard_in d ≡ Some (p, b) → Awaits m ws
      → told ≡ get same_line m (line_in p b)
      → ((q : Line) → get same_line n q ≡ cond (same_line (line_in p b) q) None (get same_line m q))
      → Traced k d ws n told
  traced-heard k (Some (Heard q c)) ws p b told is old found update =
      record {
        awaits = λ r token. update (line_of r token)
            ∙ (ap (λ (x : Peer × List ℕ). cond (same_line (line_in x.0 x.1) (line_of r token)) None (get same_line m (line_of r token))) (sym (same is))
            ∙ ap (λ (o : Option ℕ). cond (same_line (line_in q c) (line_of r token)) None o) (old r token));
        told_is =
            found ∙ (ap (λ (x : Peer × List ℕ). get same_line m (line_in x.0 x.1)) (sym (same is))
            ∙ old q (token_in c));
      }
    where
      same : {x y : Peer × List ℕ} → Some x ≡ Some y → x ≡ y
      same e = cc
  traced-heard k (Some (Sent q c w)) ws p b told is old found update = absurd cc
  traced-heard k (Some (Asked c a)) ws p b told is old found update = absurd cc
  traced-heard k None ws p b told is old found update = absurd cc

  -- all else
  pub traced-else : (k : ℕ) (d : Option Done) (ws : List Written)
      → first_in d ≡ None → heard_in d ≡ None → Awaits m ws → Traced k d ws m None
  traced-else k (Some (Sent q c (Some w))) ws first heard old = absurd cc
  traced-else k (Some (Heard q c)) ws first heard old = absurd cc
  traced-else k (Some (Sent q c None)) ws first heard old = record { awaits = old; told_is = refl }
  traced-else k (Some (Asked c a)) ws first heard old = record { awaits = old; told_is = refl }
  traced-else k None ws first heard old = record { awaits = old; told_is = refl }

-- after one entry more
unanswered-more : (p : Peer) (token : List ℕ) (n : ℕ) (ws : List Written) (w : Written) (old : Option ℕ)
    → unanswered_from p token n (ws ++ w ∷ []) old
    ≡ unanswered_by p token (n + length ws) (done_of w.deed) (unanswered_from p token n ws old)
unanswered-more p token n [] w old =
    ap (λ (k : ℕ). unanswered_by p token k (done_of w.deed) old) (by n)
  where
    by : (k : ℕ) → k ≡ k + 0
    by k = omega arith
unanswered-more p token n (v ∷ ws) w old =
    let first = unanswered_by p token n (done_of v.deed) old in
    unanswered-more p token (n + 1) ws w first
    ∙ ap (λ (k : ℕ). unanswered_by p token k (done_of w.deed) (unanswered_from p token (n + 1) ws first))
    (by n (length ws))
  where
    by : (k i : ℕ) → (k + 1) + i ≡ k + suc i
    by k i = omega arith

pub awaits-next : {S : Type 0} (m : HashMap Line ℕ S) (n : ℕ) (ws : List Written) (w : Written) (told : Option ℕ)
    → length ws ≡ n → Traced n (done_of w.deed) ws m told → Awaits m (ws ++ w ∷ [])
awaits-next m n ws w told len h = λ p token.
    h.awaits p token
    ∙ (ap (λ (k : ℕ). unanswered_by p token k (done_of w.deed) (unanswered p token ws)) (sym len ∙ by (length ws))
    ∙ sym (unanswered-more p token 0 ws w None))
  where
    by : (k : ℕ) → k ≡ 0 + k
    by k = omega arith

-- what is told of each entry, after these
abbrev pub told_from : List Written → List Written → List (Option ℕ)
told_from before [] = []
told_from before (w ∷ ws) = replied_by before (done_of w.deed) ∷ told_from (before ++ w ∷ []) ws

told-at : (before ws : List Written) (k : ℕ)
    → get_or (told_from before ws) k None ≡ replied_by (before ++ take k ws) (done_at ws k)
told-at before [] k = refl
told-at before (w ∷ ws) zero =
    ap (λ (vs : List Written). replied_by vs (done_of w.deed)) (sym (append-nil before))
told-at before (w ∷ ws) (suc k) =
    told-at (before ++ w ∷ []) ws k
    ∙ ap (λ (vs : List Written). replied_by vs (done_at ws k)) (append_assoc before (w ∷ []) (take k ws))

same-reply : (ws : List Written) (k : ℕ) (d : Option Done) → replied_by (take k ws) d ≡ replied_to_by ws k d
same-reply ws k (Some (Heard p b)) = refl
same-reply ws k (Some (Sent p b w)) = refl
same-reply ws k (Some (Asked c a)) = refl
same-reply ws k None = refl

pub traced-all : (ws : List Written) (rs : List (Option ℕ)) → rs ≡ told_from [] ws → AreTraced ws rs
traced-all ws rs e = λ k.
    ap (λ (os : List (Option ℕ)). get_or os k None) e ∙ (told-at [] ws k ∙ same-reply ws k (done_at ws k))

told-more : (before vs : List Written) (w : Written)
    → told_from before (vs ++ w ∷ []) ≡ told_from before vs ++ replied_by (before ++ vs) (done_of w.deed) ∷ []
told-more before [] w =
    ap (λ (ws : List Written). replied_by ws (done_of w.deed) ∷ []) (sym (append-nil before))
told-more before (v ∷ vs) w =
    ap (λ (os : List (Option ℕ)). replied_by before (done_of v.deed) ∷ os)
    (told-more (before ++ v ∷ []) vs w
    ∙ ap (λ (ws : List Written). told_from (before ++ v ∷ []) vs ++ replied_by ws (done_of w.deed) ∷ [])
    (append_assoc before (v ∷ []) vs))

pub told-next : (ws : List Written) (w : Written) (rs : List (Option ℕ)) (told : Option ℕ)
    → rs ≡ told_from [] ws → told ≡ replied_by ws (done_of w.deed)
    → rs ++ told ∷ [] ≡ told_from [] (ws ++ w ∷ [])
told-next ws w rs told e is =
    ap (λ (os : List (Option ℕ)). os ++ told ∷ []) e
    ∙ (ap (λ (o : Option ℕ). told_from [] ws ++ o ∷ []) is
    ∙ sym (told-more [] ws w))
