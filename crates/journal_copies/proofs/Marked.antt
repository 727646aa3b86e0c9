-- One entry more is marked, where it is remembered.
use Rattle.std.proofs.Common.{◌≡◌, ℕ, ◌+◌, ◌<◌, ◌≤◌, Bool, true, false, cond, List, [], ◌∷◌, ◌++◌, length, Option, Some, None, option_map, refl, sym, ap, subst, ◌∙◌, arith, suc, length-append}
use Rattle.std.specs.Prelude.{◌||◌}
use Rattle.std.specs.List.{list_any}
use Rattle.std.specs.HashMap.{HashMap}
use Rattle.coap_codec.specs.Reading.{message_at}
use Rattle.uri_map.specs.declared.peer.Peer.{Peer}
use Rattle.ask_model.specs.Sizes.{capped}
use Rattle.journal_book.specs.Entries.{Past, Done, Asked, Sent, Heard, done_of, Written, entry_size}
use Rattle.journal_book.specs.declared.entry.Mark.{Mark as RustMark}
use Rattle.exchange_model.specs.Rotating.{Seen, seen_by, seen_from, seen, is_recent_first, is_recent_seen}
use Rattle.journal_copies.specs.declared.marks.Marks.{Marks}
use Rattle.journal_copies.specs.declared.source.Source.{Source}
use Rattle.journal_copies.specs.Knowing.{Knows, AreBefore, such_id, with_seen, source_of}
use Rattle.journal_copies.specs.Marking.{AreMarks, count_some, kept_as, mark_if, marks_from, marks_with, more_if, one_of, past_if, size_if, weigh}
use Rattle.journal_copies.specs.Copying.{Looks}
use Rattle.journal_copies.proofs.Known.{so-none, so-some, other}

-- What was seen of one entry more.
seen-more : (n : ℕ) (ws : List Written) (w : Written) (old : List Seen)
    → seen_from n (ws ++ w ∷ []) old
    ≡ seen_by (n + length ws) w.moment (done_of w.deed) (seen_from n ws old)
seen-more n [] w old = ap (λ (k : ℕ). seen_by k w.moment (done_of w.deed) old) (by n)
  where
    by : (k : ℕ) → k ≡ k + 0
    by k = omega arith
seen-more n (v ∷ ws) w old =
    let first = seen_by n v.moment (done_of v.deed) old in
    seen-more (n + 1) ws w first
    ∙ ap (λ (k : ℕ). seen_by k w.moment (done_of w.deed) (seen_from (n + 1) ws first))
    (by n (length ws))
  where
    by : (k i : ℕ) → (k + 1) + i ≡ k + suc i
    by k i = omega arith

-- A newer one changes no mark of those before it.
recent-seen : (t n N s : ℕ) (more : Bool) (x : Source) (old : List Seen) → n < N
    → list_any (is_recent_seen t n) (with_seen more N s x old) ≡ list_any (is_recent_seen t n) old
recent-seen t n N s true x old lt = rw (other N n (λ e. omega (arith, lt, e))) refl
recent-seen t n N s false x old lt = refl

-- what was seen by an entry, as one more or none
so-with : (n s : ℕ) (p : Peer) (b : List ℕ) (old : List Seen)
    → (more : Bool) × (x : Source) × (seen_by n s (Some (Heard p b)) old ≡ with_seen more n s x old)
so-with n s p b old = by (such_id (message_at b)) refl
  where
    by : (v : Option ℕ) → such_id (message_at b) ≡ v
        → (more : Bool) × (x : Source) × (seen_by n s (Some (Heard p b)) old ≡ with_seen more n s x old)
    by None e = (false, source_of p 0, so-none n s p (message_at b) old e)
    by (Some mid) e = (_, source_of p mid, so-some n s p mid (message_at b) old e)

recent-later : (t n N s : ℕ) (done : Option Done) (old : List Seen) → n < N
    → list_any (is_recent_seen t n) (seen_by N s done old) ≡ list_any (is_recent_seen t n) old
recent-later t n N s None old lt = refl
recent-later t n N s (Some (Asked c a)) old lt = refl
recent-later t n N s (Some (Sent p b w)) old lt = refl
recent-later t n N s (Some (Heard p b)) old lt =
    let is = so-with N s p b old in
    ap (list_any (is_recent_seen t n)) is.2 ∙ recent-seen t n N s is.0 is.1 old lt

mark-later : (t n N s u : ℕ) (d done : Option Done) (old : List Seen) → n < N
    → mark_if t (seen_by N s d old) [] n u done ≡ mark_if t old [] n u done
mark-later t n N s u d None old lt = refl
mark-later t n N s u d (Some done) old lt =
    ap (λ (b : Bool). option_map kept_as (cond (is_recent_first t u done || b) (Some Past) None))
    (recent-later t n N s d old lt)

marks-later : (t n N s : ℕ) (d : Option Done) (old : List Seen) (ws : List Written)
    → n + length ws ≤ N
    → marks_from t (seen_by N s d old) [] n ws ≡ marks_from t old [] n ws
marks-later t n N s d old [] le = refl
marks-later t n N s d old (w ∷ ws) le =
    ap (λ (m : Option RustMark). m ∷ marks_from t (seen_by N s d old) [] (n + 1) ws)
    (mark-later t n N s w.moment d (done_of w.deed) old (omega (arith, le)))
    ∙ ap (λ (ms : List (Option RustMark)). mark_if t old [] n w.moment (done_of w.deed) ∷ ms)
    (marks-later t (n + 1) N s d old ws (omega (arith, le)))

marks-more : (t : ℕ) (xs : List Seen) (gs : List ℕ) (n : ℕ) (ws : List Written) (w : Written)
    → marks_from t xs gs n (ws ++ w ∷ [])
    ≡ marks_from t xs gs n ws ++ mark_if t xs gs (n + length ws) w.moment (done_of w.deed) ∷ []
marks-more t xs gs n [] w =
    ap (λ (k : ℕ). mark_if t xs gs k w.moment (done_of w.deed) ∷ []) (by n)
  where
    by : (k : ℕ) → k ≡ k + 0
    by k = omega arith
marks-more t xs gs n (v ∷ ws) w =
    ap (λ (ms : List (Option RustMark)). mark_if t xs gs n v.moment (done_of v.deed) ∷ ms)
    (marks-more t xs gs (n + 1) ws w
    ∙ ap (λ (k : ℕ). marks_from t xs gs (n + 1) ws ++ mark_if t xs gs k w.moment (done_of w.deed) ∷ [])
    (by n (length ws)))
  where
    by : (k i : ℕ) → (k + 1) + i ≡ k + suc i
    by k i = omega arith

zero-more : (i : ℕ) → 0 + i ≡ i
zero-more i = omega arith

-- the marks of one entry more
pub marks-next : (t : ℕ) (ws : List Written) (w : Written)
    → marks_with t (ws ++ w ∷ []) []
    ≡ marks_with t ws []
    ++ mark_if t (seen_by (length ws) w.moment (done_of w.deed) (seen ws)) [] (length ws) w.moment (done_of w.deed) ∷ []
marks-next t ws w =
    let later = seen_by (length ws) w.moment (done_of w.deed) (seen ws) in
    ap (λ (xs : List Seen). marks_from t xs [] 0 (ws ++ w ∷ [])) (seen-more 0 ws w []
    ∙ ap (λ (k : ℕ). seen_by k w.moment (done_of w.deed) (seen ws)) (zero-more (length ws)))
    ∙ (marks-more t later [] 0 ws w
    ∙ (ap (λ (ms : List (Option RustMark)). ms ++ mark_if t later [] (0 + length ws) w.moment (done_of w.deed) ∷ [])
    (marks-later t 0 (length ws) w.moment (done_of w.deed) (seen ws) ws (omega arith))
    ∙ ap (λ (k : ℕ). marks_with t ws [] ++ mark_if t later [] k w.moment (done_of w.deed) ∷ [])
    (zero-more (length ws))))

pub seen-next : (ws : List Written) (w : Written)
    → seen (ws ++ w ∷ []) ≡ seen_by (length ws) w.moment (done_of w.deed) (seen ws)
seen-next ws w =
    seen-more 0 ws w []
    ∙ ap (λ (k : ℕ). seen_by k w.moment (done_of w.deed) (seen ws)) (zero-more (length ws))

pub marks-length : (t : ℕ) (xs : List Seen) (gs : List ℕ) (n : ℕ) (ws : List Written)
    → length (marks_from t xs gs n ws) ≡ length ws
marks-length t xs gs n [] = refl
marks-length t xs gs n (w ∷ ws) = ap suc (marks-length t xs gs (n + 1) ws)

-- What one more counts.

count-push : (ms : List (Option RustMark)) (m : Option RustMark)
    → count_some (ms ++ m ∷ []) ≡ count_some ms + one_of m
count-push [] m = omega arith
count-push (x ∷ ms) m = let ih = count-push ms m in omega (arith, ih)

weigh-push : (ms : List (Option RustMark)) (ws : List Written) (m : Option RustMark) (w : Written)
    → length ms ≡ length ws
    → weigh (ms ++ m ∷ []) (ws ++ w ∷ []) ≡ weigh ms ws + size_if m (entry_size w)
weigh-push [] [] m w e = omega arith
weigh-push [] (v ∷ ws) m w e = absurd (omega (arith, e))
weigh-push (x ∷ ms) [] m w e = absurd (omega (arith, e))
weigh-push (x ∷ ms) (v ∷ ws) m w e =
    let ih = weigh-push ms ws m w (omega (arith, e)) in omega (arith, ih)

pub capped-more : (a b : ℕ) → capped (capped a + capped b) ≡ capped (a + b)
capped-more a b = omega arith

more-count : (kept : Bool) (a b : ℕ) → a ≡ capped b
    → more_if kept 1 a ≡ capped (b + one_of (past_if kept))
more-count true a b e = ap (λ (k : ℕ). capped (k + 1)) e ∙ capped-more b 1
more-count false a b e = e ∙ ap capped (by b)
  where
    by : (k : ℕ) → k ≡ k + 0
    by k = omega arith

more-bytes : (kept : Bool) (n a b : ℕ) → a ≡ capped b
    → more_if kept n a ≡ capped (b + size_if (past_if kept) n)
more-bytes true n a b e = ap (λ (k : ℕ). capped (k + capped n)) e ∙ capped-more b n
more-bytes false n a b e = e ∙ ap capped (by b)
  where
    by : (k : ℕ) → k ≡ k + 0
    by k = omega arith

-- One step of the way through the entries.
pub record Goes {S : Type 0} (t : ℕ) (vs : List Written) (m : HashMap Source ℕ S) (c : Marks) : Type 0 where
  pub knows : Knows m (seen vs)
  pub before : AreBefore (length vs) (seen vs)
  pub marked : AreMarks t vs [] c

pub goes-on : {S : Type 0} (t n : ℕ) (ws : List Written) (w : Written) (m : HashMap Source ℕ S) (kept : Bool) (c d : Marks)
    → length ws ≡ n → Looks t n w (seen ws) m kept → AreMarks t ws [] c
    → d.marks.items ≡ c.marks.items ++ past_if kept ∷ []
    → d.count ≡ more_if kept 1 c.count → d.bytes ≡ more_if kept (entry_size w) c.bytes
    → Goes t (ws ++ w ∷ []) m d
goes-on t n ws w m kept c d len looks old marks count bytes =
    let now : seen (ws ++ w ∷ []) ≡ seen_by n w.moment (done_of w.deed) (seen ws) =
    seen-next ws w ∙ ap (λ (k : ℕ). seen_by k w.moment (done_of w.deed) (seen ws)) len in
    let mark : mark_if t (seen_by (length ws) w.moment (done_of w.deed) (seen ws)) [] (length ws) w.moment (done_of w.deed) ≡ past_if kept =
    ap (λ (k : ℕ). mark_if t (seen_by k w.moment (done_of w.deed) (seen ws)) [] k w.moment (done_of w.deed)) len ∙ looks.kept_is in
    let long : length c.marks.items ≡ length ws =
    ap (λ (ms : List (Option RustMark)). length ms) old.marks ∙ marks-length t (seen ws) [] 0 ws in
    record {
      knows = subst (Knows m) (sym now) looks.knows;
      before =
          subst (λ (k : ℕ). AreBefore k (seen (ws ++ w ∷ []))) (let more = length-append ws (w ∷ []) in omega (arith, more, len))
          (subst (AreBefore (n + 1)) (sym now) looks.before);
      marked = record {
        marks =
            marks ∙ (ap (λ (ms : List (Option RustMark)). ms ++ past_if kept ∷ []) old.marks
            ∙ (ap (λ (x : Option RustMark). marks_with t ws [] ++ x ∷ []) (sym mark)
            ∙ sym (marks-next t ws w)));
        count =
            count ∙ (more-count kept c.count (count_some c.marks.items) old.count
            ∙ ap capped (sym (ap count_some marks ∙ count-push c.marks.items (past_if kept))));
        bytes =
            bytes ∙ (more-bytes kept (entry_size w) c.bytes (weigh c.marks.items ws) old.bytes
            ∙ ap capped (sym (ap (λ (ms : List (Option RustMark)). weigh ms (ws ++ w ∷ [])) marks
            ∙ weigh-push c.marks.items ws (past_if kept) w long)));
      };
    }

-- before the first entry
pub marks-none : (t : ℕ) (m : Marks) → m.marks.items ≡ [] → m.count ≡ 0 → m.bytes ≡ 0 → AreMarks t [] [] m
marks-none t m marks count bytes = record {
  marks = marks;
  count = count ∙ ap (λ (ms : List (Option RustMark)). capped (count_some ms)) (sym marks);
  bytes = bytes ∙ ap (λ (ms : List (Option RustMark)). capped (weigh ms [])) (sym marks);
}
