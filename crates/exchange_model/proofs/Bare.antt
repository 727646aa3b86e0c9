-- A state has the replies of an exchange without what they reply to: progress goes the same way.
use Rattle.std.proofs.Common.{◌≡◌, ℕ, ◌+◌, Bool, true, false, cond, eqb, List, [], ◌∷◌, ◌++◌, map, Ok, Err, refl, ap, ◌∙◌}
use Rattle.coap_codec.specs.Spelling.{Content}
use Rattle.coap_codec.specs.Recognition.{is_forwardable}
use Rattle.blockwise.specs.Downloads.{PiecesValue, no_pieces, Judged, judged, with_piece}
use Rattle.blockwise.specs.declared.fault.BlockFault.TheVariants as F
use Rattle.blockwise.specs.declared.pieces.Step.TheVariants.{Next, Last}
use Rattle.blockwise.specs.Uploads.{UploadValue, answer_to, next_of}
use Rattle.blockwise.specs.declared.upload.Answered.{Answered}
use Rattle.blockwise.specs.declared.upload.Answered.TheVariants as A
use Rattle.history_laws.specs.Responses.{response_of, is_tellable}
use Rattle.history_laws.specs.Progress.{Reply, numbers, messages, Ending, Whole, Renewed, NotUnderstood, Reset, TimedOut, Turned, Progress, Fetches, Gives, Ends, answered_so, anew, fetched_by, fetched_whole, step}
use Rattle.exchange_model.specs.Hearing.{got_by}
use Rattle.history_laws.specs.Observing.{as_first, first_reply}
use Rattle.resp_cache.specs.Stored.{Stored}

abbrev pub bare : Reply → Reply
bare r = record r { sending = 0 }

abbrev pub bare_ending : Ending → Ending
bare_ending (Whole w rs) = Whole w (map bare rs)
bare_ending (Renewed s r) = Renewed s (bare r)
bare_ending NotUnderstood = NotUnderstood
bare_ending Reset = Reset
bare_ending TimedOut = TimedOut
bare_ending Turned = Turned

abbrev pub bare_progress : Progress → Progress
bare_progress (Fetches k p got) = Fetches k p (map bare got)
bare_progress (Gives u got) = Gives u (map bare got)
bare_progress (Ends how) = Ends (bare_ending how)

pub numbers-bare : (rs : List Reply) → numbers (map bare rs) ≡ numbers rs
numbers-bare [] = refl
numbers-bare (r ∷ rs) = ap (λ (ns : List ℕ). r.number ∷ ns) (numbers-bare rs)

pub messages-bare : (rs : List Reply) → messages (map bare rs) ≡ messages rs
messages-bare [] = refl
messages-bare (r ∷ rs) = ap (λ (ms : List Content). r.message ∷ ms) (messages-bare rs)

bare-push : (rs : List Reply) (r : Reply) → map bare rs ++ bare r ∷ [] ≡ map bare (rs ++ r ∷ [])
bare-push [] r = refl
bare-push (s ∷ rs) r = ap (λ (v : List Reply). bare s ∷ v) (bare-push rs r)

whole-bare : (rs : List Reply) → fetched_whole (map bare rs) ≡ bare_ending (fetched_whole rs)
whole-bare [] = refl
whole-bare (r ∷ rs) = rw (messages-bare rs) refl

anew-bare : (k : ℕ) → anew k ≡ bare_progress (anew k)
anew-bare k = by (eqb k 3)
  where
    by : (b : Bool) → cond b (Ends NotUnderstood) (Fetches (k + 1) no_pieces []) ≡ bare_progress (cond b (Ends NotUnderstood) (Fetches (k + 1) no_pieces []))
    by true = refl
    by false = refl

by-bare : (j : Judged) (k : ℕ) (p : PiecesValue) (got : List Reply) → fetched_by j k p (map bare got) ≡ bare_progress (fetched_by j k p got)
by-bare (Err F.Changed) k p got = anew-bare k
by-bare (Err F.Size) k p got = refl
by-bare (Err F.Gap) k p got = refl
by-bare (Err F.TooLarge) k p got = refl
by-bare (Err F.Memory) k p got = refl
by-bare (Ok (Next b)) k p got = refl
by-bare (Ok Last) k p got = ap Ends (whole-bare got)

answered-bare : (b : Bool) (how : Answered) (u : UploadValue) (got : List Reply) (r : Reply)
    → cond b (answered_so how u (map bare got) (bare r)) (Ends NotUnderstood) ≡ bare_progress (cond b (answered_so how u got r) (Ends NotUnderstood))
answered-bare true A.Next u got r = ap (Gives (next_of u r.message)) (bare-push got r)
answered-bare true A.Last u got r = ap (λ (v : List Reply). Ends (Whole (response_of r.message) v)) (bare-push got r)
answered-bare true A.Wrong u got r = refl
answered-bare false how u got r = refl

-- The replies by which it goes on are the same.
pub got-bare : (u : Progress) → got_by (bare_progress u) ≡ map bare (got_by u)
got-bare (Fetches k p got) = refl
got-bare (Gives u got) = refl
got-bare (Ends how) = refl

pub step-bare : (u : Progress) (r : Reply) → step (bare_progress u) (bare r) ≡ bare_progress (step u r)
step-bare (Ends how) r = refl
step-bare (Gives u got) r = answered-bare (is_forwardable r.message.options) (answer_to u r.message) u got r
step-bare (Fetches k p got) r = by (is_tellable r.message)
  where
    by : (b : Bool)
        → cond b (fetched_by (judged p r.message) k (with_piece p r.message) (map bare got ++ bare r ∷ [])) (Ends NotUnderstood)
        ≡ bare_progress (cond b (fetched_by (judged p r.message) k (with_piece p r.message) (got ++ r ∷ [])) (Ends NotUnderstood))
    by true =
        ap (fetched_by (judged p r.message) k (with_piece p r.message)) (bare-push got r)
        ∙ by-bare (judged p r.message) k (with_piece p r.message) (got ++ r ∷ [])
    by false = refl

-- The first reply to a GET by itself renews nothing.
pub first-unrenewed : (n i : ℕ) (m : Content) (s : Stored) (u : Reply) → as_first n i m ≡ Ends (Renewed s u) → ⊥
first-unrenewed n i m s u e = by (is_tellable m) (judged no_pieces m) e
  where
    by : (b : Bool) (j : Judged) → cond b (fetched_by j 0 (with_piece no_pieces m) (first_reply n i m ∷ [])) (Ends NotUnderstood) ≡ Ends (Renewed s u) → ⊥
    by false j f = cc
    by true (Err F.Changed) f = cc
    by true (Err F.Size) f = cc
    by true (Err F.Gap) f = cc
    by true (Err F.TooLarge) f = cc
    by true (Err F.Memory) f = cc
    by true (Ok (Next c)) f = cc
    by true (Ok Last) f = cc
