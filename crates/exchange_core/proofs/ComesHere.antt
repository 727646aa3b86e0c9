-- What an exchange comes to counts from an entry that stands in memory.
use Rattle.std.proofs.Common.{◌≡◌, ℕ, ◌+◌, Bool, true, false, cond, List, [], ◌∷◌, ◌++◌, map, Option, Some, None, Result, Ok, Err, refl, sym, ap, subst, ◌∙◌}
use Rattle.std.specs.Prelude.{⊤, IfSome, ◌==◌, filter, filter_map, option_and_then, slice_get}
use Rattle.std.specs.List.{AllByRecursion, cons_option}
use Rattle.std.proofs.lemmas.Bool.{false≢true}
use Rattle.coap_codec.specs.Spelling.{Content}
use Rattle.coap_codec.specs.Reading.{message_at}
use Rattle.coap_codec.specs.Recognition.{is_forwardable}
use Rattle.coap_codec.specs.declared.fault.CodecFault.{CodecFault}
use Rattle.blockwise.specs.Downloads.{PiecesValue, no_pieces, Judged, judged, with_piece}
use Rattle.blockwise.specs.Uploads.{UploadValue, answer_to}
use Rattle.blockwise.specs.declared.fault.BlockFault.{BlockFault}
use Rattle.blockwise.specs.declared.fault.BlockFault.TheVariants as F
use Rattle.blockwise.specs.declared.pieces.Step.TheVariants.{Next, Last}
use Rattle.blockwise.specs.declared.upload.Answered.{Answered}
use Rattle.blockwise.specs.declared.upload.Answered.TheVariants as A
use Rattle.reply_reading.specs.Findings.{Found}
use Rattle.journal_book.specs.Entries.{Deed, Opens, Asks, Sends, Hears, Passes, Answers, Shuts, Seals, Carries, Written}
use Rattle.journal_book.specs.Journals.{IsHere}
use Rattle.history_laws.specs.Progress.{Reply, numbers, Ending, Whole, Renewed, NotUnderstood, Reset, TimedOut, Turned, Progress, Fetches, Gives, Ends, answered_so, faulted, fetched_by, fetched_whole, step}
use Rattle.history_laws.specs.Responses.{is_tellable}
use Rattle.history_laws.specs.Observing.{as_first, first_reply}
use Rattle.exchange_model.specs.declared.kept.Exchange.{Exchange}
use Rattle.exchange_model.specs.declared.kept.Piece.{Piece}
use Rattle.exchange_model.specs.declared.kept.Reader.{Reader}
use Rattle.exchange_model.specs.declared.kept.Work.{Work}
use Rattle.exchange_model.specs.declared.kept.Work.TheVariants as W
use Rattle.exchange_model.specs.Matters.{fetched_in, is_piece_of, numbers_of as pieces_of, progress_with}
use Rattle.exchange_model.specs.Memory.{IsLast}
use Rattle.exchange_model.specs.Steps.{heard_by, heard_in, read_as, reply_at}
use Rattle.exchange_progress.specs.Coming.{IsComing, IsEnded, comes_by, found_for, renews}
use Rattle.exchange_progress.specs.Pieces.{IsPieceHere}
use Rattle.exchange_progress.specs.declared.coming.Coming.{Coming}
use Rattle.exchange_progress.specs.declared.coming.Coming.TheVariants as Comes
use Rattle.exchange_progress.specs.declared.coming.Ended.{Ended}
use Rattle.exchange_progress.specs.declared.coming.Ended.TheVariants as How
use Rattle.exchange_core.specs.Reading.{IsComingHere, IsEndHere, IsFirst, numbers_of}
use Rattle.exchange_core.proofs.Read.{counted-found, last-put}

module _ (P : ℕ → Type 0) where
  -- what an exchange came to counts from such an entry
  abbrev pub CountsFrom : Ending → Type 0
  CountsFrom (Whole w rs) = IsFirst P (numbers rs)
  CountsFrom (Renewed s r) = P r.number
  CountsFrom how = ⊤

  abbrev pub ComesFrom : Progress → Type 0
  ComesFrom (Ends how) = CountsFrom how
  ComesFrom progress = ⊤

  -- by a reply in such an entry

  first-reply : (rs : List Reply) (r : Reply) → IsFirst P (numbers rs) → P r.number → IsFirst P (numbers (rs ++ r ∷ []))
  first-reply [] r k h = h
  first-reply (x ∷ rs) r k h = k

  whole-first : (rs : List Reply) → IsFirst P (numbers rs) → CountsFrom (fetched_whole rs)
  whole-first [] h = tt
  whole-first (r ∷ rs) h = h

  fault-first : (fault : BlockFault) (restarts : ℕ) → ComesFrom (faulted fault restarts)
  fault-first F.Changed restarts = by (restarts == 3)
    where
      by : (b : Bool) → ComesFrom (cond b (Ends NotUnderstood) (Fetches (restarts + 1) no_pieces []))
      by true = tt
      by false = tt
  fault-first F.Size restarts = tt
  fault-first F.Gap restarts = tt
  fault-first F.TooLarge restarts = tt
  fault-first F.Memory restarts = tt

  judged-first : (j : Judged) (restarts : ℕ) (pieces : PiecesValue) (rs : List Reply) → IsFirst P (numbers rs)
      → ComesFrom (fetched_by j restarts pieces rs)
  judged-first (Err fault) restarts pieces rs h = fault-first fault restarts
  judged-first (Ok (Next block)) restarts pieces rs h = tt
  judged-first (Ok Last) restarts pieces rs h = whole-first rs h

  answered-first : (how : Answered) (u : UploadValue) (got : List Reply) (r : Reply) → IsFirst P (numbers got) → P r.number
      → ComesFrom (answered_so how u got r)
  answered-first A.Next u got r k h = tt
  answered-first A.Last u got r k h = first-reply got r k h
  answered-first A.Wrong u got r k h = tt

  if-first : (b : Bool) (p : Progress) → ComesFrom p → ComesFrom (cond b p (Ends NotUnderstood))
  if-first true p h = h
  if-first false p h = tt

  pub step-first : (w : Work) (got : List Reply) (r : Reply) → IsFirst P (numbers got) → P r.number
      → ComesFrom (step (progress_with w got) r)
  step-first (W.Fetches restarts pieces) got r k h =
      if-first (is_tellable r.message) _
      (judged-first (judged pieces r.message) restarts (with_piece pieces r.message) (got ++ r ∷ []) (first-reply got r k h))
  step-first (W.Gives upload) got r k h =
      if-first (is_forwardable r.message.options) _ (answered-first (answer_to upload r.message) upload got r k h)

  -- the replies of such pieces

  abbrev IsSuch : Option Reply → Type 0
  IsSuch o = IfSome o (λ (r : Reply). P r.number)

  read-such : (n : ℕ) (v : Result Content CodecFault) → P n → IsSuch (read_as n v)
  read-such n (Ok m) h = h
  read-such n (Err fault) h = tt

  deed-such : (n : ℕ) (d : Deed) → P n → IsSuch (heard_by n d)
  deed-such n (Opens conn) h = tt
  deed-such n (Asks conn ask) h = tt
  deed-such n (Sends peer bytes timeout) h = tt
  deed-such n (Hears peer bytes) h = read-such n (message_at bytes) h
  deed-such n Passes h = tt
  deed-such n (Answers conn ask grounds) h = tt
  deed-such n (Shuts conn) h = tt
  deed-such n Seals h = tt
  deed-such n (Carries number mark done) h = tt

  heard-such : (ws : List Written) (n : ℕ) → P n → IsSuch (heard_in ws n)
  heard-such ws n h = by (slice_get ws n)
    where
      by : (v : Option Written) → IsSuch (option_and_then (λ (w : Written). heard_by n w.deed) v)
      by None = tt
      by (Some w) = deed-such n w.deed h

  first-heard : (ws : List Written) (ns : List ℕ) → AllByRecursion P ns → IsFirst P (numbers (filter_map (heard_in ws) ns))
  first-heard ws [] a = tt
  first-heard ws (n ∷ ns) a = by (heard_in ws n) (heard-such ws n a.0) (first-heard ws ns a.1)
    where
      by : (v : Option Reply) → IsSuch v → IsFirst P (numbers (filter_map (heard_in ws) ns))
          → IsFirst P (numbers (cons_option v (filter_map (heard_in ws) ns)))
      by None h k = k
      by (Some r) h k = h

  named-such : (xs : List Piece) → AllByRecursion (λ (x : Piece). P x.number) xs → AllByRecursion P (map (λ (x : Piece). x.number) xs)
  named-such [] a = tt
  named-such (x ∷ xs) a = (a.0, named-such xs a.1)

  pub comes-first : (ws : List Written) (xs : List Piece) (e : Exchange) (n : ℕ) (m : Content)
      → AllByRecursion (λ (x : Piece). P x.number) (filter (is_piece_of e.opening) xs) → P n → ComesFrom (comes_by ws xs e n m)
  comes-first ws xs e n m a h =
      step-first e.work (fetched_in ws e.opening xs) (reply_at n m)
      (first-heard ws (pieces_of e.opening xs) (named-such (filter (is_piece_of e.opening) xs) a)) h

  pub told-first : (n : ℕ) (m : Content) → P n → ComesFrom (as_first n 0 m)
  told-first n m h = step-first (W.Fetches 0 no_pieces) [] (first_reply n 0 m) tt h

  -- what the readers are told

  found-first : (n : ℕ) (how : Ending) (sending : Option ℕ) (r : Reader) → CountsFrom how → renews how ≡ false
      → IsFirst P (numbers_of (found_for how n sending r).grounds)
  found-first n (Whole w rs) sending r h e = h
  found-first n (Renewed s u) sending r h e = absurd (false≢true (sym e))
  found-first n NotUnderstood sending r h e = tt
  found-first n Reset sending r h e = tt
  found-first n TimedOut sending r h e = tt
  found-first n Turned sending r h e = tt

some_reader : Reader
some_reader = record { ask = 0; conn = 0; opening = 0 }

ended-here : (given : ℕ) (kept : List ℕ) (n : ℕ) (x : Ended) (how : Ending) → IsEnded n x how
    → CountsFrom (IsHere given kept) how → IsEndHere given kept x
ended-here given kept n (How.Found f) how i h =
    counted-found given kept false (found_for how n None some_reader) f (sym (i.0 None some_reader))
    (found-first (IsHere given kept) n how None some_reader h i.1)
ended-here given kept n (How.Renewed f o) how i h =
    let s = i.1.0 in
    let u = i.1.1 in
    let is : how ≡ Renewed s u = i.1.2 in
    let found : f ≡ found_for (Renewed s u) n None some_reader = i.0 None some_reader ∙ ap (λ (x : Ending). found_for x n None some_reader) is in
    counted-found given kept true (found_for (Renewed s u) n None some_reader) f (sym found)
    (last-put (IsHere given kept) s.list u.number (subst (CountsFrom (IsHere given kept)) is h))
ended-here given kept n How.Turned how i h = tt

pub coming-here : (given : ℕ) (kept : List ℕ) (n : ℕ) (c : Coming) (p : Progress) → IsComing n c p
    → ComesFrom (IsHere given kept) p → IsComingHere given kept c
coming-here given kept n (Comes.Goes o) p i h = tt
coming-here given kept n (Comes.Ends x) p i h =
    ended-here given kept n x i.0 i.2 (subst (ComesFrom (IsHere given kept)) i.1 h)

-- what is found of a fault counts from nothing
pub fault-counted : (given : ℕ) (kept : List ℕ) (f g : Found) → f ≡ g → IsFirst (IsHere given kept) (numbers_of g.grounds)
    → IsEndHere given kept (How.Found f)
fault-counted given kept f g is h = counted-found given kept false g f (sym is) h
