-- The replies by which open exchanges go on.
use Rattle.std.proofs.Common.{◌≡◌, inl, inr, ℕ, ◌<◌, ◌≤◌, Bool, true, false, cond, eqb, List, [], ◌∷◌, length, Option, Some, None, refl, sym, ap, subst, ◌∙◌, arith}
use Rattle.std.specs.Prelude.{find, option_map}
use Rattle.blockwise.specs.Downloads.{no_pieces}
use Rattle.blockwise.specs.Uploads.{begun as begun_as}
use Rattle.ask_model.specs.Requests.{CoapRequest}
use Rattle.std.specs.List.{AllByRecursion}
use Rattle.journal_book.specs.Entries.{Mark, Carries}
use Rattle.journal_book.specs.Entries as D
use Rattle.history_laws.specs.Readings.{Noted, Note, First, at, before, noted}
use Rattle.history_laws.specs.Transmissions.{FirstSending, firsts, sent_last}
use Rattle.history_laws.specs.Justified.{CopiedNote, Legal}
use Rattle.history_laws.specs.Progress.{Reply, numbers, Fetches, Gives, progress}
use Rattle.history_laws.specs.Exchanges.{Begun, begun, ask_behind, heard_for, replies}
use Rattle.history_laws.proofs.CallerLemmas.{all-listed, all-more, at-below, at-keeps, begun-keeps, begun-opening, behind-at, heard-stays, carried-below, eqb-same, find-some, follows-at, IsFirst-below, IsListed, length-before, sent-for}
use Rattle.exchange_model.specs.declared.kept.Exchange.{Exchange}
use Rattle.exchange_model.specs.declared.kept.Piece.{Piece}
use Rattle.exchange_model.specs.Reads.{got_for, got_in, PiecesIn}
use Rattle.exchange_model.specs.declared.kept.Work.TheVariants as W
use Rattle.exchange_model.specs.Steps.{first_work}
use Rattle.exchange_model.specs.Matters.{numbers_of, progress_with}
use Rattle.exchange_model.specs.Hearing.{got_by}

pub all-every : {X : Type 0} (P : X → Type 0) → ((x : X) → P x) → (xs : List X) → AllByRecursion P xs
all-every P f [] = tt
all-every P f (x ∷ xs) = (f x, all-every P f xs)

-- Where the replies are as before, so are the pieces.
pub got-same : (l n : List Noted) (o : ℕ) → begun n o ≡ begun l o → heard_for n o ≡ heard_for l o → got_in n o ≡ got_in l o
got-same l n o begins same = ap (λ (b : Option Begun). got_for b (heard_for n o)) begins ∙ ap (got_for (begun l o)) same

pub got-stays : (x : Noted) (l : List Noted) (o : ℕ) (b : Begun) → begun l o ≡ Some b → replies (x ∷ l) o ≡ replies l o → got_in (x ∷ l) o ≡ got_in l o
got-stays x l o b opened same = got-same l (x ∷ l) o (begun-keeps x l o b opened ∙ sym opened) (heard-stays x l o b opened same)

-- It goes back to the ask that it went back to.
pub behind-same : (l n : List Noted) (o : ℕ) (b : Begun) → begun l o ≡ Some b → ((x : Noted) → at l o ≡ Some x → at n o ≡ Some x)
    → ask_behind n o ≡ ask_behind l o
behind-same l n o b opened still =
    let h = begun-opening l o b opened in
    behind-at n o _ (still _ h.2) ∙ sym (behind-at l o _ h.2)

pub behind-stays : (x : Noted) (l : List Noted) (o : ℕ) (b : Begun) → begun l o ≡ Some b → ask_behind (x ∷ l) o ≡ ask_behind l o
behind-stays x l o b opened = behind-same l (x ∷ l) o b opened (λ y is. at-keeps x l o y is)

pub below-more : (l n : List Noted) (xs : List Piece) → length l ≤ length n → AllByRecursion (λ (x : Piece). x.opening < length l) xs
    → AllByRecursion (λ (x : Piece). x.opening < length n) xs
below-more l n xs le = all-more (λ (x : Piece). x.opening < length l) (λ (x : Piece). x.opening < length n) (λ x h. omega (arith, h, le)) xs

-- So they stay what is kept of exchanges that got nothing.
pub pieces-stay : (l n : List Noted) (es : List Exchange) (xs : List Piece) → length l ≤ length n
    → AllByRecursion (λ (e : Exchange). got_in n e.opening ≡ got_in l e.opening) es → PiecesIn l es xs → PiecesIn n es xs
pieces-stay l n es xs le same h = record { fetched = each es same h.fetched; below = below-more l n xs le h.below }
  where
    each : (es : List Exchange) → AllByRecursion (λ (e : Exchange). got_in n e.opening ≡ got_in l e.opening) es
        → AllByRecursion (λ (e : Exchange). numbers (got_in l e.opening) ≡ numbers_of e.opening xs) es
        → AllByRecursion (λ (e : Exchange). numbers (got_in n e.opening) ≡ numbers_of e.opening xs) es
    each [] s h = tt
    each (e ∷ es) s h = (ap numbers s.0 ∙ h.0, each es s.1 h.1)

-- An exchange that is opened by an entry to come has none.
pub none-of-new : (o : ℕ) (xs : List Piece) → AllByRecursion (λ (x : Piece). x.opening < o) xs → numbers_of o xs ≡ []
none-of-new o [] h = refl
none-of-new o (x ∷ xs) h = rw (apart x.opening o h.0) (none-of-new o xs h.1)
  where
    apart : (a b : ℕ) → a < b → eqb a b ≡ false
    apart a b lt = by (eqb a b) refl
      where
        by : (c : Bool) → eqb a b ≡ c → c ≡ false
        by false e = refl
        by true e = let same = eqb-same a b e in absurd (omega (arith, lt, same))

-- So they are where each exchange got no reply.
pub pieces-quiet : (x : Noted) (l : List Noted) (es : List Exchange) (xs : List Piece) (Q : Exchange → Type 0)
    → ((e : Exchange) → Q e → (b : Begun) × (begun l e.opening ≡ Some b)) → ((e : Exchange) → Q e → replies (x ∷ l) e.opening ≡ replies l e.opening)
    → AllByRecursion Q es → PiecesIn l es xs → PiecesIn (x ∷ l) es xs
pieces-quiet x l es xs Q opened quiet all h =
    pieces-stay l (x ∷ l) es xs (omega arith)
    (all-more Q (λ (e : Exchange). got_in (x ∷ l) e.opening ≡ got_in l e.opening)
    (λ e q. let b = opened e q in got-stays x l e.opening b.0 b.1 (quiet e q)) es all) h

-- An exchange that is just opened: nothing was sent for it, and it has fetched nothing.

unsent-by : (l : List Noted) (f : FirstSending) → Legal l → IsListed l f → f.opening < length l
unsent-by l f legal (inl first) =
    let it = sent-for l f.moment f.opening f.number f.peer f.message legal first in
    let below = IsFirst-below l f.moment f.opening f.number f.peer f.message first in
    let after = it.after in
    omega (arith, after, below)
unsent-by l f legal (inr copy) = elim copy.own [
  | inl own ↦ let below = at-below l f.number _ copy.stands in let same = own.1 in omega (arith, below, same)
  | inr first ↦
      let stands = subst (λ (note : Note). at l f.number ≡ Some (noted f.moment (Carries copy.old copy.mark (D.Sent f.peer copy.bytes copy.timeout)) note)) first copy.stands in
      let below = at-below l f.number _ stands in
      let size = length-before l f.number _ stands in
      let asked = asked-before copy.mark f.moment copy.bytes copy.timeout (follows-at l f.number _ legal stands).2 in
      omega (arith, below, size, asked)
]
  where
    -- a copy of a message that was sent for an ask stands behind the copy of that
    asked-before : (mark : Mark) (t : ℕ) (bytes : List ℕ) (w : Option ℕ) → CopiedNote (before l f.number) t mark (D.Sent f.peer bytes w) (First f.opening f.message)
        → f.opening < length (before l f.number)
    asked-before D.Past t bytes w h = absurd h
    asked-before D.Ground t bytes w h = carried-below (before l f.number) f.opening h.1.exchange h.1.asked

pub unsent-new : (l : List Noted) → Legal l → sent_last l (length l) ≡ None
unsent-new l legal = by (find (λ (f : FirstSending). eqb f.opening (length l)) (firsts l)) refl
  where
    by : (v : Option FirstSending) → find (λ (f : FirstSending). eqb f.opening (length l)) (firsts l) ≡ v → option_map (λ (f : FirstSending). f.number) v ≡ None
    by None e = refl
    by (Some f) e =
        let it = find-some (λ (g : FirstSending). eqb g.opening (length l)) (firsts l) f e in
        let here = eqb-same f.opening (length l) it.1 in
        let less = unsent-by l f legal (all-listed l f it.0) in
        absurd (omega (arith, here, less))

got-first : (q : CoapRequest) → got_by (progress q []) ≡ []
got-first q = by (eqb q.method 1)
  where
    by : (b : Bool) → got_by (cond b (Fetches 0 no_pieces []) (Gives (begun_as (length q.body) 6) [])) ≡ []
    by true = refl
    by false = refl

pub got-new : (l : List Noted) (o t : ℕ) (q : CoapRequest) → begun l o ≡ Some (record { since = t; request = q }) → heard_for l o ≡ [] → got_in l o ≡ []
got-new l o t q opened none = ap (λ (b : Option Begun). got_for b (heard_for l o)) opened ∙ (ap (λ (rs : List Reply). got_by (progress q rs)) none ∙ got-first q)

pub first-progress : (l : List Noted) (o t : ℕ) (q : CoapRequest)
    → begun l o ≡ Some (record { since = t; request = q }) → heard_for l o ≡ [] → progress q (heard_for l o) ≡ progress_with (first_work q) (got_in l o)
first-progress l o t q opened none =
    ap (progress q) none ∙ (first (eqb q.method 1) ∙ sym (ap (progress_with (first_work q)) (got-new l o t q opened none)))
  where
    first : (b : Bool) → cond b (Fetches 0 no_pieces []) (Gives (begun_as (length q.body) 6) [])
        ≡ progress_with (cond b (W.Fetches 0 no_pieces) (W.Gives (begun_as (length q.body) 6))) []
    first true = refl
    first false = refl
