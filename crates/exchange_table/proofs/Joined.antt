-- What an ask joins is found by the digest of what it reads.
use Rattle.std.proofs.Common.{◌≡◌, ℕ, ◌<◌, Bool, true, false, cond, ◌&&◌, eqb, List, [], ◌∷◌, map, Option, Some, None, inl, inr, refl, sym, ap, subst, ◌∙◌}
use Rattle.std.specs.Prelude.{filter, option_and_then}
use Rattle.std.specs.List.{AllByRecursion, find}
use Rattle.std.specs.Option.{option_map_or}
use Rattle.std.proofs.lemmas.Bool.{cases_Bool, false≢true}
use Rattle.history_laws.proofs.CallerLemmas.{all-filter, all-more}
use Rattle.cache_key.specs.Digests.{digests_of}
use Rattle.cache_key.specs.Keys.{CacheKey}
use Rattle.ask_model.specs.Requests.{CoapRequest, Sense, Requests, Refuses}
use Rattle.ask_model.specs.Sharing.{asked_key, asks_same, is_get, key_read}
use Rattle.ask_model.proofs.CallerLemmas.{same-key}
use Rattle.journal_book.specs.Entries.{Written}
use Rattle.exchange_model.specs.declared.kept.Exchange.{Exchange}
use Rattle.exchange_model.specs.Calls.{is_joined}
use Rattle.exchange_model.specs.Matters.{IsDigested, asked_in}
use Rattle.exchange_table.specs.declared.marks.Mark.{Mark}
use Rattle.exchange_table.specs.Joining.{is_joined_by, is_joined_marked}
use Rattle.exchange_table.specs.Marks.{AreMarked, has_digest, key_in, mark_by}
use Rattle.exchange_table.specs.Places.{RiseBy}
use Rattle.exchange_table.specs.Tables.{is_opened_at, opening_of}
use Rattle.exchange_table.proofs.Marking.{filter-mapped}
use Rattle.exchange_table.proofs.Searching.{all-of, below-other, both-hold, none-some, same-as, some-is}

-- each is found by its opening
pub opened-found : (es : List Exchange) → RiseBy opening_of es → AllByRecursion (λ (e : Exchange). find (is_opened_at e.opening) es ≡ Some e) es
opened-found [] r = tt
opened-found (e ∷ es) r = (
  rw (same-as e.opening e.opening refl) refl,
  all-more (λ (f : Exchange). (e.opening < f.opening) × (find (is_opened_at f.opening) es ≡ Some f)) (λ (f : Exchange). find (is_opened_at f.opening) (e ∷ es) ≡ Some f)
      (λ f h. rw (below-other e.opening f.opening h.0) h.1) es
      (both-hold (λ (f : Exchange). e.opening < f.opening) (λ (f : Exchange). find (is_opened_at f.opening) es ≡ Some f) es r.0 (opened-found es r.1)),
)

-- what is found among those that pass another test too
find-among : (p g : Exchange → Bool) (es : List Exchange) → AllByRecursion (λ (e : Exchange). p e ≡ true → g e ≡ true) es → find p es ≡ find p (filter g es)
find-among p g [] a = refl
find-among p g (e ∷ es) a = by (p e) (g e) refl refl (find-among p g es a.1)
  where
    by : (b c : Bool) → p e ≡ b → g e ≡ c → find p es ≡ find p (filter g es)
        → cond b (Some e) (find p es) ≡ find p (cond c (e ∷ filter g es) (filter g es))
    by true true is so h = rw (is) refl
    by true false is so h = absurd (false≢true (sym so ∙ a.0 is))
    by false true is so h = rw (is) h
    by false false is so h = h

module _ (ws : List Written) (s : Sense) (es : List Exchange) where
  abbrev p : Exchange → Bool
  p = is_joined_by ws s

  abbrev at : Mark → Option Exchange
  at m = find (is_opened_at m.opening) es

  abbrev Stands : Exchange → Type 0
  Stands e = find (is_opened_at e.opening) es ≡ Some e

  -- by their marks
  by-marks : (fs : List Exchange) → AllByRecursion Stands fs → find p fs ≡ option_and_then at (find (is_joined_marked ws s es) (map (mark_by key_in) fs))
  by-marks [] a = refl
  by-marks (f ∷ fs) a = subst (λ (b : Bool). find p (f ∷ fs) ≡ option_and_then at (cond b (Some (mark_by key_in f)) (find (is_joined_marked ws s es) (map (mark_by key_in) fs))))
      (sym (ap (λ (v : Option Exchange). option_map_or p v false) a.0)) (by (p f) (by-marks fs a.1))
    where
      by : (b : Bool) → find p fs ≡ option_and_then at (find (is_joined_marked ws s es) (map (mark_by key_in) fs))
          → cond b (Some f) (find p fs) ≡ option_and_then at (cond b (Some (mark_by key_in f)) (find (is_joined_marked ws s es) (map (mark_by key_in) fs)))
      by true h = sym a.0
      by false h = h

  -- Only those of the digest are joined.
  abbrev IsOf : ℕ → Exchange → Type 0
  IsOf d e = p e ≡ true → eqb (key_in e.digests) d ≡ true

  pub joined-marked : (d : ℕ) (marks : List Mark) → RiseBy opening_of es → AreMarked key_in es marks → AllByRecursion (IsOf d) es
      → find p es ≡ option_and_then at (find (is_joined_marked ws s es) (filter (has_digest d) marks))
  joined-marked d marks rise grouped of =
      find-among p (λ (e : Exchange). eqb (key_in e.digests) d) es of
      ∙ by-marks (filter (λ (e : Exchange). eqb (key_in e.digests) d) es) (all-filter Stands (λ (e : Exchange). eqb (key_in e.digests) d) es (opened-found es rise))
      ∙ ap (λ (ms : List Mark). option_and_then at (find (is_joined_marked ws s es) ms))
      (sym (filter-mapped (has_digest d) (λ (e : Exchange). eqb (key_in e.digests) d) (mark_by key_in) es (all-of {P = λ (e : Exchange). has_digest d (mark_by key_in e) ≡ eqb (key_in e.digests) d} es (λ e. refl))) ∙ sym (grouped.same d))

-- what a GET joins was opened for its key
and-second : (b c : Bool) → (b && c) ≡ true → c ≡ true
and-second true c h = h
and-second false c h = absurd (false≢true h)

and-first : (b c : Bool) → (b && c) ≡ true → b ≡ true
and-first true c h = refl
and-first false c h = absurd (false≢true h)

same-of : (ws : List Written) (q : CoapRequest) (e : Exchange) → is_joined ws q e ≡ true → (v : Option CoapRequest) → asked_in ws e.ask ≡ v
    → (r : CoapRequest) × (asked_in ws e.ask ≡ Some r) × (asks_same q r ≡ true)
same-of ws q e h None is = absurd (false≢true (sym (ap (λ (v : Option CoapRequest). option_map_or (asks_same q) v false) is) ∙ and-second e.current _ h))
same-of ws q e h (Some r) is = (r, is, sym (ap (λ (v : Option CoapRequest). option_map_or (asks_same q) v false) is) ∙ and-second e.current _ h)

get-read : (q : CoapRequest) (key : CacheKey) (b : Bool) → cond b (Some (asked_key q)) None ≡ Some key → asked_key q ≡ key
get-read q key true is = some-is (asked_key q) key is
get-read q key false is = absurd (none-some key is)

pub of-digest : (ws : List Written) (s : Sense) (key : CacheKey) (es : List Exchange) → key_read s ≡ Some key → AllByRecursion (IsDigested ws) es
    → AllByRecursion (λ (e : Exchange). is_joined_by ws s e ≡ true → eqb (key_in e.digests) (key_in (digests_of key)) ≡ true) es
of-digest ws (Refuses cause status) key es is a = absurd (none-some key is)
of-digest ws (Requests q) key es is a =
    all-more (IsDigested ws) (λ (e : Exchange). is_joined ws q e ≡ true → eqb (key_in e.digests) (key_in (digests_of key)) ≡ true) one es a
  where
    one : (e : Exchange) → IsDigested ws e → is_joined ws q e ≡ true → eqb (key_in e.digests) (key_in (digests_of key)) ≡ true
    one e digested h =
        let r = same-of ws q e h (asked_in ws e.ask) refl in
        let same : asked_key r.0 ≡ key = sym (same-key q r.0 r.2) ∙ get-read q key (is_get q) is in
        same-as (key_in e.digests) (key_in (digests_of key))
        (ap key_in (sym (digested r.0 r.1)) ∙ ap (λ (k : CacheKey). key_in (digests_of k)) same)

-- all of it
pub joined-by : (ws : List Written) (s : Sense) (es : List Exchange) (key : CacheKey) (d : ℕ) (marks alike : List Mark) (v : Option Mark)
    → RiseBy opening_of es → AreMarked key_in es marks → AllByRecursion (IsDigested ws) es
    → key_read s ≡ Some key → d ≡ (key_in (digests_of key)) → alike ≡ filter (has_digest d) marks → v ≡ find (is_joined_marked ws s es) alike
    → find (is_joined_by ws s) es ≡ option_and_then (λ (m : Mark). find (is_opened_at m.opening) es) v
joined-by ws s es key d marks alike v rise grouped digested is same are found =
    joined-marked ws s es d marks rise grouped
    (subst (λ (k : ℕ). AllByRecursion (λ (e : Exchange). is_joined_by ws s e ≡ true → eqb (key_in e.digests) k ≡ true) es) (sym same) (of-digest ws s key es is digested))
    ∙ sym (ap (option_and_then (λ (m : Mark). find (is_opened_at m.opening) es)) (found ∙ ap (find (is_joined_marked ws s es)) are))

-- what reads nothing joins nothing
pub unread : (ws : List Written) (s : Sense) (es : List Exchange) → key_read s ≡ None → find (is_joined_by ws s) es ≡ None
unread ws s [] none = refl
unread ws s (e ∷ es) none = rw (other s none) (unread ws s es none)
  where
    no-get : (q : CoapRequest) (b : Bool) → cond b (Some (asked_key q)) None ≡ None → b ≡ false
    no-get q true is = absurd (none-some (asked_key q) (sym is))
    no-get q false is = refl

    nothing : (q : CoapRequest) (v : Option CoapRequest) → is_get q ≡ false → option_map_or (asks_same q) v false ≡ false
    nothing q None is = refl
    nothing q (Some r) is = elim (cases_Bool (asks_same q r)) [ inl h ↦ absurd (false≢true (sym is ∙ and-first (is_get q) _ h)) | inr h ↦ h ]

    and-false : (b : Bool) → (b && false) ≡ false
    and-false true = refl
    and-false false = refl

    other : (s : Sense) → key_read s ≡ None → is_joined_by ws s e ≡ false
    other (Refuses cause status) is = refl
    other (Requests q) is = ap (λ (b : Bool). e.current && b) (nothing q (asked_in ws e.ask) (no-get q (is_get q) is)) ∙ and-false e.current
