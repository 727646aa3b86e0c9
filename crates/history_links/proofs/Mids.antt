-- The next message ID is apart from those that were used lately (RFC 7252 section 4.4).
use Rattle.std.proofs.Common.{◌≡◌, ℕ, ◌<◌, ◌≤◌, ◌+◌, ◌%◌, Bool, true, false, cond, eqb, ltb, inl, inr, List, [], ◌∷◌, length, Option, Some, refl, sym, ap, subst, ◌∙◌, arith}
use Rattle.std.specs.Prelude.{filter, count_by, ◌&&◌, ◌||◌}
use Rattle.std.specs.List.{AllByRecursion, find, list_any}
use Rattle.std.proofs.lemmas.Bool.{ltb-false, le-ltb}
use Rattle.std.proofs.lemmas.List.Sums.{length-filter}
use Rattle.std.proofs.lemmas.Bool.Decides.{eqb_tells}
use Rattle.limits.specs.declared.TheConstants.{MESSAGE_ID_LIFETIME}
use Rattle.uri_map.specs.declared.peer.Peer.{Peer}
use Rattle.uri_map.specs.Peers.{same_peer}
use Rattle.journal_book.specs.Entries.{Deed, Sends, Carries}
use Rattle.journal_book.specs.Entries as D
use Rattle.history_laws.specs.Readings.{Noted, Note, First, newest, Bygone}
use Rattle.history_laws.specs.Transmissions.{FirstSending, firsts_by, firsts, last_sent, is_recent, bears_mid, mids_used}
use Rattle.history_laws.specs.Justified.{Legal}
use Rattle.history_laws.proofs.CallerLemmas.{all-more}
use Rattle.history_links.specs.Agrees.{recent_to, HasMid, CountUp, IsLast}

-- first sendings are later, the newer they are

abbrev pub Falling : List FirstSending → Type 0
Falling [] = Unit {0}
Falling (f ∷ fs) = AllByRecursion (λ (g : FirstSending). g.moment ≤ f.moment) fs × Falling fs

early-more : (s t : ℕ) (fs : List FirstSending) → s ≤ t → AllByRecursion (λ (g : FirstSending). g.moment ≤ s) fs → AllByRecursion (λ (g : FirstSending). g.moment ≤ t) fs
early-more s t fs later a = all-more (λ (g : FirstSending). g.moment ≤ s) (λ (g : FirstSending). g.moment ≤ t) (λ g h. omega (arith, h, later)) fs a

firsts-by-early : (n t : ℕ) (d : Deed) (note : Note) (fs : List FirstSending) → AllByRecursion (λ (g : FirstSending). g.moment ≤ t) fs
    → AllByRecursion (λ (g : FirstSending). g.moment ≤ t) (firsts_by n t d note fs)
firsts-by-early n t (Sends p b w) (First o m) fs a = (omega arith, a)
firsts-by-early n t (Sends p b w) note fs a = a
firsts-by-early n t (Carries k mark (D.Sent p b w)) (Bygone m) fs a = (omega arith, a)
firsts-by-early n t (Carries k mark (D.Sent p b w)) (First o m) fs a = (omega arith, a)
firsts-by-early n t (Carries k mark (D.Sent p b w)) note fs a = a
firsts-by-early n t (Carries k mark done) note fs a = a
firsts-by-early n t d note fs a = a

firsts-by-falling : (n t : ℕ) (d : Deed) (note : Note) (fs : List FirstSending) → AllByRecursion (λ (g : FirstSending). g.moment ≤ t) fs → Falling fs
    → Falling (firsts_by n t d note fs)
firsts-by-falling n t (Sends p b w) (First o m) fs a f = (a, f)
firsts-by-falling n t (Sends p b w) note fs a f = f
firsts-by-falling n t (Carries k mark (D.Sent p b w)) (Bygone m) fs a f = (a, f)
firsts-by-falling n t (Carries k mark (D.Sent p b w)) (First o m) fs a f = (a, f)
firsts-by-falling n t (Carries k mark (D.Sent p b w)) note fs a f = f
firsts-by-falling n t (Carries k mark done) note fs a f = f
firsts-by-falling n t d note fs a f = f

pub firsts-early : (l : List Noted) → Legal l → AllByRecursion (λ (g : FirstSending). g.moment ≤ newest l) (firsts l)
firsts-early [] legal = tt
firsts-early (x ∷ older) legal =
    firsts-by-early (length older) x.written.moment x.written.deed x.note (firsts older)
    (early-more (newest older) x.written.moment (firsts older) legal.1 (firsts-early older legal.0))

pub firsts-falling : (l : List Noted) → Legal l → Falling (firsts l)
firsts-falling [] legal = tt
firsts-falling (x ∷ older) legal =
    firsts-by-falling (length older) x.written.moment x.written.deed x.note (firsts older)
    (early-more (newest older) x.written.moment (firsts older) legal.1 (firsts-early older legal.0)) (firsts-falling older legal.0)

-- among those to one peer

any-among : {X : Type 0} (a c : X → Bool) (xs : List X) → list_any (λ (x : X). a x && c x) xs ≡ list_any c (filter a xs)
any-among a c [] = refl
any-among {X = X} a c (x ∷ xs) = by (a x) (any-among a c xs)
  where
    by : (v : Bool) → list_any (λ (x : X). a x && c x) xs ≡ list_any c (filter a xs)
        → ((v && c x) || list_any (λ (x : X). a x && c x) xs) ≡ list_any c (cond v (x ∷ filter a xs) (filter a xs))
    by true h = ap (λ (y : Bool). c x || y) h
    by false h = h

pub count-cons : {X : Type 0} (p : X → Bool) (x : X) (xs : List X) → count_by p (x ∷ xs) ≡ cond (p x) (1 + count_by p xs) (count_by p xs)
count-cons {X = X} p x xs = sym (length-filter p (x ∷ xs)) ∙ by (p x) (length-filter p xs)
  where
    by : (b : Bool) → length (filter p xs) ≡ count_by p xs → length (cond b (x ∷ filter p xs) (filter p xs)) ≡ cond b (1 + count_by p xs) (count_by p xs)
    by true h = omega (arith, h)
    by false h = h

-- A number that runs ahead of the IDs is none of those that are in use.

abbrev Ahead : ℕ → ℕ → List FirstSending → Type 0
Ahead d mid [] = Unit {0}
Ahead d mid (g ∷ gs) = mid ≡ (g.message.mid + 1 + d) % 65536

ahead-on : (d mid : ℕ) (g : FirstSending) (gs : List FirstSending) → mid ≡ (g.message.mid + 1 + d) % 65536 → HasMid g.message.mid gs → Ahead (d + 1) mid gs
ahead-on d mid g [] e h = tt
ahead-on d mid g (k ∷ gs) e h = omega (arith, e, h)

other-mid : (m mid d : ℕ) → mid ≡ (m + 1 + d) % 65536 → m < 65536 → d + 1 < 65536 → eqb m mid ≡ false
other-mid m mid d e small few = elim (eqb_tells m mid) [ inl w ↦ let same = w.1 in absurd (omega (arith, e, small, few, same)) | inr w ↦ w.0 ]

apart : (d mid : ℕ) (gs : List FirstSending) → CountUp gs → Ahead d mid gs → d + length gs < 65535 → list_any (λ (g : FirstSending). eqb g.message.mid mid) gs ≡ false
apart d mid [] c e few = refl
apart d mid (g ∷ gs) c e few =
    rw (other-mid g.message.mid mid d e c.0 (omega (arith, few)), apart (d + 1) mid gs c.2 (ahead-on d mid g gs e c.1) (omega (arith, few))) refl

-- The next ID is borne by none of the messages that went to the peer in 494 seconds.
pub mid-apart : (l : List Noted) (t : ℕ) (p : Peer) (mid : ℕ) → CountUp (recent_to l t p) → HasMid mid (recent_to l t p) → mids_used l t p < 32768
    → bears_mid l t p mid ≡ false
mid-apart l t p mid c h few =
    any-among (is_recent t p) (λ (f : FirstSending). eqb f.message.mid mid) (firsts l)
    ∙ apart 0 mid (recent_to l t p) c (ahead (recent_to l t p) h) (let same = length-filter (is_recent t p) (firsts l) in omega (arith, few, same))
  where
    ahead : (gs : List FirstSending) → HasMid mid gs → Ahead 0 mid gs
    ahead [] h = tt
    ahead (g ∷ gs) h = omega (arith, h)

-- Where the newest isn't in use any more, none is.

over-by : (t s u : ℕ) → ltb t (s + MESSAGE_ID_LIFETIME) ≡ false → u ≤ s → ltb t (u + MESSAGE_ID_LIFETIME) ≡ false
over-by t s u over older = le-ltb t (u + MESSAGE_ID_LIFETIME) (let h = ltb-false t (s + MESSAGE_ID_LIFETIME) over in omega (arith, h, older))

and-false : (a : Bool) → (a && false) ≡ false
and-false true = refl
and-false false = refl

pub none-recent : (t : ℕ) (p : Peer) (s : ℕ) (gs : List FirstSending) → ltb t (s + MESSAGE_ID_LIFETIME) ≡ false → AllByRecursion (λ (g : FirstSending). g.moment ≤ s) gs
    → filter (is_recent t p) gs ≡ []
none-recent t p s [] over a = refl
none-recent t p s (g ∷ gs) over a = rw (over-by t s g.moment over a.0, and-false (same_peer g.peer p)) (none-recent t p s gs over a.1)

-- What may follow the last message has the next ID.
next-by : (t : ℕ) (p : Peer) (last : Option ℕ) (mid : ℕ) → ((m : ℕ) → last ≡ Some m → mid ≡ (m + 1) % 65536) → (fs : List FirstSending) → Falling fs
    → IsLast t p last (find (λ (f : FirstSending). same_peer f.peer p) fs) → HasMid mid (filter (is_recent t p) fs)
next-by t p last mid next [] f h = tt
next-by t p last mid next (g ∷ fs) f h = by (same_peer g.peer p) refl (ltb t (g.moment + MESSAGE_ID_LIFETIME)) refl (next-by t p last mid next fs f.1)
  where
    by : (a : Bool) → same_peer g.peer p ≡ a → (b : Bool) → ltb t (g.moment + MESSAGE_ID_LIFETIME) ≡ b
        → (IsLast t p last (find (λ (f : FirstSending). same_peer f.peer p) fs) → HasMid mid (filter (is_recent t p) fs)) → HasMid mid (filter (is_recent t p) (g ∷ fs))
    by true e true k ih = rw (e, k) (next g.message.mid (rw (e) at h (rw (e, k) refl)))
    by true e false k ih = rw (e, k) (subst (HasMid mid) (sym (none-recent t p g.moment fs k f.0)) tt)
    by false e b k ih = rw (e) (ih (rw (e) at h))

pub has-next : (l : List Noted) (t : ℕ) (p : Peer) (last : Option ℕ) (mid : ℕ) → Legal l → IsLast t p last (last_sent l p)
    → ((m : ℕ) → last ≡ Some m → mid ≡ (m + 1) % 65536) → HasMid mid (recent_to l t p)
has-next l t p last mid legal h next = next-by t p last mid next (firsts l) (firsts-falling l legal) h
