-- What is asked on a connection, in parts: texts that are read, and entries that ask.
use Rattle.std.proofs.Common.{◌≡◌, ◌≢◌, inl, inr, ℕ, Bool, true, false, cond, not, List, [], ◌∷◌, ◌++◌, Option, Some, None, refl, sym, ap, ◌∙◌, subst, eqb-true, eq-eqb}
use Rattle.std.specs.Prelude.{◌==◌}
use Rattle.std.proofs.lemmas.Bool.{ne_eqb, both_ways}
use Rattle.std.proofs.lemmas.List.{append-nil, append_assoc}
use Rattle.history_laws.proofs.CallerLemmas.{none-some, some-is}
use Rattle.http_edge.specs.Reading.{ReadsFirst, Item, AllOpen, closes}
use Rattle.http_edge.proofs.Readings.{first_on}
use Rattle.ask_model.specs.Views.{Ask}
use Rattle.journal_book.specs.Entries.{Deed, Opens, Asks, Sends, Hears, Passes, Answers, Shuts, Seals, Carries, Written}
use Rattle.gateway_model.specs.Acts.{Served}
use Rattle.gateway_model.specs.Asking.{closes_last, asked_by, asked_on, IsLeft, IsOver, AreAsked, AsksFirst}
use Rattle.gateway_model.specs.Unasked.{Unasked, unasked_at, no_bytes, without, changed_at}
use Rattle.gateway_model.proofs.Moving.{IsInner, AreInner}
use Rattle.gateway_model.proofs.Standing.{own-gone}

-- what stands at a connection, after its own change or another's

some-none : (x : Unasked) → Some x ≡ None → ⊥
some-none x e = cc

pub own-after : (c : ℕ) (f : Unasked → Unasked) (xs : List Unasked) (x : Unasked)
    → ((y : Unasked) → y.number ≡ c → (f y).number ≡ c) → unasked_at c xs ≡ Some x
    → unasked_at c (changed_at c f xs) ≡ Some (f x)
own-after c f [] x h e = absurd (none-some x e)
own-after c f (y ∷ ys) x h e = by (y.number == c) refl e (own-after c f ys x h)
  where
    by : (b : Bool) → (y.number == c) ≡ b → cond b (Some y) (unasked_at c ys) ≡ Some x
        → (unasked_at c ys ≡ Some x → unasked_at c (changed_at c f ys) ≡ Some (f x))
        → unasked_at c (cond b (f y) y ∷ changed_at c f ys) ≡ Some (f x)
    by true t e ih =
        let n : y.number ≡ c = eqb-true y.number c t in
        let m : ((f y).number == c) ≡ true = eq-eqb (f y).number c (h y n) in
        rw m (ap (λ (z : Unasked). Some (f z)) (some-is y x e))
    by false t e ih = rw t (ih e)

pub own-none : (c : ℕ) (f : Unasked → Unasked) (xs : List Unasked)
    → ((y : Unasked) → y.number ≡ c → (f y).number ≡ c) → unasked_at c xs ≡ None
    → unasked_at c (changed_at c f xs) ≡ None
own-none c f [] h e = refl
own-none c f (y ∷ ys) h e = by (y.number == c) refl e (own-none c f ys h)
  where
    by : (b : Bool) → (y.number == c) ≡ b → cond b (Some y) (unasked_at c ys) ≡ None
        → (unasked_at c ys ≡ None → unasked_at c (changed_at c f ys) ≡ None)
        → unasked_at c (cond b (f y) y ∷ changed_at c f ys) ≡ None
    by true t e ih = absurd (some-none y e)
    by false t e ih = rw t (ih e)

pub left-same : (c d : ℕ) (xs : List Unasked) → d ≢ c → unasked_at d (without c xs) ≡ unasked_at d xs
left-same c d [] ne = refl
left-same c d (x ∷ xs) ne = by (x.number == c) refl (left-same c d xs ne)
  where
    by : (b : Bool) → (x.number == c) ≡ b → unasked_at d (without c xs) ≡ unasked_at d xs
        → unasked_at d (cond (not b) (x ∷ without c xs) (without c xs)) ≡ cond (x.number == d) (Some x) (unasked_at d xs)
    by true t ih =
        let p : (x.number == d) ≡ false = ne_eqb x.number d (λ q. ne (sym q ∙ eqb-true x.number c t)) in
        rw p ih
    by false t ih = ap (λ (o : Option Unasked). cond (x.number == d) (Some x) o) ih

pub none-left : (c : ℕ) (xs : List Unasked) → unasked_at c (without c xs) ≡ None
none-left c xs = by (unasked_at c (without c xs)) refl
  where
    by : (o : Option Unasked) → unasked_at c (without c xs) ≡ o → unasked_at c (without c xs) ≡ None
    by None e = e
    by (Some y) e = absurd (own-gone c xs y e)

pub added-same : (c d : ℕ) (xs : List Unasked) (y : Unasked) → unasked_at d xs ≡ Some y
    → unasked_at d (xs ++ no_bytes c ∷ []) ≡ Some y
added-same c d [] y e = absurd (none-some y e)
added-same c d (x ∷ xs) y e = by (x.number == d) e (added-same c d xs y)
  where
    by : (b : Bool) → cond b (Some x) (unasked_at d xs) ≡ Some y
        → (unasked_at d xs ≡ Some y → unasked_at d (xs ++ no_bytes c ∷ []) ≡ Some y)
        → cond b (Some x) (unasked_at d (xs ++ no_bytes c ∷ [])) ≡ Some y
    by true e ih = e
    by false e ih = ih e

pub added-none : (c d : ℕ) (xs : List Unasked) → unasked_at d xs ≡ None
    → unasked_at d (xs ++ no_bytes c ∷ []) ≡ cond (c == d) (Some (no_bytes c)) None
added-none c d [] e = refl
added-none c d (x ∷ xs) e = by (x.number == d) e (added-none c d xs)
  where
    by : (b : Bool) → cond b (Some x) (unasked_at d xs) ≡ None
        → (unasked_at d xs ≡ None → unasked_at d (xs ++ no_bytes c ∷ []) ≡ cond (c == d) (Some (no_bytes c)) None)
        → cond b (Some x) (unasked_at d (xs ++ no_bytes c ∷ [])) ≡ cond (c == d) (Some (no_bytes c)) None
    by true e ih = absurd (some-none x e)
    by false e ih = ih e

-- what is read of a text

-- is read of a longer one.
pub reads-more : (text rest more : List ℕ) (items : List Item) → ReadsFirst text items rest
    → ReadsFirst (text ++ more) items (rest ++ more)
reads-more text rest more [] r = ap (λ (t : List ℕ). t ++ more) r
reads-more text rest more (i ∷ items) r =
    (r.0 ++ more, first_on text i r.0 more r.1, reads-more r.0 rest more items r.2, r.3)

-- What is read of the rest is read of the whole text.
pub reads-on : (text rest end : List ℕ) (xs ys : List Item) → ReadsFirst text xs rest → AllOpen xs → ReadsFirst rest ys end
    → ReadsFirst text (xs ++ ys) end
reads-on text rest end [] ys r goes next = subst (λ (t : List ℕ). ReadsFirst t ys end) r next
reads-on text rest end (i ∷ xs) ys r goes next =
    (r.0, r.1, reads-on r.0 rest end xs ys r.2 goes.1 next, λ last. absurd (both_ways (closes i) goes.0 last))

pub open-both : (xs ys : List Item) → AllOpen xs → AllOpen ys → AllOpen (xs ++ ys)
open-both [] ys a b = b
open-both (x ∷ xs) ys a b = (a.0, open-both xs ys a.1 b)

-- The last of all is the last of what comes then.
pub last-then : (xs ys : List Item) → closes_last ys ≡ true → closes_last (xs ++ ys) ≡ true
last-then [] ys e = e
last-then (x ∷ []) [] e = absurd cc
last-then (x ∷ []) (y ∷ ys) e = e
last-then (x ∷ z ∷ xs) ys e = last-then (z ∷ xs) ys e

module _ (P : Ask → Type 0) where
  pub asked-of-both : (xs ys : List Item) (ks bs : List Ask) → AreAsked P xs ks → AreAsked P ys bs
      → AreAsked P (xs ++ ys) (ks ++ bs)
  asked-of-both [] ys [] bs v w = w
  asked-of-both (x ∷ xs) ys (k ∷ ks) bs v w = (v.0, v.1, asked-of-both xs ys ks bs v.2 w)
  asked-of-both [] ys (k ∷ ks) bs v w = absurd v
  asked-of-both (x ∷ xs) ys [] bs v w = absurd v

-- what entries ask

pub asked-both : (c : ℕ) (xs ys : List Written) → asked_on c (xs ++ ys) ≡ asked_on c xs ++ asked_on c ys
asked-both c [] ys = refl
asked-both c (x ∷ xs) ys =
    ap (λ (ks : List Ask). asked_by c x.deed ++ ks) (asked-both c xs ys)
    ∙ sym (append_assoc (asked_by c x.deed) (asked_on c xs) (asked_on c ys))

asked-by-inner : (c : ℕ) (d : Deed) → IsInner d → asked_by c d ≡ []
asked-by-inner c (Opens k) h = refl
asked-by-inner c (Asks k a) h = absurd cc
asked-by-inner c (Sends p bytes timeout) h = refl
asked-by-inner c (Hears p bytes) h = refl
asked-by-inner c Passes h = refl
asked-by-inner c (Answers k j g) h = refl
asked-by-inner c (Shuts k) h = refl
asked-by-inner c Seals h = refl
asked-by-inner c (Carries number mark done) h = refl

pub asked-inner : (c : ℕ) (ws : List Written) → AreInner ws → asked_on c ws ≡ []
asked-inner c [] h = refl
asked-inner c (w ∷ ws) h =
    ap (λ (ks : List Ask). ks ++ asked_on c ws) (asked-by-inner c w.deed h.0) ∙ asked-inner c ws h.1

-- What is asked on a connection from one to the other, of what waited and of these bytes, which come in.
pub record Effect (P : Ask → Type 0) (c : ℕ) (came : List ℕ) (old new : Served) : Type 0 where
  pub more : List Written
  pub entries : new.core.state.entries ≡ old.core.state.entries ++ more
  pub opened : new.core.state.opened ≡ old.core.state.opened
  pub reads :
      (u : Unasked) → unasked_at c old.unasked ≡ Some u → u.closing ≡ false
      → AsksFirst P c (u.text ++ came) more (unasked_at c new.unasked)
  pub last :
      (u : Unasked) → unasked_at c old.unasked ≡ Some u → u.closing ≡ true
      → (asked_on c more ≡ []) × IsOver (unasked_at c new.unasked)
  pub gone :
      unasked_at c old.unasked ≡ None → (asked_on c more ≡ []) × (unasked_at c new.unasked ≡ None)

-- What is asked of a text, and then of what is left of it with these bytes.
module _ (P : Ask → Type 0) (c : ℕ) (b : List ℕ) (h more : List Written) (o q : Option Unasked)
    (reads : (u : Unasked) → o ≡ Some u → u.closing ≡ false → AsksFirst P c (u.text ++ b) more q)
    (last : (u : Unasked) → o ≡ Some u → u.closing ≡ true → (asked_on c more ≡ []) × IsOver q)
    (gone : o ≡ None → (asked_on c more ≡ []) × (q ≡ None)) where
  then-none : (text : List ℕ) (s : AsksFirst P c text h o) → asked_on c more ≡ [] → IsLeft s.items (s.rest ++ b) q
      → AsksFirst P c (text ++ b) (h ++ more) q
  then-none text s none left = record {
    items = s.items;
    rest = s.rest ++ b;
    reads = reads-more text s.rest b s.items s.reads;
    asks =
        subst (AreAsked P s.items)
        (sym (asked-both c h more ∙ ap (λ (ks : List Ask). asked_on c h ++ ks) none ∙ append-nil (asked_on c h))) s.asks;
    left = left;
  }

  then-more : (text : List ℕ) (v : Unasked) (s : AsksFirst P c text h o) → AllOpen s.items → v.text ≡ s.rest
      → AsksFirst P c (v.text ++ b) more q → AsksFirst P c (text ++ b) (h ++ more) q
  then-more text v s goes same n = record {
    items = s.items ++ n.items;
    rest = n.rest;
    reads =
        reads-on (text ++ b) (s.rest ++ b) n.rest s.items n.items (reads-more text s.rest b s.items s.reads) goes
        (subst (λ (t : List ℕ). ReadsFirst (t ++ b) n.items n.rest) same n.reads);
    asks =
        subst (AreAsked P (s.items ++ n.items)) (sym (asked-both c h more))
        (asked-of-both P s.items n.items (asked_on c h) (asked_on c more) s.asks n.asks);
    left = left-on q n.left;
  }
    where
      left-on : (p : Option Unasked) → IsLeft n.items n.rest p → IsLeft (s.items ++ n.items) n.rest p
      left-on None l = tt
      left-on (Some w) (inl l) = inl (open-both s.items n.items goes l.0, l.1, l.2)
      left-on (Some w) (inr l) = inr (last-then s.items n.items l.0, l.1)

  pub first-then : (text : List ℕ) → AsksFirst P c text h o → AsksFirst P c (text ++ b) (h ++ more) q
  first-then text s = by o refl s.left
    where
      closed : closes_last s.items ≡ true → (p : Option Unasked) → IsOver p → IsLeft s.items (s.rest ++ b) p
      closed closing None over = tt
      closed closing (Some w) over = inr (closing, over)

      by : (p : Option Unasked) → o ≡ p → IsLeft s.items s.rest p → AsksFirst P c (text ++ b) (h ++ more) q
      by None is l =
          let g = gone is in
          then-none text s g.0 (subst (IsLeft s.items (s.rest ++ b)) (sym g.1) tt)
      by (Some v) is (inl l) = then-more text v s l.0 l.2 (reads v is l.1)
      by (Some v) is (inr l) =
          let g = last v is l.1 in
          then-none text s g.0 (closed l.0 q g.1)

  pub over-then : asked_on c h ≡ [] → IsOver o → (asked_on c (h ++ more) ≡ []) × IsOver q
  over-then none over = by o refl over
    where
      both : asked_on c more ≡ [] → asked_on c (h ++ more) ≡ []
      both e = asked-both c h more ∙ ap (λ (ks : List Ask). ks ++ asked_on c more) none ∙ e

      by : (p : Option Unasked) → o ≡ p → IsOver p → (asked_on c (h ++ more) ≡ []) × IsOver q
      by None is e = let g = gone is in (both g.0, subst IsOver (sym g.1) tt)
      by (Some v) is e = let g = last v is e in (both g.0, g.1)

  pub gone-then : asked_on c h ≡ [] → o ≡ None → (asked_on c (h ++ more) ≡ []) × (q ≡ None)
  gone-then none is =
      let g = gone is in
      (asked-both c h more ∙ ap (λ (ks : List Ask). ks ++ asked_on c more) none ∙ g.0, g.1)

pub effect-then : (P : Ask → Type 0) (c : ℕ) (a b : List ℕ) (x y z : Served) → Effect P c a x y → Effect P c b y z
    → Effect P c (a ++ b) x z
effect-then P c a b x y z e f =
    let o : Option Unasked = unasked_at c y.unasked in
    let q : Option Unasked = unasked_at c z.unasked in
    record {
      more = e.more ++ f.more;
      entries =
          f.entries ∙ ap (λ (es : List Written). es ++ f.more) e.entries
          ∙ append_assoc x.core.state.entries e.more f.more;
      opened = f.opened ∙ e.opened;
      reads = λ u is goes.
          subst (λ (t : List ℕ). AsksFirst P c t (e.more ++ f.more) q) (append_assoc u.text a b)
          (first-then P c b e.more f.more o q f.reads f.last f.gone (u.text ++ a) (e.reads u is goes));
      last = λ u is closing.
          let g = e.last u is closing in over-then P c b e.more f.more o q f.reads f.last f.gone g.0 g.1;
      gone = λ is.
          let g = e.gone is in gone-then P c b e.more f.more o q f.reads f.last f.gone g.0 g.1;
    }
