-- Exchanges that one that has ended outruns.
use Rattle.std.proofs.Common.{◌≡◌, Bool, true, false, not, cond, eqb, ◌&&◌, ◌||◌, ◌∷◌, [], List, Option, Some, None, map, refl, sym, ap, ◌∙◌}
use Rattle.std.specs.List.{list_any}
use Rattle.cache_key.specs.Keys.{same_place}
use Rattle.ask_model.specs.Requests.{CoapRequest, Sense, Requests, Refuses}
use Rattle.ask_model.specs.Sharing.{asked_place, place_written, writes_to}
use Rattle.journal_book.specs.Entries.{Written}
use Rattle.exchange_model.specs.declared.kept.Exchange.{Exchange}
use Rattle.exchange_model.specs.Matters.{asked_in, left_by, outrun_by, outruns, request_in}
use Rattle.exchange_table.specs.Outrunning.{outdates, outrun_with}
use Rattle.exchange_table.specs.Tables.{name_of}
use Rattle.exchange_table.proofs.Searching.{none-some}

pub one-by : (ws : List Written) (x e : Exchange) → outrun_by ws (x ∷ []) e ≡ outrun_with (asked_in ws x.ask) ws e
one-by ws x e = ap (λ (b : Bool). cond b (record e { current = false }) e) (so (asked_in ws e.ask) (asked_in ws x.ask) refl)
  where
    or-false : (b : Bool) → (b || false) ≡ b
    or-false true = refl
    or-false false = refl

    so : (q w : Option CoapRequest) → asked_in ws x.ask ≡ w → (outruns ws q x || false) ≡ outdates w q
    so None None is = refl
    so None (Some w) is = refl
    so (Some q) None is = rw (is) refl
    so (Some q) (Some w) is = rw (is) (or-false (writes_to (asked_place q) w))

-- it alone
pub left-one : (ws : List Written) (x : Exchange) (es : List Exchange) → left_by ws (x ∷ []) es ≡ map (outrun_with (asked_in ws x.ask) ws) es
left-one ws x [] = refl
left-one ws x (e ∷ es) = rw (one-by ws x e, left-one ws x es) refl

-- what was no ask
pub none-outrun : (ws : List Written) (x : Exchange) (es : List Exchange) → asked_in ws x.ask ≡ None → es ≡ left_by ws (x ∷ []) es
none-outrun ws x es none = sym (left-one ws x es ∙ (ap (λ (w : Option CoapRequest). map (outrun_with w ws) es) none ∙ alone es))
  where
    alone : (es : List Exchange) → map (outrun_with None ws) es ≡ es
    alone [] = refl
    alone (e ∷ es) = ap (λ (xs : List Exchange). e ∷ xs) (alone es)

-- what was no write
pub read-outrun : (ws : List Written) (x : Exchange) (es : List Exchange) (sense : Sense) → request_in sense ≡ asked_in ws x.ask → place_written sense ≡ None
    → es ≡ left_by ws (x ∷ []) es
read-outrun ws x es sense is none = sym (left-one ws x es ∙ alone es)
  where
    no-write : (r q : CoapRequest) (b : Bool) → cond b None (Some (asked_place r)) ≡ None → (not b && same_place (asked_place q) (asked_place r)) ≡ false
    no-write r q true e = refl
    no-write r q false e = absurd (none-some (asked_place r) (sym e))

    nothing : (s : Sense) (q : Option CoapRequest) → place_written s ≡ None → outdates (request_in s) q ≡ false
    nothing (Refuses cause status) None e = refl
    nothing (Refuses cause status) (Some q) e = refl
    nothing (Requests r) None e = refl
    nothing (Requests r) (Some q) e = no-write r q (eqb r.method 1) e

    one : (e : Exchange) → outrun_with (asked_in ws x.ask) ws e ≡ e
    one e = ap (λ (w : Option CoapRequest). outrun_with w ws e) (sym is) ∙ ap (λ (b : Bool). cond b (record e { current = false }) e) (nothing sense (asked_in ws e.ask) none)

    alone : (es : List Exchange) → map (outrun_with (asked_in ws x.ask) ws) es ≡ es
    alone [] = refl
    alone (e ∷ es) = rw (one e, alone es) refl

-- they keep their names
pub left-names : (ws : List Written) (over : List Exchange) (e : Exchange) → name_of (outrun_by ws over e) ≡ name_of e
left-names ws over e = by (list_any (outruns ws (asked_in ws e.ask)) over)
  where
    by : (b : Bool) → name_of (cond b (record e { current = false }) e) ≡ name_of e
    by true = refl
    by false = refl
