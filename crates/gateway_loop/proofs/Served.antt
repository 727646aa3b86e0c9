-- Each connection is served on.
use Rattle.std.proofs.Common.{◌≡◌, ◌≢◌, ◌⊎◌, inl, inr, ℕ, Bool, true, false, List, [], ◌∷◌, ◌++◌, length, Option, Some, refl, sym, ap, subst, ◌∙◌}
use Rattle.std.specs.Prelude.{slice_get}
use Rattle.std.specs.List.{concat}
use Rattle.std.proofs.lemmas.Grind.{flat_map-append}
use Rattle.std.proofs.lemmas.List.{append-nil, append_assoc}
use Rattle.media_map.specs.declared.form.Form.{Form}
use Rattle.ask_model.specs.Views.{Rules}
use Rattle.exchange_core.specs.Values.{Outgoing}
use Rattle.gateway_model.specs.declared.input.Input.{Input}
use Rattle.gateway_model.specs.Emissions.{Emission}
use Rattle.gateway_model.specs.Going.{goes_by, goes_in}
use Rattle.gateway_model.specs.Told.{said_by, said_to}
use Rattle.gateway_world.specs.Inputs.{Takes, TakesAll}
use Rattle.gateway_world.specs.Worlds.{WorldValue, new_world}
use Rattle.gateway_world.proofs.Running.{takes-more, takes-rules}
use Rattle.gateway_loop.specs.Clients.{ClientValue, Leaves, Reads, Writes, kept, unserved}
use Rattle.gateway_loop.specs.Places.{EachChanges, IsEmptied}
use Rattle.gateway_loop.proofs.Changing.{each-from, same-or-not}
use Rattle.gateway_loop.specs.Serving.{IsAfter, IsServed, IsServing, Past, brought, brought_in, brought_over, heard_at, heard_in, said, said_over, then}
use Rattle.gateway_loop.specs.Sockets.{Are, Grown, Hold}
use Rattle.gateway_loop.specs.Telling.{NotesValue, Tells}
use Rattle.gateway_loop.proofs.Growing.{among-same, are-more, are-same, hold-more}
use Rattle.gateway_loop.proofs.Tellings.{last-on, last-same}

concat-both : (xs ys : List (List ℕ)) → concat (xs ++ ys) ≡ concat xs ++ concat ys
concat-both [] ys = refl
concat-both (x ∷ xs) ys =
    ap (λ (t : List ℕ). x ++ t) (concat-both xs ys) ∙ sym (append_assoc x (concat xs) (concat ys))

pub said-both : (c : ℕ) (a b : List Emission) → said c (a ++ b) ≡ said c a ++ said c b
said-both c a b = ap concat (flat_map-append (said_by c) a b) ∙ concat-both (said_to c a) (said_to c b)

brought-more : (c : ℕ) (is : List Input) (i : Input) → brought c (is ++ i ∷ []) ≡ brought c is ++ brought_in c i
brought-more c is i =
    flat_map-append (brought_in c) is (i ∷ []) ∙ ap (λ (t : List ℕ). brought c is ++ t) (append-nil (brought_in c i))

heard-more : (is : List Input) (i : Input) → heard_in (is ++ i ∷ []) ≡ heard_in is ++ heard_at i
heard-more is i =
    flat_map-append heard_at is (i ∷ []) ∙ ap (λ (t : List Outgoing). heard_in is ++ t) (append-nil (heard_at i))

-- one input, with what it gave
abbrev pub once : Input → List Emission → Past
once i out = record { inputs = i ∷ []; given = out }

then-then : (a b d : Past) → then (then a b) d ≡ then a (then b d)
then-then a b d = λ k. record {
  inputs = append_assoc a.inputs b.inputs d.inputs k;
  given = append_assoc a.given b.given d.given k;
}

module _ (holds : Form → Form → List ℕ → List ℕ → Type 0) (takes : Form → Form → List ℕ → Type 0) where
  pub after-more : (past : Past) (i : Input) (out : List Emission) (w v : WorldValue) → IsAfter holds takes past w
      → Takes holds takes i w out v → IsAfter holds takes (then past (once i out)) v
  after-more past i out w v h t =
      subst (λ (r : Rules). TakesAll holds takes (past.inputs ++ i ∷ []) (new_world r) (past.given ++ out) v) (sym (takes-rules holds takes i w v out t))
      (takes-more holds takes past.inputs i (new_world w.rules) w v past.given out h t)

  module _ {S : Type 0} (written gave : S → Option (List ℕ)) (c : ℕ) (past : Past) where
    -- an input brings it bytes that were read of it, and what is given out for it is left
    pub served-on : (i : Input) (out : List Emission) (x y : ClientValue S) → IsServed holds takes written gave c past x
        → y.stream ≡ x.stream → y.left ≡ x.left ++ said c out → x.unfed ≡ brought_in c i ++ y.unfed → y.leaving ≡ x.leaving
        → IsServed holds takes written gave c (then past (once i out)) y
    served-on i out x y h stream left unfed leaving = record {
      before = h.before;
      since = then h.since (once i out);
      past_is = ap (λ (p : Past). then p (once i out)) h.past_is ∙ then-then h.before h.since (once i out);
      opened = h.opened;
      spans = h.spans;
      earlier = h.earlier;
      wrote = h.wrote;
      is_written = subst (λ (s : S). Are (written s) h.wrote) (sym stream) h.is_written;
      left = ap (λ (t : List ℕ). h.wrote ++ t) left
          ∙ (sym (append_assoc h.wrote x.left (said c out))
          ∙ (ap (λ (t : List ℕ). t ++ said c out) h.left
          ∙ (append_assoc (said_over h.spans) (said c h.since.given) (said c out)
          ∙ ap (λ (t : List ℕ). said_over h.spans ++ t) (sym (said-both c h.since.given out)))));
      read = h.read;
      was_read = subst (λ (s : S). Are (gave s) h.read) (sym stream) h.was_read;
      dropped = h.dropped;
      unfed = h.unfed
          ∙ ap (λ (t : List ℕ). t ++ h.dropped) (ap (λ (t : List ℕ). brought_over h.spans ++ brought c h.since.inputs ++ t) unfed
          ∙ (sym (append_assoc (brought_over h.spans ++ brought c h.since.inputs) (brought_in c i) y.unfed)
          ∙ ap (λ (t : List ℕ). t ++ y.unfed) (append_assoc (brought_over h.spans) (brought c h.since.inputs) (brought_in c i)
          ∙ ap (λ (t : List ℕ). brought_over h.spans ++ t) (sym (brought-more c h.since.inputs i)))));
      none = λ e. h.none (sym leaving ∙ e);
    }

    pub served-writes : (x y : ClientValue S) → Writes written gave x y → IsServed holds takes written gave c past x
        → IsServed holds takes written gave c past y
    served-writes x y w h = record {
      before = h.before;
      since = h.since;
      past_is = h.past_is;
      opened = h.opened;
      spans = h.spans;
      earlier = h.earlier;
      wrote = h.wrote ++ w.bytes;
      is_written = are-more (written x.stream) (written y.stream) h.wrote w.bytes h.is_written w.went;
      left = append_assoc h.wrote w.bytes y.left ∙ (ap (λ (t : List ℕ). h.wrote ++ t) (sym w.left) ∙ h.left);
      read = h.read;
      was_read = are-same (gave x.stream) (gave y.stream) h.read h.was_read w.quiet;
      dropped = h.dropped;
      unfed = h.unfed ∙ ap (λ (t : List ℕ). brought_over h.spans ++ brought c h.since.inputs ++ t ++ h.dropped) (sym w.unfed);
      none = λ e. h.none (sym w.leaving ∙ e);
    }

    -- what is read is kept, or dropped
    parted : (b : Bool) (front old new bytes dropped : List ℕ) → new ≡ kept b old bytes → (b ≡ false → dropped ≡ [])
        → (more : List ℕ) × ((front ++ old ++ dropped) ++ bytes ≡ front ++ new ++ more) × (b ≡ false → more ≡ [])
    parted true front old new bytes dropped is none = (
      dropped ++ bytes,
      append_assoc (front ++ old) dropped bytes ∙ ap (λ (t : List ℕ). front ++ t ++ (dropped ++ bytes)) (sym is),
      λ e. absurd cc,
    )
    parted false front old new bytes dropped is none = (
      [],
      ap (λ (t : List ℕ). (front ++ old ++ t) ++ bytes) (none refl)
          ∙ (ap (λ (t : List ℕ). t ++ bytes) (append-nil (front ++ old))
          ∙ (append_assoc front old bytes
          ∙ (ap (λ (t : List ℕ). front ++ t) (sym is) ∙ sym (append-nil (front ++ new))))),
      λ e. refl,
    )

    pub served-reads : (x y : ClientValue S) → Reads written gave x y → IsServed holds takes written gave c past x
        → IsServed holds takes written gave c past y
    served-reads x y r h =
        let p = parted x.leaving (brought_over h.spans ++ brought c h.since.inputs) x.unfed y.unfed r.bytes h.dropped r.unfed h.none in
        record {
          before = h.before;
          since = h.since;
          past_is = h.past_is;
          opened = h.opened;
          spans = h.spans;
          earlier = h.earlier;
          wrote = h.wrote;
          is_written = are-same (written x.stream) (written y.stream) h.wrote h.is_written r.quiet;
          left = ap (λ (t : List ℕ). h.wrote ++ t) r.left ∙ h.left;
          read = h.read ++ r.bytes;
          was_read = are-more (gave x.stream) (gave y.stream) h.read r.bytes h.was_read r.came;
          dropped = p.0;
          unfed = ap (λ (t : List ℕ). t ++ r.bytes) h.unfed ∙ p.1;
          none = λ e. p.2 (sym r.leaving ∙ e);
        }

    true-false : (b : Bool) → b ≡ true → b ≡ false → ⊥
    true-false b t f = absurd cc

    pub served-leaves : (x y : ClientValue S) → Leaves written gave x y → IsServed holds takes written gave c past x
        → IsServed holds takes written gave c past y
    served-leaves x y l h = record {
      before = h.before;
      since = h.since;
      past_is = h.past_is;
      opened = h.opened;
      spans = h.spans;
      earlier = h.earlier;
      wrote = h.wrote;
      is_written = are-same (written x.stream) (written y.stream) h.wrote h.is_written l.wrote;
      left = ap (λ (t : List ℕ). h.wrote ++ t) l.left ∙ h.left;
      read = h.read;
      was_read = are-same (gave x.stream) (gave y.stream) h.read h.was_read l.quiet;
      dropped = x.unfed ++ h.dropped;
      unfed = h.unfed
          ∙ (append_assoc (brought_over h.spans ++ brought c h.since.inputs) x.unfed h.dropped
          ∙ (sym (ap (λ (t : List ℕ). t ++ (x.unfed ++ h.dropped)) (append-nil (brought_over h.spans ++ brought c h.since.inputs)))
          ∙ ap (λ (t : List ℕ). brought_over h.spans ++ brought c h.since.inputs ++ t ++ (x.unfed ++ h.dropped)) (sym l.unfed)));
      none = λ e. absurd (true-false y.leaving l.leaving e);
    }

    -- a connection that opens with an input that says nothing to it, and brings it nothing
    pub served-first : (i : Input) (out : List Emission) (w : WorldValue) (s : S) → IsAfter holds takes past w
        → w.core.state.opened ≡ c → Are (written s) [] → Are (gave s) [] → said c out ≡ [] → brought_in c i ≡ []
        → IsServed holds takes written gave c (then past (once i out)) (unserved s)
    served-first i out w s after next wrote read none nothing = record {
      before = past;
      since = once i out;
      past_is = refl;
      opened = (w, after, next);
      spans = [];
      earlier = tt;
      wrote = [];
      is_written = wrote;
      left = sym none;
      read = [];
      was_read = read;
      dropped = [];
      unfed = sym (ap (λ (t : List ℕ). ((t ++ []) ++ []) ++ []) nothing);
      none = λ e. refl;
    }

    -- a stream that goes on as a connection that opens so
    pub served-carried : (i : Input) (out : List Emission) (w : WorldValue) (k : ℕ) (x : ClientValue S) → IsAfter holds takes past w
        → w.core.state.opened ≡ k → IsServed holds takes written gave c past x → said k out ≡ [] → brought_in k i ≡ []
        → IsServed holds takes written gave k (then past (once i out)) x
    served-carried i out w k x after next h none nothing =
        let front : List ℕ = brought_over h.spans ++ brought c h.since.inputs in
        let given : List ℕ = said_over h.spans ++ said c h.since.given in
        record {
          before = past;
          since = once i out;
          past_is = refl;
          opened = (w, after, next);
          spans = record { number = c; before = h.before; during = h.since } ∷ h.spans;
          earlier = (h.opened, h.past_is, h.earlier);
          wrote = h.wrote;
          is_written = h.is_written;
          left = h.left ∙ (sym (append-nil given) ∙ ap (λ (t : List ℕ). given ++ t) (sym none));
          read = h.read;
          was_read = h.was_read;
          dropped = h.dropped;
          unfed = h.unfed
              ∙ ap (λ (t : List ℕ). t ++ x.unfed ++ h.dropped) (sym (append-nil front)
              ∙ ap (λ (t : List ℕ). front ++ (t ++ [])) (sym nothing));
          none = h.none;
        }

  module _ {S W : Type 0} (written gave : S → Option (List ℕ)) (sent heard : W → Option (List Outgoing)) where
    -- It is served on where each connection is.
    pub serving-on : (i : Input) (out : List Emission) (w v : WorldValue) (xs ys : List (Option (ClientValue S))) (m n : W)
        (n0 n1 : NotesValue) → IsServing holds takes written gave sent heard w xs m n0 → Takes holds takes i w out v
        → length ys ≡ v.core.state.opened
        → ((past : Past) → IsAfter holds takes past w
        → ((c : ℕ) (x : ClientValue S) → slice_get xs c ≡ Some (Some x) → IsServed holds takes written gave c past x)
        → (c : ℕ) (y : ClientValue S) → slice_get ys c ≡ Some (Some y)
        → IsServed holds takes written gave c (then past (once i out)) y)
        → Grown (sent m) (sent n) (goes_in out) → Grown (heard m) (heard n) (heard_at i) → Tells out n0 n1
        → IsServing holds takes written gave sent heard v ys n n1
    serving-on i out w v xs ys m n n0 n1 h t numbers each goes came told = record {
      past = then h.past (once i out);
      after = after-more h.past i out w v h.after t;
      numbers = numbers;
      each = each h.past h.after h.each;
      goes = subst (Are (sent n)) (sym (flat_map-append goes_by h.past.given out))
          (are-more (sent m) (sent n) (goes_in h.past.given) (goes_in out) h.goes goes);
      came = subst (Hold (heard n)) (sym (heard-more h.past.inputs i))
          (hold-more (heard m) (heard n) (heard_in h.past.inputs) (heard_at i) (heard_at i) h.came came (among-same (heard_at i)));
      last = last-on h.past.given out n0 n1 h.last told;
    }

    -- Where nothing is an input, each connection may move bytes.
    pub serving-moves : (w : WorldValue) (xs ys : List (Option (ClientValue S))) (m : W) (n0 n1 : NotesValue)
        → (P : ℕ → ClientValue S → ClientValue S → Type 0)
        → IsServing holds takes written gave sent heard w xs m n0 → n1 ≡ n0 → EachChanges P xs ys
        → ((past : Past) (c : ℕ) (x y : ClientValue S) → P c x y → IsServed holds takes written gave c past x
        → IsServed holds takes written gave c past y)
        → IsServing holds takes written gave sent heard w ys m n1
    serving-moves w xs ys m n0 n1 P h same e f = record {
      past = h.past;
      after = h.after;
      numbers = e.count ∙ h.numbers;
      each = λ c y at. let x = each-from P xs ys c y e at in f h.past c x.0 y x.2 (h.each c x.0 x.1);
      goes = h.goes;
      came = h.came;
      last = last-same h.past.given n0 n1 same h.last;
    }

    -- One may end.
    pub serving-emptied : (w : WorldValue) (n : ℕ) (xs ys : List (Option (ClientValue S))) (m : W) (n0 n1 : NotesValue)
        → IsServing holds takes written gave sent heard w xs m n0 → n1 ≡ n0 → IsEmptied n xs ys
        → IsServing holds takes written gave sent heard w ys m n1
    serving-emptied w n xs ys m n0 n1 h same e = record {
      past = h.past;
      after = h.after;
      numbers = e.count ∙ h.numbers;
      each = λ c y at. by c y at (same-or-not c n);
      goes = h.goes;
      came = h.came;
      last = last-same h.past.given n0 n1 same h.last;
    }
      where
        by : (c : ℕ) (y : ClientValue S) → slice_get ys c ≡ Some (Some y) → (c ≡ n) ⊎ (c ≢ n)
            → IsServed holds takes written gave c h.past y
        by c y at (inl q) = absurd (e.none y (sym (ap (slice_get ys) q) ∙ at))
        by c y at (inr ne) = h.each c y (sym (e.others c ne) ∙ at)
