-- What connections ask, input after input.
use Rattle.std.proofs.Common.{◌≡◌, ◌⊎◌, inl, inr, ℕ, ◌+◌, ◌<◌, ◌≤◌, Bool, true, false, List, [], ◌∷◌, ◌++◌, Option, None, refl, sym, ap, ◌∙◌, subst, arith}
use Rattle.std.specs.Prelude.{if◌then◌else◌, nat_lt}
use Rattle.std.specs.List.{AllByRecursion}
use Rattle.std.proofs.lemmas.Bool.{lt-ltb, le-ltb}
use Rattle.std.proofs.lemmas.List.{append-nil, append_assoc}
use borrow.Author.Tests.{ltb-true, ltb-false}
use Rattle.media_map.specs.declared.form.Form.{Form}
use Rattle.ask_model.specs.Views.{Ask, Rules}
use Rattle.journal_book.specs.Entries.{Written}
use Rattle.exchange_model.specs.State.{State}
use Rattle.exchange_core.specs.Values.{CoreValue}
use Rattle.gateway_model.specs.declared.input.Happening.{Happening}
use Rattle.gateway_model.specs.declared.input.Happening.TheVariants as H
use Rattle.gateway_model.specs.declared.input.Input.{Input}
use Rattle.gateway_model.specs.Acts.{Terms, at}
use Rattle.gateway_model.specs.Asking.{AreAsked, AsksFirst, IsLeft, Heeds, AllHeed, Begins, asked_on, brought_by}
use Rattle.gateway_model.specs.Closing.{Closes, IsNoTurn}
use Rattle.gateway_model.specs.Emissions.{Emission, Says, Goes, Closed, GivenUp, Turned, Rotated, Unrotated}
use Rattle.gateway_model.specs.Rotating.{Rotates}
use Rattle.gateway_model.specs.Tellings.{IsMapped, terms_of}
use Rattle.gateway_model.specs.Unasked.{Unasked, unasked_at, unasked_in}
use Rattle.gateway_model.proofs.CallerLemmas.{AreCopies, AreNoJournals, asked-both, begins-copied, copies-ask, CountsOpened, first-then, input-asks, input-counts, rotation-is}
use Rattle.gateway_world.specs.Asked.{turned_in, MayOpen, turned_by, AreOpened, opened_by, text_on, AsksIts, AsksInRun}
use Rattle.gateway_world.specs.Inputs.{Takes, TakesActs, TakesRotation, TakesAll}
use Rattle.gateway_world.specs.Journals.{all_entries}
use Rattle.gateway_world.specs.Worlds.{WorldValue, Handles, Memory, new_world, served_in, when_in, with_memory}
use Rattle.gateway_world.proofs.Parted.{entries-same, handled-none}
use Rattle.gateway_world.proofs.Running.{takes-rules}

pub heeded : (holds : Form → Form → List ℕ → List ℕ → Type 0) (takes : Form → Form → List ℕ → Type 0) (rules : Rules)
    (i : Input) (old new : WorldValue) (out : List Emission) → Handles (terms_of holds takes rules) i old out new
    → AllHeed (IsMapped holds takes rules) i.happening (served_in old) (served_in new)
heeded holds takes rules i old new out h =
    input-asks (terms_of holds takes rules) (when_in old i) i.happening h.acts.acts (served_in old) h.acts.given (served_in new) h.acts.done h.acts.order

-- which input opens a connection, and at which one is turned away

turned-both : (a b : List Emission) → turned_in (a ++ b) ≡ turned_in a + turned_in b
turned-both [] b = let same : turned_in b ≡ 0 + turned_in b = omega arith in same
turned-both (Says c x ∷ a) b = turned-both a b
turned-both (Goes d ∷ a) b = turned-both a b
turned-both (Closed c ∷ a) b = turned-both a b
turned-both (GivenUp c ∷ a) b = turned-both a b
turned-both (Turned ∷ a) b = let e = turned-both a b in omega (arith, e)
turned-both (Rotated h ∷ a) b = turned-both a b
turned-both (Unrotated fault ∷ a) b = turned-both a b

none-turned : (out : List Emission) → AllByRecursion IsNoTurn out → turned_in out ≡ 0
none-turned [] h = refl
none-turned (Says c x ∷ out) h = none-turned out h.1
none-turned (Goes d ∷ out) h = none-turned out h.1
none-turned (Closed c ∷ out) h = none-turned out h.1
none-turned (GivenUp c ∷ out) h = none-turned out h.1
none-turned (Turned ∷ out) h = absurd h.0
none-turned (Rotated h ∷ out) k = none-turned out k.1
none-turned (Unrotated fault ∷ out) h = none-turned out h.1

-- Whether a connection opens at the input.
record Opening (x : Happening) (out : List Emission) (n m : ℕ) : Type 0 where
  opens : Bool
  may : MayOpen opens x
  turned : turned_in out ≡ turned_by opens x
  counts : m ≡ opened_by opens n

other : (M : Terms) (x : Happening) (S S1 : State) (out : List Emission) (n m : ℕ) → (x ≡ H.Open → ⊥)
    → Closes M x S S1 out → m ≡ n → Opening x out n m
other M H.Open S S1 out n m never k e = absurd (never refl)
other M (H.Bytes c bytes) S S1 out n m never k e = record { opens = false; may = tt; turned = none-turned out k.turned; counts = e }
other M (H.Datagram p bytes) S S1 out n m never k e = record { opens = false; may = tt; turned = none-turned out k.turned; counts = e }
other M H.Tick S S1 out n m never k e = record { opens = false; may = tt; turned = none-turned out k.turned; counts = e }
other M (H.Close c) S S1 out n m never k e = record { opens = false; may = tt; turned = ap turned_in k; counts = e }
other M H.Rotate S S1 out n m never k e = record { opens = false; may = tt; turned = none-turned out k.turned; counts = e }

opening : (M : Terms) (x : Happening) (S S1 : State) (out : List Emission) (n m : ℕ) → CountsOpened x out n m
    → Closes M x S S1 out → Opening x out n m
opening M x S S1 out n m (inl o) k = record { opens = true; may = o.0; turned = ap turned_in o.1; counts = o.2 }
opening M x S S1 out n m (inr (inl o)) k =
    record { opens = false; may = tt; turned = ap turned_in o.1 ∙ sym (ap (turned_by false) o.0); counts = o.2 }
opening M x S S1 out n m (inr (inr o)) k = other M x S S1 out n m o.0 k o.1

less-or-not : (a b : ℕ) → (a < b) ⊎ (b ≤ a)
less-or-not a b = by (nat_lt a b) refl
  where
    by : (t : Bool) → nat_lt a b ≡ t → (a < b) ⊎ (b ≤ a)
    by true e = inl (ltb-true a b e)
    by false e = inr (ltb-false a b e)

is-less : (a b : ℕ) → a < b → nat_lt a b ≡ true
is-less a b lt = lt-ltb a b lt

is-not-less : (a b : ℕ) → b ≤ a → nat_lt a b ≡ false
is-not-less a b le = le-ltb a b le

grows-by : (b : Bool) (n : ℕ) → n ≤ opened_by b n
grows-by true n = omega arith
grows-by false n = omega arith

module _ (P : Ask → Type 0) (c : ℕ) where
  -- A connection that opened asks of its text so far, the rest of which waits; one that didn't asks nothing.
  record IsFresh (text : List ℕ) (n : ℕ) (h : List Written) (w : WorldValue) : Type 0 where
    empty : text ≡ []
    above : n ≤ c
    quiet : asked_on c h ≡ []
    none : unasked_at c (served_in w).unasked ≡ None

  -- So far, where these are the entries of all journals.
  abbrev Far : List ℕ → ℕ → List Written → WorldValue → Type 0
  Far text n h w =
      IsFresh text n h w ⊎ ((c < n) × AsksFirst P c text h (unasked_at c (served_in w).unasked))

  -- Nothing is asked, and what waits stays.
  still-far : (text : List ℕ) (n : ℕ) (h more : List Written) (a b : WorldValue) → asked_on c more ≡ []
      → (served_in b).unasked ≡ (served_in a).unasked → Far text n h a → Far text n (h ++ more) b
  still-far text n h more a b none same (inl f) = inl (record {
    empty = f.empty;
    above = f.above;
    quiet = asked-both c h more ∙ (ap (λ (ks : List Ask). ks ++ asked_on c more) f.quiet ∙ none);
    none = ap (unasked_at c) same ∙ f.none;
  })
  still-far text n h more a b none same (inr s) =
      let asked : asked_on c (h ++ more) ≡ asked_on c h =
      asked-both c h more ∙ (ap (λ (ks : List Ask). asked_on c h ++ ks) none ∙ append-nil (asked_on c h)) in
      inr (
        s.0,
        record {
          items = s.1.items;
          rest = s.1.rest;
          reads = s.1.reads;
          asks = subst (AreAsked P s.1.items) (sym asked) s.1.asks;
          left = subst (IsLeft s.1.items s.1.rest) (sym (ap (unasked_at c) same)) s.1.left;
        },
      )

  module _ (h : List Written) (x : Happening) (a b : WorldValue) (heed : AllHeed P x (served_in a) (served_in b)) (t : Bool)
      (counts : b.core.state.opened ≡ opened_by t a.core.state.opened) where
    own : Heeds P c x (served_in a) (served_in b) heed.more
    own = heed.each c

    abbrev q : Option Unasked
    q = unasked_at c (served_in b).unasked

    starts : (text : List ℕ) → text ≡ [] → asked_on c (h ++ heed.more) ≡ []
        → ((rest : List ℕ) → rest ≡ [] → IsLeft [] rest q) → AsksFirst P c text (h ++ heed.more) q
    starts text e none left = record {
      items = [];
      rest = text;
      reads = refl;
      asks = subst (AreAsked P []) (sym none) tt;
      left = left text e;
    }

    fresh : (text : List ℕ) → text ≡ [] → a.core.state.opened ≤ c → asked_on c h ≡ []
        → (asked_on c heed.more ≡ []) × ((q ≡ None) ⊎ Begins c x (served_in a) (served_in b))
        → Far text b.core.state.opened (h ++ heed.more) b
    fresh text e le quiet g = by g.1
      where
        still : asked_on c (h ++ heed.more) ≡ []
        still = asked-both c h heed.more ∙ ap (λ (ks : List Ask). ks ++ asked_on c heed.more) quiet ∙ g.0

        by : (q ≡ None) ⊎ Begins c x (served_in a) (served_in b) → Far text b.core.state.opened (h ++ heed.more) b
        by (inl none) = on (less-or-not c b.core.state.opened)
          where
            on : (c < b.core.state.opened) ⊎ (b.core.state.opened ≤ c) → Far text b.core.state.opened (h ++ heed.more) b
            on (inl lt) = inr (lt, starts text e still (λ rest f. subst (IsLeft [] rest) (sym none) tt))
            on (inr more) = inl (record { empty = e; above = more; quiet = still; none = none })
        by (inr begins) =
            inr (
              (let o = begins.opened in omega (arith, o)),
              starts text e still (λ rest f. subst (IsLeft [] rest) (sym begins.waits) (inl (tt, refl, sym f))),
            )

    farther : (text : List ℕ) → Far text a.core.state.opened h a
        → Far (text ++ (if nat_lt c a.core.state.opened then brought_by c x else [])) b.core.state.opened (h ++ heed.more) b
    farther text (inl f) =
        fresh _
        (ap (λ (v : Bool). text ++ (if v then brought_by c x else [])) (is-not-less c a.core.state.opened f.above) ∙ (append-nil text ∙ f.empty))
        f.above f.quiet (own.gone f.none)
    farther text (inr s) =
        inr (
          (let lt = s.0 in let more = grows-by t a.core.state.opened in omega (arith, lt, more, counts)),
          subst (λ (v : Bool). AsksFirst P c (text ++ (if v then brought_by c x else [])) (h ++ heed.more) q)
              (sym (is-less c a.core.state.opened s.0))
              (first-then P c (brought_by c x) h heed.more (unasked_at c (served_in a).unasked) q
              own.reads own.last (λ e. let g = own.gone e in (g.0, again g.1)) text s.1),
        )
      where
        again : (q ≡ None) ⊎ Begins c x (served_in a) (served_in b) → q ≡ None
        again (inl e) = e
        again (inr begins) = absurd (let e = begins.fresh in let lt = s.0 in omega (arith, e, lt))

  -- What left memory changes nothing.
  far-memory : (m : Memory) (text : List ℕ) (n : ℕ) (h : List Written) (w : WorldValue) → Far text n h w
      → Far text n h (with_memory m w)
  far-memory m text n h w (inl f) =
      inl (record { empty = f.empty; above = f.above; quiet = f.quiet; none = f.none })
  far-memory m text n h w (inr s) = inr s

  far-asks : (text : List ℕ) (n : ℕ) (h : List Written) (w : WorldValue) → Far text n h w → AsksIts P c text h
  far-asks text n h w (inl f) =
      record { items = []; rest = text; reads = refl; asks = subst (AreAsked P []) (sym f.quiet) tt }
  far-asks text n h w (inr s) = record { items = s.1.items; rest = s.1.rest; reads = s.1.reads; asks = s.1.asks }

module _ (holds : Form → Form → List ℕ → List ℕ → Type 0) (takes : Form → Form → List ℕ → Type 0) (rules : Rules) where
  abbrev P : Ask → Type 0
  P = IsMapped holds takes rules

  record Goes-far (is : List Input) (a b : WorldValue) (out : List Emission) : Type 0 where
    opened : List Bool
    are : AreOpened opened is (turned_in out)
    each : (c : ℕ) (text : List ℕ) (front : List Written) → Far P c text a.core.state.opened (front ++ a.core.state.entries) a
        → Far P c (text ++ text_on c a.core.state.opened opened is) b.core.state.opened (front ++ all_entries out b.core.state.entries) b

  -- What one input does to this, and to the entries of all journals.
  record Goes-on (x : Happening) (a b : WorldValue) (out : List Emission) : Type 0 where
    opens : Bool
    may : MayOpen opens x
    turned : turned_in out ≡ turned_by opens x
    counts : b.core.state.opened ≡ opened_by opens a.core.state.opened
    each : (c : ℕ) (text : List ℕ) (front : List Written) → Far P c text a.core.state.opened (front ++ a.core.state.entries) a
        → (longer : List Written)
        × Far P c (text ++ (if nat_lt c a.core.state.opened then brought_by c x else [])) b.core.state.opened
        (longer ++ b.core.state.entries) b
        × ((rest : List Emission) (last : List Written) → longer ++ all_entries rest last ≡ front ++ all_entries (out ++ rest) last)

  acts-on : (i : Input) (a b : WorldValue) (out : List Emission) → a.rules ≡ rules → TakesActs holds takes i a out b
      → Goes-on i.happening a b out
  acts-on i a b out e k =
      let M : Terms = terms_of holds takes a.rules in
      let acts = k.handles.acts in
      let o : Opening i.happening out a.core.state.opened b.core.state.opened =
      opening M i.happening a.core.state b.core.state out a.core.state.opened b.core.state.opened
      (subst (λ (es : List Emission). CountsOpened i.happening es a.core.state.opened b.core.state.opened) (sym acts.added)
      (input-counts M (when_in a i) i.happening acts.acts (served_in a) acts.given (served_in b) acts.done acts.order))
      k.closes in
      let heed : AllHeed P i.happening (served_in a) (served_in b) =
      subst (λ (s : Rules). AllHeed (IsMapped holds takes s) i.happening (served_in a) (served_in b)) e k.asks in
      record {
        opens = o.opens;
        may = o.may;
        turned = o.turned;
        counts = o.counts;
        each = λ c text front far. (
          front,
          subst (λ (h : List Written). Far P c (text ++ (if nat_lt c a.core.state.opened then brought_by c i.happening else []))
              b.core.state.opened h b)
              (append_assoc front a.core.state.entries heed.more ∙ ap (λ (h : List Written). front ++ h) (sym heed.added))
              (farther P c (front ++ a.core.state.entries) i.happening a b heed o.opens o.counts text far),
          λ rest last. ap (λ (h : List Written). front ++ h) (sym (entries-same out rest last (handled-none M i a b out k.handles))),
        );
      }

  rotates-on : (i : Input) (a b : WorldValue) (out : List Emission) → TakesRotation holds takes i a out b → Goes-on i.happening a b out
  rotates-on i a b out k =
      subst (λ (x : Happening). Goes-on x a b out) (sym k.wants) (by k.rotates)
    where
      nothing : (c n : ℕ) (text : List ℕ) → text ≡ text ++ (if nat_lt c n then [] else [])
      nothing c n text = go (nat_lt c n)
        where
          go : (v : Bool) → text ≡ text ++ (if v then [] else [])
          go true = sym (append-nil text)
          go false = sym (append-nil text)

      same : (served_in b).unasked ≡ (served_in a).unasked
      same = ap unasked_in k.inlets

      by : Rotates (at (when_in a i) (served_in a)) a.core out b.core → Goes-on H.Rotate a b out
      by (inl r) =
          let is = rotation-is (at (when_in a i) (served_in a)) a.core.state a.core.state.entries b.core.state r.turned.is in
          let more : AreCopies b.core.state.entries =
          subst (λ (S : State). AreCopies S.entries) (sym is.is) (begins-copied (at (when_in a i) (served_in a)) a.core.state) in
          let opened : b.core.state.opened ≡ a.core.state.opened = ap (λ (S : State). S.opened) is.is in
          record {
            opens = false;
            may = tt;
            turned = ap turned_in r.given;
            counts = opened;
            each = λ c text front far. (
              front ++ a.core.state.entries,
              subst (λ (n : ℕ). Far P c (text ++ (if nat_lt c a.core.state.opened then [] else [])) n ((front ++ a.core.state.entries) ++ b.core.state.entries) b)
                  (sym opened)
                  (subst (λ (t : List ℕ). Far P c t a.core.state.opened ((front ++ a.core.state.entries) ++ b.core.state.entries) b) (nothing c a.core.state.opened text)
                  (still-far P c text a.core.state.opened (front ++ a.core.state.entries) b.core.state.entries a b
                  (copies-ask c b.core.state.entries more) same far)),
              λ rest last.
                  append_assoc front a.core.state.entries (all_entries rest last)
                  ∙ ap (λ (es : List Emission). front ++ all_entries (es ++ rest) last) (sym r.given),
            );
          }
      by (inr u) =
          let opened : b.core.state.opened ≡ a.core.state.opened = ap (λ (v : CoreValue). v.state.opened) u.same in
          record {
            opens = false;
            may = tt;
            turned = ap turned_in u.given;
            counts = opened;
            each = λ c text front far. (
              front,
              subst (λ (n : ℕ). Far P c (text ++ (if nat_lt c a.core.state.opened then [] else [])) n (front ++ b.core.state.entries) b)
                  (sym opened)
                  (subst (λ (t : List ℕ). Far P c t a.core.state.opened (front ++ b.core.state.entries) b) (nothing c a.core.state.opened text)
                  (subst (λ (h : List Written). Far P c text a.core.state.opened h b)
                  (append-nil (front ++ a.core.state.entries) ∙ ap (λ (v : CoreValue). front ++ v.state.entries) (sym u.same))
                  (still-far P c text a.core.state.opened (front ++ a.core.state.entries) [] a b refl same far))),
              λ rest last.
                  ap (λ (h : List Written). front ++ h)
                  (sym (entries-same out rest last (subst AreNoJournals (sym u.given) (tt, tt)))),
            );
          }

  goes-on : (i : Input) (a b : WorldValue) (out : List Emission) → a.rules ≡ rules → Takes holds takes i a out b
      → Goes-on i.happening a b out
  goes-on i a b out e (inl k) = acts-on i a b out e k
  goes-on i a b out e (inr k) = rotates-on i a b out k

  goes-far : (is : List Input) (a b : WorldValue) (out : List Emission) → a.rules ≡ rules → TakesAll holds takes is a out b
      → Goes-far is a b out
  goes-far [] a b out e h = record {
    opened = [];
    are = ap turned_in h.2;
    each = λ c text front far.
        subst (λ (es : List Emission). Far P c (text ++ []) b.core.state.opened (front ++ all_entries es b.core.state.entries) b) (sym h.2)
        (subst (λ (w : WorldValue). Far P c (text ++ []) w.core.state.opened (front ++ (w.core.state.entries ++ [])) w) (sym h.1)
        (far-memory P c h.0 (text ++ []) a.core.state.opened (front ++ (a.core.state.entries ++ [])) a
        (subst (λ (k : List Written). Far P c (text ++ []) a.core.state.opened (front ++ k) a) (sym (append-nil a.core.state.entries))
        (subst (λ (t : List ℕ). Far P c t a.core.state.opened (front ++ a.core.state.entries) a) (sym (append-nil text)) far))));
  }
  goes-far (i ∷ is) a b out e h =
      let now : WorldValue = with_memory h.0 a in
      let o : Goes-on i.happening now h.1 h.2 = goes-on i now h.1 h.2 e h.4 in
      let r : Goes-far is h.1 b h.3 = goes-far is h.1 b h.3 (takes-rules holds takes i now h.1 h.2 h.4 ∙ e) h.5 in
      record {
        opened = o.opens ∷ r.opened;
        are = (
          turned_in h.3,
          o.may,
          r.are,
          ap turned_in h.6 ∙ (turned-both h.2 h.3 ∙ ap (λ (n : ℕ). n + turned_in h.3) o.turned),
        );
        each = λ c text front far.
            let came : List ℕ = if nat_lt c a.core.state.opened then brought_by c i.happening else [] in
            let one = o.each c text front
            (far-memory P c h.0 text a.core.state.opened (front ++ a.core.state.entries) a far) in
            subst (λ (t : List ℕ). Far P c t b.core.state.opened (front ++ all_entries out b.core.state.entries) b)
            (append_assoc text came (text_on c (opened_by o.opens a.core.state.opened) r.opened is))
            (subst (λ (k : List Written). Far P c ((text ++ came) ++ text_on c (opened_by o.opens a.core.state.opened) r.opened is) b.core.state.opened k b)
            (one.2 h.3 b.core.state.entries ∙ ap (λ (es : List Emission). front ++ all_entries es b.core.state.entries) (sym h.6))
            (subst (λ (n : ℕ). Far P c ((text ++ came) ++ text_on c n r.opened is) b.core.state.opened
            (one.0 ++ all_entries h.3 b.core.state.entries) b) o.counts
            (r.each c (text ++ came) one.0 one.1)));
      }

  pub run-asks : (is : List Input) (old new : WorldValue) (h : List Written) (out : List Emission) → old ≡ new_world rules
      → TakesAll holds takes is old out new → h ≡ new.core.state.entries → AsksInRun P is out (all_entries out h)
  run-asks is old new h out e run same =
      let far : Goes-far is (new_world rules) new out =
      goes-far is (new_world rules) new out refl (subst (λ (w : WorldValue). TakesAll holds takes is w out new) e run) in
      record {
        opened = far.opened;
        are = far.are;
        each = λ c.
            subst (λ (k : List Written). AsksIts P c (text_on c 0 far.opened is) (all_entries out k)) (sym same)
            (far-asks P c (text_on c 0 far.opened is) new.core.state.opened (all_entries out new.core.state.entries) new
            (far.each c [] [] (inl (record { empty = refl; above = zero-least c; quiet = refl; none = refl }))));
      }
    where
      zero-least : (c : ℕ) → 0 ≤ c
      zero-least c = omega arith
