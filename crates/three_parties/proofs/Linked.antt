-- Each journal of a story begins with copies of entries of the one before it, and the first with none.
use Rattle.std.proofs.Common.{◌≡◌, inl, inr, ℕ, List, [], ◌∷◌, ◌++◌, append-nil, append_assoc, Option, Some, None, refl, sym, ap, subst, ◌∙◌}
use Rattle.media_map.specs.declared.form.Form.{Form}
use Rattle.ask_model.specs.Views.{Rules}
use Rattle.journal_book.specs.Entries.{Written}
use Rattle.demo_origin.specs.Values.{Device, Relation}
use Rattle.exchange_model.specs.Keeping.{Kept}
use Rattle.exchange_model.specs.Rotating.{copied_entries, turned}
use Rattle.exchange_model.specs.State.{State}
use Rattle.exchange_core.specs.Values.{CoreValue}
use Rattle.gateway_model.specs.declared.input.Happening.{Happening}
use Rattle.gateway_model.specs.declared.input.Happening.TheVariants as H
use Rattle.gateway_model.specs.declared.input.Input.{Input}
use Rattle.gateway_model.specs.Acts.{at}
use Rattle.gateway_model.specs.Emissions.{Emission}
use Rattle.gateway_model.specs.Rotating.{IsRotated, IsUnrotated}
use Rattle.gateway_model.specs.Tellings.{terms_of}
use Rattle.gateway_model.proofs.CallerLemmas.{AreNoJournals, rotation-is}
use Rattle.gateway_world.specs.Inputs.{Takes, TakesActs}
use Rattle.gateway_world.specs.Worlds.{WorldValue, counted, served_in, when_in}
use Rattle.gateway_world.proofs.Parted.{handled-none}
use Rattle.three_parties.specs.Flights.{Reach, ToProxy, ToDevice, Nowhere}
use Rattle.three_parties.specs.Scenes.{Scene, ProxyTakes, Reaches, TakesInput, TakesTurn, TakesTurns}
use Rattle.three_parties.specs.Stories.{opening}
use Rattle.three_parties.specs.declared.turn.Turn.{Turn}
use Rattle.three_parties.specs.declared.turn.Turn.TheVariants as T
use Rattle.three_parties.proofs.Orders.{given-both, given-more, given_in}
use Rattle.three_parties.proofs.Stamping.{AreOwn, Stamps, all-stamp, own-both}

-- The journal begins with what a turn copied of the other one.
pub record Begins (g h : List Written) : Type 0 where
  pub moment : ℕ
  pub state : State
  pub kept : Kept state
  pub entries : state.entries ≡ g
  pub more : List Written
  pub whole : h ≡ copied_entries moment state ++ more
  pub own : AreOwn more

abbrev pub BeginsAfter : Option (List Written) → List Written → Type 0
BeginsAfter None h = AreOwn h
BeginsAfter (Some g) h = Begins g h

-- journals one after another, and the last
abbrev pub Linked : Option (List Written) → List (List Written) → List Written → Type 0
Linked g [] last = BeginsAfter g last
Linked g (h ∷ hs) last = BeginsAfter g h × Linked (Some h) hs last

begins-more : (g : Option (List Written)) (h more : List Written) → AreOwn more → BeginsAfter g h → BeginsAfter g (h ++ more)
begins-more None h more own b = own-both h more b own
begins-more (Some g) h more own b = record {
  moment = b.moment;
  state = b.state;
  kept = b.kept;
  entries = b.entries;
  more = b.more ++ more;
  whole = ap (λ (ws : List Written). ws ++ more) b.whole ∙ append_assoc (copied_entries b.moment b.state) b.more more;
  own = own-both b.more more b.own own;
}

linked-more : (g : Option (List Written)) (hs : List (List Written)) (last more : List Written) → AreOwn more → Linked g hs last → Linked g hs (last ++ more)
linked-more g [] last more own b = begins-more g last more own b
linked-more g (h ∷ hs) last more own b = (b.0, linked-more (Some h) hs last more own b.1)

linked-turned : (g : Option (List Written)) (hs : List (List Written)) (last new : List Written) → Begins last new → Linked g hs last
    → Linked g (hs ++ last ∷ []) new
linked-turned g [] last new turned b = (b, turned)
linked-turned g (h ∷ hs) last new turned b = (b.0, linked-turned (Some h) hs last new turned b.1)

-- So it is of a scene's.
abbrev pub IsLinked : Scene → Type 0
IsLinked s = Linked None (given_in s.out) s.world.core.state.entries

module _ (holds : Form → Form → List ℕ → List ℕ → Type 0) (takes : Form → Form → List ℕ → Type 0) (R : Relation) where
  abbrev After : Scene → List Emission → WorldValue → Type 0
  After a given w = Linked None (given_in (a.out ++ given)) w.core.state.entries

  acted : (i : Input) (a : Scene) (given : List Emission) (w : WorldValue) → TakesActs holds takes i a.world given w → IsLinked a → After a given w
  acted i a given w k l =
      let stamps : Stamps (at (when_in a.world i) (served_in a.world)) a.world.core.state w.core.state =
      all-stamp (terms_of holds takes a.world.rules) (when_in a.world i) k.handles.acts.acts (served_in a.world) k.handles.acts.given (served_in w)
      k.handles.acts.done in
      subst (λ (hs : List (List Written)). Linked None hs w.core.state.entries)
      (sym (given-more a.out given (handled-none (terms_of holds takes a.world.rules) i a.world w given k.handles)))
      (subst (Linked None (given_in a.out)) (sym stamps.added) (linked-more None (given_in a.out) a.world.core.state.entries stamps.more stamps.own l))

  rotated : (i : Input) (a : Scene) (given : List Emission) (w : WorldValue) → Kept a.world.core.state
      → IsRotated (at (when_in a.world i) (served_in a.world)) a.world.core given w.core → IsLinked a → After a given w
  rotated i a given w kept x l =
      let u : ℕ = at (when_in a.world i) (served_in a.world) in
      let is : w.core.state ≡ turned u a.world.core.state =
      (rotation-is u a.world.core.state a.world.core.state.entries w.core.state x.turned.is).is in
      subst (λ (hs : List (List Written)). Linked None hs w.core.state.entries)
      (sym (given-both a.out given ∙ ap (λ (es : List Emission). given_in a.out ++ given_in es) x.given))
      (linked-turned None (given_in a.out) a.world.core.state.entries w.core.state.entries (record {
        moment = u;
        state = a.world.core.state;
        kept = kept;
        entries = refl;
        more = [];
        whole = ap (λ (S : State). S.entries) is ∙ sym (append-nil (copied_entries u a.world.core.state));
        own = tt;
      }) l)

  refused : (i : Input) (a : Scene) (given : List Emission) (w : WorldValue)
      → IsUnrotated (at (when_in a.world i) (served_in a.world)) a.world.core given w.core → IsLinked a → After a given w
  refused i a given w x l =
      subst (λ (hs : List (List Written)). Linked None hs w.core.state.entries)
      (sym (given-more a.out given (subst AreNoJournals (sym x.given) (tt, tt))))
      (subst (Linked None (given_in a.out)) (ap (λ (v : CoreValue). v.state.entries) (sym x.same)) l)

  taken-linked : (i : Input) (a : Scene) (given : List Emission) (w : WorldValue) → Kept a.world.core.state → Takes holds takes i a.world given w
      → IsLinked a → After a given w
  taken-linked i a given w kept (inl k) l = acted i a given w k l
  taken-linked i a given w kept (inr k) l = elim (k.rotates) [
    | inl x ↦ rotated i a given w kept x l
    | inr x ↦ refused i a given w x l
  ]

  proxy-linked : (t : ℕ) (i : Input) (a b : Scene) → ProxyTakes holds takes R t i a b → IsLinked a → IsLinked b
  proxy-linked t i a b p l = subst IsLinked (sym p.is) (taken-linked (record i { moment = t }) a p.given p.world p.kept.kept p.takes_it l)

  input-linked : (t : ℕ) (i : Input) (x : Happening) (a b : Scene) → TakesInput holds takes R t i x a b → IsLinked a → IsLinked b
  input-linked t i (H.Datagram p bytes) a b k l = subst IsLinked (sym k) l
  input-linked t i H.Open a b k l = proxy-linked t i a b k l
  input-linked t i (H.Bytes c bytes) a b k l = proxy-linked t i a b k l
  input-linked t i H.Tick a b k l = proxy-linked t i a b k l
  input-linked t i (H.Close c) a b k l = proxy-linked t i a b k l
  input-linked t i H.Rotate a b k l = proxy-linked t i a b k l

  reach-linked : (t word n : ℕ) (r : Reach) (a b : Scene) → Reaches holds takes R t word n r a b → IsLinked a → IsLinked b
  reach-linked t word n (ToProxy bytes) a b k l = proxy-linked t _ a b k.takes_it l
  reach-linked t word n (ToDevice bytes) a b k l = subst IsLinked (sym k.is) l
  reach-linked t word n Nowhere a b k l = subst IsLinked (sym k) l

  turn-linked : (x : Turn) (a b : Scene) → TakesTurn holds takes R x a b → IsLinked a → IsLinked b
  turn-linked (T.Proxy i) a b k l = input-linked (counted a.moment i.moment) i i.happening a b k l
  turn-linked (T.Device t) a b k l = subst IsLinked (sym k.is) l
  turn-linked (T.Deliver w n) a b k l = reach-linked (counted a.moment w.moment) w.word n _ a b k l

  turns-linked : (xs : List Turn) (a b : Scene) → TakesTurns holds takes R xs a b → IsLinked a → IsLinked b
  turns-linked [] a b h l = subst IsLinked (sym h) l
  turns-linked (x ∷ xs) a b h l = turns-linked xs h.0 b h.2 (turn-linked x a h.0 h.1 l)

  pub story-linked : (rules : Rules) (first : Device) (xs : List Turn) (s : Scene) → TakesTurns holds takes R xs (opening rules first) s → IsLinked s
  story-linked rules first xs s h = turns-linked xs (opening rules first) s h tt
