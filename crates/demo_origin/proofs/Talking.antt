-- What observers are told was made under a registration that stood.
use Rattle.std.proofs.Common.{◌≡◌, ℕ, zero, suc, ◌+◌, List, length, slice_get, Contains, Option, Some, None, Bool, true, false, cond, ◌==◌, refl, sym, ap, subst, ◌∙◌}
use Rattle.std.specs.List.{AllByRecursion}
use Rattle.uri_map.specs.declared.peer.Peer.{Peer}
use Rattle.demo_origin.specs.Peers.{own_mid}
use Rattle.demo_origin.specs.Notifying.{Talk, notified, newer_by, newer, is_busy, is_reached, is_again, once_more, Notifies, Tells, TellsNewer, TellsUnless, TellsOf, TellsFirst, TellsAll, CopiesNewer, CopiesDue, CopiesOf, CopiesBy, CopiesFirst, CopiesAll, without_lost}
use Rattle.demo_origin.specs.declared.state.Datagram.{Datagram}
use Rattle.demo_origin.specs.declared.state.Held.{Held}
use Rattle.demo_origin.specs.declared.state.Notification.{Notification}
use Rattle.demo_origin.specs.declared.state.Observer.{Observer}
use Rattle.demo_origin.proofs.Alls.{all_push, all_filter, all_set, all_at, all_among}

-- what is outstanding was made
abbrev pub NoteMade : (Datagram → Type 0) → Peer → Option Notification → Type 0
NoteMade M p None = Unit {0}
NoteMade M p (Some n) = M (record { peer = p; bytes = n.bytes })

abbrev pub ToldMade : (Datagram → Type 0) → Observer → Type 0
ToldMade M o = NoteMade M o.peer o.outstanding

-- one of those registrations, whatever it was told
pub record Stems (all : List Observer) (o : Observer) : Type 0 where
  pub from : Observer
  pub among : Contains all from
  pub peer : o.peer ≡ from.peer
  pub token : o.token ≡ from.token
  pub place : o.place ≡ from.place

pub stems_itself : (all : List Observer) → AllByRecursion (Stems all) all
stems_itself all =
    all_among (Stems all) all
    (λ o c. record { from = o; among = c; peer = refl; token = refl; place = refl })

pub record TalkMade (M : Datagram → Type 0) (all : List Observer) (k : Talk) : Type 0 where
  pub out : AllByRecursion M k.out
  pub told : AllByRecursion (ToldMade M) k.observers
  pub stems : AllByRecursion (Stems all) k.observers

-- each notification under one of those registrations is made
abbrev pub Announced : (Datagram → Type 0) → List Observer → List Held → ℕ → Type 0
Announced M all rs szx =
    (o : Observer) (p : Peer) (bytes : List ℕ) (h : Held) (mid : ℕ) → Contains all o
    → p ≡ o.peer → slice_get rs o.place ≡ Some h → Notifies o.token mid h szx bytes
    → M (record { peer = p; bytes = bytes })

newer_is : (told : ℕ) (v : Option Held) (h : Held) → newer_by told v ≡ Some h → v ≡ Some h
newer_is told None h e = absurd cc
newer_is told (Some g) h e =
    let P : Bool → Type 0 = λ b. cond b None (Some g) ≡ Some h → Some g ≡ Some h in
    let each : (b : Bool) → P b = λ b. elim b as P [ true ↦ λ f. absurd cc | false ↦ λ f. f ] in
    each (g.version == told) e

module _ (M : Datagram → Type 0) (all : List Observer) (rs : List Held) (t szx : ℕ)
    (made : Announced M all rs szx) where
  tells : (i copies : ℕ) (h : Held) (o : Observer) (old new : Talk)
      → slice_get old.observers i ≡ Some o → slice_get rs o.place ≡ Some h
      → Tells t szx i copies h o old new → TalkMade M all old → TalkMade M all new
  tells i copies h o old new at place x g =
      let s = all_at (Stems all) old.observers i o g.stems at in
      let mid = own_mid o.peer old.clients in
      let P : List ℕ → Type 0 = λ token. Notifies token mid h szx x.bytes in
      let there : slice_get rs s.from.place ≡ Some h =
      ap (λ (n : ℕ). slice_get rs n) (sym s.place) ∙ place in
      let goes : M (record { peer = o.peer; bytes = x.bytes }) =
      made s.from o.peer x.bytes h mid s.among s.peer there (subst P s.token x.notifies) in
      let told : Observer = record o {
        told = h.version;
        outstanding = Some (notified t mid x.bytes copies);
      } in
      let stem : Stems all told = record {
        from = s.from;
        among = s.among;
        peer = s.peer;
        token = s.token;
        place = s.place;
      } in
      let K : Talk → Type 0 = λ k. TalkMade M all k in
      subst K (sym x.is) (record {
        out = all_push M old.out (record { peer = o.peer; bytes = x.bytes }) g.out goes;
        told = all_set (ToldMade M) old.observers i told g.told goes;
        stems = all_set (Stems all) old.observers i told g.stems stem;
      })

  same : (old new : Talk) → new ≡ old → TalkMade M all old → TalkMade M all new
  same old new e g = let K : Talk → Type 0 = λ k. TalkMade M all k in subst K (sym e) g

  tells_newer : (i : ℕ) (v : Option Held) (o : Observer) (old new : Talk)
      → slice_get old.observers i ≡ Some o → newer rs o ≡ v
      → TellsNewer t szx i v o old new → TalkMade M all old → TalkMade M all new
  tells_newer i None o old new at e x g = same old new x g
  tells_newer i (Some h) o old new at e x g =
      tells i 0 h o old new at (newer_is o.told (slice_get rs o.place) h e) x g

  tells_unless : (b : Bool) (i : ℕ) (o : Observer) (old new : Talk)
      → slice_get old.observers i ≡ Some o → TellsUnless b t szx rs i o old new
      → TalkMade M all old → TalkMade M all new
  tells_unless true i o old new at x g = same old new x g
  tells_unless false i o old new at x g = tells_newer i (newer rs o) o old new at refl x g

  tells_of : (i : ℕ) (v : Option Observer) (old new : Talk) → slice_get old.observers i ≡ v
      → TellsOf t szx rs i v old new → TalkMade M all old → TalkMade M all new
  tells_of i None old new at x g = same old new x g
  tells_of i (Some o) old new at x g =
      tells_unless (is_busy o.peer old.observers) i o old new at x g

  tells_first : (n : ℕ) (old new : Talk) → TellsFirst t szx rs n old new
      → TalkMade M all old → TalkMade M all new
  tells_first zero old new x g = same old new x g
  tells_first (suc n) old new x g =
      tells_of n (slice_get x.0.observers n) x.0 new refl x.2 (tells_first n old x.0 x.1 g)

  pub tells_all : (old new : Talk) → TellsAll t szx rs old new
      → TalkMade M all old → TalkMade M all new
  tells_all old new x g = tells_first (length old.observers) old new x g

  copies_newer : (i : ℕ) (n : Notification) (v : Option Held) (o : Observer) (old new : Talk)
      → slice_get old.observers i ≡ Some o → o.outstanding ≡ Some n → newer rs o ≡ v
      → CopiesNewer t szx i n v o old new → TalkMade M all old → TalkMade M all new
  copies_newer i n None o old new at sent e x g =
      let s = all_at (Stems all) old.observers i o g.stems at in
      let P : Option Notification → Type 0 = λ v. NoteMade M o.peer v in
      let goes : M (record { peer = o.peer; bytes = n.bytes }) =
      subst P sent (all_at (ToldMade M) old.observers i o g.told at) in
      let told : Observer = record o { outstanding = Some (once_more t n) } in
      let stem : Stems all told = record {
        from = s.from;
        among = s.among;
        peer = s.peer;
        token = s.token;
        place = s.place;
      } in
      let K : Talk → Type 0 = λ k. TalkMade M all k in
      subst K (sym x) (record {
        out = all_push M old.out (record { peer = o.peer; bytes = n.bytes }) g.out goes;
        told = all_set (ToldMade M) old.observers i told g.told goes;
        stems = all_set (Stems all) old.observers i told g.stems stem;
      })
  copies_newer i n (Some h) o old new at sent e x g =
      tells i (n.copies + 1) h o old new at (newer_is o.told (slice_get rs o.place) h e) x g

  copies_due : (b : Bool) (i : ℕ) (n : Notification) (o : Observer) (old new : Talk)
      → slice_get old.observers i ≡ Some o → o.outstanding ≡ Some n
      → CopiesDue b t szx rs i n o old new → TalkMade M all old → TalkMade M all new
  copies_due false i n o old new at sent x g = same old new x g
  copies_due true i n o old new at sent x g =
      copies_newer i n (newer rs o) o old new at sent refl x g

  copies_of : (i : ℕ) (o : Observer) (v : Option Notification) (old new : Talk)
      → slice_get old.observers i ≡ Some o → o.outstanding ≡ v
      → CopiesOf t szx rs i o v old new → TalkMade M all old → TalkMade M all new
  copies_of i o None old new at sent x g = same old new x g
  copies_of i o (Some n) old new at sent x g =
      copies_due (is_again t n) i n o old new at sent x g

  copies_by : (i : ℕ) (v : Option Observer) (old new : Talk) → slice_get old.observers i ≡ v
      → CopiesBy t szx rs i v old new → TalkMade M all old → TalkMade M all new
  copies_by i None old new at x g = same old new x g
  copies_by i (Some o) old new at x g = copies_of i o o.outstanding old new at refl x g

  copies_first : (n : ℕ) (old new : Talk) → CopiesFirst t szx rs n old new
      → TalkMade M all old → TalkMade M all new
  copies_first zero old new x g = same old new x g
  copies_first (suc n) old new x g =
      copies_by n (slice_get x.0.observers n) x.0 new refl x.2 (copies_first n old x.0 x.1 g)

  pub copies_all : (old new : Talk) → CopiesAll t szx rs old new
      → TalkMade M all old → TalkMade M all new
  copies_all old new x g = copies_first (length old.observers) old new x g

  pub without : (k : Talk) → TalkMade M all k → TalkMade M all (without_lost t k)
  without k g = record {
    out = g.out;
    told = all_filter (ToldMade M) (is_reached t) k.observers g.told;
    stems = all_filter (Stems all) (is_reached t) k.observers g.stems;
  }
