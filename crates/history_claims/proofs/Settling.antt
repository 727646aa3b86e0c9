-- An empty ACK or RST with the ID of a message ends its sending.
use Rattle.std.proofs.Common.{◌≡◌, ℕ, Bool, true, false, cond, eqb, List, [], ◌∷◌, Option, Some, None, refl, sym, ap, subst, ◌∙◌}
use Rattle.std.specs.Prelude.{find, option_map, option_to_list}
use Rattle.std.specs.Str.{bytes_eq}
use Rattle.std.proofs.lemmas.Bool.{false≢true, and_parts}
use Rattle.std.proofs.lemmas.Slice.Eq.{bytes_eq-Decides}
use Rattle.coap_codec.specs.declared.message.MsgType.TheVariants.{Ack, Rst}
use Rattle.coap_codec.specs.Spelling.{Content, Spells}
use Rattle.coap_codec.proofs.Unique.{spells_one}
use Rattle.uri_map.specs.declared.peer.Peer.{Peer}
use Rattle.uri_map.specs.Peers.{same_peer}
use Rattle.uri_map.proofs.CallerLemmas.{same_peer-itself}
use Rattle.journal_book.specs.Entries.{Hears}
use Rattle.history_laws.specs.Confirmations.{empty}
use Rattle.history_laws.specs.Readings.{Noted, Note, Says, Repeats, Garbled, Notice, noted}
use Rattle.history_laws.specs.Transmissions.{FirstSending, firsts, first_at, Transmission, transmission, outstanding}
use Rattle.history_laws.specs.Hearing.{is_such, heard_before, repeated, went_under, went_as, is_under, is_as, open_at, answers}
use Rattle.history_laws.specs.Justified.{MaySay, Follows, Legal}
use Rattle.history_laws.specs.Laws.{IsFirst}
use Rattle.history_laws.proofs.CallerLemmas.{eqb-itself, eqb-same, find-some, first-found, firsts-tokens, none-some, outstanding-last}
use Rattle.history_claims.proofs.Sending.{sending_of, first-member}

-- what ends the sending of a message, beside a response
pub data Settles (m sent : Content) : Type 0 where
  confirms : m ≡ empty Ack sent.mid → Settles m sent
  rejects : m ≡ empty Rst sent.mid → Settles m sent

-- what is outstanding at a peer
open-is : (l : List Noted) (t o i : ℕ) (p : Peer) (m : Content) (y : Transmission) → Legal l → IsFirst l t o i p m → transmission l i ≡ Some y
    → open_at l p ≡ i ∷ []
open-is l t o i p m y legal f e =
    let last = outstanding-last l t o i p m y legal f e in
    let g : FirstSending = last.0 in
    let on_way : transmission l g.number ≡ Some y = subst (λ (i : ℕ). transmission l i ≡ Some y) (sym last.2) e in
    let found : outstanding l p ≡ Some g = rw (last.1, on_way) refl in
    ap (λ (f : Option FirstSending). option_to_list (option_map (λ (f : FirstSending). f.number) f)) found
    ∙ ap (λ (i : ℕ). i ∷ []) last.2

-- a first sending is found by its number
pub as-true : (l : List Noted) (t o i : ℕ) (p : Peer) (m n : Content) → IsFirst l t o i p m → n.mid ≡ m.mid → is_as l p n i ≡ true
as-true l t o i p m n f e =
    subst (λ (x : Option FirstSending). went_as p n.mid x ≡ true) (sym (first-found l t o i p m f))
    (rw (same_peer-itself p, e) (eqb-itself m.mid))

pub under-true : (l : List Noted) (t o i : ℕ) (p : Peer) (m n : Content) → IsFirst l t o i p m → n.token ≡ m.token → is_under l p n i ≡ true
under-true l t o i p m n f e =
    subst (λ (x : Option FirstSending). went_under p n.token x ≡ true) (sym (first-found l t o i p m f))
    (rw (same_peer-itself p) ((bytes_eq-Decides m.token n.token).1 (sym e)))

-- what is found under a token is the message that bears it
pub under-is : (l : List Noted) (t o i j : ℕ) (p : Peer) (m n : Content) → Legal l → IsFirst l t o i p m → n.token ≡ m.token → is_under l p n j ≡ true → j ≡ i
under-is l t o i j p m n legal f e h = go (first_at l j) refl h
  where
    go : (x : Option FirstSending) → first_at l j ≡ x → went_under p n.token x ≡ true → j ≡ i
    go None is h = absurd (false≢true h)
    go (Some g) is h =
        let both = and_parts (same_peer g.peer p) (bytes_eq g.message.token n.token) h in
        let token : g.message.token ≡ n.token = (bytes_eq-Decides g.message.token n.token).0 both.1 in
        let it = find-some (λ (f : FirstSending). eqb f.number j) (firsts l) g is in
        sym (eqb-same g.number j it.1)
        ∙ firsts-tokens l g (sending_of i t o p m) legal it.0 (first-member l t o i p m f) (token ∙ e)

find-here : (p : ℕ → Bool) (i : ℕ) → p i ≡ true → find p (i ∷ []) ≡ Some i
find-here p i e = rw e refl

module _ (l : List Noted) (t o i : ℕ) (p : Peer) (m : Content) (y : Transmission) (legal : Legal l) (f : IsFirst l t o i p m) (e : transmission l i ≡ Some y) where
  among-open : (n : Content) → n.mid ≡ m.mid → find (is_as l p n) (open_at l p) ≡ Some i
  among-open n same =
      subst (λ (js : List ℕ). find (is_as l p n) js ≡ Some i) (sym (open-is l t o i p m y legal f e))
      (find-here (is_as l p n) i (as-true l t o i p m n f same))

  settling : (n : Content) → Settles n m → answers l p n ≡ Some i
  settling n (confirms is) =
      subst (λ (n : Content). answers l p n ≡ Some i) (sym is) (among-open (empty Ack m.mid) refl)
  settling n (rejects is) =
      subst (λ (n : Content). answers l p n ≡ Some i) (sym is) (among-open (empty Rst m.mid) refl)

-- no CON and no NON settles a message
settles-none : (n m : Content) → Settles n m → is_such n.kind ≡ false
settles-none n m (confirms is) = ap (λ (n : Content). is_such n.kind) is
settles-none n m (rejects is) = ap (λ (n : Content). is_such n.kind) is

no-repeat : (l : List Noted) (s : ℕ) (p : Peer) (n m : Content) (j : ℕ) → Settles n m → repeated l s p n ≡ Some j → ⊥
no-repeat l s p n m j settles e =
    none-some j (subst (λ (b : Bool). cond b (heard_before l s p n.mid) None ≡ Some j) (settles-none n m settles) e)

said-to : (l : List Noted) (s i : ℕ) (p : Peer) (b : List ℕ) (n : Content) (to : Option ℕ) (notice : Notice) (y : Transmission) → to ≡ Some i
    → transmission (noted s (Hears p b) (Says n to notice) ∷ l) i ≡ Some y → ⊥
said-to l s i p b n to notice y is e =
    none-some y (rw (eqb-itself i) at (subst (λ (to : Option ℕ). transmission (noted s (Hears p b) (Says n to notice) ∷ l) i ≡ Some y) is e))

says-to : (n m : Content) (i j : Option ℕ) (u v : Notice) → Says n i u ≡ Says m j v → i ≡ j
says-to n m i j u v e = cc

-- After it the message is no longer outstanding.
pub settled : (l : List Noted) (t o i : ℕ) (p : Peer) (m : Content) (y z : Transmission) (s : ℕ) (b : List ℕ) (note : Note) (n : Content)
    → Legal l → IsFirst l t o i p m → transmission l i ≡ Some y → Follows l s (Hears p b) note → Spells n b → Settles n m
    → transmission (noted s (Hears p b) note ∷ l) i ≡ Some z → ⊥
settled l t o i p m y z s b (Says k to notice) n legal f e may spelled settles after =
    let says : MaySay l s p b (Says k to notice) k = may.3 in
    let same : k ≡ n = spells_one k n b says.spelled spelled in
    let found : answers l p k ≡ Some i = subst (λ (n : Content). answers l p n ≡ Some i) (sym same) (settling l t o i p m y legal f e n settles) in
    said-to l s i p b k to notice z (says-to k k to _ notice _ says.says ∙ found) after
settled l t o i p m y z s b (Repeats k j) n legal f e may spelled settles after =
    let same : k ≡ n = spells_one k n b may.3.0 spelled in
    no-repeat l s p n m j settles (subst (λ (n : Content). repeated l s p n ≡ Some j) same may.3.1)
settled l t o i p m y z s b Garbled n legal f e may spelled settles after = may.3.1 n spelled
settled l t o i p m y z s b note n legal f e may spelled settles after = absurd may.3
