-- That nothing was sent for an ask; and which message was.
use Rattle.std.proofs.Common.{◌≡◌, ℕ, ◌⊎◌, Bool, true, false, eqb, inl, inr, List, [], ◌∷◌, length, Option, Some, None, refl, sym, ap, subst, ◌∙◌, arith}
use Rattle.std.specs.Prelude.{find, option_map, is_none}
use Rattle.std.proofs.lemmas.Bool.Decides.{eqb_tells, leb_tells}
use Rattle.std.proofs.lemmas.Bool.{false≢true, and_parts}
use Rattle.coap_codec.specs.Spelling.{Content}
use Rattle.uri_map.specs.declared.peer.Peer.{Peer}
use Rattle.ask_model.specs.Requests.{CoapRequest}
use Rattle.ask_model.specs.Views.{Ask}
use Rattle.journal_book.specs.Entries.{Mark, Ground, Past, Done, Asked, Sent, Grounds, Deed, Answers, Asks, Hears, Sends, Seals, Carries}
use Rattle.history_laws.specs.Readings.{Noted, Note, First, at, before, noted}
use Rattle.history_laws.specs.Connections.{is_sealed, sealed_by}
use Rattle.history_laws.specs.Progress.{Ending}
use Rattle.history_laws.specs.Transmissions.{FirstSending, firsts, sent_last}
use Rattle.history_laws.specs.Exchanges.{opens_by, Begun, begun, end_of, kept, end_here, end_by, End, turn, goes_to, is_going, waits_for, heard_for}
use Rattle.history_laws.specs.Carrying.{carried}
use Rattle.history_laws.specs.Justified.{MayBeFirst, Follows, Legal}
use Rattle.history_laws.specs.Laws.{IsFirst}
use Rattle.history_claims.proofs.Entries.{grows}
use Rattle.history_claims.proofs.Sending.{sent-in}
use Rattle.history_laws.proofs.CallerLemmas.{all-listed, any-first, at-same, at-still, before-twice, begun-opening, carried-at, carried-before, eqb-itself, eqb-same, find-any, find-some, first-waits, follows-at, IsBygone, none-is, none-some, opened-for, some-is}

-- an ask that opened nothing has none
pub none-for-other : (l : List Noted) (k c s : ℕ) (a : Ask) (note : Note) → Legal l → at l k ≡ Some (noted s (Asks c a) note)
    → ((q : CoapRequest) → opens_by note ≡ Some q → ⊥) → (t i : ℕ) (p : Peer) (m : Content) → IsFirst l t k i p m → ⊥
none-for-other l k c s a note legal e other t i p m f =
    let it = sent-in l t k i p m legal f in
    let opening = begun-opening l k it.exchange it.opened in
    other it.exchange.request (ap (λ (x : Noted). opens_by x.note) (at-same l k _ _ e opening.2) ∙ opening.3)

-- the latest first sending of an exchange
map-none : {X Y : Type 0} (f : X → Y) (o : Option X) → option_map f o ≡ None → o ≡ None
map-none f None e = refl
map-none f (Some x) e = absurd (none-is (f x) e)

pub sent-last-none : (l : List Noted) (t o i : ℕ) (p : Peer) (m : Content) → sent_last l o ≡ None → IsFirst l t o i p m → ⊥
sent-last-none l t o i p m e f =
    let it = find-any (λ (f : FirstSending). eqb f.opening o) (firsts l)
    (any-first (λ (f : FirstSending). eqb f.opening o) l t o i p m f (eqb-itself o)) in
    none-some it.0 (sym (map-none (λ (f : FirstSending). f.number) _ e) ∙ it.1)

-- what isn't a copy
abbrev NoCopy : Deed → Type 0
NoCopy d = (k : ℕ) (mark : Mark) (done : Done) → d ≡ Carries k mark done → ⊥

asks-no-copy : (c : ℕ) (a : Ask) → NoCopy (Asks c a)
asks-no-copy c a k mark done e = cc

hears-no-copy : (p : Peer) (b : List ℕ) → NoCopy (Hears p b)
hears-no-copy p b k mark done e = cc

-- What opens an exchange stands where no copy does, nor the copy of an ask.
no-copy : (l : List Noted) (o t : ℕ) (d : Deed) (note : Note) (f : FirstSending) → Legal l → NoCopy d → at l o ≡ Some (noted t d note) → f.opening ≡ o
    → IsBygone l f → ⊥
no-copy l o t d note f legal never stands_there own copy =
    elim (copy.own) [
      | inl w ↦
          let there = subst (λ (n : ℕ). at l n ≡ Some (noted f.moment (Carries copy.old copy.mark (Sent f.peer copy.bytes copy.timeout)) copy.note)) (sym w.1 ∙ own) copy.stands in
          differs f.moment copy.old copy.mark (Sent f.peer copy.bytes copy.timeout) copy.note (at-same l o _ _ stands_there there)
      | inr w ↦
          let stands = subst (λ (note : Note). at l f.number ≡ Some (noted f.moment (Carries copy.old copy.mark (Sent f.peer copy.bytes copy.timeout)) note)) w copy.stands in
          let exchange = carried-of copy.mark (follows-at l f.number _ legal stands) in
          let it = carried-at l f.opening exchange.0 (carried-before l f.number f.opening exchange.0 exchange.1) in
          differs exchange.0.since it.old Ground (Asked it.conn it.ask) it.note
          (at-same l o _ _ stands_there (subst (λ (n : ℕ). at l n ≡ Some (noted exchange.0.since (Carries it.old Ground (Asked it.conn it.ask)) it.note)) own it.stands))
    ]
  where
    differs : (s k : ℕ) (mark : Mark) (done : Done) (v : Note) → noted t d note ≡ noted s (Carries k mark done) v → ⊥
    differs s k mark done v e = never k mark done (ap (λ (x : Noted). x.written.deed) e)

    carried-of : (mark : Mark) → Follows (before l f.number) f.moment (Carries copy.old mark (Sent f.peer copy.bytes copy.timeout)) (First f.opening f.message)
        → (b : Begun) × (carried (before l f.number) f.opening ≡ Some b)
    carried-of Past may = absurd may.2
    carried-of Ground may = (may.2.1.exchange, may.2.1.asked)

pub sent-last-first : (l : List Noted) (o i : ℕ) (b : Begun) → Legal l → begun l o ≡ Some b → sent_last l o ≡ Some i
    → (t : ℕ) × (p : Peer) × (m : Content) × IsFirst l t o i p m
sent-last-first l o i b legal opened e = go (find (λ (f : FirstSending). eqb f.opening o) (firsts l)) refl e
  where
    never : (f : FirstSending) → f.opening ≡ o → IsBygone l f → ⊥
    never f own copy = elim (opened-for l o b legal opened) [
      | inl it ↦ no-copy l o b.since (Asks it.conn it.ask) it.note f legal (asks-no-copy it.conn it.ask) it.stands own copy
      | inr it ↦ no-copy l o b.since (Hears it.peer it.bytes) _ f legal (hears-no-copy it.peer it.bytes) it.stands own copy
    ]

    go : (f : Option FirstSending) → find (λ (f : FirstSending). eqb f.opening o) (firsts l) ≡ f → option_map (λ (f : FirstSending). f.number) f ≡ Some i
        → (t : ℕ) × (p : Peer) × (m : Content) × IsFirst l t o i p m
    go None is h = absurd (none-some i h)
    go (Some f) is h =
        let it = find-some (λ (f : FirstSending). eqb f.opening o) (firsts l) f is in
        let own = eqb-same f.opening o it.1 in
        elim (all-listed l f it.0) [
          | inl first ↦ (
            f.moment,
            f.peer,
            f.message,
            subst (λ (i : ℕ). IsFirst l f.moment o i f.peer f.message) (some-is f.number i h)
                (subst (λ (o : ℕ). IsFirst l f.moment o f.number f.peer f.message) own first),
          )
          | inr copy ↦ absurd (never f own copy)
        ]

-- Nothing is sent for an exchange that has ended, nor in a sealed journal.
abbrev pub Over : ℕ → List Noted → Type 0
Over o l = (is_none (end_of l o) ≡ false) ⊎ (is_sealed l ≡ true)

ended-still : (how : Option Ending) (n : ℕ) (old : Option End) → is_none old ≡ false → is_none (end_by how n old) ≡ false
ended-still None n old h = h
ended-still (Some w) n None h = absurd (false≢true (sym h))
ended-still (Some w) n (Some f) h = refl

-- An exchange has ended from the entry on that ends it.
pub ended-at : (l : List Noted) (o e : ℕ) (x : Noted) (how : Ending) → at l e ≡ Some x → end_here (begun (before l e) o) (kept (before l e) o) e (heard_for (before l e) o) (turn (before l e) o x) ≡ Some how
    → is_none (end_of l o) ≡ false
ended-at [] o e x how here ends = absurd (none-some x here)
ended-at (y ∷ older) o e x how here ends =
    elim (eqb_tells e (length older)) [
      | inl w ↦
          let same : y ≡ x = some-is y x (rw (w.0) at here) in
          let by : end_here (begun older o) (kept older o) e (heard_for older o) (turn older o x) ≡ Some how = rw (w.0) at ends in
          let this : end_here (begun older o) (kept older o) (length older) (heard_for older o) (turn older o y) ≡ Some how =
          subst (λ (v : Noted). end_here (begun older o) (kept older o) (length older) (heard_for older o) (turn older o v) ≡ Some how) (sym same)
          (subst (λ (n : ℕ). end_here (begun older o) (kept older o) n (heard_for older o) (turn older o x) ≡ Some how) w.1 by) in
          subst (λ (u : Option Ending). is_none (end_by u (length older) (end_of older o)) ≡ false) (sym this) (ended-now how (length older) (end_of older o))
      | inr w ↦
          ended-still (end_here (begun older o) (kept older o) (length older) (heard_for older o) (turn older o y)) (length older) (end_of older o)
          (ended-at older o e x how (rw (w.0) at here) (rw (w.0) at ends))
    ]
  where
    ended-now : (how : Ending) (n : ℕ) (old : Option End) → is_none (end_by (Some how) n old) ≡ false
    ended-now how n None = refl
    ended-now how n (Some f) = refl

pub sealed-still : (d : Deed) (old : Bool) → old ≡ true → sealed_by d old ≡ true
sealed-still Seals old h = refl
sealed-still d old h = h

pub over-still : (o : ℕ) (x : Noted) (l : List Noted) → Over o l → Over o (x ∷ l)
over-still o x l (inl h) = inl (ended-still (end_here (begun l o) (kept l o) (length l) (heard_for l o) (turn l o x)) (length l) (end_of l o) h)
over-still o x l (inr h) = inr (sealed-still x.written.deed (is_sealed l) h)

not-over : (l : List Noted) (t o : ℕ) (p : Peer) (b : List ℕ) (w : Option ℕ) (m : Content) → Over o l → Follows l t (Sends p b w) (First o m) → ⊥
not-over l t o p b w m (inl h) f =
    let may : MayBeFirst l t o p b m w = f.1.1 in
    let going = and_parts (is_going l o) (is_none (waits_for l o)) (and_parts (goes_to p (begun l o)) _ (first-waits l t o p b m w may)).1 in
    false≢true (sym h ∙ going.0)
not-over l t o p b w m (inr h) f = false≢true (sym f.0 ∙ h)

deeds : (s t : ℕ) (p : Peer) (b : List ℕ) (w : Option ℕ) (c k : ℕ) (g : Grounds) (u v : Note) → noted s (Sends p b w) u ≡ noted t (Answers c k g) v → ⊥
deeds s t p b w c k g u v e = go (ap (λ (x : Noted). x.written.deed) e)
  where
    go : Sends p b w ≡ Answers c k g → ⊥
    go f = cc

-- What is sent for an exchange that was over before the answer was sent before that.
pub sent-earlier : (l : List Noted) (n t c k o : ℕ) (g : Grounds) (note : Note) → Legal l → at l n ≡ Some (noted t (Answers c k g) note)
    → Over o (before l n) → (s i : ℕ) (p : Peer) (m : Content) → IsFirst l s o i p m → IsFirst (before l n) s o i p m
sent-earlier l n t c k o g note legal here over s i p m f =
    elim (leb_tells n i) [
      | inl w ↦ elim (eqb_tells n i) [
        | inl u ↦ absurd (deeds s t p f.bytes f.timeout c k g _ _ (at-same l i _ _ f.stands (subst (λ (n : ℕ). at l n ≡ Some (noted t (Answers c k g) note)) u.1 here)))
        | inr u ↦
            let le = w.1 in
            let not = u.1 in
            let twice = before-twice l i n _ f.stands (omega (arith, le, not)) in
            let still = grows (Over o) (over-still o) (before l i) n (subst (Over o) (sym twice) over) in
            absurd (not-over (before l i) s o p f.bytes f.timeout m still (follows-at l i _ legal f.stands))
      ]
      | inr w ↦ record { bytes = f.bytes; timeout = f.timeout; stands = at-still l n i _ _ here w.1 f.stands }
    ]
