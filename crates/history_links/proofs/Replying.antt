-- What a message that is new does to exchanges and to messages on their way.
use Rattle.std.proofs.Common.{◌≡◌, ℕ, Bool, true, false, cond, eqb, leb, List, [], ◌∷◌, ◌++◌, length, Option, Some, None, inl, inr, refl, sym, ap, subst, ◌∙◌, append-nil}
use Rattle.std.specs.Prelude.{◌&&◌, filter, not, is_none}
use Rattle.std.specs.List.{AllByRecursion, list_any, filter_map}
use Rattle.std.proofs.lemmas.List.Elements.{filter_map-append}
use Rattle.std.proofs.lemmas.Bool.Decides.{eqb_tells}
use Rattle.std.proofs.lemmas.Bool.{false≢true, or_parts}
use Rattle.coap_codec.specs.declared.message.MsgType.{MsgType}
use Rattle.coap_codec.specs.declared.message.MsgType.TheVariants.{Con, Non, Ack, Rst}
use Rattle.coap_codec.specs.Spelling.{Content}
use Rattle.uri_map.specs.declared.peer.Peer.{Peer}
use Rattle.ask_model.specs.Requests.{CoapRequest}
use Rattle.journal_book.specs.Entries.{Hears}
use Rattle.history_laws.specs.Readings.{Noted, Says, Notice, noted}
use Rattle.history_laws.specs.Transmissions.{transmission}
use Rattle.history_laws.specs.Exchanges.{Turn, Nothing, Replied, answered_by, heard_turn, turn, waits_by, waits_for, openings, heard_for, end_here, end_by, end_of, is_going, is_waiting, is_submitted_at, is_issued_at, issued, submitted, waiting, begun, kept, started_by, opened_by, awaited}
use Rattle.history_laws.specs.Justified.{Legal}
use Rattle.history_laws.proofs.CallerLemmas.{all-more, begun-keeps, filter-all, filter-none, not-yet, unbegun, waiting-all, waiting-begun, waiting-goes, waiting-unsent}
use Rattle.history_links.specs.Steps.{NoneGoesOn}

abbrev pub says : ℕ → Peer → List ℕ → Content → Option ℕ → Notice → Noted
says t p d m to u = noted t (Hears p d) (Says m to u)

-- it answers the first sending with this number
abbrev pub is_to : Option ℕ → ℕ → Bool
is_to None i = false
is_to (Some j) i = eqb j i

-- it is a reply or a Reset message, and no empty ACK
abbrev pub ends_by : MsgType → ℕ → Bool
ends_by Rst code = true
ends_by k code = leb 32 code

abbrev pub ends_what : Option ℕ → Content → ℕ → Bool
ends_what to m i = is_to to i && ends_by m.kind m.code

pub way-after : (l : List Noted) (t : ℕ) (p : Peer) (d : List ℕ) (m : Content) (to : Option ℕ) (u : Notice) (i : ℕ)
    → transmission (says t p d m to u ∷ l) i ≡ cond (is_to to i) None (transmission l i)
way-after l t p d m None u i = refl
way-after l t p d m (Some j) u i = refl

-- the turn of an exchange, and what it leaves

abbrev pub hit : Option ℕ → Content → Option ℕ → Bool
hit to m None = false
hit to m (Some i) = ends_what to m i

-- what it leaves that waited, and where it is nothing to the exchange
record Effect (turned : Turn) (waits : Option ℕ) (b : Bool) : Type 0 where
  waits_are : waits_by turned waits ≡ cond b None waits
  still : b ≡ false → turned ≡ Nothing

effect-kind : (i : ℕ) (m : Content) (place : Bool) (k : MsgType) (w : ℕ) → Effect (answered_by i m place k) (Some w) (ends_by k m.code)
effect-kind i m place Rst w = record { waits_are = refl; still = λ e. absurd (false≢true (sym e)) }
effect-kind i m place Con w = by (leb 32 m.code)
  where
    by : (b : Bool) → Effect (cond b (Replied i m place) Nothing) (Some w) b
    by true = record { waits_are = refl; still = λ e. absurd (false≢true (sym e)) }
    by false = record { waits_are = refl; still = λ e. refl }
effect-kind i m place Non w = by (leb 32 m.code)
  where
    by : (b : Bool) → Effect (cond b (Replied i m place) Nothing) (Some w) b
    by true = record { waits_are = refl; still = λ e. absurd (false≢true (sym e)) }
    by false = record { waits_are = refl; still = λ e. refl }
effect-kind i m place Ack w = by (leb 32 m.code)
  where
    by : (b : Bool) → Effect (cond b (Replied i m place) Nothing) (Some w) b
    by true = record { waits_are = refl; still = λ e. absurd (false≢true (sym e)) }
    by false = record { waits_are = refl; still = λ e. refl }

turn-of : Option ℕ → Content → Bool → Option ℕ → Turn
turn-of None m place waits = Nothing
turn-of (Some i) m place waits = heard_turn i m place waits

effect : (to : Option ℕ) (m : Content) (place : Bool) (waits : Option ℕ) → Effect (turn-of to m place waits) waits (hit to m waits)
unfolding turn-of
effect None m place None = record { waits_are = refl; still = λ e. refl }
effect None m place (Some w) = record { waits_are = refl; still = λ e. refl }
effect (Some i) m place None = record { waits_are = refl; still = λ e. refl }
effect (Some i) m place (Some w) = elim (eqb_tells w i) [
  | inl e ↦
      let turned : eqb i w ≡ true = elim (eqb_tells i w) [ inl f ↦ f.0 | inr f ↦ absurd (f.1 (sym e.1)) ] in
      rw (e.0, turned) (effect-kind i m place m.kind w)
  | inr e ↦
      let turned : eqb i w ≡ false = elim (eqb_tells i w) [ inl f ↦ absurd (e.1 (sym f.1)) | inr f ↦ f.0 ] in
      rw (e.0, turned) (record { waits_are = refl; still = λ e. refl })
]

turn-is : (l : List Noted) (t : ℕ) (p : Peer) (d : List ℕ) (m : Content) (to : Option ℕ) (u : Notice) (q : ℕ)
    → turn l q (says t p d m to u) ≡ turn-of to m u.place (waits_for l q)
unfolding turn-of
turn-is l t p d m None u q = refl
turn-is l t p d m (Some i) u q = refl

pub waits-after : (l : List Noted) (t : ℕ) (p : Peer) (d : List ℕ) (m : Content) (to : Option ℕ) (u : Notice) (q : ℕ)
    → waits_for (says t p d m to u ∷ l) q ≡ cond (hit to m (waits_for l q)) None (waits_for l q)
waits-after l t p d m to u q =
    ap (λ (v : Turn). waits_by v (waits_for l q)) (turn-is l t p d m to u q) ∙ (effect to m u.place (waits_for l q)).waits_are

-- It is nothing to an exchange whose latest message it doesn't answer.
pub still-after : (l : List Noted) (t : ℕ) (p : Peer) (d : List ℕ) (m : Content) (to : Option ℕ) (u : Notice) (q : ℕ)
    → hit to m (waits_for l q) ≡ false → turn l q (says t p d m to u) ≡ Nothing
still-after l t p d m to u q e = turn-is l t p d m to u q ∙ (effect to m u.place (waits_for l q)).still e

pub going-still : (l : List Noted) (t : ℕ) (p : Peer) (d : List ℕ) (m : Content) (to : Option ℕ) (u : Notice) (q : ℕ)
    → hit to m (waits_for l q) ≡ false → end_of (says t p d m to u ∷ l) q ≡ end_of l q
going-still l t p d m to u q e =
    ap (λ (v : Turn). end_by (end_here (begun l q) (kept l q) (length l) (heard_for l q) v) (length l) (end_of l q)) (still-after l t p d m to u q e)

-- Who waits for a turn waits on.
pub waiting-on : (l : List Noted) (t : ℕ) (p r : Peer) (d : List ℕ) (m : Content) (to : Option ℕ) (u : Notice) (q : ℕ)
    → is_waiting l r q ≡ true → is_waiting (says t p d m to u ∷ l) r q ≡ true
waiting-on l t p r d m to u q e =
    let none = waiting-unsent l r q e in
    let miss : hit to m (waits_for l q) ≡ false = ap (hit to m) none in
    let unsent : waits_for (says t p d m to u ∷ l) q ≡ waits_for l q = waits-after l t p d m to u q ∙ rw (none) refl in
    let b = waiting-begun l r q e in
    let same : begun (says t p d m to u ∷ l) q ≡ begun l q = begun-keeps (says t p d m to u) l q b.0 b.1 ∙ sym b.1 in
    rw (same, going-still l t p d m to u q miss, unsent) e

-- What it opens awaits nothing yet.
pub awaited-says : (l : List Noted) (t : ℕ) (p : Peer) (d : List ℕ) (m : Content) (to : Option ℕ) (u : Notice) → Legal l
    → awaited (says t p d m to u ∷ l) ≡ filter_map (waits_for (says t p d m to u ∷ l)) (openings l)
awaited-says l t p d m to u legal = by (started_by u.observation) refl
  where
    unsent : waits_for (says t p d m to u ∷ l) (length l) ≡ None
    unsent = let none = (unbegun l (length l) legal (not-yet l)).0 in waits-after l t p d m to u (length l) ∙ rw (none) refl

    by : (q : Option CoapRequest) → started_by u.observation ≡ q
        → filter_map (waits_for (says t p d m to u ∷ l)) (openings (says t p d m to u ∷ l)) ≡ filter_map (waits_for (says t p d m to u ∷ l)) (openings l)
    by None e = ap (λ (q : Option CoapRequest). filter_map (waits_for (says t p d m to u ∷ l)) (opened_by (length l) q (openings l))) e
    by (Some q) e =
        ap (λ (q : Option CoapRequest). filter_map (waits_for (says t p d m to u ∷ l)) (opened_by (length l) q (openings l))) e
        ∙ (filter_map-append (waits_for (says t p d m to u ∷ l)) (openings l) (length l ∷ [])
        ∙ (ap (λ (v : List ℕ). filter_map (waits_for (says t p d m to u ∷ l)) (openings l) ++ v) none
        ∙ append-nil (filter_map (waits_for (says t p d m to u ∷ l)) (openings l))))
      where
        none : filter_map (waits_for (says t p d m to u ∷ l)) (length l ∷ []) ≡ []
        none = rw (unsent) refl

-- what is awaited
pub awaited-after : (f : ℕ → Bool) (to : Option ℕ) (m : Content) (now old : ℕ → Option ℕ) → ((q : ℕ) → now q ≡ cond (hit to m (old q)) None (old q)) → (os : List ℕ)
    → list_any f (filter_map now os) ≡ list_any (λ (i : ℕ). not (ends_what to m i) && f i) (filter_map old os)
awaited-after f to m now old is [] = refl
awaited-after f to m now old is (q ∷ os) = by (old q) refl (awaited-after f to m now old is os)
  where
    by : (v : Option ℕ) → old q ≡ v → list_any f (filter_map now os) ≡ list_any (λ (i : ℕ). not (ends_what to m i) && f i) (filter_map old os)
        → list_any f (filter_map now (q ∷ os)) ≡ list_any (λ (i : ℕ). not (ends_what to m i) && f i) (filter_map old (q ∷ os))
    by None e ih = rw (is q, e) ih
    by (Some i) e ih = hits (ends_what to m i) refl
      where
        hits : (b : Bool) → ends_what to m i ≡ b → list_any f (filter_map now (q ∷ os)) ≡ list_any (λ (i : ℕ). not (ends_what to m i) && f i) (filter_map old (q ∷ os))
        hits true h = rw (is q, e, h) ih
        hits false h = rw (is q, e, h, ih) refl

-- The queue after it: what waited, and then what is submitted by it.

pub queue-after : (l : List Noted) (t : ℕ) (p r : Peer) (d : List ℕ) (m : Content) (to : Option ℕ) (u : Notice)
    → waiting (says t p d m to u ∷ l) r
    ≡ waiting l r ++ filter (is_submitted_at (says t p d m to u ∷ l) r (length l)) (openings (says t p d m to u ∷ l))
queue-after l t p r d m to u =
    let n = says t p d m to u ∷ l in
    ap (λ (v : List ℕ). v ++ filter (is_submitted_at n r (length l)) (openings n))
    (filter-all (is_waiting n r) (waiting l r) (all-more (λ (o : ℕ). is_waiting l r o ≡ true) (λ (o : ℕ). is_waiting n r o ≡ true)
    (waiting-on l t p r d m to u) (waiting l r) (waiting-all l r)))

-- Where no exchange goes on, nothing is.
pub none-goes : (l : List Noted) (x : Noted) (r : Peer) → NoneGoesOn l x → filter (is_submitted_at (x ∷ l) r (length l)) (openings (x ∷ l)) ≡ []
none-goes l x r none =
    filter-none (is_submitted_at (x ∷ l) r (length l)) (openings (x ∷ l)) (by (openings (x ∷ l)) none)
  where
    both : (a g : Bool) (w : Bool) → (a && g) ≡ false → (w ≡ true → g ≡ true) → (a && w) ≡ false
    both true g true e h = absurd (false≢true (sym e ∙ h refl))
    both true g false e h = refl
    both false g w e h = refl

    by : (os : List ℕ) → list_any (is_issued_at (x ∷ l) (length l)) os ≡ false → AllByRecursion (λ (o : ℕ). is_submitted_at (x ∷ l) r (length l) o ≡ false) os
    by [] e = tt
    by (o ∷ os) e =
        let parts = or_parts (is_issued_at (x ∷ l) (length l) o) (list_any (is_issued_at (x ∷ l) (length l)) os) e in
        (both (eqb (submitted (x ∷ l) o) (length l)) (is_going (x ∷ l) o) (is_waiting (x ∷ l) r o) parts.0 (λ w. ap is_none (waiting-goes (x ∷ l) r o w)), by os parts.1)

pub issued-none : (l : List Noted) (t : ℕ) (p : Peer) (d : List ℕ) (m : Content) (to : Option ℕ) (u : Notice)
    → NoneGoesOn l (says t p d m to u) → issued (says t p d m to u ∷ l) ≡ issued l
issued-none l t p d m to u none = rw (none) refl
