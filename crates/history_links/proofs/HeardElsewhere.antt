-- What is heard from another peer leaves the link.
use Rattle.std.proofs.Common.{◌≡◌, ℕ, Bool, true, false, eqb, inl, inr, List, [], ◌∷◌, length, Option, Some, None, refl, sym, ap, subst, ◌∙◌, arith}
use Rattle.std.specs.Prelude.{◌&&◌, filter, is_none, is_some, ◌||◌}
use Rattle.std.specs.List.{list_any}
use Rattle.std.specs.List.{Contains}
use Rattle.std.proofs.lemmas.Bool.{false≢true}
use Rattle.std.proofs.lemmas.Bool.Decides.{eqb_tells}
use Rattle.coap_codec.specs.Spelling.{Content}
use Rattle.uri_map.specs.declared.peer.Peer.{Peer}
use Rattle.uri_map.specs.Peers.{same_peer}
use Rattle.journal_book.specs.Entries.{Hears}
use Rattle.history_laws.specs.Readings.{Noted, Says, Notice, noted}
use Rattle.history_laws.specs.Transmissions.{FirstSending, first_at, last_sent}
use Rattle.ask_model.specs.Requests.{CoapRequest}
use Rattle.history_laws.specs.Exchanges.{Begun, begun_by, begun, started_by, openings, waits_for, awaited, goes_to, is_going, is_waiting, is_submitted_at, submitted}
use Rattle.history_laws.specs.Hearing.{is_such, is_live, went_under, went_as}
use Rattle.history_laws.specs.Justified.{Legal}
use Rattle.history_laws.proofs.CallerLemmas.{and-left, and-right, at-keeps, begun-below, begun-keeps, begun-listed, eqb-same, filter-none, first-found, is-some, listed-begun, listed-are, none-some, sent-for, some-is, submits-by, turn-replied, waits-first}
use Rattle.history_links.specs.Agrees.{awaits, notified}
use Rattle.history_links.specs.Steps.{SaysElsewhere}
use Rattle.history_links.proofs.Still.{since, heard-at, heard-still}
use Rattle.history_links.proofs.Replying.{says, is_to, ends_by, ends_what, way-after, waits-after, awaited-after, awaited-says}
use Rattle.history_links.proofs.Judging.{token-found}
use Rattle.history_links.proofs.Saying.{asked-once, waits-on}
use Rattle.history_links.proofs.OtherPeers.{number-differs, nothing-found, turn-where}

not-live : (t u : ℕ) (p r : Peer) (d : List ℕ) (m : Content) (to : Option ℕ) (notice : Notice) → same_peer r p ≡ false → is_live u p t (Hears r d) (Says m to notice) ≡ false
not-live t u p r d m to notice e = rw (e) (by (is_such m.kind))
  where
    by : (b : Bool) → (b && false) ≡ false
    by true = refl
    by false = refl

-- what it answers is no message to the peer
abbrev IsElsewhere : List Noted → Peer → Option ℕ → Type 0
IsElsewhere l p to = (i : ℕ) (g : FirstSending) → to ≡ Some i → first_at l i ≡ Some g → same_peer g.peer p ≡ false

not-to : (l : List Noted) (p : Peer) (to : Option ℕ) → IsElsewhere l p to → (f : FirstSending) → last_sent l p ≡ Some f → is_to to f.number ≡ false
not-to l p None other f last = refl
not-to l p (Some i) other f last = by (first_at l i) refl
  where
    by : (v : Option FirstSending) → first_at l i ≡ v → eqb i f.number ≡ false
    by (Some g) e = number-differs l p i g f e (other i g refl e) last
    by None e = nothing-found l p i f e last

under-elsewhere : (l : List Noted) (p : Peer) (to : Option ℕ) (m : Content) → IsElsewhere l p to → (i : ℕ) (token : List ℕ) → went_under p token (first_at l i) ≡ true
    → ends_what to m i ≡ false
under-elsewhere l p None m other i token e = refl
under-elsewhere l p (Some j) m other i token e = by (eqb j i) refl
  where
    same-number : eqb j i ≡ true → j ≡ i
    same-number h = elim (eqb_tells j i) [ inl w ↦ w.1 | inr w ↦ absurd (false≢true (sym w.0 ∙ h)) ]

    by : (b : Bool) → eqb j i ≡ b → (b && ends_by m.kind m.code) ≡ false
    by false h = refl
    by true h =
        let g = token-found p token (first_at l i) e in
        let peer : same_peer g.0.peer p ≡ true = and-left (same_peer g.0.peer p) _ (subst (λ (v : Option FirstSending). went_under p token v ≡ true) g.1 e) in
        absurd (false≢true (sym (other j g.0 refl (ap (first_at l) (same-number h) ∙ g.1)) ∙ peer))

-- Nor does an exchange with the peer go on by it.
said-to : (t : ℕ) (p : Peer) (d : List ℕ) (m : Content) (to : Option ℕ) (u : Notice) (s i : ℕ) (r : Peer) (b : List ℕ) (n : Content) (v : Notice)
    → says t p d m to u ≡ noted s (Hears r b) (Says n (Some i) v) → to ≡ Some i
said-to t p d m to u s i r b n v e = note (ap (λ (x : Noted). x.note) e)
  where
    note : Says m to u ≡ Says n (Some i) v → to ≡ Some i
    note f = cc

not-here : (l : List Noted) (t : ℕ) (p r : Peer) (d : List ℕ) (m : Content) (to : Option ℕ) (u : Notice) → Legal l → IsElsewhere l p to
    → (o : ℕ) → Contains (openings l) o → is_submitted_at (says t r d m to u ∷ l) p (length l) o ≡ false
not-here l t p r d m to u legal other o has = by (is_submitted_at n p (length l) o) refl
  where
    x : Noted
    x = says t r d m to u

    n : List Noted
    n = x ∷ l

    by : (b : Bool) → is_submitted_at n p (length l) o ≡ b → b ≡ false
    by false e = refl
    by true e =
        let b = is-some (begun l o) (listed-begun l o has) in
        let here = eqb-same (submitted n o) (length l) (and-left _ (is_waiting n p o) e) in
        let waits : is_waiting n p o ≡ true = and-right (eqb (submitted n o) (length l)) _ e in
        let goes : goes_to p (Some b.0) ≡ true = subst (λ (v : Option Begun). goes_to p v ≡ true) (begun-keeps x l o b.0 b.1) (and-left (goes_to p (begun n o)) (is_going n o && is_none (waits_for n o)) waits) in
        elim (submits-by x l o here) [
          | inl opened ↦ let below = begun-below l o b.0 b.1 in absurd (omega (arith, opened, below))
          | inr it ↦
              let turned = turn-replied l o x it.0 it.1 it.2 it.3 in
              let is : to ≡ Some it.0 = said-to t r d m to u _ it.0 turned.peer turned.bytes it.1 turned.notice turned.entry in
              let sent = waits-first l o it.0 turned.waited in
              let asks = sent-for l sent.0 o it.0 sent.1 sent.2 legal sent.3 in
              let same : asks.exchange ≡ b.0 = some-is _ _ (sym asks.opened ∙ b.1) in
              let peer : sent.1 ≡ b.0.request.peer = asks.peer ∙ ap (λ (v : Begun). v.request.peer) same in
              let apart : same_peer sent.1 p ≡ false = other it.0 _ is (first-found l sent.0 o it.0 sent.1 sent.2 sent.3) in
              sym goes ∙ subst (λ (q : Peer). same_peer q p ≡ false) peer apart
        ]

opened-now : (l : List Noted) (t : ℕ) (r : Peer) (d : List ℕ) (m : Content) (to : Option ℕ) (u : Notice) (o : ℕ) (b : Begun) → begun l o ≡ None
    → begun (says t r d m to u ∷ l) o ≡ Some b → started_by u.observation ≡ Some b.request
opened-now l t r d m to u o b none opened = by (started_by u.observation) (eqb (length l) o) opened
  where
    by : (q : Option CoapRequest) (here : Bool) → begun_by q here t (begun l o) ≡ Some b → q ≡ Some b.request
    by None here e = absurd (none-some b (sym none ∙ e))
    by (Some q) true e = ap (λ (c : Begun). Some c.request) (some-is _ _ e)
    by (Some q) false e = absurd (none-some b (sym none ∙ e))

none-here : (l : List Noted) (t : ℕ) (p r : Peer) (d : List ℕ) (m : Content) (to : Option ℕ) (u : Notice) → Legal l → IsElsewhere l p to
    → ((q : CoapRequest) → started_by u.observation ≡ Some q → same_peer q.peer p ≡ false)
    → filter (is_submitted_at (says t r d m to u ∷ l) p (length l)) (openings (says t r d m to u ∷ l)) ≡ []
none-here l t p r d m to u legal other starts =
    filter-none (is_submitted_at n p (length l)) (openings n)
    (listed-are (λ (o : ℕ). is_submitted_at n p (length l) o ≡ false) (openings n) (λ o has. by o (is-some (begun n o) (listed-begun n o has))))
  where
    n : List Noted
    n = says t r d m to u ∷ l

    not-and : (b c : Bool) → c ≡ false → (b && c) ≡ false
    not-and true c e = e
    not-and false c e = refl

    no-left : (b c : Bool) → b ≡ false → (b && c) ≡ false
    no-left true c e = absurd (false≢true (sym e))
    no-left false c e = refl

    -- what it opens is with another peer
    new : (o : ℕ) → begun l o ≡ None → (b : Begun) → begun n o ≡ Some b → is_submitted_at n p (length l) o ≡ false
    new o none b opened =
        let it = opened-now l t r d m to u o b none opened in
        let off : goes_to p (begun n o) ≡ false = ap (goes_to p) opened ∙ starts b.request it in
        not-and (eqb (submitted n o) (length l)) (is_waiting n p o) (no-left (goes_to p (begun n o)) (is_going n o && is_none (waits_for n o)) off)

    by : (o : ℕ) → (b : Begun) × (begun n o ≡ Some b) → is_submitted_at n p (length l) o ≡ false
    by o opened = old (begun l o) refl
      where
        old : (v : Option Begun) → begun l o ≡ v → is_submitted_at n p (length l) o ≡ false
        old None e = new o e opened.0 opened.1
        old (Some c) e = not-here l t p r d m to u legal other o (begun-listed l o (ap is_some e))

pub says-elsewhere : SaysElsewhere
says-elsewhere start l t p r s d m to u b e other starts same =
    let a = b.agrees in
    let n = says t r d m to u ∷ l in
    record {
      turn = turn-where l n p (λ i x h. at-keeps (says t r d m to u) l i x h) refl
          (λ f last. way-after l t r d m to u f.number ∙ rw (not-to l p to other f last) refl) s.outstanding a.turn;
      known = a.known;
      last = λ w after. a.last w (since l b.later after);
      count_up = λ w after. a.count_up w (since l b.later after);
      given = λ w after. a.given w (since l b.later after);
      waits = waits-on start l t r p d m to u s.waiting a.waits (none-here l t p r d m to u b.legal other starts);
      awaits = λ token.
          a.awaits token
          ∙ (ap (λ (v : Bool). v || notified l p token)
          (sym (asked-once (λ (i : ℕ). went_under p token (first_at l i)) (ends_what to m) false (awaited l) (λ i x h. under-elsewhere l p to m other i token h))
          ∙ (sym (awaited-after (λ (i : ℕ). went_under p token (first_at l i)) to m (waits_for n) (waits_for l) (waits-after l t r d m to u) (openings l))
          ∙ sym (ap (list_any (λ (i : ℕ). went_under p token (first_at l i))) (awaited-says l t r d m to u b.legal))))
          ∙ ap (λ (v : Bool). awaits n p token || v) (sym (same token)));
      acks = λ mid token.
          a.acks mid token
          ∙ (sym (asked-once (λ (i : ℕ). went_under p token (first_at l i) && went_as p mid (first_at l i)) (ends_what to m) false (awaited l)
          (λ i x h. under-elsewhere l p to m other i token (and-left (went_under p token (first_at l i)) _ h)))
          ∙ (sym (awaited-after (λ (i : ℕ). went_under p token (first_at l i) && went_as p mid (first_at l i)) to m (waits_for n) (waits_for l) (waits-after l t r d m to u) (openings l))
          ∙ sym (ap (list_any (λ (i : ℕ). went_under p token (first_at l i) && went_as p mid (first_at l i))) (awaited-says l t r d m to u b.legal))));
      heard = heard-still l n p s.heard (record {
        later = b.later;
        before = λ w mid. rw (not-live t w p r d m to u e) refl;
        live = λ w. rw (not-live t w p r d m to u e) refl;
        below = λ w mid j h. heard-at (says t r d m to u) l w p mid j h;
      }) a.heard;
    }
