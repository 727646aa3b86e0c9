-- Within a tick: at each endpoint what is due goes out.
use Rattle.std.proofs.Common.{◌≡◌, ℕ, ◌+◌, ◌*◌, ◌^◌, ◌<◌, ◌≤◌, Bool, true, false, cond, eqb, inl, inr, List, [], ◌∷◌, Option, Some, None, refl, sym, ap, subst, ◌∙◌, arith, pow_pos, mul-pos}
use Rattle.std.specs.Prelude.{fold, nat_le, ◌||◌}
use Rattle.std.specs.List.{list_any}
use Rattle.std.proofs.lemmas.Bool.{false≢true, and_right, le-leb, lt-leb}
use Rattle.std.proofs.lemmas.Bool.Decides.{eqb_tells, leb_tells}
use Rattle.limits.specs.declared.TheConstants.{MAX_RETRANSMIT}
use Rattle.uri_map.specs.declared.peer.Peer.{Peer}
use Rattle.uri_map.specs.Peers.{same_peer}
use Rattle.uri_map.proofs.CallerLemmas.{same_peer-same}
use Rattle.message_layer.specs.Values.{LinkState}
use Rattle.message_layer.specs.Sending.{due_of, again, with_copy}
use Rattle.message_layer.specs.declared.state.Outstanding.{Outstanding}
use Rattle.history_laws.specs.Readings.{Noted, ticked}
use Rattle.history_laws.specs.Confirming.{owed}
use Rattle.history_laws.proofs.CallerLemmas.{at-keeps, none-some, Sound, sound}
use Rattle.history_links.specs.Agrees.{way_of, IsOut, TurnIn}
use Rattle.history_links.specs.Steps.{copy, is_over}
use Rattle.exchange_model.specs.State.{State, link_of}
use Rattle.exchange_model.specs.Steps.{given_out, sends_copy}
use Rattle.exchange_model.specs.Resting.{IsUndue, LinkRests, HasExchange}
use Rattle.exchange_model.specs.Keeping.{HasMids}
use Rattle.exchange_model.specs.Calls.{is_due, moves_by, moves}
use Rattle.exchange_model.proofs.Amid.{Amid, RestAt, Moved, rest-by, next-moves}
use Rattle.exchange_model.proofs.Grounds.{GoesOn, same-goes, both-go}
use Rattle.exchange_model.proofs.Quiet.{copy-leads}
use Rattle.exchange_model.proofs.Tables.{all-links, link-same, link-other}

-- where a link rests its message isn't given up
pub rest-goes : (tick : ℕ) (s : LinkState) → LinkRests tick s → is_over tick s.outstanding ≡ false
rest-goes tick s h = by s.outstanding h
  where
    by : (v : Option Outstanding) → IsUndue tick v s.waiting → is_over tick v ≡ false
    by None h = refl
    by (Some o) h = and_right (eqb o.retransmissions MAX_RETRANSMIT) (nat_le (due_of o) tick) (lt-leb (due_of o) tick h)

-- A copy that is due may be sent, and the next is due later.

pub due-now : (t : ℕ) (o : Outstanding) → is_due t (Some o) ≡ true → due_of o ≤ t
due-now t o e = elim (leb_tells (due_of o) t) [ inl w ↦ w.1 | inr w ↦ absurd (false≢true (sym w.0 ∙ e)) ]

pub not-due : (t : ℕ) (o : Outstanding) → is_due t (Some o) ≡ false → t < due_of o
not-due t o e = elim (leb_tells (due_of o) t) [ inl w ↦ absurd (false≢true (sym e ∙ w.0)) | inr w ↦ w.1 ]

few-left : (t : ℕ) (o : Outstanding) → o.retransmissions ≤ MAX_RETRANSMIT → is_over t (Some o) ≡ false → due_of o ≤ t → o.retransmissions < MAX_RETRANSMIT
few-left t o most over due = elim (eqb_tells o.retransmissions MAX_RETRANSMIT) [
  | inl w ↦ absurd (false≢true (sym over ∙ rw (w.0) (le-leb (due_of o) t due)))
  | inr w ↦ below w.1
]
  where
    below : (o.retransmissions ≡ MAX_RETRANSMIT → ⊥) → o.retransmissions < MAX_RETRANSMIT
    below apart = elim (leb_tells MAX_RETRANSMIT o.retransmissions) [
      | inl w ↦ let more = w.1 in absurd (apart (omega (arith, more, most)))
      | inr w ↦ w.1
    ]

due-later : (t : ℕ) (o : Outstanding) → 2000 ≤ o.timeout → t < due_of (again t o)
due-later t o least =
    let some : 0 < o.timeout = omega (arith, least) in
    let waits : 0 < o.timeout * 2 ^ (o.retransmissions + 1) = mul-pos some (pow_pos (o.retransmissions + 1)) in
    omega (arith, waits)

copied : (l : List Noted) (t : ℕ) (p : Peer) (o : Outstanding) (S : State) → Amid l t S → owed l ≡ None → ticked l ≡ t → (link_of S.links p).outstanding ≡ Some o
    → is_over t (Some o) ≡ false → due_of o ≤ t → (n : List Noted) × Moved l t p S n (sends_copy t p o S) × RestAt n (sends_copy t p o S) p
copied l t p o S a quiet tick out over due =
    let b = a.before in
    let turn : IsOut l p o = subst (TurnIn l p) out (b.reads.links_are p).turn in
    let way : Sound (way_of o) = sound l turn.first.number (way_of o) b.reads.legal turn.way in
    let made = copy-leads l t p o S b (record { unsealed = b.reads.sealed_is ∙ a.unsealed; quiet = quiet }) out (few-left t o way.few over due) (subst (λ (k : ℕ). due_of o ≤ k) (sym tick) due) in
    let s = given_out (with_copy t (link_of S.links p) o) in
    let x = copy t p o made.0 in
    let undue : LinkRests (ticked l) s = subst (λ (k : ℕ). k < due_of (again t o)) (sym tick) (due-later t o way.least) in (
      x ∷ l,
      record {
        goes = record { ends = λ q e h. h; sent = λ q e h. refl; stands = λ i y h. at-keeps x l i y h; tick = refl };
        amid = record {
          before = record { reads = made.1.reads; later = omega arith };
          unsealed = a.unsealed;
          mids = all-links (λ (q : Peer) (u : LinkState). HasMids u) p s S.links (record { small = (a.mids p).small; enough = (a.mids p).enough }) (λ q away. a.mids q);
          in_time = a.in_time;
        };
        quiet = refl;
        others = λ q away. link-other p q s away S.links;
        conns = refl;
        readers = refl;
        has = λ k h. h;
      },
      subst (LinkRests (ticked l)) (sym (link-same p s S.links)) undue,
    )

-- one endpoint

pub visited : (l : List Noted) (t : ℕ) (p : Peer) (S : State) → Amid l t S → owed l ≡ None → ticked l ≡ t → is_over t (link_of S.links p).outstanding ≡ false
    → (n : List Noted) × Moved l t p S n (moves t S p) × RestAt n (moves t S p) p
visited l t p S a quiet tick over = by (link_of S.links p).outstanding refl over
  where
    stays : Moved l t p S l S
    stays = record { goes = same-goes l; amid = a; quiet = quiet; others = λ q away. refl; conns = refl; readers = refl; has = λ k h. h }

    undue : (o : Outstanding) → (link_of S.links p).outstanding ≡ Some o → t < due_of o → RestAt l S p
    undue o out later = rest-by (ticked l) (link_of S.links p) (Some o) (link_of S.links p).waiting out refl (subst (λ (k : ℕ). k < due_of o) (sym tick) later)

    at_due : (o : Outstanding) → (link_of S.links p).outstanding ≡ Some o → is_over t (Some o) ≡ false → (b : Bool) → is_due t (Some o) ≡ b
        → (n : List Noted) × Moved l t p S n (cond b (sends_copy t p o S) S) × RestAt n (cond b (sends_copy t p o S) S) p
    at_due o out h true e = copied l t p o S a quiet tick out h (due-now t o e)
    at_due o out h false e = (l, stays, undue o out (not-due t o e))

    by : (v : Option Outstanding) → (link_of S.links p).outstanding ≡ v → is_over t v ≡ false → (n : List Noted) × Moved l t p S n (moves_by t p v S) × RestAt n (moves_by t p v S) p
    by None free h = next-moves l t p S a quiet (λ o out. absurd (none-some o (sym free ∙ out)))
    by (Some o) out h = at_due o out h (is_due t (Some o)) refl

-- all of them

abbrev pub is_among : List Peer → Peer → Bool
is_among ps p = list_any (λ (q : Peer). same_peer q p) ps

pub record AllMoved (l : List Noted) (t : ℕ) (S : State) (n : List Noted) (S1 : State) : Type 0 where
  pub goes : GoesOn l n
  pub amid : Amid n t S1
  pub quiet : owed n ≡ None
  pub rest : (p : Peer) → RestAt n S1 p
  pub conns : S1.conns ≡ S.conns
  pub readers : S1.readers ≡ S.readers
  pub has : (k : ℕ) → HasExchange S.exchanges k → HasExchange S1.exchanges k

-- No message is given up, and where nobody comes all rests.
pub record Ready (ps : List Peer) (l : List Noted) (t : ℕ) (S : State) : Type 0 where
  pub amid : Amid l t S
  pub quiet : owed l ≡ None
  pub tick : ticked l ≡ t
  pub goes : (p : Peer) → is_over t (link_of S.links p).outstanding ≡ false
  pub rest : (p : Peer) → is_among ps p ≡ false → RestAt l S p

ready-after : (p : Peer) (ps : List Peer) (l : List Noted) (t : ℕ) (S : State) (n : List Noted) (S1 : State) → Ready (p ∷ ps) l t S → Moved l t p S n S1 → RestAt n S1 p → Ready ps n t S1
ready-after p ps l t S n S1 r m here = record {
  amid = m.amid;
  quiet = m.quiet;
  tick = m.goes.tick ∙ r.tick;
  goes = λ q. going q (same_peer p q) refl;
  rest = λ q away. resting q away (same_peer p q) refl;
}
  where
    at_p : (q : Peer) → same_peer p q ≡ true → RestAt n S1 q
    at_p q e = subst (RestAt n S1) (same_peer-same p q e) here

    going : (q : Peer) (b : Bool) → same_peer p q ≡ b → is_over t (link_of S1.links q).outstanding ≡ false
    going q true e = subst (λ (k : ℕ). is_over k (link_of S1.links q).outstanding ≡ false) (m.goes.tick ∙ r.tick) (rest-goes (ticked n) (link_of S1.links q) (at_p q e))
    going q false e = subst (λ (s : LinkState). is_over t s.outstanding ≡ false) (sym (m.others q e)) (r.goes q)

    resting : (q : Peer) → is_among ps q ≡ false → (b : Bool) → same_peer p q ≡ b → RestAt n S1 q
    resting q away true e = at_p q e
    resting q away false e =
        let rested : RestAt l S q = r.rest q (ap (λ (b : Bool). b || is_among ps q) e ∙ away) in
        subst (LinkRests (ticked n)) (sym (m.others q e)) (subst (λ (k : ℕ). LinkRests k (link_of S.links q)) (sym m.goes.tick) rested)

pub all-moved : (ps : List Peer) (l : List Noted) (t : ℕ) (S : State) → Ready ps l t S → (n : List Noted) × AllMoved l t S n (fold (moves t) S ps)
all-moved [] l t S r = (l, record { goes = same-goes l; amid = r.amid; quiet = r.quiet; rest = λ p. r.rest p refl; conns = refl; readers = refl; has = λ k h. h })
all-moved (p ∷ ps) l t S r =
    let one = visited l t p S r.amid r.quiet r.tick (r.goes p) in
    let m = one.1 in
    let more = all-moved ps one.0 t (moves t S p) (ready-after p ps l t S one.0 (moves t S p) r m one.2) in
    let a = more.1 in (
      more.0,
      record {
        goes = both-go l one.0 more.0 m.goes a.goes;
        amid = a.amid;
        quiet = a.quiet;
        rest = a.rest;
        conns = a.conns ∙ m.conns;
        readers = a.readers ∙ m.readers;
        has = λ k h. a.has k (m.has k h);
      },
    )
