-- A reply is traced to its own message.
use Rattle.std.proofs.Common.{◌≡◌, ◌⊎◌, ℕ, zero, suc, ◌+◌, ◌<◌, Bool, true, false, cond, eqb, inl, inr, List, [], ◌∷◌, ◌++◌, length, take, Option, Some, None, refl, sym, ap, subst, ◌∙◌, arith, append_assoc}
use Rattle.std.specs.List.{find, slice_get}
use Rattle.std.specs.Prelude.{option_and_then}
use Rattle.std.proofs.lemmas.Bool.{and_parts}
use Rattle.std.proofs.lemmas.List.{take_at}
use Rattle.std.proofs.lemmas.Option.{slice_get_within}
use Rattle.std.proofs.lemmas.Slice.Eq.{bytes_eq-Decides}
use Rattle.coap_codec.specs.Spelling.{Content, Spells}
use Rattle.uri_map.specs.declared.peer.Peer.{Peer}
use Rattle.uri_map.specs.Peers.{same_peer}
use Rattle.ask_model.specs.Requests.{CoapRequest}
use Rattle.journal_book.specs.Entries.{Mark, Past, Done, done_of, Deed, Asks, Sends, Hears, Carries, Written}
use Rattle.journal_book.specs.Entries as D
use Rattle.history_laws.specs.Readings.{Noted, Note, First, Copies, Confirms, Bygone, at, before, entries}
use Rattle.history_laws.specs.Progress.{Reply}
use Rattle.history_laws.specs.Transmissions.{FirstSending, firsts, first_at}
use Rattle.history_laws.specs.Justified.{Follows, Legal}
use Rattle.history_laws.proofs.CallerLemmas.{at-below, at-cases, at-entries, at-old, entries-length, eqb-itself, find-some, first-older, firsts-tokens, follows-at, some-is}
use Rattle.exchange_model.specs.Backing.{done_at, token_in, is_under, unanswered_by, unanswered_from, replied_to, replied_to_by}
use Rattle.exchange_model.proofs.Shapes.{Kept, Sending, kept_as, opening_as, first_as, firsts-as}
use Rattle.exchange_model.proofs.Copies.{kept_in}
use Rattle.exchange_model.proofs.StoredFacts.{ReplyFacts}

-- What is found is a first sending under the token.
record IsFound (p : Peer) (token : List ℕ) (ws : List Written) (k : ℕ) : Type 0 where
  written : Written
  stands : slice_get ws k ≡ Some written
  peer : Peer
  bytes : List ℕ
  wait : ℕ
  done : done_of written.deed ≡ Some (D.Sent peer bytes (Some wait))
  under : is_under p token peer bytes ≡ true

found-by : (p : Peer) (token : List ℕ) (n i : ℕ) (w : Written) (ws : List Written) (done : Option Done) (old : Option ℕ) → done_of w.deed ≡ done
    → unanswered_by p token n done old ≡ Some i → (old ≡ Some i) ⊎ ((i ≡ n) × IsFound p token (w ∷ ws) 0)
found-by p token n i w ws (Some (D.Sent q b (Some wait))) old is e = by (is_under p token q b) refl e
  where
    by : (c : Bool) → is_under p token q b ≡ c → cond c (Some n) old ≡ Some i → (old ≡ Some i) ⊎ ((i ≡ n) × IsFound p token (w ∷ ws) 0)
    by true under e = inr (sym (some-is n i e), record { written = w; stands = refl; peer = q; bytes = b; wait = wait; done = is; under = under })
    by false under e = inl e
found-by p token n i w ws (Some (D.Heard q b)) old is e = by (is_under p token q b) e
  where
    by : (c : Bool) → cond c None old ≡ Some i → (old ≡ Some i) ⊎ ((i ≡ n) × IsFound p token (w ∷ ws) 0)
    by true e = absurd cc
    by false e = inl e
found-by p token n i w ws (Some (D.Sent q b None)) old is e = inl e
found-by p token n i w ws (Some (D.Asked c a)) old is e = inl e
found-by p token n i w ws None old is e = inl e

found-later : (p : Peer) (token : List ℕ) (w : Written) (ws : List Written) (k : ℕ) → IsFound p token ws k → IsFound p token (w ∷ ws) (suc k)
found-later p token w ws k h =
    record { written = h.written; stands = h.stands; peer = h.peer; bytes = h.bytes; wait = h.wait; done = h.done; under = h.under }

found-from : (p : Peer) (token : List ℕ) (n i : ℕ) (ws : List Written) (old : Option ℕ) → unanswered_from p token n ws old ≡ Some i
    → (old ≡ Some i) ⊎ ((k : ℕ) × (i ≡ n + k) × IsFound p token ws k)
found-from p token n i [] old e = inl e
found-from p token n i (w ∷ ws) old e =
    elim (found-from p token (n + 1) i ws (unanswered_by p token n (done_of w.deed) old) e) [
      | inl u ↦ elim (found-by p token n i w ws (done_of w.deed) old refl u) [
        | inl v ↦ inl v
        | inr v ↦ let same = v.0 in inr (0, omega (arith, same), v.1)
      ]
      | inr u ↦ let same = u.1 in inr (suc u.0, omega (arith, same), found-later p token w ws u.0 u.2)
    ]

taken-get : (j : ℕ) (ws : List Written) (k : ℕ) (w : Written) → slice_get (take j ws) k ≡ Some w → (k < j) × (slice_get ws k ≡ Some w)
taken-get zero ws k w e = absurd cc
taken-get (suc j) [] k w e = absurd cc
taken-get (suc j) (v ∷ ws) zero w e = (omega arith, e)
taken-get (suc j) (v ∷ ws) (suc k) w e = let ih = taken-get j ws k w e in (let lt = ih.0 in omega (arith, lt), ih.1)

-- an entry by its number
pub at-is : (l : List Noted) (n : ℕ) → n < length l → (x : Noted) × (at l n ≡ Some x)
at-is [] n lt = absurd (omega (arith, lt))
at-is (x ∷ older) n lt =
    elim (at-cases x older n) [
      | inl w ↦ (x, w.1)
      | inr w ↦ let apart = w.0 in let it = at-is older n (omega (arith, lt, apart)) in (it.0, w.1 ∙ it.1)
    ]

pub entry-at : (l : List Noted) (n : ℕ) (w : Written) → slice_get (entries l) n ≡ Some w → (x : Noted) × (at l n ≡ Some x) × (x.written ≡ w)
entry-at l n w e =
    let below = slice_get_within (entries l) n w e in
    let same = entries-length l in
    let it = at-is l n (omega (arith, below, same)) in
    (it.0, it.1, some-is _ _ (sym (at-entries l n it.0 it.1) ∙ e))

-- What bears a timeout is a first sending of a legal history.

pub record IsSentAt (s : ℕ) (d : Deed) (note : Note) (p : Peer) (b : List ℕ) (w : Option ℕ) : Type 0 where
  pub message : Content
  pub kept : kept_as d note ≡ Some (Sending p b w message)
  pub spelled : Spells message b
  pub token_size : length message.token ≡ 8

sent-same : (p q : Peer) (b c : List ℕ) (w v : Option ℕ) → Some (D.Sent p b w) ≡ Some (D.Sent q c v) → (p ≡ q) × (b ≡ c) × (w ≡ v)
sent-same p q b c w v e = (cc, cc, cc)

made-at : (s : ℕ) (d : Deed) (note : Note) (p q : Peer) (b c : List ℕ) (w v : Option ℕ) (m : Content) → Some (D.Sent p b w) ≡ Some (D.Sent q c v)
    → kept_as d note ≡ Some (Sending p b w m) → Spells m b → length m.token ≡ 8 → IsSentAt s d note q c v
made-at s d note p q b c w v m e kept spelled size =
    let it = sent-same p q b c w v e in
    record {
      message = m;
      kept =
          kept
          ∙ (ap (λ (x : Peer). Some (Sending x b w m)) it.0
          ∙ (ap (λ (x : List ℕ). Some (Sending q x w m)) it.1 ∙ ap (λ (x : Option ℕ). Some (Sending q c x m)) it.2));
      spelled = subst (Spells m) it.1 spelled;
      token_size = size;
    }

none-waits : (v : Option ℕ) (wait : ℕ) → v ≡ Some wait → v ≡ None → ⊥
none-waits v wait e f = cc

sent-at : (l : List Noted) (s : ℕ) (d : Deed) (note : Note) (q : Peer) (c : List ℕ) (wait : ℕ) → Follows l s d note → done_of d ≡ Some (D.Sent q c (Some wait))
    → IsSentAt s d note q c (Some wait)
sent-at l s (Sends p b w) (First o m) q c wait f e =
    let may = f.1.1 in made-at s (Sends p b w) (First o m) p q b c w (Some wait) m e refl may.spelled may.token_size
sent-at l s (Sends p b w) (Copies i) q c wait f e = absurd (none-waits w wait (sent-same p q b c w (Some wait) e).2 f.1.1)
sent-at l s (Sends p b w) Confirms q c wait f e = absurd (none-waits w wait (sent-same p q b c w (Some wait) e).2 f.1.0)
sent-at l s (Sends p b w) note q c wait f e = absurd f.1
sent-at l s (Carries k Past (D.Sent p b w)) (Bygone m) q c wait f e =
    let may = f.2 in made-at s (Carries k Past (D.Sent p b w)) (Bygone m) p q b c w (Some wait) m e refl may.spelled may.token_size
sent-at l s (Carries k D.Ground (D.Sent p b w)) (First o m) q c wait f e =
    let may = f.2.0 in made-at s (Carries k D.Ground (D.Sent p b w)) (First o m) p q b c w (Some wait) m e refl may.spelled may.token_size
sent-at l s (Carries k Past (D.Sent p b w)) note q c wait f e = absurd f.2
sent-at l s (Carries k D.Ground (D.Sent p b w)) note q c wait f e = absurd f.2
sent-at l s (Carries k mark (D.Heard p b)) note q c wait f e = absurd cc
sent-at l s (Carries k mark (D.Asked d a)) note q c wait f e = absurd cc
sent-at l s (Asks d a) note q c wait f e = absurd cc
sent-at l s (Hears p b) note q c wait f e = absurd cc
sent-at l s d note q c wait f e = absurd cc

pub first-kept : (l : List Noted) (i : ℕ) (x : Noted) (q : Peer) (b : List ℕ) (w : Option ℕ) (m : Content) → at l i ≡ Some x → kept_in x ≡ Some (Sending q b w m)
    → first_at l i ≡ Some (record { number = i; moment = x.written.moment; opening = opening_as i x.note; peer = q; message = m })
first-kept [] i x q b w m e kept = cc
first-kept (y ∷ older) i x q b w m e kept =
    elim (at-old y older i x e) [
      | inl u ↦
          let here : first_at (x ∷ older) (length older)
          ≡ Some (record { number = length older; moment = x.written.moment; opening = opening_as (length older) x.note; peer = q; message = m }) =
          ap (find (λ (f : FirstSending). eqb f.number (length older)))
          (firsts-as (length older) x.written.moment x.written.deed x.note (firsts older)
          ∙ ap (λ (k : Option Kept). first_as (length older) x.written.moment (opening_as (length older) x.note) k (firsts older)) kept)
          ∙ rw (eqb-itself (length older)) refl in
          subst (λ (y : Noted). first_at (y ∷ older) i ≡ Some (record { number = i; moment = x.written.moment; opening = opening_as i x.note; peer = q; message = m })) (sym u.1)
          (subst (λ (i : ℕ). first_at (x ∷ older) i ≡ Some (record { number = i; moment = x.written.moment; opening = opening_as i x.note; peer = q; message = m })) (sym u.0) here)
      | inr u ↦ first-older y older i (at-below older i x u) ∙ first-kept older i x q b w m u kept
    ]

-- The token stands in the bytes.
pub token-in : (m : Content) (b : List ℕ) → Spells m b → length m.token ≡ 8 → token_in b ≡ m.token
token-in m b h size =
    ap token_in h.whole ∙ (ap (take 8) (append_assoc m.token h.options h.payload) ∙ take_at m.token (h.options ++ h.payload) 8 size)

-- A reply is traced to the message to which it came.
pub traced-own : (l : List Noted) (o : ℕ) (q : CoapRequest) (r : Reply) (i : ℕ) → Legal l → ReplyFacts l o q r → replied_to (entries l) r.number ≡ Some i → i ≡ r.sending
traced-own l o q r i legal h e =
    let ws = entries l in
    let heard : done_at ws r.number ≡ Some (D.Heard q.peer h.bytes) =
    ap (λ (v : Option Written). option_and_then (λ (w : Written). done_of w.deed) v) (at-entries l r.number h.heard_in h.heard) ∙ h.done in
    let found = found-from q.peer (token_in h.bytes) 0 i (take r.number ws) None (sym (ap (replied_to_by ws r.number) heard) ∙ e) in
    elim found [
      | inl u ↦ absurd cc
      | inr u ↦
          let it = u.2 in
          let stands = (taken-get r.number ws u.0 it.written it.stands).1 in
          let x = entry-at l u.0 it.written stands in
          let done : done_of x.0.written.deed ≡ Some (D.Sent it.peer it.bytes (Some it.wait)) = ap (λ (w : Written). done_of w.deed) x.2 ∙ it.done in
          let sent = sent-at (before l u.0) x.0.written.moment x.0.written.deed x.0.note it.peer it.bytes it.wait (follows-at l u.0 x.0 legal x.1) done in
          let first = first-kept l u.0 x.0 it.peer it.bytes (Some it.wait) sent.message x.1 sent.kept in
          let same : sent.message.token ≡ h.sent.token =
          sym (token-in sent.message it.bytes sent.spelled sent.token_size)
          ∙ ((bytes_eq-Decides (token_in it.bytes) (token_in h.bytes)).0 (and_parts (same_peer it.peer q.peer) _ it.under).1
          ∙ (token-in r.message h.bytes h.spelled (ap (λ (b : List ℕ). length b) h.token ∙ h.size) ∙ h.token)) in
          let number = firsts-tokens l _ _ legal (find-some _ (firsts l) _ first).0 (find-some _ (firsts l) _ h.listed).0 same in
          let place = u.1 in
          omega (arith, place, number)
    ]
