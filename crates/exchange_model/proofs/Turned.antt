-- After a turn a state reads the copies.
use Rattle.std.proofs.Common.{◌≡◌, ℕ, ◌<◌, ◌≤◌, Bool, true, false, cond, List, [], ◌∷◌, length, map, Option, Some, None, refl, sym, ap, subst, ◌∙◌, arith, append-nil}
use Rattle.history_laws.specs.Exchanges.{ask_behind}
use Rattle.std.specs.Prelude.{not, ◌||◌, nat_lt, filter, is_some}
use Rattle.std.specs.List.{AllByRecursion, list_any, find, list_all}
use Rattle.std.proofs.lemmas.Bool.{false≢true, ltb-false}
use Rattle.std.proofs.lemmas.List.Sums.{count_by-le-length, length-filter}
use Rattle.limits.specs.declared.TheConstants.{MAX_NUMBERED}
use Rattle.coap_codec.specs.Spelling.{Content}
use Rattle.uri_map.specs.declared.peer.Peer.{Peer}
use Rattle.uri_map.specs.Peers.{same_peer}
use Rattle.uri_map.proofs.CallerLemmas.{same_peer-same}
use Rattle.message_layer.specs.Values.{LinkState, empty_link}
use Rattle.message_layer.specs.Mids.{is_in_use}
use Rattle.message_layer.specs.Calls.{kept_link}
use Rattle.journal_book.specs.Entries.{Written, Deed, Asks, Sends, Hears, Carries}
use Rattle.journal_book.specs.Entries as D
use Rattle.history_laws.specs.Numbering.{token_number}
use Rattle.history_laws.specs.Readings.{Noted, Note, First, Says, Bygone, Recalls, Answered, entries, ticked}
use Rattle.history_laws.proofs.CallerLemmas.{all-more}
use Rattle.history_laws.specs.Connections.{opened}
use Rattle.history_laws.specs.Confirming.{owed}
use Rattle.history_laws.specs.Transmissions.{FirstSending, firsts_by, firsts}
use Rattle.history_laws.specs.Hearing.{is_such, knows, recalls_by, recalls}
use Rattle.history_laws.specs.Justified.{Follows, IsNextConn, Legal}
use Rattle.history_links.specs.Agrees.{Start, Agrees}
use Rattle.exchange_model.specs.State.{PeerLink, State, link_of}
use Rattle.exchange_model.specs.Reads.{PairIn, Reads, held_of}
use Rattle.exchange_model.specs.Resting.{LinkRests}
use Rattle.exchange_model.specs.Keeping.{HasMids}
use Rattle.exchange_model.specs.Rotating.{RotatesKeeps, Backed, carried_numbers, copied_entries, copies_with, has, place_of, taken, fault_of, has_copy, is_spent, keep_peer, turned, all_over, Unsealed, Given, Connected, Exchanging, Spent}
use Rattle.exchange_model.proofs.CopiedIdle.{conns-copied, readers-copied, has-copied, none-issued, none-open, opened-copied, opens-copied, sealed-copied, unwatched}
use Rattle.exchange_model.proofs.Tables.{reads-from, reads-later}
use Rattle.exchange_model.proofs.Shapes.{Sending, Hearing, Copy, Sent, Aimed, Heard, Bare, kept_as, still_kept, copy_as, copy_by, past_if, past_of, kept-copy, Fits, opening_as, first_as, firsts-as, if_such}
use Rattle.exchange_model.proofs.Copies.{add_copy, copied, copy_in, fits-in, kept_in, newest-copied}
use Rattle.exchange_model.proofs.Backed.{AreBacked, ArePlaced, are-sound}
use Rattle.exchange_model.proofs.StoredFacts.{StoredFacts, stored-facts}
use Rattle.exchange_model.proofs.Taken.{AreTaken, are-taken, keys-apart}
use Rattle.exchange_model.proofs.TakenBacked.{are-backed}
use Rattle.exchange_model.proofs.TakenPlaced.{are-placed}
use Rattle.exchange_model.proofs.TakenStore.{store-turned}
use Rattle.exchange_model.proofs.CopiedEntries.{entries-copied}
use Rattle.exchange_model.proofs.CopiedLegal.{legal-copied}
use Rattle.exchange_model.proofs.CopiedLinks.{kept-agrees}
use Rattle.exchange_model.proofs.CopiedUnknown.{known-copied, knows-copy, none-agrees, of_copy, of_peer}
use Rattle.exchange_model.proofs.Shapes as H
use Rattle.exchange_model.specs.Steps.{is_piece_at}
use Rattle.resp_cache.specs.declared.pair.Pair.{Pair}

-- A turn is made where there are numbers left.

pub first-none : {X : Type 0} (b : Bool) (x : X) (rest : Option X) → cond b (Some x) rest ≡ None → (b ≡ false) × (rest ≡ None)
first-none true x rest e = cc
first-none false x rest e = (refl, e)

pub few-left : (t : ℕ) (S : State) → fault_of t S ≡ None → (S.issued ≤ MAX_NUMBERED) × (S.opened ≤ MAX_NUMBERED)
few-left t S e =
    let a = first-none (not S.sealed) Unsealed _ e in
    let g = first-none (nat_lt 0 S.given) Given _ a.1 in
    let b = first-none (nat_lt 0 (length S.conns)) Connected _ g.1 in
    let c = first-none (not (all_over t S)) Exchanging _ b.1 in
    let d = first-none (is_spent S) Spent _ c.1 in
    let both = or-false (nat_lt MAX_NUMBERED S.issued) (nat_lt MAX_NUMBERED S.opened) d.0 in
    (ltb-false MAX_NUMBERED S.issued both.0, ltb-false MAX_NUMBERED S.opened both.1)
  where
    or-false : (a b : Bool) → (a || b) ≡ false → (a ≡ false) × (b ≡ false)
    or-false true b e = absurd (false≢true (sym e))
    or-false false b e = (refl, e)

-- What is copied was known.

abbrev of_kept : Peer → Option H.Kept → Bool
of_kept p None = false
of_kept p (Some (Sending q b w m)) = same_peer q p
of_kept p (Some (Hearing q b m a)) = same_peer q p

abbrev of_any : Peer → Option Copy → Bool
of_any p None = false
of_any p (Some c) = of_copy p c

abbrev adds : Peer → Deed → Note → Bool
adds p (Sends q b w) (First o m) = same_peer q p
adds p (Carries k mark (D.Sent q b w)) (Bygone m) = same_peer q p
adds p (Carries k mark (D.Sent q b w)) (First o m) = same_peer q p
adds p (Carries k mark (D.Heard q b)) (Recalls m a) = same_peer q p
adds p d note = false

or-swap : (a b c : Bool) → (a || (b || c)) ≡ (b || (a || c))
or-swap true true c = refl
or-swap true false c = refl
or-swap false b c = refl

one-more : (b : Bool) (f : FirstSending) (v : Option FirstSending) (any : Bool) → (is_some (cond b (Some f) v) || any) ≡ (b || (is_some v || any))
one-more true f v any = refl
one-more false f v any = refl

knows-by : (p : Peer) (n s : ℕ) (d : Deed) (note : Note) (old : List FirstSending) (any : Bool)
    → (is_some (find (λ (f : FirstSending). same_peer f.peer p) (firsts_by n s d note old)) || (recalls_by p d note || any))
    ≡ (adds p d note || (is_some (find (λ (f : FirstSending). same_peer f.peer p) old) || any))
knows-by p n s (Sends q b w) (First o m) old any = one-more (same_peer q p) _ (find (λ (f : FirstSending). same_peer f.peer p) old) any
knows-by p n s (Sends q b w) note old any = refl
knows-by p n s (Carries k mark (D.Sent q b w)) (Bygone m) old any = one-more (same_peer q p) _ (find (λ (f : FirstSending). same_peer f.peer p) old) any
knows-by p n s (Carries k mark (D.Sent q b w)) (First o m) old any = one-more (same_peer q p) _ (find (λ (f : FirstSending). same_peer f.peer p) old) any
knows-by p n s (Carries k mark (D.Sent q b w)) note old any = refl
knows-by p n s (Carries k mark (D.Heard q b)) (Recalls m a) old any = or-swap (is_some (find (λ (f : FirstSending). same_peer f.peer p) old)) (same_peer q p) any
knows-by p n s (Carries k mark (D.Heard q b)) note old any = refl
knows-by p n s (Carries k mark (D.Asked c a)) note old any = refl
knows-by p n s d note old any = refl

knows-entry : (p : Peer) (x : Noted) (l : List Noted) → knows (x ∷ l) p ≡ (adds p x.written.deed x.note || knows l p)
knows-entry p x l = knows-by p (length l) x.written.moment x.written.deed x.note (firsts l) (list_any (recalls p) l)

of-such : (c : Bool) (p q : Peer) (b : List ℕ) (m : Content) (a : Answered) → of_kept p (if_such c (Hearing q b m a)) ≡ true → same_peer q p ≡ true
of-such true p q b m a e = e
of-such false p q b m a e = absurd (false≢true e)

or-left : (a b : Bool) → a ≡ true → (a || b) ≡ true
or-left true b e = refl
or-left false b e = absurd (false≢true e)

kept-known : (l : List Noted) (s : ℕ) (p : Peer) (d : Deed) (note : Note) → Follows l s d note → of_kept p (kept_as d note) ≡ true
    → (adds p d note || knows l p) ≡ true
kept-known l s p (Sends q b w) (First o m) f e = or-left (same_peer q p) (knows l p) e
kept-known l s p (Sends q b w) note f e = absurd (false≢true e)
kept-known l s p (Hears q b) (Says m to notice) f e =
    subst (λ (r : Peer). knows l r ≡ true) (same_peer-same q p (of-such (is_such m.kind) p q b m _ e)) f.2
kept-known l s p (Hears q b) note f e = absurd (false≢true e)
kept-known l s p (Carries k mark (D.Sent q b w)) (Bygone m) f e = or-left (same_peer q p) (knows l p) e
kept-known l s p (Carries k mark (D.Sent q b w)) (First o m) f e = or-left (same_peer q p) (knows l p) e
kept-known l s p (Carries k mark (D.Sent q b w)) note f e = absurd (false≢true e)
kept-known l s p (Carries k mark (D.Heard q b)) (Recalls m a) f e = or-left (same_peer q p) (knows l p) (of-such (is_such m.kind) p q b m a e)
kept-known l s p (Carries k mark (D.Heard q b)) note f e = absurd (false≢true e)
kept-known l s p (Carries k mark (D.Asked c a)) note f e = absurd (false≢true e)
kept-known l s p d note f e = absurd (false≢true e)

past-known : (t s : ℕ) (p : Peer) (k : Option H.Kept) → of_any p (past_of t s k) ≡ true → of_kept p k ≡ true
past-known t s p None e = e
past-known t s p (Some k) e = by k (still_kept t s k) e
  where
    by : (k : H.Kept) (b : Bool) → of_any p (past_if b k) ≡ true → of_kept p (Some k) ≡ true
    by (Sending q b w m) true e = e
    by (Hearing q b m a) true e = e
    by k false e = absurd (false≢true e)

copy-known : (f : ℕ → ℕ) (t : ℕ) (l : List Noted) (s : ℕ) (p : Peer) (d : Deed) (note : Note) (c : Bool) → Follows l s d note
    → of_any p (copy_by c f t s d note) ≡ true → (adds p d note || knows l p) ≡ true
copy-known f t l s p d note false h e = kept-known l s p d note h (past-known t s p (kept_as d note) e)
copy-known f t l s p (Asks c a) note true h e = absurd (false≢true e)
copy-known f t l s p (Sends q b w) (First o m) true h e = or-left (same_peer q p) (knows l p) e
copy-known f t l s p (Sends q b w) note true h e = absurd (false≢true e)
copy-known f t l s p (Hears q b) (Says m to notice) true h e = subst (λ (r : Peer). knows l r ≡ true) (same_peer-same q p e) h.2
copy-known f t l s p (Hears q b) note true h e = absurd (false≢true e)
copy-known f t l s p (Carries k mark (D.Sent q b w)) (First o m) true h e = or-left (same_peer q p) (knows l p) e
copy-known f t l s p (Carries k mark (D.Sent q b w)) (Bygone m) true h e = or-left (same_peer q p) (knows l p) e
copy-known f t l s p (Carries k mark (D.Sent q b w)) note true h e = absurd (false≢true e)
copy-known f t l s p (Carries k mark (D.Heard q b)) (Recalls m a) true h e = or-left (same_peer q p) (knows l p) e
copy-known f t l s p (Carries k mark (D.Heard q b)) note true h e = absurd (false≢true e)
copy-known f t l s p (Carries k mark (D.Asked c a)) note true h e = absurd (false≢true e)
copy-known f t l s p d note true h e = absurd (false≢true e)

or-right : (a b : Bool) → b ≡ true → (a || b) ≡ true
or-right true b e = refl
or-right false b e = e

known-add : (p : Peer) (n s : ℕ) (oc : Option Copy) (l m : List Noted) → (of_any p oc ≡ true → knows m p ≡ true)
    → (knows l p ≡ true → knows m p ≡ true) → knows (add_copy n s oc l) p ≡ true → knows m p ≡ true
known-add p n s None l m here older e = older e
known-add p n s (Some c) l all here older e = by (of_copy p c) here (sym (knows-copy p n s c l) ∙ e)
  where
    by : (b : Bool) → (b ≡ true → knows all p ≡ true) → (b || knows l p) ≡ true → knows all p ≡ true
    by true h e = h refl
    by false h e = older e

known-before : (p : Peer) (f : ℕ → ℕ) (gs : List ℕ) (t : ℕ) (l : List Noted) → Legal l → knows (copied f gs t l) p ≡ true → knows l p ≡ true
known-before p f gs t [] legal e = e
known-before p f gs t (x ∷ older) legal e =
    known-add p (length older) x.written.moment (copy_in f gs t (length older) x) (copied f gs t older) (x ∷ older)
    (λ h. knows-entry p x older ∙ copy-known f t older x.written.moment p x.written.deed x.note (has gs (length older)) legal.2 h)
    (λ h. knows-entry p x older ∙ or-right (adds p x.written.deed x.note) (knows older p) (known-before p f gs t older legal.0 h))
    e

-- each link as the turn leaves it

pub turned-link : (t : ℕ) (ws : List Written) (xs : List PeerLink) (p : Peer)
    → link_of (filter (has_copy ws) (map (keep_peer t) xs)) p ≡ cond (of_peer p ws) (kept_link t (link_of xs p)) empty_link
turned-link t ws [] p = by (of_peer p ws)
  where
    by : (b : Bool) → empty_link ≡ cond b (kept_link t empty_link) empty_link
    by true = refl
    by false = refl
turned-link t ws (x ∷ xs) p = by (same_peer x.peer p) refl (of_peer x.peer ws) refl (turned-link t ws xs p)
  where
    kept : List PeerLink
    kept = filter (has_copy ws) (map (keep_peer t) xs)

    by : (a : Bool) → same_peer x.peer p ≡ a → (b : Bool) → of_peer x.peer ws ≡ b
        → link_of kept p ≡ cond (of_peer p ws) (kept_link t (link_of xs p)) empty_link
        → link_of (cond b (keep_peer t x ∷ kept) kept) p ≡ cond (of_peer p ws) (kept_link t (cond a x.link (link_of xs p))) empty_link
    by true is true has ih =
        rw (is) (ap (λ (c : Bool). cond c (kept_link t x.link) empty_link) (sym has ∙ ap (λ (q : Peer). of_peer q ws) (same_peer-same x.peer p is)))
    by true is false has ih =
        let none : of_peer p ws ≡ false = sym (ap (λ (q : Peer). of_peer q ws) (same_peer-same x.peer p is)) ∙ has in
        ih ∙ (ap (λ (c : Bool). cond c (kept_link t (link_of xs p)) empty_link) none
        ∙ sym (ap (λ (c : Bool). cond c (kept_link t x.link) empty_link) none))
    by false is true has ih = rw (is) ih
    by false is false has ih = ih

-- Tokens of copies were issued.
module _ (P : Content → Type 0) where
  abbrev All : List FirstSending → Type 0
  All fs = AllByRecursion (λ (f : FirstSending). P f.message) fs

  first-more : (n s o m u q : ℕ) (k : Option H.Kept) (old new : List FirstSending) → All (first_as n s o k old) → (All old → All new) → All (first_as m u q k new)
  first-more n s o m u q None old new h more = more h
  first-more n s o m u q (Some (Hearing p b c a)) old new h more = more h
  first-more n s o m u q (Some (Sending p b w c)) old new h more = (h.0, more h.1)

  issued-add : (t n s o : ℕ) (oc : Option Copy) (k : Option H.Kept) (old : List FirstSending) (l : List Noted) → Fits t s oc k → All (first_as n s o k old)
      → (All old → All (firsts l)) → All (firsts (add_copy n s oc l))
  issued-add t n s o None None old l fits h more = more h
  issued-add t n s o None (Some (Hearing p b c a)) old l fits h more = more h
  issued-add t n s o None (Some (Sending p b w c)) old l fits h more = more h.1
  issued-add t n s o (Some c) k old l fits h more =
      let y = copy_as n s c in
      subst All (sym (firsts-as (length l) y.written.moment y.written.deed y.note (firsts l)))
      (first-more n s o (length l) y.written.moment (opening_as (length l) y.note) (kept_in y) old (firsts l)
      (subst (λ (k : Option H.Kept). All (first_as n s o k old)) (sym (kept-copy n s c ∙ fits)) h) more)

  issued-copied : (f : ℕ → ℕ) (gs : List ℕ) (t : ℕ) (l : List Noted) → All (firsts l) → All (firsts (copied f gs t l))
  issued-copied f gs t [] h = tt
  issued-copied f gs t (x ∷ older) h =
      issued-add t (length older) x.written.moment (opening_as (length older) x.note) (copy_in f gs t (length older) x) (kept_in x) (firsts older) (copied f gs t older)
      (fits-in f gs t (length older) x)
      (subst All (firsts-as (length older) x.written.moment x.written.deed x.note (firsts older)) h) (λ old. issued-copied f gs t older old)

-- Nothing is owed, and no tick was made.

unowed-add : (n s : ℕ) (oc : Option Copy) (l : List Noted) → owed l ≡ None → owed (add_copy n s oc l) ≡ None
unowed-add n s None l e = e
unowed-add n s (Some (Sent mark p b w m)) l e = refl
unowed-add n s (Some (Aimed p b w o m)) l e = refl
unowed-add n s (Some (Heard mark p b m a)) l e = refl
unowed-add n s (Some (Bare done)) l e = refl

unowed-copied : (f : ℕ → ℕ) (gs : List ℕ) (t : ℕ) (l : List Noted) → owed (copied f gs t l) ≡ None
unowed-copied f gs t [] = refl
unowed-copied f gs t (x ∷ older) =
    unowed-add (length older) x.written.moment (copy_in f gs t (length older) x) (copied f gs t older) (unowed-copied f gs t older)

-- So the state reads the copies.

abbrev pub after : ℕ → State → Start
after t S = record { moment = t; issued = S.issued; opened = S.opened }

fewer : {X : Type 0} (q : X → Bool) (xs : List X) → length (filter q xs) ≤ length xs
fewer q xs = let is = length-filter q xs in let le = count_by-le-length q xs in omega (arith, is, le)

module _ (t : ℕ) (l : List Noted) (S : State) (r : Reads l S) where
  abbrev bs : List Backed
  bs = taken t S

  abbrev gs : List ℕ
  gs = carried_numbers bs

  abbrev ws : List Written
  ws = copied_entries t S

  abbrev f : ℕ → ℕ
  f n = place_of ws n

  -- a message goes with the ask that its exchange goes back to
  abbrev home : ℕ → ℕ
  home o = place_of ws (ask_behind l o)

  abbrev pub next : List Noted
  next = copied home gs t l

  are_taken : AreTaken l bs
  are_taken = are-taken t S l r.entries_are
      (all-more (PairIn l) (λ (p : Pair). list_all (is_piece_at S.entries) p.stored.list ≡ true → StoredFacts l p) (λ p a. stored-facts l S p r a) S.store r.store_is.pairs)
      (keys-apart l (length l) S.store r.store_is.order)

  all_backed : AreBacked gs l
  all_backed = are-backed l bs r.legal are_taken

  entries_next : entries next ≡ ws
  entries_next = entries-copied gs home t l r.legal ∙ ap (λ (es : List Written). copies_with t es gs) r.entries_are

  placed : ArePlaced gs f home t l
  placed = are-placed gs f home t ws (λ n. refl) l [] (sym entries_next ∙ sym (append-nil (entries next))) all_backed (λ o lt. refl)

  legal_next : Legal next
  legal_next = legal-copied f home gs t l r.legal all_backed placed

  link-agrees : (p : Peer) → S.moment ≤ t → Agrees (after t S) next p (link_of (turned t S).links p)
  link-agrees p later = subst (Agrees (after t S) next p) (sym (turned-link t ws S.links p)) (by (of_peer p ws) refl)
    where
      known : knows next p ≡ of_peer p ws
      known = known-copied p home gs t l (are-sound gs f home t l all_backed) ∙ ap (of_peer p) entries_next

      by : (b : Bool) → of_peer p ws ≡ b → Agrees (after t S) next p (cond b (kept_link t (link_of S.links p)) empty_link)
      by true is =
          let now = known ∙ is in
          kept-agrees r.start (after t S) home gs t l p (link_of S.links p) r.legal refl (reads-from l t S r later, reads-later l t S r later)
          ((r.links_are p).known ∙ (known-before p home gs t l r.legal now ∙ sym now)) (r.links_are p)
      by false is = none-agrees (after t S) home gs t l p (known ∙ is)

  pub reads-copied : S.moment ≤ t → fault_of t S ≡ None → Reads next (turned t S)
  reads-copied later fit = record {
    start = after t S;
    few = few-left t S fit;
    entries_are = entries_next;
    legal = legal_next;
    sealed_is = sealed-copied home gs t l;
    moment_is =
        let old = newest-copied home gs t l r.legal in let new = reads-later l t S r later in
        omega (arith, old, new);
    opened_are = subst (λ (b : Bool). IsNextConn b (opened next) S.opened) (sym (has-copied home gs t l)) (let none = opened-copied home gs t l in omega (arith, none));
    opens_are = let none = opens-copied home gs t l in omega (arith, none);
    issued_are = let none = none-issued home gs t l in omega (arith, none);
    conns_are = conns-copied home gs t l;
    readers_are = readers-copied home gs t l;
    keys = none-open home gs t l;
    exchanges_are = tt;
    pieces_are = record { fetched = tt; below = tt };
    stales_are = record { kept = tt; below = tt };
    watches_are = ap (map held_of) (unwatched home gs t l);
    store_is = store-turned ws t l bs r.legal are_taken placed legal_next;
    tokens_are = issued-copied (λ (m : Content). token_number m.token < S.issued) home gs t l r.tokens_are;
    waiting_are = tt;
    links_are = λ p. link-agrees p later;
  }

-- What is kept of a core between two steps is kept of what a turn leaves.

rests-undue : (t tick : ℕ) (b : Bool) (s : LinkState) → LinkRests tick (cond b (kept_link t s) empty_link)
rests-undue t tick true s = refl
rests-undue t tick false s = refl

mids-kept : (t : ℕ) (b : Bool) (s : LinkState) → HasMids s → HasMids (cond b (kept_link t s) empty_link)
mids-kept t true s h = record {
  small = tt;
  enough = let few = fewer (is_in_use t) s.given in let all = h.enough in omega (arith, few, all);
}
mids-kept t false s h = record { small = tt; enough = omega arith }

pub rotates-keeps : RotatesKeeps
rotates-keeps t S k later fit =
    let l = k.reading in
    let r = k.rests.reads in
    let ws = copied_entries t S in
    record {
      reading = next t l S r;
      rests = record {
        reads = reads-copied t l S r later fit;
        quiet = unowed-copied (λ (o : ℕ). place_of ws (ask_behind l o)) (carried_numbers (taken t S)) t l;
        links = λ p. subst (LinkRests (ticked (next t l S r))) (sym (turned-link t ws S.links p)) (rests-undue t (ticked (next t l S r)) (of_peer p ws) (link_of S.links p));
        in_time = tt;
        served = tt;
        reading = tt;
      };
      mids = λ p. subst HasMids (sym (turned-link t ws S.links p)) (mids-kept t (of_peer p ws) (link_of S.links p) (k.mids p));
    }
