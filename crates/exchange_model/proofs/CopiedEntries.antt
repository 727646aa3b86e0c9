-- The entries of the copies are those that a turn chooses by entries alone.
use Rattle.std.proofs.Common.{◌≡◌, ℕ, ◌+◌, ◌<◌, ◌≤◌, Bool, true, false, ◌&&◌, cond, eqb, ltb, List, [], ◌∷◌, ◌++◌, length, Option, Some, None, is_some, Result, Ok, Err, refl, sym, ap, subst, ◌∙◌, arith, append_assoc, append-nil, suc, inl, inr}
use Rattle.std.specs.Prelude.{◌||◌, not}
use Rattle.std.specs.List.{AllByRecursion, list_any}
use Rattle.std.proofs.lemmas.Bool.{false≢true}
use Rattle.std.proofs.lemmas.Bool.Decides.{eqb_tells}
use Rattle.limits.specs.declared.TheConstants.{EXCHANGE_LIFETIME, MESSAGE_ID_LIFETIME}
use Rattle.coap_codec.specs.Spelling.{Content, Spells}
use Rattle.coap_codec.specs.Reading.{message_at}
use Rattle.coap_codec.specs.declared.fault.CodecFault.{CodecFault}
use Rattle.coap_codec.proofs.Again.{message_again}
use Rattle.coap_codec.proofs.Takes.{message_takes}
use Rattle.uri_map.specs.declared.peer.Peer.{Peer}
use Rattle.uri_map.specs.Peers.{same_peer}
use Rattle.journal_book.specs.Entries.{Past, Done, Asked, Sent, Heard, done_of, Written, Deed, Opens, Asks, Sends, Hears, Passes, Answers, Shuts, Seals, Carries}
use Rattle.journal_book.specs.Entries as D
use Rattle.history_laws.specs.Readings.{Noted, Note, First, Copies, Confirms, Says, Repeats, Garbled, Bygone, Recalls, Answered, entries}
use Rattle.history_laws.specs.Hearing.{is_such, heard_before, repeated}
use Rattle.history_laws.specs.Justified.{Follows, Legal}
use Rattle.history_laws.proofs.CallerLemmas.{entries-length, eqb-itself}
use Rattle.exchange_model.specs.Rotating.{Seen, is_seen, seen_so, seen_by, seen_from, seen, is_recent_first, is_recent_seen, is_remembered, has, copy_if, copy_of, copies_from, copies_with}
use Rattle.ask_model.specs.Views.{Ask}
use Rattle.exchange_model.proofs.Shapes.{Kept, Sending, Hearing, Copy, if_such, kept_as, copy_as, copy_by, backing_copy, past_copy, past_if, past_of, like-as}
use Rattle.exchange_model.proofs.Heeding.{is-bytes}
use Rattle.exchange_model.proofs.Copies.{add_copy, copied, copy_in, kept_in, like_as}

-- What was seen, one entry after another.

abbrev pub see : Written → ℕ → List Seen → List Seen
see w n old = seen_by n w.moment (done_of w.deed) old

seen-more : (n : ℕ) (ws : List Written) (w : Written) (old : List Seen) → seen_from n (ws ++ w ∷ []) old ≡ see w (n + length ws) (seen_from n ws old)
seen-more n [] w old = ap (λ (k : ℕ). see w k old) (by n)
  where
    by : (k : ℕ) → k ≡ k + 0
    by k = omega arith
seen-more n (v ∷ ws) w old =
    seen-more (n + 1) ws w (see v n old)
    ∙ ap (λ (k : ℕ). see w k (seen_from (n + 1) ws (see v n old))) (by n (length ws))
  where
    by : (k i : ℕ) → (k + 1) + i ≡ k + suc i
    by k i = omega arith

from-none : (i j : ℕ) → i ≡ j → 0 + i ≡ j
from-none i j e = omega (arith, e)

seen-entry : (x : Noted) (l : List Noted) → seen (entries (x ∷ l)) ≡ see x.written (length l) (seen (entries l))
seen-entry x l =
    seen-more 0 (entries l) x.written []
    ∙ ap (λ (k : ℕ). see x.written k (seen (entries l))) (let same = entries-length l in from-none (length (entries l)) (length l) same)

-- what an entry adds to it
abbrev pub see_kept : ℕ → ℕ → Option Kept → List Seen → List Seen
see_kept n s (Some (Hearing q b m a)) old = record { number = n; moment = s; peer = q; mid = m.mid } ∷ old
see_kept n s _ old = old

see-such : (n s : ℕ) (q : Peer) (bytes : List ℕ) (m : Content) (a : Answered) (old : List Seen) (b any : Bool) → (b ≡ true → any ≡ false)
    → cond (b && not any) (record { number = n; moment = s; peer = q; mid = m.mid } ∷ old) old ≡ see_kept n s (if_such b (Hearing q bytes m a)) old
see-such n s q bytes m a old true true none = absurd (false≢true (sym (none refl)))
see-such n s q bytes m a old true false none = refl
see-such n s q bytes m a old false any none = refl

says-seen : (n s : ℕ) (q : Peer) (b : List ℕ) (m : Content) (a : Answered) (old : List Seen) → Spells m b
    → (is_such m.kind ≡ true → list_any (is_seen s q m.mid) old ≡ false)
    → seen_by n s (Some (Heard q b)) old ≡ see_kept n s (if_such (is_such m.kind) (Hearing q b m a)) old
says-seen n s q b m a old spelled none =
    ap (λ (r : Result Content CodecFault). seen_so n s q r old) (message_again m b spelled)
    ∙ see-such n s q b m a old (is_such m.kind) (list_any (is_seen s q m.mid) old) none

repeats-seen : (n s : ℕ) (q : Peer) (b : List ℕ) (m : Content) (old : List Seen) → Spells m b
    → (is_such m.kind ≡ true → list_any (is_seen s q m.mid) old ≡ true) → seen_by n s (Some (Heard q b)) old ≡ old
repeats-seen n s q b m old spelled some =
    ap (λ (r : Result Content CodecFault). seen_so n s q r old) (message_again m b spelled)
    ∙ by (is_such m.kind) (list_any (is_seen s q m.mid) old) some
  where
    by : (c any : Bool) → (c ≡ true → any ≡ true) → cond (c && not any) (record { number = n; moment = s; peer = q; mid = m.mid } ∷ old) old ≡ old
    by true true h = refl
    by true false h = absurd (false≢true (h refl))
    by false any h = refl

garbled-seen : (n s : ℕ) (q : Peer) (b : List ℕ) (old : List Seen) → ((m : Content) → message_at b ≡ Ok m → ⊥) → seen_by n s (Some (Heard q b)) old ≡ old
garbled-seen n s q b old none = by (message_at b) refl
  where
    by : (r : Result Content CodecFault) → message_at b ≡ r → seen_so n s q r old ≡ old
    by (Ok m) e = absurd (none m e)
    by (Err f) e = refl

abbrev pub AnySeen : List Noted → Type 0
AnySeen l = (u : ℕ) (p : Peer) (mid : ℕ) → list_any (is_seen u p mid) (seen (entries l)) ≡ is_some (heard_before l u p mid)

not-heard : (l : List Noted) (s : ℕ) (p : Peer) (m : Content) → repeated l s p m ≡ None → is_such m.kind ≡ true → heard_before l s p m.mid ≡ None
not-heard l s p m e such = subst (λ (b : Bool). cond b (heard_before l s p m.mid) None ≡ None) such e

seen-as : (l : List Noted) → AnySeen l → (s : ℕ) (d : Deed) (note : Note) → Follows l s d note
    → seen_by (length l) s (done_of d) (seen (entries l)) ≡ see_kept (length l) s (kept_as d note) (seen (entries l))
seen-as l any s (Sends p b w) (First o m) f = refl
seen-as l any s (Sends p b w) note f = refl
seen-as l any s (Hears q b) (Says m to notice) f =
    says-seen (length l) s q b m _ (seen (entries l)) f.3.spelled
    (λ such. any s q m.mid ∙ ap (λ (v : Option ℕ). is_some v) (not-heard l s q m f.3.unheard such))
seen-as l any s (Hears q b) (Repeats m j) f =
    repeats-seen (length l) s q b m (seen (entries l)) f.3.0
    (λ such. any s q m.mid ∙ ap (λ (v : Option ℕ). is_some v) (subst (λ (c : Bool). cond c (heard_before l s q m.mid) None ≡ Some j) such f.3.1))
seen-as l any s (Hears q b) Garbled f = garbled-seen (length l) s q b (seen (entries l)) (λ m e. f.3.1 m (message_takes b m (is-bytes b f.3.0) e))
seen-as l any s (Hears q b) note f = absurd f.3
seen-as l any s (Carries k Past (D.Heard q b)) (Recalls m a) f =
    says-seen (length l) s q b m a (seen (entries l)) f.2.spelled
    (λ such. any s q m.mid ∙ ap (λ (v : Option ℕ). is_some v) (not-heard l s q m f.2.unheard such))
seen-as l any s (Carries k Past (D.Heard q b)) note f = absurd f.2
seen-as l any s (Carries k D.Ground (D.Heard q b)) (Recalls m a) f =
    says-seen (length l) s q b m a (seen (entries l)) f.2.spelled
    (λ such. any s q m.mid ∙ ap (λ (v : Option ℕ). is_some v) (not-heard l s q m f.2.unheard such))
seen-as l any s (Carries k D.Ground (D.Heard q b)) note f = absurd f.2
seen-as l any s (Carries k mark (D.Sent p b w)) (Bygone m) f = refl
seen-as l any s (Carries k mark (D.Sent p b w)) (First o m) f = refl
seen-as l any s (Carries k mark (D.Sent p b w)) note f = refl
seen-as l any s (Carries k mark (D.Asked c a)) note f = refl
seen-as l any s d note f = refl

any-step : (u : ℕ) (p : Peer) (mid n s : ℕ) (k : Option Kept) (old : List Seen)
    → list_any (is_seen u p mid) (see_kept n s k old) ≡ (like_as u p mid s k || list_any (is_seen u p mid) old)
any-step u p mid n s None old = refl
any-step u p mid n s (Some (Sending q b w m)) old = refl
any-step u p mid n s (Some (Hearing q b m a)) old =
    ap (λ (c : Bool). c || list_any (is_seen u p mid) old) (by (same_peer q p) (eqb m.mid mid) (ltb u (s + EXCHANGE_LIFETIME)))
  where
    by : (a b c : Bool) → (a && (b && c)) ≡ ((a && c) && b)
    by true true c = by-true c
      where
        by-true : (c : Bool) → c ≡ (c && true)
        by-true true = refl
        by-true false = refl
    by true false true = refl
    by true false false = refl
    by false b c = refl

any-seen : (l : List Noted) → Legal l → AnySeen l
any-seen [] legal u p mid = refl
any-seen (x ∷ older) legal u p mid =
    let k = kept_as x.written.deed x.note in
    let s = x.written.moment in
    ap (list_any (is_seen u p mid)) (seen-entry x older ∙ seen-as older (any-seen older legal.0) s x.written.deed x.note legal.2)
    ∙ (any-step u p mid (length older) s k (seen (entries older))
    ∙ (ap (λ (b : Bool). like_as u p mid s k || b) (any-seen older legal.0 u p mid)
    ∙ (by (like_as u p mid s k) (heard_before older u p mid)
    ∙ ap (λ (b : Bool). is_some (cond b (Some (length older)) (heard_before older u p mid))) (sym (like-as u p mid s x.written.deed x.note)))))
  where
    by : (b : Bool) (v : Option ℕ) → (b || is_some v) ≡ is_some (cond b (Some (length older)) v)
    by true v = refl
    by false v = refl

pub seen-kept : (x : Noted) (l : List Noted) → Legal (x ∷ l)
    → seen (entries (x ∷ l)) ≡ see_kept (length l) x.written.moment (kept_as x.written.deed x.note) (seen (entries l))
seen-kept x l legal = seen-entry x l ∙ seen-as l (any-seen l legal.0) x.written.moment x.written.deed x.note legal.2

-- Numbers say which is which.

abbrev Below : ℕ → List Seen → Type 0
Below n xs = AllByRecursion (λ (x : Seen). x.number < n) xs

below-more : (n : ℕ) (xs : List Seen) → Below n xs → Below (suc n) xs
below-more n [] h = tt
below-more n (x ∷ xs) h = (let lt = h.0 in omega (arith, lt), below-more n xs h.1)

below-kept : (n s : ℕ) (k : Option Kept) (xs : List Seen) → Below n xs → Below (suc n) (see_kept n s k xs)
below-kept n s None xs h = below-more n xs h
below-kept n s (Some (Sending q b w m)) xs h = below-more n xs h
below-kept n s (Some (Hearing q b m a)) xs h = (omega arith, below-more n xs h)

below-seen : (l : List Noted) → Legal l → Below (length l) (seen (entries l))
below-seen [] legal = tt
below-seen (x ∷ older) legal =
    subst (Below (suc (length older))) (sym (seen-kept x older legal))
    (below-kept (length older) x.written.moment (kept_as x.written.deed x.note) (seen (entries older)) (below-seen older legal.0))

other : (a n : ℕ) → (a ≡ n → ⊥) → eqb a n ≡ false
other a n ne = elim (eqb_tells a n) [ inl w ↦ absurd (ne w.1) | inr w ↦ w.0 ]

none-recent-seen : (t n : ℕ) (xs : List Seen) → Below n xs → list_any (is_recent_seen t n) xs ≡ false
none-recent-seen t n [] h = refl
none-recent-seen t n (x ∷ xs) h =
    let lt = h.0 in
    rw (other x.number n (λ e. omega (arith, lt, e))) (none-recent-seen t n xs h.1)

-- A newer one changes no copy.

kept-later : (t n N s : ℕ) (k : Option Kept) (xs : List Seen) → n < N → list_any (is_recent_seen t n) (see_kept N s k xs) ≡ list_any (is_recent_seen t n) xs
kept-later t n N s None xs lt = refl
kept-later t n N s (Some (Sending q b w m)) xs lt = refl
kept-later t n N s (Some (Hearing q b m a)) xs lt = rw (other N n (λ e. omega (arith, lt, e))) refl

copy-later : (gs : List ℕ) (t n N s u : ℕ) (k : Option Kept) (xs : List Seen) (done : Option Done) → n < N
    → copy_of t (see_kept N s k xs) gs n u done ≡ copy_of t xs gs n u done
copy-later gs t n N s u k xs None lt = refl
copy-later gs t n N s u k xs (Some done) lt =
    ap (λ (b : Bool). copy_if (cond (has gs n) (Some D.Ground) (cond (is_recent_first t u done || b) (Some Past) None)) n u done) (kept-later t n N s k xs lt)

copies-later : (gs : List ℕ) (t n N s : ℕ) (k : Option Kept) (xs : List Seen) (ws : List Written) → n + length ws ≤ N
    → copies_from t (see_kept N s k xs) gs n ws ≡ copies_from t xs gs n ws
copies-later gs t n N s k xs [] le = refl
copies-later gs t n N s k xs (w ∷ ws) le =
    ap (λ (cs : List Written). cs ++ copies_from t (see_kept N s k xs) gs (n + 1) ws) (copy-later gs t n N s w.moment k xs (done_of w.deed) (omega (arith, le)))
    ∙ ap (λ (cs : List Written). copy_of t xs gs n w.moment (done_of w.deed) ++ cs) (copies-later gs t (n + 1) N s k xs ws (omega (arith, le)))

copies-more : (gs : List ℕ) (t : ℕ) (xs : List Seen) (n : ℕ) (ws : List Written) (w : Written)
    → copies_from t xs gs n (ws ++ w ∷ []) ≡ copies_from t xs gs n ws ++ copy_of t xs gs (n + length ws) w.moment (done_of w.deed)
copies-more gs t xs n [] w = append-nil (copy_of t xs gs n w.moment (done_of w.deed)) ∙ ap (λ (k : ℕ). copy_of t xs gs k w.moment (done_of w.deed)) (by n)
  where
    by : (k : ℕ) → k ≡ k + 0
    by k = omega arith
copies-more gs t xs n (v ∷ ws) w =
    let here = copy_of t xs gs n v.moment (done_of v.deed) in
    ap (λ (cs : List Written). here ++ cs) (copies-more gs t xs (n + 1) ws w ∙ ap (λ (k : ℕ). copies_from t xs gs (n + 1) ws ++ copy_of t xs gs k w.moment (done_of w.deed)) (by n (length ws)))
    ∙ sym (append_assoc here (copies_from t xs gs (n + 1) ws) _)
  where
    by : (k i : ℕ) → (k + 1) + i ≡ k + suc i
    by k i = omega arith

-- Of the entry itself there is a copy where it is one of these, or is remembered.

abbrev pub written_of : ℕ → ℕ → Option Copy → List Written
written_of n s None = []
written_of n s (Some c) = (copy_as n s c).written ∷ []

or-none : (a b : Bool) → b ≡ false → (a || b) ≡ a
or-none true b e = refl
or-none false b e = e

module _ (gs : List ℕ) where
  -- one of these
  backed-copy : (t n s : ℕ) (xs : List Seen) (done : Done) → has gs n ≡ true
      → copy_of t xs gs n s (Some done) ≡ record { moment = s; deed = Carries n D.Ground done } ∷ []
  backed-copy t n s xs done e =
      ap (λ (b : Bool). copy_if (cond b (Some D.Ground) (cond (is_remembered t xs n s done) (Some Past) None)) n s done) e

  backed-here : (f : ℕ → ℕ) (t n s : ℕ) (xs : List Seen) (d : Deed) (note : Note) → has gs n ≡ true
      → copy_of t xs gs n s (done_of d) ≡ written_of n s (backing_copy f d note)
  backed-here f t n s xs (Asks c a) note e = backed-copy t n s xs (Asked c a) e
  backed-here f t n s xs (Sends p b w) (First o m) e = backed-copy t n s xs (Sent p b w) e
  backed-here f t n s xs (Sends p b w) note e = backed-copy t n s xs (Sent p b w) e
  backed-here f t n s xs (Hears p b) (Says m to notice) e = backed-copy t n s xs (Heard p b) e
  backed-here f t n s xs (Hears p b) note e = backed-copy t n s xs (Heard p b) e
  backed-here f t n s xs (Carries k mark (D.Sent p b w)) (First o m) e = backed-copy t n s xs (Sent p b w) e
  backed-here f t n s xs (Carries k mark (D.Sent p b w)) (Bygone m) e = backed-copy t n s xs (Sent p b w) e
  backed-here f t n s xs (Carries k mark (D.Sent p b w)) note e = backed-copy t n s xs (Sent p b w) e
  backed-here f t n s xs (Carries k mark (D.Heard p b)) (Recalls m a) e = backed-copy t n s xs (Heard p b) e
  backed-here f t n s xs (Carries k mark (D.Heard p b)) note e = backed-copy t n s xs (Heard p b) e
  backed-here f t n s xs (Carries k mark (D.Asked c a)) note e = backed-copy t n s xs (Asked c a) e
  backed-here f t n s xs d note e = refl

  -- one that is remembered
  past-copy : (t n s : ℕ) (xs : List Seen) (done : Done) → has gs n ≡ false
      → copy_of t xs gs n s (Some done) ≡ cond (is_remembered t xs n s done) (record { moment = s; deed = Carries n Past done } ∷ []) []
  past-copy t n s xs done e =
      ap (λ (b : Bool). copy_if (cond b (Some D.Ground) (cond (is_remembered t xs n s done) (Some Past) None)) n s done) e
      ∙ by (is_remembered t xs n s done)
    where
      by : (b : Bool) → copy_if (cond b (Some Past) None) n s done ≡ cond b (record { moment = s; deed = Carries n Past done } ∷ []) []
      by true = refl
      by false = refl

  written-past : (n s : ℕ) (b : Bool) (k : Kept) → written_of n s (past_if b k) ≡ cond b ((copy_as n s (past_copy k)).written ∷ []) []
  written-past n s true k = refl
  written-past n s false k = refl

  -- a first sending, which bears a timeout, and what was sent else
  sent-copy : (t n s : ℕ) (xs : List Seen) (p : Peer) (b : List ℕ) (w : Option ℕ) (c : Bool) → has gs n ≡ false → is_some w ≡ c → list_any (is_recent_seen t n) xs ≡ false
      → copy_of t xs gs n s (Some (Sent p b w)) ≡ cond (c && ltb t (s + MESSAGE_ID_LIFETIME)) (record { moment = s; deed = Carries n Past (Sent p b w) } ∷ []) []
  sent-copy t n s xs p b w c not e none =
      past-copy t n s xs (Sent p b w) not
      ∙ ap (λ (v : Bool). cond v (record { moment = s; deed = Carries n Past (Sent p b w) } ∷ []) [])
      (or-none (is_some w && ltb t (s + MESSAGE_ID_LIFETIME)) (list_any (is_recent_seen t n) xs) none ∙ ap (λ (v : Bool). v && ltb t (s + MESSAGE_ID_LIFETIME)) e)

  first-copy : (t n s : ℕ) (xs : List Seen) (p : Peer) (b : List ℕ) (w : Option ℕ) (m : Content) → has gs n ≡ false → is_some w ≡ true → list_any (is_recent_seen t n) xs ≡ false
      → copy_of t xs gs n s (Some (Sent p b w)) ≡ written_of n s (past_of t s (Some (Sending p b w m)))
  first-copy t n s xs p b w m not e none =
      sent-copy t n s xs p b w true not e none ∙ sym (written-past n s (ltb t (s + MESSAGE_ID_LIFETIME)) (Sending p b w m))

  heard-copy : (t n s : ℕ) (xs : List Seen) (q : Peer) (b : List ℕ) (m : Content) (a : Answered) (c : Bool) → has gs n ≡ false → Below n xs
      → copy_of t (see_kept n s (if_such c (Hearing q b m a)) xs) gs n s (Some (Heard q b)) ≡ written_of n s (past_of t s (if_such c (Hearing q b m a)))
  heard-copy t n s xs q b m a true not below =
      past-copy t n s (see_kept n s (Some (Hearing q b m a)) xs) (Heard q b) not
      ∙ (ap (λ (v : Bool). cond v (record { moment = s; deed = Carries n Past (Heard q b) } ∷ []) [])
      (rw (eqb-itself n) (or-none (ltb t (s + EXCHANGE_LIFETIME)) (list_any (is_recent_seen t n) xs) (none-recent-seen t n xs below)))
      ∙ sym (written-past n s (ltb t (s + EXCHANGE_LIFETIME)) (Hearing q b m a)))
  heard-copy t n s xs q b m a false not below =
      past-copy t n s xs (Heard q b) not
      ∙ ap (λ (v : Bool). cond v (record { moment = s; deed = Carries n Past (Heard q b) } ∷ []) []) (none-recent-seen t n xs below)

  unheard-copy : (t n s : ℕ) (xs : List Seen) (q : Peer) (b : List ℕ) → has gs n ≡ false → Below n xs → copy_of t xs gs n s (Some (Heard q b)) ≡ []
  unheard-copy t n s xs q b not below =
      past-copy t n s xs (Heard q b) not
      ∙ ap (λ (v : Bool). cond v (record { moment = s; deed = Carries n Past (Heard q b) } ∷ []) []) (none-recent-seen t n xs below)

  unasked-copy : (t n s : ℕ) (xs : List Seen) (c : ℕ) (a : Ask) → has gs n ≡ false → Below n xs → copy_of t xs gs n s (Some (Asked c a)) ≡ []
  unasked-copy t n s xs c a not below =
      past-copy t n s xs (Asked c a) not
      ∙ ap (λ (v : Bool). cond v (record { moment = s; deed = Carries n Past (Asked c a) } ∷ []) []) (none-recent-seen t n xs below)

  past-here : (t : ℕ) (l : List Noted) (s : ℕ) (d : Deed) (note : Note) (xs : List Seen) → has gs (length l) ≡ false → Follows l s d note → Below (length l) xs
      → copy_of t (see_kept (length l) s (kept_as d note) xs) gs (length l) s (done_of d) ≡ written_of (length l) s (past_of t s (kept_as d note))
  past-here t l s (Sends p b w) (First o m) xs not f below =
      first-copy t (length l) s xs p b w m not (ap is_some f.1.1.first_wait) (none-recent-seen t (length l) xs below)
  past-here t l s (Sends p b w) (Copies i) xs not f below =
      sent-copy t (length l) s xs p b w false not (ap is_some f.1.1) (none-recent-seen t (length l) xs below)
  past-here t l s (Sends p b w) Confirms xs not f below =
      sent-copy t (length l) s xs p b w false not (ap is_some f.1.0) (none-recent-seen t (length l) xs below)
  past-here t l s (Sends p b w) note xs not f below = absurd f.1
  past-here t l s (Hears q b) (Says m to notice) xs not f below = heard-copy t (length l) s xs q b m _ (is_such m.kind) not below
  past-here t l s (Hears q b) (Repeats m j) xs not f below = unheard-copy t (length l) s xs q b not below
  past-here t l s (Hears q b) Garbled xs not f below = unheard-copy t (length l) s xs q b not below
  past-here t l s (Hears q b) note xs not f below = absurd f.3
  past-here t l s (Carries k Past (D.Sent p b w)) (Bygone m) xs not f below =
      first-copy t (length l) s xs p b w m not f.2.first_wait (none-recent-seen t (length l) xs below)
  past-here t l s (Carries k D.Ground (D.Sent p b w)) (First o m) xs not f below =
      first-copy t (length l) s xs p b w m not f.2.0.first_wait (none-recent-seen t (length l) xs below)
  past-here t l s (Carries k Past (D.Sent p b w)) note xs not f below = absurd f.2
  past-here t l s (Carries k D.Ground (D.Sent p b w)) note xs not f below = absurd f.2
  past-here t l s (Carries k Past (D.Heard q b)) (Recalls m a) xs not f below = heard-copy t (length l) s xs q b m a (is_such m.kind) not below
  past-here t l s (Carries k D.Ground (D.Heard q b)) (Recalls m a) xs not f below = heard-copy t (length l) s xs q b m a (is_such m.kind) not below
  past-here t l s (Carries k Past (D.Heard q b)) note xs not f below = absurd f.2
  past-here t l s (Carries k D.Ground (D.Heard q b)) note xs not f below = absurd f.2
  past-here t l s (Carries k mark (D.Asked c a)) note xs not f below = unasked-copy t (length l) s xs c a not below
  past-here t l s (Asks c a) note xs not f below = unasked-copy t (length l) s xs c a not below
  past-here t l s d note xs not f below = refl

  copy-here : (f : ℕ → ℕ) (t : ℕ) (l : List Noted) (s : ℕ) (d : Deed) (note : Note) (xs : List Seen) (b : Bool) → has gs (length l) ≡ b → Follows l s d note → Below (length l) xs
      → copy_of t (see_kept (length l) s (kept_as d note) xs) gs (length l) s (done_of d) ≡ written_of (length l) s (copy_by b f t s d note)
  copy-here f t l s d note xs true is follows below = backed-here f t (length l) s (see_kept (length l) s (kept_as d note) xs) d note is
  copy-here f t l s d note xs false is follows below = past-here t l s d note xs is follows below

  pub entries-add : (n s : ℕ) (o : Option Copy) (l : List Noted) → entries (add_copy n s o l) ≡ entries l ++ written_of n s o
  entries-add n s None l = sym (append-nil (entries l))
  entries-add n s (Some c) l = refl

  pub entries-copied : (f : ℕ → ℕ) (t : ℕ) (l : List Noted) → Legal l → entries (copied f gs t l) ≡ copies_with t (entries l) gs
  entries-copied f t [] legal = refl
  entries-copied f t (x ∷ older) legal =
      entries-add (length older) s o (copied f gs t older)
      ∙ (ap (λ (ws : List Written). ws ++ written_of (length older) s o) (entries-copied f t older legal.0)
      ∙ sym (ap (λ (xs : List Seen). copies_from t xs gs 0 (entries older ++ x.written ∷ [])) (seen-kept x older legal)
      ∙ (copies-more gs t (see_kept (length older) s k xs) 0 (entries older) x.written
      ∙ (ap (λ (ws : List Written). ws ++ copy_of t (see_kept (length older) s k xs) gs (0 + length (entries older)) s (done_of x.written.deed))
      (copies-later gs t 0 (length older) s k xs (entries older) (let same = entries-length older in omega (arith, same)))
      ∙ ap (λ (ws : List Written). copies_with t (entries older) gs ++ ws)
      (ap (λ (n : ℕ). copy_of t (see_kept (length older) s k xs) gs n s (done_of x.written.deed)) (from-none (length (entries older)) (length older) (entries-length older))
      ∙ copy-here f t older s x.written.deed x.note xs (has gs (length older)) refl legal.2 (below-seen older legal.0))))))
    where
      s : ℕ
      s = x.written.moment

      o : Option Copy
      o = copy_in f gs t (length older) x

      k : Option Kept
      k = kept_in x

      xs : List Seen
      xs = seen (entries older)
