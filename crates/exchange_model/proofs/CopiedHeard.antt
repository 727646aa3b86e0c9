-- What may be repeated yet is all among the copies, and is answered alike.
use Rattle.std.proofs.Common.{◌≡◌, ◌≢◌, ◌⊎◌, ℕ, ◌+◌, ◌<◌, ◌≤◌, inl, inr, Bool, true, false, ◌&&◌, cond, ltb, List, [], ◌∷◌, length, Option, Some, None, refl, sym, ap, ◌∙◌, arith}
use Rattle.std.specs.Prelude.{option_map}
use Rattle.std.proofs.lemmas.Bool.{false≢true, ltb-true, lt-ltb}
use Rattle.limits.specs.declared.TheConstants.{EXCHANGE_LIFETIME}
use Rattle.coap_codec.specs.declared.message.MsgType.{MsgType}
use Rattle.coap_codec.specs.declared.message.MsgType.TheVariants.{Con, Non, Ack, Rst}
use Rattle.coap_codec.specs.Spelling.{Content}
use Rattle.uri_map.specs.declared.peer.Peer.{Peer}
use Rattle.uri_map.specs.Peers.{same_peer}
use Rattle.journal_book.specs.Entries.{Deed, Sends, Hears, Carries}
use Rattle.journal_book.specs.Entries as D
use Rattle.message_layer.specs.declared.state.Reply.{Reply}
use Rattle.history_laws.specs.Readings.{Noted, Note, Says, Recalls, Answered, at}
use Rattle.history_laws.specs.Hearing.{is_such, is_live, is_like, heard_before, live_heard}
use Rattle.history_laws.specs.Confirming.{answered, answered_as, answer_kind}
use Rattle.history_laws.proofs.CallerLemmas.{at-cases, at-new}
use Rattle.history_links.specs.Agrees.{reply_of}
use Rattle.exchange_model.proofs.Shapes.{Kept, Sending, Hearing, Copy, if_such, kept_as, kept_of, still_kept, copy_as, kept-copy, moment-copy, Fits, live_as, live-as, bears_as, like-as, answered_as as answered_of}
use Rattle.exchange_model.proofs.Copies.{add_copy, copied, copy_in, fits-in, kept_in, like_as, live-copy}

-- how one that is heard again is answered
abbrev pub answers_in : List Noted → ℕ → Reply
answers_in l j = reply_of (answered_as (at l j))

-- how what is remembered was answered
abbrev pub reply_as : Option Kept → Reply
reply_as (Some (Hearing p b m a)) = reply_of (answer_kind a)
reply_as _ = reply_of None

same-reply : (v : Option MsgType) → reply_of (answer_kind (answered_of v)) ≡ reply_of v
same-reply None = refl
same-reply (Some Con) = refl
same-reply (Some Non) = refl
same-reply (Some Ack) = refl
same-reply (Some Rst) = refl

such-reply : (b : Bool) (p : Peer) (bytes : List ℕ) (m : Content) (a : Answered) (v : Option MsgType) → reply_of (answer_kind a) ≡ reply_of v
    → b ≡ true → reply_as (if_such b (Hearing p bytes m a)) ≡ reply_of v
such-reply true p bytes m a v e such = e
such-reply false p bytes m a v e such = absurd (false≢true such)

first-true : (a b : Bool) → (a && b) ≡ true → a ≡ true
first-true true b e = refl
first-true false b e = absurd (false≢true e)

-- What is live is answered as its copy is.
reply-as : (t : ℕ) (p : Peer) (s : ℕ) (d : Deed) (note : Note) → is_live t p s d note ≡ true → reply_as (kept_as d note) ≡ reply_of (answered note)
reply-as t p s (Hears q b) (Says m to notice) e =
    such-reply (is_such m.kind) q b m (answered_of (answered (Says m to notice))) (answered (Says m to notice)) (same-reply (answered (Says m to notice))) (first-true (is_such m.kind) _ e)
reply-as t p s (Carries k mark (D.Heard q b)) (Recalls m a) e = such-reply (is_such m.kind) q b m a (answer_kind a) refl (first-true (is_such m.kind) _ e)
reply-as t p s d note e = absurd (false≢true e)

-- found, and how it is answered
abbrev pub found_in : List Noted → ℕ → Peer → ℕ → Option Reply
found_in l u p mid = option_map (answers_in l) (heard_before l u p mid)

below : (l : List Noted) (u : ℕ) (p : Peer) (mid j : ℕ) → heard_before l u p mid ≡ Some j → j < length l
below [] u p mid j e = cc
below (x ∷ older) u p mid j e = by (is_like u p mid x) (below older u p mid j) e
  where
    here : Some (length older) ≡ Some j → length older ≡ j
    here h = cc

    by : (b : Bool) → (heard_before older u p mid ≡ Some j → j < length older) → cond b (Some (length older)) (heard_before older u p mid) ≡ Some j → j < length (x ∷ older)
    by true ih e = let same = here e in omega (arith, same)
    by false ih e = let lt = ih e in omega (arith, lt)

older-found : (x : Noted) (l : List Noted) (found : Option ℕ) → ((j : ℕ) → found ≡ Some j → j < length l)
    → option_map (answers_in (x ∷ l)) found ≡ option_map (answers_in l) found
older-found x l None h = refl
older-found x l (Some j) h = ap (λ (v : Option Noted). Some (reply_of (answered_as v))) (by (at-cases x l j))
  where
    by : ((j ≡ length l) × (at (x ∷ l) j ≡ Some x)) ⊎ ((j ≢ length l) × (at (x ∷ l) j ≡ at l j)) → at (x ∷ l) j ≡ at l j
    by (inl w) = let same = w.0 in let lt = h j refl in absurd (omega (arith, same, lt))
    by (inr w) = w.1

found-entry : (x : Noted) (l : List Noted) (u : ℕ) (p : Peer) (mid : ℕ) (b : Bool) → is_like u p mid x ≡ b
    → found_in (x ∷ l) u p mid ≡ cond b (Some (reply_of (answered x.note))) (found_in l u p mid)
found-entry x l u p mid true e = rw (e) (ap (λ (v : Option Noted). Some (reply_of (answered_as v))) (at-new x l))
found-entry x l u p mid false e = rw (e) (older-found x l (heard_before l u p mid) (λ j h. below l u p mid j h))

abbrev pub found_as : ℕ → Peer → ℕ → ℕ → Option Kept → Option Reply → Option Reply
found_as u p mid s k old = cond (like_as u p mid s k) (Some (reply_as k)) old

found-so : (x : Noted) (l : List Noted) (u : ℕ) (p : Peer) (mid : ℕ)
    → found_in (x ∷ l) u p mid ≡ found_as u p mid x.written.moment (kept_as x.written.deed x.note) (found_in l u p mid)
found-so x l u p mid = by (is_like u p mid x) refl
  where
    same : is_like u p mid x ≡ like_as u p mid x.written.moment (kept_as x.written.deed x.note)
    same = like-as u p mid x.written.moment x.written.deed x.note

    by : (b : Bool) → is_like u p mid x ≡ b → found_in (x ∷ l) u p mid ≡ found_as u p mid x.written.moment (kept_as x.written.deed x.note) (found_in l u p mid)
    by true e =
        found-entry x l u p mid true e
        ∙ (ap (λ (r : Reply). Some r) (sym (reply-as u p x.written.moment x.written.deed x.note (first-true (is_live u p x.written.moment x.written.deed x.note) _ e)))
        ∙ ap (λ (b : Bool). cond b (Some (reply_as (kept_as x.written.deed x.note))) (found_in l u p mid)) (sym e ∙ same))
    by false e =
        found-entry x l u p mid false e
        ∙ ap (λ (b : Bool). cond b (Some (reply_as (kept_as x.written.deed x.note))) (found_in l u p mid)) (sym e ∙ same)

found-copy : (n s : ℕ) (c : Copy) (l : List Noted) (u : ℕ) (p : Peer) (mid : ℕ)
    → found_in (copy_as n s c ∷ l) u p mid ≡ found_as u p mid s (kept_of c) (found_in l u p mid)
found-copy n s c l u p mid =
    found-so (copy_as n s c) l u p mid
    ∙ (ap (λ (v : ℕ). found_as u p mid v (kept_in (copy_as n s c)) (found_in l u p mid)) (moment-copy n s c)
    ∙ ap (λ (k : Option Kept). found_as u p mid s k (found_in l u p mid)) (kept-copy n s c))

-- What may be repeated later is kept.
kept-live : (t u s : ℕ) (p : Peer) (k : Kept) → t ≤ u → live_as u p s (Some k) ≡ true → still_kept t s k ≡ true
kept-live t u s p (Sending q b w m) later e = absurd (false≢true e)
kept-live t u s p (Hearing q b m a) later e =
    let live : ltb u (s + EXCHANGE_LIFETIME) ≡ true = second (same_peer q p) _ e in
    lt-ltb t (s + EXCHANGE_LIFETIME) (let h = ltb-true u (s + EXCHANGE_LIFETIME) live in omega (arith, h, later))
  where
    second : (a b : Bool) → (a && b) ≡ true → b ≡ true
    second true b e = e
    second false b e = absurd (false≢true e)

none-live : (t u s : ℕ) (p : Peer) (k : Option Kept) → t ≤ u → Fits t s None k → live_as u p s k ≡ false
none-live t u s p None later fits = refl
none-live t u s p (Some k) later fits = by (live_as u p s (Some k)) refl
  where
    by : (b : Bool) → live_as u p s (Some k) ≡ b → b ≡ false
    by true e = absurd (false≢true (sym (fits k refl) ∙ kept-live t u s p k later e))
    by false e = refl

found-add : (t u : ℕ) (p : Peer) (mid n s : ℕ) (o : Option Copy) (k : Option Kept) (l : List Noted) → t ≤ u → Fits t s o k
    → found_in (add_copy n s o l) u p mid ≡ found_as u p mid s k (found_in l u p mid)
found-add t u p mid n s None k l later fits =
    sym (ap (λ (b : Bool). cond (b && bears_as mid k) (Some (reply_as k)) (found_in l u p mid)) (none-live t u s p k later fits))
found-add t u p mid n s (Some c) k l later fits =
    found-copy n s c l u p mid ∙ ap (λ (k : Option Kept). found_as u p mid s k (found_in l u p mid)) fits

module _ (f : ℕ → ℕ) (gs : List ℕ) where
  pub found-copied : (t u : ℕ) (p : Peer) (mid : ℕ) (l : List Noted) → t ≤ u → found_in (copied f gs t l) u p mid ≡ found_in l u p mid
  found-copied t u p mid [] later = refl
  found-copied t u p mid (x ∷ older) later =
      found-add t u p mid (length older) x.written.moment (copy_in f gs t (length older) x) (kept_in x) (copied f gs t older) later (fits-in f gs t (length older) x)
      ∙ (ap (found_as u p mid x.written.moment (kept_in x)) (found-copied t u p mid older later) ∙ sym (found-so x older u p mid))

-- As many may be repeated.

abbrev pub count_as : ℕ → Peer → ℕ → Option Kept → ℕ → ℕ
count_as u p s k old = cond (live_as u p s k) (old + 1) old

count-add : (t u : ℕ) (p : Peer) (n s : ℕ) (o : Option Copy) (k : Option Kept) (l : List Noted) → t ≤ u → Fits t s o k
    → live_heard (add_copy n s o l) u p ≡ count_as u p s k (live_heard l u p)
count-add t u p n s None k l later fits = sym (ap (λ (b : Bool). cond b (live_heard l u p + 1) (live_heard l u p)) (none-live t u s p k later fits))
count-add t u p n s (Some c) k l later fits =
    ap (λ (b : Bool). cond b (live_heard l u p + 1) (live_heard l u p)) (live-copy u p n s c ∙ ap (live_as u p s) fits)

module _ (f : ℕ → ℕ) (gs : List ℕ) where
  pub live-copied : (t u : ℕ) (p : Peer) (l : List Noted) → t ≤ u → live_heard (copied f gs t l) u p ≡ live_heard l u p
  live-copied t u p [] later = refl
  live-copied t u p (x ∷ older) later =
      count-add t u p (length older) x.written.moment (copy_in f gs t (length older) x) (kept_in x) (copied f gs t older) later (fits-in f gs t (length older) x)
      ∙ (ap (count_as u p x.written.moment (kept_in x)) (live-copied t u p older later)
      ∙ sym (ap (λ (b : Bool). cond b (live_heard older u p + 1) (live_heard older u p)) (live-as u p x.written.moment x.written.deed x.note)))
