-- What the turns send is what a tick sends.
use Rattle.std.proofs.Common.{◌≡◌, ℕ, ◌+◌, ◌<◌, Bool, true, false, cond, List, [], ◌∷◌, ◌++◌, length, Option, Some, None, inl, inr, refl, sym, ap, ◌∙◌, arith, length-append, append_assoc, append-nil, add-zero}
use Rattle.std.specs.Prelude.{nat_le, nat_lt}
use Rattle.std.specs.Option.{option_map, option_to_list}
use Rattle.std.proofs.lemmas.Bool.{false≢true, lt-ltb}
use Rattle.std.proofs.lemmas.Bool.Decides.{leb_tells}
use Rattle.std.proofs.lemmas.Option.{none-some, same_Some}
use Rattle.uri_map.specs.declared.peer.Peer.{Peer}
use Rattle.journal_book.specs.Entries.{Deed, Sends}
use Rattle.message_layer.specs.Values.{LinkState, Told, no_news, timed_out}
use Rattle.message_layer.specs.Sending.{due_of, with_copy, next_sent, ticked_by, IsNext}
use Rattle.message_layer.specs.Prepared.{IsTick, datagram_of, copied}
use Rattle.message_layer.specs.Calls.{is_among, without}
use Rattle.message_layer.specs.declared.prepared.FirstSending.{FirstSending}
use Rattle.message_layer.specs.declared.prepared.Ticking.{Ticking}
use Rattle.message_layer.specs.declared.prepared.Ticking.TheVariants.{Rests, Copies, GivesUp}
use Rattle.message_layer.specs.declared.state.Outstanding.{Outstanding}
use Rattle.message_layer.specs.declared.state.Waiting.{Waiting}
use Rattle.exchange_model.specs.Entering.{Going, link_after, going_as, first_deeds, in_turn, link_deeds, link_going, all_deeds, all_going, turn_deeds, rid}
use Rattle.exchange_model.specs.Calls.{is_due, link_due}
use Rattle.exchange_model.specs.Due.{timer}
use Rattle.exchange_model.specs.State.{PeerLink}
use Rattle.endpoint_table.specs.declared.turns.Turn.{Turn}
use Rattle.endpoint_table.specs.Turns.{sent_first, deeds_of, going_first, going_of, turns_deeds, turns_going, IsTurnOf, AreTurns}

news-apart : (token : List ℕ) → no_news ≡ timed_out token → ⊥
news-apart token e = cc

-- A copy adds to what goes out.
longer : (xs : List (List ℕ)) (d : List ℕ) → xs ++ d ∷ [] ≡ xs → ⊥
longer xs d e =
    let n : length xs + 1 ≡ length xs = sym (length-append xs (d ∷ [])) ∙ ap length e in
    absurd (omega (arith, n))

-- the message that goes out next is the one that waits first
next-same : (t : ℕ) (p : Peer) (last : Option ℕ) (ws : List Waiting) (next : Option FirstSending)
    → IsNext t last ws next → sent_first p next ≡ first_deeds t p last (in_turn true ws)
next-same t p last [] None h = refl
next-same t p last [] (Some f) h = absurd h
next-same t p last (w ∷ ws) None h = absurd h
next-same t p last (w ∷ ws) (Some f) h =
    ap (λ (d : List ℕ). Sends p d (Some f.message.timeout) ∷ []) h.1
    ∙ ap (λ (o : Outstanding). Sends p o.datagram (Some o.timeout) ∷ []) h.0

next-going : (t n : ℕ) (last : Option ℕ) (ws : List Waiting) (next : Option FirstSending)
    → IsNext t last ws next → going_first n next ≡ going_as n (in_turn true ws)
next-going t n last [] None h = refl
next-going t n last [] (Some f) h = absurd h
next-going t n last (w ∷ ws) None h = absurd h
next-going t n last (w ∷ ws) (Some f) h =
    ap (λ (o : Outstanding). record { token = o.token; number = n } ∷ []) h.0

-- What a turn does says what is sent.
abbrev SendsSo : ℕ → Peer → LinkState → Option Outstanding → Ticking → Type 0
SendsSo t p s v k =
    (deeds_of p k ≡ link_deeds t p s v)
    × ((n : ℕ) → going_of n k ≡ going_as n (link_going t s v))

rests-so : (t : ℕ) (p : Peer) (s : LinkState) (v : Option Outstanding)
    → ticked_by t s v ≡ (s, no_news) → SendsSo t p s v Rests
rests-so t p s None e = (refl, λ n. refl)
rests-so t p s (Some o) e = by (nat_lt t (due_of o)) (nat_lt o.retransmissions 4) e
  where
    by : (a b : Bool)
        → ◌≡◌ {A = LinkState × Told} (cond a (s, no_news)
        (cond b (with_copy t s o, no_news) (next_sent t s, timed_out o.token))) (s, no_news)
        → ([] ≡ cond a [] (cond b (Sends p o.datagram None ∷ [])
        (first_deeds t p s.last_mid (in_turn true s.waiting))))
        × ((n : ℕ) → [] ≡ going_as n (cond a None (cond b None (in_turn true s.waiting))))
    by true b h = (refl, λ n. refl)
    by false true h =
        absurd (longer s.out o.datagram (ap (λ (x : LinkState × Told). x.0.out) h))
    by false false h =
        absurd (news-apart o.token (sym (ap (λ (x : LinkState × Told). x.1) h)))

copies-so : (t : ℕ) (p : Peer) (s : LinkState) (v : Option Outstanding) (d : List ℕ)
    → option_map datagram_of v ≡ Some d → ticked_by t s v ≡ (copied t d s, no_news)
    → SendsSo t p s v (Copies d)
copies-so t p s None d is e = absurd (none-some d is)
copies-so t p s (Some o) d is e = by (nat_lt t (due_of o)) (nat_lt o.retransmissions 4) e
  where
    by : (a b : Bool)
        → ◌≡◌ {A = LinkState × Told} (cond a (s, no_news)
        (cond b (with_copy t s o, no_news) (next_sent t s, timed_out o.token))) (copied t d s, no_news)
        → (Sends p d None ∷ [] ≡ cond a [] (cond b (Sends p o.datagram None ∷ [])
        (first_deeds t p s.last_mid (in_turn true s.waiting))))
        × ((n : ℕ) → [] ≡ going_as n (cond a None (cond b None (in_turn true s.waiting))))
    by true b h =
        absurd (longer s.out d (sym (ap (λ (x : LinkState × Told). x.0.out) h)))
    by false true h =
        (ap (λ (b : List ℕ). Sends p b None ∷ []) (sym (same_Some o.datagram d is)), λ n. refl)
    by false false h =
        absurd (news-apart o.token (sym (ap (λ (x : LinkState × Told). x.1) h)))

gives-so : (t : ℕ) (p : Peer) (s : LinkState) (v : Option Outstanding) (token : List ℕ)
    (next : Option FirstSending) → IsNext t s.last_mid s.waiting next
    → ticked_by t s v ≡ (next_sent t s, timed_out token)
    → SendsSo t p s v (GivesUp token next)
gives-so t p s None token next is e =
    absurd (news-apart token (ap (λ (x : LinkState × Told). x.1) e))
gives-so t p s (Some o) token next is e =
    by (nat_lt t (due_of o)) (nat_lt o.retransmissions 4) e
  where
    by : (a b : Bool)
        → ◌≡◌ {A = LinkState × Told} (cond a (s, no_news)
        (cond b (with_copy t s o, no_news) (next_sent t s, timed_out o.token))) (next_sent t s, timed_out token)
        → (sent_first p next ≡ cond a [] (cond b (Sends p o.datagram None ∷ [])
        (first_deeds t p s.last_mid (in_turn true s.waiting))))
        × ((n : ℕ) → going_first n next
        ≡ going_as n (cond a None (cond b None (in_turn true s.waiting))))
    by true b h = absurd (news-apart token (ap (λ (x : LinkState × Told). x.1) h))
    by false true h = absurd (news-apart token (ap (λ (x : LinkState × Told). x.1) h))
    by false false h = (
      next-same t p s.last_mid s.waiting next is,
      λ n. next-going t n s.last_mid s.waiting next is,
    )

sends-so : (t : ℕ) (p : Peer) (s : LinkState) (room : Bool) (k : Ticking) → IsTick t s room k
    → SendsSo t p s s.outstanding k
sends-so t p s room Rests h = rests-so t p s s.outstanding h
sends-so t p s room (Copies d) h = copies-so t p s s.outstanding d h.datagram h.does
sends-so t p s room (GivesUp token next) h = gives-so t p s s.outstanding token next h.sent h.does

-- where nothing is due, nothing is sent

pub not-due : (t : ℕ) (s : LinkState) (v : Option Outstanding) → is_due t v ≡ false
    → ticked_by t s v ≡ (s, no_news)
not-due t s None e = refl
not-due t s (Some o) e = rw (lt-ltb t (due_of o) (not-le (due_of o) t e)) refl
  where
    not-le : (a b : ℕ) → nat_le a b ≡ false → b < a
    not-le a b f = elim (leb_tells a b) [
      | inl w ↦ absurd (false≢true (sym f ∙ w.0))
      | inr w ↦ w.1
    ]

pub rests-there : (t : ℕ) (gone : List (List ℕ)) (x : PeerLink) (room : Bool)
    → link_due t x ≡ false → IsTick t (without gone x.link) room Rests
rests-there t gone x room e = not-due t (without gone x.link) x.link.outstanding e

module _ (t : ℕ) (gone : List (List ℕ)) (x : PeerLink) where
  abbrev s : LinkState
  s = without gone x.link

  turn-deeds : (room : Bool) (o : Option Turn) → IsTurnOf t gone x room o
      → turns_deeds (option_to_list o) ≡ turn_deeds t (is_among gone) x
  turn-deeds room None h = (rests-so t x.peer s x.link.outstanding (rests-there t gone x room h)).0
  turn-deeds room (Some k) h =
      append-nil (deeds_of k.peer k.ticking)
      ∙ (ap (λ (p : Peer). deeds_of p k.ticking) h.1 ∙ (sends-so t x.peer s room k.ticking h.2).0)

  turn-going : (room : Bool) (o : Option Turn) (n : ℕ) → IsTurnOf t gone x room o
      → turns_going n (option_to_list o)
      ≡ going_as n (link_going t (rid (is_among gone) x) x.link.outstanding)
  turn-going room None n h =
      (rests-so t x.peer s x.link.outstanding (rests-there t gone x room h)).1 n
  turn-going room (Some k) n h =
      append-nil (going_of n k.ticking) ∙ (sends-so t x.peer s room k.ticking h.2).1 n

deeds-both : (ks js : List Turn) → turns_deeds (ks ++ js) ≡ turns_deeds ks ++ turns_deeds js
deeds-both [] js = refl
deeds-both (k ∷ ks) js =
    ap (λ (ds : List Deed). deeds_of k.peer k.ticking ++ ds) (deeds-both ks js)
    ∙ sym (append_assoc (deeds_of k.peer k.ticking) (turns_deeds ks) (turns_deeds js))

going-both : (n : ℕ) (o : Option Turn) (js : List Turn)
    → turns_going n (option_to_list o ++ js)
    ≡ turns_going n (option_to_list o) ++ turns_going (n + length (turns_deeds (option_to_list o))) js
going-both n None js = ap (λ (m : ℕ). turns_going m js) (sym (add-zero n))
going-both n (Some k) js =
    ap (λ (m : ℕ). going_of n k.ticking ++ turns_going (n + m) js)
    (ap length (sym (append-nil (deeds_of k.peer k.ticking))))
    ∙ ap (λ (gs : List Going).
    gs ++ turns_going (n + length (turns_deeds (k ∷ []))) js)
    (sym (append-nil (going_of n k.ticking)))

module _ (t : ℕ) (gone : List (List ℕ)) where
  pub deeds-same : (xs : List PeerLink) (rooms : List Bool) (ks : List Turn)
      → AreTurns t gone xs rooms ks → turns_deeds ks ≡ all_deeds t (is_among gone) xs
  deeds-same [] rooms ks a = ap turns_deeds a
  deeds-same (x ∷ xs) [] ks a = absurd a
  deeds-same (x ∷ xs) (room ∷ rooms) ks a =
      ap turns_deeds a.are
      ∙ (deeds-both (option_to_list a.turn) a.others
      ∙ (ap (λ (ds : List Deed). ds ++ turns_deeds a.others) (turn-deeds t gone x room a.turn a.is)
      ∙ ap (λ (ds : List Deed). turn_deeds t (is_among gone) x ++ ds)
      (deeds-same xs rooms a.others a.rest)))

  pub going-same : (xs : List PeerLink) (rooms : List Bool) (ks : List Turn) (n : ℕ)
      → AreTurns t gone xs rooms ks → turns_going n ks ≡ all_going t (is_among gone) n xs
  going-same [] rooms ks n a = ap (turns_going n) a
  going-same (x ∷ xs) [] ks n a = absurd a
  going-same (x ∷ xs) (room ∷ rooms) ks n a =
      let gs = going_as n (link_going t (rid (is_among gone) x) x.link.outstanding) in
      let m = n + length (turn_deeds t (is_among gone) x) in
      ap (turns_going n) a.are
      ∙ (going-both n a.turn a.others
      ∙ (ap (λ (hs : List Going).
      hs ++ turns_going (n + length (turns_deeds (option_to_list a.turn))) a.others)
      (turn-going t gone x room a.turn n a.is)
      ∙ (ap (λ (ds : List Deed). gs ++ turns_going (n + length ds) a.others)
      (turn-deeds t gone x room a.turn a.is)
      ∙ ap (λ (hs : List Going). gs ++ hs) (going-same xs rooms a.others m a.rest))))

-- a link at which nothing is due keeps its timer
pub timer-rests : (t : ℕ) (gone : List ℕ → Bool) (x : PeerLink) → link_due t x ≡ false
    → timer (link_after t gone x) ≡ timer x
timer-rests t gone x e =
    ap (λ (r : LinkState × Told). option_map due_of r.0.outstanding)
    (not-due t (rid gone x) x.link.outstanding e)
