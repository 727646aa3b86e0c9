-- What a table knows after one more message.
use Rattle.std.proofs.Common.{◌≡◌, ℕ, ◌+◌, ◌≤◌, Bool, true, false, ◌&&◌, cond, eqb, ltb, List, [], ◌∷◌, Option, Some, None, Result, Ok, Err, refl, sym, ap, subst, ◌∙◌, arith, inl, inr}
use Rattle.std.specs.Prelude.{◌||◌, not}
use Rattle.std.specs.List.{list_any}
use Rattle.std.specs.HashMap.{HashMap, get}
use Rattle.std.proofs.lemmas.Bool.{false≢true, ltb-false, ltb-true}
use Rattle.std.proofs.lemmas.Bool.Decides.{eqb_tells}
use Rattle.limits.specs.declared.TheConstants.{EXCHANGE_LIFETIME}
use Rattle.coap_codec.specs.Reading.{message_at}
use Rattle.coap_codec.specs.Spelling.{Content}
use Rattle.coap_codec.specs.declared.fault.CodecFault.{CodecFault}
use Rattle.uri_map.specs.declared.peer.Peer.{Peer}
use Rattle.uri_map.specs.Peers.{same_peer}
use Rattle.journal_book.specs.Entries.{Heard}
use Rattle.history_laws.specs.Hearing.{is_such}
use Rattle.history_laws.proofs.CallerLemmas.{eqb-itself}
use Rattle.exchange_model.specs.Rotating.{Seen, is_seen, is_recent_seen, seen_so, seen_by}
use Rattle.journal_copies.specs.declared.source.Source.{Source}
use Rattle.journal_copies.specs.Sources.{same_source}
use Rattle.journal_copies.specs.Knowing.{is_fresh, source_of, Knows, such_id, with_seen, AreBefore, Sees}
use Rattle.journal_copies.specs.Equal.{source-same}

module _ {S : Type 0} (m n : HashMap Source ℕ S) where
  -- What would repeat the newer one at this moment, or one before, would repeat the newer one.
  newer : (t s : ℕ) (v : Option ℕ) → is_fresh s v ≡ false → (ltb t (s + EXCHANGE_LIFETIME) || is_fresh t v) ≡ ltb t (s + EXCHANGE_LIFETIME)
  newer t s None e = by (ltb t (s + EXCHANGE_LIFETIME))
    where
      by : (b : Bool) → (b || false) ≡ b
      by true = refl
      by false = refl
  newer t s (Some h) e =
      let old = ltb-false s (h + EXCHANGE_LIFETIME) e in
      by (ltb t (s + EXCHANGE_LIFETIME)) refl (ltb t (h + EXCHANGE_LIFETIME)) refl old
    where
      by : (a : Bool) → ltb t (s + EXCHANGE_LIFETIME) ≡ a → (b : Bool) → ltb t (h + EXCHANGE_LIFETIME) ≡ b
          → h + EXCHANGE_LIFETIME ≤ s → (a || b) ≡ a
      by true e b f old = refl
      by false e false f old = refl
      by false e true f old =
          let a = ltb-false t (s + EXCHANGE_LIFETIME) e in
          let b = ltb-true t (h + EXCHANGE_LIFETIME) f in
          absurd (omega (arith, a, b, old))

  of-other : (a b c : Bool) → (a && b) ≡ false → (a && (b && c)) ≡ false
  of-other true true c e = absurd (false≢true (sym e))
  of-other true false c e = refl
  of-other false b c e = refl

  -- one that repeats none
  pub knows-more : (k s : ℕ) (x : Source) (old : List Seen) → Knows m old
      → ((q : Source) → get same_source n q ≡ cond (same_source x q) (Some s) (get same_source m q))
      → list_any (is_seen s x.peer x.mid) old ≡ false → Knows n (with_seen true k s x old)
  knows-more k s x old knows update none t p mid =
      ap (is_fresh t) (update (source_of p mid)) ∙ by (same_source x (source_of p mid)) refl
    where
      row : Seen
      row = record { number = k; moment = s; peer = x.peer; mid = x.mid }

      by : (b : Bool) → same_source x (source_of p mid) ≡ b
          → is_fresh t (cond b (Some s) (get same_source m (source_of p mid))) ≡ (is_seen t p mid row || list_any (is_seen t p mid) old)
      by true e =
          sym (ap (λ (v : Bool). is_seen t p mid row || v) (sym (knows t p mid))
          ∙ (ap (λ (q : Source). is_seen t p mid row || is_fresh t (get same_source m q)) (sym (source-same x (source_of p mid) e))
          ∙ (ap (λ (v : Bool). v || is_fresh t (get same_source m x)) here
          ∙ newer t s (get same_source m x) (knows s x.peer x.mid ∙ none))))
        where
          here : is_seen t p mid row ≡ ltb t (s + EXCHANGE_LIFETIME)
          here = both (same_peer x.peer p) (eqb x.mid mid) (ltb t (s + EXCHANGE_LIFETIME)) e
            where
              both : (a b c : Bool) → (a && b) ≡ true → (a && (b && c)) ≡ c
              both true true c e = refl
              both true false c e = absurd (false≢true e)
              both false b c e = absurd (false≢true e)
      by false e =
          knows t p mid
          ∙ ap (λ (v : Bool). v || list_any (is_seen t p mid) old)
          (sym (of-other (same_peer x.peer p) (eqb x.mid mid) (ltb t (s + EXCHANGE_LIFETIME)) e))

-- What was read is a CON or NON with an ID, or none.

pub before-more : (n : ℕ) (xs : List Seen) → AreBefore n xs → AreBefore (n + 1) xs
before-more n [] h = tt
before-more n (x ∷ xs) h = (let lt = h.0 in omega (arith, lt), before-more n xs h.1)

pub other : (a n : ℕ) → (a ≡ n → ⊥) → eqb a n ≡ false
other a n ne = elim (eqb_tells a n) [ inl w ↦ absurd (ne w.1) | inr w ↦ w.0 ]

pub none-here : (t n : ℕ) (xs : List Seen) → AreBefore n xs → list_any (is_recent_seen t n) xs ≡ false
none-here t n [] h = refl
none-here t n (x ∷ xs) h = let lt = h.0 in rw (other x.number n (λ e. omega (arith, lt, e))) (none-here t n xs h.1)

pub so-none : (n s : ℕ) (p : Peer) (r : Result Content CodecFault) (old : List Seen) → such_id r ≡ None → seen_so n s p r old ≡ old
so-none n s p (Err e) old is = refl
so-none n s p (Ok m) old is = by (is_such m.kind) (list_any (is_seen s p m.mid) old) is
  where
    by : (b any : Bool) → cond b (Some m.mid) None ≡ None
        → cond (b && not any) (record { number = n; moment = s; peer = p; mid = m.mid } ∷ old) old ≡ old
    by true any e = absurd cc
    by false any e = refl

pub so-some : (n s : ℕ) (p : Peer) (mid : ℕ) (r : Result Content CodecFault) (old : List Seen) → such_id r ≡ Some mid
    → seen_so n s p r old ≡ with_seen (not (list_any (is_seen s p mid) old)) n s (source_of p mid) old
so-some n s p mid (Err e) old is = absurd cc
so-some n s p mid (Ok m) old is = by (is_such m.kind) is
  where
    same : (i : ℕ) → i ≡ mid → (any : Bool) → list_any (is_seen s p i) old ≡ any
        → cond (not any) (record { number = n; moment = s; peer = p; mid = i } ∷ old) old
        ≡ with_seen (not (list_any (is_seen s p mid) old)) n s (source_of p mid) old
    same i e true is = rw (← e, is) refl
    same i e false is = rw (← e, is) refl

    id-is : {i j : ℕ} → Some i ≡ Some j → i ≡ j
    id-is e = cc

    by : (b : Bool) → cond b (Some m.mid) None ≡ Some mid
        → cond (b && not (list_any (is_seen s p m.mid) old)) (record { number = n; moment = s; peer = p; mid = m.mid } ∷ old) old
        ≡ with_seen (not (list_any (is_seen s p mid) old)) n s (source_of p mid) old
    by true e = same m.mid (id-is e) (list_any (is_seen s p m.mid) old) refl
    by false e = absurd cc

before-seen : (more : Bool) (n s : ℕ) (x : Source) (old : List Seen) → AreBefore n old → AreBefore (n + 1) (with_seen more n s x old)
before-seen true n s x old h = (omega arith, before-more n old h)
before-seen false n s x old h = before-more n old h

here-is : (more : Bool) (t n s : ℕ) (x : Source) (old : List Seen) → AreBefore n old
    → list_any (is_recent_seen t n) (with_seen more n s x old) ≡ (more && ltb t (s + EXCHANGE_LIFETIME))
here-is true t n s x old h =
    rw (eqb-itself n, none-here t n old h) (by (ltb t (s + EXCHANGE_LIFETIME)))
  where
    by : (b : Bool) → (b || false) ≡ b
    by true = refl
    by false = refl
here-is false t n s x old h = none-here t n old h

module _ {S : Type 0} (m : HashMap Source ℕ S) where
  -- nothing that could be repeated
  pub sees-none : (n s : ℕ) (p : Peer) (bytes : List ℕ) (old : List Seen) → AreBefore n old → Knows m old → such_id (message_at bytes) ≡ None
      → Sees n s (Some (Heard p bytes)) old m false
  sees-none n s p bytes old h k e =
      let same = so-none n s p (message_at bytes) old e in
      record {
        knows = subst (Knows m) (sym same) k;
        before = subst (AreBefore (n + 1)) (sym same) (before-more n old h);
        more_is = λ t. ap (list_any (is_recent_seen t n)) same ∙ none-here t n old h;
      }

  pub sees-some : (n s : ℕ) (p : Peer) (bytes : List ℕ) (mid : ℕ) (old : List Seen) (more : Bool) → AreBefore n old
      → such_id (message_at bytes) ≡ Some mid → more ≡ not (list_any (is_seen s p mid) old) → Knows m (with_seen more n s (source_of p mid) old)
      → Sees n s (Some (Heard p bytes)) old m more
  sees-some n s p bytes mid old more h e is k =
      let same : seen_by n s (Some (Heard p bytes)) old ≡ with_seen more n s (source_of p mid) old =
      so-some n s p mid (message_at bytes) old e ∙ ap (λ (b : Bool). with_seen b n s (source_of p mid) old) (sym is) in
      record {
        knows = subst (Knows m) (sym same) k;
        before = subst (AreBefore (n + 1)) (sym same) (before-seen more n s (source_of p mid) old h);
        more_is = λ t. ap (list_any (is_recent_seen t n)) same ∙ here-is more t n s (source_of p mid) old h;
      }
