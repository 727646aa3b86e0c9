-- What the copies of a journal copy, in its order, and of which of its entries they are.
use Rattle.std.proofs.Common.{◌≡◌, ◌⊎◌, inl, inr, ℕ, zero, suc, ◌+◌, ◌<◌, Bool, true, false, cond, eqb, List, [], ◌∷◌, ◌++◌, take, Option, Some, None, refl, sym, ap, subst, ◌∙◌, arith}
use Rattle.std.specs.Prelude.{slice_get, option_map, option_and_then, ◌||◌}
use Rattle.std.proofs.lemmas.Bool.{false≢true, or_cases}
use Rattle.std.proofs.lemmas.Bool.Decides.{eqb_tells}
use Rattle.uri_map.specs.declared.peer.Peer.{Peer}
use Rattle.resp_cache.specs.Stored.{Stored}
use Rattle.journal_book.specs.Entries.{Mark, Ground, Past, Done, Asked, Sent, Heard, done_of, Deed, Carries, Written}
use Rattle.history_laws.proofs.CallerLemmas.{none-some, some-is}
use Rattle.exchange_model.specs.Backing.{backing, done_at, is_under, replied_to, replied_to_by, replies_backing, token_in, unanswered_by, unanswered_from, with_reply}
use Rattle.exchange_model.specs.Rotating.{Seen, copies_from, copy_if, copy_of, has, is_remembered, mark_of}
use Rattle.three_parties.proofs.Lists.{got-below, got-both}

-- ---- a copy, and the entry that it copies

pub record IsCopyOf (gs : List ℕ) (n : ℕ) (ws : List Written) (s k : ℕ) (mark : Mark) (done : Done) : Type 0 where
  pub number : ℕ
  pub is : k ≡ n + number
  pub written : Written
  pub stands : slice_get ws number ≡ Some written
  pub moment : written.moment ≡ s
  pub says : done_of written.deed ≡ Some done
  pub marked : mark ≡ Ground → has gs k ≡ true

-- what a copy has
abbrev number_in : Deed → ℕ
number_in (Carries n mark done) = n
number_in d = 0

abbrev mark_in : Deed → Mark
mark_in (Carries n mark done) = mark
mark_in d = Past

abbrev done_in : Done → Deed → Done
done_in other (Carries n mark done) = done
done_in other d = other

ground-marked : (t : ℕ) (xs : List Seen) (gs : List ℕ) (n s : ℕ) (done : Done) → mark_of t xs gs n s done ≡ Some Ground → has gs n ≡ true
ground-marked t xs gs n s done e = by (has gs n) refl e
  where
    past : (b : Bool) → cond b (Some Past) None ≡ Some Ground → ⊥
    past true f = cc
    past false f = cc

    by : (b : Bool) → has gs n ≡ b → cond b (Some Ground) (cond (is_remembered t xs n s done) (Some Past) None) ≡ Some Ground → has gs n ≡ true
    by true is f = is
    by false is f = absurd (past (is_remembered t xs n s done) f)

module _ (t : ℕ) (xs : List Seen) (gs : List ℕ) where
  -- the one copy of an entry
  one-copy : (n : ℕ) (w : Written) (o : Option Done) → done_of w.deed ≡ o → (i s k : ℕ) (mark : Mark) (done : Done)
      → slice_get (copy_of t xs gs n w.moment o) i ≡ Some (record { moment = s; deed = Carries k mark done })
      → (i ≡ 0) × (k ≡ n) × (w.moment ≡ s) × (done_of w.deed ≡ Some done) × (mark ≡ Ground → has gs k ≡ true)
  one-copy n w None e i s k mark done f = absurd (none-some _ f)
  one-copy n w (Some d) e i s k mark done f = by (mark_of t xs gs n w.moment d) refl i f
    where
      by : (m : Option Mark) → mark_of t xs gs n w.moment d ≡ m → (i : ℕ)
          → slice_get (copy_if m n w.moment d) i ≡ Some (record { moment = s; deed = Carries k mark done })
          → (i ≡ 0) × (k ≡ n) × (w.moment ≡ s) × (done_of w.deed ≡ Some done) × (mark ≡ Ground → has gs k ≡ true)
      by None is i g = absurd (none-some _ g)
      by (Some m) is (suc i) g = absurd (none-some _ g)
      by (Some m) is zero g =
          let copy : Written = record { moment = w.moment; deed = Carries n m d } in
          let same : copy ≡ record { moment = s; deed = Carries k mark done } = some-is _ _ g in
          let number : n ≡ k = ap (λ (w : Written). number_in w.deed) same in
          let marks : m ≡ mark = ap (λ (w : Written). mark_in w.deed) same in
          let says : d ≡ done = ap (λ (w : Written). done_in d w.deed) same in (
            refl,
            sym number,
            ap (λ (w : Written). w.moment) same,
            e ∙ ap (λ (d : Done). Some d) says,
            λ ground.
                subst (λ (k : ℕ). has gs k ≡ true) number
                (ground-marked t xs gs n w.moment d (is ∙ ap (λ (m : Mark). Some m) (marks ∙ ground))),
          )

  pub copied : (n : ℕ) (ws : List Written) (i s k : ℕ) (mark : Mark) (done : Done)
      → slice_get (copies_from t xs gs n ws) i ≡ Some (record { moment = s; deed = Carries k mark done }) → IsCopyOf gs n ws s k mark done
  copied n [] i s k mark done e = absurd (none-some _ e)
  copied n (w ∷ ws) i s k mark done e =
      elim (got-both (copy_of t xs gs n w.moment (done_of w.deed)) (copies_from t xs gs (n + 1) ws) i _ e) [
        | inl h ↦
            let it = one-copy n w (done_of w.deed) refl i s k mark done h in
            let same = it.1 in
            record { number = 0; is = omega (arith, same); written = w; stands = refl; moment = it.2; says = it.3; marked = it.4 }
        | inr h ↦
            let it = copied (n + 1) ws h.0 s k mark done h.2 in
            let same = it.is in
            record {
              number = suc it.number;
              is = omega (arith, same);
              written = it.written;
              stands = it.stands;
              moment = it.moment;
              says = it.says;
              marked = it.marked;
            }
      ]

  -- Of two copies the later one copies a later entry.
  pub in-order : (n : ℕ) (ws : List Written) (i j s u k m : ℕ) (a b : Mark) (c d : Done)
      → slice_get (copies_from t xs gs n ws) i ≡ Some (record { moment = s; deed = Carries k a c })
      → slice_get (copies_from t xs gs n ws) j ≡ Some (record { moment = u; deed = Carries m b d }) → i < j → k < m
  in-order n [] i j s u k m a b c d e f lt = absurd (none-some _ e)
  in-order n (w ∷ ws) i j s u k m a b c d e f lt =
      let one = copy_of t xs gs n w.moment (done_of w.deed) in
      let rest = copies_from t xs gs (n + 1) ws in
      elim (got-both one rest i _ e) [
        | inl h ↦
            let first = one-copy n w (done_of w.deed) refl i s k a c h in
            let i_is = first.0 in
            let k_is = first.1 in
            elim (got-both one rest j _ f) [
              | inl g ↦
                  let second = one-copy n w (done_of w.deed) refl j u m b d g in
                  let j_is = second.0 in
                  absurd (omega (arith, i_is, j_is, lt))
              | inr g ↦
                  let second = copied (n + 1) ws g.0 u m b d g.2 in
                  let m_is = second.is in
                  omega (arith, k_is, m_is)
            ]
        | inr h ↦
            let i_is = h.1 in
            elim (got-both one rest j _ f) [
              | inl g ↦
                  let below = got-below one j _ g in
                  absurd (omega (arith, i_is, below, lt))
              | inr g ↦
                  let j_is = g.1 in
                  in-order (n + 1) ws h.0 g.0 s u k m a b c d h.2 g.2 (omega (arith, i_is, j_is, lt))
            ]
      ]

-- ---- which entries back a stored response

got-take : {X : Type 0} (n : ℕ) (xs : List X) (k : ℕ) (x : X) → slice_get (take n xs) k ≡ Some x → slice_get xs k ≡ Some x
got-take zero xs k x e = absurd (none-some x e)
got-take (suc n) [] k x e = absurd (none-some x e)
got-take (suc n) (y ∷ xs) zero x e = e
got-take (suc n) (y ∷ xs) (suc k) x e = got-take n xs k x e

-- the entry of this number sent something, or heard something
pub record WasSent (ws : List Written) (n : ℕ) : Type 0 where
  pub peer : Peer
  pub bytes : List ℕ
  pub timeout : Option ℕ
  pub is : done_at ws n ≡ Some (Sent peer bytes timeout)

pub record WasHeardIn (ws : List Written) (n : ℕ) : Type 0 where
  pub peer : Peer
  pub bytes : List ℕ
  pub is : done_at ws n ≡ Some (Heard peer bytes)

abbrev IsFoundSent : ℕ → List Written → ℕ → Type 0
IsFoundSent n ws i = (k : ℕ) × (i ≡ n + k) × WasSent ws k

found-next : (n : ℕ) (w : Written) (ws : List Written) (i : ℕ) → IsFoundSent (n + 1) ws i → IsFoundSent n (w ∷ ws) i
found-next n w ws i h =
    let is = h.1 in
    (suc h.0, omega (arith, is), record { peer = h.2.peer; bytes = h.2.bytes; timeout = h.2.timeout; is = h.2.is })

one-unanswered : (p : Peer) (token : List ℕ) (n : ℕ) (w : Written) (ws : List Written) (o : Option Done) → done_of w.deed ≡ o → (old : Option ℕ) (i : ℕ)
    → unanswered_by p token n o old ≡ Some i → (old ≡ Some i) ⊎ IsFoundSent n (w ∷ ws) i
one-unanswered p token n w ws (Some (Sent q b (Some wait))) is old i e = by (is_under p token q b) e
  where
    by : (x : Bool) → cond x (Some n) old ≡ Some i → (old ≡ Some i) ⊎ IsFoundSent n (w ∷ ws) i
    by true f =
        let same = some-is n i f in
        inr (0, omega (arith, same), record { peer = q; bytes = b; timeout = Some wait; is = is })
    by false f = inl f
one-unanswered p token n w ws (Some (Heard q b)) is old i e = by (is_under p token q b) e
  where
    by : (x : Bool) → cond x None old ≡ Some i → (old ≡ Some i) ⊎ IsFoundSent n (w ∷ ws) i
    by true f = absurd (none-some i f)
    by false f = inl f
one-unanswered p token n w ws (Some (Sent q b None)) is old i e = inl e
one-unanswered p token n w ws (Some (Asked c a)) is old i e = inl e
one-unanswered p token n w ws None is old i e = inl e

found-sent : (p : Peer) (token : List ℕ) (n : ℕ) (ws : List Written) (old : Option ℕ) (i : ℕ) → unanswered_from p token n ws old ≡ Some i
    → (old ≡ Some i) ⊎ IsFoundSent n ws i
found-sent p token n [] old i e = inl e
found-sent p token n (w ∷ ws) old i e =
    elim (found-sent p token (n + 1) ws (unanswered_by p token n (done_of w.deed) old) i e) [
      | inl h ↦ one-unanswered p token n w ws (done_of w.deed) refl old i h
      | inr h ↦ inr (found-next n w ws i h)
    ]

-- an entry among the first ones
done-take : (n k : ℕ) (ws : List Written) (d : Done) → done_at (take n ws) k ≡ Some d → done_at ws k ≡ Some d
done-take n k ws d e = by (slice_get (take n ws) k) refl e
  where
    by : (o : Option Written) → slice_get (take n ws) k ≡ o → option_and_then (λ (w : Written). done_of w.deed) o ≡ Some d → done_at ws k ≡ Some d
    by None is f = absurd (none-some d f)
    by (Some w) is f = ap (option_and_then (λ (w : Written). done_of w.deed)) (got-take n ws k w is) ∙ f

reply-of : (ws : List Written) (j i : ℕ) → replied_to ws j ≡ Some i → WasSent ws i × WasHeardIn ws j
reply-of ws j i e = by (done_at ws j) refl e
  where
    none : None ≡ Some i → WasSent ws i × WasHeardIn ws j
    none f = absurd (none-some i f)

    by : (o : Option Done) → done_at ws j ≡ o → replied_to_by ws j o ≡ Some i → WasSent ws i × WasHeardIn ws j
    by (Some (Heard p b)) is f =
        elim (found-sent p (token_in b) 0 (take j ws) None i f) [
          | inl h ↦ none h
          | inr h ↦
              let place = h.1 in
              let at : h.0 ≡ i = omega (arith, place) in (
                record {
                  peer = h.2.peer;
                  bytes = h.2.bytes;
                  timeout = h.2.timeout;
                  is = subst (λ (i : ℕ). done_at ws i ≡ Some (Sent h.2.peer h.2.bytes h.2.timeout)) at (done-take j h.0 ws _ h.2.is);
                },
                record { peer = p; bytes = b; is = is },
              )
        ]
    by (Some (Sent p b w)) is f = none f
    by (Some (Asked c a)) is f = none f
    by None is f = none f

-- one of these is this number, or another one of them
has-either : (n : ℕ) (g : ℕ) (gs : List ℕ) → has (g ∷ gs) n ≡ true → (g ≡ n) ⊎ (has gs n ≡ true)
has-either n g gs e = elim (or_cases (eqb g n) (has gs n) e) [
  | inl h ↦ elim (eqb_tells g n) [ inl w ↦ inl w.1 | inr w ↦ absurd (false≢true (sym w.0 ∙ h)) ]
  | inr h ↦ inr h
]

has-more : (n g : ℕ) (gs : List ℕ) → has gs n ≡ true → has (g ∷ gs) n ≡ true
has-more n g gs e = by (eqb g n)
  where
    by : (b : Bool) → (b || has gs n) ≡ true
    by true = refl
    by false = e

has-first : (g : ℕ) (gs : List ℕ) → has (g ∷ gs) g ≡ true
has-first g gs = elim (eqb_tells g g) [
  | inl w ↦ ap (λ (b : Bool). b || has gs g) w.0
  | inr w ↦ absurd (w.1 refl)
]

pub has-joined : (n : ℕ) (xs ys : List ℕ) → has (xs ++ ys) n ≡ true → (has xs n ≡ true) ⊎ (has ys n ≡ true)
has-joined n [] ys e = inr e
has-joined n (x ∷ xs) ys e = elim (has-either n x (xs ++ ys) e) [
  | inl h ↦ inl (subst (λ (n : ℕ). has (x ∷ xs) n ≡ true) h (has-first x xs))
  | inr h ↦ elim (has-joined n xs ys h) [ inl g ↦ inl (has-more n x xs g) | inr g ↦ inr g ]
]

-- the parts of such a list
pub record WithReply (ws : List Written) (j : ℕ) (js ns : List ℕ) : Type 0 where
  pub sending : ℕ
  pub others : List ℕ
  pub replied : replied_to ws j ≡ Some sending
  pub rest : replies_backing ws js ≡ Some others
  pub is : ns ≡ sending ∷ j ∷ others

with-reply : (ws : List Written) (j : ℕ) (js ns : List ℕ) → replies_backing ws (j ∷ js) ≡ Some ns → WithReply ws j js ns
with-reply ws j js ns e = by (replied_to ws j) (replies_backing ws js) refl refl e
  where
    by : (v : Option ℕ) (o : Option (List ℕ)) → replied_to ws j ≡ v → replies_backing ws js ≡ o → with_reply j v o ≡ Some ns → WithReply ws j js ns
    by (Some i) (Some others) a b f = record { sending = i; others = others; replied = a; rest = b; is = sym (some-is _ ns f) }
    by (Some i) None a b f = absurd (none-some ns f)
    by None (Some others) a b f = absurd (none-some ns f)
    by None None a b f = absurd (none-some ns f)

-- a message, or one of the replies
replies-have : (ws : List Written) (js ns : List ℕ) (n : ℕ) → replies_backing ws js ≡ Some ns → has ns n ≡ true
    → WasSent ws n ⊎ (WasHeardIn ws n × (has js n ≡ true))
replies-have ws [] ns n e h = absurd (false≢true (subst (λ (ns : List ℕ). has ns n ≡ true) (sym (some-is [] ns e)) h))
replies-have ws (j ∷ js) ns n e h =
    let it = with-reply ws j js ns e in
    let both = reply-of ws j it.sending it.replied in
    elim (has-either n it.sending (j ∷ it.others) (subst (λ (ns : List ℕ). has ns n ≡ true) it.is h)) [
      | inl same ↦ inl (subst (WasSent ws) same both.0)
      | inr more ↦ elim (has-either n j it.others more) [
        | inl same ↦ inr (subst (WasHeardIn ws) same both.1, subst (λ (n : ℕ). has (j ∷ js) n ≡ true) same (has-first j js))
        | inr later ↦ elim (replies-have ws js it.others n it.rest later) [ inl sent ↦ inl sent | inr heard ↦ inr (heard.0, has-more n j js heard.1) ]
      ]
    ]

-- What backs a stored response is its ask, a message, or one of its replies.
pub backing-has : (ws : List Written) (s : Stored) (ns : List ℕ) (n : ℕ) → backing ws s ≡ Some ns → has ns n ≡ true
    → (s.opening ≡ n) ⊎ (WasSent ws n ⊎ (WasHeardIn ws n × (has s.list n ≡ true)))
backing-has ws s ns n e h = by (replies_backing ws s.list) refl e
  where
    by : (o : Option (List ℕ)) → replies_backing ws s.list ≡ o → option_map (λ (ns : List ℕ). s.opening ∷ ns) o ≡ Some ns
        → (s.opening ≡ n) ⊎ (WasSent ws n ⊎ (WasHeardIn ws n × (has s.list n ≡ true)))
    by None is f = absurd (none-some ns f)
    by (Some others) is f = elim (has-either n s.opening others (subst (λ (ns : List ℕ). has ns n ≡ true) (sym (some-is _ ns f)) h)) [
      | inl same ↦ inl same
      | inr more ↦ inr (replies-have ws s.list others n is more)
    ]
