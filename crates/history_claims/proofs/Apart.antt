-- Tokens, message IDs and answers of a journal are apart.
use Rattle.std.proofs.Common.{◌≡◌, ℕ, ◌+◌, ◌<◌, ◌≤◌, Bool, true, false, cond, eqb, List, [], ◌∷◌, ◌++◌, length, take, refl, sym, ap, subst, ◌∙◌, arith, append_assoc, append-nil}
use Rattle.limits.specs.declared.TheConstants.{MESSAGE_ID_LIFETIME}
use Rattle.coap_codec.specs.Spelling.{Content}
use Rattle.uri_map.specs.declared.peer.Peer.{Peer}
use Rattle.journal_book.specs.Entries.{Grounds, Deed, Asks, Answers, Written}
use Rattle.history_laws.specs.Readings.{Noted, entries}
use Rattle.history_laws.specs.Connections.{asks_by, asks_of, answers_by, answers_of}
use Rattle.history_laws.specs.Justified.{Stands}
use Rattle.history_laws.specs.Laws.{IsAnswer}
use Rattle.history_laws.proofs.CallerLemmas.{answered-in-order, answered-once, entries-length, firsts-ids, firsts-tokens}
use Rattle.history_claims.specs.Headline.{IsEntry, WasFirstSent}
use Rattle.history_claims.specs.Apart.{asked_by, asked, answered_by, answered}
use Rattle.history_claims.proofs.Entries.{entries-at}
use Rattle.history_claims.proofs.Sending.{sending_of, first-sent}

pub tokens-once : (h : List Written) (i j s t : ℕ) (p r : Peer) (m n : Content) → Stands h → WasFirstSent h i s p m → WasFirstSent h j t r n
    → m.token ≡ n.token → i ≡ j
tokens-once h i j s t p r m n stands =
    subst (λ (h : List Written). WasFirstSent h i s p m → WasFirstSent h j t r n → m.token ≡ n.token → i ≡ j) stands.entries_are
    (λ f g e.
    let a = first-sent stands.reading i s p m stands.legal f in
    let b = first-sent stands.reading j t r n stands.legal g in
    firsts-tokens stands.reading (sending_of i s a.0 p m) (sending_of j t b.0 r n) stands.legal a.1 b.1 e)

pub ids-once : (h : List Written) (i j s t : ℕ) (p : Peer) (m n : Content) → Stands h → WasFirstSent h i s p m → WasFirstSent h j t p n
    → m.mid ≡ n.mid → i < j → s + MESSAGE_ID_LIFETIME ≤ t
ids-once h i j s t p m n stands =
    subst (λ (h : List Written). WasFirstSent h i s p m → WasFirstSent h j t p n → m.mid ≡ n.mid → i < j → s + MESSAGE_ID_LIFETIME ≤ t) stands.entries_are
    (λ f g e lt.
    let a = first-sent stands.reading i s p m stands.legal f in
    let b = first-sent stands.reading j t p n stands.legal g in
    firsts-ids stands.reading (sending_of i s a.0 p m) (sending_of j t b.0 p n) stands.legal a.1 b.1 refl e lt)

pub answer-at : (l : List Noted) (n t c k : ℕ) (g : Grounds) → IsEntry (entries l) n t (Answers c k g) → IsAnswer l n c k g
answer-at l n t c k g e =
    let there = entries-at l n _ e in
    record { moment = t; note = there.0; stands = there.1 }

pub answer-once : (h : List Written) (i j s t c d k : ℕ) (g e : Grounds) → Stands h → IsEntry h i s (Answers c k g) → IsEntry h j t (Answers d k e) → i ≡ j
answer-once h i j s t c d k g e stands =
    subst (λ (h : List Written). IsEntry h i s (Answers c k g) → IsEntry h j t (Answers d k e) → i ≡ j) stands.entries_are
    (λ a b. (answered-once stands.reading i j c d k g e stands.legal (answer-at stands.reading i s c k g a) (answer-at stands.reading j t d k e b)).0)

-- asks and answers in order
asked-more : (c n : ℕ) (h : List Written) (e : Written) → asked c n (h ++ e ∷ []) ≡ asked c n h ++ asked_by c (n + length h) e.deed
asked-more c n [] e = append-nil (asked_by c n e.deed) ∙ ap (λ (i : ℕ). asked_by c i e.deed) (omega arith)
asked-more c n (x ∷ h) e =
    ap (λ (ks : List ℕ). asked_by c n x.deed ++ ks) (asked-more c (n + 1) h e)
    ∙ (sym (append_assoc (asked_by c n x.deed) (asked c (n + 1) h) (asked_by c (n + 1 + length h) e.deed))
    ∙ ap (λ (i : ℕ). (asked_by c n x.deed ++ asked c (n + 1) h) ++ asked_by c i e.deed) (omega arith))

answered-more : (c : ℕ) (h : List Written) (e : Written) → answered c (h ++ e ∷ []) ≡ answered c h ++ answered_by c e.deed
answered-more c [] e = append-nil (answered_by c e.deed)
answered-more c (x ∷ h) e =
    ap (λ (ks : List ℕ). answered_by c x.deed ++ ks) (answered-more c h e)
    ∙ sym (append_assoc (answered_by c x.deed) (answered c h) (answered_by c e.deed))

push-if : (b : Bool) (n : ℕ) (old : List ℕ) → cond b (old ++ n ∷ []) old ≡ old ++ cond b (n ∷ []) []
push-if true n old = refl
push-if false n old = sym (append-nil old)

asks-push : (c n : ℕ) (d : Deed) (old : List ℕ) → asks_by c n d old ≡ old ++ asked_by c n d
asks-push c n (Asks e a) old = push-if (eqb e c) n old
asks-push c n d old = sym (append-nil old)

answers-push : (c : ℕ) (d : Deed) (old : List ℕ) → answers_by c d old ≡ old ++ answered_by c d
answers-push c (Answers e k g) old = push-if (eqb e c) k old
answers-push c d old = sym (append-nil old)

asked-is : (l : List Noted) (c : ℕ) → asked c 0 (entries l) ≡ asks_of l c
asked-is [] c = refl
asked-is (x ∷ older) c =
    asked-more c 0 (entries older) x.written
    ∙ (ap (λ (ks : List ℕ). ks ++ asked_by c (0 + length (entries older)) x.written.deed) (asked-is older c)
    ∙ (ap (λ (i : ℕ). asks_of older c ++ asked_by c i x.written.deed) (let len = entries-length older in omega (arith, len))
    ∙ sym (asks-push c (length older) x.written.deed (asks_of older c))))

answered-is : (l : List Noted) (c : ℕ) → answered c (entries l) ≡ answers_of l c
answered-is [] c = refl
answered-is (x ∷ older) c =
    answered-more c (entries older) x.written
    ∙ (ap (λ (ks : List ℕ). ks ++ answered_by c x.written.deed) (answered-is older c)
    ∙ sym (answers-push c x.written.deed (answers_of older c)))

pub in-order : (h : List Written) (c : ℕ) → Stands h → answered c h ≡ take (length (answered c h)) (asked c 0 h)
in-order h c stands =
    let l : List Noted = stands.reading in
    subst (λ (h : List Written). answered c h ≡ take (length (answered c h)) (asked c 0 h)) stands.entries_are
    (rw (answered-is l c, asked-is l c) (answered-in-order l c stands.legal))
