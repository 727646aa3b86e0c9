-- An answer is taken: it is told, or nobody is told it.
use Rattle.std.proofs.Common.{◌≡◌, ◌≢◌, ℕ, zero, suc, Bool, true, false, cond, not, inl, inr, List, [], ◌∷◌, ◌++◌, length, Some, refl, sym, ap, subst, ◌∙◌, arith, append-nil, eqb-true, eq-eqb}
use Rattle.std.specs.Prelude.{◌==◌, if◌then◌else◌}
use Rattle.std.specs.List.{AllByRecursion, Contains, filter, slice_get}
use Rattle.std.proofs.lemmas.Bool.Decides.{eqb_tells}
use Rattle.std.proofs.lemmas.Bool.{both_ways}
use Rattle.http_edge.specs.Answers.{answer_text}
use Rattle.http_edge.specs.declared.answer.HttpAnswer.{HttpAnswer}
use Rattle.journal_book.specs.Entries.{Grounds, Answers, Written}
use Rattle.history_laws.specs.Justified.{Stands}
use Rattle.history_laws.proofs.CallerLemmas.{some-is}
use Rattle.history_claims.specs.Headline.{IsEntry}
use Rattle.history_claims.proofs.CallerLemmas.{answer-once}
use Rattle.exchange_core.specs.Values.{CoreValue, Untaken, written}
use Rattle.exchange_core.specs.Answering.{Given, IsGiven}
use Rattle.exchange_core.specs.Drafts.{untaken_of}
use Rattle.exchange_core.specs.Taking.{IsTaken}
use Rattle.exchange_core.proofs.CallerLemmas.{is-given-stays}
use Rattle.gateway_model.specs.Acts.{Terms}
use Rattle.gateway_model.specs.Emissions.{Says}
use Rattle.gateway_model.specs.Told.{final}
use Rattle.gateway_model.specs.Waiting.{AreApart}
use Rattle.gateway_model.proofs.Moves.{Did, IsAnswerIn, ToldIn, Wait, num_of, nums}

-- an answer is taken

abbrev pub not_to : ℕ → Untaken → Bool
not_to k u = not (u.ask == k)

all-one : (P : Untaken → Type 0) (b : Bool) (u : Untaken) (us : List Untaken) → P u → AllByRecursion P us → AllByRecursion P (cond b (u ∷ us) us)
all-one P true u us p h = (p, h)
all-one P false u us p h = h

all-filter : (P : Untaken → Type 0) (f : Untaken → Bool) (us : List Untaken) → AllByRecursion P us → AllByRecursion P (filter f us)
all-filter P f [] h = tt
all-filter P f (u ∷ us) h = all-one P (f u) u (filter f us) h.0 (all-filter P f us h.1)

apart-one : (b : Bool) (u : Untaken) (us : List Untaken) → AllByRecursion (λ (v : Untaken). u.conn ≢ v.conn) us → AreApart us → AreApart (cond b (u ∷ us) us)
apart-one true u us p h = (p, h)
apart-one false u us p h = h

apart-filter : (f : Untaken → Bool) (us : List Untaken) → AreApart us → AreApart (filter f us)
apart-filter f [] h = tt
apart-filter f (u ∷ us) h =
    apart-one (f u) u (filter f us) (all-filter (λ (v : Untaken). u.conn ≢ v.conn) f us h.0) (apart-filter f us h.1)

-- an ask has one answer, which is to its connection
abbrev IsOneOf : ℕ → ℕ → Untaken → Type 0
IsOneOf c k u = u.ask ≡ k → u.conn ≡ c

conn-same : (c d k o : ℕ) (g e : Grounds) → Answers c k g ≡ Answers d o e → c ≡ d
conn-same c d k o g e f = cc

deed-same : (t s : ℕ) (c d k o : ℕ) (g e : Grounds) → Some (written t (Answers c k g)) ≡ Some (written s (Answers d o e)) → c ≡ d
deed-same t s c d k o g e f =
    conn-same c d k o g e (ap (λ (w : Written). w.deed) (some-is (written t (Answers c k g)) (written s (Answers d o e)) f))

one-of : (h : List Written) (g : Given) → Stands h → IsGiven h g → (u : Untaken) → IsAnswerIn h u → IsOneOf g.conn g.ask u
one-of h g stands is u a same =
    let there : IsEntry h u.number a.moment (Answers u.conn g.ask a.grounds) =
    subst (λ (k : ℕ). IsEntry h u.number a.moment (Answers u.conn k a.grounds)) same a.stands in
    let place : u.number ≡ g.number =
    answer-once h u.number g.number a.moment g.moment u.conn g.conn g.ask a.grounds g.found.grounds stands there is.stands in
    deed-same a.moment g.moment u.conn g.conn g.ask g.ask a.grounds g.found.grounds
    (sym there ∙ (ap (slice_get h) place ∙ is.stands))

all-as-one : (h : List Written) (g : Given) → Stands h → IsGiven h g → (us : List Untaken) → AllByRecursion (IsAnswerIn h) us
    → AllByRecursion (IsOneOf g.conn g.ask) us
all-as-one h g stands is [] a = tt
all-as-one h g stands is (u ∷ us) a = (one-of h g stands is u a.0, all-as-one h g stands is us a.1)

pub stay-one : (b : Bool) (k : ℕ) (u : Untaken) (us vs : List Untaken) → (u.ask == k) ≡ b → (u.ask ≢ k) → vs ≡ us
    → cond (not b) (u ∷ vs) vs ≡ u ∷ us
stay-one true k u us vs t ne e = absurd (ne (eqb-true u.ask k t))
stay-one false k u us vs t ne e = ap (λ (ws : List Untaken). u ∷ ws) e

go-one : (b : Bool) (k : ℕ) (u : Untaken) (vs : List Untaken) → (u.ask == k) ≡ b → u.ask ≡ k → cond (not b) (u ∷ vs) vs ≡ vs
go-one true k u vs t is = refl
go-one false k u vs t is = absurd (both_ways (u.ask == k) t (eq-eqb u.ask k is))

-- those of other connections stay
others-stay : (c k : ℕ) (us : List Untaken) → AllByRecursion (λ (v : Untaken). c ≢ v.conn) us → AllByRecursion (IsOneOf c k) us
    → filter (not_to k) us ≡ us
others-stay c k [] h one = refl
others-stay c k (u ∷ us) h one =
    stay-one (u.ask == k) k u us (filter (not_to k) us) refl (λ e. h.0 (sym (one.0 e))) (others-stay c k us h.1 one.1)

contained : (P : Untaken → Type 0) (us : List Untaken) (u : Untaken) → AllByRecursion P us → Contains us u → P u
contained P [] u h has = absurd (omega (arith, has.1))
contained P (v ∷ us) u h (zero, lt, e) = subst P e h.0
contained P (v ∷ us) u h (suc i, lt, e) = contained P us u h.1 (i, omega (arith, lt), e)

num-other : (c : ℕ) (u : Untaken) → u.conn ≢ c → num_of c u ≡ []
num-other c u ne = elim (eqb_tells u.conn c) [ inl w ↦ absurd (ne w.1) | inr w ↦ rw (w.0) refl ]

swap-nums : (c : ℕ) (u v : Untaken) (ks : List ℕ) → u.conn ≢ v.conn → num_of c u ++ (num_of c v ++ ks) ≡ num_of c v ++ (num_of c u ++ ks)
swap-nums c u v ks ne =
    elim (eqb_tells u.conn c) [
      | inl w ↦ rw (num-other c v (λ e. ne (w.1 ∙ sym e))) refl
      | inr w ↦ rw (num-other c u w.1) refl
    ]

-- What is taken is what waits of its connection, and of the others all stays.
take-nums : (c k : ℕ) (g : Untaken) (us : List Untaken) → g.ask ≡ k → AreApart us → AllByRecursion (IsOneOf g.conn k) us → Contains us g
    → num_of c g ++ nums c (filter (not_to k) us) ≡ nums c us
take-nums c k g [] is apart one has = absurd (omega (arith, has.1))
take-nums c k g (u ∷ us) is apart one (zero, lt, e) =
    let same : u.ask ≡ k = ap (λ (v : Untaken). v.ask) e ∙ is in
    let rest : filter (not_to k) us ≡ us =
    others-stay g.conn k us (subst (λ (v : Untaken). AllByRecursion (λ (z : Untaken). v.conn ≢ z.conn) us) e apart.0) one.1 in
    ap (λ (v : Untaken). num_of c v ++ nums c (filter (not_to k) (u ∷ us))) (sym e)
    ∙ (ap (λ (vs : List Untaken). num_of c u ++ nums c vs) (go-one (u.ask == k) k u (filter (not_to k) us) refl same)
    ∙ ap (λ (vs : List Untaken). num_of c u ++ nums c vs) rest)
take-nums c k g (u ∷ us) is apart one (suc i, lt, e) =
    let has : Contains us g = (i, omega (arith, lt), e) in
    let other : u.conn ≢ g.conn = contained (λ (v : Untaken). u.conn ≢ v.conn) us g apart.0 has in
    let ne : u.ask ≢ k = λ same. other (one.0 same) in
    ap (λ (vs : List Untaken). num_of c g ++ nums c vs)
    (stay-one (u.ask == k) k u (filter (not_to k) us) (filter (not_to k) us) refl ne refl)
    ∙ (swap-nums c g u (nums c (filter (not_to k) us)) (λ same. other (sym same))
    ∙ ap (λ (ks : List ℕ). num_of c u ++ ks) (take-nums c k g us is apart.1 one.1 has))

-- The answer that is taken, and those that wait then, are those that waited.
pub taken-nums : (h rest : List Written) (old new : CoreValue) (k : ℕ) (g : Given) → Stands h → IsTaken (Some g) k old new
    → h ≡ new.state.entries ++ rest → Wait h old.untaken
    → (d : ℕ) → num_of d (untaken_of g) ++ nums d new.untaken ≡ nums d old.untaken
taken-nums h rest old new k g stands taken is waits d =
    let entries : new.state.entries ≡ old.state.entries = ap (λ (v : CoreValue). v.state.entries) taken.3 in
    let given : IsGiven h g =
    subst (λ (q : List Written). IsGiven q g) (sym (is ∙ ap (λ (q : List Written). q ++ rest) entries)) (is-given-stays old.state.entries rest g taken.2) in
    let one : AllByRecursion (IsOneOf g.conn k) old.untaken =
    subst (λ (j : ℕ). AllByRecursion (IsOneOf g.conn j) old.untaken) taken.0 (all-as-one h g stands given old.untaken waits.answers) in
    ap (λ (us : List Untaken). num_of d (untaken_of g) ++ nums d us) (ap (λ (v : CoreValue). v.untaken) taken.3)
    ∙ take-nums d k (untaken_of g) old.untaken taken.0 waits.apart one taken.1

-- What waits then are answers still, of different connections.
taken-waits : (h : List Written) (old new : CoreValue) (k : ℕ) (g : Given) → IsTaken (Some g) k old new → Wait h old.untaken
    → Wait h new.untaken
taken-waits h old new k g taken waits =
    subst (Wait h) (sym (ap (λ (v : CoreValue). v.untaken) taken.3)) (record {
      apart = apart-filter (not_to k) old.untaken waits.apart;
      answers = all-filter (IsAnswerIn h) (not_to k) old.untaken waits.answers;
    })

pub did-take : (M : Terms) (G F : ℕ → Type 0) (old new : CoreValue) (c k : ℕ) (g : Given) (r : HttpAnswer) → g.conn ≡ c → IsTaken (Some g) k old new → M.IsTelling g r
    → Did M G F old (Says c (answer_text r) ∷ []) new
did-take M G F old new c k g r conn taken tells = record {
  more = [];
  added = entries ∙ sym (append-nil old.state.entries);
  conns = ap (λ (v : CoreValue). v.state.conns) taken.3;
  sent = ap (λ (v : CoreValue). v.unsent) taken.3 ∙ sym (append-nil old.unsent);
  meant = tt;
  told = λ h rest stands is waits. (
    taken-waits h old new k g taken waits,
    λ d f.
        told-one d h
        (subst (λ (q : List Written). IsGiven q g) (sym (is ∙ ap (λ (q : List Written). q ++ rest) entries))
        (is-given-stays old.state.entries rest g taken.2))
        (taken-nums h rest old new k g stands taken is waits d),
  );
}
  where
    entries : new.state.entries ≡ old.state.entries
    entries = ap (λ (v : CoreValue). v.state.entries) taken.3

    told-one : (d : ℕ) (h : List Written) → IsGiven h g → num_of d (untaken_of g) ++ nums d new.untaken ≡ nums d old.untaken
        → ToldIn M G h d (length old.state.entries) [] old.untaken (Says c (answer_text r) ∷ []) new.untaken
    told-one d h given e =
        elim (eqb_tells g.conn d) [
          | inl w ↦
              let to : (c == d) ≡ true = ap (λ (x : ℕ). x == d) (sym conn) ∙ w.0 in
              record {
                pieces = final g.number (answer_text r) ∷ [];
                said = ap (λ (b : Bool). (if b then answer_text r ∷ [] else []) ++ []) to;
                each = (
                  record { given = g; conn = w.1; number = refl; is = given; response = r; tells = tells; text = refl },
                  tt,
                );
                answers = ap (λ (b : Bool). (if b then g.number ∷ [] else []) ++ nums d new.untaken) (sym (w.0))
                    ∙ (e ∙ sym (append-nil (nums d old.untaken)));
              }
          | inr w ↦
              let to : (c == d) ≡ false = ap (λ (x : ℕ). x == d) (sym conn) ∙ w.0 in
              record {
                pieces = [];
                said = ap (λ (b : Bool). (if b then answer_text r ∷ [] else []) ++ []) to;
                each = tt;
                answers = ap (λ (b : Bool). (if b then g.number ∷ [] else []) ++ nums d new.untaken) (sym (w.0))
                    ∙ (e ∙ sym (append-nil (nums d old.untaken)));
              }
        ]

-- and nobody is told it
pub did-forgo : (M : Terms) (G F : ℕ → Type 0) (old new : CoreValue) (k : ℕ) (g : Given) → F g.conn → IsTaken (Some g) k old new
    → Did M G F old [] new
did-forgo M G F old new k g free taken = record {
  more = [];
  added = ap (λ (v : CoreValue). v.state.entries) taken.3 ∙ sym (append-nil old.state.entries);
  conns = ap (λ (v : CoreValue). v.state.conns) taken.3;
  sent = ap (λ (v : CoreValue). v.unsent) taken.3 ∙ sym (append-nil old.unsent);
  meant = tt;
  told = λ h rest stands is waits. (
    taken-waits h old new k g taken waits,
    λ d f. record {
      pieces = [];
      said = refl;
      each = tt;
      answers =
          ap (λ (ks : List ℕ). ks ++ nums d new.untaken) (sym (num-other d (untaken_of g) (λ same. f (subst F same free))))
          ∙ (taken-nums h rest old new k g stands taken is waits d ∙ sym (append-nil (nums d old.untaken)));
    },
  );
}
