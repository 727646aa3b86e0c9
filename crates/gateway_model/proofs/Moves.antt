-- What each step of a core gives out, what it adds to the journal, and what waits after it.
use Rattle.std.proofs.Common.{◌≡◌, ℕ, ◌+◌, Bool, true, false, List, [], ◌∷◌, ◌++◌, length, drop, map, Some, refl, sym, ap, subst, ◌∙◌, append_assoc, append-nil, length-append, eqb-true}
use Rattle.std.specs.Prelude.{◌==◌, ⊤, if◌then◌else◌}
use Rattle.std.specs.List.{AllByRecursion, flat_map, slice_get}
use Rattle.std.proofs.Math.Seq.{drop-append_seam}
use Rattle.std.proofs.lemmas.List.{map-append}
use Rattle.std.proofs.lemmas.Grind.{flat_map-append}
use Rattle.http_edge.specs.Answers.{answer_text}
use Rattle.http_edge.specs.declared.answer.HttpAnswer.{HttpAnswer}
use Rattle.journal_book.specs.Entries.{Grounds, Deed, Opens, Asks, Sends, Hears, Passes, Answers, Shuts, Seals, Carries, Written}
use Rattle.history_laws.specs.Justified.{Stands}
use Rattle.history_claims.specs.Headline.{IsEntry}
use Rattle.exchange_model.specs.State.{State}
use Rattle.exchange_model.specs.declared.kept.Conn.{Conn}
use Rattle.exchange_model.specs.Growing.{Adds, conns_with}
use Rattle.exchange_model.proofs.CallerLemmas.{conns-both}
use Rattle.exchange_core.specs.Values.{CoreValue, Untaken, Outgoing, written, answered_by, answered_in, sent_in, stepped}
use Rattle.exchange_core.specs.Answering.{Given, IsGiven}
use Rattle.exchange_core.specs.Taking.{IsSent}
use Rattle.exchange_core.proofs.CallerLemmas.{answered-append, sent-append}
use Rattle.gateway_model.specs.Acts.{Terms, continue_text}
use Rattle.gateway_model.specs.Emissions.{Emission, Says, Goes, Closed, GivenUp, Turned}
use Rattle.gateway_model.specs.Going.{goes_in, goes_by}
use Rattle.gateway_model.specs.Tellings.{IsMeant, AreMeant}
use Rattle.gateway_model.specs.Told.{Piece, interim, final, bytes_in, answers_in, answers_by, answers_to, said_by, said_to}
use Rattle.gateway_model.specs.Waiting.{AreApart}
use Rattle.gateway_model.proofs.Order.{all-append}
use Rattle.gateway_model.proofs.Apart.{at-seam}

-- what entries send and answer, in two parts

-- the numbers of a connection's answers
abbrev pub num_of : ℕ → Untaken → List ℕ
num_of c u = if u.conn == c then u.number ∷ [] else []

abbrev pub nums : ℕ → List Untaken → List ℕ
nums c us = flat_map (num_of c) us

nums-by : (c n : ℕ) (d : Deed) → answers_by c n d ≡ nums c (answered_by n d)
nums-by c n (Answers d k g) = sym (append-nil (if d == c then n ∷ [] else []))
nums-by c n (Opens d) = refl
nums-by c n (Asks d a) = refl
nums-by c n (Sends p b w) = refl
nums-by c n (Hears p b) = refl
nums-by c n Passes = refl
nums-by c n (Shuts d) = refl
nums-by c n Seals = refl
nums-by c n (Carries number mark done) = refl

pub nums-in : (c n : ℕ) (ws : List Written) → answers_to c n ws ≡ nums c (answered_in n ws)
nums-in c n [] = refl
nums-in c n (w ∷ ws) =
    ap (λ (ks : List ℕ). ks ++ answers_to c (n + 1) ws) (nums-by c n w.deed)
    ∙ (ap (λ (ks : List ℕ). nums c (answered_by n w.deed) ++ ks) (nums-in c (n + 1) ws)
    ∙ sym (flat_map-append (num_of c) (answered_by n w.deed) (answered_in (n + 1) ws)))

-- facts of entries stay as they grow

-- what connections are told

-- Each may be told to go on, or be forgone; or none.
abbrev pub Whoever : ℕ → Type 0
Whoever c = ⊤

abbrev pub Nobody : ℕ → Type 0
Nobody c = ⊥

-- the bytes tell the answer in this entry
pub record TellsGiven (M : Terms) (h : List Written) (c n : ℕ) (bytes : List ℕ) : Type 0 where
  pub given : Given
  pub conn : given.conn ≡ c
  pub number : given.number ≡ n
  pub is : IsGiven h given
  pub response : HttpAnswer
  pub tells : M.IsTelling given response
  pub text : bytes ≡ answer_text response

abbrev pub IsSaid : Terms → (ℕ → Type 0) → List Written → ℕ → Piece → Type 0
IsSaid M G h c interim = G c
IsSaid M G h c (final n bytes) = TellsGiven M h c n bytes

pub record ToldIn (M : Terms) (G : ℕ → Type 0) (h : List Written) (c n : ℕ) (more : List Written)
    (old : List Untaken) (out : List Emission) (new : List Untaken) : Type 0 where
  pub pieces : List Piece
  pub said : said_to c out ≡ map bytes_in pieces
  pub each : AllByRecursion (IsSaid M G h c) pieces
  pub answers : flat_map answers_in pieces ++ nums c new ≡ nums c old ++ nums c (answered_in n more)

pub record IsAnswerIn (h : List Written) (u : Untaken) : Type 0 where
  pub moment : ℕ
  pub grounds : Grounds
  pub stands : IsEntry h u.number moment (Answers u.conn u.ask grounds)

-- The answers wait that are entries, one at most for a connection.
pub record Wait (h : List Written) (us : List Untaken) : Type 0 where
  pub apart : AreApart us
  pub answers : AllByRecursion (IsAnswerIn h) us

pub record Did (M : Terms) (G F : ℕ → Type 0) (old : CoreValue) (out : List Emission) (new : CoreValue) : Type 0 where
  pub more : List Written
  pub added : new.state.entries ≡ old.state.entries ++ more
  pub conns : new.state.conns ≡ conns_with old.state.conns (length old.state.entries) more
  pub sent : goes_in out ++ new.unsent ≡ old.unsent ++ sent_in more
  pub meant : AreMeant M more
  pub told :
      (h rest : List Written) → Stands h → h ≡ new.state.entries ++ rest → Wait h old.untaken
      → Wait h new.untaken
      × ((c : ℕ) → (F c → ⊥) → ToldIn M G h c (length old.state.entries) more old.untaken out new.untaken)

-- one after another

abbrev pub told-then : (M : Terms) (G : ℕ → Type 0) (h : List Written) (c n m : ℕ) (xs ys : List Written) (us vs ws : List Untaken) (a b : List Emission)
    → m ≡ n + length xs → ToldIn M G h c n xs us a vs → ToldIn M G h c m ys vs b ws
    → ToldIn M G h c n (xs ++ ys) us (a ++ b) ws
told-then M G h c n m xs ys us vs ws a b long x y =
    let p : List ℕ = flat_map answers_in x.pieces in
    let q : List ℕ = flat_map answers_in y.pieces in
    let r : List ℕ = nums c (answered_in n xs) in
    let s : List ℕ = nums c (answered_in m ys) in
    let both : nums c (answered_in n (xs ++ ys)) ≡ r ++ s =
    ap (nums c) (answered-append n xs ys)
    ∙ (flat_map-append (num_of c) (answered_in n xs) (answered_in (n + length xs) ys)
    ∙ ap (λ (k : ℕ). r ++ nums c (answered_in k ys)) (sym long)) in
    record {
      pieces = x.pieces ++ y.pieces;
      said = flat_map-append (said_by c) a b
          ∙ (ap (λ (t : List (List ℕ)). t ++ said_to c b) x.said
          ∙ (ap (λ (t : List (List ℕ)). map bytes_in x.pieces ++ t) y.said
          ∙ sym (map-append bytes_in x.pieces y.pieces)));
      each = all-append (IsSaid M G h c) x.pieces y.pieces x.each y.each;
      answers = ap (λ (t : List ℕ). t ++ nums c ws) (flat_map-append answers_in x.pieces y.pieces)
          ∙ (append_assoc p q (nums c ws)
          ∙ (ap (λ (t : List ℕ). p ++ t) y.answers
          ∙ (sym (append_assoc p (nums c vs) s)
          ∙ (ap (λ (t : List ℕ). t ++ s) x.answers
          ∙ (append_assoc (nums c us) r s
          ∙ ap (λ (t : List ℕ). nums c us ++ t) (sym both))))));
    }

abbrev pub did-then : (M : Terms) (G F : ℕ → Type 0) (u v w : CoreValue) (a b : List Emission) → Did M G F u a v → Did M G F v b w → Did M G F u (a ++ b) w
did-then M G F u v w a b x y =
    let long : length v.state.entries ≡ length u.state.entries + length x.more =
    ap length x.added ∙ length-append u.state.entries x.more in
    record {
      more = x.more ++ y.more;
      added = y.added ∙ (ap (λ (h : List Written). h ++ y.more) x.added ∙ append_assoc u.state.entries x.more y.more);
      conns = y.conns
          ∙ (ap (λ (cs : List Conn). conns_with cs (length v.state.entries) y.more) x.conns
          ∙ (ap (λ (k : ℕ). conns_with (conns_with u.state.conns (length u.state.entries) x.more) k y.more) long
          ∙ sym (conns-both u.state.conns (length u.state.entries) x.more y.more)));
      sent = ap (λ (os : List Outgoing). os ++ w.unsent) (flat_map-append goes_by a b)
          ∙ (append_assoc (goes_in a) (goes_in b) w.unsent
          ∙ (ap (λ (os : List Outgoing). goes_in a ++ os) y.sent
          ∙ (sym (append_assoc (goes_in a) v.unsent (sent_in y.more))
          ∙ (ap (λ (os : List Outgoing). os ++ sent_in y.more) x.sent
          ∙ (append_assoc u.unsent (sent_in x.more) (sent_in y.more)
          ∙ ap (λ (os : List Outgoing). u.unsent ++ os) (sym (sent-append x.more y.more)))))));
      meant = all-append (λ (e : Written). IsMeant M e.deed) x.more y.more x.meant y.meant;
      told = λ h rest stands is waits.
          let first = x.told h (y.more ++ rest) stands
          (is ∙ (ap (λ (q : List Written). q ++ rest) y.added ∙ append_assoc v.state.entries y.more rest)) waits in
          let next = y.told h rest stands is first.0 in (
            next.0,
            λ c f. told-then M G h c (length u.state.entries) (length v.state.entries) x.more y.more u.untaken v.untaken w.untaken a b
                long (first.1 c f) (next.1 c f),
          );
    }

-- What is given out tells no answer, and no datagram goes out.

abbrev pub IsInterim : Type 0 → Piece → Type 0
IsInterim T interim = T
IsInterim T (final n bytes) = ⊥

pub record SaysAside (G : ℕ → Type 0) (c : ℕ) (out : List Emission) : Type 0 where
  pub pieces : List Piece
  pub said : said_to c out ≡ map bytes_in pieces
  pub each : AllByRecursion (IsInterim (G c)) pieces

pub record Aside (G : ℕ → Type 0) (out : List Emission) : Type 0 where
  pub none : goes_in out ≡ []
  pub says : (c : ℕ) → SaysAside G c out

pub aside-none : (G : ℕ → Type 0) → Aside G []
aside-none G = record { none = refl; says = λ c. record { pieces = []; said = refl; each = tt } }

pub aside-closed : (G : ℕ → Type 0) (d : ℕ) → Aside G (Closed d ∷ [])
aside-closed G d = record { none = refl; says = λ c. record { pieces = []; said = refl; each = tt } }

pub aside-given-up : (G : ℕ → Type 0) (d : ℕ) → Aside G (GivenUp d ∷ [])
aside-given-up G d = record { none = refl; says = λ c. record { pieces = []; said = refl; each = tt } }

pub aside-turned : (G : ℕ → Type 0) → Aside G (Turned ∷ [])
aside-turned G = record { none = refl; says = λ c. record { pieces = []; said = refl; each = tt } }

pub aside-goes-on : (G : ℕ → Type 0) (d : ℕ) → G d → Aside G (Says d continue_text ∷ [])
aside-goes-on G d g = record { none = refl; says = λ c. by c (d == c) refl }
  where
    by : (c : ℕ) (b : Bool) → (d == c) ≡ b → SaysAside G c (Says d continue_text ∷ [])
    by c true e = record {
      pieces = interim ∷ [];
      said = ap (λ (t : Bool). (if t then continue_text ∷ [] else []) ++ []) e;
      each = (subst G (eqb-true d c e) g, tt);
    }
    by c false e = record {
      pieces = [];
      said = ap (λ (t : Bool). (if t then continue_text ∷ [] else []) ++ []) e;
      each = tt;
    }

aside-said : (M : Terms) (G : ℕ → Type 0) (h : List Written) (c : ℕ) (ps : List Piece) → AllByRecursion (IsInterim (G c)) ps → AllByRecursion (IsSaid M G h c) ps
aside-said M G h c [] each = tt
aside-said M G h c (interim ∷ ps) each = (each.0, aside-said M G h c ps each.1)
aside-said M G h c (final n bytes ∷ ps) each = absurd each.0

aside-answers : (T : Type 0) (ps : List Piece) → AllByRecursion (IsInterim T) ps → flat_map answers_in ps ≡ []
aside-answers T [] each = refl
aside-answers T (interim ∷ ps) each = aside-answers T ps each.1
aside-answers T (final n bytes ∷ ps) each = absurd each.0

-- the core stays as it is

pub did-aside : (M : Terms) (G F : ℕ → Type 0) (old new : CoreValue) (out : List Emission) → new ≡ old → Aside G out → Did M G F old out new
did-aside M G F old new out e aside = subst (λ (v : CoreValue). Did M G F old out v) (sym e) (record {
  more = [];
  added = sym (append-nil old.state.entries);
  conns = refl;
  sent = ap (λ (os : List Outgoing). os ++ old.unsent) aside.none ∙ sym (append-nil old.unsent);
  meant = tt;
  told = λ h rest stands is waits. (
    waits,
    λ c f.
        let says = aside.says c in
        record {
          pieces = says.pieces;
          said = says.said;
          each = aside-said M G h c says.pieces says.each;
          answers = ap (λ (ks : List ℕ). ks ++ nums c old.untaken) (aside-answers (G c) says.pieces says.each) ∙ sym (append-nil (nums c old.untaken));
        },
  );
})

-- it does a step

answers-in : (h front ws rest : List Written) → h ≡ front ++ (ws ++ rest)
    → AllByRecursion (IsAnswerIn h) (answered_in (length front) ws)
answers-in h front [] rest is = tt
answers-in h front (w ∷ ws) rest is =
    all-append (IsAnswerIn h) (answered_by (length front) w.deed) (answered_in (length front + 1) ws)
    (here w.deed refl)
    (subst (λ (n : ℕ). AllByRecursion (IsAnswerIn h) (answered_in n ws)) (length-append front (w ∷ []))
    (answers-in h (front ++ w ∷ []) ws rest (is ∙ sym (append_assoc front (w ∷ []) (ws ++ rest)))))
  where
    there : slice_get h (length front) ≡ Some w
    there = ap (λ (q : List Written). slice_get q (length front)) is ∙ at-seam front w (ws ++ rest)

    here : (d : Deed) → w.deed ≡ d → AllByRecursion (IsAnswerIn h) (answered_by (length front) d)
    here (Answers c k g) e = (
      record { moment = w.moment; grounds = g; stands = there ∙ ap (λ (d : Deed). Some (written w.moment d)) e },
      tt,
    )
    here (Opens c) e = tt
    here (Asks c a) e = tt
    here (Sends p b t) e = tt
    here (Hears p b) e = tt
    here Passes e = tt
    here (Shuts c) e = tt
    here Seals e = tt
    here (Carries number mark done) e = tt

-- The answers that it adds and those that wait are of different connections.
abbrev pub StaysApart : CoreValue → List Written → Type 0
StaysApart old more =
    (h rest : List Written) → Stands h → h ≡ old.state.entries ++ (more ++ rest) → Wait h old.untaken
    → AreApart (old.untaken ++ answered_in (length old.state.entries) more)

pub did-step : (M : Terms) (G F : ℕ → Type 0) (t : ℕ) (old new : CoreValue) (S : State) (out : List Emission) → new ≡ stepped S old
    → (x : Adds t old.state S) → Aside G out → AreMeant M x.more → StaysApart old x.more → Did M G F old out new
did-step M G F t old new S out e x aside meant apart =
    let n : ℕ = length old.state.entries in
    let more : drop n S.entries ≡ x.more = ap (drop n) x.entries ∙ drop-append_seam old.state.entries x.more in
    let added : new.state.entries ≡ old.state.entries ++ x.more = ap (λ (v : CoreValue). v.state.entries) e ∙ x.entries in
    let waiting : new.untaken ≡ old.untaken ++ answered_in n x.more =
    ap (λ (v : CoreValue). v.untaken) e ∙ ap (λ (ws : List Written). old.untaken ++ answered_in n ws) more in
    let unsent : new.unsent ≡ old.unsent ++ sent_in x.more =
    ap (λ (v : CoreValue). v.unsent) e ∙ ap (λ (ws : List Written). old.unsent ++ sent_in ws) more in
    record {
      more = x.more;
      added = added;
      conns = ap (λ (v : CoreValue). v.state.conns) e ∙ x.conns;
      sent = ap (λ (os : List Outgoing). os ++ new.unsent) aside.none ∙ unsent;
      meant = meant;
      told = λ h rest stands is waits.
          let all : h ≡ old.state.entries ++ (x.more ++ rest) =
          is ∙ (ap (λ (q : List Written). q ++ rest) added ∙ append_assoc old.state.entries x.more rest) in (
            subst (Wait h) (sym waiting) (record {
              apart = apart h rest stands all waits;
              answers = all-append (IsAnswerIn h) old.untaken (answered_in n x.more) waits.answers (answers-in h old.state.entries x.more rest all);
            }),
            λ c f.
                let says = aside.says c in
                record {
                  pieces = says.pieces;
                  said = says.said;
                  each = aside-said M G h c says.pieces says.each;
                  answers = ap (λ (ks : List ℕ). ks ++ nums c new.untaken) (aside-answers (G c) says.pieces says.each)
                      ∙ (ap (nums c) waiting ∙ flat_map-append (num_of c) old.untaken (answered_in n x.more));
                },
          );
    }

-- a datagram goes out

pub did-send : (M : Terms) (G F : ℕ → Type 0) (old new : CoreValue) (d : Outgoing) → IsSent (Some d) old new → Did M G F old (Goes d ∷ []) new
did-send M G F old new d h =
    let waiting : new.untaken ≡ old.untaken = ap (λ (v : CoreValue). v.untaken) h.1 in
    let entries : new.state.entries ≡ old.state.entries = ap (λ (v : CoreValue). v.state.entries) h.1 in
    record {
      more = [];
      added = entries ∙ sym (append-nil old.state.entries);
      conns = ap (λ (v : CoreValue). v.state.conns) h.1;
      sent = sym h.0 ∙ sym (append-nil old.unsent);
      meant = tt;
      told = λ h rest stands is waits. (
        subst (Wait h) (sym waiting) waits,
        λ c f. record {
          pieces = [];
          said = refl;
          each = tt;
          answers = ap (nums c) waiting ∙ sym (append-nil (nums c old.untaken));
        },
      );
    }
