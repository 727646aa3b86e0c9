-- How far an open exchange has come by its replies, and what one that ended with a whole response is made of.
use Rattle.std.proofs.Common.{◌≡◌, ℕ, Bool, true, false, cond, eqb, ◌⊎◌, inl, inr, List, [], ◌∷◌, ◌++◌, length, Option, Some, None, Ok, Err, refl, sym, ap, subst, ◌∙◌, append-nil}
use Rattle.std.specs.Prelude.{fold, is_none}
use Rattle.std.proofs.lemmas.Bool.{and_parts}
use Rattle.coap_codec.specs.Spelling.{Content}
use Rattle.blockwise.specs.Downloads.{PiecesValue, Judged, judged, no_pieces, with_piece}
use Rattle.blockwise.specs.declared.fault.BlockFault.TheVariants.{Changed, Size, Gap, TooLarge, Memory}
use Rattle.blockwise.specs.declared.pieces.Step.TheVariants.{Next, Last}
use Rattle.blockwise.specs.Uploads.{begun as begun_as}
use Rattle.ask_model.specs.Requests.{CoapRequest}
use Rattle.resp_cache.specs.Stored.{Stored}
use Rattle.history_laws.specs.Responses.{Response, confirms, is_tellable}
use Rattle.history_laws.specs.Readings.{Noted, at, before}
use Rattle.history_laws.specs.Progress.{Reply, Ending, Whole, Renewed, NotUnderstood, Reset, TimedOut, Turned, Progress, Fetches, Gives, Ends, first_progress, fetched_by, fetched_whole, progress, step, ended_by}
use Rattle.history_laws.specs.Exchanges.{Begun, begun, Turn, Nothing, Sent, Replied, Rejected, Expired, turn, replies, begins_with, heard_for, replied_end, unless_renewed, kept, end_here, end_of}
use Rattle.history_laws.specs.Observing.{as_first, first_reply}
use Rattle.history_laws.specs.Justified.{Ends as EndsAs, Legal}
use Rattle.history_laws.proofs.Fetching.{CameTo, came-first, came-to, IsMadeOf, step-unrenewed}
use Rattle.history_laws.proofs.Openings.{ends-first}
use Rattle.history_laws.proofs.Queue.{going-before}
use Rattle.history_laws.proofs.Resting.{none-is, none-some, some-is}
use Rattle.history_laws.proofs.Beginnings.{ask-begins, heard-none, heard-push, heard-stays, notice-begins}
use Rattle.history_laws.proofs.Facts.{legal-before}
use Rattle.history_laws.proofs.Sent.{begun-before, begun-keeps, opened-for}
use Rattle.history_laws.proofs.Started.{started}
use Rattle.history_laws.proofs.Unbegun.{replies-none}

-- It goes on.
abbrev pub IsGoing : Progress → Type 0
IsGoing (Ends how) = ⊥
IsGoing u = Unit {0}

pub going-not : (u : Progress) (how : Ending) → IsGoing u → u ≡ Ends how → ⊥
going-not (Ends k) how g e = g
going-not (Gives u got) how g e = cc
going-not (Fetches k p got) how g e = cc

first-goes : (q : CoapRequest) → IsGoing (progress q [])
first-goes q = by (eqb q.method 1)
  where
    by : (b : Bool) → IsGoing (cond b (Fetches 0 no_pieces []) (Gives (begun_as (length q.body) 6) []))
    by true = tt
    by false = tt

-- how far it has come
abbrev pub GoesSo : Option Begun → List Reply → Type 0
GoesSo None rs = rs ≡ []
GoesSo (Some b) rs = IsGoing (progress b.request rs) × CameTo b.request rs (progress b.request rs)

not-ended : (place : Bool) (u : Progress) → ended_by place u ≡ None → IsGoing u
not-ended place (Ends how) e = absurd (none-is how e)
not-ended place (Gives u got) e = tt
not-ended place (Fetches k p got) e = tt

replied-goes : (b : Option Begun) (place : Bool) (rs : List Reply) (r : Reply) → GoesSo b rs → replied_end b place (rs ++ r ∷ []) ≡ None
    → (a : Begun) × (b ≡ Some a) × GoesSo (Some a) (rs ++ r ∷ [])
replied-goes None place rs r h e = absurd (none-is NotUnderstood e)
replied-goes (Some b) place rs r h e = (
  b,
  refl,
  (
    not-ended place (progress b.request (rs ++ r ∷ [])) e,
    came-to b.request rs r (λ how f. going-not (progress b.request rs) how h.0 f) h.1,
  ),
)

-- By a reply it ends as it would do otherwise, or what it keeps is renewed.
pub record IsConfirmedBy (v : Option Stored) (rs : List Reply) (r : Reply) (how : Option Ending) : Type 0 where
  pub stored : Stored
  pub keeps : v ≡ Some stored
  pub first : rs ≡ []
  pub tells : confirms stored.response.etag r.message ≡ true
  pub is : how ≡ Some (Renewed stored r)

pub unless-cases : (v : Option Stored) (rs : List Reply) (r : Reply) (other how : Option Ending) → unless_renewed v rs r other ≡ how
    → (other ≡ how) ⊎ IsConfirmedBy v rs r how
unless-cases None rs r other how e = inl e
unless-cases (Some s) (x ∷ xs) r other how e = inl e
unless-cases (Some s) [] r other how e = by (confirms s.response.etag r.message) refl e
  where
    by : (b : Bool) → confirms s.response.etag r.message ≡ b → cond b (Some (Renewed s r)) other ≡ how
        → (other ≡ how) ⊎ IsConfirmedBy (Some s) [] r how
    by true is f = inr (record { stored = s; keeps = refl; first = refl; tells = is; is = sym f })
    by false is f = inl f

pub unless-none : (v : Option Stored) (rs : List Reply) (r : Reply) (other : Option Ending) → unless_renewed v rs r other ≡ None → other ≡ None
unless-none v rs r other e = elim (unless-cases v rs r other None e) [ inl w ↦ w | inr w ↦ absurd (none-some _ w.is) ]

pub unless-whole : (v : Option Stored) (rs : List Reply) (r : Reply) (other : Option Ending) (w : Response) (ws : List Reply)
    → unless_renewed v rs r other ≡ Some (Whole w ws) → other ≡ Some (Whole w ws)
unless-whole v rs r other w ws e = elim (unless-cases v rs r other (Some (Whole w ws)) e) [ inl same ↦ same | inr it ↦ absurd (apart it.stored (some-is _ _ it.is)) ]
  where
    apart : (s : Stored) → Whole w ws ≡ Renewed s r → ⊥
    apart s f = cc

-- What a notification opens goes on with the first piece.

goes-alike : (b : Bool) (j : Judged) (p : PiecesValue) (got old : List Reply) → ((how : Ending) → cond b (fetched_by j 0 p old) (Ends NotUnderstood) ≡ Ends how → ⊥)
    → IsGoing (cond b (fetched_by j 0 p got) (Ends NotUnderstood))
goes-alike false j p got old h = h NotUnderstood refl
goes-alike true (Err Changed) p got old h = tt
goes-alike true (Err Size) p got old h = h NotUnderstood refl
goes-alike true (Err Gap) p got old h = h NotUnderstood refl
goes-alike true (Err TooLarge) p got old h = h NotUnderstood refl
goes-alike true (Err Memory) p got old h = h NotUnderstood refl
goes-alike true (Ok (Next block)) p got old h = tt
goes-alike true (Ok Last) p got old h = h (fetched_whole old) refl

notice-goes : (q : CoapRequest) (n i : ℕ) (m : Content) → eqb q.method 1 ≡ true → ((how : Ending) → as_first 0 0 m ≡ Ends how → ⊥)
    → GoesSo (Some (record { since = n; request = q })) (first_reply n i m ∷ [])
notice-goes q n i m get goes =
    let r : Reply = first_reply n i m in
    let first : progress q (r ∷ []) ≡ as_first n i m =
    ap (λ (b : Bool). step (cond b (Fetches 0 no_pieces []) (Gives (begun_as (length q.body) 6) [])) r) get in
    let on : IsGoing (as_first n i m) =
    goes-alike (is_tellable m) (judged no_pieces m) (with_piece no_pieces m) (r ∷ []) (first_reply 0 0 m ∷ []) goes in (
      subst IsGoing (sym first) on,
      came-to q [] r (λ how f. going-not (progress q []) how (first-goes q) f) (came-first q),
    )

new-goes : (l : List Noted) (o : ℕ) (b : Begun) → Legal l → begun l o ≡ Some b → replies l o ≡ [] → GoesSo (Some b) (heard_for l o)
new-goes l o b legal opened none = elim (opened-for l o b legal opened) [
  | inl it ↦
      subst (λ (rs : List Reply). GoesSo (Some b) rs) (sym (heard (ask-begins l o b legal it)))
      (first-goes b.request, came-first b.request)
  | inr it ↦
      let s = started l o b legal it in
      let get = (and_parts (eqb b.request.method 1) _ s.get).0 in
      subst (λ (rs : List Reply). GoesSo (Some b) rs) (sym (heard (notice-begins l o b it)))
      (notice-goes b.request o it.sending it.message get s.starts.goes)
]
  where
    heard : {bs : List Reply} → begins_with l o ≡ bs → heard_for l o ≡ bs
    heard {bs} e = ap (λ (rs : List Reply). begins_with l o ++ rs) none ∙ (append-nil (begins_with l o) ∙ e)

-- One that gets no reply is as far as before, or was opened just now.
still-goes : (x : Noted) (l : List Noted) (o : ℕ) → Legal (x ∷ l) → replies (x ∷ l) o ≡ replies l o → GoesSo (begun l o) (heard_for l o)
    → GoesSo (begun (x ∷ l) o) (heard_for (x ∷ l) o)
still-goes x l o legal same h = by (begun l o) refl h
  where
    new : begun l o ≡ None → (c : Option Begun) → begun (x ∷ l) o ≡ c → GoesSo c (heard_for (x ∷ l) o)
    new none None is = heard-none (x ∷ l) o legal is
    new none (Some b) is = new-goes (x ∷ l) o b legal is (same ∙ (replies-none l o legal.0 none).1)

    by : (b : Option Begun) → begun l o ≡ b → GoesSo b (heard_for l o) → GoesSo (begun (x ∷ l) o) (heard_for (x ∷ l) o)
    by None is h = new is (begun (x ∷ l) o) refl
    by (Some b) is h =
        subst (λ (c : Option Begun). GoesSo c (heard_for (x ∷ l) o)) (sym (begun-keeps x l o b is))
        (subst (λ (rs : List Reply). GoesSo (Some b) rs) (sym (heard-stays x l o b is same)) h)

goes-step : (x : Noted) (l : List Noted) (o : ℕ) → Legal (x ∷ l) → GoesSo (begun l o) (heard_for l o) → (u : Turn) → turn l o x ≡ u
    → end_here (begun l o) (kept l o) (length l) (heard_for l o) u ≡ None → GoesSo (begun (x ∷ l) o) (heard_for (x ∷ l) o)
goes-step x l o legal h Nothing is e = still-goes x l o legal (rw (is) refl) h
goes-step x l o legal h (Sent i) is e = still-goes x l o legal (rw (is) refl) h
goes-step x l o legal h Rejected is e = absurd (none-is Reset e)
goes-step x l o legal h Expired is e = absurd (none-is TimedOut e)
goes-step x l o legal h (Replied i m place) is e =
    let r : Reply = record { number = length l; sending = i; message = m } in
    let it = replied-goes (begun l o) place (heard_for l o) r h (unless-none (kept l o) (heard_for l o) r _ e) in
    subst (λ (c : Option Begun). GoesSo c (heard_for (x ∷ l) o)) (sym (begun-keeps x l o it.0 it.1))
    (subst (λ (rs : List Reply). GoesSo (Some it.0) rs) (sym (heard-push x l o i m place it.0 it.1 is)) it.2)

pub goes-so : (l : List Noted) (o : ℕ) → Legal l → end_of l o ≡ None → GoesSo (begun l o) (heard_for l o)
goes-so [] o legal e = refl
goes-so (x ∷ older) o legal e =
    let was = going-before x older o (ap is_none e) in
    goes-step x older o legal (goes-so older o legal.0 was.1) (turn older o x) refl was.0

-- So a whole response is made.
pub made-replied : (b : Option Begun) (place : Bool) (rs : List Reply) (r : Reply) (w : Response) (ws : List Reply) → GoesSo b rs
    → replied_end b place (rs ++ r ∷ []) ≡ Some (Whole w ws) → (a : Begun) × (b ≡ Some a) × IsMadeOf a.request (rs ++ r ∷ []) w ws
made-replied None place rs r w ws h e = absurd (other (some-is _ _ e))
  where
    other : NotUnderstood ≡ Whole w ws → ⊥
    other f = cc
made-replied (Some b) place rs r w ws h e = (
  b,
  refl,
  subst (CameTo b.request (rs ++ r ∷ [])) (by place (progress b.request (rs ++ r ∷ [])) e)
      (came-to b.request rs r (λ how f. going-not (progress b.request rs) how h.0 f) h.1),
)
  where
    other : Turned ≡ Whole w ws → ⊥
    other f = cc

    by : (place : Bool) (u : Progress) → ended_by place u ≡ Some (Whole w ws) → u ≡ Ends (Whole w ws)
    by place (Ends how) f = ap Ends (some-is _ _ f)
    by true (Gives u got) f = absurd (none-some _ f)
    by true (Fetches k p got) f = absurd (none-some _ f)
    by false (Gives u got) f = absurd (other (some-is _ _ f))
    by false (Fetches k p got) f = absurd (other (some-is _ _ f))

-- what a turn that ends an exchange with a whole response is
pub record MadeTurn (b : Option Begun) (n : ℕ) (rs : List Reply) (u : Turn) (w : Response) (ws : List Reply) : Type 0 where
  pub exchange : Begun
  pub asked : b ≡ Some exchange
  pub sending : ℕ
  pub message : Content
  pub place : Bool
  pub is : u ≡ Replied sending message place
  pub made : IsMadeOf exchange.request (rs ++ record { number = n; sending = sending; message = message } ∷ []) w ws

pub made-turn : (b : Option Begun) (v : Option Stored) (n : ℕ) (rs : List Reply) (u : Turn) (w : Response) (ws : List Reply) → GoesSo b rs
    → end_here b v n rs u ≡ Some (Whole w ws) → MadeTurn b n rs u w ws
made-turn b v n rs (Replied i m place) w ws h e =
    let r : Reply = record { number = n; sending = i; message = m } in
    let it = made-replied b place rs r w ws h (unless-whole v rs r _ w ws e) in
    record { exchange = it.0; asked = it.1; sending = i; message = m; place = place; is = refl; made = it.2 }
made-turn b v n rs Rejected w ws h e = absurd (cc (e))
made-turn b v n rs Expired w ws h e = absurd (cc (e))
made-turn b v n rs Nothing w ws h e = absurd (cc (e))
made-turn b v n rs (Sent i) w ws h e = absurd (cc (e))

-- What ended with a whole response, in which entry, by the replies till then.
pub record EndsWhole (l : List Noted) (o e : ℕ) (w : Response) (ws : List Reply) : Type 0 where
  pub entry : Noted
  pub stands : at l e ≡ Some entry
  pub going : end_of (before l e) o ≡ None
  pub turned : MadeTurn (begun (before l e) o) e (heard_for (before l e) o) (turn (before l e) o entry) w ws
  pub opened : begun l o ≡ Some turned.exchange

pub ends-whole : (l : List Noted) (o e : ℕ) (w : Response) (ws : List Reply) → Legal l → EndsAs l o e (Whole w ws) → EndsWhole l o e w ws
ends-whole l o e w ws legal h =
    let it = ends-first l o e (Whole w ws) h in
    let m = made-turn (begun (before l e) o) (kept (before l e) o) e (heard_for (before l e) o) (turn (before l e) o it.0) w ws (goes-so (before l e) o (legal-before l e legal) it.2) it.3 in
    record {
      entry = it.0;
      stands = it.1;
      going = it.2;
      turned = m;
      opened = begun-before l e o m.exchange m.asked;
    }

-- Of what it would do otherwise nothing is a renewal.
abbrev Unrenewed : Progress → Type 0
Unrenewed u = (s : Stored) (x : Reply) → u ≡ Ends (Renewed s x) → ⊥

step-stays : (u : Progress) (r : Reply) → Unrenewed u → Unrenewed (step u r)
step-stays (Ends how) r h s x e = h s x e
step-stays (Fetches k p got) r h s x e = step-unrenewed (Fetches k p got) r s x (λ how f. going-not (Fetches k p got) how tt f) e
step-stays (Gives u got) r h s x e = step-unrenewed (Gives u got) r s x (λ how f. going-not (Gives u got) how tt f) e

never-renewed : (rs : List Reply) (u : Progress) → Unrenewed u → Unrenewed (fold step u rs)
never-renewed [] u h = h
never-renewed (r ∷ rs) u h = never-renewed rs (step u r) (step-stays u r h)

unrenewed-by : (b : Option Begun) (place : Bool) (rs : List Reply) (u : Reply) (s : Stored) → replied_end b place rs ≡ Some (Renewed s u) → ⊥
unrenewed-by None place rs u s e = other (some-is _ _ e)
  where
    other : NotUnderstood ≡ Renewed s u → ⊥
    other f = cc
unrenewed-by (Some b) place rs u s e =
    never-renewed rs (first_progress b.request) (λ t x f. going-not (progress b.request []) (Renewed t x) (first-goes b.request) f) s u (by place (progress b.request rs) e)
  where
    other : Turned ≡ Renewed s u → ⊥
    other f = cc

    by : (place : Bool) (v : Progress) → ended_by place v ≡ Some (Renewed s u) → v ≡ Ends (Renewed s u)
    by place (Ends how) f = ap Ends (some-is _ _ f)
    by true (Gives v got) f = absurd (none-some _ f)
    by true (Fetches k p got) f = absurd (none-some _ f)
    by false (Gives v got) f = absurd (other (some-is _ _ f))
    by false (Fetches k p got) f = absurd (other (some-is _ _ f))

-- what a turn is by which what an exchange keeps is renewed
pub record RenewedTurn (v : Option Stored) (n : ℕ) (rs : List Reply) (u : Turn) (s : Stored) (r : Reply) : Type 0 where
  pub sending : ℕ
  pub message : Content
  pub place : Bool
  pub is : u ≡ Replied sending message place
  pub reply : record { number = n; sending = sending; message = message } ≡ r
  pub keeps : v ≡ Some s
  pub first : rs ≡ []
  pub tells : confirms s.response.etag r.message ≡ true

renewed-same : (s t : Stored) (r u : Reply) → Some (Renewed s r) ≡ Some (Renewed t u) → (s ≡ t) × (r ≡ u)
renewed-same s t r u e = (stored (some-is _ _ e), reply (some-is _ _ e))
  where
    stored : Renewed s r ≡ Renewed t u → s ≡ t
    stored f = cc

    reply : Renewed s r ≡ Renewed t u → r ≡ u
    reply f = cc

pub renewed-turn : (b : Option Begun) (v : Option Stored) (n : ℕ) (rs : List Reply) (u : Turn) (s : Stored) (r : Reply)
    → end_here b v n rs u ≡ Some (Renewed s r) → RenewedTurn v n rs u s r
renewed-turn b v n rs (Replied i m place) s r e =
    elim (unless-cases v rs x (replied_end b place (rs ++ x ∷ [])) (Some (Renewed s r)) e) [
      | inl w ↦ absurd (unrenewed-by b place (rs ++ x ∷ []) r s w)
      | inr it ↦
          let same = renewed-same s it.stored r x it.is in
          record {
            sending = i;
            message = m;
            place = place;
            is = refl;
            reply = sym same.1;
            keeps = it.keeps ∙ ap (λ (t : Stored). Some t) (sym same.0);
            first = it.first;
            tells = subst (λ (t : Stored). confirms t.response.etag r.message ≡ true) (sym same.0)
                (subst (λ (y : Reply). confirms it.stored.response.etag y.message ≡ true) (sym same.1) it.tells);
          }
    ]
  where
    x : Reply
    x = record { number = n; sending = i; message = m }
renewed-turn b v n rs Rejected s r e = absurd (cc (e))
renewed-turn b v n rs Expired s r e = absurd (cc (e))
renewed-turn b v n rs Nothing s r e = absurd (cc (e))
renewed-turn b v n rs (Sent i) s r e = absurd (cc (e))

-- In its last entry what an exchange keeps was renewed, by the first reply to it.
pub record EndsRenewed (l : List Noted) (o e : ℕ) (s : Stored) (r : Reply) : Type 0 where
  pub entry : Noted
  pub stands : at l e ≡ Some entry
  pub going : end_of (before l e) o ≡ None
  pub turned : RenewedTurn (kept (before l e) o) e (heard_for (before l e) o) (turn (before l e) o entry) s r

pub ends-renewed : (l : List Noted) (o e : ℕ) (s : Stored) (r : Reply) → EndsAs l o e (Renewed s r) → EndsRenewed l o e s r
ends-renewed l o e s r h =
    let it = ends-first l o e (Renewed s r) h in
    record {
      entry = it.0;
      stands = it.1;
      going = it.2;
      turned = renewed-turn (begun (before l e) o) (kept (before l e) o) e (heard_for (before l e) o) (turn (before l e) o it.0) s r it.3;
    }
