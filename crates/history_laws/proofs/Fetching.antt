-- What a whole response is made of: the replies of the last try, piece by piece.
use Rattle.std.proofs.Common.{◌≡◌, ◌⊎◌, inl, inr, ℕ, ◌+◌, Bool, true, false, cond, eqb, List, [], ◌∷◌, ◌++◌, length, Option, Some, None, Ok, Err, refl, sym, ap, subst, ◌∙◌, arith, append_assoc, append-nil, length-append}
use Rattle.std.specs.Prelude.{fold, is_some, ◌&&◌, ⊤}
use Rattle.std.specs.List.{list_all}
use Rattle.std.proofs.lemmas.Bool.{false≢true, and_from}
use Rattle.std.proofs.lemmas.List.Sums.{fold-append}
use Rattle.coap_codec.specs.Spelling.{Content}
use Rattle.blockwise.specs.Downloads.{PiecesValue, no_pieces, Judged, judged, with_piece, DownloadValue, nothing, given, given_by, taken_by, adds_by}
use Rattle.blockwise.specs.Joins.{payloads}
use Rattle.blockwise.specs.declared.fault.BlockFault.TheVariants as F
use Rattle.blockwise.specs.declared.pieces.Step.TheVariants.{Next, Last}
use Rattle.coap_codec.specs.Recognition.{is_forwardable}
use Rattle.coap_codec.specs.declared.block.Block.{Block}
use Rattle.blockwise.specs.Uploads.{UploadValue, begun, answer_to, next_block, next_of}
use Rattle.blockwise.specs.declared.upload.Answered.{Answered}
use Rattle.blockwise.specs.declared.upload.Answered.TheVariants as A
use Rattle.ask_model.specs.Requests.{CoapRequest, Manner, Plainly, asking, block_message, opening_message}
use Rattle.history_laws.specs.Responses.{Response, response_of, joined, is_tellable, whole_by, whole_given, whole_of}
use Rattle.resp_cache.specs.Stored.{Stored}
use Rattle.history_laws.specs.Progress.{Reply, messages, Ending, Whole, Renewed, NotUnderstood, Reset, TimedOut, Turned, Progress, Fetches, Gives, Ends, first_progress, answered_so, anew, fetched_by, fetched_whole, step, progress, next_message}

-- lists of replies

pub messages-push : (rs : List Reply) (r : Reply) → messages (rs ++ r ∷ []) ≡ messages rs ++ r.message ∷ []
messages-push [] r = refl
messages-push (s ∷ rs) r = ap (λ (ms : List Content). s.message ∷ ms) (messages-push rs r)

payloads-push : (ms : List Content) (m : Content) → payloads (ms ++ m ∷ []) ≡ payloads ms ++ m.payload
payloads-push [] m = append-nil m.payload
payloads-push (n ∷ ms) m = ap (λ (b : List ℕ). n.payload ++ b) (payloads-push ms m) ∙ sym (append_assoc n.payload (payloads ms) m.payload)

and-both : (a b c : Bool) → (a && b) ≡ true → ((b ≡ true) → c ≡ true) → (a && c) ≡ true
and-both true b c h f = f h
and-both false b c h f = absurd (false≢true h)

tellable-push : (ms : List Content) (m : Content) → list_all is_tellable ms ≡ true → is_tellable m ≡ true → list_all is_tellable (ms ++ m ∷ []) ≡ true
tellable-push [] m h e = and_from _ _ e refl
tellable-push (n ∷ ms) m h e = and-both (is_tellable n) (list_all is_tellable ms) (list_all is_tellable (ms ++ m ∷ [])) h (λ k. tellable-push ms m k e)

pub progress-push : (q : CoapRequest) (rs : List Reply) (r : Reply) → progress q (rs ++ r ∷ []) ≡ step (progress q rs) r
progress-push q rs r = fold-append step (first_progress q) rs (r ∷ [])

pub fold-push : (p : PiecesValue) (ms : List Content) (m : Content) → fold with_piece p (ms ++ m ∷ []) ≡ with_piece (fold with_piece p ms) m
fold-push p ms m = fold-append with_piece p ms (m ∷ [])

-- what is known of the pieces in these replies
abbrev pub pieces_in : List Reply → PiecesValue
pieces_in rs = fold with_piece no_pieces (messages rs)

-- At each of these replies the exchange had fetched those before it, after these others.
abbrev pub AreAsked : CoapRequest → List Reply → List Reply → Type 0
AreAsked q before ws =
    (g h : List Reply) (r : Reply) → ws ≡ g ++ r ∷ h → (k : ℕ) × (progress q (before ++ g) ≡ Fetches k (pieces_in g) g)

-- what is known of the body of which pieces were taken by these replies
abbrev pub upload_in : CoapRequest → List Reply → UploadValue
upload_in q rs = fold next_of (begun (length q.body) 6) (messages rs)

-- At each of these replies those before it had been taken.
abbrev pub AreGiven : CoapRequest → List Reply → Type 0
AreGiven q ws = (g h : List Reply) (r : Reply) → ws ≡ g ++ r ∷ h → progress q g ≡ Gives (upload_in q g) g

-- How far a body has come: all replies are answers to its pieces.
pub record GivenSoFar (q : CoapRequest) (rs : List Reply) (u : UploadValue) (got : List Reply) : Type 0 where
  pub all : rs ≡ got
  pub is : u ≡ upload_in q got
  pub gives : (ms : List Content) → whole_given (begun (length q.body) 6) (messages got ++ ms) ≡ whole_given u ms
  pub asked : AreGiven q got

-- pieces that were joined so far
abbrev held : PiecesValue → List Reply → DownloadValue
held p got = record { of = p.of; bytes = payloads (messages got); szx = p.szx }

-- How far a GET has come: with these pieces of the last try, which are the last replies.
pub record SoFar (q : CoapRequest) (rs : List Reply) (k : ℕ) (p : PiecesValue) (got : List Reply) : Type 0 where
  pub before : List Reply
  pub split : rs ≡ before ++ got
  pub is : p ≡ pieces_in got
  pub tellable : list_all is_tellable (messages got) ≡ true
  pub long : p.len ≡ length (payloads (messages got))
  pub gives : (ms : List Content) → given nothing (messages got ++ ms) ≡ given (held p got) ms
  pub asked : AreAsked q before got

-- What a whole response is made of: the last replies, each asked for after those before.
pub record IsMadeOf (q : CoapRequest) (rs : List Reply) (w : Response) (ws : List Reply) : Type 0 where
  pub before : List Reply
  pub others : List Reply
  pub last : Reply
  pub split : rs ≡ before ++ ws
  pub ends : ws ≡ others ++ last ∷ []
  pub whole : whole_of q (messages ws) ≡ Some w
  pub asked : eqb q.method 1 ≡ true → AreAsked q before ws
  pub given : eqb q.method 1 ≡ false → (before ≡ []) × AreGiven q ws

abbrev pub CameTo : CoapRequest → List Reply → Progress → Type 0
CameTo q rs (Fetches k p got) = (eqb q.method 1 ≡ true) × SoFar q rs k p got × (progress q rs ≡ Fetches k p got)
CameTo q rs (Gives u got) = (eqb q.method 1 ≡ false) × GivenSoFar q rs u got × (progress q rs ≡ Gives u got)
CameTo q rs (Ends (Whole w ws)) = IsMadeOf q rs w ws
CameTo q rs (Ends (Renewed s r)) = ⊥
CameTo q rs (Ends how) = ⊤

none-split : (g h : List Reply) (r : Reply) → [] ≡ g ++ r ∷ h → ⊥
none-split [] h r e = cc
none-split (x ∷ g) h r e = cc

-- nothing fetched yet, or anew
none-yet : (q : CoapRequest) (rs : List Reply) (k : ℕ) → SoFar q rs k no_pieces []
none-yet q rs k = record {
  before = rs;
  split = sym (append-nil rs);
  is = refl;
  tellable = refl;
  long = refl;
  gives = λ ms. refl;
  asked = λ g h r e. absurd (none-split g h r e);
}

-- of a list with one more at its end, a part with one more is a part of the list, or all
pub split-push : (got g h : List Reply) (r x : Reply) → got ++ r ∷ [] ≡ g ++ x ∷ h → ((h' : List Reply) × (got ≡ g ++ x ∷ h')) ⊎ (got ≡ g)
split-push [] [] h r x e = inr refl
split-push [] (y ∷ []) h r x e = cc
split-push [] (y ∷ z ∷ g) h r x e = cc
split-push (s ∷ got) [] h r x e = inl (got, cc)
split-push (s ∷ got) (y ∷ g) h r x e = elim (split-push got g h r x (tail e)) [
  | inl w ↦ inl (w.0, let a = head e in let b = w.1 in cc)
  | inr w ↦ inr (let a = head e in cc)
]
  where
    head : s ∷ (got ++ r ∷ []) ≡ y ∷ (g ++ x ∷ h) → s ≡ y
    head f = cc

    tail : s ∷ (got ++ r ∷ []) ≡ y ∷ (g ++ x ∷ h) → got ++ r ∷ [] ≡ g ++ x ∷ h
    tail f = cc

-- one reply more was asked for after those before
asked-push : (q : CoapRequest) (rs : List Reply) (k : ℕ) (p : PiecesValue) (got : List Reply) (r : Reply) (s : SoFar q rs k p got)
    → progress q rs ≡ Fetches k p got → AreAsked q s.before (got ++ r ∷ [])
asked-push q rs k p got r s e g h x f = elim (split-push got g h r x f) [
  | inl w ↦ s.asked g w.0 x w.1
  | inr w ↦ subst (λ (g : List Reply). (j : ℕ) × (progress q (s.before ++ g) ≡ Fetches j (pieces_in g) g)) w
      (k, subst (λ (rs : List Reply). progress q rs ≡ Fetches k (pieces_in got) got) s.split (e ∙ ap (λ (v : PiecesValue). Fetches k v got) s.is))
]

-- one piece more, after which more follow
more-gives : (p : PiecesValue) (got : List Reply) (r : Reply) (ms : List Content) → p.len ≡ length (payloads (messages got))
    → (j : Judged) → judged p r.message ≡ j → (next : _) → j ≡ Ok (Next next)
    → given (held p got) (r.message ∷ ms) ≡ given (held (with_piece p r.message) (got ++ r ∷ [])) ms
more-gives p got r ms long j is next e = by (judged-same ∙ (is ∙ e))
  where
    d : DownloadValue
    d = held p got

    known : PiecesValue
    known = record { of = p.of; len = length (payloads (messages got)); szx = p.szx }

    judged-same : judged known r.message ≡ judged p r.message
    judged-same = ap (λ (n : ℕ). judged (record { of = p.of; len = n; szx = p.szx }) r.message) (sym long)

    bytes : payloads (messages got) ++ r.message.payload ≡ payloads (messages (got ++ r ∷ []))
    bytes = sym (ap payloads (messages-push got r) ∙ payloads-push (messages got) r.message)

    by : judged known r.message ≡ Ok (Next next)
        → given d (r.message ∷ ms) ≡ given (held (with_piece p r.message) (got ++ r ∷ [])) ms
    by f =
        ap (λ (v : Judged). given_by (taken_by (adds_by v (with_piece known r.message)) (payloads (messages got) ++ r.message.payload))
        (λ (e : DownloadValue). given e ms) ms) f
        ∙ ap (λ (b : List ℕ). given (record { of = (with_piece p r.message).of; bytes = b; szx = (with_piece p r.message).szx }) ms) bytes

-- the last piece gives the body
last-gives : (p : PiecesValue) (got : List Reply) (r : Reply) → p.len ≡ length (payloads (messages got))
    → judged p r.message ≡ Ok Last → is_some (given (held p got) (r.message ∷ [])) ≡ true
last-gives p got r long e =
    let known : PiecesValue = record { of = p.of; len = length (payloads (messages got)); szx = p.szx } in
    let same : judged known r.message ≡ Ok Last =
    ap (λ (n : ℕ). judged (record { of = p.of; len = n; szx = p.szx }) r.message) (sym long) ∙ e in
    ap (λ (v : Judged). is_some (given_by (taken_by (adds_by v (with_piece known r.message)) (payloads (messages got) ++ r.message.payload))
    (λ (e : DownloadValue). given e []) [])) same

long-push : (p : PiecesValue) (got : List Reply) (r : Reply) → p.len ≡ length (payloads (messages got))
    → (with_piece p r.message).len ≡ length (payloads (messages (got ++ r ∷ [])))
long-push p got r long =
    let all = ap (λ (b : List ℕ). length b) (ap payloads (messages-push got r) ∙ payloads-push (messages got) r.message) in
    let both = length-append (payloads (messages got)) r.message.payload in
    omega (arith, long, all, both)

got-more : (q : CoapRequest) (rs : List Reply) (k : ℕ) (p : PiecesValue) (got : List Reply) (r : Reply) (s : SoFar q rs k p got)
    → progress q rs ≡ Fetches k p got → is_tellable r.message ≡ true → (next : _) → judged p r.message ≡ Ok (Next next)
    → SoFar q (rs ++ r ∷ []) k (with_piece p r.message) (got ++ r ∷ [])
got-more q rs k p got r s e tells next is = record {
  before = s.before;
  split = ap (λ (v : List Reply). v ++ r ∷ []) s.split ∙ append_assoc s.before got (r ∷ []);
  is = ap (λ (v : PiecesValue). with_piece v r.message) s.is
      ∙ sym (ap (fold with_piece no_pieces) (messages-push got r) ∙ fold-push no_pieces (messages got) r.message);
  tellable = subst (λ (ms : List Content). list_all is_tellable ms ≡ true) (sym (messages-push got r)) (tellable-push (messages got) r.message s.tellable tells);
  long = long-push p got r s.long;
  gives = λ ms.
      ap (λ (v : List Content). given nothing (v ++ ms)) (messages-push got r)
      ∙ (ap (given nothing) (append_assoc (messages got) (r.message ∷ []) ms)
      ∙ (s.gives (r.message ∷ ms) ∙ more-gives p got r ms s.long (judged p r.message) refl next is));
  asked = asked-push q rs k p got r s e;
}

-- The pieces, with the last one, are a whole response.
fetched-is : (q : CoapRequest) (rs : List Reply) (k : ℕ) (p : PiecesValue) (r : Reply) (w : Response) (ws got : List Reply) (s : SoFar q rs k p got)
    → progress q rs ≡ Fetches k p got → eqb q.method 1 ≡ true → is_tellable r.message ≡ true → judged p r.message ≡ Ok Last
    → fetched_whole (got ++ r ∷ []) ≡ Whole w ws → IsMadeOf q (rs ++ r ∷ []) w ws
fetched-is q rs k p r w ws [] s e get tells is f = record {
  before = s.before;
  others = [];
  last = r;
  split = ap (λ (v : List Reply). v ++ r ∷ []) (s.split ∙ append-nil s.before) ∙ ap (λ (v : List Reply). s.before ++ v) (said.1);
  ends = sym said.1;
  whole = subst (λ (v : List Reply). whole_of q (messages v) ≡ Some w) said.1 (rw (get, tells, one) (ap (λ (v : Response). Some v) said.0));
  asked = λ g. subst (AreAsked q s.before) said.1 (asked-push q rs k p [] r s e);
  given = λ g. absurd (false≢true (sym g ∙ get));
}
  where
    said : (joined r.message [] ≡ w) × (r ∷ [] ≡ ws)
    said = (cc, cc)

    one : is_some (given nothing (r.message ∷ [])) ≡ true
    one = ap is_some (s.gives (r.message ∷ [])) ∙ last-gives p [] r s.long is
fetched-is q rs k p r w ws (x ∷ got) s e get tells is f = record {
  before = s.before;
  others = x ∷ got;
  last = r;
  split = ap (λ (v : List Reply). v ++ r ∷ []) s.split ∙ (append_assoc s.before (x ∷ got) (r ∷ []) ∙ ap (λ (v : List Reply). s.before ++ v) said.1);
  ends = sym said.1;
  whole = subst (λ (v : List Reply). whole_of q (messages v) ≡ Some w) said.1
      (rw (get, all, one) (ap (λ (v : Response). Some v) said.0));
  asked = λ g. subst (AreAsked q s.before) said.1 (asked-push q rs k p (x ∷ got) r s e);
  given = λ g. absurd (false≢true (sym g ∙ get));
}
  where
    said : (joined x.message (messages (got ++ r ∷ [])) ≡ w) × (x ∷ (got ++ r ∷ []) ≡ ws)
    said = (cc, cc)

    all : list_all is_tellable (messages (x ∷ (got ++ r ∷ []))) ≡ true
    all = subst (λ (ms : List Content). list_all is_tellable ms ≡ true) (sym (messages-push (x ∷ got) r)) (tellable-push (messages (x ∷ got)) r.message s.tellable tells)

    one : is_some (given nothing (messages (x ∷ (got ++ r ∷ [])))) ≡ true
    one = ap (λ (ms : List Content). is_some (given nothing ms)) (messages-push (x ∷ got) r)
        ∙ (ap is_some (s.gives (r.message ∷ [])) ∙ last-gives p (x ∷ got) r s.long is)

-- How an exchange has come that far.

anew-to : (q : CoapRequest) (rs : List Reply) (k : ℕ) → eqb q.method 1 ≡ true → progress q rs ≡ anew k → CameTo q rs (anew k)
anew-to q rs k get e = by (eqb k 3) refl
  where
    by : (b : Bool) → eqb k 3 ≡ b → CameTo q rs (cond b (Ends NotUnderstood) (Fetches (k + 1) no_pieces []))
    by true is = tt
    by false is = (get, none-yet q rs (k + 1), e ∙ rw (is) refl)

unrenewed : (got : List Reply) (s : Stored) (r : Reply) → fetched_whole got ≡ Renewed s r → ⊥
unrenewed [] s r e = cc
unrenewed (x ∷ xs) s r e = cc

fetched-to : (q : CoapRequest) (rs : List Reply) (k : ℕ) (p : PiecesValue) (got : List Reply) (r : Reply) (s : SoFar q rs k p got)
    → eqb q.method 1 ≡ true → progress q rs ≡ Fetches k p got → is_tellable r.message ≡ true → (j : Judged) → judged p r.message ≡ j
    → progress q (rs ++ r ∷ []) ≡ fetched_by j k (with_piece p r.message) (got ++ r ∷ [])
    → CameTo q (rs ++ r ∷ []) (fetched_by j k (with_piece p r.message) (got ++ r ∷ []))
fetched-to q rs k p got r s get e tells (Err F.Changed) is f = anew-to q (rs ++ r ∷ []) k get f
fetched-to q rs k p got r s get e tells (Err F.Size) is f = tt
fetched-to q rs k p got r s get e tells (Err F.Gap) is f = tt
fetched-to q rs k p got r s get e tells (Err F.TooLarge) is f = tt
fetched-to q rs k p got r s get e tells (Err F.Memory) is f = tt
fetched-to q rs k p got r s get e tells (Ok (Next next)) is f = (get, got-more q rs k p got r s e tells next is, f)
fetched-to q rs k p got r s get e tells (Ok Last) is f = by (fetched_whole (got ++ r ∷ [])) refl
  where
    by : (how : Ending) → fetched_whole (got ++ r ∷ []) ≡ how → CameTo q (rs ++ r ∷ []) (Ends how)
    by (Whole w ws) g = fetched-is q rs k p r w ws got s e get tells is g
    by (Renewed old u) g = unrenewed (got ++ r ∷ []) old u g
    by NotUnderstood g = tt
    by Reset g = tt
    by TimedOut g = tt
    by Turned g = tt

-- the replies to a write
whole-write : (q : CoapRequest) (rs : List Reply) (r : Reply) → eqb q.method 1 ≡ false
    → whole_of q (messages (rs ++ r ∷ [])) ≡ whole_given (begun (length q.body) 6) (messages (rs ++ r ∷ []))
whole-write q [] r write = rw (write) refl
whole-write q (x ∷ rs) r write = rw (write) refl

given-push : (q : CoapRequest) (rs : List Reply) (u : UploadValue) (got : List Reply) (r : Reply) → GivenSoFar q rs u got → progress q rs ≡ Gives u got
    → AreGiven q (got ++ r ∷ [])
given-push q rs u got r s e g h x f = elim (split-push got g h r x f) [
  | inl w ↦ s.asked g w.0 x w.1
  | inr w ↦ subst (λ (g : List Reply). progress q g ≡ Gives (upload_in q g) g) w
      (subst (λ (rs : List Reply). progress q rs ≡ Gives (upload_in q got) got) s.all (e ∙ ap (λ (v : UploadValue). Gives v got) s.is))
]

given-with : (u : UploadValue) (m : Content) (ms : List Content) (how : Answered) → is_forwardable m.options ≡ true → answer_to u m ≡ how
    → whole_given u (m ∷ ms) ≡ whole_by how m ms (whole_given (next_of u m) ms)
given-with u m ms how passes is = rw (passes, is) refl

-- one piece more was taken
given-more : (q : CoapRequest) (rs : List Reply) (u : UploadValue) (got : List Reply) (r : Reply) → GivenSoFar q rs u got → progress q rs ≡ Gives u got
    → is_forwardable r.message.options ≡ true → answer_to u r.message ≡ A.Next
    → GivenSoFar q (rs ++ r ∷ []) (next_of u r.message) (got ++ r ∷ [])
given-more q rs u got r s e passes is = record {
  all = ap (λ (v : List Reply). v ++ r ∷ []) s.all;
  is = ap (λ (v : UploadValue). next_of v r.message) s.is
      ∙ sym (ap (fold next_of (begun (length q.body) 6)) (messages-push got r) ∙ fold-append next_of (begun (length q.body) 6) (messages got) (r.message ∷ []));
  gives = λ ms.
      ap (λ (v : List Content). whole_given (begun (length q.body) 6) (v ++ ms)) (messages-push got r)
      ∙ (ap (whole_given (begun (length q.body) 6)) (append_assoc (messages got) (r.message ∷ []) ms)
      ∙ (s.gives (r.message ∷ ms) ∙ given-with u r.message ms A.Next passes is));
  asked = given-push q rs u got r s e;
}

given-whole : (q : CoapRequest) (rs : List Reply) (u : UploadValue) (got : List Reply) (r : Reply) → GivenSoFar q rs u got → progress q rs ≡ Gives u got
    → eqb q.method 1 ≡ false → is_forwardable r.message.options ≡ true → answer_to u r.message ≡ A.Last
    → IsMadeOf q (rs ++ r ∷ []) (response_of r.message) (got ++ r ∷ [])
given-whole q rs u got r s e write passes is = record {
  before = [];
  others = got;
  last = r;
  split = ap (λ (v : List Reply). v ++ r ∷ []) s.all;
  ends = refl;
  whole = whole-write q got r write
      ∙ (ap (whole_given (begun (length q.body) 6)) (messages-push got r)
      ∙ (s.gives (r.message ∷ []) ∙ given-with u r.message [] A.Last passes is));
  asked = λ g. absurd (false≢true (sym write ∙ g));
  given = λ g. (refl, given-push q rs u got r s e);
}

answered-to : (q : CoapRequest) (rs : List Reply) (u : UploadValue) (got : List Reply) (r : Reply) → GivenSoFar q rs u got → progress q rs ≡ Gives u got
    → eqb q.method 1 ≡ false → is_forwardable r.message.options ≡ true → (how : Answered) → answer_to u r.message ≡ how
    → progress q (rs ++ r ∷ []) ≡ answered_so how u got r → CameTo q (rs ++ r ∷ []) (answered_so how u got r)
answered-to q rs u got r s e write passes A.Next is f = (write, given-more q rs u got r s e passes is, f)
answered-to q rs u got r s e write passes A.Last is f = given-whole q rs u got r s e write passes is
answered-to q rs u got r s e write passes A.Wrong is f = tt

-- Once it has ended it gets no reply that counts.
step-to : (q : CoapRequest) (rs : List Reply) (r : Reply) (u : Progress) → progress q rs ≡ u → ((how : Ending) → u ≡ Ends how → ⊥) → CameTo q rs u
    → progress q (rs ++ r ∷ []) ≡ step u r → CameTo q (rs ++ r ∷ []) (step u r)
step-to q rs r (Ends how) e going h f = absurd (going how refl)
step-to q rs r (Gives u got) e going h f = by (is_forwardable r.message.options) refl f
  where
    by : (b : Bool) → is_forwardable r.message.options ≡ b
        → progress q (rs ++ r ∷ []) ≡ cond b (answered_so (answer_to u r.message) u got r) (Ends NotUnderstood)
        → CameTo q (rs ++ r ∷ []) (cond b (answered_so (answer_to u r.message) u got r) (Ends NotUnderstood))
    by true is g = answered-to q rs u got r h.1 e h.0 is (answer_to u r.message) refl g
    by false is g = tt
step-to q rs r (Fetches k p got) e going h f = by (is_tellable r.message) refl f
  where
    by : (b : Bool) → is_tellable r.message ≡ b
        → progress q (rs ++ r ∷ []) ≡ cond b (fetched_by (judged p r.message) k (with_piece p r.message) (got ++ r ∷ [])) (Ends NotUnderstood)
        → CameTo q (rs ++ r ∷ []) (cond b (fetched_by (judged p r.message) k (with_piece p r.message) (got ++ r ∷ [])) (Ends NotUnderstood))
    by true is g = fetched-to q rs k p got r h.1 h.0 e is (judged p r.message) refl g
    by false is g = tt

pub came-to : (q : CoapRequest) (rs : List Reply) (r : Reply) → ((how : Ending) → progress q rs ≡ Ends how → ⊥) → CameTo q rs (progress q rs)
    → CameTo q (rs ++ r ∷ []) (progress q (rs ++ r ∷ []))
came-to q rs r going h =
    subst (CameTo q (rs ++ r ∷ [])) (sym (progress-push q rs r)) (step-to q rs r (progress q rs) refl going h (progress-push q rs r))

-- No reply by itself renews anything.
pub step-unrenewed : (u : Progress) (r : Reply) (s : Stored) (x : Reply) → ((how : Ending) → u ≡ Ends how → ⊥) → step u r ≡ Ends (Renewed s x) → ⊥
step-unrenewed (Ends how) r s x going e = going how refl
step-unrenewed (Gives u got) r s x going e = by (is_forwardable r.message.options) (answer_to u r.message) e
  where
    by : (b : Bool) (a : Answered) → cond b (answered_so a u got r) (Ends NotUnderstood) ≡ Ends (Renewed s x) → ⊥
    by false a e = cc
    by true A.Next e = cc
    by true A.Last e = cc
    by true A.Wrong e = cc
step-unrenewed (Fetches k p got) r s x going e = by (is_tellable r.message) (judged p r.message) e
  where
    none : (got : List Reply) → Ends (fetched_whole got) ≡ Ends (Renewed s x) → ⊥
    none [] e = cc
    none (y ∷ ys) e = cc

    again : (b : Bool) → cond b (Ends NotUnderstood) (Fetches (k + 1) no_pieces []) ≡ Ends (Renewed s x) → ⊥
    again true e = cc
    again false e = cc

    by : (b : Bool) (j : Judged) → cond b (fetched_by j k (with_piece p r.message) (got ++ r ∷ [])) (Ends NotUnderstood) ≡ Ends (Renewed s x) → ⊥
    by false j e = cc
    by true (Err F.Changed) e = again (eqb k 3) e
    by true (Err F.Size) e = cc
    by true (Err F.Gap) e = cc
    by true (Err F.TooLarge) e = cc
    by true (Err F.Memory) e = cc
    by true (Ok (Next next)) e = cc
    by true (Ok Last) e = none (got ++ r ∷ []) e

pub came-first : (q : CoapRequest) → CameTo q [] (progress q [])
came-first q = by (eqb q.method 1) refl
  where
    by : (b : Bool) → eqb q.method 1 ≡ b → CameTo q [] (cond b (Fetches 0 no_pieces []) (Gives (begun (length q.body) 6) []))
    by true is = (is, none-yet q [] 0, rw (is) refl)
    by false is = (is, record { all = refl; is = refl; gives = λ ms. refl; asked = λ g h r e. absurd (none-split g h r e) }, rw (is) refl)

-- Its first message is that of the request, or of the first block of its body.
pub asks-first : (f : Manner) (q : CoapRequest) (mid : ℕ) (token : List ℕ) → (eqb q.method 1 ≡ false → f ≡ Plainly)
    → next_message f q (progress q []) mid token ≡ Some (opening_message f q mid token)
asks-first f q mid token gives = by (eqb q.method 1) refl
  where
    plain : (q : CoapRequest) (block : Option Block) (mid : ℕ) (token : List ℕ) → asking Plainly q block mid token ≡ block_message q block mid token
    plain q None mid token = refl
    plain q (Some b) mid token = refl

    by : (b : Bool) → eqb q.method 1 ≡ b
        → next_message f q (cond b (Fetches 0 no_pieces []) (Gives (begun (length q.body) 6) [])) mid token ≡ Some (opening_message f q mid token)
    by true is = rw (is) refl
    by false is = rw (is, gives is) (ap (λ (m : Content). Some m) (sym (plain q (next_block (begun (length q.body) 6)) mid token)))
