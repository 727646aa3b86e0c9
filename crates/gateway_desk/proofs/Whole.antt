-- What messages are together, as all replies to a request.
use Rattle.std.proofs.Common.{◌≡◌, ◌↔◌, ◌⊎◌, ℕ, ◌+◌, ◌<◌, ◌≤◌, Bool, true, false, cond, eqb, List, [], ◌∷◌, ◌++◌, length, map, drop, get_or, Option, Some, None, Ok, inl, inr, refl, sym, ap, subst, ◌∙◌, arith, length-append}
use Rattle.std.specs.Prelude.{is_some}
use Rattle.std.specs.List.{list_all}
use Rattle.std.proofs.lemmas.Bool.Decides.{eqb_tells}
use Rattle.std.proofs.lemmas.List.{drop_all, drop_more, length-drop, length-map, map_push}
use Rattle.coap_codec.specs.Spelling.{Content, content}
use Rattle.coap_codec.specs.declared.block.Block.{Block}
use Rattle.coap_codec.specs.declared.message.Message.{Message}
use Rattle.blockwise.specs.Downloads.{PiecesValue, Judged, judged, with_piece, DownloadValue, nothing, given, given_by, taken_by, adds_by}
use Rattle.blockwise.specs.declared.pieces.Step.{Step}
use Rattle.blockwise.specs.declared.pieces.Step.TheVariants.{Next, Last}
use Rattle.ask_model.specs.Requests.{CoapRequest}
use Rattle.coap_codec.specs.Recognition.{is_forwardable}
use Rattle.blockwise.specs.Uploads.{UploadValue, begun, answer_to, next_of}
use Rattle.blockwise.specs.declared.upload.Answered.{Answered}
use Rattle.blockwise.specs.declared.upload.Answered.TheVariants as A
use Rattle.history_laws.specs.Responses.{Response, response_of, is_tellable, whole_by as whole_answers, whole_given, whole_of}
use Rattle.reply_reading.specs.Findings.{Tells, joined_all}
use Rattle.gateway_desk.specs.Shown.{fetched_in, whole_by}

other : (a b : ℕ) → b < a → eqb a b ≡ false
other a b lt = elim (eqb_tells a b) [ inl w ↦ (let same = w.1 in absurd (omega (arith, lt, same))) | inr w ↦ w.0 ]

some-same : {X : Type 0} (x y : X) → Some x ≡ Some y → x ≡ y
some-same x y e = cc

tells-same : (v w : Response) → Tells v ≡ Tells w → v ≡ w
tells-same v w e = cc

-- The pieces before these were taken, with these bytes, and the rest decides.
pub record Follows (p : PiecesValue) (ms rest : List Content) : Type 0 where
  pub bytes : List ℕ
  pub long : p.len ≡ length bytes
  pub gives : is_some (given nothing ms)
      ≡ is_some (given (record { of = p.of; bytes = bytes; szx = p.szx }) rest)

-- what one piece more makes of it, by how that is judged
gives-by : (p : PiecesValue) (bytes : List ℕ) (m : Content) (rest : List Content) (j : Judged) → p.len ≡ length bytes → judged p m ≡ j
    → given (record { of = p.of; bytes = bytes; szx = p.szx }) (m ∷ rest)
    ≡ given_by (taken_by (adds_by j (with_piece p m)) (bytes ++ m.payload)) (λ (e : DownloadValue). given e rest) rest
gives-by p bytes m rest j long is =
    let at : ℕ → PiecesValue = λ n. record { of = p.of; len = n; szx = p.szx } in
    ap (λ (n : ℕ). given_by (taken_by (adds_by (judged (at n) m) (with_piece (at n) m)) (bytes ++ m.payload))
    (λ (e : DownloadValue). given e rest) rest) (sym long)
    ∙ ap (λ (v : Judged). given_by (taken_by (adds_by v (with_piece p m)) (bytes ++ m.payload))
    (λ (e : DownloadValue). given e rest) rest) is

-- it is one of them, and more follow
pub follows-on : (p : PiecesValue) (ms : List Content) (m : Content) (rest : List Content) (block : Block)
    → judged p m ≡ Ok (Next block) → Follows p ms (m ∷ rest) → Follows (with_piece p m) ms rest
follows-on p ms m rest block is h = record {
  bytes = h.bytes ++ m.payload;
  long = let len = h.long in let more = length-append h.bytes m.payload in omega (arith, len, more);
  gives = h.gives ∙ ap (λ (o : Option (List ℕ)). is_some o) (gives-by p h.bytes m rest (Ok (Next block)) h.long is);
}

-- it is the last one
pub follows-last : (p : PiecesValue) (ms : List Content) (m : Content) (rest : List Content)
    → judged p m ≡ Ok Last → Follows p ms (m ∷ rest) → is_some (given nothing ms) ≡ eqb (length rest) 0
follows-last p ms m rest is h =
    h.gives ∙ ap (λ (o : Option (List ℕ)). is_some o) (gives-by p h.bytes m rest (Ok Last) h.long is) ∙ by rest
  where
    by : (rest : List Content)
        → is_some (given_by (taken_by (adds_by (Ok Last) (with_piece p m)) (h.bytes ++ m.payload)) (λ (e : DownloadValue). given e rest) rest)
        ≡ eqb (length rest) 0
    by [] = refl
    by (n ∷ rest) = sym (other (length (n ∷ rest)) 0 (omega arith))

-- So it is of messages that are gone through one by one.

next-one : (ms : List Message) (i : ℕ) (m : Message) → i < length ms → m ≡ get_or ms i m
    → map content (drop i ms) ≡ content m ∷ map content (drop (i + 1) ms)
next-one ms i m lt at =
    ap (map content) (drop_more ms i m lt) ∙ ap (λ (x : Message). content x ∷ map content (drop (i + 1) ms)) (sym at)

judged-is : (s t : Step) (j : Judged) → Ok s ≡ j → s ≡ t → j ≡ Ok t
judged-is s t j e f = sym e ∙ ap (λ (x : Step). okay x) f
  where
    okay : Step → Judged
    okay x = Ok x

-- from one place to the next
abbrev pub At : PiecesValue → List Message → ℕ → Type 0
At p ms i = Follows p (map content ms) (map content (drop i ms))

pub goes-on : (p : PiecesValue) (ms : List Message) (i : ℕ) (m : Message) (s : Step) (block : Block) → i < length ms → m ≡ get_or ms i m
    → Ok s ≡ judged p (content m) → s ≡ Next block → At p ms i → At (with_piece p (content m)) ms (i + 1)
goes-on p ms i m s block lt at is next h =
    follows-on p (map content ms) (content m) (map content (drop (i + 1) ms)) block (judged-is s (Next block) (judged p (content m)) is next)
    (subst (Follows p (map content ms)) (next-one ms i m lt at) h)

pub ends-with : (p : PiecesValue) (ms : List Message) (i : ℕ) (m : Message) (s : Step) → i < length ms → m ≡ get_or ms i m
    → Ok s ≡ judged p (content m) → s ≡ Last → At p ms i → eqb (i + 1) (length ms) ≡ is_some (given nothing (map content ms))
ends-with p ms i m s lt at is last h =
    sym (follows-last p (map content ms) (content m) (map content (drop (i + 1) ms)) (judged-is s Last (judged p (content m)) is last)
    (subst (Follows p (map content ms)) (next-one ms i m lt at) h) ∙ left)
  where
    long : length (map content (drop (i + 1) ms)) + (i + 1) ≡ length ms
    long =
        let a = length-map (drop (i + 1) ms) content in let b = length-drop (i + 1) ms in omega (arith, a, b, lt)

    left : eqb (length (map content (drop (i + 1) ms))) 0 ≡ eqb (i + 1) (length ms)
    left = elim (eqb_tells (i + 1) (length ms)) [
      | inl w ↦ (let same = w.1 in (let zero : length (map content (drop (i + 1) ms)) ≡ 0 = omega (arith, same, long) in rw (zero) (sym w.0)))
      | inr w ↦ other (length (map content (drop (i + 1) ms))) 0 (let no = w.1 in omega (arith, no, long)) ∙ sym w.0
    ]

-- All pieces are what they join to.
pub fetched-as : (ms : List Content) (last : Content) → list_all is_tellable (ms ++ last ∷ []) ≡ true
    → is_some (given nothing (ms ++ last ∷ [])) ≡ true → fetched_in (ms ++ last ∷ []) ≡ Some (joined_all ms last)
fetched-as [] last tells gives = rw (tells, gives) refl
fetched-as (m ∷ ms) last tells gives = rw (tells, gives) refl

pub fetched-told : (ms : List Content) (last : Content) (w : Response) → list_all is_tellable (ms ++ last ∷ []) ≡ true
    → is_some (given nothing (ms ++ last ∷ [])) ≡ true
    → (Tells (joined_all ms last) ≡ Tells w) ↔ (fetched_in (ms ++ last ∷ []) ≡ Some w)
fetched-told ms last w tells gives =
    let is = fetched-as ms last tells gives in (
      (λ e. is ∙ ap (λ (x : Response). Some x) (tells-same (joined_all ms last) w e)),
      (λ e. ap (λ (x : Response). Tells x) (some-same (joined_all ms last) w (sym is ∙ e))),
    )

pub fetched-so : (all earlier : List Message) (last : Message) (w : Response) → all ≡ earlier ++ last ∷ []
    → list_all is_tellable (map content all) ≡ true → is_some (given nothing (map content all)) ≡ true
    → (Tells (joined_all (map content earlier) (content last)) ≡ Tells w) ↔ (fetched_in (map content all) ≡ Some w)
fetched-so all earlier last w e tells gives =
    let ms : List Content = map content earlier ++ content last ∷ [] in
    let same : map content all ≡ ms = ap (map content) e ∙ map_push content earlier last in
    subst (λ (ns : List Content). (Tells (joined_all (map content earlier) (content last)) ≡ Tells w) ↔ (fetched_in ns ≡ Some w)) (sym same)
    (fetched-told (map content earlier) (content last) w (sym (ap (list_all is_tellable) same) ∙ tells)
    (sym (ap (λ (ns : List Content). is_some (given nothing ns)) same) ∙ gives))

-- So are the answers to the pieces of a body.

-- Before these the pieces were taken, and the rest decides.
abbrev pub Answers : ℕ → UploadValue → List Content → List Content → Type 0
Answers len u ms rest = is_some (whole_given (begun len 6) ms) ≡ is_some (whole_given u rest)

answer-so : (u : UploadValue) (m : Content) (rest : List Content) (how : Answered) → is_forwardable m.options ≡ true → answer_to u m ≡ how
    → whole_given u (m ∷ rest) ≡ whole_answers how m rest (whole_given (next_of u m) rest)
answer-so u m rest how passes is = rw (passes, is) refl

last-alone : (m : Content) (rest : List Content) (later : Option Response) → is_some (whole_answers A.Last m rest later) ≡ eqb (length rest) 0
last-alone m [] later = refl
last-alone m (n ∷ rest) later = sym (other (length (n ∷ rest)) 0 (omega arith))

abbrev pub AnswersAt : ℕ → UploadValue → List Message → ℕ → Type 0
AnswersAt len u ms i = Answers len u (map content ms) (map content (drop i ms))

pub answers-on : (len : ℕ) (u : UploadValue) (ms : List Message) (i : ℕ) (m : Message) → i < length ms → m ≡ get_or ms i m
    → is_forwardable (content m).options ≡ true → answer_to u (content m) ≡ A.Next → AnswersAt len u ms i → AnswersAt len (next_of u (content m)) ms (i + 1)
answers-on len u ms i m lt at passes is h =
    h ∙ (ap (λ (rest : List Content). is_some (whole_given u rest)) (next-one ms i m lt at)
    ∙ ap (λ (o : Option Response). is_some o) (answer-so u (content m) (map content (drop (i + 1) ms)) A.Next passes is))

left-none : (ms : List Message) (i : ℕ) → i < length ms → eqb (length (map content (drop (i + 1) ms))) 0 ≡ eqb (i + 1) (length ms)
left-none ms i lt = elim (eqb_tells (i + 1) (length ms)) [
  | inl w ↦ (let same = w.1 in (let zero : length (map content (drop (i + 1) ms)) ≡ 0 = omega (arith, same, long) in rw (zero) (sym w.0)))
  | inr w ↦ other (length (map content (drop (i + 1) ms))) 0 (let no = w.1 in omega (arith, no, long)) ∙ sym w.0
]
  where
    long : length (map content (drop (i + 1) ms)) + (i + 1) ≡ length ms
    long =
        let a = length-map (drop (i + 1) ms) content in let b = length-drop (i + 1) ms in omega (arith, a, b, lt)

pub answers-last : (len : ℕ) (u : UploadValue) (ms : List Message) (i : ℕ) (m : Message) → i < length ms → m ≡ get_or ms i m
    → is_forwardable (content m).options ≡ true → answer_to u (content m) ≡ A.Last → AnswersAt len u ms i
    → eqb (i + 1) (length ms) ≡ is_some (whole_given (begun len 6) (map content ms))
answers-last len u ms i m lt at passes is h =
    sym (h ∙ (ap (λ (rest : List Content). is_some (whole_given u rest)) (next-one ms i m lt at)
    ∙ (ap (λ (o : Option Response). is_some o) (answer-so u (content m) (map content (drop (i + 1) ms)) A.Last passes is)
    ∙ (last-alone (content m) (map content (drop (i + 1) ms)) _ ∙ left-none ms i lt))))

pub answers-wrong : (len : ℕ) (u : UploadValue) (ms : List Message) (i : ℕ) (m : Message) → i < length ms → m ≡ get_or ms i m
    → (is_forwardable (content m).options ≡ false) ⊎ (answer_to u (content m) ≡ A.Wrong) → AnswersAt len u ms i
    → false ≡ is_some (whole_given (begun len 6) (map content ms))
answers-wrong len u ms i m lt at how h =
    sym (h ∙ (ap (λ (rest : List Content). is_some (whole_given u rest)) (next-one ms i m lt at) ∙ by (is_forwardable (content m).options) refl how))
  where
    rest : List Content
    rest = map content (drop (i + 1) ms)

    by : (b : Bool) → is_forwardable (content m).options ≡ b → (is_forwardable (content m).options ≡ false) ⊎ (answer_to u (content m) ≡ A.Wrong)
        → is_some (cond b (whole_answers (answer_to u (content m)) (content m) rest (whole_given (next_of u (content m)) rest)) None) ≡ false
    by false is w = refl
    by true is (inl w) = absurd (true-not (sym is ∙ w))
      where
        true-not : true ≡ false → ⊥
        true-not e = cc
    by true is (inr w) = rw (w) refl

pub answers-none : (len : ℕ) (u : UploadValue) (ms : List Message) (i : ℕ) → length ms ≤ i → AnswersAt len u ms i
    → false ≡ is_some (whole_given (begun len 6) (map content ms))
answers-none len u ms i le h =
    sym (h ∙ ap (λ (rest : List Message). is_some (whole_given u (map content rest))) (drop_all i ms le))

-- The last is the response.
given-last : (u : UploadValue) (ms : List Content) (last : Content) → is_some (whole_given u (ms ++ last ∷ [])) ≡ true
    → whole_given u (ms ++ last ∷ []) ≡ Some (response_of last)
given-last u [] last e = by (is_forwardable last.options) (answer_to u last) e
  where
    by : (b : Bool) (how : Answered) → is_some (cond b (whole_answers how last [] None) None) ≡ true → cond b (whole_answers how last [] None) None ≡ Some (response_of last)
    by true A.Next f = absurd cc
    by true A.Last f = refl
    by true A.Wrong f = absurd cc
    by false how f = absurd cc
given-last u (m ∷ ms) last e =
    by (is_forwardable m.options) (answer_to u m) (ms ++ last ∷ []) (longer ms) (given-last (next_of u m) ms last) e
  where
    longer : (ms : List Content) → length (ms ++ last ∷ []) ≡ 0 → ⊥
    longer [] f = omega (arith, f)
    longer (n ∷ ms) f = omega (arith, f)

    later : Option Response
    later = whole_given (next_of u m) (ms ++ last ∷ [])

    by : (b : Bool) (how : Answered) (rest : List Content) → (length rest ≡ 0 → ⊥)
        → (is_some later ≡ true → later ≡ Some (response_of last))
        → is_some (cond b (whole_answers how m rest later) None) ≡ true
        → cond b (whole_answers how m rest later) None ≡ Some (response_of last)
    by true A.Next rest some next f = next f
    by true A.Last [] some next f = absurd (some refl)
    by true A.Last (n ∷ rest) some next f = absurd cc
    by true A.Wrong rest some next f = absurd cc
    by false how rest some next f = absurd cc

pub answered-so : (u : UploadValue) (all earlier : List Message) (last : Message) (w : Response) → all ≡ earlier ++ last ∷ []
    → is_some (whole_given u (map content all)) ≡ true
    → (Tells (response_of (content last)) ≡ Tells w) ↔ (whole_given u (map content all) ≡ Some w)
answered-so u all earlier last w e gives =
    let ms : List Content = map content earlier ++ content last ∷ [] in
    let same : map content all ≡ ms = ap (map content) e ∙ map_push content earlier last in
    let is : whole_given u (map content all) ≡ Some (response_of (content last)) =
    ap (whole_given u) same ∙ given-last u (map content earlier) (content last) (sym (ap (λ (ns : List Content). is_some (whole_given u ns)) same) ∙ gives) in (
      (λ f. is ∙ ap (λ (x : Response). Some x) (tells-same (response_of (content last)) w f)),
      (λ f. ap (λ (x : Response). Tells x) (some-same (response_of (content last)) w (sym is ∙ f))),
    )

-- the same as by the request
pub whole-by : (q : CoapRequest) (ms : List Content) → whole_of q ms ≡ whole_by q.method (length q.body) ms
whole-by q [] = by (eqb q.method 1)
  where
    none : Option Response
    none = None

    by : (b : Bool) → none ≡ cond b (fetched_in []) (whole_given (begun (length q.body) 6) [])
    by true = refl
    by false = refl
whole-by q (m ∷ ms) = refl
