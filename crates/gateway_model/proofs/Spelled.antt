-- The messages that entries spell are one list: what an answer rests on is what it was given for.
use Rattle.std.proofs.Common.{◌≡◌, ℕ, Bool, true, false, not, cond, eqb, List, [], ◌∷◌, ◌++◌, length, Option, Some, None, refl, sym, ap, subst, ◌∙◌, ◌⊎◌, inl, inr, ◌&&◌}
use Rattle.std.specs.List.{list_all}
use Rattle.std.proofs.lemmas.Bool.{and_parts, false≢true}
use Rattle.coap_codec.specs.declared.block.Block.{Block}
use Rattle.coap_codec.specs.Recognition.{class_of, is_final, is_forwardable}
use Rattle.coap_codec.specs.Spelling.{Content, Spells}
use Rattle.coap_codec.proofs.Unique.{spells_one}
use Rattle.uri_map.specs.declared.peer.Peer.{Peer}
use Rattle.ask_model.specs.Requests.{CoapRequest, Requests, request_message}
use Rattle.ask_model.specs.Views.{Ask}
use Rattle.journal_book.specs.Entries.{Live, Kept, Ground, Done, Heard, done_of, Deed, Asks, Hears, Carries, Written}
use Rattle.blockwise.specs.Uploads.{UploadValue, begun as begun_as, answer_to, if_final, is_last, next_num, next_of}
use Rattle.blockwise.specs.Reading.{answers_piece}
use Rattle.blockwise.specs.declared.upload.Answered.{Answered}
use Rattle.blockwise.specs.declared.upload.Answered.TheVariants.{Next, Last, Wrong}
use Rattle.history_laws.specs.Responses.{Response, is_tellable, last_of, whole_by, whole_fetched, whole_given, whole_of}
use Rattle.history_laws.specs.Progress.{Point, first_point, block_for, point_after}
use Rattle.history_laws.proofs.CallerLemmas.{eqb-same, none-some, some-is}
use Rattle.history_claims.specs.Headline.{IsHeardFirst, IsHeardFor, IsNotified, AreHeardFor, AreHeardOn, BeginsAt}
use Rattle.history_claims.specs.Carried.{IsCarriedFor, AreCarriedFor, IsCarriedFirst}
use Rattle.history_claims.specs.Stored.{WasHeardHere, WasCarried}
use Rattle.history_claims.proofs.CallerLemmas.{tellable-not, whole-tells}
use Rattle.exchange_core.specs.Values.{written}
use Rattle.exchange_core.specs.Answering.{HeardAs, AreHeard, CountsFrom, CountsFromReplies, last_in}

-- entries at a place are one

pub ask-same : (c d : ℕ) (a b : Ask) → Asks c a ≡ Asks d b → a ≡ b
ask-same c d a b e = cc

pub asks-same : (t s c d : ℕ) (a b : Ask) → Some (written t (Asks c a)) ≡ Some (written s (Asks d b)) → a ≡ b
asks-same t s c d a b e =
    ask-same c d a b (ap (λ (w : Written). w.deed) (some-is (written t (Asks c a)) (written s (Asks d b)) e))

pub entry-says : (t s : ℕ) (d e : Deed) (x y : Done) → Some (written t d) ≡ Some (written s e) → done_of d ≡ Some x → done_of e ≡ Some y → (t ≡ s) × (x ≡ y)
entry-says t s d e x y same a b =
    let one = some-is (written t d) (written s e) same in
    (ap (λ (w : Written). w.moment) one, some-is x y (sym a ∙ (ap (λ (w : Written). done_of w.deed) one ∙ b)))

pub texts-same : (p r : Peer) (a b : List ℕ) → Heard p a ≡ Heard r b → a ≡ b
texts-same p r a b e = cc

-- so is the message that they spell
pub text-same : (t s : ℕ) (p : Peer) (d : Deed) (a : List ℕ) (m n : Content) → Spells m a → done_of d ≡ Some (Heard p a)
    → (r : Peer) (e : Deed) (b : List ℕ) → Some (written t d) ≡ Some (written s e) → done_of e ≡ Some (Heard r b) → Spells n b → m ≡ n
text-same t s p d a m n spelled says r e b same said other =
    let text = texts-same p r a b (entry-says t s d e (Heard p a) (Heard r b) same says said).1 in
    spells_one m n b (subst (Spells m) text spelled) other

pub request-same : (q r : CoapRequest) → Requests q ≡ Requests r → q ≡ r
request-same q r e = cc

-- the messages that entries spell are one list

pub message-same : (h : List Written) (k j t : ℕ) (q : CoapRequest) (block : Option Block) (m n : Content) → IsHeardFor h k q block j m
    → HeardAs h j t n → m ≡ n
message-same h k j t q block m n a b =
    let heard = a.response.heard in
    text-same a.response.moment t q.peer (Hears q.peer heard.bytes) heard.bytes m n heard.spelled refl b.peer b.deed b.bytes (sym heard.stands ∙ b.stands) b.says b.spelled

pub messages-same : (h : List Written) (k : ℕ) (q : CoapRequest) (point : Point) (js : List ℕ) (ms ns : List Content)
    → AreHeardFor h k q point js ms → AreHeard h js ns → ms ≡ ns
messages-same h k q point [] [] [] a b = refl
messages-same h k q point [] [] (n ∷ ns) a b = absurd b
messages-same h k q point [] (m ∷ ms) ns a b = absurd a
messages-same h k q point (j ∷ js) [] ns a b = absurd a
messages-same h k q point (j ∷ js) (m ∷ ms) [] a b = absurd b
messages-same h k q point (j ∷ js) (m ∷ ms) (n ∷ ns) a b =
    ap (λ (x : Content). x ∷ ms) (message-same h k j b.0.0 q (block_for point) m n a.0 b.0.1)
    ∙ ap (λ (xs : List Content). n ∷ xs) (messages-same h j q (point_after point m) js ms ns a.1 b.1)

pub carried-same : (h : List Written) (o j t : ℕ) (q : CoapRequest) (m n : Content) → IsCarriedFor h o q j m → HeardAs h j t n → m ≡ n
carried-same h o j t q m n a b =
    text-same a.heard_at t q.peer (Carries a.heard_as Ground (Heard q.peer a.bytes)) a.bytes m n a.spelled refl b.peer b.deed b.bytes (sym a.heard ∙ b.stands) b.says b.spelled

pub messages-carried : (h : List Written) (o : ℕ) (q : CoapRequest) (js : List ℕ) (ms ns : List Content) → AreCarriedFor h o q js ms → AreHeard h js ns → ms ≡ ns
messages-carried h o q [] [] [] a b = refl
messages-carried h o q [] [] (n ∷ ns) a b = absurd b
messages-carried h o q [] (m ∷ ms) ns a b = absurd a
messages-carried h o q (j ∷ js) [] ns a b = absurd a
messages-carried h o q (j ∷ js) (m ∷ ms) [] a b = absurd b
messages-carried h o q (j ∷ js) (m ∷ ms) (n ∷ ns) a b =
    ap (λ (x : Content). x ∷ ms) (carried-same h o j b.0.0 q m n a.0 b.0.1)
    ∙ ap (λ (xs : List Content). n ∷ xs) (messages-carried h o q js ms ns a.1 b.1)

notified-same : (h : List Written) (o j t : ℕ) (q : CoapRequest) (m n : Content) → IsNotified h o q j m → HeardAs h j t n → m ≡ n
notified-same h o j t q m n a b =
    let heard = a.response.heard in
    text-same a.response.moment t q.peer (Hears q.peer heard.bytes) heard.bytes m n heard.spelled refl b.peer b.deed b.bytes (sym heard.stands ∙ b.stands) b.says b.spelled

-- of which the first may be a notification
pub messages-on : (h : List Written) (o : ℕ) (q : CoapRequest) (js : List ℕ) (ms ns : List Content) → AreHeardOn h o q js ms → AreHeard h js ns → ms ≡ ns
messages-on h o q [] ms ns a b = absurd a
messages-on h o q (j ∷ js) [] ns a b = absurd a
messages-on h o q (j ∷ js) (m ∷ ms) [] a b = absurd b
messages-on h o q (j ∷ js) (m ∷ ms) (n ∷ ns) a b =
    ap (λ (x : Content). x ∷ ms) (notified-same h o j b.0.0 a.0.0 m n a.0.2 b.0.1)
    ∙ ap (λ (xs : List Content). n ∷ xs) (messages-same h j q (point_after (first_point q) m) js ms ns a.1 b.1)

pub messages-kept : (h : List Written) (k : ℕ) (q : CoapRequest) (js : List ℕ) (ms ns : List Content)
    → AreHeardFor h k q (first_point q) js ms ⊎ AreHeardOn h k q js ms → AreHeard h js ns → ms ≡ ns
messages-kept h k q js ms ns (inl a) b = messages-same h k q (first_point q) js ms ns a b
messages-kept h k q js ms ns (inr a) b = messages-on h k q js ms ns a b

pub messages-rest : (h : List Written) (e o : ℕ) (q : CoapRequest) (js : List ℕ) (ms ns : List Content)
    → AreHeardFor h e q (first_point q) js ms ⊎ (BeginsAt e js × AreHeardOn h o q js ms) → AreHeard h js ns → ms ≡ ns
messages-rest h e o q js ms ns (inl a) b = messages-same h e q (first_point q) js ms ns a b
messages-rest h e o q js ms ns (inr a) b = messages-on h o q js ms ns a.1 b

-- What replies are as a whole is the same for requests that are alike.
pub by-message : (q r : CoapRequest) (ms : List Content) → request_message q 0 [] ≡ request_message r 0 [] → whole_of q ms ≡ whole_of r ms
by-message q r [] e = refl
by-message q r (m ∷ ms) e =
    ap (λ (n : Content). cond (eqb n.code 1) (whole_fetched m ms) (whole_given (begun_as (length n.payload) 6) (m ∷ ms))) e

-- What was heard for an ask, here or before this journal, is what was given.
pub messages-whole : (h : List Written) (o : ℕ) (q : CoapRequest) (js : List ℕ) (ms ns : List Content) (since : ℕ)
    → WasHeardHere h o q js ms since ⊎ WasCarried h o q js ms since → AreHeard h js ns → ms ≡ ns
messages-whole h o q js ms ns since (inl a) b = messages-kept h o q js ms ns a.heard b
messages-whole h o q js ms ns since (inr a) b = messages-carried h o q js ms ns a.heard b

-- What an entry heard is one message, at one moment.
pub heard-one : (h : List Written) (j t u : ℕ) (m n : Content) → HeardAs h j t m → HeardAs h j u n → (t ≡ u) × (m ≡ n)
heard-one h j t u m n a b = (
  (entry-says t u a.deed b.deed (Heard a.peer a.bytes) (Heard b.peer b.bytes) (sym a.stands ∙ b.stands) a.says b.says).0,
  text-same t u a.peer a.deed a.bytes m n a.spelled a.says b.peer b.deed b.bytes (sym a.stands ∙ b.stands) b.says b.spelled,
)

pub last-heard : (h : List Written) (j : ℕ) (js : List ℕ) (m : Content) (ms : List Content) → AreHeard h (j ∷ js) (m ∷ ms)
    → (t : ℕ) × HeardAs h (last_in j js) t (last_of m ms)
last-heard h j [] m [] a = a.0
last-heard h j [] m (n ∷ ms) a = absurd a.1
last-heard h j (k ∷ js) m [] a = absurd a.1
last-heard h j (k ∷ js) m (n ∷ ms) a = last-heard h k js n ms a.1

last-push : (j n : ℕ) (js : List ℕ) → last_in j (js ++ n ∷ []) ≡ n
last-push j n [] = refl
last-push j n (k ∷ js) = last-push k n js

pub last-of-push : (m n : Content) (ms : List Content) → last_of m (ms ++ n ∷ []) ≡ n
last-of-push m n [] = refl
last-of-push m n (k ∷ ms) = last-of-push k n ms

-- the last of what a list heard
pub at-last : (h : List Written) (js : List ℕ) (n : ℕ) (m : Content) (ms : List Content) → AreHeard h (js ++ n ∷ []) (m ∷ ms)
    → (t : ℕ) × HeardAs h n t (last_of m ms)
at-last h [] n m ms a = last-heard h n [] m ms a
at-last h (j ∷ js) n m ms a =
    let it = last-heard h j (js ++ n ∷ []) m ms a in
    (it.0, subst (λ (k : ℕ). HeardAs h k it.0 (last_of m ms)) (last-push j n js) it.1)

-- and what is before it
pub both-heard : (h : List Written) (js : List ℕ) (n : ℕ) (ms : List Content) (m : Content) → AreHeard h (js ++ n ∷ []) (ms ++ m ∷ [])
    → AreHeard h js ms × ((t : ℕ) × HeardAs h n t m)
both-heard h [] n [] m a = (tt, a.0)
both-heard h [] n (x ∷ []) m a = absurd a.1
both-heard h [] n (x ∷ y ∷ ms) m a = absurd a.1
both-heard h (j ∷ []) n [] m a = absurd a.1
both-heard h (j ∷ k ∷ js) n [] m a = absurd a.1
both-heard h (j ∷ js) n (x ∷ ms) m a = let it = both-heard h js n ms m a.1 in ((a.0, it.0), it.1)

-- A 2.03 is part of no whole response (RFC 7252 section 5.9.1.3).
last-tells : (m : Content) (ms : List Content) → list_all is_tellable (m ∷ ms) ≡ true → is_tellable (last_of m ms) ≡ true
last-tells m [] e = (and_parts (is_tellable m) true e).0
last-tells m (n ∷ ms) e = last-tells n ms (and_parts (is_tellable m) (list_all is_tellable (n ∷ ms)) e).1

next-not : Next ≡ Last → ⊥
next-not e = cc

wrong-not : Wrong ≡ Last → ⊥
wrong-not e = cc

final-last : (b : Bool) → if_final b ≡ Last → b ≡ true
final-last true e = refl
final-last false e = absurd (wrong-not e)

-- What ends a request of another method is final.
answer-last : (u : UploadValue) (m : Content) → answer_to u m ≡ Last → is_final m ≡ true
answer-last u m e = by (answers_piece (next_num u) m) (is_last u) (eqb m.code 95) e
  where
    by : (a b c : Bool)
        → cond (not a) Wrong (cond b (if_final (is_final m)) (cond c Next (if_final (is_final m && not (eqb (class_of m) 2))))) ≡ Last
        → is_final m ≡ true
    by false b c e = absurd (wrong-not e)
    by true true c e = final-last (is_final m) e
    by true false true e = absurd (next-not e)
    by true false false e = (and_parts (is_final m) (not (eqb (class_of m) 2)) (final-last _ e)).0

flip : (b : Bool) → not b ≡ true → b ≡ false
flip true e = sym e
flip false e = refl

final-not : (m : Content) → is_final m ≡ true → eqb m.code 67 ≡ false
final-not m e = flip (eqb m.code 67) (and_parts (not (eqb m.code 67)) _ (and_parts _ (not (eqb m.code 67) && (not (eqb m.code 95) && not (eqb m.code 136))) e).1).0

given-not : (u : UploadValue) (m : Content) (ms : List Content) (w : Response) → whole_given u (m ∷ ms) ≡ Some w → eqb (last_of m ms).code 67 ≡ false
given-not u m [] w e = by (is_forwardable m.options) (answer_to u m) refl e
  where
    by : (b : Bool) (a : Answered) → answer_to u m ≡ a → cond b (whole_by a m [] None) None ≡ Some w → eqb m.code 67 ≡ false
    by false a is e = absurd (none-some w e)
    by true Next is e = absurd (none-some w e)
    by true Last is e = final-not m (answer-last u m is)
    by true Wrong is e = absurd (none-some w e)
given-not u m (n ∷ ms) w e = by (λ f. given-not (next_of u m) n ms w f) (is_forwardable m.options) (answer_to u m) e
  where
    later : Option Response
    later = whole_given (next_of u m) (n ∷ ms)

    by : (later ≡ Some w → eqb (last_of n ms).code 67 ≡ false) → (b : Bool) (a : Answered) → cond b (whole_by a m (n ∷ ms) later) None ≡ Some w
        → eqb (last_of n ms).code 67 ≡ false
    by next false a e = absurd (none-some w e)
    by next true Next e = next e
    by next true Last e = absurd (none-some w e)
    by next true Wrong e = absurd (none-some w e)

pub whole-not : (q : CoapRequest) (m : Content) (ms : List Content) (w : Response) → whole_of q (m ∷ ms) ≡ Some w → eqb (last_of m ms).code 67 ≡ false
whole-not q m ms w e = by (eqb q.method 1) refl e
  where
    by : (b : Bool) → eqb q.method 1 ≡ b → cond b (whole_fetched m ms) (whole_given (begun_as (length q.body) 6) (m ∷ ms)) ≡ Some w
        → eqb (last_of m ms).code 67 ≡ false
    by true is f = tellable-not (last_of m ms) (last-tells m ms (whole-tells q (m ∷ ms) w (eqb-same q.method 1 is) e))
    by false is f = given-not (begun_as (length q.body) 6) m ms w f

-- The first of these entries heard a message at this moment.
abbrev pub IsFirstAs : List Written → List ℕ → ℕ → Type 0
IsFirstAs h [] t = ⊥
IsFirstAs h (j ∷ js) t = (m : Content) × HeardAs h j t m

-- So an answer counts from its first reply where that is whole,
pub counts-first : (h : List Written) (js : List ℕ) (t heard : ℕ) (q : CoapRequest) (ms : List Content) (w : Response) → AreHeard h js ms
    → whole_of q ms ≡ Some w → CountsFrom h (Kept js) t heard → IsFirstAs h js heard
counts-first h js t heard q [] w a e counts = absurd (none-some w e)
counts-first h [] t heard q (m ∷ ms) w a e counts = absurd a
counts-first h (j ∷ js) t heard q (m ∷ ms) w a e (inl counts) = (counts.message, counts.first)
counts-first h (j ∷ js) t heard q (m ∷ ms) w a e (inr counts) =
    let last = last-heard h j js m ms a in
    let same : counts.message ≡ last_of m ms = (heard-one h (last_in j js) heard last.0 counts.message (last_of m ms) counts.last last.1).1 in
    absurd (false≢true (sym (whole-not q m ms w e) ∙ (ap (λ (m : Content). eqb m.code 67) (sym same) ∙ counts.says)))

-- and from the last where that is a 2.03.
counted : (h : List Written) (j : ℕ) (js : List ℕ) (n heard u : ℕ) (m : Content) → last_in j js ≡ n → HeardAs h n u m → eqb m.code 67 ≡ true
    → CountsFromReplies h j js heard → heard ≡ u
counted h j js n heard u m is last valid (inl c) =
    let ends = subst (λ (k : ℕ). HeardAs h k c.moment c.last) is c.ends in
    let same = (heard-one h n c.moment u c.last m ends last).1 in
    absurd (false≢true (sym c.other ∙ (ap (λ (m : Content). eqb m.code 67) same ∙ valid)))
counted h j js n heard u m is last valid (inr c) =
    (heard-one h n heard u c.message m (subst (λ (k : ℕ). HeardAs h k heard c.message) is c.last) last).0

pub counts-last : (h : List Written) (js : List ℕ) (n t heard u : ℕ) (m : Content) → HeardAs h n u m → eqb m.code 67 ≡ true
    → CountsFrom h (Kept (js ++ n ∷ [])) t heard → heard ≡ u
counts-last h [] n t heard u m last valid counts = counted h n [] n heard u m refl last valid counts
counts-last h (j ∷ js) n t heard u m last valid counts = counted h j (js ++ n ∷ []) n heard u m (last-push j n js) last valid counts

pub counts-alike : (h : List Written) (js : List ℕ) (t heard : ℕ) → CountsFrom h (Live js) t heard → CountsFrom h (Kept js) t heard
counts-alike h [] t heard c = c
counts-alike h (j ∷ js) t heard c = c

-- Where what was heard first counts from is where the answer does.
since-heard : (h : List Written) (js : List ℕ) (t s : ℕ) → IsHeardFirst h t js → IsFirstAs h js s → t ≡ s
since-heard h [] t s a b = absurd a
since-heard h (j ∷ js) t s a b = (entry-says t s _ _ (Heard a.0 a.1) (Heard b.1.peer b.1.bytes) (sym a.2 ∙ b.1.stands) refl b.1.says).0

since-carried : (h : List Written) (js : List ℕ) (t s : ℕ) → IsCarriedFirst h t js → IsFirstAs h js s → t ≡ s
since-carried h [] t s a b = absurd a
since-carried h (j ∷ js) t s a b = (entry-says t s _ _ (Heard a.0 a.2) (Heard b.1.peer b.1.bytes) (sym a.3 ∙ b.1.stands) refl b.1.says).0

pub since-whole : (h : List Written) (o : ℕ) (q : CoapRequest) (js : List ℕ) (ms : List Content) (since s : ℕ)
    → WasHeardHere h o q js ms since ⊎ WasCarried h o q js ms since → IsFirstAs h js s → since ≡ s
since-whole h o q js ms since s (inl a) b = since-heard h js since s a.first b
since-whole h o q js ms since s (inr a) b = since-carried h js since s a.first b
