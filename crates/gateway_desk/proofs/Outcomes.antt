-- What a journal's entries show of what an ask came to.
use Rattle.std.proofs.Common.{◌≡◌, ◌↔◌, inl, inr, ℕ, zero, suc, ◌+◌, ◌<◌, Bool, IsTrue, List, [], ◌∷◌, ◌++◌, length, map, take, get_or, Option, Some, None, MatchOption, Result, Ok, Err, IfOk, refl, sym, ap, subst, ◌∙◌, arith}
use Rattle.std.specs.Prelude.{slice_get}
use Rattle.std.proofs.lemmas.List.{map_push, take_more}
use Rattle.coap_codec.specs.Spelling.{Content, Spells, content}
use Rattle.coap_codec.specs.declared.message.Message.{Message}
use Rattle.coap_codec.proofs.Unique.{spells_one}
use Rattle.uri_map.specs.declared.peer.Peer.{Peer}
use Rattle.ask_model.specs.Requests.{CoapRequest, Sense, Requests}
use Rattle.journal_book.specs.Entries.{Grounds, Done, Heard, done_of, Deed, Written, Live, Kept}
use Rattle.history_laws.specs.Responses.{Response}
use Rattle.reply_reading.specs.Findings.{Told, Tells}
use Rattle.exchange_core.specs.Values.{written}
use Rattle.exchange_core.specs.Answering.{HeardAs, AreHeard, IsFound, IsResponse, CountsFrom}
use Rattle.gateway_desk.specs.Shown.{bytes_heard, CountsAt, HearsAt, HearsNone, SpellsNone, IsHeardAt, IsResponseBy, IsUnheard, AreUnheard, RestsOn}
use Rattle.gateway_desk.proofs.Whole.{whole-by}

pub some-same : {X : Type 0} (x y : X) → Some x ≡ Some y → x ≡ y
some-same x y e = cc

heard-same : (p o : Peer) (a b : List ℕ) → Heard p a ≡ Heard o b → a ≡ b
heard-same p o a b e = cc

-- one entry bears one moment, the same bytes and one message

entry-bytes : (h : List Written) (n : ℕ) (a b : List ℕ) → HearsAt h n a → HearsAt h n b → a ≡ b
entry-bytes h n a b x y =
    let one = some-same (written x.0 x.2) (written y.0 y.2) (sym x.3 ∙ y.3) in
    heard-same x.1 y.1 a b (some-same _ _ (sym x.4 ∙ (ap (λ (w : Written). done_of w.deed) one ∙ y.4)))

heard-at : (h : List Written) (n t : ℕ) (m : Content) → (a : HeardAs h n t m) → HearsAt h n a.bytes
heard-at h n t m a = (t, a.peer, a.deed, a.stands, a.says)

-- what an entry says that was heard
bytes-of : (done : Option Done) (bytes : List ℕ) → bytes_heard done ≡ Some bytes → (p : Peer) × (done ≡ Some (Heard p bytes))
bytes-of (Some (Heard p b)) bytes e = (p, ap (λ (b : List ℕ). Some (Heard p b)) (some-same b bytes e))
bytes-of done bytes e = absurd cc

pub hears-so : {X : Type 0} (r : Option X) (now : X → List ℕ) (h : List Written) (n t : ℕ) (d : Deed) → slice_get h n ≡ Some (written t d)
    → MatchOption r (bytes_heard (done_of d) ≡ None) (λ x. bytes_heard (done_of d) ≡ Some (now x))
    → MatchOption r (HearsNone h n) (λ x. HearsAt h n (now x))
hears-so (Some x) now h n t d stands e = let it = bytes-of (done_of d) (now x) e in (t, it.0, d, stands, it.1)
hears-so None now h n t d stands e = λ bytes a.
    let one = some-same (written t d) (written a.0 a.2) (sym stands ∙ a.3) in
    let says : done_of d ≡ Some (Heard a.1 bytes) = ap (λ (w : Written). done_of w.deed) one ∙ a.4 in
    none-some bytes (sym e ∙ ap bytes_heard says)
  where
    none-some : (bytes : List ℕ) → None ≡ Some bytes → ⊥
    none-some bytes e = cc

pub message-one : (h : List Written) (n : ℕ) (m k : Content) → IsHeardAt h n m → IsHeardAt h n k → m ≡ k
message-one h n m k a b =
    spells_one m k b.1.bytes
    (subst (Spells m) (entry-bytes h n a.1.bytes b.1.bytes (heard-at h n a.0 m a.1) (heard-at h n b.0 k b.1)) a.1.spelled) b.1.spelled

messages-one : (h : List Written) (js : List ℕ) (ms ns : List Content) → AreHeard h js ms → AreHeard h js ns → ms ≡ ns
messages-one h [] [] [] a b = refl
messages-one h [] [] (n ∷ ns) a b = absurd b
messages-one h [] (m ∷ ms) ns a b = absurd a
messages-one h (j ∷ js) [] ns a b = absurd a
messages-one h (j ∷ js) (m ∷ ms) [] a b = absurd b
messages-one h (j ∷ js) (m ∷ ms) (n ∷ ns) a b =
    ap (λ (x : Content). x ∷ ms) (message-one h j m n a.0 b.0) ∙ ap (λ (xs : List Content). n ∷ xs) (messages-one h js ms ns a.1 b.1)

-- what its bytes spell was heard in it, and without bytes nothing was

heard-as : (h : List Written) (n : ℕ) (bytes : List ℕ) (m : Content) → HearsAt h n bytes → Spells m bytes → IsHeardAt h n m
heard-as h n bytes m x s = (x.0, record { peer = x.1; bytes = bytes; deed = x.2; stands = x.3; says = x.4; spelled = s })

heard-not : (h : List Written) (n : ℕ) (bytes : List ℕ) → HearsAt h n bytes → SpellsNone bytes → IsUnheard h n
heard-not h n bytes x none m a =
    none m (subst (Spells m) (entry-bytes h n a.1.bytes bytes (heard-at h n a.0 m a.1) x) a.1.spelled)

pub unheard-not : (h : List Written) (n : ℕ) → HearsNone h n → IsUnheard h n
unheard-not h n none m a = none a.1.bytes (heard-at h n a.0 m a.1)

-- one entry more

heard-push : (h : List Written) (js : List ℕ) (ms : List Content) (j : ℕ) (m : Content) → AreHeard h js ms → IsHeardAt h j m
    → AreHeard h (js ++ j ∷ []) (ms ++ m ∷ [])
heard-push h [] [] j m a b = (b, tt)
heard-push h [] (n ∷ ms) j m a b = absurd a
heard-push h (k ∷ js) [] j m a b = absurd a
heard-push h (k ∷ js) (n ∷ ms) j m a b = (a.0, heard-push h js ms j m a.1 b)

heard-in : (h : List Written) (js : List ℕ) (ms : List Content) (i d : ℕ) → i < length js → AreHeard h js ms
    → (m : Content) × IsHeardAt h (get_or js i d) m
heard-in h [] ms i d lt a = absurd (omega (arith, lt))
heard-in h (j ∷ js) [] i d lt a = absurd a
heard-in h (j ∷ js) (m ∷ ms) zero d lt a = (m, a.0)
heard-in h (j ∷ js) (m ∷ ms) (suc i) d lt a = heard-in h js ms i d (omega (arith, lt)) a.1

-- the messages of some of them, and one more
pub heard-next : (h : List Written) (js : List ℕ) (old new : List Message) (i d : ℕ) (m : Message) → i < length js → new ≡ old ++ m ∷ []
    → AreHeard h (take i js) (map content old) → IsHeardAt h (get_or js i d) (content m) → AreHeard h (take (i + 1) js) (map content new)
heard-next h js old new i d m lt e a b =
    subst (λ (ns : List Content). AreHeard h (take (i + 1) js) ns) (sym (ap (map content) e ∙ map_push content old m))
    (subst (λ (xs : List ℕ). AreHeard h xs (map content old ++ content m ∷ [])) (sym (take_more js i d lt))
    (heard-push h (take i js) (map content old) (get_or js i d) (content m) a b))

pub heard-none : (h : List Written) (js : List ℕ) (i d : ℕ) → i < length js → IsUnheard h (get_or js i d) → AreUnheard h js
heard-none h js i d lt none ms a = let x = heard-in h js ms i d lt a in none x.0 x.1

-- what a look at bytes tells of their entry

pub message-so : {E : Type 0} (r : Result (Option Message) E) (h : List Written) (n : ℕ) (bytes : List ℕ) → HearsAt h n bytes
    → IfOk r (λ o. MatchOption o (SpellsNone bytes) (λ m. Spells (content m) bytes))
    → IfOk r (λ o. MatchOption o (IsUnheard h n) (λ m. IsHeardAt h n (content m)))
message-so (Ok (Some m)) h n bytes x p = heard-as h n bytes (content m) x p
message-so (Ok None) h n bytes x p = heard-not h n bytes x p
message-so (Err e) h n bytes x p = p

-- What rests on these entries does so by the messages that were heard in them.

pub if-same : {E : Type 0} (r : Result Bool E) (A B : Type 0) → A ↔ B → IfOk r (λ is. IsTrue is ↔ A)
    → IfOk r (λ is. IsTrue is ↔ B)
if-same (Ok b) A B same p = ((λ is. same.0 (p.0 is)), (λ s. p.1 (same.1 s)))
if-same (Err e) A B same p = p

pub rests-so : {E : Type 0} (r : Result Bool E) (h : List Written) (js : List ℕ) (t k len : ℕ) (w : Response) (ms : List Content)
    → CountsAt h t js → AreHeard h js ms → IfOk r (λ is. IsTrue is ↔ IsResponseBy k len ms w)
    → IfOk r (λ is. IsTrue is ↔ RestsOn h js t k len w)
rests-so r h js t k len w ms counts heard = if-same r _ _ (to, from)
  where
    to : IsResponseBy k len ms w → RestsOn h js t k len w
    to e = (ms, heard, counts, e)

    from : RestsOn h js t k len w → IsResponseBy k len ms w
    from x = subst (λ (ms : List Content). IsResponseBy k len ms w) (messages-one h js x.0 ms x.1 heard) x.3

-- Entries bear a response just where that is what rests on them, live or kept.

abbrev Shows : List Written → Told → Grounds → Sense → ℕ → ℕ → Type 0
Shows h told grounds sense t heard = IsFound h told grounds sense × CountsFrom h grounds t heard

response-by : (q : CoapRequest) (ms : List Content) (w : Response) → IsResponseBy q.method (length q.body) ms w → IsResponse q ms w
response-by q ms w (inl e) = inl (whole-by q ms ∙ e)
response-by q ms w (inr r) = inr r

by-response : (q : CoapRequest) (ms : List Content) (w : Response) → IsResponse q ms w → IsResponseBy q.method (length q.body) ms w
by-response q ms w (inl e) = inl (sym (whole-by q ms) ∙ e)
by-response q ms w (inr r) = inr r

-- No response is made of no message.
none-heard : (h : List Written) (q : CoapRequest) (w : Response) (ms : List Content) → AreHeard h [] ms → IsResponse q ms w → ⊥
none-heard h q w [] a (inl e) = absurd cc
none-heard h q w [] a (inr r) = let it : [] ≡ (r.1.first ∷ r.1.more) ++ r.1.last ∷ [] = r.1.is in absurd cc
none-heard h q w (m ∷ ms) a e = a

live-shown : (h : List Written) (js : List ℕ) (t heard : ℕ) (q : CoapRequest) (w : Response)
    → RestsOn h js heard q.method (length q.body) w ↔ Shows h (Tells w) (Live js) (Requests q) t heard
live-shown h [] t heard q w = (
  (λ r. absurd r.2),
  (λ s. absurd (none-heard h q w s.0.0 s.0.1 s.0.2)),
)
live-shown h (j ∷ js) t heard q w = (
  (λ r. ((r.0, r.1, response-by q r.0 w r.3), r.2)),
  (λ s. (s.0.0, s.0.1, s.1, by-response q s.0.0 w s.0.2)),
)

kept-shown : (h : List Written) (js : List ℕ) (t heard : ℕ) (q : CoapRequest) (w : Response)
    → RestsOn h js heard q.method (length q.body) w ↔ Shows h (Tells w) (Kept js) (Requests q) t heard
kept-shown h [] t heard q w = live-shown h [] t heard q w
kept-shown h (j ∷ js) t heard q w = live-shown h (j ∷ js) t heard q w

shows-by : {E : Type 0} (r : Result Bool E) (h : List Written) (js : List ℕ) (t heard : ℕ) (q : CoapRequest)
    (w : Response) (told : Told) (from grounds : Grounds) (sense : Sense)
    → RestsOn h js heard q.method (length q.body) w ↔ Shows h (Tells w) from (Requests q) t heard
    → Tells w ≡ told → from ≡ grounds → Requests q ≡ sense
    → IfOk r (λ is. IsTrue is ↔ RestsOn h js heard q.method (length q.body) w)
    → IfOk r (λ is. IsTrue is ↔ (IsFound h told grounds sense × CountsFrom h grounds t heard))
shows-by r h js t heard q w told from grounds sense same a b c p =
    subst (λ x. IfOk r (λ is. IsTrue is ↔ Shows h x grounds sense t heard)) a
    (subst (λ x. IfOk r (λ is. IsTrue is ↔ Shows h (Tells w) x sense t heard)) b
    (subst (λ x. IfOk r (λ is. IsTrue is ↔ Shows h (Tells w) from x t heard)) c (if-same r _ _ same p)))

pub live-so : {E : Type 0} (r : Result Bool E) (h : List Written) (js : List ℕ) (t heard : ℕ) (q : CoapRequest)
    (w : Response) (told : Told) (grounds : Grounds) (sense : Sense)
    → Tells w ≡ told → Live js ≡ grounds → Requests q ≡ sense
    → IfOk r (λ is. IsTrue is ↔ RestsOn h js heard q.method (length q.body) w)
    → IfOk r (λ is. IsTrue is ↔ (IsFound h told grounds sense × CountsFrom h grounds t heard))
live-so r h js t heard q w told grounds sense =
    shows-by r h js t heard q w told (Live js) grounds sense (live-shown h js t heard q w)

pub kept-so : {E : Type 0} (r : Result Bool E) (h : List Written) (js : List ℕ) (t heard : ℕ) (q : CoapRequest)
    (w : Response) (told : Told) (grounds : Grounds) (sense : Sense)
    → Tells w ≡ told → Kept js ≡ grounds → Requests q ≡ sense
    → IfOk r (λ is. IsTrue is ↔ RestsOn h js heard q.method (length q.body) w)
    → IfOk r (λ is. IsTrue is ↔ (IsFound h told grounds sense × CountsFrom h grounds t heard))
kept-so r h js t heard q w told grounds sense =
    shows-by r h js t heard q w told (Kept js) grounds sense (kept-shown h js t heard q w)
