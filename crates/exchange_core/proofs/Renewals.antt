-- What is stored was heard, and what is told of it counts from its first reply, or from the 2.03 that renewed it.
use Rattle.std.proofs.Common.{◌≡◌, arith, inl, inr, ℕ, zero, Bool, true, false, not, cond, eqb, List, [], ◌∷◌, ◌++◌, length, Option, Some, None, refl, sym, ap, subst, ◌∙◌}
use Rattle.std.specs.Prelude.{◌&&◌, is_some}
use Rattle.std.specs.List.{Contains, list_all}
use Rattle.std.proofs.lemmas.List.Elements.{Contains-append_left}
use Rattle.std.proofs.lemmas.Bool.{and_parts, eqb-true}
use Rattle.coap_codec.specs.Spelling.{Content}
use Rattle.coap_codec.specs.Recognition.{class_of, is_final, is_forwardable}
use Rattle.blockwise.specs.Reading.{answers_piece}
use Rattle.blockwise.specs.Uploads.{UploadValue, answer_to, begun, is_last, next_num, next_of}
use Rattle.blockwise.specs.declared.upload.Answered.{Answered}
use Rattle.blockwise.specs.declared.upload.Answered.TheVariants as A
use Rattle.ask_model.specs.Requests.{CoapRequest}
use Rattle.resp_cache.specs.declared.pair.Pair.{Pair}
use Rattle.journal_book.specs.Entries.{Live, Ground, Heard, Hears, Carries, Written}
use Rattle.resp_cache.specs.Stored.{Stored}
use Rattle.history_laws.proofs.CallerLemmas.{contains-later, some-is}
use Rattle.history_laws.specs.Responses.{Response, confirms, first_some, is_tellable, last_of, renewed_response, response_of, whole_by, whole_fetched, whole_given, whole_of}
use Rattle.exchange_model.specs.State.{State}
use Rattle.exchange_model.specs.Growing.{AreCopiedAt, AreHeardAt, IsCopiedAt, IsHeardAt, IsKeptIn, IsRenewedIn}
use Rattle.exchange_core.specs.Answering.{AreHeard, CountsFrom, CountsFromFirst, HeardAs, IsInFormat, IsRenewal, last_in}
use Rattle.exchange_core.specs.Recalling.{WasRenewed}
use Rattle.exchange_core.proofs.Askable.{final-other, says-valid, tells-other, whole-tells}

-- in the journal, or before it

pub heard-at : (S : State) (n : ℕ) (m : Content) → (h : IsHeardAt S n m) → HeardAs S.entries n h.moment m
heard-at S n m h = record {
  peer = h.peer;
  bytes = h.bytes;
  deed = Hears h.peer h.bytes;
  stands = h.stands;
  says = refl;
  spelled = h.spelled;
}

pub all-heard : (S : State) (ns : List ℕ) (ms : List Content) → AreHeardAt S ns ms → AreHeard S.entries ns ms
all-heard S [] [] h = tt
all-heard S [] (m ∷ ms) h = absurd h
all-heard S (n ∷ ns) [] h = absurd h
all-heard S (n ∷ ns) (m ∷ ms) h = ((h.0.moment, heard-at S n m h.0), all-heard S ns ms h.1)

pub copied-at : (S : State) (n : ℕ) (m : Content) → (h : IsCopiedAt S n m) → HeardAs S.entries n h.moment m
copied-at S n m h = record {
  peer = h.peer;
  bytes = h.bytes;
  deed = Carries h.number Ground (Heard h.peer h.bytes);
  stands = h.stands;
  says = refl;
  spelled = h.spelled;
}

pub all-copied : (S : State) (ns : List ℕ) (ms : List Content) → AreCopiedAt S ns ms → AreHeard S.entries ns ms
all-copied S [] [] h = tt
all-copied S [] (m ∷ ms) h = absurd h
all-copied S (n ∷ ns) [] h = absurd h
all-copied S (n ∷ ns) (m ∷ ms) h = ((h.0.moment, copied-at S n m h.0), all-copied S ns ms h.1)

-- the last of them

pub last-push : (j : ℕ) (js : List ℕ) (k : ℕ) → last_in j (js ++ k ∷ []) ≡ k
last-push j [] k = refl
last-push j (i ∷ js) k = last-push i js k

pub heard-push : (h : List Written) (js : List ℕ) (ms : List Content) (k t : ℕ) (m : Content) → AreHeard h js ms → HeardAs h k t m
    → AreHeard h (js ++ k ∷ []) (ms ++ m ∷ [])
heard-push h [] [] k t m a one = ((t, one), tt)
heard-push h [] (n ∷ ms) k t m a one = absurd a
heard-push h (j ∷ js) [] k t m a one = absurd a
heard-push h (j ∷ js) (n ∷ ms) k t m a one = (a.0, heard-push h js ms k t m a.1 one)

pub last-heard : (h : List Written) (j : ℕ) (js : List ℕ) (t : ℕ) (m : Content) (ms : List Content) → HeardAs h j t m → AreHeard h js ms
    → (u : ℕ) × HeardAs h (last_in j js) u (last_of m ms)
last-heard h j [] t m [] first rest = (t, first)
last-heard h j [] t m (n ∷ ms) first rest = absurd rest
last-heard h j (i ∷ js) t m [] first rest = absurd rest
last-heard h j (i ∷ js) t m (n ∷ ms) first rest = last-heard h i js rest.0.0 n ms rest.0.1 rest.1

last-tells : (m : Content) (ms : List Content) → list_all is_tellable (m ∷ ms) ≡ true → is_tellable (last_of m ms) ≡ true
last-tells m [] e = (and_parts (is_tellable m) true e).0
last-tells m (n ∷ ms) e = last-tells n ms (and_parts (is_tellable m) (list_all is_tellable (n ∷ ms)) e).1

-- A whole response counts from the first of its pieces.
pub first-counts : (h : List Written) (j : ℕ) (js : List ℕ) (t : ℕ) (m : Content) (ms : List Content) (w : Response) → HeardAs h j t m → AreHeard h js ms
    → whole_fetched m ms ≡ Some w → CountsFromFirst h j js t
first-counts h j js t m ms w first rest whole =
    let last = last-heard h j js t m ms first rest in
    record {
      message = m;
      first = first;
      moment = last.0;
      last = last_of m ms;
      ends = last.1;
      other = tells-other (last_of m ms) (last-tells m ms (whole-tells m ms w whole).0);
    }

-- What was renewed was heard, and the 2.03 after it.

pub kept-heard : (S : State) (s : Stored) → (h : IsKeptIn S s) → AreHeard S.entries s.list (h.message ∷ h.more)
kept-heard S s h =
    elim (h.heard) [
      | inl a ↦ all-heard S s.list (h.message ∷ h.more) a
      | inr a ↦ all-copied S s.list (h.message ∷ h.more) a
    ]

-- by the 2.03 it is this
pub renewal-of : (S : State) (s : Stored) (m : Content) → (h : IsKeptIn S s) → confirms s.response.etag m ≡ true
    → IsRenewal ((h.message ∷ h.more) ++ m ∷ []) (renewed_response s.response m)
renewal-of S s m h says = record {
  first = h.message;
  more = h.more;
  last = m;
  is = refl;
  response = h.response;
  whole = h.whole;
  says = eqb-true m.code 67 (says-valid s.response.etag m says);
  before = s.response.format;
  renewed = ap (λ (w : Response). renewed_response w m) h.renewed;
}

-- in a format that was heard
last-one : (j : ℕ) (js : List ℕ) → Contains (j ∷ js) (last_in j js)
last-one j [] = (zero, omega arith, refl)
last-one j (i ∷ js) = contains-later j (i ∷ js) (last_in i js) (last-one i js)

-- that of the last piece,
in-last : (h : List Written) (js ns : List ℕ) (m : Content) (ms : List Content) (w : Response) → AreHeard h js (m ∷ ms)
    → ((j : ℕ) → Contains js j → Contains ns j) → (response_of (last_of m ms)).format ≡ w.format → eqb (last_of m ms).code 67 ≡ false → IsInFormat h ns w
in-last h [] ns m ms w a within format other = absurd a
in-last h (j ∷ js) ns m ms w a within format other =
    let last = last-heard h j js a.0.0 m ms a.0.1 a.1 in
    record {
      number = last_in j js;
      moment = last.0;
      message = last_of m ms;
      heard = last.1;
      format = format;
      source = inl (within (last_in j js) (last-one j js), other);
    }

pub fetched-in : (h : List Written) (js ns : List ℕ) (m : Content) (ms : List Content) (u w : Response) → AreHeard h js (m ∷ ms)
    → ((j : ℕ) → Contains js j → Contains ns j) → whole_fetched m ms ≡ Some u → w.format ≡ u.format → IsInFormat h ns w
fetched-in h js ns m ms u w a within whole format =
    let parts = whole-tells m ms u whole in
    in-last h js ns m ms w a within (ap (λ (v : Response). v.format) parts.1 ∙ sym format) (tells-other (last_of m ms) (last-tells m ms parts.0))

-- or that of a 2.03
pub renewed-in : (h : List Written) (S : State) (s : Stored) (m : Content) (n t : ℕ) → (k : IsKeptIn S s)
    → ((j u : ℕ) (m : Content) → HeardAs S.entries j u m → HeardAs h j u m) → HeardAs h n t m → confirms s.response.etag m ≡ true
    → AreHeard h s.list (k.message ∷ k.more) → IsInFormat h (s.list ++ n ∷ []) (renewed_response s.response m)
renewed-in h S s m n t k grow last says pieces = by ((response_of m).format) refl
  where
    within : (j : ℕ) → Contains s.list j → Contains (s.list ++ n ∷ []) j
    within j has = Contains-append_left s.list (n ∷ []) j has

    before : (w : Response) → w.format ≡ s.response.format → w.etag ≡ s.response.etag → IsInFormat h (s.list ++ n ∷ []) w
    before w format tag = elim (k.format) [
      | inl same ↦ fetched-in h s.list (s.list ++ n ∷ []) k.message k.more k.response w pieces within k.whole (format ∙ same)
      | inr named ↦ record {
        number = named.number;
        moment = named.heard.moment;
        message = named.message;
        heard = grow named.number named.heard.moment named.message (heard-at S named.number named.message named.heard);
        format = named.names ∙ sym format;
        source = inr (
          ap (λ (v : Option (List ℕ)). confirms v named.message) tag ∙ named.says,
          ap (λ (v : Option ℕ). is_some v) format ∙ named.some,
        );
      }
    ]

    by : (v : Option ℕ) → (response_of m).format ≡ v
        → IsInFormat h (s.list ++ n ∷ []) (record s.response { format = first_some v s.response.format; max_age = (response_of m).max_age })
    by None e = before (record s.response { format = s.response.format; max_age = (response_of m).max_age }) refl refl
    by (Some f) e = record { number = n; moment = t; message = m; heard = last; format = e; source = inr (says, refl) }

pub renewed-of : (S : State) (p : Pair) → IsRenewedIn S p → WasRenewed S.entries p.stored
renewed-of S p h = by h.kept.list refl
  where
    heard : AreHeard S.entries h.kept.list (h.was.message ∷ h.was.more)
    heard = kept-heard S h.kept h.was

    last : HeardAs S.entries h.number h.confirmed.0.moment h.renewal
    last = heard-at S h.number h.renewal h.confirmed.0

    by : (ns : List ℕ) → h.kept.list ≡ ns → WasRenewed S.entries p.stored
    by [] e = absurd (subst (λ (js : List ℕ). AreHeard S.entries js (h.was.message ∷ h.was.more)) e heard)
    by (n ∷ ns) e = record {
      number = n;
      others = ns ++ h.number ∷ [];
      list = h.list ∙ ap (λ (js : List ℕ). js ++ h.number ∷ []) e;
      messages = (h.was.message ∷ h.was.more) ++ h.renewal ∷ [];
      heard = subst (λ (js : List ℕ). AreHeard S.entries (js ++ h.number ∷ []) ((h.was.message ∷ h.was.more) ++ h.renewal ∷ [])) e
          (heard-push S.entries h.kept.list (h.was.message ∷ h.was.more) h.number h.confirmed.0.moment h.renewal heard last);
      renewal = subst (IsRenewal ((h.was.message ∷ h.was.more) ++ h.renewal ∷ [])) (sym h.renewed) (renewal-of S h.kept h.renewal h.was h.says);
      format = subst (IsInFormat S.entries (n ∷ (ns ++ h.number ∷ []))) (sym h.renewed)
          (subst (λ (js : List ℕ). IsInFormat S.entries (js ++ h.number ∷ []) (renewed_response h.kept.response h.renewal)) e
          (renewed-in S.entries S h.kept h.renewal h.number h.confirmed.0.moment h.was (λ j u m a. a) last h.says heard));
      counts = record {
        message = h.renewal;
        last = subst (λ (k : ℕ). HeardAs S.entries k p.stored.heard h.renewal) (sym (last-push n ns h.number))
            (subst (λ (t : ℕ). HeardAs S.entries h.number t h.renewal) h.confirmed.1 last);
        says = says-valid h.kept.response.etag h.renewal h.says;
      };
    }

-- The last message of a whole response is no 2.03.

answer-by : (a b c f g : Bool) → cond (not a) A.Wrong (cond b (cond f A.Last A.Wrong) (cond c A.Next (cond (f && g) A.Last A.Wrong))) ≡ A.Last → f ≡ true
answer-by false b c f g e = absurd cc
answer-by true true c true g e = refl
answer-by true true c false g e = absurd cc
answer-by true false true f g e = absurd cc
answer-by true false false true g e = refl
answer-by true false false false g e = absurd cc

answer-final : (u : UploadValue) (m : Content) → answer_to u m ≡ A.Last → is_final m ≡ true
answer-final u m e = answer-by (answers_piece (next_num u) m) (is_last u) (eqb m.code 95) (is_final m) (not (eqb (class_of m) 2)) e

no-response : (w : Response) → None ≡ Some w → ⊥
no-response w e = cc

given-parts : (b : Bool) (v : Option Response) (w : Response) → cond b v None ≡ Some w → v ≡ Some w
given-parts true v w e = e
given-parts false v w e = absurd (no-response w e)

one-last : (u : UploadValue) (m : Content) (w : Response) (v : Answered) → answer_to u m ≡ v → whole_by v m [] None ≡ Some w → eqb m.code 67 ≡ false
one-last u m w A.Next is e = absurd (no-response w e)
one-last u m w A.Last is e = final-other m (answer-final u m is)
one-last u m w A.Wrong is e = absurd (no-response w e)

more-last : (m n : Content) (ns : List Content) (w : Response) (v : Answered) (later : Option Response) → whole_by v m (n ∷ ns) later ≡ Some w → later ≡ Some w
more-last m n ns w A.Next later e = e
more-last m n ns w A.Last later e = absurd (no-response w e)
more-last m n ns w A.Wrong later e = absurd (no-response w e)

given-last : (u : UploadValue) (m : Content) (ms : List Content) (w : Response) → whole_given u (m ∷ ms) ≡ Some w → eqb (last_of m ms).code 67 ≡ false
given-last u m [] w e =
    one-last u m w (answer_to u m) refl (given-parts (is_forwardable m.options) (whole_by (answer_to u m) m [] None) w e)
given-last u m (n ∷ ns) w e =
    given-last (next_of u m) n ns w
    (more-last m n ns w (answer_to u m) (whole_given (next_of u m) (n ∷ ns))
    (given-parts (is_forwardable m.options) (whole_by (answer_to u m) m (n ∷ ns) (whole_given (next_of u m) (n ∷ ns))) w e))

pub last-other : (q : CoapRequest) (m : Content) (ms : List Content) (w : Response) → whole_of q (m ∷ ms) ≡ Some w → eqb (last_of m ms).code 67 ≡ false
last-other q m ms w e = by (eqb q.method 1) e
  where
    by : (b : Bool) → cond b (whole_fetched m ms) (whole_given (begun (length q.body) 6) (m ∷ ms)) ≡ Some w → eqb (last_of m ms).code 67 ≡ false
    by true f = tells-other (last_of m ms) (last-tells m ms (whole-tells m ms w f).0)
    by false f = given-last (begun (length q.body) 6) m ms w f

-- It is in the format of its last message.
one-format : (u : UploadValue) (m : Content) (w : Response) (v : Answered) → whole_by v m [] None ≡ Some w → (response_of m).format ≡ w.format
one-format u m w A.Next e = absurd (no-response w e)
one-format u m w A.Last e = ap (λ (v : Response). v.format) (some-is (response_of m) w e)
one-format u m w A.Wrong e = absurd (no-response w e)

given-format : (u : UploadValue) (m : Content) (ms : List Content) (w : Response) → whole_given u (m ∷ ms) ≡ Some w
    → (response_of (last_of m ms)).format ≡ w.format
given-format u m [] w e =
    one-format u m w (answer_to u m) (given-parts (is_forwardable m.options) (whole_by (answer_to u m) m [] None) w e)
given-format u m (n ∷ ns) w e =
    given-format (next_of u m) n ns w
    (more-last m n ns w (answer_to u m) (whole_given (next_of u m) (n ∷ ns))
    (given-parts (is_forwardable m.options) (whole_by (answer_to u m) m (n ∷ ns) (whole_given (next_of u m) (n ∷ ns))) w e))

last-format : (q : CoapRequest) (m : Content) (ms : List Content) (w : Response) → whole_of q (m ∷ ms) ≡ Some w
    → (response_of (last_of m ms)).format ≡ w.format
last-format q m ms w e = by (eqb q.method 1) e
  where
    by : (b : Bool) → cond b (whole_fetched m ms) (whole_given (begun (length q.body) 6) (m ∷ ms)) ≡ Some w → (response_of (last_of m ms)).format ≡ w.format
    by true f = ap (λ (v : Response). v.format) (whole-tells m ms w f).1
    by false f = given-format (begun (length q.body) 6) m ms w f

pub whole-in : (h : List Written) (q : CoapRequest) (w : Response) (js : List ℕ) (ms : List Content) → whole_of q ms ≡ Some w → AreHeard h js ms
    → IsInFormat h js w
whole-in h q w js [] e a = absurd (no-response w e)
whole-in h q w js (m ∷ ms) e a = in-last h js js m ms w a (λ j has. has) (last-format q m ms w e) (last-other q m ms w e)

-- What ends with a 2.03 counts from that.
pub counts-last : (h : List Written) (js : List ℕ) (n t since : ℕ) (m : Content) → HeardAs h n since m → eqb m.code 67 ≡ true → CountsFrom h (Live (js ++ n ∷ [])) t since
counts-last h [] n t since m one says = inr (record { message = m; last = one; says = says })
counts-last h (j ∷ js) n t since m one says = inr (record {
  message = m;
  last = subst (λ (k : ℕ). HeardAs h k since m) (sym (last-push j js n)) one;
  says = says;
})
