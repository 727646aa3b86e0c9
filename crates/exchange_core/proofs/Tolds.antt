-- Who is told by a datagram what an exchange came to.
use Rattle.std.proofs.Common.{◌≡◌, inl, inr, ℕ, zero, suc, ◌≤◌, Bool, true, false, cond, eqb, List, [], ◌∷◌, ◌++◌, length, map, Option, Some, refl, sym, ap, subst, ◌∙◌, append_assoc, arith}
use Rattle.std.specs.Prelude.{filter, is_some, slice_get}
use Rattle.std.specs.List.{AllByRecursion}
use Rattle.std.specs.Option.{option_map_or}
use Rattle.std.proofs.lemmas.List.{length-map}
use Rattle.std.proofs.lemmas.List.Sums.{length-filter, count_by-le-length}
use Rattle.coap_codec.specs.Spelling.{Content, Spells}
use Rattle.uri_map.specs.declared.peer.Peer.{Peer}
use Rattle.ask_model.specs.Requests.{CoapRequest}
use Rattle.journal_book.specs.Entries.{Deed, Hears, Live, Written}
use Rattle.message_layer.specs.Hearing.{verdict_of}
use Rattle.message_layer.specs.declared.verdict.News.TheVariants as N
use Rattle.resp_cache.specs.Stored.{Stored}
use Rattle.history_laws.specs.Progress.{Reply, Ending, Whole, Renewed, NotUnderstood, Reset, TimedOut, Turned, messages, numbers}
use Rattle.history_laws.specs.Responses.{Response, confirms, last_of, renewed_response, whole_of}
use Rattle.history_laws.proofs.CallerLemmas.{eqb-apart, none-some, some-is}
use Rattle.exchange_model.specs.declared.kept.Exchange.{Exchange}
use Rattle.exchange_model.specs.declared.kept.Work.{Work}
use Rattle.exchange_model.specs.declared.kept.Work.TheVariants as W
use Rattle.exchange_model.specs.declared.kept.Reader.{Reader}
use Rattle.exchange_model.specs.State.{State, link_of}
use Rattle.exchange_model.specs.Matters.{Matter, Nothing, Tells, Starts, Goes, Over, matter_of, moment_in}
use Rattle.exchange_model.specs.Hearing.{Numbers, hears}
use Rattle.exchange_model.specs.Calls.{is_reader_of, tell_of, told_for}
use Rattle.exchange_model.specs.Entering.{answer_of}
use Rattle.exchange_model.specs.Growing.{AreHeardAt, IsHeardAt, IsKeptIn, IsKnown, IsWorkOf}
use Rattle.exchange_model.specs.Keeping.{MayStep}
use Rattle.exchange_model.proofs.CallerLemmas.{over-heard, over-renewed}
use Rattle.exchange_core.specs.Answering.{AreHeard, CountsFrom, HeardAs, IsInFormat, IsRenewal, IsResponse}
use Rattle.exchange_core.specs.Asked.{IsAskedIn}
use Rattle.exchange_core.specs.Ending.{IsTold, deed_of, first_moment, last_moment}
use Rattle.exchange_core.specs.Matters.{readers_told, telling_for, told_of}
use Rattle.exchange_core.specs.Values.{written}
use Rattle.exchange_core.proofs.Askable.{says-valid}
use Rattle.exchange_core.proofs.Renewals.{counts-last, heard-push, kept-heard, last-heard, last-other, renewal-of, renewed-in, whole-in}
use Rattle.exchange_core.proofs.Settling.{last-got}
use Rattle.exchange_core.proofs.Stepping.{all-heard-stay, heard-stays}

-- as the step tells them

each-same : (how : Ending) (n : ℕ) (s : Option ℕ) (rs : List Reader) → map deed_of (map (telling_for how n s) rs) ≡ map answer_of (map (tell_of how n s) rs)
each-same how n s [] = refl
each-same how n s (r ∷ rs) = ap (λ (ds : List Deed). answer_of (tell_of how n s r) ∷ ds) (each-same how n s rs)

pub told-same : (n : ℕ) (x : Matter) (rs : List Reader) → map deed_of (told_of n x rs) ≡ map answer_of (told_for n x rs)
told-same n Nothing rs = refl
told-same n (Tells r found) rs = refl
told-same n (Starts r e u) rs = refl
told-same n (Goes e u) rs = refl
told-same n (Over e how) rs = each-same how n e.sending (filter (is_reader_of e) rs)

-- no more are told than wait
pub told-few : (n : ℕ) (x : Matter) (rs : List Reader) → length (told_of n x rs) ≤ length rs
told-few n Nothing rs = omega arith
told-few n (Tells r found) rs = omega arith
told-few n (Starts r e u) rs = omega arith
told-few n (Goes e u) rs = omega arith
told-few n (Over e how) rs =
    let map = length-map (filter (is_reader_of e) rs) (telling_for how n e.sending) in
    let is = length-filter (is_reader_of e) rs in
    let le = count_by-le-length (is_reader_of e) rs in
    omega (arith, map, is, le)

-- what was heard

pub heard-as : (S : State) (n : ℕ) (m : Content) → (k : IsHeardAt S n m) → HeardAs S.entries n k.moment m
heard-as S n m k = record {
  peer = k.peer;
  bytes = k.bytes;
  deed = Hears k.peer k.bytes;
  stands = k.stands;
  says = refl;
  spelled = k.spelled;
}

are-heard-as : (S : State) (ns : List ℕ) (ms : List Content) → AreHeardAt S ns ms → AreHeard S.entries ns ms
are-heard-as S [] [] a = tt
are-heard-as S [] (m ∷ ms) a = absurd a
are-heard-as S (n ∷ ns) [] a = absurd a
are-heard-as S (n ∷ ns) (m ∷ ms) a = ((a.0.moment, heard-as S n m a.0), are-heard-as S ns ms a.1)

-- Its moment is that of its entry, or of the one that comes now.
abbrev moment_of : Written → ℕ
moment_of w = w.moment

moment-is : (h : List Written) (x w : Written) (n : ℕ) → slice_get (h ++ x ∷ []) n ≡ Some w → option_map_or moment_of (slice_get h n) x.moment ≡ w.moment
moment-is [] x w zero e = ap moment_of (some-is x w e)
moment-is [] x w (suc n) e = absurd (none-some w e)
moment-is (y ∷ h) x w zero e = ap moment_of (some-is y w e)
moment-is (y ∷ h) x w (suc n) e = moment-is h x w n e

-- The whole response is that of any request which is worked for alike.
whole-work : (a b : CoapRequest) (w : Work) (ms : List Content) → IsWorkOf a w → IsWorkOf b w → whole_of a ms ≡ whole_of b ms
whole-work a b w [] h k = refl
whole-work a b (W.Fetches restarts pieces) (m ∷ ms) h k = rw (h, k) refl
whole-work a b (W.Gives upload) (m ∷ ms) h k = rw (eqb-apart a.method 1 h.0, eqb-apart b.method 1 k.0, sym h.1, sym k.1) refl

module _ (t : ℕ) (p : Peer) (d : List ℕ) (S : State) (rest : List Deed) where
  abbrev x : Written
  x = written t (Hears p d)

  abbrev drafted : List Written
  drafted = x ∷ map (written t) rest

  longer : (S.entries ++ x ∷ []) ++ map (written t) rest ≡ S.entries ++ drafted
  longer = append_assoc S.entries (x ∷ []) (map (written t) rest)

  heard-all : (rs : List Reply) (S1 : State) → S1.entries ≡ S.entries ++ x ∷ [] → AreHeardAt S1 (numbers rs) (messages rs)
      → AreHeard (S.entries ++ drafted) (numbers rs) (messages rs)
  heard-all rs S1 is a =
      subst (λ (h : List Written). AreHeard h (numbers rs) (messages rs)) longer
      (all-heard-stay (S.entries ++ x ∷ []) (map (written t) rest) (numbers rs) (messages rs)
      (subst (λ (h : List Written). AreHeard h (numbers rs) (messages rs)) is (are-heard-as S1 (numbers rs) (messages rs) a)))

  renewed-heard : (r : Reply) (m : Content) (S1 : State) → S1.entries ≡ S.entries ++ x ∷ [] → (a : IsHeardAt S1 r.number m) → HeardAs (S.entries ++ drafted) r.number a.moment m
  renewed-heard r m S1 is a =
      subst (λ (h : List Written). HeardAs h r.number a.moment m) longer
      (heard-stays (S.entries ++ x ∷ []) (map (written t) rest) r.number a.moment m
      (subst (λ (h : List Written). HeardAs h r.number a.moment m) is (heard-as S1 r.number m a)))

  counted : (rs : List Reply) (S1 : State) → S1.entries ≡ S.entries ++ x ∷ [] → AreHeardAt S1 (numbers rs) (messages rs)
      → (q : CoapRequest) (w : Response) → whole_of q (messages rs) ≡ Some w
      → CountsFrom (S.entries ++ drafted) (Live (numbers rs)) t (first_moment S.entries t (Live (numbers rs)))
  counted [] S1 is a q w whole = refl
  counted (r ∷ rs) S1 is a q w whole =
      let one : HeardAs (S.entries ++ x ∷ []) r.number a.0.moment r.message =
      subst (λ (h : List Written). HeardAs h r.number a.0.moment r.message) is (heard-as S1 r.number r.message a.0) in
      let same : option_map_or moment_of (slice_get S.entries r.number) t ≡ a.0.moment = moment-is S.entries x _ r.number one.stands in
      let first : HeardAs (S.entries ++ drafted) r.number a.0.moment r.message =
      subst (λ (h : List Written). HeardAs h r.number a.0.moment r.message) longer
      (heard-stays (S.entries ++ x ∷ []) (map (written t) rest) r.number a.0.moment r.message one) in
      let last = last-heard (S.entries ++ drafted) r.number (numbers rs) a.0.moment r.message (messages rs) first (heard-all rs S1 is a.1) in
      inl (record {
        message = r.message;
        first = subst (λ (k : ℕ). HeardAs (S.entries ++ drafted) r.number k r.message) (sym same) first;
        moment = last.0;
        last = last_of r.message (messages rs);
        ends = last.1;
        other = last-other q r.message (messages rs) w whole;
      })

  found : (q : CoapRequest) (w : Response) (rs : List Reply) (S1 : State) → S1.entries ≡ S.entries ++ x ∷ [] → AreHeardAt S1 (numbers rs) (messages rs)
      → (k : CoapRequest) (work : Work) → IsWorkOf q work → IsWorkOf k work → whole_of k (messages rs) ≡ Some w
      → (ms : List Content) × AreHeard (S.entries ++ drafted) (numbers rs) ms × IsResponse q ms w
  found q w rs S1 is a k work mine its whole =
      (messages rs, heard-all rs S1 is a, inl (whole-work q k work (messages rs) mine its ∙ whole))

  -- what was renewed
  renewed-counted : (s : Stored) (r : Reply) (m : Content) (S1 : State) → S1.entries ≡ S.entries ++ x ∷ [] → IsHeardAt S1 r.number m → eqb m.code 67 ≡ true
      → CountsFrom (S.entries ++ drafted) (Live (s.list ++ r.number ∷ [])) t (last_moment S.entries t (Live (s.list ++ r.number ∷ [])))
  renewed-counted s r m S1 is a says =
      let one = renewed-heard r m S1 is a in
      let same : option_map_or moment_of (slice_get S.entries r.number) t ≡ a.moment =
      moment-is S.entries x _ r.number (subst (λ (h : List Written). HeardAs h r.number a.moment m) is (heard-as S1 r.number m a)).stands in
      subst (λ (k : ℕ). CountsFrom (S.entries ++ drafted) (Live (s.list ++ r.number ∷ [])) t k)
      (sym (ap (λ (v : Option ℕ). option_map_or (moment_in S.entries t) v t) (last-got s.list r.number) ∙ same))
      (counts-last (S.entries ++ drafted) s.list r.number t a.moment m one says)

  renewed-found : (q : CoapRequest) (s : Stored) (r : Reply) (m : Content) (S1 : State) → S1.entries ≡ S.entries ++ x ∷ [] → IsHeardAt S1 r.number m → q.method ≡ 1
      → IsKeptIn S s → confirms s.response.etag m ≡ true → r.message ≡ m
      → (ms : List Content) × AreHeard (S.entries ++ drafted) (s.list ++ r.number ∷ []) ms × IsResponse q ms (renewed_response s.response r.message)
  renewed-found q s r m S1 is a get was says same = (
    (was.message ∷ was.more) ++ m ∷ [],
    heard-push (S.entries ++ drafted) s.list (was.message ∷ was.more) r.number a.moment m
        (all-heard-stay S.entries drafted s.list (was.message ∷ was.more) (kept-heard S s was)) (renewed-heard r m S1 is a),
    inr (get, subst (λ (n : Content). IsRenewal ((was.message ∷ was.more) ++ m ∷ []) (renewed_response s.response n)) (sym same) (renewal-of S s m was says)),
  )

  renewed-format : (s : Stored) (r : Reply) (m : Content) (S1 : State) → S1.entries ≡ S.entries ++ x ∷ [] → IsHeardAt S1 r.number m
      → IsKeptIn S s → confirms s.response.etag m ≡ true → r.message ≡ m
      → IsInFormat (S.entries ++ drafted) (s.list ++ r.number ∷ []) (renewed_response s.response r.message)
  renewed-format s r m S1 is a was says same =
      subst (λ (n : Content). IsInFormat (S.entries ++ drafted) (s.list ++ r.number ∷ []) (renewed_response s.response n)) (sym same)
      (renewed-in (S.entries ++ drafted) S s m r.number a.moment was (heard-stays S.entries drafted) (renewed-heard r m S1 is a) says
      (all-heard-stay S.entries drafted s.list (was.message ∷ was.more) (kept-heard S s was)))

  asked-by : (r : Reader) → IsKnown S r → IsAskedIn S.entries r
  asked-by r k = record { moment = k.moment; ask = k.ask; request = k.request; stands = k.stands; sense = k.sense }

  -- who waits for an exchange
  each-told : (n : ℕ) (e : Exchange) (how : Ending)
      → ((r : Reader) → IsKnown S r → is_reader_of e r ≡ true → IsTold S.entries drafted t (telling_for how n e.sending r))
      → (rs : List Reader) → AllByRecursion (IsKnown S) rs → AllByRecursion (IsTold S.entries drafted t) (readers_told how n e rs)
  each-told n e how one [] a = tt
  each-told n e how one (r ∷ rs) a = by (is_reader_of e r) refl (each-told n e how one rs a.1)
    where
      by : (b : Bool) → is_reader_of e r ≡ b → AllByRecursion (IsTold S.entries drafted t) (readers_told how n e rs)
          → AllByRecursion (IsTold S.entries drafted t)
          (map (telling_for how n e.sending) (cond b (r ∷ filter (is_reader_of e) rs) (filter (is_reader_of e) rs)))
      by true reads ih = (one r a.0 reads, ih)
      by false reads ih = ih

  module _ (m : Content) (new : Numbers) (may : MayStep t S) (known : is_some (link_of S.links p).last_mid ≡ true) (short : length d ≤ 2048) (spelled : Spells m d)
      (kept : (verdict_of t (link_of S.links p) m).news ≡ N.Lost → ⊥) where
    one-told : (n : ℕ) (e : Exchange) (how : Ending) → matter_of t p m (verdict_of t (link_of S.links p) m) S ≡ Over e how
        → (r : Reader) → IsKnown S r → is_reader_of e r ≡ true → IsTold S.entries drafted t (telling_for how n e.sending r)
    unfolding asked-by
    one-told n e NotUnderstood is r k reads = record { asked = asked-by r k; found = refl; format = tt; counts = refl }
    one-told n e Reset is r k reads = record { asked = asked-by r k; found = refl; format = tt; counts = refl }
    one-told n e TimedOut is r k reads = record { asked = asked-by r k; found = refl; format = tt; counts = refl }
    one-told n e Turned is r k reads = record { asked = asked-by r k; found = refl; format = tt; counts = refl }
    one-told n e (Whole w rs) is r k reads =
        let o = over-heard t p d m new S may known short spelled kept e w rs is in
        record {
          asked = asked-by r k;
          found = found k.request w rs (hears t p d m new S) refl o.1 o.0.request e.work (k.work e o.0.has reads) o.0.work o.0.whole;
          format = whole-in (S.entries ++ drafted) o.0.request w (numbers rs) (messages rs) o.0.whole (heard-all rs (hears t p d m new S) refl o.1);
          counts = counted rs (hears t p d m new S) refl o.1 o.0.request w o.0.whole;
        }
    one-told n e (Renewed s r) is k known_one reads =
        let o = over-renewed t p d m new S may known short spelled kept e s r is in
        record {
          asked = asked-by k known_one;
          found = renewed-found known_one.request s r m (hears t p d m new S) refl o.heard (known_one.method e o.has reads ∙ o.get) o.was o.says (ap (λ (u : Reply). u.message) o.reply);
          format = renewed-format s r m (hears t p d m new S) refl o.heard o.was o.says (ap (λ (u : Reply). u.message) o.reply);
          counts = renewed-counted s r m (hears t p d m new S) refl o.heard (says-valid s.response.etag m o.says);
        }

    pub all-told : (n : ℕ) (x : Matter) → matter_of t p m (verdict_of t (link_of S.links p) m) S ≡ x → AllByRecursion (IsKnown S) S.readers
        → AllByRecursion (IsTold S.entries drafted t) (told_of n x S.readers)
    all-told n Nothing is known_all = tt
    all-told n (Tells r found) is known_all = tt
    all-told n (Starts r e u) is known_all = tt
    all-told n (Goes e u) is known_all = tt
    all-told n (Over e how) is known_all = each-told n e how (one-told n e how is) S.readers known_all
