-- A notification that wasn't rejected came under the token of a watch. Where it counts for nothing, it is no newer than what came before.
use Rattle.std.proofs.Common.{◌≡◌, ℕ, zero, suc, ◌+◌, ◌<◌, ◌≤◌, Bool, true, false, eqb, leb, inl, inr, List, [], ◌∷◌, length, Option, Some, None, refl, sym, ap, subst, ◌∙◌, arith}
use Rattle.std.specs.Prelude.{find}
use Rattle.std.specs.List.{Contains, cons_option, filter_map}
use Rattle.std.proofs.lemmas.Bool.{false≢true, le-leb}
use Rattle.std.proofs.lemmas.Bool.Decides.{eqb_tells}
use Rattle.std.proofs.lemmas.List.Elements.{Contains-append_cases}
use Rattle.std.proofs.lemmas.Slice.Eq.{bytes_eq-Decides}
use Rattle.coap_codec.specs.declared.message.MsgType.{MsgType}
use Rattle.coap_codec.specs.declared.message.MsgType.TheVariants.{Con, Non, Ack, Rst}
use Rattle.coap_codec.specs.Recognition.{is_rejected}
use Rattle.coap_codec.specs.Spelling.{Content, Spells}
use Rattle.uri_map.specs.declared.peer.Peer.{Peer}
use Rattle.uri_map.specs.Peers.{same_peer}
use Rattle.uri_map.proofs.CallerLemmas.{same_peer-same}
use Rattle.ask_model.specs.Requests.{CoapRequest}
use Rattle.ask_model.specs.Sharing.{asked_key, asks_same}
use Rattle.ask_model.proofs.CallerLemmas.{same-key}
use Rattle.cache_key.proofs.CallerLemmas.{keys_decided}
use Rattle.journal_book.specs.Entries.{Deed, Opens, Asks, Sends, Hears, Passes, Answers, Shuts, Seals, Carries, Written}
use Rattle.observe_share.specs.declared.registration.Registration.{Registration}
use Rattle.observe_share.specs.Newer.{newer}
use Rattle.observe_share.specs.Watches.{counts_for}
use Rattle.history_laws.specs.Confirmations.{Confirmation, answer_by, empty, given}
use Rattle.history_laws.specs.Confirming.{owed}
use Rattle.history_laws.specs.Readings.{Noted, Note, First, are_copies, Copies, Confirms, Says, Notice, entries, at, before, noted}
use Rattle.history_laws.specs.Transmissions.{FirstSending, first_at}
use Rattle.history_laws.specs.Exchanges.{awaited, openings, waits_for}
use Rattle.history_laws.specs.Observing.{Watch, counts, notice_by, number_or_zero, outdated, sending_of, version, watch_under, watched, watches}
use Rattle.history_laws.specs.Observing as O
use Rattle.history_laws.specs.Hearing.{IsReplyKind, answers, answers_by, expected, is_such, is_this, is_under, observation_of, went_under}
use Rattle.history_laws.specs.Justified.{Follows, Legal, MayCome, MayConfirm, SentNote}
use Rattle.history_laws.proofs.CallerLemmas.{all-of, and-left, and-right, any-of, at-before, at-below, at-entries, at-still, before-twice, contains-mapped, contains-none, find-any, find-some, first-found, first-or-later, firsts-tokens, follows-at, HeldFrom, IsTold, legal-before, length-before, none-some, not-true, outdated-since, said, some-is, this-is, uncounted, waits-first, watch-fits, watches-held}
use Rattle.history_claims.specs.Headline.{IsEntry, IsFirstSending, IsNew, anew, IsRepeat, again, IsResponse, IsNotice, IsNotified, IsOlder, IsNewest, IsUnrejected, MayRepeat}
use Rattle.history_claims.proofs.Notified.{Notified, notified-by, one-sent}
use Rattle.history_claims.proofs.Quiet.{at-there}
use Rattle.history_claims.proofs.Repeats.{heard-at, heard-entry, repeats-again, SaysAt}
use Rattle.history_claims.proofs.Sending.{first-before, first-entry, first-member, first-of, sending_of as first_sending}
use Rattle.history_claims.proofs.Waiting.{brings, unanswered-till}

-- Nothing is new and a repeat.
pub never-again : (fuel j : ℕ) (h : List Written) (p : Peer) → j < fuel → IsNew h p j → IsRepeat h p j → ⊥
never-again zero j h p lt a b = absurd (omega (arith, lt))
never-again (suc fuel) j h p lt (anew f) (again i alike new) =
    let less = alike.earlier in never-again fuel i h p (omega (arith, lt, less)) new (f i alike)

-- the history before the next entry
last-is : (l : List Noted) (n : ℕ) (x : Noted) → n + 1 ≡ length l → at l n ≡ Some x → l ≡ x ∷ before l n
last-is [] n x same e = absurd (none-some x e)
last-is (z ∷ rest) n x same e =
    elim (eqb_tells n (length rest)) [
      | inl w ↦ let is = some-is z x (rw (w.0) at e) in rw (w.0) (ap (λ (v : Noted). v ∷ rest) is)
      | inr w ↦ absurd (w.1 (omega (arith, same)))
    ]

before-next : (l : List Noted) (n : ℕ) (x : Noted) → at l n ≡ Some x → n + 1 < length l → before l (n + 1) ≡ x ∷ before l n
before-next [] n x e lt = absurd (none-some x e)
before-next (y ∷ older) n x e lt =
    elim (eqb_tells n (length older)) [
      | inl w ↦ let same = w.1 in absurd (omega (arith, same, lt))
      | inr w ↦
          let there : at older n ≡ Some x = rw (w.0) at e in
          rw (w.0) (elim (eqb_tells (n + 1) (length older)) [
            | inl v ↦ rw (v.0) (last-is older n x v.1 there)
            | inr v ↦ let other = v.1 in rw (v.0) (before-next older n x there (omega (arith, lt, other)))
          ])
    ]

-- What is owed comes next.
record IsGiven (d : Deed) (c : Confirmation) : Type 0 where
  bytes : List ℕ
  is : d ≡ Sends c.peer bytes None
  spelled : Spells (empty c.kind c.mid) bytes

given-next : (l : List Noted) (t : ℕ) (d : Deed) (note : Note) (c : Confirmation) → Follows l t d note → owed l ≡ Some c → are_copies l ≡ false → IsGiven d c
given-next l t d note c may owes own = by d note may
  where
    never : owed l ≡ None → ⊥
    never none = none-some c (sym none ∙ owes)

    rests : MayCome l → ⊥
    rests come = never (come.1.given come.0)

    confirms : (p : Peer) (b : List ℕ) (w : Option ℕ) → w ≡ None → MayConfirm l p b → IsGiven (Sends p b w) c
    confirms p b w none it =
        let same = some-is it.confirmation c (sym it.is_owed ∙ owes) in
        record {
          bytes = b;
          is = ap (λ (q : Peer). Sends q b w) (it.peer ∙ ap (λ (k : Confirmation). k.peer) same) ∙ ap (Sends c.peer b) none;
          spelled = subst (λ (k : Confirmation). Spells (empty k.kind k.mid) b) same it.spelled;
        }

    sends : (p : Peer) (b : List ℕ) (w : Option ℕ) (note : Note) → SentNote l t p b w note → IsGiven (Sends p b w) c
    sends p b w (First o n) f = absurd (never f.0)
    sends p b w (Copies i) f = absurd (never f.0)
    sends p b w Confirms f = confirms p b w f.0 f.1
    sends p b w note f = absurd f

    by : (d : Deed) (note : Note) → Follows l t d note → IsGiven d c
    by (Opens k) note f = absurd (rests f.0)
    by (Asks k a) note f = absurd (rests f.0)
    by (Sends p b w) note f = sends p b w note f.1
    by (Hears p b) note f = absurd (rests f.0)
    by Passes note f = absurd (rests f.0)
    by (Answers k i g) note f = absurd (never f.0)
    by (Shuts k) note f = absurd (never f.0)
    by Seals note f = absurd (rests f.0)
    by (Carries k mark d) note f = absurd (false≢true (sym own ∙ f.0))

-- A response that wasn't rejected answers a first sending.
rejects-unmatched : (k : MsgType) (rejected vain : Bool) → MayRepeat k → vain ≡ false → answer_by k false rejected vain ≡ Some Rst
rejects-unmatched Con rejected vain kind e = refl
rejects-unmatched Non rejected false kind e = refl
rejects-unmatched Non rejected true kind e = absurd (false≢true (sym e))
rejects-unmatched Ack rejected vain kind e = absurd kind
rejects-unmatched Rst rejected vain kind e = absurd kind

no-response : (c : ℕ) → 32 ≤ c → eqb c 0 ≡ false
no-response c le = elim (eqb_tells c 0) [ inl w ↦ let none = w.1 in absurd (omega (arith, none, le)) | inr w ↦ w.0 ]

unrejected-answers : (l : List Noted) (j t : ℕ) (p : Peer) (b : List ℕ) (m : Content) (to : Option ℕ) (notice : Notice) (y : Noted) → Legal l
    → at l j ≡ Some (noted t (Hears p b) (Says m to notice)) → MayRepeat m.kind → 32 ≤ m.code → at l (j + 1) ≡ Some y
    → IsUnrejected (entries l) p j m → (i : ℕ) × (to ≡ Some i)
unrejected-answers l j t p b m (Some i) notice y legal stands kind response next kept = (i, refl)
unrejected-answers l j t p b m None notice y legal stands kind response next kept =
    let here = before-next l j _ stands (at-below l (j + 1) _ next) in
    let owes : owed (before l (j + 1)) ≡ Some (record { peer = p; kind = Rst; mid = m.mid }) =
    ap owed here ∙ ap (given p m.mid) (rejects-unmatched m.kind (is_rejected m) (eqb m.code 0) kind (no-response m.code response)) in
    let it = given-next (before l (j + 1)) y.written.moment y.written.deed y.note _ (follows-at l (j + 1) y legal next) owes (ap are_copies here) in
    let entry : IsEntry (entries l) (j + 1) y.written.moment (Sends p it.bytes None) =
    subst (λ (d : Deed). IsEntry (entries l) (j + 1) y.written.moment d) it.is (at-entries l (j + 1) y next) in
    absurd (kept y.written.moment it.bytes entry it.spelled)

pub may-such : (k : MsgType) → MayRepeat k → is_such k ≡ true
may-such Con kind = refl
may-such Non kind = refl
may-such Ack kind = absurd kind
may-such Rst kind = absurd kind

may-answer : (l : List Noted) (p : Peer) (m : Content) (k : MsgType) (vain : Bool) (i : ℕ) → MayRepeat k → answers_by l p m k vain true ≡ Some i
    → find (is_under l p m) (expected l) ≡ Some i
may-answer l p m Con vain i kind e = e
may-answer l p m Non vain i kind e = e
may-answer l p m Ack vain i kind e = absurd kind
may-answer l p m Rst vain i kind e = absurd kind

-- what an awaited first sending is awaited by
awaited-of : (f : ℕ → Option ℕ) (xs : List ℕ) (i : ℕ) → Contains (filter_map f xs) i → (o : ℕ) × (f o ≡ Some i)
awaited-of f [] i h = absurd (contains-none i h)
awaited-of f (x ∷ xs) i h = by (f x) refl h (awaited-of f xs i)
  where
    by : (v : Option ℕ) → f x ≡ v → Contains (cons_option v (filter_map f xs)) i → (Contains (filter_map f xs) i → (o : ℕ) × (f o ≡ Some i))
        → (o : ℕ) × (f o ≡ Some i)
    by None is h ih = ih h
    by (Some k) is h ih = elim (first-or-later k (filter_map f xs) i h) [ inl e ↦ (x, is ∙ ap (λ (n : ℕ). Some n) e) | inr w ↦ ih w ]

under-some : (p : Peer) (token : List ℕ) (v : Option FirstSending) → went_under p token v ≡ true
    → (f : FirstSending) × (v ≡ Some f) × (f.peer ≡ p) × (f.message.token ≡ token)
under-some p token None e = absurd (false≢true e)
under-some p token (Some f) e = (
  f,
  refl,
  same_peer-same f.peer p (and-left (same_peer f.peer p) _ e),
  (bytes_eq-Decides f.message.token token).0 (and-right (same_peer f.peer p) _ e),
)

-- a notification that wasn't rejected
module _ (l : List Noted) (legal : Legal l) (p : Peer) (j : ℕ) (m : Content) (n : IsNotice (entries l) p j m) (y : Noted) (next : at l (j + 1) ≡ Some y) where
  pub says : SaysAt l p j n.response.moment m
  says = elim (heard-at l p j n.response.moment m legal n.response.heard) [
    | inl s ↦ s
    | inr r ↦ absurd (never-again (suc j) j (entries l) p (omega arith) n.new (repeats-again l p j n.response.moment m legal r))
  ]

  pub to : (i : ℕ) × (says.to ≡ Some i)
  to = unrejected-answers l j n.response.moment p says.bytes m says.to says.notice y legal says.stands n.kind n.response.response next n.kept

  abbrev pub sending : ℕ
  sending = to.0

  pub stands : at l j ≡ Some (noted n.response.moment (Hears p says.bytes) (Says m (Some sending) says.notice))
  stands = subst (λ (v : Option ℕ). at l j ≡ Some (noted n.response.moment (Hears p says.bytes) (Says m v says.notice))) to.1 says.stands

  pub response : leb 32 m.code ≡ true
  response = le-leb 32 m.code n.response.response

  to-is : answers (before l j) p m ≡ Some sending
  to-is = (said (before l j) n.response.moment p says.bytes m sending says.notice (follows-at l j _ legal stands)).to

  expected-so : find (is_under (before l j) p m) (expected (before l j)) ≡ Some sending
  expected-so =
      may-answer (before l j) p m m.kind (eqb m.code 0) sending n.kind
      (subst (λ (b : Bool). answers_by (before l j) p m m.kind (eqb m.code 0) b ≡ Some sending) response to-is)

  among : Contains (expected (before l j)) sending × (is_under (before l j) p m sending ≡ true)
  among = find-some (is_under (before l j) p m) (expected (before l j)) sending expected-so

  pub first : (f : FirstSending) × (first_at (before l j) sending ≡ Some f) × (f.peer ≡ p) × (f.message.token ≡ m.token)
  first = under-some p m.token (first_at (before l j) sending) among.1

  -- No reply to it was awaited, since one had come.
  pub unwaited : (o : ℕ) → waits_for (before l j) o ≡ Some sending → ⊥
  unwaited o e =
      let w = waits-first (before l j) o sending e in
      let is = some-is _ _ (sym first.1 ∙ first-found (before l j) w.0 o sending w.1 w.2 w.3) in
      let peer : w.1 ≡ p = sym (ap (λ (f : FirstSending). f.peer) is) ∙ first.2 in
      let token : w.2.token ≡ m.token = sym (ap (λ (f : FirstSending). f.message.token) is) ∙ first.3 in
      let there = first-before l j w.0 o sending w.1 w.2 w.3 in
      let own = first-of l n.sending n.moment p n.sent legal n.first in
      let same : sending ≡ n.sending =
      firsts-tokens l (first_sending sending w.0 o w.1 w.2) (first_sending n.sending n.moment own.0 p n.sent) legal
      (first-member l w.0 o sending w.1 w.2 there) (first-member l n.moment own.0 n.sending p n.sent own.1) (token ∙ n.response.token) in
      let mine : IsFirstSending (entries l) n.sending w.0 w.1 w.2 =
      subst (λ (i : ℕ). IsFirstSending (entries l) i w.0 w.1 w.2) same (first-entry l w.0 o sending w.1 w.2 legal there) in
      let one = one-sent (entries l) n.sending n.moment w.0 p w.1 n.sent w.2 n.first mine in
      let replied : IsResponse (entries l) w.1 sending w.2 n.earlier n.reply =
      subst (λ (q : Peer). IsResponse (entries l) q sending w.2 n.earlier n.reply) one.0
      (subst (λ (c : Content). IsResponse (entries l) p sending c n.earlier n.reply) one.1
      (subst (λ (i : ℕ). IsResponse (entries l) p i n.sent n.earlier n.reply) (sym same) n.replied)) in
      let repeats = unanswered-till l j _ w.0 o sending w.1 w.2 legal (legal-before l j legal) stands w.3 e n.earlier n.reply n.before replied in
      never-again (suc n.earlier) n.earlier (entries l) p (omega arith) n.new_then (subst (λ (q : Peer). IsRepeat (entries l) q n.earlier) peer repeats)

  -- So it came under the token of a watch.
  watching : Contains (watched (before l j)) sending
  watching = elim (Contains-append_cases (awaited (before l j)) (watched (before l j)) sending among.0) [
    | inl a ↦ let o = awaited-of (waits_for (before l j)) (openings (before l j)) sending a in absurd (unwaited o.0 o.1)
    | inr w ↦ w
  ]

  pub watch : (w : Watch) × (watch_under (before l j) m.token ≡ Some w)
  watch =
      let it = contains-mapped O.sending_of (watches (before l j)) sending watching in
      let fits = watch-fits (before l j) it.0 (legal-before l j legal) it.1 in
      let there = first-found (before l j) fits.moment it.0.held.opening it.0.sending _ _ fits.first in
      let mine = some-is _ _ (sym (ap (first_at (before l j)) it.2 ∙ first.1) ∙ there) in
      let token : it.0.held.token ≡ m.token = sym (ap (λ (f : FirstSending). f.message.token) mine) ∙ first.3 in
      let any = any-of (O.is_under m.token) (watches (before l j)) it.0 it.1 ((bytes_eq-Decides it.0.held.token m.token).1 token) in
      find-any (O.is_under m.token) (watches (before l j)) any

  abbrev pub told : IsTold l j watch.0
  told = record {
    moment = n.response.moment;
    peer = p;
    bytes = says.bytes;
    message = m;
    sending = sending;
    notice = says.notice;
    stands = stands;
    response = response;
    such = may-such m.kind n.kind;
    under = watch.1;
  }

-- What counts for nothing is no newer than what the watch holds.
not-newer : (b : Bool) (v : Option ℕ) (t : ℕ) (r : Registration) → counts_for (notice_by b v) t r ≡ false
    → (n : ℕ) × (v ≡ Some n) × (newer r.version r.moment n t ≡ false)
not-newer true (Some n) t r e = (n, refl, e)
not-newer false (Some n) t r e = (n, refl, e)
not-newer true None t r e = absurd (false≢true (sym e))
not-newer false None t r e = absurd (false≢true (sym e))

same-moment : (h : List Written) (j s t : ℕ) (d e : Deed) → IsEntry h j s d → IsEntry h j t e → s ≡ t
same-moment h j s t d e a b = ap (λ (x : Written). x.moment) (some-is _ _ (sym a ∙ b))

-- Before the entry of an ask nothing that counts came for what is read.
module _ (l : List Noted) (i : ℕ) (z : Noted) (q : CoapRequest) (s : ℕ) (legal : Legal l) (here : at l i ≡ Some z)
    (newest : outdated (before l i) (asked_key q) s ≡ false) (p : Peer) (j : ℕ) (m : Content) (later : s < j) (below : j < i)
    (n : IsNotice (entries l) p j m) (y : Noted) (next : at l (j + 1) ≡ Some y) where
  abbrev w : Watch
  w = (watch l legal p j m n y next).0

  abbrev it : Notified l j w m
  it = notified-by l j w legal (told l legal p j m n y next)

  older-so : asks_same q it.exchange.request ≡ true → IsOlder (entries l) w.held.opening it.exchange.request j m it.is
  older-so same =
      record {
        other = held.last.number;
        reply = held.last.message;
        earlier = omega (arith, less, len);
        response = record {
          after = subst (λ (k : ℕ). k < held.last.number) sending-is held.fits.after;
          moment = held.fits.moment;
          heard = heard-entry l r.peer held.last.number held.fits.moment held.fits.bytes held.last.message _ heard held.fits.spelled;
          response = held.fits.response;
          token = held.fits.token ∙ ap (λ (c : Content). c.token) one.1;
          kind = brings held.last.message.kind held.last.message.mid _
              (subst (λ (c : Content). IsReplyKind held.last.message.kind held.last.message.mid c.mid) one.1 held.fits.kind);
        };
        number = not_newer.0;
        numbered = not_newer.1;
        older = subst (λ (t : ℕ). newer (number_or_zero (version held.last.message)) held.fits.moment not_newer.0 t ≡ false) moment
            (subst (λ (t : ℕ). newer (number_or_zero (version held.last.message)) t not_newer.0 n.response.moment ≡ false) held.moment
            (subst (λ (v : ℕ). newer v w.held.moment not_newer.0 n.response.moment ≡ false) held.number not_newer.2));
      }
    where
      r : CoapRequest
      r = it.exchange.request

      early : Legal (before l j)
      early = legal-before l j legal

      under : watch_under (before l j) m.token ≡ Some w
      under = (watch l legal p j m n y next).1

      key : w.held.key ≡ asked_key q
      key = it.key ∙ sym (same-key q it.exchange.request same)

      counts-none : counts (told l legal p j m n y next).notice.observation ≡ false
      counts-none = not-true _ (λ c.
          false≢true (sym newest ∙ outdated-since (before l i) (asked_key q) s j later (record {
            watch = w;
            news = record {
              moment = n.response.moment;
              peer = p;
              bytes = (told l legal p j m n y next).bytes;
              message = m;
              sending = sending l legal p j m n y next;
              notice = (told l legal p j m n y next).notice;
              stands = at-still l i j z _ here below (stands l legal p j m n y next);
              counted = c;
              under = subst (λ (h : List Noted). watch_under h m.token ≡ Some w) (sym (before-twice l i j z here below)) under;
            };
            keyed = (keys_decided w.held.key (asked_key q)).1 key;
          })))

      observed : observation_of (before l j) n.response.moment m (Some (sending l legal p j m n y next)) ≡ (told l legal p j m n y next).notice.observation
      observed =
          (said (before l j) n.response.moment p (told l legal p j m n y next).bytes m (sending l legal p j m n y next) (told l legal p j m n y next).notice
          (follows-at l j _ legal (stands l legal p j m n y next))).observation

      unawaited : is_this (sending l legal p j m n y next) (waits_for (before l j) (first l legal p j m n y next).0.opening) ≡ false
      unawaited = not-true _ (λ t. unwaited l legal p j m n y next (first l legal p j m n y next).0.opening (this-is (sending l legal p j m n y next) _ t))

      not_newer : (v : ℕ) × (version m ≡ Some v) × (newer w.held.version w.held.moment v n.response.moment ≡ false)
      not_newer =
          not-newer _ (version m) n.response.moment w.held
          (uncounted (before l j) n.response.moment m (sending l legal p j m n y next) w (first l legal p j m n y next).0 (response l legal p j m n y next) (first l legal p j m n y next).1
          unawaited under (may-such m.kind n.kind) (ap counts observed ∙ counts-none))

      held : HeldFrom (before l j) w
      held =
          all-of (HeldFrom (before l j)) (watches (before l j)) w (watches-held (before l j) early)
          (find-some (O.is_under m.token) (watches (before l j)) w under).0

      heard-there : at l held.last.number ≡ Some (noted held.fits.moment (Hears held.fits.peer held.fits.bytes) (Says held.last.message (Some held.last.sending) held.fits.notice))
      heard-there = at-before l j held.last.number _ held.fits.heard

      less : held.last.number < length (before l j)
      less = at-below (before l j) held.last.number _ held.fits.heard

      len : length (before l j) ≡ j
      len = length-before l j _ (stands l legal p j m n y next)

      sending-is : held.last.sending ≡ it.is.observed.heard.sending
      sending-is = held.under ∙ sym it.sending

      mine : IsFirstSending (entries l) it.is.observed.heard.sending held.fits.sent_at held.fits.peer held.fits.sent
      mine =
          subst (λ (v : ℕ). IsFirstSending (entries l) v held.fits.sent_at held.fits.peer held.fits.sent) sending-is
          (first-entry l held.fits.sent_at w.held.opening held.last.sending held.fits.peer held.fits.sent legal
          (first-before l j held.fits.sent_at w.held.opening held.last.sending held.fits.peer held.fits.sent held.fits.first))

      one : (held.fits.peer ≡ it.exchange.request.peer) × (held.fits.sent ≡ it.is.observed.heard.sent)
      one = one-sent (entries l) it.is.observed.heard.sending held.fits.sent_at it.is.observed.heard.sent_for.moment held.fits.peer it.exchange.request.peer
          held.fits.sent it.is.observed.heard.sent mine it.is.observed.heard.sent_for.first

      heard : at l held.last.number ≡ Some (noted held.fits.moment (Hears it.exchange.request.peer held.fits.bytes) (Says held.last.message (Some held.last.sending) held.fits.notice))
      heard = subst (λ (v : Peer). at l held.last.number ≡ Some (noted held.fits.moment (Hears v held.fits.bytes) (Says held.last.message (Some held.last.sending) held.fits.notice))) one.0 heard-there

      moment : n.response.moment ≡ it.is.response.moment
      moment = same-moment (entries l) j n.response.moment it.is.response.moment _ _ n.response.heard.stands it.is.response.heard.stands

  pub newest-so : (o : ℕ) × (r : CoapRequest) × (known : IsNotified (entries l) o r j m) × (asks_same q r ≡ true → IsOlder (entries l) o r j m known)
  newest-so = (w.held.opening, it.exchange.request, it.is, older-so)

pub newest-in : (l : List Noted) (i : ℕ) (z : Noted) (q : CoapRequest) (s : ℕ) (js : List ℕ) → Legal l → at l i ≡ Some z
    → outdated (before l i) (asked_key q) s ≡ false → IsNewest (entries l) (s ∷ js) i q
newest-in l i z q s js legal here newest p j m later below n =
    let deep = at-below l i z here in
    let y = at-there l (j + 1) (omega (arith, below, deep)) in
    newest-so l i z q s legal here newest p j m later below n y.0 y.1
