-- Messages under the tokens of what is observed, and what becomes of that.
use Rattle.std.proofs.Common.{◌≡◌, ℕ, Bool, true, false, cond, ◌&&◌, List, [], ◌∷◌, ◌++◌, length, Option, Some, None, Result, Ok, Err, refl, sym, ap, subst, ◌∙◌, append-nil}
use Rattle.std.specs.Prelude.{find, nat_lt, option_to_list, IfOk}
use Rattle.std.specs.List.{AllByRecursion}
use Rattle.coap_codec.specs.Spelling.{Content}
use Rattle.uri_map.specs.declared.peer.Peer.{Peer}
use Rattle.observe_share.specs.declared.registration.Registration.{Registration}
use Rattle.observe_share.specs.declared.notice.Notice.{Notice}
use Rattle.observe_share.specs.declared.notice.Notice.TheVariants.{Update, Other}
use Rattle.observe_share.specs.Watches as Watches
use Rattle.observe_share.specs.Watches.{counts_for, if_counts, noticed, without}
use Rattle.resp_cache.specs.Stored.{Stored}
use Rattle.ask_model.specs.Requests.{CoapRequest}
use Rattle.journal_book.specs.Entries.{Written}
use Rattle.message_layer.specs.Values.{LinkValue, Told, response}
use Rattle.message_layer.specs.Prepared.{MayFollow}
use Rattle.message_layer.specs.declared.prepared.Heeding.{Heeding}
use Rattle.message_layer.specs.declared.verdict.News.TheVariants as N
use Rattle.history_laws.specs.Hearing.{is_such, is_update}
use Rattle.history_laws.specs.Observing.{as_first, notice_by, notice_in, number_or_zero, version, first_reply}
use Rattle.history_laws.specs.Progress.{Reply, Ending, Progress, Ends, Fetches}
use Rattle.history_laws.proofs.CallerLemmas.{all-of, find-some, none-some, some-is, step-unrenewed}
use Rattle.exchange_model.specs.declared.kept.Exchange.{Exchange}
use Rattle.exchange_model.specs.declared.kept.Work.{Work}
use Rattle.exchange_model.specs.declared.kept.Work.TheVariants as W
use Rattle.exchange_model.specs.State.{State}
use Rattle.exchange_model.specs.Matters.{Matter, Nothing, Tells, Starts, asked_in, content_by, may_start, progress_with, starting, tells_of, told_alone, told_so}
use Rattle.exchange_model.specs.Hearing.{Numbers, gone_by, unless_updated, watches_by}
use Rattle.exchange_model.specs.Watching.{is_written_by, registered, registers, registration_of, tokens_of}
use Rattle.exchange_progress.specs.declared.coming.Ended.{Ended}
use Rattle.exchange_core.specs.declared.matter.Matter.{Matter as RustMatter}
use Rattle.exchange_core.specs.declared.matter.Matter.TheVariants as M
use Rattle.exchange_core.specs.declared.matter.Going.{Going}
use Rattle.exchange_core.specs.declared.matter.Notification.{Notification}
use Rattle.exchange_core.specs.declared.matter.Starting.{Starting}
use Rattle.exchange_core.specs.declared.notifying.Watching.{Watching}
use Rattle.exchange_core.specs.Matters.{IsMatter, more_in, IsNextToken, IsPrepared, matter_for}
use Rattle.exchange_core.proofs.MatterBy.{prepared-still}
use Rattle.exchange_core.specs.Reading.{IsWatchHere}
use Rattle.exchange_core.specs.Notifying.{IsNoted, IsWatchedBy, IsWatchedFor, ReadsSo, is_alone, matter_alone, matter_told, registered_by, registered_for, unless_more}
use Rattle.blockwise.specs.Downloads.{no_pieces}
use Rattle.reply_reading.specs.Findings.{Found}
use Rattle.exchange_model.specs.Calls.{goes_with}
use Rattle.exchange_progress.specs.Coming.{IsComing, IsEnded, IsOnward}
use Rattle.exchange_progress.specs.declared.coming.Onward.{Onward}
use Rattle.exchange_progress.specs.declared.coming.Coming.{Coming}
use Rattle.exchange_progress.specs.declared.coming.Coming.TheVariants as Comes
use Rattle.exchange_progress.specs.declared.coming.Ended.TheVariants as How

-- what is told of no exchange

module _ (t : ℕ) (p : Peer) (m : Content) (S : State) where
  abbrev u : Progress
  u = as_first (length S.entries) 0 m

  pub alone-not-such : is_such m.kind ≡ false → Nothing ≡ told_alone t p N.Response m S
  alone-not-such e = by (find (Watches.is_under m.token) S.watches)
    where
      by : (v : Option Registration) → Nothing ≡ tells_of t p m S v
      by None = refl
      by (Some r) = sym (ap (λ (b : Bool). cond (b && counts_for (notice_in m) t r) (told_so t p S r (notice_in m) u) Nothing) e)

  pub alone-not-counting : (notice : Notice) → notice ≡ notice_in m
      → None ≡ if_counts notice t (find (Watches.is_under m.token) S.watches) → Nothing ≡ told_alone t p N.Response m S
  alone-not-counting notice same e = by (find (Watches.is_under m.token) S.watches) e
    where
      uncounted : (b c : Bool) (r : Registration) (x : Matter) → counts_for notice t r ≡ c → counts_for (notice_in m) t r ≡ c → None ≡ cond c (Some r) None
          → Nothing ≡ cond (b && c) x Nothing
      uncounted true true r x p q h = absurd (none-some r h)
      uncounted true false r x p q h = refl
      uncounted false c r x p q h = refl

      by : (v : Option Registration) → None ≡ if_counts notice t v → Nothing ≡ tells_of t p m S v
      by None h = refl
      by (Some r) h =
          let c : Bool = counts_for notice t r in
          let is : counts_for (notice_in m) t r ≡ c = ap (λ (n : Notice). counts_for n t r) (sym same) in
          uncounted (is_such m.kind) c r _ refl is h
          ∙ ap (λ (b : Bool). cond (is_such m.kind && b) (told_so t p S r (notice_in m) u) Nothing) (sym is)

  pub alone-counting : (notice : Notice) (r : Registration) → notice ≡ notice_in m → is_such m.kind ≡ true
      → Some r ≡ if_counts notice t (find (Watches.is_under m.token) S.watches)
      → told_so t p S r notice u ≡ told_alone t p N.Response m S
  alone-counting notice r same such e = by (find (Watches.is_under m.token) S.watches) e
    where
      counted : (c : Bool) (q : Registration) → Some r ≡ cond c (Some q) None → (c ≡ true) × (r ≡ q)
      counted true q h = (refl, some-is r q h)
      counted false q h = absurd (none-some r (sym h))

      by : (v : Option Registration) → Some r ≡ if_counts notice t v → told_so t p S r notice u ≡ tells_of t p m S v
      by None h = absurd (none-some r (sym h))
      by (Some q) h =
          let both = counted (counts_for notice t q) q h in
          let counts : counts_for (notice_in m) t q ≡ true = ap (λ (x : Notice). counts_for x t q) (sym same) ∙ both.0 in
          ap (λ (x : Notice). told_so t p S r x u) same
          ∙ (ap (λ (y : Registration). told_so t p S y (notice_in m) u) both.1
          ∙ sym (ap (λ (b : Bool). cond (b && counts_for (notice_in m) t q) (told_so t p S q (notice_in m) u) Nothing) such
          ∙ ap (λ (b : Bool). cond b (told_so t p S q (notice_in m) u) Nothing) counts))

-- A watch for which a notice counts stands.

counted-found : (notice : Notice) (t : ℕ) (v : Option Registration) (r : Registration) → Some r ≡ if_counts notice t v → v ≡ Some r
counted-found notice t None r h = absurd (none-some r (sym h))
counted-found notice t (Some q) r h = by (counts_for notice t q) h
  where
    by : (c : Bool) → Some r ≡ cond c (Some q) None → Some q ≡ Some r
    by true e = sym e
    by false e = absurd (none-some r (sym e))

pub counted-watched : (ws : List Written) (q : Registration → Bool) (rs : List Registration) (notice : Notice) (t : ℕ) (r : Registration)
    → AllByRecursion (IsWatchedFor ws) rs → Some r ≡ if_counts notice t (find q rs) → IsWatchedFor ws r
counted-watched ws q rs notice t r all e =
    all-of (IsWatchedFor ws) rs r all (find-some q rs r (counted-found notice t (find q rs) r e)).0

pub watch-here : (given : ℕ) (kept : List ℕ) (q : Registration → Bool) (rs : List Registration) (notice : Notice) (t : ℕ) (r : Registration)
    → AllByRecursion (IsWatchHere given kept) rs → Some r ≡ if_counts notice t (find q rs) → IsWatchHere given kept r
watch-here given kept q rs notice t r all e =
    all-of (IsWatchHere given kept) rs r all (find-some q rs r (counted-found notice t (find q rs) r e)).0

-- what isn't found

pub renewed-unfound : (e : Ended) (g : Found) (n : ℕ) → e ≡ How.Renewed g n → (f : Found) → e ≡ How.Found f → ⊥
renewed-unfound e g n is f found = by (sym is ∙ found)
  where
    by : How.Renewed g n ≡ How.Found f → ⊥
    by e = cc

pub turned-unfound : (e : Ended) → e ≡ How.Turned → (f : Found) → e ≡ How.Found f → ⊥
turned-unfound e is f found = by (sym is ∙ found)
  where
    by : How.Turned ≡ How.Found f → ⊥
    by e = cc

-- what is told of an update

pub told-goes : (t : ℕ) (p : Peer) (S : State) (r : Registration) (v : ℕ) (u : Progress) (w : Work) (got : List Reply) → u ≡ progress_with w got
    → told_so t p S r (Update v) u ≡ cond (may_start t p r S) (Starts r (starting t p r u S) u) (Tells r None)
told-goes t p S r v u w got e =
    ap (told_so t p S r (Update v)) e ∙ (by w ∙ ap (λ (x : Progress). cond (may_start t p r S) (Starts r (starting t p r x S) x) (Tells r None)) (sym e))
  where
    by : (w : Work) → told_so t p S r (Update v) (progress_with w got)
        ≡ cond (may_start t p r S) (Starts r (starting t p r (progress_with w got) S) (progress_with w got)) (Tells r None)
    by (W.Fetches restarts pieces) = refl
    by (W.Gives upload) = refl

told-ends : (t : ℕ) (p : Peer) (S : State) (r : Registration) (v : ℕ) (u : Progress) (how : Ending) → u ≡ Ends how
    → told_so t p S r (Update v) u ≡ Tells r (content_by S.entries t r.opening how)
told-ends t p S r v u how e = ap (told_so t p S r (Update v)) e

tells-goes : (r : Registration) (v : Option Stored) → goes_with (Tells r v) ≡ None
tells-goes r v = refl

module _ (t word : ℕ) (p : Peer) (link : LinkValue) (x : Heeding) (S : State) (token : List ℕ) (fresh : IsNextToken word token S) where
  pub nothing-prepared : (matter : Matter) → Nothing ≡ matter → IsPrepared t word link x S M.Nothing matter
  nothing-prepared matter is = prepared-still t word link x S token M.Nothing matter fresh (ap goes_with (sym is)) refl (λ new. sym is)

  tells-prepared : (r : Registration) (found : Option Stored) (matter : Matter) (k : RustMatter) → matter ≡ Tells r found
      → ((n : ℕ) (new : Numbers) → IsMatter n new k (Tells r found)) → IsPrepared t word link x S k matter
  tells-prepared r found matter k is told =
      let new : Numbers = record { token = token; text = []; word = word } in
      subst (IsPrepared t word link x S k) (sym is)
      (prepared-still t word link x S token k (Tells r found) fresh refl (no-more k 0 new (told 0 new))
      (λ new. told (length S.entries) new))
    where
      no-more : (j : RustMatter) (n : ℕ) (new : Numbers) → IsMatter n new j (Tells r found) → more_in j ≡ None
      no-more M.Nothing n new h = refl
      no-more (M.Tells y) n new h = refl
      no-more (M.Starts y) n new h = absurd (cc (h.2))
      no-more (M.Goes g) n new h = absurd (cc (h.1))
      no-more (M.Over f ended) n new h = refl

  pub other-prepared : {E : Type 0} (z : Result RustMatter E) (r : Registration) (v : Option ℕ) (u : Progress)
      → ((n : ℕ) (new : Numbers) → IfOk z (λ (k : RustMatter). IsMatter n new k (Tells r None)))
      → IfOk z (λ (k : RustMatter). IsPrepared t word link x S k (told_so t p S r (Other v) u))
  other-prepared (Ok k) r v u told = tells-prepared r None (told_so t p S r (Other v) u) k refl told
  other-prepared (Err e) r v u told = tt

  -- a whole one is stored
  pub whole-prepared : {E : Type 0} (z : Result RustMatter E) (r : Registration) (v n : ℕ) (m : Content) (f : Found) (found : Option Stored)
      → n ≡ length S.entries → IsComing n (Comes.Ends (How.Found f)) (as_first n 0 m)
      → ((how : Ending) → IsEnded n (How.Found f) how → found ≡ content_by S.entries t r.opening how)
      → ((n : ℕ) (new : Numbers) → IfOk z (λ (k : RustMatter). IsMatter n new k (Tells r found)))
      → IfOk z (λ (k : RustMatter). IsPrepared t word link x S k (told_so t p S r (Update v) (as_first (length S.entries) 0 m)))
  whole-prepared (Err e) r v n m f found at h is told = tt
  whole-prepared (Ok k) r v n m f found at h is told =
      let u : Progress = as_first (length S.entries) 0 m in
      let ends : u ≡ Ends h.0 = ap (λ (j : ℕ). as_first j 0 m) (sym at) ∙ h.1 in
      tells-prepared r found (told_so t p S r (Update v) u) k
      (told-ends t p S r v u h.0 ends ∙ ap (Tells r) (sym (is h.0 h.2))) told

  -- What comes first renews nothing, and is turned away by nothing.
  unfound : (n : ℕ) (m : Content) (ended : Ended) (ws : List Written) (o : ℕ) → (h : IsComing n (Comes.Ends ended) (as_first n 0 m))
      → ((f : Found) → ended ≡ How.Found f → ⊥) → content_by ws t o h.0 ≡ None
  unfound n m (How.Found f) ws o h other = absurd (other f refl)
  unfound n m (How.Renewed f q) ws o h other =
      absurd (step-unrenewed (Fetches 0 no_pieces []) (first_reply n 0 m) h.2.1.0 h.2.1.1 (λ how e. cc) (h.1 ∙ ap Ends h.2.1.2))
  unfound n m How.Turned ws o h other = ap (content_by ws t o) h.2

  pub unfound-prepared : {E : Type 0} (z : Result RustMatter E) (r : Registration) (v n : ℕ) (m : Content) (ended : Ended)
      → n ≡ length S.entries → IsComing n (Comes.Ends ended) (as_first n 0 m) → ((f : Found) → ended ≡ How.Found f → ⊥)
      → ((n : ℕ) (new : Numbers) → IfOk z (λ (k : RustMatter). IsMatter n new k (Tells r None)))
      → IfOk z (λ (k : RustMatter). IsPrepared t word link x S k (told_so t p S r (Update v) (as_first (length S.entries) 0 m)))
  unfound-prepared (Err e) r v n m ended at h other told = tt
  unfound-prepared (Ok k) r v n m ended at h other told =
      let u : Progress = as_first (length S.entries) 0 m in
      let ends : u ≡ Ends h.0 = ap (λ (j : ℕ). as_first j 0 m) (sym at) ∙ h.1 in
      tells-prepared r None (told_so t p S r (Update v) u) k
      (told-ends t p S r v u h.0 ends ∙ ap (Tells r) (unfound n m ended S.entries r.opening h other)) told

  -- the first piece, where no exchange may begin
  pub full-prepared : {E : Type 0} (z : Result RustMatter E) (r : Registration) (v n : ℕ) (m : Content) (o : Onward)
      → n ≡ length S.entries → IsOnward o (as_first n 0 m) → may_start t p r S ≡ false
      → ((n : ℕ) (new : Numbers) → IfOk z (λ (k : RustMatter). IsMatter n new k (Tells r None)))
      → IfOk z (λ (k : RustMatter). IsPrepared t word link x S k (told_so t p S r (Update v) (as_first (length S.entries) 0 m)))
  full-prepared (Err e) r v n m o at h none told = tt
  full-prepared (Ok k) r v n m o at h none told =
      let u : Progress = as_first (length S.entries) 0 m in
      let goes : u ≡ progress_with o.work h.got = ap (λ (j : ℕ). as_first j 0 m) (sym at) ∙ h.is in
      tells-prepared r None (told_so t p S r (Update v) u) k
      (told-goes t p S r v u o.work h.got goes ∙ ap (λ (b : Bool). cond b (Starts r (starting t p r u S) u) (Tells r None)) none) told

-- to whom it is

module _ (t : ℕ) (p : Peer) (x : Heeding) (S : State) where
  pub told-exchange : (said : Told) → is_alone said x.token S.exchanges ≡ false → matter_for t p x said S ≡ matter_told t p x said S
  told-exchange said e = sym (ap (λ (b : Bool). cond b (matter_alone t p said S) (matter_for t p x said S)) e)

  pub told-watch : (m : Content) → is_alone (response m) x.token S.exchanges ≡ true → told_alone t p N.Response m S ≡ matter_told t p x (response m) S
  told-watch m e = sym (ap (λ (b : Bool). cond b (matter_alone t p (response m) S) (matter_for t p x (response m) S)) e)

-- what is registered

registers-nothing : (t : ℕ) (m : Content) (e : Exchange) (q : Option CoapRequest) (rs : List Registration) → is_update (notice_in m) ≡ false
    → (registered t m e q rs ≡ rs) × (registers m e rs ≡ false)
registers-nothing t m e q rs none = (ap (λ (b : Bool). cond b (rs ++ registration_of t m e q) rs) off, off)
  where
    off : registers m e rs ≡ false
    off = ap (λ (b : Bool). e.observes && (b && (e.current && nat_lt (length rs) 64))) none ∙ by e.observes
      where
        by : (b : Bool) → (b && false) ≡ false
        by true = refl
        by false = refl

number-in : (b : Bool) (v : Option ℕ) (k : ℕ) → Update k ≡ notice_by b v → k ≡ number_or_zero v
number-in true None k e = absurd cc
number-in true (Some j) k e = cc
number-in false v k e = absurd cc

update-is : (m : Content) (k : ℕ) → Update k ≡ notice_in m → k ≡ number_or_zero (version m)
update-is m k e = number-in _ (version m) k e

pub registers-so : (t : ℕ) (notice : Notice) (m : Content) (e : Exchange) (ws : List Written) (rs : List Registration) → IsNoted notice m e.token
    → rs ++ registered_by t notice e ws rs ≡ registered t m e (asked_in ws e.ask) rs
registers-so t (Other v) m e ws rs n = append-nil rs ∙ sym (registers-nothing t m e (asked_in ws e.ask) rs n.update).0
registers-so t (Update v) m e ws rs n = by (asked_in ws e.ask)
  where
    may : Bool
    may = e.current && nat_lt (length rs) 64

    same : registers m e rs ≡ (e.observes && may)
    same = ap (λ (b : Bool). e.observes && (b && may)) n.update

    one : (q : Option CoapRequest) (b : Bool) → rs ++ cond b (registered_for t e q v) [] ≡ cond b (rs ++ registered_for t e q v) rs
    one q true = refl
    one q false = append-nil rs

    alike : (q : Option CoapRequest) → registered_for t e q v ≡ registration_of t m e q
    alike None = refl
    alike (Some q) = rw (n.token refl, update-is m v (n.notice refl)) refl

    by : (q : Option CoapRequest) → rs ++ cond (e.observes && may) (registered_for t e q v) [] ≡ registered t m e q rs
    by q = one q (e.observes && may) ∙ (ap (λ (xs : List Registration). cond (e.observes && may) (rs ++ xs) rs) (alike q) ∙ ap (λ (b : Bool). cond b (rs ++ registration_of t m e q) rs) (sym same))

-- Where it registers, nothing is let go.
pub gone-so : (t : ℕ) (notice : Notice) (m : Content) (e : Exchange) (ws : List Written) (rs : List Registration) (more : Option Registration) → IsNoted notice m e.token
    → ReadsSo ws e → option_to_list more ≡ registered_by t notice e ws rs
    → unless_more more e ≡ cond (registers m e rs) [] (e.token ∷ [])
gone-so t (Other v) m e ws rs more n reads is = none more is ∙ sym (ap (λ (b : Bool). cond b [] (e.token ∷ [])) (registers-nothing t m e (asked_in ws e.ask) rs n.update).1)
  where
    none : (v : Option Registration) → option_to_list v ≡ [] → unless_more v e ≡ e.token ∷ []
    none None h = refl
    none (Some r) h = absurd (cc (h))
gone-so t (Update v) m e ws rs more n reads is = by e.observes refl may refl more is
  where
    may : Bool
    may = e.current && nat_lt (length rs) 64

    same : registers m e rs ≡ (e.observes && may)
    same = ap (λ (b : Bool). e.observes && (b && may)) n.update

    none : (w : Option Registration) → option_to_list w ≡ [] → unless_more w e ≡ e.token ∷ []
    none None h = refl
    none (Some r) h = absurd (cc (h))

    some : (w : Option Registration) (q : CoapRequest) → option_to_list w ≡ registered_for t e (Some q) v → unless_more w e ≡ []
    some None q h = absurd (cc (h))
    some (Some r) q h = refl

    by : (o : Bool) → e.observes ≡ o → (b : Bool) → may ≡ b → (w : Option Registration)
        → option_to_list w ≡ cond (e.observes && may) (registered_for t e (asked_in ws e.ask) v) []
        → unless_more w e ≡ cond (registers m e rs) [] (e.token ∷ [])
    by true at true free w h =
        let q = reads at in
        let on : (e.observes && may) ≡ true = rw (at) free in
        some w q.0 (h ∙ (ap (λ (b : Bool). cond b (registered_for t e (asked_in ws e.ask) v) []) on ∙ ap (λ (u : Option CoapRequest). registered_for t e u v) q.1))
        ∙ sym (ap (λ (b : Bool). cond b [] (e.token ∷ [])) (same ∙ on))
    by true at false full w h =
        let off : (e.observes && may) ≡ false = rw (at) full in
        none w (h ∙ ap (λ (b : Bool). cond b (registered_for t e (asked_in ws e.ask) v) []) off)
        ∙ sym (ap (λ (b : Bool). cond b [] (e.token ∷ [])) (same ∙ off))
    by false at b free w h =
        let off : (e.observes && may) ≡ false = rw (at) refl in
        none w (h ∙ ap (λ (c : Bool). cond c (registered_for t e (asked_in ws e.ask) v) []) off)
        ∙ sym (ap (λ (c : Bool). cond c [] (e.token ∷ [])) (same ∙ off))

-- all that becomes of what is observed

pub watched-nothing : (t n : ℕ) (new : Numbers) (m : Content) (w : Watching) (x : Matter) (S : State) → IsMatter n new M.Nothing x → w.gone.items ≡ []
    → IsWatchedBy t m M.Nothing w x S
watched-nothing t n new m w x S i gone = record {
  watches = sym (ap (λ (y : Matter). watches_by t m S.entries y S.watches) i);
  gone = gone ∙ sym (ap (λ (y : Matter). gone_by m S.entries y S.watches) i);
}

-- where it is the last of them
abbrev pub last-told : Notice → List ℕ → List (List ℕ)
last-told (Update v) token = []
last-told (Other v) token = token ∷ []

last-is : (notice : Notice) (r : Registration) → last-told notice r.token ≡ unless_updated notice r
last-is (Update v) r = refl
last-is (Other v) r = refl

pub watched-tells : (t n : ℕ) (new : Numbers) (m : Content) (k : Notification) (w : Watching) (x : Matter) (S : State) → IsMatter n new (M.Tells k) x
    → (w.notice ≡ notice_in m) × (k.token ≡ m.token) → w.gone.items ≡ last-told w.notice k.token → IsWatchedBy t m (M.Tells k) w x S
watched-tells t n new m k w x S i noted gone = record {
  watches =
      ap (λ (token : List ℕ). noticed token w.notice t S.watches) noted.1
      ∙ (ap (λ (v : Notice). noticed m.token v t S.watches) noted.0 ∙ sym (ap (λ (y : Matter). watches_by t m S.entries y S.watches) i.1));
  gone =
      gone ∙ (ap (λ (v : Notice). last-told v k.token) noted.0
      ∙ (ap (last-told (notice_in m)) i.3 ∙ (last-is (notice_in m) i.0 ∙ sym (ap (λ (y : Matter). gone_by m S.entries y S.watches) i.1))));
}

pub watched-starts : (t n : ℕ) (new : Numbers) (m : Content) (k : Starting) (w : Watching) (x : Matter) (S : State) → IsMatter n new (M.Starts k) x
    → (w.notice ≡ notice_in m) × (is_update w.notice ≡ true) × (k.watch ≡ m.token) → w.gone.items ≡ [] → IsWatchedBy t m (M.Starts k) w x S
watched-starts t n new m k w x S i noted gone = record {
  watches =
      ap (λ (token : List ℕ). noticed token w.notice t S.watches) noted.2
      ∙ (ap (λ (v : Notice). noticed m.token v t S.watches) noted.0 ∙ sym (ap (λ (y : Matter). watches_by t m S.entries y S.watches) i.2));
  gone = gone ∙ sym (ap (λ (y : Matter). gone_by m S.entries y S.watches) i.2);
}

pub watched-goes : (t n : ℕ) (new : Numbers) (m : Content) (g : Going) (w : Watching) (x : Matter) (S : State) → IsMatter n new (M.Goes g) x
    → IsNoted w.notice m g.exchange.token → ReadsSo S.entries g.exchange
    → option_to_list w.more ≡ registered_by t w.notice g.exchange S.entries S.watches → w.gone.items ≡ unless_more w.more g.exchange
    → IsWatchedBy t m (M.Goes g) w x S
watched-goes t n new m g w x S i noted reads more gone = record {
  watches =
      ap (λ (rs : List Registration). S.watches ++ rs) more
      ∙ (registers-so t w.notice m g.exchange S.entries S.watches noted ∙ sym (ap (λ (y : Matter). watches_by t m S.entries y S.watches) i.1));
  gone =
      gone ∙ (gone-so t w.notice m g.exchange S.entries S.watches w.more noted reads more
      ∙ sym (ap (λ (y : Matter). gone_by m S.entries y S.watches) i.1));
}

pub watched-over : (t n : ℕ) (new : Numbers) (m : Content) (e : Exchange) (ended : Ended) (w : Watching) (x : Matter) (S : State) → IsMatter n new (M.Over e ended) x
    → IsNoted w.notice m e.token → ReadsSo S.entries e
    → option_to_list w.more ≡ registered_by t w.notice e S.entries S.watches
    → w.gone.items ≡ unless_more w.more e ++ tokens_of (is_written_by (asked_in S.entries e.ask)) S.watches
    → IsWatchedBy t m (M.Over e ended) w x S
watched-over t n new m e ended w x S i noted reads more gone = record {
  watches =
      ap (λ (rs : List Registration). without (is_written_by (asked_in S.entries e.ask)) rs)
      (ap (λ (rs : List Registration). S.watches ++ rs) more ∙ registers-so t w.notice m e S.entries S.watches noted)
      ∙ sym (ap (λ (y : Matter). watches_by t m S.entries y S.watches) i.1);
  gone =
      gone ∙ (ap (λ (ts : List (List ℕ)). ts ++ tokens_of (is_written_by (asked_in S.entries e.ask)) S.watches)
      (gone-so t w.notice m e S.entries S.watches w.more noted reads more)
      ∙ sym (ap (λ (y : Matter). gone_by m S.entries y S.watches) i.1));
}

-- where memory may be wanted

pub goes-ok : {E : Type 0} (r : Result Watching E) (t n : ℕ) (new : Numbers) (m : Content) (notice : Notice) (g : Going) (x : Matter) (S : State)
    → IsMatter n new (M.Goes g) x → IsNoted notice m g.exchange.token → ReadsSo S.entries g.exchange
    → IfOk r (λ (w : Watching). option_to_list w.more ≡ registered_by t notice g.exchange S.entries S.watches)
    → IfOk r (λ (w : Watching). w.gone.items ≡ unless_more w.more g.exchange) → IfOk r (λ (w : Watching). w.notice ≡ notice)
    → IfOk r (λ (w : Watching). IsWatchedBy t m (M.Goes g) w x S)
goes-ok (Ok w) t n new m notice g x S i noted reads more gone is =
    watched-goes t n new m g w x S i (subst (λ (v : Notice). IsNoted v m g.exchange.token) (sym is) noted) reads
    (more ∙ ap (λ (v : Notice). registered_by t v g.exchange S.entries S.watches) (sym is)) gone
goes-ok (Err e) t n new m notice g x S i noted reads more gone is = tt
