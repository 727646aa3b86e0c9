-- What a datagram is prepared as: of an exchange that is open, by the first of its replies or not, and noted so.
use Rattle.std.proofs.Common.{◌≡◌, ◌⊎◌, inl, inr, ℕ, ◌+◌, Bool, true, false, cond, not, eqb, ◌&&◌, ◌||◌, List, [], ◌∷◌, ◌++◌, length, map, Option, Some, None, Result, Ok, Err, refl, sym, ap, subst, ◌∙◌, arith}
use Rattle.std.specs.Prelude.{filter, find, is_none, is_some}
use Rattle.std.specs.List.{Contains, list_any}
use Rattle.std.proofs.lemmas.Bool.{false≢true}
use Rattle.std.proofs.lemmas.Slice.Eq.{bytes_eq-Decides}
use Rattle.coap_codec.specs.Spelling.{Content}
use Rattle.coap_codec.specs.declared.block.Block.{Block}
use Rattle.uri_map.specs.declared.peer.Peer.{Peer}
use Rattle.blockwise.specs.Downloads.{PiecesValue, judged, no_pieces, with_piece}
use Rattle.blockwise.specs.Uploads.{UploadValue, answer_to}
use Rattle.blockwise.specs.declared.fault.BlockFault.{BlockFault}
use Rattle.blockwise.specs.declared.fault.BlockFault.TheVariants as Fault
use Rattle.blockwise.specs.declared.pieces.Step.{Step}
use Rattle.blockwise.specs.declared.pieces.Step.TheVariants.{Next, Last}
use Rattle.blockwise.specs.declared.upload.Answered.{Answered}
use Rattle.blockwise.specs.declared.upload.Answered.TheVariants as A
use Rattle.observe_share.specs.declared.registration.Registration.{Registration}
use Rattle.observe_share.specs.declared.notice.Notice.{Notice}
use Rattle.observe_share.specs.declared.notice.Notice.TheVariants.{Other, Update}
use Rattle.observe_share.specs.Watches as Watches
use Rattle.observe_share.specs.Watches.{counts_for}
use Rattle.resp_cache.specs.Stored.{Stored}
use Rattle.coap_codec.specs.Recognition.{is_forwardable}
use Rattle.message_layer.specs.Prepared.{IsHearing, IsRead}
use Rattle.message_layer.specs.declared.prepared.Hearing.{Hearing}
use Rattle.message_layer.specs.declared.verdict.Verdict.{Verdict}
use Rattle.coap_codec.specs.Reading.{message_at}
use Rattle.coap_codec.specs.declared.fault.CodecFault.{CodecFault}
use Rattle.coap_codec.specs.declared.message.MsgType.TheVariants.{Con}
use Rattle.message_layer.specs.Values.{LinkState, LinkValue, Told, told, no_news, response, was_reset, timed_out, was_dropped}
use Rattle.message_layer.specs.Hearing.{says, verdict_of}
use Rattle.message_layer.specs.declared.prepared.Heeding.{Heeding}
use Rattle.message_layer.specs.declared.verdict.News.{News}
use Rattle.message_layer.specs.declared.verdict.News.TheVariants as N
use Rattle.history_laws.specs.Hearing.{is_such, is_update}
use Rattle.history_laws.specs.Observing.{as_first, notice_in}
use Rattle.history_laws.specs.Progress.{Reply, Ending, NotUnderstood, Reset, Progress, Fetches, Gives, Ends, anew, answered, answered_so, fetched, fetched_by, step}
use Rattle.history_laws.specs.Responses.{is_tellable}
use Rattle.history_laws.proofs.CallerLemmas.{all-of, find-some, none-some, some-is}
use Rattle.exchange_model.specs.declared.kept.Exchange.{Exchange}
use Rattle.exchange_model.specs.declared.kept.Piece.{Piece}
use Rattle.exchange_model.specs.declared.kept.Work.{Work}
use Rattle.exchange_model.specs.declared.kept.Work.TheVariants as W
use Rattle.exchange_model.specs.Keeping.{Kept}
use Rattle.exchange_model.specs.State.{State, link_of}
use Rattle.exchange_model.specs.Steps.{is_under, reply_at}
use Rattle.exchange_model.specs.Matters.{Matter, Nothing, Tells, Starts, Goes, Over, comes_to, fetched_in, has_next_place, is_piece_of, numbers_of, progress_with, replied, may_start, starting, tells_of, told_alone, told_so}
use Rattle.exchange_model.specs.Hearing.{Numbers, gone_by, got_by, newest_by, watches_by}
use Rattle.exchange_model.proofs.CallerLemmas.{asks-get, fetched-count, reset-notes}
use Rattle.exchange_progress.specs.Coming.{IsOnward, first_got}
use Rattle.exchange_core.specs.declared.matter.Going.{Going}
use Rattle.exchange_core.specs.declared.matter.Matter.{Matter as RustMatter}
use Rattle.exchange_core.specs.declared.matter.Matter.TheVariants as M
use Rattle.exchange_core.specs.Hearing.{IsFirstBy, IsFirstSo, is_first, watches_after}
use Rattle.exchange_core.specs.Matters.{Answer, IsMatter, IsPrepared, answer_in, comes_or_renews, matter_for, matter_with, replied_to}
use Rattle.exchange_core.specs.Notifying.{IsNoted, IsNotedIn, IsUnder, IsWatchedBy, ReadsIn, ReadsSo, is_alone, matter_alone, matter_told, notice_told}
use Rattle.exchange_core.specs.declared.notifying.Watching.{Watching}
use Rattle.exchange_core.proofs.Heeds.{WatchedAs, nothing-is}
use Rattle.exchange_core.proofs.MatterBy.{answer-stands, comes-by, goes-exchange, goes-progress}

-- which exchange it is

abbrev pub exchange_of : RustMatter → Option Exchange
exchange_of M.Nothing = None
exchange_of (M.Tells k) = None
exchange_of (M.Starts k) = None
exchange_of (M.Goes g) = Some g.exchange
exchange_of (M.Over e ended) = Some e

-- It is the matter of this exchange, which came so far.
abbrev pub IsOf : Matter → Exchange → Type 0
IsOf Nothing e = ⊥
IsOf (Tells r found) e = ⊥
IsOf (Starts r f u) e = ⊥
IsOf (Goes f u) e = f ≡ e
IsOf (Over f how) e = f ≡ e

is-of : (n : ℕ) (new : Numbers) (k : RustMatter) (x : Matter) (e : Exchange) → IsMatter n new k x → exchange_of k ≡ Some e → IsOf x e
is-of n new M.Nothing x e i h = absurd (none-some e h)
is-of n new (M.Tells k) x e i h = absurd (none-some e h)
is-of n new (M.Starts k) x e i h = absurd (none-some e h)
is-of n new (M.Goes g) x e i h = subst (λ (y : Matter). IsOf y e) (sym i.1) (some-is g.exchange e h)
is-of n new (M.Over f ended) x e i h = subst (λ (y : Matter). IsOf y e) (sym i.1) (some-is f e h)

replied-of : (place : Bool) (f e : Exchange) (u : Progress) → IsOf (replied place f u) e → f ≡ e
replied-of place f e (Ends how) h = h
replied-of true f e (Fetches restarts pieces got) h = h
replied-of false f e (Fetches restarts pieces got) h = h
replied-of true f e (Gives upload got) h = h
replied-of false f e (Gives upload got) h = h

told-none : (t : ℕ) (p : Peer) (S : State) (r : Registration) (v : Notice) (u : Progress) (e : Exchange) → IsOf (told_so t p S r v u) e → ⊥
told-none t p S r (Other v) u e h = h
told-none t p S r (Update v) (Ends how) e h = h
told-none t p S r (Update v) (Fetches restarts pieces got) e h = by (may_start t p r S) h
  where
    by : (b : Bool) → IsOf (cond b (Starts r (starting t p r (Fetches restarts pieces got) S) (Fetches restarts pieces got)) (Tells r None)) e → ⊥
    by true k = k
    by false k = k
told-none t p S r (Update v) (Gives upload got) e h = by (may_start t p r S) h
  where
    by : (b : Bool) → IsOf (cond b (Starts r (starting t p r (Gives upload got) S) (Gives upload got)) (Tells r None)) e → ⊥
    by true k = k
    by false k = k

tells-none : (t : ℕ) (p : Peer) (m : Content) (S : State) (v : Option Registration) (e : Exchange) → IsOf (tells_of t p m S v) e → ⊥
tells-none t p m S None e h = h
tells-none t p m S (Some r) e h = by (is_such m.kind && counts_for (notice_in m) t r) h
  where
    by : (b : Bool) → IsOf (cond b (told_so t p S r (notice_in m) (as_first (length S.entries) 0 m)) Nothing) e → ⊥
    by true k = told-none t p S r (notice_in m) (as_first (length S.entries) 0 m) e k
    by false k = k

alone-none : (t : ℕ) (p : Peer) (said : Told) (S : State) (e : Exchange) → IsOf (matter_alone t p said S) e → ⊥
alone-none t p (response m) S e h = tells-none t p m S (find (Watches.is_under m.token) S.watches) e h
alone-none t p no_news S e h = h
alone-none t p (was_reset of) S e h = h
alone-none t p (timed_out of) S e h = h
alone-none t p was_dropped S e h = h

-- It answers that.
abbrev pub AnswersIt : Told → List ℕ → State → Exchange → Type 0
AnswersIt said token S e = (a : Answer) × (answer_in said token S ≡ Some a) × (a.exchange ≡ e)

pub of-answer : (t : ℕ) (p : Peer) (x : Heeding) (said : Told) (S : State) (e : Exchange) → IsOf (matter_told t p x said S) e → AnswersIt said x.token S e
of-answer t p x said S e h = by (is_alone said x.token S.exchanges) h
  where
    place : Bool
    place = has_next_place t p x.verdict S

    found : (v : Option Answer) → answer_in said x.token S ≡ v → IsOf (matter_with place v) e → AnswersIt said x.token S e
    found None is k = absurd k
    found (Some a) is k = (a, is, replied-of place a.exchange e a.progress k)

    by : (b : Bool) → IsOf (cond b (matter_alone t p said S) (matter_for t p x said S)) e → AnswersIt said x.token S e
    by true k = absurd (alone-none t p said S e k)
    by false k = found (answer_in said x.token S) refl k

stands : (said : Told) (token : List ℕ) (S : State) (e : Exchange) → AnswersIt said token S e → Contains S.exchanges e
stands said token S e a = subst (λ (y : Exchange). Contains S.exchanges y) a.2 (answer-stands said token S a.0 a.1)

-- What it registers it is asked for by a GET.
pub reads-in : (t : ℕ) (p : Peer) (x : Heeding) (said : Told) (S : State) (n : ℕ) (new : Numbers) (k : RustMatter) → Kept S
    → IsMatter n new k (matter_told t p x said S) → ReadsIn S.entries k
reads-in t p x said S n new k kept i = by k i
  where
    one : (f : RustMatter) (e : Exchange) → exchange_of f ≡ Some e → IsMatter n new f (matter_told t p x said S) → ReadsSo S.entries e
    one f e h j =
        let there = stands said x.token S e (of-answer t p x said S e (is-of n new f (matter_told t p x said S) e j h)) in
        λ observes. let it = all-of (λ (y : Exchange). ReadsSo S.entries y) S.exchanges e (asks-get S kept) there observes in (it.0, it.1, it.2)

    by : (f : RustMatter) → IsMatter n new f (matter_told t p x said S) → ReadsIn S.entries f
    by M.Nothing j = tt
    by (M.Tells y) j = tt
    by (M.Starts y) j = tt
    by (M.Goes g) j = one (M.Goes g) g.exchange refl j
    by (M.Over e ended) j = one (M.Over e ended) e refl j

-- by the first of its replies or not

abbrev GotSo : List Reply → Reply → Progress → Type 0
GotSo got r (Fetches restarts pieces new) = (new ≡ []) ⊎ (new ≡ got ++ r ∷ [])
GotSo got r (Gives upload new) = (new ≡ []) ⊎ (new ≡ got ++ r ∷ [])
GotSo got r (Ends how) = Unit {0}

anew-got : (got : List Reply) (r : Reply) (restarts : ℕ) → GotSo got r (anew restarts)
anew-got got r restarts = by (eqb restarts 3)
  where
    by : (b : Bool) → GotSo got r (cond b (Ends NotUnderstood) (Fetches (restarts + 1) no_pieces []))
    by true = tt
    by false = inl refl

fetched-got : (got : List Reply) (r : Reply) (restarts : ℕ) (pieces : PiecesValue) → GotSo got r (fetched restarts pieces got r)
fetched-got got r restarts pieces = by (is_tellable r.message)
  where
    judged-got : (v : Result Step BlockFault) (known : PiecesValue) → GotSo got r (fetched_by v restarts known (got ++ r ∷ []))
    judged-got (Ok (Next block)) known = inr refl
    judged-got (Ok Last) known = tt
    judged-got (Err Fault.Changed) known = anew-got got r restarts
    judged-got (Err Fault.Size) known = tt
    judged-got (Err Fault.Gap) known = tt
    judged-got (Err Fault.TooLarge) known = tt
    judged-got (Err Fault.Memory) known = tt

    by : (b : Bool) → GotSo got r (cond b (fetched_by (judged pieces r.message) restarts (with_piece pieces r.message) (got ++ r ∷ [])) (Ends NotUnderstood))
    by true = judged-got (judged pieces r.message) (with_piece pieces r.message)
    by false = tt

given-got : (got : List Reply) (r : Reply) (upload : UploadValue) → GotSo got r (answered upload got r)
given-got got r upload = by (is_forwardable r.message.options)
  where
    so : (v : Answered) → GotSo got r (answered_so v upload got r)
    so A.Next = inr refl
    so A.Last = tt
    so A.Wrong = tt

    by : (b : Bool) → GotSo got r (cond b (answered_so (answer_to upload r.message) upload got r) (Ends NotUnderstood))
    by true = so (answer_to upload r.message)
    by false = tt

step-got : (w : Work) (got : List Reply) (r : Reply) → GotSo got r (step (progress_with w got) r)
step-got (W.Fetches restarts pieces) got r = fetched-got got r restarts pieces
step-got (W.Gives upload) got r = given-got got r upload

with-got : (got : List Reply) (r : Reply) (w : Work) (new : List Reply) → GotSo got r (progress_with w new) → (new ≡ []) ⊎ (new ≡ got ++ r ∷ [])
with-got got r (W.Fetches restarts pieces) new h = h
with-got got r (W.Gives upload) new h = h

got-is : (w : Work) (got : List Reply) → got_by (progress_with w got) ≡ got
got-is (W.Fetches restarts pieces) got = refl
got-is (W.Gives upload) got = refl

ends-not : (how : Ending) (w : Work) (got : List Reply) → Ends how ≡ progress_with w got → ⊥
ends-not how (W.Fetches restarts pieces) got e = cc
ends-not how (W.Gives upload) got e = cc

-- how many pieces an exchange has, and whether any
abbrev is_empty : {X : Type 0} → List X → Bool
is_empty [] = true
is_empty (x ∷ xs) = false

any-counted : {X Y : Type 0} (p : X → Bool) (f : X → Y) (xs : List X) → list_any p xs ≡ not (is_empty (map f (filter p xs)))
any-counted p f [] = refl
any-counted {X = X} {Y = Y} p f (x ∷ xs) = by (p x) (any-counted p f xs)
  where
    by : (b : Bool) → list_any p xs ≡ not (is_empty (map f (filter p xs))) → (b || list_any p xs) ≡ not (is_empty (map f (cond b (x ∷ filter p xs) (filter p xs))))
    by true ih = refl
    by false ih = ih

same-empty : {X Y : Type 0} (xs : List X) (ys : List Y) → length xs ≡ length ys → is_empty xs ≡ is_empty ys
same-empty [] [] e = refl
same-empty [] (y ∷ ys) e = absurd (omega (arith, e))
same-empty (x ∷ xs) [] e = absurd (omega (arith, e))
same-empty (x ∷ xs) (y ∷ ys) e = refl

newest-more : (got : List Reply) (r : Reply) (old : Bool) → newest_by (got ++ r ∷ []) old ≡ (is_empty got || old)
newest-more [] r old = refl
newest-more (x ∷ []) r old = refl
newest-more (x ∷ y ∷ ys) r old = refl

not-not : (b : Bool) → not (not b) ≡ b
not-not true = refl
not-not false = refl

named-more : (got : List Reply) (r : Reply) → is_none (first_got (got ++ r ∷ [])) ≡ false
named-more [] r = refl
named-more (x ∷ got) r = refl

some-not : (v : Option Block) → is_some v ≡ not (is_none v)
some-not None = refl
some-not (Some b) = refl

-- what it comes to
replied-goes : (place : Bool) (f e : Exchange) (v u : Progress) → replied place f v ≡ Goes e u → (f ≡ e) × (v ≡ u)
replied-goes place f e (Ends how) u h = absurd (cc (h))
replied-goes true f e (Fetches restarts pieces got) u h = (goes-exchange f e _ u h, goes-progress f e _ u h)
replied-goes false f e (Fetches restarts pieces got) u h = absurd (cc (h))
replied-goes true f e (Gives upload got) u h = (goes-exchange f e _ u h, goes-progress f e _ u h)
replied-goes false f e (Gives upload got) u h = absurd (cc (h))

goes-answer : (t : ℕ) (p : Peer) (x : Heeding) (said : Told) (S : State) (e : Exchange) (u : Progress) → matter_told t p x said S ≡ Goes e u
    → (a : Answer) × (answer_in said x.token S ≡ Some a) × (a.exchange ≡ e) × (a.progress ≡ u)
goes-answer t p x said S e u h = by (is_alone said x.token S.exchanges) h
  where
    place : Bool
    place = has_next_place t p x.verdict S

    found : (v : Option Answer) → answer_in said x.token S ≡ v → matter_with place v ≡ Goes e u
        → (a : Answer) × (answer_in said x.token S ≡ Some a) × (a.exchange ≡ e) × (a.progress ≡ u)
    found None is k = absurd (cc (k))
    found (Some a) is k = let both = replied-goes place a.exchange e a.progress u k in (a, is, both.0, both.1)

    by : (b : Bool) → cond b (matter_alone t p said S) (matter_for t p x said S) ≡ Goes e u
        → (a : Answer) × (answer_in said x.token S ≡ Some a) × (a.exchange ≡ e) × (a.progress ≡ u)
    by true k = absurd (alone-none t p said S e (subst (λ (y : Matter). IsOf y e) (sym k) refl))
    by false k = found (answer_in said x.token S) refl k

first-by : (S : State) (g : Going) (u : Progress) (m : Content) → Kept S → IsOnward g.onward u → Contains S.exchanges g.exchange → u ≡ comes_to m S g.exchange
    → IsFirstBy (is_first S.pieces g) u
first-by S g u m kept o there came old =
    ap (λ (v : Progress). newest_by (got_by v) old) o.is
    ∙ (ap (λ (v : List Reply). newest_by v old) (got-is g.onward.work o.got)
    ∙ elim (with-got got r g.onward.work o.got (subst (GotSo got r) (sym came ∙ o.is) (step-got g.exchange.work got r))) [
      | inl none ↦
          let nothing : is_some g.onward.block ≡ false = some-not g.onward.block ∙ ap not (o.anew ∙ ap (λ (v : List Reply). is_none (first_got v)) none) in
          ap (λ (v : List Reply). newest_by v old) none ∙ sym (ap (λ (b : Bool). (b && not (list_any (is_piece_of g.exchange.opening) S.pieces)) || old) nothing)
      | inr more ↦
          let some : is_some g.onward.block ≡ true =
          some-not g.onward.block ∙ ap not (o.anew ∙ (ap (λ (v : List Reply). is_none (first_got v)) more ∙ named-more got r)) in
          ap (λ (v : List Reply). newest_by v old) more
          ∙ (newest-more got r old
          ∙ sym (ap (λ (b : Bool). (b && not (list_any (is_piece_of g.exchange.opening) S.pieces)) || old) some
          ∙ (ap (λ (b : Bool). not b || old) any ∙ ap (λ (b : Bool). b || old) (not-not (is_empty got)))))
    ])
  where
    got : List Reply
    got = fetched_in S.entries g.exchange.opening S.pieces

    r : Reply
    r = reply_at (length S.entries) m

    count : length got ≡ length (numbers_of g.exchange.opening S.pieces)
    count = all-of (λ (y : Exchange). length (fetched_in S.entries y.opening S.pieces) ≡ length (numbers_of y.opening S.pieces)) S.exchanges g.exchange (fetched-count S kept) there

    any : list_any (is_piece_of g.exchange.opening) S.pieces ≡ not (is_empty got)
    any = any-counted (is_piece_of g.exchange.opening) (λ (y : Piece). y.number) S.pieces ∙ ap not (sym (same-empty got (numbers_of g.exchange.opening S.pieces) count))

pub first-so : (t : ℕ) (p : Peer) (x : Heeding) (said : Told) (S : State) (n : ℕ) (new : Numbers) (k : RustMatter) → Kept S
    → IsMatter n new k (matter_told t p x said S) → IsFirstSo S.pieces k (matter_told t p x said S)
first-so t p x said S n new M.Nothing kept i = tt
first-so t p x said S n new (M.Tells v) kept i = tt
first-so t p x said S n new (M.Starts v) kept i = tt
first-so t p x said S n new (M.Over e ended) kept i = tt
first-so t p x said S n new (M.Goes g) kept i =
    let a = goes-answer t p x said S g.exchange i.0 i.1 in
    subst (IsFirstSo S.pieces (M.Goes g)) (sym i.1)
    (elim (comes-by said x.token S a.0 a.1) [
      | inl ends ↦ absurd (ends-not ends.0 g.onward.work i.2.got (sym ends.1 ∙ (a.3 ∙ i.2.is)))
      | inr came ↦ first-by S g i.0 came.0 kept i.2 (subst (λ (y : Exchange). Contains S.exchanges y) a.2 (answer-stands said x.token S a.0 a.1))
          (sym a.3 ∙ (came.1 ∙ ap (comes_to came.0 S) a.2))
    ])

-- noted so

nothing-noted : (n : ℕ) (new : Numbers) (k : RustMatter) (x : Matter) (notice : Notice) (m : Content) → IsMatter n new k x → x ≡ Nothing → IsNotedIn notice m k
nothing-noted n new M.Nothing x notice m i e = tt
nothing-noted n new (M.Tells y) x notice m i e = absurd (cc (sym e ∙ i.1))
nothing-noted n new (M.Starts y) x notice m i e = absurd (cc (sym e ∙ i.2))
nothing-noted n new (M.Goes g) x notice m i e = absurd (cc (sym e ∙ i.1))
nothing-noted n new (M.Over f ended) x notice m i e = absurd (cc (sym e ∙ i.1))

noted-same : (m : Content) (token : List ℕ) → token ≡ m.token → IsNoted (notice_in m) m token
noted-same m token e = record { update = refl; notice = λ h. refl; token = λ h. e }

-- to an exchange under its token
exchange-noted : (n : ℕ) (new : Numbers) (k : RustMatter) (x : Matter) (e : Exchange) (m : Content) → IsMatter n new k x → IsOf x e → e.token ≡ m.token → IsNotedIn (notice_in m) m k
exchange-noted n new M.Nothing x e m i of under = tt
exchange-noted n new (M.Tells y) x e m i of under = absurd (subst (λ (v : Matter). IsOf v e) i.1 of)
exchange-noted n new (M.Starts y) x e m i of under = absurd (subst (λ (v : Matter). IsOf v e) i.2 of)
exchange-noted n new (M.Goes g) x e m i of under =
    noted-same m g.exchange.token (ap (λ (y : Exchange). y.token) (subst (λ (v : Matter). IsOf v e) i.1 of) ∙ under)
exchange-noted n new (M.Over f ended) x e m i of under =
    noted-same m f.token (ap (λ (y : Exchange). y.token) (subst (λ (v : Matter). IsOf v e) i.1 of) ∙ under)

-- to one that an RST rejects
reset-noted : (n : ℕ) (new : Numbers) (k : RustMatter) (x : Matter) (e : Exchange) (m : Content) → IsMatter n new k x → IsOf x e → is_update (notice_in m) ≡ false
    → IsNotedIn (Other None) m k
reset-noted n new M.Nothing x e m i of none = tt
reset-noted n new (M.Tells y) x e m i of none = absurd (subst (λ (v : Matter). IsOf v e) i.1 of)
reset-noted n new (M.Starts y) x e m i of none = absurd (subst (λ (v : Matter). IsOf v e) i.2 of)
reset-noted n new (M.Goes g) x e m i of none = record { update = none; notice = λ h. absurd (false≢true h); token = λ h. absurd (false≢true h) }
reset-noted n new (M.Over f ended) x e m i of none = record { update = none; notice = λ h. absurd (false≢true h); token = λ h. absurd (false≢true h) }

-- to a watch
watch-noted : (t n : ℕ) (p : Peer) (new : Numbers) (k : RustMatter) (m : Content) (S : State) (v : Option Registration) → find (Watches.is_under m.token) S.watches ≡ v
    → IsMatter n new k (tells_of t p m S v) → IsNotedIn (notice_in m) m k
watch-noted t n p new k m S None at i = nothing-noted n new k Nothing (notice_in m) m i refl
watch-noted t n p new k m S (Some r) at i = by (is_such m.kind && counts_for (notice_in m) t r) i
  where
    under : r.token ≡ m.token
    under = (bytes_eq-Decides r.token m.token).0 (find-some (Watches.is_under m.token) S.watches r at).1

    tells : (j : RustMatter) (found : Option Stored) → IsMatter n new j (Tells r found) → IsNotedIn (notice_in m) m j
    tells M.Nothing found h = tt
    tells (M.Tells y) found h = (refl, h.3 ∙ (ap (λ (q : Registration). q.token) (sym (watch-is r h.0 found _ h.1)) ∙ under))
      where
        watch-is : (p q : Registration) (f g : Option Stored) → Tells p f ≡ Tells q g → p ≡ q
        watch-is p q f g e = cc
    tells (M.Starts y) found h = absurd (cc (h.2))
    tells (M.Goes g) found h = absurd (cc (h.1))
    tells (M.Over f ended) found h = absurd (cc (h.1))

    starts : (j : RustMatter) (e : Exchange) (u : Progress) → is_update (notice_in m) ≡ true → IsMatter n new j (Starts r e u) → IsNotedIn (notice_in m) m j
    starts M.Nothing e u up h = tt
    starts (M.Tells y) e u up h = absurd (cc (h.1))
    starts (M.Starts y) e u up h = (refl, up, h.4 ∙ (ap (λ (q : Registration). q.token) (sym (watch-is r h.0 e _ u h.1 h.2)) ∙ under))
      where
        watch-is : (p q : Registration) (f g : Exchange) (u v : Progress) → Starts p f u ≡ Starts q g v → p ≡ q
        watch-is p q f g u v e = cc
    starts (M.Goes g) e u up h = absurd (cc (h.1))
    starts (M.Over f ended) e u up h = absurd (cc (h.1))

    either : (b : Bool) (u : Progress) → is_update (notice_in m) ≡ true → IsMatter n new k (cond b (Starts r (starting t p r u S) u) (Tells r None)) → IsNotedIn (notice_in m) m k
    either true u up h = starts k (starting t p r u S) u up h
    either false u up h = tells k None h

    so : (v : Notice) → notice_in m ≡ v → (u : Progress) → IsMatter n new k (told_so t p S r v u) → IsNotedIn (notice_in m) m k
    so (Other v) is u h = tells k None h
    so (Update v) is (Ends how) h = tells k _ h
    so (Update v) is (Fetches restarts pieces got) h = either (may_start t p r S) (Fetches restarts pieces got) (ap is_update is) h
    so (Update v) is (Gives upload got) h = either (may_start t p r S) (Gives upload got) (ap is_update is) h

    by : (b : Bool) → IsMatter n new k (cond b (told_so t p S r (notice_in m) (as_first (length S.entries) 0 m)) Nothing) → IsNotedIn (notice_in m) m k
    by true h = so (notice_in m) refl (as_first (length S.entries) 0 m) h
    by false h = nothing-noted n new k Nothing (notice_in m) m h refl

replied-is : (place : Bool) (e : Exchange) (u : Progress) → IsOf (replied place e u) e
replied-is place e (Ends how) = refl
replied-is true e (Fetches restarts pieces got) = refl
replied-is false e (Fetches restarts pieces got) = refl
replied-is true e (Gives upload got) = refl
replied-is false e (Gives upload got) = refl

-- by the news that a link has of it
pub noted-by : (t n : ℕ) (p : Peer) (new : Numbers) (k : RustMatter) (m : Content) (place : Bool) (S : State) (v : News) → (verdict_of t (link_of S.links p) m).news ≡ v
    → IsMatter n new k (cond (is_alone (says v m) m.token S.exchanges) (matter_alone t p (says v m) S) (matter_with place (answer_in (says v m) m.token S)))
    → IsNotedIn (notice_told (says v m)) m k
noted-by t n p new k m place S N.Quiet is i = nothing-noted n new k Nothing (Other None) m i refl
noted-by t n p new k m place S N.Lost is i = nothing-noted n new k Nothing (Other None) m i refl
noted-by t n p new k m place S N.Response is i = by (find (is_under m.token) S.exchanges) refl i
  where
    by : (v : Option Exchange) → find (is_under m.token) S.exchanges ≡ v
        → IsMatter n new k (cond (is_none v) (told_alone t p N.Response m S) (matter_with place (replied_to v (comes_or_renews m S)))) → IsNotedIn (notice_in m) m k
    by None at h = watch-noted t n p new k m S (find (Watches.is_under m.token) S.watches) refl h
    by (Some e) at h =
        exchange-noted n new k (replied place e (comes_or_renews m S e)) e m h (replied-is place e (comes_or_renews m S e))
        ((bytes_eq-Decides e.token m.token).0 (find-some (is_under m.token) S.exchanges e at).1)
noted-by t n p new k m place S (N.Reset of) is i = by (find (is_under of) S.exchanges) i
  where
    by : (v : Option Exchange) → IsMatter n new k (matter_with place (replied_to v (λ e. Ends Reset))) → IsNotedIn (Other None) m k
    by None h = nothing-noted n new k Nothing (Other None) m h refl
    by (Some e) h = reset-noted n new k (Over e Reset) e m h refl (reset-notes t p m S of is)

-- A response bears the token of what was prepared for it.
pub under-told : (t : ℕ) (d : List ℕ) (s : LinkState) (h : Hearing) (r : Result Content CodecFault) → IsRead t d s r h → IsUnder h.heeding.token (told h.up)
under-told t d s h (Ok m) read = subst (IsUnder h.heeding.token) (sym read.up) (by h.heeding.verdict.news)
  where
    by : (v : News) → IsUnder h.heeding.token (says v m)
    by N.Quiet = tt
    by N.Lost = tt
    by N.Response = sym read.token
    by (N.Reset of) = tt
under-told t d s h (Err e) read = subst (IsUnder h.heeding.token) (sym read.up) tt

some_content : Content
some_content = record { kind = Con; code = 0; mid = 0; token = []; options = []; payload = [] }

-- What becomes of what is observed is what the step says.
module _ (t word : ℕ) (p : Peer) (d : List ℕ) (S : State) (link : LinkValue) (h : Hearing) (k : RustMatter) (i : IsHearing t d link h) (at : link.state ≡ link_of S.links p)
    (made : IsPrepared t word link h.heeding S k (matter_told t p h.heeding (told h.up) S)) (w : Watching) where
  pub watched-as : (notice : Notice) → notice ≡ notice_told (told h.up)
      → ((m : Content) (new : Numbers) (x : Matter) → IsMatter (length S.entries) new k x → IsNotedIn notice m k → IsWatchedBy t m k w x S)
      → WatchedAs t word p d S link h k i at made (watches_after t S.entries w.notice k w.more S.watches) w.gone.items (message_at d)
  watched-as notice is watched = by (message_at d) i.is
    where
      place : Bool
      place = has_next_place t p h.heeding.verdict S

      by : (r : Result Content CodecFault) → IsRead t d link.state r h
          → WatchedAs t word p d S link h k i at made (watches_after t S.entries w.notice k w.more S.watches) w.gone.items r
      by (Ok m) read =
          let news : (verdict_of t (link_of S.links p) m).news ≡ h.heeding.verdict.news =
          sym (ap (λ (v : Verdict). v.news) (read.verdict ∙ ap (λ (u : LinkState). verdict_of t u m) at)) in
          let matter = subst (λ (token : List ℕ). IsMatter (length S.entries) made.numbers k (cond (is_alone (says h.heeding.verdict.news m) token S.exchanges)
          (matter_alone t p (says h.heeding.verdict.news m) S) (matter_with place (answer_in (says h.heeding.verdict.news m) token S)))) read.token
          (subst (λ (u : Told). IsMatter (length S.entries) made.numbers k (matter_told t p h.heeding u S)) read.up made.is) in
          let noted = subst (λ (v : Notice). IsNotedIn v m k) (sym (is ∙ ap notice_told read.up))
          (noted-by t (length S.entries) p made.numbers k m place S h.heeding.verdict.news news matter) in
          let so = watched m made.numbers (matter_told t p h.heeding (told h.up) S) made.is noted in
          (so.watches, so.gone)
      by (Err e) read =
          let none = nothing-is t p d S link.state h e read in
          let so = watched some_content made.numbers (matter_told t p h.heeding (told h.up) S) made.is
          (nothing-noted (length S.entries) made.numbers k (matter_told t p h.heeding (told h.up) S) notice some_content made.is none) in (
            so.watches ∙ ap (λ (y : Matter). watches_by t some_content S.entries y S.watches) none,
            so.gone ∙ ap (λ (y : Matter). gone_by some_content S.entries y S.watches) none,
          )
