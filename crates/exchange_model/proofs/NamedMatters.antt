-- What a message is to a state looks up what the state looks up, or the entry of the message.
use Rattle.std.proofs.Common.{◌≡◌, ℕ, ◌+◌, Bool, true, false, cond, List, [], ◌∷◌, ◌++◌, length, Option, Some, None, Ok, Err, refl}
use Rattle.std.specs.Prelude.{◌==◌, ⊤, find, IfSome}
use Rattle.std.proofs.lemmas.Bool.{false≢true}
use Rattle.coap_codec.specs.Spelling.{Content}
use Rattle.coap_codec.specs.Recognition.{is_forwardable}
use Rattle.uri_map.specs.declared.peer.Peer.{Peer}
use Rattle.blockwise.specs.Downloads.{PiecesValue, Judged, judged, no_pieces, with_piece}
use Rattle.blockwise.specs.Uploads.{UploadValue, answer_to}
use Rattle.blockwise.specs.declared.fault.BlockFault.{BlockFault}
use Rattle.blockwise.specs.declared.fault.BlockFault.TheVariants as F
use Rattle.blockwise.specs.declared.pieces.Step.TheVariants.{Next, Last}
use Rattle.blockwise.specs.declared.upload.Answered.{Answered}
use Rattle.blockwise.specs.declared.upload.Answered.TheVariants as A
use Rattle.message_layer.specs.declared.verdict.News.{News}
use Rattle.message_layer.specs.declared.verdict.News.TheVariants as N
use Rattle.message_layer.specs.declared.verdict.Verdict.{Verdict}
use Rattle.observe_share.specs.declared.registration.Registration.{Registration}
use Rattle.observe_share.specs.declared.notice.Notice.{Notice}
use Rattle.observe_share.specs.declared.notice.Notice.TheVariants.{Update, Other}
use Rattle.observe_share.specs.Watches as Watches
use Rattle.resp_cache.specs.Stored.{Stored, stored_of}
use Rattle.journal_book.specs.Entries.{Written}
use Rattle.history_laws.specs.Responses.{Response, confirms as confirms_tag, is_tellable}
use Rattle.history_laws.specs.Progress.{Reply, Ending, Whole, Renewed, NotUnderstood, Reset, TimedOut, Turned, Progress, Fetches, Gives, Ends, answered_so, faulted, fetched_by, fetched_whole, numbers, step}
use Rattle.history_laws.specs.Observing.{as_first, notice_in}
use Rattle.history_laws.specs.Storing.{content}
use Rattle.exchange_model.specs.declared.kept.Exchange.{Exchange}
use Rattle.exchange_model.specs.declared.kept.Work.{Work}
use Rattle.exchange_model.specs.declared.kept.Work.TheVariants as W
use Rattle.exchange_model.specs.State.{State}
use Rattle.exchange_model.specs.Steps.{is_under, reply_at}
use Rattle.exchange_model.specs.Watching.{counts_to}
use Rattle.history_links.specs.Steps.{ended_token}
use Rattle.exchange_model.specs.Matters.{Matter, Nothing, Tells, Starts, Goes, Over, answered_in, comes_to, content_by, fetched_in, found_in, has_next_place, matter_by, matter_of, may_start, moment_in, progress_of, progress_with, replied, stale_in, starting, stored_by, tells_of, told_alone, told_so, unless_valid}
use Rattle.exchange_model.specs.Memory.{IsLast, IsNamedBy, AreNamed}
use Rattle.exchange_model.proofs.Named.{all-found, last-put, IsFound}

module _ (P : ℕ → Type 0) where
  -- what an exchange came to rests on replies of which the last is such
  abbrev pub RestsOnLast : Ending → Type 0
  RestsOnLast (Whole w rs) = IsLast P (numbers rs)
  RestsOnLast (Renewed s r) = P r.number
  RestsOnLast how = ⊤

  abbrev pub ComesByLast : Progress → Type 0
  ComesByLast (Ends how) = RestsOnLast how
  ComesByLast progress = ⊤

  -- by a reply in such an entry

  last-reply : (rs : List Reply) (r : Reply) → P r.number → IsLast P (numbers (rs ++ r ∷ []))
  last-reply [] r h = h
  last-reply (x ∷ []) r h = h
  last-reply (x ∷ y ∷ rs) r h = last-reply (y ∷ rs) r h

  whole-last : (rs : List Reply) → IsLast P (numbers rs) → RestsOnLast (fetched_whole rs)
  whole-last [] h = tt
  whole-last (r ∷ rs) h = h

  fault-last : (fault : BlockFault) (restarts : ℕ) → ComesByLast (faulted fault restarts)
  fault-last F.Changed restarts = by (restarts == 3)
    where
      by : (b : Bool) → ComesByLast (cond b (Ends NotUnderstood) (Fetches (restarts + 1) no_pieces []))
      by true = tt
      by false = tt
  fault-last F.Size restarts = tt
  fault-last F.Gap restarts = tt
  fault-last F.TooLarge restarts = tt
  fault-last F.Memory restarts = tt

  judged-last : (j : Judged) (restarts : ℕ) (pieces : PiecesValue) (rs : List Reply) → IsLast P (numbers rs)
      → ComesByLast (fetched_by j restarts pieces rs)
  judged-last (Err fault) restarts pieces rs h = fault-last fault restarts
  judged-last (Ok (Next block)) restarts pieces rs h = tt
  judged-last (Ok Last) restarts pieces rs h = whole-last rs h

  answered-last : (how : Answered) (u : UploadValue) (got : List Reply) (r : Reply) → P r.number → ComesByLast (answered_so how u got r)
  answered-last A.Next u got r h = tt
  answered-last A.Last u got r h = last-reply got r h
  answered-last A.Wrong u got r h = tt

  if-last : (b : Bool) (p : Progress) → ComesByLast p → ComesByLast (cond b p (Ends NotUnderstood))
  if-last true p h = h
  if-last false p h = tt

  pub step-last : (p : Progress) (r : Reply) → ComesByLast p → P r.number → ComesByLast (step p r)
  step-last (Fetches restarts pieces got) r k h =
      if-last (is_tellable r.message) _
      (judged-last (judged pieces r.message) restarts (with_piece pieces r.message) (got ++ r ∷ []) (last-reply got r h))
  step-last (Gives upload got) r k h =
      if-last (is_forwardable r.message.options) _ (answered-last (answer_to upload r.message) upload got r h)
  step-last (Ends how) r k h = k

  -- what is stored by that

  stored-last : (ws : List Written) (t o : ℕ) (w : Response) (rs : List Reply) → IsLast P (numbers rs) → IsFound P (stored_by ws t o w rs)
  stored-last ws t o w [] h = tt
  stored-last ws t o w (r ∷ rs) h = by (w.code == content)
    where
      by : (b : Bool) → IsFound P (cond b (Some (stored_of w o (moment_in ws t r.number) (numbers (r ∷ rs)))) None)
      by true = h
      by false = tt

  pub content-last : (ws : List Written) (t o : ℕ) (how : Ending) → RestsOnLast how → IsFound P (content_by ws t o how)
  content-last ws t o (Whole w rs) h = stored-last ws t o w rs h
  content-last ws t o (Renewed s r) h = last-put P s.list r.number h
  content-last ws t o NotUnderstood h = tt
  content-last ws t o Reset h = tt
  content-last ws t o TimedOut h = tt
  content-last ws t o Turned h = tt

  -- what a message is

  abbrev pub IsMatterOf : Matter → Type 0
  IsMatterOf Nothing = ⊤
  IsMatterOf (Tells r found) = IsFound P found
  IsMatterOf (Starts r e progress) = IsNamedBy P e
  IsMatterOf (Goes e progress) = IsNamedBy P e
  IsMatterOf (Over e how) = IsNamedBy P e × RestsOnLast how

  module _ (S : State) (new : P (length S.entries)) (a : AreNamed P S) where
    work-last : (w : Work) (rs : List Reply) → ComesByLast (progress_with w rs)
    work-last (W.Fetches restarts pieces) rs = tt
    work-last (W.Gives upload) rs = tt

    comes-last : (m : Content) (e : Exchange) → ComesByLast (comes_to m S e)
    comes-last m e = step-last (progress_of S e) (reply_at (length S.entries) m) (work-last e.work (fetched_in S.entries e.opening S.pieces)) new

    replied-of : (place : Bool) (e : Exchange) (p : Progress) → IsNamedBy P e → ComesByLast p → IsMatterOf (replied place e p)
    replied-of place e (Ends how) h k = (h, k)
    replied-of true e (Fetches restarts pieces got) h k = h
    replied-of false e (Fetches restarts pieces got) h k = (h, tt)
    replied-of true e (Gives upload got) h k = h
    replied-of false e (Gives upload got) h k = (h, tt)

    valid-of : (old : Option Stored) (m : Content) (e : Exchange) (other : Matter) → IsNamedBy P e → IsMatterOf other
        → IsMatterOf (unless_valid old m S e other)
    valid-of None m e other h k = k
    valid-of (Some s) m e other h k = by (confirms_tag s.response.etag m)
      where
        by : (b : Bool) → IsMatterOf (cond b (Over e (Renewed s (reply_at (length S.entries) m))) other)
        by true = (h, new)
        by false = k

    found-of : (t : ℕ) (n : Notice) (o : ℕ) (p : Progress) → ComesByLast p → IsFound P (found_in t S n o p)
    found-of t (Update v) o (Ends how) h = content-last S.entries t o how h
    found-of t (Update v) o (Fetches restarts pieces got) h = tt
    found-of t (Update v) o (Gives upload got) h = tt
    found-of t (Other v) o p h = tt

    start-of : (b : Bool) (t : ℕ) (p : Peer) (r : Registration) (progress : Progress) → P r.opening
        → IsMatterOf (cond b (Starts r (starting t p r progress S) progress) (Tells r None))
    start-of true t p r progress h = record { ask = h; registers = λ is. absurd (false≢true is) }
    start-of false t p r progress h = tt

    told-of : (t : ℕ) (p : Peer) (r : Registration) (n : Notice) (progress : Progress) → P r.opening → ComesByLast progress
        → IsMatterOf (told_so t p S r n progress)
    told-of t p r (Update v) (Ends how) h k = found-of t (Update v) r.opening (Ends how) k
    told-of t p r (Update v) (Fetches restarts pieces got) h k = start-of (may_start t p r S) t p r (Fetches restarts pieces got) h
    told-of t p r (Update v) (Gives upload got) h k = start-of (may_start t p r S) t p r (Gives upload got) h
    told-of t p r (Other v) progress h k = tt

    tells-if : (b : Bool) (x : Matter) → IsMatterOf x → IsMatterOf (cond b x Nothing)
    tells-if true x h = h
    tells-if false x h = tt

    tells-under : (t : ℕ) (p : Peer) (m : Content) (o : Option Registration) → IfSome o (λ (r : Registration). P r.opening)
        → IsMatterOf (tells_of t p m S o)
    tells-under t p m None h = tt
    tells-under t p m (Some r) h =
        tells-if (counts_to t m r) _
        (told-of t p r (notice_in m) (as_first (length S.entries) 0 m) h
        (step-last (Fetches 0 no_pieces []) (record { number = length S.entries; sending = 0; message = m }) tt new))

    watch-found : (q : Registration → Bool) (o : Option Registration) → find q S.watches ≡ o → IfSome o (λ (r : Registration). P r.opening)
    watch-found q None e = tt
    watch-found q (Some r) e = all-found (λ (r : Registration). P r.opening) q S.watches r a.watches e

    alone-of : (t : ℕ) (p : Peer) (news : News) (m : Content) → IsMatterOf (told_alone t p news m S)
    alone-of t p N.Response m = tells-under t p m (find (Watches.is_under m.token) S.watches) (watch-found (Watches.is_under m.token) (find (Watches.is_under m.token) S.watches) refl)
    alone-of t p N.Quiet m = tt
    alone-of t p (N.Reset token) m = tt
    alone-of t p N.Lost m = tt

    matter-for : (t : ℕ) (p : Peer) (news : News) (place : Bool) (m : Content) (o : Option Exchange) → IfSome o (IsNamedBy P)
        → IsMatterOf (matter_by t p news place m S o)
    matter-for t p news place m None h = alone-of t p news m
    matter-for t p (N.Reset token) place m (Some e) h = (h, tt)
    matter-for t p N.Response place m (Some e) h = valid-of (stale_in e.opening S.stales) m e _ h (replied-of place e (comes_to m S e) h (comes-last m e))
    matter-for t p N.Quiet place m (Some e) h = valid-of (stale_in e.opening S.stales) m e _ h (replied-of place e (comes_to m S e) h (comes-last m e))
    matter-for t p N.Lost place m (Some e) h = valid-of (stale_in e.opening S.stales) m e _ h (replied-of place e (comes_to m S e) h (comes-last m e))

    open-found : (token : List ℕ) (o : Option Exchange) → find (is_under token) S.exchanges ≡ o → IfSome o (IsNamedBy P)
    open-found token None e = tt
    open-found token (Some x) e = all-found (IsNamedBy P) (is_under token) S.exchanges x a.exchanges e

    answered-found : (token : Option (List ℕ)) → IfSome (answered_in token S.exchanges) (IsNamedBy P)
    answered-found None = tt
    answered-found (Some token) = open-found token (find (is_under token) S.exchanges) refl

    pub matter-named : (t : ℕ) (p : Peer) (m : Content) (v : Verdict) → IsMatterOf (matter_of t p m v S)
    matter-named t p m v =
        matter-for t p v.news (has_next_place t p v S) m (answered_in (ended_token v.news m.token) S.exchanges)
        (answered-found (ended_token v.news m.token))
