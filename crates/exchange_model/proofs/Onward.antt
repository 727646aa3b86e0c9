-- An exchange that goes on by a message: its next message waits last at its endpoint.
use Rattle.std.proofs.Common.{◌≡◌, ℕ, ◌+◌, Bool, true, false, not, eqb, List, [], ◌∷◌, ◌++◌, length, map, Option, Some, None, inl, inr, refl, sym, ap, subst, ◌∙◌, arith}
use Rattle.exchange_model.proofs.Pieces.{behind-stays}
use Rattle.std.specs.Prelude.{is_some}
use Rattle.std.specs.List.{Contains}
use Rattle.std.proofs.lemmas.Bool.{false≢true, and_from}
use Rattle.std.proofs.lemmas.List.Elements.{Contains-push_cases}
use Rattle.coap_codec.specs.Spelling.{Content}
use Rattle.uri_map.specs.declared.peer.Peer.{Peer}
use Rattle.message_layer.specs.Sending.{waits}
use Rattle.message_layer.specs.declared.state.Waiting.{Waiting}
use Rattle.ask_model.specs.Requests.{CoapRequest, Manner, Plainly, observing_if}
use Rattle.ask_model.specs.Sharing.{asked_key, asked_place, is_get}
use Rattle.history_laws.specs.Numbering.{token_number}
use Rattle.history_laws.specs.Readings.{Noted, at, before}
use Rattle.history_laws.specs.Observing.{counting, observes, unless_replied, wants_in, manner, manner_by, tag_of}
use Rattle.history_laws.specs.Transmissions.{firsts, bears_token}
use Rattle.history_laws.specs.Progress.{Reply, Progress, Fetches, Gives, Ends, next_message, progress, step}
use Rattle.history_laws.specs.Exchanges.{Begun, begun, Turn, waits_by, replies_by, replies, is_going, is_issued_at, issued, submitted_by, submitted, rank, waits_for, kept as kept_of, heard_for}
use Rattle.history_laws.specs.Hearing.{repeated, can_be_remembered}
use Rattle.history_laws.specs.Joining.{outrun}
use Rattle.history_laws.proofs.CallerLemmas.{before-new, begun-keeps, eqb-itself, IsGoing, issued-more, progress-push, rank-below, some-is, none-some, heard-push}
use Rattle.history_links.specs.Steps.{GoesOn, heard}
use Rattle.exchange_model.specs.declared.kept.Exchange.{Exchange}
use Rattle.exchange_model.specs.State.{State, link_of}
use Rattle.exchange_model.specs.declared.kept.Work.{Work}
use Rattle.exchange_model.specs.Reads.{ExchangeIn, got_for, got_in, IsNewest, WaitsUnder, kept_in, kept_yet}
use Rattle.exchange_model.specs.Matters.{progress_with, work_by}
use Rattle.exchange_model.specs.Hearing.{Numbers, continued, got_by, newest_by}
use Rattle.exchange_model.specs.Laws.{IsContinued, MayHear}
use Rattle.exchange_model.proofs.Answered.{start}
use Rattle.exchange_model.proofs.Bare.{bare, bare_progress}
use Rattle.exchange_model.proofs.Begins.{below-issued, unborne}
use Rattle.exchange_model.proofs.Fetched.{IsMore, step-more}
use Rattle.exchange_model.proofs.Fresh.{newest-gone}
use Rattle.exchange_model.proofs.Noticing.{answered-silent}
use Rattle.exchange_model.proofs.Opened.{OpenIn}
use Rattle.exchange_model.proofs.Outrun.{asked-here}
use Rattle.exchange_model.proofs.Over.{IsOnward, reply_of}
use Rattle.exchange_model.proofs.Stales.{kept-replied}
use Rattle.resp_cache.specs.Stored.{Stored}

submitted-last : (o : ℕ) (rs : List Reply) (r : Reply) → submitted_by o (rs ++ r ∷ []) ≡ r.number
submitted-last o [] r = refl
submitted-last o (x ∷ rs) r = submitted-last x.number rs r

-- What is kept of how far it has come is just that.
pub work-goes : (now : Progress) (w : Work) → IsGoing now → now ≡ progress_with (work_by (bare_progress now) w) (got_by now)
work-goes (Fetches k p got) w g = refl
work-goes (Gives u got) w g = refl
work-goes (Ends how) w g = absurd g

module _ (l : List Noted) (t : ℕ) (p : Peer) (d : List ℕ) (m : Content) (S : State)
    (h : MayHear l t p d S) (none : repeated l t p m ≡ None) (room : can_be_remembered l t p m ≡ true)
    (e : Exchange) (now how : Progress) (goes : IsGoing now)
    (on : IsOnward (start l t p d m S h none room) l t p d m S e how) (real : on.real ≡ now)
    (n : Numbers) (g : IsContinued e how n S) where
  abbrev x : Noted
  x = heard l t p d m

  abbrev r : Reply
  r = reply_of l on.it.sending m

  abbrev q : CoapRequest
  q = on.it.kept.request

  pub same-how : how ≡ bare_progress now
  same-how = on.same ∙ ap bare_progress real

  opened : begun (x ∷ l) e.opening ≡ Some (record { since = e.since; request = q })
  opened = begun-keeps x l e.opening _ on.it.kept.opening

  pub replies-now : replies (x ∷ l) e.opening ≡ replies l e.opening ++ r ∷ []
  replies-now = ap (λ (u : Turn). replies_by (length l) u (replies l e.opening)) on.turned

  progress-now : progress q (heard_for (x ∷ l) e.opening) ≡ now
  progress-now = ap (progress q) (heard-push x l e.opening on.it.sending m true _ on.it.kept.opening on.turned) ∙ (on.comes ∙ real)

  submitted-now : submitted (x ∷ l) e.opening ≡ length l
  submitted-now = ap (submitted_by e.opening) replies-now ∙ submitted-last e.opening (replies l e.opening) r

  goes-now : is_going (x ∷ l) e.opening ≡ true
  goes-now = rw (on.going) refl

  unsent-now : waits_for (x ∷ l) e.opening ≡ None
  unsent-now = ap (λ (u : Turn). waits_by u (waits_for l e.opening)) on.turned

  is-issued : is_issued_at (x ∷ l) (length l) e.opening ≡ true
  is-issued = and_from _ _ (ap (λ (a : ℕ). eqb a (length l)) submitted-now ∙ eqb-itself (length l)) goes-now

  pub issued-now : issued (x ∷ l) ≡ issued l + 1
  issued-now = issued-more x l e.opening (ap is_some opened) goes-now submitted-now

  rank-now : rank (x ∷ l) e.opening ≡ issued l
  rank-now = ap (λ (a : ℕ). issued (before (x ∷ l) a)) submitted-now ∙ ap issued (before-new x l)

  pub got-now : got_in (x ∷ l) e.opening ≡ got_by now
  got-now = ap (λ (b : Option Begun). got_for b (heard_for (x ∷ l) e.opening)) opened ∙ ap got_by progress-now

  -- Its token is the next.
  pub numbered : token_number n.token ≡ (start l t p d m S h none room).issued + issued l
  numbered = g.number ∙ sym h.before.reads.issued_are

  pub apart : bears_token l n.token ≡ false
  apart = unborne n.token S.issued g.number (firsts l) h.before.reads.tokens_are

  request-is : g.request ≡ q
  request-is = some-is g.request q (sym g.asked ∙ asked-here l S h.before.reads e on.it.kept)

  -- It doesn't ask to observe any more.
  observes-now : observes (x ∷ l) e.opening ≡ false
  observes-now = replied (replies l e.opening) replies-now
    where
      replied : (rs : List Reply) → replies (x ∷ l) e.opening ≡ rs ++ r ∷ [] → observes (x ∷ l) e.opening ≡ false
      replied [] is = ap (unless_replied (wants_in (before (x ∷ l) e.opening) (at (x ∷ l) e.opening))) is
      replied (s ∷ rs) is = ap (unless_replied (wants_in (before (x ∷ l) e.opening) (at (x ∷ l) e.opening))) is

  manner-now : manner (x ∷ l) e.opening ≡ Plainly
  manner-now =
      ap (λ (v : Option (List ℕ)). manner_by v (observes (x ∷ l) e.opening)) (ap (tag_of (kept_of (x ∷ l) e.opening)) replies-now ∙ untagged (kept_of (x ∷ l) e.opening) (replies l e.opening))
      ∙ ap observing_if observes-now
    where
      untagged : (old : Option Stored) (rs : List Reply) → tag_of old (rs ++ r ∷ []) ≡ None
      untagged None rs = refl
      untagged (Some s) [] = refl
      untagged (Some s) (y ∷ rs) = refl

  next-is : next_message (manner (x ∷ l) e.opening) q (progress q (heard_for (x ∷ l) e.opening)) 0 n.token ≡ Some g.message
  next-is =
      ap (λ (b : Manner). next_message b q (progress q (heard_for (x ∷ l) e.opening)) 0 n.token) manner-now
      ∙ (ap (λ (u : Progress). next_message Plainly q u 0 n.token) progress-now
      ∙ (next-bare now ∙ (ap (λ (u : Progress). next_message Plainly q u 0 n.token) (sym same-how)
      ∙ subst (λ (a : CoapRequest). next_message Plainly a how 0 n.token ≡ Some g.message) request-is g.next)))
    where
      next-bare : (u : Progress) → next_message Plainly q u 0 n.token ≡ next_message Plainly q (bare_progress u) 0 n.token
      next-bare (Fetches k pieces got) = refl
      next-bare (Gives upload got) = refl
      next-bare (Ends how) = refl

  pub goes-on : GoesOn (start l t p d m S h none room) l x e.opening n.token n.text
  goes-on = record {
    is = is-issued;
    since = e.since;
    request = q;
    opening = opened;
    message = g.message;
    next = next-is;
    spelled = g.spelled;
    token_size = g.token_size;
    token_apart = apart;
    numbered = numbered;
  }

  -- It has a reply more, or begins anew.
  pub is-more : IsMore (got_in l e.opening) r (got_by now)
  is-more =
      subst (λ (got : List Reply). IsMore got r (got_by now)) (sym (ap (λ (b : Option Begun). got_for b (heard_for l e.opening)) on.it.kept.opening))
      (subst (λ (u : Progress). IsMore (got_by (progress q (heard_for l e.opening))) r (got_by u)) stepped
      (step-more (progress q (heard_for l e.opening)) r (subst IsGoing (sym stepped) goes)))
    where
      stepped : step (progress q (heard_for l e.opening)) r ≡ now
      stepped = sym (progress-push q (heard_for l e.opening) r) ∙ (on.comes ∙ real)

  -- This is kept of it now.
  pub kept-on : (f : Exchange) → f.opening ≡ e.opening → (a : ExchangeIn (start l t p d m S h none room) l f) → f.current ≡ not (outrun (x ∷ l) (asked_place a.request) f.opening)
      → ExchangeIn (start l t p d m S h none room) (x ∷ l) (continued n.token (bare_progress now) f)
  kept-on f same a current = record {
    request = a.request;
    opening = begun-keeps x l f.opening _ a.opening;
    peer = a.peer;
    method = a.method;
    number = ap (λ (o : ℕ). (start l t p d m S h none room).issued + rank (x ∷ l) o) same ∙ (ap (λ (i : ℕ). (start l t p d m S h none room).issued + i) rank-now ∙ sym numbered);
    sending = a.sending;
    awaits = ap (waits_for (x ∷ l)) same ∙ unsent-now;
    observes = ap (observes (x ∷ l)) same ∙ observes-now;
    asked = a.asked;
    named = λ u. absurd (false≢true u);
    sent = apart;
    current = current;
    newest = newest-of;
    newest_kept = λ s k. absurd (none-some s (sym (ap (kept_in (x ∷ l)) same
        ∙ (ap (kept_yet (kept_of (x ∷ l) e.opening)) replies-now ∙ kept-replied (kept_of (x ∷ l) e.opening) (replies l e.opening) r)) ∙ k));
    progress = progress-of;
    short = a.short;
    digests = a.digests;
    behind = behind-stays x l f.opening _ a.opening ∙ a.behind;
  }
    where
      -- the first of its replies, where it is this one, is newer than all
      newest-of : is_get a.request ≡ true → IsNewest (x ∷ l) (asked_key a.request) (got_in (x ∷ l) f.opening) (newest_by (got_by (bare_progress now)) f.newest)
      newest-of get =
          subst (λ (c : Bool). IsNewest (x ∷ l) (asked_key a.request) (got_in (x ∷ l) f.opening) c) (newest-bare now)
          (subst (λ (gs : List Reply). IsNewest (x ∷ l) (asked_key a.request) gs (newest_by (got_by now) f.newest)) (sym (ap (got_in (x ∷ l)) same ∙ got-now))
          (newest-gone x l (asked_key a.request) f.newest r silent refl (got_in l f.opening) (got_by now) (a.newest get)
          (subst (λ (o : ℕ). IsMore (got_in l o) r (got_by now)) (sym same) is-more)))
        where
          silent : counting l x.note ≡ None
          silent = answered-silent l t p d m S h none room e on.it

          newest-list : (gs : List Reply) → newest_by gs f.newest ≡ newest_by (map bare gs) f.newest
          newest-list [] = refl
          newest-list (y ∷ []) = refl
          newest-list (y ∷ z ∷ gs) = refl

          newest-bare : (u : Progress) → newest_by (got_by u) f.newest ≡ newest_by (got_by (bare_progress u)) f.newest
          newest-bare (Fetches k pieces got) = newest-list got
          newest-bare (Gives upload got) = newest-list got
          newest-bare (Ends how) = refl

      begun-same : ◌≡◌ {A = Option Begun} (Some (record { since = f.since; request = a.request })) (Some (record { since = e.since; request = q }))
      begun-same = sym a.opening ∙ (ap (begun l) same ∙ on.it.kept.opening)

      request-same : a.request ≡ q
      request-same = ap (λ (b : Begun). b.request) (some-is _ _ begun-same)

      progress-of : progress a.request (heard_for (x ∷ l) f.opening) ≡ progress_with (work_by (bare_progress now) f.work) (got_in (x ∷ l) f.opening)
      progress-of =
          ap (λ (v : CoapRequest). progress v (heard_for (x ∷ l) f.opening)) request-same
          ∙ (ap (λ (o : ℕ). progress q (heard_for (x ∷ l) o)) same
          ∙ (progress-now
          ∙ (work-goes now f.work goes
          ∙ ap (progress_with (work_by (bare_progress now) f.work)) (sym (ap (got_in (x ∷ l)) same ∙ got-now)))))

  -- What waits at its endpoint.
  above : (a : Peer) (v : Waiting) → Contains (link_of S.links a).waiting v → token_number v.token ≡ token_number n.token → ⊥
  above a v has same =
      let less = below-issued l S a v h.before.reads has in
      let number = g.number in
      omega (arith, less, same, number)

  pub waits-old : (f : Exchange) → OpenIn (start l t p d m S h none room) l f → WaitsUnder (link_of S.links f.peer).waiting f → f.peer ≡ p
      → WaitsUnder ((link_of S.links p).waiting ++ waits n.token n.text n.word ∷ []) f
  waits-old f a under at_p v has same = elim (Contains-push_cases (link_of S.links p).waiting (waits n.token n.text n.word) v has) [
    | inl old ↦ under v (subst (λ (u : Peer). Contains (link_of S.links u).waiting v) (sym at_p) old) same
    | inr new ↦
        let less = rank-below l f.opening _ h.before.reads.legal a.0.opening a.1 in
        let mine = a.0.number in
        let issued = h.before.reads.issued_are in
        let is = ap (λ (u : Waiting). token_number u.token) new in
        let number = g.number in
        absurd (omega (arith, less, mine, issued, is, same, number))
  ]

  pub waits-new : (f : Exchange) → WaitsUnder ((link_of S.links p).waiting ++ waits n.token n.text n.word ∷ []) (continued n.token (bare_progress now) f)
  waits-new f v has same = elim (Contains-push_cases (link_of S.links p).waiting (waits n.token n.text n.word) v has) [
    | inl old ↦ absurd (above p v old same)
    | inr new ↦ ap (λ (u : Waiting). u.token) (sym new)
  ]

  -- Nowhere does a message wait under its token yet.
  pub waits-yet : (f : Exchange) (a : Peer) → WaitsUnder (link_of S.links a).waiting (continued n.token (bare_progress now) f)
  waits-yet f a v has same = absurd (above a v has same)
