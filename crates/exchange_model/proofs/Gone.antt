-- The tokens under which nothing is expected any more went out.
use Rattle.std.proofs.Common.{◌≡◌, ℕ, inl, inr, Bool, true, false, cond, List, [], ◌∷◌, length, Option, Some, None, refl, sym, ap, subst, ◌∙◌}
use Rattle.std.specs.Prelude.{filter, find, ⊤}
use Rattle.std.specs.List.{Contains}
use Rattle.std.specs.Str.{bytes_eq}
use Rattle.std.proofs.lemmas.Bool.{false≢true, or_cases}
use Rattle.std.proofs.lemmas.List.Folds.{list_any-append}
use Rattle.std.proofs.lemmas.Slice.Eq.{bytes_eq-Decides}
use Rattle.coap_codec.specs.Spelling.{Content}
use Rattle.uri_map.specs.declared.peer.Peer.{Peer}
use Rattle.message_layer.specs.Hearing.{verdict_of}
use Rattle.message_layer.specs.declared.verdict.News.{News}
use Rattle.message_layer.specs.declared.verdict.News.TheVariants as N
use Rattle.observe_share.specs.declared.registration.Registration.{Registration}
use Rattle.observe_share.specs.declared.notice.Notice.{Notice}
use Rattle.observe_share.specs.declared.notice.Notice.TheVariants.{Update, Other}
use Rattle.observe_share.specs.Watches as W
use Rattle.history_laws.specs.Readings.{Noted}
use Rattle.history_laws.specs.Progress.{Progress, Fetches, Gives, Ends, Renewed}
use Rattle.history_laws.specs.Transmissions.{bears_token}
use Rattle.history_laws.specs.Observing.{as_first, notice_in, watches}
use Rattle.history_laws.proofs.CallerLemmas.{contains-mapped, filtered-from, find-any, find-some, watch-fits}
use Rattle.history_links.specs.Steps.{ended_token}
use Rattle.exchange_model.specs.declared.kept.Exchange.{Exchange}
use Rattle.exchange_model.specs.State.{State, link_of}
use Rattle.exchange_model.specs.Watching.{counts_to, is_one_of, is_written_by, registers, token_of, tokens_of}
use Rattle.exchange_model.specs.Reads.{held_of, Reads}
use Rattle.exchange_model.specs.Steps.{is_under, reply_at}
use Rattle.exchange_model.specs.Matters.{Matter, Nothing, Tells, Goes, Over, answered_in, asked_in, comes_to, has_next_place, matter_by, matter_of, replied, tells_of, told_alone, stale_in, unless_valid, Starts, may_start, starting, told_so}
use Rattle.exchange_model.specs.Hearing.{gone_by, unless_registered, unless_updated}
use Rattle.exchange_model.proofs.Apart.{under-of}
use Rattle.exchange_model.proofs.Borne.{ended-borne}
use Rattle.exchange_model.proofs.Hearing.{borne-bears}
use Rattle.history_laws.specs.Responses.{confirms}
use Rattle.resp_cache.specs.Stored.{Stored}

-- What a message is to is one that was found.
abbrev IsOf : State → Option Exchange → Matter → Type 0
IsOf S found Nothing = ⊤
IsOf S found (Tells r stored) = Contains S.watches r
IsOf S found (Starts r e progress) = Contains S.watches r
IsOf S found (Goes e progress) = found ≡ Some e
IsOf S found (Over e how) = found ≡ Some e

of-replied : (S : State) (place : Bool) (e : Exchange) (u : Progress) → IsOf S (Some e) (replied place e u)
of-replied S true e (Fetches restarts pieces got) = refl
of-replied S true e (Gives upload got) = refl
of-replied S true e (Ends how) = refl
of-replied S false e (Fetches restarts pieces got) = refl
of-replied S false e (Gives upload got) = refl
of-replied S false e (Ends how) = refl

of-valid : (m : Content) (S : State) (e : Exchange) (v : Option Stored) (place : Bool) (u : Progress) → IsOf S (Some e) (unless_valid v m S e (replied place e u))
of-valid m S e None place u = of-replied S place e u
of-valid m S e (Some s) place u = by (confirms s.response.etag m)
  where
    by : (b : Bool) → IsOf S (Some e) (cond b (Over e (Renewed s (reply_at (length S.entries) m))) (replied place e u))
    by true = refl
    by false = of-replied S place e u

of-told : (t : ℕ) (p : Peer) (m : Content) (S : State) (v : Option Registration) → find (W.is_under m.token) S.watches ≡ v → IsOf S None (tells_of t p m S v)
of-told t p m S None is = tt
of-told t p m S (Some r) is = by (counts_to t m r)
  where
    has : Contains S.watches r
    has = (find-some (W.is_under m.token) S.watches r is).0

    begins : (u : Progress) (b : Bool) → IsOf S None (cond b (Starts r (starting t p r u S) u) (Tells r None))
    begins u true = has
    begins u false = has

    told : (n : Notice) (u : Progress) → IsOf S None (told_so t p S r n u)
    told (Other v) u = has
    told (Update v) (Ends how) = has
    told (Update v) (Fetches k pieces got) = begins (Fetches k pieces got) (may_start t p r S)
    told (Update v) (Gives w got) = begins (Gives w got) (may_start t p r S)

    by : (b : Bool) → IsOf S None (cond b (told_so t p S r (notice_in m) (as_first (length S.entries) 0 m)) Nothing)
    by true = told (notice_in m) (as_first (length S.entries) 0 m)
    by false = tt

of-alone : (t : ℕ) (p : Peer) (news : News) (m : Content) (S : State) → IsOf S None (told_alone t p news m S)
of-alone t p N.Response m S = of-told t p m S (find (W.is_under m.token) S.watches) refl
of-alone t p N.Quiet m S = tt
of-alone t p (N.Reset token) m S = tt
of-alone t p N.Lost m S = tt

of-matter : (t : ℕ) (p : Peer) (news : News) (place : Bool) (m : Content) (S : State) (found : Option Exchange) → IsOf S found (matter_by t p news place m S found)
of-matter t p news place m S None = of-alone t p news m S
of-matter t p (N.Reset token) place m S (Some e) = refl
of-matter t p N.Quiet place m S (Some e) = of-valid m S e (stale_in e.opening S.stales) place (comes_to m S e)
of-matter t p N.Response place m S (Some e) = of-valid m S e (stale_in e.opening S.stales) place (comes_to m S e)
of-matter t p N.Lost place m S (Some e) = of-valid m S e (stale_in e.opening S.stales) place (comes_to m S e)

module _ (t : ℕ) (p : Peer) (m : Content) (l : List Noted) (S : State) (r : Reads l S) where
  abbrev ended : Option (List ℕ)
  ended = ended_token (verdict_of t (link_of S.links p) m).news m.token

  one-borne : (token borne : List ℕ) → is_one_of (borne ∷ []) token ≡ true → bears_token l borne ≡ true → bears_token l token ≡ true
  one-borne token borne is bears = elim (or_cases (bytes_eq token borne) false is) [
    | inl same ↦ ap (bears_token l) ((bytes_eq-Decides token borne).0 same) ∙ bears
    | inr none ↦ absurd (false≢true none)
  ]

  watch-borne : (w : Registration) → Contains S.watches w → bears_token l w.token ≡ true
  watch-borne w has =
      let it = contains-mapped held_of (watches l) w (subst (λ (rs : List Registration). Contains rs w) (sym r.watches_are) has) in
      let fits = watch-fits l it.0 r.legal it.1 in
      let u = under-of l it.0 fits in
      borne-bears l u.first w.token it.0.sending u.is (u.token ∙ ap token_of it.2)

  exchange-borne : (e : Exchange) → answered_in ended S.exchanges ≡ Some e → bears_token l e.token ≡ true
  exchange-borne e found = by ended refl found
    where
      by : (v : Option (List ℕ)) → ended ≡ v → answered_in v S.exchanges ≡ Some e → bears_token l e.token ≡ true
      by None is f = absurd cc
      by (Some of) is f =
          let under = (find-some (is_under of) S.exchanges e f).1 in
          let b = ended-borne l t p (link_of S.links p) m of m.kind (r.links_are p) is in
          borne-bears l b.first e.token b.number b.is (b.token_is ∙ sym ((bytes_eq-Decides e.token of).0 under))

  unless-borne : (e : Exchange) (token : List ℕ) → answered_in ended S.exchanges ≡ Some e → is_one_of (unless_registered m e S.watches) token ≡ true → bears_token l token ≡ true
  unless-borne e token found is = by (registers m e S.watches) is
    where
      by : (b : Bool) → is_one_of (cond b [] (e.token ∷ [])) token ≡ true → bears_token l token ≡ true
      by true f = absurd (false≢true f)
      by false f = one-borne token e.token f (exchange-borne e found)

  tokens-borne : (ends : Registration → Bool) (token : List ℕ) → is_one_of (tokens_of ends S.watches) token ≡ true → bears_token l token ≡ true
  tokens-borne ends token is =
      let one = find-any (bytes_eq token) (tokens_of ends S.watches) is in
      let it = find-some (bytes_eq token) (tokens_of ends S.watches) one.0 one.1 in
      let w = contains-mapped token_of (filter ends S.watches) one.0 it.0 in
      ap (bears_token l) ((bytes_eq-Decides token one.0).0 it.1 ∙ sym w.2) ∙ watch-borne w.0 (filtered-from ends S.watches w.0 w.1).0

  told-borne : (z : Notice) (w : Registration) (token : List ℕ) → Contains S.watches w → is_one_of (unless_updated z w) token ≡ true → bears_token l token ≡ true
  told-borne (Update v) w token has is = absurd (false≢true is)
  told-borne (Other v) w token has is = one-borne token w.token is (watch-borne w has)

  gone-of : (x : Matter) (token : List ℕ) → IsOf S (answered_in ended S.exchanges) x → is_one_of (gone_by m S.entries x S.watches) token ≡ true → bears_token l token ≡ true
  gone-of Nothing token of is = absurd (false≢true is)
  gone-of (Tells w stored) token of is = told-borne (notice_in m) w token of is
  gone-of (Starts w e progress) token of is = absurd (false≢true is)
  gone-of (Goes e progress) token of is = unless-borne e token of is
  gone-of (Over e how) token of is = elim (or_cases (is_one_of (unless_registered m e S.watches) token) (is_one_of (tokens_of (is_written_by (asked_in S.entries e.ask)) S.watches) token)
      (sym (list_any-append (bytes_eq token) (unless_registered m e S.watches) (tokens_of (is_written_by (asked_in S.entries e.ask)) S.watches)) ∙ is)) [
        | inl own ↦ unless-borne e token of own
        | inr others ↦ tokens-borne (is_written_by (asked_in S.entries e.ask)) token others
      ]

  pub gone-borne : (token : List ℕ)
      → is_one_of (gone_by m S.entries (matter_of t p m (verdict_of t (link_of S.links p) m) S) S.watches) token ≡ true → bears_token l token ≡ true
  gone-borne token is =
      gone-of (matter_of t p m (verdict_of t (link_of S.links p) m) S) token
      (of-matter t p (verdict_of t (link_of S.links p) m).news (has_next_place t p (verdict_of t (link_of S.links p) m) S) m S (answered_in ended S.exchanges)) is
