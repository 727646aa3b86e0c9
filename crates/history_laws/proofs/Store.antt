-- The worked journals of what is stored.
use Rattle.std.proofs.Common.{◌≡◌, ℕ, ◌≤◌, ◌<◌, true, inl, inr, List, [], ◌∷◌, ◌++◌, length, Some, is_some, refl, sym, ap, subst, ◌∙◌, arith, lit≤}
use Rattle.std.specs.Prelude.{nat_lt, ◌+◌}
use Rattle.std.specs.List.{AllByRecursion, Contains}
use Rattle.std.proofs.lemmas.Bool.{false≢true}
use Rattle.limits.specs.declared.TheConstants.{MAX_STORED}
use Rattle.cache_key.specs.Keys.{CacheKey}
use Rattle.resp_cache.specs.Stored.{Stored, lifetime, is_fresh}
use Rattle.ask_model.specs.Requests.{CoapRequest}
use Rattle.ask_model.specs.Sharing.{asked_key}
use Rattle.journal_book.specs.Entries.{Asks}
use Rattle.history_laws.specs.Responses.{Response, response_of}
use Rattle.history_laws.specs.Readings.{Noted, Plain, Serves, at, noted}
use Rattle.history_laws.specs.Progress.{Reply, numbers, Ending, Whole}
use Rattle.history_laws.specs.Exchanges.{begun, openings, End, end_of}
use Rattle.history_laws.specs.Joining.{is_joinable}
use Rattle.history_laws.specs.Storing.{ComesSo, EndsSo, IsBrought, IsUse, IsUsedSince}
use Rattle.history_laws.specs.Justified.{Legal}
use Rattle.history_laws.specs.Worked.{Holds, Refused}
use Rattle.history_laws.specs.WorkedMessages.{get_light, all_answered}
use Rattle.history_laws.specs.WorkedEndings.{non_message}
use Rattle.history_laws.specs.WorkedCopies.{content_again}
use Rattle.history_laws.specs.WorkedStore.{read_once, read_from_store, fetched_when_stale, fetched_though_fresh, read_expired, kept_late, get_bright, get_json, other_query, other_accept, read_outdated, read_twice, read_older}
use Rattle.history_laws.proofs.Carrying.{no-renewed, uncarried, unrenewed-stored}
use Rattle.history_laws.proofs.Copied.{get-again-spelled}
use Rattle.history_laws.proofs.Elements.{contains-none, first-or-later}
use Rattle.history_laws.proofs.Endings.{non-spelled}
use Rattle.history_laws.proofs.Joining.{shared-is}
use Rattle.history_laws.proofs.Messages.{legal-waiting}
use Rattle.history_laws.proofs.Missing.{no-updates}
use Rattle.history_laws.proofs.Openings.{begun-listed}
use Rattle.history_laws.proofs.Places.{at-below}
use Rattle.history_laws.proofs.Resting.{at-rest, may-come, some-is}
use Rattle.history_laws.proofs.Wholes.{ends-all}

legal-once : Legal read_once
legal-once = (
  (
    legal-waiting.0.0,
    lit≤ tt,
    (may-come _ refl refl, lit≤ tt, refl, record { spelled = non-spelled; unheard = refl; remembered = refl; says = refl }),
  ),
  lit≤ tt,
  (refl, refl, refl, inl (1, 3, _, _, refl, refl, refl), tt),
)

-- What may answer an ask was opened by one of the openings.
opened-among : (l : List Noted) (q : CoapRequest) (o : ℕ) → is_joinable l q o ≡ true → Contains (openings l) o
opened-among l q o may = begun-listed l o (ap is_some (shared-is l q o may).opened)

begun-once : (o : ℕ) → is_some (begun read_once o) ≡ true → 1 ≡ o
begun-once o is =
    elim (first-or-later 1 [] o (begun-listed read_once o is)) [ inl w ↦ w | inr w ↦ absurd (contains-none o w) ]

opened-one : (l : List Noted) (q : CoapRequest) (n o : ℕ) → openings l ≡ n ∷ [] → is_joinable l q o ≡ true → n ≡ o
opened-one l q n o one may =
    elim (first-or-later n [] o (subst (λ (os : List ℕ). Contains os o) one (opened-among l q o may))) [
      | inl w ↦ w
      | inr w ↦ absurd (contains-none o w)
    ]

abbrev reply-of-once : Reply
reply-of-once = record { number = 3; sending = 2; message = non_message }

abbrev stored-once : Stored
stored-once = record { response = response_of non_message; opening = 1; heard = 700; list = 3 ∷ [] }

-- the one exchange of that journal ended so
ends-once : (o e : ℕ) (how : Ending) → 1 ≡ o → end_of read_once o ≡ Some (record { number = e; how = how })
    → (3 ≡ e) × (Whole (response_of non_message) (reply-of-once ∷ []) ≡ how)
ends-once o e how one ended =
    let same = some-is _ _ (subst (λ (o : ℕ). end_of read_once o ≡ Some (record { number = e; how = how })) (sym one) ended) in
    (ap (λ (x : End). x.number) same, ap (λ (x : End). x.how) same)

-- No notification came there.
ended-once : (o e : ℕ) (w : Response) (rs : List Reply) → ComesSo read_once o e w rs → EndsSo read_once o e w rs
ended-once o e w rs (inl it) = it
ended-once o e w rs (inr u) = absurd (no-updates read_once o e w rs refl u)

is-stored-once : IsBrought read_once get_light stored-once
is-stored-once =
    record {
      opening = 1;
      ending = 3;
      first = reply-of-once;
      more = [];
      comes = inl (record { ended = refl; code = refl });
      shared = refl;
      newest = refl;
      latest = λ o e w r rs it may new.
          let here = (ends-once o e (Whole w (r ∷ rs)) (opened-one read_once get_light 1 o refl may) (ended-once o e w (r ∷ rs) it).ended).0 in
          omega (arith, here);
      entry = _;
      heard_in = refl;
      heard = refl;
      origin = refl;
      list = refl;
    }

pub read_from_store-holds : Holds read_from_store
read_from_store-holds = (
  (
    (legal-once, lit≤ tt, (may-come _ refl refl, refl, refl, (stored-once, unrenewed-stored read_once get_light stored-once refl (inl is-stored-once), refl, refl), tt)),
    lit≤ tt,
    (refl, refl, refl, (0, _, refl), tt),
  ),
  at-rest _ refl,
)

-- what that journal has stored
only-stored : (q : CoapRequest) (s : Stored) → IsBrought read_once q s → (s.heard ≡ 700) × (s.response ≡ response_of non_message)
only-stored q s is =
    let how = (ends-once is.opening is.ending _ (opened-one read_once q 1 is.opening refl is.shared) (ended-once _ _ _ _ is.comes).ended).1 in
    let first = first-of _ _ (replies-same _ _ _ _ how) in
    let heard = some-is _ _ (subst (λ (n : ℕ). at read_once n ≡ Some is.entry) (sym (ap (λ (r : Reply). r.number) first)) is.heard_in) in
    (is.heard ∙ sym (ap (λ (x : Noted). x.written.moment) heard), sym (response-same _ _ _ _ how))
  where
    replies-same : (v w : Response) (xs ys : List Reply) → Whole v xs ≡ Whole w ys → xs ≡ ys
    replies-same v w xs ys e = cc

    response-same : (v w : Response) (xs ys : List Reply) → Whole v xs ≡ Whole w ys → v ≡ w
    response-same v w xs ys e = cc

    first-of : (x y : Reply) {xs ys : List Reply} → x ∷ xs ≡ y ∷ ys → x ≡ y
    first-of x y e = cc

-- which is stale then
stale-once : (q : CoapRequest) (s : Stored) → IsBrought read_once q s → is_fresh 60700 s ≡ true → ⊥
stale-once q s is fresh =
    let it = only-stored q s is in
    let late : nat_lt 60700 (700 + lifetime (response_of non_message).max_age) ≡ true =
    subst (λ (w : Response). nat_lt 60700 (700 + lifetime w.max_age) ≡ true) it.1
    (subst (λ (n : ℕ). nat_lt 60700 (n + lifetime s.response.max_age) ≡ true) it.0 fresh) in
    false≢true late

pub fetched_when_stale-holds : Holds fetched_when_stale
fetched_when_stale-holds = (
  (
    (
      legal-once,
      lit≤ tt,
      (may-come _ refl refl, refl, refl, (refl, refl, refl), λ s is fresh. absurd (stale-once get_light s (uncarried read_once get_light s refl is) fresh)),
    ),
    lit≤ tt,
    (
      refl,
      (
        refl,
        record {
          since = 60700;
          request = get_light;
          opening = refl;
          others = _;
          first = refl;
          free = refl;
          peer = refl;
          message = refl;
          spelled = get-again-spelled;
          token_size = refl;
          token_apart = refl;
          mid_apart = refl;
          wait = 2000;
          first_wait = refl;
          least = lit≤ tt;
          greatest = lit≤ tt;
        },
      ),
    ),
  ),
  at-rest _ refl,
)

-- not so

-- No key was used after what that journal has stored was heard.
unused : (n : ℕ) (key : CacheKey) → IsUse read_once n key → 3 < n → ⊥
unused n key (inl s) lt =
    let below : n < 5 = at-below read_once n (noted s.moment (Asks s.conn s.ask) (Serves s.replies)) s.stands in
    let four : n ≡ 4 = omega (arith, below, lt) in
    let stands : at read_once 4 ≡ Some (noted s.moment (Asks s.conn s.ask) (Serves s.replies)) =
    subst (λ (n : ℕ). at read_once n ≡ Some (noted s.moment (Asks s.conn s.ask) (Serves s.replies))) four s.stands in
    unserved (ap (λ (x : Noted). x.note) (some-is _ _ stands))
  where
    unserved : Plain ≡ Serves s.replies → ⊥
    unserved e = cc
unused n key (inr (inr s)) lt = absurd (no-renewed read_once s.opening n s.kept s.reply refl s.ended)
unused n key (inr (inl s)) lt =
    let here = (ends-once s.opening n (Whole s.response (s.first ∷ s.more)) (begun-once s.opening (ap is_some s.opened)) (ended-once _ _ _ _ s.comes).ended).0 in
    absurd (omega (arith, here, lt))

used-once : IsUse read_once 3 (asked_key get_light)
used-once =
    inr (inl (record {
      opening = 1;
      response = response_of non_message;
      first = reply-of-once;
      more = [];
      comes = inl (record { ended = refl; code = refl });
      since = 0;
      request = get_light;
      opened = refl;
      get = refl;
      is = refl;
      current = refl;
      newest = refl;
      lasts = refl;
    }))

pub fetched_though_fresh-refused : Refused fetched_though_fresh
fetched_though_fresh-refused h = let it = h.2.4 stored-once (unrenewed-stored read_once get_light stored-once refl (inl is-stored-once)) refl in by it.others it.many it.since
  where
    by : (keys : List CacheKey) → MAX_STORED ≤ length keys → AllByRecursion (IsUsedSince read_once (asked_key get_light)) keys → ⊥
    by [] many since = let none : 256 ≤ 0 = many in absurd (omega (arith, none))
    by (key ∷ keys) many since = used since.0
      where
        used : IsUsedSince read_once (asked_key get_light) key → ⊥
        used (inl it) = unused it.0 key it.1 (it.2 3 used-once)
        used (inr it) = it.1.1 3 used-once

pub read_expired-refused : Refused read_expired
read_expired-refused h = stale-once get_light h.0.2.3.0 (uncarried read_once get_light h.0.2.3.0 refl h.0.2.3.1) h.0.2.3.2

pub kept_late-refused : Refused kept_late
kept_late-refused h =
    let moment : 60698 ≡ 60699 = ap (λ (x : Noted). x.written.moment) (some-is _ _ h.2.3.2) in
    absurd (omega (arith, moment))

-- no exchange of that journal may answer it
pub other_query-refused : Refused other_query
other_query-refused h =
    let is = uncarried read_once get_bright h.2.3.0 refl h.2.3.1 in
    false≢true (subst (λ (o : ℕ). is_joinable read_once get_bright o ≡ true) (sym (opened-one read_once get_bright 1 _ refl is.shared)) is.shared)

pub other_accept-refused : Refused other_accept
other_accept-refused h =
    let is = uncarried read_once get_json h.2.3.0 refl h.2.3.1 in
    false≢true (subst (λ (o : ℕ). is_joinable read_once get_json o ≡ true) (sym (opened-one read_once get_json 1 _ refl is.shared)) is.shared)

pub read_outdated-refused : Refused read_outdated
read_outdated-refused h = let is = uncarried all_answered get_light h.0.2.3.0 refl h.0.2.3.1 in by is.opening is.shared
  where
    by : (o : ℕ) → is_joinable all_answered get_light o ≡ true → ⊥
    by o may =
        elim (first-or-later 1 (4 ∷ []) o (opened-among all_answered get_light o may)) [
          | inl w ↦ false≢true (subst (λ (o : ℕ). is_joinable all_answered get_light o ≡ true) (sym w) may)
          | inr v ↦ elim (first-or-later 4 [] o v) [
            | inl w ↦ false≢true (subst (λ (o : ℕ). is_joinable all_answered get_light o ≡ true) (sym w) may)
            | inr w ↦ contains-none o w
          ]
        ]

-- The later response to an equal GET is the latest.
pub read_older-refused : Refused read_older
read_older-refused h =
    let s : Stored = h.2.3.0 in
    let is : IsBrought read_twice get_light s = uncarried read_twice get_light s refl h.2.3.1 in
    let latest : 7 ≤ is.ending = is.latest 5 7 (response_of content_again) (record { number = 7; sending = 6; message = content_again }) [] (inl (record { ended = refl; code = refl })) refl refl in
    let all = ends-all read_twice is.opening is.ending s.response (is.first ∷ is.more) h.0 (ended-twice is.comes).ended in
    let numbered : numbers (all.others ++ all.last ∷ []) ≡ 3 ∷ [] = sym (ap numbers all.all) ∙ (sym is.list ∙ h.2.3.3) in
    let number : all.last.number ≡ 3 = only all.others all.last 3 numbered in
    let ending = all.number in
    absurd (omega (arith, latest, number, ending))
  where
    ended-twice : {o e : ℕ} {w : Response} {rs : List Reply} → ComesSo read_twice o e w rs → EndsSo read_twice o e w rs
    ended-twice (inl it) = it
    ended-twice {o} {e} {w} {rs} (inr u) = absurd (no-updates read_twice o e w rs refl u)

    only : (rs : List Reply) (r : Reply) (n : ℕ) → numbers (rs ++ r ∷ []) ≡ n ∷ [] → r.number ≡ n
    only [] r n e = cc
    only (s ∷ []) r n e = cc
    only (s ∷ t ∷ rs) r n e = cc
