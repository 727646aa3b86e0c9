-- The worked journals of a resource that is observed.
use Rattle.std.proofs.Common.{◌≡◌, ℕ, ◌≤◌, ◌<◌, Bool, true, false, ◌&&◌, inl, inr, List, [], ◌∷◌, Option, Some, None, is_some, refl, sym, ap, subst, ◌∙◌, arith, lit≤}
use Rattle.std.proofs.lemmas.Bool.{false≢true, and_parts}
use Rattle.std.proofs.lemmas.Bool.Decides.{eqb_tells, leb_tells}
use Rattle.coap_codec.specs.declared.message.MsgType.TheVariants.{Rst}
use Rattle.coap_codec.specs.Spelling.{Content, Spells, Entry}
use Rattle.coap_codec.specs.Reading.{message_at}
use Rattle.coap_codec.specs.Reading as X
use Rattle.cache_key.specs.Keys.{same_key}
use Rattle.resp_cache.specs.Stored.{Stored}
use Rattle.ask_model.specs.Requests.{CoapRequest, Plainly, Observing, request_message}
use Rattle.ask_model.specs.Sharing.{asked_key, is_get}
use Rattle.history_laws.specs.Confirmations.{empty}
use Rattle.history_laws.specs.Responses.{Response, joined}
use Rattle.history_laws.specs.Readings.{Noted, Note, Says, Observation, Updates, at, Notice, Unobserved}
use Rattle.history_laws.specs.Progress.{Reply, numbers, Ending, Whole, next_message, progress}
use Rattle.history_laws.specs.Exchanges.{Begun, begun, End, end_of}
use Rattle.history_laws.specs.Joining.{asks_the_same, is_joinable}
use Rattle.history_laws.specs.Storing.{IsAsHeard, ComesSo, IsBrought, MissesAlone, UpdatesSo}
use Rattle.history_laws.specs.Justified.{Legal}
use Rattle.history_laws.specs.Worked.{Holds, Refused, server, empty_rst, token}
use Rattle.history_laws.specs.WorkedWatches.{get_t, put_t, get_bytes, get_message, registers_bytes, registers_message, greatest_bytes, greatest, least_bytes, least, sent, registered, updated, outrun_late, served, unasked, left_out, not_newer, older_served, put_bytes, put_message, changed_bytes, changed_message, written, rejected, served_after, counted_after, forgotten}
use Rattle.history_laws.proofs.Carrying.{heard-of, uncarried, unrenewed-stored}
use Rattle.history_laws.proofs.Elements.{contains-none, first-or-later}
use Rattle.history_laws.proofs.Joining.{shared-is}
use Rattle.history_laws.proofs.Missing.{none-stored}
use Rattle.history_laws.proofs.Notified.{first-whole}
use Rattle.history_laws.proofs.Openings.{begun-listed}
use Rattle.history_laws.proofs.Places.{at-below}
use Rattle.history_laws.proofs.Resting.{at-rest, may-come, some-is}
use Rattle.history_laws.proofs.Spelled.{spelled}
use Rattle.history_laws.proofs.Registering.{says-notice}

pub watch-get-spelled : Spells get_message get_bytes
unfolding message_at X.options_at X.option_at
watch-get-spelled = spelled get_bytes _ refl refl

pub registers-spelled : Spells registers_message registers_bytes
unfolding message_at X.options_at X.option_at
registers-spelled = spelled registers_bytes _ refl refl

put-t-spelled : Spells put_message put_bytes
unfolding message_at X.options_at X.option_at
put-t-spelled = spelled put_bytes _ refl refl

changed-t-spelled : Spells changed_message changed_bytes
unfolding message_at X.options_at X.option_at
changed-t-spelled = spelled changed_bytes _ refl refl

pub greatest-1-spelled : Spells (greatest 1) (greatest_bytes 1)
unfolding message_at X.options_at X.option_at
greatest-1-spelled = spelled (greatest_bytes 1) _ refl refl

pub greatest-3-spelled : Spells (greatest 3) (greatest_bytes 3)
unfolding message_at X.options_at X.option_at
greatest-3-spelled = spelled (greatest_bytes 3) _ refl refl

pub least-2-spelled : Spells (least 2) (least_bytes 2)
unfolding message_at X.options_at X.option_at
least-2-spelled = spelled (least_bytes 2) _ refl refl

least-4-spelled : Spells (least 4) (least_bytes 4)
unfolding message_at X.options_at X.option_at
least-4-spelled = spelled (least_bytes 4) _ refl refl

least-5-spelled : Spells (least 5) (least_bytes 5)
unfolding message_at X.options_at X.option_at
least-5-spelled = spelled (least_bytes 5) _ refl refl

least-6-spelled : Spells (least 6) (least_bytes 6)
unfolding message_at X.options_at X.option_at
least-6-spelled = spelled (least_bytes 6) _ refl refl

rst-4-spelled : Spells (empty Rst 4) (empty_rst 4)
unfolding message_at X.options_at X.option_at
rst-4-spelled = spelled (empty_rst 4) _ refl refl

rst-6-spelled : Spells (empty Rst 6) (empty_rst 6)
unfolding message_at X.options_at X.option_at
rst-6-spelled = spelled (empty_rst 6) _ refl refl

legal-sent : Legal sent
legal-sent = (
  ((tt, lit≤ tt, (may-come _ refl refl, lit≤ tt, tt)), lit≤ tt, (may-come _ refl refl, refl, refl, (refl, refl, refl), none-stored _ _ _ refl)),
  lit≤ tt,
  (
    refl,
    (
      refl,
      record {
        since = 0;
        request = get_t;
        opening = refl;
        others = _;
        first = refl;
        free = refl;
        peer = refl;
        message = refl;
        spelled = watch-get-spelled;
        token_size = refl;
        token_apart = refl;
        mid_apart = refl;
        wait = 2000;
        first_wait = refl;
        least = lit≤ tt;
        greatest = lit≤ tt;
      },
    ),
  ),
)

pub legal-registered : Legal registered
legal-registered = (
  (legal-sent, lit≤ tt, (may-come _ refl refl, lit≤ tt, refl, record { spelled = registers-spelled; unheard = refl; remembered = refl; says = refl })),
  lit≤ tt,
  (refl, refl, refl, inl (1, 3, _, _, refl, refl, refl), tt),
)

legal-updated : Legal updated
legal-updated = (
  (legal-registered, lit≤ tt, (may-come _ refl refl, lit≤ tt, refl, record { spelled = greatest-1-spelled; unheard = refl; remembered = refl; says = refl })),
  lit≤ tt,
  (may-come _ refl refl, lit≤ tt, refl, record { spelled = least-2-spelled; unheard = refl; remembered = refl; says = refl }),
)

legal-outrun-late : Legal outrun_late
legal-outrun-late = (
  (legal-updated, lit≤ tt, (may-come _ refl refl, lit≤ tt, refl, record { spelled = greatest-3-spelled; unheard = refl; remembered = refl; says = refl })),
  lit≤ tt,
  (may-come _ refl refl, refl, tt),
)

-- what came last is stored

abbrev last-reply : Reply
last-reply = record { number = 6; sending = 2; message = least 2 }

abbrev last-stored : Stored
last-stored = record { response = joined (least 2) []; opening = 1; heard = 2000; list = 6 ∷ [] }

abbrev brings : Note → Bool
brings (Says m (Some i) notice) = by notice.observation
  where
    by : Observation → Bool
    by Updates = true
    by o = false
brings note = false

abbrev brings-in : Option Noted → Bool
brings-in None = false
brings-in (Some x) = brings x.note

-- The last update stands there.
updates-by : (e : ℕ) (x : Noted) → at outrun_late e ≡ Some x → brings x.note ≡ true → e ≤ 6
updates-by e x is note = elim (leb_tells e 6) [ inl w ↦ w.1 | inr w ↦ absurd (late w.1) ]
  where
    below : e < 9
    below = at-below outrun_late e x is

    here : brings-in (at outrun_late e) ≡ true
    here = ap brings-in is ∙ note

    late : 6 < e → ⊥
    late lt = elim (eqb_tells e 7) [
      | inl w ↦ false≢true (subst (λ (n : ℕ). brings-in (at outrun_late n) ≡ true) w.1 here)
      | inr w ↦ let other = w.1 in
          let eight : e ≡ 8 = omega (arith, below, lt, other) in
          false≢true (subst (λ (n : ℕ). brings-in (at outrun_late n) ≡ true) eight here)
    ]

one-opened : (o : ℕ) → is_joinable outrun_late get_t o ≡ true → 1 ≡ o
one-opened o may =
    elim (first-or-later 1 [] o (begun-listed outrun_late o (ap is_some (shared-is outrun_late get_t o may).opened))) [
      | inl w ↦ w
      | inr w ↦ absurd (contains-none o w)
    ]

ends-three : (o e : ℕ) (how : Ending) → 1 ≡ o → end_of outrun_late o ≡ Some (record { number = e; how = how }) → 3 ≡ e
ends-three o e how one ended =
    ap (λ (x : End). x.number) (some-is _ _ (subst (λ (o : ℕ). end_of outrun_late o ≡ Some (record { number = e; how = how })) (sym one) ended))

comes-by : (o e : ℕ) (w : Response) (rs : List Reply) → is_joinable outrun_late get_t o ≡ true → ComesSo outrun_late o e w rs → e ≤ 6
comes-by o e w rs may (inl it) = let three = ends-three o e (Whole w rs) (one-opened o may) it.ended in omega (arith, three)
comes-by o e w rs may (inr u) = updates-by e _ u.stands refl

last-update : UpdatesSo outrun_late 1 6 (joined (least 2) []) (last-reply ∷ [])
last-update = record {
  moment = 2000;
  peer = server;
  bytes = least_bytes 2;
  message = least 2;
  sending = 2;
  place = true;
  stands = refl;
  watch = _;
  under = refl;
  registered = refl;
  whole = refl;
  code = refl;
}

is-last-stored : IsBrought outrun_late get_t last-stored
is-last-stored = record {
  opening = 1;
  ending = 6;
  first = last-reply;
  more = [];
  comes = inr last-update;
  shared = refl;
  newest = refl;
  latest = λ o e w r rs it may new. comes-by o e w (r ∷ rs) may it;
  entry = _;
  heard_in = refl;
  heard = refl;
  origin = refl;
  list = refl;
}

legal-served : Legal served
legal-served = (
  (legal-outrun-late, lit≤ tt, (may-come _ refl refl, refl, refl, (last-stored, unrenewed-stored outrun_late get_t last-stored refl (inl is-last-stored), refl, refl), tt)),
  lit≤ tt,
  (refl, refl, refl, (1, _, refl), tt),
)

pub served-holds : Holds served
served-holds = (legal-served, at-rest _ refl)

-- a write

never-same : (l : List Noted) (q : CoapRequest) (o : ℕ) → is_get q ≡ false → asks_the_same q (begun l o) ≡ true → ⊥
never-same l q o write same = by (begun l o) same
  where
    by : (b : Option Begun) → asks_the_same q b ≡ true → ⊥
    by None e = false≢true e
    by (Some b) e = false≢true (sym write ∙ (and_parts (is_get q) _ e).0)

never-shared : (l : List Noted) (q : CoapRequest) (o : ℕ) → is_get q ≡ false → is_joinable l q o ≡ true → ⊥
never-shared l q o write may = never-same l q o write (and_parts (asks_the_same q (begun l o)) _ may).0

misses-put : (l : List Noted) (t : ℕ) → MissesAlone l t put_t
misses-put l t s (inr it) fresh = absurd (never-same l put_t it.renewal.opening refl it.renewal.same)
misses-put l t s (inl u) fresh = absurd (never-heard (heard-of l put_t s u))
  where
    never-heard : IsAsHeard l put_t s → ⊥
    never-heard (inl is) = never-shared l put_t is.opening refl is.shared
    never-heard (inr is) = false≢true (and_parts (is_get put_t) (is_get is.carries.exchange.request && same_key (asked_key put_t) (asked_key is.carries.exchange.request)) is.same).0

legal-written : Legal written
legal-written = (
  (
    (
      (
        (legal-served, lit≤ tt, (may-come _ refl refl, refl, tt)),
        lit≤ tt,
        (may-come _ refl refl, refl, refl, (refl, refl, refl), misses-put _ _),
      ),
      lit≤ tt,
      (
        refl,
        (
          refl,
          record {
            since = 5000;
            request = put_t;
            opening = refl;
            others = _;
            first = refl;
            free = refl;
            peer = refl;
            message = refl;
            spelled = put-t-spelled;
            token_size = refl;
            token_apart = refl;
            mid_apart = refl;
            wait = 2000;
            first_wait = refl;
            least = lit≤ tt;
            greatest = lit≤ tt;
          },
        ),
      ),
    ),
    lit≤ tt,
    (may-come _ refl refl, lit≤ tt, refl, record { spelled = changed-t-spelled; unheard = refl; remembered = refl; says = refl }),
  ),
  lit≤ tt,
  (refl, refl, refl, inl (12, 14, _, _, refl, refl, refl), tt),
)

legal-rejected : Legal rejected
legal-rejected = (
  (legal-written, lit≤ tt, (may-come _ refl refl, lit≤ tt, refl, record { spelled = least-4-spelled; unheard = refl; remembered = refl; says = refl })),
  lit≤ tt,
  (refl, (refl, record { confirmation = record { peer = server; kind = Rst; mid = 4 }; is_owed = refl; peer = refl; spelled = rst-4-spelled })),
)

pub rejected-t-holds : Holds rejected
rejected-t-holds = (legal-rejected, at-rest _ refl)

legal-forgotten : Legal forgotten
legal-forgotten = (
  (
    (
      (
        (legal-served, lit≤ tt, (may-come _ refl refl, tt)),
        lit≤ tt,
        (may-come _ refl refl, lit≤ tt, refl, record { spelled = least-5-spelled; unheard = refl; remembered = refl; says = refl }),
      ),
      lit≤ tt,
      (may-come _ refl refl, tt),
    ),
    lit≤ tt,
    (may-come _ refl refl, lit≤ tt, refl, record { spelled = least-6-spelled; unheard = refl; remembered = refl; says = refl }),
  ),
  lit≤ tt,
  (refl, (refl, record { confirmation = record { peer = server; kind = Rst; mid = 6 }; is_owed = refl; peer = refl; spelled = rst-6-spelled })),
)

pub forgotten-holds : Holds forgotten
forgotten-holds = (legal-forgotten, at-rest _ refl)

-- not so

abbrev second : Option Content → ℕ
second None = 0
second (Some m) = by m.options
  where
    by : List Entry → ℕ
    by (a ∷ b ∷ more) = b.number
    by options = 0

pub unasked-refused : Refused unasked
unasked-refused h =
    let may = h.2.1.1 in
    let opened : record { since = 0; request = get_t } ≡ record { since = may.since; request = may.request } = some-is _ _ may.opening in
    let next : next_message Plainly get_t (progress get_t []) 0 (token 0) ≡ Some get_message =
    subst (λ (q : CoapRequest). next_message Plainly q (progress q []) 0 (token 0) ≡ Some get_message) (sym (ap (λ (b : Begun). b.request) opened)) may.message in
    let other : 11 ≡ 6 = ap second next in
    absurd (omega (arith, other))

pub left_out-refused : Refused left_out
left_out-refused h =
    let may = h.2.1.1 in
    let opened : record { since = 0; request = get_t } ≡ record { since = may.since; request = may.request } = some-is _ _ may.opening in
    let next : next_message Observing get_t (progress get_t []) 0 (token 0) ≡ Some (request_message get_t 0 (token 0)) =
    subst (λ (q : CoapRequest). next_message Observing q (progress q []) 0 (token 0) ≡ Some (request_message get_t 0 (token 0))) (sym (ap (λ (b : Begun). b.request) opened)) may.message in
    let other : 6 ≡ 11 = ap second next in
    absurd (omega (arith, other))

pub not_newer-refused : Refused not_newer
not_newer-refused h =
    let e : Updates ≡ Unobserved = ap (λ (n : Notice). n.observation) (says-notice _ _ _ _ _ _ h.2.3.says) in
    never e
  where
    never : Updates ≡ Unobserved → ⊥
    never e = cc

pub older_served-refused : Refused older_served
older_served-refused h =
    let is : IsBrought outrun_late get_t h.2.3.0 = uncarried outrun_late get_t h.2.3.0 refl h.2.3.1 in
    let latest : 6 ≤ is.ending = is.latest 1 6 (joined (least 2) []) last-reply [] (inr last-update) refl refl in
    by is.opening is.ending h.2.3.0.response (is.first ∷ is.more) is.shared is.comes latest (sym is.list ∙ h.2.3.3)
  where
    by : (o e : ℕ) (w : Response) (rs : List Reply) → is_joinable outrun_late get_t o ≡ true → ComesSo outrun_late o e w rs → 6 ≤ e → numbers rs ≡ 5 ∷ [] → ⊥
    by o e w rs may (inl it) le list = let three = ends-three o e (Whole w rs) (one-opened o may) it.ended in absurd (omega (arith, le, three))
    by o e w rs may (inr u) le list =
        let one = first-whole e u.sending u.message w rs u.whole in
        let five : e ≡ 5 = same e 5 (sym (ap numbers one) ∙ list) in
        absurd (omega (arith, le, five))
      where
        same : (a b : ℕ) → a ∷ [] ≡ b ∷ [] → a ≡ b
        same a b e = cc

pub served_after-refused : Refused served_after
served_after-refused h = let is = uncarried written get_t h.2.3.0 refl h.2.3.1 in by is.opening is.shared
  where
    by : (o : ℕ) → is_joinable written get_t o ≡ true → ⊥
    by o may =
        elim (first-or-later 1 (12 ∷ []) o (begun-listed written o (ap is_some (shared-is written get_t o may).opened))) [
          | inl w ↦ false≢true (subst (λ (o : ℕ). is_joinable written get_t o ≡ true) (sym w) may)
          | inr v ↦ elim (first-or-later 12 [] o v) [
            | inl w ↦ false≢true (subst (λ (o : ℕ). is_joinable written get_t o ≡ true) (sym w) may)
            | inr w ↦ contains-none o w
          ]
        ]

pub counted_after-refused : Refused counted_after
counted_after-refused h = let e = h.2.3.says in absurd cc
