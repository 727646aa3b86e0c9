-- The worked journals of a notification whose rest is fetched.
use Rattle.std.proofs.Common.{◌≡◌, ◌≢◌, ◌⊎◌, ℕ, ◌≤◌, ◌<◌, Bool, true, false, cond, inl, inr, List, [], ◌∷◌, length, Option, Some, None, is_some, refl, sym, ap, subst, ◌∙◌, arith, lit≤}
use Rattle.std.specs.List.{Contains}
use Rattle.std.proofs.lemmas.Bool.{false≢true}
use Rattle.coap_codec.specs.Spelling.{Content, Entry, Spells}
use Rattle.coap_codec.specs.Reading.{message_at}
use Rattle.coap_codec.specs.Reading as X
use Rattle.resp_cache.specs.Stored.{Stored, is_fresh}
use Rattle.ask_model.specs.Requests.{CoapRequest, Plainly, block_message, request_message}
use Rattle.ask_model.specs.Sharing.{asked_key}
use Rattle.journal_book.specs.Entries.{Live, Opens, Hears, Answers}
use Rattle.history_laws.specs.Responses.{Response, joined as joined_as}
use Rattle.history_laws.specs.Readings.{Noted, Note, Plain, Says, Notice, Observation, Unobserved, Updates, Outdates, Starts, unobserved, at, noted}
use Rattle.history_laws.specs.Progress.{Reply, numbers, Ending, Whole, Renewed, next_message, progress}
use Rattle.history_laws.specs.Exchanges.{Begun, begun, End, end_of, heard_for, openings}
use Rattle.history_laws.specs.Joining.{is_joinable}
use Rattle.history_laws.specs.Observing.{outdated}
use Rattle.history_laws.specs.Storing.{ComesSo, IsBrought, IsCrowdedOut, MissesAlone, UpdatesSo}
use Rattle.history_laws.specs.Justified.{HasGrounds, Legal}
use Rattle.history_laws.specs.Worked.{Holds, Refused, server, token}
use Rattle.history_laws.specs.WorkedPieces.{block}
use Rattle.history_laws.specs.WorkedWatches.{get_t, least, least_bytes}
use Rattle.history_laws.specs.WorkedUpdates.{first_bytes, first_message, next_bytes, rest_bytes, rest_message, begun as begun_so, next_asked, joined, rest_heard, told, served_both, newer_heard, served_newer, left, whole_bytes, whole_asked, asked_apart, told_the_rest, served_older, fetched_twice}
use Rattle.history_laws.proofs.Carrying.{uncarried, unrenewed-stored}
use Rattle.history_laws.proofs.Elements.{contains-none, first-or-later}
use Rattle.history_laws.proofs.Joining.{shared-is}
use Rattle.history_laws.proofs.Missing.{no-updates}
use Rattle.history_laws.proofs.Openings.{begun-listed}
use Rattle.history_laws.proofs.Places.{at-below, at-cases}
use Rattle.history_laws.proofs.Registering.{says-notice}
use Rattle.history_laws.proofs.Resting.{at-rest, may-come, none-some, some-is}
use Rattle.history_laws.proofs.Spelled.{spelled}
use Rattle.history_laws.proofs.Watched.{least-2-spelled, legal-registered}

first-1-spelled : Spells (first_message 1) (first_bytes 1)
unfolding message_at X.options_at X.option_at
first-1-spelled = spelled (first_bytes 1) _ refl refl

next-spelled : Spells (block_message get_t (Some (block 1)) 1 (token 1)) next_bytes
unfolding message_at X.options_at X.option_at
next-spelled = spelled next_bytes _ refl refl

rest-t-spelled : Spells rest_message rest_bytes
unfolding message_at X.options_at X.option_at
rest-t-spelled = spelled rest_bytes _ refl refl

legal-begun : Legal begun_so
legal-begun = (legal-registered, lit≤ tt, (may-come _ refl refl, lit≤ tt, refl, record { spelled = first-1-spelled; unheard = refl; remembered = refl; says = refl }))

legal-next-asked : Legal next_asked
legal-next-asked = (
  legal-begun,
  lit≤ tt,
  (
    refl,
    (
      refl,
      record {
        since = 1000;
        request = get_t;
        opening = refl;
        others = _;
        first = refl;
        free = refl;
        peer = refl;
        message = refl;
        spelled = next-spelled;
        token_size = refl;
        token_apart = refl;
        mid_apart = refl;
        wait = 2000;
        first_wait = refl;
        least = lit≤ tt;
        greatest = lit≤ tt;
      },
    ),
  ),
)

-- what came for the GET there

abbrev opened : List Noted
opened = noted 1100 (Opens 1) Plain ∷ next_asked

-- the number of the first of the replies that it ended with
abbrev first_number : Ending → ℕ
first_number (Whole w (r ∷ rs)) = r.number
first_number how = 0

one-or-five : (o : ℕ) → Contains (1 ∷ 5 ∷ []) o → (1 ≡ o) ⊎ (5 ≡ o)
one-or-five o has = elim (first-or-later 1 (5 ∷ []) o has) [
  | inl w ↦ inl w
  | inr v ↦ elim (first-or-later 5 [] o v) [ inl w ↦ inr w | inr w ↦ absurd (contains-none o w) ]
]

listed : (l : List Noted) (o : ℕ) → is_joinable l get_t o ≡ true → Contains (openings l) o
listed l o may = begun-listed l o (ap is_some (shared-is l get_t o may).opened)

ends-in : (l : List Noted) (o p e : ℕ) (how : Ending) (f : End) → p ≡ o → end_of l p ≡ Some f → end_of l o ≡ Some (record { number = e; how = how })
    → f ≡ record { number = e; how = how }
ends-in l o p e how f same there ended = some-is _ _ (sym there ∙ subst (λ (n : ℕ). end_of l n ≡ Some (record { number = e; how = how })) (sym same) ended)

-- What it registered by is out of date, and what it fetches isn't all there.
nothing-there : (o e : ℕ) (w : Response) (r : Reply) (rs : List Reply) → is_joinable opened get_t o ≡ true → ComesSo opened o e w (r ∷ rs)
    → outdated opened (asked_key get_t) r.number ≡ false → ⊥
nothing-there o e w r rs may (inr u) new = no-updates opened o e w (r ∷ rs) refl u
nothing-there o e w r rs may (inl it) new = elim (one-or-five o (listed opened o may)) [
  | inl one ↦
      let same = ends-in opened o 1 e (Whole w (r ∷ rs)) _ one refl it.ended in
      let three : 3 ≡ r.number = ap (λ (f : End). first_number f.how) same in
      false≢true (sym new ∙ subst (λ (n : ℕ). outdated opened (asked_key get_t) n ≡ true) three refl)
  | inr five ↦ none-some _ (subst (λ (n : ℕ). end_of opened n ≡ Some (record { number = e; how = Whole w (r ∷ rs) })) (sym five) it.ended)
]

misses-opened : MissesAlone opened 1100 get_t
misses-opened s is fresh = by (uncarried opened get_t s refl is)
  where
    by : IsBrought opened get_t s → IsCrowdedOut opened (asked_key get_t)
    by b = absurd (nothing-there b.opening b.ending s.response b.first b.more b.shared b.comes b.newest)

legal-joined : Legal joined
legal-joined = (
  (legal-next-asked, lit≤ tt, (may-come _ refl refl, refl, tt)),
  lit≤ tt,
  (may-come _ refl refl, refl, refl, refl, misses-opened),
)

legal-rest-heard : Legal rest_heard
legal-rest-heard = (legal-joined, lit≤ tt, (may-come _ refl refl, lit≤ tt, refl, record { spelled = rest-t-spelled; unheard = refl; remembered = refl; says = refl }))

legal-told : Legal told
legal-told = (legal-rest-heard, lit≤ tt, (refl, refl, refl, inl (5, 9, _, _, refl, refl, refl), tt))

-- what is stored then

abbrev both : List Reply
both = record { number = 5; sending = 2; message = first_message 1 } ∷ record { number = 9; sending = 6; message = rest_message } ∷ []

abbrev both-stored : Stored
both-stored = record { response = joined_as (first_message 1) (rest_message ∷ []); opening = 1; heard = 1000; list = 5 ∷ 9 ∷ [] }

ends-by-nine : (o e : ℕ) (w : Response) (rs : List Reply) → is_joinable told get_t o ≡ true → ComesSo told o e w rs → e ≤ 9
ends-by-nine o e w rs may (inr u) = absurd (no-updates told o e w rs refl u)
ends-by-nine o e w rs may (inl it) = elim (one-or-five o (listed told o may)) [
  | inl one ↦ let three : 3 ≡ e = ap (λ (f : End). f.number) (ends-in told o 1 e (Whole w rs) _ one refl it.ended) in omega (arith, three)
  | inr five ↦ let nine : 9 ≡ e = ap (λ (f : End). f.number) (ends-in told o 5 e (Whole w rs) _ five refl it.ended) in omega (arith, nine)
]

is-both-stored : IsBrought told get_t both-stored
is-both-stored = record {
  opening = 5;
  ending = 9;
  first = record { number = 5; sending = 2; message = first_message 1 };
  more = record { number = 9; sending = 6; message = rest_message } ∷ [];
  comes = inl (record { ended = refl; code = refl });
  shared = refl;
  newest = refl;
  latest = λ o e w r rs it may new. ends-by-nine o e w (r ∷ rs) may it;
  entry = _;
  heard_in = refl;
  heard = refl;
  origin = refl;
  list = refl;
}

legal-served-both : Legal served_both
legal-served-both = (
  (legal-told, lit≤ tt, (may-come _ refl refl, refl, refl, (both-stored, unrenewed-stored told get_t both-stored refl (inl is-both-stored), refl, refl), tt)),
  lit≤ tt,
  (refl, refl, refl, (1, _, refl), tt),
)

pub served_both-holds : Holds served_both
served_both-holds = (legal-served-both, at-rest _ refl)

-- a newer one meanwhile

legal-newer-heard : Legal newer_heard
legal-newer-heard = (legal-joined, lit≤ tt, (may-come _ refl refl, lit≤ tt, refl, record { spelled = least-2-spelled; unheard = refl; remembered = refl; says = refl }))

abbrev newer_told : List Noted
newer_told =
    noted 1200 (Answers 1 8 (Live (5 ∷ 10 ∷ []))) Plain
    ∷ noted 1200 (Hears server rest_bytes) (Says rest_message (Some 6) unobserved)
    ∷ newer_heard

legal-newer-told : Legal newer_told
legal-newer-told = (
  (legal-newer-heard, lit≤ tt, (may-come _ refl refl, lit≤ tt, refl, record { spelled = rest-t-spelled; unheard = refl; remembered = refl; says = refl })),
  lit≤ tt,
  (refl, refl, refl, inl (5, 10, _, _, refl, refl, refl), tt),
)

-- the number of the last update
abbrev updates : Note → Bool
updates (Says m (Some i) notice) = by notice.observation
  where
    by : Observation → Bool
    by Updates = true
    by o = false
updates note = false

abbrev last_update : List Noted → ℕ
last_update [] = 0
last_update (x ∷ older) = cond (updates x.note) (length older) (last_update older)

update-by : (l : List Noted) (e : ℕ) (x : Noted) → at l e ≡ Some x → updates x.note ≡ true → e ≤ last_update l
update-by [] e x is note = cc
update-by (y ∷ older) e x is note = elim (at-cases y older e) [
  | inl w ↦
      let here : updates y.note ≡ true = ap (λ (v : Noted). updates v.note) (some-is y x (sym w.1 ∙ is)) ∙ note in
      rw here (let same = w.0 in omega (arith, same))
  | inr w ↦
      let there = sym w.1 ∙ is in
      let le = update-by older e x there note in
      let below = at-below older e x there in
      by (updates y.note) le below
]
  where
    by : (b : Bool) → e ≤ last_update older → e < length older → e ≤ cond b (length older) (last_update older)
    by true le below = omega (arith, below)
    by false le below = le

abbrev newer-reply : Reply
newer-reply = record { number = 9; sending = 2; message = least 2 }

abbrev newer-stored : Stored
newer-stored = record { response = joined_as (least 2) []; opening = 1; heard = 1150; list = 9 ∷ [] }

newer-update : UpdatesSo newer_told 1 9 (joined_as (least 2) []) (newer-reply ∷ [])
newer-update = record {
  moment = 1150;
  peer = server;
  bytes = least_bytes 2;
  message = least 2;
  sending = 2;
  place = true;
  stands = refl;
  watch = _;
  under = refl;
  registered = refl;
  whole = refl;
  code = refl;
}

-- What was fetched is out of date.
newest-nine : (o e : ℕ) (w : Response) (r : Reply) (rs : List Reply) → ComesSo newer_told o e w (r ∷ rs) → is_joinable newer_told get_t o ≡ true
    → outdated newer_told (asked_key get_t) r.number ≡ false → e ≤ 9
newest-nine o e w r rs (inr u) may new = update-by newer_told e _ u.stands refl
newest-nine o e w r rs (inl it) may new = elim (one-or-five o (listed newer_told o may)) [
  | inl one ↦ let three : 3 ≡ e = ap (λ (f : End). f.number) (ends-in newer_told o 1 e (Whole w (r ∷ rs)) _ one refl it.ended) in omega (arith, three)
  | inr five ↦
      let from : 5 ≡ r.number = ap (λ (f : End). first_number f.how) (ends-in newer_told o 5 e (Whole w (r ∷ rs)) _ five refl it.ended) in
      absurd (false≢true (sym new ∙ subst (λ (n : ℕ). outdated newer_told (asked_key get_t) n ≡ true) from refl))
]

is-newer-stored : IsBrought newer_told get_t newer-stored
is-newer-stored = record {
  opening = 1;
  ending = 9;
  first = newer-reply;
  more = [];
  comes = inr newer-update;
  shared = refl;
  newest = refl;
  latest = newest-nine;
  entry = _;
  heard_in = refl;
  heard = refl;
  origin = refl;
  list = refl;
}

legal-served-newer : Legal served_newer
legal-served-newer = (
  (legal-newer-told, lit≤ tt, (may-come _ refl refl, refl, refl, (newer-stored, unrenewed-stored newer_told get_t newer-stored refl (inl is-newer-stored), refl, refl), tt)),
  lit≤ tt,
  (refl, refl, refl, (1, _, refl), tt),
)

pub served_newer-holds : Holds served_newer
served_newer-holds = (legal-served-newer, at-rest _ refl)

-- not so

pub left-refused : Refused left
left-refused h = never (ap (λ (n : Notice). n.observation) (says-notice _ _ _ _ _ _ h.2.3.says))
  where
    never : Outdates ≡ Starts 1 get_t → ⊥
    never e = cc

pub fetched_twice-refused : Refused fetched_twice
fetched_twice-refused h = never (ap (λ (n : Notice). n.observation) (says-notice _ _ _ _ _ _ h.2.3.says))
  where
    never : Starts 1 get_t ≡ Unobserved → ⊥
    never e = cc

abbrev has_block : Option Content → ℕ
has_block None = 0
has_block (Some m) = length m.options

pub whole_asked-refused : Refused whole_asked
whole_asked-refused h =
    let may = h.2.1.1 in
    let opened : record { since = 1000; request = get_t } ≡ record { since = may.since; request = may.request } = some-is _ _ may.opening in
    let next : next_message Plainly get_t (progress get_t (heard_for begun_so 5)) 1 (token 1) ≡ Some (request_message get_t 1 (token 1)) =
    subst (λ (q : CoapRequest). next_message Plainly q (progress q (heard_for begun_so 5)) 1 (token 1) ≡ Some (request_message get_t 1 (token 1)))
    (sym (ap (λ (b : Begun). b.request) opened)) may.message in
    let other : 3 ≡ 2 = ap has_block next in
    absurd (omega (arith, other))

pub asked_apart-refused : Refused asked_apart
asked_apart-refused h = let five : ℕ = 5 in none-some five (sym h.2.3.1)

pub told_the_rest-refused : Refused told_the_rest
told_the_rest-refused h = by h.2.3
  where
    second : List ℕ → ℕ
    second (a ∷ b ∷ js) = b
    second js = 0

    by : HasGrounds rest_heard 1200 8 (Live (9 ∷ [])) → ⊥
    by (inl g) =
        let reads : 5 ≡ g.0 = some-is 5 g.0 g.4 in
        let ended = ends-in rest_heard g.0 5 g.1 (Whole g.2 g.3) _ reads refl g.5 in
        let first : 5 ≡ first_number (Whole g.2 g.3) = ap (λ (f : End). first_number f.how) ended in
        from g.2 g.3 first g.6
      where
        from : (w : Response) (rs : List Reply) → 5 ≡ first_number (Whole w rs) → 9 ∷ [] ≡ numbers rs → ⊥
        from w [] e f = absurd (omega (arith, e))
        from w (r ∷ rs) e f = let nine : 9 ≡ r.number = head f in absurd (omega (arith, e, nine))
          where
            head : 9 ∷ [] ≡ r.number ∷ numbers rs → 9 ≡ r.number
            head f = cc
    by (inr g) =
        let reads : 5 ≡ g.0 = some-is 5 g.0 g.4 in
        never (ap (λ (f : End). f.how) (ends-in rest_heard g.0 5 g.1 (Renewed g.2 g.3) _ reads refl g.5))
      where
        never : Whole (joined_as (first_message 1) (rest_message ∷ [])) both ≡ Renewed g.2 g.3 → ⊥
        never e = cc

pub served_older-refused : Refused served_older
served_older-refused h =
    let is : IsBrought newer_told get_t h.2.3.0 = uncarried newer_told get_t h.2.3.0 refl h.2.3.1 in
    let from : 5 ≡ is.first.number = first is.first is.more (sym is.list ∙ h.2.3.3) in
    false≢true (sym is.newest ∙ subst (λ (n : ℕ). outdated newer_told (asked_key get_t) n ≡ true) from refl)
  where
    first : (r : Reply) (rs : List Reply) → numbers (r ∷ rs) ≡ 5 ∷ 10 ∷ [] → 5 ≡ r.number
    first r rs e = cc
