-- The worked journals of what is renewed.
use Rattle.std.proofs.Common.{◌≡◌, ◌⊎◌, ℕ, true, false, inl, inr, List, [], ◌∷◌, Option, Some, None, is_some, refl, sym, ap, subst, ◌∙◌, arith, lit≤}
use Rattle.std.specs.Prelude.{nat_lt, ◌+◌}
use Rattle.std.specs.List.{Contains}
use Rattle.std.proofs.lemmas.Bool.{false≢true}
use Rattle.coap_codec.specs.Spelling.{Spells}
use Rattle.coap_codec.specs.Reading.{message_at}
use Rattle.coap_codec.specs.Reading as X
use Rattle.resp_cache.specs.Stored.{Stored, lifetime, is_fresh}
use Rattle.ask_model.specs.Requests.{CoapRequest}
use Rattle.history_laws.specs.Responses.{Response, renewed_response, response_of}
use Rattle.history_laws.specs.Readings.{Noted, at}
use Rattle.history_laws.specs.Progress.{Reply, Ending, Whole, Renewed}
use Rattle.history_laws.specs.Exchanges.{Begun, begun, openings, End, end_of}
use Rattle.history_laws.specs.Joining.{asks_the_same, is_joinable}
use Rattle.history_laws.specs.Storing.{ComesSo, EndsSo, IsAsHeard, IsBrought, IsRenewed, IsStored}
use Rattle.history_laws.specs.Justified.{Legal}
use Rattle.history_laws.specs.Worked.{Holds}
use Rattle.history_laws.specs.WorkedMessages.{get_light}
use Rattle.history_laws.specs.WorkedRenewed.{tagged_bytes, tagged, valid_bytes, valid_message, validate_bytes, validates, read_first, stored, asked_whether, renewed, served_renewed, stored_anew, kept_anew, valid_again_bytes, valid_again, renewed_again}
use Rattle.history_laws.proofs.Carrying.{heard-of, no-carried, uncarried, unrenewed-stored}
use Rattle.history_laws.proofs.Elements.{contains-none, first-or-later}
use Rattle.history_laws.proofs.Joining.{shared-is}
use Rattle.history_laws.proofs.Messages.{get-spelled}
use Rattle.history_laws.proofs.Missing.{no-updates, none-stored}
use Rattle.history_laws.proofs.Openings.{begun-listed}
use Rattle.history_laws.proofs.Resting.{at-rest, may-come, some-is}
use Rattle.history_laws.proofs.Spelled.{spelled}

pub tagged-spelled : Spells tagged tagged_bytes
unfolding message_at X.options_at X.option_at
tagged-spelled = spelled tagged_bytes _ refl refl

valid-spelled : Spells (valid_message 7) (valid_bytes 7)
unfolding message_at X.options_at X.option_at
valid-spelled = spelled (valid_bytes 7) _ refl refl

pub valid-again-spelled : Spells valid_again valid_again_bytes
unfolding message_at X.options_at X.option_at
valid-again-spelled = spelled valid_again_bytes _ refl refl

pub validates-spelled : Spells (validates 1 1) (validate_bytes 1 1)
unfolding message_at X.options_at X.option_at
validates-spelled = spelled (validate_bytes 1 1) _ refl refl

validates-again-spelled : Spells (validates 2 2) (validate_bytes 2 2)
unfolding message_at X.options_at X.option_at
validates-again-spelled = spelled (validate_bytes 2 2) _ refl refl

legal-first : Legal read_first
legal-first = (
  (
    (
      (
        (
          ((tt, lit≤ tt, (may-come _ refl refl, lit≤ tt, tt)), lit≤ tt, (may-come _ refl refl, refl, tt)),
          lit≤ tt,
          (may-come _ refl refl, refl, tt),
        ),
        lit≤ tt,
        (may-come _ refl refl, refl, refl, (refl, refl, refl), none-stored _ _ _ refl),
      ),
      lit≤ tt,
      (
        refl,
        (
          refl,
          record {
            since = 0;
            request = get_light;
            opening = refl;
            others = _;
            first = refl;
            free = refl;
            peer = refl;
            message = refl;
            spelled = get-spelled;
            token_size = refl;
            token_apart = refl;
            mid_apart = refl;
            wait = 2000;
            first_wait = refl;
            least = lit≤ tt;
            greatest = lit≤ tt;
          },
        ),
      ),
    ),
    lit≤ tt,
    (may-come _ refl refl, lit≤ tt, refl, record { spelled = tagged-spelled; unheard = refl; remembered = refl; says = refl }),
  ),
  lit≤ tt,
  (refl, refl, refl, inl (3, 5, _, _, refl, refl, refl), tt),
)

-- what is stored by then

pub opened-among : (l : List Noted) (q : CoapRequest) (o : ℕ) → asks_the_same q (begun l o) ≡ true → Contains (openings l) o
opened-among l q o same = begun-listed l o (by (begun l o) same)
  where
    by : (b : Option Begun) → asks_the_same q b ≡ true → is_some b ≡ true
    by None e = absurd (false≢true e)
    by (Some b) e = refl

pub joined-same : (l : List Noted) (q : CoapRequest) (o : ℕ) → is_joinable l q o ≡ true → asks_the_same q (begun l o) ≡ true
joined-same l q o may =
    let it = shared-is l q o may in
    subst (λ (b : Option Begun). asks_the_same q b ≡ true) (sym it.opened) it.same

opened-first : (q : CoapRequest) (o : ℕ) → is_joinable read_first q o ≡ true → 3 ≡ o
opened-first q o may =
    elim (first-or-later 3 [] o (opened-among read_first q o (joined-same read_first q o may))) [ inl w ↦ w | inr w ↦ absurd (contains-none o w) ]

-- how an exchange of a history ended
pub ends-as : (l : List Noted) (n o e f : ℕ) (how other : Ending) → n ≡ o → end_of l n ≡ Some (record { number = f; how = other })
    → end_of l o ≡ Some (record { number = e; how = how }) → (f ≡ e) × (other ≡ how)
ends-as l n o e f how other one is ended =
    let same = some-is _ _ (sym is ∙ subst (λ (o : ℕ). end_of l o ≡ Some (record { number = e; how = how })) (sym one) ended) in
    (ap (λ (x : End). x.number) same, ap (λ (x : End). x.how) same)

abbrev first-reply : Reply
first-reply = record { number = 5; sending = 4; message = tagged }

abbrev second-reply : Reply
second-reply = record { number = 9; sending = 8; message = valid_message 7 }

replies-same : (v w : Response) (xs ys : List Reply) → Whole v xs ≡ Whole w ys → xs ≡ ys
replies-same v w xs ys e = cc

response-same : (v w : Response) (xs ys : List Reply) → Whole v xs ≡ Whole w ys → v ≡ w
response-same v w xs ys e = cc

first-of : (x y : Reply) {xs ys : List Reply} → x ∷ xs ≡ y ∷ ys → x ≡ y
first-of x y e = cc

is-stored-first : IsBrought read_first get_light stored
is-stored-first = record {
  opening = 3;
  ending = 5;
  first = first-reply;
  more = [];
  comes = inl (record { ended = refl; code = refl });
  shared = refl;
  newest = refl;
  latest = λ o e w r rs it may new.
      let here = (ends-as read_first 3 o e 5 _ _ (opened-first get_light o may) refl (ended-first it).ended).0 in
      omega (arith, here);
  entry = _;
  heard_in = refl;
  heard = refl;
  origin = refl;
  list = refl;
}
  where
    ended-first : {o e : ℕ} {w : Response} {rs : List Reply} → ComesSo read_first o e w rs → EndsSo read_first o e w rs
    ended-first (inl it) = it
    ended-first {o} {e} {w} {rs} (inr u) = absurd (no-updates read_first o e w rs refl u)

-- What was brought by the first exchange is stale a second later.
stale-brought : (l : List Noted) (t : ℕ) (s : Stored) (o e : ℕ) (r : Reply) (rs : List Reply) (x : Noted)
    → Whole (response_of tagged) (first-reply ∷ []) ≡ Whole s.response (r ∷ rs) → at l r.number ≡ Some x → s.heard ≡ x.written.moment
    → (y : Noted) → at l 5 ≡ Some y → y.written.moment ≡ 40 → nat_lt t (40 + 1000) ≡ false → is_fresh t s ≡ true → ⊥
stale-brought l t s o e r rs x how heard_in heard y stands moment late fresh =
    let first = first-of _ _ (replies-same _ _ _ _ how) in
    let same : y ≡ x = some-is _ _ (sym stands ∙ subst (λ (n : ℕ). at l n ≡ Some x) (sym (ap (λ (r : Reply). r.number) first)) heard_in) in
    let at_40 : 40 ≡ s.heard = sym moment ∙ (ap (λ (x : Noted). x.written.moment) same ∙ sym heard) in
    let response : response_of tagged ≡ s.response = response-same _ _ _ _ how in
    false≢true (sym late ∙ subst (λ (w : Response). nat_lt t (40 + lifetime w.max_age) ≡ true) (sym response)
    (subst (λ (n : ℕ). nat_lt t (n + lifetime s.response.max_age) ≡ true) (sym at_40) fresh))

stale-first : (t : ℕ) (s : Stored) → nat_lt t 1040 ≡ false → IsBrought read_first get_light s → is_fresh t s ≡ true → ⊥
stale-first t s late is fresh = by is.comes
  where
    by : ComesSo read_first is.opening is.ending s.response (is.first ∷ is.more) → ⊥
    by (inr u) = no-updates read_first is.opening is.ending s.response (is.first ∷ is.more) refl u
    by (inl it) =
        let how = (ends-as read_first 3 is.opening is.ending 5 _ _ (opened-first get_light is.opening is.shared) refl it.ended).1 in
        stale-brought read_first t s is.opening is.ending is.first is.more is.entry how is.heard_in is.heard _ refl refl late fresh

pub legal-asked : Legal asked_whether
legal-asked = (
  (
    legal-first,
    lit≤ tt,
    (
      may-come _ refl refl,
      refl,
      refl,
      (refl, refl, refl, refl, stored, unrenewed-stored read_first get_light stored refl (inl is-stored-first), refl, refl, refl),
      (λ s is fresh. absurd (stale-first 1040 s refl (uncarried read_first get_light s refl is) fresh), refl),
    ),
  ),
  lit≤ tt,
  (
    refl,
    (
      refl,
      record {
        since = 1040;
        request = get_light;
        opening = refl;
        others = _;
        first = refl;
        free = refl;
        peer = refl;
        message = refl;
        spelled = validates-spelled;
        token_size = refl;
        token_apart = refl;
        mid_apart = refl;
        wait = 2000;
        first_wait = refl;
        least = lit≤ tt;
        greatest = lit≤ tt;
      },
    ),
  ),
)

legal-renewed : Legal renewed
legal-renewed = (
  (
    legal-asked,
    lit≤ tt,
    (may-come _ refl refl, lit≤ tt, refl, record { spelled = valid-spelled; unheard = refl; remembered = refl; says = refl }),
  ),
  lit≤ tt,
  (refl, refl, refl, inr (7, 9, stored, second-reply, refl, refl, refl), tt),
)

pub renewed-holds : Holds renewed
renewed-holds = (legal-renewed, at-rest _ refl)

-- what is stored after that

opened-two : (o : ℕ) → asks_the_same get_light (begun renewed o) ≡ true → (3 ≡ o) ⊎ (7 ≡ o)
opened-two o same =
    elim (first-or-later 3 (7 ∷ []) o (opened-among renewed get_light o same)) [
      | inl w ↦ inl w
      | inr v ↦ elim (first-or-later 7 [] o v) [ inl w ↦ inr w | inr w ↦ absurd (contains-none o w) ]
    ]

-- The first one ended with a whole response.
whole-by : (o e : ℕ) (w : Response) (rs : List Reply) → asks_the_same get_light (begun renewed o) ≡ true
    → end_of renewed o ≡ Some (record { number = e; how = Whole w rs }) → (5 ≡ e) × (Whole (response_of tagged) (first-reply ∷ []) ≡ Whole w rs)
whole-by o e w rs same ended = by (opened-two o same)
  where
    apart : Renewed stored second-reply ≡ Whole w rs → ⊥
    apart f = cc

    by : (3 ≡ o) ⊎ (7 ≡ o) → (5 ≡ e) × (Whole (response_of tagged) (first-reply ∷ []) ≡ Whole w rs)
    by (inl three) = ends-as renewed 3 o e 5 (Whole w rs) _ three refl ended
    by (inr seven) = absurd (apart (ends-as renewed 7 o e 9 (Whole w rs) _ seven refl ended).1)

-- The second one renewed that.
renewed-by : (o e : ℕ) (s : Stored) (r : Reply) → asks_the_same get_light (begun renewed o) ≡ true
    → end_of renewed o ≡ Some (record { number = e; how = Renewed s r }) → (9 ≡ e) × (Renewed stored second-reply ≡ Renewed s r)
renewed-by o e s r same ended = by (opened-two o same)
  where
    apart : Whole (response_of tagged) (first-reply ∷ []) ≡ Renewed s r → ⊥
    apart f = cc

    by : (3 ≡ o) ⊎ (7 ≡ o) → (9 ≡ e) × (Renewed stored second-reply ≡ Renewed s r)
    by (inl three) = absurd (apart (ends-as renewed 3 o e 5 (Renewed s r) _ three refl ended).1)
    by (inr seven) = ends-as renewed 7 o e 9 (Renewed s r) _ seven refl ended

is-renewed : IsRenewed renewed get_light stored_anew
is-renewed = record {
  ending = 9;
  renewal = record { opening = 7; kept = stored; reply = second-reply; ended = refl; same = refl; current = refl; newest = refl };
  latest = λ o e w r rs it may new.
      let here = (whole-by o e w (r ∷ rs) (joined-same renewed get_light o may) (ended-only it).ended).0 in
      omega (arith, here);
  last = λ e it. let here = (renewed-by it.opening e it.kept it.reply it.same it.ended).0 in omega (arith, here);
  entry = _;
  heard_in = refl;
  heard = refl;
  origin = refl;
  list = refl;
  response = refl;
}
  where
    ended-only : {o e : ℕ} {w : Response} {rs : List Reply} → ComesSo renewed o e w rs → EndsSo renewed o e w rs
    ended-only (inl it) = it
    ended-only {o} {e} {w} {rs} (inr u) = absurd (no-updates renewed o e w rs refl u)

pub served_renewed-holds : Holds served_renewed
served_renewed-holds = (
  (
    (legal-renewed, lit≤ tt, (may-come _ refl refl, refl, refl, (stored_anew, inr is-renewed, refl, refl), tt)),
    lit≤ tt,
    (refl, refl, refl, (2, _, refl), tt),
  ),
  at-rest _ refl,
)

-- It is stale after the 9 seconds of the 2.03.
stale-then : (s : Stored) → IsStored renewed get_light s → is_fresh 10100 s ≡ true → ⊥
stale-then s (inl u) fresh = by-heard (heard-of renewed get_light s u)
  where
    by-heard : IsAsHeard renewed get_light s → ⊥
    by-heard (inr is) = no-carried renewed is.opening s.response (is.first ∷ is.more) refl is.carries
    by-heard (inl is) = by is.comes
      where
        by : ComesSo renewed is.opening is.ending s.response (is.first ∷ is.more) → ⊥
        by (inr v) = no-updates renewed is.opening is.ending s.response (is.first ∷ is.more) refl v
        by (inl it) =
            let how = (whole-by is.opening is.ending s.response (is.first ∷ is.more) (joined-same renewed get_light is.opening is.shared) it.ended).1 in
            stale-brought renewed 10100 s is.opening is.ending is.first is.more is.entry how is.heard_in is.heard _ refl refl refl fresh
stale-then s (inr is) fresh =
    let how = (renewed-by is.renewal.opening is.ending is.renewal.kept is.renewal.reply is.renewal.same is.renewal.ended).1 in
    let reply : second-reply ≡ is.renewal.reply = reply-same _ _ _ _ how in
    let kept : stored ≡ is.renewal.kept = kept-same _ _ _ _ how in
    let entry = some-is _ _ (subst (λ (n : ℕ). at renewed n ≡ Some is.entry) (sym (ap (λ (r : Reply). r.number) reply)) is.heard_in) in
    let heard : 1100 ≡ s.heard = ap (λ (x : Noted). x.written.moment) entry ∙ sym is.heard in
    let response : renewed_response (response_of tagged) (valid_message 7) ≡ s.response =
    ap (λ (v : Stored). renewed_response v.response (valid_message 7)) kept
    ∙ (ap (λ (r : Reply). renewed_response is.renewal.kept.response r.message) reply ∙ sym is.response) in
    let late : nat_lt 10100 (1100 + lifetime (renewed_response (response_of tagged) (valid_message 7)).max_age) ≡ true =
    subst (λ (w : Response). nat_lt 10100 (1100 + lifetime w.max_age) ≡ true) (sym response)
    (subst (λ (n : ℕ). nat_lt 10100 (n + lifetime s.response.max_age) ≡ true) (sym heard) fresh) in
    false≢true late
  where
    reply-same : (s t : Stored) (r u : Reply) → Renewed s r ≡ Renewed t u → r ≡ u
    reply-same s t r u e = cc

    kept-same : (s t : Stored) (r u : Reply) → Renewed s r ≡ Renewed t u → s ≡ t
    kept-same s t r u e = cc

pub renewed_again-holds : Holds renewed_again
renewed_again-holds = (
  (
    (
      (
        (
          legal-renewed,
          lit≤ tt,
          (
            may-come _ refl refl,
            refl,
            refl,
            (refl, refl, refl, refl, stored_anew, inr is-renewed, refl, refl, refl),
            (λ s is fresh. absurd (stale-then s is fresh), refl),
          ),
        ),
        lit≤ tt,
        (
          refl,
          (
            refl,
            record {
              since = 10100;
              request = get_light;
              opening = refl;
              others = _;
              first = refl;
              free = refl;
              peer = refl;
              message = refl;
              spelled = validates-again-spelled;
              token_size = refl;
              token_apart = refl;
              mid_apart = refl;
              wait = 2000;
              first_wait = refl;
              least = lit≤ tt;
              greatest = lit≤ tt;
            },
          ),
        ),
      ),
      lit≤ tt,
      (may-come _ refl refl, lit≤ tt, refl, record { spelled = valid-again-spelled; unheard = refl; remembered = refl; says = refl }),
    ),
    lit≤ tt,
    (refl, refl, refl, inr (11, 13, kept_anew, record { number = 13; sending = 12; message = valid_again }, refl, refl, refl), tt),
  ),
  at-rest _ refl,
)
