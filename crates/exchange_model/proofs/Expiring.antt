-- Which exchanges a tick ends: a state tells just what the history tells.
use Rattle.std.proofs.Common.{eqb, ◌≡◌, ℕ, ◌⊎◌, Bool, true, false, inl, inr, List, [], ◌∷◌, length, Option, Some, None, is_some, refl, sym, ap, subst, ◌∙◌}
use Rattle.std.specs.Prelude.{◌&&◌, ◌||◌, option_and_then}
use Rattle.std.specs.List.{AllByRecursion, Contains, list_any}
use Rattle.std.specs.Str.{bytes_eq}
use Rattle.std.proofs.lemmas.Bool.{false≢true}
use Rattle.std.proofs.lemmas.Slice.Eq.{bytes_eq-Decides}
use Rattle.uri_map.specs.declared.peer.Peer.{Peer}
use Rattle.uri_map.proofs.CallerLemmas.{same_peer-itself}
use Rattle.observe_share.specs.declared.registration.Registration.{Registration}
use Rattle.history_laws.specs.Numbering.{token_number}
use Rattle.message_layer.specs.Hearing.{is_outstanding_under}
use Rattle.message_layer.specs.declared.state.Outstanding.{Outstanding}
use Rattle.history_laws.specs.Readings.{Noted}
use Rattle.history_laws.specs.Transmissions.{bears_token, FirstSending, firsts, first_at, Transmission, transmission, given_up, if_outstanding, outstanding}
use Rattle.history_laws.specs.Exchanges.{begun, is_late, expires as ends_at, waits_for, Turn, Sent, Replied, Rejected, Expired, Nothing, turn, waits_by, end_here, end_by, end_of, open_exchanges, kept as kept_of, heard_for}
use Rattle.history_laws.specs.Justified.{Follows, Legal}
use Rattle.history_laws.specs.Laws.{IsFirst}
use Rattle.history_laws.proofs.CallerLemmas.{all-more, all-of, any-of, find-some, watch-fits, WatchFits, contains-mapped, contains-none, first-is, first-or-later, first-waits, may-be, none-is, open-exactly, outstanding-last, sent-for, some-is, turn-sent, waiting-goes, waits-first, way-first}
use Rattle.history_links.specs.Agrees.{Start, way_of, TurnIn, Agrees}
use Rattle.history_links.specs.Steps.{is_over}
use Rattle.history_links.proofs.CallerLemmas.{is-outstanding, one-token, out-first}
use Rattle.exchange_model.specs.declared.kept.Exchange.{Exchange}
use Rattle.exchange_model.specs.State.{PeerLink, State, link_of}
use Rattle.exchange_model.specs.Reads.{IsSentUnder, ExchangeIn, opening_of, Reads, awaited_by}
use Rattle.exchange_model.specs.Steps.{is_under}
use Rattle.exchange_model.specs.Hearing.{is_past, expires, is_gone, is_unwatched}
use Rattle.exchange_model.specs.Watching.{is_one_of, tokens_of}
use Rattle.exchange_model.proofs.Apart.{unawaited-by, under-of}
use Rattle.exchange_model.proofs.Watches.{gone-stands, IsStanding, or-no}
use Rattle.exchange_model.proofs.Opened.{cancel, OpenIn, one-rank, open-ones}

-- what is given up

-- A message that is outstanding is the one at its peer.
is-out : (l : List Noted) (i : ℕ) (f : FirstSending) (y : Transmission) → Legal l → first_at l i ≡ Some f → transmission l i ≡ Some y
    → (g : FirstSending) × (outstanding l f.peer ≡ Some g) × (g.number ≡ i)
is-out l i f y legal e w =
    let own = way-first l i y w in
    let same = first-is l own.0 own.1 i own.2 own.3 f own.4 e in
    let first : IsFirst l f.moment f.opening i f.peer f.message =
    subst (λ (g : FirstSending). IsFirst l g.moment g.opening i g.peer g.message) (sym same) own.4 in
    let last = outstanding-last l f.moment f.opening i f.peer f.message y legal first w in (
      last.0,
      ap (option_and_then (if_outstanding l)) last.1 ∙ is-outstanding l last.0 y (subst (λ (n : ℕ). transmission l n ≡ Some y) (sym last.2) w),
      last.2,
    )

-- It is given up where the link says so.
pub given-up-alike : (l : List Noted) (t i : ℕ) (p : Peer) (token : List ℕ) (f : FirstSending) (v : Option Outstanding) → Legal l
    → first_at l i ≡ Some f → f.peer ≡ p → f.message.token ≡ token → TurnIn l p v
    → (is_outstanding_under token v && is_over t v) ≡ given_up t (transmission l i)
given-up-alike l t i p token f None legal at_i at_p under free = by (transmission l i) refl
  where
    by : (w : Option Transmission) → transmission l i ≡ w → false ≡ given_up t w
    by None e = refl
    by (Some y) e =
        let out = is-out l i f y legal at_i e in
        absurd (none-is out.0 (sym out.1 ∙ subst (λ (r : Peer). outstanding l r ≡ None) (sym at_p) free))
given-up-alike l t i p token f (Some o) legal at_i at_p under a = by (bytes_eq o.token token) refl
  where
    other : (bytes_eq o.token token ≡ false) → (w : Option Transmission) → transmission l i ≡ w → false ≡ given_up t w
    other differs None e = refl
    other differs (Some y) e =
        let out = is-out l i f y legal at_i e in
        let same : out.0 ≡ a.first = some-is _ _ (sym out.1 ∙ subst (λ (r : Peer). outstanding l r ≡ Some a.first) (sym at_p) a.is) in
        let at_first : first_at l i ≡ Some a.first = subst (λ (n : ℕ). first_at l n ≡ Some a.first) (sym (ap (λ (g : FirstSending). g.number) same) ∙ out.2) (out-first l p o a) in
        let found : a.first ≡ f = some-is _ _ (sym at_first ∙ at_i) in
        let token_is : o.token ≡ token = sym a.token ∙ (ap (λ (g : FirstSending). g.message.token) found ∙ under) in
        absurd (false≢true (sym differs ∙ (bytes_eq-Decides o.token token).1 token_is))

    by : (b : Bool) → bytes_eq o.token token ≡ b → (bytes_eq o.token token && is_over t (Some o)) ≡ given_up t (transmission l i)
    by true e =
        let same = (bytes_eq-Decides o.token token).0 e in
        let number = one-token l a.first.number i a.first f legal (out-first l p o a) at_i (a.token ∙ (same ∙ sym under)) in
        let way : transmission l i ≡ Some (way_of o) = subst (λ (n : ℕ). transmission l n ≡ Some (way_of o)) number a.way in
        rw (e, way) refl
    by false e = rw (e) (other e (transmission l i) refl)

-- what a tick ends

pub expires-alike : {start : Start} (l : List Noted) (t : ℕ) (links : List PeerLink) (e : Exchange) → Legal l → ((p : Peer) → Agrees start l p (link_of links p)) → ExchangeIn start l e
    → expires t links e ≡ ends_at l e.opening t (waits_for l e.opening)
expires-alike l t links e legal agrees a = by e.awaits e.sending a.named a.sent ∙ ap (ends_at l e.opening t) (sym a.awaits)
  where
    late : is_past t e ≡ is_late t (begun l e.opening)
    late = ap (is_late t) (sym a.opening)

    or-false : (b : Bool) → (b || false) ≡ b
    or-false true = refl
    or-false false = refl

    some-not : is_some {T = ℕ} None ≡ true → ⊥
    some-not h = cc

    by : (b : Bool) (s : Option ℕ) → (b ≡ true → is_some s ≡ true) → IsSentUnder l e.peer e.token (awaited_by b s)
        → (is_past t e || (b && (is_outstanding_under e.token (link_of links e.peer).outstanding && is_over t (link_of links e.peer).outstanding))) ≡ ends_at l e.opening t (awaited_by b s)
    by false s n u = or-false (is_past t e) ∙ late
    by true None n u = absurd (some-not (n refl))
    by true (Some i) n u =
        ap (λ (b : Bool). is_past t e || b) (given-up-alike l t i e.peer e.token u.0 (link_of links e.peer).outstanding legal u.1 u.2 u.3 (agrees e.peer).turn)
        ∙ ap (λ (b : Bool). b || given_up t (transmission l i)) late

-- What awaits a reply goes on.

going-step : (x : Noted) (l : List Noted) (o i : ℕ) → Follows l x.written.moment x.written.deed x.note → (waits_for l o ≡ Some i → end_of l o ≡ None)
    → (u : Turn) → turn l o x ≡ u → waits_by u (waits_for l o) ≡ Some i → end_by (end_here (begun l o) (kept_of l o) (length l) (heard_for l o) u) (length l) (end_of l o) ≡ None
going-step x l o i follows ih (Sent j) w e =
    let s = turn-sent l o x j w in
    waiting-goes l s.peer o
    (first-waits l x.written.moment o s.peer s.bytes s.message s.timeout (may-be x l x.written.moment o s.peer s.bytes s.timeout s.message follows s.entry))
going-step x l o i follows ih Nothing w e = ih e
going-step x l o i follows ih (Replied j m place) w e = cc
going-step x l o i follows ih Rejected w e = cc
going-step x l o i follows ih Expired w e = cc

waits-going : (l : List Noted) (o i : ℕ) → Legal l → waits_for l o ≡ Some i → end_of l o ≡ None
waits-going [] o i legal e = refl
waits-going (x ∷ older) o i legal e = going-step x older o i legal.2 (waits-going older o i legal.0) (turn older o x) refl e

pub awaited-open : (l : List Noted) (o i : ℕ) → Legal l → waits_for l o ≡ Some i → Contains (open_exchanges l) o
awaited-open l o i legal e =
    let w = waits-first l o i e in
    let s = sent-for l w.0 o i w.1 w.2 legal w.3 in
    (open-exactly l o).1 (ap is_some s.opened, waits-going l o i legal e)

-- the exchange that is open with this number

pub kept-at : (l : List Noted) (S : State) (o : ℕ) (r : Reads l S) → Contains (open_exchanges l) o
    → (e : Exchange) × Contains S.exchanges e × (e.opening ≡ o) × ExchangeIn r.start l e
kept-at l S o r h =
    let k = contains-mapped opening_of S.exchanges o (subst (λ (os : List ℕ). Contains os o) r.keys h) in
    (k.0, k.1, k.2, all-of (ExchangeIn r.start l) S.exchanges k.0 r.exchanges_are k.1)

-- the tokens of those that end

none-passes : {X : Type 0} (f g : X → Bool) (xs : List X) → AllByRecursion (λ (x : X). f x ≡ true → g x ≡ false) xs → list_any (λ (x : X). f x && g x) xs ≡ false
none-passes f g [] a = refl
none-passes {X = X} f g (x ∷ xs) a = by (f x) a.0 (none-passes f g xs a.1)
  where
    by : (b : Bool) → (b ≡ true → g x ≡ false) → list_any (λ (x : X). f x && g x) xs ≡ false → ((b && g x) || list_any (λ (x : X). f x && g x) xs) ≡ false
    by true h ih = rw (h refl) ih
    by false h ih = ih

-- Where all that pass one test are alike, they tell whether one passes both.
pub one-tells : {X : Type 0} (f g : X → Bool) (v : Bool) (xs : List X) (y : X) → AllByRecursion (λ (x : X). f x ≡ true → g x ≡ v) xs → Contains xs y → f y ≡ true
    → list_any (λ (x : X). f x && g x) xs ≡ v
one-tells f g v [] y a h passes = absurd (contains-none y h)
one-tells {X = X} f g v (x ∷ xs) y a h passes = by (f x) refl (first-or-later x xs y h) (λ k. one-tells f g v xs y a.1 k passes)
  where
    found : (v : Bool) → AllByRecursion (λ (x : X). f x ≡ true → g x ≡ v) xs → (v || list_any (λ (x : X). f x && g x) xs) ≡ v
    found true a = refl
    found false a = none-passes f g xs a

    by : (b : Bool) → f x ≡ b → (x ≡ y) ⊎ Contains xs y → (Contains xs y → list_any (λ (x : X). f x && g x) xs ≡ v) → ((b && g x) || list_any (λ (x : X). f x && g x) xs) ≡ v
    by true e h ih = rw (a.0 e) (found v a.1)
    by false e (inl same) ih = absurd (false≢true (sym e ∙ (ap f same ∙ passes)))
    by false e (inr later) ih = ih later

-- No watch stands under the token of an exchange.
borne-under : (l : List Noted) (f : FirstSending) (token : List ℕ) (i : ℕ) → first_at l i ≡ Some f → f.message.token ≡ token → bears_token l token ≡ true
borne-under l f token i is same =
    any-of (λ (g : FirstSending). bytes_eq g.message.token token) (firsts l) f (find-some (λ (g : FirstSending). eqb g.number i) (firsts l) f is).0
    ((bytes_eq-Decides f.message.token token).1 same)

pub exchange-apart : {start : Start} (l : List Noted) (e : Exchange) (token : List ℕ) → Legal l → ExchangeIn start l e → e.token ≡ token → IsStanding l token → ⊥
exchange-apart l e token legal a same w = by (awaited_by e.awaits e.sending) a.awaits a.sent
  where
    fits : WatchFits l w.0
    fits = watch-fits l w.0 legal w.1

    token_is : w.0.held.token ≡ e.token
    token_is = w.2 ∙ sym same

    by : (v : Option ℕ) → waits_for l e.opening ≡ v → IsSentUnder l e.peer e.token v → ⊥
    by None waits unborne =
        let u = under-of l w.0 fits in
        false≢true (sym unborne ∙ borne-under l u.first e.token w.0.sending u.is (u.token ∙ token_is))
    by (Some i) waits sent =
        unawaited-by l w.0 i e.opening e.peer legal fits waits
        (rw (sent.1, sent.2, sent.3, same_peer-itself e.peer) ((bytes_eq-Decides e.token w.0.held.token).1 (sym token_is)))

pub unwatched-one : (l : List Noted) (S : State) (r : Reads l S) (drop : Registration → Bool) (e : Exchange) (token : List ℕ) → ExchangeIn r.start l e → e.token ≡ token
    → is_one_of (tokens_of drop S.watches) token ≡ false
unwatched-one l S r drop e token a same = by (is_one_of (tokens_of drop S.watches) token) refl
  where
    by : (b : Bool) → is_one_of (tokens_of drop S.watches) token ≡ b → b ≡ false
    by false is = refl
    by true is = absurd (exchange-apart l e token r.legal a same
        (gone-stands l token drop (subst (λ (rs : List Registration). is_one_of (tokens_of drop rs) token ≡ true) (sym r.watches_are) is)))

-- A token is gone where the exchange that has it ends.
pub gone-of : (l : List Noted) (t : ℕ) (S : State) (e : Exchange) (o : ℕ) (token : List ℕ) → Reads l S → Contains S.exchanges e → e.opening ≡ o → e.token ≡ token
    → ends_at l o t (waits_for l o) ≡ is_gone t S token
gone-of l t S e o token r h at under =
    sym (ap (λ (b : Bool). list_any (λ (x : Exchange). is_under token x && expires t S.links x) S.exchanges || b) (unwatched-one l S r (is_unwatched t S) e token mine.0 under)
    ∙ (or-no (list_any (λ (x : Exchange). is_under token x && expires t S.links x) S.exchanges)
    ∙ one-tells (is_under token) (expires t S.links) (ends_at l o t (waits_for l o)) S.exchanges e
    (all-more (OpenIn r.start l) _ one S.exchanges (open-ones l S r)) h ((bytes_eq-Decides e.token token).1 under)))
  where
    mine : OpenIn r.start l e
    mine = all-of (OpenIn r.start l) S.exchanges e (open-ones l S r) h

    one : (x : Exchange) → OpenIn r.start l x → is_under token x ≡ true → expires t S.links x ≡ ends_at l o t (waits_for l o)
    one x a same =
        let tokens = (bytes_eq-Decides x.token token).0 same ∙ sym under in
        let ranks = a.0.number ∙ (ap token_number tokens ∙ sym mine.0.number) in
        let there = one-rank l x.opening e.opening _ _ r.legal a.0.opening mine.0.opening a.1 mine.1 (cancel r.start.issued _ _ ranks) in
        expires-alike l t S.links x r.legal r.links_are a.0 ∙ ap (λ (k : ℕ). ends_at l k t (waits_for l k)) (there ∙ at)
