-- What a link counts as lost is no entry; and the tokens of what ends at a tick.
use Rattle.std.proofs.Common.{◌≡◌, ℕ, Bool, true, false, cond, not, leb, List, [], ◌∷◌, ◌++◌, length, map, Option, Some, None, Result, Ok, Err, refl, sym, ap, ◌∙◌}
use Rattle.std.specs.Prelude.{filter, is_some, ◌&&◌, ◌||◌}
use Rattle.std.specs.List.{find, list_any}
use Rattle.std.specs.Str.{bytes_eq}
use Rattle.std.proofs.lemmas.Bool.{false≢true}
use Rattle.std.proofs.lemmas.Slice.Eq.{bytes_eq-Decides}
use Rattle.coap_codec.specs.Spelling.{Content}
use Rattle.coap_codec.specs.Reading.{message_at}
use Rattle.coap_codec.specs.declared.fault.CodecFault.{CodecFault}
use Rattle.coap_codec.specs.declared.message.MsgType.{MsgType}
use Rattle.coap_codec.specs.declared.message.MsgType.TheVariants as K
use Rattle.uri_map.specs.declared.peer.Peer.{Peer}
use Rattle.message_layer.specs.Values.{LinkState, no_news, response, was_reset, was_dropped}
use Rattle.message_layer.specs.Hearing.{is_repeat, replies, verdict_of, verdict_by, says, hears_read, hears_from}
use Rattle.message_layer.specs.declared.state.Heard.{Heard}
use Rattle.message_layer.specs.declared.verdict.News.{News}
use Rattle.message_layer.specs.declared.verdict.News.TheVariants as N
use Rattle.message_layer.specs.declared.verdict.Verdict.{Verdict}
use Rattle.history_laws.specs.Hearing.{is_such}
use Rattle.exchange_model.specs.declared.kept.Exchange.{Exchange}
use Rattle.exchange_model.specs.State.{State, link_of}
use Rattle.exchange_model.specs.Steps.{hears_nothing, is_under}
use Rattle.exchange_model.specs.Hearing.{Numbers, is_gone, is_unwatched, expires, timed_out}
use Rattle.exchange_model.specs.Calls.{given_back, takes_by, repeats, reads_so}
use Rattle.exchange_model.specs.Watching.{is_one_of, tokens_of}
use Rattle.exchange_model.specs.Entering.{token_of, DroppedStays, GoneTokens}
use Rattle.exchange_model.proofs.LinksHeard.{limits}

-- What repeats another is told nothing of.

some-found : (v : Option Heard) → is_some v ≡ true → (h : Heard) × (v ≡ Some h)
some-found None e = absurd (false≢true e)
some-found (Some h) e = (h, refl)

pub repeat-quiet : (t : ℕ) (s : LinkState) (m : Content) (k : MsgType)
    → (is_such k && is_some (find (is_repeat t m.mid) s.heard)) ≡ true
    → (verdict_by t s m k).news ≡ N.Quiet
repeat-quiet t s m K.Con e =
    let h = some-found (find (is_repeat t m.mid) s.heard) e in rw (h.1) refl
repeat-quiet t s m K.Non e =
    let h = some-found (find (is_repeat t m.mid) s.heard) e in rw (h.1) refl
repeat-quiet t s m K.Ack e = absurd (false≢true e)
repeat-quiet t s m K.Rst e = absurd (false≢true e)

quiet-told : no_news ≡ was_dropped → ⊥
quiet-told e = cc

response-told : (m : Content) → response m ≡ was_dropped → ⊥
response-told m e = cc

reset-told : (token : List ℕ) → was_reset token ≡ was_dropped → ⊥
reset-told token e = cc

message-dropped : (t : ℕ) (p : Peer) (d : List ℕ) (m : Content) (v : Verdict) (n : Numbers)
    (S : State) (b : Bool)
    → (b ≡ true → v.news ≡ N.Quiet) → says v.news m ≡ was_dropped
    → cond b (given_back t p (replies m.mid v.reply) (hears_nothing t p d S))
    (takes_by t p d m v n v.news S) ≡ S
message-dropped t p d m v n S true quiet e =
    absurd (quiet-told (ap (λ (news : News). says news m) (sym (quiet refl)) ∙ e))
message-dropped t p d m v n S false quiet e = by v.news e
  where
    by : (news : News) → says news m ≡ was_dropped → takes_by t p d m v n news S ≡ S
    by N.Lost h = refl
    by N.Quiet h = absurd (quiet-told h)
    by N.Response h = absurd (response-told m h)
    by (N.Reset token) h = absurd (reset-told token h)

pub dropped-stays : DroppedStays
dropped-stays t p d n S lost = by (link_of S.links p).last_mid lost
  where
    s : LinkState
    s = link_of S.links p

    read : (r : Result Content CodecFault) → (hears_read t d s r).1 ≡ was_dropped
        → reads_so t p d n r S ≡ S
    read (Ok m) e =
        message-dropped t p d m (verdict_of t s m) n S (repeats t s m)
        (λ again. repeat-quiet t s m m.kind again) e
    read (Err f) e = absurd (quiet-told e)

    short : (c : Bool)
        → (cond (not c) (s, was_dropped) (hears_read t d s (message_at d))).1 ≡ was_dropped
        → cond c (reads_so t p d n (message_at d) S) S ≡ S
    short true e = read (message_at d) e
    short false e = refl

    by : (v : Option ℕ) → (hears_from t d s v).1 ≡ was_dropped
        → cond (is_some v && leb (length d) 2048) (reads_so t p d n (message_at d) S) S ≡ S
    by None e = refl
    by (Some mid) e =
        short (leb (length d) 2048)
        (ap (λ (b : Bool). (cond b (s, was_dropped) (hears_read t d s (message_at d))).1)
        (sym (limits (length d))) ∙ e)

-- The tokens of what ends.

swapped : (a b : List ℕ) → bytes_eq a b ≡ bytes_eq b a
swapped a b = by (bytes_eq a b) (bytes_eq b a) refl refl
  where
    one : (x y : List ℕ) → bytes_eq x y ≡ true → bytes_eq y x ≡ true
    one x y e = (bytes_eq-Decides y x).1 (sym ((bytes_eq-Decides x y).0 e))

    by : (x y : Bool) → bytes_eq a b ≡ x → bytes_eq b a ≡ y → x ≡ y
    by true y e f = sym (one a b e) ∙ f
    by false true e f = absurd (false≢true (sym e ∙ one b a f))
    by false false e f = refl

ends-among : (token : List ℕ) (q : Exchange → Bool) (es : List Exchange)
    → list_any (λ (e : Exchange). is_under token e && q e) es
    ≡ is_one_of (map token_of (filter q es)) token
ends-among token q [] = refl
ends-among token q (e ∷ es) = by (q e) (is_under token e) refl (ends-among token q es)
  where
    rest : Bool
    rest = list_any (λ (x : Exchange). is_under token x && q x) es

    by : (b u : Bool) → is_under token e ≡ u → rest ≡ is_one_of (map token_of (filter q es)) token
        → ((u && b) || rest)
        ≡ is_one_of (map token_of (cond b (e ∷ filter q es) (filter q es))) token
    by false true h ih = ih
    by false false h ih = ih
    by true u h ih =
        ap (λ (k : Bool). k || rest) (both u ∙ (sym h ∙ swapped e.token token))
        ∙ ap (λ (k : Bool). bytes_eq token e.token || k) ih
      where
        both : (k : Bool) → (k && true) ≡ k
        both true = refl
        both false = refl

one-joined : (token : List ℕ) (xs ys : List (List ℕ)) → is_one_of (xs ++ ys) token ≡ (is_one_of xs token || is_one_of ys token)
one-joined token [] ys = refl
one-joined token (x ∷ xs) ys = by (bytes_eq token x) (one-joined token xs ys)
  where
    by : (b : Bool) → is_one_of (xs ++ ys) token ≡ (is_one_of xs token || is_one_of ys token)
        → (b || is_one_of (xs ++ ys) token) ≡ ((b || is_one_of xs token) || is_one_of ys token)
    by true ih = refl
    by false ih = ih

pub gone-tokens : GoneTokens
gone-tokens t S = λ i token.
    let ends = map token_of (timed_out t S) in
    let past = tokens_of (is_unwatched t S) S.watches in
    let whole : is_gone t S token ≡ is_one_of (ends ++ past) token =
    ap (λ (b : Bool). b || is_one_of past token) (ends-among token (expires t S.links) S.exchanges)
    ∙ sym (one-joined token ends past) in
    whole i
