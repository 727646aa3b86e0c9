-- What a notification is to lists of what is observed, and how messages are judged.
use Rattle.std.proofs.Common.{◌≡◌, ℕ, Bool, true, false, cond, eqb, ltb, List, [], ◌∷◌, ◌++◌, length, map, Option, Some, None, option_map, refl, sym, ap, subst, ◌∙◌}
use Rattle.std.specs.Prelude.{find, ◌&&◌, count_by, not}
use Rattle.std.specs.List.{list_any}
use Rattle.std.proofs.lemmas.Bool.{false≢true}
use Rattle.std.proofs.lemmas.Bool.Decides.{Decides-eqb}
use Rattle.coap_codec.specs.Spelling.{Content}
use Rattle.coap_codec.specs.declared.message.MsgType.{MsgType}
use Rattle.coap_codec.specs.declared.message.MsgType.TheVariants.{Con, Non, Ack, Rst}
use Rattle.message_layer.specs.Values.{LinkState}
use Rattle.message_layer.specs.Hearing.{is_awaited, is_fresh, new_verdict, heard_verdict, verdict_by, is_repeat}
use Rattle.message_layer.specs.declared.state.Heard.{Heard}
use Rattle.message_layer.specs.declared.state.Reply.{Reply as LinkReply}
use Rattle.message_layer.specs.declared.state.Reply.TheVariants as L
use Rattle.message_layer.specs.declared.verdict.Verdict.{Verdict}
use Rattle.message_layer.specs.declared.verdict.News.TheVariants as N
use Rattle.observe_share.specs.declared.registration.Registration.{Registration}
use Rattle.observe_share.specs.declared.notice.Notice.{Notice as Told}
use Rattle.observe_share.specs.declared.notice.Notice.TheVariants.{Update, Other}
use Rattle.observe_share.specs.Watches.{first_changed, heard_by, in_place, noticed}
use Rattle.observe_share.specs.Watches as W
use Rattle.history_laws.specs.Readings.{Noted, Outdates, Starts}
use Rattle.history_laws.specs.Progress.{Ending, Progress, Fetches, Gives, Ends}
use Rattle.history_laws.specs.Exchanges.{begun, Turn, Nothing as NoTurn, Sent, Replied, Rejected, Expired, turn, waits_by, waits_for, end_here, end_by, end_of, kept as kept_of, heard_for, Begun}
use Rattle.history_laws.specs.Observing.{Watch, counts, held_by, is_under, notice_in, told_by}
use Rattle.history_laws.specs.Hearing.{counts_as, is_such, has_room, is_read, starts_for}
use Rattle.history_laws.specs.Justified.{Legal}
use Rattle.history_laws.proofs.CallerLemmas.{first-waits, may-be, none-some, turn-sent, waiting-goes}
use Rattle.exchange_model.specs.Reads.{held_of}

-- lists

pub map-joined : {X Y : Type 0} (f : X → Y) (xs ys : List X) → map f (xs ++ ys) ≡ map f xs ++ map f ys
map-joined f [] ys = refl
map-joined f (x ∷ xs) ys = ap (λ (zs : List _). f x ∷ zs) (map-joined f xs ys)

pub found-held : (token : List ℕ) (ws : List Watch) → find (W.is_under token) (map held_of ws) ≡ option_map held_of (find (is_under token) ws)
found-held token [] = refl
found-held token (w ∷ ws) = by (W.is_under token w.held) (found-held token ws)
  where
    by : (b : Bool) → find (W.is_under token) (map held_of ws) ≡ option_map held_of (find (is_under token) ws)
        → cond b (Some w.held) (find (W.is_under token) (map held_of ws)) ≡ option_map held_of (cond b (Some w) (find (is_under token) ws))
    by true ih = refl
    by false ih = ih

placed-held : (m : Content) (t : ℕ) (w : Watch) (ws : List Watch) (v : Option Registration)
    → map held_of (in_place (option_map (λ (r : Registration). record w { held = r }) v) ws) ≡ in_place v (map held_of ws)
placed-held m t w ws None = refl
placed-held m t w ws (Some r) = refl

pub changed-held : (m : Content) (t : ℕ) (ws : List Watch)
    → map held_of (first_changed (is_under m.token) (held_by m t) ws) ≡ noticed m.token (notice_in m) t (map held_of ws)
changed-held m t [] = refl
changed-held m t (w ∷ ws) = by (W.is_under m.token w.held) (changed-held m t ws)
  where
    by : (b : Bool) → map held_of (first_changed (is_under m.token) (held_by m t) ws) ≡ noticed m.token (notice_in m) t (map held_of ws)
        → map held_of (cond b (in_place (held_by m t w) ws) (w ∷ first_changed (is_under m.token) (held_by m t) ws))
        ≡ cond b (in_place (heard_by (notice_in m) t w.held) (map held_of ws)) (w.held ∷ noticed m.token (notice_in m) t (map held_of ws))
    by true ih = placed-held m t w ws (heard_by (notice_in m) t w.held)
    by false ih = ap (λ (rs : List Registration). w.held ∷ rs) ih

-- what a notification that counts is
started-told : (l : List Noted) (t i k : ℕ) (m : Content) (b : Option Begun) (ws : List Watch)
    → (told_by l t i m (starts_for l t k b) ws ≡ first_changed (is_under m.token) (held_by m t) ws) × (counts (starts_for l t k b) ≡ true)
started-told l t i k m None ws = (refl, refl)
started-told l t i k m (Some b) ws = by (has_room l t b.request && not (is_read l b.request))
  where
    by : (v : Bool)
        → (told_by l t i m (cond v (Starts k b.request) Outdates) ws ≡ first_changed (is_under m.token) (held_by m t) ws) × (counts (cond v (Starts k b.request) Outdates) ≡ true)
    by true = (refl, refl)
    by false = (refl, refl)

pub counted-told : (l : List Noted) (t i : ℕ) (m : Content) (r : Registration) (n : Told) (u : Progress) (ws : List Watch)
    → (told_by l t i m (counts_as l t r n u) ws ≡ first_changed (is_under m.token) (held_by m t) ws) × (counts (counts_as l t r n u) ≡ true)
counted-told l t i m r (Other v) u ws = (refl, refl)
counted-told l t i m r (Update v) (Ends how) ws = (refl, refl)
counted-told l t i m r (Update v) (Fetches k pieces got) ws = started-told l t i r.opening m (begun l r.opening) ws
counted-told l t i m r (Update v) (Gives u got) ws = started-told l t i r.opening m (begun l r.opening) ws

-- how a CON or NON that can be remembered is judged
pick : (b c : Bool) (x y z : Verdict) → x.news ≡ N.Quiet → y.news ≡ N.Response → z.news ≡ N.Quiet → (b ≡ true → c ≡ false)
    → (cond b x (cond c y z)).news ≡ cond c N.Response N.Quiet
pick true true x y z p q r h = absurd (false≢true (sym (h refl)))
pick true false x y z p q r h = p
pick false true x y z p q r h = q
pick false false x y z p q r h = r

new-news : (s : LinkState) (m : Content) (r e : LinkReply) → (new_verdict s m r e).news ≡ cond (ltb 31 m.code && list_any (is_awaited m.token) s.awaited) N.Response N.Quiet
new-news s m r e = pick (eqb m.code 0) (ltb 31 m.code && list_any (is_awaited m.token) s.awaited) _ _ _ refl refl refl small
  where
    small : eqb m.code 0 ≡ true → (ltb 31 m.code && list_any (is_awaited m.token) s.awaited) ≡ false
    small e = subst (λ (n : ℕ). (ltb 31 n && list_any (is_awaited m.token) s.awaited) ≡ false) (sym ((Decides-eqb m.code 0).0 e)) refl

own-news : (t : ℕ) (s : LinkState) (m : Content) (confirms : Bool) (v : Option Heard) → (heard_verdict t s m confirms v).remembered ≡ true
    → (heard_verdict t s m confirms v).news ≡ cond (ltb 31 m.code && list_any (is_awaited m.token) s.awaited) N.Response N.Quiet
own-news t s m confirms (Some h) e = absurd (false≢true e)
own-news t s m confirms None e = by (ltb (count_by (is_fresh t) s.heard) 1024) e
  where
    lost : Verdict
    lost = record { reply = L.Nothing; remembered = false; ends = false; news = N.Lost }

    new : Verdict
    new = new_verdict s m (cond confirms L.Ack L.Nothing) (cond confirms L.Rst L.Nothing)

    by : (b : Bool) → (cond b new lost).remembered ≡ true → (cond b new lost).news ≡ cond (ltb 31 m.code && list_any (is_awaited m.token) s.awaited) N.Response N.Quiet
    by true e = new-news s m _ _
    by false e = absurd (false≢true e)

pub news-by : (t : ℕ) (s : LinkState) (m : Content) (k : MsgType) → is_such k ≡ true → (verdict_by t s m k).remembered ≡ true
    → (verdict_by t s m k).news ≡ cond (ltb 31 m.code && list_any (is_awaited m.token) s.awaited) N.Response N.Quiet
news-by t s m Con such e = own-news t s m true (find (is_repeat t m.mid) s.heard) e
news-by t s m Non such e = own-news t s m false (find (is_repeat t m.mid) s.heard) e
news-by t s m Ack such e = absurd (false≢true such)
news-by t s m Rst such e = absurd (false≢true such)

-- An exchange that awaits a reply is open.
pub waits-open : (l : List Noted) (o i : ℕ) → Legal l → waits_for l o ≡ Some i → end_of l o ≡ None
waits-open [] o i legal e = absurd (none-some i e)
waits-open (x ∷ l) o i legal e = by (turn l o x) refl e (λ j f. waits-open l o j legal.0 f)
  where
    ending : (u : Turn) → turn l o x ≡ u → end_here (begun l o) (kept_of l o) (length l) (heard_for l o) u ≡ None → end_of (x ∷ l) o ≡ end_of l o
    ending u is quiet = ap (λ (v : Turn). end_by (end_here (begun l o) (kept_of l o) (length l) (heard_for l o) v) (length l) (end_of l o)) is ∙ ap (λ (v : Option Ending). end_by v (length l) (end_of l o)) quiet

    by : (u : Turn) → turn l o x ≡ u → waits_by u (waits_for l o) ≡ Some i → ((j : ℕ) → waits_for l o ≡ Some j → end_of l o ≡ None) → end_of (x ∷ l) o ≡ None
    by NoTurn is w ih = ending NoTurn is refl ∙ ih i w
    by (Sent j) is w ih =
        let sent = turn-sent l o x j is in
        let may = may-be x l x.written.moment o sent.peer sent.bytes sent.timeout sent.message legal.2 sent.entry in
        ending (Sent j) is refl ∙ waiting-goes l sent.peer o (first-waits l x.written.moment o sent.peer sent.bytes sent.message sent.timeout may)
    by (Replied j m place) is w ih = absurd (none-some i w)
    by Rejected is w ih = absurd (none-some i w)
    by Expired is w ih = absurd (none-some i w)
