-- What was handed up is not handed up again.
use Rattle.std.proofs.Common.{◌≡◌, ℕ, ◌+◌, ◌-◌, ◌<◌, ◌≤◌, List, [], ◌∷◌, ◌++◌, Option, Some, None, Result, Ok, Err, Bool, true, false, nat_lt, ◌⊎◌, inl, inr, refl, subst, arith, eq-eqb}
use Rattle.std.specs.List.{find}
use Rattle.std.specs.Option.{option_or}
use Rattle.std.proofs.lemmas.Bool.{lt-ltb}
use Rattle.std.proofs.lemmas.List.Folds.{find-append}
use Rattle.coap_codec.specs.Spelling.{Content}
use Rattle.coap_codec.specs.Reading.{message_at}
use Rattle.coap_codec.specs.declared.fault.CodecFault.{CodecFault}
use Rattle.coap_codec.specs.declared.message.MsgType.{MsgType}
use Rattle.coap_codec.specs.declared.message.MsgType.TheVariants.{Con, Non, Ack, Rst}
use Rattle.message_layer.specs.Values.{Told, no_news, response, was_dropped}
use Rattle.message_layer.specs.Hearing.{is_repeat}
use Rattle.message_layer.specs.Runs.{Step, Call, submit, hear, tick, forget, expect, take_send, refuse}
use Rattle.message_layer.specs.Answers.{IsOwn, IsMessage, IsRead, IsIgnored, IsProcessed, IsAnswered, HasTaken, HearsOwn, HandsUpOnce}
use Rattle.message_layer.specs.declared.state.Heard.{Heard}
use Rattle.message_layer.proofs.AnswerLaws.{run-answered}
use borrow.Author.Tests.{ltb-true, ltb-false}

-- a message with the ID was taken and stands for it yet
abbrev Found : ℕ → ℕ → List Heard → Type 0
Found u mid taken = (h : Heard) × (find (is_repeat u mid) taken ≡ Some h)

found-more : (u mid : ℕ) (before after more : List Heard) → after ≡ before ++ more → Found u mid before → Found u mid after
found-more u mid before after more e f = (f.0, rw (e, find-append (is_repeat u mid) before more, f.1) refl)

found-same : (u mid : ℕ) (before after : List Heard) → after ≡ before → Found u mid before → Found u mid after
found-same u mid before after e f = rw e f

or-last : (o : Option Heard) (h : Heard) → (k : Heard) × (option_or o (Some h) ≡ Some k)
or-last None h = (h, refl)
or-last (Some k) h = (k, refl)

found-last : (u mid : ℕ) (before after : List Heard) (h : Heard) → after ≡ before ++ h ∷ [] → is_repeat u mid h ≡ true → Found u mid after
found-last u mid before after h e fits =
    let o = or-last (find (is_repeat u mid) before) h in
    (o.0, rw (e, find-append (is_repeat u mid) before (h ∷ []), fits) o.1)

own-keeps : (u mid t : ℕ) (older : List Step) (confirms : Bool) (m : Content) (o : Option Heard) (told : Told) (sent : List (List ℕ)) (before after : List Heard)
    → IsOwn t older confirms m o told sent before after → Found u mid before → Found u mid after
own-keeps u mid t older confirms m (Some h) told sent before after i f = found-same u mid before after i.memory f
own-keeps u mid t older confirms m None told sent before after (inl i) f = found-more u mid before after _ i.memory f
own-keeps u mid t older confirms m None told sent before after (inr i) f = found-same u mid before after i.memory f

message-keeps : (u mid t : ℕ) (older : List Step) (kind : MsgType) (m : Content) (told : Told) (sent : List (List ℕ)) (before after : List Heard)
    → IsMessage t older kind m told sent before after → Found u mid before → Found u mid after
message-keeps u mid t older Con m told sent before after i f = own-keeps u mid t older true m (find (is_repeat t m.mid) before) told sent before after i f
message-keeps u mid t older Non m told sent before after i f = own-keeps u mid t older false m (find (is_repeat t m.mid) before) told sent before after i f
message-keeps u mid t older Ack m told sent before after i f = found-same u mid before after i.1.memory f
message-keeps u mid t older Rst m told sent before after i f = found-same u mid before after i.1.memory f

read-keeps : (u mid t : ℕ) (older : List Step) (d : List ℕ) (o : Result Content CodecFault) (told : Told) (sent : List (List ℕ)) (before after : List Heard)
    → IsRead t older d o told sent before after → Found u mid before → Found u mid after
read-keeps u mid t older d (Ok m) told sent before after i f = message-keeps u mid t older m.kind m told sent before after i f
read-keeps u mid t older d (Err e) told sent before after i f = found-same u mid before after i.1.memory f

step-keeps : (u mid : ℕ) (x : Step) (older : List Step) (c : Call) (before after : List Heard) → IsAnswered x older c before after → Found u mid before → Found u mid after
step-keeps u mid x older (submit m word) before after i f = found-same u mid before after i.memory f
step-keeps u mid x older (hear d told) before after (inl i) f = found-same u mid before after i.memory f
step-keeps u mid x older (hear d told) before after (inr i) f = read-keeps u mid x.moment older d (message_at d) told x.sent before after i.read f
step-keeps u mid x older (tick told) before after i f = found-same u mid before after i.memory f
step-keeps u mid x older (forget token) before after i f = found-same u mid before after i.memory f
step-keeps u mid x older (expect token on) before after i f = found-same u mid before after i.memory f
step-keeps u mid x older (take_send d) before after i f = found-same u mid before after i.memory f
step-keeps u mid x older refuse before after i f = found-same u mid before after i.memory f

-- a response that was told is taken
own-found : (u t : ℕ) (older : List Step) (confirms : Bool) (m : Content) (o : Option Heard) (sent : List (List ℕ)) (before after : List Heard) → u < t + 247000
    → IsOwn t older confirms m o (response m) sent before after → Found u m.mid after
own-found u t older confirms m (Some h) sent before after soon i = absurd (let e : response m ≡ no_news = i.says in cc)
own-found u t older confirms m None sent before after soon (inl i) =
    found-last u m.mid before after (record { mid = m.mid; moment = t; reply = i.reply }) i.memory (rw (eq-eqb m.mid m.mid refl) (lt-ltb (u - t) 247000 (omega (arith, soon))))
own-found u t older confirms m None sent before after soon (inr i) = absurd (let e : response m ≡ was_dropped = i.says in cc)

message-found : (u t : ℕ) (older : List Step) (kind : MsgType) (m : Content) (sent : List (List ℕ)) (before after : List Heard) → u < t + 247000 → ((kind ≡ Con) ⊎ (kind ≡ Non))
    → IsMessage t older kind m (response m) sent before after → Found u m.mid after
message-found u t older Con m sent before after soon own i = own-found u t older true m (find (is_repeat t m.mid) before) sent before after soon i
message-found u t older Non m sent before after soon own i = own-found u t older false m (find (is_repeat t m.mid) before) sent before after soon i
message-found u t older Ack m sent before after soon (inl own) i = absurd cc
message-found u t older Ack m sent before after soon (inr own) i = absurd cc
message-found u t older Rst m sent before after soon (inl own) i = absurd cc
message-found u t older Rst m sent before after soon (inr own) i = absurd cc

-- what the step says of the message
message-of : (x : Step) (older : List Step) (m : Content) (k : Content) (before after : List Heard) → HearsOwn x m (response k) → IsAnswered x older x.call before after
    → IsMessage x.moment older m.kind m (response k) x.sent before after
message-of x older m k before after w i = by (subst (λ (c : Call). IsAnswered x older c before after) w.call i)
  where
    by : (IsIgnored w.datagram older (response k) x.sent before after ⊎ IsProcessed x.moment w.datagram older (response k) x.sent before after)
        → IsMessage x.moment older m.kind m (response k) x.sent before after
    by (inl i) = absurd (let e : response k ≡ was_dropped = i.says in cc)
    by (inr i) = subst (λ (o : Result Content CodecFault). IsRead x.moment older w.datagram o (response k) x.sent before after) w.read i.read

first-found : (u : ℕ) (x : Step) (older : List Step) (m : Content) (taken : List Heard) → u < x.moment + 247000 → HearsOwn x m (response m) → HasTaken (x ∷ older) taken → Found u m.mid taken
first-found u x older m taken soon w h = message-found u x.moment older m.kind m x.sent h.0 taken soon w.own (message-of x older m m h.0 taken w h.2)

found-since : (u mid : ℕ) (between rest : List Step) (taken : List Heard) → ((b : List Heard) → HasTaken rest b → Found u mid b) → HasTaken (between ++ rest) taken → Found u mid taken
found-since u mid [] rest taken f h = f taken h
found-since u mid (x ∷ between) rest taken f h = step-keeps u mid x (between ++ rest) x.call h.0 taken h.2 (found-since u mid between rest h.0 f h.1)

-- a repeat is not told
own-not-told : (t : ℕ) (older : List Step) (confirms : Bool) (m : Content) (o : Option Heard) (h : Heard) (sent : List (List ℕ)) (before after : List Heard) → o ≡ Some h
    → IsOwn t older confirms m o (response m) sent before after → ⊥
own-not-told t older confirms m (Some k) h sent before after e i = let f : response m ≡ no_news = i.says in absurd cc
own-not-told t older confirms m None h sent before after e i = absurd cc

message-not-told : (t mid : ℕ) (older : List Step) (kind : MsgType) (m : Content) (sent : List (List ℕ)) (before after : List Heard) → m.mid ≡ mid → ((kind ≡ Con) ⊎ (kind ≡ Non)) → Found t mid before
    → IsMessage t older kind m (response m) sent before after → ⊥
message-not-told t mid older Con m sent before after e own f i = own-not-told t older true m (find (is_repeat t m.mid) before) f.0 sent before after (rw e f.1) i
message-not-told t mid older Non m sent before after e own f i = own-not-told t older false m (find (is_repeat t m.mid) before) f.0 sent before after (rw e f.1) i
message-not-told t mid older Ack m sent before after e (inl own) f i = absurd cc
message-not-told t mid older Ack m sent before after e (inr own) f i = absurd cc
message-not-told t mid older Rst m sent before after e (inl own) f i = absurd cc
message-not-told t mid older Rst m sent before after e (inr own) f i = absurd cc

pub hands-up-once : HandsUpOnce
hands-up-once later between first older s run m n w v same = by (nat_lt later.moment (first.moment + 247000)) refl
  where
    soon-not : later.moment < first.moment + 247000 → ⊥
    soon-not soon =
        let a = run-answered (later ∷ between ++ first ∷ older) s run in
        let f : Found later.moment m.mid a.all.0 = found-since later.moment m.mid between (first ∷ older) a.all.0 (λ b h. first-found later.moment first older m b soon w h) a.all.1 in
        message-not-told later.moment m.mid (between ++ first ∷ older) n.kind n later.sent a.all.0 a.taken same v.own f (message-of later (between ++ first ∷ older) n n a.all.0 a.taken v a.all.2)

    by : (b : Bool) → nat_lt later.moment (first.moment + 247000) ≡ b → first.moment + 247000 ≤ later.moment
    by true e = absurd (soon-not (ltb-true later.moment (first.moment + 247000) e))
    by false e = ltb-false later.moment (first.moment + 247000) e
