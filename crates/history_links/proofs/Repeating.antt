-- Repeats and what is no message.
use Rattle.std.proofs.Common.{◌≡◌, ℕ, ◌+◌, ◌*◌, Bool, true, false, cond, eqb, List, [], ◌∷◌, Option, Some, None, refl, sym, ap, ◌∙◌}
use Rattle.std.specs.Prelude.{option_map, ◌/◌}
use Rattle.std.specs.List.{find}
use Rattle.coap_codec.specs.declared.message.MsgType.{MsgType}
use Rattle.coap_codec.specs.declared.message.MsgType.TheVariants.{Con, Non, Ack, Rst}
use Rattle.coap_codec.specs.Spelling.{Content}
use Rattle.coap_codec.specs.Recognition.{is_rejected}
use Rattle.uri_map.specs.declared.peer.Peer.{Peer}
use Rattle.journal_book.specs.Entries.{Hears}
use Rattle.history_laws.specs.Confirmations.{answer_by, given, rejects_bytes}
use Rattle.message_layer.specs.Values.{LinkState}
use Rattle.message_layer.specs.Hearing.{is_repeat, heard_verdict, verdict_by, reset_for}
use Rattle.message_layer.specs.declared.state.Heard.{Heard}
use Rattle.history_laws.specs.Readings.{Noted, Note, Plain, Begins, Renews, Joins, Serves, First, Copies, Confirms, Says, Repeats, Garbled, at, Bygone, Recalls, Acknowledged, Rejected, Ignored}
use Rattle.history_laws.specs.Hearing.{is_such, heard_before}
use Rattle.history_laws.specs.Confirming.{answered, answered_as, answered_again}
use Rattle.history_laws.proofs.CallerLemmas.{some-is}
use Rattle.history_links.specs.Agrees.{Start, IsFrom, reply_of, due, HeardIn, Agrees}
use Rattle.history_links.specs.Steps.{RepeatAgrees, reset, GarbledAgrees}
use Rattle.history_links.proofs.Silence.{silent-agrees}
use Rattle.history_links.proofs.Still.{answers_in}

-- what answers a message is an ACK, a RST or nothing

abbrev pub IsConfirming : Option MsgType → Type 0
IsConfirming None = Unit {0}
IsConfirming (Some Ack) = Unit {0}
IsConfirming (Some Rst) = Unit {0}
IsConfirming _ = ⊥

pub confirming-by : (k : MsgType) (matched rejected vain : Bool) → IsConfirming (answer_by k matched rejected vain)
confirming-by Con true true vain = tt
confirming-by Con true false vain = tt
confirming-by Con false rejected vain = tt
confirming-by Non true true vain = tt
confirming-by Non true false vain = tt
confirming-by Non false rejected true = tt
confirming-by Non false rejected false = tt
confirming-by Ack matched rejected vain = tt
confirming-by Rst matched rejected vain = tt

confirming-note : (note : Note) → IsConfirming (answered note)
confirming-note (Says m to notice) = confirming-by m.kind _ (is_rejected m) _
confirming-note Plain = tt
confirming-note (Begins q) = tt
confirming-note (Renews q s) = tt
confirming-note (Joins o) = tt
confirming-note (Serves js) = tt
confirming-note (First o m) = tt
confirming-note (Copies i) = tt
confirming-note Confirms = tt
confirming-note (Repeats m j) = tt
confirming-note Garbled = tt
confirming-note (Bygone m) = tt
confirming-note (Recalls m Acknowledged) = tt
confirming-note (Recalls m Rejected) = tt
confirming-note (Recalls m Ignored) = tt

confirming-as : (x : Option Noted) → IsConfirming (answered_as x)
confirming-as None = tt
confirming-as (Some x) = confirming-note x.note

pub due-given : (p : Peer) (mid : ℕ) (k : Option MsgType) → IsConfirming k → due p mid (reply_of k) ≡ given p mid k
due-given p mid None c = refl
due-given p mid (Some Ack) c = refl
due-given p mid (Some Rst) c = refl
due-given p mid (Some Con) c = absurd c
due-given p mid (Some Non) c = absurd c

-- the answer to a repeat

pub found-reply : {start : Start} (l : List Noted) (t : ℕ) (p : Peer) (mid : ℕ) (heard : List Heard) (v : Option Heard) (w : Option ℕ) → find (is_repeat t mid) heard ≡ v
    → heard_before l t p mid ≡ w → HeardIn start l p heard → IsFrom start l t → option_map (λ (h : Heard). h.reply) v ≡ option_map (answers_in l) w
found-reply l t p mid heard v w e f h later = ap (option_map (λ (h : Heard). h.reply)) (sym e) ∙ (h.repeats t mid later ∙ ap (option_map (answers_in l)) f)

again-con : (l : List Noted) (t : ℕ) (p : Peer) (s : LinkState) (m : Content) (j : ℕ) (v : Option Heard)
    → option_map (λ (h : Heard). h.reply) v ≡ Some (answers_in l j) → due p m.mid (heard_verdict t s m true v).reply ≡ given p m.mid (answered_as (at l j))
again-con l t p s m j None e = cc
again-con l t p s m j (Some h) e = ap (due p m.mid) (some-is h.reply (answers_in l j) e) ∙ due-given p m.mid (answered_as (at l j)) (confirming-as (at l j))

again-non : (t : ℕ) (p : Peer) (s : LinkState) (m : Content) (j : ℕ) (l : List Noted) (v : Option Heard)
    → option_map (λ (h : Heard). h.reply) v ≡ Some (answers_in l j) → due p m.mid (heard_verdict t s m false v).reply ≡ None
again-non t p s m j l None e = cc
again-non t p s m j l (Some h) e = refl

again : {start : Start} (l : List Noted) (t : ℕ) (p : Peer) (s : LinkState) (m : Content) (j : ℕ) (k : MsgType) → IsFrom start l t → Agrees start l p s
    → cond (is_such k) (heard_before l t p m.mid) None ≡ Some j
    → due p m.mid (verdict_by t s m k).reply ≡ given p m.mid (answered_again k (answered_as (at l j)))
again l t p s m j Con later a e = again-con l t p s m j (find (is_repeat t m.mid) s.heard) (found-reply l t p m.mid s.heard _ (Some j) refl e a.heard later)
again l t p s m j Non later a e = again-non t p s m j l (find (is_repeat t m.mid) s.heard) (found-reply l t p m.mid s.heard _ (Some j) refl e a.heard later)
again l t p s m j Ack later a e = cc
again l t p s m j Rst later a e = cc

pub repeat-agrees : RepeatAgrees
repeat-agrees start l t p s d m j b e = record {
  agrees = silent-agrees _ l t p s (Hears p d) (Repeats m j) b tt;
  owes = sym (again l t p s m j m.kind (b.started, b.later) b.agrees e);
}

reset-same : (p : Peer) (d : List ℕ) → rejects_bytes p d ≡ reset p (reset_for d)
reset-same p [] = refl
reset-same p (a ∷ []) = refl
reset-same p (a ∷ b ∷ []) = refl
reset-same p (a ∷ b ∷ c ∷ []) = refl
reset-same p (a ∷ b ∷ c ∷ e ∷ rest) = by (eqb (a / 16) 4)
  where
    by : (v : Bool) → cond v (given p (256 * c + e) (Some Rst)) None ≡ reset p (cond v (Some (256 * c + e)) None)
    by true = refl
    by false = refl

pub garbled-agrees : GarbledAgrees
garbled-agrees start l t p s d b = record { agrees = silent-agrees _ l t p s (Hears p d) Garbled b tt; owes = reset-same p d }
