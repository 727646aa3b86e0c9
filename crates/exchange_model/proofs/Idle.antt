-- A message that repeats one leaves its link.
use Rattle.std.proofs.Common.{◌≡◌, ℕ, ◌⊎◌, true, false, inl, Option, Some, None, refl}
use Rattle.std.specs.Prelude.{◌&&◌, is_some}
use Rattle.std.specs.List.{find}
use Rattle.std.proofs.lemmas.Bool.{false≢true}
use Rattle.coap_codec.specs.Spelling.{Content}
use Rattle.coap_codec.specs.declared.message.MsgType.{MsgType}
use Rattle.coap_codec.specs.declared.message.MsgType.TheVariants.{Con, Non, Ack, Rst}
use Rattle.message_layer.specs.Values.{LinkState}
use Rattle.message_layer.specs.Hearing.{is_repeat, verdict_by}
use Rattle.message_layer.specs.declared.state.Heard.{Heard}
use Rattle.message_layer.specs.declared.state.Reply.TheVariants as R
use Rattle.message_layer.specs.declared.verdict.News.TheVariants as N
use Rattle.message_layer.specs.declared.verdict.Verdict.{Verdict}
use Rattle.history_laws.specs.Hearing.{is_such}

abbrev pub Idle : Verdict → Type 0
Idle v = (v.remembered ≡ false) × (v.ends ≡ false) × (v.news ≡ N.Quiet ⊎ ((v.news ≡ N.Lost) × (v.reply ≡ R.Nothing)))

some-found : (v : Option Heard) → is_some v ≡ true → (h : Heard) × (v ≡ Some h)
some-found None e = absurd (false≢true e)
some-found (Some h) e = (h, refl)

pub repeat-idle : (t : ℕ) (s : LinkState) (m : Content) (k : MsgType) → (is_such k && is_some (find (is_repeat t m.mid) s.heard)) ≡ true → Idle (verdict_by t s m k)
repeat-idle t s m Con e = let h = some-found (find (is_repeat t m.mid) s.heard) e in rw (h.1) (refl, refl, inl refl)
repeat-idle t s m Non e = let h = some-found (find (is_repeat t m.mid) s.heard) e in rw (h.1) (refl, refl, inl refl)
repeat-idle t s m Ack e = absurd (false≢true e)
repeat-idle t s m Rst e = absurd (false≢true e)
