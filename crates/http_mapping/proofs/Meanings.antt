-- Bytes that show a response, or tell a fault, mean what a request came to.
use Rattle.std.proofs.Common.{◌≡◌, ℕ, List, codes, Result, Ok, Err, Some, IfOk, subst, inl, inr}
use Rattle.std.specs.declared.alloc.Global.{Global}
use Rattle.std.specs.declared.vec.Vec.{Vec}
use Rattle.ask_model.specs.declared.cause.Cause.{Cause}
use Rattle.ask_model.specs.declared.cause.Cause.TheVariants.{NotUnderstood}
use Rattle.journal_book.specs.Entries.{Fault}
use Rattle.ask_model.specs.Views.{Mapping}
use Rattle.media_map.specs.declared.form.Form.{Form}
use Rattle.media_map.specs.declared.form.Form.TheVariants.{Format, Media}
use Rattle.history_laws.specs.Responses.{Response}
use Rattle.reply_reading.specs.Findings.{Found, Tells as TellsOf, Fails}
use Rattle.http_mapping.specs.Means.{FailsTo, IsRouted, last_reply, only, content_type}
use Rattle.http_mapping.specs.Writes.{Writes, WritesWhole, WritesShown, WritesOwn}

module _ (routes : List (Form × Form)) (holds : Form → Form → List ℕ → List ℕ → Type 0) (takes : Form → Form → List ℕ → Type 0) {E : Type 0} where
  pub whole_writes : (m : Mapping) (f : Found) (age : ℕ) (w : Response) (n : ℕ) (r : Result (Vec ℕ Global) E)
      → f.told ≡ TellsOf w → n ≡ last_reply f.grounds → IfOk r (λ bytes. WritesWhole routes holds takes m w n age bytes.items)
      → IfOk r (λ bytes. Writes routes holds takes m f age bytes.items)
  whole_writes m f age w n (Ok v) told last t =
      let s = subst (λ (k : ℕ). WritesWhole routes holds takes m w k age v.items) last t in
      record { answer = s.answer; means = rw told s.means; text = s.text }
  whole_writes m f age w n (Err e) told last t = tt

  pub fault_writes : (m : Mapping) (f : Found) (age : ℕ) (cause : Cause) (n : ℕ) (r : Result (Vec ℕ Global) E)
      → f.told ≡ Fails cause → f.grounds ≡ Fault cause n → IfOk r (λ bytes. WritesOwn m cause n bytes.items)
      → IfOk r (λ bytes. Writes routes holds takes m f age bytes.items)
  fault_writes m f age cause n (Ok v) told grounds t = record { answer = t.answer; means = rw (told, grounds) t.tells; text = t.text }
  fault_writes m f age cause n (Err e) told grounds t = tt

  pub same_writes : (m : Mapping) (w : Response) (body : List ℕ) (last age : ℕ) (r : Result (Vec ℕ Global) E) → body ≡ w.body
      → ((format : ℕ) (media : List ℕ) → IsRouted routes m w format media → ⊥)
      → IfOk r (λ bytes. WritesShown m w (content_type w) body age bytes.items)
      → IfOk r (λ bytes. WritesWhole routes holds takes m w last age bytes.items)
  same_writes m w body last age (Ok v) same none t =
      let s = subst (λ (b : List ℕ). WritesShown m w (content_type w) b age v.items) same t in
      record { answer = s.answer; means = inl (none, s.shows); text = s.text }
  same_writes m w body last age (Err e) same none t = tt

  pub other_writes : (m : Mapping) (w : Response) (media body other : List ℕ) (last age : ℕ) (r : Result (Vec ℕ Global) E) → body ≡ other
      → (format : ℕ) × IsRouted routes m w format media × holds (Format format) (Media media) w.body other
      → IfOk r (λ bytes. WritesShown m w (only (codes "Content-Type") media) body age bytes.items)
      → IfOk r (λ bytes. WritesWhole routes holds takes m w last age bytes.items)
  other_writes m w media body other last age (Ok v) same h t =
      let s = subst (λ (b : List ℕ). WritesShown m w (only (codes "Content-Type") media) b age v.items) same t in
      record { answer = s.answer; means = inr (h.0, media, h.1, inl (other, h.2, s.shows)); text = s.text }
  other_writes m w media body other last age (Err e) same h t = tt

  pub failed_writes : (m : Mapping) (w : Response) (last age : ℕ) (r : Result (Vec ℕ Global) E)
      → (format : ℕ) × (media : List ℕ) × IsRouted routes m w format media × FailsTo holds takes (Format format) (Media media) w.body
      → IfOk r (λ bytes. WritesOwn m NotUnderstood last bytes.items)
      → IfOk r (λ bytes. WritesWhole routes holds takes m w last age bytes.items)
  failed_writes m w last age (Ok v) h t = record { answer = t.answer; means = inr (h.0, h.1, h.2, inr (h.3, t.tells)); text = t.text }
  failed_writes m w last age (Err e) h t = tt
