-- What a datagram does to the resources: nothing, or it executes a request, of one of them.
use Rattle.std.proofs.Common.{◌≡◌, ◌⊎◌, inl, inr, ℕ, List, length, slice_get, Option, Some, None, Result, Ok, Err, Bool, true, false, nat_lt, refl, sym, ap, subst, ◌∙◌}
use Rattle.uri_map.specs.declared.peer.Peer.{Peer}
use Rattle.coap_codec.specs.Spelling.{Content}
use Rattle.coap_codec.specs.Reading.{message_at}
use Rattle.coap_codec.specs.Values.{values}
use Rattle.coap_codec.specs.declared.block.Block.{Block}
use Rattle.coap_codec.specs.declared.fault.CodecFault.{CodecFault}
use Rattle.message_layer.specs.Hearing.{reset_for}
use Rattle.demo_origin.specs.Values.{Device, Relation}
use Rattle.demo_origin.specs.Answers.{Reads, ReadsBy, ReadsPart}
use Rattle.demo_origin.specs.Arrivals.{arrival}
use Rattle.demo_origin.specs.Blocks.{named_by, part_of}
use Rattle.demo_origin.specs.Requests.{judged}
use Rattle.demo_origin.specs.Tags.{is_valid}
use Rattle.demo_origin.specs.Observing.{wish_of}
use Rattle.demo_origin.specs.Hearing.{asker, piece_after, undecoded, Executes, TakesPiece, Asks, Processes, Takes, HearsRead, HearsBy, Hears}
use Rattle.demo_origin.specs.LastPiece.{IsLast, LastPieceExecutes}
use Rattle.demo_origin.specs.Uploads.{upload_of, body_at, before_piece, with_piece, with_body}
use Rattle.demo_origin.specs.declared.answer.Asker.{Asker}
use Rattle.demo_origin.specs.declared.blocks.Part.{Part}
use Rattle.demo_origin.specs.declared.blocks.Part.TheVariants.{Whole, Piece, Past}
use Rattle.demo_origin.specs.declared.execution.Taken.{Taken}
use Rattle.demo_origin.specs.declared.observers.Wish.{Wish}
use Rattle.demo_origin.specs.declared.state.Held.{Held}
use Rattle.demo_origin.specs.declared.request.Method.{Method}
use Rattle.demo_origin.specs.declared.arrival.Arrival.{Arrival}
use Rattle.demo_origin.specs.declared.arrival.Arrival.TheVariants.{Ignored, Empty, Rejected, Repeated, Fresh, Acknowledged, Reset}
use Rattle.demo_origin.specs.declared.judge.Judged.{Judged}
use Rattle.demo_origin.specs.declared.judge.Judged.TheVariants.{Dropped, Refused, NotAcceptable, Read, Asked}
use Rattle.demo_origin.specs.declared.uploads.Joined.{Joined}
use Rattle.demo_origin.specs.declared.uploads.Joined.TheVariants.{Gap, TooLarge, Next, Last}
use Rattle.demo_origin.proofs.Judging.{AsksFor, IsRight, judged_right}
use Rattle.demo_origin.proofs.Ending.{is_last}

-- ---- what leaves them as they are

parts : (to : Asker) (i : ℕ) (wish : Wish) (held : Held) (part : Part) (old new : Device)
    → ReadsPart to i wish held part old new → new.resources ≡ old.resources
parts to i wish held Whole old new h =
    ap (λ (d : Device). d.resources) h.is ∙ ap (λ (d : Device). d.resources) h.answers.is
parts to i wish held (Piece b) old new h =
    ap (λ (d : Device). d.resources) h.is ∙ ap (λ (d : Device). d.resources) h.answers.is
parts to i wish held Past old new h =
    ap (λ (d : Device). d.resources) h.is ∙ ap (λ (d : Device). d.resources) h.answers.is

by_tag : (b : Bool) (to : Asker) (i : ℕ) (wish : Wish) (named : Option Block) (held : Held)
    (old new : Device) → ReadsBy b to i wish named held old new → new.resources ≡ old.resources
by_tag true to i wish named held old new h =
    ap (λ (d : Device). d.resources) h.is ∙ ap (λ (d : Device). d.resources) h.answers.is
by_tag false to i wish named held old new h =
    parts to i wish held (part_of named old.block (length held.state)) old new h

reads : (to : Asker) (i : ℕ) (wish : Wish) (tags : List (List ℕ)) (named : Option Block)
    (o : Option Held) (old new : Device) → Reads to i wish tags named o old new
    → new.resources ≡ old.resources
reads to i wish tags named None old new h = absurd h
reads to i wish tags named (Some held) old new h =
    by_tag (is_valid tags named held.version) to i wish named held old new h

resets : (p : Peer) (o : Option ℕ) (old new : Device)
    → new ≡ undecoded p o old → new.resources ≡ old.resources
resets p None old new e = ap (λ (d : Device). d.resources) e
resets p (Some mid) old new e = ap (λ (d : Device). d.resources) e

-- ---- what executes

pub record Did (R : Relation) (t : ℕ) (p : Peer) (datagram : List ℕ) (old new : Device)
    (taken : Option Taken) : Type 0 where
  pub done : Taken
  pub is : taken ≡ Some done
  pub message : Content
  pub spells : message_at datagram ≡ Ok message
  pub place : ℕ
  pub method : Method
  pub right : AsksFor message old.resources place method
  pub body : List ℕ
  pub middle : Device
  pub executes :
      Executes R (asker t p message) (with_body body message) place method old middle done
  pub left : new.resources ≡ middle.resources
  pub last : IsLast (named_by (values 27 message.options))

abbrev pub Acts : Relation → ℕ → Peer → List ℕ → Device → Device → Option Taken → Type 0
Acts R t p d old new taken =
    ((taken ≡ None) × (new.resources ≡ old.resources)) ⊎ Did R t p d old new taken

module _ (R : Relation) (t : ℕ) (p : Peer) (d : List ℕ) (old : Device) where
  module _ (m : Content) (e : message_at d ≡ Ok m) where
    executed : (body : List ℕ) (i : ℕ) (method : Method) (new middle : Device)
        (taken : Option Taken) (done : Taken)
        → taken ≡ Some done → AsksFor m old.resources i method
        → Executes R (asker t p m) (with_body body m) i method old middle done
        → new.resources ≡ middle.resources → IsLast (named_by (values 27 m.options))
        → Acts R t p d old new taken
    executed body i method new middle taken done is right h left last = inr (record {
      done = done;
      is = is;
      message = m;
      spells = e;
      place = i;
      method = method;
      right = right;
      body = body;
      middle = middle;
      executes = h;
      left = left;
      last = last;
    })

    pieces : (i : ℕ) (method : Method) (b : Block) (j : Joined) (new : Device)
        (taken : Option Taken) → named_by (values 27 m.options) ≡ Some b
        → piece_after p i b m old ≡ j → AsksFor m old.resources i method
        → TakesPiece R (asker t p m) m i method b j old new taken → Acts R t p d old new taken
    pieces i method b Gap new taken named of right h =
        inl (
          h.1,
          ap (λ (x : Device). x.resources) h.0.is
              ∙ ap (λ (x : Device). x.resources) h.0.answers.is,
        )
    pieces i method b TooLarge new taken named of right h =
        inl (
          h.1,
          ap (λ (x : Device). x.resources) h.0.is
              ∙ ap (λ (x : Device). x.resources) h.0.answers.is,
        )
    pieces i method b Next new taken named of right h =
        inl (h.1, ap (λ (x : Device). x.resources) h.0.answers.is)
    pieces i method b Last new taken named of right h =
        let x = h.2 in
        executed (with_piece p i b m.payload old) i method new x.0 taken h.0 h.1 right x.1
        (ap (λ (y : Device). y.resources) x.2)
        (subst IsLast (sym named)
        (is_last b (length (before_piece b (body_at (upload_of p i old.uploads) old.uploads)))
        (length m.payload) of))

    asks : (i : ℕ) (method : Method) (named : Option Block) (new : Device)
        (taken : Option Taken) → named_by (values 27 m.options) ≡ named
        → AsksFor m old.resources i method
        → Asks R (asker t p m) m i method named old new taken → Acts R t p d old new taken
    asks i method None new taken named right h =
        executed m.payload i method new new taken h.0 h.1 right h.2 refl
        (subst IsLast (sym named) tt)
    asks i method (Some b) new taken named right h =
        pieces i method b (piece_after p i b m old) new taken named refl right h

    processes : (j : Judged) (new : Device) (taken : Option Taken) → IsRight m old.resources j
        → Processes R (asker t p m) m j old new taken → Acts R t p d old new taken
    processes Dropped new taken right h = inl (h.1, ap (λ (x : Device). x.resources) h.0)
    processes (Refused code) new taken right h =
        inl (h.1, ap (λ (x : Device). x.resources) h.0.is)
    processes (NotAcceptable i) new taken right h =
        inl (
          h.1,
          ap (λ (x : Device). x.resources) h.0.is
              ∙ ap (λ (x : Device). x.resources) h.0.answers.is,
        )
    processes (Read i) new taken right h =
        inl (
          h.1,
          reads (asker t p m) i (wish_of (values 6 m.options)) (values 4 m.options)
              (named_by (values 23 m.options)) (slice_get old.resources i) old new h.0,
        )
    processes (Asked i method) new taken right h =
        asks i method (named_by (values 27 m.options)) new taken refl right h

    arrives : (a : Arrival) (new : Device) (taken : Option Taken)
        → Takes R t p m a old new taken → Acts R t p d old new taken
    arrives Ignored new taken h = inl (h.1, ap (λ (x : Device). x.resources) h.0)
    arrives Empty new taken h = inl (h.1, ap (λ (x : Device). x.resources) h.0)
    arrives Rejected new taken h = inl (h.1, ap (λ (x : Device). x.resources) h.0)
    arrives (Repeated answer) new taken h = inl (h.1, ap (λ (x : Device). x.resources) h.0)
    arrives Acknowledged new taken h = inl (h.1, ap (λ (x : Device). x.resources) h.0.is)
    arrives Reset new taken h = inl (h.1, ap (λ (x : Device). x.resources) h.0.is)
    arrives Fresh new taken h =
        processes (judged m old.resources) new taken (judged_right m old.resources) h

  by_read : (r : Result Content CodecFault) (new : Device) (taken : Option Taken)
      → message_at d ≡ r → HearsRead R t p d r old new taken → Acts R t p d old new taken
  by_read (Ok m) new taken e h = arrives m e (arrival t p m old) new taken h
  by_read (Err f) new taken e h = inl (h.1, resets p (reset_for d) old new h.0)

  by_length : (b : Bool) (new : Device) (taken : Option Taken)
      → HearsBy b R t p d old new taken → Acts R t p d old new taken
  by_length true new taken h = inl (h.1, ap (λ (x : Device). x.resources) h.0)
  by_length false new taken h = by_read (message_at d) new taken refl h

  pub acts : (new : Device) (taken : Option Taken) → Hears R t p d old new taken
      → Acts R t p d old new taken
  acts new taken h = by_length (nat_lt 2048 (length d)) new taken h

-- ---- only the last piece executes

pub nothing : {X : Type 0} (taken : Taken) → Some taken ≡ None → X
nothing taken e = absurd cc

pub last_piece_executes : (R : Relation) → LastPieceExecutes R
last_piece_executes R t p d old new taken h =
    elim (acts R t p d old new (Some taken) h) [
      | inl none ↦ nothing taken none.0
      | inr did ↦ record { message = did.message; reads = did.spells; last = did.last }
    ]
