-- What a message makes the device give out was made by it.
use Rattle.std.proofs.Common.{◌≡◌, ◌⊎◌, inl, inr, ℕ, ◌/◌, List, [], length, slice_get, Option, Some, None, Bool, true, false, refl, sym, ap, subst}
use Rattle.std.specs.List.{AllByRecursion}
use Rattle.uri_map.specs.declared.peer.Peer.{Peer}
use Rattle.coap_codec.specs.Spelling.{Content, Entry, Spells}
use Rattle.coap_codec.specs.Values.{values}
use Rattle.coap_codec.specs.declared.block.Block.{Block}
use Rattle.demo_origin.specs.Values.{Device, Relation}
use Rattle.demo_origin.specs.Peers.{own_mid}
use Rattle.demo_origin.specs.Answers.{answer_to, noted, shown_part, Answers, AnswersGet, Declines, Reads, ReadsBy, ReadsPart, Shows, Validates}
use Rattle.demo_origin.specs.Blocks.{named_by, part_of}
use Rattle.demo_origin.specs.Hearing.{stated, is_change, with_resource, asker, piece_after, Comes, Executes, TakesPiece, Asks, Processes}
use Rattle.demo_origin.specs.Made.{Says, as_part}
use Rattle.demo_origin.specs.Observing.{wish_of, is_granted, enlisted, left_by as left_over}
use Rattle.demo_origin.specs.Pieces.{holding, GivesUp}
use Rattle.demo_origin.specs.Requests.{IsAt, asked}
use Rattle.demo_origin.specs.Tags.{is_valid}
use Rattle.demo_origin.specs.Uploads.{upload_of, body_at, before_piece, with_piece, with_body, without as dropped}
use Rattle.demo_origin.specs.declared.execution.Taken.{Taken}
use Rattle.demo_origin.specs.declared.request.Method.{Method}
use Rattle.demo_origin.specs.declared.observers.Wish.{Wish}
use Rattle.demo_origin.specs.declared.state.Datagram.{Datagram}
use Rattle.demo_origin.specs.declared.state.Held.{Held}
use Rattle.demo_origin.specs.declared.state.Observer.{Observer}
use Rattle.demo_origin.specs.declared.judge.Judged.{Judged}
use Rattle.demo_origin.specs.declared.judge.Judged.TheVariants.{Dropped, Refused, NotAcceptable, Read, Asked}
use Rattle.demo_origin.specs.declared.blocks.Part.{Part}
use Rattle.demo_origin.specs.declared.blocks.Part.TheVariants.{Whole, Piece, Past}
use Rattle.demo_origin.specs.declared.uploads.Joined.{Joined}
use Rattle.demo_origin.specs.declared.uploads.Joined.TheVariants.{Gap, TooLarge, Next, Last}
use Rattle.demo_origin.proofs.Ending.{is_next}
use Rattle.demo_origin.proofs.Judging.{Gets, AsksFor, IsRight}
use Rattle.demo_origin.proofs.Talking.{Stems, stems_itself, Announced}
use Rattle.demo_origin.proofs.Tagging.{tag_among}
use Rattle.demo_origin.proofs.Keeping.{AllMade, same_made, notes, answers, enlists, leaves, settles}

module _ (R : Relation) (M : Datagram → Type 0) (t : ℕ) (p : Peer) (m : Content) (start : Device)
    (taken : Option Taken)
    (responds : (own code : ℕ) (options : List Entry) (payload bytes : List ℕ)
    → Spells (answer_to (asker t p m) own code options payload) bytes
    → Says R start m taken code options payload → M (record { peer = p; bytes = bytes })) where
  refuses : (code : ℕ) (old new : Device) → (code / 32 ≡ 4) ⊎ (code / 32 ≡ 5)
      → Answers (asker t p m) code [] [] old new → AllMade M old → AllMade M new
  refuses code old new class a g =
      answers M (asker t p m) code [] [] old new a
      (responds (own_mid p old.clients) code [] [] a.bytes a.spelled
      (inr (inr (inr (inr (record { class = class; options_are = refl; empty = refl }))))))
      g

  declines : (i : ℕ) (wish : Wish) (code : ℕ) (old new : Device)
      → (code / 32 ≡ 4) ⊎ (code / 32 ≡ 5)
      → Declines (asker t p m) i wish code old new → AllMade M old → AllMade M new
  declines i wish code old new class d g =
      let mid = refuses code old d.middle class d.answers g in
      same_made M (record d.middle { observers = left_over wish p i m.token d.middle.observers })
      new d.is
      (record {
        out = mid.out;
        kept = mid.kept;
        told = leaves M wish p i m.token d.middle.observers mid.told;
      })

  gets : (i : ℕ) (wish : Wish) (version code : ℕ) (describes_as : Bool → List Entry → Type 0)
      (payload : List ℕ) (new : Device)
      → (s : AnswersGet (asker t p m) i wish version code describes_as payload start new)
      → Says R start m taken code s.options payload → AllMade M start → AllMade M new
  gets i wish version code describes_as payload new s says g =
      let mid = answers M (asker t p m) code s.options payload start s.middle s.answers
      (responds (own_mid p start.clients) code s.options payload s.answers.bytes
      s.answers.spelled says)
      g in
      same_made M
      (record s.middle { observers = enlisted wish p i m.token version s.middle.observers })
      new s.is
      (record {
        out = mid.out;
        kept = mid.kept;
        told = enlists M wish p i m.token version s.middle.observers mid.told;
      })

  -- what is asked for of a state
  abbrev asked_part : Held → Part
  asked_part held = part_of (named_by (values 23 m.options)) start.block (length held.state)

  shows : (i : ℕ) (wish : Wish) (held : Held) (b : Option Block) (new : Device)
      → m.code ≡ 1 → IsAt (values 11 m.options) start.resources i held
      → asked_part held ≡ as_part b
      → Shows (asker t p m) i wish held b start new → AllMade M start → AllMade M new
  shows i wish held b new get at chosen s g =
      gets i wish held.version 69 _ (shown_part b held.state) new s
      (inl (record {
        get = get;
        content = refl;
        place = i;
        held = held;
        stands = at;
        observed = is_granted wish p i m.token start.observers;
        part = b;
        chosen = chosen;
        describes = s.describes;
        shown = refl;
      }))
      g

  validates : (i : ℕ) (wish : Wish) (named : Option Block) (held : Held) (new : Device)
      → m.code ≡ 1 → IsAt (values 11 m.options) start.resources i held
      → is_valid (values 4 m.options) named held.version ≡ true
      → Validates (asker t p m) i wish held start new → AllMade M start → AllMade M new
  validates i wish named held new get at valid s g =
      gets i wish held.version 67 _ [] new s
      (inr (inl (record {
        get = get;
        valid = refl;
        place = i;
        held = held;
        stands = at;
        named = tag_among (values 4 m.options) named held.version valid;
        observed = is_granted wish p i m.token start.observers;
        renews = s.describes;
        empty = refl;
      })))
      g

  parts : (i : ℕ) (wish : Wish) (held : Held) (part : Part) (new : Device)
      → m.code ≡ 1 → IsAt (values 11 m.options) start.resources i held
      → asked_part held ≡ part
      → ReadsPart (asker t p m) i wish held part start new → AllMade M start → AllMade M new
  parts i wish held Whole new get at e h g = shows i wish held None new get at e h g
  parts i wish held (Piece b) new get at e h g = shows i wish held (Some b) new get at e h g
  parts i wish held Past new get at e h g =
      declines i wish 128 start new (inl refl) h g

  abbrev named_piece : Option Block
  named_piece = named_by (values 23 m.options)

  by_tag : (b : Bool) (i : ℕ) (wish : Wish) (held : Held) (new : Device)
      → is_valid (values 4 m.options) named_piece held.version ≡ b → m.code ≡ 1
      → IsAt (values 11 m.options) start.resources i held
      → ReadsBy b (asker t p m) i wish named_piece held start new → AllMade M start → AllMade M new
  by_tag true i wish held new valid get at h g =
      validates i wish named_piece held new get at valid h g
  by_tag false i wish held new valid get at h g =
      parts i wish held (asked_part held) new get at refl h g

  reads : (i : ℕ) (wish : Wish) (o : Option Held) (new : Device)
      → slice_get start.resources i ≡ o → Gets m start.resources i
      → Reads (asker t p m) i wish (values 4 m.options) named_piece o start new
      → AllMade M start → AllMade M new
  reads i wish None new at gets h g = absurd h
  reads i wish (Some held) new at gets h g =
      by_tag (is_valid (values 4 m.options) named_piece held.version) i wish held new refl gets.get
      (record { first = gets.stands.first; stands = at }) h g

  executes : (body : List ℕ) (i : ℕ) (method : Method) (new : Device) (done : Taken)
      → taken ≡ Some done → AsksFor m start.resources i method
      → Executes R (asker t p m) (with_body body m) i method start new done
      → Announced M start.observers new.resources new.block → AllMade M start → AllMade M new
  executes body i method new done is right h a g =
      let x = h.changes in
      let changed = with_resource i
      (stated h.held (is_change h.held.state h.after h.reply) h.after) start in
      let after : done.after ≡ h.after = ap (λ (d : Taken). d.after) x.told in
      let C : List ℕ → Type 0 = λ xs.
      Comes R h.held.state
      (asked method (with_body body m)) xs h.reply in
      let says : Says R start m taken h.reply.code [] h.reply.payload = inr (inr (inl (record {
        done = done;
        executed = is;
        place = i;
        held = h.held;
        stands = record { first = right.stands.first; stands = h.there };
        method = method;
        method_is = right.code;
        body = body;
        reply = h.reply;
        comes = subst C (sym after) h.comes;
        code_is = refl;
        options_are = refl;
        shown = refl;
      }))) in
      let mid = answers M (asker t p m) h.reply.code [] h.reply.payload changed x.middle x.answers
      (responds (own_mid p start.clients) h.reply.code [] h.reply.payload x.answers.bytes
      x.answers.spelled says)
      (record { out = g.out; kept = g.kept; told = g.told }) in
      let S : List Observer → Type 0 = λ os. AllByRecursion (Stems start.observers) os in
      let stems : S x.middle.observers =
      subst S (sym (ap (λ (d : Device). d.observers) x.answers.is))
      (stems_itself start.observers) in
      settles M start.observers t x.middle new x.settles a stems mid

  gives_up : (i code : ℕ) (new : Device) → (code / 32 ≡ 4) ⊎ (code / 32 ≡ 5)
      → GivesUp (asker t p m) i code start new → AllMade M start → AllMade M new
  gives_up i code new class h g =
      let mid = refuses code start h.middle class h.answers g in
      same_made M (dropped p i h.middle) new h.is
      (record { out = mid.out; kept = mid.kept; told = mid.told })

  pieces : (i : ℕ) (method : Method) (b : Block) (j : Joined) (new : Device)
      → named_by (values 27 m.options) ≡ Some b → piece_after p i b m start ≡ j
      → AsksFor m start.resources i method
      → TakesPiece R (asker t p m) m i method b j start new taken
      → Announced M start.observers new.resources new.block → AllMade M start → AllMade M new
  pieces i method b Gap new named e right h a g = gives_up i 136 new (inl refl) h.0 g
  pieces i method b TooLarge new named e right h a g = gives_up i 141 new (inl refl) h.0 g
  pieces i method b Next new named e right h a g =
      let k = h.0 in
      let says : Says R start m taken 95 k.options [] = inr (inr (inr (inl (record {
        continue = refl;
        piece = b;
        named = named;
        more = is_next b
            (length (before_piece b (body_at (upload_of p i start.uploads) start.uploads)))
            (length m.payload) e;
        asks = k.asks;
        empty = refl;
      })))) in
      answers M (asker t p m) 95 k.options [] (holding (asker t p m) i b m.payload start) new
      k.answers
      (responds (own_mid p start.clients) 95 k.options [] k.answers.bytes k.answers.spelled says)
      (record { out = g.out; kept = g.kept; told = g.told })
  pieces i method b Last new named e right h a g =
      let x = h.2 in
      let body = with_piece p i b m.payload start in
      let D : List Held → Type 0 = λ rs. Announced M start.observers rs new.block in
      let B : ℕ → Type 0 = λ n. Announced M start.observers x.0.resources n in
      let made : Announced M start.observers x.0.resources x.0.block =
      subst B (ap (λ (d : Device). d.block) x.2)
      (subst D (ap (λ (d : Device). d.resources) x.2) a) in
      let mid = executes body i method x.0 h.0 h.1 right x.1 made g in
      same_made M (dropped p i x.0) new x.2
      (record { out = mid.out; kept = mid.kept; told = mid.told })

  asks : (i : ℕ) (method : Method) (named : Option Block) (new : Device)
      → named_by (values 27 m.options) ≡ named → AsksFor m start.resources i method
      → Asks R (asker t p m) m i method named start new taken
      → Announced M start.observers new.resources new.block → AllMade M start → AllMade M new
  asks i method None new e right h a g =
      executes m.payload i method new h.0 h.1 right h.2 a g
  asks i method (Some b) new e right h a g =
      pieces i method b (piece_after p i b m start) new e refl right h a g

  pub processes : (j : Judged) (new : Device) → IsRight m start.resources j
      → Processes R (asker t p m) m j start new taken
      → Announced M start.observers new.resources new.block → AllMade M start → AllMade M new
  processes Dropped new right h a g =
      same_made M (noted (asker t p m) None start) new h.0
      (notes M (asker t p m) None start tt g)
  processes (Refused code) new right h a g = refuses code start new right h.0 g
  processes (NotAcceptable i) new right h a g =
      declines i (wish_of (values 6 m.options)) 134 start new (inl refl) h.0 g
  processes (Read i) new right h a g =
      reads i (wish_of (values 6 m.options)) (slice_get start.resources i) new refl right h.0 g
  processes (Asked i method) new right h a g =
      asks i method (named_by (values 27 m.options)) new refl right h a g
