-- What the copies are with which a journal begins: of which journal is their reply, and of which the ask.
use Rattle.std.proofs.Common.{◌≡◌, ◌⊎◌, inl, inr, ℕ, ◌<◌, false, List, ◌∷◌, Option, Some, None, refl, sym, ap, subst, ◌∙◌, arith}
use Rattle.std.specs.Prelude.{slice_get, option_and_then}
use Rattle.std.specs.List.{Contains}
use Rattle.coap_codec.specs.Spelling.{Content, Spells}
use Rattle.coap_codec.specs.declared.block.Block.{Block}
use Rattle.coap_codec.proofs.Unique.{spells_one}
use Rattle.uri_map.specs.declared.peer.Peer.{Peer}
use Rattle.cache_key.specs.declared.place.Place.{Place}
use Rattle.ask_model.specs.Requests.{Came, CoapRequest, Requests, Manner, Plainly, Observing, Validating, asking}
use Rattle.ask_model.specs.Sharing.{asked_place}
use Rattle.ask_model.specs.Views.{Ask, Rules}
use Rattle.ask_model.proofs.CallerLemmas.{same-place}
use Rattle.journal_book.specs.Entries.{Mark, Ground, Done, Asked, Sent, Heard, done_of, Deed, Asks, Sends, Hears, Carries, Written}
use Rattle.history_laws.specs.Readings.{Noted, Note, First, Recalls, Says, noted, at, before, carries, entries}
use Rattle.history_laws.specs.Progress.{Reply}
use Rattle.history_laws.specs.Exchanges.{Begun, ask_behind}
use Rattle.history_laws.specs.Joining.{outrun}
use Rattle.history_laws.specs.Carrying.{carried}
use Rattle.history_laws.specs.Storing.{IsAsHeard}
use Rattle.history_laws.proofs.CallerLemmas.{ask-behind, behind-unoutrun, carried-at, carried-fit, comes-fit, number-of, shared-is, some-is}
use Rattle.history_claims.specs.Headline.{IsEntry, IsFirstSending, IsHeard}
use Rattle.history_claims.specs.Carried.{IsAskCopied}
use Rattle.exchange_model.specs.Backing.{done_at}
use Rattle.exchange_model.specs.Keeping.{Kept}
use Rattle.exchange_model.specs.Reads.{Reads}
use Rattle.exchange_model.specs.Rotating.{Backed, carried_numbers, copied_entries, has, seen, taken}
use Rattle.exchange_model.specs.State.{State}
use Rattle.story_laws.proofs.Posting.{noted-at}
use Rattle.three_parties.proofs.Copies.{IsCopyOf, copied, in-order}
use Rattle.three_parties.proofs.Listed.{IsListed, listed-at, listed-so, token-once}
use Rattle.three_parties.proofs.Grounds.{IsTaken, as-heard, asked-done, asked-ground, entry-in, heard-done, heard-ground, sent-done}

requests-same : (q r : CoapRequest) → Requests q ≡ Requests r → q ≡ r
requests-same q r e = cc

asking-token : (f : Manner) (q : CoapRequest) (b : Option Block) (mid : ℕ) (token : List ℕ) → (asking f q b mid token).token ≡ token
asking-token f q (Some b) mid token = refl
asking-token Plainly q None mid token = refl
asking-token Observing q None mid token = refl
asking-token (Validating etag) q None mid token = refl

-- the journal begins with copies of a message, and of what was heard under its token
pub record IsReplyCopied (h : List Written) (i j : ℕ) (p : Peer) (sent m : Content) : Type 0 where
  pub sent_at : ℕ
  pub sent_as : ℕ
  pub text : List ℕ
  pub timeout : ℕ
  pub first : IsEntry h i sent_at (Carries sent_as Ground (Sent p text (Some timeout)))
  pub sent_spelled : Spells sent text
  pub heard_at : ℕ
  pub heard_as : ℕ
  pub bytes : List ℕ
  pub heard : IsEntry h j heard_at (Carries heard_as Ground (Heard p bytes))
  pub spelled : Spells m bytes
  pub token : m.token ≡ sent.token
  pub after : i < j

-- what was asked
abbrev asking_so : Came → CoapRequest → Rules → Ask
asking_so came q rules = record { came = came; sense = Requests q; rules = rules }

module _ (t : ℕ) (S : State) (kept : Kept S) where
  abbrev l : List Noted
  l = kept.reading

  abbrev reads : Reads l S
  reads = kept.rests.reads

  abbrev gs : List ℕ
  gs = carried_numbers (taken t S)

  -- what an entry copies
  abbrev IsOf : ℕ → ℕ → Mark → Done → Type 0
  IsOf s k mark done = IsCopyOf gs 0 S.entries s k mark done

  copy-in : (i s k : ℕ) (mark : Mark) (done : Done) → IsEntry (copied_entries t S) i s (Carries k mark done) → IsOf s k mark done
  copy-in i s k mark done e = copied t (seen S.entries) gs 0 S.entries i s k mark done e

  at-number : (s k : ℕ) (mark : Mark) (done : Done) (c : IsOf s k mark done) → slice_get S.entries k ≡ Some c.written
  at-number s k mark done c =
      let is = c.is in
      let same : c.number ≡ k = omega (arith, is) in
      subst (λ (n : ℕ). slice_get S.entries n ≡ Some c.written) same c.stands

  done-number : (s k : ℕ) (mark : Mark) (done : Done) (c : IsOf s k mark done) → done_at S.entries k ≡ Some done
  done-number s k mark done c = ap (option_and_then (λ (w : Written). done_of w.deed)) (at-number s k mark done c) ∙ c.says

  -- the entry with this number, as the reading has it, has what the copy has
  same-done : (s k : ℕ) (mark : Mark) (done : Done) (c : IsOf s k mark done) (x : Noted) → at l k ≡ Some x
      → (x.written ≡ c.written) × (done_of x.written.deed ≡ Some done)
  same-done s k mark done c x e =
      let same : x.written ≡ c.written = some-is _ _ (sym (entry-in t S kept k x e) ∙ at-number s k mark done c) in
      (same, ap (λ (w : Written). done_of w.deed) same ∙ c.says)

  -- it was first sent in the journal, or is a copy there too
  sent-listed : (s k : ℕ) (p : Peer) (text : List ℕ) (wait : ℕ) (m : Content) → IsOf s k Ground (Sent p text (Some wait)) → Spells m text → IsListed l k m
  sent-listed s k p text wait m c spelled =
      let x = noted-at l S.entries k c.written.moment c.written.deed reads.entries_are (at-number s k Ground (Sent p text (Some wait)) c) in
      listed-so l k c.written.moment c.written.deed x.note p text wait m reads.legal x.stands c.says spelled

  -- own entries
  as-sent : (k s u : ℕ) (p q : Peer) (text b : List ℕ) (wait : ℕ) (v : Option ℕ) (note : Note) (m : Content) → (c : IsOf s k Ground (Sent p text (Some wait)))
      → Spells m text → at l k ≡ Some (noted u (Sends q b v) note) → IsFirstSending S.entries k s p m
  as-sent k s u p q text b wait v note m c spelled e =
      let it = same-done s k Ground (Sent p text (Some wait)) c _ e in
      let parts = sent-done q p b text v (Some wait) it.1 in
      let deed : Sends q b v ≡ Sends p text (Some wait) =
      ap (λ (q : Peer). Sends q b v) parts.0 ∙ (ap (λ (b : List ℕ). Sends p b v) parts.1 ∙ ap (λ (v : Option ℕ). Sends p text v) parts.2) in
      let moment : u ≡ s = ap (λ (w : Written). w.moment) it.0 ∙ c.moment in
      record {
        bytes = text;
        timeout = wait;
        stands = subst (λ (d : Deed). IsEntry S.entries k s d) deed (subst (λ (u : ℕ). IsEntry S.entries k u (Sends q b v)) moment (entry-in t S kept k _ e));
        spelled = spelled;
      }

  as-heard-in : (k s u : ℕ) (p q : Peer) (bytes b : List ℕ) (note : Note) (m : Content) → (c : IsOf s k Ground (Heard p bytes))
      → Spells m bytes → at l k ≡ Some (noted u (Hears q b) note) → IsHeard S.entries p k s m
  as-heard-in k s u p q bytes b note m c spelled e =
      let it = same-done s k Ground (Heard p bytes) c _ e in
      let parts = heard-done q p b bytes it.1 in
      let deed : Hears q b ≡ Hears p bytes = ap (λ (q : Peer). Hears q b) parts.0 ∙ ap (λ (b : List ℕ). Hears p b) parts.1 in
      let moment : u ≡ s = ap (λ (w : Written). w.moment) it.0 ∙ c.moment in
      record {
        bytes = bytes;
        stands = subst (λ (d : Deed). IsEntry S.entries k s d) deed (subst (λ (u : ℕ). IsEntry S.entries k u (Hears q b)) moment (entry-in t S kept k _ e));
        spelled = spelled;
      }

  -- The reply is one of the journal's own, with its message; or both are copies there too.
  abbrev IsReplyThere : (n k u v : ℕ) (p : Peer) (sent m : Content) → Type 0
  IsReplyThere n k u v p sent m =
      (IsFirstSending S.entries n u p sent × IsHeard S.entries p k v m) ⊎ ((c : IsReplyCopied S.entries n k p sent m) × (c.heard_at ≡ v))

  pub reply-there : (i j : ℕ) (p : Peer) (sent m : Content) → (c : IsReplyCopied (copied_entries t S) i j p sent m)
      → (c.sent_as < c.heard_as) × IsReplyThere c.sent_as c.heard_as c.sent_at c.heard_at p sent m
  reply-there i j p sent m c = (rises, by (as-heard t S kept it.0 it.1))
    where
      of_sent : IsOf c.sent_at c.sent_as Ground (Sent p c.text (Some c.timeout))
      of_sent = copy-in i c.sent_at c.sent_as Ground (Sent p c.text (Some c.timeout)) c.first

      of_heard : IsOf c.heard_at c.heard_as Ground (Heard p c.bytes)
      of_heard = copy-in j c.heard_at c.heard_as Ground (Heard p c.bytes) c.heard

      rises : c.sent_as < c.heard_as
      rises =
          in-order t (seen S.entries) gs 0 S.entries i j c.sent_at c.heard_at c.sent_as c.heard_as Ground Ground (Sent p c.text (Some c.timeout))
          (Heard p c.bytes) c.first c.heard c.after

      it : (b : Backed) × IsTaken t S l b × Contains b.pair.stored.list c.heard_as
      it = heard-ground t S kept c.heard_as p c.bytes (of_heard.marked refl) (done-number c.heard_at c.heard_as Ground (Heard p c.bytes) of_heard)

      listed : IsListed l c.sent_as sent
      listed = sent-listed c.sent_at c.sent_as p c.text c.timeout sent of_sent c.sent_spelled

      -- the reply that it is says what was copied
      same-message : (u : ℕ) (q : Peer) (b : List ℕ) (d : Deed) (note : Note) (n : Content) → done_of d ≡ Some (Heard q b)
          → at l c.heard_as ≡ Some (noted u d note) → Spells n b → (q ≡ p) × (b ≡ c.bytes) × (n ≡ m)
      same-message u q b d note n is e spelled =
          let done = same-done c.heard_at c.heard_as Ground (Heard p c.bytes) of_heard _ e in
          let parts = heard-done q p b c.bytes (sym is ∙ done.1) in
          (parts.0, parts.1, spells_one n m c.bytes (subst (Spells n) parts.1 spelled) c.spelled)

      by : IsAsHeard l it.1.pair.request it.0.pair.stored → IsReplyThere c.sent_as c.heard_as c.sent_at c.heard_at p sent m
      by (inl is) =
          let rs : List Reply = is.first ∷ is.more in
          let found = number-of rs c.heard_as (subst (λ (js : List ℕ). Contains js c.heard_as) is.list it.2) in
          let r : Reply = found.0 in
          let came = comes-fit l is.opening is.ending it.0.pair.stored.response rs r reads.legal is.comes found.1 in
          let o : ℕ = came.owner in
          let fits = came.fits in
          let heard : at l c.heard_as ≡ Some (noted fits.moment (Hears fits.peer fits.bytes) (Says r.message (Some r.sending) fits.notice)) =
          subst (λ (n : ℕ). at l n ≡ Some (noted fits.moment (Hears fits.peer fits.bytes) (Says r.message (Some r.sending) fits.notice))) found.2 fits.heard in
          let same = same-message fits.moment fits.peer fits.bytes (Hears fits.peer fits.bytes) _ r.message refl heard fits.spelled in
          let mine : IsListed l r.sending fits.sent = record {
            first = record { number = r.sending; moment = fits.sent_at; opening = o; peer = fits.peer; message = fits.sent };
            among = listed-at l r.sending (noted fits.sent_at (Sends fits.peer fits.first.bytes fits.first.timeout) (First o fits.sent)) _ fits.first.stands refl;
            number = refl;
            message = refl;
          } in
          let token : fits.sent.token ≡ sent.token = sym fits.token ∙ (ap (λ (m : Content). m.token) same.2 ∙ c.token) in
          let place : r.sending ≡ c.sent_as = token-once l r.sending c.sent_as fits.sent sent reads.legal mine listed token in
          let first : at l c.sent_as ≡ Some (noted fits.sent_at (Sends fits.peer fits.first.bytes fits.first.timeout) (First o fits.sent)) =
          subst (λ (n : ℕ). at l n ≡ Some (noted fits.sent_at (Sends fits.peer fits.first.bytes fits.first.timeout) (First o fits.sent))) place fits.first.stands in
          inl (
            as-sent c.sent_as c.sent_at fits.sent_at p fits.peer c.text fits.first.bytes c.timeout fits.first.timeout (First o fits.sent) sent of_sent
                c.sent_spelled first,
            as-heard-in c.heard_as c.heard_at fits.moment p fits.peer c.bytes fits.bytes _ m of_heard c.spelled heard,
          )
      by (inr is) =
          let b : Begun = is.carries.exchange in
          let q : CoapRequest = b.request in
          let rs : List Reply = is.first ∷ is.more in
          let found = number-of rs c.heard_as (subst (λ (js : List ℕ). Contains js c.heard_as) is.list it.2) in
          let r : Reply = found.0 in
          let fits = carried-fit l is.opening b r reads.legal is.carries.asked (subst (λ (rs : List Reply). Contains rs r) (sym is.carries.replies) found.1) in
          let message : Content = asking fits.manner q fits.block fits.mid r.message.token in
          let heard : at l c.heard_as ≡ Some (noted fits.moment (Carries fits.number Ground (Heard q.peer fits.bytes)) (Recalls r.message fits.answer)) =
          subst (λ (n : ℕ). at l n ≡ Some (noted fits.moment (Carries fits.number Ground (Heard q.peer fits.bytes)) (Recalls r.message fits.answer))) found.2 fits.heard in
          let same = same-message fits.moment q.peer fits.bytes (Carries fits.number Ground (Heard q.peer fits.bytes)) _ r.message refl heard fits.spelled in
          let mine : IsListed l r.sending message = record {
            first = record { number = r.sending; moment = fits.sent_at; opening = is.opening; peer = q.peer; message = message };
            among = listed-at l r.sending (noted fits.sent_at (Carries fits.old Ground (Sent q.peer fits.text fits.timeout)) (First is.opening message)) _ fits.sent refl;
            number = refl;
            message = refl;
          } in
          let token : message.token ≡ sent.token =
          asking-token fits.manner q fits.block fits.mid r.message.token ∙ (ap (λ (m : Content). m.token) same.2 ∙ c.token) in
          let place : r.sending ≡ c.sent_as = token-once l r.sending c.sent_as message sent reads.legal mine listed token in
          let first : at l c.sent_as ≡ Some (noted fits.sent_at (Carries fits.old Ground (Sent q.peer fits.text fits.timeout)) (First is.opening message)) =
          subst (λ (n : ℕ). at l n ≡ Some (noted fits.sent_at (Carries fits.old Ground (Sent q.peer fits.text fits.timeout)) (First is.opening message))) place fits.sent in
          let sends = same-done c.sent_at c.sent_as Ground (Sent p c.text (Some c.timeout)) of_sent _ first in
          let parts = sent-done q.peer p fits.text c.text fits.timeout (Some c.timeout) sends.1 in
          let hears = same-done c.heard_at c.heard_as Ground (Heard p c.bytes) of_heard _ heard in
          inr (
            record {
              sent_at = fits.sent_at;
              sent_as = fits.old;
              text = c.text;
              timeout = c.timeout;
              first = subst (λ (o : Option ℕ). IsEntry S.entries c.sent_as fits.sent_at (Carries fits.old Ground (Sent p c.text o))) parts.2
                  (subst (λ (b : List ℕ). IsEntry S.entries c.sent_as fits.sent_at (Carries fits.old Ground (Sent p b fits.timeout))) parts.1
                  (subst (λ (p : Peer). IsEntry S.entries c.sent_as fits.sent_at (Carries fits.old Ground (Sent p fits.text fits.timeout))) parts.0 (entry-in t S kept c.sent_as _ first)));
              sent_spelled = c.sent_spelled;
              heard_at = fits.moment;
              heard_as = fits.number;
              bytes = c.bytes;
              heard = subst (λ (b : List ℕ). IsEntry S.entries c.heard_as fits.moment (Carries fits.number Ground (Heard p b))) same.1
                  (subst (λ (p : Peer). IsEntry S.entries c.heard_as fits.moment (Carries fits.number Ground (Heard p fits.bytes))) same.0 (entry-in t S kept c.heard_as _ heard));
              spelled = c.spelled;
              token = c.token;
              after = rises;
            },
            ap (λ (w : Written). w.moment) hears.0 ∙ of_heard.moment,
          )

  -- the ask is one of the journal's own, or a copy there too; no write that ended outran it
  pub record WasAskedThere (n : ℕ) (q : CoapRequest) : Type 0 where
    pub current : outrun l (asked_place q) n ≡ false
    pub either : ((x : Written) × (slice_get S.entries n ≡ Some x) × (carries x.deed ≡ false))
        ⊎ (IsAskCopied S.entries n q × (b : Begun) × (carried l n ≡ Some b))

  pub ask-there : (o : ℕ) (q : CoapRequest) → (c : IsAskCopied (copied_entries t S) o q) → WasAskedThere c.number q
  ask-there o q c = by (as-heard t S kept it.0 it.1)
    where
      of_ask : IsOf c.moment c.number Ground (Asked c.conn (asking_so c.came q c.rules))
      of_ask = copy-in o c.moment c.number Ground (Asked c.conn (asking_so c.came q c.rules)) c.stands

      it : (b : Backed) × IsTaken t S l b × (b.pair.stored.opening ≡ c.number)
      it = asked-ground t S kept c.number c.conn _ (of_ask.marked refl) (done-number c.moment c.number Ground (Asked c.conn (asking_so c.came q c.rules)) of_ask)

      -- what was asked there
      same-ask : (u k : ℕ) (a : Ask) (d : Deed) (note : Note) (r : CoapRequest) → done_of d ≡ Some (Asked k a) → at l c.number ≡ Some (noted u d note)
          → a.sense ≡ Requests r → (r ≡ q) × (a ≡ asking_so c.came q c.rules)
      same-ask u k a d note r is e sense =
          let same = same-done c.moment c.number Ground (Asked c.conn (asking_so c.came q c.rules)) of_ask _ e in
          let parts = asked-done k c.conn a _ (sym is ∙ same.1) in
          (requests-same r q (sym sense ∙ ap (λ (a : Ask). a.sense) parts.1), parts.1)

      by : IsAsHeard l it.1.pair.request it.0.pair.stored → WasAskedThere c.number q
      by (inl is) =
          let shared = shared-is l it.1.pair.request is.opening is.shared in
          let b : Begun = shared.exchange in
          let back = ask-behind l is.opening b reads.legal shared.opened in
          let place : back.number ≡ c.number = sym (is.origin ∙ back.is) ∙ it.2 in
          let stands : at l c.number ≡ Some (noted back.asked.moment (Asks back.conn back.ask) back.asked.note) =
          subst (λ (n : ℕ). at l n ≡ Some (noted back.asked.moment (Asks back.conn back.ask) back.asked.note)) place back.asked.stands in
          let same = same-ask back.asked.moment back.conn back.ask (Asks back.conn back.ask) back.asked.note b.request refl stands back.sense in
          let fresh : outrun l (asked_place b.request) is.opening ≡ false =
          subst (λ (p : Place). outrun l p is.opening ≡ false) (same-place it.1.pair.request b.request shared.same) shared.fresh in
          record {
            current = subst (λ (n : ℕ). outrun l (asked_place q) n ≡ false) (back.is ∙ place)
                (subst (λ (r : CoapRequest). outrun l (asked_place r) (ask_behind l is.opening) ≡ false) same.0
                (behind-unoutrun l is.opening b reads.legal shared.opened fresh));
            either = inl (_, entry-in t S kept c.number _ stands, refl);
          }
      by (inr is) =
          let b : Begun = is.carries.exchange in
          let place : is.opening ≡ c.number = sym is.origin ∙ it.2 in
          let ask = carried-at l is.opening b is.carries.asked in
          let stands : at l c.number ≡ Some (noted b.since (Carries ask.old Ground (Asked ask.conn ask.ask)) ask.note) =
          subst (λ (n : ℕ). at l n ≡ Some (noted b.since (Carries ask.old Ground (Asked ask.conn ask.ask)) ask.note)) place ask.stands in
          let same = same-ask b.since ask.conn ask.ask (Carries ask.old Ground (Asked ask.conn ask.ask)) ask.note b.request refl stands ask.sense in
          record {
            current = subst (λ (n : ℕ). outrun l (asked_place q) n ≡ false) place
                (subst (λ (r : CoapRequest). outrun l (asked_place r) is.opening ≡ false) same.0
                (subst (λ (p : Place). outrun l p is.opening ≡ false) (same-place it.1.pair.request b.request is.same) is.current));
            either = inr (
              record {
                conn = ask.conn;
                moment = b.since;
                number = ask.old;
                came = c.came;
                rules = c.rules;
                stands = subst (λ (a : Ask). IsEntry S.entries c.number b.since (Carries ask.old Ground (Asked ask.conn a))) same.1 (entry-in t S kept c.number _ stands);
              },
              b,
              subst (λ (n : ℕ). carried l n ≡ Some b) place is.carries.asked,
            );
          }

  -- An ask that was copied before a message stood before it.
  pub ask-earlier : (o i j : ℕ) (q : CoapRequest) (p : Peer) (sent m : Content) → (a : IsAskCopied (copied_entries t S) o q)
      → (c : IsReplyCopied (copied_entries t S) i j p sent m) → o < i → a.number < c.sent_as
  ask-earlier o i j q p sent m a c lt =
      in-order t (seen S.entries) gs 0 S.entries o i a.moment c.sent_at a.number c.sent_as Ground Ground
      (Asked a.conn (asking_so a.came q a.rules)) (Sent p c.text (Some c.timeout)) a.stands c.first lt
