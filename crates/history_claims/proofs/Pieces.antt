-- Replies that came one after another, each to the message that was next.
use Rattle.std.proofs.Common.{◌≡◌, ◌⊎◌, ℕ, zero, ◌<◌, Bool, true, cond, eqb, inl, inr, List, [], ◌∷◌, ◌++◌, length, Option, Some, None, refl, sym, ap, subst, ◌∙◌, arith, append_assoc}
use Rattle.std.specs.Prelude.{fold}
use Rattle.std.specs.List.{Contains}
use Rattle.std.proofs.lemmas.List.Elements.{Contains-append_cases, Contains-append_right, Contains-push}
use Rattle.coap_codec.specs.declared.block.Block.{Block}
use Rattle.coap_codec.specs.Spelling.{Content}
use Rattle.blockwise.specs.Downloads.{no_pieces}
use Rattle.blockwise.specs.Uploads.{begun as begun_as, next_block}
use Rattle.ask_model.specs.Requests.{CoapRequest, Manner, Plainly, asking}
use Rattle.journal_book.specs.Entries.{Written}
use Rattle.history_laws.specs.Responses.{Response, whole_fetched, whole_given, whole_of}
use Rattle.history_laws.specs.Readings.{Noted, entries, at, before}
use Rattle.history_laws.specs.Progress.{Reply, numbers, messages, Whole, Progress, Fetches, Gives, Ends, step, progress, ended_by, block_after, next_message, Point, Fetched, Given, first_point, block_for, point_after}
use Rattle.history_laws.specs.Exchanges.{Begun, begun, Turn, Nothing, Sent, Replied, Rejected, Expired, turn, waits_by, waits_for, replies_by, replies, end_of, begins_with, heard_for}
use Rattle.history_laws.specs.Justified.{Ends as IsEnd, Legal}
use Rattle.history_laws.specs.Laws.{IsFirst, IsReplyTo, IsFetched, AreFetched}
use Rattle.history_laws.proofs.CallerLemmas.{at-before, at-below, begins-at, begun-by, begun-opening, came-next, CameNext, ends-whole, goes-so, GoesSo, IsGoing, legal-before, none-some, progress-push, replies-fit, sent-for, some-is, split-push, turn-replied, turn-sent, waits-first, asking-plain}
use Rattle.history_claims.specs.Headline.{AreHeardFor}
use Rattle.history_claims.specs.Causes.{IsReplyFor, IsNextReply, AreRepliesTo}
use Rattle.history_claims.proofs.Alike.{IsLike, heard-like}
use Rattle.history_claims.proofs.Ending.{reply-placed}
use Rattle.history_claims.proofs.Waiting.{heard-in}

-- What was heard for the one request was heard for one that is alike.
pub sequence-like : (h : List Written) (o : ℕ) (r q : CoapRequest) (p : Point) (js : List ℕ) (ms : List Content) → IsLike r q
    → AreHeardFor h o r p js ms → AreHeardFor h o q p js ms
sequence-like h o r q p [] [] like s = tt
sequence-like h o r q p [] (m ∷ ms) like s = absurd s
sequence-like h o r q p (j ∷ js) [] like s = absurd s
sequence-like h o r q p (j ∷ js) (m ∷ ms) like s =
    ((heard-like h o r q (block_for p) j m like s.0).0, sequence-like h j r q (point_after p m) js ms like s.1)

reply-like : (h : List Written) (o : ℕ) (r q : CoapRequest) (block : Option Block) (x : Reply) → IsLike r q → IsReplyFor h o r block x
    → IsReplyFor h o q block x
reply-like h o r q block x like s =
    let it = heard-like h o r q block x.number x.message like s.0 in
    (it.0, it.1 ∙ s.1)

next-like : (h : List Written) (o : ℕ) (r q : CoapRequest) (u : Progress) (x : Reply) → IsLike r q → IsNextReply h o r u x → IsNextReply h o q u x
next-like h o r q (Fetches k p got) x like s = reply-like h o r q (block_after p) x like s
next-like h o r q (Gives upload got) x like s = reply-like h o r q (next_block upload) x like s
next-like h o r q (Ends how) x like s = absurd s

pub replies-like : (h : List Written) (o : ℕ) (r q : CoapRequest) (u : Progress) (rs : List Reply) → IsLike r q → AreRepliesTo h o r u rs
    → AreRepliesTo h o q u rs
replies-like h o r q u [] like s = tt
replies-like h o r q u (x ∷ rs) like s = (next-like h o r q u x like s.0, replies-like h x.number r q (step u x) rs like s.1)

pub progress-like : (r q : CoapRequest) (rs : List Reply) → IsLike r q → progress r rs ≡ progress q rs
progress-like r q rs like =
    ap (λ (m : Content). fold step (cond (eqb m.code 1) (Fetches 0 no_pieces []) (Gives (begun_as (length m.payload) 6) [])) rs) (like.message Plainly 0 [])

pub point-like : (r q : CoapRequest) → IsLike r q → first_point r ≡ first_point q
point-like r q like =
    ap (λ (m : Content). cond (eqb m.code 1) (Fetched no_pieces) (Given (begun_as (length m.payload) 6))) (like.message Plainly 0 [])

pub whole-like : (r q : CoapRequest) (ms : List Content) → IsLike r q → whole_of r ms ≡ whole_of q ms
whole-like r q [] like = refl
whole-like r q (m ∷ ms) like =
    ap (λ (n : Content). cond (eqb n.code 1) (whole_fetched m ms) (whole_given (begun_as (length n.payload) 6) (m ∷ ms))) (like.message Plainly 0 [])

-- The last of replies is one for some block, or none.
pub last-reply : (h : List Written) (o : ℕ) (q : CoapRequest) (u : Progress) (others : List Reply) (last : Reply)
    → AreRepliesTo h o q u (others ++ last ∷ []) → (k : ℕ) × (block : Option Block) × IsReplyFor h k q block last
last-reply h o q (Fetches k p got) [] last s = (o, block_after p, s.0)
last-reply h o q (Gives upload got) [] last s = (o, next_block upload, s.0)
last-reply h o q (Ends how) [] last s = absurd s.0
last-reply h o q u (x ∷ others) last s = last-reply h x.number q (step u x) others last s.1

-- What goes on isn't ended.
going-ended : (u : Progress) → IsGoing u → ended_by true u ≡ None
going-ended (Ends how) h = absurd h
going-ended (Gives upload got) h = refl
going-ended (Fetches k p got) h = refl

pub still-going : (l : List Noted) (o : ℕ) (b : Begun) (rs : List Reply) → Legal l → begun l o ≡ Some b → end_of l o ≡ None → heard_for l o ≡ rs
    → ended_by true (progress b.request rs) ≡ None
still-going l o b rs legal opened going all =
    let it : GoesSo (Some b) (heard_for l o) = subst (λ (b : Option Begun). GoesSo b (heard_for l o)) opened (goes-so l o legal going) in
    subst (λ (rs : List Reply). ended_by true (progress b.request rs) ≡ None) all (going-ended (progress b.request (heard_for l o)) it.0)

-- What came next came to a message that asks for the block that was next.
asked-next : (l : List Noted) (o : ℕ) (q : CoapRequest) (hs rs : List Reply) (r : Reply) (block : Option Block) (f : Manner) (h : CameNext l o q hs rs r)
    → next_message h.manner q (progress q (hs ++ rs)) h.message.mid h.message.token ≡ Some (asking f q block h.message.mid h.message.token)
    → IsFetched l o q block r
asked-next l o q hs rs r block f h e =
    let message : asking f q block h.message.mid h.message.token ≡ h.message = some-is _ _ (sym e ∙ h.next) in
    record {
      fits = h.fits;
      moment = h.moment;
      mid = h.message.mid;
      token = h.message.token;
      manner = f;
      first = subst (λ (m : Content). IsFirst l h.moment o r.sending q.peer m) (sym message) h.first;
    }

-- A message for which a reply is awaited went out after all replies before.
waits-later : (x : Noted) (l : List Noted) (o i : ℕ) (r : Reply) → Legal l
    → (waits_for l o ≡ Some i → Contains (replies l o) r → r.number < i) → (u : Turn) → turn l o x ≡ u
    → waits_by u (waits_for l o) ≡ Some i → Contains (replies_by (length l) u (replies l o)) r → r.number < i
waits-later x l o i r legal ih Nothing is e has = ih e has
waits-later x l o i r legal ih (Sent j) is e has =
    let here = (turn-sent l o x j is).here in
    let same = some-is j i e in
    let below = at-below l r.number _ (replies-fit l o r legal has).heard in
    omega (arith, here, same, below)
waits-later x l o i r legal ih (Replied j m place) is e has = absurd (none-some i e)
waits-later x l o i r legal ih Rejected is e has = absurd (none-some i e)
waits-later x l o i r legal ih Expired is e has = absurd (none-some i e)

waited-after : (l : List Noted) (o i : ℕ) (r : Reply) → Legal l → waits_for l o ≡ Some i → Contains (replies l o) r → r.number < i
waited-after [] o i r legal e has = absurd (none-some i e)
waited-after (x ∷ older) o i r legal e has =
    waits-later x older o i r legal.0 (waited-after older o i r legal.0) (turn older o x) refl e has

-- So does each that is replied to.
same-place : (rs h : List Reply) (x r : Reply) → rs ++ x ∷ [] ≡ rs ++ r ∷ h → x ≡ r
same-place [] h x r e = cc
same-place (y ∷ rs) h x r e = same-place rs h x r (tail e)
  where
    tail : y ∷ (rs ++ x ∷ []) ≡ y ∷ (rs ++ r ∷ h) → rs ++ x ∷ [] ≡ rs ++ r ∷ h
    tail f = cc

after-step : (x : Noted) (l : List Noted) (o : ℕ) (rs h : List Reply) (r y : Reply) → Legal l
    → ((h : List Reply) → replies l o ≡ rs ++ r ∷ h → y.number < r.sending) → Contains rs y → (u : Turn) → turn l o x ≡ u
    → replies_by (length l) u (replies l o) ≡ rs ++ r ∷ h → y.number < r.sending
after-step x l o rs h r y legal ih has (Replied i m place) is e =
    let new : Reply = record { number = length l; sending = i; message = m } in
    elim (split-push (replies l o) rs h new r e) [
      | inl w ↦ ih w.0 w.1
      | inr w ↦
          let same = same-place rs h new r (subst (λ (v : List Reply). v ++ new ∷ [] ≡ rs ++ r ∷ h) w e) in
          subst (λ (r : Reply). y.number < r.sending) same
          (waited-after l o i y legal (turn-replied l o x i m place is).waited (subst (λ (v : List Reply). Contains v y) (sym w) has))
    ]
after-step x l o rs h r y legal ih has Nothing is e = ih h e
after-step x l o rs h r y legal ih has (Sent i) is e = ih h e
after-step x l o rs h r y legal ih has Rejected is e = ih h e
after-step x l o rs h r y legal ih has Expired is e = ih h e

none-in : (rs h : List Reply) (r : Reply) → [] ≡ rs ++ r ∷ h → ⊥
none-in [] h r e = cc
none-in (y ∷ rs) h r e = cc

asked-after : (l : List Noted) (o : ℕ) (rs h : List Reply) (r y : Reply) → Legal l → replies l o ≡ rs ++ r ∷ h → Contains rs y → y.number < r.sending
asked-after [] o rs h r y legal e has = absurd (none-in rs h r e)
asked-after (x ∷ older) o rs h r y legal e has =
    after-step x older o rs h r y legal.0 (λ h f. asked-after older o rs h r y legal.0 f has) has (turn older o x) refl e

-- the number of the ask, or of one of these replies
abbrev IsSince : ℕ → List Reply → ℕ → Type 0
IsSince o rs s = (s ≡ o) ⊎ ((y : Reply) × Contains rs y × (y.number ≡ s))

since-before : (l : List Noted) (o s : ℕ) (rs h : List Reply) (r : Reply) → Legal l → replies l o ≡ rs ++ r ∷ h → IsSince o rs s → IsReplyTo l o r
    → s < r.sending
since-before l o s rs h r legal e (inl w) fits =
    subst (λ (s : ℕ). s < r.sending) (sym w) (sent-for l fits.sent_at o r.sending fits.peer fits.sent legal fits.first).after
since-before l o s rs h r legal e (inr w) fits = subst (λ (s : ℕ). s < r.sending) w.2 (asked-after l o rs h r w.0 legal e w.1)

reply-since : (h : List Written) (o s : ℕ) (q : CoapRequest) (block : Option Block) (r : Reply) → s < r.sending → IsReplyFor h o q block r
    → IsReplyFor h s q block r
reply-since h o s q block r after it =
    let sent = it.0.sent_for in (
      record {
        sending = it.0.sending;
        sent = it.0.sent;
        sent_for = record {
          after = subst (λ (i : ℕ). s < i) (sym it.1) after;
          moment = sent.moment;
          first = sent.first;
          asks = sent.asks;
          issued = sent.issued;
        };
        response = it.0.response;
        new = it.0.new;
        first = it.0.first;
      },
      it.1,
    )

-- What was heard for an exchange came to a message of it, or of the ask that it goes back to.
pub heard-fits : (l : List Noted) (o : ℕ) (b : Begun) (r : Reply) → Legal l → begun l o ≡ Some b → Contains (heard_for l o) r → (k : ℕ) × IsReplyTo l k r
heard-fits l o b r legal opened has = elim (Contains-append_cases (begins_with l o) (replies l o) r has) [
  | inl first ↦ let by = begun-by l o b r legal opened first in (by.ask, by.fits)
  | inr reply ↦ (o, replies-fit l o r legal reply)
]

-- A reply comes after what was heard before it.
pub begins-till : (l : List Noted) (n o : ℕ) (b : Begun) (x : Noted) → at l n ≡ Some x → begun (before l n) o ≡ Some b → begins_with (before l n) o ≡ begins_with l o
begins-till l n o b x here opened =
    let opening = begun-opening (before l n) o b opened in
    begins-at (before l n) o _ opening.2 ∙ sym (begins-at l o _ (at-before l n o _ opening.2))

pub heard-placed : (l : List Noted) (n o i : ℕ) (m : Content) (place : Bool) (b : Begun) (x : Noted) → Legal l → at l n ≡ Some x → begun l o ≡ Some b
    → turn (before l n) o x ≡ Replied i m place
    → (h : List Reply) × (heard_for l o ≡ heard_for (before l n) o ++ record { number = n; sending = i; message = m } ∷ h)
heard-placed l n o i m place b x legal here opened is =
    let it = reply-placed l n o i m place x here is in
    let r : Reply = record { number = n; sending = i; message = m } in
    let early = legal-before l n legal in
    let w = waits-first (before l n) o i (turn-replied (before l n) o x i m place is).waited in
    let was = sent-for (before l n) w.0 o i w.1 w.2 early w.3 in
    let begins = begins-till l n o was.exchange x here was.opened in (
      it.0,
      ap (λ (v : List Reply). begins_with l o ++ v) it.1
          ∙ (sym (append_assoc (begins_with l o) (replies (before l n) o) (r ∷ it.0))
          ∙ ap (λ (v : List Reply). (v ++ replies (before l n) o) ++ r ∷ it.0) (sym begins)),
    )

-- What a whole response is made of stands among what was heard for it.
pub made-placed : (l : List Noted) (o e : ℕ) (w : Response) (ws : List Reply) → Legal l → IsEnd l o e (Whole w ws)
    → (done : List Reply) × (more : List Reply) × (heard_for l o ≡ done ++ (ws ++ more))
made-placed l o e w ws legal h =
    let it = ends-whole l o e w ws legal h in
    let turned = it.turned in
    let r : Reply = record { number = e; sending = turned.sending; message = turned.message } in
    let placed = heard-placed l e o turned.sending turned.message turned.place turned.exchange it.entry legal it.stands it.opened turned.is in
    let till : List Reply = heard_for (before l e) o in (
      turned.made.before,
      placed.0,
      placed.1 ∙ (sym (append_assoc till (r ∷ []) placed.0)
          ∙ (ap (λ (v : List Reply). v ++ placed.0) turned.made.split ∙ append_assoc turned.made.before ws placed.0)),
    )

-- the replies to an exchange, before an entry
module _ (l : List Noted) (n o : ℕ) (b : Begun) (x : Noted) (legal : Legal l) (opened : begun l o ≡ Some b) (here : at l n ≡ Some x) where
  next-reply : (s : ℕ) (hs rs : List Reply) (r : Reply) → s < r.sending → Contains (replies (before l n) o) r → CameNext (before l n) o b.request hs rs r
      → (u : Progress) → progress b.request (hs ++ rs) ≡ u → IsNextReply (entries l) s b.request u r
  next-reply s hs rs r after has h (Fetches k p got) is =
      reply-since (entries l) o s b.request (block_after p) r after
      (heard-in l n o r b x (block_after p) legal opened here has
      (asked-next (before l n) o b.request hs rs r (block_after p) h.manner h (ap (λ (u : Progress). next_message h.manner b.request u h.message.mid h.message.token) is)))
  next-reply s hs rs r after has h (Gives v got) is =
      reply-since (entries l) o s b.request (next_block v) r after
      (heard-in l n o r b x (next_block v) legal opened here has
      (asked-next (before l n) o b.request hs rs r (next_block v) Plainly h
      (ap (λ (u : Progress). next_message h.manner b.request u h.message.mid h.message.token) is
      ∙ ap (λ (m : Content). Some m) (sym (asking-plain b.request (next_block v) h.message.mid h.message.token)))))
  next-reply s hs rs r after has h (Ends how) is =
      absurd (none-some _ (sym (ap (λ (u : Progress). next_message h.manner b.request u h.message.mid h.message.token) is) ∙ h.next))

  placed-in : (done rest more : List Reply) (r : Reply) → replies (before l n) o ≡ done ++ (r ∷ (rest ++ more)) → Contains (replies (before l n) o) r
  placed-in done rest more r e =
      subst (λ (v : List Reply). Contains v r) (sym e) (Contains-append_right done (r ∷ (rest ++ more)) r (zero, omega arith, refl))

  abbrev hs : List Reply
  hs = begins_with (before l n) o

  replies-from : begun (before l n) o ≡ Some b → (s : ℕ) (done rest more : List Reply) → IsSince o done s → replies (before l n) o ≡ done ++ (rest ++ more)
      → AreRepliesTo (entries l) s b.request (progress b.request (hs ++ done)) rest
  replies-from early s done [] more since e = tt
  replies-from early s done (r ∷ rest) more since e =
      let came = came-next (before l n) o b done (rest ++ more) r (legal-before l n legal) early e in
      let after = since-before (before l n) o s done (rest ++ more) r (legal-before l n legal) e since came.fits in
      let on : progress b.request (hs ++ (done ++ r ∷ [])) ≡ step (progress b.request (hs ++ done)) r =
      ap (progress b.request) (sym (append_assoc hs done (r ∷ []))) ∙ progress-push b.request (hs ++ done) r in (
        next-reply s hs done r after (placed-in done rest more r e) came (progress b.request (hs ++ done)) refl,
        subst (λ (u : Progress). AreRepliesTo (entries l) r.number b.request u rest) on
            (replies-from early r.number (done ++ r ∷ []) rest more (inr (r, Contains-push done r, refl)) (e ∙ sym (append_assoc done (r ∷ []) (rest ++ more)))),
      )

  pub replies-to : begun (before l n) o ≡ Some b → (rest more : List Reply) → replies (before l n) o ≡ rest ++ more
      → AreRepliesTo (entries l) o b.request (progress b.request (hs ++ [])) rest
  replies-to early rest more e = replies-from early o [] rest more (inl refl) e

  -- Those that were fetched in order were heard so.
  pub heard-from : (s : ℕ) (p : Point) (done rest more : List Reply) → IsSince o done s → replies (before l n) o ≡ done ++ (rest ++ more)
      → AreFetched (before l n) o b.request p rest → AreHeardFor (entries l) s b.request p (numbers rest) (messages rest)
  heard-from s p done [] more since e h = tt
  heard-from s p done (r ∷ rest) more since e h =
      let after = since-before (before l n) o s done (rest ++ more) r (legal-before l n legal) e since h.0.fits in (
        (reply-since (entries l) o s b.request (block_for p) r after
            (heard-in l n o r b x (block_for p) legal opened here (placed-in done rest more r e) h.0)).0,
        heard-from r.number (point_after p r.message) (done ++ r ∷ []) rest more (inr (r, Contains-push done r, refl))
            (e ∙ sym (append_assoc done (r ∷ []) (rest ++ more))) h.1,
      )
