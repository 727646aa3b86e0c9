-- What a stored response rests on, be it brought by this journal or carried into it.
use Rattle.std.proofs.Common.{◌≡◌, ℕ, suc, ◌+◌, ◌<◌, ◌≤◌, Bool, true, false, ◌&&◌, cond, eqb, inl, inr, List, [], ◌∷◌, ◌++◌, length, Option, Some, None, refl, sym, ap, subst, ◌∙◌, arith, not, zero}
use Rattle.std.specs.List.{AllByRecursion, Contains, list_all}
use Rattle.std.proofs.lemmas.Bool.{and_parts, false≢true}
use Rattle.coap_codec.specs.Spelling.{Content, Spells}
use Rattle.coap_codec.specs.declared.block.Block.{Block}
use Rattle.uri_map.specs.declared.peer.Peer.{Peer}
use Rattle.ask_model.specs.Requests.{CoapRequest, Requests, asking, Manner, Plainly, Observing, Validating}
use Rattle.ask_model.specs.Sharing.{asked_key, asks_same, is_get}
use Rattle.ask_model.specs.Views.{Ask}
use Rattle.cache_key.specs.Keys.{same_key}
use Rattle.cache_key.proofs.CallerLemmas.{keys_decided}
use Rattle.resp_cache.specs.declared.pair.Pair.{Pair}
use Rattle.journal_book.specs.Entries.{Mark, done_of, Deed, Asks, Sends, Hears, Carries}
use Rattle.journal_book.specs.Entries as D
use Rattle.history_laws.specs.Responses.{Response, whole_of}
use Rattle.history_laws.specs.Readings.{Noted, Note, First, Says, Recalls, at, before, noted, Plain}
use Rattle.history_laws.specs.Progress.{Reply, numbers, messages}
use Rattle.history_laws.specs.Transmissions.{FirstSending, first_at}
use Rattle.history_laws.specs.Exchanges.{Begun, begun, replies, replies_by, Turn, Sent, Replied, Rejected, Expired, Nothing, turn, ask_by, ask_behind, heard_for}
use Rattle.history_laws.specs.Carrying.{carried_replies, carried_replies_by, replied_by, reply_to}
use Rattle.history_laws.specs.Hearing.{IsReplyKind}
use Rattle.history_laws.specs.Grounds.{IsCarriedReply}
use Rattle.history_laws.specs.Storing.{ComesSo, IsBrought, IsCarried, content, IsRenewed, IsStored}
use Rattle.history_laws.specs.Justified.{Legal, CopiedNote}
use Rattle.history_laws.proofs.CallerLemmas.{all-push, at-below, at-old, carried-at, carried-fit, comes-fit, ends-all, ends-whole, eqb-itself, first-found, first-older, first-response, first-whole, follows-at, length-before, next-is, sent-for, shared-is, some-is, replies-fit, renewed-of, ends-renewed, contains-none, first-or-later, ask-begins, ask-behind, asked-nothing, begun-below, begun-opening, behind-at, behind-below, Came, contains-later, heard-none, legal-before, notice-begins, opened-for}
use Rattle.exchange_model.specs.Reads.{PairIn, Reads}
use Rattle.exchange_model.proofs.Backed.{BackedAsk, BackedEntry, BackedReply, BackedSending}
use Rattle.resp_cache.specs.Stored.{Stored}
use Rattle.exchange_model.specs.State.{State}
use Rattle.exchange_model.specs.Steps.{is_piece_at, is_valid}
use Rattle.exchange_model.proofs.Comes.{stands-in}
use Rattle.exchange_model.proofs.Renewals.{says-valid}
use Rattle.std.proofs.lemmas.List.Elements.{Contains-append_right}

-- the ask that the entry with this number says, or copies
pub record AskFacts (l : List Noted) (o : ℕ) (q : CoapRequest) : Type 0 where
  pub entry : Noted
  pub stands : at l o ≡ Some entry
  pub conn : ℕ
  pub ask : Ask
  pub done : done_of entry.written.deed ≡ Some (D.Asked conn ask)
  pub sense : ask.sense ≡ Requests q
  pub backs : (gs : List ℕ) (k : List Noted) → BackedAsk gs k ask → BackedEntry gs k entry.written.deed entry.note

-- What an entry says that was heard, if it can be a reply.
abbrev pub HearsAs : Deed → Note → Peer → Content → Type 0
HearsAs (Hears q b) (Says m to notice) p n = (q ≡ p) × (m ≡ n)
HearsAs (Carries k mark (D.Heard q b)) (Recalls m a) p n = (q ≡ p) × (m ≡ n)
HearsAs d note p n = ⊥

-- A reply to a message that was sent for it, or for an exchange that goes back to it, be they copies.
pub record ReplyFacts (l : List Noted) (o : ℕ) (q : CoapRequest) (r : Reply) : Type 0 where
  pub sent : Content
  pub sent_in : Noted
  pub sending : at l r.sending ≡ Some sent_in
  pub owner : ℕ
  pub opening_in : Noted
  pub opened_at : at l owner ≡ Some opening_in
  pub home : ask_by owner opening_in.note ≡ o
  pub opened : owner < r.sending
  pub sent_at : ℕ
  pub listed : first_at l r.sending ≡ Some (record { number = r.sending; moment = sent_at; opening = owner; peer = q.peer; message = sent })
  pub after : o < r.sending
  pub size : length sent.token ≡ 8
  pub text : List ℕ
  pub timeout : Option ℕ
  pub sent_done : done_of sent_in.written.deed ≡ Some (D.Sent q.peer text timeout)
  pub manner : Manner
  pub block : Option Block
  pub asks : sent ≡ asking manner q block sent.mid sent.token
  pub sends : (gs : List ℕ) (k : List Noted) → BackedSending gs k q.peer owner sent → BackedEntry gs k sent_in.written.deed sent_in.note
  pub heard_in : Noted
  pub heard : at l r.number ≡ Some heard_in
  pub bytes : List ℕ
  pub done : done_of heard_in.written.deed ≡ Some (D.Heard q.peer bytes)
  pub spelled : Spells r.message bytes
  pub later : r.sending < r.number
  pub token : r.message.token ≡ sent.token
  pub response : 32 ≤ r.message.code
  pub kind : IsReplyKind r.message.kind r.message.mid sent.mid
  pub says : HearsAs heard_in.written.deed heard_in.note q.peer r.message
  pub hears : (gs : List ℕ) (k : List Noted) → BackedReply gs k q.peer r.message → BackedEntry gs k heard_in.written.deed heard_in.note

-- the replies stand in order
abbrev pub AreRising : List Reply → Type 0
AreRising [] = Unit {0}
AreRising (r ∷ rs) = AllByRecursion (λ (x : Reply). r.number < x.number) rs × AreRising rs

-- what is stored, and what it rests on
pub record StoredFacts (l : List Noted) (p : Pair) : Type 0 where
  pub request : CoapRequest
  pub get : is_get request ≡ true
  pub key : asked_key request ≡ p.key
  pub ask : AskFacts l p.stored.opening request
  pub first : Reply
  pub more : List Reply
  pub replies : (r : Reply) → Contains (first ∷ more) r → ReplyFacts l p.stored.opening request r
  pub list : p.stored.list ≡ numbers (first ∷ more)
  pub rising : AreRising (first ∷ more)
  pub whole : whole_of request (messages (first ∷ more)) ≡ Some p.stored.response
  pub code : p.stored.response.code ≡ content
  pub entry : Noted
  pub heard_in : at l first.number ≡ Some entry
  pub heard : p.stored.heard ≡ entry.written.moment

-- of what was heard for an exchange,

-- The ask that an exchange goes back to goes back to itself.
behind-home : (l : List Noted) (o : ℕ) (b : Begun) → Legal l → begun l o ≡ Some b → ask_behind l (ask_behind l o) ≡ ask_behind l o
behind-home l o b legal opened =
    let it = ask-behind l o b legal opened in
    let own = (asked-nothing (before l it.number) it.asked.moment it.number it.ask.sense it.asked.note (follows-at l it.number _ legal it.asked.stands).3).1 in
    ap (ask_behind l) it.is ∙ (behind-at l it.number _ it.asked.stands ∙ (own ∙ sym it.is))

own-reply : (l : List Noted) (o : ℕ) (b : Begun) (r : Reply) → Legal l → begun l o ≡ Some b → Came l o r → ReplyFacts l (ask_behind l o) b.request r
own-reply l o b r legal opened c =
    let fits = c.fits in
    let k : ℕ = c.owner in
    let sent = sent-for l fits.sent_at k r.sending fits.peer fits.sent legal fits.first in
    let next = next-is _ sent.exchange.request _ fits.sent.mid fits.sent.token fits.sent sent.next in
    let same : sent.exchange ≡ c.exchange = some-is _ _ (sym sent.opened ∙ c.opened) in
    let request : sent.exchange.request ≡ b.request = ap (λ (b : Begun). b.request) same ∙ c.own b opened in
    let peer : fits.peer ≡ b.request.peer = sent.peer ∙ ap (λ (q : CoapRequest). q.peer) request in
    let start = begun-opening l k c.exchange c.opened in
    let back : ask_behind l k ≡ ask_behind l o =
    elim (c.owned) [ inl own ↦ ap (ask_behind l) own | inr own ↦ ap (ask_behind l) own ∙ behind-home l o b legal opened ] in
    let below = behind-below l k c.exchange legal c.opened in
    let after = sent.after in
    record {
      sent = fits.sent;
      sent_in = noted fits.sent_at (Sends fits.peer fits.first.bytes fits.first.timeout) (First k fits.sent);
      sending = fits.first.stands;
      owner = k;
      opening_in = noted c.exchange.since start.0 start.1;
      opened_at = start.2;
      home = sym (behind-at l k _ start.2) ∙ back;
      opened = after;
      sent_at = fits.sent_at;
      listed =
          first-found l fits.sent_at k r.sending fits.peer fits.sent fits.first
          ∙ ap (λ (p : Peer). Some (record { number = r.sending; moment = fits.sent_at; opening = k; peer = p; message = fits.sent })) peer;
      after = omega (arith, after, below, back);
      size = (follows-at l r.sending _ legal fits.first.stands).1.1.token_size;
      text = fits.first.bytes;
      timeout = fits.first.timeout;
      sent_done = ap (λ (p : Peer). Some (D.Sent p fits.first.bytes fits.first.timeout)) peer;
      manner = next.1;
      block = next.0;
      asks = next.2 ∙ ap (λ (q : CoapRequest). asking next.1 q next.0 fits.sent.mid fits.sent.token) request;
      sends = λ gs k h. subst (λ (p : Peer). BackedSending gs k p c.owner fits.sent) (sym peer) h;
      heard_in = noted fits.moment (Hears fits.peer fits.bytes) (Says r.message (Some r.sending) fits.notice);
      heard = fits.heard;
      bytes = fits.bytes;
      done = ap (λ (p : Peer). Some (D.Heard p fits.bytes)) peer;
      spelled = fits.spelled;
      later = fits.after;
      token = fits.token;
      response = fits.response;
      kind = fits.kind;
      says = (peer, refl);
      hears = λ gs k h. subst (λ (p : Peer). BackedReply gs k p r.message) (sym peer) h;
    }

-- and of what is carried

first-carried : (l : List Noted) (i t k : ℕ) (mark : Mark) (p : Peer) (b : List ℕ) (w : Option ℕ) (o : ℕ) (m : Content)
    → at l i ≡ Some (noted t (Carries k mark (D.Sent p b w)) (First o m))
    → first_at l i ≡ Some (record { number = i; moment = t; opening = o; peer = p; message = m })
first-carried [] i t k mark p b w o m e = cc
first-carried (x ∷ older) i t k mark p b w o m e =
    elim (at-old x older i _ e) [
      | inl u ↦
          let y : Noted = noted t (Carries k mark (D.Sent p b w)) (First o m) in
          let here : first_at (y ∷ older) (length older) ≡ Some (record { number = length older; moment = t; opening = o; peer = p; message = m }) =
          rw (eqb-itself (length older)) refl in
          subst (λ (x : Noted). first_at (x ∷ older) i ≡ Some (record { number = i; moment = t; opening = o; peer = p; message = m })) (sym u.1)
          (subst (λ (i : ℕ). first_at (y ∷ older) i ≡ Some (record { number = i; moment = t; opening = o; peer = p; message = m })) (sym u.0) here)
      | inr u ↦ first-older x older i (at-below older i _ u) ∙ first-carried older i t k mark p b w o m u
    ]

asking-anew : (manner : Manner) (q : CoapRequest) (block : Option Block) (mid : ℕ) (token : List ℕ)
    → asking manner q block mid token ≡ asking manner q block (asking manner q block mid token).mid (asking manner q block mid token).token
asking-anew Plainly q None mid token = refl
asking-anew Observing q None mid token = refl
asking-anew (Validating etag) q None mid token = refl
asking-anew manner q (Some b) mid token = refl

asking-token : (manner : Manner) (q : CoapRequest) (block : Option Block) (mid : ℕ) (token : List ℕ) → (asking manner q block mid token).token ≡ token
asking-token Plainly q None mid token = refl
asking-token Observing q None mid token = refl
asking-token (Validating etag) q None mid token = refl
asking-token manner q (Some b) mid token = refl

asking-mid : (manner : Manner) (q : CoapRequest) (block : Option Block) (mid : ℕ) (token : List ℕ) → (asking manner q block mid token).mid ≡ mid
asking-mid Plainly q None mid token = refl
asking-mid Observing q None mid token = refl
asking-mid (Validating etag) q None mid token = refl
asking-mid manner q (Some b) mid token = refl

carried-facts : (l : List Noted) (o : ℕ) (y : Noted) (q : CoapRequest) (r : Reply) → Legal l → at l o ≡ Some y → ask_by o y.note ≡ o → IsCarriedReply l o q r
    → ReplyFacts l o q r
carried-facts l o y q r legal stands own h =
    let sent : Content = asking h.manner q h.block h.mid r.message.token in
    record {
      sent = sent;
      sent_in = noted h.sent_at (Carries h.old D.Ground (D.Sent q.peer h.text h.timeout)) (First o sent);
      sending = h.sent;
      owner = o;
      opening_in = y;
      opened_at = stands;
      home = own;
      opened = h.opened;
      sent_at = h.sent_at;
      listed = first-carried l r.sending h.sent_at h.old D.Ground q.peer h.text h.timeout o sent h.sent;
      after = h.opened;
      size = (follows-at l r.sending _ legal h.sent).2.0.token_size;
      text = h.text;
      timeout = h.timeout;
      sent_done = refl;
      manner = h.manner;
      block = h.block;
      asks = asking-anew h.manner q h.block h.mid r.message.token;
      sends = λ gs k b. b;
      heard_in = noted h.moment (Carries h.number D.Ground (D.Heard q.peer h.bytes)) (Recalls r.message h.answer);
      heard = h.heard;
      bytes = h.bytes;
      done = refl;
      spelled = h.spelled;
      later = h.after;
      token = sym (asking-token h.manner q h.block h.mid r.message.token);
      response = h.response;
      kind = subst (IsReplyKind r.message.kind r.message.mid) (sym (asking-mid h.manner q h.block h.mid r.message.token)) h.kind;
      says = (refl, refl);
      hears = λ gs k b. b;
    }

-- Replies stand in order.

plus-one : (n : ℕ) → n + 1 ≡ suc n
plus-one n = omega arith

rising-push : (rs : List Reply) (r : Reply) → AreRising rs → AllByRecursion (λ (x : Reply). x.number < r.number) rs → AreRising (rs ++ r ∷ [])
rising-push [] r h below = (tt, tt)
rising-push (x ∷ rs) r h below = (all-push (λ (y : Reply). x.number < y.number) rs r h.0 below.0, rising-push rs r h.1 below.1)

rising-last : (before after : List Reply) → AreRising (before ++ after) → AreRising after
rising-last [] after h = h
rising-last (r ∷ before) after h = rising-last before after h.1

abbrev Below : ℕ → List Reply → Type 0
Below n rs = AllByRecursion (λ (r : Reply). r.number < n) rs

below-more : (n : ℕ) (rs : List Reply) → Below n rs → Below (n + 1) rs
below-more n [] h = tt
below-more n (r ∷ rs) h = (let lt = h.0 in omega (arith, lt), below-more n rs h.1)

replies-rise : (l : List Noted) (o : ℕ) → AreRising (replies l o) × Below (length l) (replies l o)
replies-rise [] o = (tt, tt)
replies-rise (x ∷ older) o = by (turn older o x) (replies-rise older o)
  where
    by : (u : Turn) → AreRising (replies older o) × Below (length older) (replies older o)
        → AreRising (replies_by (length older) u (replies older o)) × Below (length (x ∷ older)) (replies_by (length older) u (replies older o))
    by (Replied i m place) h = (
      rising-push (replies older o) (record { number = length older; sending = i; message = m }) h.0 h.1,
      all-push (λ (r : Reply). r.number < length (x ∷ older)) (replies older o) (record { number = length older; sending = i; message = m })
          (subst (λ (n : ℕ). Below n (replies older o)) (plus-one (length older)) (below-more (length older) (replies older o) h.1)) (omega arith),
    )
    by (Sent i) h = (h.0, subst (λ (n : ℕ). Below n (replies older o)) (plus-one (length older)) (below-more (length older) (replies older o) h.1))
    by Rejected h = (h.0, subst (λ (n : ℕ). Below n (replies older o)) (plus-one (length older)) (below-more (length older) (replies older o) h.1))
    by Expired h = (h.0, subst (λ (n : ℕ). Below n (replies older o)) (plus-one (length older)) (below-more (length older) (replies older o) h.1))
    by Nothing h = (h.0, subst (λ (n : ℕ). Below n (replies older o)) (plus-one (length older)) (below-more (length older) (replies older o) h.1))

-- What it begins with stands before them.
heard-rise : (l : List Noted) (o : ℕ) → Legal l → AreRising (heard_for l o) × Below (length l) (heard_for l o)
heard-rise l o legal = by (begun l o) refl
  where
    by : (v : Option Begun) → begun l o ≡ v → AreRising (heard_for l o) × Below (length l) (heard_for l o)
    by None e = subst (λ (rs : List Reply). AreRising rs × Below (length l) rs) (sym (heard-none l o legal e)) (tt, tt)
    by (Some b) e = elim (opened-for l o b legal e) [
      | inl it ↦ subst (λ (bs : List Reply). AreRising (bs ++ replies l o) × Below (length l) (bs ++ replies l o)) (sym (ask-begins l o b legal it)) (replies-rise l o)
      | inr it ↦
          subst (λ (bs : List Reply). AreRising (bs ++ replies l o) × Below (length l) (bs ++ replies l o)) (sym (notice-begins l o b it))
          ((all-listed-after (replies l o) (λ r has. has), (replies-rise l o).0), (begun-below l o b e, (replies-rise l o).1))
    ]
      where
        -- each came after a message of the exchange, which was sent after that was opened
        after : (r : Reply) → Contains (replies l o) r → o < r.number
        after r has =
            let fits = replies-fit l o r legal has in
            let sent = sent-for l fits.sent_at o r.sending fits.peer fits.sent legal fits.first in
            let opened = sent.after in
            let later = fits.after in
            omega (arith, opened, later)

        all-listed-after : (rs : List Reply) → ((r : Reply) → Contains rs r → Contains (replies l o) r) → AllByRecursion (λ (x : Reply). o < x.number) rs
        all-listed-after [] h = tt
        all-listed-after (r ∷ rs) h = (after r (h r (zero, omega arith, refl)), all-listed-after rs (λ x has. h x (contains-later r rs x has)))

pub comes-rising : (l : List Noted) (o e : ℕ) (w : Response) (rs : List Reply) → Legal l → ComesSo l o e w rs → AreRising rs
comes-rising l o e w rs legal (inl ends) =
    let it = ends-whole l o e w rs legal ends.ended in
    let u = it.turned in
    let all = heard-rise (before l e) o (legal-before l e legal) in
    let below : Below e (heard_for (before l e) o) = subst (λ (n : ℕ). Below n (heard_for (before l e) o)) (length-before l e it.entry it.stands) all.1 in
    rising-last u.made.before rs
    (subst AreRising u.made.split (rising-push (heard_for (before l e) o) (record { number = e; sending = u.sending; message = u.message }) all.0 below))
comes-rising l o e w rs legal (inr u) =
    subst AreRising (sym (first-whole e u.sending u.message w rs u.whole)) (tt, tt)

pub carried-rise : (l : List Noted) (o : ℕ) → AreRising (carried_replies l o) × Below (length l) (carried_replies l o)
carried-rise [] o = (tt, tt)
carried-rise (x ∷ older) o = by x.written.deed x.note (carried-rise older o)
  where
    n : ℕ
    n = length older

    old : List Reply
    old = carried_replies older o

    same : AreRising old × Below n old → AreRising old × Below (length (x ∷ older)) old
    same h = (h.0, subst (λ (n : ℕ). Below n old) (plus-one n) (below-more n old h.1))

    to : (m : Content) (v : Option FirstSending) → AreRising old × Below n old → (AreRising (reply_to o n m v old) × Below (length (x ∷ older)) (reply_to o n m v old))
    to m None h = same h
    to m (Some g) h = here (eqb g.opening o)
      where
        r : Reply
        r = record { number = n; sending = g.number; message = m }

        here : (b : Bool) → (AreRising (cond b (old ++ r ∷ []) old) × Below (length (x ∷ older)) (cond b (old ++ r ∷ []) old))
        here true = (
          rising-push old r h.0 h.1,
          all-push (λ (r : Reply). r.number < length (x ∷ older)) old r (same h).1 (omega arith),
        )
        here false = same h

    by : (d : Deed) (note : Note) → AreRising old × Below n old → (AreRising (carried_replies_by older o d note old) × Below (length (x ∷ older)) (carried_replies_by older o d note old))
    by (Carries k D.Ground (D.Heard p b)) (Recalls m a) h = to m (replied_by older p m) h
    by d note h = same h

-- what a stored response of this journal rests on, and one that is carried

is-method : (q x : CoapRequest) → asks_same q x ≡ true → (is_get x ≡ true) × (asked_key x ≡ asked_key q)
is-method q x e =
    let a = and_parts (is_get q) (is_get x && same_key (asked_key q) (asked_key x)) e in
    let b = and_parts (is_get x) (same_key (asked_key q) (asked_key x)) a.1 in
    (b.0, sym ((keys_decided (asked_key q) (asked_key x)).0 b.1))

brought-facts : (l : List Noted) (p : Pair) → Legal l → (a : PairIn l p) → IsBrought l a.request p.stored → StoredFacts l p
brought-facts l p legal a s =
    let shared = shared-is l a.request s.opening s.shared in
    let b : Begun = shared.exchange in
    let of_get = is-method a.request b.request shared.same in
    let it = ask-behind l s.opening b legal shared.opened in
    let fit : ((r : Reply) → Contains (s.first ∷ s.more) r → ReplyFacts l (ask_behind l s.opening) b.request r) =
    λ r has. own-reply l s.opening b r legal shared.opened (comes-fit l s.opening s.ending p.stored.response (s.first ∷ s.more) r legal s.comes has) in
    record {
      request = b.request;
      get = of_get.0;
      key = of_get.1 ∙ a.key;
      ask = subst (λ (o : ℕ). AskFacts l o b.request) (sym (s.origin ∙ it.is)) (record {
        entry = noted it.asked.moment (Asks it.conn it.ask) it.asked.note;
        stands = it.asked.stands;
        conn = it.conn;
        ask = it.ask;
        done = refl;
        sense = it.sense;
        backs = λ gs k h. h;
      });
      first = s.first;
      more = s.more;
      replies = λ r has. subst (λ (o : ℕ). ReplyFacts l o b.request r) (sym s.origin) (fit r has);
      list = s.list;
      rising = comes-rising l s.opening s.ending p.stored.response (s.first ∷ s.more) legal s.comes;
      whole = whole s.comes b shared.opened (and_parts (eqb b.request.method 1) _ of_get.0).0;
      code = code s.comes;
      entry = s.entry;
      heard_in = s.heard_in;
      heard = s.heard;
    }
  where
    whole : ComesSo l s.opening s.ending p.stored.response (s.first ∷ s.more) → (b : Begun) → begun l s.opening ≡ Some b → eqb b.request.method 1 ≡ true
        → whole_of b.request (messages (s.first ∷ s.more)) ≡ Some p.stored.response
    whole (inl ends) b opened get =
        let it = ends-all l s.opening s.ending p.stored.response (s.first ∷ s.more) legal ends.ended in
        ap (λ (b : Begun). whole_of b.request (messages (s.first ∷ s.more))) (some-is _ _ (sym opened ∙ it.opened)) ∙ it.whole
    whole (inr u) b opened get = first-response b.request s.ending u.sending u.message p.stored.response (s.first ∷ s.more) get u.whole

    code : ComesSo l s.opening s.ending p.stored.response (s.first ∷ s.more) → p.stored.response.code ≡ content
    code (inl ends) = ends.code
    code (inr u) = u.code

-- A copy of an ask goes back to itself.
plain-own : (l : List Noted) (t o c : ℕ) (a : Ask) (note : Note) → CopiedNote l t D.Ground (D.Asked c a) note → ask_by o note ≡ o
plain-own l t o c a Plain h = refl
plain-own l t o c a note h = absurd h

again-facts : (l : List Noted) (p : Pair) → Legal l → (a : PairIn l p) → IsCarried l a.request p.stored → StoredFacts l p
again-facts l p legal a s =
    let c = s.carries in
    let b : Begun = c.exchange in
    let of_get = is-method a.request b.request s.same in
    let ask = carried-at l s.opening b c.asked in
    let fit : ((r : Reply) → Contains (s.first ∷ s.more) r → ReplyFacts l s.opening b.request r) =
    λ r has. carried-facts l s.opening _ b.request r legal ask.stands (plain-own (before l s.opening) b.since s.opening ask.conn ask.ask ask.note (follows-at l s.opening _ legal ask.stands).2)
    (carried-fit l s.opening b r legal c.asked (subst (λ (rs : List Reply). Contains rs r) (sym c.replies) has)) in
    record {
      request = b.request;
      get = of_get.0;
      key = of_get.1 ∙ a.key;
      ask = subst (λ (o : ℕ). AskFacts l o b.request) (sym s.origin) (record {
        entry = noted b.since (Carries ask.old D.Ground (D.Asked ask.conn ask.ask)) ask.note;
        stands = ask.stands;
        conn = ask.conn;
        ask = ask.ask;
        done = refl;
        sense = ask.sense;
        backs = λ gs k h. h;
      });
      first = s.first;
      more = s.more;
      replies = λ r has. subst (λ (o : ℕ). ReplyFacts l o b.request r) (sym s.origin) (fit r has);
      list = s.list;
      rising = subst AreRising c.replies (carried-rise l s.opening).0;
      whole = c.whole;
      code = s.code;
      entry = s.entry;
      heard_in = s.heard_in;
      heard = s.heard;
    }

-- What is renewed has a 2.03 among its replies: so of what has none.
renewed-none : (l : List Noted) (S : State) (q : CoapRequest) (s : Stored) → Reads l S → IsRenewed l q s → list_all (is_piece_at S.entries) s.list ≡ true → ⊥
renewed-none l S q s r a pieces =
    let n : ℕ = a.renewal.reply.number in
    let last : Contains s.list n = subst (λ (js : List ℕ). Contains js n) (sym a.list) (Contains-append_right a.renewal.kept.list (n ∷ []) n (zero, omega arith, refl)) in
    let fits = replies-fit l a.renewal.opening a.renewal.reply r.legal (renewed-of l a.renewal.opening a.ending a.renewal.kept a.renewal.reply a.renewal.ended) in
    let was = ends-renewed l a.renewal.opening a.ending a.renewal.kept a.renewal.reply a.renewal.ended in
    let is : is_piece_at S.entries n ≡ false =
    ap (λ (v : Option Reply). not (is_valid v)) (stands-in l S a.renewal.opening a.renewal.reply r fits)
    ∙ ap not (says-valid a.renewal.kept.response.etag a.renewal.reply.message was.turned.tells) in
    false≢true (sym is ∙ passes (is_piece_at S.entries) s.list n pieces last)
  where
    passes : (f : ℕ → Bool) (js : List ℕ) (j : ℕ) → list_all f js ≡ true → Contains js j → f j ≡ true
    passes f [] j e has = absurd (contains-none j has)
    passes f (k ∷ js) j e has =
        let both = and_parts (f k) (list_all f js) e in
        elim (first-or-later k js j has) [
          | inl same ↦ subst (λ (i : ℕ). f i ≡ true) same both.0
          | inr later ↦ passes f js j both.1 later
        ]

pub stored-facts : (l : List Noted) (S : State) (p : Pair) → Reads l S → PairIn l p → list_all (is_piece_at S.entries) p.stored.list ≡ true → StoredFacts l p
stored-facts l S p r a pieces = by a.stored
  where
    by : IsStored l a.request p.stored → StoredFacts l p
    by (inl (inl s)) = brought-facts l p r.legal a s.0
    by (inl (inr s)) = again-facts l p r.legal a s.0
    by (inr s) = absurd (renewed-none l S a.request p.stored r s pieces)
