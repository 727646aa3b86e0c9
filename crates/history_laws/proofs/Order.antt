-- Each message of an exchange is the next one after the replies before it, and what is fetched is asked for in order.
use Rattle.std.proofs.Common.{◌≡◌, ◌⊎◌, inl, inr, ℕ, zero, ◌≤◌, Bool, true, false, eqb, List, [], ◌∷◌, ◌++◌, length, Option, Some, None, refl, sym, ap, subst, ◌∙◌, arith, append_assoc, append-nil, length-append}
use Rattle.std.specs.Prelude.{fold}
use Rattle.std.proofs.lemmas.Bool.{false≢true, and_parts}
use Rattle.coap_codec.specs.Spelling.{Content}
use Rattle.uri_map.specs.declared.peer.Peer.{Peer}
use Rattle.blockwise.specs.Downloads.{PiecesValue, no_pieces, with_piece}
use Rattle.blockwise.specs.Uploads.{UploadValue, begun as begun_as, next_block, next_of}
use Rattle.std.proofs.lemmas.List.Sums.{fold-append}
use Rattle.ask_model.specs.Requests.{CoapRequest, Manner, Plainly, asking}
use Rattle.history_laws.specs.Responses.{Response}
use Rattle.history_laws.specs.Readings.{Noted, before}
use Rattle.history_laws.specs.Progress.{Reply, messages, Ending, Whole, Progress, Fetches, Gives, progress, block_after, next_message, Point, Fetched, Given, first_point, block_for, point_after}
use Rattle.history_laws.specs.Exchanges.{Begun, begun, Turn, Nothing, Sent, Replied, Rejected, Expired, turn, waits_by, waits_for, replies_by, replies, begins_with, heard_for, End, kept, end_here, end_by, end_of}
use Rattle.history_laws.specs.Observing.{manner}
use Rattle.history_laws.specs.Justified.{Ends as EndsAs, Legal}
use Rattle.history_laws.specs.Laws.{IsFirst, IsReplyTo, IsFetched, AreFetched}
use Rattle.history_laws.proofs.Facts.{IsFirst-below, IsFirst-keeps}
use Rattle.history_laws.proofs.Fetching.{AreAsked, AreGiven, fold-push, IsMadeOf, messages-push, pieces_in, split-push, upload_in}
use Rattle.history_laws.proofs.Going.{goes-so, made-turn}
use Rattle.history_laws.proofs.Places.{before-keeps, before-new}
use Rattle.history_laws.proofs.Replies.{IsReplyTo-keeps, replies-fit}
use Rattle.history_laws.proofs.Queue.{unawaited-stays}
use Rattle.history_laws.proofs.Resting.{none-some, some-is}
use Rattle.history_laws.proofs.Unbegun.{replies-none, unbegun}
use Rattle.history_laws.proofs.Beginnings.{ask-begins, begins-keeps, first_of, heard-push, notice-begins}
use Rattle.history_laws.proofs.Quiet.{heard-quiet, quiet-since, sends-next}
use Rattle.history_laws.proofs.Sent.{asking-plain, begun-keeps, opened-for, sent-for, StartedFor}
use Rattle.history_laws.proofs.Started.{started}
use Rattle.history_laws.proofs.Turns.{turn-replied, turn-sent, waits-first}
use Rattle.std.specs.List.{Contains}
use Rattle.std.proofs.lemmas.List.Elements.{Contains-append_right}

-- A reply came to the next message after those before it, and what the exchange begins with.
pub record CameNext (l : List Noted) (o : ℕ) (q : CoapRequest) (hs rs : List Reply) (r : Reply) : Type 0 where
  pub fits : IsReplyTo l o r
  pub moment : ℕ
  pub message : Content
  pub first : IsFirst l moment o r.sending q.peer message
  pub manner : Manner
  pub next : next_message manner q (progress q (hs ++ rs)) message.mid message.token ≡ Some message
  pub replied : replies (before l r.sending) o ≡ rs

CameNext-keeps : (x : Noted) (l : List Noted) (o : ℕ) (q : CoapRequest) (hs rs : List Reply) (r : Reply) → CameNext l o q hs rs r → CameNext (x ∷ l) o q hs rs r
CameNext-keeps x l o q hs rs r h = record {
  fits = IsReplyTo-keeps x l o r h.fits;
  moment = h.moment;
  message = h.message;
  first = IsFirst-keeps x l h.moment o r.sending q.peer h.message h.first;
  manner = h.manner;
  next = h.next;
  replied = ap (λ (k : List Noted). replies k o) (before-keeps x l r.sending (IsFirst-below l h.moment o r.sending q.peer h.message h.first)) ∙ h.replied;
}

came-new : (l : List Noted) (o i : ℕ) (b : Begun) → Legal l → begun l o ≡ Some b → waits_for l o ≡ Some i
    → (t : ℕ) × (m : Content) × IsFirst l t o i b.request.peer m × (f : Manner) × (next_message f b.request (progress b.request (heard_for l o)) m.mid m.token ≡ Some m)
came-new l o i b legal opened e =
    let w = waits-first l o i e in
    let it = sent-for l w.0 o i w.1 w.2 legal w.3 in
    let same : it.exchange ≡ b = some-is _ _ (sym it.opened ∙ opened) in
    let peer : w.1 ≡ b.request.peer = it.peer ∙ ap (λ (b : Begun). b.request.peer) same in (
      w.0,
      w.2,
      subst (λ (p : Peer). IsFirst l w.0 o i p w.2) peer w.3,
      manner (before l i) o,
      subst (λ (rs : List Reply). next_message (manner (before l i) o) b.request (progress b.request rs) w.2.mid w.2.token ≡ Some w.2) (heard-quiet l o i b legal opened e)
          (sends-next l w.0 o i w.1 w.2 b legal w.3 opened),
    )

next-step : (x : Noted) (l : List Noted) (o : ℕ) (b : Begun) (rs h : List Reply) (r : Reply) → Legal (x ∷ l) → begun l o ≡ Some b
    → ((h : List Reply) → replies l o ≡ rs ++ r ∷ h → CameNext l o b.request (begins_with l o) rs r)
    → (u : Turn) → turn l o x ≡ u → replies_by (length l) u (replies l o) ≡ rs ++ r ∷ h → CameNext (x ∷ l) o b.request (begins_with l o) rs r
next-step x l o b rs h r legal opened ih Nothing is e = CameNext-keeps x l o b.request (begins_with l o) rs r (ih h e)
next-step x l o b rs h r legal opened ih (Sent j) is e = CameNext-keeps x l o b.request (begins_with l o) rs r (ih h e)
next-step x l o b rs h r legal opened ih Rejected is e = CameNext-keeps x l o b.request (begins_with l o) rs r (ih h e)
next-step x l o b rs h r legal opened ih Expired is e = CameNext-keeps x l o b.request (begins_with l o) rs r (ih h e)
next-step x l o b rs h r legal opened ih (Replied i m place) is e =
    let new : Reply = record { number = length l; sending = i; message = m } in
    elim (split-push (replies l o) rs h new r e) [
      | inl w ↦ CameNext-keeps x l o b.request (begins_with l o) rs r (ih w.0 w.1)
      | inr w ↦ mine w (last-is (replies l o) rs h new r w e)
    ]
  where
    last-is : (got rs h : List Reply) (new r : Reply) → got ≡ rs → got ++ new ∷ [] ≡ rs ++ r ∷ h → new ≡ r
    last-is [] [] h new r w e = cc
    last-is [] (y ∷ rs) h new r w e = cc
    last-is (y ∷ got) [] h new r w e = cc
    last-is (y ∷ got) (z ∷ rs) h new r w e =
        let both : got ≡ rs = cc (w) in
        let rest : got ++ new ∷ [] ≡ rs ++ r ∷ h = cc (e) in
        last-is got rs h new r both rest

    mine : replies l o ≡ rs → record { number = length l; sending = i; message = m } ≡ r → CameNext (x ∷ l) o b.request (begins_with l o) rs r
    mine w same =
        let it = came-new l o i b legal.0 opened (turn-replied l o x i m place is).waited in
        let fits : IsReplyTo (x ∷ l) o r =
        replies-fit (x ∷ l) o r legal
        (subst (λ (u : Turn). Contains (replies_by (length l) u (replies l o)) r) (sym is)
        (subst (λ (v : List Reply). Contains v r) (sym e) (Contains-append_right rs (r ∷ h) r (zero, omega arith, refl)))) in
        record {
          fits = fits;
          moment = it.0;
          message = it.1;
          first = subst (λ (k : ℕ). IsFirst (x ∷ l) it.0 o k b.request.peer it.1) (ap (λ (v : Reply). v.sending) same)
              (IsFirst-keeps x l it.0 o i b.request.peer it.1 it.2);
          manner = it.3;
          next = subst (λ (v : List Reply). next_message it.3 b.request (progress b.request (begins_with l o ++ v)) it.1.mid it.1.token ≡ Some it.1) w it.4;
          replied =
              let waited = (turn-replied l o x i m place is).waited in
              subst (λ (k : ℕ). replies (before (x ∷ l) k) o ≡ rs) (ap (λ (v : Reply). v.sending) same)
              (ap (λ (k : List Noted). replies k o) (before-keeps x l i (IsFirst-below l it.0 o i b.request.peer it.1 it.2)) ∙ (quiet-since l o i waited ∙ w));
        }

-- Each reply did.
no-part : (rs h : List Reply) (r : Reply) → [] ≡ rs ++ r ∷ h → ⊥
no-part [] h r e = cc
no-part (y ∷ rs) h r e = cc

next-from : (x : Noted) (l : List Noted) (o : ℕ) (b : Begun) (rs h : List Reply) (r : Reply) → Legal (x ∷ l) → begun (x ∷ l) o ≡ Some b
    → ((c : Begun) (h : List Reply) → begun l o ≡ Some c → replies l o ≡ rs ++ r ∷ h → CameNext l o c.request (begins_with l o) rs r)
    → (c : Option Begun) → begun l o ≡ c → replies (x ∷ l) o ≡ rs ++ r ∷ h → CameNext (x ∷ l) o b.request (begins_with (x ∷ l) o) rs r
next-from x l o b rs h r legal opened ih None is e =
    let none = replies-none l o legal.0 is in
    absurd (no-part rs h r (sym (unawaited-stays x l o none.0 ∙ none.1) ∙ e))
next-from x l o b rs h r legal opened ih (Some c) is e =
    let same : c ≡ b = some-is _ _ (sym (begun-keeps x l o c is) ∙ opened) in
    subst (λ (hs : List Reply). CameNext (x ∷ l) o b.request hs rs r) (sym (begins-keeps x l o c is))
    (subst (λ (b : Begun). CameNext (x ∷ l) o b.request (begins_with l o) rs r) same (next-step x l o c rs h r legal is (λ h. ih c h is) (turn l o x) refl e))

pub came-next : (l : List Noted) (o : ℕ) (b : Begun) (rs h : List Reply) (r : Reply) → Legal l → begun l o ≡ Some b
    → replies l o ≡ rs ++ r ∷ h → CameNext l o b.request (begins_with l o) rs r
came-next [] o b rs h r legal opened e = cc
came-next (x ∷ older) o b rs h r legal opened e =
    next-from x older o b rs h r legal opened (λ c h is f. came-next older o c rs h r legal.0 is f) (begun older o) refl e

-- What comes after the first of a list, behind what that begins with.
pub record Behind (hs xs front rest : List Reply) (r : Reply) : Type 0 where
  pub middle : List Reply
  pub front_is : front ≡ hs ++ middle
  pub all : xs ≡ middle ++ r ∷ rest

behind : (hs xs front rest : List Reply) (r : Reply) → length hs ≤ length front → hs ++ xs ≡ front ++ r ∷ rest → Behind hs xs front rest r
behind [] xs front rest r le e = record { middle = front; front_is = refl; all = e }
behind (h ∷ hs) xs [] rest r le e = absurd (omega (arith, le))
behind (h ∷ hs) xs (f ∷ front) rest r le e =
    let it = behind hs xs front rest r (omega (arith, le)) (tail e) in
    record { middle = it.middle; front_is = ap (λ (v : List Reply). f ∷ v) it.front_is ∙ ap (λ (v : Reply). v ∷ (hs ++ it.middle)) (sym (head e)); all = it.all }
  where
    head : h ∷ (hs ++ xs) ≡ f ∷ (front ++ r ∷ rest) → h ≡ f
    head e = cc

    tail : h ∷ (hs ++ xs) ≡ f ∷ (front ++ r ∷ rest) → hs ++ xs ≡ front ++ r ∷ rest
    tail e = cc

-- What is fetched is asked for in order.

is-fetched : (l : List Noted) (o k : ℕ) (q : CoapRequest) (hs rs : List Reply) (p : PiecesValue) (got : List Reply) (r : Reply)
    → CameNext l o q hs rs r → progress q (hs ++ rs) ≡ Fetches k p got → IsFetched l o q (block_after p) r
is-fetched l o k q hs rs p got r h e =
    let message : asking h.manner q (block_after p) h.message.mid h.message.token ≡ h.message =
    some-is _ _ (sym (ap (λ (u : Progress). next_message h.manner q u h.message.mid h.message.token) e) ∙ h.next) in
    record {
      fits = h.fits;
      moment = h.moment;
      mid = h.message.mid;
      token = h.message.token;
      manner = h.manner;
      first = subst (λ (m : Content). IsFirst l h.moment o r.sending q.peer m) (sym message) h.first;
    }

fetched-from : (l : List Noted) (o : ℕ) (b : Begun) (before ws g rest : List Reply) → Legal l → begun l o ≡ Some b
    → heard_for l o ≡ before ++ ws → ws ≡ g ++ rest → length (begins_with l o) ≤ length (before ++ g) → AreAsked b.request before ws
    → AreFetched l o b.request (Fetched (pieces_in g)) rest
fetched-from l o b before ws g [] legal opened split is long asked = tt
fetched-from l o b before ws g (r ∷ rest) legal opened split is long asked =
    let at_it = asked g rest r is in
    let here : begins_with l o ++ replies l o ≡ (before ++ g) ++ r ∷ rest =
    split ∙ (ap (λ (v : List Reply). before ++ v) is ∙ sym (append_assoc before g (r ∷ rest))) in
    let it = behind (begins_with l o) (replies l o) (before ++ g) rest r long here in
    let so : progress b.request (begins_with l o ++ it.middle) ≡ Fetches at_it.0 (pieces_in g) g = ap (progress b.request) (sym it.front_is) ∙ at_it.1 in
    let more : pieces_in (g ++ r ∷ []) ≡ with_piece (pieces_in g) r.message =
    ap (fold with_piece no_pieces) (messages-push g r) ∙ fold-push no_pieces (messages g) r.message in
    let longer : length (begins_with l o) ≤ length (before ++ (g ++ r ∷ [])) =
    let all = length-append (before ++ g) (r ∷ []) in
    let same = ap (λ (v : List Reply). length v) (append_assoc before g (r ∷ [])) in
    omega (arith, long, all, same) in (
      is-fetched l o at_it.0 b.request (begins_with l o) it.middle (pieces_in g) g r (came-next l o b it.middle rest r legal opened it.all) so,
      subst (λ (p : PiecesValue). AreFetched l o b.request (Fetched p) rest) more
          (fetched-from l o b before ws (g ++ r ∷ []) rest legal opened split (is ∙ sym (append_assoc g (r ∷ []) rest)) longer asked),
    )

-- So is what goes of a body.
is-given : (l : List Noted) (o : ℕ) (q : CoapRequest) (rs : List Reply) (u : UploadValue) (r : Reply)
    → CameNext l o q [] rs r → progress q rs ≡ Gives u rs → IsFetched l o q (next_block u) r
is-given l o q rs u r h e =
    let message : asking Plainly q (next_block u) h.message.mid h.message.token ≡ h.message =
    asking-plain q (next_block u) h.message.mid h.message.token
    ∙ some-is _ _ (sym (ap (λ (u : Progress). next_message h.manner q u h.message.mid h.message.token) e) ∙ h.next) in
    record {
      fits = h.fits;
      moment = h.moment;
      mid = h.message.mid;
      token = h.message.token;
      manner = Plainly;
      first = subst (λ (m : Content). IsFirst l h.moment o r.sending q.peer m) (sym message) h.first;
    }

given-from : (l : List Noted) (o : ℕ) (b : Begun) (ws g rest : List Reply) → Legal l → begun l o ≡ Some b → begins_with l o ≡ []
    → replies l o ≡ ws → ws ≡ g ++ rest → AreGiven b.request ws → AreFetched l o b.request (Given (upload_in b.request g)) rest
given-from l o b ws g [] legal opened none all is asked = tt
given-from l o b ws g (r ∷ rest) legal opened none all is asked =
    let came : CameNext l o b.request [] g r = subst (λ (hs : List Reply). CameNext l o b.request hs g r) none (came-next l o b g rest r legal opened (all ∙ is)) in
    let more : upload_in b.request (g ++ r ∷ []) ≡ next_of (upload_in b.request g) r.message =
    ap (fold next_of (begun_as (length b.request.body) 6)) (messages-push g r) ∙ fold-append next_of (begun_as (length b.request.body) 6) (messages g) (r.message ∷ []) in (
      is-given l o b.request g (upload_in b.request g) r came (asked g rest r is),
      subst (λ (u : UploadValue). AreFetched l o b.request (Given u) rest) more
          (given-from l o b ws (g ++ r ∷ []) rest legal opened none all (is ∙ sym (append_assoc g (r ∷ []) rest)) asked),
    )

-- What a write was opened by is an ask.
pub write-begins : (l : List Noted) (o : ℕ) (b : Begun) → Legal l → begun l o ≡ Some b → eqb b.request.method 1 ≡ false → begins_with l o ≡ []
write-begins l o b legal opened write = elim (opened-for l o b legal opened) [
  | inl it ↦ ask-begins l o b legal it
  | inr it ↦ absurd (false≢true (sym write ∙ (and_parts (eqb b.request.method 1) _ (started l o b legal it).get).0))
]

-- The pieces that a whole response is made of were fetched in order, but the first where that is what the exchange begins with.
pub record FetchedOn (l : List Noted) (o : ℕ) (q : CoapRequest) (ws : List Reply) : Type 0 where
  pub first : Reply
  pub more : List Reply
  pub are : ws ≡ first ∷ more
  pub begins : begins_with l o ≡ first ∷ []
  pub fetched : AreFetched l o q (point_after (first_point q) first.message) more

abbrev pub Ordered : List Noted → ℕ → CoapRequest → List Reply → Type 0
Ordered l o q ws = AreFetched l o q (first_point q) ws ⊎ FetchedOn l o q ws

module _ (l : List Noted) (o : ℕ) (b : Begun) (w : Response) (ws : List Reply) (legal : Legal l) (opened : begun l o ≡ Some b)
    (made : IsMadeOf b.request (heard_for l o) w ws) (get : eqb b.request.method 1 ≡ true) where
  from-all : length (begins_with l o) ≤ length made.before → AreFetched l o b.request (first_point b.request) ws
  from-all long =
      let same = ap (λ (v : List Reply). length v) (append-nil made.before) in
      rw (get) (fetched-from l o b made.before ws [] ws legal opened made.split refl (omega (arith, long, same)) (made.asked get))

  from-first : (it : StartedFor l o b) → made.before ≡ [] → FetchedOn l o b.request ws
  from-first it none =
      let r : Reply = first_of l o b it in
      let begins = notice-begins l o b it in
      let are : ws ≡ r ∷ replies l o =
      sym (ap (λ (v : List Reply). v ++ ws) none) ∙ (sym made.split ∙ ap (λ (hs : List Reply). hs ++ replies l o) begins) in
      let short : length (begins_with l o) ≤ length (made.before ++ r ∷ []) =
      let all = length-append made.before (r ∷ []) in
      let one = ap (λ (v : List Reply). length v) begins in
      omega (arith, all, one) in
      record {
        first = r;
        more = replies l o;
        are = are;
        begins = begins;
        fetched = rw (get) (fetched-from l o b made.before ws (r ∷ []) (replies l o) legal opened made.split are short (made.asked get));
      }

  got-in-order : Ordered l o b.request ws
  got-in-order = elim (opened-for l o b legal opened) [
    | inl it ↦ inl (from-all (let none = ap (λ (v : List Reply). length v) (ask-begins l o b legal it) in omega (arith, none)))
    | inr it ↦ by it made.before refl
  ]
    where
      by : (it : StartedFor l o b) → (front : List Reply) → made.before ≡ front → Ordered l o b.request ws
      by it [] is = inr (from-first it is)
      by it (y ∷ front) is =
          let some = ap (λ (v : List Reply). length v) is in
          let one = ap (λ (v : List Reply). length v) (notice-begins l o b it) in
          inl (from-all (omega (arith, some, one)))

made-in-order : (l : List Noted) (o : ℕ) (b : Begun) (w : Response) (ws : List Reply) → Legal l → begun l o ≡ Some b
    → IsMadeOf b.request (heard_for l o) w ws → Ordered l o b.request ws
made-in-order l o b w ws legal opened made = by (eqb b.request.method 1) refl
  where
    by : (c : Bool) → eqb b.request.method 1 ≡ c → Ordered l o b.request ws
    by true is = got-in-order l o b w ws legal opened made is
    by false is =
        let it = made.given is in
        let none = write-begins l o b legal opened is in
        let all : replies l o ≡ ws = sym (ap (λ (hs : List Reply). hs ++ replies l o) none) ∙ (made.split ∙ ap (λ (v : List Reply). v ++ ws) it.0) in
        inl (rw (is) (given-from l o b ws [] ws legal opened none all refl it.1))

IsFetched-keeps : (x : Noted) (l : List Noted) (o : ℕ) (q : CoapRequest) (block : _) (r : Reply) → IsFetched l o q block r → IsFetched (x ∷ l) o q block r
IsFetched-keeps x l o q block r h = record {
  fits = IsReplyTo-keeps x l o r h.fits;
  moment = h.moment;
  mid = h.mid;
  token = h.token;
  manner = h.manner;
  first = IsFirst-keeps x l h.moment o r.sending q.peer _ h.first;
}

AreFetched-keeps : (x : Noted) (l : List Noted) (o : ℕ) (q : CoapRequest) (p : Point) (rs : List Reply) → AreFetched l o q p rs → AreFetched (x ∷ l) o q p rs
AreFetched-keeps x l o q p [] h = tt
AreFetched-keeps x l o q p (r ∷ rs) h =
    (IsFetched-keeps x l o q (block_for p) r h.0, AreFetched-keeps x l o q (point_after p r.message) rs h.1)

Ordered-keeps : (x : Noted) (l : List Noted) (o : ℕ) (b : Begun) (ws : List Reply) → begun l o ≡ Some b → Ordered l o b.request ws → Ordered (x ∷ l) o b.request ws
Ordered-keeps x l o b ws opened (inl h) = inl (AreFetched-keeps x l o b.request (first_point b.request) ws h)
Ordered-keeps x l o b ws opened (inr h) = inr (record {
  first = h.first;
  more = h.more;
  are = h.are;
  begins = begins-keeps x l o b opened ∙ h.begins;
  fetched = AreFetched-keeps x l o b.request (point_after (first_point b.request) h.first.message) h.more h.fetched;
})

-- It ended before, or now.
ordered-step : (x : Noted) (l : List Noted) (o e : ℕ) (b : Begun) (w : Response) (ws : List Reply) → Legal (x ∷ l) → begun (x ∷ l) o ≡ Some b
    → ((c : Begun) → begun l o ≡ Some c → EndsAs l o e (Whole w ws) → Ordered l o c.request ws)
    → (how : Option Ending) → end_here (begun l o) (kept l o) (length l) (heard_for l o) (turn l o x) ≡ how → (old : Option End) → end_of l o ≡ old
    → end_by how (length l) old ≡ Some (record { number = e; how = Whole w ws }) → Ordered (x ∷ l) o b.request ws
ordered-step x l o e b w ws legal opened ih how is (Some f) was h = by (begun l o) refl
  where
    same : (how : Option Ending) → end_by how (length l) (Some f) ≡ Some f
    same None = refl
    same (Some how) = refl

    old : end_of l o ≡ Some (record { number = e; how = Whole w ws })
    old = was ∙ (sym (same how) ∙ h)

    by : (c : Option Begun) → begun l o ≡ c → Ordered (x ∷ l) o b.request ws
    by None none = absurd (none-some _ (sym (unbegun l o legal.0 none).1 ∙ old))
    by (Some c) begins =
        subst (λ (b : Begun). Ordered (x ∷ l) o b.request ws) (some-is _ _ (sym (begun-keeps x l o c begins) ∙ opened))
        (Ordered-keeps x l o c ws begins (ih c begins old))
ordered-step x l o e b w ws legal opened ih None is None was h = absurd (none-some _ h)
ordered-step x l o e b w ws legal opened ih (Some how) is None was h =
    let whole : how ≡ Whole w ws = ap (λ (f : End). f.how) (some-is _ _ h) in
    let m = made-turn (begun l o) (kept l o) (length l) (heard_for l o) (turn l o x) w ws (goes-so l o legal.0 was) (is ∙ ap (λ (v : Ending). Some v) whole) in
    let same : m.exchange ≡ b = some-is _ _ (sym (begun-keeps x l o m.exchange m.asked) ∙ opened) in
    let all : heard_for l o ++ record { number = length l; sending = m.sending; message = m.message } ∷ [] ≡ heard_for (x ∷ l) o =
    sym (heard-push x l o m.sending m.message m.place m.exchange m.asked m.is) in
    made-in-order (x ∷ l) o b w ws legal opened
    (subst (λ (v : List Reply). IsMadeOf b.request v w ws) all (subst (λ (b : Begun). IsMadeOf b.request
    (heard_for l o ++ record { number = length l; sending = m.sending; message = m.message } ∷ []) w ws) same m.made))

pub ordered : (l : List Noted) (o e : ℕ) (b : Begun) (w : Response) (ws : List Reply) → Legal l → begun l o ≡ Some b
    → EndsAs l o e (Whole w ws) → Ordered l o b.request ws
ordered [] o e b w ws legal opened h = cc
ordered (x ∷ older) o e b w ws legal opened h =
    ordered-step x older o e b w ws legal opened (λ c is f. ordered older o e c w ws legal.0 is f)
    (end_here (begun older o) (kept older o) (length older) (heard_for older o) (turn older o x)) refl (end_of older o) refl h
