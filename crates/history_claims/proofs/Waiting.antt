-- While an exchange waits for a reply, none has come to its message; and which of its messages is the latest.
use Rattle.std.proofs.Common.{◌≡◌, ◌⊎◌, ℕ, ◌<◌, ◌≤◌, Bool, true, false, ◌&&◌, ◌||◌, eqb, leb, inl, inr, List, [], ◌∷◌, ◌++◌, length, Option, Some, None, refl, sym, ap, subst, ◌∙◌, arith}
use Rattle.std.specs.Prelude.{is_some, is_none, find, option_map}
use Rattle.std.specs.List.{list_any, filter_map, cons_option, Contains}
use Rattle.std.proofs.lemmas.List.Elements.{Contains-push_cases}
use Rattle.std.proofs.lemmas.Bool.Decides.{eqb_tells}
use Rattle.std.proofs.lemmas.Bool.{false≢true, le-leb}
use Rattle.coap_codec.specs.declared.message.MsgType.{MsgType}
use Rattle.coap_codec.specs.declared.message.MsgType.TheVariants.{Con, Non, Ack, Rst}
use Rattle.coap_codec.specs.declared.block.Block.{Block}
use Rattle.coap_codec.specs.Spelling.{Content}
use Rattle.uri_map.specs.declared.peer.Peer.{Peer}
use Rattle.ask_model.specs.Requests.{CoapRequest, Manner, Plainly, Observing, Validating, asking}
use Rattle.journal_book.specs.Entries.{Deed, Hears, Sends, Carries, Written}
use Rattle.journal_book.specs.Entries as D
use Rattle.history_laws.specs.Readings.{Noted, Note, First, Says, Bygone, Notice, entries, at, before, noted}
use Rattle.history_laws.specs.Progress.{Reply, Reset, TimedOut}
use Rattle.history_laws.specs.Transmissions.{FirstSending, firsts_by, firsts, sent_last}
use Rattle.history_laws.specs.Exchanges.{Begun, begun, openings, Turn, Nothing, Sent, Replied, Rejected, Expired, answered_by, heard_turn, turn, waits_by, waits_for, replies_by, replies, kept, end_here, end_of, awaited, heard_for}
use Rattle.history_laws.specs.Hearing.{IsReplyKind, is_under, is_as, open_at, answers_by, answers, expected}
use Rattle.history_laws.specs.Justified.{MaySay, Follows, Legal}
use Rattle.history_laws.specs.Laws.{IsFirst, IsReplyTo, IsFetched}
use Rattle.history_laws.proofs.CallerLemmas.{at-before, at-below, at-keeps, at-new, at-old, at-same, at-still, before-keeps, before-new, before-twice, begun-listed, contains-none, eqb-itself, find-any, find-some, first-or-later, going-before, IsFirst-below, IsFirst-old, legal-before, length-before, none-is, none-some, sent-for, some-is, turn-replied, turn-sent}
use Rattle.history_claims.specs.Headline.{BringsResponse, IsResponse, IsNew, IsUnanswered, IsHeardFor}
use Rattle.history_claims.specs.Causes.{IsReplyFor}
use Rattle.history_claims.proofs.Sending.{first-before, sent-as, sent-block}
use Rattle.history_claims.proofs.Repeats.{heard-at, heard-entry, says-new, repeats-again}
use Rattle.history_claims.proofs.Settling.{under-true, as-true, under-is}
use Rattle.history_laws.specs.Observing.{watched}

-- what an exchange waits for is awaited
or-left : (b : Bool) → (true || b) ≡ true
or-left b = refl

or-right : (a b : Bool) → b ≡ true → (a || b) ≡ true
or-right true b h = refl
or-right false b h = h

any-mapped : (f : ℕ → Option ℕ) (p : ℕ → Bool) (xs : List ℕ) (x y : ℕ) → Contains xs x → f x ≡ Some y → p y ≡ true → list_any p (filter_map f xs) ≡ true
any-mapped f p [] x y h e is = absurd (contains-none x h)
any-mapped f p (z ∷ xs) x y h e is =
    elim (first-or-later z xs x h) [
      | inl w ↦ here (f z) (ap f w ∙ e)
      | inr w ↦ later (f z) (any-mapped f p xs x y w e is)
    ]
  where
    here : (o : Option ℕ) → o ≡ Some y → list_any p (cons_option o (filter_map f xs)) ≡ true
    here None g = absurd (none-some y g)
    here (Some v) g = subst (λ (v : ℕ). list_any p (v ∷ filter_map f xs) ≡ true) (sym (some-is v y g)) (rw is (or-left (list_any p (filter_map f xs))))

    later : (o : Option ℕ) → list_any p (filter_map f xs) ≡ true → list_any p (cons_option o (filter_map f xs)) ≡ true
    later None h = h
    later (Some v) h = or-right (p v) _ h

any-more : (p : ℕ → Bool) (xs ys : List ℕ) → list_any p xs ≡ true → list_any p (xs ++ ys) ≡ true
any-more p [] ys h = absurd (false≢true h)
any-more p (x ∷ xs) ys h = go (p x) h (any-more p xs ys)
  where
    go : (b : Bool) → (b || list_any p xs) ≡ true → (list_any p xs ≡ true → list_any p (xs ++ ys) ≡ true) → (b || list_any p (xs ++ ys)) ≡ true
    go true h ih = refl
    go false h ih = ih h

found-one : (p : ℕ → Bool) (xs : List ℕ) (i : ℕ) → list_any p xs ≡ true → ((j : ℕ) → p j ≡ true → j ≡ i) → find p xs ≡ Some i
found-one p xs i h only =
    let it = find-any p xs h in
    it.1 ∙ ap (λ (j : ℕ). Some j) (only it.0 (find-some p xs it.0 it.1).1)

-- a response under the token of what is awaited answers that
module _ (l : List Noted) (t o i : ℕ) (p : Peer) (sent : Content) (legal : Legal l) (f : IsFirst l t o i p sent) (waits : waits_for l o ≡ Some i)
    (m : Content) (token : m.token ≡ sent.token) where
  under : is_under l p m i ≡ true
  under = under-true l t o i p sent m f token

  any-awaited : (q : ℕ → Bool) → q i ≡ true → list_any q (awaited l) ≡ true
  any-awaited q is =
      let opened : is_some (begun l o) ≡ true = ap is_some (sent-for l t o i p sent legal f).opened in
      any-mapped (waits_for l) q (openings l) o i (begun-listed l o opened) waits is

  by-token : find (is_under l p m) (expected l) ≡ Some i
  by-token =
      found-one (is_under l p m) (expected l) i (any-more (is_under l p m) (awaited l) (watched l) (any-awaited (is_under l p m) under))
      (λ j h. under-is l t o i j p sent m legal f token h)

  abbrev Both : ℕ → Bool
  Both j = is_under l p m j && is_as l p m j

  both-under : (j : ℕ) (a b : Bool) → (a && b) ≡ true → a ≡ true
  both-under j true b h = refl
  both-under j false b h = absurd (false≢true h)

  by-both : m.mid ≡ sent.mid → find Both (awaited l ++ open_at l p) ≡ Some i
  by-both mid =
      let is : Both i ≡ true = rw under (as-true l t o i p sent m f mid) in
      found-one Both (awaited l ++ open_at l p) i (any-more Both (awaited l) (open_at l p) (any-awaited Both is))
      (λ j h. under-is l t o i j p sent m legal f token (both-under j (is_under l p m j) (is_as l p m j) h))

  by-kind : (k : MsgType) (vain : Bool) → BringsResponse k m.mid sent.mid → answers_by l p m k vain true ≡ Some i
  by-kind Con vain h = by-token
  by-kind Non vain h = by-token
  by-kind Ack true h = by-both h
  by-kind Ack false h = by-both h
  by-kind Rst vain h = absurd h

  answers-it : 32 ≤ m.code → BringsResponse m.kind m.mid sent.mid → answers l p m ≡ Some i
  answers-it response kind =
      subst (λ (b : Bool). answers_by l p m m.kind (eqb m.code 0) b ≡ Some i) (sym (le-leb 32 m.code response)) (by-kind m.kind (eqb m.code 0) kind)

-- so it is a reply, and the exchange waits no more
by-response : (i : ℕ) (m : Content) (place : Bool) (k : MsgType) (sent : ℕ) → BringsResponse k m.mid sent → leb 32 m.code ≡ true
    → answered_by i m place k ≡ Replied i m place
by-response i m place Con sent h e = rw e refl
by-response i m place Non sent h e = rw e refl
by-response i m place Ack sent h e = rw e refl
by-response i m place Rst sent h e = absurd h

nothing-replied : (i : ℕ) (m : Content) (place : Bool) → Nothing ≡ Replied i m place → ⊥
nothing-replied i m place e = cc

reply-turn : (l : List Noted) (o i s : ℕ) (p : Peer) (b : List ℕ) (m : Content) (notice : Notice) (sent : ℕ) → waits_for l o ≡ Some i
    → BringsResponse m.kind m.mid sent → 32 ≤ m.code → turn l o (noted s (Hears p b) (Says m (Some i) notice)) ≡ Replied i m notice.place
reply-turn l o i s p b m notice sent waits kind response =
    subst (λ (w : Option ℕ). heard_turn i m notice.place w ≡ Replied i m notice.place) (sym waits)
    (rw (eqb-itself i) (by-response i m notice.place m.kind sent kind (le-leb 32 m.code response)))

says-to : (m : Content) (i j : Option ℕ) (u v : Notice) → Says m i u ≡ Says m j v → i ≡ j
says-to m i j u v e = cc

-- It doesn't wait where such a response came.
record Came (l : List Noted) (p : Peer) (i : ℕ) (sent : Content) (j : ℕ) : Type 0 where
  moment : ℕ
  bytes : List ℕ
  message : Content
  to : Option ℕ
  notice : Notice
  stands : at l j ≡ Some (noted moment (Hears p bytes) (Says message to notice))
  response : 32 ≤ message.code
  token : message.token ≡ sent.token
  kind : BringsResponse message.kind message.mid sent.mid

came-here : (l : List Noted) (t o i : ℕ) (p : Peer) (sent : Content) (j : ℕ) (x : Noted) → Legal (x ∷ l) → IsFirst l t o i p sent
    → waits_for l o ≡ Some i → turn l o x ≡ Nothing → (c : Came (x ∷ l) p i sent j) → x ≡ noted c.moment (Hears p c.bytes) (Says c.message c.to c.notice) → ⊥
came-here l t o i p sent j x legal f waits idle c is =
    let may : Follows l c.moment (Hears p c.bytes) (Says c.message c.to c.notice) =
    subst (λ (v : Noted). Follows l v.written.moment v.written.deed v.note) is legal.2 in
    let says : MaySay l c.moment p c.bytes (Says c.message c.to c.notice) c.message = may.3 in
    let to : c.to ≡ Some i = says-to _ _ _ _ _ says.says ∙ answers-it l t o i p sent legal.0 f waits c.message c.token c.response c.kind in
    let none : turn l o (noted c.moment (Hears p c.bytes) (Says c.message (Some i) c.notice)) ≡ Nothing =
    subst (λ (to : Option ℕ). turn l o (noted c.moment (Hears p c.bytes) (Says c.message to c.notice)) ≡ Nothing) to
    (subst (λ (x : Noted). turn l o x ≡ Nothing) is idle) in
    nothing-replied i c.message c.notice.place (sym none ∙ reply-turn l o i c.moment p c.bytes c.message c.notice sent.mid waits c.kind c.response)

none-came : (l : List Noted) (t o i : ℕ) (p : Peer) (sent : Content) (j : ℕ) → Legal l → IsFirst l t o i p sent → waits_for l o ≡ Some i → i < j
    → Came l p i sent j → ⊥
none-came [] t o i p sent j legal f waits lt c = none-some i waits
none-came (x ∷ older) t o i p sent j legal f waits lt c =
    elim (IsFirst-old x older t o i p sent f) [
      | inl u ↦ let place = u.0 in let below = at-below (x ∷ older) j _ c.stands in absurd (omega (arith, place, below, lt))
      | inr u ↦ go u (turn older o x) refl waits (λ w d. none-came older t o i p sent j legal.0 u w lt d)
    ]
  where
    go : IsFirst older t o i p sent → (w : Turn) → turn older o x ≡ w → waits_by w (waits_for older o) ≡ Some i
        → (waits_for older o ≡ Some i → Came older p i sent j → ⊥) → ⊥
    go u Nothing is e ih =
        elim (at-old x older j _ c.stands) [
          | inl v ↦ came-here older t o i p sent j x legal u e is c v.1
          | inr v ↦ ih e (record {
            moment = c.moment;
            bytes = c.bytes;
            message = c.message;
            to = c.to;
            notice = c.notice;
            stands = v;
            response = c.response;
            token = c.token;
            kind = c.kind;
          })
        ]
    go u (Sent k) is e ih =
        let here = (turn-sent older o x k is).here in
        let same = some-is k i e in
        let below = IsFirst-below older t o i p sent u in
        absurd (omega (arith, here, same, below))
    go u (Replied k m place) is e ih = none-some i e
    go u Rejected is e ih = none-some i e
    go u Expired is e ih = none-some i e

-- Till an entry before which it waits, only repeats came.
pub unanswered-till : (l : List Noted) (e : ℕ) (x : Noted) (t o i : ℕ) (p : Peer) (sent : Content) → Legal l → Legal (before l e) → at l e ≡ Some x
    → IsFirst (before l e) t o i p sent → waits_for (before l e) o ≡ Some i → IsUnanswered (entries l) p i sent e
unanswered-till l e x t o i p sent legal early here f waits j m lt r =
    elim (heard-at l p j r.moment m legal r.heard) [
      | inl s ↦
          absurd (none-came (before l e) t o i p sent j early f waits r.after
          (record {
            moment = r.moment;
            bytes = s.bytes;
            message = m;
            to = s.to;
            notice = s.notice;
            stands = at-still l e j x _ here lt s.stands;
            response = r.response;
            token = r.token;
            kind = r.kind;
          }))
      | inr s ↦ repeats-again l p j r.moment m legal s
    ]

-- Of the first sendings of an exchange the latest is the newest.
last-cases : (n t o : ℕ) (d : Deed) (note : Note) (old : List FirstSending)
    → (option_map (λ (f : FirstSending). f.number) (find (λ (f : FirstSending). eqb f.opening o) (firsts_by n t d note old)) ≡ Some n)
    ⊎ (option_map (λ (f : FirstSending). f.number) (find (λ (f : FirstSending). eqb f.opening o) (firsts_by n t d note old))
    ≡ option_map (λ (f : FirstSending). f.number) (find (λ (f : FirstSending). eqb f.opening o) old))
last-cases n t o (Sends p b w) (First q m) old = elim (eqb_tells q o) [ inl u ↦ inl (rw (u.0) refl) | inr u ↦ inr (rw (u.0) refl) ]
last-cases n t o (Carries k mark (D.Sent p b w)) (Bygone m) old = elim (eqb_tells n o) [ inl u ↦ inl (rw (u.0) refl) | inr u ↦ inr (rw (u.0) refl) ]
last-cases n t o (Carries k mark (D.Sent p b w)) (First q m) old = elim (eqb_tells q o) [ inl u ↦ inl (rw (u.0) refl) | inr u ↦ inr (rw (u.0) refl) ]
last-cases n t o d note old = inr refl

last-new : (l : List Noted) (t o : ℕ) (p : Peer) (b : List ℕ) (w : Option ℕ) (m : Content)
    → sent_last (noted t (Sends p b w) (First o m) ∷ l) o ≡ Some (length l)
last-new l t o p b w m = rw (eqb-itself o) refl

pub last-newest : (l : List Noted) (t o i j : ℕ) (p : Peer) (m : Content) → sent_last l o ≡ Some j → IsFirst l t o i p m → i ≤ j
last-newest [] t o i j p m e f = absurd (none-some j e)
last-newest (x ∷ older) t o i j p m e f =
    elim (IsFirst-old x older t o i p m f) [
      | inl u ↦
          let here : sent_last (x ∷ older) o ≡ Some (length older) =
          subst (λ (v : Noted). sent_last (v ∷ older) o ≡ Some (length older)) (sym u.1.2) (last-new older t o p u.1.0 u.1.1 m) in
          let same = some-is _ _ (sym here ∙ e) in
          let place = u.0 in
          omega (arith, place, same)
      | inr u ↦ elim (last-cases (length older) x.written.moment o x.written.deed x.note (firsts older)) [
        | inl here ↦
            let same = some-is _ _ (sym here ∙ e) in
            let below = IsFirst-below older t o i p m u in
            omega (arith, below, same)
        | inr same ↦ last-newest older t o i j p m (sym same ∙ e) u
      ]
    ]

-- The newest message of an exchange that goes on is waited for, or its reply came last of all.
abbrev pub IsLatest : Option ℕ → List Reply → ℕ → Type 0
IsLatest w rs j =
    (w ≡ Some j) ⊎ ((others : List Reply) × (last : Reply) × (rs ≡ others ++ last ∷ []) × (last.sending ≡ j) × (w ≡ None))

latest-step : (x : Noted) (l : List Noted) (o j : ℕ) (u : Turn) → turn l o x ≡ u → end_here (begun l o) (kept l o) (length l) (heard_for l o) u ≡ None
    → ((i : ℕ) → u ≡ Sent i → ⊥) → IsLatest (waits_for l o) (replies l o) j → IsLatest (waits_by u (waits_for l o)) (replies_by (length l) u (replies l o)) j
latest-step x l o j Nothing is going unsent h = h
latest-step x l o j (Sent i) is going unsent h = absurd (unsent i refl)
latest-step x l o j (Replied i m place) is going unsent (inl w) =
    inr (replies l o, record { number = length l; sending = i; message = m }, refl, some-is _ _ (sym (turn-replied l o x i m place is).waited ∙ w), refl)
latest-step x l o j (Replied i m place) is going unsent (inr w) = absurd (none-some i (sym w.4 ∙ (turn-replied l o x i m place is).waited))
latest-step x l o j Rejected is going unsent h = absurd (none-is Reset going)
latest-step x l o j Expired is going unsent h = absurd (none-is TimedOut going)

pub latest : (l : List Noted) (t o j : ℕ) (p : Peer) (m : Content) → IsFirst l t o j p m → end_of l o ≡ None
    → ((s i : ℕ) (q : Peer) (n : Content) → IsFirst l s o i q n → i ≤ j) → IsLatest (waits_for l o) (replies l o) j
latest [] t o j p m f going newest = absurd (none-some _ f.stands)
latest (x ∷ older) t o j p m f going newest =
    elim (IsFirst-old x older t o j p m f) [
      | inl u ↦ inl (subst (λ (v : Noted). waits_for (v ∷ older) o ≡ Some j) (sym u.1.2) (waits-new u.1.0 u.1.1 ∙ ap (λ (n : ℕ). Some n) (sym u.0)))
      | inr u ↦
          let was = going-before x older o (ap is_none going) in
          let below = IsFirst-below older t o j p m u in
          latest-step x older o j (turn older o x) refl was.0
          (λ i is.
          let it = turn-sent older o x i is in
          let new = newest x.written.moment (length older) it.peer it.message
          (record { bytes = it.bytes; timeout = it.timeout; stands = at-new x older ∙ ap (λ (v : Noted). Some v) it.entry }) in
          absurd (omega (arith, new, below)))
          (latest older t o j p m u was.1
          (λ s i q n g. newest s i q n (record { bytes = g.bytes; timeout = g.timeout; stands = at-keeps x older i _ g.stands })))
    ]
  where
    waits-new : (b : List ℕ) (w : Option ℕ) → waits_for (noted t (Sends p b w) (First o m) ∷ older) o ≡ Some (length older)
    waits-new b w = rw (eqb-itself o) refl

-- It waited for each of its replies.
abbrev Waited : List Noted → ℕ → Reply → Type 0
Waited l o r = (waits_for (before l r.number) o ≡ Some r.sending) × (r.number < length l)

waited-step : (x : Noted) (l : List Noted) (o : ℕ) (r : Reply) → (Contains (replies l o) r → Waited l o r) → (u : Turn) → turn l o x ≡ u
    → Contains (replies_by (length l) u (replies l o)) r → Waited (x ∷ l) o r
waited-step x l o r ih (Replied i m place) is h =
    elim (Contains-push_cases (replies l o) _ r h) [
      | inl w ↦ waited-keeps w
      | inr w ↦ subst (Waited (x ∷ l) o) w (rw (before-new x l) ((turn-replied l o x i m place is).waited), omega arith)
    ]
  where
    waited-keeps : Contains (replies l o) r → Waited (x ∷ l) o r
    waited-keeps w = let it = ih w in let below = it.1 in (rw (before-keeps x l r.number below) (it.0), omega (arith, below))
waited-step x l o r ih Nothing is h = let it = ih h in let below = it.1 in (rw (before-keeps x l r.number below) (it.0), omega (arith, below))
waited-step x l o r ih (Sent i) is h = let it = ih h in let below = it.1 in (rw (before-keeps x l r.number below) (it.0), omega (arith, below))
waited-step x l o r ih Rejected is h = let it = ih h in let below = it.1 in (rw (before-keeps x l r.number below) (it.0), omega (arith, below))
waited-step x l o r ih Expired is h = let it = ih h in let below = it.1 in (rw (before-keeps x l r.number below) (it.0), omega (arith, below))

waited-all : (l : List Noted) (o : ℕ) (r : Reply) → Contains (replies l o) r → Waited l o r
waited-all [] o r h = absurd (contains-none r h)
waited-all (x ∷ older) o r h = waited-step x older o r (waited-all older o r) (turn older o x) refl h

pub reply-waited : (l : List Noted) (o : ℕ) (r : Reply) → Contains (replies l o) r → waits_for (before l r.number) o ≡ Some r.sending
reply-waited l o r h = (waited-all l o r h).0

-- So a reply to an exchange is the reply that was heard for its request.
pub brings : (k : MsgType) (mid sent : ℕ) → IsReplyKind k mid sent → BringsResponse k mid sent
brings Con mid sent h = tt
brings Non mid sent h = tt
brings Ack mid sent h = h
brings Rst mid sent h = absurd h

-- What a message asks, it asks with its own ID and token.
pub asks-own : (f : Manner) (q : CoapRequest) (block : Option Block) (mid : ℕ) (token : List ℕ) (m : Content) → asking f q block mid token ≡ m
    → m ≡ asking f q block m.mid m.token
asks-own Observing q None mid token m e = subst (λ (m : Content). m ≡ asking Observing q None m.mid m.token) e refl
asks-own Plainly q None mid token m e = subst (λ (m : Content). m ≡ asking Plainly q None m.mid m.token) e refl
asks-own (Validating tag) q None mid token m e = subst (λ (m : Content). m ≡ asking (Validating tag) q None m.mid m.token) e refl
asks-own f q (Some b) mid token m e = subst (λ (m : Content). m ≡ asking f q (Some b) m.mid m.token) e refl

messages-same : (s t : ℕ) (p r : Peer) (b c : List ℕ) (v w : Option ℕ) (o i : ℕ) (m n : Content)
    → noted s (Sends p b v) (First o m) ≡ noted t (Sends r c w) (First i n) → m ≡ n
messages-same s t p r b c v w o i m n e = go (ap (λ (x : Noted). x.note) e)
  where
    go : First o m ≡ First i n → m ≡ n
    go f = cc

abbrev pub IsReplySo : (h : List Written) (k : ℕ) (q : CoapRequest) (block : Option Block) (r : Reply) (manner : Manner) → Type 0
IsReplySo h k q block r manner =
    (it : IsHeardFor h k q block r.number r.message) × (it.sending ≡ r.sending) × (it.sent_for.asks.0 ≡ manner)

pub heard-so : (l : List Noted) (n o : ℕ) (r : Reply) (b : Begun) (x : Noted) (block : Option Block) → Legal l → begun l o ≡ Some b → at l n ≡ Some x
    → Contains (replies (before l n) o) r → (fetched : IsFetched (before l n) o b.request block r)
    → IsReplySo (entries l) o b.request block r fetched.manner
heard-so l n o r b x block legal opened here has fetched =
    let h : IsReplyTo (before l n) o r = fetched.fits in
    let first = first-before l n _ o _ _ _ h.first in
    let it = sent-as l h.sent_at o r.sending h.peer h.sent b legal opened first in
    let message : asking fetched.manner b.request block fetched.mid fetched.token ≡ h.sent =
    messages-same fetched.moment h.sent_at b.request.peer h.peer fetched.first.bytes h.first.bytes fetched.first.timeout h.first.timeout o o _ h.sent
    (at-same (before l n) r.sending _ _ fetched.first.stands h.first.stands) in
    let stands = at-before l n r.number _ h.heard in
    let below = subst (λ (m : ℕ). r.number < m) (length-before l n x here) (at-below (before l n) r.number _ h.heard) in
    let twice = before-twice l n r.number x here below in
    let waits = subst (λ (v : List Noted). waits_for v o ≡ Some r.sending) twice (reply-waited (before l n) o r has) in
    let early : IsFirst (before l r.number) h.sent_at o r.sending h.peer h.sent =
    record { bytes = first.bytes; timeout = first.timeout; stands = at-still l r.number r.sending _ _ stands h.after first.stands } in
    let response : IsResponse (entries l) h.peer r.sending h.sent r.number r.message =
    record {
      after = h.after;
      moment = h.moment;
      heard = heard-entry l h.peer r.number h.moment h.bytes r.message _ stands h.spelled;
      response = h.response;
      token = h.token;
      kind = brings r.message.kind r.message.mid h.sent.mid h.kind;
    } in
    let unanswered = unanswered-till l r.number _ h.sent_at o r.sending h.peer h.sent legal (legal-before l r.number legal) stands early waits in (
      record {
        sending = r.sending;
        sent = h.sent;
        sent_for = sent-block (entries l) o b.request it.1 block r.sending h.sent
            (fetched.manner, asks-own fetched.manner b.request block fetched.mid fetched.token h.sent message) it.2;
        response = subst (λ (p : Peer). IsResponse (entries l) p r.sending h.sent r.number r.message) it.0 response;
        new = subst (λ (p : Peer). IsNew (entries l) p r.number) it.0 (says-new l h.peer r.number _ legal stands tt);
        first = subst (λ (p : Peer). IsUnanswered (entries l) p r.sending h.sent r.number) it.0 unanswered;
      },
      refl,
      refl,
    )

pub heard-in : (l : List Noted) (n o : ℕ) (r : Reply) (b : Begun) (x : Noted) (block : Option Block) → Legal l → begun l o ≡ Some b → at l n ≡ Some x
    → Contains (replies (before l n) o) r → IsFetched (before l n) o b.request block r → IsReplyFor (entries l) o b.request block r
heard-in l n o r b x block legal opened here has fetched =
    let it = heard-so l n o r b x block legal opened here has fetched in
    (it.0, it.1)
