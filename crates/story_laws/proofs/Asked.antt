-- Of the messages for one ask a device executes one at most.
use Rattle.std.proofs.Common.{◌≡◌, ◌≢◌, ◌⊎◌, ℕ, zero, suc, ◌+◌, ◌*◌, ◌/◌, ◌%◌, ◌<◌, ◌≤◌, Bool, true, false, cond, eqb, leb, ltb, inl, inr, List, [], ◌∷◌, ◌++◌, length, take, drop, length-drop, Option, Some, None, Ok, refl, sym, ap, subst, ◌∙◌, arith}
use Rattle.std.specs.Prelude.{slice_get, Result, ◌&&◌}
use Rattle.std.proofs.lemmas.Bool.{and_from, and_parts, false≢true, ltb-false}
use Rattle.std.proofs.lemmas.Bool.Decides.{eqb_tells, leb_tells}
use Rattle.std.proofs.lemmas.List.{length-take}
use Rattle.coap_codec.specs.Spelling.{Content, Entry, Spells}
use Rattle.coap_codec.specs.Reading.{message_at}
use Rattle.coap_codec.specs.Values.{uint, values}
use Rattle.coap_codec.specs.declared.block.Block.{Block}
use Rattle.coap_codec.specs.declared.fault.CodecFault.{CodecFault}
use Rattle.coap_codec.proofs.Again.{message_again}
use Rattle.coap_codec.proofs.Unique.{spells_one}
use Rattle.uri_map.specs.Limits.{host_options, option_with, options_with}
use Rattle.uri_map.specs.declared.peer.Peer.{Peer}
use Rattle.uri_map.specs.declared.target.Host.{Host}
use Rattle.uri_map.specs.declared.target.Host.TheVariants as T
use Rattle.blockwise.specs.Reading.{block_by, offset_in, size_of}
use Rattle.ask_model.specs.Requests.{CoapRequest, Manner, asking, block_option, block_value, carried_by, optional, request_options, Requests, uint_bytes}
use Rattle.ask_model.specs.Sharing.{is_get}
use Rattle.ask_model.proofs.OptionOrder.{uint_bytes_short}
use Rattle.journal_book.specs.Entries.{Deed, Asks, Sends, Hears, Written}
use Rattle.history_laws.specs.Justified.{Stands}
use Rattle.history_laws.proofs.CallerLemmas.{eqb-same, some-is}
use Rattle.history_claims.specs.Headline.{IsAsked, IsEntry, IsFirstSending, IsOpen, IsSentFor}
use Rattle.history_claims.specs.Order.{AreSentFor, IsInSeries, IsSendingFor, IsSentAsSaid, SaysMore}
use Rattle.demo_origin.specs.Blocks.{named_by}
use Rattle.demo_origin.specs.Calls.{Call}
use Rattle.demo_origin.specs.Hearing.{Hears as Hears_so}
use Rattle.demo_origin.specs.LastPiece.{EndsBody, IsLast}
use Rattle.demo_origin.specs.Once.{Event, heard, Steps}
use Rattle.demo_origin.specs.Values.{Device, Relation}
use Rattle.demo_origin.proofs.Acting.{last_piece_executes}
use Rattle.story_laws.specs.Executions.{Executes}
use Rattle.story_laws.specs.Networks.{Networks}
use Rattle.story_laws.proofs.Apart.{one-ask}
use Rattle.story_laws.proofs.Calling.{in-one-place, step-at}
use Rattle.story_laws.proofs.Executing.{messages-once}
use Rattle.story_laws.proofs.Posting.{code-of, first-sent}
use Rattle.story_laws.proofs.Wholes.{values-both}

-- ---- what a block's option says

read-bytes : (n : ℕ) → uint (uint_bytes n) ≡ n
read-bytes n = by (eqb n 0) refl (ltb n 256) (ltb n 65536)
  where
    by : (none : Bool) → eqb n 0 ≡ none → (one two : Bool)
        → uint (cond none [] (cond one (n ∷ []) (cond two ((n / 256) ∷ (n % 256) ∷ []) ((n / 65536) ∷ (n / 256 % 256) ∷ (n % 256) ∷ [])))) ≡ n
    by true e one two = sym (eqb-same n 0 e)
    by false e true two = omega arith
    by false e false true = omega arith
    by false e false false = omega arith

none-host : (h : Host) → values 27 (host_options h) ≡ []
none-host (T.Name name) = refl
none-host (T.V4 address) = refl
none-host (T.V6 address) = refl

none-of : (n : ℕ) → eqb n 27 ≡ false → (vs : List (List ℕ)) → values 27 (options_with n vs) ≡ []
none-of n not [] = refl
none-of n not (v ∷ vs) =
    subst (λ (b : Bool). cond b (v ∷ values 27 (options_with n vs)) (values 27 (options_with n vs)) ≡ []) (sym not) (none-of n not vs)

none-optional : (n : ℕ) → eqb n 27 ≡ false → (v : Option ℕ) → values 27 (optional n v) ≡ []
none-optional n not None = refl
none-optional n not (Some k) = subst (λ (b : Bool). cond b (uint_bytes k ∷ []) [] ≡ []) (sym not) refl

none-both : (xs ys : List Entry) → values 27 xs ≡ [] → values 27 ys ≡ [] → values 27 (xs ++ ys) ≡ []
none-both xs ys e f = values-both 27 xs ys ∙ (ap (λ (vs : List (List ℕ)). vs ++ values 27 ys) e ∙ f)

none-asked : (q : CoapRequest) → values 27 (request_options q) ≡ []
none-asked q =
    none-both (host_options q.target.host) _ (none-host q.target.host)
    (none-both (options_with 11 q.target.path) _ (none-of 11 refl q.target.path)
    (none-both (optional 12 q.format) _ (none-optional 12 refl q.format)
    (none-both (options_with 15 q.target.query) (optional 17 q.accept) (none-of 15 refl q.target.query) (none-optional 17 refl q.accept))))

-- The message for a block of a body names it.
block-named : (f : Manner) (q : CoapRequest) (b : Block) (mid : ℕ) (token : List ℕ) → q.method ≢ 1
    → values 27 (asking f q (Some b) mid token).options ≡ uint_bytes (block_value b) ∷ []
block-named f q b mid token changes =
    values-both 27 (request_options q) _
    ∙ (ap (λ (vs : List (List ℕ)). vs ++ values 27 (option_with (block_option q.method) (uint_bytes (block_value b)) ∷ [])) (none-asked q)
    ∙ by (eqb q.method 1) (elim (eqb_tells q.method 1) [ inl w ↦ absurd (changes w.1) | inr w ↦ w.0 ]))
  where
    by : (get : Bool) → get ≡ false → values 27 (option_with (cond get 23 27) (uint_bytes (block_value b)) ∷ []) ≡ uint_bytes (block_value b) ∷ []
    by true e = absurd (false≢true (sym e))
    by false e = refl

-- A block of which more follow isn't the last.
less : (a c : ℕ) → a < c → ltb a c ≡ true
less a c lt = go (ltb a c) refl
  where
    go : (x : Bool) → ltb a c ≡ x → ltb a c ≡ true
    go true e = e
    go false e = let le = ltb-false a c e in absurd (omega (arith, lt, le))

no-more : (a c : ℕ) → a ≤ c → leb a c ≡ true
no-more a c le = elim (leb_tells a c) [ inl w ↦ w.0 | inr w ↦ let lt = w.1 in absurd (omega (arith, le, lt)) ]

named-more : (v : List ℕ) (num szx : ℕ) → length v ≤ 3 → szx < 7 → uint v ≡ 16 * num + (8 + szx) → IsLast (named_by (v ∷ [])) → ⊥
named-more v num szx short small value last = by ((leb (length v) 3) && ltb (uint v % 8) 7) refl last
  where
    size : uint v % 8 < 7
    size = omega (arith, value, small)

    bit : (uint v / 8) % 2 ≡ 1
    bit = omega (arith, value, small)

    fits : ((leb (length v) 3) && ltb (uint v % 8) 7) ≡ true
    fits = and_from _ _ (no-more (length v) 3 short) (less (uint v % 8) 7 size)

    by : (x : Bool) → ((leb (length v) 3) && ltb (uint v % 8) 7) ≡ x → IsLast (cond x (Some (block_by v)) None) → ⊥
    by false e f = false≢true (sym e ∙ fits)
    by true e f = false≢true (sym f ∙ ap (λ (n : ℕ). eqb n 1) bit)

not-last : (b : Block) → b.szx < 7 → b.more ≡ true → IsLast (named_by (uint_bytes (block_value b) ∷ [])) → ⊥
not-last b small more =
    named-more (uint_bytes (block_value b)) b.num b.szx (uint_bytes_short (block_value b)) small
    (read-bytes (block_value b) ∙ ap (λ (m : Bool). 16 * b.num + ((cond m 8 0) + b.szx)) more)

-- ---- the messages for one ask

module _ (h : List Written) (sent : AreSentFor h) (k c t : ℕ) (q : CoapRequest) (asked : IsAsked h k c t (Requests q)) (changes : q.method ≢ 1) where
  asks-no-hears : (d : ℕ) (a : _) (p : Peer) (b : List ℕ) → Asks d a ≡ Hears p b → ⊥
  asks-no-hears d a p b e = cc

  -- what was sent for it asks for it
  request-is : (i : ℕ) (r : CoapRequest) → IsOpen h i k r → r ≡ q
  request-is i r (inl p) = one-ask h k p.conn c p.moment t r q p.asked asked
  request-is i r (inr f) =
      absurd (asks-no-hears c _ r.peer f.2.notified.response.heard.bytes
      (ap (λ (w : Written). w.deed) (some-is _ _ (sym asked.stands ∙ f.2.notified.response.heard.stands))))

  -- the bytes of the body before its block, and of that
  start : ℕ → ℕ
  start i = offset_in (sent.block i)

  size : ℕ → ℕ
  size i = length (carried_by q.method (sent.block i) q.body)

  abbrev IsSaid : ℕ → Content → Type 0
  IsSaid i m =
      IsSentFor h k q (sent.block i) i m × IsInSeries h sent.owner sent.block q i × SaysMore (sent.block i) q.body

  said : (i u : ℕ) (p : Peer) (m : Content) → IsFirstSending h i u p m → sent.owner i ≡ k → IsSaid i m
  said i u p m f own =
      let it = sent.each i u p m f in
      let same : it.request ≡ q = request-is i it.request (subst (λ (o : ℕ). IsOpen h i o it.request) own it.pending) in
      let so = it.series (λ get. changes (ap (λ (r : CoapRequest). r.method) (sym same) ∙ get)) in
      subst (λ (r : CoapRequest). IsSentFor h k r (sent.block i) i m × IsInSeries h sent.owner sent.block r i × SaysMore (sent.block i) r.body) same
      (subst (λ (o : ℕ). IsSentFor h o it.request (sent.block i) i m) own so.0, so.1, so.2)

  -- A later one begins where all before it ended, and leaves something.
  follows : (fuel j i : ℕ) → j < fuel → i < j → (u v : ℕ) (p r : Peer) (m n : Content) → IsFirstSending h i u p m → IsFirstSending h j v r n
      → sent.owner i ≡ k → sent.owner j ≡ k → (start i + size i ≤ start j) × (start j < length q.body)
  unfolding start size
  follows zero j i lt sooner u v p r m n f g own also = absurd (omega (arith, lt))
  follows (suc fuel) j i lt sooner u v p r m n f g own also = elim ((said j v r n g also).1) [
    | inl first ↦ let le = first.0 i (own ∙ sym also, u, p, m, f) in absurd (omega (arith, le, sooner))
    | inr it ↦
        let before = it.0 in
        let less = it.2 in
        let le = it.3 i (own ∙ sym also, u, p, m, f) sooner in
        let begins = it.4 in
        let left = it.5 in
        elim (eqb_tells i before) [
          | inl w ↦
              let same = ap (λ (i : ℕ). offset_in (sent.block i) + length (carried_by q.method (sent.block i) q.body)) w.1 in
              (omega (arith, same, begins), left)
          | inr w ↦
              let apart = w.1 in
              let rest = follows fuel before i (omega (arith, less, lt)) (omega (arith, le, apart)) u it.1.1 p it.1.2 m it.1.3 f it.1.4 own (it.1.0 ∙ also) in
              let more = rest.0 in
              (omega (arith, more, begins), left)
        ]
  ]

  -- So it isn't the last piece.
  goes-on : (i u : ℕ) (p : Peer) (m : Content) → IsFirstSending h i u p m → sent.owner i ≡ k → (d : List ℕ) → Spells m d
      → start i + size i < length q.body → EndsBody d → ⊥
  unfolding start size
  goes-on i u p m f own d spelled left ends = by (sent.block i) refl left
    where
      its : IsSaid i m
      its = said i u p m f own

      reads : ends.message ≡ m
      reads = ok-is ends.message m (message_at d) ends.reads (message_again m d spelled)
        where
          ok-is : (a b : Content) (r : Result Content CodecFault) → r ≡ Ok a → r ≡ Ok b → a ≡ b
          ok-is a b r e g = cc

      by : (b : Option Block) → sent.block i ≡ b → offset_in b + length (carried_by q.method b q.body) < length q.body → ⊥
      by None e lt = omega (arith, lt)
      by (Some b) e lt =
          let says : SaysMore (Some b) q.body = subst (λ (b : Option Block). SaysMore b q.body) e its.2 in
          let asks = subst (λ (b : Option Block). (f : Manner) × (m ≡ asking f q b m.mid m.token)) e its.0.asks in
          let named = ap (λ (c : Content). values 27 c.options) (reads ∙ asks.1) ∙ block-named asks.0 q b m.mid m.token changes in
          not-last b says.0 (says.1 ∙ more b lt) (subst (λ (vs : List (List ℕ)). IsLast (named_by vs)) named ends.last)
        where
          more : (b : Block) → offset_in (Some b) + length (carried_by q.method (Some b) q.body) < length q.body
              → ltb (b.num * size_of b.szx + size_of b.szx) (length q.body) ≡ true
          more b lt = go (ltb (b.num * size_of b.szx + size_of b.szx) (length q.body)) refl
            where
              cut : length (carried_by q.method (Some b) q.body) ≡ length (take (size_of b.szx) (drop (b.num * size_of b.szx) q.body))
              cut = write (eqb q.method 1) (elim (eqb_tells q.method 1) [ inl w ↦ absurd (changes w.1) | inr w ↦ w.0 ])
                where
                  write : (get : Bool) → get ≡ false
                      → length (cond get q.body (take (size_of b.szx) (drop (b.num * size_of b.szx) q.body))) ≡ length (take (size_of b.szx) (drop (b.num * size_of b.szx) q.body))
                  write true e = absurd (false≢true (sym e))
                  write false e = refl

              go : (x : Bool) → ltb (b.num * size_of b.szx + size_of b.szx) (length q.body) ≡ x
                  → ltb (b.num * size_of b.szx + size_of b.szx) (length q.body) ≡ true
              go true e = e
              go false e =
                  let le = ltb-false (b.num * size_of b.szx + size_of b.szx) (length q.body) e in
                  let long = length-take (size_of b.szx) (drop (b.num * size_of b.szx) q.body) in
                  let rest = length-drop (b.num * size_of b.szx) q.body in
                  let whole = cut in
                  absurd (omega (arith, lt, le, long, rest, whole))

-- ---- what the device executed

executes-last : (R : Relation) (device proxy : Peer) (l : _) (start : Device) (cs : List Call) (a : ℕ) (m : Content) (x : Call)
    → Networks R l device proxy start cs → slice_get cs a ≡ Some x → (e : Executes proxy m x) → EndsBody e.datagram
executes-last R device proxy l start cs a m x net at e =
    last_piece_executes R e.moment proxy e.datagram x.before x.after e.taken
    (subst (λ (v : Event). Steps R v x.before x.after) e.comes (step-at R cs start a x net.follow at))

module _ (R : Relation) (h : List Written) (device proxy : Peer) (start_of : Device) (cs : List Call) (s : Stands h)
    (net : Networks R s.reading device proxy start_of cs) (sent : AreSentFor h) where
  -- the ask that a message was sent for
  ask-of : (i t : ℕ) (p : Peer) (m : Content) → IsFirstSending h i t p m → m.code ≢ 1
      → (c : ℕ) × (u : ℕ) × (q : CoapRequest) × IsAsked h (sent.owner i) c u (Requests q) × (q.method ≢ 1)
  ask-of i t p m f changes = by it.pending
    where
      it : IsSentAsSaid h sent.owner sent.block i m
      it = sent.each i t p m f

      method : m.code ≡ it.request.method
      method =
          let asks = it.sent_for.asks in
          ap (λ (c : Content). c.code) asks.1 ∙ code-of asks.0 it.request it.part m.mid m.token

      by : IsOpen h i (sent.owner i) it.request → (c : ℕ) × (u : ℕ) × (q : CoapRequest) × IsAsked h (sent.owner i) c u (Requests q) × (q.method ≢ 1)
      by (inl p) = (p.conn, p.moment, it.request, p.asked, λ get. changes (method ∙ get))
      by (inr f) =
          let may = f.2.notified.observed.may in
          let get = (and_parts (eqb it.request.method 1) _ (and_parts (is_get it.request) _ may).0).0 in
          absurd (changes (method ∙ eqb-same it.request.method 1 get))

  sooner-not : (i j t u : ℕ) (p r : Peer) (m n : Content) (a : ℕ) (x : Call) → IsFirstSending h i t p m → IsFirstSending h j u r n → m.code ≢ 1
      → sent.owner i ≡ sent.owner j → slice_get cs a ≡ Some x → Executes proxy m x → i < j → ⊥
  sooner-not i j t u p r m n a x f g changes own at e lt =
      let ask = ask-of i t p m f changes in
      let k : ℕ = sent.owner i in
      let after = follows h sent k ask.0 ask.1 ask.2 ask.3 ask.4 (suc j) j i (omega arith) lt t u p r m n f g refl (sym own) in
      let upto = after.0 in
      let left = after.1 in
      goes-on h sent k ask.0 ask.1 ask.2 ask.3 ask.4 i t p m f refl e.datagram e.spelled (omega (arith, upto, left))
      (executes-last R device proxy s.reading start_of cs a m x net at e)

  pub asked-once : (i j t u : ℕ) (p r : Peer) (m n : Content) (a b : ℕ) (x y : Call) → IsFirstSending h i t p m → IsFirstSending h j u r n
      → m.code ≢ 1 → n.code ≢ 1 → sent.owner i ≡ sent.owner j → slice_get cs a ≡ Some x → slice_get cs b ≡ Some y
      → Executes proxy m x → Executes proxy n y → a ≡ b
  asked-once i j t u p r m n a b x y f g first_changes second_changes own at there e d =
      let same : i ≡ j =
      in-one-place i j (sooner-not i j t u p r m n a x f g first_changes own at e)
      (sooner-not j i u t r p n m b y g f second_changes (sym own) there d) in
      let one : n ≡ m = one-message (subst (λ (j : ℕ). IsFirstSending h j u r n) (sym same) g) in
      let first = first-sent s.reading h i t p m s.legal s.entries_are f in
      messages-once R s.reading device proxy p start_of cs t first.0 i a b m x y net first.1 at there e (subst (λ (c : Content). Executes proxy c y) one d)
    where
      one-message : IsFirstSending h i u r n → n ≡ m
      one-message w =
          spells_one n m f.bytes
          (subst (Spells n) (bytes-same (ap (λ (w : Written). w.deed) (some-is _ _ (sym w.stands ∙ f.stands)))) w.spelled) f.spelled
        where
          bytes-same : {q v : Peer} {c d : List ℕ} {x y : Option ℕ} → Sends q c x ≡ Sends v d y → c ≡ d
          bytes-same e = cc
