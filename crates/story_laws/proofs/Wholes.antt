-- A state that comes in pieces is one that the resource held.
use Rattle.std.proofs.Common.{◌≡◌, ℕ, zero, suc, ◌+◌, ◌<◌, ◌≤◌, ◌^◌, Bool, true, false, cond, eqb, ◌&&◌, inl, inr, List, [], ◌∷◌, ◌++◌, append-nil, length, take, Option, Some, None, is_some, option_map, refl, sym, ap, subst, ◌∙◌, arith}
use Rattle.std.specs.Prelude.{slice_get, ⊤}
use Rattle.std.specs.Int.{w64, to_be_bytes}
use Rattle.std.specs.List.{AllByRecursion, Contains, list_all}
use Rattle.std.proofs.lemmas.Bool.{and_parts, false≢true}
use Rattle.std.proofs.lemmas.Bool.Decides.{eqb_tells, leb_tells}
use Rattle.coap_codec.specs.Spelling.{Content, Entry}
use Rattle.coap_codec.specs.Recognition.{is_forwardable, value_of}
use Rattle.coap_codec.specs.Values.{values}
use Rattle.coap_codec.specs.declared.block.Block.{Block}
use Rattle.uri_map.specs.Limits.{host_options, option_with}
use Rattle.uri_map.specs.declared.peer.Peer.{Peer}
use Rattle.blockwise.specs.Downloads.{given as given_by_pieces, last_szx, nothing}
use Rattle.blockwise.specs.Reading.{block_in}
use Rattle.blockwise.specs.Uploads.{begun}
use Rattle.blockwise.specs.Joins.{AreFollowing, AreWhole, DownloadsJoin}
use Rattle.blockwise.specs.Representations.{representation_of, tag_by}
use Rattle.blockwise.specs.declared.representation.EntityTag.{EntityTag}
use Rattle.blockwise.specs.declared.representation.Representation.{Representation}
use Rattle.ask_model.specs.Requests.{CoapRequest, Manner, Plainly, Observing, Validating, asking, block_option, block_value, request_options, uint_bytes}
use Rattle.journal_book.specs.Entries.{Written}
use Rattle.history_laws.specs.Justified.{Stands}
use Rattle.history_laws.specs.Responses.{Response, is_tellable, joined, last_of, whole_fetched, whole_given, whole_of}
use Rattle.history_laws.proofs.CallerLemmas.{none-some, some-is}
use Rattle.history_claims.specs.Headline.{IsSentFor}
use Rattle.demo_origin.specs.Answers.{shown_part}
use Rattle.demo_origin.specs.Calls.{Call, Follow, left_by}
use Rattle.demo_origin.specs.Origins.{fresh}
use Rattle.demo_origin.specs.Requests.{IsAt}
use Rattle.demo_origin.specs.Values.{Device, Relation}
use Rattle.demo_origin.specs.Versions.{IsLater}
use Rattle.demo_origin.specs.declared.state.Held.{Held}
use Rattle.demo_origin.proofs.Versioning.{as_many, same_version, versions_tell}
use Rattle.story_laws.specs.Networks.{Networks}
use Rattle.story_laws.specs.Orders.{IsOrdered}
use Rattle.story_laws.specs.Reads.{AreNew, AreToldFor, IsToldFor, ShowsHeld, ShowsWhole}
use Rattle.story_laws.proofs.Originating.{follow-take}
use Rattle.story_laws.proofs.Pacing.{got-all, got-below}
use Rattle.story_laws.proofs.Pieces.{ArePartsOf, EndsBy, block-named, parts-join, tag-named}
use Rattle.story_laws.proofs.Showing.{ShowsPart, given-ordered, held-shown, part-more, same-place, told-shows}
use Rattle.story_laws.proofs.Standing.{events-of, stands-then}

-- ---- all messages for a request ask for one path

pub values-both : (n : ℕ) (xs ys : List Entry) → values n (xs ++ ys) ≡ values n xs ++ values n ys
values-both n [] ys = refl
values-both n (x ∷ xs) ys = by (eqb x.number n) (values-both n xs ys)
  where
    by : (b : Bool) → values n (xs ++ ys) ≡ values n xs ++ values n ys
        → cond b (x.value ∷ values n (xs ++ ys)) (values n (xs ++ ys)) ≡ cond b (x.value ∷ values n xs) (values n xs) ++ values n ys
    by true e = ap (λ (vs : List (List ℕ)). x.value ∷ vs) e
    by false e = e

pub path-of : (f : Manner) (q : CoapRequest) (b : Option Block) (mid : ℕ) (token : List ℕ)
    → values 11 (asking f q b mid token).options ≡ values 11 (request_options q)
path-of Plainly q None mid token = refl
path-of Observing q None mid token = values-both 11 (host_options q.target.host) _ ∙ sym (values-both 11 (host_options q.target.host) _)
path-of (Validating tag) q None mid token = values-both 11 (host_options q.target.host) _ ∙ sym (values-both 11 (host_options q.target.host) _)
path-of f q (Some b) mid token =
    values-both 11 (request_options q) _
    ∙ (ap (λ (vs : List (List ℕ)). values 11 (request_options q) ++ vs) (by (eqb q.method 1)) ∙ append-nil (values 11 (request_options q)))
  where
    by : (x : Bool) → values 11 (option_with (cond x 23 27) (uint_bytes (block_value b)) ∷ []) ≡ []
    by true = refl
    by false = refl

-- ---- what the pieces have in common

-- the message tells a 2.05 with this ETag
record IsAlike (tag : List ℕ) (m : Content) : Type 0 where
  content : m.code ≡ 69
  forwarded : is_forwardable m.options ≡ true
  tagged : value_of 4 m ≡ Some tag

same-tag : (v : Option (List ℕ)) (tag : List ℕ) → option_map tag_by v ≡ Some (tag_by tag) → v ≡ Some tag
same-tag None tag e = absurd (none-some _ e)
same-tag (Some v) tag e = ap (λ (t : EntityTag). Some t.bytes) (some-is (tag_by v) (tag_by tag) e)

last-is : (of : Representation) (m : Content) (ms : List Content) (at szx : ℕ) → AreFollowing of at szx (m ∷ ms)
    → representation_of (last_of m ms) ≡ of
last-is of m [] at szx f = f.0.representation
last-is of m (n ∷ ms) at szx f = last-is of n ms (at + length m.payload) (last_szx (block_in 23 m) szx) f.2

one-alike : (of : Representation) (tag : List ℕ) (m : Content) → representation_of m ≡ of → is_tellable m ≡ true → of.code ≡ 69
    → of.etag ≡ Some (tag_by tag) → IsAlike tag m
one-alike of tag m is tell code etag = record {
  content = ap (λ (r : Representation). r.code) is ∙ code;
  forwarded = (and_parts (is_forwardable m.options) _ tell).0;
  tagged = same-tag (value_of 4 m) tag (ap (λ (r : Representation). r.etag) is ∙ etag);
}

all-alike : (of : Representation) (tag : List ℕ) (at szx : ℕ) (m : Content) (ms : List Content) → AreFollowing of at szx (m ∷ ms)
    → list_all is_tellable (m ∷ ms) ≡ true → of.code ≡ 69 → of.etag ≡ Some (tag_by tag) → AllByRecursion (IsAlike tag) (m ∷ ms)
all-alike of tag at szx m [] f tell code etag = (one-alike of tag m f.0.representation (and_parts (is_tellable m) true tell).0 code etag, tt)
all-alike of tag at szx m (n ∷ ms) f tell code etag =
    let told = and_parts (is_tellable m) (list_all is_tellable (n ∷ ms)) tell in (
      one-alike of tag m f.0.representation told.0 code etag,
      all-alike of tag (at + length m.payload) (last_szx (block_in 23 m) szx) n ms f.2 told.1 code etag,
    )

got-in : {X : Type 0} (xs : List X) (n : ℕ) → n < length xs → (y : X) × (slice_get xs n ≡ Some y)
got-in [] n lt = absurd (omega (arith, lt))
got-in (x ∷ xs) zero lt = (x, refl)
got-in (x ∷ xs) (suc n) lt = got-in xs n (omega (arith, lt))

later-one : (j : ℕ) (js : List ℕ) (n : ℕ) → Contains js n → Contains (j ∷ js) n
later-one j js n h = let lt = h.1 in (suc h.0, omega (arith, lt), h.2)

-- ---- all pieces show one state

-- the message shows a piece of what the resource of a path held, as it is known of it
pub record IsShown (proxy : Peer) (s : Device) (cs : List Call) (path : List (List ℕ)) (P : ℕ → Content → ℕ → ℕ → Type 0) (m : Content) : Type 0 where
  pub since : ℕ
  pub count : ℕ
  pub sent : Content
  pub part : ShowsPart since count proxy s cs sent m
  pub asks : values 11 sent.options ≡ path
  pub known : P since sent part.place count

-- So does each 2.05 of these.
abbrev pub AreShown : Peer → Device → List Call → List (List ℕ) → (ℕ → Content → ℕ → ℕ → Type 0) → List Content → Type 0
AreShown proxy s cs path P ms = AllByRecursion (λ (m : Content). m.code ≡ 69 → IsShown proxy s cs path P m) ms

-- and this is what it held
pub record ShowsBody (proxy : Peer) (s : Device) (cs : List Call) (P : ℕ → Content → ℕ → ℕ → Type 0) (state : List ℕ) : Type 0 where
  pub since : ℕ
  pub count : ℕ
  pub sent : Content
  pub message : Content
  pub part : ShowsPart since count proxy s cs sent message
  pub known : P since sent part.place count
  pub is : state ≡ part.held.state

module _ (R : Relation) (proxy : Peer) (block : ℕ) (resources : List Held) (cs : List Call) (follow : Follow R (fresh block resources) cs)
    (new : AreNew resources) where
  abbrev first : Device
  first = fresh block resources

  -- an ETag of eight bytes can say each version
  small : (since count : ℕ) (m answer : Content) (p : ShowsPart since count proxy first cs m answer) → p.held.version < 2 ^ 64
  small since count m answer p =
      let now : Device = left_by first (take p.place cs) in
      let ran = events-of R (take p.place cs) first (follow-take R cs first p.place follow) in
      let many = as_many R ran.events first now ran.runs in
      let below = got-below now.resources p.number p.held p.there.stands in
      let old = got-in resources p.number (omega (arith, many, below)) in
      let zero-version = got-all (λ (x : Held). x.version ≡ 0) resources p.number old.0 new old.1 in
      let later = versions_tell R ran.events first now p.number old.0 ran.runs old.1 in
      subst (λ (x : Held). x.version < 2 ^ 64) (some-is later.held p.held (sym later.stands ∙ p.there.stands))
      (later.later.eight_bytes (omega (arith, zero-version)))

  -- of two with one ETag
  state-later : (t u c d : ℕ) (m n answer other : Content) (a : ShowsPart t c proxy first cs m answer) (b : ShowsPart u d proxy first cs n other)
      → values 11 m.options ≡ values 11 n.options → to_be_bytes w64 a.held.version ≡ to_be_bytes w64 b.held.version
      → a.place ≤ b.place → b.held.state ≡ a.held.state
  state-later t u c d m n answer other a b path tag le =
      let now : Device = left_by first (take b.place cs) in
      let it = stands-then R cs first a.place b.place (values 11 m.options) a.number a.held follow le a.there in
      let there = subst (λ (vs : List (List ℕ)). IsAt vs now.resources b.number b.held) (sym path) b.there in
      let same = same-place (values 11 m.options) now.resources a.number b.number it.held b.held it.stands there in
      let later : IsLater a.held b.held = subst (λ (x : Held). IsLater a.held x) same it.later in
      later.state (same_version b.held.version a.held.version (small u d n other b) (small t c m answer a) (sym tag))

  same-state : (t u c d : ℕ) (m n answer other : Content) (a : ShowsPart t c proxy first cs m answer) (b : ShowsPart u d proxy first cs n other)
      → values 11 m.options ≡ values 11 n.options → to_be_bytes w64 a.held.version ≡ to_be_bytes w64 b.held.version
      → b.held.state ≡ a.held.state
  same-state t u c d m n answer other a b path tag =
      elim (leb_tells a.place b.place) [
        | inl w ↦ state-later t u c d m n answer other a b path tag w.1
        | inr w ↦ let lt = w.1 in sym (state-later u t d c n m other answer b a (sym path) (sym tag) (omega (arith, lt)))
      ]

  module _ (path : List (List ℕ)) (P : ℕ → Content → ℕ → ℕ → Type 0) where
    module _ (t c : ℕ) (n other : Content) (a : ShowsPart t c proxy first cs n other) (asks : values 11 n.options ≡ path) where
      all-parts : (ms : List Content) → AreShown proxy first cs path P ms → AllByRecursion (IsAlike (to_be_bytes w64 a.held.version)) ms
          → ArePartsOf a.held.state ms
      all-parts [] shown alike = tt
      all-parts (m ∷ ms) shown alike =
          let x = shown.0 alike.0.content in
          let p = x.part in
          let tag : to_be_bytes w64 a.held.version ≡ to_be_bytes w64 p.held.version =
          some-is _ _ (sym alike.0.tagged ∙ tag-named p.held p.observed p.part m p.describes) in
          let same : p.held.state ≡ a.held.state = same-state t x.since c x.count n x.sent other m a p (asks ∙ sym x.asks) tag in (
            record {
              part = p.part;
              named = block-named p.held p.observed p.part m p.describes alike.0.forwarded;
              shown = p.shown ∙ ap (shown_part p.part) same;
              ends = subst (λ (state : List ℕ). EndsBy (length state) p.part) same p.ends;
            },
            all-parts ms shown.1 alike.1,
          )

    -- ---- the whole

    pub body-shown : DownloadsJoin → (q : CoapRequest) → q.method ≡ 1 → (ms : List Content) (w : Response) → AreShown proxy first cs path P ms
        → whole_of q ms ≡ Some w → w.code ≡ 69 → ShowsBody proxy first cs P w.body
    body-shown join q get [] w shown whole content = absurd (none-some w whole)
    body-shown join q get (m ∷ ms) w shown whole content = by ((list_all is_tellable (m ∷ ms)) && (is_some (given_by_pieces nothing (m ∷ ms)))) refl (fetched (eqb q.method 1) refl whole)
      where
        fetched : (b : Bool) → eqb q.method 1 ≡ b → cond b (whole_fetched m ms) (whole_given (begun (length q.body) 6) (m ∷ ms)) ≡ Some w → whole_fetched m ms ≡ Some w
        fetched true e f = f
        fetched false e f = elim (eqb_tells q.method 1) [
          | inl v ↦ absurd (false≢true (sym e ∙ v.0))
          | inr v ↦ absurd (v.1 get)
        ]

        joins : (o : Option (List ℕ)) → given_by_pieces nothing (m ∷ ms) ≡ o → is_some o ≡ true → (body : List ℕ) × AreWhole m ms body
        joins None e f = absurd (false≢true f)
        joins (Some body) e f = (body, (join m ms body).0 e)

        shows : list_all is_tellable (m ∷ ms) ≡ true → AreFollowing (representation_of m) 0 6 (m ∷ ms) → joined m ms ≡ w
            → ShowsBody proxy first cs P w.body
        shows tell following is =
            let of = representation_of m in
            let code : of.code ≡ 69 =
            ap (λ (r : Representation). r.code) (sym (last-is of m ms 0 6 following)) ∙ (ap (λ (v : Response). v.code) is ∙ content) in
            let x = shown.0 code in
            let p = x.part in
            let tag = tag-named p.held p.observed p.part m p.describes in
            let alike = all-alike of (to_be_bytes w64 p.held.version) 0 6 m ms following tell code (ap (option_map tag_by) tag) in
            let parts = all-parts x.since x.count x.sent m p x.asks (m ∷ ms) shown alike in
            record {
              since = x.since;
              count = x.count;
              sent = x.sent;
              message = m;
              part = p;
              known = x.known;
              is = ap (λ (v : Response). v.body) (sym is) ∙ parts-join p.held.state of 0 6 m ms following parts;
            }

        by : (b : Bool) → ((list_all is_tellable (m ∷ ms)) && (is_some (given_by_pieces nothing (m ∷ ms)))) ≡ b
            → cond b (Some (joined m ms)) None ≡ Some w → ShowsBody proxy first cs P w.body
        by false e f = absurd (none-some w f)
        by true e f =
            let both = and_parts (list_all is_tellable (m ∷ ms)) (is_some (given_by_pieces nothing (m ∷ ms))) e in
            let all = joins (given_by_pieces nothing (m ∷ ms)) refl both.1 in
            shows both.0 all.1.following (some-is (joined m ms) w f)

-- ---- what was heard in one journal

module _ (R : Relation) (h : List Written) (device proxy : Peer) (block : ℕ) (resources : List Held) (cs : List Call)
    (calls_before : ℕ → ℕ) (s : Stands h) (net : Networks R s.reading device proxy (fresh block resources) cs)
    (order : IsOrdered s.reading device proxy (fresh block resources) cs calls_before) (new : AreNew resources)
    (q : CoapRequest) (get : q.method ≡ 1) (to : q.peer ≡ device) where
  asks-path : (k j : ℕ) (m : Content) (x : IsToldFor h k q j m) → values 11 x.sent.options ≡ values 11 (request_options q)
  asks-path k j m x =
      ap (λ (c : Content). values 11 c.options) x.sent_for.asks.1 ∙ path-of x.sent_for.asks.0 q x.block x.sent.mid x.sent.token

  -- a message that was sent for it, after this entry, and one of these entries before which it was answered
  abbrev IsSentSince : ℕ → List ℕ → ℕ → Content → ℕ → ℕ → Type 0
  IsSentSince k js t m place count =
      ((b : Option Block) × (i : ℕ) × (x : IsSentFor h k q b i m) × (x.moment ≡ t)) × ((j : ℕ) × Contains js j × (count ≡ calls_before j))

  all-shown : (k : ℕ) (all js : List ℕ) (ms : List Content) → ((j : ℕ) → Contains js j → Contains all j) → AreToldFor h k q js ms
      → AreShown proxy (fresh block resources) cs (values 11 (request_options q)) (IsSentSince k all) ms
  all-shown k all [] [] among told = tt
  all-shown k all [] (m ∷ ms) among told = absurd told
  all-shown k all (j ∷ js) [] among told = absurd told
  all-shown k all (j ∷ js) (m ∷ ms) among told = (
    λ content.
        let x = told.0 in
        let g = given-ordered R h device proxy block resources cs calls_before s order q.peer j m x.response.moment to x.response.heard in record {
          since = x.sent_for.moment;
          count = calls_before j;
          sent = x.sent;
          part = part-more x.sent_for.moment g.0.count (calls_before j) proxy (fresh block resources) cs x.sent m g.1
              (told-shows R h device proxy block resources cs k q j m s net x g.0 get content);
          asks = asks-path k j m x;
          known = ((x.block, x.sending, x.sent_for, refl), (j, among j (zero, omega arith, refl), refl));
        },
    all-shown k all js ms (λ i has. among i (later-one j js i has)) told.1,
  )

  pub whole-shown : DownloadsJoin → (k : ℕ) (js : List ℕ) (ms : List Content) (w : Response) → AreToldFor h k q js ms
      → whole_of q ms ≡ Some w → w.code ≡ 69 → ShowsWhole h k q js proxy (fresh block resources) cs calls_before w.body
  whole-shown join k js ms w told whole content =
      let it =
      body-shown R proxy block resources cs net.follow new (values 11 (request_options q)) (IsSentSince k js) join q get ms w
      (all-shown k js js ms (λ j has. has) told) whole content in
      let sent = it.known.0 in
      let heard = it.known.1 in
      let shown = held-shown R proxy block resources cs it.since it.count it.sent it.message w.body net.follow it.part it.is in
      record {
        block = sent.0;
        sending = sent.1;
        message = it.sent;
        sent = sent.2;
        entry = heard.0;
        among = heard.1;
        shown = subst (λ (t : ℕ). ShowsHeld t (calls_before heard.0) proxy (fresh block resources) cs it.sent w.body) (sym sent.3)
            (subst (λ (n : ℕ). ShowsHeld it.since n proxy (fresh block resources) cs it.sent w.body) heard.2 shown);
      }
