-- What the type of a core keeps, after entries have come.
use Rattle.std.proofs.Common.{◌≡◌, ℕ, ◌+◌, ◌-◌, ◌^◌, ◌≤◌, ◌<◌, min, Bool, true, false, cond, List, [], ◌∷◌, ◌++◌, drop, length, Option, None, refl, sym, ap, subst, ◌∙◌, arith, length-append, append-nil}
use Rattle.std.specs.Prelude.{sum_by}
use Rattle.std.specs.List.{AllByRecursion}
use Rattle.std.specs.Prelude.{not}
use Rattle.std.proofs.Common.{eqb, inl, inr}
use Rattle.std.specs.Prelude.{count_by}
use Rattle.std.proofs.lemmas.Bool.{eq-eqb}
use Rattle.std.proofs.lemmas.List.Sums.{sum_by-append, length-filter, count_by-le-length}
use Rattle.ask_model.specs.Sizes.{capped}
use Rattle.journal_book.specs.Entries.{Deed, Written, entry_size}
use Rattle.exchange_model.specs.declared.kept.Conn.{Conn}
use Rattle.exchange_model.specs.State.{State}
use Rattle.exchange_model.specs.Room.{asks_waiting, KeptInRoom, seals_left}
use Rattle.exchange_model.specs.Entering.{IsDrained}
use Rattle.exchange_model.specs.Resting.{HasConn}
use Rattle.exchange_model.specs.Steps.{opens, shuts, seals}
use Rattle.exchange_model.specs.Room.{fits}
use Rattle.observe_share.specs.declared.registration.Registration.{Registration}
use Rattle.resp_cache.specs.declared.pair.Pair.{Pair}
use Rattle.exchange_model.specs.declared.kept.Exchange.{Exchange}
use Rattle.exchange_model.specs.declared.kept.Piece.{Piece}
use Rattle.exchange_model.specs.declared.kept.Reader.{Reader}
use Rattle.exchange_model.specs.declared.kept.Stale.{Stale}
use Rattle.exchange_model.specs.State.{PeerLink}
use Rattle.exchange_model.specs.Growing.{conns_with}
use Rattle.exchange_core.specs.Drafts.{DraftValue, IsDrafted}
use Rattle.exchange_core.specs.States.{with_draft}
use Rattle.exchange_model.specs.Memory.{most_entries}
use Rattle.exchange_model.proofs.CallerLemmas.{count-cons, fits-parts, more-behind, one, opens-in-room, rotates-drained, rotates-in-room, shuts-in-room, start-in-room, within-limits}
use Rattle.exchange_model.specs.Rotating.{fault_of, turned}
use Rattle.exchange_core.specs.Answering.{Given, IsGiven}
use Rattle.exchange_core.specs.Sound.{SoundState}
use Rattle.exchange_core.proofs.Stepping.{conns-keep, given-stay, given-join}

-- small counts are what they are
pub small-count : (b m top : ℕ) → b + m ≤ 268435456 → 268435456 ≤ top → min (b + min m top) top ≡ b + m
small-count b m top small large = omega arith

pub sound-more : (S S1 : State) (bytes bytes1 room room1 : ℕ) (gs gs1 more : List Given) (ws : List Written)
    → SoundState S bytes room gs → KeptInRoom S1 → IsDrained S1 → S1.moment ≤ 2 ^ 62 → length S1.conns ≤ 256
    → S1.entries ≡ S.entries ++ ws → S1.given ≡ S.given → bytes1 ≡ capped (bytes + capped (sum_by entry_size ws)) → length S1.conns + seals_left S1.sealed ≤ room1
    → gs1 ≡ gs ++ more → AllByRecursion (IsGiven S1.entries) more
    → SoundState S1 bytes1 room1 gs1
sound-more S S1 bytes bytes1 room room1 gs gs1 more ws s kept drained early few es still bs rs gave given =
    let sums : sum_by entry_size (drop S1.given S1.entries) ≡ sum_by entry_size (drop S.given S.entries) + sum_by entry_size ws =
    ap (λ (k : ℕ). sum_by entry_size (drop k S1.entries)) still
    ∙ ap (λ (vs : List Written). sum_by entry_size (drop S.given vs)) es
    ∙ more-behind entry_size S.given S.entries ws s.kept.here.counted.within in
    let limits = within-limits S1 kept in
    let small : bytes + sum_by entry_size ws ≤ 268435456 = let c = s.count in let l = limits.1 in omega (arith, c, l, sums) in
    record {
      kept = kept;
      drained = drained;
      early = early;
      few = few;
      count = bs ∙ small-count bytes (sum_by entry_size ws) (2 ^ 64 - 1) small (omega arith) ∙ (let c = s.count in omega (arith, c, sums));
      places = rs;
      given = subst (AllByRecursion (IsGiven S1.entries)) (sym gave)
          (given-join S1.entries gs more
          (subst (λ (h : List Written). AllByRecursion (IsGiven h) gs) (sym es) (given-stay S.entries ws gs s.given)) given);
    }

-- one Sealed at most is to come
pub seals-few : (b : Bool) → seals_left b ≤ 1
seals-few true = omega arith
seals-few false = omega arith

-- its place is held
seal-held : (b : Bool) → b ≡ false → seals_left b ≡ 1
seal-held true e = absurd cc
seal-held false e = refl

pub seal-place : (S : State) (bytes room : ℕ) (gs : List Given) → SoundState S bytes room gs → S.sealed ≡ false → 0 < room
seal-place S bytes room gs s unsealed =
    let p = s.places in
    let one = seal-held S.sealed unsealed in omega (arith, p, one)

-- more places are as good
pub roomier : (S : State) (bytes room room1 : ℕ) (gs : List Given) → SoundState S bytes room gs → room ≤ room1 → SoundState S bytes room1 gs
roomier S bytes room room1 gs s more =
    record {
      kept = s.kept;
      drained = s.drained;
      early = s.early;
      few = s.few;
      count = s.count;
      places = let p = s.places in omega (arith, p, more);
      given = s.given;
    }

-- all numbers have 32 bits
pub all-below : (S : State) → KeptInRoom S → length S.entries + length S.conns + asks_waiting S ≤ most_entries
all-below S k =
    let held = (within-limits S k).0 in
    let given = k.here.numbered in omega (arith, held, given)

pub few-entries : (S : State) → KeptInRoom S → length S.entries ≤ most_entries
few-entries S k = let all = all-below S k in omega (arith, all)

-- there is a place for each Shut, and for the seal
pub place-left : (S : State) (bytes room : ℕ) (gs : List Given) → SoundState S bytes room gs
    → length S.entries + length S.conns + asks_waiting S ≤ most_entries
place-left S bytes room gs s = all-below S s.kept

-- so have those of connections
pub opened-below : (S : State) (bytes room : ℕ) (gs : List Given) → SoundState S bytes room gs → S.opened < 4294967295
opened-below S bytes room gs s =
    let held = (within-limits S s.kept).0 in
    let within = s.kept.here.counted.within in
    let opened = s.kept.here.counted.opened in omega (arith, held, within, opened)

-- one entry more, which is no answer
one-more : (S S1 : State) (bytes bytes1 room room1 : ℕ) (gs gs1 : List Given) (w : Written)
    → SoundState S bytes room gs → KeptInRoom S1 → IsDrained S1 → S1.moment ≤ 2 ^ 62 → length S1.conns ≤ 256
    → S1.entries ≡ S.entries ++ w ∷ [] → S1.given ≡ S.given → entry_size w ≡ 64 → bytes1 ≡ capped (bytes + 64) → length S1.conns + seals_left S1.sealed ≤ room1 → gs1 ≡ gs
    → SoundState S1 bytes1 room1 gs1
one-more S S1 bytes bytes1 room room1 gs gs1 w s kept drained early few es still size bs rs same =
    let sum : sum_by entry_size (w ∷ []) ≡ 64 = omega (arith, size) in
    sound-more S S1 bytes bytes1 room room1 gs gs1 [] (w ∷ []) s kept drained early few es still
    (bs ∙ ap (λ (k : ℕ). capped (bytes + capped k)) (sym sum)) rs (same ∙ sym (append-nil gs)) tt

-- which of two states it is
pub second-of : (b : Bool) (x y : State) → b ≡ false → KeptInRoom (cond b x y) → KeptInRoom y
second-of true x y e k = absurd cc
second-of false x y e k = k

pub first-of : (b : Bool) (x y : State) → b ≡ true → KeptInRoom (cond b x y) → KeptInRoom x
first-of true x y e k = k
first-of false x y e k = absurd cc

pub sound-open : (t : ℕ) (S S1 : State) (bytes bytes1 room room1 : ℕ) (gs gs1 : List Given)
    → SoundState S bytes room gs → S.sealed ≡ false → fits (opens t S) ≡ true → S.moment ≤ t → t ≤ 2 ^ 62 → length S.conns < 256
    → S1 ≡ opens t S → bytes1 ≡ capped (bytes + 64) → length S.conns + 2 ≤ room1 → gs1 ≡ gs
    → SoundState S1 bytes1 room1 gs1
sound-open t S S1 bytes bytes1 room room1 gs gs1 s unsealed fit later early few is bs rs same =
    let kept : KeptInRoom (opens t S) =
    first-of (fits (opens t S)) (opens t S) (seals t S) fit
    (second-of S.sealed S (cond (fits (opens t S)) (opens t S) (seals t S)) unsealed (opens-in-room t S s.kept later)) in
    let d = s.drained in
    let len : length (opens t S).conns ≡ length S.conns + 1 = length-append S.conns (record { id = S.opened; pending = None } ∷ []) in
    subst (λ (U : State). SoundState U bytes1 room1 gs1) (sym is)
    (one-more S (opens t S) bytes bytes1 room room1 gs gs1 _ s kept (record { once = d.once; out = d.out }) early (omega (arith, len, few)) refl refl refl bs
    (let one = seals-few S.sealed in omega (arith, len, one, rs)) same)

pub sound-seal : (t : ℕ) (S S1 : State) (bytes bytes1 room room1 : ℕ) (gs gs1 : List Given)
    → SoundState S bytes room gs → S.sealed ≡ false → KeptInRoom (seals t S) → t ≤ 2 ^ 62
    → S1 ≡ seals t S → bytes1 ≡ capped (bytes + 64) → room1 + 1 ≡ room → gs1 ≡ gs
    → SoundState S1 bytes1 room1 gs1
sound-seal t S S1 bytes bytes1 room room1 gs gs1 s unsealed kept early is bs rs same =
    let d = s.drained in
    let few = s.few in
    let p = s.places in
    let one = seal-held S.sealed unsealed in
    subst (λ (U : State). SoundState U bytes1 room1 gs1) (sym is)
    (one-more S (seals t S) bytes bytes1 room room1 gs gs1 _ s kept (record { once = d.once; out = d.out }) early few refl refl refl bs
    (omega (arith, p, one, rs)) same)

pub unopened : (t : ℕ) (S : State) → KeptInRoom S → S.sealed ≡ false → fits (opens t S) ≡ false → S.moment ≤ t → KeptInRoom (seals t S)
unopened t S k unsealed fit later =
    second-of (fits (opens t S)) (opens t S) (seals t S) fit
    (second-of S.sealed S (cond (fits (opens t S)) (opens t S) (seals t S)) unsealed (opens-in-room t S k later))

bit-most : (b : Bool) → one b ≤ 1
bit-most true = omega arith
bit-most false = omega arith

bit-none : (b : Bool) → b ≡ false → one b ≡ 0
bit-none true e = absurd cc
bit-none false e = refl

-- a connection that is shut is one less
fewer : (xs : List Conn) (c : ℕ) (p : Option ℕ) → HasConn xs c p → count_by (λ (x : Conn). not (eqb x.id c)) xs + 1 ≤ length xs
fewer [] c p h = elim h [ ]
fewer (x ∷ xs) c p (inl h) =
    let most = count_by-le-length (λ (y : Conn). not (eqb y.id c)) xs in
    let here : not (eqb x.id c) ≡ false = ap not (eq-eqb x.id c h.0) in
    let none = bit-none (not (eqb x.id c)) here in
    let all = count-cons (λ (y : Conn). not (eqb y.id c)) x xs in omega (arith, most, none, all)
fewer (x ∷ xs) c p (inr h) =
    let rest = fewer xs c p h in
    let few = bit-most (not (eqb x.id c)) in
    let all = count-cons (λ (y : Conn). not (eqb y.id c)) x xs in omega (arith, rest, few, all)

pub conn-place : (S : State) (bytes room : ℕ) (gs : List Given) (c : ℕ) (p : Option ℕ) → SoundState S bytes room gs → HasConn S.conns c p → 0 < room
conn-place S bytes room gs c p s h =
    let q = s.places in
    let less = fewer S.conns c p h in omega (arith, q, less)

pub sound-shut : (t c : ℕ) (p : Option ℕ) (S S1 : State) (bytes bytes1 room room1 : ℕ) (gs gs1 : List Given)
    → SoundState S bytes room gs → HasConn S.conns c p → S.moment ≤ t → t ≤ 2 ^ 62
    → S1 ≡ shuts t c S → bytes1 ≡ capped (bytes + 64) → room1 + 1 ≡ room → gs1 ≡ gs
    → SoundState S1 bytes1 room1 gs1
sound-shut t c p S S1 bytes bytes1 room room1 gs gs1 s has later early is bs rs same =
    let d = s.drained in
    let few = s.few in
    let less = length-filter (λ (x : Conn). not (eqb x.id c)) S.conns in
    let most = fewer S.conns c p has in
    let held = s.places in
    subst (λ (U : State). SoundState U bytes1 room1 gs1) (sym is)
    (one-more S (shuts t c S) bytes bytes1 room room1 gs gs1 _ s (shuts-in-room t c p S s.kept later has) (record { once = d.once; out = d.out }) early (omega (arith, less, few, most)) refl refl refl bs
    (omega (arith, less, most, held, rs)) same)

-- a core with no entry
pub sound-start : (h : List Written) (given : ℕ) (kept : List ℕ) (cs : List Conn) (es : List Exchange) (fs : List Piece) (qs : List Stale) (rs : List Reader) (us : List Registration) (ps : List Pair) (xs : List PeerLink) (gs : List Given) (room : ℕ)
    → h ≡ [] → given ≡ 0 → kept ≡ [] → cs ≡ [] → es ≡ [] → fs ≡ [] → qs ≡ [] → rs ≡ [] → us ≡ [] → ps ≡ [] → xs ≡ [] → gs ≡ [] → 1 ≤ room
    → SoundState (record { entries = h; sealed = false; given = given; kept = kept; moment = 0; opened = 0; issued = 0; conns = cs; exchanges = es; pieces = fs; stales = qs; readers = rs; watches = us; store = ps; links = xs }) 0 room gs
sound-start h given kept cs es fs qs rs us ps xs gs room a g k b c f q r u p d e large =
    rw (a, g, k, b, c, f, q, r, u, p, d, e) (record {
      kept = start-in-room;
      drained = record { once = tt; out = tt };
      early = omega arith;
      few = omega arith;
      count = refl;
      places = omega (arith, large);
      given = tt;
    })

-- what was drafted has come
pub sound-drafted : (t : ℕ) (S S1 : State) (bytes bytes1 room room1 : ℕ) (gs gs1 : List Given) (ds : List Deed) (d : DraftValue)
    → SoundState S bytes room gs → IsDrafted t S ds d → S1.entries ≡ S.entries ++ d.entries → S1.given ≡ S.given → S1.moment ≤ 2 ^ 62
    → S1.conns ≡ conns_with S.conns (length S.entries) d.entries
    → KeptInRoom S1 → IsDrained S1 → bytes1 ≡ capped (bytes + capped (sum_by entry_size d.entries)) → length S.conns + 1 ≤ room1
    → gs1 ≡ gs ++ d.answers
    → SoundState S1 bytes1 room1 gs1
sound-drafted t S S1 bytes bytes1 room room1 gs gs1 ds d s h es still early conns kept drained bs rs gave =
    let few = s.few in
    let open_now : length S1.conns ≡ length S.conns = ap (λ (cs : List Conn). length cs) conns ∙ conns-keep d.entries (length S.entries) S.conns h.drafts.keep in
    sound-more S S1 bytes bytes1 room room1 gs gs1 d.answers d.entries s kept drained early (omega (arith, open_now, few))
    es still bs (let one = seals-few S1.sealed in omega (arith, open_now, one, rs)) gave (subst (λ (ws : List Written). AllByRecursion (IsGiven ws) d.answers) (sym es) h.given)

-- what fits is within the limits
pub few-for : (t : ℕ) (S : State) (d : DraftValue) → KeptInRoom S → fits (with_draft t d S) ≡ true → length S.entries + length d.entries ≤ most_entries
few-for t S d k fit =
    let e = (fits-parts (with_draft t d S) fit).0 in
    let given = k.here.numbered in
    let len = length-append S.entries d.entries in omega (arith, e, given, len)

pub few-in : (S V : State) (d : DraftValue) → V.entries ≡ S.entries ++ d.entries → KeptInRoom V → length S.entries + length d.entries ≤ most_entries
few-in S V d es kept =
    let all : length V.entries ≡ length S.entries + length d.entries = ap (λ (ws : List Written). length ws) es ∙ length-append S.entries d.entries in
    let limit = all-below V kept in omega (arith, all, limit)

capped-small : (n : ℕ) → n ≤ 268435456 → capped n ≡ n
capped-small n small = omega (arith, small)

-- the copies of a journal that is given out
pub sound-turned : (t : ℕ) (S S1 : State) (bytes bytes1 room room1 : ℕ) (gs gs1 : List Given)
    → SoundState S bytes room gs → S.moment ≤ t → t ≤ 2 ^ 62 → fault_of t S ≡ None → S1 ≡ turned t S
    → bytes1 ≡ capped (sum_by entry_size S1.entries) → 0 < room1 → gs1 ≡ []
    → SoundState S1 bytes1 room1 gs1
sound-turned t S S1 bytes bytes1 room room1 gs gs1 s later early fit is count place none =
    let kept : KeptInRoom S1 = subst KeptInRoom (sym is) (rotates-in-room t S s.kept later fit) in
    record {
      kept = kept;
      drained = subst IsDrained (sym is) (rotates-drained t S s.drained);
      early = let m = ap (λ (U : State). U.moment) is in omega (arith, m, early);
      few = let cs = ap (λ (U : State). length U.conns) is in omega (arith, cs);
      count =
          let whole : sum_by entry_size (drop S1.given S1.entries) ≡ sum_by entry_size S1.entries =
          ap (λ (k : ℕ). sum_by entry_size (drop k S1.entries)) (ap (λ (U : State). U.given) is) in
          let small = (within-limits S1 kept).1 in
          count ∙ (capped-small (sum_by entry_size S1.entries) (omega (arith, small, whole)) ∙ sym whole);
      places =
          let closed = ap (λ (U : State). length U.conns) is in
          let unsealed = ap (λ (U : State). seals_left U.sealed) is in
          omega (arith, closed, unsealed, place);
      given = subst (AllByRecursion (IsGiven S1.entries)) (sym none) tt;
    }
