-- What is drafted and changed for a datagram is what the step leaves.
use Rattle.std.proofs.Common.{◌≡◌, ℕ, suc, ◌+◌, ◌<◌, ◌≤◌, Bool, true, false, cond, List, [], ◌∷◌, ◌++◌, length, map, get_or, Option, Some, None, Result, Ok, Err, refl, sym, ap, subst, ◌∙◌, append_assoc}
use Rattle.std.specs.Prelude.{is_some}
use Rattle.std.specs.List.{AllByRecursion}
use Rattle.coap_codec.specs.Spelling.{Content, Spells}
use Rattle.coap_codec.specs.Reading.{message_at}
use Rattle.coap_codec.specs.declared.fault.CodecFault.{CodecFault}
use Rattle.coap_codec.proofs.Takes.{message_takes}
use Rattle.uri_map.specs.declared.peer.Peer.{Peer}
use Rattle.journal_book.specs.Entries.{Deed, Hears}
use Rattle.message_layer.specs.Values.{LinkState, LinkValue, Told, told}
use Rattle.message_layer.specs.Hearing.{applied, says, replies, listed, reset_for, verdict_of}
use Rattle.message_layer.specs.Prepared.{MayFollow, MayHeed, IsHearing, IsRead, followed, is_lost, unread_verdict, unread_mid}
use Rattle.message_layer.specs.declared.prepared.FirstSending.{FirstSending}
use Rattle.message_layer.specs.declared.prepared.Heeding.{Heeding}
use Rattle.message_layer.specs.declared.prepared.Hearing.{Hearing}
use Rattle.message_layer.specs.declared.prepared.Submission.{Submission}
use Rattle.message_layer.specs.declared.state.Waiting.{Waiting}
use Rattle.message_layer.specs.declared.verdict.News.{News}
use Rattle.message_layer.specs.declared.verdict.News.TheVariants as N
use Rattle.message_layer.specs.declared.verdict.Verdict.{Verdict}
use Rattle.history_laws.specs.Progress.{Progress}
use Rattle.observe_share.specs.declared.registration.Registration.{Registration}
use Rattle.exchange_model.specs.declared.kept.Exchange.{Exchange}
use Rattle.exchange_model.specs.State.{PeerLink, State, link_of, with_link}
use Rattle.exchange_model.specs.Matters.{Matter, Nothing, Tells, Goes, Over, has_next_place, matter_of}
use Rattle.exchange_model.specs.Hearing.{Numbers, exchanges_by, gone_by, issued_by, more_by, pieces_by, stales_by, store_by, watches_by}
use Rattle.exchange_model.specs.Calls.{goes_as, goes_by, goes_with, heard, repeats, told_for}
use Rattle.exchange_model.specs.Entering.{Effect, awaits_no_more, entered_all, first_deeds, going_as, sent_as, answer_of, confirm, heeded, next_out, taken_with, garbled, no_effect, IsMid, Comes}
use Rattle.exchange_model.specs.Keeping.{MayGoOn}
use Rattle.exchange_model.specs.Steps.{given_out}
use Rattle.exchange_model.proofs.CallerLemmas.{garbled-enters, is-bytes, message-enters}
use Rattle.endpoint_table.specs.Tables.{heeds}
use Rattle.history_laws.proofs.CallerLemmas.{some-is}
use Rattle.exchange_core.specs.declared.matter.Matter.{Matter as RustMatter}
use Rattle.exchange_core.specs.declared.matter.Matter.TheVariants as M
use Rattle.exchange_core.specs.Hearing.{first_number, hearing_deeds, hearing_state, note_next}
use Rattle.exchange_core.specs.Matters.{IsMatter, IsPrepared, answer_in, matter_with, more_in, next_in}
use Rattle.exchange_core.specs.Notifying.{is_alone, matter_alone, matter_told}
use Rattle.exchange_core.specs.Sending.{sent_first}
use Rattle.exchange_core.proofs.Heard.{IsFirstOf, next-deeds, next-is, next-noted, waiting_in}
use Rattle.exchange_core.proofs.MatterBy.{matter-told}

-- what the link and the tables say is what the step says

more-same : (n : ℕ) (new : Numbers) (k : RustMatter) (x : Matter) → IsMatter n new k x → more_by new x ≡ waiting_in (more_in k)
more-same n new M.Nothing x i = ap (more_by new) i
more-same n new (M.Tells y) x i = ap (more_by new) i.1
more-same n new (M.Starts y) x i = ap (more_by new) i.2 ∙ ap Some (sym i.10)
more-same n new (M.Goes g) x i = ap (more_by new) i.1 ∙ ap Some (sym i.4)
more-same n new (M.Over e ended) x i = ap (more_by new) i.1

followed-same : (t : ℕ) (more : Option Submission) (s : LinkState) → followed t more s ≡ taken_with t (waiting_in more) s
followed-same t None s = refl
followed-same t (Some y) s = refl

module _ (t : ℕ) (p : Peer) (d : List ℕ) (S : State) (link : LinkValue) (x : Heeding) (k : RustMatter) (f : Effect) where
  abbrev matter : Matter
  matter = f.matter

  abbrev new : Numbers
  new = f.numbers

  abbrev n : ℕ
  n = length S.entries

  abbrev s : LinkState
  s = link_of S.links p

  abbrev tellings : List Deed
  tellings = map answer_of (told_for n matter S.readers)

  abbrev answered : ℕ
  answered = length (replies x.mid x.verdict.reply)

  abbrev es : List Exchange
  es = exchanges_by S.entries new.token matter S.exchanges

  -- the state, where these are the deeds, the exchanges and the links
  abbrev left : List Deed → List Exchange → List PeerLink → State
  left ds fs ls = record (entered_all t ds S) {
    issued = issued_by matter S.issued;
    exchanges = fs;
    pieces = pieces_by n matter S.pieces;
    stales = stales_by matter S.stales;
    watches = f.watches;
    store = store_by S.entries t matter S.store;
    links = ls;
  }

  abbrev deeds_with : Option Waiting → List Deed
  deeds_with w =
      Hears p d ∷ (map (confirm p) (replies x.mid x.verdict.reply)
      ++ (first_deeds t p s.last_mid (next_out x.verdict s w) ++ tellings))

  abbrev exchanges_with : Option Waiting → List Exchange
  exchanges_with w = sent_as (going_as (n + 1 + answered) (next_out x.verdict s w)) es

  abbrev links_with : Option Waiting → List PeerLink
  links_with w =
      with_link p (given_out (awaits_no_more f.gone (taken_with t w (applied t x.mid x.token x.verdict s)))) S.links

  abbrev left_with : Option Waiting → State
  left_with w = left (deeds_with w) (exchanges_with w) (links_with w)

  pub heeded-so : MayHeed t link x → MayFollow t link x (more_in k) → link.state ≡ link_of S.links p
      → (s.outstanding ≡ None → s.waiting ≡ []) → IsMatter n new k matter
      → heeded t p d x.mid x.token x.verdict f S ≡ hearing_state t p d x k f S
  heeded-so h follows at rests i =
      let w : Option Waiting = waiting_in (more_in k) in
      let v : Option FirstSending = next_in x k in
      let first : IsFirstOf t s.last_mid (next_out x.verdict s w) v =
      subst (λ (u : LinkState). IsFirstOf t u.last_mid (next_out x.verdict u w) v) at
      (next-is t link x (more_in k) h follows (subst (λ (u : LinkState). u.outstanding ≡ None → u.waiting ≡ []) (sym at) rests)) in
      let deeds : hearing_deeds p d x v matter S ≡ deeds_with w =
      ap (λ (ds : List Deed). Hears p d ∷ ds)
      (append_assoc (map (confirm p) (listed x.reply)) (sent_first p v) tellings)
      ∙ (ap (λ (bs : List (List ℕ)). Hears p d ∷ (map (confirm p) bs ++ (sent_first p v ++ tellings))) h.reply
      ∙ ap (λ (ds : List Deed). Hears p d ∷ (map (confirm p) (replies x.mid x.verdict.reply) ++ (ds ++ tellings)))
      (next-deeds t p s.last_mid (next_out x.verdict s w) v first)) in
      let number : first_number n x ≡ n + 1 + answered = ap (λ (bs : List (List ℕ)). n + 1 + length bs) h.reply in
      let exchanges : note_next (first_number n x) v es ≡ exchanges_with w =
      ap (λ (j : ℕ). note_next j v es) number ∙ next-noted t (n + 1 + answered) s.last_mid (next_out x.verdict s w) v es first in
      let links : with_link p (heeds t x (more_in k) f.gone s) S.links ≡ links_with w =
      ap (λ (u : LinkState). with_link p (given_out (awaits_no_more f.gone u)) S.links) (followed-same t (more_in k) (applied t x.mid x.token x.verdict s)) in
      ap left_with (more-same n new k matter i)
      ∙ sym (ap (λ (ds : List Deed). left ds (note_next (first_number n x) v es) (with_link p (heeds t x (more_in k) f.gone s) S.links)) deeds
      ∙ (ap (λ (fs : List Exchange). left (deeds_with w) fs (with_link p (heeds t x (more_in k) f.gone s) S.links)) exchanges
      ∙ ap (λ (ls : List PeerLink). left (deeds_with w) (exchanges_with w) ls) links))

-- what a message is, and what is none

pub not-lost : (v : News) → is_lost v ≡ false → v ≡ N.Lost → ⊥
not-lost v e f = true-false (sym (ap is_lost f) ∙ e)
  where
    true-false : true ≡ false → ⊥
    true-false k = cc

-- It is to the exchanges what the message is.
pub matter-is : (t : ℕ) (p : Peer) (d : List ℕ) (S : State) (link : LinkValue) (h : Hearing) (m : Content) → link.state ≡ link_of S.links p → IsRead t d link.state (Ok m) h
    → matter_told t p h.heeding (told h.up) S ≡ matter_of t p m (verdict_of t (link_of S.links p) m) S
matter-is t p d S link h m at read =
    let x = h.heeding in
    let b : Bool = has_next_place t p x.verdict S in
    let by : List ℕ → Matter = λ token.
    cond (is_alone (says x.verdict.news m) token S.exchanges) (matter_alone t p (says x.verdict.news m) S) (matter_with b (answer_in (says x.verdict.news m) token S)) in
    ap (λ (u : Told). matter_told t p x u S) read.up
    ∙ (ap by read.token
    ∙ (sym (matter-told t p x.verdict.news m b S)
    ∙ ap (λ (v : Verdict). matter_of t p m v S) (read.verdict ∙ ap (λ (u : LinkState). verdict_of t u m) at)))

pub nothing-is : (t : ℕ) (p : Peer) (d : List ℕ) (S : State) (s : LinkState) (h : Hearing) (e : CodecFault) → IsRead t d s (Err e) h
    → matter_told t p h.heeding (told h.up) S ≡ Nothing
nothing-is t p d S s h e read = ap (λ (u : Told). matter_told t p h.heeding u S) read.up

message-is : (t : ℕ) (p : Peer) (d : List ℕ) (S : State) (m : Content) (x : Heeding) (f : Effect)
    → x.mid ≡ m.mid → x.token ≡ m.token → x.verdict ≡ verdict_of t (link_of S.links p) m
    → heeded t p d m.mid m.token (verdict_of t (link_of S.links p) m) f S ≡ heeded t p d x.mid x.token x.verdict f S
message-is t p d S m x f mid token verdict =
    sym (ap (λ (k : ℕ). heeded t p d k x.token x.verdict f S) mid
    ∙ (ap (λ (k : List ℕ). heeded t p d m.mid k x.verdict f S) token
    ∙ ap (λ (v : Verdict). heeded t p d m.mid m.token v f S) verdict))

none-is : (t : ℕ) (p : Peer) (d : List ℕ) (S : State) (k : Option ℕ) (x : Heeding) (f : Effect)
    → x.verdict ≡ unread_verdict k → heeded t p d x.mid x.token (garbled k) f S ≡ heeded t p d x.mid x.token x.verdict f S
none-is t p d S None x f e = ap (λ (v : Verdict). heeded t p d x.mid x.token v f S) (sym e)
none-is t p d S (Some mid) x f e = ap (λ (v : Verdict). heeded t p d x.mid x.token v f S) (sym e)

mid-is : (k : Option ℕ) (mid : ℕ) → mid ≡ unread_mid k → IsMid k mid
mid-is None mid e = tt
mid-is (Some n) mid e = e

-- The exchange goes on by it that the message answers, or begins.

new-goes : (b : Bool) (x : Matter) (e : Exchange) (u : Progress) → cond b None (goes_with x) ≡ Some (e, u) → goes_with x ≡ Some (e, u)
new-goes true x e u h = absurd cc
new-goes false x e u h = h

pub goes-matter : (t : ℕ) (p : Peer) (d : List ℕ) (S : State) (link : LinkValue) (h : Hearing) → IsHearing t d link h → link.state ≡ link_of S.links p
    → (e : Exchange) (u : Progress) → goes_by t p d S ≡ Some (e, u) → goes_with (matter_told t p h.heeding (told h.up) S) ≡ Some (e, u)
goes-matter t p d S link h i at e u goes = by (message_at d) i.is goes
  where
    by : (r : Result Content CodecFault) → IsRead t d link.state r h → goes_as t p r S ≡ Some (e, u) → goes_with (matter_told t p h.heeding (told h.up) S) ≡ Some (e, u)
    by (Err f) read g = absurd cc
    by (Ok m) read g = ap goes_with (matter-is t p d S link h m at read) ∙ new-goes (repeats t (link_of S.links p) m) _ e u g

some-of : (v : Option (Exchange × Progress)) → is_some v ≡ true → (y : Exchange × Progress) × (v ≡ Some y)
some-of None e = absurd cc
some-of (Some y) e = (y, refl)

module _ (t word : ℕ) (p : Peer) (d : List ℕ) (S : State) (link : LinkValue) (h : Hearing) (k : RustMatter) (i : IsHearing t d link h) (at : link.state ≡ link_of S.links p)
    (made : IsPrepared t word link h.heeding S k (matter_told t p h.heeding (told h.up) S)) (ws : List Registration) (gone : List (List ℕ)) where
  -- what it is, and what becomes of what is observed
  abbrev pub effect : Effect
  effect = record { matter = matter_told t p h.heeding (told h.up) S; watches = ws; gone = gone; numbers = made.numbers }

  abbrev pub WatchedAs : Result Content CodecFault → Type 0
  WatchedAs (Ok m) =
      (ws ≡ watches_by t m S.entries (matter_told t p h.heeding (told h.up) S) S.watches)
      × (gone ≡ gone_by m S.entries (matter_told t p h.heeding (told h.up) S) S.watches)
  WatchedAs (Err e) = (ws ≡ S.watches) × (gone ≡ [])

  pub goes-on : MayGoOn t p d made.numbers S
  goes-on e u goes = made.continued e u (goes-matter t p d S link h i at e u goes)

  pub goes-short : is_some (goes_by t p d S) ≡ true → length made.numbers.text ≤ 2024
  goes-short some =
      let y = some-of (goes_by t p d S) some in
      made.short y.0.0 y.0.1 (goes-matter t p d S link h i at y.0.0 y.0.1 y.1)

  pub as-heeded : ((link_of S.links p).outstanding ≡ None → (link_of S.links p).waiting ≡ [])
      → heeded t p d h.heeding.mid h.heeding.token h.heeding.verdict effect S ≡ hearing_state t p d h.heeding k effect S
  as-heeded rests = heeded-so t p d S link h.heeding k effect i.ready made.follows at rests made.is

  -- The step leaves what was drafted, and the tables after it.
  pub heard-so : Comes t p d S → ((link_of S.links p).outstanding ≡ None → (link_of S.links p).waiting ≡ []) → WatchedAs (message_at d)
      → heard t p d made.numbers S ≡ hearing_state t p d h.heeding k effect S
  heard-so come rests watched = by (message_at d) refl i.is watched
    where
      x : Heeding
      x = h.heeding

      matter : Matter
      matter = matter_told t p x (told h.up) S

      so : heeded t p d x.mid x.token x.verdict effect S ≡ hearing_state t p d x k effect S
      so = as-heeded rests

      with-matter : Content → Matter → Effect
      with-matter m y = record { matter = y; watches = watches_by t m S.entries y S.watches; gone = gone_by m S.entries y S.watches; numbers = made.numbers }

      by : (r : Result Content CodecFault) → message_at d ≡ r → IsRead t d link.state r h → WatchedAs r
          → heard t p d made.numbers S ≡ hearing_state t p d x k effect S
      by (Ok m) is read so_watched =
          let same : with-matter m (matter_of t p m (verdict_of t (link_of S.links p) m) S) ≡ effect =
          ap (with-matter m) (sym (matter-is t p d S link h m at read))
          ∙ (ap (λ (v : List Registration). record { matter = matter; watches = v; gone = gone_by m S.entries matter S.watches; numbers = made.numbers }) (sym so_watched.0)
          ∙ ap (λ (v : List (List ℕ)). record { matter = matter; watches = ws; gone = v; numbers = made.numbers }) (sym so_watched.1)) in
          let verdict : x.verdict ≡ verdict_of t (link_of S.links p) m = read.verdict ∙ ap (λ (u : LinkState). verdict_of t u m) at in
          message-enters t p d m made.numbers S come is goes-on
          (λ e. not-lost x.verdict.news read.kept (ap (λ (v : Verdict). v.news) verdict ∙ e))
          ∙ (ap (λ (y : Effect). heeded t p d m.mid m.token (verdict_of t (link_of S.links p) m) y S) same
          ∙ (message-is t p d S m x effect read.mid read.token verdict ∙ so))
      by (Err e) is read so_watched =
          let same : no_effect made.numbers S ≡ effect =
          ap (λ (y : Matter). record { matter = y; watches = S.watches; gone = []; numbers = made.numbers }) (sym (nothing-is t p d S link.state h e read))
          ∙ (ap (λ (v : List Registration). record { matter = matter; watches = v; gone = []; numbers = made.numbers }) (sym so_watched.0)
          ∙ ap (λ (v : List (List ℕ)). record { matter = matter; watches = ws; gone = v; numbers = made.numbers }) (sym so_watched.1)) in
          garbled-enters t p d e x.mid x.token made.numbers S come is (mid-is (reset_for d) x.mid read.mid_is)
          ∙ (ap (λ (y : Effect). heeded t p d x.mid x.token (garbled (reset_for d)) y S) same
          ∙ (none-is t p d S (reset_for d) x effect read.verdict ∙ so))

-- a message that is told is what the datagram spells
pub spells : (d : List ℕ) (m : Content) → AllByRecursion (λ (b : ℕ). b < 256) d → message_at d ≡ Ok m → Spells m d
spells d m bytes is = message_takes d m (is-bytes d bytes) is

-- each byte of a datagram is one
pub bytes-small : (d : List ℕ) → ((i : ℕ) → get_or d i 0 < 256)
    → AllByRecursion (λ (b : ℕ). b < 256) d
bytes-small [] h = tt
bytes-small (b ∷ d) h = (h 0, bytes-small d (λ i. h (suc i)))
