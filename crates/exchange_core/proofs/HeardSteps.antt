-- A step that hears a datagram.
use Rattle.std.proofs.Common.{◌≡◌, ℕ, ◌+◌, ◌<◌, ◌≤◌, ◌^◌, Bool, true, false, cond, List, [], ◌∷◌, ◌++◌, length, map, Option, Some, None, Result, Ok, Err, refl, sym, ap, subst, ◌∙◌, append-nil, arith}
use Rattle.std.specs.Prelude.{is_some, sum_by}
use Rattle.std.specs.List.{AllByRecursion}
use Rattle.std.proofs.lemmas.Bool.{false≢true, le-ltb}
use Rattle.coap_codec.specs.Spelling.{Content}
use Rattle.coap_codec.specs.Reading.{message_at}
use Rattle.coap_codec.specs.declared.fault.CodecFault.{CodecFault}
use Rattle.uri_map.specs.declared.peer.Peer.{Peer}
use Rattle.ask_model.specs.Sizes.{capped}
use Rattle.journal_book.specs.Entries.{Deed, Hears, Seals, entry_size}
use Rattle.message_layer.specs.Values.{LinkState, LinkValue, told, no_news, response, was_reset, was_dropped}
use Rattle.message_layer.specs.Hearing.{hears, hears_from, hears_read, listed, says, verdict_of}
use Rattle.message_layer.specs.Prepared.{IsHearing, IsRead}
use Rattle.message_layer.specs.declared.prepared.FirstSending.{FirstSending}
use Rattle.message_layer.specs.declared.prepared.Hearing.{Hearing}
use Rattle.message_layer.specs.declared.verdict.News.{News}
use Rattle.message_layer.specs.declared.verdict.News.TheVariants as N
use Rattle.message_layer.specs.declared.verdict.Verdict.{Verdict}
use Rattle.history_links.specs.Steps.{ended_token}
use Rattle.history_laws.specs.Numbering.{token_number}
use Rattle.history_laws.specs.Progress.{Progress}
use Rattle.observe_share.specs.declared.registration.Registration.{Registration}
use Rattle.exchange_model.specs.declared.kept.Exchange.{Exchange}
use Rattle.exchange_model.specs.State.{State, link_of}
use Rattle.exchange_model.specs.Steps.{seals}
use Rattle.exchange_model.specs.Matters.{Matter, Nothing, answered_in, has_next_place, matter_by}
use Rattle.exchange_model.specs.Hearing.{Numbers}
use Rattle.exchange_model.specs.Calls.{goes_as, goes_by, goes_with, heard, repeats}
use Rattle.exchange_model.specs.Room.{fits, KeptInRoom}
use Rattle.exchange_model.specs.Sealing.{hears_in_room}
use Rattle.exchange_model.specs.Entering.{Effect, confirm, entered_all, IsDrained, Comes}
use Rattle.exchange_model.proofs.CallerLemmas.{dropped-stays, hears-in-room, readers-known, stays-drained}
use Rattle.exchange_model.specs.Keeping.{Kept}
use Rattle.exchange_table.specs.Tables.{IsNewest}
use Rattle.exchange_core.specs.declared.matter.Matter.{Matter as RustMatter}
use Rattle.exchange_core.specs.declared.matter.Matter.TheVariants as M
use Rattle.exchange_core.specs.Answering.{Given}
use Rattle.exchange_core.specs.Calls.{HearsSo, IsTakenIn}
use Rattle.exchange_core.specs.Drafts.{DraftValue, IsDrafted, empty_draft}
use Rattle.exchange_core.specs.Ending.{IsTold}
use Rattle.exchange_core.specs.Hearing.{IsNewestIn, hearing_deeds, link_deeds, tables_after, with_heard}
use Rattle.exchange_core.specs.Matters.{IsMatter, IsNextToken, IsPrepared, TellsSo, next_in, told_of, under}
use Rattle.exchange_core.specs.Notifying.{matter_told}
use Rattle.exchange_core.specs.Sending.{sent_first}
use Rattle.exchange_core.specs.Sound.{SoundState}
use Rattle.exchange_core.specs.States.{with_draft, core_of}
use Rattle.exchange_core.specs.Values.{CoreValue, Outgoing, stepped, written}
use Rattle.exchange_core.proofs.Drafting.{drafts-none, drafts-alone}
use Rattle.exchange_core.proofs.Heard.{idle-waits}
use Rattle.exchange_core.proofs.Heeds.{WatchedAs, as-heeded, effect, goes-on, goes-short, heard-so, matter-is, not-lost, nothing-is, spells}
use Rattle.exchange_core.proofs.Ordered.{latest}
use Rattle.exchange_core.proofs.Sounding.{sound-drafted, sound-seal}
use Rattle.exchange_core.proofs.Stepping.{with-draft, committed, stepped-same}
use Rattle.exchange_core.proofs.Tolds.{all-told}

-- what is lost leaves all as it is

pub lost-stays : (t : ℕ) (p : Peer) (d : List ℕ) (n : Numbers) (S : State) (gs : List Given) (os : List Outgoing)
    → KeptInRoom S → heard t p d n S ≡ S → core_of S gs os
    ≡ stepped (hears_in_room t p d n S) (core_of S gs os)
lost-stays t p d n S gs os k e =
    sym (ap (λ (U : State). stepped U (core_of S gs os)) (by S.sealed) ∙ stepped-same S gs os)
  where
    by : (b : Bool) → cond b S (cond (fits (heard t p d n S)) (heard t p d n S) (seals t S)) ≡ S
    by true = refl
    by false =
        ap (λ (U : State). cond (fits U) U (seals t S)) e
        ∙ ap (λ (b : Bool). cond b S (seals t S)) k.fit

dropped-lost : (t : ℕ) (p : Peer) (d : List ℕ) (n : Numbers) (S : State) (s : LinkState) → s ≡ link_of S.links p
    → hears t d s ≡ (s, was_dropped) → heard t p d n S ≡ S
dropped-lost t p d n S s at e =
    dropped-stays t p d n S (subst (λ (u : LinkState). (hears t d u).1 ≡ was_dropped) at
    (ap (λ v. v.1) e))

-- No exchange goes on by it.

quiet-told : no_news ≡ was_dropped → ⊥
quiet-told e = cc

response-told : (m : Content) → response m ≡ was_dropped → ⊥
response-told m e = cc

reset-told : (token : List ℕ) → was_reset token ≡ was_dropped → ⊥
reset-told token e = cc

none-goes : (y : Exchange × Progress) → None ≡ Some y → ⊥
none-goes y h = cc

either-none : (b : Bool) (x : Matter) (e : Exchange) (u : Progress) → x ≡ Nothing → cond b None (goes_with x) ≡ Some (e, u) → ⊥
either-none true x e u is h = none-goes (e, u) h
either-none false x e u is h = none-goes (e, u) (sym (ap goes_with is) ∙ h)

goes-not : (t : ℕ) (p : Peer) (d : List ℕ) (S : State) → IsTakenIn p d S → (hears t d (link_of S.links p)).1 ≡ was_dropped
    → (e : Exchange) (u : Progress) → goes_by t p d S ≡ Some (e, u) → ⊥
goes-not t p d S taken lost e u goes = by (link_of S.links p).last_mid taken.known lost
  where
    s : LinkState
    s = link_of S.links p

    news : (m : Content) (v : News) → (verdict_of t s m).news ≡ v → says v m ≡ was_dropped → goes_as t p (Ok m) S ≡ Some (e, u) → ⊥
    news m N.Lost is told g =
        either-none (repeats t s m) _ e u
        (ap (λ (w : News). matter_by t p w (has_next_place t p (verdict_of t s m) S) m S (answered_in (ended_token w m.token) S.exchanges)) is) g
    news m N.Quiet is told g = quiet-told told
    news m N.Response is told g = response-told m told
    news m (N.Reset token) is told g = reset-told token told

    read : (r : Result Content CodecFault) → (hears_read t d s r).1 ≡ was_dropped → goes_as t p r S ≡ Some (e, u) → ⊥
    read (Err f) told g = none-goes (e, u) g
    read (Ok m) told g = news m (verdict_of t s m).news refl told g

    by : (v : Option ℕ) → is_some v ≡ true → (hears_from t d s v).1 ≡ was_dropped → ⊥
    by None known told = false≢true known
    by (Some mid) known told =
        read (message_at d)
        (sym (ap (λ (b : Bool). (cond b (s, was_dropped) (hears_read t d s (message_at d))).1) (le-ltb 2048 (length d) taken.short)) ∙ told) goes

pub lost-so : (t word : ℕ) (p : Peer) (d token : List ℕ) (S : State) (s : LinkState) (gs : List Given) (os : List Outgoing)
    → IsNextToken word token S → KeptInRoom S → s ≡ link_of S.links p → hears t d s ≡ (s, was_dropped)
    → HearsSo t word p d (core_of S gs os) (core_of S gs os)
lost-so t word p d token S s gs os fresh k at e =
    let lost : (hears t d (link_of S.links p)).1 ≡ was_dropped = subst (λ (u : LinkState). (hears t d u).1 ≡ was_dropped) at (ap (λ v. v.1) e) in
    record {
      numbers = under token [] word;
      worded = fresh;
      goes = λ taken f u goes. absurd (goes-not t p d S taken lost f u goes);
      short = λ taken some. omega arith;
      is = lost-stays t p d (under token [] word) S gs os k (dropped-lost t p d (under token [] word) S s at e);
    }

-- so does the seal
pub sealed-so : (t word : ℕ) (p : Peer) (d token : List ℕ) (S : State) (gs : List Given) (os : List Outgoing)
    → IsNextToken word token S → S.sealed ≡ true → HearsSo t word p d (core_of S gs os) (core_of S gs os)
sealed-so t word p d token S gs os fresh sealed =
    let n : Numbers = under token [] word in
    record {
      numbers = n;
      worded = fresh;
      goes = λ taken. absurd (false≢true (sym taken.unsealed ∙ sealed));
      short = λ taken. absurd (false≢true (sym taken.unsealed ∙ sealed));
      is = sym (ap (λ (U : State). stepped U (core_of S gs os))
          (ap (λ (b : Bool). cond b S (cond (fits (heard t p d n S)) (heard t p d n S) (seals t S))) sealed) ∙ stepped-same S gs os);
    }

-- The next token was issued after those of all others.
pub newest-in : (S : State) → Kept S → (k : RustMatter) (x : Matter) (new : Numbers) → IsMatter (length S.entries) new k x → token_number new.token ≡ S.issued
    → IsNewestIn k S.exchanges
newest-in S kept M.Nothing x new i number = tt
newest-in S kept (M.Tells y) x new i number = tt
newest-in S kept (M.Starts y) x new i number = latest S y.going.exchange kept i.7 (ap token_number i.9 ∙ number)
newest-in S kept (M.Over e ended) x new i number = tt
newest-in S kept (M.Goes g) x new i number =
    subst (λ (token : List ℕ). IsNewest token S.exchanges) (sym i.3)
    (latest S (record g.exchange { opening = length S.entries; token = new.token }) kept refl number).token

-- what isn't lost

module _ (t word : ℕ) (p : Peer) (d : List ℕ) (S : State) (link : LinkValue) (h : Hearing)
    (bytes room : ℕ) (gs : List Given)
    (s : SoundState S bytes room gs) (unsealed : S.sealed ≡ false) (later : S.moment ≤ t)
    (early : t ≤ 2 ^ 62)
    (small : AllByRecursion (λ (b : ℕ). b < 256) d)
    (i : IsHearing t d link h) (at : link.state ≡ link_of S.links p)
    (k : RustMatter) (made : IsPrepared t word link h.heeding S k (matter_told t p h.heeding (told h.up) S)) where
  abbrev matter : Matter
  matter = matter_told t p h.heeding (told h.up) S

  abbrev n : Numbers
  n = made.numbers

  abbrev next : Option FirstSending
  next = next_in h.heeding k

  comes : Comes t p d S
  comes = record {
    may = record { kept = s.kept.kept; unsealed = unsealed; later = later };
    drained = s.drained;
    known = ap (λ (u : LinkState). is_some u.last_mid) (sym at) ∙ i.known;
    short = i.short;
  }

  -- Each is told what the entries say.
  pub tells-so : TellsSo t (link_deeds p d h.heeding next) k S
  tells-so = record { numbers = n; matter = matter; is = made.is; told = by (message_at d) refl i.is }
    where
      rest : List Deed
      rest = map (confirm p) (listed h.heeding.reply) ++ sent_first p next

      by : (r : Result Content CodecFault) → message_at d ≡ r → IsRead t d link.state r h
          → AllByRecursion (IsTold S.entries (map (written t) (link_deeds p d h.heeding next)) t) (told_of (length S.entries) matter S.readers)
      by (Ok m) is read =
          let verdict : h.heeding.verdict ≡ verdict_of t (link_of S.links p) m = read.verdict ∙ ap (λ (u : LinkState). verdict_of t u m) at in
          all-told t p d S rest m n comes.may comes.known comes.short (spells d m small is)
          (λ e. not-lost h.heeding.verdict.news read.kept (ap (λ (v : Verdict). v.news) verdict ∙ e))
          (length S.entries) matter (sym (matter-is t p d S link h m at read)) (readers-known S s.kept)
      by (Err e) is read = subst (λ (x : Matter). AllByRecursion (IsTold S.entries (map (written t) (link_deeds p d h.heeding next)) t) (told_of (length S.entries) x S.readers)) (sym (nothing-is t p d S link.state h e read)) tt

  module _ (dv : DraftValue) (drafted : IsDrafted t S (hearing_deeds p d h.heeding next matter S) dv) (ws : List Registration) (gone : List (List ℕ))
      (watched : WatchedAs t word p d S link h k i at made ws gone (message_at d)) where
    abbrev pub f : Effect
    f = effect t word p d S link h k i at made ws gone

    abbrev after : State
    after = with_heard t p h.heeding k f dv S

    drawn : with_draft t dv S ≡ entered_all t (hearing_deeds p d h.heeding next matter S) S
    drawn = with-draft t S (Hears p d) _ dv drafted.drafts

    pub new-is : after ≡ heard t p d n S
    new-is =
        ap (λ (U : State). let T = tables_after t p h.heeding k f S in record U {
          issued = T.issued;
          exchanges = T.exchanges;
          pieces = T.pieces;
          stales = T.stales;
          watches = T.watches;
          store = T.store;
          links = T.links;
        }) drawn
        ∙ sym (heard-so t word p d S link h k i at made ws gone comes (idle-waits p S s.kept.kept) watched)

    fits-is : fits (with_draft t dv S) ≡ fits (heard t p d n S)
    fits-is = ap fits new-is

    opened : hears_in_room t p d n S ≡ cond (fits (heard t p d n S)) (heard t p d n S) (seals t S)
    opened = ap (λ (b : Bool). cond b S (cond (fits (heard t p d n S)) (heard t p d n S) (seals t S)))
        unsealed

    in-room : fits (with_draft t dv S) ≡ true → hears_in_room t p d n S ≡ after
    in-room fit =
        opened ∙ (ap (λ (b : Bool). cond b (heard t p d n S) (seals t S)) (sym fits-is ∙ fit)
        ∙ sym new-is)

    out-of-room : fits (with_draft t dv S) ≡ false → hears_in_room t p d n S ≡ seals t S
    out-of-room full =
        opened ∙ ap (λ (b : Bool). cond b (heard t p d n S) (seals t S)) (sym fits-is ∙ full)

    kept : KeptInRoom (hears_in_room t p d n S)
    kept =
        hears-in-room t p d n S s.kept later small (goes-on t word p d S link h k i at made ws gone) (goes-short t word p d S link h k i at made ws gone)

    pub sound-sealed : (S1 : State) (bytes1 room1 : ℕ) (gs1 : List Given) → fits (with_draft t dv S)
        ≡ false
        → S1 ≡ seals t S → bytes1 ≡ capped (bytes + 64) → room1 + 1 ≡ room → gs1 ≡ gs
        → SoundState S1 bytes1 room1 gs1
    sound-sealed S1 bytes1 room1 gs1 full =
        sound-seal t S S1 bytes bytes1 room room1 gs gs1 s unsealed
        (subst KeptInRoom (out-of-room full) kept) early

    pub sound-heard : (S1 : State) (bytes1 room1 : ℕ) (gs1 : List Given) → fits (with_draft t dv S)
        ≡ true
        → S1 ≡ after
        → bytes1 ≡ capped (bytes + capped (sum_by entry_size dv.entries))
        → length S.conns + 1 ≤ room1 → gs1 ≡ gs ++ dv.answers
        → SoundState S1 bytes1 room1 gs1
    sound-heard S1 bytes1 room1 gs1 fit is bs rs gave =
        let U = after in
        let drained : IsDrained U =
        subst IsDrained (as-heeded t word p d S link h k i at made ws gone (idle-waits p S s.kept.kept)
        ∙ (sym (heard-so t word p d S link h k i at made ws gone comes (idle-waits p S s.kept.kept) watched) ∙ sym new-is))
        ((stays-drained t S s.drained).1 p d h.heeding.mid h.heeding.token h.heeding.verdict f) in
        subst (λ (V : State). SoundState V bytes1 room1 gs1) (sym is)
        (sound-drafted t S U bytes bytes1 room room1 gs gs1 _ dv s drafted refl refl early refl
        (subst KeptInRoom (in-room fit) kept) drained bs rs gave)

    so-by : (os : List Outgoing) (v : CoreValue) → v ≡ stepped (hears_in_room t p d n S) (core_of S gs os) → HearsSo t word p d (core_of S gs os) v
    so-by os v is = record {
      numbers = n;
      worded = made.worded;
      goes = λ taken. goes-on t word p d S link h k i at made ws gone;
      short = λ taken. goes-short t word p d S link h k i at made ws gone;
      is = is;
    }

    pub seen-sealed : (S1 : State) (gs1 : List Given) (os os1 : List Outgoing)
        → fits (with_draft t dv S) ≡ false
        → S1 ≡ seals t S → gs1 ≡ gs → os1 ≡ os
        → HearsSo t word p d (core_of S gs os) (core_of S1 gs1 os1)
    seen-sealed S1 gs1 os os1 full is same sent =
        so-by os (core_of S1 gs1 os1)
        (committed t S S1 (Seals ∷ []) _ gs gs1 os os1
        (drafts-alone t S [] Seals (empty_draft (length S.entries)) tt tt (drafts-none t S))
        (ap (λ (U : State). U.entries) is) (same ∙ sym (append-nil gs)) (sent ∙ sym (append-nil os))
        ∙ ap (λ (U : State). stepped U (core_of S gs os)) (is ∙ sym (out-of-room full)))

    pub seen-heard : (S1 : State) (gs1 : List Given) (os os1 : List Outgoing)
        → fits (with_draft t dv S) ≡ true
        → S1 ≡ after → gs1 ≡ gs ++ dv.answers → os1 ≡ os ++ dv.sends
        → HearsSo t word p d (core_of S gs os) (core_of S1 gs1 os1)
    seen-heard S1 gs1 os os1 fit is gave sent =
        so-by os (core_of S1 gs1 os1)
        (committed t S S1 _ dv gs gs1 os os1 drafted.drafts (ap (λ (U : State). U.entries) is) gave sent
        ∙ ap (λ (U : State). stepped U (core_of S gs os)) (is ∙ sym (in-room fit)))
