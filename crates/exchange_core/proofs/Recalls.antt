-- What an ask that the store answers leaves.
use Rattle.std.proofs.Common.{◌≡◌, ◌⊎◌, ◌≤◌, ◌^◌, ℕ, ◌+◌, inl, inr, Bool, true, false, cond, List, [], ◌∷◌, ◌++◌, length, map, Option, Some, None, refl, sym, ap, subst, ◌∙◌}
use Rattle.std.specs.Prelude.{sum_by, is_none, ◌&&◌, ◌==◌}
use Rattle.std.specs.List.{AllByRecursion, find}
use Rattle.std.proofs.lemmas.Bool.{and_parts}
use Rattle.std.proofs.lemmas.Bool.Decides.{Decides-eqb}
use Rattle.coap_codec.specs.Spelling.{Content}
use Rattle.cache_key.specs.Keys.{CacheKey}
use Rattle.observe_share.specs.declared.registration.Registration.{Registration}
use Rattle.resp_cache.specs.Stored.{Stored}
use Rattle.resp_cache.specs.Stores.{is_fresh_under, moved, served, stored_in}
use Rattle.resp_cache.specs.declared.pair.Pair.{Pair}
use Rattle.ask_model.specs.Requests.{CoapRequest, Sense, Requests}
use Rattle.ask_model.specs.Sharing.{asked_key, is_get}
use Rattle.ask_model.specs.Views.{Ask, Mapping}
use Rattle.ask_model.specs.Sizes.{capped}
use Rattle.journal_book.specs.Entries.{Kept, Ground, Heard, Asks, Hears, Answers, Carries, Written, entry_size}
use Rattle.journal_book.specs.Views.{ask_of}
use Rattle.history_laws.proofs.CallerLemmas.{some-is}
use Rattle.reply_reading.specs.Findings.{Tells}
use Rattle.exchange_model.specs.State.{State}
use Rattle.exchange_model.specs.Steps.{seals}
use Rattle.exchange_model.specs.Hearing.{Numbers}
use Rattle.exchange_model.specs.Calls.{IsAlone, asked, served_in}
use Rattle.exchange_model.specs.Entering.{entered_all, IsDrained}
use Rattle.exchange_model.specs.Growing.{IsHeardIn, IsRenewedIn}
use Rattle.exchange_model.specs.Room.{fits, KeptInRoom}
use Rattle.exchange_model.specs.Sealing.{asks_in_room}
use Rattle.exchange_model.specs.Watching.{touched, touched_for}
use Rattle.exchange_model.proofs.CallerLemmas.{served-enters, store-heard}
use Rattle.exchange_core.specs.Answering.{Given, AreHeard, HeardAs, IsFound, IsInFormat, CountsFrom, IsGiven}
use Rattle.exchange_core.specs.Drafts.{DraftValue, Drafts, IsDrafted}
use Rattle.exchange_core.specs.Joining.{joined_for}
use Rattle.exchange_core.specs.Recalling.{MayRecall, WasHeard, WasRenewed, WasWhole, kept_given, moved_for, moved_under, recall_deeds, recalled, served_for, served_under}
use Rattle.exchange_core.specs.Sound.{SoundState}
use Rattle.exchange_core.specs.States.{core_of, with_draft}
use Rattle.exchange_core.specs.Values.{Outgoing, stepped, written}
use Rattle.exchange_core.proofs.Renewals.{all-copied, all-heard, copied-at, fetched-in, first-counts, heard-at, renewed-of}
use Rattle.exchange_core.proofs.Refusals.{answer-drafted, asks-entered, asks-sealed, refusal-there}
use Rattle.exchange_core.proofs.Sounding.{first-of, second-of, sound-drafted, sound-seal}
use Rattle.exchange_core.proofs.Stepping.{committed, counts-stay, entered-entries, format-stays, found-stays, same-core, stepped-seal, with-draft}

-- what is served, by the key that a GET reads

under-get : (b : Bool) (k : CacheKey) (t : ℕ) (ps : List Pair)
    → served_under (cond b (Some k) None) t ps ≡ cond b (served k t ps) None
under-get true k t ps = refl
under-get false k t ps = refl

pub served-is : (t : ℕ) (s : Sense) (q : CoapRequest) (S : State) (v : Option Stored) → s ≡ Requests q
    → served_for s t S.store ≡ v → served_in q t S ≡ v
served-is t s q S v sense is =
    sym (under-get (is_get q) (asked_key q) t S.store) ∙ ap (λ (x : Sense). served_for x t S.store) (sym sense) ∙ is

pub alone-by : (t : ℕ) (s : Sense) (q : CoapRequest) (S : State) → s ≡ Requests q
    → served_for s t S.store ≡ None → joined_for s S ≡ None → IsAlone t q S
alone-by t s q S sense unserved alone =
    (served-is t s q S None sense unserved, ap (λ (x : Sense). joined_for x S) (sym sense) ∙ alone)

none-some : {X : Type 0} (x : X) → None ≡ Some x → ⊥
none-some x e = cc

moved-get : (b : Bool) (k : CacheKey) (t : ℕ) (ps : List Pair) (s : Stored) → cond b (served k t ps) None ≡ Some s
    → moved_under (cond b (Some k) None) t ps ≡ moved k t ps
moved-get true k t ps s e = refl
moved-get false k t ps s e = absurd (none-some s e)

pub enters-served : (t c : ℕ) (a : Ask) (q : CoapRequest) (n : Numbers) (s : Stored) (S : State)
    → a.sense ≡ Requests q → served_for a.sense t S.store ≡ Some s → asked t c a n S ≡ recalled t c a s S
enters-served t c a q n s S sense found =
    let is = served-is t a.sense q S (Some s) sense found in
    let first : moved_for a.sense t S.store ≡ moved (asked_key q) t S.store =
    ap (λ (x : Sense). moved_for x t S.store) sense ∙ moved-get (is_get q) (asked_key q) t S.store s is in
    served-enters t c a q n s S sense is
    ∙ ap (λ (ps : List Pair). let U = entered_all t (recall_deeds c a s S) S in record U { watches = touched_for t q S.watches; store = ps }) (sym first)
    ∙ ap (λ (x : Sense). let U = entered_all t (recall_deeds c a s S) S in record U { watches = touched t x S.watches; store = moved_for a.sense t S.store }) (sym sense)

-- what is stored was heard

heard-all : (S : State) (p : Pair) (h : IsHeardIn S p)
    → HeardAs S.entries h.number p.stored.heard h.message × AreHeard S.entries h.others h.more
heard-all S p h =
    elim (h.heard) [
      | inl a ↦ (
        subst (λ (k : ℕ). HeardAs S.entries h.number k h.message) a.1 (heard-at S h.number h.message a.0),
        all-heard S h.others h.more a.2,
      )
      | inr a ↦ (
        subst (λ (k : ℕ). HeardAs S.entries h.number k h.message) a.1 (copied-at S h.number h.message a.0),
        all-copied S h.others h.more a.2,
      )
    ]

whole-of : (S : State) (p : Pair) (x : Stored) → IsHeardIn S p → Some p.stored ≡ Some x → WasWhole S.entries x
whole-of S p x h e =
    let all = heard-all S p h in
    subst (WasWhole S.entries) (some-is p.stored x e)
    (record {
      number = h.number;
      others = h.others;
      message = h.message;
      more = h.more;
      list = h.list;
      first = all.0;
      rest = all.1;
      whole = h.whole;
    })

heard-of : (S : State) (p : Pair) (x : Stored) → IsHeardIn S p ⊎ IsRenewedIn S p → Some p.stored ≡ Some x → WasHeard S.entries x
heard-of S p x (inl h) e = inl (whole-of S p x h e)
heard-of S p x (inr h) e = inr (subst (WasRenewed S.entries) (some-is p.stored x e) (renewed-of S p h))

found-heard : (k : CacheKey) (t : ℕ) (S : State) (x : Stored) (ps : List Pair) → AllByRecursion (λ (p : Pair). IsHeardIn S p ⊎ IsRenewedIn S p) ps
    → stored_in (find (is_fresh_under k t) ps) ≡ Some x → WasHeard S.entries x
found-heard k t S x [] a e = absurd (none-some x e)
found-heard k t S x (p ∷ ps) a e = by (is_fresh_under k t p) (found-heard k t S x ps a.1) e
  where
    by : (b : Bool) → (stored_in (find (is_fresh_under k t) ps) ≡ Some x → WasHeard S.entries x)
        → stored_in (cond b (Some p) (find (is_fresh_under k t) ps)) ≡ Some x → WasHeard S.entries x
    by true ih e = heard-of S p x a.0 e
    by false ih e = ih e

get-method : (q : CoapRequest) → is_get q ≡ true → q.method ≡ 1
get-method q e = (Decides-eqb q.method 1).0 (and_parts (q.method == 1) (is_none q.format && (length q.body == 0)) e).0

pub was-heard : (t : ℕ) (s : Sense) (q : CoapRequest) (x : Stored) (S : State) → KeptInRoom S → s ≡ Requests q
    → served_for s t S.store ≡ Some x → (q.method ≡ 1) × WasHeard S.entries x
was-heard t s q x S k sense found = by (is_get q) refl (served-is t s q S (Some x) sense found)
  where
    by : (b : Bool) → is_get q ≡ b → cond b (served (asked_key q) t S.store) None ≡ Some x
        → (q.method ≡ 1) × WasHeard S.entries x
    by true g e = (get-method q g, found-heard (asked_key q) t S x S.store (store-heard S k) e)
    by false g e = absurd (none-some x e)

-- the answer stands in the journal

found-kept : (h : List Written) (s : Stored) (q : CoapRequest) → q.method ≡ 1 → WasHeard h s
    → IsFound h (Tells s.response) (Kept s.list) (Requests q)
found-kept h s q get (inl w) =
    subst (λ (js : List ℕ). IsFound h (Tells s.response) (Kept js) (Requests q)) (sym w.list)
    (w.message ∷ w.more, ((s.heard, w.first), w.rest), inl (rw (get) w.whole))
found-kept h s q get (inr w) =
    subst (λ (js : List ℕ). IsFound h (Tells s.response) (Kept js) (Requests q)) (sym w.list)
    (w.messages, w.heard, inr (get, w.renewal))

format-kept : (h : List Written) (s : Stored) → WasHeard h s → IsInFormat h s.list s.response
format-kept h s (inl w) =
    subst (λ (js : List ℕ). IsInFormat h js s.response) (sym w.list)
    (fetched-in h (w.number ∷ w.others) (w.number ∷ w.others) w.message w.more s.response s.response ((s.heard, w.first), w.rest) (λ j has. has) w.whole refl)
format-kept h s (inr w) = subst (λ (js : List ℕ). IsInFormat h js s.response) (sym w.list) w.format

counts-kept : (h : List Written) (s : Stored) (t : ℕ) → WasHeard h s → CountsFrom h (Kept s.list) t s.heard
counts-kept h s t (inl w) =
    subst (λ (js : List ℕ). CountsFrom h (Kept js) t s.heard) (sym w.list)
    (inl (first-counts h w.number w.others s.heard w.message w.more s.response w.first w.rest w.whole))
counts-kept h s t (inr w) =
    subst (λ (js : List ℕ). CountsFrom h (Kept js) t s.heard) (sym w.list) (inr w.counts)

kept-given-stands : (t c : ℕ) (m : Mapping) (s : Stored) (S : State) → MayRecall t c m s S
    → IsGiven (entered_all t (recall_deeds c (ask_of m) s S) S).entries (kept_given (length S.entries) t c m s)
kept-given-stands t c m s S j =
    let n = length S.entries in
    let more : List Written = map (written t) (recall_deeds c (ask_of m) s S) in
    let there = refusal-there S.entries (written t (Asks c (ask_of m))) (written t (Answers c n (Kept s.list))) in
    let es = entered-entries t (recall_deeds c (ask_of m) s S) S in
    let found : IsFound S.entries (Tells s.response) (Kept s.list) m.sense =
    subst (IsFound S.entries (Tells s.response) (Kept s.list)) (sym j.sense) (found-kept S.entries s j.request j.get j.heard) in
    subst (λ (h : List Written). IsGiven h (kept_given n t c m s)) (sym es)
    (record {
      asked = t;
      ask_stands = there.0;
      stands = there.1;
      found = found-stays S.entries more (Tells s.response) (Kept s.list) m.sense found;
      format = format-stays S.entries more (Tells s.response) (Kept s.list) (format-kept S.entries s j.heard);
      counts = counts-stay S.entries more (Kept s.list) t s.heard (counts-kept S.entries s t j.heard);
    })

-- what is used is the first, and what is observed was asked for
abbrev pub with_used : List Registration → List Pair → State → State
with_used rs ps S = record S { watches = rs; store = ps }

pub used-after : (S1 V : State) (k l m : Mapping) (t : ℕ) (ps : List Pair) (rs : List Registration) → S1 ≡ V
    → ps ≡ moved_for k.sense t S1.store → k ≡ m → rs ≡ touched t l.sense S1.watches → l ≡ m
    → with_used rs ps S1 ≡ with_used (touched t m.sense V.watches) (moved_for m.sense t V.store) V
used-after S1 V k l m t ps rs is made same noted alike =
    ap (λ (xs : List Pair). with_used rs xs S1) (made ∙ ap (λ (x : Mapping). moved_for x.sense t S1.store) same)
    ∙ ap (λ (xs : List Registration). with_used xs (moved_for m.sense t S1.store) S1) (noted ∙ ap (λ (x : Mapping). touched t x.sense S1.watches) alike)
    ∙ ap (λ (U : State). with_used (touched t m.sense U.watches) (moved_for m.sense t U.store) U) is

module _ (t c : ℕ) (m : Mapping) (s : Stored) (S : State) (d : DraftValue)
    (h : Drafts t S (recall_deeds c (ask_of m) s S) d) (j : MayRecall t c m s S)
    (answers : d.answers ≡ kept_given (length S.entries) t c m s ∷ []) where
  abbrev V : State
  V = with_used (touched t m.sense S.watches) (moved_for m.sense t S.store) (with_draft t d S)

  abbrev U : State
  U = recalled t c (ask_of m) s S

  recalled-is : V ≡ U
  recalled-is =
      ap (with_used (touched t m.sense S.watches) (moved_for m.sense t S.store))
      (with-draft t S (Asks c (ask_of m)) (Answers c (length S.entries) (Kept s.list) ∷ []) d h)

  fit-same : fits U ≡ fits (with_draft t d S)
  fit-same = ap fits (sym recalled-is)

  drafted : IsDrafted t S (recall_deeds c (ask_of m) s S) d
  drafted =
      let ds = recall_deeds c (ask_of m) s S in
      let es : (entered_all t ds S).entries ≡ S.entries ++ d.entries =
      entered-entries t ds S ∙ ap (λ (ws : List Written). S.entries ++ ws) (sym h.entries) in
      record {
        drafts = h;
        given = subst (AllByRecursion (IsGiven (S.entries ++ d.entries))) (sym answers)
            (subst (λ (ws : List Written). IsGiven ws (kept_given (length S.entries) t c m s)) es (kept-given-stands t c m s S j), tt);
      }

  module _ (bytes room : ℕ) (gs : List Given) (os : List Outgoing) (sound : SoundState S bytes room gs)
      (unsealed : S.sealed ≡ false) where
    pub recall-sealed : (S2 : State) (bytes1 room1 : ℕ) (gs1 : List Given) → t ≤ 2 ^ 62 → fits (with_draft t d S) ≡ false
        → S2 ≡ seals t S → bytes1 ≡ capped (bytes + 64) → room1 + 1 ≡ room → gs1 ≡ gs → SoundState S2 bytes1 room1 gs1
    recall-sealed S2 bytes1 room1 gs1 early fit is bs rs gave =
        sound-seal t S S2 bytes bytes1 room room1 gs gs1 sound unsealed (second-of (fits U) U (seals t S) (fit-same ∙ fit) j.kept) early is bs rs gave

    pub recall-seals : (S2 : State) (gs1 : List Given) (os1 : List Outgoing) (n : Numbers) → fits (with_draft t d S) ≡ false
        → S2 ≡ seals t S → gs1 ≡ gs → os1 ≡ os
        → core_of S2 gs1 os1 ≡ stepped (asks_in_room t c (ask_of m) n S) (core_of S gs os)
    recall-seals S2 gs1 os1 n fit is gave sends =
        same-core S2 (seals t S) gs1 gs os1 os is gave sends
        ∙ stepped-seal t S gs os
        ∙ ap (λ (W : State). stepped W (core_of S gs os)) (sym (asks-sealed t c (ask_of m) n S U unsealed (j.is n) (fit-same ∙ fit)))

    pub recall-sound : (S2 : State) (bytes1 room1 : ℕ) (gs1 : List Given) → t ≤ 2 ^ 62 → fits (with_draft t d S) ≡ true → S2 ≡ V
        → bytes1 ≡ capped (bytes + capped (sum_by entry_size d.entries)) → length S.conns + 1 ≤ room1 → gs1 ≡ gs ++ d.answers
        → SoundState S2 bytes1 room1 gs1
    recall-sound S2 bytes1 room1 gs1 early fit is bs rs gave =
        let drained : IsDrained V = record { once = sound.drained.once; out = sound.drained.out } in
        subst (λ (W : State). SoundState W bytes1 room1 gs1) (sym is)
        (sound-drafted t S V bytes bytes1 room room1 gs gs1 (recall_deeds c (ask_of m) s S) d sound drafted refl refl early refl
        (subst KeptInRoom (sym recalled-is) (first-of (fits U) U (seals t S) (fit-same ∙ fit) j.kept)) drained bs rs gave)

    pub recall-steps : (S2 : State) (gs1 : List Given) (os1 : List Outgoing) (n : Numbers) → fits (with_draft t d S) ≡ true → S2 ≡ V
        → gs1 ≡ gs ++ d.answers → os1 ≡ os ++ d.sends
        → core_of S2 gs1 os1 ≡ stepped (asks_in_room t c (ask_of m) n S) (core_of S gs os)
    recall-steps S2 gs1 os1 n fit is gave sends =
        same-core S2 V gs1 gs1 os1 os1 is refl refl
        ∙ committed t S V _ d gs gs1 os os1 h refl gave sends
        ∙ ap (λ (W : State). stepped W (core_of S gs os))
        (recalled-is ∙ sym (asks-entered t c (ask_of m) n S U unsealed (j.is n) (fit-same ∙ fit)))

-- what is drafted
pub recall-drafted : (t c n : ℕ) (S : State) (m m1 k : Mapping) (s : Stored) (x : Given) (d0 d1 d2 : DraftValue)
    → n ≡ length S.entries → m1 ≡ m → x ≡ kept_given n t c k s → Drafts t S [] d0
    → (Drafts t S [] d0 → Drafts t S (Asks c (ask_of m1) ∷ []) d1)
    → (x.number ≡ d1.next → Drafts x.moment S (Asks c (ask_of m1) ∷ []) d1
    → Drafts x.moment S (Asks c (ask_of m1) ∷ Answers x.conn x.ask x.found.grounds ∷ []) d2)
    → Drafts t S (recall_deeds c (ask_of m) s S) d2
recall-drafted t c n S m m1 k s x d0 d1 d2 len same is none one two =
    let P : Given → Type 0 = λ y. (y.number ≡ d1.next → Drafts y.moment S (Asks c (ask_of m1) ∷ []) d1
    → Drafts y.moment S (Asks c (ask_of m1) ∷ Answers y.conn y.ask y.found.grounds ∷ []) d2) in
    answer-drafted t c n S m m1 (Kept s.list) (Kept s.list) d0 d1 d2 len same refl none one (subst P is two)
