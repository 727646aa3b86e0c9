-- What a step leaves of a core.
use Rattle.std.proofs.Common.{◌≡◌, ℕ, ◌+◌, List, [], ◌∷◌, ◌++◌, length, map, drop, Some, None, inl, inr, refl, sym, ap, ◌∙◌, append_assoc, length-append, append-nil, drop_at, arith}
use Rattle.std.specs.List.{AllByRecursion}
use Rattle.std.proofs.lemmas.List.{map-append, drop_all, length-map}
use Rattle.history_laws.proofs.CallerLemmas.{got-more}
use Rattle.coap_codec.specs.Spelling.{Content}
use Rattle.ask_model.specs.Requests.{Sense, Requests, Refuses}
use Rattle.journal_book.specs.Entries.{Grounds, Live, Kept, Fault, Deed, Opens, Asks, Sends, Hears, Passes, Answers, Shuts, Seals, Carries, Written}
use Rattle.history_laws.specs.Responses.{Response}
use Rattle.reply_reading.specs.Findings.{Told, Tells, Fails}
use Rattle.exchange_model.specs.declared.kept.Conn.{Conn}
use Rattle.exchange_model.specs.declared.kept.Reader.{Reader}
use Rattle.exchange_model.specs.State.{State, conns_after, pend}
use Rattle.exchange_model.specs.Growing.{conns_with}
use Rattle.exchange_model.specs.Steps.{entered, seals}
use Rattle.exchange_model.specs.Entering.{entered_all}
use Rattle.exchange_core.specs.Values.{Outgoing, written, answered_in, sent_in, stepped}
use Rattle.exchange_core.specs.Answering.{Given, HeardAs, AreHeard, HasFormat, IsFound, IsInFormat, CountsFrom, CountsFromReplies, IsGiven, last_in}
use Rattle.exchange_core.specs.Drafts.{AllKeep, DraftValue, Drafts, KeepsConns, untaken_of}
use Rattle.exchange_core.specs.States.{readers_with, with_draft, core_of}

-- entries in one piece

joined : (t : ℕ) (S : State) (es fs : List Written) (cs ds : List Conn) (rs qs : List Reader) → es ≡ fs → cs ≡ ds → rs ≡ qs
    → (record S { entries = es; conns = cs; readers = rs; moment = t }) ≡ (record S { entries = fs; conns = ds; readers = qs; moment = t })
joined t S es fs cs ds rs qs e c r = rw (e, c, r) refl

entered-is : (t : ℕ) (x : Deed) (xs : List Deed) (S : State)
    → entered_all t (x ∷ xs) S
    ≡ (let ws = map (written t) (x ∷ xs) in record S { entries = S.entries ++ ws; conns = conns_with S.conns (length S.entries) ws; readers = readers_with S.readers ws; moment = t })
entered-is t x [] S = refl
entered-is t x (y ∷ ys) S =
    let S1 = entered t x S in
    let ws = map (written t) (y ∷ ys) in
    let len : length S1.entries ≡ length S.entries + 1 = length-append S.entries (written t x ∷ []) in
    entered-is t y ys S1
    ∙ joined t S _ _ _ _ _ _ (append_assoc S.entries (written t x ∷ []) ws)
    (ap (λ (k : ℕ). conns_with S1.conns k ws) len) refl

pub with-draft : (t : ℕ) (S : State) (x : Deed) (xs : List Deed) (d : DraftValue) → Drafts t S (x ∷ xs) d
    → with_draft t d S ≡ entered_all t (x ∷ xs) S
with-draft t S x xs d h =
    ap (λ (ws : List Written). record S { entries = S.entries ++ ws; conns = conns_with S.conns (length S.entries) ws; readers = readers_with S.readers ws; moment = t }) h.entries
    ∙ sym (entered-is t x xs S)

-- As many connections are open after a draft.

conns-after : (cs : List Conn) (n : ℕ) (d : Deed) → KeepsConns d → length (conns_after cs n d) ≡ length cs
conns-after cs n (Opens c) h = absurd h
conns-after cs n (Asks c a) h = length-map cs (pend c (Some n))
conns-after cs n (Sends p b w) h = refl
conns-after cs n (Hears p b) h = refl
conns-after cs n Passes h = refl
conns-after cs n (Answers c k g) h = length-map cs (pend c None)
conns-after cs n (Shuts c) h = absurd h
conns-after cs n Seals h = refl
conns-after cs n (Carries k mark done) h = refl

pub conns-keep : (ws : List Written) (n : ℕ) (cs : List Conn) → AllKeep ws → length (conns_with cs n ws) ≡ length cs
conns-keep [] n cs h = refl
conns-keep (w ∷ ws) n cs h = conns-keep ws (n + 1) (conns_after cs n w.deed) h.1 ∙ conns-after cs n w.deed h.0

pub entered-entries : (t : ℕ) (ds : List Deed) (S : State) → (entered_all t ds S).entries ≡ S.entries ++ map (written t) ds
entered-entries t [] S = sym (append-nil S.entries)
entered-entries t (x ∷ xs) S =
    entered-entries t xs (entered t x S) ∙ append_assoc S.entries (written t x ∷ []) (map (written t) xs)

-- a core after a step

pub committed : (t : ℕ) (S S1 : State) (ds : List Deed) (d : DraftValue) (gs gs1 : List Given) (os os1 : List Outgoing)
    → Drafts t S ds d → S1.entries ≡ S.entries ++ d.entries → gs1 ≡ gs ++ d.answers → os1 ≡ os ++ d.sends
    → core_of S1 gs1 os1 ≡ stepped S1 (core_of S gs os)
committed t S S1 ds d gs gs1 os os1 h entries answers sends =
    let more : drop (length S.entries) S1.entries ≡ map (written t) ds =
    ap (drop (length S.entries)) (entries ∙ ap (λ (ws : List Written). S.entries ++ ws) h.entries) ∙ (drop_at S.entries (map (written t) ds) (length S.entries) refl) in
    let a : map untaken_of gs1 ≡ map untaken_of gs ++ answered_in (length S.entries) (map (written t) ds) =
    ap (map untaken_of) answers ∙ map-append untaken_of gs d.answers ∙ ap (λ ns. map untaken_of gs ++ ns) h.answers in
    let o : os1 ≡ os ++ sent_in (map (written t) ds) = sends ∙ ap (λ xs. os ++ xs) h.sends in
    rw (more, a, o) refl

-- a core whose journal is sealed
pub stepped-seal : (t : ℕ) (S : State) (gs : List Given) (os : List Outgoing) → core_of (seals t S) gs os ≡ stepped (seals t S) (core_of S gs os)
stepped-seal t S gs os =
    rw ((drop_at S.entries (written t Seals ∷ []) (length S.entries) refl), append-nil (map untaken_of gs), append-nil os) refl

pub stepped-same : (S : State) (gs : List Given) (os : List Outgoing) → stepped S (core_of S gs os) ≡ core_of S gs os
stepped-same S gs os = rw ((drop_all (length S.entries) S.entries (omega arith)), append-nil (map untaken_of gs), append-nil os) refl

-- answers stand in a journal that grows

pub heard-stays : (h more : List Written) (j t : ℕ) (m : Content) → HeardAs h j t m → HeardAs (h ++ more) j t m
heard-stays h more j t m a = record {
  peer = a.peer;
  bytes = a.bytes;
  deed = a.deed;
  stands = got-more h more j _ a.stands;
  says = a.says;
  spelled = a.spelled;
}

pub all-heard-stay : (h more : List Written) (js : List ℕ) (ms : List Content) → AreHeard h js ms → AreHeard (h ++ more) js ms
all-heard-stay h more [] [] a = tt
all-heard-stay h more [] (m ∷ ms) a = absurd a
all-heard-stay h more (j ∷ js) [] a = absurd a
all-heard-stay h more (j ∷ js) (m ∷ ms) a = ((a.0.0, heard-stays h more j a.0.0 m a.0.1), all-heard-stay h more js ms a.1)

pub found-stays : (h more : List Written) (told : Told) (g : Grounds) (s : Sense) → IsFound h told g s → IsFound (h ++ more) told g s
found-stays h more (Tells w) (Live js) (Requests q) f = (f.0, all-heard-stay h more js f.0 f.1, f.2)
found-stays h more (Tells w) (Live js) (Refuses cause status) f = absurd f
found-stays h more (Tells w) (Kept js) (Requests q) f = (f.0, all-heard-stay h more js f.0 f.1, f.2)
found-stays h more (Tells w) (Kept js) (Refuses cause status) f = absurd f
found-stays h more (Tells w) (Fault cause n) s f = absurd f
found-stays h more (Fails cause) (Live js) s f = absurd f
found-stays h more (Fails cause) (Kept js) s f = absurd f
found-stays h more (Fails cause) (Fault named n) s f = f

pub in-format-stays : (h more : List Written) (js : List ℕ) (w : Response) → IsInFormat h js w → IsInFormat (h ++ more) js w
in-format-stays h more js w a = record {
  number = a.number;
  moment = a.moment;
  message = a.message;
  heard = heard-stays h more a.number a.moment a.message a.heard;
  format = a.format;
  source = a.source;
}

pub format-stays : (h more : List Written) (told : Told) (g : Grounds) → HasFormat h told g → HasFormat (h ++ more) told g
format-stays h more (Tells w) (Live js) f = in-format-stays h more js w f
format-stays h more (Tells w) (Kept js) f = in-format-stays h more js w f
format-stays h more (Tells w) (Fault cause n) f = tt
format-stays h more (Fails cause) g f = tt

replies-stay : (h more : List Written) (j : ℕ) (js : List ℕ) (heard : ℕ) → CountsFromReplies h j js heard → CountsFromReplies (h ++ more) j js heard
replies-stay h more j js heard (inl c) = inl (record {
  message = c.message;
  first = heard-stays h more j heard c.message c.first;
  moment = c.moment;
  last = c.last;
  ends = heard-stays h more (last_in j js) c.moment c.last c.ends;
  other = c.other;
})
replies-stay h more j js heard (inr c) = inr (record {
  message = c.message;
  last = heard-stays h more (last_in j js) heard c.message c.last;
  says = c.says;
})

pub counts-stay : (h more : List Written) (g : Grounds) (t heard : ℕ) → CountsFrom h g t heard → CountsFrom (h ++ more) g t heard
counts-stay h more (Live []) t heard c = c
counts-stay h more (Live (j ∷ js)) t heard c = replies-stay h more j js heard c
counts-stay h more (Kept []) t heard c = c
counts-stay h more (Kept (j ∷ js)) t heard c = replies-stay h more j js heard c
counts-stay h more (Fault cause n) t heard c = c

pub is-given-stays : (h more : List Written) (g : Given) → IsGiven h g → IsGiven (h ++ more) g
is-given-stays h more g i = record {
  asked = i.asked;
  ask_stands = got-more h more g.ask _ i.ask_stands;
  stands = got-more h more g.number _ i.stands;
  found = found-stays h more g.found.told g.found.grounds g.mapping.sense i.found;
  format = format-stays h more g.found.told g.found.grounds i.format;
  counts = counts-stay h more g.found.grounds g.moment g.heard i.counts;
}

pub given-stay : (h more : List Written) (gs : List Given) → AllByRecursion (IsGiven h) gs → AllByRecursion (IsGiven (h ++ more)) gs
given-stay h more [] a = tt
given-stay h more (g ∷ gs) a = (is-given-stays h more g a.0, given-stay h more gs a.1)

pub given-join : (h : List Written) (gs hs : List Given) → AllByRecursion (IsGiven h) gs → AllByRecursion (IsGiven h) hs → AllByRecursion (IsGiven h) (gs ++ hs)
given-join h [] hs a b = b
given-join h (g ∷ gs) hs a b = (a.0, given-join h gs hs a.1 b)

-- the same parts make the same core
pub same-core : (S T : State) (gs hs : List Given) (os ps : List Outgoing) → S ≡ T → gs ≡ hs → os ≡ ps → core_of S gs os ≡ core_of T hs ps
same-core S T gs hs os ps a b c = rw (a, b, c) refl
