-- A write that was answered ended after all its replies, and not after what it hasn't outrun.
use Rattle.std.proofs.Common.{◌≡◌, ◌≢◌, inl, inr, ℕ, ◌<◌, ◌≤◌, true, false, eqb, ◌&&◌, List, [], ◌∷◌, ◌++◌, Option, Some, None, refl, sym, ap, subst, ◌∙◌, arith}
use Rattle.std.specs.List.{Contains}
use Rattle.std.proofs.lemmas.Bool.{and_parts, false≢true}
use Rattle.std.proofs.lemmas.Bool.Decides.{eqb_tells, leb_tells}
use Rattle.coap_codec.specs.Spelling.{Content}
use Rattle.uri_map.specs.declared.peer.Peer.{Peer}
use Rattle.cache_key.specs.declared.place.Place.{Place}
use Rattle.cache_key.specs.Keys.{same_key, same_place}
use Rattle.cache_key.proofs.CallerLemmas.{places_decided}
use Rattle.resp_cache.specs.Stored.{Stored}
use Rattle.ask_model.specs.Requests.{CoapRequest, Requests}
use Rattle.ask_model.specs.Sharing.{asked_key, asked_place, is_get}
use Rattle.ask_model.specs.Views.{Ask}
use Rattle.journal_book.specs.Entries.{Live, Asks, Answers, Written}
use Rattle.history_laws.specs.Readings.{Noted, Note, Plain, Begins, Renews, Joins, Serves, First, Copies, Confirms, Says, Repeats, Garbled, Bygone, Recalls, noted, at, before, entries}
use Rattle.history_laws.specs.Progress.{Point, Reply, Ending, Whole, first_point, numbers, point_after}
use Rattle.history_laws.specs.Exchanges.{Begun, begun}
use Rattle.history_laws.specs.Joining.{outrun, writes_at}
use Rattle.history_laws.specs.Carrying.{carried}
use Rattle.history_laws.specs.Grounds.{IsWriteEnd}
use Rattle.history_laws.specs.Justified.{AskNote, Ends, HasGrounds, Legal, reads, reads_by, reads_in}
use Rattle.history_laws.proofs.CallerLemmas.{at-before, contains-none, copied-current, end-since, ends-all, ends-renewed, first-or-later, follows-at, is-outrun, joins-is, kept-before, legal-before, none-some, opening-begun, renews-for, some-is}
use Rattle.history_claims.specs.Headline.{AreHeardFor, IsEntry, RestsOn}
use Rattle.story_laws.proofs.Posting.{noted-at, heard-own}

-- ---- replies, one after another

-- all of them come after this entry, and none after the last
record Rise (k last : ℕ) (js : List ℕ) : Type 0 where
  above : k < last
  none_later : (j : ℕ) → Contains js j → j ≤ last

only : (i j : ℕ) → Contains (i ∷ []) j → i ≡ j
only i j has = elim (first-or-later i [] j has) [ inl same ↦ same | inr later ↦ absurd (contains-none j later) ]

rise : (h : List Written) (k : ℕ) (q : CoapRequest) (point : Point) (js : List ℕ) (ms : List Content) → AreHeardFor h k q point js ms
    → (xs : List ℕ) (last : ℕ) → js ≡ xs ++ last ∷ [] → Rise k last js
rise h k q point [] [] heard [] last e = cc
rise h k q point [] [] heard (x ∷ xs) last e = cc
rise h k q point [] (m ∷ ms) heard xs last e = absurd heard
rise h k q point (j ∷ js) [] heard xs last e = absurd heard
rise h k q point (j ∷ js) (m ∷ ms) heard [] last e =
    let sent = heard.0.sent_for.after in
    let came = heard.0.response.after in
    let first : j ≡ last = heads j last js [] e in
    let none : js ≡ [] = tails j last js [] e in
    record {
      above = omega (arith, sent, came, first);
      none_later = λ i has. let same = only j i (subst (λ (js : List ℕ). Contains (j ∷ js) i) none has) in omega (arith, same, first);
    }
  where
    heads : (x y : ℕ) (xs ys : List ℕ) → x ∷ xs ≡ y ∷ ys → x ≡ y
    heads x y xs ys f = cc

    tails : (x y : ℕ) (xs ys : List ℕ) → x ∷ xs ≡ y ∷ ys → xs ≡ ys
    tails x y xs ys f = cc
rise h k q point (j ∷ js) (m ∷ ms) heard (x ∷ xs) last e =
    let sent = heard.0.sent_for.after in
    let came = heard.0.response.after in
    let rest = rise h j q (point_after point m) js ms heard.1 xs last (tails j x js (xs ++ last ∷ []) e) in
    let above = rest.above in
    record {
      above = omega (arith, sent, came, above);
      none_later = λ i has.
          elim (first-or-later j js i has) [
            | inl same ↦ omega (arith, same, above)
            | inr later ↦ rest.none_later i later
          ];
    }
  where
    tails : (x y : ℕ) (xs ys : List ℕ) → x ∷ xs ≡ y ∷ ys → xs ≡ ys
    tails x y xs ys f = cc

numbers-end : (xs : List Reply) (r : Reply) → numbers (xs ++ r ∷ []) ≡ numbers xs ++ r.number ∷ []
numbers-end [] r = refl
numbers-end (x ∷ xs) r = ap (λ (ns : List ℕ). x.number ∷ ns) (numbers-end xs r)

-- ---- what an ask reads

get-method : (q : CoapRequest) → is_get q ≡ true → q.method ≡ 1
get-method q e = elim (eqb_tells q.method 1) [
  | inl w ↦ w.1
  | inr w ↦ absurd (false≢true (sym w.0 ∙ (and_parts (eqb q.method 1) _ e).0))
]

-- A request but a GET opens an exchange of its own.
opens-own : (l : List Noted) (t w o : ℕ) (q : CoapRequest) (note : Note) → q.method ≢ 1 → AskNote l t (Requests q) note → reads_by w note ≡ Some o
    → (note ≡ Begins q) × (w ≡ o)
opens-own l t w o q (Begins r) changes k e = (ap Begins k.0, some-is w o e)
opens-own l t w o q (Renews r s) changes k e = absurd (changes (get-method q k.3))
opens-own l t w o q (Joins p) changes k e =
    let joined = joins-is l q p k in
    absurd (changes (get-method q (and_parts (is_get q) (is_get joined.exchange.request && same_key (asked_key q) (asked_key joined.exchange.request)) joined.same).0))
opens-own l t w o q (Serves js) changes k e = absurd (none-some o e)
opens-own l t w o q Plain changes k e = absurd (none-some o e)
opens-own l t w o q (First p m) changes k e = absurd (none-some o e)
opens-own l t w o q (Copies i) changes k e = absurd (none-some o e)
opens-own l t w o q Confirms changes k e = absurd (none-some o e)
opens-own l t w o q (Says m to notice) changes k e = absurd (none-some o e)
opens-own l t w o q (Repeats m i) changes k e = absurd (none-some o e)
opens-own l t w o q Garbled changes k e = absurd (none-some o e)
opens-own l t w o q (Bygone m) changes k e = absurd (none-some o e)
opens-own l t w o q (Recalls m answer) changes k e = absurd (none-some o e)

-- ---- a write that was answered

-- where it ended, after all its replies
pub record EndedWrite (l : List Noted) (q : CoapRequest) (js : List ℕ) : Type 0 where
  pub end : ℕ
  pub ends : IsWriteEnd l q.peer q.target.path end
  pub late : (j : ℕ) → Contains js j → j ≤ end

abbrev note-of : Noted → Note
note-of n = n.note

renews-not : (r q : CoapRequest) (s : Stored) → Begins q ≡ Renews r s → ⊥
renews-not r q s e = cc

module _ (l : List Noted) (h : List Written) (legal : Legal l) (same : entries l ≡ h) (q : CoapRequest) where
  module _ (m u c w : ℕ) (js : List ℕ) (answered : IsEntry h m u (Answers c w (Live js))) (y : RestsOn h m c w js) (changes : y.request.method ≢ 1)
      (peer : y.request.peer ≡ q.peer) (path : y.request.target.path ≡ q.target.path) where
    abbrev asks : Ask
    asks = record { came = y.shared.asked.came; sense = Requests y.request; rules = y.shared.asked.rules }

    abbrev its-note : Note
    its-note = (noted-at l h w y.shared.moment (Asks c asks) same y.shared.asked.stands).note

    ask-stands : at l w ≡ Some (noted y.shared.moment (Asks c asks) its-note)
    ask-stands = (noted-at l h w y.shared.moment (Asks c asks) same y.shared.asked.stands).stands

    grounds : HasGrounds (before l m) u w (Live js)
    grounds = (follows-at l m _ legal (noted-at l h m u (Answers c w (Live js)) same answered).stands).3

    reads-note : (o : ℕ) → reads (before l m) w ≡ Some o → reads_by w its-note ≡ Some o
    reads-note o e = by (at (before l m) w) refl e
      where
        by : (v : Option Noted) → at (before l m) w ≡ v → reads_in w v ≡ Some o → reads_by w its-note ≡ Some o
        by None is f = absurd (none-some o f)
        by (Some x) is f =
            let one : x ≡ noted y.shared.moment (Asks c asks) its-note = some-is _ _ (sym (at-before l m w x is) ∙ ask-stands) in
            subst (λ (n : Note). reads_by w n ≡ Some o) (ap note-of one) f

    begins : (o : ℕ) → reads (before l m) w ≡ Some o → (its-note ≡ Begins y.request) × (w ≡ o)
    begins o e =
        opens-own (before l w) y.shared.moment w o y.request its-note changes (follows-at l w _ legal ask-stands).3 (reads-note o e)

    opened : (o : ℕ) → reads (before l m) w ≡ Some o → begun l o ≡ Some (record { since = y.shared.moment; request = y.request })
    opened o e =
        let it = begins o e in
        subst (λ (o : ℕ). begun l o ≡ Some (record { since = y.shared.moment; request = y.request })) it.1
        (opening-begun l w y.shared.moment (Asks c asks) y.request
        (subst (λ (n : Note). at l w ≡ Some (noted y.shared.moment (Asks c asks) n)) it.0 ask-stands))

    ended : (o e : ℕ) (how : Ending) → Ends (before l m) o e how → Ends l o e how
    ended o e how is = end-since l m o (record { number = e; how = how }) is

    pub write-ended : EndedWrite l q js
    write-ended = by grounds
      where
        by : HasGrounds (before l m) u w (Live js) → EndedWrite l q js
        by (inl g) =
            let o = g.0 in
            let e = g.1 in
            let all = ends-all (before l m) o e g.2 g.3 (legal-before l m legal) g.5 in
            let split : js ≡ numbers all.others ++ all.last.number ∷ [] = g.6 ∙ (ap numbers all.all ∙ numbers-end all.others all.last) in
            let rises = rise h y.opening y.request (first_point y.request) js y.messages (heard-own h m c w js y changes) (numbers all.others) all.last.number split in
            record {
              end = e;
              ends = record {
                opening = o;
                write = record { since = y.shared.moment; request = y.request };
                opened = opened o g.4;
                changes = changes;
                place = (peer, path);
                how = Whole g.2 g.3;
                ended = ended o e (Whole g.2 g.3) g.5;
              };
              late = λ j has. let below = rises.none_later j has in let number = all.number in omega (arith, below, number);
            }
        by (inr g) =
            let o = g.0 in
            let e = g.1 in
            let s = g.2 in
            let turned = (ends-renewed (before l m) o e s g.3 g.5).turned in
            let keeps = kept-before l m o s (kept-before (before l m) e o s turned.keeps) in
            let it = renews-for l o (record { since = y.shared.moment; request = y.request }) s legal (opened o g.4) keeps in
            let own = begins o g.4 in
            let here : at l o ≡ Some (noted y.shared.moment (Asks c asks) its-note) =
            subst (λ (o : ℕ). at l o ≡ Some (noted y.shared.moment (Asks c asks) its-note)) own.1 ask-stands in
            absurd (renews-not y.request y.request s (sym own.0 ∙ ap note-of (some-is _ _ (sym here ∙ it.stands))))

  -- It ended no later than what it hasn't outrun was asked for.
  writes-there : (e : ℕ) → (write : IsWriteEnd l q.peer q.target.path e) → writes_at (asked_place q) write.write ≡ true
  writes-there e write =
      let r : CoapRequest = write.write.request in
      let made : Peer → List (List ℕ) → Place = λ p path. record { peer = p; path = path } in
      let place : asked_place q ≡ asked_place r = sym (ap (λ p. made p r.target.path) write.place.0 ∙ ap (made q.peer) write.place.1) in
      let there : same_place (asked_place q) (asked_place r) ≡ true = (places_decided (asked_place q) (asked_place r)).1 place in
      elim (eqb_tells r.method 1) [ inl w ↦ absurd (write.changes w.1) | inr w ↦ rw (w.0, there) refl ]

  pub ended-early : (n : ℕ) (js : List ℕ) → outrun l (asked_place q) n ≡ false → (x : EndedWrite l q js) → x.end ≤ n
  ended-early n js fresh x = elim (leb_tells x.end n) [
    | inl w ↦ w.1
    | inr w ↦
        absurd (false≢true (sym fresh ∙ is-outrun l (asked_place q) n (record {
          opening = x.ends.opening;
          write = x.ends.write;
          opened = x.ends.opened;
          changes = writes-there x.end x.ends;
          end = record { number = x.end; how = x.ends.how };
          ended = x.ends.ended;
          later = w.1;
        })))
  ]

  -- None did where that is a copy.
  pub never-ended : (n : ℕ) (js : List ℕ) (b : Begun) → outrun l (asked_place q) n ≡ false → carried l n ≡ Some b → EndedWrite l q js → ⊥
  never-ended n js b fresh asked x = copied-current l n x.end b q legal asked x.ends (ended-early n js fresh x)
