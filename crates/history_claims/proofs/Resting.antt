-- An answer that isn't the proxy's own rests on a whole response to its ask.
use Rattle.std.proofs.Common.{◌≡◌, ◌⊎◌, ℕ, ◌+◌, ◌<◌, ◌≤◌, false, inl, inr, List, [], ◌∷◌, ◌++◌, Some, refl, sym, ap, subst, ◌∙◌, arith}
use Rattle.std.specs.List.{Contains}
use Rattle.std.proofs.lemmas.List.Elements.{Contains-push}
use Rattle.journal_book.specs.Entries.{Live, Answers, Hears, Written}
use Rattle.history_laws.specs.Responses.{Response, whole_of}
use Rattle.resp_cache.specs.Stored.{Stored}
use Rattle.history_laws.specs.Exchanges.{Begun, begun, ask_behind, heard_for, kept}
use Rattle.history_laws.specs.Justified.{Ends, HasGrounds, Legal, reads}
use Rattle.history_laws.specs.Readings.{Noted, Note, Renews, Says, entries, at, before, noted}
use Rattle.history_laws.specs.Progress.{Reply, numbers, messages, Whole, Renewed, TimedOut, Point, first_point}
use Rattle.history_laws.specs.Storing.{renewed_list}
use Rattle.history_laws.proofs.CallerLemmas.{ask-own, asked-by, at-below, begun-before, begun-early, contains-map, contains-none, ends-all, ends-renewed, first-or-later, has-renewing, kept-before, legal-before, length-before, none-kept, none-some, number-of, renews-for, replies-fit, some-is}
use Rattle.history_claims.specs.Headline.{IsEntry, AreHeardFor, AreHeardOn, BeginsAt, IsShared, RestsOn}
use Rattle.history_claims.specs.Stored.{RestsOnRenewed, RestsOnReplies}
use Rattle.history_claims.proofs.Entries.{entries-at}
use Rattle.history_claims.proofs.Asking.{answers-ask, AnswersAsk}
use Rattle.history_claims.proofs.Keeping.{kept-here, stored-through, valid-in, valid-like, was-stored}
use Rattle.history_claims.proofs.Pieces.{heard-fits, sequence-like, point-like, whole-like}
use Rattle.history_claims.proofs.Heard.{heard-all, on-like}
use Rattle.history_claims.proofs.Readers.{reads-at}
use Rattle.history_claims.proofs.InTime.{answered-in-time}

renewed-not : (s : Stored) (r : Reply) → Renewed s r ≡ TimedOut → ⊥
renewed-not s r e = cc

not-timed : (w : Response) (ws : List Reply) → Whole w ws ≡ TimedOut → ⊥
not-timed w ws e = cc

pub only-one : (j n i : ℕ) → n < i → Contains (n ∷ []) j → j < i
only-one j n i lt h =
    elim (first-or-later n [] j h) [ inl w ↦ subst (λ (j : ℕ). j < i) w lt | inr w ↦ absurd (contains-none j w) ]

-- Each of what was heard for an exchange that a list has was heard before an entry.
pub heard-before : (l : List Noted) (n o : ℕ) (x : Noted) (b : Begun) (rs : List Reply) → Legal l → at l n ≡ Some x → begun (before l n) o ≡ Some b
    → ((r : Reply) → Contains rs r → Contains (heard_for (before l n) o) r) → (j : ℕ) → Contains (numbers rs) j → j < n
heard-before l n o x b rs legal here opened listed j h =
    let it = number-of rs j h in
    let r : Reply = it.0 in
    let fits = (heard-fits (before l n) o b r (legal-before l n legal) opened (listed r it.1)).1 in
    let below = at-below (before l n) r.number (noted fits.moment (Hears fits.peer fits.bytes) (Says r.message (Some r.sending) fits.notice)) fits.heard in
    subst (λ (j : ℕ). j < n) it.2 (subst (λ (i : ℕ). r.number < i) (length-before l n x here) below)

pub last-contained : (others : List Reply) (last : Reply) (rs : List Reply) → rs ≡ others ++ last ∷ [] → Contains rs last
last-contained others last rs e = subst (λ (rs : List Reply). Contains rs last) (sym e) (Contains-push others last)

-- The exchange that it reads ended with a whole one,
module _ (l : List Noted) (n t c k : ℕ) (js : List ℕ) (legal : Legal l) (entry : IsEntry (entries l) n t (Answers c k (Live js))) where
  it : AnswersAsk l n t c k (Live js)
  it = (answers-ask l n t c k (Live js) legal entry).0

  there : (note : Note) × (at l n ≡ Some (noted t (Answers c k (Live js)) note))
  there = entries-at l n _ entry

  rests-whole : (o e : ℕ) (w : Response) (rs : List Reply) → reads (before l n) k ≡ Some o → Ends (before l n) o e (Whole w rs) → js ≡ numbers rs
      → RestsOn (entries l) n c k js
  rests-whole o e w rs own ended list =
      let m = ends-all (before l n) o e w rs (legal-before l n legal) ended in
      let x = reads-at l n c k o it.ask _ legal there.1 it.asked own in
      let same : m.exchange ≡ x.exchange =
      some-is m.exchange x.exchange (sym (begun-before l n o _ m.opened) ∙ x.opened) in
      let opened : begun (before l n) o ≡ Some x.exchange = m.opened ∙ ap (λ (b : Begun). Some b) same in
      let whole : whole_of x.exchange.request (messages rs) ≡ Some w =
      subst (λ (b : Begun). whole_of b.request (messages rs) ≡ Some w) same m.whole in
      let heard : AreHeardFor (entries l) o x.request (first_point x.request) (numbers rs) (messages rs)
      ⊎ (BeginsAt o (numbers rs) × AreHeardOn (entries l) (ask_behind l o) x.request (numbers rs) (messages rs)) =
      elim (heard-all l n o x.exchange _ legal x.opened there.1 opened e w rs ended) [
        | inl h ↦
            inl (subst (λ (p : Point). AreHeardFor (entries l) o x.request p (numbers rs) (messages rs)) (point-like x.exchange.request x.request x.like)
            (sequence-like (entries l) o x.exchange.request x.request (first_point x.exchange.request) (numbers rs) (messages rs) x.like h))
        | inr h ↦ inr (h.0, on-like (entries l) (ask_behind l o) x.exchange.request x.request (numbers rs) (messages rs) x.like h.1)
      ] in
      let later = x.later e (Whole w rs) ended in
      subst (λ (js : List ℕ). RestsOn (entries l) n c k js) (sym list)
      (record {
        request = x.request;
        entry = o;
        opening = ask_behind l o;
        since = x.exchange.since;
        shared = x.shared;
        messages = messages rs;
        heard = heard;
        before = heard-before l n o _ x.exchange rs legal there.1 opened m.listed;
        live = (
          m.last.number,
          subst (λ (i : ℕ). k < i) (sym m.number) later,
          contains-map (λ (r : Reply). r.number) rs m.last (last-contained m.others m.last rs m.all),
        );
        in_time = answered-in-time l n t c k o (Live js) there.0 legal there.1 it.ask it.asked own x.not_later x.exchange x.opened e (Whole w rs)
            ended later (not-timed w rs);
        response = w;
        whole = sym (whole-like x.exchange.request x.request (messages rs) x.like) ∙ whole;
      })

  -- or what that kept was renewed
  pub rests-renewed : (o e : ℕ) (s : Stored) (r : Reply) → reads (before l n) k ≡ Some o → Ends (before l n) o e (Renewed s r) → js ≡ renewed_list s r.number
      → RestsOnRenewed (entries l) n c k js
  rests-renewed o e s r own ended list =
      let x = reads-at l n c k o it.ask _ legal there.1 it.asked own in
      let b : Begun = x.exchange in
      let turned = (ends-renewed (before l n) o e s r ended).turned in
      let keeps : kept l o ≡ Some s = kept-before l n o s (kept-before (before l n) e o s turned.keeps) in
      let for_it = renews-for l o b s legal x.opened keeps in
      let goes_back = ask-own l o b legal (asked-by l o for_it.conn for_it.ask (Renews b.request s) b legal for_it.stands refl) in
      let asks = x.same for_it.get in
      let old = kept-here (o + 1) l o _ b.request for_it.stored (omega arith) legal for_it.stands for_it.is in
      let own_was = was-stored l o for_it.conn for_it.ask b.request for_it.stored legal
      (record { moment = b.since; note = Renews b.request s; stands = for_it.stands }) old in
      let was = stored-through (entries l) o x.request b.request for_it.stored asks own_was.0 in
      let opened : begun (before l n) o ≡ Some b =
      begun-early l n o b (at-below l n _ there.1) x.opened (before-it o x.not_later) in
      let valid = valid-in l n o e _ b s r for_it.stored.response legal there.1 opened ended (ap (λ (v : Stored). v.response) for_it.pieces) in
      let later = x.later e (Renewed s r) ended in
      let number : r.number ≡ e = sym (ap (λ (v : Reply). v.number) turned.reply) in
      let pieces : s.list ≡ was.0.first.list =
      ap (λ (v : Stored). v.list) for_it.pieces ∙ (old.pieces ∙ ap (λ (v : Stored). v.list) (sym own_was.1 ∙ sym was.1)) in
      record {
        request = x.request;
        opening = o;
        since = b.since;
        shared = subst (λ (i : ℕ). IsShared (entries l) c k x.request o i b.since) goes_back x.shared;
        stored = for_it.stored;
        was = was.0;
        number = r.number;
        message = r.message;
        valid = valid-like (entries l) o b.request x.request for_it.stored.response r.number r.message x.like valid.is;
        list = ap (λ (ns : List ℕ). ns ++ r.number ∷ []) (sym pieces) ∙ sym list;
        before = valid.below;
        live = subst (λ (i : ℕ). k < i) (sym number) later;
        in_time = answered-in-time l n t c k o (Live js) there.0 legal there.1 it.ask it.asked own x.not_later b x.opened e (Renewed s r)
            ended later (renewed-not s r);
      }
    where
      before-it : (o : ℕ) → o ≤ k → o < n
      before-it o le =
          let below = at-below (before l n) k _ it.asked.stands in
          let len = length-before l n _ there.1 in
          omega (arith, le, below, len)

  pub rests-in : RestsOn (entries l) n c k js ⊎ RestsOnRenewed (entries l) n c k js
  rests-in = by it.grounds
    where
      by : HasGrounds (before l n) t k (Live js) → RestsOn (entries l) n c k js ⊎ RestsOnRenewed (entries l) n c k js
      by (inl h) = inl (rests-whole h.0 h.1 h.2 h.3 h.4 h.5 h.6)
      by (inr h) = inr (rests-renewed h.0 h.1 h.2 h.3 h.4 h.5 h.6)

  -- which it isn't where nothing is kept.
  pub rests-heard : has-renewing l ≡ false → RestsOn (entries l) n c k js
  rests-heard none = by it.grounds
    where
      by : HasGrounds (before l n) t k (Live js) → RestsOn (entries l) n c k js
      by (inl h) = rests-whole h.0 h.1 h.2 h.3 h.4 h.5 h.6
      by (inr h) =
          let turned = (ends-renewed (before l n) h.0 h.1 h.2 h.3 h.5).turned in
          absurd (none-some h.2 (sym (none-kept l h.0 none) ∙ kept-before l n h.0 h.2 (kept-before (before l n) h.1 h.0 h.2 turned.keeps)))

pub rests-on-replies : RestsOnReplies
rests-on-replies h n t c k js s =
    subst (λ (h : List Written). IsEntry h n t (Answers c k (Live js)) → RestsOn h n c k js ⊎ RestsOnRenewed h n c k js) s.entries_are
    (rests-in s.reading n t c k js s.legal)
