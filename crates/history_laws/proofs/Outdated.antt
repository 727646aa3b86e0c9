-- What makes a response out of date: a notification for its key that counts and came since.
use Rattle.std.proofs.Common.{◌≡◌, ℕ, ◌<◌, Bool, true, false, cond, ◌&&◌, ltb, inl, inr, List, [], ◌∷◌, length, Option, Some, None, refl, sym, ap, subst, ◌∙◌}
use Rattle.std.specs.Option.{option_map_or}
use Rattle.std.proofs.lemmas.Bool.{false≢true, and_from, and_parts, or_cases, or_left, or_right}
use Rattle.std.proofs.lemmas.Bool.Decides.{Decides-ltb}
use Rattle.coap_codec.specs.Spelling.{Content}
use Rattle.uri_map.specs.declared.peer.Peer.{Peer}
use Rattle.cache_key.specs.Keys.{CacheKey}
use Rattle.cache_key.proofs.CallerLemmas.{keys_decided}
use Rattle.ask_model.specs.Requests.{CoapRequest, Sense, Requests, Refuses}
use Rattle.ask_model.specs.Sharing.{asked_key}
use Rattle.ask_model.proofs.CallerLemmas.{same-key}
use Rattle.journal_book.specs.Entries.{Mark, Deed, Opens, Asks, Sends, Hears, Passes, Answers, Shuts, Seals, Carries}
use Rattle.journal_book.specs.Entries as D
use Rattle.observe_share.specs.Watches.{is_of}
use Rattle.history_laws.specs.Responses.{Response}
use Rattle.history_laws.specs.Readings.{Noted, Note, Says, Notice, noted, at, before}
use Rattle.history_laws.specs.Progress.{Reply}
use Rattle.history_laws.specs.Exchanges.{Begun, begun}
use Rattle.history_laws.specs.Observing.{Watch, counting, counts, is_of_key, is_under, outdated, outdates, watch_under, watches}
use Rattle.history_laws.specs.Joining.{is_joinable}
use Rattle.history_laws.specs.Storing.{UpdatesSo}
use Rattle.history_laws.specs.Justified.{AskNote, CopiedNote, Follows, Legal}
use Rattle.history_laws.proofs.Elements.{find-some}
use Rattle.history_laws.proofs.Facts.{legal-before}
use Rattle.history_laws.proofs.Joining.{shared-is}
use Rattle.history_laws.proofs.Places.{at-below, at-keeps, at-new, at-old, before-keeps, before-new}
use Rattle.history_laws.proofs.Resting.{none-some, some-is}
use Rattle.history_laws.proofs.Sent.{begun-before}
use Rattle.history_laws.proofs.Watching.{watch-fits}
use Rattle.history_laws.proofs.Notified.{IsNews, news-since, update-news}

-- a notification for the key, which counts, in this entry
pub record CountsFor (l : List Noted) (key : CacheKey) (e : ℕ) : Type 0 where
  pub watch : Watch
  pub news : IsNews l e watch
  pub keyed : is_of key watch.held ≡ true

-- only what is heard is said
says-hears : (l : List Noted) (t : ℕ) (d : Deed) (m : Content) (to : Option ℕ) (notice : Notice) → Follows l t d (Says m to notice)
    → (p : Peer) × (b : List ℕ) × (d ≡ Hears p b)
says-hears l t (Hears p b) m to notice f = (p, b, refl)
says-hears l t (Opens c) m to notice f = absurd f.2
says-hears l t (Asks c a) m to notice f = absurd (never a.sense f.3)
  where
    never : (s : Sense) → AskNote l t s (Says m to notice) → ⊥
    never (Requests q) h = h
    never (Refuses cause status) h = h
says-hears l t (Sends p b w) m to notice f = absurd f.1
says-hears l t Passes m to notice f = absurd f.1
says-hears l t (Answers c k g) m to notice f = absurd f.4
says-hears l t (Shuts c) m to notice f = absurd f.2
says-hears l t Seals m to notice f = absurd f.2
says-hears l t (Carries k mark done) m to notice f = absurd (never mark done f.2)
  where
    never : (mark : Mark) (done : D.Done) → CopiedNote l t mark done (Says m to notice) → ⊥
    never D.Past (D.Sent p b w) h = h
    never D.Past (D.Heard p b) h = h
    never D.Ground (D.Asked c a) h = h
    never D.Ground (D.Sent p b w) h = h
    never D.Ground (D.Heard p b) h = h
    never mark done h = h

counting-is : (l : List Noted) (note : Note) (w : Watch) → counting l note ≡ Some w
    → (m : Content) × (i : ℕ) × (notice : Notice) × (note ≡ Says m (Some i) notice) × (counts notice.observation ≡ true)
    × (watch_under l m.token ≡ Some w)
counting-is l (Says m (Some i) notice) w e = by (counts notice.observation) refl e
  where
    by : (b : Bool) → counts notice.observation ≡ b → cond b (watch_under l m.token) None ≡ Some w
        → (n : Content) × (j : ℕ) × (other : Notice) × (Says m (Some i) notice ≡ Says n (Some j) other) × (counts other.observation ≡ true)
        × (watch_under l n.token ≡ Some w)
    by true is f = (m, i, notice, refl, is, f)
    by false is f = absurd (none-some w f)
counting-is l note w e = absurd (none-some w e)

counts-new : (x : Noted) (l : List Noted) (key : CacheKey) → Follows l x.written.moment x.written.deed x.note → outdates l key x.note ≡ true
    → CountsFor (x ∷ l) key (length l)
counts-new x l key may e = by (counting l x.note) refl e
  where
    by : (w : Option Watch) → counting l x.note ≡ w → option_map_or (is_of_key key) w false ≡ true → CountsFor (x ∷ l) key (length l)
    by None is f = absurd (false≢true f)
    by (Some w) is f =
        let it = counting-is l x.note w is in
        let heard = says-hears l x.written.moment x.written.deed it.0 (Some it.1) it.2
        (subst (λ (n : Note). Follows l x.written.moment x.written.deed n) it.3 may) in
        record {
          watch = w;
          news = record {
            moment = x.written.moment;
            peer = heard.0;
            bytes = heard.1;
            message = it.0;
            sending = it.1;
            notice = it.2;
            stands = at-new x l
                ∙ (ap (λ (d : Deed). Some (noted x.written.moment d x.note)) heard.2 ∙ ap (λ (n : Note). Some (noted x.written.moment (Hears heard.0 heard.1) n)) it.3);
            counted = it.4;
            under = subst (λ (k : List Noted). watch_under k it.0.token ≡ Some w) (sym (before-new x l)) it.5;
          };
          keyed = f;
        }

news-keep : (x : Noted) (l : List Noted) (e : ℕ) (w : Watch) → IsNews l e w → IsNews (x ∷ l) e w
news-keep x l e w n = record {
  moment = n.moment;
  peer = n.peer;
  bytes = n.bytes;
  message = n.message;
  sending = n.sending;
  notice = n.notice;
  stands = at-keeps x l e _ n.stands;
  counted = n.counted;
  under = subst (λ (k : List Noted). watch_under k n.message.token ≡ Some w) (sym (before-keeps x l e (at-below l e _ n.stands))) n.under;
}

counts-keep : (x : Noted) (l : List Noted) (key : CacheKey) (e : ℕ) → CountsFor l key e → CountsFor (x ∷ l) key e
counts-keep x l key e h = record { watch = h.watch; news = news-keep x l e h.watch h.news; keyed = h.keyed }

pub outdated-by : (l : List Noted) (key : CacheKey) (n : ℕ) → Legal l → outdated l key n ≡ true → (e : ℕ) × (n < e) × CountsFor l key e
outdated-by [] key n legal e = absurd (false≢true e)
outdated-by (x ∷ older) key n legal e =
    elim (or_cases (ltb n (length older) && outdates older key x.note) (outdated older key n) e) [
      | inl w ↦
          let both = and_parts (ltb n (length older)) (outdates older key x.note) w in
          (length older, (Decides-ltb n (length older)).0 both.0, counts-new x older key legal.2 both.1)
      | inr w ↦
          let it = outdated-by older key n legal.0 w in
          (it.0, it.1, counts-keep x older key it.0 it.2)
    ]

outdates-is : (l : List Noted) (key : CacheKey) (m : Content) (i : ℕ) (notice : Notice) (w : Watch) → counts notice.observation ≡ true
    → watch_under l m.token ≡ Some w → is_of key w.held ≡ true → outdates l key (Says m (Some i) notice) ≡ true
outdates-is l key m i notice w counted under key_is = rw (counted, under) key_is

-- And the other way round.
pub outdated-since : (l : List Noted) (key : CacheKey) (n e : ℕ) → n < e → CountsFor l key e → outdated l key n ≡ true
outdated-since [] key n e lt h = absurd (none-some _ h.news.stands)
outdated-since (x ∷ older) key n e lt h =
    let it = h.news in
    elim (at-old x older e _ it.stands) [
      | inl w ↦
          let under = subst (λ (k : List Noted). watch_under k it.message.token ≡ Some h.watch) (ap (before (x ∷ older)) w.0 ∙ before-new x older) it.under in
          let note : outdates older key x.note ≡ true =
          subst (λ (y : Noted). outdates older key y.note ≡ true) (sym w.1) (outdates-is older key it.message it.sending it.notice h.watch it.counted under h.keyed) in
          let below = (Decides-ltb n (length older)).1 (subst (λ (k : ℕ). n < k) w.0 lt) in
          or_left (ltb n (length older) && outdates older key x.note) (outdated older key n) (and_from (ltb n (length older)) (outdates older key x.note) below note)
      | inr w ↦
          let under = subst (λ (k : List Noted). watch_under k it.message.token ≡ Some h.watch) (before-keeps x older e (at-below older e _ w)) it.under in
          or_right (ltb n (length older) && outdates older key x.note) (outdated older key n)
          (outdated-since older key n e lt (record {
            watch = h.watch;
            news = record {
              moment = it.moment;
              peer = it.peer;
              bytes = it.bytes;
              message = it.message;
              sending = it.sending;
              notice = it.notice;
              stands = w;
              counted = it.counted;
              under = under;
            };
            keyed = h.keyed;
          }))
    ]

pub outdated-keeps : (x : Noted) (l : List Noted) (key : CacheKey) (n : ℕ) → outdated l key n ≡ true → outdated (x ∷ l) key n ≡ true
outdated-keeps x l key n e = or_right (ltb n (length l) && outdates l key x.note) (outdated l key n) e

pub counts-since : (l : List Noted) (k : ℕ) (x : Noted) (key : CacheKey) (e : ℕ) → at l k ≡ Some x → CountsFor (before l k) key e → CountsFor l key e
counts-since l k x key e is h = record { watch = h.watch; news = news-since l k x e h.watch is h.news; keyed = h.keyed }

-- An update of what may answer a GET counts for its key.
pub update-counts : (l : List Noted) (q : CoapRequest) (o e : ℕ) (w : Response) (rs : List Reply) → Legal l → is_joinable l q o ≡ true
    → UpdatesSo l o e w rs → CountsFor l (asked_key q) e
update-counts l q o e w rs legal may u =
    let has = find-some (is_under u.message.token) (watches (before l e)) u.watch u.under in
    let fits = watch-fits (before l e) u.watch (legal-before l e legal) has.0 in
    let shared = shared-is l q o may in
    let opened = begun-before l e u.watch.held.opening fits.exchange fits.opened in
    let same : shared.exchange ≡ fits.exchange =
    some-is _ _ (sym shared.opened ∙ (ap (λ (o : ℕ). begun l o) (sym u.registered) ∙ opened)) in
    let keys : u.watch.held.key ≡ asked_key q =
    fits.key ∙ (ap (λ (b : Begun). asked_key b.request) (sym same) ∙ sym (same-key q shared.exchange.request shared.same)) in
    record {
      watch = u.watch;
      news = update-news l o e w rs u;
      keyed = (keys_decided u.watch.held.key (asked_key q)).1 keys;
    }
