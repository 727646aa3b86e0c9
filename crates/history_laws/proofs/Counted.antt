-- Each watch holds the number and the moment of what counted last for it: of the reply that registered it, or of a notification.
use Rattle.std.proofs.Common.{◌≡◌, ℕ, zero, Bool, true, false, cond, not, ◌&&◌, leb, List, [], ◌∷◌, length, Option, Some, None, option_map, refl, sym, ap, subst, ◌∙◌, arith}
use Rattle.std.specs.Prelude.{find}
use Rattle.std.specs.List.{AllByRecursion, Contains}
use Rattle.std.proofs.lemmas.List.Elements.{Contains-append_right}
use Rattle.coap_codec.specs.Spelling.{Content}
use Rattle.uri_map.specs.declared.peer.Peer.{Peer}
use Rattle.ask_model.specs.Requests.{CoapRequest, Sense, Requests, Refuses}
use Rattle.journal_book.specs.Entries.{Deed, Asks, Hears, Passes}
use Rattle.observe_share.specs.declared.registration.Registration.{Registration}
use Rattle.observe_share.specs.declared.notice.Notice as Shared
use Rattle.observe_share.specs.declared.notice.Notice.TheVariants.{Update, Other}
use Rattle.observe_share.specs.Watches.{counted, counts_for, first_changed, in_place}
use Rattle.history_laws.specs.Readings.{Noted, Note, Begins, Renews, Says, Notice, Observation, Unobserved, Registers, Updates, Outdates, Starts, Cancels, noted, at}
use Rattle.history_laws.specs.Progress.{Reply, Progress, Fetches, Gives, Ends}
use Rattle.history_laws.specs.Transmissions.{FirstSending, first_at}
use Rattle.history_laws.specs.Exchanges.{Begun, begun, Turn, replies, replies_by, waits_for}
use Rattle.history_laws.specs.Observing.{Watch, as_first, asked_again, asked_by, counts, current_by, held_by, idles, is_current, is_for, is_under, notice_by, notice_in, number_or_zero, registered, registered_of, told_by, version, watch_for, watch_under, watches, watches_by}
use Rattle.history_laws.specs.Hearing.{counts_as, has_room, is_read, is_such, is_this, observation_of, starts_for}
use Rattle.history_laws.specs.Justified.{Legal}
use Rattle.history_laws.specs.Laws.{IsReplyTo}
use Rattle.history_laws.proofs.Elements.{all-filter, all-more}
use Rattle.history_laws.proofs.Members.{all-join}
use Rattle.history_laws.proofs.Notified.{IsNews, news-fits, NewsFits, news-told, tell-fits, TellFits}
use Rattle.std.proofs.lemmas.Bool.{false≢true}
use Rattle.history_laws.proofs.Places.{at-keeps, at-new, at-same, before-new}
use Rattle.history_laws.proofs.Replies.{IsReplyTo-keeps, replies-fit}
use Rattle.history_laws.proofs.Resting.{none-some, some-is}
use Rattle.history_laws.proofs.Registering.{all-mapped, IsRegistering, registering, said}
use Rattle.history_laws.proofs.Watching.{not-rst, turn-replies}

pub record HeldFrom (l : List Noted) (w : Watch) : Type 0 where
  pub last : Reply
  pub fits : IsReplyTo l w.held.opening last
  pub under : last.sending ≡ w.sending
  pub number : w.held.version ≡ number_or_zero (version last.message)
  pub moment : w.held.moment ≡ fits.moment

moments-same : (l : List Noted) (n s t : ℕ) (d e : Deed) (u v : Note) → at l n ≡ Some (noted s d u) → at l n ≡ Some (noted t e v) → s ≡ t
moments-same l n s t d e u v a b = ap (λ (x : Noted). x.written.moment) (at-same l n _ _ a b)

keeps : (x : Noted) (l : List Noted) (w : Watch) → HeldFrom l w → HeldFrom (x ∷ l) w
keeps x l w h =
    let fits : IsReplyTo (x ∷ l) w.held.opening h.last = IsReplyTo-keeps x l w.held.opening h.last h.fits in
    record {
      last = h.last;
      fits = fits;
      under = h.under;
      number = h.number;
      moment = h.moment ∙ moments-same (x ∷ l) h.last.number _ _ _ _ _ _ (at-keeps x l h.last.number _ h.fits.heard) fits.heard;
    }

asked-held : (l : List Noted) (q : CoapRequest) (t : ℕ) (w : Watch) → HeldFrom l w → HeldFrom l (asked_again q t w)
asked-held l q t w h = by (is_for q w)
  where
    by : (b : Bool) → HeldFrom l (cond b (record w { held = record w.held { asked = t } }) w)
    by true = record { last = h.last; fits = h.fits; under = h.under; number = h.number; moment = h.moment }
    by false = h

-- What holds of the others and of what the first that passes is changed to holds of all.
all-first : {X : Type 0} (P : X → Type 0) (p : X → Bool) (f : X → Option X) (xs : List X) → ((x y : X) → find p xs ≡ Some x → f x ≡ Some y → P y)
    → AllByRecursion P xs → AllByRecursion P (first_changed p f xs)
all-first P p f [] new a = tt
all-first {X = X} P p f (x ∷ xs) new a = by (p x) refl (all-first P p f xs)
  where
    placed : (o : Option X) → f x ≡ o → p x ≡ true → AllByRecursion P (in_place o xs)
    placed None e is = a.1
    placed (Some y) e is = (new x y (rw (is) refl) e, a.1)

    by : (b : Bool) → p x ≡ b
        → (((z y : X) → find p xs ≡ Some z → f z ≡ Some y → P y) → AllByRecursion P xs → AllByRecursion P (first_changed p f xs))
        → AllByRecursion P (cond b (in_place (f x) xs) (x ∷ first_changed p f xs))
    by true is ih = placed (f x) refl is
    by false is ih = (a.0, ih (λ z y e g. new z y (rw (is) e) g) a.1)

-- An update has a number.
update-number : (b : Bool) (v : Option ℕ) (n : ℕ) → notice_by b v ≡ Update n → n ≡ number_or_zero v
update-number true None n e = absurd cc
update-number true (Some v) n e = cc
update-number false None n e = absurd cc
update-number false (Some v) n e = absurd cc

-- the entry that is told of
module _ (l : List Noted) (t : ℕ) (p : Peer) (b : List ℕ) (m : Content) (i : ℕ) (notice : Notice)
    (legal : Legal (noted t (Hears p b) (Says m (Some i) notice) ∷ l)) where
  abbrev x : Noted
  x = noted t (Hears p b) (Says m (Some i) notice)

  abbrev P : Watch → Type 0
  P w = HeldFrom (x ∷ l) w

  abbrev reply : Reply
  reply = record { number = length l; sending = i; message = m }

  registers-held : notice.observation ≡ Registers → (r : IsRegistering l m i) → P (watch_for l t i m r.first.opening r.exchange)
  registers-held e r =
      let is = said l t p b m i notice legal.2 in
      let turned = turn-replies l r.first.opening t p b m i notice r.waited r.response (not-rst l p m i r.response is.to) in
      let has : Contains (replies (x ∷ l) r.first.opening) reply =
      subst (λ (u : Turn). Contains (replies_by (length l) u (replies l r.first.opening)) reply) (sym turned)
      (Contains-append_right (replies l r.first.opening) _ _ (zero, omega arith, refl)) in
      let fits = replies-fit (x ∷ l) r.first.opening reply legal has in
      record {
        last = reply;
        fits = fits;
        under = refl;
        number = refl;
        moment = moments-same (x ∷ l) (length l) _ _ _ _ _ _ (at-new x l) fits.heard;
      }

  changed-held : counts notice.observation ≡ true → (w y : Watch) → watch_under l m.token ≡ Some w → held_by m t w ≡ Some y → P y
  changed-held c w y under e =
      by (notice_in m) refl (counts_for (notice_in m) t w.held) f.newer e
    where
      n : IsNews (x ∷ l) (length l) w
      n = record {
        moment = t;
        peer = p;
        bytes = b;
        message = m;
        sending = i;
        notice = notice;
        stands = at-new x l;
        counted = c;
        under = subst (λ (k : List Noted). watch_under k m.token ≡ Some w) (sym (before-new x l)) under;
      }

      f : NewsFits (x ∷ l) (length l) w n
      f = news-fits (x ∷ l) (length l) w legal n

      g : TellFits (x ∷ l) (length l) w (news-told (x ∷ l) (length l) w n f)
      g = tell-fits (x ∷ l) (length l) w legal (news-told (x ∷ l) (length l) w n f)

      new : (v : ℕ) → notice_in m ≡ Update v → P (record w { held = record w.held { version = v; moment = t } })
      new v is = record {
        last = reply;
        fits = g.fits;
        under = g.sending;
        number = update-number _ (version m) v is;
        moment = moments-same (x ∷ l) (length l) _ _ _ _ _ _ (at-new x l) g.fits.heard;
      }

      by : (u : Shared.Notice) → notice_in m ≡ u → (d : Bool) → d ≡ true
          → option_map (λ (r : Registration). record w { held = r }) (cond d (counted u t w.held) (Some w.held)) ≡ Some y → P y
      by (Update v) is true h e = subst P (some-is _ y e) (new v is)
      by (Other v) is true h e = absurd (none-some y e)
      by u is false h e = absurd (false≢true h)

  told-held : AllByRecursion P (watches l) → AllByRecursion P (told_by l t i m notice.observation (watches l))
  told-held a = by notice.observation refl
    where
      changed : counts notice.observation ≡ true → AllByRecursion P (first_changed (is_under m.token) (held_by m t) (watches l))
      changed c = all-first P (is_under m.token) (held_by m t) (watches l) (changed-held c) a

      new : notice.observation ≡ Registers → AllByRecursion P (registered l t i m (first_at l i))
      new e =
          let r = registering l t m i ((said l t p b m i notice legal.2).observation ∙ e) in
          subst (λ (f : Option FirstSending). AllByRecursion P (registered l t i m f)) (sym r.sent)
          (subst (λ (v : Option Begun). AllByRecursion P (registered_of l t i m r.first.opening v)) (sym r.opened) (registers-held e r, tt))

      by : (o : Observation) → notice.observation ≡ o → AllByRecursion P (told_by l t i m o (watches l))
      by Unobserved e = a
      by Registers e = all-join P (watches l) (registered l t i m (first_at l i)) a (new e)
      by Updates e = changed (ap counts e)
      by Outdates e = changed (ap counts e)
      by (Starts k q) e = changed (ap counts e)
      by Cancels e = changed (ap counts e)

held-step : (l : List Noted) (t : ℕ) (d : Deed) (note : Note) → Legal (noted t d note ∷ l) → AllByRecursion (HeldFrom (noted t d note ∷ l)) (watches l)
    → AllByRecursion (HeldFrom (noted t d note ∷ l)) (watches_by l t d note (watches l))
held-step l t (Asks c a) note legal all = by a.sense note
  where
    P : Watch → Type 0
    P = HeldFrom (noted t (Asks c a) note ∷ l)

    by : (s : Sense) (n : Note) → AllByRecursion P (asked_by t s n (watches l))
    by (Requests q) (Begins r) = all-filter P (λ (w : Watch). not (is_for q w)) (watches l) all
    by (Requests q) (Renews r s) = all-filter P (λ (w : Watch). not (is_for q w)) (watches l) all
    by (Requests q) n = all-mapped P (asked_again q t) (λ w h. asked-held _ q t w h) (watches l) all
    by (Refuses cause status) n = all
held-step l t (Hears p b) (Says m (Some i) notice) legal all = told-held l t p b m i notice legal all
held-step l t (Hears p b) note legal all = all
held-step l t Passes note legal all = all-filter _ (λ (w : Watch). not (idles t w)) (watches l) all
held-step l t d note legal all = all

held-current : (l n : List Noted) (d : Deed) (note : Note) (ws : List Watch) → AllByRecursion (HeldFrom n) ws → AllByRecursion (HeldFrom n) (current_by l d note ws)
held-current l n (Hears p b) (Says m to notice) ws a = all-filter (HeldFrom n) (is_current l) ws a
held-current l n Passes note ws a = all-filter (HeldFrom n) (is_current l) ws a
held-current l n d note ws a = a

pub watches-held : (l : List Noted) → Legal l → AllByRecursion (HeldFrom l) (watches l)
watches-held [] legal = tt
watches-held (x ∷ older) legal =
    held-current (x ∷ older) (x ∷ older) x.written.deed x.note _
    (held-step older x.written.moment x.written.deed x.note legal
    (all-more (HeldFrom older) (HeldFrom (x ∷ older)) (keeps x older) (watches older) (watches-held older legal.0)))

-- What came under the token of a watch and counts for nothing is no newer than what that holds.
pub uncounted : (l : List Noted) (t : ℕ) (m : Content) (i : ℕ) (w : Watch) (f : FirstSending) → leb 32 m.code ≡ true → first_at l i ≡ Some f
    → is_this i (waits_for l f.opening) ≡ false → watch_under l m.token ≡ Some w → is_such m.kind ≡ true → counts (observation_of l t m (Some i)) ≡ false
    → counts_for (notice_in m) t w.held ≡ false
uncounted l t m i w f response sent unwaited under such e = by (counts_for (notice_in m) t w.held) (notice_in m) (as_first 0 0 m) (rw (response, sent, unwaited, under, such) at e)
  where
    starts : (v : Option Begun) → counts (starts_for l t w.held.opening v) ≡ true
    starts None = refl
    starts (Some b) = so (has_room l t b.request && not (is_read l b.request))
      where
        so : (v : Bool) → counts (cond v (Starts w.held.opening b.request) Outdates) ≡ true
        so true = refl
        so false = refl

    by : (b : Bool) (n : Shared.Notice) (u : Progress) → counts (cond b (counts_as l t w.held n u) Unobserved) ≡ false → b ≡ false
    by false n u e = refl
    by true (Other v) u e = absurd (false≢true (sym e))
    by true (Update v) (Ends how) e = absurd (false≢true (sym e))
    by true (Update v) (Fetches k pieces got) e = absurd (false≢true (sym e ∙ starts (begun l w.held.opening)))
    by true (Update v) (Gives k got) e = absurd (false≢true (sym e ∙ starts (begun l w.held.opening)))
