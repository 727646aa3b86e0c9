-- What an answer's ask reads: the exchange that it opened, or one that it joined.
use Rattle.std.proofs.Common.{◌≡◌, ◌⊎◌, ℕ, ◌<◌, ◌≤◌, true, inl, inr, List, Option, Some, refl, sym, ap, subst, ◌∙◌, arith, false}
use Rattle.coap_codec.specs.Spelling.{Content}
use Rattle.uri_map.specs.declared.peer.Peer.{Peer}
use Rattle.ask_model.specs.Requests.{CoapRequest, Requests}
use Rattle.ask_model.specs.Sharing.{asked_place, is_get, asks_same}
use Rattle.ask_model.proofs.CallerLemmas.{same-place}
use Rattle.cache_key.specs.declared.place.Place.{Place}
use Rattle.ask_model.specs.Views.{Ask}
use Rattle.journal_book.specs.Entries.{Deed, Asks, Hears}
use Rattle.history_laws.specs.Readings.{Noted, Note, Says, entries, at, before, noted}
use Rattle.history_laws.specs.Progress.{Ending}
use Rattle.history_laws.specs.Exchanges.{opens_by, Begun, begun, ask_behind, openings, is_going}
use Rattle.history_laws.specs.Joining.{outrun}
use Rattle.history_laws.specs.Justified.{IsAsk, Ends, reads_in, reads, Legal}
use Rattle.history_laws.specs.Laws.{IsFirst}
use Rattle.history_laws.proofs.CallerLemmas.{ask-behind, ask-own, AskedFor, at-before, at-below, at-same, before-twice, begun-early, begun-opening, behind-since, behind-unoutrun, filtered-from, follows-at, legal-before, length-before, notice-behind, opened-for, reader, Reader, ReadsAlong, reads-opened, some-is, StartedFor}
use Rattle.history_claims.specs.Headline.{IsAsked, IsJoined, IsJoinedTo, IsSameGet, IsShared}
use Rattle.history_claims.proofs.Alike.{IsLike, like-get, same-get, reader-like}
use Rattle.history_claims.proofs.Asking.{asked-by}
use Rattle.history_claims.proofs.Hands.{ends-after, ends-later}
use Rattle.history_claims.proofs.Pending.{fetching-is, opens-reads, pending-is}
use Rattle.history_claims.proofs.Unsent.{none-for-other}
use Rattle.history_claims.proofs.Unshared.{asks-itself}
use Rattle.history_claims.proofs.Written.{unsealed, fresh-at}

pub record Reads (l : List Noted) (n c k o : ℕ) : Type 0 where
  pub exchange : Begun
  pub opened : begun l o ≡ Some exchange
  pub request : CoapRequest
  pub like : IsLike exchange.request request
  pub same : is_get exchange.request ≡ true → asks_same request exchange.request ≡ true
  pub shared : IsShared (entries l) c k request o (ask_behind l o) exchange.since
  pub not_later : o ≤ k
  -- it ends after the ask
  pub later : (e : ℕ) (how : Ending) → Ends (before l n) o e how → k < e
  -- what was sent for the ask was sent for it
  pub sent : (t i : ℕ) (p : Peer) (m : Content) → IsFirst l t k i p m → IsFirst l t o i p m

moments-same : (s t : ℕ) (d e : Deed) (u v : Note) → noted s d u ≡ noted t e v → s ≡ t
moments-same s t d e u v h = ap (λ (x : Noted). x.written.moment) h

asks-not : (s t c : ℕ) (a : Ask) (p : Peer) (b : List ℕ) (u v : Note) → noted s (Asks c a) u ≡ noted t (Hears p b) v → ⊥
asks-not s t c a p b u v e = go (ap (λ (x : Noted). x.written.deed) e)
  where
    go : Asks c a ≡ Hears p b → ⊥
    go f = cc

-- what it opened is its own, since the ask
module _ (l : List Noted) (k o : ℕ) (legal : Legal l) (it : Reader l k o) where
  own-since : o ≡ k → it.exchange.since ≡ it.asked.moment
  own-since own =
      let opening = begun-opening l o it.exchange it.opened in
      let here = subst (λ (i : ℕ). at l i ≡ Some (noted it.exchange.since opening.0 opening.1)) own opening.2 in
      moments-same it.exchange.since it.asked.moment opening.0 (Asks it.conn it.ask) opening.1 it.asked.note
      (at-same l k _ _ here it.asked.stands)

  -- and what it joined is that of a pending ask
  module _ (along : ReadsAlong l k o it.request it.exchange) where
    is-going-then : is_going (before l k) o ≡ true
    is-going-then = (filtered-from (is_going (before l k)) (openings (before l k)) o along.joined.is_open).1

    opened-then : begun (before l k) o ≡ Some it.exchange
    opened-then = begun-early l k o it.exchange (at-below l k _ it.asked.stands) it.opened along.earlier

    alike : IsSameGet it.request it.exchange.request
    alike = like-get it.exchange.request it.request (reader-like l k o it) (same-get it.request it.exchange.request along.same)

    joined : AskedFor l o it.exchange → (j : IsJoined (entries l) k it.request o) × (it.exchange.since ≡ j.pending.moment)
    joined asked =
        let pending = pending-is l k o _ legal it.asked.stands (unsealed l k it.conn it.ask legal it.asked) is-going-then it.exchange opened-then asked in (
          record {
            request = it.exchange.request;
            pending = pending.0;
            same = alike;
            fresh = λ m w lt. fresh-at l k it.conn it.ask it.request legal it.asked m w lt o
                (it.exchange.since, asked.conn, asked.ask, asked.note, asked.stands) along.joined.fresh;
          },
          pending.1,
        )

    -- or of what a notification began, for the ask that it goes back to
    joined-to : (n : StartedFor l o it.exchange) → IsJoinedTo (entries l) k o it.request n.ask it.exchange.since
    joined-to n =
        let early = legal-before l k legal in
        let place = same-place it.request it.exchange.request along.same in
        let fresh : outrun (before l k) (asked_place it.request) n.ask ≡ false =
        subst (λ (i : ℕ). outrun (before l k) (asked_place it.request) i ≡ false) (behind-since l k o it.exchange opened-then ∙ notice-behind l o it.exchange n)
        (subst (λ (p : Place). outrun (before l k) p (ask_behind (before l k) o) ≡ false) (sym place)
        (behind-unoutrun (before l k) o it.exchange early opened-then
        (subst (λ (p : Place). outrun (before l k) p o ≡ false) place along.joined.fresh))) in
        let back = ask-behind l o it.exchange legal it.opened in
        let stands = subst (λ (i : ℕ). at l i ≡ Some (noted back.asked.moment (Asks back.conn back.ask) back.asked.note))
        (sym back.is ∙ notice-behind l o it.exchange n) back.asked.stands in
        record {
          request = it.exchange.request;
          fetching = fetching-is l k o _ legal it.asked.stands is-going-then it.exchange opened-then n;
          alike = alike;
          fresh = λ m w lt. fresh-at l k it.conn it.ask it.request legal it.asked m w lt n.ask
              (back.asked.moment, back.conn, back.ask, back.asked.note, stands) fresh;
        }

  shared-in : (c : ℕ) → IsAsked (entries l) k c it.asked.moment (Requests it.request) → IsShared (entries l) c k it.request o (ask_behind l o) it.exchange.since
  shared-in c asked = elim (opened-for l o it.exchange legal it.opened) [
    | inl mine ↦
        subst (λ (i : ℕ). IsShared (entries l) c k it.request o i it.exchange.since) (sym (ask-own l o it.exchange legal mine))
        (record {
          moment = it.asked.moment;
          asked = asked;
          shares = elim (it.way) [
            | inl own ↦ inl (own.0, own.0, own-since own.0)
            | inr along ↦ let j = joined along mine in inr (inl (refl, j.0, j.1))
          ];
        })
    | inr notice ↦
        subst (λ (i : ℕ). IsShared (entries l) c k it.request o i it.exchange.since) (sym (notice-behind l o it.exchange notice))
        (record {
          moment = it.asked.moment;
          asked = asked;
          shares = elim (it.way) [
            | inl own ↦
                absurd (asks-not _ _ _ _ _ _ _ _ (at-same l k _ _ it.asked.stands
                (subst (λ (i : ℕ). at l i ≡ Some (noted it.exchange.since (Hears notice.peer notice.bytes) (Says notice.message (Some notice.sending) notice.notice))) own.0 notice.stands)))
            | inr along ↦ inr (inr (joined-to along notice))
          ];
        })
  ]

-- an ask that opened an exchange reads that
opens-own : (l : List Noted) (k o t c : ℕ) (a : Ask) (note : Note) (q : CoapRequest) → Legal l → opens_by note ≡ Some q
    → at l k ≡ Some (noted t (Asks c a) note) → reads l k ≡ Some o → k ≡ o
opens-own l k o t c a note q legal opens here own =
    some-is k o (sym (opens-reads (before l k) t k a.sense note q (follows-at l k _ legal here).3 opens) ∙ subst (λ (x : Option Noted). reads_in k x ≡ Some o) here own)

pub reads-at : (l : List Noted) (n c k o : ℕ) (a : Ask) (x : Noted) → Legal l → at l n ≡ Some x → IsAsk (before l n) k c a → reads (before l n) k ≡ Some o
    → Reads l n c k o
reads-at l n c k o a x legal here ask e =
    let stands = at-before l n k _ ask.stands in
    let own : reads l k ≡ Some o = subst (λ (x : Option Noted). reads_in k x ≡ Some o) (ask.stands ∙ sym stands) e in
    let it = reader l k o legal own in
    let opened = reads-opened l k o legal own in
    record {
      exchange = it.exchange;
      opened = it.opened;
      request = it.request;
      like = reader-like l k o it;
      same = same it;
      shared = shared-in l k o legal it c (asked-by l n c k a (Requests it.request) it.asked.moment it.conn it.ask it.asked.note ask it.asked.stands it.sense);
      not_later = opened.0;
      later = later it;
      sent = sent own it;
    }
  where
    same : (it : Reader l k o) → is_get it.exchange.request ≡ true → asks_same it.request it.exchange.request ≡ true
    same it get =
        elim (it.way) [
          | inl own ↦
              subst (λ (r : CoapRequest). asks_same r it.exchange.request ≡ true) (sym own.1) (asks-itself it.exchange.request get)
          | inr along ↦ along.same
        ]

    later : (it : Reader l k o) (e : ℕ) (how : Ending) → Ends (before l n) o e how → k < e
    later it e how ended =
        elim (it.way) [
          | inl own ↦
              let after = ends-after (before l n) o e how (legal-before l n legal) ended in
              let same = own.0 in
              omega (arith, after, same)
          | inr along ↦
              let below = subst (λ (m : ℕ). k < m) (length-before l n x here) (at-below (before l n) k _ ask.stands) in
              let twice = before-twice l n k x here below in
              ends-later (before l n) k c o e a how ask (subst (λ (v : List Noted). is_going v o ≡ true) (sym twice) (is-going-then l k o legal it along)) ended
        ]

    opens-none : reads l k ≡ Some o → (it : Reader l k o) → ReadsAlong l k o it.request it.exchange → (q : CoapRequest) → opens_by it.asked.note ≡ Some q → ⊥
    opens-none own it along q is =
        let same = opens-own l k o it.asked.moment it.conn it.ask it.asked.note q legal is it.asked.stands own in
        let lt = along.earlier in
        absurd (omega (arith, same, lt))

    sent : reads l k ≡ Some o → Reader l k o → (t i : ℕ) (p : Peer) (m : Content) → IsFirst l t k i p m → IsFirst l t o i p m
    sent own it t i p m f =
        elim (it.way) [
          | inl opened ↦ subst (λ (o : ℕ). IsFirst l t o i p m) (sym opened.0) f
          | inr along ↦ absurd (none-for-other l k it.conn it.asked.moment it.ask it.asked.note legal it.asked.stands (opens-none own it along) t i p m f)
        ]
