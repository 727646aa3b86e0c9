-- What an answer rests on that isn't from the store: replies to the exchange that its ask reads, or what that keeps.
use Rattle.std.proofs.Common.{◌≡◌, ◌⊎◌, ℕ, ◌<◌, ◌≤◌, suc, not, Bool, false, inl, inr, List, [], ◌∷◌, ◌++◌, Option, Some, None, refl, sym, ap, subst, ◌∙◌, arith}
use Rattle.std.specs.List.{Contains}
use Rattle.std.proofs.lemmas.List.Elements.{Contains-append_cases, Contains-push_cases}
use Rattle.resp_cache.specs.Stored.{Stored}
use Rattle.coap_codec.specs.Spelling.{Content}
use Rattle.uri_map.specs.declared.peer.Peer.{Peer}
use Rattle.cache_key.specs.declared.place.Place.{Place}
use Rattle.ask_model.specs.Requests.{CoapRequest, Observing, observe_message}
use Rattle.ask_model.specs.Sharing.{asked_place}
use Rattle.ask_model.proofs.CallerLemmas.{asks-alike, same-place}
use Rattle.journal_book.specs.Entries.{Grounds, Live}
use Rattle.history_laws.specs.Readings.{Noted, at, before}
use Rattle.history_laws.specs.Progress.{Reply, numbers, Whole, Renewed}
use Rattle.history_laws.specs.Exchanges.{Begun, begins_with, kept, replies}
use Rattle.history_laws.specs.Joining.{outrun}
use Rattle.history_laws.specs.Storing.{renewed_list}
use Rattle.history_laws.specs.Justified.{Ends, HasGrounds, Legal, reads, reads_in}
use Rattle.history_laws.specs.Laws.{IsAnswer, IsBegunBy, IsFirst}
use Rattle.history_laws.specs.Grounds.{IsToldFor, RestsOn, RestsOnKept, RestsOnNotice}
use Rattle.history_laws.proofs.Basis.{grounds-of, made-of, number-of, rests-own}
use Rattle.history_laws.proofs.Beginnings.{asked-nothing, begins-at}
use Rattle.history_laws.proofs.Begun.{begun-by, unoutrun-behind}
use Rattle.history_laws.proofs.Elements.{contains-none}
use Rattle.history_laws.proofs.Facts.{at-before, follows-at}
use Rattle.history_laws.proofs.Going.{ends-renewed}
use Rattle.history_laws.proofs.Joining.{ReadsAlong, Reader, reader, reads-opened}
use Rattle.history_laws.proofs.Kept.{kept-before, renews-for}
use Rattle.history_laws.proofs.Outrunning.{end-since}
use Rattle.history_laws.proofs.Renewing.{kept-listed, renewed-of, stored-told, told-same}
use Rattle.history_laws.proofs.Resting.{none-some}
use Rattle.history_laws.proofs.Sent.{begun-before}

reads-before : (l : List Noted) (n k o : ℕ) → reads (before l n) k ≡ Some o → reads l k ≡ Some o
reads-before l n k o e = by (at (before l n) k) refl e
  where
    by : (y : Option Noted) → at (before l n) k ≡ y → reads_in k y ≡ Some o → reads l k ≡ Some o
    by None is f = absurd (none-some o f)
    by (Some y) is f = ap (reads_in k) (at-before l n k y is) ∙ f

-- Of what it began with, the notification that opened it.
module _ (l : List Noted) (k o : ℕ) (r : Reply) (legal : Legal l) (reading : reads l k ≡ Some o) (has : Contains (begins_with l o) r) where
  rests-along : (it : Reader l k o) → ReadsAlong l k o it.request it.exchange → (by : IsBegunBy l o it.exchange.request r) → RestsOnNotice l k o
  rests-along it along by =
      let alike = asks-alike it.request it.exchange.request along.same in
      let place : asked_place it.request ≡ asked_place it.exchange.request = same-place it.request it.exchange.request along.same in
      let fresh : outrun (before l k) (asked_place it.exchange.request) o ≡ false = subst (λ (p : Place). outrun (before l k) p o ≡ false) place along.joined.fresh in
      record {
        conn = it.conn;
        ask = it.ask;
        request = it.request;
        asked = it.asked;
        sense = it.sense;
        reads = reading;
        earlier = along.earlier;
        exchange = it.exchange;
        opened = it.opened;
        same = along.same;
        reply = r;
        number = by.number;
        begun_by = by;
        current =
            ap (λ (p : Place). outrun (before l k) p by.ask) place
            ∙ unoutrun-behind l (before l k) (begun-before l k) (end-since l k) o it.exchange.request r by fresh;
        moment = by.moment;
        mid = by.mid;
        token = by.token;
        first = subst (λ (p : Peer). IsFirst l by.moment by.ask r.sending p (observe_message it.request by.mid by.token)) (sym alike.0)
            (subst (λ (m : Content). IsFirst l by.moment by.ask r.sending it.exchange.request.peer m) (sym (alike.1 Observing by.mid by.token)) by.first);
      }

  pub rests-notice : RestsOnNotice l k r.number
  rests-notice =
      let it = reader l k o legal reading in
      let by = begun-by l o it.exchange r legal it.opened has in
      subst (RestsOnNotice l k) (sym by.number) (way it it.way by)
    where
      way : (it : Reader l k o) → ((o ≡ k) × (it.request ≡ it.exchange.request)) ⊎ ReadsAlong l k o it.request it.exchange
          → IsBegunBy l o it.exchange.request r → RestsOnNotice l k o
      way it (inr along) by = rests-along it along by
      way it (inl own) by =
          let none : begins_with l k ≡ [] =
          begins-at l k _ it.asked.stands
          ∙ (asked-nothing (before l k) it.asked.moment k it.ask.sense it.asked.note (follows-at l k _ legal it.asked.stands).3).0 in
          absurd (contains-none r (subst (λ (rs : List Reply). Contains rs r) none (subst (λ (n : ℕ). Contains (begins_with l n) r) own.0 has)))

-- Of what the exchange renewed, the reply by which it did, and what stood before.
rests-renewed : (l : List Noted) (k o e j : ℕ) (s : Stored) (r : Reply) → Legal l → reads l k ≡ Some o → Ends l o e (Renewed s r)
    → Contains (renewed_list s r.number) j → RestsOn l k j ⊎ (RestsOnNotice l k j ⊎ RestsOnKept l k j)
rests-renewed l k o e j s r legal reading ended has =
    elim (Contains-push_cases s.list r.number j has) [
      | inl w ↦ inr (inr (from w))
      | inr w ↦ inl (subst (RestsOn l k) w (rests-own l k o r legal reading (renewed-of l o e s r ended)))
    ]
  where
    it : Reader l k o
    it = reader l k o legal reading

    keeps : kept l o ≡ Some s
    keeps = kept-before l e o s (ends-renewed l o e s r ended).turned.keeps

    told-by : (since : ℕ) (q : CoapRequest) (b : Begun) → ((o ≡ k) × (q ≡ b.request)) ⊎ ReadsAlong l k o q b → IsToldFor l since b.request j → IsToldFor l since q j
    told-by since q b (inl own) h = subst (λ (v : CoapRequest). IsToldFor l since v j) (sym own.1) h
    told-by since q b (inr along) h = told-same l since q b.request j legal along.same h

    from : Contains s.list j → RestsOnKept l k j
    from has_it =
        let for_it = renews-for l o it.exchange s legal it.opened keeps in
        let listed = kept-listed (before l o) s for_it.stored j for_it.pieces has_it in
        let told = stored-told (suc o) l o _ it.exchange.request for_it.stored j (omega arith) legal for_it.stands for_it.is listed in
        record {
          conn = it.conn;
          ask = it.ask;
          request = it.request;
          asked = it.asked;
          sense = it.sense;
          opening = o;
          reads = reading;
          not_later = (reads-opened l k o legal reading).0;
          exchange = it.exchange;
          opened = it.opened;
          stored = for_it.stored;
          is = for_it.is;
          keeps = keeps ∙ ap (λ (v : Stored). Some v) for_it.pieces;
          listed = listed;
          earlier = told.1;
          told = told-by for_it.stored.opening it.request it.exchange it.way told.0;
        }

pub rests-on-its-own : (l : List Noted) (n c k j : ℕ) (js : List ℕ) → Legal l → IsAnswer l n c k (Live js) → Contains js j
    → RestsOn l k j ⊎ (RestsOnNotice l k j ⊎ RestsOnKept l k j)
rests-on-its-own l n c k j js legal a has = by (grounds-of (before l n) a.moment c k (Live js) a.note (follows-at l n _ legal a.stands))
  where
    by : HasGrounds (before l n) a.moment k (Live js) → RestsOn l k j ⊎ (RestsOnNotice l k j ⊎ RestsOnKept l k j)
    by (inl h) =
        let it = number-of h.3 j (subst (λ (js : List ℕ). Contains js j) h.6 has) in
        let reading = reads-before l n k h.0 h.4 in
        elim (Contains-append_cases (begins_with l h.0) (replies l h.0) it.0 (made-of l h.0 h.1 h.2 h.3 it.0 legal (end-since l n h.0 _ h.5) it.1)) [
          | inl first ↦ inr (inl (subst (RestsOnNotice l k) it.2 (rests-notice l k h.0 it.0 legal reading first)))
          | inr reply ↦ inl (subst (RestsOn l k) it.2 (rests-own l k h.0 it.0 legal reading reply))
        ]
    by (inr h) =
        rests-renewed l k h.0 h.1 j h.2 h.3 legal (reads-before l n k h.0 h.4) (end-since l n h.0 _ h.5)
        (subst (λ (js : List ℕ). Contains js j) h.6 has)
