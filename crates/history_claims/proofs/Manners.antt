-- In which manner a message asks: what it may bear besides what its request means.
use Rattle.std.proofs.Common.{◌≡◌, ◌⊎◌, ℕ, ◌+◌, ◌<◌, Bool, true, false, inl, inr, List, [], ◌∷◌, Option, Some, None, refl, sym, ap, subst, ◌∙◌, arith}
use Rattle.std.proofs.lemmas.Bool.{false≢true, and_parts}
use Rattle.coap_codec.specs.Spelling.{Content}
use Rattle.coap_codec.specs.declared.block.Block.{Block}
use Rattle.uri_map.specs.declared.peer.Peer.{Peer}
use Rattle.ask_model.specs.Requests.{CoapRequest, Sense, Requests, Manner, Plainly, asking}
use Rattle.ask_model.specs.Observing.{may_observe}
use Rattle.ask_model.specs.Views.{Ask}
use Rattle.resp_cache.specs.Stored.{Stored}
use Rattle.journal_book.specs.Entries.{Asks}
use Rattle.blockwise.specs.Uploads.{next_block}
use Rattle.history_laws.specs.Readings.{Noted, Note, Begins, Renews, Says, entries, at, before, noted}
use Rattle.history_laws.specs.Progress.{Reply, Progress, Fetches, Gives, Ends, progress, block_after, next_message}
use Rattle.history_laws.specs.Exchanges.{opens_by, Begun, begun, kept, replies, heard_for}
use Rattle.history_laws.specs.Observing.{manner, manner_by, observes, tag_of, unless_replied, wants_in}
use Rattle.history_laws.specs.Justified.{Legal}
use Rattle.history_laws.specs.Laws.{IsFirst}
use Rattle.history_laws.proofs.CallerLemmas.{asking-plain, AskedFor, at-before, at-below, at-entries, begun-early, kept-before, legal-before, none-some, opened-for, renews-for, sends-next, sent-for, some-is, StartedFor}
use Rattle.history_claims.specs.Headline.{IsEntry}
use Rattle.history_claims.specs.Order.{MayAsk}
use Rattle.history_claims.proofs.Keeping.{kept-here, was-stored}

-- the manner, where a message may be asked so; and for which block of the request
pub record AskedSo (l : List Noted) (o : ℕ) (q : CoapRequest) (m : Content) : Type 0 where
  pub block : Option Block
  pub manner : Manner
  pub asks : m ≡ asking manner q block m.mid m.token
  pub may : MayAsk (entries l) o q manner

no-replies : (wants : Bool) (rs : List Reply) → unless_replied wants rs ≡ true → wants ≡ true
no-replies wants [] e = e
no-replies wants (r ∷ rs) e = absurd (false≢true e)

-- Who asks to observe was asked so.
wants-so : (l : List Noted) (t c : ℕ) (a : Ask) (note : Note) (q : CoapRequest) → opens_by note ≡ Some q → wants_in l (Some (noted t (Asks c a) note)) ≡ true
    → may_observe a.rules q ≡ true
wants-so l t c a (Begins r) q e f =
    subst (λ (q : CoapRequest). may_observe a.rules q ≡ true) (some-is r q e) (and_parts (may_observe a.rules r) _ f).0
wants-so l t c a (Renews r s) q e f = absurd (false≢true f)
wants-so l t c a (Says m to notice) q e f = absurd (false≢true f)
wants-so l t c a note q e f = cc

-- a first sending of the exchange o, in the entry i
module _ (l : List Noted) (legal : Legal l) (o : ℕ) (b : Begun) (opened : begun l o ≡ Some b) (t i : ℕ) (p : Peer) (m : Content) (f : IsFirst l t o i p m) where
  early : begun (before l i) o ≡ Some b
  early = begun-early l i o b (at-below l i _ f.stands) opened (sent-for l t o i p m legal f).after

  observed : observes (before l i) o ≡ true → MayAsk (entries l) o b.request (manner_by None true)
  observed e =
      by (no-replies (wants_in (before (before l i) o) (at (before l i) o)) (replies (before l i) o) e)
      (opened-for (before l i) o b (legal-before l i legal) early)
    where
      asks : wants_in (before (before l i) o) (at (before l i) o) ≡ true → AskedFor (before l i) o b → MayAsk (entries l) o b.request (manner_by None true)
      asks wants it = (
        it.conn,
        b.since,
        record {
          came = it.ask.came;
          rules = it.ask.rules;
          stands = subst (λ (s : Sense). IsEntry (entries l) o b.since (Asks it.conn (record { came = it.ask.came; sense = s; rules = it.ask.rules })))
              it.sense (at-entries l o _ (at-before l i o _ it.stands));
        },
        wants-so (before (before l i) o) b.since it.conn it.ask it.note b.request it.opens
            (subst (λ (v : Option Noted). wants_in (before (before l i) o) v ≡ true) it.stands wants),
      )

      by : wants_in (before (before l i) o) (at (before l i) o) ≡ true → AskedFor (before l i) o b ⊎ StartedFor (before l i) o b
          → MayAsk (entries l) o b.request (manner_by None true)
      by wants (inl it) = asks wants it
      by wants (inr it) = absurd (false≢true (subst (λ (v : Option Noted). wants_in (before (before l i) o) v ≡ true) it.stands wants))

  tagged : (s : Stored) (tag : List ℕ) → kept (before l i) o ≡ Some s → s.response.etag ≡ Some tag
      → MayAsk (entries l) o b.request (manner_by (Some tag) false)
  tagged s tag keeps has =
      let it = renews-for l o b s legal opened (kept-before l i o s keeps) in
      let old = kept-here (o + 1) l o _ b.request it.stored (omega arith) legal it.stands it.is in (
        it.stored,
        (was-stored l o it.conn it.ask b.request it.stored legal (record { moment = b.since; note = Renews b.request s; stands = it.stands }) old).0,
        ap (λ (v : Stored). v.response.etag) (sym it.pieces) ∙ has,
      )

  may-be : MayAsk (entries l) o b.request (manner (before l i) o)
  may-be = by (kept (before l i) o) refl (replies (before l i) o) (observes (before l i) o) refl
    where
      of : (v : Option (List ℕ)) (w : Bool) → observes (before l i) o ≡ w → ((tag : List ℕ) → v ≡ Some tag → MayAsk (entries l) o b.request (manner_by (Some tag) false))
          → MayAsk (entries l) o b.request (manner_by v w)
      of None true is so = observed is
      of None false is so = tt
      of (Some tag) true is so = observed is
      of (Some tag) false is so = so tag refl

      by : (v : Option Stored) → kept (before l i) o ≡ v → (rs : List Reply) (w : Bool) → observes (before l i) o ≡ w
          → MayAsk (entries l) o b.request (manner_by (tag_of v rs) w)
      by (Some s) is [] w see = of s.response.etag w see (λ tag has. tagged s tag is has)
      by (Some s) is (r ∷ rs) w see = of None w see (λ tag e. absurd (none-some tag e))
      by None is rs w see = of None w see (λ tag e. absurd (none-some tag e))

  pub asked-so : AskedSo l o b.request m
  asked-so = by (progress b.request (heard_for (before l i) o)) (sends-next l t o i p m b legal f opened)
    where
      by : (u : Progress) → next_message (manner (before l i) o) b.request u m.mid m.token ≡ Some m → AskedSo l o b.request m
      by (Fetches k pieces got) e =
          record {
            block = block_after pieces;
            manner = manner (before l i) o;
            asks = sym (some-is _ _ e);
            may = may-be;
          }
      by (Gives u got) e =
          record {
            block = next_block u;
            manner = Plainly;
            asks = sym (some-is _ _ e) ∙ sym (asking-plain b.request (next_block u) m.mid m.token);
            may = tt;
          }
      by (Ends how) e = absurd (none-some m e)
