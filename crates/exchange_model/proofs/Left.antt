-- What a message that is new leaves of the tables: a state that has that says what the history says.
use Rattle.std.proofs.Common.{◌≡◌, ℕ, ◌+◌, ◌<◌, ◌⊎◌, inl, inr, Bool, true, false, List, [], ◌∷◌, ◌++◌, length, map, None, refl, sym, ap, subst, Option, Some, ◌∙◌}
use Rattle.history_laws.proofs.CallerLemmas.{some-is, starts-peer}
use Rattle.std.specs.List.{AllByRecursion}
use Rattle.coap_codec.specs.Spelling.{Content, Spells}
use Rattle.uri_map.specs.declared.peer.Peer.{Peer}
use Rattle.uri_map.specs.Peers.{same_peer}
use Rattle.uri_map.proofs.CallerLemmas.{same_peer-same}
use Rattle.message_layer.specs.Values.{LinkState}
use Rattle.message_layer.specs.Hearing.{verdict_of}
use Rattle.journal_book.specs.Entries.{Hears, Written}
use Rattle.history_laws.specs.Numbering.{token_number}
use Rattle.ask_model.specs.Requests.{CoapRequest}
use Rattle.history_laws.specs.Readings.{Noted, Observation, Unobserved, Registers, Updates, Outdates, Starts, Cancels}
use Rattle.history_laws.specs.Transmissions.{FirstSending, firsts}
use Rattle.history_laws.specs.Hearing.{answers, repeated, can_be_remembered, observation_of}
use Rattle.history_laws.specs.Justified.{Follows, Legal}
use Rattle.history_laws.specs.Exchanges.{issued, open_exchanges, started_by}
use Rattle.history_links.specs.Agrees.{Agrees, due}
use Rattle.history_laws.specs.Observing.{watches}
use Rattle.history_links.specs.Steps.{heard_link, heard, Heeds as LinkHeeds, IsUnnoticed}
use Rattle.history_links.proofs.CallerLemmas.{says-elsewhere}
use Rattle.exchange_model.specs.declared.kept.Exchange.{Exchange}
use Rattle.exchange_model.specs.State.{State, link_of, with_link}
use Rattle.exchange_model.specs.Reads.{ExchangeIn, held_of, opening_of, PiecesIn, StoreIn, WaitsUnder, StalesIn}
use Rattle.exchange_model.specs.Watching.{is_one_of}
use Rattle.exchange_model.specs.Steps.{entered}
use Rattle.exchange_model.specs.Matters.{Matter}
use Rattle.exchange_model.specs.Hearing.{exchanges_by, gone_by, issued_by, link_with, more_by, Numbers, pieces_by, store_by, watches_by, stales_by}
use Rattle.exchange_model.specs.Laws.{Heeds, MayHear}
use Rattle.exchange_model.proofs.Borne.{answers-peer}
use Rattle.exchange_model.proofs.Silent.{later-than, link-before, moment-now}
use Rattle.exchange_model.proofs.Tables.{all-links}

-- a test passes or doesn't
pub told : (b : Bool) → (b ≡ true) ⊎ (b ≡ false)
told true = inl refl
told false = inr refl

-- the state after a message that is this to the exchanges
abbrev pub after : ℕ → Peer → List ℕ → Content → Numbers → Matter → State → State
after t p d m n x S =
    let s = link_of S.links p in let S1 = entered t (Hears p d) S in record S1 {
      issued = issued_by x S.issued;
      exchanges = exchanges_by S.entries n.token x S.exchanges;
      pieces = pieces_by (length S.entries) x S.pieces;
      stales = stales_by x S.stales;
      watches = watches_by t m S.entries x S.watches;
      store = store_by S.entries t x S.store;
      links = with_link p (link_with t (more_by n x) (heard_link t m.mid m.token (is_one_of (gone_by m S.entries x S.watches)) (verdict_of t s m) s)) S.links;
    }

-- What it opens is with the peer that it came from.
pub started-peer : (l : List Noted) (t : ℕ) (p : Peer) (m : Content) (q : CoapRequest) → Legal l → started_by (observation_of l t m (answers l p m)) ≡ Some q → q.peer ≡ p
started-peer l t p m q legal e = by (answers l p m) refl e
  where
    none-some : None ≡ Some q → ⊥
    none-some e = cc

    of : (i : ℕ) → answers l p m ≡ Some i → (v : Observation) → observation_of l t m (Some i) ≡ v → started_by v ≡ Some q → q.peer ≡ p
    of i to (Starts k r) seen e = ap (λ (q : CoapRequest). q.peer) (sym (some-is r q e)) ∙ starts-peer l t p m i k r legal to seen
    of i to Unobserved seen e = absurd (none-some e)
    of i to Registers seen e = absurd (none-some e)
    of i to Updates seen e = absurd (none-some e)
    of i to Outdates seen e = absurd (none-some e)
    of i to Cancels seen e = absurd (none-some e)

    by : (to : Option ℕ) → answers l p m ≡ to → started_by (observation_of l t m to) ≡ Some q → q.peer ≡ p
    by None to e = absurd (none-some e)
    by (Some i) to e = of i to (observation_of l t m (Some i)) refl e

module _ (l : List Noted) (t : ℕ) (p : Peer) (d : List ℕ) (m : Content) (n : Numbers) (S : State) (h : MayHear l t p d S)
    (spelled : Spells m d) (none : repeated l t p m ≡ None) (room : can_be_remembered l t p m ≡ true) where
  abbrev x : Noted
  x = heard l t p d m

  abbrev link : LinkState
  link = link_of S.links p

  pub follows-so : Follows l t x.written.deed x.note
  follows-so = (h.come, h.short, h.known, record { spelled = spelled; unheard = none; remembered = room; says = refl })

  pub legal-so : Legal (x ∷ l)
  legal-so = (h.before.reads.legal, later-than l t S h.before, follows-so)

  -- what it leaves, where it is this to the exchanges
  pub record Left (k : Matter) : Type 0 where
    pub issued_are : h.before.reads.start.issued + issued (x ∷ l) ≡ issued_by k S.issued
    pub keys : open_exchanges (x ∷ l) ≡ map opening_of (exchanges_by S.entries n.token k S.exchanges)
    pub exchanges_are : AllByRecursion (ExchangeIn h.before.reads.start (x ∷ l)) (exchanges_by S.entries n.token k S.exchanges)
    pub pieces_are : PiecesIn (x ∷ l) (exchanges_by S.entries n.token k S.exchanges) (pieces_by (length S.entries) k S.pieces)
    pub stales_are : StalesIn (x ∷ l) (exchanges_by S.entries n.token k S.exchanges) (stales_by k S.stales)
    pub watches_are : map held_of (watches (x ∷ l)) ≡ watches_by t m S.entries k S.watches
    pub unnoticed : (q : Peer) → same_peer p q ≡ false → IsUnnoticed l x q
    pub store_is : StoreIn (x ∷ l) (store_by S.entries t k S.store)
    pub tokens_are : AllByRecursion (λ (f : FirstSending). token_number f.message.token < issued_by k S.issued) (firsts l)
    pub waiting_are : AllByRecursion (λ (e : Exchange). WaitsUnder (link_of (after t p d m n k S).links e.peer).waiting e) (exchanges_by S.entries n.token k S.exchanges)
    pub link_is : LinkHeeds h.before.reads.start l p x (due p m.mid (verdict_of t link m).reply) (link_with t (more_by n k) (heard_link t m.mid m.token (is_one_of (gone_by m S.entries k S.watches)) (verdict_of t link m) link))

  pub heeds-so : (k : Matter) → Left k → Heeds l x (due p m.mid (verdict_of t link m).reply) (after t p d m n k S)
  heeds-so k left =
      let r = h.before.reads in
      record {
        leads = record {
          follows = follows-so;
          reads = record {
            start = r.start;
            few = r.few;
            entries_are = ap (λ (es : List Written). es ++ record { moment = t; deed = Hears p d } ∷ []) r.entries_are;
            legal = legal-so;
            sealed_is = r.sealed_is;
            moment_is = moment-now l t S h.before;
            opened_are = r.opened_are;
            opens_are = r.opens_are;
            issued_are = left.issued_are;
            conns_are = r.conns_are;
            readers_are = r.readers_are;
            keys = left.keys;
            exchanges_are = left.exchanges_are;
            pieces_are = left.pieces_are;
            stales_are = left.stales_are;
            watches_are = left.watches_are;
            store_is = left.store_is;
            tokens_are = left.tokens_are;
            waiting_are = left.waiting_are;
            links_are = all-links (λ (q : Peer) (v : LinkState). Agrees r.start (x ∷ l) q v) p _ S.links left.link_is.agrees
                (λ q away. says-elsewhere _ l t q p (link_of S.links q) d m (answers l p m) _ (link-before l t S h.before q) away
                (λ i f to first. subst (λ (a : Peer). same_peer a q ≡ false) (sym (same_peer-same f.peer p (answers-peer l p m i f to first))) away)
                (λ r opens. subst (λ (a : Peer). same_peer a q ≡ false) (sym (started-peer l t p m r h.before.reads.legal opens)) away)
                (left.unnoticed q away));
          };
        };
        owes = left.link_is.owes;
      }
