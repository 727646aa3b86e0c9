-- An exchange that ends, and leaves all that is observed as it is.
use Rattle.std.proofs.Common.{◌≡◌, ℕ, Bool, false, cond, List, [], ◌∷◌, ◌++◌, Option, None, Result, Ok, Err, sym, ap, ◌∙◌}
use Rattle.std.specs.Prelude.{◌&&◌, filter, nat_lt, length}
use Rattle.coap_codec.specs.Spelling.{Content}
use Rattle.coap_codec.specs.Reading.{message_at}
use Rattle.coap_codec.specs.declared.fault.CodecFault.{CodecFault}
use Rattle.uri_map.specs.declared.peer.Peer.{Peer}
use Rattle.message_layer.specs.Values.{LinkValue, told}
use Rattle.message_layer.specs.Prepared.{IsHearing, IsRead}
use Rattle.message_layer.specs.declared.prepared.FirstSending.{FirstSending}
use Rattle.message_layer.specs.declared.prepared.Hearing.{Hearing}
use Rattle.message_layer.specs.declared.prepared.Heeding.{Heeding}
use Rattle.history_laws.specs.Hearing.{is_update}
use Rattle.history_laws.specs.Observing.{notice_in}
use Rattle.history_laws.specs.Progress.{Ending}
use Rattle.observe_share.specs.Watches.{without}
use Rattle.observe_share.specs.declared.registration.Registration.{Registration}
use Rattle.resp_cache.specs.declared.pair.Pair.{Pair}
use Rattle.exchange_model.specs.declared.kept.Exchange.{Exchange}
use Rattle.exchange_model.specs.declared.kept.Piece.{Piece}
use Rattle.exchange_model.specs.declared.kept.Stale.{Stale}
use Rattle.exchange_model.specs.State.{PeerLink, State, link_of, with_link}
use Rattle.exchange_model.specs.Matters.{Matter, Nothing, Over, asked_in, is_other, left_by}
use Rattle.exchange_model.specs.Hearing.{exchanges_by, gone_by, is_of_other, is_stale_of_other, issued_by, pieces_by, stales_by, store_by, watches_by}
use Rattle.exchange_model.specs.Entering.{Effect}
use Rattle.endpoint_table.specs.Tables.{heeds}
use Rattle.exchange_model.specs.Watching.{is_written_by, registers, registration_of, tokens_of}
use Rattle.exchange_progress.specs.declared.coming.Ended.{Ended}
use Rattle.exchange_core.specs.declared.matter.Matter.TheVariants as M
use Rattle.exchange_core.specs.Hearing.{first_number, note_next, tables_after}
use Rattle.exchange_core.specs.Judged.{EndsAlone}
use Rattle.exchange_core.specs.Matters.{IsPrepared, or_handed_in}
use Rattle.exchange_core.specs.Notifying.{matter_told}
use Rattle.exchange_core.proofs.Heard.{none-handed}
use Rattle.exchange_core.proofs.Heeds.{WatchedAs, nothing-is}

module _ (t word : ℕ) (p : Peer) (d : List ℕ) (S : State) (link : LinkValue) (h : Hearing) (e : Exchange) (ended : Ended) (i : IsHearing t d link h)
    (at : link.state ≡ link_of S.links p)
    (made : IsPrepared t word link h.heeding S (M.Over e ended) (matter_told t p h.heeding (told h.up) S)) where
  abbrev written : Registration → Bool
  written = is_written_by (asked_in S.entries e.ask)

  pub apart : e.observes ≡ false → tokens_of (is_written_by (asked_in S.entries e.ask)) S.watches ≡ []
      → WatchedAs t word p d S link h (M.Over e ended) i at made (without (is_written_by (asked_in S.entries e.ask)) S.watches) (e.token ∷ []) (message_at d)
  apart plain none = by (message_at d) i.is
    where
      over : matter_told t p h.heeding (told h.up) S ≡ Over e made.is.0
      over = made.is.1

      off : (m : Content) → registers m e S.watches ≡ false
      off m = ap (λ (b : Bool). b && (is_update (notice_in m) && (e.current && nat_lt (length S.watches) 64))) plain

      over-nothing : (how : Ending) → Over e how ≡ Nothing → ⊥
      over-nothing how k = cc

      by : (r : Result Content CodecFault) → IsRead t d link.state r h
          → WatchedAs t word p d S link h (M.Over e ended) i at made (without (is_written_by (asked_in S.entries e.ask)) S.watches) (e.token ∷ []) r
      by (Ok m) read = (
        sym (ap (λ (y : Matter). watches_by t m S.entries y S.watches) over
            ∙ ap (λ (b : Bool). without written (cond b (S.watches ++ registration_of t m e (asked_in S.entries e.ask)) S.watches)) (off m)),
        sym (ap (λ (y : Matter). gone_by m S.entries y S.watches) over
            ∙ (ap (λ (b : Bool). cond b [] (e.token ∷ []) ++ tokens_of written S.watches) (off m)
            ∙ ap (λ (ts : List (List ℕ)). (e.token ∷ []) ++ ts) none)),
      )
      by (Err f) read = absurd (over-nothing made.is.0 (sym over ∙ nothing-is t p d S link.state h f read))

-- what its end leaves of the tables
module _ (t : ℕ) (p : Peer) (h : Heeding) (e : Exchange) (ended : Ended) (x : Effect) (S : State) where
  abbrev pub left-by : Matter → Option FirstSending → List Registration → List (List ℕ) → State
  left-by y next ws gone = record S {
    issued = issued_by y S.issued;
    exchanges = note_next (first_number (length S.entries) h) next (exchanges_by S.entries x.numbers.token y S.exchanges);
    pieces = pieces_by (length S.entries) y S.pieces;
    stales = stales_by y S.stales;
    watches = ws;
    store = store_by S.entries t y S.store;
    links = with_link p (heeds t h None gone (link_of S.links p)) S.links;
  }

  pub tables-so : (k : EndsAlone e ended x S)
      → left-by (Over e k.matter.0) h.next (without (is_written_by (asked_in S.entries e.ask)) S.watches) (e.token ∷ []) ≡ tables_after t p h (M.Over e ended) x S
  tables-so k =
      let w = without (is_written_by (asked_in S.entries e.ask)) S.watches in
      let gone : List (List ℕ) = e.token ∷ [] in
      ap (λ (y : Matter). left-by y h.next w gone) (sym k.matter.1)
      ∙ (ap (λ (v : Option FirstSending). left-by x.matter v w gone) (sym (none-handed h.next))
      ∙ (ap (λ (ws : List Registration). left-by x.matter (or_handed_in h.next None) ws gone) k.watches
      ∙ ap (λ (ts : List (List ℕ)). left-by x.matter (or_handed_in h.next None) x.watches ts) k.gone))

  abbrev built : List Exchange → List Piece → List Stale → List Registration → List Pair → List PeerLink → State
  built es ps ss ws store ls = record S { exchanges = es; pieces = ps; stales = ss; watches = ws; store = store; links = ls }

  pub tables-by : EndsAlone e ended x S → (es : List Exchange) (ps : List Piece) (ss : List Stale) (ws : List Registration) (store : List Pair) (ls : List PeerLink)
      → es ≡ note_next (first_number (length S.entries) h) h.next (left_by S.entries (e ∷ []) (filter (is_other e.token) S.exchanges))
      → ps ≡ filter (is_of_other e) S.pieces → ss ≡ filter (is_stale_of_other e) S.stales
      → ws ≡ without (is_written_by (asked_in S.entries e.ask)) S.watches → store ≡ store_by S.entries t x.matter S.store
      → ls ≡ with_link p (heeds t h None (e.token ∷ []) (link_of S.links p)) S.links
      → (record S { exchanges = es; pieces = ps; stales = ss; watches = ws; store = store; links = ls }) ≡ tables_after t p h (M.Over e ended) x S
  tables-by k es ps ss ws store ls es-is ps-is ss-is ws-is store-is ls-is =
      let es1 = note_next (first_number (length S.entries) h) h.next (left_by S.entries (e ∷ []) (filter (is_other e.token) S.exchanges)) in
      let ps1 = filter (is_of_other e) S.pieces in
      let ss1 = filter (is_stale_of_other e) S.stales in
      let ws1 = without (is_written_by (asked_in S.entries e.ask)) S.watches in
      let store1 = store_by S.entries t (Over e k.matter.0) S.store in
      ap (λ (v : List Exchange). built v ps ss ws store ls) es-is
      ∙ (ap (λ (v : List Piece). built es1 v ss ws store ls) ps-is
      ∙ (ap (λ (v : List Stale). built es1 ps1 v ws store ls) ss-is
      ∙ (ap (λ (v : List Registration). built es1 ps1 ss1 v store ls) ws-is
      ∙ (ap (λ (v : List Pair). built es1 ps1 ss1 ws1 v ls) (store-is ∙ ap (λ (y : Matter). store_by S.entries t y S.store) k.matter.1)
      ∙ (ap (λ (v : List PeerLink). built es1 ps1 ss1 ws1 store1 v) ls-is ∙ tables-so k)))))
