-- What a datagram leaves of a core.
use Rattle.std.specs.Prelude.{◌≡◌, ℕ, ◌+◌, ◌&&◌, ◌||◌, Bool, true, not, is_some, List, ◌∷◌, ◌++◌, length, map, Option, Some, None, option_to_list}
use Rattle.std.specs.List.{list_any}
use Rattle.uri_map.specs.declared.peer.Peer.{Peer}
use Rattle.journal_book.specs.Entries.{Deed, Hears, Written}
use Rattle.message_layer.specs.Hearing.{listed}
use Rattle.message_layer.specs.declared.prepared.FirstSending.{FirstSending}
use Rattle.message_layer.specs.declared.prepared.Heeding.{Heeding}
use Rattle.observe_share.specs.declared.registration.Registration.{Registration}
use Rattle.observe_share.specs.declared.notice.Notice.{Notice}
use Rattle.observe_share.specs.Watches.{noticed, without}
use Rattle.history_laws.specs.Progress.{Progress}
use Rattle.exchange_model.specs.declared.kept.Exchange.{Exchange}
use Rattle.exchange_model.specs.declared.kept.Piece.{Piece}
use Rattle.exchange_model.specs.State.{State, link_of, with_link}
use Rattle.exchange_model.specs.Steps.{went_out}
use Rattle.exchange_model.specs.Matters.{Matter, Goes, asked_in, is_piece_of}
use Rattle.exchange_model.specs.Hearing.{exchanges_by, got_by, issued_by, newest_by, pieces_by, stales_by, store_by}
use Rattle.exchange_model.specs.Calls.{told_for}
use Rattle.exchange_model.specs.Entering.{Effect, answer_of, confirm, entered_all}
use Rattle.exchange_model.specs.Watching.{is_written_by}
use Rattle.endpoint_table.specs.Tables.{heeds}
use Rattle.exchange_table.specs.Tables.{IsLatest, IsNewest}
use Rattle.exchange_core.specs.declared.matter.Matter.{Matter as RustMatter}
use Rattle.exchange_core.specs.declared.matter.Matter.TheVariants as M
use Rattle.exchange_core.specs.declared.matter.Going.{Going}
use Rattle.exchange_core.specs.declared.notifying.Watching.{Watching}
use Rattle.exchange_core.specs.Drafts.{DraftValue}
use Rattle.exchange_core.specs.Matters.{IsMatter, more_in, next_in}
use Rattle.exchange_core.specs.Sending.{sent_first}
use Rattle.exchange_core.specs.States.{with_draft}

-- The message that went out next, in the entry with this number, is that of its exchange.
abbrev pub note_next : ℕ → Option FirstSending → List Exchange → List Exchange
note_next n None es = es
note_next n (Some x) es = map (went_out x.message.token n) es

abbrev pub first_number : ℕ → Heeding → ℕ
first_number n x = n + 1 + length (listed x.reply)

-- what the link says: the datagram came, it is answered, and the next message goes out
abbrev pub link_deeds : Peer → List ℕ → Heeding → Option FirstSending → List Deed
link_deeds p d x next = Hears p d ∷ (map (confirm p) (listed x.reply) ++ sent_first p next)

-- all that the datagram brings, which is this to the exchanges
abbrev pub hearing_deeds : Peer → List ℕ → Heeding → Option FirstSending → Matter → State
    → List Deed
hearing_deeds p d x next matter S =
    link_deeds p d x next ++ map answer_of (told_for (length S.entries) matter S.readers)

-- The token of a next message was issued after those of all others; an exchange that begins is the
-- latest.
abbrev pub IsNewestIn : RustMatter → List Exchange → Type 0
IsNewestIn (M.Goes g) es = IsNewest g.token es
IsNewestIn (M.Starts s) es = IsLatest s.going.exchange es
IsNewestIn k es = Unit {0}

-- There is room for the exchange that begins, if one does.
abbrev pub HasRoomFor : RustMatter → Bool → Type 0
HasRoomFor (M.Starts s) room = room ≡ true
HasRoomFor k room = Unit {0}

-- An exchange goes on by the first of its replies.
abbrev pub is_first : List Piece → Going → Bool
is_first xs g = is_some g.onward.block && not (list_any (is_piece_of g.exchange.opening) xs)

abbrev pub IsFirstBy : Bool → Progress → Type 0
IsFirstBy first progress = (old : Bool) → newest_by (got_by progress) old ≡ first || old

abbrev pub IsFirstSo : List Piece → RustMatter → Matter → Type 0
IsFirstSo xs (M.Goes g) (Goes e progress) = IsFirstBy (is_first xs g) progress
IsFirstSo xs k matter = Unit {0}

-- What is observed after it, of which this is registered.
abbrev pub watches_after :
    ℕ → List Written → Notice → RustMatter → Option Registration → List Registration
    → List Registration
watches_after t ws notice M.Nothing more rs = rs
watches_after t ws notice (M.Tells k) more rs = noticed k.token notice t rs
watches_after t ws notice (M.Starts s) more rs = noticed s.watch notice t rs
watches_after t ws notice (M.Goes g) more rs = rs ++ option_to_list more
watches_after t ws notice (M.Over e ended) more rs =
    without (is_written_by (asked_in ws e.ask)) (rs ++ option_to_list more)

-- It is this: to the exchanges, and to what is observed.
pub record IsEffect (t : ℕ) (k : RustMatter) (w : Watching) (x : Effect) (S : State) : Type 0 where
  pub matter : IsMatter (length S.entries) x.numbers k x.matter
  pub first : IsFirstSo S.pieces k x.matter
  pub watches : watches_after t S.entries w.notice k w.more S.watches ≡ x.watches
  pub gone : w.gone.items ≡ x.gone

-- the tables after it, and then what was drafted for it
abbrev pub tables_after : ℕ → Peer → Heeding → RustMatter → Effect → State → State
tables_after t p h k x S = record S {
  issued = issued_by x.matter S.issued;
  exchanges =
      note_next (first_number (length S.entries) h) (next_in h k)
      (exchanges_by S.entries x.numbers.token x.matter S.exchanges);
  pieces = pieces_by (length S.entries) x.matter S.pieces;
  stales = stales_by x.matter S.stales;
  watches = x.watches;
  store = store_by S.entries t x.matter S.store;
  links = with_link p (heeds t h (more_in k) x.gone (link_of S.links p)) S.links;
}

abbrev pub with_heard : ℕ → Peer → Heeding → RustMatter → Effect → DraftValue → State → State
with_heard t p h k x d S = with_draft t d (tables_after t p h k x S)

-- the state after it
abbrev pub hearing_state : ℕ → Peer → List ℕ → Heeding → RustMatter → Effect → State → State
hearing_state t p d h k x S =
    let S1 = entered_all t (hearing_deeds p d h (next_in h k) x.matter S) S in
    let S2 = tables_after t p h k x S in record S1 {
      issued = S2.issued;
      exchanges = S2.exchanges;
      pieces = S2.pieces;
      stales = S2.stales;
      watches = S2.watches;
      store = S2.store;
      links = S2.links;
    }
