-- What a datagram was judged as, before anything is done by it.
use Rattle.std.specs.Prelude.{◌≡◌, ℕ, List, [], ◌∷◌, length}
use Rattle.std.specs.List.{AllByRecursion}
use Rattle.coap_codec.specs.Spelling.{content}
use Rattle.coap_codec.specs.declared.message.Message.{Message}
use Rattle.uri_map.specs.declared.peer.Peer.{Peer}
use Rattle.journal_book.specs.Entries.{Written}
use Rattle.message_layer.specs.Values.{LinkValue, response, told}
use Rattle.message_layer.specs.Prepared.{IsHearing}
use Rattle.message_layer.specs.declared.prepared.Heeding.{Heeding}
use Rattle.message_layer.specs.declared.state.Up.{Up}
use Rattle.message_layer.specs.declared.state.Up.TheVariants as U
use Rattle.observe_share.specs.declared.notice.Notice.{Notice}
use Rattle.observe_share.specs.Watches.{without}
use Rattle.history_laws.specs.Observing.{notice_in}
use Rattle.history_laws.specs.Progress.{Ending}
use Rattle.exchange_model.specs.declared.kept.Exchange.{Exchange}
use Rattle.exchange_model.specs.declared.kept.Reader.{Reader}
use Rattle.exchange_model.specs.State.{State}
use Rattle.exchange_model.specs.Matters.{asked_in}
use Rattle.exchange_model.specs.Watching.{is_written_by}
use Rattle.exchange_model.specs.Entering.{Effect}
use Rattle.exchange_progress.specs.declared.coming.Coming.{Coming}
use Rattle.exchange_progress.specs.declared.coming.Ended.{Ended}
use Rattle.exchange_progress.specs.Coming.{IsEnded}
use Rattle.exchange_core.specs.declared.matter.Matter.{Matter as RustMatter}
use Rattle.exchange_core.specs.declared.matter.Matter.TheVariants as M
use Rattle.exchange_core.specs.Ending.{IsTold}
use Rattle.exchange_core.specs.Matters.{IsAnsweredSo, IsMatter, IsPrepared, answer_in, readers_told}
use Rattle.exchange_core.specs.Notifying.{matter_told, notice_told}

-- The link is prepared to heed it so; what it tells is noted so, and is this to the exchanges and to
-- what is observed, as it is prepared by this word.
pub record IsJudgedBy (t word : ℕ) (p : Peer) (d : List ℕ) (x : Heeding) (v : Notice) (k : RustMatter)
    (link : LinkValue) (S : State) : Type 0 where
  pub up : Up
  pub hears : IsHearing t d link (record { heeding = x; up = up })
  pub notice : v ≡ notice_told (told up)
  pub prepared : IsPrepared t word link x S k (matter_told t p x (told up) S)

pub record IsJudged (t : ℕ) (p : Peer) (d : List ℕ) (x : Heeding) (v : Notice) (k : RustMatter)
    (link : LinkValue) (S : State) : Type 0 where
  pub word : ℕ
  pub by : IsJudgedBy t word p d x v k link S

-- The exchange ends so, and nothing that is observed begins or ends by it but what its end as a
-- write says: nothing is awaited any more under its token.
pub record EndsAlone (e : Exchange) (ended : Ended) (x : Effect) (S : State) : Type 0 where
  pub matter : IsMatter (length S.entries) x.numbers (M.Over e ended) x.matter
  pub watches : without (is_written_by (asked_in S.entries e.ask)) S.watches ≡ x.watches
  pub gone : e.token ∷ [] ≡ x.gone

-- All who wait for the exchange asked, and are told what the entries say, those that are drafted
-- too.
pub record TellsAll (h drafted : List Written) (t : ℕ) (e : Exchange) (ended : Ended)
    (rs : List Reader) : Type 0 where
  pub number : ℕ
  pub how : Ending
  pub is : IsEnded number ended how
  pub told : AllByRecursion (IsTold h drafted t) (readers_told how number e rs)

-- The exchange comes so far by the datagram, which is noted so.
pub record IsComingBy (t : ℕ) (d : List ℕ) (link : LinkValue) (x : Heeding) (v : Notice)
    (e : Exchange) (coming : Coming) (S : State) : Type 0 where
  pub message : Message
  pub hears : IsHearing t d link (record { heeding = x; up = U.Response message })
  pub notice : v ≡ notice_in (content message)
  pub comes : IsAnsweredSo (length S.entries) e coming
      (answer_in (response (content message)) x.token S)
