-- What is observed, as the request of an ask and the end of exchanges change it.
use Rattle.std.specs.Prelude.{ℕ, Bool, false, ◌&&◌, ◌||◌, List, length, nat_lt}
use Rattle.observe_share.specs.declared.registration.Registration.{Registration}
use Rattle.observe_share.specs.Watches.{is_idle, without}
use Rattle.ask_model.specs.Requests.{Sense, Requests, Refuses}
use Rattle.ask_model.specs.Observing.{may_observe}
use Rattle.ask_model.specs.Sharing.{is_get}
use Rattle.ask_model.specs.Views.{Rules}
use Rattle.journal_book.specs.Entries.{Written}
use Rattle.history_laws.specs.Observing.{most_watches}
use Rattle.exchange_model.specs.declared.kept.Exchange.{Exchange}
use Rattle.exchange_model.specs.Hearing.{is_written_late}
use Rattle.exchange_model.specs.Watching.{is_renewed_by}

-- A request that opens an exchange ends what it observes.
abbrev pub is_renewed_for : Sense → Registration → Bool
is_renewed_for (Requests q) r = is_renewed_by q r
is_renewed_for (Refuses cause status) r = false

-- It is a GET, and fewer others are observed than may be.
abbrev pub may_watch : Sense → List Registration → Bool
may_watch (Requests q) rs =
    is_get q && nat_lt (length (without (is_renewed_by q) rs)) most_watches
may_watch (Refuses cause status) rs = false

-- Its server may be observed.
abbrev pub observed_by : Rules → Sense → Bool
observed_by s (Requests q) = may_observe s q
observed_by s (Refuses cause status) = false

-- A tick ends it, at which these exchanges end.
abbrev pub is_unwatched_by : ℕ → List Written → List Exchange → Registration → Bool
is_unwatched_by t ws over r = is_idle t r || is_written_late ws over r
