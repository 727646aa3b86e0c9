-- Asks that can be read, where the exchanges change in other ways.
use Rattle.std.proofs.Common.{◌≡◌, Bool, true, false, cond, List, [], ◌∷◌, map, subst, sym, refl}
use Rattle.std.specs.List.{AllByRecursion}
use Rattle.std.specs.Option.{option_map_or}
use Rattle.cache_key.specs.Keys.{CacheKey}
use Rattle.ask_model.specs.Requests.{CoapRequest}
use Rattle.journal_book.specs.Entries.{Written}
use Rattle.journal_book.specs.Journals.{IsHere}
use Rattle.exchange_model.specs.declared.kept.Exchange.{Exchange}
use Rattle.exchange_model.specs.Matters.{asked_in, reads_key}
use Rattle.exchange_model.specs.Hearing.{outdated_by}
use Rattle.std.specs.Prelude.{ℕ, Option}
use Rattle.exchange_table.specs.declared.marks.Mark.{Mark}
use Rattle.exchange_table.specs.Asks.{IsAskedHere}
use Rattle.exchange_table.specs.Outrunning.{outdates, outrun_with}
use Rattle.exchange_table.proofs.Among.{among, has_mark}

-- The ask stays.
abbrev pub KeepsAsk : (Exchange → Exchange) → Type 0
KeepsAsk f = (e : Exchange) → (f e).ask ≡ e.ask

pub outrun-asks : (w : Option CoapRequest) (ws : List Written) → KeepsAsk (outrun_with w ws)
outrun-asks w ws = λ e. by e (outdates w (asked_in ws e.ask))
  where
    by : (e : Exchange) (b : Bool) → (cond b (record e { current = false }) e).ask ≡ e.ask
    by e true = refl
    by e false = refl

pub outdated-asks : (ws : List Written) (key : CacheKey) → KeepsAsk (outdated_by ws key)
outdated-asks ws key = λ e. by e (option_map_or (reads_key key) (asked_in ws e.ask) false)
  where
    by : (e : Exchange) (b : Bool) → (cond b (record e { newest = false }) e).ask ≡ e.ask
    by e true = refl
    by e false = refl

pub among-asks : (ms : List Mark) (f : Exchange → Exchange) → KeepsAsk f → KeepsAsk (among ms f)
among-asks ms f keeps = λ e. by e (has_mark ms e)
  where
    by : (e : Exchange) (b : Bool) → (cond b (f e) e).ask ≡ e.ask
    by e true = keeps e
    by e false = refl

pub here-map : (given : ℕ) (kept : List ℕ) (f : Exchange → Exchange) → KeepsAsk f
    → (es : List Exchange) → AllByRecursion (IsAskedHere given kept) es
    → AllByRecursion (IsAskedHere given kept) (map f es)
here-map given kept f keeps [] h = tt
here-map given kept f keeps (e ∷ es) h = (
  subst (λ (n : ℕ). IsHere given kept n) (sym (keeps e)) h.0,
  here-map given kept f keeps es h.1,
)
