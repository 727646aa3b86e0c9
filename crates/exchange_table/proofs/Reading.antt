-- Exchanges that an ask reads, and those that a notification outdates: they keep their names.
use Rattle.std.proofs.Common.{◌≡◌, ℕ, zero, suc, ◌<◌, Bool, true, false, cond, ◌&&◌, List, [], ◌∷◌, ◌++◌, length, Option, Some, None, map, take, drop, get_or, set, inl, inr, refl, sym, ap, ◌∙◌, arith}
use Rattle.std.specs.Option.{option_map_or}
use Rattle.std.proofs.lemmas.Bool.{cases_Bool, false≢true}
use Rattle.cache_key.specs.Keys.{CacheKey, same_key}
use Rattle.cache_key.proofs.CallerLemmas.{keys_decided}
use Rattle.ask_model.specs.Requests.{CoapRequest, Sense, Requests, Refuses}
use Rattle.ask_model.specs.Sharing.{asked_key, is_get, key_read}
use Rattle.journal_book.specs.Entries.{Written}
use Rattle.exchange_model.specs.declared.kept.Exchange.{Exchange}
use Rattle.exchange_model.specs.Steps.{read_at}
use Rattle.exchange_model.specs.Matters.{asked_in, is_reading, reads_key, request_in}
use Rattle.exchange_model.specs.Hearing.{outdated_by}
use Rattle.exchange_table.specs.Places.{IsNowhere, IsOnlyAt}
use Rattle.exchange_table.specs.Tables.{is_opened_at, name_of}
use Rattle.exchange_table.proofs.Standing.{map-none, map-only, only-is}
use Rattle.exchange_table.proofs.Searching.{none-some, some-is}

not-read : (t o : ℕ) (e : Exchange) → is_opened_at o e ≡ false → read_at t o e ≡ e
not-read t o e h = ap (λ (b : Bool). record e { asked = cond b t e.asked }) h

pub read-nowhere : (t o : ℕ) (es : List Exchange) → IsNowhere (is_opened_at o) es → map (read_at t o) es ≡ es
read-nowhere t o es h = map-none (is_opened_at o) (read_at t o) es (not-read t o) h

pub read-only : (t o : ℕ) (es : List Exchange) (i : ℕ) (d : Exchange) → IsOnlyAt (is_opened_at o) es i
    → map (read_at t o) es ≡ set es i (record (get_or es i d) { asked = t })
read-only t o es i d h = map-only (is_opened_at o) (read_at t o) es i d (not-read t o) h
    ∙ ap (set es i) (ap (λ (b : Bool). record (get_or es i d) { asked = cond b t (get_or es i d).asked }) (only-is (is_opened_at o) es i d h))

pub outdated-names : (ws : List Written) (key : CacheKey) (e : Exchange) → name_of (outdated_by ws key e) ≡ name_of e
outdated-names ws key e = by (option_map_or (reads_key key) (asked_in ws e.ask) false)
  where
    by : (b : Bool) → name_of (cond b (record e { newest = false }) e) ≡ name_of e
    by true = refl
    by false = refl

key-turned : (k l : CacheKey) → same_key k l ≡ same_key l k
key-turned k l = elim (cases_Bool (same_key k l)) [
  | inl h ↦ h ∙ sym ((keys_decided l k).1 (sym ((keys_decided k l).0 h)))
  | inr h ↦ elim (cases_Bool (same_key l k)) [
    | inl i ↦ absurd (false≢true (sym h ∙ (keys_decided k l).1 (sym ((keys_decided l k).0 i))))
    | inr i ↦ h ∙ sym i
  ]
]

-- what the request reads
reads-so : (sense : Sense) (read key : CacheKey) → Some read ≡ key_read sense
    → option_map_or (reads_key key) (request_in sense) false ≡ same_key key read
reads-so (Refuses cause status) read key e = absurd (none-some read (sym e))
reads-so (Requests q) read key e = by (is_get q) e
  where
    by : (b : Bool) → Some read ≡ cond b (Some (asked_key q)) None → (b && same_key (asked_key q) key) ≡ same_key key read
    by true h = key-turned (asked_key q) key ∙ ap (same_key key) (sym (some-is read (asked_key q) h))
    by false h = absurd (none-some read (sym h))

reads-none : (sense : Sense) (key : CacheKey) → None ≡ key_read sense → option_map_or (reads_key key) (request_in sense) false ≡ false
reads-none (Refuses cause status) key e = refl
reads-none (Requests q) key e = by (is_get q) e
  where
    by : (b : Bool) → None ≡ cond b (Some (asked_key q)) None → (b && same_key (asked_key q) key) ≡ false
    by true h = absurd (none-some (asked_key q) h)
    by false h = refl

pub is-read : (ws : List Written) (key read : CacheKey) (e : Exchange) (sense : Sense) (b : Bool)
    → request_in sense ≡ asked_in ws e.ask → Some read ≡ key_read sense → same_key key read ≡ b
    → b ≡ is_reading ws key e
is-read ws key read e sense b is at so =
    sym so ∙ sym (reads-so sense read key at) ∙ ap (λ (q : Option CoapRequest). option_map_or (reads_key key) q false) is

pub is-not-read : (ws : List Written) (key : CacheKey) (e : Exchange) (sense : Sense)
    → request_in sense ≡ asked_in ws e.ask → None ≡ key_read sense → false ≡ is_reading ws key e
is-not-read ws key e sense is none =
    sym (reads-none sense key none) ∙ ap (λ (q : Option CoapRequest). option_map_or (reads_key key) q false) is

-- One more of a list is mapped in its place.
pub mapped-more : {X : Type 0} (f : X → X) (old : List X) (i : ℕ) (d : X) → i < length old
    → set (map f (take i old) ++ drop i old) i (f (get_or (map f (take i old) ++ drop i old) i d)) ≡ map f (take (suc i) old) ++ drop (suc i) old
mapped-more f [] i d h = absurd (omega (arith, h))
mapped-more f (x ∷ xs) zero d h = refl
mapped-more f (x ∷ xs) (suc i) d h = ap (λ (ys : List _). f x ∷ ys) (mapped-more f xs i d (omega (arith, h)))
