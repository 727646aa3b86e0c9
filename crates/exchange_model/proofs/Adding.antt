-- What each entry takes of a journal's room.
use Rattle.std.proofs.Common.{◌≡◌, ℕ, ◌+◌, ◌*◌, ◌≤◌, cond, eqb, List, [], ◌∷◌, ◌++◌, drop, length, Option, Some, None, refl, ap, ◌∙◌, arith, length-append}
use Rattle.std.specs.Prelude.{count_by, sum_by}
use Rattle.std.proofs.lemmas.List.{length-map}
use Rattle.uri_map.specs.declared.peer.Peer.{Peer}
use Rattle.journal_book.specs.Entries.{Grounds, grounds_size, Written, entry_size}
use Rattle.message_layer.specs.Hearing.{replies}
use Rattle.message_layer.specs.declared.state.Outstanding.{Outstanding}
use Rattle.message_layer.specs.declared.state.Reply.{Reply}
use Rattle.message_layer.specs.declared.state.Reply.TheVariants as R
use Rattle.message_layer.specs.declared.state.Waiting.{Waiting}
use Rattle.exchange_model.specs.declared.kept.Conn.{Conn}
use Rattle.exchange_model.specs.State.{State, link_of}
use Rattle.exchange_model.specs.Steps.{answers, sends_first, sends_copy}
use Rattle.exchange_model.specs.Resting.{HasConn}
use Rattle.exchange_model.specs.Calls.{next_by, next, given_back}
use Rattle.exchange_model.specs.Room.{has_asked, asks_waiting, seals_left, entries_taken, bytes_taken}
use Rattle.exchange_model.proofs.Behind.{push-behind}
use Rattle.exchange_model.proofs.Tidy.{Tidy, short-link, tidy-with, short-first, short-copy}
use Rattle.exchange_model.proofs.Waiting.{answers-fewer}

-- At most so many entries and bytes more are taken, with what is held free.
pub record Adds (n b : ℕ) (S S1 : State) : Type 0 where
  pub sealed : S1.sealed ≡ S.sealed
  pub entries : entries_taken S1 ≤ entries_taken S + n
  pub bytes : bytes_taken S1 ≤ bytes_taken S + b
  pub tidy : Tidy S1.links

pub stays : (n b : ℕ) (S : State) → Tidy S.links → Adds n b S S
stays n b S h = record { sealed = refl; entries = omega arith; bytes = omega arith; tidy = h }

pub both-add : (n b m c : ℕ) (S S1 S2 : State) → Adds n b S S1 → Adds m c S1 S2
    → Adds (n + m) (b + c) S S2
both-add n b m c S S1 S2 x y =
    let e = x.entries in
    let f = y.entries in
    let g = x.bytes in
    let h = y.bytes in
    record {
      sealed = y.sealed ∙ x.sealed;
      entries = omega (arith, e, f);
      bytes = omega (arith, g, h);
      tidy = y.tidy;
    }

pub at-most : (n b m c : ℕ) (S S1 : State) → n ≤ m → b ≤ c → Adds n b S S1 → Adds m c S S1
at-most n b m c S S1 le lt x =
    let e = x.entries in
    let g = x.bytes in
    record {
      sealed = x.sealed;
      entries = omega (arith, e, le);
      bytes = omega (arith, g, lt);
      tidy = x.tidy;
    }

-- an entry, after which so many connections are open, and so many of them wait
pub counted : (n b : ℕ) (S S1 : State) (w : Written) → S1.entries ≡ S.entries ++ w ∷ []
    → S1.given ≡ S.given → S1.sealed ≡ S.sealed → Tidy S1.links
    → length S1.conns + asks_waiting S1 + 1 ≤ length S.conns + asks_waiting S + n
    → 64 * length S1.conns + 90000 * asks_waiting S1 + entry_size w ≤ 64 * length
    S.conns + 90000 * asks_waiting S + b
    → Adds n b S S1
counted n b S S1 w is given same tidy more_entries more_bytes =
    let longer = ap length is ∙ length-append S.entries (w ∷ []) in
    let behind = ap (λ (k : ℕ). sum_by entry_size (drop k S1.entries)) given
    ∙ ap (λ (ws : List Written). sum_by entry_size (drop S.given ws)) is in
    let larger = push-behind entry_size S.given S.entries w in
    let seal = ap seals_left same in
    record {
      sealed = same;
      entries = omega (arith, longer, given, seal, more_entries);
      bytes = omega (arith, behind, larger, seal, more_bytes);
      tidy = tidy;
    }

-- one that is nothing to the connections
pub still-adds : (b : ℕ) (S S1 : State) (w : Written) → S1.entries ≡ S.entries ++ w ∷ []
    → S1.given ≡ S.given → S1.sealed ≡ S.sealed → S1.conns ≡ S.conns → Tidy S1.links → entry_size w ≤ b → Adds 1 b S S1
still-adds b S S1 w is given same conns tidy size =
    let all = ap (λ (cs : List Conn). length cs) conns in
    let waiting = ap (count_by has_asked) conns in
    counted 1 b S S1 w is given same tidy (omega (arith, all, waiting))
    (omega (arith, all, waiting, size))

-- an ACK or RST
pub given-adds : (t : ℕ) (p : Peer) (mid : ℕ) (r : Reply) (S : State) → Tidy S.links
    → Adds 1 68 S (given_back t p (replies mid r) S)
given-adds t p mid R.Nothing S h = stays 1 68 S h
given-adds t p mid R.Ack S h = still-adds 68 S _ _ refl refl refl refl h (omega arith)
given-adds t p mid R.Rst S h = still-adds 68 S _ _ refl refl refl refl h (omega arith)

-- a message, or a copy
pub next-adds : (t : ℕ) (p : Peer) (S : State) → Tidy S.links → Adds 1 2088 S (next t p S)
next-adds t p S h = by (link_of S.links p).outstanding (link_of S.links p).waiting refl
  where
    by : (v : Option Outstanding) (ws : List Waiting) → (link_of S.links p).waiting ≡ ws
        → Adds 1 2088 S (next_by t p v ws S)
    by None [] is = stays 1 2088 S h
    by (Some o) ws is = stays 1 2088 S h
    by None (w ∷ ws) is =
        let short = short-first t (link_of S.links p) w ws (short-link S.links p h.short) is in
        let size = short.0 in
        still-adds 2088 S (sends_first t p w ws S) _ refl refl refl refl
        (tidy-with p _ S.links h short.1) (omega (arith, size))

pub copy-adds : (t : ℕ) (p : Peer) (o : Outstanding) (S : State) → Tidy S.links
    → (link_of S.links p).outstanding ≡ Some o → Adds 1 2088 S (sends_copy t p o S)
copy-adds t p o S h is =
    let short = short-copy t (link_of S.links p) o (short-link S.links p h.short) is in
    let size = short.0 in
    still-adds 2088 S (sends_copy t p o S) _ refl refl refl refl (tidy-with p _ S.links h short.1)
    (omega (arith, size))

-- An answer was held free.
pub answers-adds : (t c k : ℕ) (g : Grounds) (S : State) → Tidy S.links → HasConn S.conns c (Some k)
    → grounds_size g ≤ 16392 → Adds 0 0 S (answers t c k g S)
answers-adds t c k g S h has small =
    let all = length-map S.conns
    (λ (x : Conn). cond (eqb x.id c) (record x { pending = None }) x) in
    let fewer = answers-fewer c k S.conns has in
    counted 0 0 S (answers t c k g S) _ refl refl refl h (omega (arith, all, fewer))
    (omega (arith, all, fewer, small))
