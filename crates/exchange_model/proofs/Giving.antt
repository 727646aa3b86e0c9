-- Entries may be given out.
use Rattle.std.proofs.Common.{ℕ, List, arith}
use Rattle.journal_book.specs.Entries.{entry_size}
use Rattle.exchange_model.specs.State.{State}
use Rattle.exchange_model.specs.Reads.{Reads}
use Rattle.exchange_model.specs.Resting.{Rests}
use Rattle.exchange_model.specs.Keeping.{Kept}
use Rattle.exchange_model.specs.Room.{GivesFree, GivesKeeps, gives}
use Rattle.history_laws.specs.Readings.{Noted}
use Rattle.exchange_model.proofs.Behind.{fewer-behind, next-behind}
use Rattle.exchange_model.proofs.InRoom.{fits-from, fits-parts}

reads-still : (n : ℕ) (ks : List ℕ) (l : List Noted) (S : State) → Reads l S → Reads l (gives n ks S)
reads-still n ks l S r = record {
  start = r.start;
  few = r.few;
  entries_are = r.entries_are;
  legal = r.legal;
  sealed_is = r.sealed_is;
  moment_is = r.moment_is;
  opened_are = r.opened_are;
  opens_are = r.opens_are;
  issued_are = r.issued_are;
  conns_are = r.conns_are;
  readers_are = r.readers_are;
  keys = r.keys;
  exchanges_are = r.exchanges_are;
  pieces_are = r.pieces_are;
  stales_are = r.stales_are;
  watches_are = r.watches_are;
  store_is = r.store_is;
  tokens_are = r.tokens_are;
  waiting_are = r.waiting_are;
  links_are = r.links_are;
}

rests-still : (n : ℕ) (ks : List ℕ) (l : List Noted) (S : State) → Rests l S → Rests l (gives n ks S)
rests-still n ks l S r = record {
  reads = reads-still n ks l S r.reads;
  quiet = r.quiet;
  links = r.links;
  in_time = r.in_time;
  served = r.served;
  reading = r.reading;
}

kept-still : (n : ℕ) (ks : List ℕ) (S : State) → Kept S → Kept (gives n ks S)
kept-still n ks S k =
    record { reading = k.reading; rests = rests-still n ks k.reading S k.rests; mids = k.mids }

pub gives-keeps : GivesKeeps
gives-keeps n ks S k here =
    let parts = fits-parts S k.fit in
    let entries = parts.0 in
    let bytes = parts.1 in
    let fewer = fewer-behind entry_size S.given n S.entries in
    record {
      kept = kept-still n ks S k.kept;
      here = here;
      fit = fits-from (gives n ks S) (omega (arith, entries)) (omega (arith, bytes, fewer));
      short = k.short;
      apart = k.apart;
    }

pub gives-free : GivesFree
gives-free n ks S within =
    let bytes = next-behind entry_size S.given n S.entries in
    (omega (arith, within), omega (arith, bytes))
