-- What is kept of a core before its first step.
use Rattle.std.proofs.Common.{[], refl, arith}
use Rattle.exchange_model.specs.Keeping.{StartKeeps}
use Rattle.exchange_model.proofs.Stores.{no-store}

pub start-keeps : StartKeeps
start-keeps = record {
  reading = [];
  rests = record {
    reads = record {
      start = record { moment = 0; issued = 0; opened = 0 };
      few = (omega arith, omega arith);
      entries_are = refl;
      legal = tt;
      sealed_is = refl;
      moment_is = refl;
      opened_are = omega arith;
      opens_are = refl;
      issued_are = refl;
      conns_are = refl;
      readers_are = refl;
      keys = refl;
      exchanges_are = tt;
      pieces_are = record { fetched = tt; below = tt };
      stales_are = record { kept = tt; below = tt };
      watches_are = refl;
      store_is = no-store [] refl (λ o. refl);
      tokens_are = tt;
      waiting_are = tt;
      links_are = λ p. record { turn = refl; known = refl; last = λ t later. tt; count_up = λ t later. tt; given = λ t later. refl; waits = tt; awaits = λ token. refl; acks = λ mid token. refl; heard = record { repeats = λ t mid later. refl; live = λ t later. refl } };
    };
    quiet = refl;
    links = λ p. refl;
    in_time = tt;
    served = tt;
    reading = tt;
  };
  mids = λ p. record { small = tt; enough = omega arith };
}
