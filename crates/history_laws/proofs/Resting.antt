-- A history is at rest where its tests say so.
use Rattle.std.proofs.Common.{◌≡◌, Bool, true, false, ◌&&◌, List, Option, Some, None, refl}
use Rattle.std.specs.Prelude.{is_none}
use Rattle.std.specs.List.{list_all, range_with_len}
use Rattle.std.proofs.lemmas.Bool.{false≢true}
use Rattle.history_laws.specs.Readings.{Noted}
use Rattle.history_laws.specs.Connections.{is_sealed, opened}
use Rattle.history_laws.specs.Transmissions.{firsts}
use Rattle.history_laws.specs.Exchanges.{open_exchanges}
use Rattle.history_laws.specs.Confirming.{owed}
use Rattle.history_laws.specs.Justified.{AtRest, MayCome, is_in_hand, is_under_way, is_done, is_in_time, is_asked_for}
use Rattle.history_laws.specs.Observing.{watches}

pub and-left : (a b : Bool) → (a && b) ≡ true → a ≡ true
and-left true b e = refl
and-left false b e = absurd (false≢true e)

pub and-right : (a b : Bool) → (a && b) ≡ true → b ≡ true
and-right true b e = e
and-right false b e = absurd (false≢true e)

pub none-of : {X : Type 0} (o : Option X) → is_none o ≡ true → o ≡ None
none-of None e = refl
none-of (Some x) e = absurd (false≢true e)

pub record Each (a b c d e f : Bool) : Type 0 where
  pub waits : a ≡ true
  pub given : b ≡ true
  pub sent : c ≡ true
  pub copied : d ≡ true
  pub ended : e ≡ true
  pub forgotten : f ≡ true

each : (a b c d e f : Bool) → (a && (b && (c && (d && (e && f))))) ≡ true → Each a b c d e f
each a b c d e f h =
    let h1 = and-right a (b && (c && (d && (e && f)))) h in
    let h2 = and-right b (c && (d && (e && f))) h1 in
    let h3 = and-right c (d && (e && f)) h2 in
    let h4 = and-right d (e && f) h3 in
    record {
      waits = and-left a _ h;
      given = and-left b _ h1;
      sent = and-left c _ h2;
      copied = and-left d _ h3;
      ended = and-left e f h4;
      forgotten = and-right e f h4;
    }

-- the tests, one for each part
abbrev pub in_hand : List Noted → Bool
in_hand l = list_all (is_in_hand l) (range_with_len 0 (opened l))

abbrev pub under_way : List Noted → Bool
under_way l = list_all (is_under_way l) (open_exchanges l)

abbrev pub all_copied : List Noted → Bool
all_copied l = list_all (is_done l) (firsts l)

abbrev pub none_late : List Noted → Bool
none_late l = list_all (is_in_time l) (open_exchanges l)

abbrev pub none_idle : List Noted → Bool
none_idle l = list_all (is_asked_for l) (watches l)

abbrev pub rests : List Noted → Bool
rests l = in_hand l && (is_none (owed l) && (under_way l && (all_copied l && (none_late l && none_idle l))))

pub at-rest : (l : List Noted) → rests l ≡ true → AtRest l
at-rest l e =
    let h = each (in_hand l) (is_none (owed l)) (under_way l) (all_copied l) (none_late l) (none_idle l) e in
    record {
      waits = h.waits;
      given = λ s. none-of (owed l) h.given;
      sent = λ s. h.sent;
      copied = λ s. h.copied;
      ended = λ s. h.ended;
      forgotten = λ s. h.forgotten;
    }

pub may-come : (l : List Noted) → is_sealed l ≡ false → rests l ≡ true → MayCome l
may-come l s e = (s, at-rest l e)

pub some-is : {X : Type 0} (x y : X) → Some x ≡ Some y → x ≡ y
some-is x y e = cc

pub none-is : {X : Type 0} (x : X) → Some x ≡ None → ⊥
none-is x e = cc

pub none-some : {X : Type 0} (x : X) → None ≡ Some x → ⊥
none-some x e = cc
