use Rattle.std.proofs.Common.{◌≡◌, length, refl, rules, sym, ap, ◌∙◌, arith}
use Rattle.std.specs.Prelude.{count_by}
use Rattle.exchange_model.specs.Growing.{conns_with}
use Rattle.exchange_model.specs.Room.{has_asked}
use Rattle.exchange_model.specs.State.{State}
use Rattle.exchange_core.specs.Room.{fits_by}
use Rattle.exchange_core.specs.States.{state_of}
use Rattle.exchange_core.proofs.Waiting.{few-waiting, fits-so, room-fewer, room-none}
use Rattle.exchange_core.proofs.room.takes.Goals as goal

pub returns-then-has_room : goal.returns-then-has_room
returns-then-has_room g c = λ t.
    let S : State = state_of c.args.s.now in
    let d = c.args.draft.now in
    let n = count_by has_asked (conns_with S.conns (length S.entries) d.entries) in
    let count : c.len-count.result ≡ length S.conns =
    let k = c.len-count.ensures in let len = c.args.s.now.conns.ok.0 in omega (arith, k, len) in
    let few = few-waiting S d c.len.ensures.keep in
    let entries = c.saturating_add-entries.ensures in
    let bytes = c.saturating_add-bytes.ensures in
    sym (fits-so t S d c.saturating_add-entries.result c.saturating_add-bytes.result c.len-count.result c.bytes.result
    c.requires.unsealed c.len.ensures.keep c.requires.within
    (entries ∙ rw (c.held_len.ensures, c.len.ensures.len) refl) (bytes ∙ rw (c.requires.count) refl) c.bytes.ensures count
    ∙ room-fewer c.saturating_add-entries.result c.saturating_add-bytes.result c.len-count.result c.len-count.result n
    (omega (arith, few, count)) (sym c.has_room.ensures ∙ c.if-has_room.true))

pub returns-then-not-has_room : goal.returns-then-not-has_room
returns-then-not-has_room g c = λ t.
    let S : State = state_of c.args.s.now in
    let d = c.args.draft.now in
    let n = count_by has_asked (conns_with S.conns (length S.entries) d.entries) in
    let count : c.len-count.result ≡ length S.conns =
    let k = c.len-count.ensures in let len = c.args.s.now.conns.ok.0 in omega (arith, k, len) in
    let entries = c.saturating_add-entries.ensures in
    let bytes = c.saturating_add-bytes.ensures in
    sym (fits-so t S d c.saturating_add-entries.result c.saturating_add-bytes.result c.len-count.result c.bytes.result
    c.requires.unsealed c.len.ensures.keep c.requires.within
    (entries ∙ rw (c.held_len.ensures, c.len.ensures.len) refl) (bytes ∙ rw (c.requires.count) refl) c.bytes.ensures count
    ∙ room-none c.saturating_add-entries.result c.saturating_add-bytes.result c.len-count.result n
    (sym c.has_room-2.ensures ∙ c.if-not-has_room.true))

pub returns : goal.returns
returns g c = λ t.
    let S : State = state_of c.args.s.now in
    let d = c.args.draft.now in
    let n = count_by has_asked (conns_with S.conns (length S.entries) d.entries) in
    let count : c.len-count.result ≡ length S.conns =
    let k = c.len-count.ensures in let len = c.args.s.now.conns.ok.0 in omega (arith, k, len) in
    let entries = c.saturating_add-entries.ensures in
    let bytes = c.saturating_add-bytes.ensures in
    let copy : c.in_ok-conns.conns.items ≡ S.conns = search rules in
    let first : c.len-2.result ≡ length S.entries = c.len-2.ensures in
    let pending : c.pending_count-pending.result ≡ n =
    c.pending_count-pending.ensures ∙ rw (c.deref-2.ensures.value, c.note.ensures, copy, first) refl in
    c.has_room-3.ensures
    ∙ ap (fits_by c.saturating_add-entries.result c.saturating_add-bytes.result c.len-count.result) pending
    ∙ sym (fits-so t S d c.saturating_add-entries.result c.saturating_add-bytes.result c.len-count.result c.bytes.result
    c.requires.unsealed c.len.ensures.keep c.requires.within
    (entries ∙ rw (c.held_len.ensures, c.len.ensures.len) refl) (bytes ∙ rw (c.requires.count) refl) c.bytes.ensures count)
