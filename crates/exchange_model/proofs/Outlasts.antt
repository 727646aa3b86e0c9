-- Whether a write has outrun what an exchange asks about.
use Rattle.std.proofs.Common.{◌≡◌, inl, inr, ℕ, ◌<◌, Bool, true, false, List, Some, refl, sym, ap, subst, ◌∙◌, arith}
use Rattle.std.proofs.lemmas.Bool.{false≢true, ltb-true, ltb-false}
use Rattle.std.proofs.Common.{ltb}
use Rattle.std.proofs.lemmas.Bool.Decides.{eqb_tells}
use Rattle.cache_key.specs.declared.place.Place.{Place}
use Rattle.resp_cache.specs.Stored.{Stored}
use Rattle.ask_model.specs.Sharing.{asked_place}
use Rattle.ask_model.specs.Views.{Ask}
use Rattle.journal_book.specs.Entries.{Asks}
use Rattle.history_laws.specs.Readings.{Noted, Note, at, before, noted}
use Rattle.history_laws.specs.Progress.{Ending}
use Rattle.history_laws.specs.Exchanges.{Begun, begun, end_here, end_of, kept, turn, heard_for}
use Rattle.history_laws.specs.Joining.{outrun}
use Rattle.history_laws.specs.Justified.{Legal}
use Rattle.history_laws.proofs.CallerLemmas.{begun-before, begun-below, end-before, ended-begun, ends-first, is-outrun, legal-before, none-some, outran, Outran, RenewsFor, some-is, stored-unoutrun}
use Rattle.exchange_model.proofs.Renewals.{kept-since}

-- No exchange ends by an ask.
asks-end-none : (l : List Noted) (o t c : ℕ) (a : Ask) (note : Note) (w : ℕ) (how : Ending) → at l o ≡ Some (noted t (Asks c a) note)
    → end_of l w ≡ Some (record { number = o; how = how }) → ⊥
asks-end-none l o t c a note w how stands ended =
    let it = ends-first l w o how ended in
    let same : it.0 ≡ noted t (Asks c a) note = some-is _ _ (sym it.1 ∙ stands) in
    none-some how (subst (λ (y : Noted). end_here (begun (before l o) w) (kept (before l o) w) o (heard_for (before l o) w) (turn (before l o) w y) ≡ Some how) same it.3)

-- What an exchange asks about is outrun just where the exchange is.
pub outrun-as : (l : List Noted) (o : ℕ) (b : Begun) (s : Stored) → Legal l → begun l o ≡ Some b → RenewsFor l o b s
    → outrun l (asked_place b.request) s.opening ≡ outrun l (asked_place b.request) o
outrun-as l o b s legal opened it = by (outrun l place s.opening) refl (outrun l place o) refl
  where
    place : Place
    place = asked_place b.request

    since : s.opening < o
    since = kept-since l o b s legal it

    later : Outran l place o → outrun l place s.opening ≡ true
    later h = is-outrun l place s.opening (record {
      opening = h.opening;
      write = h.write;
      opened = h.opened;
      changes = h.changes;
      end = h.end;
      ended = h.ended;
      later = (let a = h.later in let c = since in omega (arith, a, c));
    })

    -- A write that ended between the two would have outrun what was stored.
    between : (h : Outran l place s.opening) → h.end.number < o → ⊥
    between h lt =
        let below = begun-below l o b opened in
        let ended = end-before l o h.opening h.end below h.ended lt in
        let was = ended-begun (before l o) h.opening h.end (legal-before l o legal) ended in
        let same : was.0 ≡ h.write = some-is _ _ (sym (begun-before l o h.opening was.0 was.1) ∙ h.opened) in
        let over = is-outrun (before l o) place s.opening (record {
          opening = h.opening;
          write = h.write;
          opened = was.1 ∙ ap (λ (v : Begun). Some v) same;
          changes = h.changes;
          end = h.end;
          ended = ended;
          later = h.later;
        }) in
        false≢true (sym (ap (λ (v : Stored). outrun (before l o) place v.opening) it.pieces ∙ stored-unoutrun (before l o) b.request it.stored (legal-before l o legal) it.is) ∙ over)

    earlier : Outran l place s.opening → outrun l place o ≡ true
    earlier h = order (ltb h.end.number o) refl
      where
        at-it : h.end.number ≡ o → ⊥
        at-it same =
            asks-end-none l o b.since it.conn it.ask _ h.opening h.end.how it.stands
            (h.ended ∙ ap (λ (n : ℕ). Some (record { number = n; how = h.end.how })) same)

        order : (c : Bool) → ltb h.end.number o ≡ c → outrun l place o ≡ true
        order true lt = absurd (between h (ltb-true h.end.number o lt))
        order false ge = elim (eqb_tells h.end.number o) [
          | inl w ↦ absurd (at-it w.1)
          | inr w ↦ is-outrun l place o (record {
            opening = h.opening;
            write = h.write;
            opened = h.opened;
            changes = h.changes;
            end = h.end;
            ended = h.ended;
            later = (let le = ltb-false h.end.number o ge in let other = w.1 in omega (arith, le, other));
          })
        ]

    by : (c : Bool) → outrun l place s.opening ≡ c → (d : Bool) → outrun l place o ≡ d → c ≡ d
    by true e true f = refl
    by false e false f = refl
    by false e true f = sym e ∙ later (outran l place o f)
    by true e false f = sym (earlier (outran l place s.opening e)) ∙ f
