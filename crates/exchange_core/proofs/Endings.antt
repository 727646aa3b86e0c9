-- Readers that are told, one after another.
use Rattle.std.proofs.Common.{◌≡◌, ℕ, ◌+◌, List, [], ◌∷◌, ◌++◌, length, Some, sym, ap, subst, ◌∙◌, append_assoc, length-append}
use Rattle.std.specs.Prelude.{slice_get}
use Rattle.std.specs.List.{AllByRecursion}
use Rattle.std.proofs.lemmas.List.{length-map, map-append}
use Rattle.history_laws.proofs.CallerLemmas.{all-more, all-push, got-last, got-more}
use Rattle.ask_model.specs.Requests.{Requests}
use Rattle.ask_model.specs.Views.{Ask}
use Rattle.journal_book.specs.Entries.{Deed, Asks, Answers, Written}
use Rattle.journal_book.specs.Views.{ask_of}
use Rattle.exchange_model.specs.State.{State}
use Rattle.exchange_core.specs.declared.ending.Telling.{Telling}
use Rattle.exchange_core.specs.Values.{written}
use Rattle.exchange_core.specs.Answering.{Given, IsFound, HasFormat, CountsFrom, IsGiven}
use Rattle.exchange_core.specs.Drafts.{DraftValue, Drafts, IsDrafted}
use Rattle.exchange_core.specs.Ending.{IsTold, IsAnswerTo, counted_moment, deed_of, given_to}
use Rattle.exchange_core.proofs.Stepping.{found-stays, format-stays, counts-stay, given-stay}

-- The entries after one more.
longer : (t : ℕ) (S : State) (ds : List Deed) (x : Deed) (d e : DraftValue) → Drafts t S ds d
    → Drafts t S (ds ++ x ∷ []) e
    → S.entries ++ e.entries ≡ (S.entries ++ d.entries) ++ written t x ∷ []
longer t S ds x d e a b =
    ap (λ es. S.entries ++ es)
    (b.entries ∙ map-append (written t) ds (x ∷ []) ∙ ap (λ es. es ++ written t x ∷ [])
    (sym a.entries))
    ∙ sym (append_assoc S.entries d.entries (written t x ∷ []))

-- Who is told is answered.
pub told-drafted : (t : ℕ) (S : State) (ds : List Deed) (x : Telling) (g : Given) (d e : DraftValue)
    → IsDrafted t S ds d
    → IsTold S.entries d.entries t x → IsAnswerTo S.entries t d.next x g
    → (g.number ≡ d.next → Drafts g.moment S ds d
    → Drafts g.moment S (ds ++ Answers g.conn g.ask g.found.grounds ∷ []) e)
    → e.answers ≡ d.answers ++ g ∷ []
    → IsDrafted t S (ds ++ deed_of x ∷ []) e
told-drafted t S ds x g d e h told is more answers = record {
  drafts = drafts;
  given = subst (AllByRecursion (IsGiven (S.entries ++ e.entries)))
      (sym (answers ∙ ap (λ (v : Given). d.answers ++ v ∷ []) is.is))
      (subst (λ (es : List Written). AllByRecursion (IsGiven es) (d.answers ++ made ∷ []))
      (sym all) (all-push (IsGiven longest) d.answers made
      (given-stay (S.entries ++ d.entries) (written t w ∷ []) d.answers h.given) one));
}
  where
    made : Given
    made = given_to S.entries t d.next x is.mapping

    w : Deed
    w = deed_of x

    longest : List Written
    longest = (S.entries ++ d.entries) ++ written t w ∷ []

    drafts : Drafts t S (ds ++ w ∷ []) e
    drafts = subst (λ (v : Given). Drafts v.moment S
        (ds ++ Answers v.conn v.ask v.found.grounds ∷ []) e) is.is
        (more (ap (λ (v : Given). v.number) is.is)
        (subst (λ (k : ℕ). Drafts k S ds d) (sym (ap (λ (v : Given). v.moment) is.is))
        h.drafts))

    all : S.entries ++ e.entries ≡ longest
    all = longer t S ds w d e h.drafts drafts

    place : length (S.entries ++ d.entries) ≡ d.next
    place =
        length-append S.entries d.entries ∙ ap (λ (k : ℕ). length S.entries + k)
        (ap length h.drafts.entries ∙ (length-map ds (written t))) ∙ sym h.drafts.next

    ask : ask_of is.mapping ≡ told.asked.ask
    ask = is.asked told.asked.moment x.reader.conn told.asked.ask told.asked.stands

    one : IsGiven longest made
    one = record {
      asked = told.asked.moment;
      ask_stands = got-more (S.entries ++ d.entries) (written t w ∷ []) x.reader.ask _
          (got-more S.entries d.entries x.reader.ask _
          (subst (λ (a : Ask). slice_get S.entries x.reader.ask
          ≡ Some (written told.asked.moment (Asks x.reader.conn a))) (sym ask) told.asked.stands));
      stands = subst (λ (k : ℕ). slice_get longest k ≡ Some (written t w)) place
          (got-last (S.entries ++ d.entries) (written t w) []);
      found = subst (IsFound longest x.finding.told x.finding.grounds)
          (sym (ap (λ (v : Ask). v.sense) ask ∙ told.asked.sense))
          (found-stays (S.entries ++ d.entries) (written t w ∷ []) x.finding.told
          x.finding.grounds (Requests told.asked.request) told.found);
      format = format-stays (S.entries ++ d.entries) (written t w ∷ []) x.finding.told x.finding.grounds told.format;
      counts = counts-stay (S.entries ++ d.entries) (written t w ∷ []) x.finding.grounds t
          (counted_moment S.entries t x) told.counts;
    }

-- What is told is so still where more is drafted.
told-stays : (h more ws : List Written) (t : ℕ) (x : Telling) → IsTold h more t x
    → IsTold h (more ++ ws) t x
told-stays h more ws t x a = record {
  asked = a.asked;
  found = subst (λ (es : List Written). IsFound es x.finding.told x.finding.grounds
      (Requests a.asked.request)) (append_assoc h more ws)
      (found-stays (h ++ more) ws x.finding.told x.finding.grounds (Requests a.asked.request)
      a.found);
  format = subst (λ (es : List Written). HasFormat es x.finding.told x.finding.grounds)
      (append_assoc h more ws) (format-stays (h ++ more) ws x.finding.told x.finding.grounds a.format);
  counts = subst (λ (es : List Written). CountsFrom es x.finding.grounds t
      (counted_moment h t x)) (append_assoc h more ws)
      (counts-stay (h ++ more) ws x.finding.grounds t (counted_moment h t x) a.counts);
}

pub all-told-still : (h more ws : List Written) (t : ℕ) (xs : List Telling)
    → AllByRecursion (IsTold h more t) xs → AllByRecursion (IsTold h (more ++ ws) t) xs
all-told-still h more ws t xs a =
    all-more (IsTold h more t) (IsTold h (more ++ ws) t) (told-stays h more ws t) xs a
