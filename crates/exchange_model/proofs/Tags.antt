-- The ETag of what is stored is short (RFC 7252 section 5.10).
use Rattle.std.proofs.Common.{◌≡◌, ◌⊎◌, ℕ, ◌≤◌, Bool, true, false, cond, eqb, leb, List, ◌∷◌, length, Option, Some, None, inl, inr, refl, sym, ap, subst, ◌∙◌}
use Rattle.std.specs.Prelude.{is_some, ◌&&◌, find, option_map}
use Rattle.std.specs.List.{AllByRecursion, list_all}
use Rattle.std.specs.Option.{option_map_or}
use Rattle.std.proofs.lemmas.Bool.{and_parts, false≢true}
use Rattle.std.proofs.lemmas.Bool.Decides.{Decides-eqb, leb_tells}
use Rattle.coap_codec.specs.Spelling.{Entry, Content}
use Rattle.coap_codec.specs.Options.{definition_of}
use Rattle.coap_codec.specs.Recognition.{fits_row, is_defined, value_of}
use Rattle.blockwise.specs.Downloads.{given, nothing}
use Rattle.resp_cache.specs.Stored.{Stored}
use Rattle.resp_cache.specs.declared.pair.Pair.{Pair}
use Rattle.history_laws.specs.Responses.{Response, is_tellable, joined, last_of, whole_fetched}
use Rattle.history_laws.proofs.CallerLemmas.{all-more, find-some, none-some, some-is}
use Rattle.exchange_model.specs.Growing.{IsHeardIn, IsKeptIn, IsRenewedIn}
use Rattle.exchange_model.specs.Room.{KeptInRoom}
use Rattle.exchange_model.specs.State.{State}
use Rattle.exchange_model.proofs.HeardIn.{store-heard}

below : (n : ℕ) → leb n 8 ≡ true → n ≤ 8
below n e = elim (leb_tells n 8) [ inl w ↦ w.1 | inr w ↦ absurd (false≢true (sym w.0 ∙ e)) ]

tag-of : (m : Content) (tag : List ℕ) → value_of 4 m ≡ Some tag → length tag ≤ 8
tag-of m tag e = by (find (λ (o : Entry). (eqb o.number 4) && is_defined o) m.options) refl e
  where
    by : (v : Option Entry) → find (λ (o : Entry). (eqb o.number 4) && is_defined o) m.options ≡ v → option_map (λ (o : Entry). o.value) v ≡ Some tag → length tag ≤ 8
    by None is f = absurd (none-some tag f)
    by (Some o) is f =
        let it = find-some (λ (o : Entry). (eqb o.number 4) && is_defined o) m.options o is in
        let both = and_parts (eqb o.number 4) (is_defined o) it.1 in
        let number : o.number ≡ 4 = (Decides-eqb o.number 4).0 both.0 in
        let fits = and_parts (option_map_or (fits_row o) (definition_of o.number) false) _ both.1 in
        let row : ((leb 1 (length o.value)) && (leb (length o.value) 8)) ≡ true =
        subst (λ (n : ℕ). option_map_or (fits_row o) (definition_of n) false ≡ true) number fits.0 in
        subst (λ (v : List ℕ). length v ≤ 8) (some-is o.value tag f)
        (below (length o.value) (and_parts (leb 1 (length o.value)) (leb (length o.value) 8) row).1)

whole-joined : (m : Content) (ms : List Content) (w : Response) → whole_fetched m ms ≡ Some w → joined m ms ≡ w
whole-joined m ms w e = by (list_all is_tellable (m ∷ ms) && is_some (given nothing (m ∷ ms))) e
  where
    by : (b : Bool) → cond b (Some (joined m ms)) None ≡ Some w → joined m ms ≡ w
    by false f = absurd (none-some w f)
    by true f = some-is (joined m ms) w f

whole-short : (m : Content) (ms : List Content) (w : Response) (tag : List ℕ) → whole_fetched m ms ≡ Some w → w.etag ≡ Some tag → length tag ≤ 8
whole-short m ms w tag e is = tag-of (last_of m ms) tag (ap (λ (v : Response). v.etag) (whole-joined m ms w e) ∙ is)

pub kept-short : (S : State) (s : Stored) (tag : List ℕ) → IsKeptIn S s → s.response.etag ≡ Some tag → length tag ≤ 8
kept-short S s tag h is = whole-short h.message h.more h.response tag h.whole (sym (ap (λ (v : Response). v.etag) h.renewed) ∙ is)

pub tags-short : (S : State) → KeptInRoom S → AllByRecursion (λ (p : Pair). (tag : List ℕ) → p.stored.response.etag ≡ Some tag → length tag ≤ 8) S.store
tags-short S k = all-more (λ (p : Pair). IsHeardIn S p ⊎ IsRenewedIn S p) _ one S.store (store-heard S k)
  where
    one : (p : Pair) → IsHeardIn S p ⊎ IsRenewedIn S p → (tag : List ℕ) → p.stored.response.etag ≡ Some tag → length tag ≤ 8
    one p (inl h) tag is = whole-short h.message h.more p.stored.response tag h.whole is
    one p (inr h) tag is = kept-short S h.kept tag h.was (sym (ap (λ (v : Response). v.etag) h.renewed) ∙ is)
