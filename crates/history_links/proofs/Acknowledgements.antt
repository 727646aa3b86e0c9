-- How a link and the history judge an ACK and a RST.
use Rattle.std.proofs.Common.{◌≡◌, ℕ, Bool, true, false, cond, eqb, leb, List, [], ◌∷◌, ◌++◌, Option, Some, None, inl, inr, refl, sym, ap, subst, ◌∙◌}
use Rattle.std.specs.Prelude.{◌&&◌, is_some}
use Rattle.std.specs.List.{find, list_any}
use Rattle.std.specs.Str.{bytes_eq}
use Rattle.std.proofs.lemmas.List.Folds.{list_any-append}
use Rattle.std.proofs.lemmas.Bool.{false≢true, or_right}
use Rattle.std.proofs.lemmas.Bool.Decides.{eqb_tells}
use Rattle.std.proofs.lemmas.Slice.Eq.{bytes_eq-Decides}
use Rattle.coap_codec.specs.declared.message.MsgType.TheVariants.{Ack, Rst}
use Rattle.coap_codec.specs.Spelling.{Content}
use Rattle.coap_codec.specs.Recognition.{is_rejected}
use Rattle.uri_map.specs.declared.peer.Peer.{Peer}
use Rattle.history_laws.specs.Confirmations.{answer_by}
use Rattle.message_layer.specs.Values.{LinkState}
use Rattle.message_layer.specs.Hearing.{is_awaited_by_ack, is_outstanding_under, is_outstanding_as, ignored, ack_verdict, rst_verdict}
use Rattle.message_layer.specs.declared.state.Outstanding.{Outstanding}
use Rattle.message_layer.specs.declared.state.Reply.TheVariants as R
use Rattle.message_layer.specs.declared.verdict.News.TheVariants.{Quiet, Response, Reset}
use Rattle.message_layer.specs.declared.verdict.Verdict.{Verdict}
use Rattle.history_laws.specs.Readings.{Noted}
use Rattle.history_laws.specs.Transmissions.{FirstSending, first_at, outstanding}
use Rattle.history_laws.specs.Exchanges.{awaited}
use Rattle.history_laws.specs.Hearing.{is_such, went_under, is_under, is_as, open_at, answers_by}
use Rattle.history_laws.specs.Justified.{Legal}
use Rattle.history_links.specs.Agrees.{Start, reply_of, IsOut, TurnIn, Agrees}
use Rattle.history_links.specs.Steps.{ended_token}
use Rattle.history_laws.proofs.CallerLemmas.{and-left, any-find, eqb-itself, find-some, some-is}
use Rattle.history_links.proofs.Replying.{is_to, ends_by, ends_what}
use Rattle.history_links.proofs.Judging.{is_ended, Judged, among, one-under, out-under, out-as, out-open, ends-under, quiet, empty-code}
use Rattle.history_links.proofs.Facts.{and-turn}

-- the one that is looked for by its ID
as-open : (l : List Noted) (p : Peer) (m : Content) (o : Outstanding) (b : IsOut l p o) → is_to (find (is_as l p m) (open_at l p)) b.first.number ≡ eqb o.mid m.mid
as-open l p m o b = rw (out-open l p o b, out-as l p o b m.mid) (by (eqb o.mid m.mid))
  where
    by : (v : Bool) → is_to (cond v (Some b.first.number) None) b.first.number ≡ v
    by true = eqb-itself b.first.number
    by false = refl

as-found : (l : List Noted) (p : Peer) (m : Content) (o : Outstanding) (b : IsOut l p o) (v : Bool) → eqb o.mid m.mid ≡ v
    → find (is_as l p m) (open_at l p) ≡ cond v (Some b.first.number) None
as-found l p m o b v e = rw (out-open l p o b, out-as l p o b m.mid, e) refl

-- where all that pass are one, it is found where it passes
one-found : (q : ℕ → Bool) (xs : List ℕ) (k : ℕ) → list_any (eqb k) xs ≡ true → ((i : ℕ) → q i ≡ true → q k ≡ true → i ≡ k) → is_to (find q xs) k ≡ q k
one-found q xs k there one = by (q k) refl (find q xs) refl
  where
    by : (b : Bool) → q k ≡ b → (v : Option ℕ) → find q xs ≡ v → is_to v k ≡ b
    by true e None f = absurd (false≢true (sym (any-find q xs ∙ ap (λ (v : Option ℕ). is_some v) f) ∙ among q k xs there e))
    by true e (Some i) f = let same = one i ((find-some q xs i f).1) e in elim (eqb_tells i k) [ inl w ↦ w.0 | inr w ↦ absurd (w.1 same) ]
    by false e None f = refl
    by false e (Some i) f = elim (eqb_tells i k) [
      | inl w ↦ absurd (false≢true (sym e ∙ subst (λ (j : ℕ). q j ≡ true) w.1 ((find-some q xs i f).1)))
      | inr w ↦ w.0
    ]

abbrev passes : List Noted → Peer → Content → ℕ → Bool
passes l p m i = is_under l p m i && is_as l p m i

ack-to : (l : List Noted) (p : Peer) (m : Content) (e r : Bool) → (e ≡ true → r ≡ false)
    → answers_by l p m Ack e r ≡ cond e (find (is_as l p m) (open_at l p)) (cond r (find (passes l p m) (awaited l ++ open_at l p)) None)
ack-to l p m true true h = absurd (false≢true (sym (h refl)))
ack-to l p m true false h = refl
ack-to l p m false true h = refl
ack-to l p m false false h = refl

pub ack-judged : {start : Start} (l : List Noted) (p : Peer) (s : LinkState) (m : Content) → Legal l → Agrees start l p s → m.kind ≡ Ack
    → Judged l p s m (answers_by l p m Ack (eqb m.code 0) (leb 32 m.code)) (ack_verdict s m)
ack-judged l p s m legal a kind =
    subst (λ (to : Option ℕ). Judged l p s m to (ack_verdict s m)) (sym (ack-to l p m (eqb m.code 0) (leb 32 m.code) (empty-code m.code)))
    (by (eqb m.code 0) refl (leb 32 m.code) refl)
  where
    silent : (x y z : Bool) → R.Nothing ≡ reply_of (answer_by m.kind x y z)
    silent x y z = rw (kind) refl

    forgotten : false ≡ is_such m.kind
    forgotten = rw (kind) refl

    ends-if : ends_by m.kind m.code ≡ leb 32 m.code
    ends-if = rw (kind) refl

    as-out : (o : Outstanding) (b : IsOut l p o) (v : Option Outstanding) → v ≡ Some o → is_outstanding_as m.mid v ≡ is_to (find (is_as l p m) (open_at l p)) b.first.number
    as-out o b None e = cc
    as-out o b (Some w) e = ap (is_outstanding_as m.mid) e ∙ sym (as-open l p m o b)

    there : (o : Outstanding) (b : IsOut l p o) → list_any (eqb b.first.number) (awaited l ++ open_at l p) ≡ true
    there o b = rw (out-open l p o b) (list_any-append (eqb b.first.number) (awaited l) (b.first.number ∷ []) ∙ rw (eqb-itself b.first.number) (or_right (list_any (eqb b.first.number) (awaited l)) true refl))

    under-of : (i : ℕ) → passes l p m i ≡ true → went_under p m.token (first_at l i) ≡ true
    under-of i e = and-left (is_under l p m i) (is_as l p m i) e

    out-ends : (o : Outstanding) (b : IsOut l p o) (v : Option Outstanding) → v ≡ Some o
        → (is_outstanding_as m.mid v && is_outstanding_under m.token v) ≡ is_to (find (passes l p m) (awaited l ++ open_at l p)) b.first.number
    out-ends o b None e = cc
    out-ends o b (Some w) e =
        ap (λ (v : Option Outstanding). is_outstanding_as m.mid v && is_outstanding_under m.token v) e
        ∙ (and-turn (eqb o.mid m.mid) (bytes_eq o.token m.token)
        ∙ (rw (← out-under l p o b m.token, ← out-as l p o b m.mid) refl
        ∙ sym (one-found (passes l p m) (awaited l ++ open_at l p) b.first.number (there o b) (λ i f g. one-under l p i b.first.number m.token legal (under-of i f) (under-of b.first.number g)))))

    judged : (c : Bool) → list_any (passes l p m) (awaited l) ≡ c → (v : Option ℕ) → find (passes l p m) (awaited l ++ open_at l p) ≡ v → leb 32 m.code ≡ true
        → (i : ℕ) (token : List ℕ) → list_any (eqb i) (awaited l) ≡ true → went_under p token (first_at l i) ≡ true
        → ends_what v m i ≡ is_ended (ended_token (cond c Response Quiet) m.token) token
    judged true e None f r i token h k = absurd (false≢true (sym (any-find (passes l p m) (awaited l ++ open_at l p) ∙ ap (λ (v : Option ℕ). is_some v) f) ∙ (list_any-append (passes l p m) (awaited l) (open_at l p) ∙ rw (e) refl)))
    judged true e (Some j) f r i token h k = ends-under l p m j m.token legal (ends-if ∙ r) (under-of j ((find-some (passes l p m) (awaited l ++ open_at l p) j f).1)) i token k
    judged false e None f r i token h k = refl
    judged false e (Some j) f r i token h k = elim (eqb_tells j i) [
      | inl w ↦ absurd (false≢true (sym e ∙ among (passes l p m) i (awaited l) h (subst (λ (n : ℕ). passes l p m n ≡ true) w.1 ((find-some (passes l p m) (awaited l ++ open_at l p) j f).1))))
      | inr w ↦ rw (w.0) refl
    ]

    by : (e : Bool) → eqb m.code 0 ≡ e → (r : Bool) → leb 32 m.code ≡ r
        → Judged l p s m (cond e (find (is_as l p m) (open_at l p)) (cond r (find (passes l p m) (awaited l ++ open_at l p)) None))
        (cond e (record { reply = R.Nothing; remembered = false; ends = is_outstanding_as m.mid s.outstanding; news = Quiet })
        (cond r (record { reply = R.Nothing; remembered = false; ends = is_outstanding_as m.mid s.outstanding && is_outstanding_under m.token s.outstanding; news = cond (list_any (is_awaited_by_ack m.mid m.token) s.awaited) Response Quiet })
        ignored))
    by true e r f = record {
      ends = λ o b h. as-out o b s.outstanding h;
      awaits = λ i token h k. quiet (find (is_as l p m) (open_at l p)) m i (ends-if ∙ empty-code m.code e);
      reply = silent (is_some (find (is_as l p m) (open_at l p))) (is_rejected m) (eqb m.code 0);
      remembered = forgotten;
    }
    by false e true f = record {
      ends = λ o b h. out-ends o b s.outstanding h;
      awaits = λ i token h k. rw (a.acks m.mid m.token) (judged (list_any (passes l p m) (awaited l)) refl (find (passes l p m) (awaited l ++ open_at l p)) refl f i token h k);
      reply = silent (is_some (find (passes l p m) (awaited l ++ open_at l p))) (is_rejected m) (eqb m.code 0);
      remembered = forgotten;
    }
    by false e false f = record {
      ends = λ o b h. refl;
      awaits = λ i token h k. refl;
      reply = silent false (is_rejected m) (eqb m.code 0);
      remembered = forgotten;
    }

rst-to : (l : List Noted) (p : Peer) (m : Content) (e r : Bool) → answers_by l p m Rst e r ≡ cond e (find (is_as l p m) (open_at l p)) None
rst-to l p m true true = refl
rst-to l p m true false = refl
rst-to l p m false true = refl
rst-to l p m false false = refl

abbrev rst_by : Content → Bool → Option Outstanding → Verdict
rst_by m e None = ignored
rst_by m e (Some o) = cond (e && eqb o.mid m.mid) (record { reply = R.Nothing; remembered = false; ends = true; news = Reset o.token }) ignored

rst-is : (m : Content) (v : Option Outstanding) → rst_verdict m v ≡ rst_by m (eqb m.code 0) v
rst-is m None = refl
rst-is m (Some o) = refl

pub rst-judged : {start : Start} (l : List Noted) (p : Peer) (s : LinkState) (m : Content) → Legal l → Agrees start l p s → m.kind ≡ Rst
    → Judged l p s m (answers_by l p m Rst (eqb m.code 0) (leb 32 m.code)) (rst_verdict m s.outstanding)
rst-judged l p s m legal a kind =
    subst (λ (to : Option ℕ). Judged l p s m to (rst_verdict m s.outstanding)) (sym (rst-to l p m (eqb m.code 0) (leb 32 m.code)))
    (subst (λ (v : Verdict). Judged l p s m (cond (eqb m.code 0) (find (is_as l p m) (open_at l p)) None) v) (sym (rst-is m s.outstanding)) (by (eqb m.code 0) s.outstanding refl a.turn))
  where
    silent : (x y z : Bool) → R.Nothing ≡ reply_of (answer_by m.kind x y z)
    silent x y z = rw (kind) refl

    forgotten : false ≡ is_such m.kind
    forgotten = rw (kind) refl

    ends-always : ends_by m.kind m.code ≡ true
    ends-always = rw (kind) refl

    none-open : outstanding l p ≡ None → open_at l p ≡ []
    none-open e = rw (e) refl

    nothing : Judged l p s m None ignored
    nothing = record {
      ends = λ o b h. refl;
      awaits = λ i token h k. refl;
      reply = silent false (is_rejected m) (eqb m.code 0);
      remembered = forgotten;
    }

    matched : (o : Outstanding) (b : IsOut l p o) → s.outstanding ≡ Some o → (v : Bool) → eqb o.mid m.mid ≡ v
        → Judged l p s m (cond v (Some b.first.number) None) (cond v (record { reply = R.Nothing; remembered = false; ends = true; news = Reset o.token }) ignored)
    matched o b is true e = record {
      ends = λ x c h. sym (ap (λ (f : FirstSending). eqb b.first.number f.number) (same-first c (some-is o x (sym is ∙ h))) ∙ eqb-itself b.first.number);
      awaits = λ i token h k. ends-under l p m b.first.number o.token legal ends-always (out-under l p o b o.token ∙ itself o.token) i token k;
      reply = silent true (is_rejected m) (eqb m.code 0);
      remembered = forgotten;
    }
      where
        itself : (t : List ℕ) → bytes_eq t t ≡ true
        itself t = (bytes_eq-Decides t t).1 refl

        same-first : {x : Outstanding} (c : IsOut l p x) → o ≡ x → c.first ≡ b.first
        same-first c e = some-is c.first b.first (sym c.is ∙ b.is)
    matched o b is false e = nothing

    by : (e : Bool) (v : Option Outstanding) → s.outstanding ≡ v → TurnIn l p v
        → Judged l p s m (cond e (find (is_as l p m) (open_at l p)) None) (rst_by m e v)
    by true None is turn = rw (none-open turn) nothing
    by false None is turn = nothing
    by true (Some o) is turn = rw (as-found l p m o turn (eqb o.mid m.mid) refl) (matched o turn is (eqb o.mid m.mid) refl)
    by false (Some o) is turn = nothing
