-- A link and the history judge a new message alike.
use Rattle.std.proofs.Common.{◌≡◌, ℕ, Bool, true, false, eqb, leb, List, [], ◌∷◌, Option, Some, None, inl, inr, refl, sym, subst, ◌∙◌}
use Rattle.std.specs.Prelude.{◌&&◌, is_some}
use Rattle.std.specs.List.{list_any}
use Rattle.std.specs.Str.{bytes_eq}
use Rattle.std.proofs.lemmas.Bool.{false≢true, and_right, eqb-true}
use Rattle.std.proofs.lemmas.Bool.Decides.{eqb_tells}
use Rattle.std.proofs.lemmas.Slice.Eq.{bytes_eq-Decides}
use Rattle.std.proofs.lemmas.Map.Views.{Contains-from_any}
use Rattle.coap_codec.specs.Spelling.{Content}
use Rattle.coap_codec.specs.Recognition.{is_rejected}
use Rattle.uri_map.specs.declared.peer.Peer.{Peer}
use Rattle.uri_map.specs.Peers.{same_peer}
use Rattle.history_laws.specs.Confirmations.{answer_by}
use Rattle.message_layer.specs.Values.{LinkState}
use Rattle.message_layer.specs.declared.state.Outstanding.{Outstanding}
use Rattle.message_layer.specs.declared.verdict.Verdict.{Verdict}
use Rattle.history_laws.specs.Readings.{Noted}
use Rattle.history_laws.specs.Transmissions.{FirstSending, firsts, first_at, last_sent}
use Rattle.history_laws.specs.Exchanges.{awaited}
use Rattle.history_laws.specs.Hearing.{is_such, went_under, went_as, open_at}
use Rattle.history_laws.specs.Justified.{Legal}
use Rattle.history_links.specs.Agrees.{reply_of, IsOut}
use Rattle.history_links.specs.Steps.{ended_token}
use Rattle.history_laws.proofs.CallerLemmas.{and-left, and-right, any-of, find-some}
use Rattle.history_links.proofs.Copying.{is-last}
use Rattle.history_links.proofs.Replying.{is_to, ends_by, ends_what}
use Rattle.history_links.proofs.Tokens.{one-token, found-first}

abbrev pub is_ended : Option (List ℕ) → List ℕ → Bool
is_ended None token = false
is_ended (Some of) token = bytes_eq token of

-- Of what is awaited, just what the message ends is awaited no more; it ends just what is outstanding and it answers;
-- and it is remembered, with that answer, where it is a CON or NON.
pub record Judged (l : List Noted) (p : Peer) (s : LinkState) (m : Content) (to : Option ℕ) (v : Verdict) : Type 0 where
  pub ends : (o : Outstanding) (a : IsOut l p o) → s.outstanding ≡ Some o → v.ends ≡ is_to to a.first.number
  pub awaits : (i : ℕ) (token : List ℕ) → list_any (eqb i) (awaited l) ≡ true → went_under p token (first_at l i) ≡ true
      → ends_what to m i ≡ is_ended (ended_token v.news m.token) token
  pub reply : v.reply ≡ reply_of (answer_by m.kind (is_some to) (is_rejected m) (eqb m.code 0))
  pub remembered : v.remembered ≡ is_such m.kind

-- lists

-- what is in a list and passes makes the test true of the list
pub among : (q : ℕ → Bool) (i : ℕ) (xs : List ℕ) → list_any (eqb i) xs ≡ true → q i ≡ true → list_any q xs ≡ true
among q i xs e f = any-of q xs i (Contains-from_any eqb-true i xs e) f

-- tokens

pub token-found : (p : Peer) (token : List ℕ) (v : Option FirstSending) → went_under p token v ≡ true → (f : FirstSending) × (v ≡ Some f) × (f.message.token ≡ token)
token-found p token None e = absurd (false≢true e)
token-found p token (Some f) e = (f, refl, (bytes_eq-Decides f.message.token token).0 (and-right (same_peer f.peer p) _ e))

pub one-under : (l : List Noted) (p : Peer) (i j : ℕ) (token : List ℕ) → Legal l → went_under p token (first_at l i) ≡ true → went_under p token (first_at l j) ≡ true → i ≡ j
one-under l p i j token legal e f =
    let a = token-found p token (first_at l i) e in
    let b = token-found p token (first_at l j) f in
    one-token l i j a.0 b.0 legal a.1 b.1 (a.2 ∙ sym b.2)

-- what is outstanding

pub out-first : (l : List Noted) (p : Peer) (o : Outstanding) (a : IsOut l p o) → first_at l a.first.number ≡ Some a.first
out-first l p o a = found-first l (λ (f : FirstSending). same_peer f.peer p) a.first (is-last l p (last_sent l p) a.first a.is)

pub out-peer : (l : List Noted) (p : Peer) (o : Outstanding) (a : IsOut l p o) → same_peer a.first.peer p ≡ true
out-peer l p o a = (find-some (λ (f : FirstSending). same_peer f.peer p) (firsts l) a.first (is-last l p (last_sent l p) a.first a.is)).1

pub out-under : (l : List Noted) (p : Peer) (o : Outstanding) (a : IsOut l p o) (token : List ℕ) → went_under p token (first_at l a.first.number) ≡ bytes_eq o.token token
out-under l p o a token = rw (out-first l p o a, out-peer l p o a, a.token) refl

pub out-as : (l : List Noted) (p : Peer) (o : Outstanding) (a : IsOut l p o) (mid : ℕ) → went_as p mid (first_at l a.first.number) ≡ eqb o.mid mid
out-as l p o a mid = rw (out-first l p o a, out-peer l p o a, a.mid) refl

pub out-open : (l : List Noted) (p : Peer) (o : Outstanding) (a : IsOut l p o) → open_at l p ≡ a.first.number ∷ []
out-open l p o a = rw (a.is) refl

-- codes

pub empty-code : (c : ℕ) → eqb c 0 ≡ true → leb 32 c ≡ false
empty-code c e = elim (eqb_tells c 0) [ inl w ↦ rw (w.1) refl | inr w ↦ absurd (false≢true (sym w.0 ∙ e)) ]

-- who goes under a token is told by its number
pub same-under : (l : List Noted) (p : Peer) (i j : ℕ) (token : List ℕ) → Legal l → went_under p token (first_at l i) ≡ true
    → went_under p token (first_at l j) ≡ eqb i j
same-under l p i j token legal e = by (went_under p token (first_at l j)) refl
  where
    by : (b : Bool) → went_under p token (first_at l j) ≡ b → b ≡ eqb i j
    by true f = let same = one-under l p i j token legal e f in elim (eqb_tells i j) [ inl w ↦ sym w.0 | inr w ↦ absurd (w.1 same) ]
    by false f = elim (eqb_tells i j) [
      | inl w ↦ absurd (false≢true (sym f ∙ subst (λ (k : ℕ). went_under p token (first_at l k) ≡ true) w.1 e))
      | inr w ↦ sym w.0
    ]

-- one that goes under one token goes under another where they are equal
other-token : (p : Peer) (token of : List ℕ) (v : Option FirstSending) → went_under p token v ≡ true → went_under p of v ≡ bytes_eq token of
other-token p token of None e = absurd (false≢true e)
other-token p token of (Some f) e =
    let peer = and-left (same_peer f.peer p) _ e in
    let same = (bytes_eq-Decides f.message.token token).0 (and-right (same_peer f.peer p) _ e) in
    rw (peer, same) refl

-- what it ends, where it answers one that goes under this token
pub ends-under : (l : List Noted) (p : Peer) (m : Content) (i : ℕ) (of : List ℕ) → Legal l → ends_by m.kind m.code ≡ true → went_under p of (first_at l i) ≡ true
    → (j : ℕ) (token : List ℕ) → went_under p token (first_at l j) ≡ true → ends_what (Some i) m j ≡ bytes_eq token of
ends-under l p m i of legal ends e j token f =
    rw (ends) (and-true (eqb i j) ∙ (sym (same-under l p i j of legal e) ∙ other-token p token of (first_at l j) f))
  where
    and-true : (b : Bool) → (b && true) ≡ b
    and-true true = refl
    and-true false = refl

pub quiet : (to : Option ℕ) (m : Content) (i : ℕ) → ends_by m.kind m.code ≡ false → ends_what to m i ≡ false
quiet to m i e = rw (e) (and_right (is_to to i) false refl)
