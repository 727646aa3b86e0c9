-- A message that is new is a reply to the exchange that it answers.
use Rattle.std.proofs.Common.{◌≡◌, ℕ, inl, inr, Bool, true, false, cond, eqb, List, [], ◌∷◌, length, map, Option, Some, None, refl, sym, ap, subst, ◌∙◌}
use Rattle.std.specs.Prelude.{filter, find, is_some, is_none, not, ◌&&◌, ◌||◌}
use Rattle.std.specs.List.{Contains, list_any, filter_map, cons_option}
use Rattle.std.specs.Str.{bytes_eq}
use Rattle.std.proofs.lemmas.Bool.{false≢true, or_right}
use Rattle.std.proofs.lemmas.Bool.Decides.{eqb_tells}
use Rattle.std.proofs.lemmas.Slice.Eq.{bytes_eq-Decides}
use Rattle.std.proofs.lemmas.List.Elements.{filter_agree}
use Rattle.coap_codec.specs.Spelling.{Content}
use Rattle.uri_map.specs.declared.peer.Peer.{Peer}
use Rattle.uri_map.specs.Peers.{same_peer}
use Rattle.message_layer.specs.Values.{LinkState}
use Rattle.message_layer.specs.Hearing.{verdict_of}
use Rattle.ask_model.specs.Sharing.{asked_key, asked_place, is_get}
use Rattle.history_laws.specs.Readings.{Noted}
use Rattle.history_laws.specs.Transmissions.{FirstSending, firsts, first_at, bears_token}
use Rattle.history_laws.specs.Exchanges.{begun, openings, is_going, open_exchanges, waits_for, awaited, Turn, replies_by, replies, end_of}
use Rattle.history_laws.specs.Hearing.{went_under, answers, notice_of}
use Rattle.history_laws.specs.Joining.{outrun}
use Rattle.history_laws.specs.Justified.{Legal}
use Rattle.history_laws.proofs.CallerLemmas.{any-of, begun-listed, eqb-itself, going-before, some-is}
use Rattle.history_links.specs.Agrees.{Start, Agrees}
use Rattle.history_links.specs.Steps.{ended_token, heard}
use Rattle.history_links.proofs.CallerLemmas.{ends_what, going-still, hit, is_ended, Judged, one-token, still-after, waits-after}
use Rattle.exchange_model.specs.declared.kept.Exchange.{Exchange}
use Rattle.exchange_model.specs.Reads.{IsNewest, IsSentUnder, awaited_by, ExchangeIn, got_in, opening_of, kept_in}
use Rattle.exchange_model.specs.Matters.{is_other}
use Rattle.exchange_model.proofs.Lists.{filter-map, filter-both}
use Rattle.exchange_model.proofs.Borne.{IsBorne, ended-borne, answers-peer}
use Rattle.exchange_model.proofs.Tables.{exchange-stays}
use Rattle.resp_cache.specs.Stored.{Stored}
use Rattle.history_laws.specs.Storing.{first_in}
use Rattle.history_laws.specs.Observing.{outdated}

-- lists

pub among-awaited : (waits : ℕ → Option ℕ) (i o : ℕ) → waits o ≡ Some i → (os : List ℕ) → list_any (eqb o) os ≡ true → list_any (eqb i) (filter_map waits os) ≡ true
among-awaited waits i o is [] e = absurd (false≢true e)
among-awaited waits i o is (q ∷ os) e = elim (eqb_tells o q) [
  | inl w ↦
      let here : waits q ≡ Some i = subst (λ (k : ℕ). waits k ≡ Some i) w.1 is in
      rw (here) (rw (eqb-itself i) refl)
  | inr w ↦ by (waits q) (among-awaited waits i o is os (subst (λ (b : Bool). (b || list_any (eqb o) os) ≡ true) w.0 e))
]
  where
    by : (v : Option ℕ) → list_any (eqb i) (filter_map waits os) ≡ true → list_any (eqb i) (cons_option v (filter_map waits os)) ≡ true
    by None h = h
    by (Some j) h = or_right (eqb i j) _ h

-- first sendings

bears-it : (f : FirstSending) (token : List ℕ) (fs : List FirstSending) (i : ℕ) → find (λ (g : FirstSending). eqb g.number i) fs ≡ Some f → f.message.token ≡ token
    → list_any (λ (g : FirstSending). bytes_eq g.message.token token) fs ≡ true
bears-it f token [] i e same = absurd cc
bears-it f token (g ∷ fs) i e same = by (eqb g.number i) e (λ h. bears-it f token fs i h same)
  where
    is-it : (x : FirstSending) → Some x ≡ Some f → x ≡ f
    is-it x e = cc

    by : (b : Bool) → cond b (Some g) (find (λ (k : FirstSending). eqb k.number i) fs) ≡ Some f
        → (find (λ (k : FirstSending). eqb k.number i) fs ≡ Some f → list_any (λ (k : FirstSending). bytes_eq k.message.token token) fs ≡ true)
        → (bytes_eq g.message.token token || list_any (λ (k : FirstSending). bytes_eq k.message.token token) fs) ≡ true
    by true e ih = rw ((bytes_eq-Decides g.message.token token).1 (ap (λ (k : FirstSending). k.message.token) (is-it g e) ∙ same)) refl
    by false e ih = or_right (bytes_eq g.message.token token) _ (ih e)

pub borne-bears : (l : List Noted) (f : FirstSending) (token : List ℕ) (i : ℕ) → first_at l i ≡ Some f → f.message.token ≡ token → bears_token l token ≡ true
borne-bears l f token i is same = bears-it f token (firsts l) i is same

bytes_eq-itself : (a : List ℕ) → bytes_eq a a ≡ true
bytes_eq-itself a = (bytes_eq-Decides a a).1 refl

begun-some : {start : Start} (l : List Noted) (e : Exchange) → ExchangeIn start l e → is_some (begun l e.opening) ≡ true
begun-some l e h = rw (h.opening) refl

contained : (xs : List ℕ) (n : ℕ) → Contains xs n → list_any (eqb n) xs ≡ true
contained xs n h = any-of (eqb n) xs n h (eqb-itself n)

is-listed : (l : List Noted) (o : ℕ) → is_some (begun l o) ≡ true → list_any (eqb o) (openings l) ≡ true
is-listed l o e = contained (openings l) o (begun-listed l o e)

-- what is ended

-- its token isn't that one
abbrev pub is_apart : Option (List ℕ) → Exchange → Bool
is_apart None e = true
is_apart (Some token) e = is_other token e

ended-other : (ended : Option (List ℕ)) (e : Exchange) → not (is_ended ended e.token) ≡ is_apart ended e
ended-other None e = refl
ended-other (Some of) e = refl

-- The entry ends an exchange just where its link says that its token is awaited no more.
pub ends-kept : {start : Start} (l : List Noted) (t : ℕ) (p : Peer) (s : LinkState) (m : Content) → Legal l → Agrees start l p s → Judged l p s m (answers l p m) (verdict_of t s m)
    → (e : Exchange) → ExchangeIn start l e → (v : Option ℕ) → waits_for l e.opening ≡ v → IsSentUnder l e.peer e.token v
    → not (hit (answers l p m) m v) ≡ is_apart (ended_token (verdict_of t s m).news m.token) e
ends-kept l t p s m legal agrees judged e h None waits under = sym (by (ended_token (verdict_of t s m).news m.token) refl)
  where
    of-borne : (of : List ℕ) → IsBorne l p of → e.token ≡ of → ⊥
    of-borne of b same = false≢true (sym under ∙ borne-bears l b.first e.token b.number b.is (b.token_is ∙ sym same))

    by : (ended : Option (List ℕ)) → ended_token (verdict_of t s m).news m.token ≡ ended → is_apart ended e ≡ true
    by None k = refl
    by (Some of) k = other (bytes_eq e.token of) refl
      where
        other : (b : Bool) → bytes_eq e.token of ≡ b → not b ≡ true
        other true same = absurd (of-borne of (ended-borne l t p s m of m.kind agrees k) ((bytes_eq-Decides e.token of).0 same))
        other false same = refl
ends-kept l t p s m legal agrees judged e h (Some i) waits under = by (same_peer e.peer p) refl
  where
    f : FirstSending
    f = under.0

    went : same_peer e.peer p ≡ true → went_under p e.token (first_at l i) ≡ true
    went at_p = rw (under.1, under.2, under.3, at_p, bytes_eq-itself e.token) refl

    listed : list_any (eqb i) (awaited l) ≡ true
    listed = among-awaited (waits_for l) i e.opening waits (openings l) (is-listed l e.opening (begun-some l e h))

    other-borne : (of : List ℕ) → same_peer e.peer p ≡ false → IsBorne l p of → e.token ≡ of → ⊥
    other-borne of away b same =
        let one = one-token l i b.number f b.first legal under.1 b.is (under.3 ∙ (same ∙ sym b.token_is)) in
        let first : f ≡ b.first = some-is f b.first (sym under.1 ∙ (ap (first_at l) one ∙ b.is)) in
        let peer : same_peer f.peer p ≡ true = subst (λ (g : FirstSending). same_peer g.peer p ≡ true) (sym first) b.peer in
        false≢true (sym away ∙ subst (λ (q : Peer). same_peer q p ≡ true) under.2 peer)

    away-other : same_peer e.peer p ≡ false → (ended : Option (List ℕ)) → ended_token (verdict_of t s m).news m.token ≡ ended → is_apart ended e ≡ true
    away-other away None k = refl
    away-other away (Some of) k = other (bytes_eq e.token of) refl
      where
        other : (b : Bool) → bytes_eq e.token of ≡ b → not b ≡ true
        other true same = absurd (other-borne of away (ended-borne l t p s m of m.kind agrees k) ((bytes_eq-Decides e.token of).0 same))
        other false same = refl

    away-to : same_peer e.peer p ≡ false → (to : Option ℕ) → answers l p m ≡ to → ends_what to m i ≡ false
    away-to away None k = refl
    away-to away (Some j) k = elim (eqb_tells j i) [
      | inl w ↦
          let peer = answers-peer l p m j f k (ap (first_at l) w.1 ∙ under.1) in
          absurd (false≢true (sym away ∙ subst (λ (q : Peer). same_peer q p ≡ true) under.2 peer))
      | inr w ↦ rw (w.0) refl
    ]

    by : (b : Bool) → same_peer e.peer p ≡ b → not (ends_what (answers l p m) m i) ≡ is_apart (ended_token (verdict_of t s m).news m.token) e
    by true at_p = ap not (judged.awaits i e.token listed (went at_p)) ∙ ended-other (ended_token (verdict_of t s m).news m.token) e
    by false away = ap not (away-to away (answers l p m) refl) ∙ sym (away-other away (ended_token (verdict_of t s m).news m.token) refl)

-- the exchanges after it

stay-waiting : (b : Bool) (v : Option ℕ) → b ≡ false → cond b None v ≡ v
stay-waiting true v e = absurd (false≢true (sym e))
stay-waiting false v e = refl

-- What it answers is told by what an exchange waits for.
pub hit-kept : {start : Start} (l : List Noted) (t : ℕ) (p : Peer) (s : LinkState) (m : Content) → Legal l → Agrees start l p s → Judged l p s m (answers l p m) (verdict_of t s m)
    → (e : Exchange) → ExchangeIn start l e → not (hit (answers l p m) m (waits_for l e.opening)) ≡ is_apart (ended_token (verdict_of t s m).news m.token) e
hit-kept l t p s m legal agrees judged e a =
    ap (λ (v : Option ℕ). not (hit (answers l p m) m v)) a.awaits
    ∙ ends-kept l t p s m legal agrees judged e a (awaited_by e.awaits e.sending) a.awaits a.sent

-- An exchange that it doesn't answer stays as it is.
pub kept-one : {start : Start} (l : List Noted) (t : ℕ) (p : Peer) (s : LinkState) (d : List ℕ) (m : Content) → Legal l
    → (e : Exchange) (b c : Bool) → (a : ExchangeIn start l e) → hit (answers l p m) m (waits_for l e.opening) ≡ false
    → b ≡ not (outrun (heard l t p d m ∷ l) (asked_place a.request) e.opening)
    → (is_get a.request ≡ true → IsNewest (heard l t p d m ∷ l) (asked_key a.request) (got_in l e.opening) c)
    → ((s : Stored) → kept_in l e.opening ≡ Some s → outdated (heard l t p d m ∷ l) (asked_key a.request) (first_in s.list) ≡ not c)
    → ExchangeIn start (heard l t p d m ∷ l) (record e { current = b; newest = c })
kept-one l t p s d m legal e b c a stays current newest kept_newest =
    exchange-stays (heard l t p d m) l e b c (λ k. k) (waits-after l t p d m (answers l p m) (notice_of l t p m (answers l p m)) e.opening ∙ stay-waiting (hit (answers l p m) m (waits_for l e.opening)) (waits_for l e.opening) stays) refl refl a current newest kept_newest

-- Nor does it get a reply, or end.
pub replies-kept : (l : List Noted) (t : ℕ) (p : Peer) (d : List ℕ) (m : Content) (o : ℕ) → hit (answers l p m) m (waits_for l o) ≡ false
    → replies (heard l t p d m ∷ l) o ≡ replies l o
replies-kept l t p d m o stays =
    ap (λ (u : Turn). replies_by (length l) u (replies l o)) (still-after l t p d m (answers l p m) (notice_of l t p m (answers l p m)) o stays)

pub end-kept : (l : List Noted) (t : ℕ) (p : Peer) (d : List ℕ) (m : Content) (o : ℕ) → hit (answers l p m) m (waits_for l o) ≡ false
    → end_of (heard l t p d m ∷ l) o ≡ end_of l o
end-kept l t p d m o stays = going-still l t p d m (answers l p m) (notice_of l t p m (answers l p m)) o stays

-- After any entry the open exchanges of before are those that go on, and all where it opens none.
pub going-later : (x : Noted) (l : List Noted) (es : List Exchange) → open_exchanges l ≡ map opening_of es
    → filter (is_going (x ∷ l)) (openings l) ≡ map opening_of (filter (λ (e : Exchange). is_going (x ∷ l) e.opening) es)
going-later x l es keys =
    filter_agree (is_going (x ∷ l)) (λ (o : ℕ). is_going (x ∷ l) o && is_going l o) (λ o. both o (is_going (x ∷ l) o) refl) (openings l)
    ∙ (filter-both (is_going (x ∷ l)) (is_going l) (openings l)
    ∙ (ap (filter (is_going (x ∷ l))) keys ∙ filter-map (is_going (x ∷ l)) opening_of es))
  where
    both : (o : ℕ) (b : Bool) → is_going (x ∷ l) o ≡ b → b ≡ (b && is_going l o)
    both o true is = sym (ap is_none (going-before x l o is).1)
    both o false is = refl

pub open-later : (x : Noted) (l : List Noted) (es : List Exchange) → openings (x ∷ l) ≡ openings l → open_exchanges l ≡ map opening_of es
    → open_exchanges (x ∷ l) ≡ map opening_of (filter (λ (e : Exchange). is_going (x ∷ l) e.opening) es)
open-later x l es same keys =
    ap (filter (is_going (x ∷ l))) same ∙ going-later x l es keys
