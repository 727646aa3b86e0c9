-- What a message makes known by which an exchange ends.
use Rattle.std.proofs.Common.{◌≡◌, ℕ, ◌≤◌, Bool, true, false, List, ◌∷◌, length, map, Some, None, inl, inr, refl, sym, ap, subst, ◌∙◌, [], Option, eqb}
use Rattle.exchange_model.proofs.Stales.{no-replies}
use Rattle.std.specs.Prelude.{is_some}
use Rattle.std.specs.List.{Contains}
use Rattle.std.proofs.lemmas.Bool.{and_parts, le-leb}
use Rattle.std.proofs.lemmas.Bool.Decides.{Decides-eqb}
use Rattle.coap_codec.specs.Spelling.{Content, Spells}
use Rattle.uri_map.specs.declared.peer.Peer.{Peer}
use Rattle.message_layer.specs.Hearing.{verdict_of}
use Rattle.message_layer.specs.declared.verdict.News.{News}
use Rattle.message_layer.specs.declared.verdict.News.TheVariants as N
use Rattle.ask_model.specs.Requests.{CoapRequest}
use Rattle.history_laws.specs.Responses.{Response, whole_of, confirms}
use Rattle.history_laws.specs.Readings.{Noted, Notice, Says, at, noted}
use Rattle.history_laws.specs.Exchanges.{Begun, kept as kept_of, replies, heard_for}
use Rattle.history_laws.specs.Hearing.{repeated, can_be_remembered}
use Rattle.history_laws.specs.Progress.{Reply, Ending, Whole, NotUnderstood, Reset, TimedOut, Turned, Progress, numbers, messages, Renewed}
use Rattle.history_laws.specs.Justified.{Ends as EndsIn}
use Rattle.history_laws.proofs.CallerLemmas.{begun-keeps, ends-all, all-of, at-new, before-new, ends-renewed, entries-length, renewed-of, renews-for, replies-fit, some-is, none-some}
use Rattle.history_links.specs.Steps.{ended_token, heard}
use Rattle.exchange_model.specs.declared.kept.Exchange.{Exchange}
use Rattle.exchange_model.specs.State.{State, link_of}
use Rattle.exchange_model.specs.Steps.{reply_at}
use Rattle.exchange_model.specs.Matters.{Nothing, Over, answered_in, has_next_place, matter_by, matter_of, stale_in}
use Rattle.exchange_model.specs.Hearing.{Numbers, hears}
use Rattle.exchange_model.specs.Calls.{repeats, goes_with}
use Rattle.exchange_model.specs.Growing.{AreHeardAt, IsWorkOf, IsHeardAt, IsKeptIn}
use Rattle.exchange_model.specs.Keeping.{MayStep}
use Rattle.exchange_model.specs.Laws.{MayHear}
use Rattle.exchange_model.proofs.Bare.{bare, bare_ending, messages-bare, numbers-bare}
use Rattle.exchange_model.proofs.Dropped.{repeat-quiet}
use Rattle.exchange_model.proofs.Heard.{hears-leads}
use Rattle.exchange_model.proofs.Heeding.{lost-or-new, may-hear}
use Rattle.exchange_model.proofs.HeardIn.{are-heard, heard-at, kept-heard}
use Rattle.exchange_model.proofs.Renewals.{kept-get}
use Rattle.exchange_model.proofs.Over.{IsOver, IsMatter, is-matter}
use Rattle.exchange_model.proofs.Silent.{now-from}
use Rattle.exchange_model.proofs.Works.{work-of}
use Rattle.resp_cache.specs.Stored.{Stored}
use Rattle.journal_book.specs.Entries.{Hears}
use Rattle.exchange_model.specs.Reads.{kept_in, kept_yet}

-- the whole response that the replies are, in which it ends
pub record EndsWhole (S : State) (e : Exchange) (w : Response) (rs : List Reply) : Type 0 where
  pub request : CoapRequest
  pub method : request.method ≡ e.method
  pub work : IsWorkOf request e.work
  pub has : Contains S.exchanges e
  pub whole : whole_of request (messages rs) ≡ Some w

whole-response : (v w : Response) (rs ss : List Reply) → Whole v rs ≡ Whole w ss → v ≡ w
whole-response v w rs ss e = cc

whole-replies : (v w : Response) (rs ss : List Reply) → Whole v rs ≡ Whole w ss → rs ≡ ss
whole-replies v w rs ss e = cc

record IsReally (w : Response) (rs : List Reply) (real : Ending) : Type 0 where
  replies_are : List Reply
  is : real ≡ Whole w replies_are
  same : rs ≡ map bare replies_are

really : (w : Response) (rs : List Reply) (real : Ending) → Whole w rs ≡ bare_ending real → IsReally w rs real
really w rs (Whole v ss) e = record {
  replies_are = ss;
  is = ap (λ (u : Response). Whole u ss) (sym (whole-response w v rs (map bare ss) e));
  same = whole-replies w v rs (map bare ss) e;
}
really w rs (Renewed s u) e = absurd cc
really w rs NotUnderstood e = absurd cc
really w rs Reset e = absurd cc
really w rs TimedOut e = absurd cc
really w rs Turned e = absurd cc

begun-request : (b c : Begun) → Some b ≡ Some c → b.request ≡ c.request
begun-request b c e = cc

over-nothing : (e : Exchange) (how : Ending) → Nothing ≡ Over e how → ⊥
over-nothing e how h = cc

over-goes : (e f : Exchange) (how : Ending) (u : Progress) → goes_with (Over e how) ≡ Some (f, u) → ⊥
over-goes e f how u h = none-some (f, u) h

-- What ends an exchange is new.
is-new : (t : ℕ) (p : Peer) (m : Content) (S : State) → (k : MayStep t S) → ((verdict_of t (link_of S.links p) m).news ≡ N.Lost → ⊥) → (e : Exchange) (how : Ending)
    → matter_of t p m (verdict_of t (link_of S.links p) m) S ≡ Over e how
    → (repeated k.kept.reading t p m ≡ None) × (can_be_remembered k.kept.reading t p m ≡ true)
is-new t p m S k kept e how is = by (repeats t (link_of S.links p) m) refl
  where
    l : List Noted
    l = k.kept.reading

    by : (b : Bool) → repeats t (link_of S.links p) m ≡ b → (repeated k.kept.reading t p m ≡ None) × (can_be_remembered k.kept.reading t p m ≡ true)
    by true again =
        let quiet = repeat-quiet t (link_of S.links p) m m.kind again in
        let v = verdict_of t (link_of S.links p) m in
        absurd (over-nothing e how
        (sym (ap (λ (news : News). matter_by t p news (has_next_place t p v S) m S (answered_in (ended_token news m.token) S.exchanges)) quiet) ∙ is))
    by false once = elim (lost-or-new l t p (link_of S.links p) m m.kind refl (k.kept.rests.reads.links_are p) (now-from l t S (record { reads = k.kept.rests.reads; later = k.later })) once) [
      | inl lost ↦ absurd (kept lost)
      | inr free ↦ (free.0, free.1)
    ]

-- The replies were heard, of which the message is the last.
pub over-heard : (t : ℕ) (p : Peer) (d : List ℕ) (m : Content) (n : Numbers) (S : State) → MayStep t S → is_some (link_of S.links p).last_mid ≡ true → length d ≤ 2048 → Spells m d
    → ((verdict_of t (link_of S.links p) m).news ≡ N.Lost → ⊥) → (e : Exchange) (w : Response) (rs : List Reply)
    → matter_of t p m (verdict_of t (link_of S.links p) m) S ≡ Over e (Whole w rs)
    → EndsWhole S e w rs × AreHeardAt (hears t p d m n S) (numbers rs) (messages rs)
over-heard t p d m n S k known short spelled kept e w rs is =
    let l = k.kept.reading in
    let may : MayHear l t p d S = may-hear t p d S k known (le-leb (length d) 2048 short) in
    let new = is-new t p m S k kept e (Whole w rs) is in
    let over : IsOver may.before.reads.start l t p d m S e (Whole w rs) =
    subst (IsMatter may.before.reads.start l t p d m S) is (is-matter l t p d m S may new.0 new.1) in
    let real = really w rs over.real over.same in
    let ends : EndsIn (heard l t p d m ∷ l) e.opening (length l) (Whole w real.replies_are) =
    subst (EndsIn (heard l t p d m ∷ l) e.opening (length l)) real.is over.ends in
    let made = hears-leads l t p d m n S may spelled new.0 new.1 (λ f u g. absurd (over-goes e f (Whole w rs) u (sym (ap goes_with is) ∙ g))) in
    let all = ends-all (heard l t p d m ∷ l) e.opening (length l) w real.replies_are made.leads.reads.legal ends in
    let hear : AreHeardAt (hears t p d m n S) (numbers real.replies_are) (messages real.replies_are) =
    are-heard (heard l t p d m ∷ l) (hears t p d m n S) made.leads.reads e.opening _ real.replies_are all.opened all.listed in
    let asked : all.exchange.request ≡ over.it.kept.request =
    begun-request all.exchange _ (sym all.opened ∙ begun-keeps (heard l t p d m) l e.opening _ over.it.kept.opening) in (
      record {
        request = all.exchange.request;
        method = ap (λ (q : CoapRequest). q.method) asked ∙ over.it.kept.method;
        work = subst (λ (q : CoapRequest). IsWorkOf q e.work) (sym asked) (work-of l e over.it.kept).0;
        has = over.it.has;
        whole = ap (whole_of all.exchange.request) (ap messages real.same ∙ messages-bare real.replies_are) ∙ all.whole;
      },
      subst (λ (ns : List ℕ). AreHeardAt (hears t p d m n S) ns (messages rs)) (sym (ap numbers real.same ∙ numbers-bare real.replies_are))
          (subst (λ (ms : List Content). AreHeardAt (hears t p d m n S) (numbers real.replies_are) ms) (sym (ap messages real.same ∙ messages-bare real.replies_are)) hear),
    )

-- The message says that what the exchange asks about is valid still, by which it ends.
pub record EndsConfirmed (S after : State) (e : Exchange) (m : Content) (s : Stored) (r : Reply) : Type 0 where
  pub has : Contains S.exchanges e
  pub get : e.method ≡ 1
  pub asks : stale_in e.opening S.stales ≡ Some s
  pub reply : r ≡ reply_at (length S.entries) m
  pub says : confirms s.response.etag m ≡ true
  pub was : IsKeptIn S s
  pub heard : IsHeardAt after r.number m

record IsRenewedReally (s : Stored) (r : Reply) (real : Ending) : Type 0 where
  reply : Reply
  is : real ≡ Renewed s reply
  same : r ≡ bare reply

renewed-really : (s : Stored) (r : Reply) (real : Ending) → Renewed s r ≡ bare_ending real → IsRenewedReally s r real
renewed-really s r (Renewed u v) e = record { reply = v; is = ap (λ (w : Stored). Renewed w v) (sym (inner e).0); same = (inner e).1 }
  where
    inner : Renewed s r ≡ Renewed u (bare v) → (s ≡ u) × (r ≡ bare v)
    inner h = (cc, cc)
renewed-really s r (Whole w rs) e = absurd cc
renewed-really s r NotUnderstood e = absurd cc
renewed-really s r Reset e = absurd cc
renewed-really s r TimedOut e = absurd cc
renewed-really s r Turned e = absurd cc

said-so : (m t : ℕ) (p q : Peer) (b d : List ℕ) (x y : Content) (i j : Option ℕ) (u v : Notice) → noted m (Hears p b) (Says x i u) ≡ noted t (Hears q d) (Says y j v) → x ≡ y
said-so m t p q b d x y i j u v e = go (ap (λ (z : Noted). z.note) e)
  where
    go : Says x i u ≡ Says y j v → x ≡ y
    go f = cc

pub over-renewed : (t : ℕ) (p : Peer) (d : List ℕ) (m : Content) (n : Numbers) (S : State) → MayStep t S → is_some (link_of S.links p).last_mid ≡ true → length d ≤ 2048 → Spells m d
    → ((verdict_of t (link_of S.links p) m).news ≡ N.Lost → ⊥) → (e : Exchange) (s : Stored) (r : Reply)
    → matter_of t p m (verdict_of t (link_of S.links p) m) S ≡ Over e (Renewed s r)
    → EndsConfirmed S (hears t p d m n S) e m s r
over-renewed t p d m n S k known short spelled kept e s r is =
    let l = k.kept.reading in
    let reads = k.kept.rests.reads in
    let x = heard l t p d m in
    let o : ℕ = e.opening in
    let may : MayHear l t p d S = may-hear t p d S k known (le-leb (length d) 2048 short) in
    let new = is-new t p m S k kept e (Renewed s r) is in
    let over : IsOver may.before.reads.start l t p d m S e (Renewed s r) =
    subst (IsMatter may.before.reads.start l t p d m S) is (is-matter l t p d m S may new.0 new.1) in
    let real = renewed-really s r over.real over.same in
    let v : Reply = real.reply in
    let ends : EndsIn (x ∷ l) o (length l) (Renewed s v) = subst (EndsIn (x ∷ l) o (length l)) real.is over.ends in
    let made = hears-leads l t p d m n S may spelled new.0 new.1 (λ f u g. absurd (over-goes e f (Renewed s r) u (sym (ap goes_with is) ∙ g))) in
    let turned = (ends-renewed (x ∷ l) o (length l) s v ends).turned in
    let keeps : kept_of l o ≡ Some s = ap (λ (h : List Noted). kept_of h o) (sym (before-new x l)) ∙ turned.keeps in
    let first : replies l o ≡ [] = no-replies l o (ap (λ (h : List Noted). heard_for h o) (sym (before-new x l)) ∙ turned.first) in
    let open_yet : kept_in l o ≡ Some s = ap (kept_yet (kept_of l o)) first ∙ keeps in
    let asks = sym (all-of (λ (f : Exchange). kept_in l f.opening ≡ stale_in f.opening S.stales) S.exchanges e reads.stales_are.kept over.it.has) ∙ open_yet in
    let number : v.number ≡ length l = sym (ap (λ (z : Reply). z.number) turned.reply) in
    let fits = replies-fit (x ∷ l) o v made.leads.reads.legal (renewed-of (x ∷ l) o (length l) s v ends) in
    let says : v.message ≡ m =
    said-so fits.moment t fits.peer p fits.bytes d v.message m (Some v.sending) _ fits.notice _
    (some-is _ _ (sym fits.heard ∙ (ap (at (x ∷ l)) number ∙ at-new x l))) in
    let here : length S.entries ≡ length l = ap length (sym reads.entries_are) ∙ entries-length l in
    record {
      has = over.it.has;
      get = sym over.it.kept.method
          ∙ (Decides-eqb over.it.kept.request.method 1).0
          (and_parts (eqb over.it.kept.request.method 1) _ (kept-get l o _ s reads.legal over.it.kept.opening open_yet)).0;
      asks = asks;
      reply = real.same ∙ (ap (λ (c : Content). reply_at v.number c) says ∙ ap (λ (i : ℕ). reply_at i m) (number ∙ sym here));
      says = subst (λ (c : Content). confirms s.response.etag c ≡ true) says turned.tells;
      was = kept-heard l S reads o _ s (renews-for l o _ s reads.legal over.it.kept.opening keeps);
      heard = subst (λ (i : ℕ). IsHeardAt (hears t p d m n S) i m) (sym (ap (λ (z : Reply). z.number) real.same))
          (subst (IsHeardAt (hears t p d m n S) v.number) says (heard-at (x ∷ l) (hears t p d m n S) made.leads.reads o v fits));
    }
