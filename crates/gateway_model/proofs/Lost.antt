-- Why a datagram was dropped, of the entries.
use Rattle.std.proofs.Common.{◌≡◌, ◌⊎◌, inl, inr, ℕ, ◌+◌, ◌≤◌, ◌<◌, Bool, true, false, cond, List, [], ◌∷◌, ◌++◌, length, Option, Some, None, refl, sym, ◌∙◌, subst, arith, is_some, ap}
use Rattle.std.specs.Prelude.{count_by, find}
use Rattle.std.specs.List.{AllByRecursion, list_any}
use Rattle.std.specs.Prelude.{◌&&◌}
use Rattle.std.proofs.lemmas.Bool.{and_parts, or_parts}
use Rattle.coap_codec.proofs.Again.{message_again}
use Rattle.coap_codec.specs.Spelling.{Content, Spells}
use Rattle.uri_map.specs.declared.peer.Peer.{Peer}
use Rattle.uri_map.specs.Peers.{same_peer}
use Rattle.journal_book.specs.Entries.{Ground, Past, Asked, Sent, Heard, Deed, Opens, Asks, Sends, Hears, Passes, Answers, Shuts, Seals, Carries, Written}
use Rattle.history_laws.specs.Hearing.{is_such, is_live, live_heard, recalls, recalls_by}
use Rattle.history_laws.specs.Justified.{Legal, Follows}
use Rattle.history_laws.specs.Readings.{Noted, Note, Plain, Begins, Renews, First, Copies, Confirms, Says, Repeats, Garbled, Bygone, Recalls, entries, Joins, Serves}
use Rattle.history_laws.specs.Transmissions.{FirstSending, firsts, firsts_by, last_sent}
use Rattle.exchange_model.specs.Reads.{Reads}
use Rattle.exchange_model.specs.Room.{KeptInRoom}
use Rattle.exchange_model.specs.State.{State}
use Rattle.exchange_model.proofs.CallerLemmas.{count-cons, one}
use Rattle.gateway_model.specs.Hearing.{IsSentElsewhere, IsStranger, IsCrowded, came_lately, is_recent_from, is_such_in, may_come_again}
use Rattle.gateway_model.proofs.Heard.{WhyLost}

all-push : (P : Written → Type 0) (ws : List Written) (w : Written) → AllByRecursion P ws → P w → AllByRecursion P (ws ++ w ∷ [])
all-push P [] w h p = (p, tt)
all-push P (x ∷ ws) w h p = (h.0, all-push P ws w h.1 p)

-- Where nothing was sent to the endpoint for the first time, and nothing of it is recalled, no entry is such a sending or a
-- copy that tells of one.

not-found : (b : Bool) (f : FirstSending) (o : Option FirstSending) → cond b (Some f) o ≡ None → (b ≡ false) × (o ≡ None)
not-found true f o e = absurd cc
not-found false f o e = (refl, e)

abbrev found_to : Peer → List FirstSending → Option FirstSending
found_to p fs = find (λ (f : FirstSending). same_peer f.peer p) fs

sent-by : (l : List Noted) (n t : ℕ) (p : Peer) (d : Deed) (note : Note) (old : List FirstSending) → Follows l t d note
    → found_to p (firsts_by n t d note old) ≡ None → recalls_by p d note ≡ false → IsSentElsewhere p d × (found_to p old ≡ None)
sent-by l n t p (Opens c) note old f e r = (tt, e)
sent-by l n t p (Asks c a) note old f e r = (tt, e)
sent-by l n t p (Sends q b None) (First o m) old f e r =
    let parts = not-found (same_peer q p) (record { number = n; moment = t; opening = o; peer = q; message = m }) (found_to p old) e in
    (tt, parts.1)
sent-by l n t p (Sends q b None) note old f e r = (tt, e)
sent-by l n t p (Sends q b (Some w)) (First o m) old f e r =
    not-found (same_peer q p) (record { number = n; moment = t; opening = o; peer = q; message = m }) (found_to p old) e
sent-by l n t p (Sends q b (Some w)) (Copies i) old f e r = absurd (some-none w f.1.1)
  where
    some-none : (k : ℕ) → Some k ≡ None → ⊥
    some-none k e = cc
sent-by l n t p (Sends q b (Some w)) Confirms old f e r = absurd (some-none w f.1.0)
  where
    some-none : (k : ℕ) → Some k ≡ None → ⊥
    some-none k e = cc
sent-by l n t p (Sends q b (Some w)) note old f e r = absurd f.1
sent-by l n t p (Hears q b) note old f e r = (tt, e)
sent-by l n t p Passes note old f e r = (tt, e)
sent-by l n t p (Answers c k g) note old f e r = (tt, e)
sent-by l n t p (Shuts c) note old f e r = (tt, e)
sent-by l n t p Seals note old f e r = (tt, e)
sent-by l n t p (Carries k Past (Sent q b None)) (Bygone m) old f e r =
    let parts = not-found (same_peer q p) (record { number = n; moment = t; opening = n; peer = q; message = m }) (found_to p old) e in
    (tt, parts.1)
sent-by l n t p (Carries k Past (Sent q b (Some w))) (Bygone m) old f e r =
    not-found (same_peer q p) (record { number = n; moment = t; opening = n; peer = q; message = m }) (found_to p old) e
sent-by l n t p (Carries k Past (Heard q b)) (Recalls m a) old f e r = (r, e)
sent-by l n t p (Carries k Ground (Sent q b None)) (First o m) old f e r =
    let parts = not-found (same_peer q p) (record { number = n; moment = t; opening = o; peer = q; message = m }) (found_to p old) e in
    (tt, parts.1)
sent-by l n t p (Carries k Ground (Sent q b (Some w))) (First o m) old f e r =
    not-found (same_peer q p) (record { number = n; moment = t; opening = o; peer = q; message = m }) (found_to p old) e
sent-by l n t p (Carries k Ground (Heard q b)) (Recalls m a) old f e r = (r, e)
sent-by l n t p (Carries k mark (Asked c a)) note old f e r = (tt, e)
sent-by l n t p (Carries k mark done) note old f e r = absurd f.2

pub strange : (l : List Noted) (p : Peer) → Legal l → last_sent l p ≡ None → list_any (recalls p) l ≡ false → IsStranger p (entries l)
strange [] p h e r = tt
strange (x ∷ l) p h e r =
    let both = or_parts (recalls p x) (list_any (recalls p) l) r in
    let so = sent-by l _ x.written.moment p x.written.deed x.note (firsts l) h.2 e both.0 in
    all-push (λ (w : Written). IsSentElsewhere p w.deed) (entries l) x.written (strange l p h.0 so.1 both.1) so.0

-- What can be repeated came in lately.

such-as : (m : Content) (b : List ℕ) → Spells m b → is_such m.kind ≡ true → may_come_again b ≡ true
such-as m b spelled such = ap is_such_in (message_again m b spelled) ∙ such

came-so : (m : Content) (b : List ℕ) (x y : Bool) → Spells m b → (is_such m.kind && (x && y)) ≡ true → (may_come_again b && (x && y)) ≡ true
came-so m b x y spelled e =
    let parts = and_parts (is_such m.kind) (x && y) e in
    ap (λ (c : Bool). c && (x && y)) (such-as m b spelled parts.0) ∙ parts.1

live-came : (l : List Noted) (t s : ℕ) (p : Peer) (d : Deed) (note : Note) → Follows l s d note → is_live t p s d note ≡ true
    → came_lately t p s d ≡ true
live-came l t s p (Opens c) note f e = absurd cc
live-came l t s p (Asks c a) note f e = absurd cc
live-came l t s p (Sends q b w) note f e = absurd cc
live-came l t s p (Hears q b) (Says m to notice) f e = came-so m b (same_peer q p) _ f.3.spelled e
live-came l t s p (Hears q b) Plain f e = absurd cc
live-came l t s p (Hears q b) (Begins r) f e = absurd cc
live-came l t s p (Hears q b) (Renews r kept) f e = absurd cc
live-came l t s p (Hears q b) (Joins o) f e = absurd cc
live-came l t s p (Hears q b) (Serves js) f e = absurd cc
live-came l t s p (Hears q b) (First o m) f e = absurd cc
live-came l t s p (Hears q b) (Copies i) f e = absurd cc
live-came l t s p (Hears q b) Confirms f e = absurd cc
live-came l t s p (Hears q b) (Repeats m j) f e = absurd cc
live-came l t s p (Hears q b) Garbled f e = absurd cc
live-came l t s p (Hears q b) (Bygone m) f e = absurd cc
live-came l t s p (Hears q b) (Recalls m a) f e = absurd cc
live-came l t s p Passes note f e = absurd cc
live-came l t s p (Answers c k g) note f e = absurd cc
live-came l t s p (Shuts c) note f e = absurd cc
live-came l t s p Seals note f e = absurd cc
live-came l t s p (Carries k Past (Heard q b)) (Recalls m a) f e = came-so m b (same_peer q p) _ f.2.spelled e
live-came l t s p (Carries k Ground (Heard q b)) (Recalls m a) f e = came-so m b (same_peer q p) _ f.2.spelled e
live-came l t s p (Carries k mark done) note f e = absurd cc

count-push : (f : Written → Bool) (ws : List Written) (w : Written) → count_by f (ws ++ w ∷ []) ≡ count_by f ws + one (f w)
count-push f [] w = let here = count-cons f w [] in omega (arith, here)
count-push f (x ∷ ws) w =
    let ih = count-push f ws w in
    let long = count-cons f x (ws ++ w ∷ []) in
    let short = count-cons f x ws in
    omega (arith, ih, long, short)

more-if : (a b : Bool) (n m : ℕ) → (a ≡ true → b ≡ true) → n ≤ m → cond a (n + 1) n ≤ m + one b
more-if true true n m f le = omega arith
more-if true false n m f le = absurd (differ (f refl))
  where
    differ : false ≡ true → ⊥
    differ e = cc
more-if false true n m f le = omega arith
more-if false false n m f le = omega arith

pub lately : (t : ℕ) (p : Peer) (l : List Noted) → Legal l → live_heard l t p ≤ count_by (is_recent_from t p) (entries l)
lately t p [] legal = omega arith
lately t p (x ∷ l) legal =
    let push = count-push (is_recent_from t p) (entries l) x.written in
    rw push (more-if (is_live t p x.written.moment x.written.deed x.note) (is_recent_from t p x.written)
    (live_heard l t p) (count_by (is_recent_from t p) (entries l))
    (live-came l t x.written.moment p x.written.deed x.note legal.2) (lately t p l legal.0))

-- What the core keeps of the endpoint is what the entries say.

not-some : (o : Option FirstSending) → is_some o ≡ false → o ≡ None
not-some None e = refl
not-some (Some f) e = absurd cc

pub why-dropped : (t : ℕ) (p : Peer) (d : List ℕ) (S : State) → KeptInRoom S → S.moment ≤ t → WhyLost t p d S
    → IsStranger p S.entries ⊎ ((2048 < length d) ⊎ ((may_come_again d ≡ true) × IsCrowded t p S.entries))
why-dropped t p d S kept le why =
    by kept.kept.reading kept.kept.rests.reads why
  where
    by : (l : List Noted) → Reads l S → WhyLost t p d S
        → IsStranger p S.entries ⊎ ((2048 < length d) ⊎ ((may_come_again d ≡ true) × IsCrowded t p S.entries))
    by l r (inl unknown) =
        let none = or_parts (is_some (last_sent l p)) (list_any (recalls p) l) (sym (r.links_are p).known ∙ ap is_some unknown) in
        inl (subst (IsStranger p) r.entries_are (strange l p r.legal (not-some (last_sent l p) none.0) none.1))
    by l r (inr (inl long)) = inr (inl long)
    by l r (inr (inr many)) =
        let now = r.moment_is in
        let live = (r.links_are p).heard.live t (omega (arith, now, le), omega (arith, now, le)) in
        let most = lately t p l r.legal in
        let kept = many.1 in
        let all : 1024 ≤ count_by (is_recent_from t p) (entries l) = omega (arith, kept, live, most) in
        inr (inr (many.0, subst (IsCrowded t p) r.entries_are all))
