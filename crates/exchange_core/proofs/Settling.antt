-- What the end of an exchange does to the store, and a datagram to the other tables, is what the step says.
use Rattle.std.proofs.Common.{◌≡◌, ◌≤◌, ℕ, ◌+◌, Bool, true, false, cond, eqb, List, [], ◌∷◌, ◌++◌, map, Option, Some, None, refl, sym, ap, subst, ◌∙◌, ◌||◌, arith, length-append, take_all}
use Rattle.std.specs.Prelude.{filter, option_and_then, slice_get, take, ◌&&◌, ◌==◌, ◌-◌, is_none, is_some, length}
use Rattle.std.specs.Option.{option_map_or}
use Rattle.limits.specs.declared.TheConstants.{MAX_STORED}
use Rattle.coap_codec.specs.declared.block.Block.{Block}
use Rattle.cache_key.specs.Keys.{CacheKey}
use Rattle.resp_cache.specs.Stored.{Stored, is_never_fresh, stored_of}
use Rattle.resp_cache.specs.Stores.{is_elsewhere, others, placed}
use Rattle.resp_cache.specs.declared.pair.Pair.{Pair}
use Rattle.ask_model.specs.Requests.{CoapRequest}
use Rattle.ask_model.specs.Sharing.{asked_key, asked_place}
use Rattle.journal_book.specs.Entries.{Grounds, Live, Kept, Fault, Written}
use Rattle.history_laws.specs.Responses.{Response, renewed_response}
use Rattle.history_laws.proofs.CallerLemmas.{eqb-apart, got-last}
use Rattle.history_laws.specs.Progress.{Reply, numbers, Ending, Whole, Renewed, NotUnderstood, Reset, TimedOut, Turned, Progress}
use Rattle.reply_reading.specs.Findings.{Found, Told, Tells, Fails}
use Rattle.exchange_model.specs.declared.kept.Exchange.{Exchange}
use Rattle.exchange_model.specs.declared.kept.Piece.{Piece}
use Rattle.exchange_model.specs.declared.kept.Reader.{Reader}
use Rattle.exchange_model.specs.declared.kept.Stale.{Stale}
use Rattle.exchange_model.specs.declared.kept.Work.{Work}
use Rattle.exchange_model.specs.declared.kept.Work.TheVariants as W
use Rattle.exchange_model.specs.Matters.{Matter, asked_in, content_by, moment_in, progress_with, renewed_by, work_by}
use Rattle.exchange_model.specs.Hearing.{Numbers, exchanges_by, goes_so, got_by, is_of_other, issued_by, newest_content, outdated_by, pieces_by, pieces_with, put_by, retold, settled, settled_by, stales_by, store_by}
use Rattle.exchange_model.specs.Calls.{grounds_for}
use Rattle.exchange_table.specs.Stales.{is_about_another}
use Rattle.exchange_table.specs.Tables.{went_on}
use Rattle.exchange_table.proofs.CallerLemmas.{went-so}
use Rattle.exchange_progress.specs.Coming.{IsEnded, first_got, found_for, renews, told_as}
use Rattle.exchange_progress.specs.declared.coming.Ended.{Ended}
use Rattle.exchange_progress.specs.declared.coming.Ended.TheVariants as How
use Rattle.exchange_core.specs.declared.matter.Going.{Going}
use Rattle.exchange_core.specs.declared.matter.Notification.{Notification}
use Rattle.exchange_core.specs.declared.matter.Starting.{Starting}
use Rattle.exchange_core.specs.declared.matter.Matter.TheVariants as M
use Rattle.exchange_core.specs.declared.storing.Put.{Put}
use Rattle.exchange_core.specs.declared.storing.Put.TheVariants as P
use Rattle.exchange_core.specs.Hearing.{IsFirstBy, IsFirstSo, is_first}
use Rattle.exchange_core.specs.Matters.{IsMatter}
use Rattle.exchange_core.specs.Storing.{content_told, if_newest, is_newest_found, is_outdating, if_unchanged, key_ended, key_got, outdated_under, put_for, put_in, put_under, renewed_for, settled_with, stored_for}

-- what is put, or else what is there
abbrev with_put : Put → Option CacheKey → List Pair → List Pair → List Pair
with_put (P.Stores p) key qs ps = take MAX_STORED (placed p.key p.stored ps)
with_put P.Outdates key qs ps = outdated_under key ps
with_put P.Nothing key qs ps = qs

placed-either : (b : Bool) (s : Stored) (k : CacheKey) (qs ps : List Pair) → is_never_fresh s ≡ b
    → take MAX_STORED (placed k s ps)
    ≡ with_put (cond b P.Outdates (P.Stores (record { key = k; stored = s }))) (Some k) qs ps
placed-either true s k qs ps is =
    ap (λ (c : Bool). take MAX_STORED (cond c (others k ps) (record { key = k; stored = s } ∷ others k ps))) is
placed-either false s k qs ps is = refl

by-tests : (m r b : Bool) (f : Option Stored) (k : CacheKey) (fl ps : List Pair)
    → cond m (cond ((m && r) && b) (put_by f k ps) ps) fl
    ≡ with_put (put_under (cond b (cond (m && r) (Some k) None) None) f)
    (cond b (cond (m && r) (Some k) None) None)
    (cond m (cond ((m && r) && b) (put_by None k ps) ps) fl) ps
by-tests false r true f k fl ps = refl
by-tests false r false f k fl ps = refl
by-tests true false true f k fl ps = refl
by-tests true false false f k fl ps = refl
by-tests true true false f k fl ps = refl
by-tests true true true None k fl ps = refl
by-tests true true true (Some s) k fl ps = placed-either (is_never_fresh s) s k ps ps refl

by-request : (o : Option CoapRequest) (b : Bool) (f : Option Stored) (ps : List Pair)
    → settled_by o b f ps
    ≡ with_put (put_under (cond b (option_and_then key_got o) None) f)
    (cond b (option_and_then key_got o) None) (settled_by o b None ps) ps
by-request None true f ps = refl
by-request None false f ps = refl
by-request (Some q) b f ps =
    by-tests (q.method == 1) (is_none q.format && (length q.body == 0)) b f (asked_key q)
    (filter (is_elsewhere (asked_place q)) ps) ps

with-same : (ws : List Written) (e : Option Exchange) (put : Put) (ps : List Pair)
    → with_put put (key_ended ws e) (settled ws e None ps) ps ≡ settled_with ws e put ps
with-same ws e P.Nothing ps = refl
with-same ws e (P.Stores p) ps = refl
with-same ws e P.Outdates ps = refl

settled-put : (ws : List Written) (e : Option Exchange) (f : Option Stored) (ps : List Pair)
    → settled ws e f ps ≡ settled_with ws e (put_for ws e f) ps
settled-put ws None f ps = refl
settled-put ws (Some e) f ps =
    by-request (asked_in ws e.ask) e.current f ps ∙ with-same ws (Some e) (put_for ws (Some e) f) ps

-- what is told, as it is stored

not-false : true ≡ false → ⊥
not-false e = cc

content-told : (ws : List Written) (t o n : ℕ) (how : Ending) (sending : Option ℕ) (r : Reader) → renews how ≡ false
    → stored_for ws t o (told_as how) (grounds_for how n sending r) ≡ content_by ws t o how
content-told ws t o n (Whole w []) sending r old = refl
content-told ws t o n (Whole w (x ∷ xs)) sending r old = refl
content-told ws t o n (Renewed s u) sending r old = absurd (not-false old)
content-told ws t o n NotUnderstood sending r old = refl
content-told ws t o n Reset sending r old = refl
content-told ws t o n TimedOut sending r old = refl
content-told ws t o n Turned sending r old = refl

none_told : (ws : List Written) (t o : ℕ) (w : Response) (g : Grounds) (b : Bool) → cond b (Some w) None ≡ None → eqb w.code 69 ≡ b → stored_for ws t o (Tells w) g ≡ None
none_told ws t o w g true e is = absurd cc
none_told ws t o w (Live []) false e is = refl
none_told ws t o w (Live (j ∷ js)) false e is = rw (is) refl
none_told ws t o w (Kept js) false e is = refl
none_told ws t o w (Fault c k) false e is = refl

pub stored-none : (ws : List Written) (t o : ℕ) (told : Told) (g : Grounds) → content_told told ≡ None → stored_for ws t o told g ≡ None
stored-none ws t o (Fails cause) g e = refl
stored-none ws t o (Tells w) g e = none_told ws t o w g (eqb w.code 69) e refl

some_told : (ws : List Written) (t o : ℕ) (w v : Response) (j : ℕ) (js : List ℕ) (b : Bool) → cond b (Some w) None ≡ Some v
    → cond b (Some (stored_of w o (moment_in ws t j) (j ∷ js))) None ≡ Some (stored_of v o (moment_in ws t j) (j ∷ js))
some_told ws t o w v j js true e = ap (λ (u : Option Response). stored_by u) e
  where
    stored_by : Option Response → Option Stored
    stored_by None = None
    stored_by (Some u) = Some (stored_of u o (moment_in ws t j) (j ∷ js))
some_told ws t o w v j js false e = absurd cc

pub stored-some : (ws : List Written) (t o : ℕ) (told : Told) (v : Response) (j : ℕ) (js : List ℕ) → content_told told ≡ Some v
    → stored_for ws t o told (Live (j ∷ js)) ≡ Some (stored_of v o (moment_in ws t j) (j ∷ js))
stored-some ws t o (Fails cause) v j js e = absurd cc
stored-some ws t o (Tells w) v j js e = some_told ws t o w v j js (eqb w.code 69) e

-- what is put

some_reader : Reader
some_reader = record { ask = 0; conn = 0; opening = 0 }

both-none : (b c : Bool) → cond {A = Option Stored} b None None ≡ cond c None None
both-none true true = refl
both-none true false = refl
both-none false true = refl
both-none false false = refl

none-either : (b : Bool) → cond {A = Option Stored} b None None ≡ None
none-either true = refl
none-either false = refl

newest-told : (ws : List Written) (t n : ℕ) (e : Exchange) (how : Ending) (sending : Option ℕ) (r : Reader) → renews how ≡ false
    → if_newest e (found_for how n sending r) (stored_for ws t e.ask (told_as how) (grounds_for how n sending r)) ≡ newest_content ws t e how
newest-told ws t n e (Whole w []) sending r old = both-none e.newest e.newest
newest-told ws t n e (Renewed s u) sending r old = absurd (not-false old)
newest-told ws t n e (Whole w (x ∷ [])) sending r old = refl
newest-told ws t n e (Whole w (x ∷ y ∷ ys)) sending r old =
    ap (λ (b : Bool). cond (b || e.newest) (content_by ws t e.ask (Whole w (x ∷ y ∷ ys))) None)
    (eqb-apart (length (numbers (x ∷ y ∷ ys))) 1 (λ (h : length (numbers (x ∷ y ∷ ys)) ≡ 1). omega (arith, h)))
newest-told ws t n e NotUnderstood sending r old = none-either (is_newest_found e (found_for NotUnderstood n sending r))
newest-told ws t n e Reset sending r old = none-either (is_newest_found e (found_for Reset n sending r))
newest-told ws t n e TimedOut sending r old = none-either (is_newest_found e (found_for TimedOut n sending r))
newest-told ws t n e Turned sending r old = none-either (is_newest_found e (found_for Turned n sending r))

pub put-ended : (n t : ℕ) (ws : List Written) (e : Exchange) (f : Found) (how : Ending) → IsEnded n (How.Found f) how
    → put_for ws (Some e) (if_newest e f (stored_for ws t e.ask f.told f.grounds)) ≡ put_for ws (Some e) (newest_content ws t e how)
put-ended n t ws e f how i =
    ap (λ (g : Found). put_for ws (Some e) (if_newest e g (stored_for ws t e.ask g.told g.grounds))) (i.0 None some_reader)
    ∙ ap (put_for ws (Some e)) (newest-told ws t n e how None some_reader i.1)

-- what was renewed, as it is stored

pub last-got : (js : List ℕ) (n : ℕ) → slice_get (js ++ n ∷ []) (length (js ++ n ∷ []) - 1) ≡ Some n
last-got js n =
    ap (slice_get (js ++ n ∷ [])) (let more = length-append js (n ∷ []) in omega (arith, more)) ∙ got-last js n []

renewed-told : (ws : List Written) (t : ℕ) (s : Stored) (u : Reply)
    → renewed_for ws t s.opening (Tells (renewed_response s.response u.message)) (Live (s.list ++ u.number ∷ [])) ≡ Some (renewed_by ws t s u)
renewed-told ws t s u =
    ap (λ (v : Option ℕ). Some (stored_of (renewed_response s.response u.message) s.opening (option_map_or (moment_in ws t) v t) (s.list ++ u.number ∷ []))) (last-got s.list u.number)

pub put-renewed : (n t opening : ℕ) (ws : List Written) (e : Exchange) (f : Found) (how : Ending) → IsEnded n (How.Renewed f opening) how
    → put_for ws (Some e) (if_unchanged e (renewed_for ws t opening f.told f.grounds)) ≡ put_for ws (Some e) (newest_content ws t e how)
put-renewed n t opening ws e f how i =
    let s = i.1.0 in
    let u = i.1.1 in
    let is : how ≡ Renewed s u = i.1.2 in
    let found : f ≡ found_for (Renewed s u) n None some_reader = i.0 None some_reader ∙ ap (λ (h : Ending). found_for h n None some_reader) is in
    ap (λ (g : Found). put_for ws (Some e) (if_unchanged e (renewed_for ws t opening g.told g.grounds))) found
    ∙ (ap (λ (o : ℕ). put_for ws (Some e) (if_unchanged e (renewed_for ws t o (Tells (renewed_response s.response u.message)) (Live (s.list ++ u.number ∷ []))))) i.1.3
    ∙ (ap (λ (v : Option Stored). put_for ws (Some e) (if_unchanged e v)) (renewed-told ws t s u)
    ∙ ap (λ (h : Ending). put_for ws (Some e) (newest_content ws t e h)) (sym is)))

-- what exchanges ask about after it

pub stales-nothing : (n : ℕ) (new : Numbers) (x : Matter) (xs : List Stale) → IsMatter n new M.Nothing x → xs ≡ stales_by x xs
stales-nothing n new x xs i = sym (ap (λ (y : Matter). stales_by y xs) i)

pub stales-tell : (n : ℕ) (new : Numbers) (k : Notification) (x : Matter) (xs : List Stale) → IsMatter n new (M.Tells k) x → xs ≡ stales_by x xs
stales-tell n new k x xs i = sym (ap (λ (y : Matter). stales_by y xs) i.1)

pub stales-start : (n : ℕ) (new : Numbers) (k : Starting) (x : Matter) (xs : List Stale) → IsMatter n new (M.Starts k) x → xs ≡ stales_by x xs
stales-start n new k x xs i = sym (ap (λ (y : Matter). stales_by y xs) i.2)

pub stales-go : (n : ℕ) (new : Numbers) (g : Going) (x : Matter) (xs : List Stale) → IsMatter n new (M.Goes g) x
    → filter (is_about_another g.exchange.opening) xs ≡ stales_by x xs
stales-go n new g x xs i = sym (ap (λ (y : Matter). stales_by y xs) i.1)

pub stales-over : (n : ℕ) (new : Numbers) (e : Exchange) (ended : Ended) (x : Matter) (xs : List Stale) → IsMatter n new (M.Over e ended) x
    → filter (is_about_another e.opening) xs ≡ stales_by x xs
stales-over n new e ended x xs i = sym (ap (λ (y : Matter). stales_by y xs) i.1)

pub put-none : (key : Option CacheKey) → put_under key None ≡ P.Nothing
put-none None = refl
put-none (Some key) = refl

pub put-turned : (t : ℕ) (ws : List Written) (e : Exchange) (how : Ending) → how ≡ Turned → P.Nothing ≡ put_for ws (Some e) (newest_content ws t e how)
put-turned t ws e how is = sym (ap (λ (u : Ending). put_for ws (Some e) (newest_content ws t e u)) is ∙ put-none (key_ended ws (Some e)))

-- It isn't new, or it is.
pub put-old : (ws : List Written) (e : Exchange) (f : Found) (s : Option Stored) → is_newest_found e f ≡ false → P.Nothing ≡ put_for ws (Some e) (if_newest e f s)
put-old ws e f s old = sym (ap (λ (b : Bool). put_for ws (Some e) (cond b s None)) old ∙ put-none (key_ended ws (Some e)))

pub put-new : (ws : List Written) (e : Exchange) (f : Found) (s : Option Stored) (o : Put) → is_newest_found e f ≡ true → o ≡ put_for ws (Some e) s
    → o ≡ put_for ws (Some e) (if_newest e f s)
put-new ws e f s o new is = is ∙ sym (ap (λ (b : Bool). put_for ws (Some e) (cond b s None)) new)

-- It is never fresh, or it is stored.
outdates : (key : CacheKey) (s : Option Stored) → is_outdating s ≡ true → P.Outdates ≡ put_under (Some key) s
outdates key None e = absurd (not-true e)
  where
    not-true : false ≡ true → ⊥
    not-true k = cc
outdates key (Some s) e = sym (ap (λ (b : Bool). cond b P.Outdates (P.Stores (record { key = key; stored = s }))) e)

pub put-outdates : (ws : List Written) (e : Exchange) (key : CacheKey) (s : Option Stored) → Some key ≡ key_ended ws (Some e) → is_outdating s ≡ true
    → P.Outdates ≡ put_for ws (Some e) s
put-outdates ws e key s is out = outdates key s out ∙ ap (λ (k : Option CacheKey). put_under k s) is

pub put-stores : (ws : List Written) (e : Exchange) (key : CacheKey) (s : Stored) → Some key ≡ key_ended ws (Some e) → is_never_fresh s ≡ false
    → P.Stores (record { key = key; stored = s }) ≡ put_for ws (Some e) (Some s)
put-stores ws e key s is fresh =
    sym (ap (λ (b : Bool). cond b P.Outdates (P.Stores (record { key = key; stored = s }))) fresh)
    ∙ ap (λ (k : Option CacheKey). put_under k (Some s)) is

-- What a notification puts is what its key holds after it.
abbrev pair_in : Pair → Put → Pair
pair_in p (P.Stores q) = q
pair_in p P.Outdates = p
pair_in p P.Nothing = p

few-taken : (ps : List Pair) → length ps ≤ MAX_STORED → take MAX_STORED ps ≡ ps
few-taken ps few = take_all MAX_STORED ps few

pub retold-stores : (key : CacheKey) (found : Option Stored) (p : Pair) (ps : List Pair) → P.Stores p ≡ put_under (Some key) found
    → take MAX_STORED (placed p.key p.stored ps) ≡ retold key found ps
retold-stores key None p ps e = absurd (cc e)
retold-stores key (Some s) p ps e = by (is_never_fresh s) e
  where
    by : (b : Bool) → P.Stores p ≡ cond b P.Outdates (P.Stores (record { key = key; stored = s }))
        → take MAX_STORED (placed p.key p.stored ps) ≡ take MAX_STORED (placed key s ps)
    by true is = absurd (cc is)
    by false is = ap (λ (q : Pair). take MAX_STORED (placed q.key q.stored ps)) (ap (pair_in p) is)

pub retold-outdates : (key : CacheKey) (found : Option Stored) (ps : List Pair) → length (others key ps) ≤ MAX_STORED → P.Outdates ≡ put_under (Some key) found
    → others key ps ≡ retold key found ps
retold-outdates key None ps few e = absurd (cc e)
retold-outdates key (Some s) ps few e = by (is_never_fresh s) refl e
  where
    by : (b : Bool) → is_never_fresh s ≡ b → P.Outdates ≡ cond b P.Outdates (P.Stores (record { key = key; stored = s }))
        → others key ps ≡ take MAX_STORED (placed key s ps)
    by true is e =
        sym (ap (λ (c : Bool). take MAX_STORED (cond c (others key ps) (record { key = key; stored = s } ∷ others key ps))) is
        ∙ few-taken (others key ps) few)
    by false is e = absurd (cc e)

pub retold-nothing : (key : CacheKey) (found : Option Stored) (ps : List Pair) → P.Nothing ≡ put_under (Some key) found
    → others key ps ≡ retold key found ps
retold-nothing key None ps e = refl
retold-nothing key (Some s) ps e = by (is_never_fresh s) e
  where
    by : (b : Bool) → P.Nothing ≡ cond b P.Outdates (P.Stores (record { key = key; stored = s }))
        → others key ps ≡ take MAX_STORED (placed key s ps)
    by true is = absurd (cc is)
    by false is = absurd (cc is)

pub outdated-some : (ws : List Written) (e : Exchange) (key : CacheKey) (ps qs : List Pair) → Some key ≡ key_ended ws (Some e) → qs ≡ others key ps → length qs ≤ MAX_STORED
    → qs ≡ outdated_under (key_ended ws (Some e)) ps
outdated-some ws e key ps qs is same few =
    same ∙ (sym (few-taken (others key ps) (subst (λ (rs : List Pair). length rs ≤ MAX_STORED) same few))
    ∙ ap (λ (k : Option CacheKey). outdated_under k ps) is)

pub outdated-none : (ws : List Written) (e : Exchange) (ps : List Pair) → None ≡ key_ended ws (Some e) → ps ≡ outdated_under (key_ended ws (Some e)) ps
outdated-none ws e ps is = ap (λ (k : Option CacheKey). outdated_under k ps) is

-- the store after it

pub stored-over : (n t : ℕ) (ws : List Written) (new : Numbers) (e : Exchange) (ended : Ended) (x : Matter) (put : Put) (ps : List Pair) → IsMatter n new (M.Over e ended) x
    → put ≡ put_in ws t x → settled_with ws (Some e) put ps ≡ store_by ws t x ps
stored-over n t ws new e ended x put ps i is =
    ap (λ (o : Put). settled_with ws (Some e) o ps) (is ∙ ap (put_in ws t) i.1)
    ∙ (sym (settled-put ws (Some e) (newest_content ws t e i.0) ps) ∙ sym (ap (λ (y : Matter). store_by ws t y ps) i.1))

pub stored-tells : (n t : ℕ) (ws : List Written) (new : Numbers) (k : Notification) (x : Matter) (put : Put) (ps qs : List Pair) → IsMatter n new (M.Tells k) x
    → put ≡ put_in ws t x → ((found : Option Stored) → put ≡ put_under (Some k.key) found → qs ≡ retold k.key found ps) → qs ≡ store_by ws t x ps
stored-tells n t ws new k x put ps qs i is so =
    so k.found (is ∙ (ap (put_in ws t) i.1 ∙ ap (λ (key : CacheKey). put_under (Some key) k.found) (sym i.2)))
    ∙ (ap (λ (key : CacheKey). retold key k.found ps) i.2 ∙ sym (ap (λ (y : Matter). store_by ws t y ps) i.1))

pub stored-starts : (n t : ℕ) (ws : List Written) (new : Numbers) (k : Starting) (x : Matter) (put : Put) (ps qs : List Pair) → IsMatter n new (M.Starts k) x
    → put ≡ put_in ws t x → ((found : Option Stored) → put ≡ put_under (Some k.key) found → qs ≡ retold k.key found ps) → qs ≡ store_by ws t x ps
stored-starts n t ws new k x put ps qs i is so =
    so None (is ∙ ap (put_in ws t) i.2)
    ∙ (ap (λ (key : CacheKey). retold key None ps) i.3 ∙ sym (ap (λ (y : Matter). store_by ws t y ps) i.2))

pub stored-nothing : (n t : ℕ) (ws : List Written) (new : Numbers) (x : Matter) (ps : List Pair) → IsMatter n new M.Nothing x → ps ≡ store_by ws t x ps
stored-nothing n t ws new x ps i = sym (ap (λ (y : Matter). store_by ws t y ps) i)

pub stored-goes : (n t : ℕ) (ws : List Written) (new : Numbers) (g : Going) (x : Matter) (ps : List Pair) → IsMatter n new (M.Goes g) x → ps ≡ store_by ws t x ps
stored-goes n t ws new g x ps i = sym (ap (λ (y : Matter). store_by ws t y ps) i.1)

-- the exchanges after it

pub exchanges-go : (n : ℕ) (ws : List Written) (new : Numbers) (g : Going) (x : Matter) (xs : List Piece) (es : List Exchange) → IsMatter n new (M.Goes g) x
    → IsFirstSo xs (M.Goes g) x
    → map (went_on g.exchange.token g.token g.onward.work (is_first xs g)) es ≡ exchanges_by ws new.token x es
exchanges-go n ws new g x xs es i first =
    went-so g.exchange g.token g.onward.work (is_first xs g) (progress_with g.onward.work i.2.got) (works g.onward.work i.2.got)
    (subst (IsFirstBy (is_first xs g)) i.2.is (subst (IsFirstSo xs (M.Goes g)) i.1 first)) es
    ∙ (ap (λ (token : List ℕ). map (goes_so g.exchange token (progress_with g.onward.work i.2.got)) es) i.3
    ∙ sym (ap (λ (y : Matter). exchanges_by ws new.token y es) i.1
    ∙ ap (λ (u : Progress). map (goes_so g.exchange new.token u) es) i.2.is))
  where
    works : (w : Work) (got : List Reply) (old : Work) → work_by (progress_with w got) old ≡ w
    works (W.Fetches restarts pieces) got old = refl
    works (W.Gives upload) got old = refl

pub exchanges-tell : (n : ℕ) (ws : List Written) (new : Numbers) (k : Notification) (x : Matter) (es : List Exchange) → IsMatter n new (M.Tells k) x
    → map (outdated_by ws k.key) es ≡ exchanges_by ws new.token x es
exchanges-tell n ws new k x es i =
    ap (λ (key : CacheKey). map (outdated_by ws key) es) i.2 ∙ sym (ap (λ (y : Matter). exchanges_by ws new.token y es) i.1)

pub exchanges-start : (n : ℕ) (ws : List Written) (new : Numbers) (k : Starting) (x : Matter) (es : List Exchange) → IsMatter n new (M.Starts k) x
    → map (outdated_by ws k.key) es ++ k.going.exchange ∷ [] ≡ exchanges_by ws new.token x es
exchanges-start n ws new k x es i =
    ap (λ (key : CacheKey). map (outdated_by ws key) es ++ k.going.exchange ∷ []) i.3
    ∙ (ap (λ (token : List ℕ). map (outdated_by ws i.0.key) es ++ record k.going.exchange { token = token } ∷ []) i.9
    ∙ sym (ap (λ (y : Matter). exchanges_by ws new.token y es) i.2))

-- the pieces after it

pub pieces-tell : (n : ℕ) (new : Numbers) (k : Notification) (x : Matter) (xs : List Piece) → IsMatter n new (M.Tells k) x → xs ≡ pieces_by n x xs
pieces-tell n new k x xs i = sym (ap (λ (y : Matter). pieces_by n y xs) i.1)

pub issued-tells : (n : ℕ) (new : Numbers) (k : Notification) (x : Matter) (old : ℕ) → IsMatter n new (M.Tells k) x → old ≡ issued_by x old
issued-tells n new k x old i = sym (ap (λ (y : Matter). issued_by y old) i.1)

pub issued-starts : (n : ℕ) (new : Numbers) (k : Starting) (x : Matter) (old : ℕ) → IsMatter n new (M.Starts k) x → old + 1 ≡ issued_by x old
issued-starts n new k x old i = sym (ap (λ (y : Matter). issued_by y old) i.2)

got-with : (w : Work) (got : List Reply) → got_by (progress_with w got) ≡ got
got-with (W.Fetches restarts pieces) got = refl
got-with (W.Gives upload) got = refl

some-named : (b : Option Block) → is_some b ≡ true → is_none b ≡ false
some-named None e = absurd (cc e)
some-named (Some b) e = refl

pieces-got : (e : Exchange) (n : ℕ) (got : List Reply) (b : Option Block) (xs : List Piece) → is_none b ≡ is_none (first_got got)
    → (is_none b ≡ true → filter (is_of_other e) xs ≡ pieces_with e n got xs)
    × (is_none b ≡ false → xs ++ record { opening = e.opening; number = n } ∷ [] ≡ pieces_with e n got xs)
pieces-got e n [] b xs same = (λ none. refl, λ some. absurd (clash (sym some ∙ same)))
  where
    clash : false ≡ true → ⊥
    clash k = cc
pieces-got e n (r ∷ rs) b xs same = (λ none. absurd (clash (sym none ∙ same)), λ some. refl)
  where
    clash : true ≡ false → ⊥
    clash k = cc

pieces-are : (n : ℕ) (new : Numbers) (g : Going) (x : Matter) (xs : List Piece) → (i : IsMatter n new (M.Goes g) x)
    → pieces_with g.exchange n i.2.got xs ≡ pieces_by n x xs
pieces-are n new g x xs i =
    sym (ap (λ (y : Matter). pieces_by n y xs) i.1
    ∙ (ap (λ (u : Progress). pieces_with g.exchange n (got_by u) xs) i.2.is ∙ ap (λ (got : List Reply). pieces_with g.exchange n got xs) (got-with g.onward.work i.2.got)))

pub pieces-start : (n : ℕ) (new : Numbers) (k : Starting) (x : Matter) (xs : List Piece) → IsMatter n new (M.Starts k) x
    → xs ++ record { opening = k.going.exchange.opening; number = n } ∷ [] ≡ pieces_by n x xs
pieces-start n new k x xs i =
    let e : Exchange = record k.going.exchange { token = [] } in
    (pieces-got e n i.5.got k.going.onward.block xs i.5.anew).1 (some-named k.going.onward.block i.6)
    ∙ sym (ap (λ (y : Matter). pieces_by n y xs) i.2
    ∙ (ap (λ (u : Progress). pieces_with e n (got_by u) xs) i.5.is ∙ ap (λ (got : List Reply). pieces_with e n got xs) (got-with k.going.onward.work i.5.got)))

pub pieces-next : (n : ℕ) (new : Numbers) (g : Going) (x : Matter) (xs : List Piece) (b : Block) → IsMatter n new (M.Goes g) x → g.onward.block ≡ Some b
    → xs ++ record { opening = g.exchange.opening; number = n } ∷ [] ≡ pieces_by n x xs
pieces-next n new g x xs b i some =
    (pieces-got g.exchange n i.2.got g.onward.block xs i.2.anew).1 (ap (λ (o : Option Block). is_none o) some) ∙ pieces-are n new g x xs i

pub pieces-anew : (n : ℕ) (new : Numbers) (g : Going) (x : Matter) (xs : List Piece) → IsMatter n new (M.Goes g) x → g.onward.block ≡ None
    → filter (is_of_other g.exchange) xs ≡ pieces_by n x xs
pieces-anew n new g x xs i none =
    (pieces-got g.exchange n i.2.got g.onward.block xs i.2.anew).0 (ap (λ (o : Option Block). is_none o) none) ∙ pieces-are n new g x xs i

pub ended-told : (ws : List Written) (t o n : ℕ) (f : Found) (how : Ending) → IsEnded n (How.Found f) how → stored_for ws t o f.told f.grounds ≡ content_by ws t o how
ended-told ws t o n f how i =
    ap (λ (g : Found). stored_for ws t o g.told g.grounds) (i.0 None some_reader) ∙ content-told ws t o n how None some_reader i.1
