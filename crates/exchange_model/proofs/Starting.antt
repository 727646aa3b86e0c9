-- What the first piece of an update is, and whether its rest is fetched: the same in the history and in the state.
use Rattle.std.proofs.Common.{◌≡◌, ◌⊎◌, ℕ, inl, inr, Bool, true, false, cond, ◌&&◌, ◌||◌, List, [], ◌∷◌, ◌++◌, map, Option, None, Ok, Err, refl, sym, ap, ◌∙◌}
use Rattle.std.specs.List.{AllByRecursion, list_any}
use Rattle.std.specs.Option.{option_map_or}
use Rattle.std.proofs.lemmas.Bool.{false≢true}
use Rattle.coap_codec.specs.Spelling.{Content}
use Rattle.uri_map.specs.declared.peer.Peer.{Peer}
use Rattle.blockwise.specs.Downloads.{no_pieces, Judged, judged, with_piece}
use Rattle.blockwise.specs.declared.fault.BlockFault.TheVariants as F
use Rattle.blockwise.specs.declared.pieces.Step.TheVariants.{Next, Last}
use Rattle.cache_key.specs.Keys.{CacheKey, same_key}
use Rattle.cache_key.proofs.CallerLemmas.{keys_decided}
use Rattle.observe_share.specs.declared.registration.Registration.{Registration}
use Rattle.observe_share.specs.declared.notice.Notice.TheVariants.{Update}
use Rattle.ask_model.specs.Requests.{CoapRequest}
use Rattle.ask_model.specs.Sharing.{asked_key, is_get}
use Rattle.history_laws.specs.Responses.{is_tellable}
use Rattle.history_laws.specs.Readings.{Noted}
use Rattle.history_laws.specs.Progress.{Ending, NotUnderstood, Progress, Fetches, Gives, Ends, fetched_by, fetched_whole}
use Rattle.history_laws.specs.Exchanges.{begun}
use Rattle.history_laws.specs.Joining.{asks_the_same}
use Rattle.history_laws.specs.Observing.{as_first, first_reply}
use Rattle.history_laws.specs.Hearing.{counts_as, is_read, starts_for}
use Rattle.history_laws.proofs.CallerLemmas.{all-more, IsGoing}
use Rattle.exchange_model.specs.declared.kept.Exchange.{Exchange}
use Rattle.exchange_model.specs.State.{State}
use Rattle.exchange_model.specs.Reads.{ExchangeIn, opening_of, Reads}
use Rattle.exchange_model.specs.Matters.{Starts, Tells, found_in, is_reading, may_start, reads_key, starting, told_so}
use Rattle.exchange_model.proofs.Outrun.{asked-here}

-- Whether a piece ends what it begins doesn't depend on the entry in which it was heard.
abbrev pub AreAlike : Progress → Progress → Type 0
AreAlike u w =
    ((how : Ending) × (u ≡ Ends how) × (was : Ending) × (w ≡ Ends was)) ⊎ (IsGoing u × IsGoing w)

pub first-alike : (n : ℕ) (m : Content) → AreAlike (as_first n 0 m) (as_first 0 0 m)
first-alike n m = by (is_tellable m) (judged no_pieces m)
  where
    by : (b : Bool) (j : Judged)
        → AreAlike (cond b (fetched_by j 0 (with_piece no_pieces m) ([] ++ first_reply n 0 m ∷ [])) (Ends NotUnderstood))
        (cond b (fetched_by j 0 (with_piece no_pieces m) ([] ++ first_reply 0 0 m ∷ [])) (Ends NotUnderstood))
    by false j = inl (NotUnderstood, refl, NotUnderstood, refl)
    by true (Ok (Next block)) = inr (tt, tt)
    by true (Ok Last) = inl (fetched_whole (first_reply n 0 m ∷ []), refl, fetched_whole (first_reply 0 0 m ∷ []), refl)
    by true (Err F.Changed) = inr (tt, tt)
    by true (Err F.Size) = inl (NotUnderstood, refl, NotUnderstood, refl)
    by true (Err F.Gap) = inl (NotUnderstood, refl, NotUnderstood, refl)
    by true (Err F.TooLarge) = inl (NotUnderstood, refl, NotUnderstood, refl)
    by true (Err F.Memory) = inl (NotUnderstood, refl, NotUnderstood, refl)

-- Where it goes on nothing is stored by it, and it may begin an exchange.
pub going-none : (t : ℕ) (S : State) (o v : ℕ) (u : Progress) → IsGoing u → found_in t S (Update v) o u ≡ None
going-none t S o v (Fetches k pieces got) g = refl
going-none t S o v (Gives upload got) g = refl
going-none t S o v (Ends how) g = absurd g

pub told-going : (t : ℕ) (p : Peer) (S : State) (r : Registration) (v : ℕ) (u : Progress) → IsGoing u
    → told_so t p S r (Update v) u ≡ cond (may_start t p r S) (Starts r (starting t p r u S) u) (Tells r None)
told-going t p S r v (Fetches k pieces got) g = refl
told-going t p S r v (Gives upload got) g = refl
told-going t p S r v (Ends how) g = absurd g

pub counts-going : (l : List Noted) (t : ℕ) (r : Registration) (v : ℕ) (u : Progress) → IsGoing u
    → counts_as l t r (Update v) u ≡ starts_for l t r.opening (begun l r.opening)
counts-going l t r v (Fetches k pieces got) g = refl
counts-going l t r v (Gives upload got) g = refl
counts-going l t r v (Ends how) g = absurd g

-- An open exchange reads the same.
pub turned-key : (k j : CacheKey) → same_key k j ≡ same_key j k
turned-key k j = by (same_key k j) refl (same_key j k) refl
  where
    by : (b : Bool) → same_key k j ≡ b → (c : Bool) → same_key j k ≡ c → b ≡ c
    by true e true f = refl
    by false e false f = refl
    by true e false f = absurd (false≢true (sym f ∙ (keys_decided j k).1 (sym ((keys_decided k j).0 e))))
    by false e true f = absurd (false≢true (sym e ∙ (keys_decided k j).1 (sym ((keys_decided j k).0 f))))

any-mapped : (f : ℕ → Bool) (g : Exchange → Bool) (es : List Exchange) → AllByRecursion (λ (e : Exchange). f e.opening ≡ g e) es
    → list_any f (map opening_of es) ≡ list_any g es
any-mapped f g [] a = refl
any-mapped f g (e ∷ es) a =
    ap (λ (b : Bool). b || list_any f (map opening_of es)) a.0 ∙ ap (λ (b : Bool). g e || b) (any-mapped f g es a.1)

pub read-same : (l : List Noted) (S : State) (r : Reads l S) (q : CoapRequest) → is_get q ≡ true
    → is_read l q ≡ list_any (is_reading S.entries (asked_key q)) S.exchanges
read-same l S r q get =
    ap (list_any (λ (o : ℕ). asks_the_same q (begun l o))) r.keys
    ∙ any-mapped (λ (o : ℕ). asks_the_same q (begun l o)) (is_reading S.entries (asked_key q)) S.exchanges
    (all-more (ExchangeIn r.start l) _ one S.exchanges r.exchanges_are)
  where
    one : (e : Exchange) → ExchangeIn r.start l e → asks_the_same q (begun l e.opening) ≡ is_reading S.entries (asked_key q) e
    one e a =
        ap (asks_the_same q) a.opening
        ∙ (ap (λ (b : Bool). b && (is_get a.request && same_key (asked_key q) (asked_key a.request))) get
        ∙ (ap (λ (b : Bool). is_get a.request && b) (turned-key (asked_key q) (asked_key a.request))
        ∙ sym (ap (λ (v : Option CoapRequest). option_map_or (reads_key (asked_key q)) v false) (asked-here l S r e a))))
