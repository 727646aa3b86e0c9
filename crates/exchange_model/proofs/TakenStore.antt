-- What is carried over is what is stored after a turn.
use Rattle.std.proofs.Common.{◌≡◌, ◌≢◌, ◌⊎◌, ℕ, zero, Bool, true, false, ◌&&◌, ltb, inl, inr, List, [], ◌∷◌, length, map, Option, Some, None, refl, sym, ap, subst, ◌∙◌, arith}
use Rattle.std.specs.Prelude.{is_some, ◌||◌}
use Rattle.std.specs.List.{AllByRecursion, Contains, list_any}
use Rattle.std.proofs.lemmas.Bool.{false≢true, ltb-true, ltb-false}
use Rattle.coap_codec.specs.Spelling.{Content}
use Rattle.uri_map.specs.declared.peer.Peer.{Peer}
use Rattle.ask_model.specs.Requests.{CoapRequest}
use Rattle.ask_model.specs.Sharing.{asked_key, asks_same, is_get}
use Rattle.cache_key.specs.Keys.{CacheKey}
use Rattle.cache_key.proofs.CallerLemmas.{keys_decided}
use Rattle.resp_cache.specs.Stored.{Stored, is_never_fresh}
use Rattle.resp_cache.specs.Stores.{is_of}
use Rattle.resp_cache.specs.declared.pair.Pair.{Pair}
use Rattle.journal_book.specs.Entries.{Deed, Asks, Sends, Hears, Carries, Written, done_of}
use Rattle.journal_book.specs.Entries as D
use Rattle.history_laws.specs.Responses.{Response, whole_of}
use Rattle.history_laws.specs.Readings.{Noted, Note, Says, Recalls, at, before}
use Rattle.history_laws.specs.Progress.{Reply, numbers, messages}
use Rattle.history_laws.specs.Transmissions.{FirstSending}
use Rattle.history_laws.specs.Exchanges.{Begun, End, end_of, ask_behind}
use Rattle.history_laws.specs.Observing.{outdated}
use Rattle.history_laws.specs.Carrying.{replied_by, CarriesSo}
use Rattle.history_laws.specs.Storing.{ComesSo, IsStored, IsUnused, IsUse, IsCrowdedOut}
use Rattle.history_laws.specs.Justified.{Legal}
use Rattle.history_laws.proofs.CallerLemmas.{all-of, any-of, at-below, at-keeps, at-new, at-old, at-same, begun-listed, contains-later, contains-map, contains-none, copy-at, number-of, some-is, ended-begun}
use Rattle.exchange_model.proofs.Came.{comes-begun}
use Rattle.exchange_model.specs.Reads.{AreLastFirst, AreUnused, HasPair, PairIn, StoreIn}
use Rattle.exchange_model.specs.Rotating.{has, Backed, carried_numbers, pair_at, place_of}
use Rattle.exchange_model.proofs.Shapes.{Copy, Sent, Aimed, Heard, Bare, copy_as, copy_by, moment-copy}
use Rattle.exchange_model.proofs.Copies.{add_copy, all-copies, copied, copy_in}
use Rattle.exchange_model.proofs.CopiedIdle.{openings-copied}
use Rattle.exchange_model.proofs.TakenPlaced.{backed-copy}
use Rattle.exchange_model.proofs.Backed.{asked_at, asked-below, AreBacked, ArePlaced, carried-back, carried-copied}
use Rattle.exchange_model.proofs.StoredFacts.{HearsAs}
use Rattle.exchange_model.proofs.Taken.{AreTaken, BackedApart, BackedFacts, IsListed, listed, one-pair, opening-listed, reply-listed}
use Rattle.exchange_model.proofs.TakenBacked.{are-backed, ask-listed, asked-ask, asked-later, reply-under, same-keys, home-then}
use Rattle.exchange_model.proofs.TakenReplies.{AreFit, all-fit, early-all, place-rises, renumbered, replies-copied}

-- Nothing comes for a GET in a journal of copies, and no notification counts.

and-none : (b : Bool) → (b && false) ≡ false
and-none true = refl
and-none false = refl

none-outdated-add : (n s : ℕ) (oc : Option Copy) (c : List Noted) (key : CacheKey) (k : ℕ) → outdated c key k ≡ false → outdated (add_copy n s oc c) key k ≡ false
none-outdated-add n s None c key k e = e
none-outdated-add n s (Some (Sent mark p b w m)) c key k e = ap (λ (v : Bool). v || outdated c key k) (and-none (ltb k (length c))) ∙ e
none-outdated-add n s (Some (Aimed p b w o m)) c key k e = ap (λ (v : Bool). v || outdated c key k) (and-none (ltb k (length c))) ∙ e
none-outdated-add n s (Some (Heard mark p b m a)) c key k e = ap (λ (v : Bool). v || outdated c key k) (and-none (ltb k (length c))) ∙ e
none-outdated-add n s (Some (Bare done)) c key k e = ap (λ (v : Bool). v || outdated c key k) (and-none (ltb k (length c))) ∙ e

none-outdated : (home : ℕ → ℕ) (gs : List ℕ) (t : ℕ) (l : List Noted) (key : CacheKey) (k : ℕ) → outdated (copied home gs t l) key k ≡ false
none-outdated home gs t [] key k = refl
none-outdated home gs t (x ∷ older) key k =
    none-outdated-add (length older) x.written.moment (copy_in home gs t (length older) x) (copied home gs t older) key k (none-outdated home gs t older key k)

none-comes : (home : ℕ → ℕ) (gs : List ℕ) (t : ℕ) (l : List Noted) (o e : ℕ) (w : Response) (rs : List Reply) → Legal (copied home gs t l) → ComesSo (copied home gs t l) o e w rs → ⊥
none-comes home gs t l o e w rs legal h =
    let c = copied home gs t l in
    let it = comes-begun c o e w rs legal h in
    contains-none o (subst (λ (os : List ℕ). Contains os o) (openings-copied home gs t l) (begun-listed c o (ap is_some it.1)))

none-ended : (home : ℕ → ℕ) (gs : List ℕ) (t : ℕ) (l : List Noted) (o : ℕ) (e : End) → Legal (copied home gs t l) → end_of (copied home gs t l) o ≡ Some e → ⊥
none-ended home gs t l o e legal ended =
    let c = copied home gs t l in
    let it = ended-begun c o e legal ended in
    contains-none o (subst (λ (os : List ℕ). Contains os o) (openings-copied home gs t l) (begun-listed c o (ap is_some it.1)))

none-used : (home : ℕ → ℕ) (gs : List ℕ) (t : ℕ) (l : List Noted) (n : ℕ) (key : CacheKey) → Legal (copied home gs t l) → IsUse (copied home gs t l) n key → ⊥
none-used home gs t l n key legal (inl u) = false≢true (copy-at (copied home gs t l) n _ (all-copies home gs t l) u.stands)
none-used home gs t l n key legal (inr (inl u)) = none-comes home gs t l u.opening n u.response (u.first ∷ u.more) legal u.comes
none-used home gs t l n key legal (inr (inr u)) = none-ended home gs t l u.opening _ legal u.ended

-- The copy of an entry has its moment.
moved-at : (gs : List ℕ) (f home : ℕ → ℕ) (t : ℕ) (l : List Noted) (n : ℕ) (x : Noted) → AreBacked gs l → ArePlaced gs f home t l → has gs n ≡ true → at l n ≡ Some x
    → (y : Noted) × (at (copied home gs t l) (f n) ≡ Some y) × (y.written.moment ≡ x.written.moment)
moved-at gs f home t [] n x backed placed listed e = absurd cc
moved-at gs f home t (z ∷ older) n x backed placed listed e =
    elim (at-old z older n x e) [
      | inl w ↦
          let mine : has gs (length older) ≡ true = ap (has gs) (sym w.0) ∙ listed in
          let copy = backed-copy gs f home t older z.written.deed z.note (backed.1 mine) in
          let made : copy_in home gs t (length older) z ≡ Some copy.0 = ap (λ (b : Bool). copy_by b home t z.written.moment z.written.deed z.note) mine ∙ copy.1 in
          let y : Noted = copy_as (length older) z.written.moment copy.0 in (
            y,
            ap (λ (v : Option Copy). at (add_copy (length older) z.written.moment v (copied home gs t older)) (f n)) made
                ∙ (ap (at (y ∷ copied home gs t older)) (ap f w.0 ∙ (placed.1 mine).0) ∙ at-new y (copied home gs t older)),
            moment-copy (length older) z.written.moment copy.0 ∙ ap (λ (z : Noted). z.written.moment) w.1,
          )
      | inr w ↦
          let it = moved-at gs f home t older n x backed.0 placed.0 listed w in
          (it.0, keeps (copy_in home gs t (length older) z) it.0 it.1, it.2)
    ]
  where
    keeps : (oc : Option Copy) (y : Noted) → at (copied home gs t older) (f n) ≡ Some y → at (add_copy (length older) z.written.moment oc (copied home gs t older)) (f n) ≡ Some y
    keeps None y e = e
    keeps (Some c) y e = at-keeps (copy_as (length older) z.written.moment c) (copied home gs t older) (f n) y e

hears-done : (d : Deed) (note : Note) (p : Peer) (m : Content) → HearsAs d note p m → (b : List ℕ) × (q : Peer) × (done_of d ≡ Some (D.Heard q b))
hears-done (Hears q b) (Says n to notice) p m h = (b, q, refl)
hears-done (Carries k mark (D.Heard q b)) (Recalls n a) p m h = (b, q, refl)
hears-done d note p m h = absurd h

hears-one : (d : Deed) (note : Note) (p q : Peer) (m n : Content) → HearsAs d note p m → HearsAs d note q n → (p ≡ q) × (m ≡ n)
hears-one (Hears r b) (Says v to notice) p q m n h k = (sym h.0 ∙ k.0, sym h.1 ∙ k.1)
hears-one (Carries i mark (D.Heard r b)) (Recalls v a) p q m n h k = (sym h.0 ∙ k.0, sym h.1 ∙ k.1)
hears-one d note p q m n h k = absurd h

module _ (ws : List Written) (t : ℕ) (l : List Noted) (bs : List Backed) (legal : Legal l) (taken : AreTaken l bs) where
  abbrev f : ℕ → ℕ
  f n = place_of ws n

  abbrev home : ℕ → ℕ
  home o = place_of ws (ask_behind l o)

  abbrev gs : List ℕ
  gs = carried_numbers bs

  module _ (placed : ArePlaced gs f home t l) (legal_copied : Legal (copied home gs t l)) where
    abbrev after : List Noted
    after = copied home gs t l

    all_backed : AreBacked gs l
    all_backed = are-backed l bs legal taken

    -- one of them
    module _ (b : Backed) (among : Contains bs b) (h : BackedFacts l b) where
      abbrev o : ℕ
      o = b.pair.stored.opening

      abbrev q : CoapRequest
      q = h.facts.request

      abbrev rs : List Reply
      rs = h.facts.first ∷ h.facts.more

      abbrev opened : Begun
      opened = record { since = h.facts.ask.entry.written.moment; request = q }

      asked : asked_at l o ≡ Some opened
      asked = asked-ask l o q h.facts.ask

      mine : has gs o ≡ true
      mine = opening-listed l bs b legal among h

      apart : (k : ℕ) (c : Begun) → has gs k ≡ true → asked_at l k ≡ Some c → f k ≡ f o → k ≡ o
      apart k c listed_it e same = by (ltb k o) refl (ltb o k) refl
        where
          by : (u : Bool) → ltb k o ≡ u → (v : Bool) → ltb o k ≡ v → k ≡ o
          by true u v w =
              let less = place-rises gs f home t l k o c placed listed_it mine e (ltb-true k o u) (asked-below l o opened asked) in
              absurd (omega (arith, less, same))
          by false u true v =
              let less = place-rises gs f home t l o k opened placed mine listed_it asked (ltb-true o k v) (asked-below l k c e) in
              absurd (omega (arith, less, same))
          by false u false v = let a = ltb-false k o u in let b = ltb-false o k v in omega (arith, a, b)

      -- another pair whose ask is this is this one
      same-pair : (c : Backed) → Contains bs c → (k : BackedFacts l c) → c.pair.stored.opening ≡ o → c ≡ b
      same-pair c has_c k same =
          one-pair bs c b taken.apart has_c among
          (sym k.facts.key
          ∙ (ap (λ (b : Begun). asked_key b.request)
          (some-is _ _ (sym (asked-ask l c.pair.stored.opening k.facts.request k.facts.ask) ∙ (ap (asked_at l) same ∙ asked)))
          ∙ h.facts.key))

      one : (n : ℕ) (x : Noted) → at l n ≡ Some x → (r : Reply) → Contains rs r → r.number ≡ n
          → (has gs n ≡ true) × HearsAs x.written.deed x.note q.peer r.message
          × ((g : FirstSending) × (replied_by (before l n) q.peer r.message ≡ Some g) × (ask_behind (before l n) g.opening ≡ o) × (g.number ≡ r.sending))
      one n x stands r of same =
          let facts = h.facts.replies r of in
          let entry : facts.heard_in ≡ x = at-same l n facts.heard_in x (ap (at l) (sym same) ∙ facts.heard) stands in (
            ap (has gs) (sym same) ∙ (reply-listed l bs b legal among h r of).1,
            subst (λ (x : Noted). HearsAs x.written.deed x.note q.peer r.message) entry facts.says,
            (
              record { number = r.sending; moment = facts.sent_at; opening = facts.owner; peer = q.peer; message = facts.sent },
              reply-under l bs legal taken n x b r h of stands (sym same),
              home-then l bs legal taken n x b r h of stands (let lt = facts.opened in let later = facts.later in omega (arith, lt, later, same)),
              refl,
            ),
          )

      all : (n : ℕ) (x : Noted) → at l n ≡ Some x → (p : Peer) (m : Content) (g : FirstSending) → has gs n ≡ true → HearsAs x.written.deed x.note p m
          → replied_by (before l n) p m ≡ Some g → ask_behind (before l n) g.opening ≡ o → Contains rs (record { number = n; sending = g.number; message = m })
      all n x stands p m g listed_it hears found opening = by (listed l bs n legal taken.facts listed_it)
        where
          not-heard : (k : ℕ) (y : Noted) (done : D.Done) → n ≡ k → at l k ≡ Some y → done_of y.written.deed ≡ Some done → ((b : List ℕ) (q : Peer) → Some done ≡ Some (D.Heard q b) → ⊥) → ⊥
          not-heard k y done same is done_is never =
              let entry : y ≡ x = at-same l n y x (ap (at l) same ∙ is) stands in
              let heard = hears-done x.written.deed x.note p m hears in
              never heard.0 heard.1 (sym done_is ∙ (ap (λ (x : Noted). done_of x.written.deed) entry ∙ heard.2))

          -- the one with this number
          here : Contains b.pair.stored.list n → Contains rs (record { number = n; sending = g.number; message = m })
          here has_n =
              let it = number-of rs n (subst (λ (ns : List ℕ). Contains ns n) h.facts.list has_n) in
              let r : Reply = it.0 in
              let known = one n x stands r it.1 it.2 in
              let same = hears-one x.written.deed x.note q.peer p r.message m known.1 hears in
              let first : Some known.2.0 ≡ Some g =
              sym known.2.1 ∙ (ap (λ (p : Peer). replied_by (before l n) p r.message) same.0 ∙ (ap (replied_by (before l n) p) same.1 ∙ found)) in
              let sending : r.sending ≡ g.number = sym known.2.3 ∙ ap (λ (g : FirstSending). g.number) (some-is _ _ first) in
              subst (λ (r : Reply). Contains rs r) (reply-is r n g.number m it.2 sending same.1) it.1
            where
              reply-is : (r : Reply) (n i : ℕ) (m : Content) → r.number ≡ n → r.sending ≡ i → r.message ≡ m → r ≡ record { number = n; sending = i; message = m }
              reply-is r n i m a b c =
                  ap (λ (n : ℕ). record { number = n; sending = r.sending; message = r.message }) a
                  ∙ (ap (λ (i : ℕ). record { number = n; sending = i; message = r.message }) b
                  ∙ ap (λ (m : Content). record { number = n; sending = i; message = m }) c)

          by : IsListed l bs n → Contains rs (record { number = n; sending = g.number; message = m })
          by it =
              let facts = it.known.facts in
              elim it.one [
                | inl u ↦ absurd (not-heard it.backed.pair.stored.opening facts.ask.entry (D.Asked facts.ask.conn facts.ask.ask) u facts.ask.stands facts.ask.done (λ b q e. cc))
                | inr u ↦
                    let r = facts.replies u.0 u.1 in
                    elim u.2 [
                      | inl v ↦ absurd (not-heard u.0.sending r.sent_in (D.Sent facts.request.peer r.text r.timeout) v r.sending r.sent_done (λ b q e. cc))
                      | inr v ↦
                          let entry : r.heard_in ≡ x = at-same l n r.heard_in x (ap (at l) v ∙ r.heard) stands in
                          let says = subst (λ (x : Noted). HearsAs x.written.deed x.note facts.request.peer u.0.message) entry r.says in
                          let same = hears-one x.written.deed x.note facts.request.peer p u.0.message m says hears in
                          let under = reply-under l bs legal taken n x it.backed u.0 it.known u.1 stands v in
                          let first : Some _ ≡ Some g =
                          sym under ∙ (ap (λ (p : Peer). replied_by (before l n) p u.0.message) same.0 ∙ (ap (replied_by (before l n) p) same.1 ∙ found)) in
                          let lt = r.opened in
                          let later = r.later in
                          let opens : it.backed.pair.stored.opening ≡ o =
                          sym (home-then l bs legal taken n x it.backed u.0 it.known u.1 stands (omega (arith, lt, later, v)))
                          ∙ (ap (λ (g : FirstSending). ask_behind (before l n) g.opening) (some-is _ _ first) ∙ opening) in
                          let is = same-pair it.backed it.among it.known opens in
                          let among_them : Contains it.backed.pair.stored.list n =
                          subst (λ (ns : List ℕ). Contains ns n) (sym facts.list)
                          (subst (λ (k : ℕ). Contains (numbers (facts.first ∷ facts.more)) k) (sym v) (contains-map (λ (r : Reply). r.number) (facts.first ∷ facts.more) u.0 u.1)) in
                          here (subst (λ (c : Backed). Contains c.pair.stored.list n) is among_them)
                    ]
              ]

      fits : AreFit gs f home t o rs h.facts.rising q.peer l
      fits = all-fit gs f home t o rs h.facts.rising q.peer l (λ n x stands. record {
        one = λ r of same. let it = one n x stands r of same in (it.0, it.1, (it.2.0, it.2.1, it.2.2));
        all = λ p m g listed_it hears found opening. all n x stands p m g listed_it hears found opening;
        apart = λ k c listed_it e same. apart k c listed_it (asked-later l n k c e) same;
      })

      abbrev renumber : Reply → Reply
      renumber r = renumbered gs f home t r

      same-messages : (rs : List Reply) → messages (map renumber rs) ≡ messages rs
      same-messages [] = refl
      same-messages (r ∷ rs) = ap (λ (ms : List Content). r.message ∷ ms) (same-messages rs)

      moved-numbers : (rs : List Reply) → map (place_of ws) (numbers rs) ≡ numbers (map renumber rs)
      moved-numbers [] = refl
      moved-numbers (r ∷ rs) = ap (λ (ns : List ℕ). place_of ws r.number ∷ ns) (moved-numbers rs)

      pub carried-so : CarriesSo after (f o) b.pair.stored.response (map renumber rs)
      carried-so = record {
        exchange = opened;
        asked = carried-copied gs f home t l o opened placed mine asked;
        get = h.facts.get;
        replies =
            replies-copied gs f home t o rs h.facts.rising q.peer l all_backed placed fits
            ∙ ap (map renumber) (early-all (length l) rs (λ r of. let facts = h.facts.replies r of in at-below l r.number facts.heard_in facts.heard));
        whole = ap (whole_of q) (same-messages rs) ∙ h.facts.whole;
      }

      pub pair-in : PairIn after (pair_at ws b)
      unfolding carried-so
      pair-in =
          let first = moved-at gs f home t l h.facts.first.number h.facts.entry all_backed placed (reply-listed l bs b legal among h h.facts.first (zero, omega arith, refl)).1 h.facts.heard_in in
          record {
            request = q;
            get = h.facts.get;
            key = h.facts.key;
            stored = inl (inr (
              record {
                opening = f o;
                first = renumber h.facts.first;
                more = map renumber h.facts.more;
                carries = carried-so;
                code = h.facts.code;
                same = asks-itself q h.facts.get;
                current = ap (list_any _) (openings-copied home gs t l);
                newest = none-outdated home gs t l (asked_key q) (f h.facts.first.number);
                alone = λ k e w r more comes joins current. none-comes home gs t l k e w (r ∷ more) legal_copied comes;
                entry = first.0;
                heard_in = first.1;
                heard = h.facts.heard ∙ sym first.2;
                origin = refl;
                list = ap (map (place_of ws)) h.facts.list ∙ moved-numbers rs;
              },
              λ e a. none-ended home gs t l a.opening _ legal_copied a.ended,
            ));
          }
        where
          asks-itself : (q : CoapRequest) → is_get q ≡ true → asks_same q q ≡ true
          asks-itself q get = rw (get, (keys_decided (asked_key q) (asked_key q)).1 refl) refl

      pub unused : IsUnused after b.pair.key
      unfolding carried-so
      unused = (
        record { opening = f o; response = b.pair.stored.response; replies = map renumber rs; carries = carried-so; is = h.facts.key },
        λ n u. none-used home gs t l n b.pair.key legal_copied u,
      )

    -- all of them

    abbrev Among : List Backed → Type 0
    Among cs = (c : Backed) → Contains cs c → Contains bs c

    facts-of : (c : Backed) → Contains bs c → BackedFacts l c
    facts-of c has_it = all-of (BackedFacts l) bs c taken.facts has_it

    pairs-in : (cs : List Backed) → Among cs → AllByRecursion (PairIn after) (map (pair_at ws) cs)
    pairs-in [] among = tt
    pairs-in (c ∷ cs) among =
        let here = among c (zero, omega arith, refl) in
        (pair-in c here (facts-of c here), pairs-in cs (λ d has_it. among d (contains-later c cs d has_it)))

    keys-differ : (key : CacheKey) (cs : List Backed) → AllByRecursion (λ (d : Backed). key ≢ d.pair.key) cs → AllByRecursion (λ (r : Pair). key ≢ r.key) (map (pair_at ws) cs)
    keys-differ key [] h = tt
    keys-differ key (c ∷ cs) h = (h.0, keys-differ key cs h.1)

    are-unused : (cs : List Backed) → Among cs → BackedApart cs → AreUnused after (map (pair_at ws) cs)
    are-unused [] among apart = tt
    are-unused (c ∷ cs) among apart =
        let here = among c (zero, omega arith, refl) in
        (unused c here (facts-of c here), keys-differ c.pair.key cs apart.0, are-unused cs (λ d has_it. among d (contains-later c cs d has_it)) apart.1)

    in-order : (cs : List Backed) → AreUnused after (map (pair_at ws) cs) → AreLastFirst after (length after) (map (pair_at ws) cs)
    in-order [] h = tt
    in-order (c ∷ cs) h = inr h

    kept : (q : CoapRequest) (s : Stored) → IsStored after q s → is_never_fresh s ≡ false → HasPair (map (pair_at ws) bs) (asked_key q) ⊎ IsCrowdedOut after (asked_key q)
    kept q s (inl (inl is)) lasts = absurd (none-comes home gs t l is.0.opening is.0.ending s.response (is.0.first ∷ is.0.more) legal_copied is.0.comes)
    kept q s (inr is) lasts = absurd (none-ended home gs t l is.renewal.opening _ legal_copied is.renewal.ended)
    kept q s (inl (inr (is, none))) lasts =
        let e = is.carries.exchange in
        let ask = carried-back gs f home t l is.opening e placed is.carries.asked in
        let it = ask-listed l bs legal taken ask.number e ask.listed ask.asked in
        let key : it.0.pair.key ≡ asked_key q =
        sym it.2.0.facts.key ∙ (ap asked_key (sym it.2.2) ∙ sym (same-keys l bs legal taken q e.request is.same)) in
        inl (any-of (is_of (asked_key q)) (map (pair_at ws) bs) (pair_at ws it.0) (contains-map (pair_at ws) bs it.0 it.1)
        ((keys_decided it.0.pair.key (asked_key q)).1 key))

    pub store-turned : StoreIn after (map (pair_at ws) bs)
    store-turned = record {
      pairs = pairs-in bs (λ c has_it. has_it);
      order = in-order bs (are-unused bs (λ c has_it. has_it) taken.apart);
      kept = kept;
    }
