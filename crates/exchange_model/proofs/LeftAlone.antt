-- A message that answers no exchange leaves all of them.
use Rattle.std.proofs.Common.{◌≡◌, ℕ, ◌+◌, true, false, List, [], ◌∷◌, length, map, None, refl, sym, ap, subst, ◌∙◌}
use Rattle.std.specs.Prelude.{is_none}
use Rattle.std.specs.List.{Contains}
use Rattle.std.proofs.lemmas.Bool.{false≢true}
use Rattle.coap_codec.specs.Spelling.{Content, Spells}
use Rattle.uri_map.specs.declared.peer.Peer.{Peer}
use Rattle.history_laws.specs.Readings.{Noted}
use Rattle.history_laws.specs.Hearing.{answers, can_be_remembered, notice_of, repeated}
use Rattle.history_laws.specs.Justified.{Ends}
use Rattle.history_laws.specs.Progress.{Whole, Ending, Renewed}
use Rattle.history_laws.specs.Exchanges.{end_of, is_going}
use Rattle.history_laws.proofs.CallerLemmas.{all-more, contains-none, filter-all}
use Rattle.history_links.specs.Steps.{heard}
use Rattle.history_links.proofs.CallerLemmas.{says-agrees}
use Rattle.exchange_model.specs.declared.kept.Exchange.{Exchange}
use Rattle.exchange_model.specs.State.{State, link_of}
use Rattle.ask_model.specs.Sharing.{asked_key}
use Rattle.history_laws.specs.Observing.{watches}
use Rattle.exchange_model.specs.Watching.{is_one_of}
use Rattle.exchange_model.specs.Reads.{ExchangeIn, got_in, held_of, opening_of, WaitsUnder}
use Rattle.exchange_model.specs.Matters.{Nothing, answered_in}
use Rattle.exchange_model.specs.Hearing.{Numbers}
use Rattle.exchange_model.specs.Laws.{MayHear}
use Rattle.exchange_model.proofs.Answered.{ended, hits, issued-still, kept-in, none-goes-on, none-hit, openings-same}
use Rattle.exchange_model.proofs.Begins.{waits-with}
use Rattle.exchange_model.proofs.Hearing.{end-kept, kept-one, open-later, replies-kept}
use Rattle.exchange_model.proofs.Left.{follows-so, Left, legal-so}
use Rattle.exchange_model.proofs.Noticing.{told}
use Rattle.exchange_model.proofs.ToldAlone.{IsSilent}
use Rattle.exchange_model.proofs.Observed.{silent-forgets, silent-resets, silent-unnoticed}
use Rattle.exchange_model.proofs.Watches.{newest-quiet, outdated-quiet}
use Rattle.exchange_model.proofs.Written.{none-dropped, told-stand, written-left}
use Rattle.exchange_model.proofs.Lists.{each-of}
use Rattle.exchange_model.proofs.Outrun.{current-still, EndsThose}
use Rattle.exchange_model.proofs.Over.{kept-open}
use Rattle.exchange_model.proofs.Pieces.{pieces-quiet}
use Rattle.exchange_model.proofs.Retiring.{store-retired}
use Rattle.exchange_model.proofs.Settling.{is-ended}
use Rattle.exchange_model.proofs.Silent.{link-before}
use Rattle.exchange_model.proofs.Stales.{stales-quiet}
use Rattle.history_laws.specs.Storing.{first_in}

module _ (l : List Noted) (t : ℕ) (p : Peer) (d : List ℕ) (m : Content) (n : Numbers) (S : State) (h : MayHear l t p d S)
    (spelled : Spells m d) (none : repeated l t p m ≡ None) (room : can_be_remembered l t p m ≡ true)
    (is : answered_in (ended l t p d m S h none room) S.exchanges ≡ None) (silent : IsSilent l t p d m S h none room is) where
  abbrev x : Noted
  x = heard l t p d m

  unhit : (e : Exchange) → Contains S.exchanges e → hits l t p d m S h none room e.opening ≡ false
  unhit e has = none-hit l t p d m S h none room is e has

  goes : (e : Exchange) → Contains S.exchanges e → is_going (x ∷ l) e.opening ≡ true
  goes e has = ap is_none (end-kept l t p d m e.opening (unhit e has) ∙ kept-open l S e h.before.reads has)

  ends : EndsThose x l S []
  ends = record { ended = λ f c. absurd (contains-none f c); all = λ f has gone. absurd (false≢true (sym gone ∙ goes f has)) }

  no-over : (e : Exchange) → Contains S.exchanges e → hits l t p d m S h none room e.opening ≡ true → is_going (x ∷ l) e.opening ≡ false
  no-over e has hit = absurd (false≢true (sym (unhit e has) ∙ hit))

  none-now : (o : ℕ) (how : Ending) → end_of l o ≡ None → Ends (x ∷ l) o (length l) how → ⊥
  none-now o how going so =
      let g = is-ended x l S h.before.reads (legal-so l t p d m n S h spelled none room) [] ends o _ going so in
      contains-none g.0 g.1

  left : map held_of (watches (x ∷ l)) ≡ S.watches
  left =
      let legal = legal-so l t p d m n S h spelled none room in
      written-left x l S h.before.reads [] ends legal (told l t p d m S h none room)
      (told-stand l t p d m (answers l p m) (notice_of l t p m (answers l p m)) h.before.reads.legal (follows-so l t p d m n S h spelled none room))
      ∙ (none-dropped (map held_of (told l t p d m S h none room)) ∙ silent.stays)

  pub left-alone : Left l t p d m n S h spelled none room Nothing
  left-alone =
      let r = h.before.reads in
      record {
        issued_are = ap (λ (k : ℕ). r.start.issued + k) (issued-still l t p d m S h none room silent.unopened no-over) ∙ r.issued_are;
        keys = open-later x l S.exchanges (openings-same l t p d m S h none room silent.unopened) r.keys ∙ ap (map opening_of) (filter-all (λ (e : Exchange). is_going (x ∷ l) e.opening) S.exchanges (each-of _ S.exchanges goes));
        exchanges_are = each-of (ExchangeIn r.start (x ∷ l)) S.exchanges (λ e has.
            let a = kept-in l t p d m S h none room e has in
            kept-one l t p (link_of S.links p) d m r.legal e e.current e.newest a (unhit e has) (current-still x l S r [] ends (legal-so l t p d m n S h spelled none room) refl e a)
            (λ get. newest-quiet x l (asked_key a.request) (got_in l e.opening) e.newest silent.uncounted (a.newest get))
            (λ s k. outdated-quiet x l (asked_key a.request) (first_in s.list) silent.uncounted ∙ a.newest_kept s k));
        pieces_are = pieces-quiet x l S.exchanges S.pieces (λ (e : Exchange). ExchangeIn r.start l e × (hits l t p d m S h none room e.opening ≡ false))
            (λ e k. (_, k.0.opening)) (λ e k. replies-kept l t p d m e.opening k.1) (each-of _ S.exchanges (λ e has. (kept-in l t p d m S h none room e has, unhit e has))) r.pieces_are;
        stales_are = stales-quiet x l S.exchanges S.stales (λ (e : Exchange). ExchangeIn r.start l e × (hits l t p d m S h none room e.opening ≡ false))
            (λ e k. (_, k.0.opening)) (λ e k. replies-kept l t p d m e.opening k.1) (each-of _ S.exchanges (λ e has. (kept-in l t p d m S h none room e has, unhit e has))) r.stales_are;
        watches_are = left;
        unnoticed = λ q away. silent-unnoticed l t p d m n S h spelled none room is left q;
        store_is = store-retired x l S r (legal-so l t p d m n S h spelled none room) [] ends silent.uncounted tt (λ o w rs going so. none-now o (Whole w rs) going so) (λ o s u going so. none-now o (Renewed s u) going so);
        tokens_are = r.tokens_are;
        waiting_are = waits-with p _ S.links S.exchanges (all-more _ _ (λ e k at_p. subst (λ (q : Peer). WaitsUnder (link_of S.links q).waiting e) at_p k) S.exchanges r.waiting_are) r.waiting_are;
        link_is = says-agrees _ l t p (link_of S.links p) d m (is_one_of []) (link-before l t S h.before p) none room
            (silent-forgets l t p d m n S h spelled none room is left) (silent-resets l t p d m n S h spelled none room is)
            (none-goes-on l t p d m S h none room silent.unopened no-over);
      }
