-- What the journal says of who waits.
use Rattle.std.proofs.Common.{None, ◌≡◌, ℕ, true, inl, inr, List, [], length, Some, sym, ap, subst, ◌∙◌}
use Rattle.std.specs.List.{AllByRecursion, slice_get}
use Rattle.std.proofs.lemmas.Bool.{false≢true}
use Rattle.std.proofs.lemmas.Bool.Decides.{eqb_tells}
use Rattle.coap_codec.specs.Spelling.{Content}
use Rattle.ask_model.specs.Requests.{CoapRequest, asking, Plainly}
use Rattle.ask_model.specs.Views.{Ask}
use Rattle.journal_book.specs.Entries.{Asks, Written}
use Rattle.history_laws.specs.Readings.{at, Noted, Note, noted}
use Rattle.history_laws.specs.Exchanges.{Begun, begun}
use Rattle.history_laws.proofs.CallerLemmas.{all-more, all-of, at-entries, at-same, reader, reader-alike}
use Rattle.exchange_model.specs.Reads.{ExchangeIn, Reads}
use Rattle.exchange_model.specs.Growing.{RiseByAsk, ReadersRise, IsKnown, IsWorkOf, ReadersKnown}
use Rattle.exchange_model.specs.declared.kept.Exchange.{Exchange}
use Rattle.exchange_model.specs.declared.kept.Reader.{Reader}
use Rattle.exchange_model.specs.declared.kept.Work.{Work}
use Rattle.exchange_model.specs.declared.kept.Work.TheVariants as W
use Rattle.exchange_model.specs.State.{State}
use Rattle.exchange_model.specs.Calls.{is_reader_of}
use Rattle.exchange_model.proofs.Works.{work-of}
use Rattle.exchange_model.proofs.Readers.{ReaderIn, readers-wait, readers-rise-in}

pub readers-rise : ReadersRise
readers-rise S k =
    let r = k.kept.rests.reads in subst RiseByAsk r.readers_are (readers-rise-in k.kept.reading r.legal)

-- What is kept for a request is what is kept for one that is alike.
work-alike : (q r : CoapRequest) (w : Work) → asking Plainly q None 0 [] ≡ asking Plainly r None 0 [] → IsWorkOf q w → IsWorkOf r w
work-alike q r (W.Fetches restarts pieces) e h = sym (ap (λ (m : Content). m.code) e) ∙ h
work-alike q r (W.Gives upload) e h = (
  λ get. h.0 (ap (λ (m : Content). m.code) e ∙ get),
  h.1 ∙ ap (λ (m : Content). length m.payload) e,
)

-- What it reads was opened for what it asks for.
known-one : (l : List Noted) (S : State) (r : Reads l S) (x : Reader) → ReaderIn l x → IsKnown S x
known-one l S r x a =
    let it = reader l x.ask x.opening r.legal (rw (a.stands) a.reads) in
    let alike = reader-alike l x.ask x.opening it in
    let asks : a.ask ≡ it.ask = ask-same _ _ _ _ _ _ _ _ (at-same l x.ask _ _ a.stands it.asked.stands) in
    record {
      moment = a.moment;
      ask = a.ask;
      request = it.request;
      stands = subst (λ (h : List Written). slice_get h x.ask ≡ Some (record { moment = a.moment; deed = Asks x.conn a.ask })) r.entries_are (at-entries l x.ask _ a.stands);
      sense = ap (λ (b : Ask). b.sense) asks ∙ it.sense;
      method = λ e has reads. by e (all-of (ExchangeIn r.start l) S.exchanges e r.exchanges_are has) (same e reads) it.exchange it.opened (ap (λ (m : Content). m.code) (alike.1 Plainly 0 []));
      work = λ e has reads. works e (all-of (ExchangeIn r.start l) S.exchanges e r.exchanges_are has) (same e reads) it.exchange it.opened it.request (alike.1 Plainly 0 []);
    }
  where
    ask-same : (m t c d : ℕ) (a b : Ask) (u v : Note) → noted m (Asks c a) u ≡ noted t (Asks d b) v → a ≡ b
    ask-same m t c d a b u v e = asks (ap (λ (x : Noted). x.written.deed) e)
      where
        asks : Asks c a ≡ Asks d b → a ≡ b
        asks f = cc

    same : (e : Exchange) → is_reader_of e x ≡ true → x.opening ≡ e.opening
    same e k = elim (eqb_tells x.opening e.opening) [ inl w ↦ w.1 | inr w ↦ absurd (false≢true (sym w.0 ∙ k)) ]

    request-is : (b c : Begun) → Some b ≡ Some c → b.request ≡ c.request
    request-is b c e = cc

    by : {m : ℕ} (e : Exchange) → (b : ExchangeIn r.start l e) → x.opening ≡ e.opening → (f : Begun) → begun l x.opening ≡ Some f → m ≡ f.request.method → m ≡ e.method
    by e b at f opened method =
        method ∙ (ap (λ (q : CoapRequest). q.method) (request-is f _ (sym opened ∙ (ap (begun l) at ∙ b.opening))) ∙ b.method)

    works : (e : Exchange) → (b : ExchangeIn r.start l e) → x.opening ≡ e.opening → (f : Begun) → begun l x.opening ≡ Some f
        → (q : CoapRequest) → asking Plainly q None 0 [] ≡ asking Plainly f.request None 0 [] → IsWorkOf q e.work
    works e b at f opened q alike =
        work-alike b.request q e.work
        (sym (alike ∙ ap (λ (v : CoapRequest). asking Plainly v None 0 []) (request-is f _ (sym opened ∙ (ap (begun l) at ∙ b.opening)))))
        (work-of l e b).0

pub readers-known : ReadersKnown
readers-known S k =
    let r = k.kept.rests.reads in
    all-more (ReaderIn k.kept.reading) (IsKnown S) (known-one k.kept.reading S r) S.readers
    (subst (AllByRecursion (ReaderIn k.kept.reading)) r.readers_are (readers-wait k.kept.reading r.legal))
