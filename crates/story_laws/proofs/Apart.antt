-- Of two writes that were answered by success, the last replies came to two messages.
use Rattle.std.proofs.Common.{◌≡◌, ◌≢◌, ℕ, zero, suc, ◌+◌, ◌<◌, inl, inr, List, [], ◌∷◌, ◌++◌, Option, Some, refl, sym, ap, subst, ◌∙◌, arith}
use Rattle.std.specs.List.{Contains}
use Rattle.std.proofs.lemmas.List.Elements.{Contains-push}
use Rattle.coap_codec.specs.Spelling.{Content}
use Rattle.coap_codec.specs.declared.block.Block.{Block}
use Rattle.uri_map.specs.declared.peer.Peer.{Peer}
use Rattle.ask_model.specs.Requests.{CoapRequest, Requests}
use Rattle.ask_model.specs.Views.{Ask}
use Rattle.journal_book.specs.Entries.{Sent, Deed, Asks, Sends, Live, Answers, Written}
use Rattle.history_laws.specs.Justified.{Stands}
use Rattle.history_laws.proofs.CallerLemmas.{some-is}
use Rattle.history_claims.specs.Headline.{IsAsked, IsEntry, IsFirstSending, IsHeardFor, IsNew, anew, IsRepeat, again, IsResponse, RestsOn, WasFirstSent}
use Rattle.history_claims.specs.Order.{AreInOrder}
use Rattle.history_claims.proofs.CallerLemmas.{answer-once}
use Rattle.story_laws.proofs.Calling.{in-one-place}

-- Nothing is new and a repeat.
never-again : (fuel j : ℕ) (h : List Written) (p : Peer) → j < fuel → IsNew h p j → IsRepeat h p j → ⊥
never-again zero j h p lt a b = absurd (omega (arith, lt))
never-again (suc fuel) j h p lt (anew f) (again i alike new) =
    let less = alike.earlier in never-again fuel i h p (omega (arith, lt, less)) new (f i alike)

was-sent : (h : List Written) (i t : ℕ) (p : Peer) (m : Content) → IsFirstSending h i t p m → WasFirstSent h i t p m
was-sent h i t p m f =
    record {
      bytes = f.bytes;
      timeout = f.timeout;
      done = record { deed = Sends p f.bytes (Some f.timeout); stands = f.stands; says = refl };
      spelled = f.spelled;
    }

-- One ask is for one request.
pub one-ask : (h : List Written) (k c d t u : ℕ) (q r : CoapRequest) → IsAsked h k c t (Requests q) → IsAsked h k d u (Requests r) → q ≡ r
one-ask h k c d t u q r a b = request (ap (λ (x : Ask). x.sense) (asks (ap (λ (w : Written). w.deed) (some-is _ _ (sym a.stands ∙ b.stands)))))
  where
    asks : {x y : Ask} → Asks c x ≡ Asks d y → x ≡ y
    asks e = cc

    request : Requests q ≡ Requests r → q ≡ r
    request e = cc

-- The reply to a message stands in one entry.
module _ (h : List Written) (q w : CoapRequest) (a b i j : ℕ) (x y : Option Block) (m n : Content) (f : IsHeardFor h a q x i m) (g : IsHeardFor h b w y j n)
    (peers : q.peer ≡ w.peer) (same : f.sent ≡ g.sent) where
  one-sending : g.sending ≡ f.sending
  one-sending =
      let sent = g.sent_for in
      f.sent_for.issued g.sending sent.moment w.peer g.sent (was-sent h g.sending sent.moment w.peer g.sent sent.first) (ap (λ (c : Content). c.token) (sym same))

  later-not : i < j → ⊥
  later-not lt =
      never-again (suc i) i h w.peer (omega arith) (subst (λ (p : Peer). IsNew h p i) peers f.new)
      (g.first i m lt
      (subst (λ (p : Peer). IsResponse h p g.sending g.sent i m) peers
      (subst (λ (c : Content). IsResponse h q.peer g.sending c i m) same
      (subst (λ (s : ℕ). IsResponse h q.peer s f.sent i m) (sym one-sending) f.response))))

  sooner-not : j < i → ⊥
  sooner-not lt =
      never-again (suc j) j h q.peer (omega arith) (subst (λ (p : Peer). IsNew h p j) (sym peers) g.new)
      (f.first j n lt
      (subst (λ (p : Peer). IsResponse h p f.sending f.sent j n) (sym peers)
      (subst (λ (c : Content). IsResponse h w.peer f.sending c j n) (sym same)
      (subst (λ (s : ℕ). IsResponse h w.peer s g.sent j n) one-sending g.response))))

  pub one-reply : i ≡ j
  one-reply = in-one-place i j later-not sooner-not

last-has : (js earlier : List ℕ) (n : ℕ) → js ≡ earlier ++ n ∷ [] → Contains js n
last-has js earlier n e = subst (λ (ns : List ℕ). Contains ns n) (sym e) (Contains-push earlier n)

-- So two answers that rest on one last reply, and aren't to GETs, are one.
pub one-answer : (h : List Written) (s : Stands h) (order : AreInOrder h) (n m t u c d k o : ℕ) (js ls front back : List ℕ) (i j : ℕ)
    → IsEntry h n t (Answers c k (Live js)) → IsEntry h m u (Answers d o (Live ls)) → (r : RestsOn h n c k js) → r.request.method ≢ 1
    → js ≡ front ++ i ∷ [] → ls ≡ back ++ j ∷ [] → i ≡ j → n ≡ m
one-answer h s order n m t u c d k o js ls front back i j first second r changes are other same =
    elim (order.replies n m t u c d k o i (Live js) (Live ls) first second (last-has js front i are)
    (subst (λ (i : ℕ). Contains ls i) (sym same) (last-has ls back j other))) [
      | inl one ↦
          answer-once h n m t u c d k (Live js) (Live ls) s first (subst (λ (o : ℕ). IsEntry h m u (Answers d o (Live ls))) (sym one) second)
      | inr gets ↦
          absurd (changes (ap (λ (q : CoapRequest). q.method) (one-ask h k c gets.conn r.shared.moment gets.moment r.request gets.request r.shared.asked gets.asked)
          ∙ gets.same.0))
    ]
