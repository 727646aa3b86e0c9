-- What is to be given out was made by what was heard.
use Rattle.std.proofs.Common.{◌≡◌, inl, inr, ℕ, List, [], ◌∷◌, ◌++◌, append_assoc, append-nil, length, Option, Some, None, Result, Ok, Err, Bool, true, false, nat_lt, refl, sym, ap, subst}
use Rattle.std.specs.List.{AllByRecursion}
use Rattle.std.proofs.lemmas.List.Elements.{Contains-push, Contains-append_left}
use Rattle.uri_map.specs.declared.peer.Peer.{Peer}
use Rattle.coap_codec.specs.Spelling.{Content, Entry, Spells}
use Rattle.coap_codec.specs.Reading.{message_at}
use Rattle.coap_codec.specs.declared.fault.CodecFault.{CodecFault}
use Rattle.message_layer.specs.Hearing.{reset_for}
use Rattle.demo_origin.specs.Values.{Device, Relation}
use Rattle.demo_origin.specs.Answers.{answer_to, noted, sent}
use Rattle.demo_origin.specs.Arrivals.{is_live, is_request, arrival}
use Rattle.demo_origin.specs.Hearing.{asker, rst, undecoded, Takes, HearsRead, HearsBy}
use Rattle.demo_origin.specs.Calls.{Call, Follow, left_by}
use Rattle.demo_origin.specs.Made.{Says, ShowsId, Makes, IsMade, AnswersAreMade}
use Rattle.demo_origin.specs.Notifying.{talk_of, without_lost}
use Rattle.demo_origin.specs.Observing.{is_sent_as, is_not_sent_as, relieved, acknowledged, rejected}
use Rattle.demo_origin.specs.Once.{Event, heard, looked, gave, Steps}
use Rattle.demo_origin.specs.Origins.{fresh, sent_by, Ticks}
use Rattle.demo_origin.specs.Requests.{judged}
use Rattle.demo_origin.specs.declared.execution.Taken.{Taken}
use Rattle.demo_origin.specs.declared.state.Datagram.{Datagram}
use Rattle.demo_origin.specs.declared.state.Held.{Held}
use Rattle.demo_origin.specs.declared.state.Observer.{Observer}
use Rattle.demo_origin.specs.declared.arrival.Arrival.{Arrival}
use Rattle.demo_origin.specs.declared.arrival.Arrival.TheVariants.{Ignored, Empty, Rejected, Repeated, Fresh, Acknowledged, Reset}
use Rattle.demo_origin.proofs.Alls.{all_filter, all_map, all_found}
use Rattle.demo_origin.proofs.Judging.{either_way, judged_right}
use Rattle.demo_origin.proofs.Talking.{ToldMade, Stems, stems_itself, TalkMade, Announced, tells_all, copies_all, without}
use Rattle.demo_origin.proofs.Keeping.{AnswerMade, KeptMade, AllMade, weaker, same_made, sends, notes, settles}
use Rattle.demo_origin.proofs.Responding.{processes}
use Rattle.demo_origin.proofs.Remembering.{asked_for, Knew, knows}

-- what was remembered was made
given_again : (M : Datagram → Type 0) (t : ℕ) (p : Peer) (m : Content) (s : Device)
    (bytes : List ℕ) → Knew t p m s bytes → AllMade M s → M (record { peer = p; bytes = bytes })
given_again M t p m s bytes k g =
    let P : Option (List ℕ) → Type 0 = λ o. AnswerMade M k.one.peer o in
    let Q : Peer → Type 0 = λ q. M (record { peer = q; bytes = bytes }) in
    subst Q k.same
    (subst P k.answer_is (all_found (KeptMade M) s.remembered k.one g.kept k.among))

relieved_made : (M : Datagram → Type 0) (p : Peer) (mid : ℕ) (o : Observer)
    → ToldMade M o → ToldMade M (relieved p mid o)
relieved_made M p mid o h =
    either_way (λ x. ToldMade M x) (is_sent_as p mid o) (record o { outstanding = None }) o
    (λ e. tt) (λ e. h)

relieved_stems : (all : List Observer) (p : Peer) (mid : ℕ) (o : Observer)
    → Stems all o → Stems all (relieved p mid o)
relieved_stems all p mid o h =
    either_way (λ x. Stems all x) (is_sent_as p mid o) (record o { outstanding = None }) o
    (λ e. record {
      from = h.from;
      among = h.among;
      peer = h.peer;
      token = h.token;
      place = h.place;
    })
    (λ e. h)

module _ (R : Relation) (M : Datagram → Type 0) (t : ℕ) (p : Peer) (d : List ℕ) (start : Device)
    (taken : Option Taken)
    (responds : (m : Content) → message_at d ≡ Ok m → is_request m.code ≡ true
    → (own code : ℕ) (options : List Entry) (payload bytes : List ℕ)
    → Spells (answer_to (asker t p m) own code options payload) bytes
    → Says R start m taken code options payload → M (record { peer = p; bytes = bytes }))
    (resets : (mid : ℕ) → ShowsId d mid → M (record { peer = p; bytes = rst mid })) where
  arrives : (m : Content) (a : Arrival) (new : Device) → message_at d ≡ Ok m
      → arrival t p m start ≡ a → Takes R t p m a start new taken
      → Announced M start.observers new.resources new.block → AllMade M start → AllMade M new
  arrives m Ignored new e came h made g = same_made M start new h.0 g
  arrives m Empty new e came h made g =
      same_made M (noted (asker t p m) None start) new h.0
      (notes M (asker t p m) None start tt g)
  arrives m Rejected new e came h made g =
      let goes = resets m.mid (inl (m, e, refl)) in
      same_made M (sent p (rst m.mid) (noted (asker t p m) (Some (rst m.mid)) start)) new h.0
      (sends M p (rst m.mid) (noted (asker t p m) (Some (rst m.mid)) start) goes
      (notes M (asker t p m) (Some (rst m.mid)) start goes g))
  arrives m (Repeated answer) new e came h made g =
      same_made M (sent p answer start) new h.0
      (sends M p answer start
      (given_again M t p m start answer (knows m.kind t p m start answer came) g) g)
  arrives m Fresh new e came h made g =
      processes R M t p m start taken (responds m e (asked_for m.kind t p m start came))
      (judged m start.resources) new (judged_right m start.resources) h made g
  arrives m Acknowledged new e came h made g =
      settles M start.observers t (acknowledged p m.mid start) new h.0 made
      (all_map (Stems start.observers) (relieved p m.mid) start.observers
      (λ o s. relieved_stems start.observers p m.mid o s) (stems_itself start.observers))
      (record {
        out = g.out;
        kept = g.kept;
        told = all_map (ToldMade M) (relieved p m.mid) start.observers
            (λ o s. relieved_made M p m.mid o s) g.told;
      })
  arrives m Reset new e came h made g =
      settles M start.observers t (rejected p m.mid start) new h.0 made
      (all_filter (Stems start.observers) (is_not_sent_as p m.mid) start.observers
      (stems_itself start.observers))
      (record {
        out = g.out;
        kept = g.kept;
        told = all_filter (ToldMade M) (is_not_sent_as p m.mid) start.observers g.told;
      })

  undecodes : (o : Option ℕ) (new : Device) → reset_for d ≡ o → new ≡ undecoded p o start
      → AllMade M start → AllMade M new
  undecodes None new e h g = same_made M start new h g
  undecodes (Some mid) new e h g =
      same_made M (sent p (rst mid) start) new h
      (sends M p (rst mid) start (resets mid (inr e)) g)

  hears_read : (r : Result Content CodecFault) (new : Device) → message_at d ≡ r
      → HearsRead R t p d r start new taken
      → Announced M start.observers new.resources new.block → AllMade M start → AllMade M new
  hears_read (Ok m) new e h made g = arrives m (arrival t p m start) new e refl h made g
  hears_read (Err f) new e h made g = undecodes (reset_for d) new refl h.0 g

  hears : (b : Bool) (new : Device) → HearsBy b R t p d start new taken
      → Announced M start.observers new.resources new.block → AllMade M start → AllMade M new
  hears true new h made g = same_made M start new h.0 g
  hears false new h made g = hears_read (message_at d) new refl h made g

-- ---- a call

gives : (M : Datagram → Type 0) (ds : List Datagram) (s : Device) → s.out ≡ ds → AllMade M s
    → AllMade M (sent_by s ds).0
gives M [] s e g = g
gives M (d ∷ ds) s e g =
    let P : List Datagram → Type 0 = λ xs. AllByRecursion M xs in
    let all : AllByRecursion M (d ∷ ds) = subst P e g.out in
    record { out = all.1; kept = g.kept; told = g.told }

ticks : (M : Datagram → Type 0) (t : ℕ) (old new : Device)
    → Ticks t old new
    → Announced M old.observers new.resources new.block → AllMade M old → AllMade M new
ticks M t old new h made g =
    let P : List Held → Type 0 = λ rs. Announced M old.observers rs new.block in
    let Q : ℕ → Type 0 = λ n. Announced M old.observers old.resources n in
    let a : Announced M old.observers old.resources old.block =
    subst Q (ap (λ (d : Device). d.block) h.is)
    (subst P (ap (λ (d : Device). d.resources) h.is) made) in
    let first : TalkMade M old.observers (talk_of old) =
    record { out = g.out; told = g.told; stems = stems_itself old.observers } in
    let copied = copies_all M old.observers old.resources t old.block a
    (without_lost t (talk_of old)) h.copied h.copies
    (without M old.observers old.resources t old.block a (talk_of old) first) in
    let told = tells_all M old.observers old.resources t old.block a h.copied h.told h.tells
    copied in
    let D : Device → Type 0 = λ d. AllMade M d in
    subst D (sym h.is) (record {
      out = told.out;
      kept = all_filter (KeptMade M) (is_live t) old.remembered g.kept;
      told = told.told;
    })

calls : (R : Relation) (M : Datagram → Type 0) (e : Event) (old new : Device)
    → ((d : Datagram) → Makes R (record { event = e; before = old; after = new }) d → M d)
    → Steps R e old new → AllMade M old → AllMade M new
calls R M (heard t p d taken) old new k h g =
    hears R M t p d old taken
    (λ m reads request own code options payload bytes spelled says.
    k (record { peer = p; bytes = bytes }) (inr (inl (record {
      moment = t;
      datagram = d;
      taken = taken;
      comes = refl;
      message = m;
      reads = reads;
      request = request;
      own = own;
      code = code;
      options = options;
      payload = payload;
      spelled = spelled;
      says = says;
    }))))
    (λ mid shows. k (record { peer = p; bytes = rst mid }) (inl (record {
      moment = t;
      datagram = d;
      taken = taken;
      comes = refl;
      mid = mid;
      shows = shows;
      is = refl;
    })))
    (nat_lt 2048 (length d)) new h
    (λ o q bytes held mid among to stands notifies.
    k (record { peer = q; bytes = bytes }) (inr (inr (record {
      observer = o;
      registered = among;
      to = to;
      held = held;
      stands = stands;
      mid = mid;
      notifies = notifies;
    }))))
    g
calls R M (looked t) old new k h g =
    ticks M t old new h
    (λ o q bytes held mid among to stands notifies.
    k (record { peer = q; bytes = bytes }) (inr (inr (record {
      observer = o;
      registered = among;
      to = to;
      held = held;
      stands = stands;
      mid = mid;
      notifies = notifies;
    }))))
    g
calls R M gave old new k h g =
    same_made M (sent_by old old.out).0 new h (gives M old.out old refl g)

-- ---- a run

follows : (R : Relation) (done cs : List Call) (s : Device) → Follow R s cs
    → AllMade (IsMade R done) s → AllMade (IsMade R (done ++ cs)) (left_by s cs)
follows R done [] s h g =
    let P : List Call → Type 0 = λ xs. AllMade (IsMade R xs) s in
    subst P (sym (append-nil done)) g
follows R done (c ∷ cs) s h g =
    let M : Datagram → Type 0 = λ d. IsMade R (done ++ c ∷ []) d in
    let D : Device → Type 0 = λ x. AllMade M x in
    let before : AllMade M s =
    weaker (IsMade R done) M
    (λ d m. record {
      call = m.call;
      among = Contains-append_left done (c ∷ []) m.call m.among;
      makes = m.makes;
    }) s g in
    let after : AllMade M c.after =
    calls R M c.event c.before c.after
    (λ d makes. record { call = c; among = Contains-push done c; makes = makes })
    h.1 (subst D (sym h.0) before) in
    let P : List Call → Type 0 = λ xs. AllMade (IsMade R xs) (left_by c.after cs) in
    subst P (append_assoc done (c ∷ []) cs) (follows R (done ++ c ∷ []) cs c.after h.2 after)

pub answers_are_made : (R : Relation) → AnswersAreMade R
answers_are_made R block resources cs h =
    (follows R [] cs (fresh block resources) h (record { out = tt; kept = tt; told = tt })).out
