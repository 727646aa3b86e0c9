-- After a message that is new the state says what the history says.
use Rattle.std.proofs.Common.{◌≡◌, refl, sym, ap, subst, ◌∙◌}
use Rattle.exchange_model.proofs.LeftStarted.{left-started}
use Rattle.exchange_model.specs.Calls.{goes_with}
use Rattle.message_layer.specs.Hearing.{verdict_of}
use Rattle.history_laws.specs.Progress.{Progress, Fetches, Gives, Ends}
use Rattle.history_laws.proofs.CallerLemmas.{IsGoing}
use Rattle.history_links.specs.Agrees.{due}
use Rattle.history_links.specs.Steps.{heard}
use Rattle.exchange_model.specs.declared.kept.Exchange.{Exchange}
use Rattle.exchange_model.specs.State.{link_of}
use Rattle.exchange_model.specs.Matters.{Matter, Nothing, Tells, Goes, Over, matter_of, Starts}
use Rattle.exchange_model.specs.Laws.{Heeds, HearsLeads, IsContinued}
use Rattle.exchange_model.proofs.Bare.{bare_progress}
use Rattle.exchange_model.proofs.Left.{after, heeds-so}
use Rattle.exchange_model.proofs.LeftAlone.{left-alone}
use Rattle.exchange_model.proofs.LeftGoing.{left-going}
use Rattle.exchange_model.proofs.LeftOver.{left-over}
use Rattle.exchange_model.proofs.LeftTold.{left-told}
use Rattle.exchange_model.proofs.ToldAlone.{alone, IsAlone, matter-alone}
use Rattle.exchange_model.proofs.Over.{IsMatter, is-matter, IsOnward}

pub hears-leads : HearsLeads
hears-leads l t p d m n S h spelled none room continues =
    by (matter_of t p m (verdict_of t (link_of S.links p) m) S) refl (is-matter l t p d m S h none room)
  where
    Heeded : Matter → Type 0
    Heeded k = Heeds l (heard l t p d m) (due p m.mid (verdict_of t (link_of S.links p) m).reply) (after t p d m n k S)

    goes : (e : Exchange) (how : Progress) (on : IsOnward h.before.reads.start l t p d m S e how) → IsContinued e how n S
        → (u : Progress) → on.real ≡ u → Heeded (Goes e (bare_progress u))
    goes e how on g (Fetches k pieces got) is =
        heeds-so l t p d m n S h spelled none room (Goes e (bare_progress (Fetches k pieces got)))
        (left-going l t p d m n S h spelled none room e (Fetches k pieces got) how tt on is g)
    goes e how on g (Gives upload got) is =
        heeds-so l t p d m n S h spelled none room (Goes e (bare_progress (Gives upload got)))
        (left-going l t p d m n S h spelled none room e (Gives upload got) how tt on is g)
    goes e how on g (Ends ending) is = absurd (subst IsGoing is on.goes)

    by : (k : Matter) → matter_of t p m (verdict_of t (link_of S.links p) m) S ≡ k → IsMatter h.before.reads.start l t p d m S k → Heeded k
    by Nothing is it =
        heeds-so l t p d m n S h spelled none room Nothing
        (left-alone l t p d m n S h spelled none room it (subst (IsAlone l t p d m S h none room it) (sym (matter-alone l t p d m S h none room it) ∙ is) (alone l t p d m S h none room it)))
    by (Tells r found) is it =
        heeds-so l t p d m n S h spelled none room (Tells r found)
        (let one = subst (IsAlone l t p d m S h none room it) (sym (matter-alone l t p d m S h none room it) ∙ is) (alone l t p d m S h none room it) in left-told l t p d m n S h spelled none room it r found one.0 one.1)
    by (Starts r e u) is it =
        heeds-so l t p d m n S h spelled none room (Starts r e u)
        (left-started l t p d m n S h spelled none room it r e u
        (subst (IsAlone l t p d m S h none room it) (sym (matter-alone l t p d m S h none room it) ∙ is) (alone l t p d m S h none room it)) (continues e u (ap goes_with is)))
    by (Over e how) is it = heeds-so l t p d m n S h spelled none room (Over e how) (left-over l t p d m n S h spelled none room e how it)
    by (Goes e how) is it = subst (λ (u : Progress). Heeded (Goes e u)) (sym it.same) (goes e how it (continues e how (ap goes_with is)) it.real refl)
