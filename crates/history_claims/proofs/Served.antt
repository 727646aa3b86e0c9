-- An answer that was kept rests on what is stored for its ask, which is fresh.
use Rattle.std.proofs.Common.{◌≡◌, ℕ, ◌+◌, List, Some, subst, arith}
use Rattle.std.proofs.lemmas.Bool.Decides.{Decides-ltb}
use Rattle.ask_model.specs.Requests.{CoapRequest, Requests}
use Rattle.resp_cache.specs.Stored.{lifetime}
use Rattle.journal_book.specs.Entries.{Kept, Asks, Answers, Written}
use Rattle.history_laws.specs.Readings.{Noted, Serves, entries, before, at, noted}
use Rattle.history_laws.specs.Justified.{IsAsk, HasGrounds, Legal}
use Rattle.history_laws.proofs.CallerLemmas.{at-before, served-by, Served}
use Rattle.history_claims.specs.Headline.{IsAsked, IsEntry}
use Rattle.history_claims.specs.Stored.{IsServed, RestsOnStored}
use Rattle.history_claims.proofs.Asking.{answers-ask, AnswersAsk, asked-by}
use Rattle.history_claims.proofs.Keeping.{kept-here, was-stored}

-- what is kept for the answer in the entry n
module _ (l : List Noted) (n t c k : ℕ) (js : List ℕ) (legal : Legal l) (e : IsEntry (entries l) n t (Answers c k (Kept js))) where
  its : AnswersAsk l n t c k (Kept js)
  its = (answers-ask l n t c k (Kept js) legal e).0

  g : HasGrounds (before l n) t k (Kept js)
  g = its.grounds

  stands : at l k ≡ Some (noted t (Asks g.0 g.1) (Serves js))
  stands = at-before l n k _ g.2

  it : Served l t k g.0 g.1 js
  it = served-by l t k g.0 g.1 js legal stands

  abbrev q : CoapRequest
  q = it.request

  asked : IsAsked (entries l) k c t (Requests q)
  asked = asked-by l n c k its.ask (Requests q) t g.0 g.1 (Serves js) its.asked stands it.sense

  ask : IsAsk l k g.0 g.1
  ask = record { moment = t; note = Serves js; stands = stands }

  pub served-in : IsServed (entries l) t c k js
  served-in =
      record {
        request = q;
        asked = asked;
        stored = it.stored;
        is = (was-stored l k g.0 g.1 q it.stored legal ask (kept-here (k + 1) l k _ q it.stored (omega arith) legal stands it.is)).0;
        list = it.list;
        fresh = (Decides-ltb t (it.stored.heard + lifetime it.stored.response.max_age)).0 it.fresh;
      }

pub rests-on-stored : RestsOnStored
rests-on-stored h n t c k js s =
    subst (λ (h : List Written). IsEntry h n t (Answers c k (Kept js)) → IsServed h t c k js) s.entries_are (served-in s.reading n t c k js s.legal)
