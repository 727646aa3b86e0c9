-- What rests on entries, live or kept, is shown just where they bear it.
use Rattle.std.proofs.Common.{◌↔◌, ℕ, List, length, IsTrue, IfOk, sym, ap, subst, ◌∙◌}
use Rattle.std.specs.Arc.{arc_value}
use Rattle.ask_model.specs.Requests.{CoapRequest}
use Rattle.code_map.specs.Methods.{request_code}
use Rattle.ask_model.specs.Datagrams.{asked_body}
use Rattle.ask_model.specs.Views.{Mapping, body_of, payload_of, sense_of}
use Rattle.journal_book.specs.Entries.{Live, Kept}
use Rattle.journal_book.specs.Views.{grounds_of}
use Rattle.reply_reading.specs.Findings.{told_of}
use Rattle.gateway_desk.specs.Shown.{RestsOn}
use Rattle.gateway_desk.proofs.Outcomes.{live-so, kept-so}
use Rattle.gateway_desk.proofs.shown.is_shown.Goals as goal

pub returns-in-Whole-Live-Ask : goal.returns-in-Whole-Live-Ask
returns-in-Whole-Live-Ask g c =
    let a = c.args.answer.now in
    let arm = c.in-Whole-Live-Ask in
    let q : CoapRequest = record {
      method = request_code arm.method;
      peer = arm.peer-2;
      target = arm.target-2;
      accept = arm.accept-2;
      format = arm.format-2;
      body = payload_of arm.payload-2 (body_of c.deref.result.now.came);
    } in
    let told = sym (ap told_of arm.is-0) ∙ c.outcome-outcome.ensures.told in
    let grounds = sym (ap grounds_of arm.is-1) ∙ c.grounds-grounds.ensures.grounds in
    let sense = sym (ap (λ m. sense_of m (body_of c.deref.result.now.came)) arm.is-2) ∙ c.meaning.ensures.sense
    ∙ ap (λ (m : Mapping). m.sense) c.deref.ensures in
    let body = c.body.ensures.body ∙ ap asked_body (ap (λ (m : Mapping). m.sense) c.deref-in-Whole-Live-Ask.ensures ∙ sym sense) in
    live-so c.rests_on.result c.args.journal.now.entries c.as_slice.result.now a.moment a.heard q
    (arc_value arm.response) _ _ _ told (ap Live c.as_slice.ensures ∙ grounds) sense
    (subst (λ (n : ℕ). IfOk c.rests_on.result (λ is. IsTrue is
    ↔ RestsOn c.args.journal.now.entries c.as_slice.result.now a.heard q.method n (arc_value arm.response)))
    (ap (λ (bytes : List ℕ). length bytes) body)
    (subst (λ (k : ℕ). IfOk c.rests_on.result (λ is. IsTrue is
    ↔ RestsOn c.args.journal.now.entries c.as_slice.result.now a.heard k (length c.body.result.now) (arc_value arm.response)))
    c.code.ensures (rw c.deref-in-Whole-Live-Ask-2.ensures at c.rests_on.ensures)))

pub returns-in-Whole-Kept-Ask : goal.returns-in-Whole-Kept-Ask
returns-in-Whole-Kept-Ask g c =
    let a = c.args.answer.now in
    let arm = c.in-Whole-Kept-Ask in
    let q : CoapRequest = record {
      method = request_code arm.method;
      peer = arm.peer-2;
      target = arm.target-2;
      accept = arm.accept-2;
      format = arm.format-2;
      body = payload_of arm.payload-2 (body_of c.deref.result.now.came);
    } in
    let told = sym (ap told_of arm.is-0) ∙ c.outcome-outcome.ensures.told in
    let grounds = sym (ap grounds_of arm.is-1) ∙ c.grounds-grounds.ensures.grounds in
    let sense = sym (ap (λ m. sense_of m (body_of c.deref.result.now.came)) arm.is-2) ∙ c.meaning.ensures.sense
    ∙ ap (λ (m : Mapping). m.sense) c.deref.ensures in
    let body = c.body-in-Whole-Kept-Ask.ensures.body ∙ ap asked_body (ap (λ (m : Mapping). m.sense) c.deref-in-Whole-Kept-Ask.ensures ∙ sym sense) in
    kept-so c.rests_on-in-Whole-Kept-Ask.result c.args.journal.now.entries c.as_slice-in-Whole-Kept-Ask.result.now a.moment a.heard q
    (arc_value arm.response) _ _ _ told (ap Kept c.as_slice-in-Whole-Kept-Ask.ensures ∙ grounds) sense
    (subst (λ (n : ℕ). IfOk c.rests_on-in-Whole-Kept-Ask.result (λ is. IsTrue is
    ↔ RestsOn c.args.journal.now.entries c.as_slice-in-Whole-Kept-Ask.result.now a.heard q.method n (arc_value arm.response)))
    (ap (λ (bytes : List ℕ). length bytes) body)
    (subst (λ (k : ℕ). IfOk c.rests_on-in-Whole-Kept-Ask.result (λ is. IsTrue is
    ↔ RestsOn c.args.journal.now.entries c.as_slice-in-Whole-Kept-Ask.result.now a.heard k (length c.body-in-Whole-Kept-Ask.result.now) (arc_value arm.response)))
    c.code-in-Whole-Kept-Ask.ensures (rw c.deref-in-Whole-Kept-Ask-2.ensures at c.rests_on-in-Whole-Kept-Ask.ensures)))
