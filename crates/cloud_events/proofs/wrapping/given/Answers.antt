use Rattle.std.proofs.Common.{List, ℕ, sym, subst, ◌∙◌}
use Rattle.std.proofs.lemmas.Result.{IfOk-weaker}
use Rattle.cloud_events.specs.declared.media.Form.TheVariants.{Event, Json, Plain, Binary}
use Rattle.cloud_events.specs.Wrapped.{AreSent, IsEventRefusal}
use Rattle.cloud_events.proofs.Results.{err_weaker}
use Rattle.cloud_events.proofs.Wraps.{given_event, given_json, given_plain, given_binary, refused_by}
use Rattle.cloud_events.proofs.wrapping.given.Goals as goal

pub returns-in-Event-clause-ok : goal.returns-in-Event-clause-ok
returns-in-Event-clause-ok c =
    IfOk-weaker c.event_items.result _ _ (λ items h. given_event c.args.sent.now items.items (sym c.in-Event.is ∙ c.form_of.ensures) (subst (λ (b : List ℕ). AreSent b items.items) c.bytes.ensures h)) c.event_items.ensures.ok

pub returns-in-Event-clause-err : goal.returns-in-Event-clause-err
returns-in-Event-clause-err c =
    err_weaker c.event_items.result _ _ (λ e h. refused_by c.args.sent.now Event e (sym c.in-Event.is ∙ c.form_of.ensures) (subst (λ (b : List ℕ). IsEventRefusal b e) c.bytes.ensures h)) c.event_items.ensures.err

pub returns-in-Json-clause-ok : goal.returns-in-Json-clause-ok
returns-in-Json-clause-ok c = IfOk-weaker c.json_items.result _ _ (λ items h. given_json c.args.sent.now items.items (sym c.in-Json.is ∙ c.form_of.ensures) h) c.json_items.ensures.ok

pub returns-in-Json-clause-err : goal.returns-in-Json-clause-err
returns-in-Json-clause-err c = err_weaker c.json_items.result _ _ (λ e h. refused_by c.args.sent.now Json e (sym c.in-Json.is ∙ c.form_of.ensures) h) c.json_items.ensures.err

pub returns-in-Plain-clause-ok : goal.returns-in-Plain-clause-ok
returns-in-Plain-clause-ok c = IfOk-weaker c.plain_items.result _ _ (λ items h. given_plain c.args.sent.now items.items (sym c.in-Plain.is ∙ c.form_of.ensures) h) c.plain_items.ensures.ok

pub returns-in-Plain-clause-err : goal.returns-in-Plain-clause-err
returns-in-Plain-clause-err c = err_weaker c.plain_items.result _ _ (λ e h. refused_by c.args.sent.now Plain e (sym c.in-Plain.is ∙ c.form_of.ensures) h) c.plain_items.ensures.err

pub returns-in-Binary-clause-ok : goal.returns-in-Binary-clause-ok
returns-in-Binary-clause-ok c = IfOk-weaker c.encoded_items.result _ _ (λ items h. given_binary c.args.sent.now items.items (sym c.in-Binary.is ∙ c.form_of.ensures) h) c.encoded_items.ensures.ok

pub returns-in-Binary-clause-err : goal.returns-in-Binary-clause-err
returns-in-Binary-clause-err c = err_weaker c.encoded_items.result _ _ (λ e h. refused_by c.args.sent.now Binary e (sym c.in-Binary.is ∙ c.form_of.ensures) h) c.encoded_items.ensures.err
