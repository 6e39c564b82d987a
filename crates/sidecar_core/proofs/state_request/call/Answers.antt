use Rattle.std.proofs.Common.{◌∙◌, refl, subst}
use Rattle.link_call.specs.Came.{IsOr}
use Rattle.sidecar_objects.specs.Kind.{stores, breakers}
use Rattle.sidecar_core.proofs.Answering.{not_exhausted, same_err}
use Rattle.sidecar_core.proofs.state_request.call.Goals as goal

pub run_store-requires-clause-stores : goal.run_store-requires-clause-stores
run_store-requires-clause-stores g c = c.requires.pass.each stores

pub run_store-requires-clause-breakers : goal.run_store-requires-clause-breakers
run_store-requires-clause-breakers g c = c.requires.pass.each breakers

pub response-requires-clause-answer : goal.response-requires-clause-answer
response-requires-clause-answer g c = c.the_moment_changes_no_response.ensures.answer c.args.cmd.now c.run_store.new.cmd c.in-Ok.ran c.run_store.ensures.same c.in-Ok.ensures.answer

pub response-requires-clause-cut : goal.response-requires-clause-cut
response-requires-clause-cut g c = c.the_moment_changes_no_response.ensures.cut c.args.cmd.now c.run_store.new.cmd c.run_store.ensures.same c.requires.cut

pub returns-in-Ok-clause-does : goal.returns-in-Ok-clause-does
returns-in-Ok-clause-does g c = λ link. let r = c.run_store.ensures.ran in record {
  events = r.0;
  held = record {
    ran = c.run_store.result;
    steps = r.1;
    replies = rw c.in-Ok.is (subst (λ z. IsOr z c.given.result) (c.the_moment_changes_no_response.ensures.response c.args.cmd.now c.run_store.new.cmd c.in-Ok.ran c.run_store.ensures.same) (c.given.ensures _ c.response.ensures));
  };
  went = r.2 link;
}

pub returns-in-Ok-clause-shows : goal.returns-in-Ok-clause-shows
returns-in-Ok-clause-shows g c = λ count is. not_exhausted _ c.given.result count (c.given.ensures _ c.response.ensures) is

pub returns-in-Err-clause-does : goal.returns-in-Err-clause-does
returns-in-Err-clause-does g c = λ link. let r = c.run_store.ensures.ran in record {
  events = r.0;
  held = record { ran = c.run_store.result; steps = r.1; replies = rw c.in-Err.is refl };
  went = r.2 link;
}

pub returns-in-Err-clause-shows : goal.returns-in-Err-clause-shows
returns-in-Err-clause-shows g c = λ count is. c.run_store.ensures.shows count (c.in-Err.is ∙ same_err c.in-Err.error _ is)
