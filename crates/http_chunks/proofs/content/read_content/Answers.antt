use Rattle.http_chunks.proofs.content.read_content.Goals as goal

pub returns-in_err-found-clause-kept : goal.returns-in_err-found-clause-kept
returns-in_err-found-clause-kept c = λ all was. c.take_step.ensures.kept all (c.loop-found.invariant.kept all was)

pub returns-in_err-found-clause-looked : goal.returns-in_err-found-clause-looked
returns-in_err-found-clause-looked c = λ seen. c.take_step.ensures.looked (c.loop-found.invariant.looked seen)

pub returns-in-Some-clause-kept : goal.returns-in-Some-clause-kept
returns-in-Some-clause-kept c = λ all was. c.take_step.ensures.kept all (c.loop-found.invariant.kept all was)

pub returns-in-Some-clause-looked : goal.returns-in-Some-clause-looked
returns-in-Some-clause-looked c = λ seen. c.take_step.ensures.looked (c.loop-found.invariant.looked seen)

pub returns-in-Some-clause-step : goal.returns-in-Some-clause-step
returns-in-Some-clause-step c = λ all was seen.
    (rw c.in-Some.is at c.in_ok-found.ensures.step) all (c.loop-found.invariant.kept all was) (c.loop-found.invariant.looked seen)

pub loop-found-preserved : goal.loop-found-preserved
loop-found-preserved c = record {
  within = c.take_step.ensures.within;
  bounded = c.take_step.ensures.bounded;
  looked = λ seen. c.take_step.ensures.looked (c.loop-found.invariant.looked seen);
  kept = λ all was. c.take_step.ensures.kept all (c.loop-found.invariant.kept all was);
}
