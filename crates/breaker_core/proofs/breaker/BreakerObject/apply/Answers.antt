use Rattle.std.proofs.Common.{◌≡◌, ◌≤◌, ◌+◌, ◌*◌, ap, subst, ◌∙◌, max, arith, ◌∷◌, []}
use Rattle.std.proofs.lemmas.List.{length-append}
use Rattle.breaker_core.specs.Present.{HasAtMost}
use Rattle.breaker_core.proofs.Steps.{some_is, goes}
use Rattle.breaker_core.proofs.breaker.BreakerObject.apply.Goals as goal

pub invariant_of-self : goal.invariant_of-self
invariant_of-self c =
    let later : c.args.self.now.latest ≤ c.max-now.result = omega (arith, c.max-now.ensures) in
    let two : 2 * c.args.self.now.used + 1 + 1 ≡ 2 * (c.args.self.now.used + 1) = omega arith in
    let few = c.answered-reply.ensures.few (2 * c.args.self.now.used + 1) (c.found-present.ensures.few (2 * c.args.self.now.used) c.args.self.now.latest c.args.self.now.bounded.few later) in
    record {
      bounded = record {
        within = c.args.self.now.bounded.within;
        moment = omega (arith, c.max-now.ensures, c.moment_of.ensures.limit, c.args.self.now.bounded.moment);
        few = λ x e. subst (HasAtMost (2 * (c.args.self.now.used + 1)) c.max-now.result) (some_is _ _ e) (subst (λ n. HasAtMost n c.max-now.result c.answered-reply.result.1) two few);
      };
      fresh = record { latest_is = λ e. absurd (omega arith); present_is = λ e. absurd (omega arith) };
    }

pub returns-clause-step : goal.returns-clause-step
returns-clause-step c = λ first history seat stands takes.
    let made =
    goes first.policy c.args.self.now.policy history c.args.self.now.latest c.args.self.now.present c.args.cmd.now c.max-now.result c.found-present.result c.answered-reply.result.1 c.answered-reply.result.0 seat
    (omega (arith, c.moment_of.ensures.moment, c.moment_of.ensures.limit)) stands.policy stands.latest stands.present
    (c.max-now.ensures ∙ ap (λ n. max c.args.self.now.latest n) c.moment_of.ensures.moment)
    c.found-present.ensures.found c.answered-reply.ensures.reply c.answered-reply.ensures.after in (
      made.step,
      record {
        policy = stands.policy;
        used = omega (arith, stands.used, length-append history (record { seat = seat; cmd = c.args.cmd.now; reply = c.answered-reply.result.0; mark = 0 } ∷ []));
        latest = made.latest_is;
        present = made.present_is;
      },
    )
