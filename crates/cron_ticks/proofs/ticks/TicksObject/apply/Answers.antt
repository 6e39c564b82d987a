use Rattle.std.proofs.Common.{◌≡◌, ◌≤◌, ◌+◌, ◌∷◌, [], ◌∙◌, ap, max, subst, sym, refl, arith}
use Rattle.std.proofs.lemmas.List.{length-append}
use Rattle.cron_ticks.specs.Schedule.{moment_of}
use Rattle.cron_ticks.proofs.Stepping.{answered_kept, stepped}
use Rattle.cron_ticks.proofs.ticks.TicksObject.apply.Goals as goal

pub answered-reply-requires-clause-begun : goal.answered-reply-requires-clause-begun
answered-reply-requires-clause-begun c = λ tick e. omega (arith, (c.args.self.now.bounded.soon tick e).is.due_is)

pub invariant_of-self : goal.invariant_of-self
invariant_of-self c =
    let old = c.args.self.now in
    record {
      bounded = answered_kept old.periods old.start old.latest c.max-now.result old.next c.answered-reply.result.1 c.answered-reply.result.0 old.bounded (omega (arith, c.max-now.ensures))
          (omega (arith, c.max-now.ensures, c.moment_of.ensures.limit, old.bounded.moment)) c.answered-reply.ensures;
      fresh = record { latest_is = λ e. absurd (omega arith); next_is = λ e. absurd (omega arith) };
    }

pub returns-clause-step : goal.returns-clause-step
returns-clause-step c = λ first history seat stands takes.
    let old = c.args.self.now in
    stepped first history seat old _ c.args.cmd.now c.max-now.result c.answered-reply.result.0 c.answered-reply.result.1 c.answered-reply.ensures stands
    (omega (arith, c.moment_of.ensures.moment, c.moment_of.ensures.limit)) (c.max-now.ensures ∙ ap (λ n. max old.latest n) c.moment_of.ensures.moment) refl refl refl refl refl
