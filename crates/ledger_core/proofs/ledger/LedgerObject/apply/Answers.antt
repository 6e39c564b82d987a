use Rattle.std.proofs.Common.{◌∷◌, [], subst, arith, refl}
use Rattle.std.proofs.lemmas.List.{length-append}
use Rattle.ledger_core.specs.After.{Answers}
use Rattle.ledger_core.proofs.Steps.{stepped}
use Rattle.ledger_core.proofs.ledger.LedgerObject.apply.Goals as goal

pub invariant_of-self : goal.invariant_of-self
invariant_of-self c = record {
  bounded = c.answered-reply.ensures.grown.bounded c.args.self.now.used c.args.self.now.bounded;
  sorted = c.answered-reply.ensures.grown.sorted;
  fresh = λ e. absurd (omega arith);
}

pub returns-clause-step : goal.returns-clause-step
returns-clause-step c = λ first history seat stands given.
    let room = c.requires.room in
    let used = stands.used in
    let made =
    stepped first.plans history (record { seat = seat; cmd = c.args.cmd.now; reply = c.answered-reply.result; mark = 0 }) c.args.self.now.books c.answered-reply.new.books given stands.shows stands.made stands.distinct stands.untouched (omega (arith, room, used))
    (subst (λ plans. Answers plans c.args.self.now.books c.answered-reply.new.books c.args.cmd.now c.answered-reply.result) stands.plans c.answered-reply.ensures.step) in (
      record { reply = made.reply_is; mark = refl },
      record {
        plans = stands.plans;
        used = omega (arith, used, length-append history (record { seat = seat; cmd = c.args.cmd.now; reply = c.answered-reply.result; mark = 0 } ∷ []));
        shows = made.shows;
        made = made.made;
        distinct = made.distinct;
        untouched = made.untouched;
      },
    )
