use Rattle.std.proofs.Common.{subst, refl}
use Rattle.ledger_core.specs.declared.command.LedgerCmd.TheVariants.{Take}
use Rattle.ledger_core.specs.Ledger.{plans_of}
use Rattle.delivery_turn.specs.Stepping.{IsPlanned, IsTakeReply}
use Rattle.delivery_turn.specs.Turning.{TakesBy, exhausted}
use Rattle.delivery_turn.proofs.Stepped.{asked_so, stuck_so, take_reply}
use Rattle.delivery_turn.proofs.Takings.{takes_by, row_planned, reply_unspent}
use Rattle.delivery_turn.proofs.taking.take.Goals as goal

pub taking_of-requires : goal.taking_of-requires
taking_of-requires g c = let did = c.in-Ok.ensures in subst IsTakeReply did.1 (take_reply c.now-now.result did.0.reply did.2.fits)

pub returns-in-Ok-clause-takes : goal.returns-in-Ok-clause-takes
returns-in-Ok-clause-takes g c =
    let did = c.in-Ok.ensures in
    let one = subst IsTakeReply did.1 (take_reply c.now-now.result did.0.reply did.2.fits) in
    asked_so _ c.args.cell.now c.args.seat.now c.step.new.seat _ _ c.now-now.result (record { later = c.now-now.ensures.later; last = c.now-now.ensures.last; paused = c.now-now.ensures.paused; ticks = c.now-now.ensures.ticks })
    Take c.in-Ok.reply (TakesBy c.taking_of.result) did (λ events answered. takes_by c.in-Ok.reply c.taking_of.result events one c.taking_of.ensures answered)

pub returns-in-Ok-clause-planned : goal.returns-in-Ok-clause-planned
returns-in-Ok-clause-planned g c row e =
    let did = c.in-Ok.ensures in
    let one = subst IsTakeReply did.1 (take_reply c.now-now.result did.0.reply did.2.fits) in
    row_planned (plans_of c.args.cell.now.first) c.in-Ok.reply c.taking_of.result one c.taking_of.ensures (subst (IsPlanned (plans_of c.args.cell.now.first)) did.1 did.2.planned) row e

pub returns-in-Ok-clause-shows : goal.returns-in-Ok-clause-shows
returns-in-Ok-clause-shows g c count e = absurd (reply_unspent c.in-Ok.reply c.taking_of.result count c.taking_of.ensures e)

pub returns-clause-takes : goal.returns-clause-takes
returns-clause-takes g c =
    stuck_so _ c.args.cell.now c.args.seat.now c.step.new.seat _ _ c.now-now.result (record { later = c.now-now.ensures.later; last = c.now-now.ensures.last; paused = c.now-now.ensures.paused; ticks = c.now-now.ensures.ticks })
    (Take c.now-now.result) c.in-Err.field-0 _ c.in-Err.ensures (λ events stuck. exhausted c.in-Err.field-0.count stuck refl)
