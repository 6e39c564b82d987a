use Rattle.std.proofs.Common.{sym, subst, ap, ◌∙◌, length, inl}
use Rattle.ledger_core.specs.Aims.{IsGiven}
use Rattle.ledger_core.specs.Ledger.{plans_of}
use Rattle.delivery_turn.specs.Turning.{SettlesSo, settle_by, turn_by}
use Rattle.delivery_turn.proofs.Settled.{settle_given, settles_so, spent_early, stuck_so}
use Rattle.delivery_turn.proofs.Stepped.{asked_from, stuck_so as stuck_at}
use Rattle.delivery_turn.proofs.settling.settle.Goals as goal

pub step-requires-clause-given : goal.step-requires-clause-given
step-requires-clause-given g c =
    subst (IsGiven (length (plans_of c.args.cell.now.first))) (sym c.command_of-cmd.ensures) (settle_given (length (plans_of c.args.cell.now.first)) c.args.row.now c.args.settling c.now-now.result c.requires.given)

pub returns-in-Ok-clause-settles : goal.returns-in-Ok-clause-settles
returns-in-Ok-clause-settles g c =
    let came = c.turn_by.ensures ∙ ap (λ early. turn_by c.args.row.now early c.in-Ok.reply) c.early_of-early.ensures in
    asked_from _ c.args.cell.now c.args.seat.now c.step.new.seat _ _ c.now-now.result (record { later = c.now-now.ensures.later; last = c.now-now.ensures.last; paused = c.now-now.ensures.paused; ticks = c.now-now.ensures.ticks })
    c.command_of-cmd.result (settle_by c.args.row.now c.args.settling) c.in-Ok.reply (SettlesSo c.args.row.now c.args.settling c.turn_by.result) c.command_of-cmd.ensures c.in-Ok.ensures
    (λ events answered. settles_so c.args.row.now c.args.settling c.in-Ok.reply c.turn_by.result events came answered)

pub returns-in-Ok-clause-shows : goal.returns-in-Ok-clause-shows
returns-in-Ok-clause-shows g c count e =
    let came = c.turn_by.ensures ∙ ap (λ early. turn_by c.args.row.now early c.in-Ok.reply) c.early_of-early.ensures in
    inl (spent_early c.args.row.now c.args.settling c.in-Ok.reply c.turn_by.result count came e)

pub returns-clause-settles : goal.returns-clause-settles
returns-clause-settles g c =
    stuck_at _ c.args.cell.now c.args.seat.now c.step.new.seat _ _ c.now-now.result (record { later = c.now-now.ensures.later; last = c.now-now.ensures.last; paused = c.now-now.ensures.paused; ticks = c.now-now.ensures.ticks })
    c.command_of-cmd.result c.in-Err.field-0 _ c.in-Err.ensures (λ events stuck. stuck_so c.args.row.now c.args.settling c.in-Err.field-0.count events stuck)
