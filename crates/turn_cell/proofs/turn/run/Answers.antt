use Rattle.std.proofs.Common.{◌∙◌, arith}
use Rattle.turn_cell.proofs.Leaves.{leaves_turn}
use Rattle.turn_cell.proofs.Ran.{legal_next, home_stage, home_holds, home_done, home_stands, step_made}
use Rattle.turn_cell.proofs.turn.run.Goals as goal

pub decide-requires-clause-legal : goal.decide-requires-clause-legal
decide-requires-clause-legal g c = let made = c.make_step-reply in legal_next g.O.Object c.args.table.now.key.value c.args.number c.args.token.now c.requires.served c.args.cmd.now made.result.0 made.result.1.value made.new.token.me _ made.ensures.held c.requires.takes made.ensures.steps

pub fetch_add-requires : goal.fetch_add-requires
fetch_add-requires g c = let t = c.requires.served in let first = c.args.table.now.key.value in let made = c.make_step-reply in
    let reply = made.result.0 in let o = made.result.1.value in let a = made.new.token.me in let d = c.decide.new.token.me in (
      c.decide.ensures.table ∙ (made.ensures.table ∙ c.requires.table.2),
      omega (arith, c.requires.table.0),
      leaves_turn g.O.Object first _ _ _ c.args.number _ o c.requires.table.1
          (home_stage g.O.Object first c.args.number c.args.token.now t c.args.cmd.now reply o a d made.ensures.held c.decide.ensures.decided)
          (home_holds g.O.Object first c.args.number c.args.token.now t c.args.cmd.now reply o a d made.ensures.held c.decide.ensures.decided)
          (home_done g.O.Object first c.args.number c.args.token.now t c.args.cmd.now reply o a d made.ensures.held c.decide.ensures.decided)
          (home_stands g.O.Object first c.args.number c.args.token.now t c.args.cmd.now reply o a d made.ensures.held c.decide.ensures.decided made.ensures.stands),
    )

pub returns-clause-step : goal.returns-clause-step
returns-clause-step g c = let t = c.requires.served in let first = c.args.table.now.key.value in let made = c.make_step-reply in
    let reply = made.result.0 in let o = made.result.1.value in let a = made.new.token.me in let d = c.decide.new.token.me in
    step_made g.O.Object first c.args.number c.args.token.now t c.args.cmd.now reply o a d made.ensures.held c.decide.ensures.decided c.fetch_add.new.seat.me c.requires.table.3
    (c.fetch_add.ensures.2 c.args.number _ (home_stage g.O.Object first c.args.number c.args.token.now t c.args.cmd.now reply o a d made.ensures.held c.decide.ensures.decided))
