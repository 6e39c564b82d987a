use Rattle.std.proofs.Common.{sym}
use Rattle.topic_spec.specs.Loading.{IsLoad}
use Rattle.sidecar_cli.specs.Subscribed.{Lists, behind}
use Rattle.sidecar_cli.proofs.Refusing.{at_err, join_refused, said_refused}
use Rattle.sidecar_cli.proofs.subscribing.listed.Goals as goal

pub returns-in_err-said : goal.returns-in_err-said
returns-in_err-said c = at_err (IsLoad (Lists c.args.declared c.args.reply.now)) c.from_residual.result c.in_err-said.field-0.0 c.from_residual.ensures.1 (said_refused c.args.declared c.args.reply.now c.in_err-said.field-0.0 c.in_err-said.ensures)

pub returns-in_err-join : goal.returns-in_err-join
returns-in_err-join c = at_err (IsLoad (Lists c.args.declared c.args.reply.now)) c.from_residual-in_err-join.result c.in_err-join.field-0.0 c.from_residual-in_err-join.ensures.1 (join_refused c.args.declared c.args.reply.now c.in_ok-said.said c.in_err-join.field-0.0 c.in_ok-said.ensures c.in_err-join.ensures.0)

pub returns : goal.returns
returns c = behind c.in_ok-said.said c.in_ok-said.ensures (sym c.in_ok-join.ensures)
