use Rattle.std.proofs.Common.{◌≤◌, length, sym, arith}
use Rattle.http_frames.proofs.SaidLemmas.{said_before, said_room}
use Rattle.http_frames.proofs.rules.said_by.Goals as goal

pub with_field-said-requires-clause-hosts : goal.with_field-said-requires-clause-hosts
with_field-said-requires-clause-hosts c =
    let within : c.loop-i.i ≤ length c.args.fields.now = omega (arith, c.len-i.ensures, c.loop-i.auto.i) in
    (said_room c.args.fields.now c.loop-i.i c.loop-i.said c.len-i.result (omega (arith, c.loop-i-test.true)) within (sym c.len-i.ensures) (omega arith) c.loop-i.invariant).0

pub with_field-said-requires-clause-lengths : goal.with_field-said-requires-clause-lengths
with_field-said-requires-clause-lengths c =
    let within : c.loop-i.i ≤ length c.args.fields.now = omega (arith, c.len-i.ensures, c.loop-i.auto.i) in
    (said_room c.args.fields.now c.loop-i.i c.loop-i.said c.len-i.result (omega (arith, c.loop-i-test.true)) within (sym c.len-i.ensures) (omega arith) c.loop-i.invariant).1

pub with_field-said-requires-clause-codings : goal.with_field-said-requires-clause-codings
with_field-said-requires-clause-codings c =
    let within : c.loop-i.i ≤ length c.args.fields.now = omega (arith, c.len-i.ensures, c.loop-i.auto.i) in
    (said_room c.args.fields.now c.loop-i.i c.loop-i.said c.len-i.result (omega (arith, c.loop-i-test.true)) within (sym c.len-i.ensures) (omega arith) c.loop-i.invariant).2

pub loop-i-preserved : goal.loop-i-preserved
loop-i-preserved c =
    let within : c.loop-i.i ≤ length c.args.fields.now = omega (arith, c.len-i.ensures, c.loop-i.auto.i) in
    said_before c.args.fields.now c.loop-i.i _ c.loop-i.said c.with_field-said.result (omega (arith, c.loop-i-test.true)) within c.at.ensures c.loop-i.invariant
    c.with_field-said.ensures
