use Rattle.std.proofs.Common.{arith, ◌∙◌}
use Rattle.std.proofs.Math.Seq.{take-add}
use Rattle.std.proofs.lemmas.List.{length-drop}
use Rattle.side_world.proofs.Composed.{told_on}
use Rattle.side_world.proofs.Pieces.{rest_is_drop}
use Rattle.side_world.proofs.sending.send.Goals as goal

pub loop-sent-preserved : goal.loop-sent-preserved
loop-sent-preserved g c =
    let wrote = rw rest_is_drop at c.in_ok-sent.ensures.wrote in
    let within = rw rest_is_drop at c.in_ok-sent.ensures.within in
    record {
      within = omega (arith, length-drop c.loop-sent.sent c.args.bytes.now, within);
      told = rw take-add (told_on _ _ _ _ _ c.loop-sent.invariant.told wrote);
      no_fault = c.in_ok-sent.ensures.no_fault ∙ c.loop-sent.invariant.no_fault;
    }
