use Rattle.std.proofs.Common.{◌++◌, take, ap, ◌∙◌, arith}
use Rattle.byte_lanes.specs.Spelling.{spelled}
use Rattle.json_lexemes.proofs.Spelled.{spelled_on, spelled_rest, kept_front, on_ok, rest_whole}
use Rattle.json_lexemes.proofs.write.push_inside.Goals as goal

pub loop-place-preserved : goal.loop-place-preserved
loop-place-preserved c = record {
  high = omega (arith, c.in-Some.ensures.within);
  written = spelled_on c.args.bytes.now c.loop-place.out c.args.out.now c.push_plain_and_escape.new.out c.loop-place.at c.in-Some.place c.in-Some.ensures c.loop-place.invariant.written c.in-Ok.ensures.ok;
}

pub returns-in-Err-clause-err : goal.returns-in-Err-clause-err
returns-in-Err-clause-err c = kept_front c.args.out.now (spelled (take c.loop-place.at c.args.bytes.now)) c.loop-place.out c.push_plain_and_escape.new.out c.loop-place.invariant.written c.in-Err.ensures.err

pub returns-in-None-clause-ok : goal.returns-in-None-clause-ok
returns-in-None-clause-ok c = on_ok c.push.result _ _ c.push.ensures.ok (λ e. e ∙ ap (λ l. c.loop-place.out ++ l) (rest_whole c.args.bytes.now c.loop-place.at) ∙ spelled_rest c.args.bytes.now c.loop-place.out c.args.out.now c.loop-place.at c.loop-place.invariant.high c.in-None.ensures c.loop-place.invariant.written)
