use Rattle.topic_spec.proofs.Readings.{good_on, bad_on, good_end}
use Rattle.std.proofs.Common.{refl}
use Rattle.topic_spec.proofs.reading.rules_of.Goals as goal

pub loop-text-preserved-in-Ok-push : goal.loop-text-preserved-in-Ok-push
loop-text-preserved-in-Ok-push c = record {
  good = good_on c.args.texts c.loop-text.texts c.take_first.new.self c.in-Some.text c.loop-text.rules c.push.new.self _ c.in-Some.ensures.first c.in-Ok-push.ensures.ok (record { read = c.in-Ok.ensures; path = refl }) c.loop-text.invariant.good;
  bad = bad_on c.args.texts c.loop-text.texts c.take_first.new.self c.in-Some.text c.in-Ok.expr c.in-Some.ensures.first c.in-Ok.ensures c.loop-text.invariant.bad;
}

pub loop-text-preserved-in-Ok-push-2 : goal.loop-text-preserved-in-Ok-push-2
loop-text-preserved-in-Ok-push-2 c = record {
  good = good_on c.args.texts c.loop-text.texts c.take_first.new.self c.in-Some.text c.loop-text.rules c.push.new.self _ c.in-Some.ensures.first c.in-Ok-push.ensures.ok (record { read = c.in-Ok.ensures; path = refl }) c.loop-text.invariant.good;
  bad = bad_on c.args.texts c.loop-text.texts c.take_first.new.self c.in-Some.text c.in-Ok.expr c.in-Some.ensures.first c.in-Ok.ensures c.loop-text.invariant.bad;
}

pub loop-text-preserved : goal.loop-text-preserved
loop-text-preserved c = record {
  good = good_on c.args.texts c.loop-text.texts c.take_first.new.self c.in-Some.text c.loop-text.rules c.push.new.self _ c.in-Some.ensures.first c.in-Ok-push.ensures.ok (record { read = c.in-Ok.ensures; path = refl }) c.loop-text.invariant.good;
  bad = bad_on c.args.texts c.loop-text.texts c.take_first.new.self c.in-Some.text c.in-Ok.expr c.in-Some.ensures.first c.in-Ok.ensures c.loop-text.invariant.bad;
}

pub returns : goal.returns
returns c = good_end c.args.texts c.loop-text.texts c.loop-text.rules (c.in_default.ensures.none.0 refl) c.loop-text.invariant.good
