use Rattle.std.proofs.Common.{◌≡◌, ◌<◌, ◌++◌, drop}
use Rattle.std.specs.List.{All, AllPairs}
use Rattle.std.specs.Prelude.{◌≢◌}
use Rattle.rule_value.specs.Values.{Event}
use Rattle.topic_spec.specs.Aiming.{aims_from, aims_of, are_ruled}
use Rattle.topic_spec.proofs.aiming.default_aims.Given as goal

abbrev pub invariant-loop-i : goal.invariant-loop-i
invariant-loop-i l = record {
  aims : (event : Event) → l.aims ++ aims_from l.i event l.pubsub l.topic (drop l.i l.subs) ≡ aims_of event l.pubsub l.topic l.subs;
  ruled : are_ruled l.pubsub l.topic (drop l.i l.subs) ≡ are_ruled l.pubsub l.topic l.subs;
  below : All (λ aim. aim.sub < l.i) l.aims;
  once : AllPairs (λ a b. a.sub ≢ b.sub) l.aims;
}
