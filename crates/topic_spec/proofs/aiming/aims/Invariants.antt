use Rattle.std.proofs.Common.{◌≡◌, ◌<◌, ◌++◌, List, length, drop}
use Rattle.std.specs.List.{All, AllPairs}
use Rattle.std.specs.Prelude.{◌≢◌}
use Rattle.rule_value.specs.Standing.{IsEvent}
use Rattle.rule_value.specs.Values.{Event}
use Rattle.topic_spec.specs.declared.draft.Draft.{Draft}
use Rattle.topic_spec.specs.Aiming.{aims_from, aims_of, AreSubs}
use Rattle.topic_spec.proofs.Pathing.{Aiming}
use Rattle.topic_spec.proofs.aiming.aims.Given as goal

abbrev pub invariant-loop-i : goal.invariant-loop-i
invariant-loop-i l = record {
  aims : (shown : Event) → IsEvent l.event shown → l.aims ++ aims_from l.i shown l.pubsub l.topic (drop l.i l.subs) ≡ aims_of shown l.pubsub l.topic l.subs;
  values : (shown : Event) (drafts : List Draft) → IsEvent l.event shown → AreSubs drafts l.subs → Aiming shown l.pubsub l.topic drafts l.i (drop l.i l.subs) l.aims;
  below : All (λ aim. aim.sub < l.i) l.aims;
  once : AllPairs (λ a b. a.sub ≢ b.sub) l.aims;
}
