use Rattle.byte_lanes.proofs.Masks.{all_before, lowest_before}
use Rattle.byte_lanes.proofs.places.lanes_before.Goals as goal

pub returns-then-passing-eq0 : goal.returns-then-passing-eq0
returns-then-passing-eq0 g c = all_before g.T.ByteTest.passes c.args.block c.passing_lanes-passing.result c.requires c.passing_lanes-passing.ensures c.if-passing-eq0.true

pub returns-else-passing-eq0 : goal.returns-else-passing-eq0
returns-else-passing-eq0 g c = lowest_before g.T.ByteTest.passes c.args.block c.passing_lanes-passing.result c.requires c.passing_lanes-passing.ensures c.if-passing-eq0.false
