use Rattle.std.proofs.Common.{[]}
use Rattle.state_core.specs.Store.{opens}
use Rattle.objects_speed.proofs.shop.Shop.new.Goals as goal

pub invariant_of-result : goal.invariant_of-result
invariant_of-result c = (c.new-store.result, [], opens c.new-store.result c.new-store.ensures.unused tt)
