use Rattle.std.proofs.Common.{arith}
use Rattle.sidecar_objects.specs.Pass.{cells_of, seats_of}
use Rattle.sidecar_serving.proofs.Passes.{pass_split, root_may_split}
use Rattle.sidecar_serving.proofs.opening.split_off.Goals as goal

pub split-requires : goal.split-requires
split-requires g c = let few = c.requires.few in record { roots = root_may_split (cells_of c.args.shared.now.objects) c.args.number (seats_of c.args.pass.now) (omega (arith, few)) c.requires.root }

pub returns-clause-root : goal.returns-clause-root
returns-clause-root g c = (pass_split (cells_of c.args.shared.now.objects) c.args.number c.split.result seats_of (seats_of c.args.pass.now) (seats_of c.split.new.pass) c.requires.root c.split.ensures.split).0

pub returns-clause-own : goal.returns-clause-own
returns-clause-own g c = (pass_split (cells_of c.args.shared.now.objects) c.args.number c.split.result seats_of (seats_of c.args.pass.now) (seats_of c.split.new.pass) c.requires.root c.split.ensures.split).1
