use Rattle.std.proofs.Common.{take}
use Rattle.api_routes.specs.declared.methods.TheConstants.{METHODS}
use Rattle.api_routes.proofs.Naming.{Named}
use Rattle.api_routes.proofs.methods.push_names.Given as goal

abbrev pub invariant-loop-method : goal.invariant-loop-method
invariant-loop-method l = Named l.methods (take l.method-index METHODS) l.initial.out l.out l.separator
