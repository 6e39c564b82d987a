use Rattle.std.proofs.Common.{sym, subst}
use Rattle.sidecar_objects.specs.Pass.{cells_of, seats_of}
use Rattle.sidecar_objects.specs.Passes.{IsSplitOffPass}
use Rattle.sidecar_serving.proofs.Passes.{own_pass, split_off_of, worker_pass_is}
use Rattle.sidecar_serving.proofs.opening.open.Goals as goal

pub invariant_of-result : goal.invariant_of-result
invariant_of-result g c = record { of = own_pass (cells_of c.args.shared.now.objects) (seats_of c.in-Ok-split_off.own) (split_off_of (cells_of c.args.shared.now.objects) (seats_of c.in-Ok-split_off.own) (subst (λ s. IsSplitOffPass (cells_of c.args.shared.now.objects) s) (sym c.in-Ok-split_off.ensures.own) (worker_pass_is (cells_of c.args.shared.now.objects) c.args.number))) }
