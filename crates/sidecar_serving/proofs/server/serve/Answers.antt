use Rattle.std.proofs.Common.{sym, subst}
use Rattle.sidecar_objects.specs.Pass.{cells_of}
use Rattle.sidecar_objects.specs.Passes.{IsRootPass}
use Rattle.sidecar_serving.proofs.Passes.{lone_pass, root_pass_is}
use Rattle.sidecar_serving.proofs.Whole.{none_served}
use Rattle.sidecar_serving.proofs.server.serve.Goals as goal

pub returns-in_default-clause-served : goal.returns-in_default-clause-served
returns-in_default-clause-served g c = none_served _ _ _ _ _ _ _ c.requires.root

pub returns-in_default-clause-lone : goal.returns-in_default-clause-lone
returns-in_default-clause-lone g c = (subst (λ s. IsRootPass 0 (cells_of c.args.shared.now.objects) s) (sym c.requires.root) (root_pass_is (cells_of c.args.shared.now.objects) 0))

pub returns-in_default-clause-pass : goal.returns-in_default-clause-pass
returns-in_default-clause-pass g c = lone_pass (cells_of c.args.shared.now.objects) _ ((subst (λ s. IsRootPass 0 (cells_of c.args.shared.now.objects) s) (sym c.requires.root) (root_pass_is (cells_of c.args.shared.now.objects) 0)))

pub returns-in_default-with_capacity-clause-served : goal.returns-in_default-with_capacity-clause-served
returns-in_default-with_capacity-clause-served g c = none_served _ _ _ _ _ _ _ c.requires.root

pub returns-in_default-with_capacity-clause-lone : goal.returns-in_default-with_capacity-clause-lone
returns-in_default-with_capacity-clause-lone g c = (subst (λ s. IsRootPass 0 (cells_of c.args.shared.now.objects) s) (sym c.requires.root) (root_pass_is (cells_of c.args.shared.now.objects) 0))

pub returns-in_default-with_capacity-clause-pass : goal.returns-in_default-with_capacity-clause-pass
returns-in_default-with_capacity-clause-pass g c = lone_pass (cells_of c.args.shared.now.objects) _ ((subst (λ s. IsRootPass 0 (cells_of c.args.shared.now.objects) s) (sym c.requires.root) (root_pass_is (cells_of c.args.shared.now.objects) 0)))

pub returns-clause-pass : goal.returns-clause-pass
returns-clause-pass g c = lone_pass (cells_of c.args.shared.now.objects) _ c.serve_in.ensures.lone
