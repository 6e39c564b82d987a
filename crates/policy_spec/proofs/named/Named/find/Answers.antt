use Rattle.std.proofs.Common.{◌∙◌, ap, sym}
use Rattle.policy_spec.specs.Named.{under}
use Rattle.policy_spec.proofs.Found.{found_same}
use Rattle.policy_spec.proofs.named.Named.find.Goals as goal

pub returns-in-Some : goal.returns-in-Some
returns-in-Some g c = c.in-Some.ensures.value ∙ sym (found_same _ c.args.name.now c.self.inside.tree.entries) ∙ ap (under c.args.name.now) c.self.view_is

pub returns-in-None : goal.returns-in-None
returns-in-None g c = c.in-None.ensures.value ∙ sym (found_same _ c.args.name.now c.self.inside.tree.entries) ∙ ap (under c.args.name.now) c.self.view_is
