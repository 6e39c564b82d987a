use Rattle.std.proofs.Common.{refl, sym, subst}
use Rattle.std.specs.Prelude.{Ok}
use Rattle.topic_spec.specs.Loading.{IsStep}
use Rattle.topic_spec.proofs.Steps.{nothing_step}
use Rattle.topic_spec.proofs.loading.add_said.Goals as goal

pub returns-in-None : goal.returns-in-None
returns-in-None c = subst (λ said. IsStep (Ok tt) c.args.doc c.args.all.now c.args.all.now (Ok said)) (sym c.in-None.is) (nothing_step c.args.doc c.args.all.now c.args.all.now refl)
