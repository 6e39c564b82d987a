use Rattle.topic_spec.proofs.Steps.{refused_step}
use Rattle.topic_spec.proofs.loading.add_document.Goals as goal

pub returns-in-Err : goal.returns-in-Err
returns-in-Err c = refused_step c.args.doc c.args.all.now c.args.all.now c.in-Err.error _ c.in-Err.ensures
