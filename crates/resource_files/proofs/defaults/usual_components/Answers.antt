use Rattle.resource_files.proofs.UsualText.{usual_text, usual_said, no_spec_refusal, no_yaml_refusal}
use Rattle.resource_files.proofs.defaults.usual_components.Goals as goal

pub returns-in-Ok-components : goal.returns-in-Ok-components
unfolding usual_text
returns-in-Ok-components c = usual_said c.args.app.now c.as_bytes.result.now c.as_bytes.ensures.value c.in-Ok.docs c.in-Ok-components.components c.in-Ok.ensures.ok c.in-Ok-components.ensures

pub no_memory-requires : goal.no_memory-requires
unfolding usual_text
no_memory-requires c = no_spec_refusal c.args.app.now c.as_bytes.result.now c.as_bytes.ensures.value c.in-Ok.docs c.in-Err-components.error c.in-Ok.ensures.ok c.in-Err-components.ensures

pub no_memory-requires-in-Err : goal.no_memory-requires-in-Err
unfolding usual_text
no_memory-requires-in-Err c = no_yaml_refusal c.args.app.now c.as_bytes.result.now c.as_bytes.ensures.value c.in-Err.error c.in-Err.ensures.is_read
