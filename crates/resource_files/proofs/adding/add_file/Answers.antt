use Rattle.resource_files.proofs.Causes.{yaml_cause}
use Rattle.resource_files.proofs.adding.add_file.Goals as goal

pub returns-in-Err : goal.returns-in-Err
returns-in-Err c = yaml_cause c.args.bytes.now c.in-Err.error c.requires c.in-Err.ensures.err c.in-Err.ensures.is_read
