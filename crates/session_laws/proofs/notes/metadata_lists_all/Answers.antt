use Rattle.session_laws.proofs.Noting.{metadata_answered, well_listed}
use Rattle.session_laws.proofs.notes.metadata_lists_all.Goals as goal

pub returns-clause-cause : goal.returns-clause-cause
returns-clause-cause g c cells served is = metadata_answered _ cells served is

pub returns-clause-listed : goal.returns-clause-listed
returns-clause-listed g c cells served is = well_listed _ cells served is
