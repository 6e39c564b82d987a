use Rattle.session_laws.proofs.Noting.{note_answered, well_noted}
use Rattle.session_laws.proofs.notes.a_value_is_noted_where_all_is_well.Goals as goal

pub returns-clause-cause : goal.returns-clause-cause
returns-clause-cause g c cells name served is = note_answered _ cells served name is

pub returns-clause-noted : goal.returns-clause-noted
returns-clause-noted g c cells name served is = well_noted _ cells served name is
