use Rattle.disk_journal.proofs.Unique.{image_is_no_refusal, refused_at_one_place}
use Rattle.disk_journal.proofs.laws.a_file_has_one_answer.Goals as goal

pub returns-clause-read : goal.returns-clause-read
returns-clause-read c bytes bodies at image refused = image_is_no_refusal bytes bodies at image refused

pub returns-clause-refused : goal.returns-clause-refused
returns-clause-refused c bytes at other first second = refused_at_one_place bytes at other first second
