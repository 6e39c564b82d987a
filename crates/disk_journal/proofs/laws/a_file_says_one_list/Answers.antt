use Rattle.disk_journal.proofs.Unique.{says_one_list}
use Rattle.disk_journal.proofs.laws.a_file_says_one_list.Goals as goal

pub returns : goal.returns
returns c bytes bodies others first second = says_one_list bytes bodies others first second
