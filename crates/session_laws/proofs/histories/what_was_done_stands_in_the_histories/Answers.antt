use Rattle.session_laws.proofs.Seen.{stand_in_histories}
use Rattle.session_laws.proofs.histories.what_was_done_stands_in_the_histories.Goals as goal

pub returns : goal.returns
returns g c cells asked served is = stand_in_histories _ cells served is.did
