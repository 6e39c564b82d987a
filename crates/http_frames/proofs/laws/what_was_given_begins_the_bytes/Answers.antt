use Rattle.http_frames.proofs.MidLemmas.{run_mid}
use Rattle.http_frames.proofs.laws.what_was_given_begins_the_bytes.Goals as goal

pub returns : goal.returns
returns c = run_mid
