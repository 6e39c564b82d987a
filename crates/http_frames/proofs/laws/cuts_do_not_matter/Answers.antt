use Rattle.http_frames.proofs.AnswerLemmas.{run_fronts}
use Rattle.http_frames.proofs.RunLemmas.{gives_unique, ended_gives}
use Rattle.http_frames.proofs.laws.cuts_do_not_matter.Goals as goal

pub returns : goal.returns
returns c = record {
  fronts = run_fronts;
  ends = λ bytes one other end last is it. gives_unique bytes one other end last (ended_gives bytes one end is) (ended_gives bytes other last it);
}
