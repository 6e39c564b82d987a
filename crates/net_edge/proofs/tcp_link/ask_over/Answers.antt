use Rattle.std.proofs.Common.{◌≡◌, ◌∙◌}
use Rattle.net_edge.proofs.tcp_link.ask_over.Goals as goal

pub returns-clause-outcome : goal.returns-clause-outcome
returns-clause-outcome c = record {
  reply = c.ask-reply.result.0;
  connection = c.ask-reply.result.1;
  target = record { host = c.ask-reply.ensures.host ∙ c.requires.target.host; port = c.ask-reply.ensures.port ∙ c.requires.target.port };
  answers = c.answer_of.ensures.answers;
  keeps = c.answer_of.ensures.kept;
}
