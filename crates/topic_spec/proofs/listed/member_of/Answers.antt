use Rattle.topic_spec.specs.Listed.{member_of}
use Rattle.topic_spec.proofs.Members.{there_is}
use Rattle.topic_spec.proofs.listed.member_of.Goals as goal

pub returns-clause-found : goal.returns-clause-found
unfolding member_of
returns-clause-found c values at = there_is c.args.doc.now c.args.n c.args.name.now c.member_unless_null.result c.member_unless_null.ensures.last values at
