use Rattle.std.proofs.lemmas.Str.{IsCharBoundary-at_seam}
use Rattle.state_api.specs.Words.{front_of}
use Rattle.state_api.proofs.words.stored_key.Goals as goal

pub returns-in-Ok-clause-cut : goal.returns-in-Ok-clause-cut
returns-in-Ok-clause-cut c = IsCharBoundary-at_seam c.in-Ok.stored (front_of c.args.prefix.now) c.args.key.now c.in-Ok.ensures c.bytes.ensures.utf8
