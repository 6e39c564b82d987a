use Rattle.std.proofs.Common.{subst}
use Rattle.state_api.specs.Kept.{Kept}
use Rattle.state_api.proofs.Fewness.{many_kept, all_kept as whole_kept}
use Rattle.state_api.proofs.part.all_kept.Goals as goal

pub returns-then-many : goal.returns-then-many
returns-then-many g c read kept = many_kept c.args.parts read (subst (λ b. Kept b c.args.parts read) c.if-many.true kept)

pub returns-else-many : goal.returns-else-many
returns-else-many g c read kept = whole_kept c.args.parts read (subst (λ b. Kept b c.args.parts read) c.if-many.false kept)
