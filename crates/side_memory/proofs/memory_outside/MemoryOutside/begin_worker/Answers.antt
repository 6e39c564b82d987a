use Rattle.std.proofs.Common.{sym, ⊎_elim, true≢false}
use Rattle.side_memory.specs.MemoryOutside.{scripts_of, plan_of, IsMissing}
use Rattle.disk_memory.specs.Plan.{FailsNext}
use Rattle.side_memory.proofs.memory_outside.MemoryOutside.begin_worker.Goals as goal

pub returns-in-Some-clause-listed : goal.returns-in-Some-clause-listed
returns-in-Some-clause-listed c = (
  λ never. absurd (true≢false (sym never)),
  λ fails. ⊎_elim
      (λ (now : FailsNext (plan_of c.args.self.now)). c.in_ok-call.ensures.listed.1 now)
      (λ (missing : IsMissing (scripts_of c.args.self.now) c.args.number). absurd (missing c.in-Some.script c.in-Some.ensures.at)) fails,
)
