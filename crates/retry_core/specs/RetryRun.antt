-- What a run of attempts stands for: its policy, and the random words of its waits so far.
use Rattle.std.specs.Prelude.{◌+◌, ℕ, List, length, if◌then◌else◌}
use Rattle.retry_core.specs.declared.policy.RetryPolicy.{RetryPolicy}
use Rattle.retry_core.specs.declared.run.Next.{Next}
use Rattle.retry_core.specs.RetryPolicy.{next_wait, wait_after, gives_up, decision}

-- what a run keeps: its policy, how many attempts were begun, and the last wait
pub record Run : Type 0 where
  pub policy : RetryPolicy
  pub attempts : ℕ
  pub wait : ℕ

-- the run whose attempts all failed but the last, which is not decided, with a wait for each of the words in between, the latest first
abbrev pub run_after : RetryPolicy → List ℕ → Run
run_after policy words = record { policy = policy; attempts = length words + 1; wait = wait_after policy.kind words }

-- what comes after a failing attempt, by a random word
abbrev pub decided_by : Run → ℕ → Next
decided_by run word = decision run.policy run.attempts (next_wait run.policy.kind run.wait word)

-- the run then: a further attempt counts as begun
abbrev pub run_by : Run → ℕ → Run
run_by run word = if gives_up run.policy run.attempts then run else record run { attempts = run.attempts + 1; wait = next_wait run.policy.kind run.wait word }
