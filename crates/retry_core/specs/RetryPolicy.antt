-- What a retry policy means: the waits that it gives for random words, and after how many attempts it gives up.
use Rattle.std.specs.Prelude.{◌≡◌, ◌≤◌, ◌+◌, ◌*◌, ◌/◌, ◌%◌, ◌^◌, ◌||◌, ◌==◌, nat_lt, ℕ, Bool, true, false, List, [], ◌∷◌, length, min, max, Option, Some, None, if◌then◌else◌}
use Rattle.retry_core.specs.declared.policy.RetryKind.{RetryKind}
use Rattle.retry_core.specs.declared.policy.RetryKind.TheVariants.{Constant, Exponential}
use Rattle.retry_core.specs.declared.policy.RetryPolicy.{RetryPolicy}
use Rattle.retry_core.specs.declared.run.Next.{Next}
use Rattle.retry_core.specs.declared.run.Next.TheVariants.{GiveUp, Wait}

-- the milliseconds of the policy are those of a duration, at most 8,760 hours
abbrev pub IsKindWithinLimit : RetryKind → Type 0
IsKindWithinLimit (Constant duration) = duration ≤ 31536000000
IsKindWithinLimit (Exponential most) = most ≤ 31536000000

abbrev pub IsWithinLimit : RetryPolicy → Type 0
IsWithinLimit policy = IsKindWithinLimit policy.kind

-- a wait, by the one before it and a random word, of which the low 32 bits count: a constant one stays as it is, and an
-- exponential one is multiplied by at least 3/4 and by less than 9/4, and is rounded down
abbrev pub next_wait : RetryKind → ℕ → ℕ → ℕ
next_wait (Constant duration) previous word = duration
next_wait (Exponential most) previous word = min most (max 1 (previous * (2 ^ 31 + word % 2 ^ 32) * 3 / 2 ^ 33))

-- the last wait, after one wait for each of the words, of which the latest stands first; 500 comes before the first
abbrev pub wait_after : RetryKind → List ℕ → ℕ
wait_after kind [] = 500
wait_after kind (word ∷ words) = next_wait kind (wait_after kind words) word

-- more attempts failed than may be made again
abbrev pub is_used_up : Option ℕ → ℕ → Bool
is_used_up None failed = false
is_used_up (Some most) failed = nat_lt most failed

-- after so many failing attempts no further one is made
abbrev pub gives_up : RetryPolicy → ℕ → Bool
gives_up policy failed = is_used_up policy.max_retries failed || (failed == 4096)

abbrev pub GivesUp : RetryPolicy → ℕ → Type 0
GivesUp policy failed = gives_up policy failed ≡ true

-- what comes after so many failing attempts: none, or a further one after this wait
abbrev pub decision : RetryPolicy → ℕ → ℕ → Next
decision policy failed wait = if gives_up policy failed then GiveUp failed else Wait wait

-- What a policy decides after failing attempts with a random word for each, of which the latest stands first
abbrev pub decided : RetryPolicy → List ℕ → Next
decided policy words = decision policy (length words) (wait_after policy.kind words)
