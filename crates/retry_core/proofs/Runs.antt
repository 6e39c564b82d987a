-- Runs of attempts, one word after another.
use Rattle.std.proofs.Common.{◌≡◌, ◌+◌, ◌∷◌, ℕ, Bool, true, false, List, length, refl, ap, ◌∙◌, arith}
use Rattle.std.specs.Prelude.{if◌then◌else◌}
use Rattle.retry_core.specs.declared.policy.RetryPolicy.{RetryPolicy}
use Rattle.retry_core.specs.declared.run.Next.TheVariants.{GiveUp, Wait}
use Rattle.retry_core.specs.RetryPolicy.{wait_after, gives_up, decision, decided}
use Rattle.retry_core.specs.RetryRun.{Run, run_after, decided_by, run_by}

one_more : (words : List ℕ) (word : ℕ) → length words + 1 ≡ length (word ∷ words)
one_more words word = omega arith

-- a run decides what its policy decides after one word more
pub decided_next : (policy : RetryPolicy) (words : List ℕ) (word : ℕ) → decided_by (run_after policy words) word ≡ decided policy (word ∷ words)
decided_next policy words word = ap (λ n. decision policy n (wait_after policy.kind (word ∷ words))) (one_more words word)

wait_goes_on : (b : Bool) (failed wait ms : ℕ) → (if b then GiveUp failed else Wait wait) ≡ Wait ms → b ≡ false
wait_goes_on true failed wait ms e = absurd (cc)
wait_goes_on false failed wait ms e = refl

-- where it waits, the run then has one word more
pub run_next : (policy : RetryPolicy) (words : List ℕ) (word ms : ℕ) → decided_by (run_after policy words) word ≡ Wait ms → run_by (run_after policy words) word ≡ run_after policy (word ∷ words)
run_next policy words word ms e =
    let old : Run = run_after policy words in
    let new : Run = record { policy = policy; attempts = old.attempts + 1; wait = wait_after policy.kind (word ∷ words) } in
    ap (λ (b : Bool). if b then old else new) (wait_goes_on (gives_up policy (length words + 1)) _ _ ms e) ∙ ap (λ (n : ℕ). record new { attempts = n + 1 }) (one_more words word)
