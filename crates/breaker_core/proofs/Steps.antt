-- One command makes a step.
use Rattle.std.proofs.Common.{◌≡◌, ◌<◌, ℕ, max, List, [], ◌∷◌, ◌++◌, length, fold, Option, Some, None, refl, ap, sym, subst, ◌∙◌}
use Rattle.retry_core.specs.declared.policy.BreakerPolicy.{BreakerPolicy}
use Rattle.breaker_core.specs.declared.command.BreakerCmd.{BreakerCmd}
use Rattle.breaker_core.specs.declared.command.BreakerReply.{BreakerReply}
use Rattle.breaker_core.specs.declared.present.Present.{Present}
use Rattle.breaker_core.specs.Course.{Generation, Step, Course, moment_of, now_in, found, added, reply_in, reply_of, course_after, course_of, IsStep}
use Rattle.breaker_core.specs.Present.{shown, shown_of}

-- the course goes on by one entry
pub course_of-snoc : (policy : BreakerPolicy) (history : List Step) (entry : Step) → course_of policy (history ++ entry ∷ []) ≡ course_after policy (course_of policy history) entry
course_of-snoc policy history entry = fold_snoc (course_after policy) _ history entry
  where
    fold_snoc : {A X : Type 0} (f : A → X → A) (a : A) (xs : List X) (x : X) → fold f a (xs ++ x ∷ []) ≡ f (fold f a xs) x
    fold_snoc f a [] x = refl
    fold_snoc f a (y ∷ ys) x = fold_snoc f (f a y) ys x

pub some_is : {X : Type 0} (x y : X) → Some x ≡ Some y → x ≡ y
some_is x y e = cc

-- what is answered in the present generation is answered in the generations
pub by_generation : (policy : BreakerPolicy) (now : ℕ) (cmd : BreakerCmd) (reply : BreakerReply) (seat : ℕ) (mid after : Present) (generations : List Generation) → Some mid ≡ shown_of generations →
    ((g : Generation) (gs : List Generation) → mid ≡ shown g (length gs) → reply ≡ reply_in policy g.phase g.entries (length gs) cmd) →
    ((g : Generation) (gs : List Generation) (seat : ℕ) → mid ≡ shown g (length gs) → Some after ≡ shown_of (added policy now (record { seat = seat; cmd = cmd; reply = reply; mark = 0 }) (g ∷ gs))) →
    (reply ≡ reply_of policy generations cmd) × (Some after ≡ shown_of (added policy now (record { seat = seat; cmd = cmd; reply = reply; mark = 0 }) generations))
by_generation policy now cmd reply seat mid after [] is answers adds = absurd (let e : Some mid ≡ None = is in cc)
by_generation policy now cmd reply seat mid after (g ∷ gs) is answers adds =
    (answers g gs (some_is mid (shown g (length gs)) is), adds g gs seat (some_is mid (shown g (length gs)) is))

-- the entry is a step, and the counters go on with the course
stepped : (policy : BreakerPolicy) (history : List Step) (latest : ℕ) (present : Option Present) (cmd : BreakerCmd) (now : ℕ) (mid after : Present) (reply : BreakerReply) (seat : ℕ) → moment_of cmd < 253402300800000 →
    latest ≡ (course_of policy history).latest → present ≡ shown_of (course_of policy history).generations → now ≡ max latest (moment_of cmd) →
    ((generations : List Generation) → present ≡ shown_of generations → Some mid ≡ shown_of (found policy now generations)) →
    ((g : Generation) (gs : List Generation) → mid ≡ shown g (length gs) → reply ≡ reply_in policy g.phase g.entries (length gs) cmd) →
    ((g : Generation) (gs : List Generation) (seat : ℕ) → mid ≡ shown g (length gs) → Some after ≡ shown_of (added policy now (record { seat = seat; cmd = cmd; reply = reply; mark = 0 }) (g ∷ gs))) →
    IsStep policy history (record { seat = seat; cmd = cmd; reply = reply; mark = 0 })
    × (now ≡ (course_of policy (history ++ record { seat = seat; cmd = cmd; reply = reply; mark = 0 } ∷ [])).latest)
    × (Some after ≡ shown_of (course_of policy (history ++ record { seat = seat; cmd = cmd; reply = reply; mark = 0 } ∷ [])).generations)
stepped policy history latest present cmd now mid after reply seat early latest_is present_is now_is finds answers adds =
    let at : now ≡ now_in (course_of policy history) cmd = now_is ∙ ap (λ n. max n (moment_of cmd)) latest_is in
    let both = by_generation policy now cmd reply seat mid after (found policy now (course_of policy history).generations) (finds _ present_is) answers adds in
    let snoc = course_of-snoc policy history (record { seat = seat; cmd = cmd; reply = reply; mark = 0 }) in (
      record { moment = early; reply = both.0 ∙ ap (λ n. reply_of policy (found policy n (course_of policy history).generations) cmd) at; mark = refl },
      at ∙ ap (λ (c : Course). c.latest) (sym snoc),
      both.1
          ∙ ap (λ n. shown_of (added policy n (record { seat = seat; cmd = cmd; reply = reply; mark = 0 }) (found policy n (course_of policy history).generations))) at
          ∙ ap (λ (c : Course). shown_of c.generations) (sym snoc),
    )

-- all that a step has to show
pub record Goes (policy : BreakerPolicy) (history : List Step) (entry : Step) (latest : ℕ) (present : Option Present) : Type 0 where
  pub step : IsStep policy history entry
  pub latest_is : latest ≡ (course_of policy (history ++ entry ∷ [])).latest
  pub present_is : present ≡ shown_of (course_of policy (history ++ entry ∷ [])).generations

-- the same under the policy of the first breaker
pub goes : (first policy : BreakerPolicy) (history : List Step) (latest : ℕ) (present : Option Present) (cmd : BreakerCmd) (now : ℕ) (mid after : Present) (reply : BreakerReply) (seat : ℕ) →
    moment_of cmd < 253402300800000 → policy ≡ first → latest ≡ (course_of first history).latest → present ≡ shown_of (course_of first history).generations → now ≡ max latest (moment_of cmd) →
    ((generations : List Generation) → present ≡ shown_of generations → Some mid ≡ shown_of (found policy now generations)) →
    ((g : Generation) (gs : List Generation) → mid ≡ shown g (length gs) → reply ≡ reply_in policy g.phase g.entries (length gs) cmd) →
    ((g : Generation) (gs : List Generation) (seat : ℕ) → mid ≡ shown g (length gs) → Some after ≡ shown_of (added policy now (record { seat = seat; cmd = cmd; reply = reply; mark = 0 }) (g ∷ gs))) →
    Goes first history (record { seat = seat; cmd = cmd; reply = reply; mark = 0 }) now (Some after)
goes first policy history latest present cmd now mid after reply seat early is latest_is present_is now_is finds answers adds =
    subst (λ p. latest ≡ (course_of p history).latest → present ≡ shown_of (course_of p history).generations → Goes p history (record { seat = seat; cmd = cmd; reply = reply; mark = 0 }) now (Some after)) is
    (λ here there. let made = stepped policy history latest present cmd now mid after reply seat early here there now_is finds answers adds in record { step = made.0; latest_is = made.1; present_is = made.2 })
    latest_is present_is
