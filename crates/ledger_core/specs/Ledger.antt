-- What a ledger stands for.
use Rattle.std.specs.Prelude.{◌≡◌, ◌<◌, ◌≤◌, ◌||◌, ℕ, List, [], ◌∷◌, length, Some, refl}
use Rattle.std.specs.List.{filter}
use Rattle.std.proofs.Common.{sym, subst, arith}
use Rattle.ledger_core.specs.declared.plan.Plan.{Plan}
use Rattle.ledger_core.specs.declared.books.Books.{Books}
use Rattle.ledger_core.specs.declared.ledger.Ledger.{Ledger}
use Rattle.ledger_core.specs.Row.{Entry}
use Rattle.ledger_core.specs.Message.{Step, messages_of}
use Rattle.ledger_core.specs.Standing.{Standing, takes, settles, standings}
use Rattle.ledger_core.specs.Course.{course_of, standing_at}
use Rattle.ledger_core.specs.Reply.{IsReply}
use Rattle.ledger_core.specs.Books.{Shows, empty_books}
use Rattle.ledger_core.specs.After.{AreDistinct}
use Rattle.ledger_core.specs.Empty.{AreEmpty}

-- the plans that a ledger keeps
abbrev pub plans_of : Ledger → List Plan
plans_of ledger = ledger.plans

abbrev pub books_of : Ledger → Books
books_of ledger = ledger.books

-- an entry may come after a history
pub record IsStep (plans : List Plan) (history : List Step) (entry : Step) : Type 0 where
  pub reply : IsReply plans (course_of history) entry.cmd entry.reply
  pub mark : entry.mark ≡ 0

-- no entry took or settled a pair of a message that was not made
abbrev pub IsUntouched : List Step → Type 0
IsUntouched history =
    (number sub : ℕ) → length (messages_of history) < number
    → filter (λ entry. takes number sub entry.cmd entry.reply || settles number sub entry.cmd entry.reply) history ≡ []

-- after this history from the ledger `first`
pub record Stands (first : Ledger) (history : List Step) (ledger : Ledger) : Type 0 where
  pub plans : plans_of ledger ≡ plans_of first
  pub used : ledger.used ≡ length history
  pub shows : Shows (plans_of first) (course_of history) ledger.books
  pub made : (number sub : ℕ) (s : Standing) → standing_at number sub (standings history) ≡ Some s → number ≤ length (messages_of history)
  pub distinct : AreDistinct (standings history)
  pub untouched : IsUntouched history

no_entries : (entries : List Entry) → length entries ≡ 0 → entries ≡ []
no_entries [] e = refl
no_entries (x ∷ xs) e = absurd (omega arith)

shows_nothing : (plans : List Plan) (books : Books) → AreEmpty books → Shows plans (course_of []) books
shows_nothing plans books empty =
    subst (Shows plans (course_of [])) (sym is) (record {
      made = refl;
      claims = refl;
      waiting = λ at number sub. refl;
      held = λ at number sub. refl;
      owed = refl;
      done = refl;
      dropped = refl;
      dead = refl;
      bytes = refl;
    })
  where
    is : books ≡ empty_books
    is = λ i. record {
      waiting = no_entries books.waiting empty.waiting i;
      held = no_entries books.held empty.held i;
      made = empty.made i;
      claims = empty.claims i;
      owed = empty.owed i;
      done = empty.done i;
      dropped = empty.dropped i;
      dead = empty.dead i;
      bytes = empty.bytes i;
    }

-- a ledger that was told nothing stands for the empty history
pub opens : (first : Ledger) → first.used ≡ 0 → Stands first [] first
opens first unused = record {
  plans = refl;
  used = unused;
  shows = shows_nothing (plans_of first) first.books (first.fresh unused);
  made = λ number sub s e. absurd (Rattle.std.proofs.lemmas.Option.none-some s e);
  distinct = tt;
  untouched = λ number sub e. refl;
}

-- some history leads to the ledger, which is for so many subscriptions
pub record IsReached (plans : ℕ) (ledger : Ledger) : Type 0 where
  pub first : Ledger
  pub history : List Step
  pub stands : Stands first history ledger
  pub for_plans : length (plans_of first) ≡ plans
