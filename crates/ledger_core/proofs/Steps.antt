-- One command makes a step.
use Rattle.std.proofs.Common.{fold, ◌≡◌, ◌+◌, ◌<◌, ◌≤◌, ◌^◌, ℕ, Bool, true, List, [], ◌∷◌, ◌++◌, map, length, Option, Some, None, refl, sym, ap, subst, ◌∙◌, arith, length-append, ⊎_elim}
use Rattle.std.specs.Prelude.{option_map}
use Rattle.std.specs.List.{filter}
use Rattle.std.proofs.lemmas.Bool.{cases_eq, false≢true}
use Rattle.std.proofs.lemmas.Option.{none-some, same_Some}
use Rattle.std.proofs.lemmas.List.Sums.{length-filter, count_by-le-length}
use Rattle.ledger_core.specs.declared.plan.Plan.{Plan}
use Rattle.ledger_core.specs.declared.books.Books.{Books}
use Rattle.ledger_core.specs.declared.command.Finish.TheVariants as ended
use Rattle.ledger_core.specs.declared.command.LedgerCmd.{LedgerCmd}
use Rattle.ledger_core.specs.declared.command.LedgerCmd.TheVariants.{Accept, Settle}
use Rattle.ledger_core.specs.declared.reply.LedgerReply.{LedgerReply}
use Rattle.ledger_core.specs.declared.reply.LedgerReply.TheVariants as says
use Rattle.ledger_core.specs.Aims.{IsGiven}
use Rattle.ledger_core.specs.Message.{Step, Pair, pair_at, messages_of, pairs_of}
use Rattle.ledger_core.specs.Standing.{Standing, words_by, words_with, status_in, is_settling, standing, standings}
use Rattle.ledger_core.specs.Course.{Course, is_owed, course_of, standing_at}
use Rattle.ledger_core.specs.Reply.{IsReply}
use Rattle.ledger_core.specs.Books.{Shows}
use Rattle.ledger_core.specs.After.{moved, fresh, letters, fresh_by, one_if, added_by, course_after, AreDistinct, IsBook, Answers}
use Rattle.ledger_core.specs.Ledger.{IsUntouched}
use Rattle.ledger_core.proofs.Lookups.{standing_at-map, standing_at-append, or_else, distinct-map, distinct-append, fresh_elsewhere, fresh_distinct}
use Rattle.ledger_core.proofs.Once.{are_once}
use Rattle.ledger_core.proofs.Histories.{standing_at_pairs, made_more, course_more, untouched_more}

-- ---- what is so of the course of a history

one_word : (cmd : LedgerCmd) (reply : LedgerReply) → length (words_by cmd reply) ≤ 1
one_word (Settle n s claim ended.Retry now word aims) (says.Again at) = omega arith
one_word cmd reply = omega arith

words_few : (words : List ℕ) (xs : List Step) → length (fold words_with words xs) ≤ length words + length xs
words_few words [] = omega arith
words_few words (x ∷ xs) =
    let l = length-append (words_by x.cmd x.reply) words in
    let o = one_word x.cmd x.reply in
    let r = words_few (words_with words x) xs in
    omega (arith, l, o, r)

filter_few : (test : Step → Bool) (xs : List Step) → length (filter test xs) ≤ length xs
filter_few test xs = let e = length-filter test xs in let l = count_by-le-length test xs in omega (arith, e, l)

has_path : (path : Option (List ℕ)) (o : Option Step) → is_owed (status_in path o) ≡ true → (x : List ℕ) × (path ≡ Some x)
has_path None o e = absurd (false≢true e)
has_path (Some x) o e = (x, refl)

-- what stands in a book is what is said of a pair
said : (history : List Step) (m sub : ℕ) (s : Standing) → standing_at m sub (standings history) ≡ Some s → (p : Pair) × (standing history p ≡ s)
said history m sub s e = by_option (pair_at m sub (pairs_of history)) (sym (standing_at_pairs history m sub (pairs_of history)) ∙ e)
  where
    by_option : (o : Option Pair) → option_map (standing history) o ≡ Some s → (p : Pair) × (standing history p ≡ s)
    by_option None f = absurd (none-some s f)
    by_option (Some p) f = (p, same_Some _ _ f)

pub is_book : (history : List Step) → ((m sub : ℕ) (s : Standing) → standing_at m sub (standings history) ≡ Some s → m ≤ length (messages_of history)) → AreDistinct (standings history) → length history < 2 ^ 62 → IsBook (course_of history)
is_book history made distinct short = record {
  numbered = made;
  pathed = λ m sub s e owed.
      let pair = said history m sub s e in
      let path = has_path pair.0.path _ (subst (λ (t : Standing). is_owed t.status ≡ true) (sym pair.1) owed) in
      (path.0, ap (λ (t : Standing). t.pair.path) (sym pair.1) ∙ path.1);
  distinct = distinct;
  short = λ m sub s e.
      let pair = said history m sub s e in
      let w = words_few [] (filter (is_settling pair.0) history) in
      let f = filter_few (is_settling pair.0) history in
      let l = ap (λ (t : Standing). length t.words) pair.1 in
      omega (arith, w, f, l, short);
}

-- ---- new pairs

new_number : (n : ℕ) (event : List ℕ) (hops now : ℕ) (aims : List Rattle.ledger_core.specs.declared.plan.Aim.Aim) (m sub : ℕ) (s : Standing) → standing_at m sub (fresh n event hops now aims) ≡ Some s → m ≡ n
new_number n event hops now aims m sub s e = ⊎_elim (λ same. sym same) (λ unlike. absurd (none-some s (sym (fresh_elsewhere n event hops now aims m sub unlike) ∙ e))) (cases_eq n m)

fresh_made : (course : Course) (cmd : LedgerCmd) (reply : LedgerReply) (m sub : ℕ) (s : Standing) → standing_at m sub (fresh_by course cmd reply) ≡ Some s → m ≡ course.made + added_by course cmd reply
fresh_made course (Accept event aims now) (says.Accepted n) m sub s e = new_number (course.made + 1) event 0 now aims m sub s e
fresh_made course (Settle n j claim finish now word aims) (says.Dead new) m sub s e = by_option (standing_at n j course.book) e
  where
    by_option : (o : Option Standing) → standing_at m sub (letters (course.made + 1) aims now o) ≡ Some s → m ≡ course.made + one_if o
    by_option None f = absurd (none-some s f)
    by_option (Some t) f = new_number (course.made + 1) t.pair.event (t.pair.hops + 1) now aims m sub s f
fresh_made course cmd reply m sub s e = absurd (none-some s e)

fresh_apart : (course : Course) (cmd : LedgerCmd) (reply : LedgerReply) (m sub : ℕ) → m ≤ course.made → standing_at m sub (fresh_by course cmd reply) ≡ None
fresh_apart course (Accept event aims now) (says.Accepted n) m sub few = fresh_elsewhere (course.made + 1) event 0 now aims m sub (λ same. omega arith)
fresh_apart course (Settle n j claim finish now word aims) (says.Dead new) m sub few = by_option (standing_at n j course.book)
  where
    by_option : (o : Option Standing) → standing_at m sub (letters (course.made + 1) aims now o) ≡ None
    by_option None = refl
    by_option (Some t) = fresh_elsewhere (course.made + 1) t.pair.event (t.pair.hops + 1) now aims m sub (λ same. omega arith)
fresh_apart course cmd reply m sub few = refl

fresh_distinct_by : (plans : ℕ) (course : Course) (cmd : LedgerCmd) (reply : LedgerReply) → IsGiven plans cmd → AreDistinct (fresh_by course cmd reply)
fresh_distinct_by plans course (Accept event aims now) (says.Accepted n) given = fresh_distinct (course.made + 1) event 0 now aims (are_once aims given.once)
fresh_distinct_by plans course (Settle n j claim finish now word aims) (says.Dead new) given = by_option (standing_at n j course.book)
  where
    by_option : (o : Option Standing) → AreDistinct (letters (course.made + 1) aims now o)
    by_option None = tt
    by_option (Some t) = fresh_distinct (course.made + 1) t.pair.event (t.pair.hops + 1) now aims (are_once aims given.once)
fresh_distinct_by plans course cmd reply given = tt

-- what stood in a book before it moved
was_there : (f : Standing → Standing) → ((s : Standing) → (f s).pair ≡ s.pair) → (m sub : ℕ) (book : List Standing) (s : Standing) → standing_at m sub (map f book) ≡ Some s → (t : Standing) × (standing_at m sub book ≡ Some t)
was_there f pairs m sub book s e = by_option (standing_at m sub book) refl (sym (standing_at-map f pairs m sub book) ∙ e)
  where
    by_option : (o : Option Standing) → standing_at m sub book ≡ o → option_map f o ≡ Some s → (t : Standing) × (standing_at m sub book ≡ Some t)
    by_option None g h = absurd (none-some s h)
    by_option (Some t) g h = (t, g)

made_after : (course : Course) (cmd : LedgerCmd) (reply : LedgerReply) → ((m sub : ℕ) (s : Standing) → standing_at m sub course.book ≡ Some s → m ≤ course.made)
    → (m sub : ℕ) (s : Standing) → standing_at m sub (course_after course cmd reply).book ≡ Some s → m ≤ course.made + added_by course cmd reply
made_after course cmd reply made m sub s e =
    by_option (standing_at m sub (map (moved cmd reply) course.book)) refl (sym (standing_at-append m sub (map (moved cmd reply) course.book) (fresh_by course cmd reply)) ∙ e)
  where
    by_option : (o : Option Standing) → standing_at m sub (map (moved cmd reply) course.book) ≡ o → or_else o (standing_at m sub (fresh_by course cmd reply)) ≡ Some s → m ≤ course.made + added_by course cmd reply
    by_option None f g = let h = fresh_made course cmd reply m sub s g in omega (arith, h)
    by_option (Some t) f g = let there = was_there (moved cmd reply) (λ x. refl) m sub course.book t f in let h = made m sub there.0 there.1 in omega (arith, h)

distinct_after : (plans : ℕ) (course : Course) (cmd : LedgerCmd) (reply : LedgerReply) → IsGiven plans cmd → ((m sub : ℕ) (s : Standing) → standing_at m sub course.book ≡ Some s → m ≤ course.made) → AreDistinct course.book → AreDistinct (course_after course cmd reply).book
distinct_after plans course cmd reply given made distinct =
    distinct-append (map (moved cmd reply) course.book) (fresh_by course cmd reply) (distinct-map (moved cmd reply) (λ s. refl) course.book distinct) (fresh_distinct_by plans course cmd reply given)
    (λ m sub s e. let there = was_there (moved cmd reply) (λ x. refl) m sub course.book s e in fresh_apart course cmd reply m sub (made m sub there.0 there.1))

-- ---- the step

-- what stands after one more entry
pub record Stepped (plans : List Plan) (history : List Step) (e : Step) (after : Books) : Type 0 where
  pub reply_is : IsReply plans (course_of history) e.cmd e.reply
  pub shows : Shows plans (course_of (history ++ e ∷ [])) after
  pub made : (m sub : ℕ) (s : Standing) → standing_at m sub (standings (history ++ e ∷ [])) ≡ Some s → m ≤ length (messages_of (history ++ e ∷ []))
  pub distinct : AreDistinct (standings (history ++ e ∷ []))
  pub untouched : IsUntouched (history ++ e ∷ [])

-- of every legal entry
pub record Follows (history : List Step) (e : Step) : Type 0 where
  pub course_is : course_of (history ++ e ∷ []) ≡ course_after (course_of history) e.cmd e.reply
  pub made : (m sub : ℕ) (s : Standing) → standing_at m sub (standings (history ++ e ∷ [])) ≡ Some s → m ≤ length (messages_of (history ++ e ∷ []))
  pub distinct : AreDistinct (standings (history ++ e ∷ []))
  pub untouched : IsUntouched (history ++ e ∷ [])

pub follows : (plans : List Plan) (history : List Step) (e : Step) → IsGiven (length plans) e.cmd → IsReply plans (course_of history) e.cmd e.reply
    → ((m sub : ℕ) (s : Standing) → standing_at m sub (standings history) ≡ Some s → m ≤ length (messages_of history)) → AreDistinct (standings history) → IsUntouched history → Follows history e
follows plans history e given reply made distinct untouched = record {
  course_is = course_is;
  made = λ m sub s is.
      subst (λ n. m ≤ n) (sym (made_more history e))
      (made_after (course_of history) e.cmd e.reply made m sub s (ap (λ (c : Course). standing_at m sub c.book) (sym course_is) ∙ is));
  distinct = subst (λ (c : Course). AreDistinct c.book) (sym course_is) (distinct_after (length plans) (course_of history) e.cmd e.reply given made distinct);
  untouched = λ m sub lt. untouched_more plans history e untouched reply made m sub (let g = made_more history e in omega (arith, g, lt));
}
  where
    course_is : course_of (history ++ e ∷ []) ≡ course_after (course_of history) e.cmd e.reply
    course_is = course_more history e (λ sub. untouched_more plans history e untouched reply made (length (messages_of history) + 1) sub (omega arith))

pub stepped : (plans : List Plan) (history : List Step) (e : Step) (before after : Books) → IsGiven (length plans) e.cmd → Shows plans (course_of history) before
    → ((m sub : ℕ) (s : Standing) → standing_at m sub (standings history) ≡ Some s → m ≤ length (messages_of history)) → AreDistinct (standings history) → IsUntouched history → length history < 2 ^ 62
    → Answers plans before after e.cmd e.reply → Stepped plans history e after
stepped plans history e before after given shows made distinct untouched short answers =
    let step = answers (course_of history) (is_book history made distinct short) shows in
    let then = follows plans history e given step.reply_is made distinct untouched in
    record {
      reply_is = step.reply_is;
      shows = subst (λ c. Shows plans c after) (sym then.course_is) step.shows;
      made = then.made;
      distinct = then.distinct;
      untouched = then.untouched;
    }
