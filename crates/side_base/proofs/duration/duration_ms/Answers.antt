use Rattle.std.proofs.Common.{◌≡◌, ◌≢◌, ℕ, List, [], length, nat_eq, true, Ok, Err, ap, arith}
use Rattle.std.proofs.lemmas.Grind.{common_steps}
use Rattle.std.proofs.lemmas.Result.{err_from_is_err_and}
use Rattle.side_base.specs.declared.duration.DurationErr.TheVariants.{Empty, BadUnit, BadDigit, TooLong}
use Rattle.side_base.proofs.Durations.{answers, Answers-within, Answers-beyond, Answers-stopped}
use Rattle.side_base.proofs.duration.duration_ms.Goals as goal

pub returns-then-is_empty : goal.returns-then-is_empty
returns-then-is_empty c =
    let empty : c.args.text.now ≡ [] = grind (arith, common_steps) in
    let t = answers c.args.text.now (Err Empty) empty in
    record {
      ok = λ ms. t (Ok ms);
      empty = t (Err Empty);
      bad_unit = λ at. t (Err (BadUnit at));
      bad_digit = λ at. t (Err (BadDigit at));
      too_long = t (Err TooLong);
    }

pub returns-in_err-total : goal.returns-in_err-total
returns-in_err-total c =
    let p = err_from_is_err_and c.from_residual.result c.from_residual.ensures.1 in
    let stopped = Answers-stopped c.args.text.now c.in_err-total.field-0.0 c.in_err-total.ensures in
    let t = answers c.args.text.now (Err c.in_err-total.field-0.0) stopped in
    rw (p.1, p.2)
    (record {
      ok = λ ms. t (Ok ms);
      empty = t (Err Empty);
      bad_unit = λ at. t (Err (BadUnit at));
      bad_digit = λ at. t (Err (BadDigit at));
      too_long = t (Err TooLong);
    })

pub returns-then-total-gt-DURATION_LIMIT : goal.returns-then-total-gt-DURATION_LIMIT
returns-then-total-gt-DURATION_LIMIT c =
    let some : c.args.text.now ≢ [] = λ absent.
    (let empty : nat_eq (length c.args.text.now) 0 ≡ true = ap (λ (xs : List ℕ). nat_eq (length xs) 0) absent in cc)
    in
    let beyond = Answers-beyond c.args.text.now c.in_ok-total.total some c.in_ok-total.ensures c.if-total-gt-DURATION_LIMIT.true in
    let t = answers c.args.text.now (Err TooLong) beyond in
    record {
      ok = λ ms. t (Ok ms);
      empty = t (Err Empty);
      bad_unit = λ at. t (Err (BadUnit at));
      bad_digit = λ at. t (Err (BadDigit at));
      too_long = t (Err TooLong);
    }

pub returns : goal.returns
returns c =
    let some : c.args.text.now ≢ [] = λ absent.
    (let empty : nat_eq (length c.args.text.now) 0 ≡ true = ap (λ (xs : List ℕ). nat_eq (length xs) 0) absent in cc)
    in
    let within = Answers-within c.args.text.now c.in_ok-total.total some c.in_ok-total.ensures c.if-total-gt-DURATION_LIMIT.false in
    let t = answers c.args.text.now (Ok c.in_ok-total.total) within in
    record {
      ok = λ ms. t (Ok ms);
      empty = t (Err Empty);
      bad_unit = λ at. t (Err (BadUnit at));
      bad_digit = λ at. t (Err (BadDigit at));
      too_long = t (Err TooLong);
    }
