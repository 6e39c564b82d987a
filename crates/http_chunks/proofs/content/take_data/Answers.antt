use Rattle.std.proofs.Common.{◌≡◌, ℕ, List, drop, subst, arith, length-drop}
use Rattle.std.proofs.lemmas.List.{take_rest}
use Rattle.http_chunks.specs.ChunkSteps.{IsDataRead}
use Rattle.http_chunks.specs.declared.chunks.DataRead.{DataRead}
use Rattle.http_chunks.proofs.InChunksLemmas.{due_taken, due_kept, part_left, part_end, no_end, end_short, end_taken}
use Rattle.http_chunks.proofs.LinePlaceLemmas.{looked_within, place_start}
use Rattle.http_chunks.proofs.content.take_data.Goals as goal

pub returns-then-due-gt0-clause-kept : goal.returns-then-due-gt0-clause-kept
returns-then-due-gt0-clause-kept c = λ all was.
    due_kept all c.args.text.now c.args.at.now c.take_due.new.at c.args.body.now c.take_due.new.body c.args.left c.in_ok-due.due c.requires.left c.in_ok-due.ensures.ok was

pub returns-then-due-gt0-clause-step : goal.returns-then-due-gt0-clause-step
returns-then-due-gt0-clause-step c = λ all was seen.
    let taken = c.in_ok-due.ensures.ok in
    part_left all _ c.take_due.new.body.bytes c.in_ok-due.due
    (omega (arith, taken.all c.if-due-gt0.true, length-drop c.take_due.new.at c.args.text.now)) c.if-due-gt0.true
    (due_taken all c.args.text.now c.args.at.now c.take_due.new.at c.args.body.now c.take_due.new.body c.args.left c.in_ok-due.due c.requires.left taken was)

pub returns-then-due-gt0-clause-ends : goal.returns-then-due-gt0-clause-ends
returns-then-due-gt0-clause-ends c = omega (arith, c.in_ok-due.ensures.ok.all c.if-due-gt0.true, length-drop c.take_due.new.at c.args.text.now)

pub returns-in-Partial-clause-ends : goal.returns-in-Partial-clause-ends
returns-in-Partial-clause-ends c =
    let text = c.args.text.now in
    let at = c.take_due.new.at in
    let P : DataRead → List ℕ → Type 0 = λ r t. IsDataRead t 0 r in
    let read = subst (P c.read_line_end.result) (take_rest text at) c.read_line_end.ensures in
    end_short (drop at text) (rw c.in-Partial.is at read)

pub returns-in-Whole-clause-kept : goal.returns-in-Whole-clause-kept
returns-in-Whole-clause-kept c = λ all was.
    let text = c.args.text.now in
    let at = c.take_due.new.at in
    let none : c.in_ok-due.due ≡ 0 = omega (arith, c.if-due-gt0.false) in
    let P : DataRead → List ℕ → Type 0 = λ r t. IsDataRead t 0 r in
    let read = subst (P c.read_line_end.result) (take_rest text at) c.read_line_end.ensures in
    end_taken all text at c.take_due.new.body.bytes c.in_ok-due.due none
    (due_taken all text c.args.at.now at c.args.body.now c.take_due.new.body c.args.left c.in_ok-due.due c.requires.left c.in_ok-due.ensures.ok was)
    (rw c.in-Whole.is at read)

pub returns-in-Partial-clause-kept : goal.returns-in-Partial-clause-kept
returns-in-Partial-clause-kept c = λ all was.
    due_kept all c.args.text.now c.args.at.now c.take_due.new.at c.args.body.now c.take_due.new.body c.args.left c.in_ok-due.due c.requires.left c.in_ok-due.ensures.ok was

pub returns-in-Partial-clause-step : goal.returns-in-Partial-clause-step
returns-in-Partial-clause-step c = λ all was seen.
    let text = c.args.text.now in
    let at = c.take_due.new.at in
    let none : c.in_ok-due.due ≡ 0 = omega (arith, c.if-due-gt0.false) in
    let P : DataRead → List ℕ → Type 0 = λ r t. IsDataRead t 0 r in
    let read = subst (P c.read_line_end.result) (take_rest text at) c.read_line_end.ensures in
    part_end all (drop at text) c.take_due.new.body.bytes c.in_ok-due.due none
    (due_taken all text c.args.at.now at c.args.body.now c.take_due.new.body c.args.left c.in_ok-due.due c.requires.left c.in_ok-due.ensures.ok was)
    (rw c.in-Partial.is at read)

pub returns-in-Invalid-clause-kept : goal.returns-in-Invalid-clause-kept
returns-in-Invalid-clause-kept c = λ all was.
    due_kept all c.args.text.now c.args.at.now c.take_due.new.at c.args.body.now c.take_due.new.body c.args.left c.in_ok-due.due c.requires.left c.in_ok-due.ensures.ok was

pub returns-in-Invalid-clause-step : goal.returns-in-Invalid-clause-step
returns-in-Invalid-clause-step c = λ all was seen.
    let text = c.args.text.now in
    let at = c.take_due.new.at in
    let none : c.in_ok-due.due ≡ 0 = omega (arith, c.if-due-gt0.false) in
    let P : DataRead → List ℕ → Type 0 = λ r t. IsDataRead t 0 r in
    let read = subst (P c.read_line_end.result) (take_rest text at) c.read_line_end.ensures in
    no_end all (drop at text) c.take_due.new.body.bytes c.in_ok-due.due none
    (due_taken all text c.args.at.now at c.args.body.now c.take_due.new.body c.args.left c.in_ok-due.due c.requires.left c.in_ok-due.ensures.ok was)
    (rw c.in-Invalid.is at read)

pub returns-then-due-gt0-clause-looked : goal.returns-then-due-gt0-clause-looked
returns-then-due-gt0-clause-looked c = λ _. looked_within _ c.take_due.new.body.left c.take_due.new.body.looked c.in_ok-due.due c.in_ok-due.ensures.ok.left_is

pub returns-in-Partial-clause-looked : goal.returns-in-Partial-clause-looked
returns-in-Partial-clause-looked c = λ _. looked_within _ c.take_due.new.body.left c.take_due.new.body.looked c.in_ok-due.due c.in_ok-due.ensures.ok.left_is

pub returns-in-Invalid-clause-looked : goal.returns-in-Invalid-clause-looked
returns-in-Invalid-clause-looked c = λ _. looked_within _ c.take_due.new.body.left c.take_due.new.body.looked c.in_ok-due.due c.in_ok-due.ensures.ok.left_is

pub returns-in-Whole-clause-looked : goal.returns-in-Whole-clause-looked
returns-in-Whole-clause-looked c = λ _. place_start _ c.start_of_line-body.result c.start_of_line-body.ensures
