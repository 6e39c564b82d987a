use Rattle.std.proofs.Common.{◌∙◌, ◌+◌, List, ℕ, false, Result, Ok, drop, sym, ap, subst, drop-drop}
use Rattle.std.proofs.lemmas.Result.{err_from_is_err_and}
use Rattle.std.specs.declared.alloc.AllocError.{AllocError}
use Rattle.http_frames.specs.declared.framer.Stage.{Stage}
use Rattle.http_frames.specs.declared.turn.Turn.{Turn}
use Rattle.http_frames.specs.declared.turn.Turn.TheVariants as turn
use Rattle.http_frames.specs.declared.step.Step.TheVariants as step
use Rattle.http_frames.specs.Framing.{Kept, Stands, Answers}
use Rattle.http_frames.specs.Framer.{kept_at}
use Rattle.http_frames.specs.Turns.{TakesTurn, Leaves}
use Rattle.http_frames.proofs.FramerLemmas.{gives_request, gives_continue, gives_need, gives_nothing, gives_refusal}
use Rattle.http_frames.proofs.framer.Framer.next.Goals as goal

pub returns-in_err-request : goal.returns-in_err-request
returns-in_err-request c state is =
    let inside = c.self.inside in
    let bytes = inside.bytes.items in
    let rest = drop inside.start bytes in
    let turned = c.take_turn-stage.result in
    let V : Kept → Type 0 = λ kept. Stands state kept in
    let stands = subst V (sym c.self.view_is) is in
    let rest' = drop c.take_turn-stage.new.at bytes in
    let N : List ℕ → Type 0 = λ t. TakesTurn state.pending (drop inside.start t) (drop c.take_turn-stage.new.at t) inside.continued c.replace-stage.result turned in
    let Q : Stage → Type 0 = λ s. TakesTurn state.pending rest rest' inside.continued s turned in
    let R : Result Turn AllocError → Type 0 = λ r. TakesTurn state.pending rest rest' inside.continued inside.stage (turned.0, r) in
    let took = subst R (c.in_err-request.was) (subst Q c.replace-stage.ensures.value (subst N c.deref.ensures.value (c.take_turn-stage.ensures.turn state.pending))) in
    let p = err_from_is_err_and c.from_residual.result c.from_residual.ensures.1 in
    rw (p.1, p.2) (gives_nothing state inside.start c.take_turn-stage.new.at rest rest' inside.continued inside.stage turned.0 _ stands took)

pub returns-in-Request : goal.returns-in-Request
returns-in-Request c state is =
    let inside = c.self.inside in
    let bytes = inside.bytes.items in
    let rest = drop inside.start bytes in
    let turned = c.take_turn-stage.result in
    let V : Kept → Type 0 = λ kept. Stands state kept in
    let stands = subst V (sym c.self.view_is) is in
    let rest' = drop c.take_turn-stage.new.at bytes in
    let N : List ℕ → Type 0 = λ t. TakesTurn state.pending (drop inside.start t) (drop c.take_turn-stage.new.at t) inside.continued c.replace-stage.result turned in
    let Q : Stage → Type 0 = λ s. TakesTurn state.pending rest rest' inside.continued s turned in
    let R : Result Turn AllocError → Type 0 = λ r. TakesTurn state.pending rest rest' inside.continued inside.stage (turned.0, r) in
    let took = subst R (c.in_ok-request.was ∙ ap (λ (t : Turn). Ok t) c.in-Request.is) (subst Q c.replace-stage.ensures.value (subst N c.deref.ensures.value (c.take_turn-stage.ensures.turn state.pending))) in
    let L : Result Turn AllocError → Type 0 = λ r. Leaves (drop c.take_turn-stage.new.at c.deref.result.now) inside.continued (turned.0, r) in
    let left = subst L (c.in_ok-request.was ∙ ap (λ (t : Turn). Ok t) c.in-Request.is) c.take_turn-stage.ensures.left in
    let W : List ℕ → Type 0 = λ t. Answers state (Ok (step.Request c.in-Request.request)) (kept_at (c.take_turn-stage.new.at + c.in-Request.end) t false turned.0) in
    subst W (drop-drop c.in-Request.end c.take_turn-stage.new.at bytes)
    (gives_request state inside.start _ rest rest' inside.continued inside.stage turned.0 c.in-Request.request c.in-Request.end stands took left.0)

pub returns-in-Continue : goal.returns-in-Continue
returns-in-Continue c state is =
    let inside = c.self.inside in
    let bytes = inside.bytes.items in
    let rest = drop inside.start bytes in
    let turned = c.take_turn-stage.result in
    let V : Kept → Type 0 = λ kept. Stands state kept in
    let stands = subst V (sym c.self.view_is) is in
    let rest' = drop c.take_turn-stage.new.at bytes in
    let N : List ℕ → Type 0 = λ t. TakesTurn state.pending (drop inside.start t) (drop c.take_turn-stage.new.at t) inside.continued c.replace-stage.result turned in
    let Q : Stage → Type 0 = λ s. TakesTurn state.pending rest rest' inside.continued s turned in
    let R : Result Turn AllocError → Type 0 = λ r. TakesTurn state.pending rest rest' inside.continued inside.stage (turned.0, r) in
    let took = subst R (c.in_ok-request.was ∙ ap (λ (t : Turn). Ok t) c.in-Continue.is) (subst Q c.replace-stage.ensures.value (subst N c.deref.ensures.value (c.take_turn-stage.ensures.turn state.pending))) in
    gives_continue state inside.start c.take_turn-stage.new.at rest rest' inside.continued inside.stage turned.0 stands took

pub returns-in-Need : goal.returns-in-Need
returns-in-Need c state is =
    let inside = c.self.inside in
    let bytes = inside.bytes.items in
    let rest = drop inside.start bytes in
    let turned = c.take_turn-stage.result in
    let V : Kept → Type 0 = λ kept. Stands state kept in
    let stands = subst V (sym c.self.view_is) is in
    let rest' = drop c.take_turn-stage.new.at bytes in
    let N : List ℕ → Type 0 = λ t. TakesTurn state.pending (drop inside.start t) (drop c.take_turn-stage.new.at t) inside.continued c.replace-stage.result turned in
    let Q : Stage → Type 0 = λ s. TakesTurn state.pending rest rest' inside.continued s turned in
    let R : Result Turn AllocError → Type 0 = λ r. TakesTurn state.pending rest rest' inside.continued inside.stage (turned.0, r) in
    let took = subst R (c.in_ok-request.was ∙ ap (λ (t : Turn). Ok t) c.in-Need.is) (subst Q c.replace-stage.ensures.value (subst N c.deref.ensures.value (c.take_turn-stage.ensures.turn state.pending))) in
    let L : Result Turn AllocError → Type 0 = λ r. Leaves (drop c.take_turn-stage.new.at c.deref.result.now) inside.continued (turned.0, r) in
    let M : List ℕ → Type 0 = λ t. Leaves (drop c.take_turn-stage.new.at t) inside.continued (turned.0, Ok turn.Need) in
    let left = subst M c.deref.ensures.value (subst L (c.in_ok-request.was ∙ ap (λ (t : Turn). Ok t) c.in-Need.is) c.take_turn-stage.ensures.left) in
    gives_need state inside.start c.take_turn-stage.new.at rest rest' inside.continued inside.stage turned.0 stands took left

pub returns-in-Refused : goal.returns-in-Refused
returns-in-Refused c state is =
    let inside = c.self.inside in
    let bytes = inside.bytes.items in
    let rest = drop inside.start bytes in
    let turned = c.take_turn-stage.result in
    let V : Kept → Type 0 = λ kept. Stands state kept in
    let stands = subst V (sym c.self.view_is) is in
    let rest' = drop c.take_turn-stage.new.at bytes in
    let N : List ℕ → Type 0 = λ t. TakesTurn state.pending (drop inside.start t) (drop c.take_turn-stage.new.at t) inside.continued c.replace-stage.result turned in
    let Q : Stage → Type 0 = λ s. TakesTurn state.pending rest rest' inside.continued s turned in
    let R : Result Turn AllocError → Type 0 = λ r. TakesTurn state.pending rest rest' inside.continued inside.stage (turned.0, r) in
    let took = subst R (c.in_ok-request.was ∙ ap (λ (t : Turn). Ok t) c.in-Refused.is) (subst Q c.replace-stage.ensures.value (subst N c.deref.ensures.value (c.take_turn-stage.ensures.turn state.pending))) in
    let L : Result Turn AllocError → Type 0 = λ r. Leaves (drop c.take_turn-stage.new.at c.deref.result.now) inside.continued (turned.0, r) in
    let left = subst L (c.in_ok-request.was ∙ ap (λ (t : Turn). Ok t) c.in-Refused.is) c.take_turn-stage.ensures.left in
    gives_refusal state inside.start _ rest rest' _ inside.continued inside.continued inside.stage turned.0 c.in-Refused.error stands took left
