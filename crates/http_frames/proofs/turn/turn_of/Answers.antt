use Rattle.std.proofs.Common.{List, ℕ, refl, false, drop, subst, arith, drop-drop, length-drop}
use Rattle.http_frames.specs.HeadRules.{is_chunked, content_length}
use Rattle.http_frames.specs.Progress.{HoldsContent}
use Rattle.http_frames.specs.declared.progress.Content.{Content}
use Rattle.http_frames.proofs.TurnLemmas.{quiet_none, first_content, first_bounded, due_same, head_sound, head_inside}
use Rattle.http_frames.proofs.turn.turn_of.Goals as goal

pub content_turn-requires-clause-sound : goal.content_turn-requires-clause-sound
content_turn-requires-clause-sound c =
    let step = rw c.in-Taken.is at c.requires.step in
    let head = c.in-Taken.head in
    let sound = head_sound (drop c.args.at.now c.args.bytes.now) step.0 step.1 head step.2 step.3 in
    let due = due_same head c.in-Taken.said c.in-Ok.body.left step.4 sound.0 c.in-Ok.ensures.1 in
    record {
      said = step.4;
      length_is = sound.0;
      bounded = first_bounded (is_chunked head.fields) (content_length head.fields) _ _ c.in-Ok.ensures.0 sound.1 due;
    }

pub content_turn-requires-clause-within : goal.content_turn-requires-clause-within
content_turn-requires-clause-within c =
    let step = rw c.in-Taken.is at c.requires.step in
    omega (arith, head_inside (drop c.args.at.now c.args.bytes.now) step.0 step.1 c.in-Taken.head step.2 step.3, length-drop c.args.at.now c.args.bytes.now)

pub returns-in-Ok-clause-turn : goal.returns-in-Ok-clause-turn
returns-in-Ok-clause-turn c =
    let bytes = c.args.bytes.now in
    let at = c.args.at.now in
    let step = rw c.in-Taken.is at c.requires.step in
    let head = c.in-Taken.head in
    let sound = head_sound (drop at bytes) step.0 step.1 head step.2 step.3 in
    let due = due_same head c.in-Taken.said c.in-Ok.body.left step.4 sound.0 c.in-Ok.ensures.1 in
    let content : Content = record { head = head; said = c.in-Taken.said; body = c.in-Ok.body } in
    let P : List ℕ → Type 0 = λ t. HoldsContent (drop at bytes) t content in
    c.content_turn.ensures.turn (drop at bytes) (subst P (drop-drop head.len at bytes)
    (first_content (drop at bytes) step.0 step.1 head c.in-Taken.said c.in-Ok.body.bytes c.in-Ok.body.left c.in-Ok.body.looked step.2 step.3 c.in-Ok.ensures.0 due c.in-Ok.ensures.2))

pub returns-in-Need-clause-turn : goal.returns-in-Need-clause-turn
returns-in-Need-clause-turn c =
    let step = rw c.in-Need.is at c.requires.step in
    (λ head body rest whole. step.2 head whole.after whole.heads, step.1, quiet_none _ false step.2, refl)

pub returns-in-Refused-clause-turn : goal.returns-in-Refused-clause-turn
returns-in-Refused-clause-turn c =
    let step = rw c.in-Refused.is at c.requires.step in
    (step.0, quiet_none _ false step.1)

pub returns-in-Need-clause-left : goal.returns-in-Need-clause-left
returns-in-Need-clause-left c =
    let step = rw c.in-Need.is at c.requires.step in
    ((refl, step.3), omega (arith, step.4))
