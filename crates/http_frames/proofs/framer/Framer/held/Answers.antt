use Rattle.std.proofs.Common.{drop, arith, length-drop}
use Rattle.http_frames.proofs.FramerLemmas.{held_head, held_content, held_refused}
use Rattle.http_frames.proofs.framer.Framer.held.Goals as goal

pub returns-in-Head : goal.returns-in-Head
returns-in-Head c =
    let inside = c.self.inside in
    omega (
      arith,
      c.len.ensures,
      length-drop inside.start inside.bytes.items,
      held_head _ inside.start (drop inside.start inside.bytes.items) inside.continued inside.stage c.in-Head.field-0 c.in-Head.is c.self.view_is,
    )

pub returns-in-Content : goal.returns-in-Content
returns-in-Content c =
    let inside = c.self.inside in
    omega (
      arith,
      c.len.ensures,
      c.len-in-Content.ensures,
      length-drop inside.start inside.bytes.items,
      held_content _ inside.start (drop inside.start inside.bytes.items) inside.continued inside.stage c.in-Content.content c.in-Content.is c.self.view_is,
    )

pub returns-in-Refused : goal.returns-in-Refused
returns-in-Refused c =
    let inside = c.self.inside in
    held_refused _ inside.start (drop inside.start inside.bytes.items) inside.continued inside.stage c.in-Refused.field-0 c.in-Refused.is c.self.view_is
