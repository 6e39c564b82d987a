use Rattle.std.proofs.Common.{◌≡◌, ◌∙◌, [], false, Result, Ok, ap, subst}
use Rattle.http_frames.specs.declared.step.Step.{Step}
use Rattle.http_frames.specs.declared.step.Step.TheVariants as step
use Rattle.http_frames.specs.declared.refusal.FrameErr.{FrameErr}
use Rattle.http_frames.specs.Framing.{State, waiting, fed, IsNext}
use Rattle.frame_cases.proofs.midway.first_request.Goals as goal

pub returns-in-Request : goal.returns-in-Request
returns-in-Request c =
    let bytes = c.args.bytes.now in
    let held = fed (waiting [] false) bytes in
    let answers = c.next.ensures held (c.in_ok-feed.ensures.ok (waiting [] false) c.new-framer.ensures) in
    let midway = c.bytes_go_on.ensures.fed [] bytes [] (waiting [] false) c.bytes_go_on.ensures.made in
    let P : Result Step FrameErr → Type 0 = λ answer. IsNext held answer answers.new in
    let next = subst P (c.in_ok-request.was ∙ ap (λ (s : Step). Ok s) c.in-Request.is) answers.next in
    let goes = c.answers_go_on.ensures bytes [] held answers.new (Ok (step.Request c.in-Request.request)) midway next in
    (goes.whole, answers.new.pending, goes.midway.begins, goes.is)
