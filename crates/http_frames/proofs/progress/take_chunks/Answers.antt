use Rattle.std.proofs.lemmas.Result.{err_from_is_err_and}
use Rattle.http_frames.proofs.ProgressLemmas.{chunks_of, kept_content, chunks_whole, chunks_need, chunks_long, chunks_bad}
use Rattle.http_frames.proofs.progress.take_chunks.Goals as goal

pub returns-in-Whole-clause-progress : goal.returns-in-Whole-clause-progress
returns-in-Whole-clause-progress c = λ pending is.
    let chunks = chunks_of pending _ c.args.content.now is c.requires.chunked in
    let step = rw c.in-Whole.is at (c.in_ok-step.ensures.step is.after chunks is.looked) in
    chunks_whole pending _ _ c.args.content.now _ c.in-Whole.len is c.requires.chunked step

pub returns-in-Need-clause-progress : goal.returns-in-Need-clause-progress
returns-in-Need-clause-progress c = λ pending is.
    let chunks = chunks_of pending _ c.args.content.now is c.requires.chunked in
    let step = rw c.in-Need.is at (c.in_ok-step.ensures.step is.after chunks is.looked) in
    let more = chunks_need pending _ c.args.content.now is c.requires.chunked step in (
      kept_content pending _ _ c.args.content.now _ is c.requires.chunked (c.in_ok-step.ensures.kept is.after chunks)
          (c.in_ok-step.ensures.looked is.looked),
      more.0,
      more.1,
    )

pub returns-in-TooLong-clause-progress : goal.returns-in-TooLong-clause-progress
returns-in-TooLong-clause-progress c = λ pending is.
    let chunks = chunks_of pending _ c.args.content.now is c.requires.chunked in
    let step = rw c.in-TooLong.is at (c.in_ok-step.ensures.step is.after chunks is.looked) in
    chunks_long pending _ c.args.content.now is c.requires.chunked step

pub returns-in-Bad-clause-progress : goal.returns-in-Bad-clause-progress
returns-in-Bad-clause-progress c = λ pending is.
    let chunks = chunks_of pending _ c.args.content.now is c.requires.chunked in
    let step = rw c.in-Bad.is at (c.in_ok-step.ensures.step is.after chunks is.looked) in
    chunks_bad pending _ c.args.content.now is c.requires.chunked step

pub returns-in_err-step-clause-progress : goal.returns-in_err-step-clause-progress
returns-in_err-step-clause-progress c = λ pending is.
    let p = err_from_is_err_and c.from_residual.result c.from_residual.ensures.1 in
    let chunks = chunks_of pending _ c.args.content.now is c.requires.chunked in
    rw p.1 (kept_content pending _ _ c.args.content.now _ is c.requires.chunked (c.read_content.ensures.kept is.after chunks) (c.read_content.ensures.looked is.looked))

pub returns-in-Need-clause-ends : goal.returns-in-Need-clause-ends
returns-in-Need-clause-ends c = rw c.in-Need.is at c.in_ok-step.ensures.ends
