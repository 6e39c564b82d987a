use Rattle.std.proofs.Common.{◌∙◌, sym, ap}
use Rattle.http_frames.specs.HeadRules.{fields_refusal}
use Rattle.http_frames.specs.declared.head.Head.{Head}
use Rattle.http_frames.proofs.HeadStepLemmas.{judged_refused, judged_taken, no_head_refused}
use Rattle.http_frames.proofs.head.judged_head.Goals as goal

pub returns-in-Some : goal.returns-in-Some
returns-in-Some c =
    let read = c.requires in
    let broken = ap (λ (x : Head). fields_refusal x.minor x.fields) (sym read.3) ∙ sym c.in-Some.ensures in
    (judged_refused c.args.pending.now read.0 read.1 _ read.2 broken, no_head_refused c.args.pending.now read.0 read.1 _ read.2 broken)

pub returns-in-None : goal.returns-in-None
returns-in-None c =
    let read = c.requires in (
      read.0,
      _,
      judged_taken c.args.pending.now read.0 read.1 read.2
          (ap (λ (x : Head). fields_refusal x.minor x.fields) (sym read.3) ∙ sym c.in-None.ensures),
      read.3,
      c.said_by-said.ensures,
    )
