use Rattle.std.proofs.Common.{[], ◌∷◌, ◌++◌, sym, subst, ◌∙◌}
use Rattle.json_text.specs.Doc.{bytes_read}
use Rattle.state_api.specs.Given.{Gives}
use Rattle.state_api.specs.Raw.{few_of}
use Rattle.state_api.proofs.Following.{held, held_err, failed}
use Rattle.state_api.proofs.Gathering.{Gathered, gathered_start, gathered_next, gathered_stop, gathered_end}
use Rattle.state_api.proofs.Fewness.{few_failed, few_fault, kept_none}
use Rattle.state_api.proofs.part.read_list.Goals as goal

pub returns-then-not-is_list : goal.returns-then-not-is_list
returns-then-not-is_list g c value at = few_failed _ _ (failed _ _ _ (sym (c.is_list.ensures value at) ∙ c.if-not-is_list.true))

pub loop-here-init : goal.loop-here-init
loop-here-init g c = record {
  here_is = c.first-here.ensures.node;
  going = λ value at. ([], gathered_start (g.P.Part.says (bytes_read c.args.doc.now)) c.args.doc.now c.args.n c.first-here.result c.first-here.ensures.first value at, kept_none _ c.new-parts.ensures);
}

pub loop-here-preserved : goal.loop-here-preserved
loop-here-preserved g c =
    let one = g.P.Part.says (bytes_read c.args.doc.now) in
    record {
      here_is = c.next-here.ensures.node;
      going = λ value at.
          let so = c.loop-here.invariant.going value at in (
            so.0 ++ c.in-Ok.part ∷ [],
            gathered_next one c.args.doc.now value c.in-Some.node c.next-here.result so.0 c.in-Ok.part (subst (λ h. Gathered one c.args.doc.now value h so.0) c.in-Some.is so.1) c.next-here.ensures.next c.in-Ok.ensures,
            c.in-Ok-keep.ensures.kept so.0 so.2,
          );
    }

pub returns-in-Err : goal.returns-in-Err
returns-in-Err g c value at =
    let one = g.P.Part.says (bytes_read c.args.doc.now) in
    let so = c.loop-here.invariant.going value at in
    few_fault _ _ (held_err _ _ _ _ (sym (c.is_list.ensures value at) ∙ c.if-not-is_list.false)
    (gathered_stop one c.args.doc.now value c.in-Some.node so.0 c.in-Err.error (subst (λ h. Gathered one c.args.doc.now value h so.0) c.in-Some.is so.1) c.in-Err.ensures))

pub returns-in-None : goal.returns-in-None
returns-in-None g c value at =
    let one = g.P.Part.says (bytes_read c.args.doc.now) in
    let so = c.loop-here.invariant.going value at in
    subst (λ all. Gives c.all_kept.result (few_of all)) (sym (held _ _ _ _ (sym (c.is_list.ensures value at) ∙ c.if-not-is_list.false)
    (gathered_end one c.args.doc.now value so.0 (subst (λ h. Gathered one c.args.doc.now value h so.0) c.in-None.is so.1)))) (c.all_kept.ensures so.0 so.2)
