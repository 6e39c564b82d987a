use Rattle.sidecar_words.proofs.Drills.{if_none, no_comma, parts_of}
use Rattle.sidecar_words.proofs.drilling.drill_of.Goals as goal

pub returns-in-None-clause-none : goal.returns-in-None-clause-none
returns-in-None-clause-none c = λ mode drill. no_comma c.args.text.now drill.first drill.second c.in-None.ensures.none drill.form

pub returns-in-Some-clause-none : goal.returns-in-Some-clause-none
returns-in-Some-clause-none c = if_none c.drill_by.result _ _ (λ none mode drill.
    let cut = c.in-Some.ensures.some in
    none mode (parts_of c.args.text.now c.in-Some.parts.front.now c.in-Some.parts.back.now mode cut.whole cut.first drill)) c.drill_by.ensures.none
