use Rattle.std.proofs.Common.{[], sym, subst, refl}
use Rattle.std.specs.Prelude.{IfSome}
use Rattle.json_text.specs.Doc.{bytes_read, IsNode}
use Rattle.rule_value.specs.Values.{held}
use Rattle.topic_spec.specs.Listed.{rules_from}
use Rattle.topic_spec.proofs.Gathering.{GoingRules, rules_start, rules_next, rules_stop, rules_end}
use Rattle.topic_spec.proofs.listed.rules_of_list.Goals as goal

pub loop-here-init : goal.loop-here-init
loop-here-init c = record {
  here_is = c.first-here.ensures.node;
  going = λ values at. rules_start c.args.doc.now (rules_from (bytes_read c.args.doc.now) [] (held values)) c.args.n c.first-here.result c.new-rules.result values c.new-rules.ensures c.first-here.ensures.first at refl;
}

pub loop-here-preserved : goal.loop-here-preserved
loop-here-preserved c =
    let doc = c.args.doc.now in
    record {
      here_is = c.next-here.ensures.node;
      going = λ values at. (
          let wanted = rules_from (bytes_read doc) [] (held values) in
          subst (GoingRules doc wanted c.next-here.result) (sym c.in-Ok-push.ensures.ok)
          (rules_next doc wanted c.in-Some.item c.next-here.result c.loop-here.rules c.in-Ok.rule
          (subst (λ here. GoingRules doc wanted here c.loop-here.rules) c.in-Some.is (c.loop-here.invariant.going values at))
          (subst (λ here. IfSome here (IsNode doc)) c.in-Some.is c.loop-here.invariant.here_is) c.next-here.ensures.next (λ v a. c.in-Ok.ensures v a)));
    }

pub returns-in-Err : goal.returns-in-Err
returns-in-Err c values at =
    let doc = c.args.doc.now in
    let wanted = rules_from (bytes_read doc) [] (held values) in
    rules_stop doc wanted c.in-Some.item c.loop-here.rules c.in-Err.error
    (subst (λ here. GoingRules doc wanted here c.loop-here.rules) c.in-Some.is (c.loop-here.invariant.going values at))
    (subst (λ here. IfSome here (IsNode doc)) c.in-Some.is c.loop-here.invariant.here_is) (λ v a. c.in-Err.ensures v a)

pub returns-in-None : goal.returns-in-None
returns-in-None c values at =
    let doc = c.args.doc.now in
    let wanted = rules_from (bytes_read doc) [] (held values) in
    rules_end doc wanted c.loop-here.rules (subst (λ here. GoingRules doc wanted here c.loop-here.rules) c.in-None.is (c.loop-here.invariant.going values at))
