use Rattle.std.proofs.Common.{[], sym, subst, length}
use Rattle.std.specs.Prelude.{IfSome, Ok, Err}
use Rattle.json_text.specs.Doc.{bytes_read, IsNode}
use Rattle.rule_value.specs.Values.{held}
use Rattle.topic_spec.specs.Listed.{item_said, items_said}
use Rattle.topic_spec.specs.Loading.{Loads, IsStep}
use Rattle.topic_spec.proofs.Steps.{GoingItems, items_start, items_next, items_stop, items_end}
use Rattle.topic_spec.proofs.loading.subs_of_list.Goals as goal

pub loop-here-init : goal.loop-here-init
loop-here-init c = record {
  here_is = c.first-here.ensures.node;
  going = λ values at. items_start c.args.doc.now (Loads 0 [] (items_said (bytes_read c.args.doc.now) 0 (held values))) c.args.n c.first-here.result c.new-all.result values c.new-all.ensures c.first-here.ensures.first at (λ r loads. loads);
}

pub loop-here-preserved : goal.loop-here-preserved
loop-here-preserved c =
    let doc = c.args.doc.now in
    let all = c.loop-here.all in
    record {
      here_is = c.next-here.ensures.node;
      going = λ values at. (
          let wanted = Loads 0 [] (items_said (bytes_read doc) 0 (held values)) in
          subst (λ place. GoingItems doc wanted place c.next-here.result c.add_item.new.all) (sym c.in-Ok.ensures.longer)
          (items_next doc wanted (length all) c.in-Some.item c.next-here.result all c.add_item.new.all
          (subst (λ here. GoingItems doc wanted (length all) here all) c.in-Some.is (c.loop-here.invariant.going values at))
          (subst (λ here. IfSome here (IsNode doc)) c.in-Some.is c.loop-here.invariant.here_is) c.next-here.ensures.next
          (λ item a. subst (λ place. IsStep (Ok tt) place all c.add_item.new.all (item_said (bytes_read doc) place item)) c.len.ensures.exact (c.in-Ok.ensures.step item a))));
    }

pub returns-in-Err : goal.returns-in-Err
returns-in-Err c values at =
    let doc = c.args.doc.now in
    let all = c.loop-here.all in
    let wanted = Loads 0 [] (items_said (bytes_read doc) 0 (held values)) in
    items_stop doc wanted (length all) c.in-Some.item all all c.in-Err.error
    (subst (λ here. GoingItems doc wanted (length all) here all) c.in-Some.is (c.loop-here.invariant.going values at))
    (subst (λ here. IfSome here (IsNode doc)) c.in-Some.is c.loop-here.invariant.here_is) (λ item a. subst (λ place. IsStep (Err c.in-Err.error) place all all (item_said (bytes_read doc) place item)) c.len.ensures.exact (c.in-Err.ensures.step item a))

pub returns-in-None : goal.returns-in-None
returns-in-None c values at =
    let doc = c.args.doc.now in
    let all = c.loop-here.all in
    let wanted = Loads 0 [] (items_said (bytes_read doc) 0 (held values)) in
    items_end doc wanted (length all) all (subst (λ here. GoingItems doc wanted (length all) here all) c.in-None.is (c.loop-here.invariant.going values at))
