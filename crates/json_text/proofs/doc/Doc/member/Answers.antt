use Rattle.std.proofs.Common.{sym, subst, Some}
use Rattle.std.specs.Prelude.{IfSome}
use Rattle.json_text.specs.Doc.{IsNode, IsAfter}
use Rattle.json_text.proofs.Walks.{for_first}
use Rattle.json_text.proofs.Members.{Going, going_start, going_on, after_on, chosen_is}
use Rattle.json_text.proofs.doc.Doc.member.Goals as goal

pub loop-here-init : goal.loop-here-init
loop-here-init c = record {
  here_is = c.first-here.ensures.node;
  found_is = tt;
  here_after = c.first-here.ensures.after;
  found_after = tt;
  going = λ values h. for_first values _ _ (c.first-here.ensures.first values h) (λ s children later f. going_start c.args.self.now c.args.name.now children c.first-here.result f);
}

pub loop-here-preserved : goal.loop-here-preserved
loop-here-preserved c =
    let doc = c.args.self.now in
    let name = c.args.name.now in
    let node = c.in-Some.node in
    let found = c.loop-here.found in
    let h = c.loop-here.invariant in
    let past : IsAfter c.args.n node = subst (λ x. IfSome x (IsAfter c.args.n)) c.in-Some.is h.here_after in
    record {
      here_is = c.next-here.ensures.node;
      found_is = chosen_is (IsNode doc) c.name_is.result (Some node) found c.chosen-found.result c.chosen-found.ensures (subst (λ x. IfSome x (IsNode doc)) c.in-Some.is h.here_is) h.found_is;
      here_after = after_on c.args.n node c.next-here.result past c.next-here.ensures.after;
      found_after = chosen_is (IsAfter c.args.n) c.name_is.result (Some node) found c.chosen-found.result c.chosen-found.ensures past h.found_after;
      going = λ values stands. for_first values _ _ (h.going values stands) (λ s children later g.
          subst (λ r. Going doc name children c.next-here.result r) (sym c.chosen-found.ensures)
          (going_on doc name children node c.next-here.result found c.name_is.result (subst (λ x. Going doc name children x found) c.in-Some.is g) c.name_is.ensures c.next-here.ensures.next));
    }
