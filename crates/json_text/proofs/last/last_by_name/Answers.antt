use Rattle.std.proofs.Common.{sym, subst}
use Rattle.std.specs.BTreeMap.{get_by_text}
use Rattle.json_text.proofs.Members.{Going, going_start, going_end}
use Rattle.json_text.proofs.Walks.{for_first}
use Rattle.json_text.proofs.LastNames.{going_noted, nothing_in}
use Rattle.json_text.proofs.last.last_by_name.Goals as goal

pub loop-here-init : goal.loop-here-init
loop-here-init c = record {
  here_is = c.first-here.ensures.node;
  ordered = c.new-map.ensures.ordered;
  going = λ values h. for_first values _ _ (c.first-here.ensures.first values h) (λ s children later f name.
      subst (λ found. Going c.args.doc.now name children c.first-here.result found) (sym (nothing_in c.new-map.result name c.new-map.ensures.empty)) (going_start c.args.doc.now name children c.first-here.result f));
}

pub loop-here-preserved : goal.loop-here-preserved
loop-here-preserved c =
    let doc = c.args.doc.now in
    let h = c.loop-here.invariant in
    record {
      here_is = c.next-here.ensures.node;
      ordered = c.in-Ok.ensures.ordered;
      going = λ values stands. for_first values _ _ (h.going values stands) (λ s children later g name.
          going_noted doc name children c.in-Some.node c.next-here.result (get_by_text c.loop-here.map name) (get_by_text c.note.new.map name)
          (subst (λ x. Going doc name children x (get_by_text c.loop-here.map name)) c.in-Some.is (g name))
          (λ v st. for_first v _ _ (c.in-Ok.ensures.noted v st) (λ t b r noted. noted name))
          c.next-here.ensures.next);
    }

pub returns-in-None-clause-last : goal.returns-in-None-clause-last
returns-in-None-clause-last c values h =
    for_first values _ _ (c.loop-here.invariant.going values h) (λ s children later g name.
    going_end c.args.doc.now name children (get_by_text c.loop-here.map name) (subst (λ x. Going c.args.doc.now name children x (get_by_text c.loop-here.map name)) c.in-None.is (g name)))
