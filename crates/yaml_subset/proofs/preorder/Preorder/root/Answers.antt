use Rattle.std.proofs.Common.{◌≡◌, ◌+◌, ℕ, suc, subst, arith, Option}
use Rattle.yaml_subset.specs.declared.preorder.Part.{Part}
use Rattle.yaml_subset.specs.Preorder.{FirstOf}
use Rattle.yaml_subset.specs.Docs.{rows_from}
use Rattle.yaml_subset.proofs.Walks.{rows_next, rows_past}
use Rattle.yaml_subset.proofs.preorder.Preorder.root.Goals as goal

pub returns-in-None-clause-root : goal.returns-in-None-clause-root
returns-in-None-clause-root c documents are =
    rows_past c.loop-passed.passed c.args.doc documents (omega (arith, c.loop-passed.invariant.low))
    (subst (λ (o : Option Part). FirstOf c.args.self.now (rows_from c.loop-passed.passed documents) o) c.in-None.is (c.loop-passed.invariant.going documents are))

pub loop-passed-preserved : goal.loop-passed-preserved
loop-passed-preserved c = record {
  low = omega arith;
  part = c.next-here.ensures.part;
  going = λ documents are.
      let next : suc c.loop-passed.passed ≡ c.loop-passed.passed + 1 = omega arith in
      subst (λ (n : ℕ). FirstOf c.args.self.now (rows_from n documents) c.next-here.result) next
      (rows_next c.args.self.now c.loop-passed.passed documents c.in-Some.p c.next-here.result
      (subst (λ (o : Option Part). FirstOf c.args.self.now (rows_from c.loop-passed.passed documents) o) c.in-Some.is (c.loop-passed.invariant.going documents are))
      c.next-here.ensures.next);
}
