use Rattle.std.proofs.Common.{◌≡◌, ◌∙◌, ap, arith, refl}
use Rattle.yaml_subset.specs.Trees.{Trees, none, tree}
use Rattle.yaml_subset.specs.Docs.{count_of}
use Rattle.policy_spec.specs.Resiliency.{loaded}
use Rattle.policy_spec.proofs.load.policies.Goals as goal

no_more : (rest : Trees) → count_of rest ≡ 0 → rest ≡ none
no_more none e = refl
no_more (tree t inner later) e = absurd (omega (arith, e))

pub returns : goal.returns
returns c readers are =
    let g = c.loop-doc.invariant.going readers are in
    let left : count_of g.0 ≡ 0 = omega (arith, g.1.1, c.count-count.ensures) in
    g.1.2 ∙ ap (loaded readers c.args.app.now c.loop-doc.doc c.loop-doc.all) (no_more g.0 left)
