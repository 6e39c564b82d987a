use Rattle.std.proofs.Common.{◌≡◌, ◌∙◌, ap, arith, refl}
use Rattle.yaml_subset.specs.Trees.{Trees, none, tree}
use Rattle.yaml_subset.specs.Docs.{count_of}
use Rattle.resource_spec.specs.Load.{loaded}
use Rattle.resource_spec.proofs.load.components.Goals as goal

no_more : (rest : Trees) → count_of rest ≡ 0 → rest ≡ none
no_more none e = refl
no_more (tree t inner later) e = absurd (omega (arith, e))

pub returns : goal.returns
returns c =
    let g = c.loop-doc.invariant.going in
    let left : count_of g.0 ≡ 0 = omega (arith, g.1.1, c.count-count.ensures) in
    g.1.2 ∙ ap (loaded c.args.app.now c.loop-doc.doc c.loop-doc.all) (no_more g.0 left)
