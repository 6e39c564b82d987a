use Rattle.std.proofs.Common.{◌≡◌, ◌∷◌, [], sym, ap, ◌∙◌, arith}
use Rattle.std.specs.Prelude.{map}
use Rattle.yaml_subset.specs.Held.{node_shown, last_with}
use Rattle.yaml_subset.proofs.Growth.{last_snoc, last_none, shown_append, no_nodes}
use Rattle.yaml_subset.proofs.grow.set_last.Goals as goal

pub returns-in_ok-push-in-Some : goal.returns-in_ok-push-in-Some
returns-in_ok-push-in-Some c =
    ap (map node_shown) c.in_ok-push-in-Some.ensures.items
    ∙ shown_append c.pop.new.self.items _
    ∙ sym (last_snoc c.args.kind c.args.text.items (map node_shown c.pop.new.self.items) (node_shown c.in-Some.node))
    ∙ ap (last_with c.args.kind c.args.text.items) (sym (ap (map node_shown) c.in-Some.ensures.items ∙ shown_append c.pop.new.self.items (c.in-Some.node ∷ [])))

pub returns-in-None : goal.returns-in-None
returns-in-None c =
    let old : c.args.nodes.now.items ≡ [] = no_nodes c.args.nodes.now.items (omega (arith, c.in-None.ensures.cases)) in
    let new : c.pop.new.self.items ≡ [] = no_nodes c.pop.new.self.items (omega (arith, c.in-None.ensures.cases)) in
    ap (map node_shown) new ∙ sym (last_none c.args.kind c.args.text.items) ∙ ap (λ l. last_with c.args.kind c.args.text.items (map node_shown l)) (sym old)
