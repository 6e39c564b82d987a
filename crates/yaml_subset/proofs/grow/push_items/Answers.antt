use Rattle.std.proofs.Common.{◌∷◌, ◌++◌, [], ℕ, List, sym, ap, ◌∙◌, append_assoc}
use Rattle.std.specs.Prelude.{map}
use Rattle.std.proofs.lemmas.Iterator.Consumers.{YieldsList-end}
use Rattle.std.proofs.lemmas.Iterator.Adapters.{YieldsList-from_vec}
use Rattle.yaml_lines.specs.Shown.{item_shown}
use Rattle.yaml_subset.specs.Held.{node_shown}
use Rattle.yaml_subset.specs.Tree.{Entry, item_entries}
use Rattle.yaml_subset.proofs.Growth.{shown_append, items_append, held_append, map_same}
use Rattle.yaml_subset.proofs.grow.push_items.Goals as goal

pub loop-item-preserved : goal.loop-item-preserved
loop-item-preserved c =
    let item = c.in-Some.item in
    let entry : List Entry = record { depth = c.args.depth; line = c.args.line; kind = item.kind; name = []; text = item.text.items } ∷ [] in
    ap (map node_shown) c.in_ok-push.ensures.items
    ∙ shown_append c.loop-item.nodes.items _
    ∙ ap (λ (n : List ℕ). map node_shown c.loop-item.nodes.items ++ (record { depth = c.args.depth; line = c.args.line; kind = item.kind; name = n; text = item.text.items } ∷ [])) c.new.ensures.items
    ∙ ap (λ l. l ++ entry) c.loop-item.invariant
    ∙ append_assoc (map node_shown c.args.nodes.now.items) (item_entries c.args.depth c.args.line (map item_shown c.loop-item.yielded)) entry
    ∙ ap (λ l. map node_shown c.args.nodes.now.items ++ l) (sym (ap (item_entries c.args.depth c.args.line) (held_append c.loop-item.yielded (item ∷ [])) ∙ items_append c.args.depth c.args.line (map item_shown c.loop-item.yielded) (item_shown item ∷ [])))

pub returns : goal.returns
returns c =
    let seen = YieldsList-end (YieldsList-from_vec c.args.items.items c.into_iter-item-iterator.ensures.into_iter_gives.0 (c.into_iter-item-iterator.ensures.into_iter_gives.1 ∙ c.args.items.ok.0)) c.loop-item.yielded c.loop-item.item-iterator c.loop-item.yielded_by c.next.result c.next.new.self c.in-None.is c.next.ensures.steps in
    c.loop-item.invariant ∙ ap (λ l. map node_shown c.args.nodes.now.items ++ item_entries c.args.depth c.args.line (map item_shown l)) (sym (map_same c.loop-item.yielded) ∙ seen.0)
