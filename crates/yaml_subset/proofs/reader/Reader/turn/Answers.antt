use Rattle.std.proofs.Common.{◌≡◌, ◌∷◌, ◌++◌, ◌&&◌, ◌||◌, [], length, take, refl, sym, ap, ◌∙◌, arith}
use Rattle.std.specs.Prelude.{map, bytes_eq}
use Rattle.yaml_lines.specs.declared.kind.PartKind.TheVariants as kinds
use Rattle.yaml_subset.specs.declared.open.Holder.TheVariants as holders
use Rattle.yaml_subset.specs.Tree.{Entry, rows, empty, entries}
use Rattle.yaml_subset.specs.Front.{Frame}
use Rattle.yaml_subset.specs.Refusal.{is_holder}
use Rattle.yaml_subset.specs.Names.{has_name}
use Rattle.yaml_subset.specs.Held.{node_shown, entries_open, openings, opened, AreNames}
use Rattle.yaml_subset.proofs.Growth.{turned_to, with_none, shown_append, turned_added, opened_row}
use Rattle.yaml_subset.proofs.reader.Reader.turn.Goals as goal

pub returns : goal.returns
unfolding AreNames
returns c front stands kept =
    let row = c.args.row in
    let name = row.name.items in
    let t = turned_to front.frames row.holder row.column row.line name front.tip empty c.args.count kept in
    let depth : c.saturating_sub.result ≡ length t.outer = omega (arith, c.saturating_sub.ensures, t.counted) in
    let next : Frame = record { holder = row.holder; column = row.column; before = t.before; line = row.line; name = name } in
    let now : map node_shown c.args.self.now.nodes.items ≡ entries_open t.outer (rows row.holder row.column) ++ entries (length t.outer) t.before = stands.nodes ∙ sym (with_none front.frames front.tip) ∙ t.split in
    let opens : c.truncate.new.self.items ≡ openings t.outer ++ (opened next ∷ []) = c.truncate.ensures.items ∙ ap (take c.args.count) stands.openings_are ∙ t.kept in
    let named = t.names c.args.self.now.names.items stands.names_are in
    let added = c.in_ok-was_there.ensures named.others named.own (c.truncate-2.ensures.items ∙ named.is) in
    record {
      next = next ∷ t.outer;
      is = t.is;
      stands = record {
        nodes = ap (map node_shown) c.in_ok-push.ensures.items
            ∙ shown_append c.args.self.now.nodes.items (c.node_of-node.result ∷ [])
            ∙ ap (λ l. l ++ (node_shown c.node_of-node.result ∷ [])) now
            ∙ ap (λ (e : Entry). (entries_open t.outer (rows row.holder row.column) ++ entries (length t.outer) t.before) ++ (e ∷ [])) (c.node_of-node.ensures ∙ ap (λ n. record { depth = n; line = row.line; kind = kinds.Empty; name = name; text = [] }) depth)
            ∙ turned_added row.holder row.column row.line name t.before t.outer;
        openings_are = opens ∙ opened_row next t.outer;
        names_are = (named.others, added.own, added.is, λ other. added.has other ∙ ap (λ n. bytes_eq other n || has_name named.own other) c.deref.ensures.value ∙ ap (λ b. bytes_eq other name || b) (named.has other), named.outside);
        tip = refl;
      };
      tells = c.is_repeated_in-repeated.ensures ∙ ap (λ b. is_holder row.holder holders.Mapping && b) (added.told ∙ ap (has_name named.own) c.deref.ensures.value ∙ named.has name);
    }
