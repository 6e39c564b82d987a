use Rattle.std.proofs.Common.{◌≡◌, ◌∷◌, ◌++◌, [], length, refl, sym, ap, ◌∙◌, arith}
use Rattle.std.specs.Prelude.{map, bytes_eq}
use Rattle.yaml_lines.specs.declared.kind.PartKind.TheVariants as kinds
use Rattle.yaml_subset.specs.Tree.{Entry, rows, holder_kind}
use Rattle.yaml_subset.specs.Held.{node_shown, last_with, entries_open, AreNames}
use Rattle.yaml_subset.proofs.Known.{or_false}
use Rattle.yaml_subset.proofs.Opens.{openings_length}
use Rattle.yaml_subset.proofs.Growth.{shown_append, set_rows, begun, opened_more}
use Rattle.yaml_subset.proofs.reader.Reader.begin.Goals as goal

pub returns : goal.returns
unfolding AreNames
returns c front stands waits =
    let h = c.args.row.holder in
    let k = c.args.row.column in
    let frames = front.frames in
    let depth : c.len.result ≡ length frames = omega (arith, c.len.ensures, ap length stands.openings_are, openings_length frames) in
    let set : map node_shown c.set_last.new.nodes.items ≡ entries_open frames (rows h k) =
    c.in_ok-set_last.ensures ∙ ap (λ x. last_with x c.new.result.items (map node_shown c.args.self.now.nodes.items)) c.kind_of_holder.ensures
    ∙ ap (λ x. last_with (holder_kind h) x (map node_shown c.args.self.now.nodes.items)) c.new.ensures.items
    ∙ ap (last_with (holder_kind h) []) (stands.nodes ∙ ap (entries_open frames) waits) ∙ set_rows h k frames in
    let added = c.in_ok-open_names.ensures in
    record {
      nodes = ap (map node_shown) c.in_ok-push-2.ensures.items
          ∙ shown_append c.set_last.new.nodes.items (c.node_of-node.result ∷ [])
          ∙ ap (λ l. l ++ (node_shown c.node_of-node.result ∷ [])) set
          ∙ ap (λ (e : Entry). entries_open frames (rows h k) ++ (e ∷ [])) (c.node_of-node.ensures ∙ ap (λ n. record { depth = n; line = c.args.row.line; kind = kinds.Empty; name = c.args.row.name.items; text = [] }) depth)
          ∙ begun h k c.args.row.line c.args.row.name.items frames;
      openings_are = c.in_ok-push.ensures.items
          ∙ ap (λ l. l ++ (record { holder = h; column = k } ∷ [])) stands.openings_are
          ∙ opened_more h k c.args.row.line c.args.row.name.items frames;
      names_are = (c.args.self.now.names.items, added.own, added.is, λ other. added.has other ∙ ap (bytes_eq other) c.deref.ensures.value ∙ sym (or_false (bytes_eq other c.args.row.name.items)), stands.names_are);
      tip = refl;
    }
