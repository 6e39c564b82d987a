use Rattle.std.proofs.Common.{◌≡◌, ◌++◌, length, ap, ◌∙◌, arith}
use Rattle.yaml_lines.specs.Shown.{leaf_shown}
use Rattle.yaml_subset.specs.Tree.{absent, item_entries}
use Rattle.yaml_subset.specs.Held.{last_with, entries_open}
use Rattle.yaml_subset.proofs.Opens.{openings_length}
use Rattle.yaml_subset.proofs.Growth.{leaf_set}
use Rattle.yaml_subset.proofs.reader.Reader.set.Goals as goal

pub returns : goal.returns
returns c front column stands waits have =
    let v = leaf_shown c.args.value in
    let frames = front.frames in
    let depth : c.len.result ≡ length frames = omega (arith, c.len.ensures, ap length stands.openings_are, openings_length frames) in
    record {
      nodes = c.in_ok-push_items.ensures
          ∙ ap (λ l. l ++ item_entries c.len.result c.args.line v.items) (c.in_ok-set_last.ensures ∙ ap (last_with v.kind v.text) (stands.nodes ∙ ap (entries_open frames) waits))
          ∙ ap (λ n. last_with v.kind v.text (entries_open frames absent) ++ item_entries n c.args.line v.items) depth
          ∙ leaf_set c.args.line column v frames have;
      openings_are = stands.openings_are;
      names_are = stands.names_are;
      tip = c.tip_for-self.ensures;
    }
