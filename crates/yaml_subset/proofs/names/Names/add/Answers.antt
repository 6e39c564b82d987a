use Rattle.std.proofs.Common.{◌||◌, ap, ◌∙◌}
use Rattle.std.specs.Prelude.{not, bytes_eq}
use Rattle.yaml_subset.specs.Names.{has_name}
use Rattle.yaml_subset.proofs.Known.{bytes_of, has_key, with_key, not_not}
use Rattle.yaml_subset.proofs.names.Names.add.Goals as goal

pub returns-clause-told : goal.returns-clause-told
returns-clause-told c =
    let keys = c.self.inside.kept.keys in
    ap not c.in_ok-is_new.ensures.added
    ∙ not_not _
    ∙ has_key keys c.in_ok-from_slice.field-0
    ∙ ap (has_name (bytes_of keys)) c.in_ok-from_slice.ensures.items
    ∙ ap (λ names. has_name names c.args.name.now) c.self.view_is

pub returns-clause-added : goal.returns-clause-added
returns-clause-added c other =
    let keys = c.self.inside.kept.keys in
    let name = c.args.name.now in
    ap (λ ks. has_name (bytes_of ks) other) c.in_ok-is_new.ensures.keys
    ∙ with_key keys c.in_ok-from_slice.field-0 other
    ∙ ap (λ n. bytes_eq other n || has_name (bytes_of keys) other) c.in_ok-from_slice.ensures.items
    ∙ ap (λ names. bytes_eq other name || has_name names other) c.self.view_is
