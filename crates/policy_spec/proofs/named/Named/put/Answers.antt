use Rattle.std.proofs.Common.{◌∙◌, ap, sym, cond, Some}
use Rattle.std.specs.Prelude.{bytes_eq, map}
use Rattle.std.specs.String.{string_bytes}
use Rattle.std.proofs.lemmas.Map.Text.{btree_map_updates_text}
use Rattle.policy_spec.specs.Named.{under, put_under}
use Rattle.policy_spec.proofs.Found.{found_same, put_same, are_names}
use Rattle.policy_spec.proofs.named.Named.put.Goals as goal

pub returns-clause-ok : goal.returns-clause-ok
returns-clause-ok g c = ap (map (λ e. (string_bytes e.0, e.1))) c.in_ok-insert.ensures.entries ∙ put_same _ c.self.inside.tree.entries c.args.name c.args.value ∙ ap (λ l. put_under l (string_bytes c.args.name) c.args.value) c.self.view_is

pub returns-clause-found : goal.returns-clause-found
returns-clause-found g c other =
    found_same _ other c.insert.new.self.entries
    ∙ btree_map_updates_text (string_bytes c.args.name) c.self.inside.tree c.insert.new.self (Some c.args.value) c.in_ok-insert.ensures.updates other
    ∙ ap (λ r. cond (bytes_eq (string_bytes c.args.name) other) (Some c.args.value) r) (sym (found_same _ other c.self.inside.tree.entries) ∙ ap (under other) c.self.view_is)

pub returns-clause-names : goal.returns-clause-names
returns-clause-names g c = are_names _ c.insert.new.self.entries c.insert.ensures.ordered

pub returns-in_err-insert-clause-names : goal.returns-in_err-insert-clause-names
returns-in_err-insert-clause-names g c = are_names _ c.insert.new.self.entries c.insert.ensures.ordered
