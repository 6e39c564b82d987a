use Rattle.std.proofs.Common.{sym, ap, ◌∙◌}
use Rattle.std.specs.Prelude.{option_map}
use Rattle.yaml_lines.specs.LineShown.{name_shown, value_shown}
use Rattle.yaml_subset.specs.Refusal.{with_leaf, repeats, ◌>>=◌}
use Rattle.yaml_subset.proofs.Lines.{leaf_frames}
use Rattle.yaml_subset.proofs.reader.Reader.name_and_value.Goals as goal

pub returns-in-Ok-value_or : goal.returns-in-Ok-value_or
returns-in-Ok-value_or c front stands =
    let line = c.args.line in
    let v = option_map value_shown c.args.value in
    let t = c.in-Ok.ensures front stands in
    let u = c.in-Ok-value_or.ensures t.next t.stands in
    record {
      next = u.next;
      is = ap (λ r. r >>= λ third. with_leaf line v third) t.is ∙ u.is;
      stands = u.stands;
      tells = t.tells ∙ ap (repeats (option_map name_shown c.args.name)) (sym (leaf_frames line v t.next u.next u.is));
    }
