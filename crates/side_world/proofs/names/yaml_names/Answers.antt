use Rattle.std.proofs.Common.{◌+◌, sym, subst, ◌∙◌, take, true≢false, arith}
use Rattle.side_world.proofs.Listed.{KeptOf, kept_in_at, kept_out_at, listed_all}
use Rattle.side_world.proofs.names.yaml_names.Goals.{then-is_yaml_name+in_ok-insert, else-is_yaml_name}
use Rattle.side_world.proofs.names.yaml_names.Goals as goal

pub loop-i-preserved : goal.loop-i-preserved
loop-i-preserved c = elim c.if-is_yaml_name.branch [
  | then-is_yaml_name+in_ok-insert w ↦
      subst (λ z. KeptOf (take (c.loop-i.i + 1) c.args.names.now) z.keys) (sym w.kept-is)
      (kept_in_at c.args.names.now c.loop-i.i c.index-names-i.result c.loop-i.kept.keys w.insert.new.self.keys c.as_str-name.result c.loop-i.invariant (omega arith) (c.as_str-name.ensures.value ∙ c.index-names-i.is) (c.is_yaml_name.ensures.0 w.if-is_yaml_name.true) w.in_ok-insert.ensures.keys)
  | else-is_yaml_name w ↦
      subst (λ z. KeptOf (take (c.loop-i.i + 1) c.args.names.now) z.keys) (sym w.kept-is)
      (kept_out_at c.args.names.now c.loop-i.i c.index-names-i.result c.loop-i.kept.keys c.as_str-name.result.now c.loop-i.invariant (omega arith) (c.as_str-name.ensures.value ∙ c.index-names-i.is) (λ ends. true≢false (sym (c.is_yaml_name.ensures.1 ends) ∙ w.if-is_yaml_name.false)))
]

pub returns-clause-listing : goal.returns-clause-listing
returns-clause-listing c =
    (listed_all c.copied.result c.args.names.now c.loop-i.i c.loop-i.kept.keys c.copied.ensures.names c.copied.ensures.ordered c.loop-i.invariant (omega arith)).0

pub returns-clause-all : goal.returns-clause-all
returns-clause-all c =
    (listed_all c.copied.result c.args.names.now c.loop-i.i c.loop-i.kept.keys c.copied.ensures.names c.copied.ensures.ordered c.loop-i.invariant (omega arith)).1
