use Rattle.std.proofs.Common.{sym, subst}
use Rattle.std.specs.Prelude.{IsUtf8}
use Rattle.yaml_subset.proofs.Numbers.{inside_kept, told_here, lawful_here}
use Rattle.yaml_subset.proofs.docs.Docs.name.Goals as goal

pub name-requires : goal.name-requires
name-requires c = inside_kept c.self.inside.kept c.args.self.now c.self.view_is c.self.invariant c.args.p c.requires

pub returns-clause-name : goal.returns-clause-name
returns-clause-name c = told_here c.self.inside.kept c.args.self.now c.self.view_is c.self.invariant c.args.p _ c.requires c.name.ensures

pub returns-clause-utf8 : goal.returns-clause-utf8
returns-clause-utf8 c =
    subst IsUtf8 (sym (told_here c.self.inside.kept c.args.self.now c.self.view_is c.self.invariant c.args.p _ c.requires c.name.ensures))
    (lawful_here c.self.inside.kept c.args.self.now c.self.view_is c.self.invariant c.args.p).name
