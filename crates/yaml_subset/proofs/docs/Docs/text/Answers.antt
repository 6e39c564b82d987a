use Rattle.std.proofs.Common.{sym, subst}
use Rattle.std.specs.Prelude.{IsUtf8}
use Rattle.yaml_subset.specs.Lawful.{MayTell}
use Rattle.yaml_subset.specs.Docs.{told_of, row_of}
use Rattle.yaml_subset.proofs.Numbers.{inside_kept, told_here, lawful_here}
use Rattle.yaml_subset.proofs.docs.Docs.text.Goals as goal

pub text-requires : goal.text-requires
text-requires c = inside_kept c.self.inside.kept c.args.self.now c.self.view_is c.self.invariant c.args.p c.requires

pub returns-clause-text : goal.returns-clause-text
returns-clause-text c = told_here c.self.inside.kept c.args.self.now c.self.view_is c.self.invariant c.args.p _ c.requires c.text.ensures

pub returns-clause-tells : goal.returns-clause-tells
returns-clause-tells c =
    subst (MayTell (told_of (row_of c.args.self.now c.args.p)).kind) (sym (told_here c.self.inside.kept c.args.self.now c.self.view_is c.self.invariant c.args.p _ c.requires c.text.ensures))
    (lawful_here c.self.inside.kept c.args.self.now c.self.view_is c.self.invariant c.args.p).tells

pub returns-clause-utf8 : goal.returns-clause-utf8
returns-clause-utf8 c =
    subst IsUtf8 (sym (told_here c.self.inside.kept c.args.self.now c.self.view_is c.self.invariant c.args.p _ c.requires c.text.ensures))
    (lawful_here c.self.inside.kept c.args.self.now c.self.view_is c.self.invariant c.args.p).text
