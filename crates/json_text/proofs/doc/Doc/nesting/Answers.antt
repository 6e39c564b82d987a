use Rattle.std.proofs.Common.{◌+◌, drop, sym, ap, ◌∙◌, arith}
use Rattle.json_text.proofs.LevelFacts.{nesting_is, no_nesting, nesting_low, rest_is}
use Rattle.json_text.proofs.doc.Doc.nesting.Goals as goal

pub returns-then-not-is_holder-clause-levels : goal.returns-then-not-is_holder-clause-levels
returns-then-not-is_holder-clause-levels c values h = no_nesting c.args.self.now c.args.n.number c.entry-own.result values c.entry-own.ensures (sym c.is_holder.ensures ∙ c.if-not-is_holder.true) h

pub returns-clause-levels : goal.returns-clause-levels
returns-clause-levels c values h =
    nesting_is c.args.self.now c.args.n.number c.entry-own.result _ c.levels_below.result c.saturating_add.result values c.entry-own.ensures (rest_is c.deref.result.now (c.args.n.number + 1) ∙ ap (drop (c.args.n.number + 1)) c.deref.ensures.value) c.levels_below.ensures (sym c.is_holder.ensures ∙ c.if-not-is_holder.false) (λ small. omega (arith, small, c.saturating_add.ensures)) h

pub returns-clause-most : goal.returns-clause-most
returns-clause-most c = nesting_low c.args.self.now c.args.n.number c.saturating_add.result c.requires (returns-clause-levels c)
