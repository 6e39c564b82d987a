use Rattle.std.proofs.Common.{sym, subst, ◌∙◌, ap}
use Rattle.std.specs.Str.{IsCharBoundary}
use Rattle.state_api.specs.Words.{is_quoted}
use Rattle.state_api.proofs.Wording.{quoted_start}
use Rattle.state_api.proofs.words.unquoted.Goals as goal

pub range-requires-clause-start_boundary : goal.range-requires-clause-start_boundary
range-requires-clause-start_boundary c _ = subst (λ bs. IsCharBoundary bs 1) (sym c.as_str.ensures.value) (quoted_start c.args.text c.as_str.ensures.utf8 (ap is_quoted (sym c.bytes.ensures.value) ∙ sym c.is_quoted.ensures ∙ c.if-not-is_quoted.false))
