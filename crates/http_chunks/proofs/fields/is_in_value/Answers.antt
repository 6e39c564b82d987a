use Rattle.std.proofs.Common.{sym, ◌∙◌}
use Rattle.http_chunks.proofs.FieldLemmas.{value_at}
use Rattle.http_chunks.proofs.fields.is_in_value.Goals as goal

pub returns-then-is_token : goal.returns-then-is_token
returns-then-is_token c = λ plain.
    value_at c.args.bytes.now c.in-Some.at c.in-Some.ensures.0 c.in-Some.ensures.1 (sym c.if-is_token.ensures) (sym c.is_header_value.ensures ∙ plain)
