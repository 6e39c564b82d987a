use Rattle.std.proofs.Common.{◌≡◌, List, ℕ, IfOk, subst}
use Rattle.case_text.proofs.Tokens.{said_some, said_none}
use Rattle.case_text.proofs.section.said.Goals as goal

pub returns-in-Some : goal.returns-in-Some
returns-in-Some c = said_some c.args.bytes.now c.in-Some.text _ c.in_ok-text.ensures c.in-Some.is

pub returns-in-None : goal.returns-in-None
returns-in-None c = subst (λ (b : List ℕ). IfOk c.from_bytes.result (λ text. text ≡ b)) (said_none c.args.bytes.now _ c.in_ok-text.ensures c.in-None.is) c.from_bytes.ensures
