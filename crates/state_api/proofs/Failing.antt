-- The responses to a store that failed, and to a breaker that refused.
use Rattle.std.proofs.Common.{◌≡◌, ℕ, ◌++◌, Result, sym, subst}
use Rattle.std.specs.Prelude.{IfOk, codes, decimal}
use Rattle.side_base.specs.declared.message.Response.{Response}
use Rattle.api_error.specs.declared.code.Code.{Code}
use Rattle.api_error.specs.Body.{error_response}
use Rattle.state_core.specs.declared.command.Cmd.{Cmd}
use Rattle.state_core.specs.declared.reply.Reply.{Reply}
use Rattle.state_core.specs.declared.reply.Reply.TheVariants.{Failed}
use Rattle.policy_run.specs.declared.outcome.Refusal.{Refusal}
use Rattle.policy_run.specs.declared.outcome.Refusal.TheVariants.{TooMany}
use Rattle.state_api.specs.Response.{code_of, response_to, refusal_text}

pub refusal_response : {E : Type 0} (code : Code) (refusal : Refusal) (out : ℕ) (result : Result Response E) → refusal ≡ TooMany out → IfOk result (λ response. response ≡ error_response 500 code (codes "breaker half-open with " ++ decimal out)) → IfOk result (λ response. response ≡ error_response 500 code (refusal_text refusal))
refusal_response code refusal out result is told = subst (λ z. IfOk result (λ response. response ≡ error_response 500 code (refusal_text z))) (sym is) told

pub failed_response : {E : Type 0} (cmd : Cmd) (reply : Reply) (code : Code) (result : Result Response E) → reply ≡ Failed → code ≡ code_of cmd → IfOk result (λ response. response ≡ error_response 500 code (codes "store failed")) → IfOk result (λ response. response ≡ response_to cmd reply)
failed_response cmd reply code result failed code-is told = subst (λ r. IfOk result (λ response. response ≡ response_to cmd r)) (sym failed) (subst (λ z. IfOk result (λ response. response ≡ error_response 500 z (codes "store failed"))) code-is told)
