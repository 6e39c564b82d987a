use Rattle.std.proofs.Common.{ap, sym, ◌∙◌, Ok, Some, Err}
use Rattle.std.specs.Option.{option_copied}
use Rattle.state_api.specs.Asked.{field_text}
use Rattle.std.proofs.lemmas.Str.{is_utf8-from_IsUtf8, IsUtf8-from_is_utf8}
use Rattle.state_api.proofs.Following.{held, failed}
use Rattle.state_api.proofs.Members.{not_true}
use Rattle.state_api.proofs.commanding.field_text.Goals as goal

pub returns-in-Ok : goal.returns-in-Ok
returns-in-Ok c = ap (λ v. field_text (option_copied v)) c.in-Some.is ∙ held _ _ _ _ (is_utf8-from_IsUtf8 _ c.in-Ok.ensures.text.1) (ap (λ t. Ok (Some t)) (sym c.in-Ok.ensures.text.0))

pub returns-in-Err-NotUtf8 : goal.returns-in-Err-NotUtf8
returns-in-Err-NotUtf8 c = ap (λ v. field_text (option_copied v)) c.in-Some.is ∙ failed _ _ _ (not_true _ (λ h. ((c.in-Err-NotUtf8.ensures.not_utf8 c.in-Err-NotUtf8.field-0-0).0 (ap Err c.in-Err-NotUtf8.field-0-is)).0 (IsUtf8-from_is_utf8 _ h)))
