use Rattle.std.proofs.Common.{ap, refl}
use Rattle.std.specs.Prelude.{Err}
use Rattle.meta_api.proofs.Causes.{is_not_broken, is_text}
use Rattle.meta_api.proofs.command.put_command.Goals as goal

pub returns-in-Err-NotUtf8-clause-not_text : goal.returns-in-Err-NotUtf8-clause-not_text
returns-in-Err-NotUtf8-clause-not_text c = (λ told. ((c.in-Err-NotUtf8.ensures.not_utf8 c.in-Err-NotUtf8.field-0-0).0 (ap Err c.in-Err-NotUtf8.field-0-is)).0, λ broken. refl)

pub returns-in-Err-NoMemory-clause-not_text : goal.returns-in-Err-NoMemory-clause-not_text
returns-in-Err-NoMemory-clause-not_text c = (λ told. absurd (is_text _ told), λ broken. absurd (is_not_broken _ _ _ c.in-Err-NoMemory.field-0-is ((c.in-Err-NoMemory.ensures.not_utf8 _).1 (broken, refl))))
