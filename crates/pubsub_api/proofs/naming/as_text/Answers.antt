use Rattle.std.proofs.Common.{◌≡◌, ap, sym, subst, option_copied, Some, None, Err}
use Rattle.pubsub_api.specs.Publishing.{as_text}
use Rattle.pubsub_api.proofs.Texts.{a_text, no_text}
use Rattle.pubsub_api.proofs.naming.as_text.Goals as goal

pub returns-in-Ok : goal.returns-in-Ok
returns-in-Ok c =
    subst (λ v. Some c.in-Ok.text ≡ as_text (option_copied v)) (sym c.in-Some.is)
    (a_text c.in-Some.bytes.now c.in-Ok.text c.in-Ok.ensures.text.0 c.in-Ok.ensures.text.1)

pub returns-in-Err-NotUtf8 : goal.returns-in-Err-NotUtf8
returns-in-Err-NotUtf8 c =
    subst (λ v. None ≡ as_text (option_copied v)) (sym c.in-Some.is)
    (no_text c.in-Some.bytes.now c.in-Err-NotUtf8.field-0-0 ((c.in-Err-NotUtf8.ensures.not_utf8 c.in-Err-NotUtf8.field-0-0).0 (ap Err c.in-Err-NotUtf8.field-0-is)))
