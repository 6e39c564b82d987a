use Rattle.std.proofs.Common.{ℕ, List, [], ◌++◌, cond, ap, sym, ◌∙◌, append-nil}
use Rattle.std.proofs.lemmas.Result.{on_ok_weaker}
use Rattle.std.proofs.lemmas.Str.{IsUtf8-from_is_utf8, is_utf8-from_IsUtf8}
use Rattle.json_text.specs.Spelling.{string_of}
use Rattle.cloud_events.proofs.Lasts.{not_true}
use Rattle.cloud_events.proofs.written.push_body.Goals as goal

pub returns-in-Ok : goal.returns-in-Ok
returns-in-Ok c =
    let body : List ℕ = c.args.body.now in
    on_ok_weaker c.push_string_of.result (λ e. e ∙ ap (λ (z : List ℕ). c.args.event.now ++ z) (ap string_of c.in-Ok.ensures.cases.0 ∙ ap (λ b. cond b (string_of body) []) (sym (is_utf8-from_IsUtf8 body c.in-Ok.ensures.cases.1)))) c.push_string_of.ensures.ok

pub returns-in-Err : goal.returns-in-Err
returns-in-Err c =
    let body : List ℕ = c.args.body.now in
    sym (append-nil c.args.event.now) ∙ ap (λ (z : List ℕ). c.args.event.now ++ z) (ap (λ b. cond b (string_of body) []) (sym (not_true _ (λ h. c.in-Err.ensures.cases.0 (IsUtf8-from_is_utf8 body h)))))
