use Rattle.std.proofs.Common.{ℕ, List, [], ◌∷◌, cond, codes, ap, sym, subst, ◌∙◌}
use Rattle.std.specs.Prelude.{IsUtf8}
use Rattle.std.proofs.lemmas.Result.{IfOk-weaker}
use Rattle.std.proofs.lemmas.Str.{IsUtf8-from_is_utf8, is_utf8-from_IsUtf8}
use Rattle.cloud_events.specs.declared.item.Value.TheVariants.{Body}
use Rattle.cloud_events.specs.Event.{text_item, type_of}
use Rattle.cloud_events.specs.Reading.{body_item, encoded_item}
use Rattle.cloud_events.proofs.Lasts.{not_true}
use Rattle.cloud_events.proofs.wrapping.plain_items.Goals as goal

pub returns-in-Ok-clause-ok : goal.returns-in-Ok-clause-ok
returns-in-Ok-clause-ok c =
    let body : List ℕ = c.args.sent.now.body in
    let kind = text_item (codes "datacontenttype") (type_of c.args.sent.now.content_type) in
    IfOk-weaker c.data_items.result _ _ (λ items h. h ∙ ap (λ (name : List ℕ). record { name = name; start = 0; end = 0; value = Body } ∷ kind ∷ []) c.from_static.ensures
    ∙ ap (λ b. cond b body_item encoded_item ∷ kind ∷ []) (sym (is_utf8-from_IsUtf8 body (subst IsUtf8 c.bytes.ensures c.in-Ok.ensures.cases.1)))) c.data_items.ensures.ok

pub returns-in-Err-clause-ok : goal.returns-in-Err-clause-ok
returns-in-Err-clause-ok c =
    let body : List ℕ = c.args.sent.now.body in
    let kind = text_item (codes "datacontenttype") (type_of c.args.sent.now.content_type) in
    IfOk-weaker c.encoded_items.result _ _ (λ items h. h
    ∙ ap (λ b. cond b body_item encoded_item ∷ kind ∷ []) (sym (not_true _ (λ t. c.in-Err.ensures.cases.0 (subst IsUtf8 (sym c.bytes.ensures) (IsUtf8-from_is_utf8 body t)))))) c.encoded_items.ensures.ok
