use Rattle.std.proofs.Common.{◌≡◌, ◌∙◌, ap}
use Rattle.uuid.specs.Text.{hyphenated_text, lower}
use Rattle.pubsub_api.specs.Publishing.{id_of}
use Rattle.pubsub_api.proofs.Results.{if_ok}
use Rattle.pubsub_api.proofs.stamp.id_of.Goals as goal

pub returns : goal.returns
returns c =
    if_ok (λ copy. copy ≡ c.encode_lower-text.result.now) (λ id. id ≡ id_of c.args.stamp.now) c.from_str.result
    (λ id same. same ∙ c.encode_lower-text.ensures.text ∙ ap (hyphenated_text lower) (c.hyphenated.ensures ∙ c.uuid_of.ensures))
    c.from_str.ensures
