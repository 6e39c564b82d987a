use Rattle.std.proofs.Common.{◌∙◌, ◌+◌, ◌||◌, cond, ap}
use Rattle.std.specs.Str.Parse.{digits_value}
use Rattle.http_frames.specs.HeadRules.{is_length}
use Rattle.http_frames.proofs.rules.with_field.Goals as goal

pub returns : goal.returns
returns c =
    let said = c.args.said in
    record {
      hosts = c.counted.ensures ∙ ap (λ b. cond b (said.hosts + 1) said.hosts) c.is_named.ensures;
      lengths = c.counted-2.ensures ∙ ap (λ b. cond b (said.lengths + 1) said.lengths) c.is_named-2.ensures;
      codings = c.counted-3.ensures ∙ ap (λ b. cond b (said.codings + 1) said.codings) c.is_named-3.ensures;
      other_length = c.or_before.ensures ∙ ap (λ b. b || said.other_length) c.is_other_length.ensures;
      other_coding = c.or_before-2.ensures ∙ ap (λ b. b || said.other_coding) c.is_other_coding.ensures;
      encoded = c.or_before-3.ensures ∙ ap (λ b. b || said.encoded) c.is_encoding.ensures;
      expects = c.or_before-4.ensures ∙ ap (λ b. b || said.expects) c.is_expecting.ensures;
      other = λ none. c.length_or.ensures.other (c.is_named-4.ensures ∙ none);
      number = λ named fits.
          c.length_or.ensures.number (c.is_named-4.ensures ∙ named) (ap is_length c.bytes.ensures ∙ fits) ∙ ap (digits_value 10) c.bytes.ensures;
    }
