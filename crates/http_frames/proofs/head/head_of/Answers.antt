use Rattle.std.proofs.Common.{◌∙◌, ap, drop}
use Rattle.http_frames.specs.HeadRules.{method_of}
use Rattle.http_frames.proofs.HeadLemmas.{names_are_text, fields_are}
use Rattle.http_frames.proofs.head.head_of.Goals as goal

pub fields_of-requires-clause-names : goal.fields_of-requires-clause-names
fields_of-requires-clause-names c =
    let at = c.requires.head.1 in
    names_are_text c.args.text.now _ _ at.fields at.reads.0.fields

pub returns : goal.returns
returns c =
    let h = c.requires.head.0 in
    let at = c.requires.head.1 in
    let method = c.method_of.ensures ∙ ap method_of (c.of.ensures ∙ at.method) in
    let target = c.in_ok-from_bytes.ensures ∙ (c.of-2.ensures ∙ at.path) in
    let fields = c.in_ok-fields_of.ensures ∙ fields_are c.args.text.now _ _ at.fields in (
      h,
      drop c.args.spans.now.len c.args.text.now,
      at.reads,
      λ i. record {
        method = method i;
        target = target i;
        minor = at.version i;
        fields = fields i;
        len = at.len i;
      },
    )
