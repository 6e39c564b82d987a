use Rattle.std.proofs.Common.{◌∙◌, ap, sym}
use Rattle.json_text.specs.Forest.{grows}
use Rattle.json_text.specs.Doc.{bytes_read}
use Rattle.rule_value.specs.Values.{value_as, number_or_other}
use Rattle.rule_value.specs.Wholes.{whole_of}
use Rattle.rule_value.proofs.value.value_of.Goals as goal

pub returns-in-Null-clause-value : goal.returns-in-Null-clause-value
returns-in-Null-clause-value c spot children later stands = ap (value_as (bytes_read c.args.doc.now) spot) (sym (c.kind.ensures (grows spot children later) stands) ∙ c.in-Null.is)

pub returns-in-Flag-clause-value : goal.returns-in-Flag-clause-value
returns-in-Flag-clause-value c spot children later stands = ap (value_as (bytes_read c.args.doc.now) spot) (sym (c.kind.ensures (grows spot children later) stands) ∙ c.in-Flag.is)

pub returns-in-List-clause-value : goal.returns-in-List-clause-value
returns-in-List-clause-value c spot children later stands = ap (value_as (bytes_read c.args.doc.now) spot) (sym (c.kind.ensures (grows spot children later) stands) ∙ c.in-List.is)

pub returns-in-Map-clause-value : goal.returns-in-Map-clause-value
returns-in-Map-clause-value c spot children later stands = ap (value_as (bytes_read c.args.doc.now) spot) (sym (c.kind.ensures (grows spot children later) stands) ∙ c.in-Map.is)

pub returns-in-Text-clause-value : goal.returns-in-Text-clause-value
returns-in-Text-clause-value c spot children later stands = record {
  inside = c.requires;
  spot = spot;
  children = children;
  later = later;
  stands = stands;
  is = ap (value_as (bytes_read c.args.doc.now) spot) (sym (c.kind.ensures (grows spot children later) stands) ∙ c.in-Text.is);
}

pub returns-in-Some-clause-value : goal.returns-in-Some-clause-value
returns-in-Some-clause-value c spot children later stands =
    let values = grows spot children later in
    ap (value_as (bytes_read c.args.doc.now) spot) (sym (c.kind.ensures values stands) ∙ c.in-Number.is)
    ∙ ap number_or_other (sym (c.whole_of.ensures ∙ ap whole_of (c.own.ensures ∙ c.value_bytes.ensures values stands)) ∙ c.in-Some.is)

pub returns-in-None-clause-value : goal.returns-in-None-clause-value
returns-in-None-clause-value c spot children later stands =
    let values = grows spot children later in
    ap (value_as (bytes_read c.args.doc.now) spot) (sym (c.kind.ensures values stands) ∙ c.in-Number.is)
    ∙ ap number_or_other (sym (c.whole_of.ensures ∙ ap whole_of (c.own.ensures ∙ c.value_bytes.ensures values stands)) ∙ c.in-None.is)
