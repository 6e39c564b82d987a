use Rattle.std.proofs.Common.{sym, ap, ◌∙◌, ◌++◌, ◌+◌, drop}
use Rattle.yaml_lines.specs.Quoted.{single_text}
use Rattle.yaml_lines.proofs.Escapes.{single_on, single_end}
use Rattle.yaml_lines.proofs.quoted.single_unquoted.Goals as goal

pub loop-byte-preserved : goal.loop-byte-preserved
loop-byte-preserved c =
    let k = c.loop-byte.byte-index in
    ap (λ t. t ++ single_text c.is_paired_after-paired.result (drop (k + 1) c.args.bytes.now)) c.in_ok-push_single.ensures
    ∙ sym (single_on k c.args.bytes.now c.loop-byte.text.items c.loop-byte.paired c.is_paired_after-paired.result c.loop-byte-test.true c.is_paired_after-paired.ensures)
    ∙ c.loop-byte.invariant

pub returns : goal.returns
returns c = sym (single_end c.loop-byte.byte-index c.args.bytes.now c.loop-byte.text.items c.loop-byte.paired c.loop-byte-test.false) ∙ c.loop-byte.invariant
