use Rattle.std.proofs.Common.{sym, ap, ◌∙◌, ◌+◌, drop}
use Rattle.yaml_lines.specs.Quoted.{double_text, prefixed}
use Rattle.yaml_lines.specs.Piece.{step_shown}
use Rattle.yaml_lines.proofs.Escapes.{double_none, double_some, double_end, between_end, not_between}
use Rattle.yaml_lines.proofs.quoted.double_unquoted.Goals as goal

pub returns-in-None : goal.returns-in-None
returns-in-None c = sym (double_none c.loop-byte.byte-index c.args.bytes.now c.loop-byte.text.items c.loop-byte.escape c.loop-byte-test.true c.in-None.ensures.exact) ∙ c.loop-byte.invariant.same

pub loop-byte-preserved : goal.loop-byte-preserved
loop-byte-preserved c =
    let k = c.loop-byte.byte-index in
    record {
      fits = c.in-Some.ensures.fits;
      same = ap (λ t. prefixed t (double_text c.in-Some.step.after (drop (k + 1) c.args.bytes.now))) c.in_ok-extend_from_slice-in-Some.ensures.items
          ∙ sym (double_some k c.args.bytes.now c.loop-byte.text.items c.loop-byte.escape (step_shown c.in-Some.step) c.loop-byte-test.true c.in-Some.ensures.exact)
          ∙ c.loop-byte.invariant.same;
    }

pub returns-in-Between : goal.returns-in-Between
returns-in-Between c = between_end c.loop-byte.byte-index c.args.bytes.now c.loop-byte.text.items c.loop-byte.escape c.loop-byte-test.false c.in-Between.is ∙ c.loop-byte.invariant.same

pub returns-in_default : goal.returns-in_default
returns-in_default c = sym (double_end c.loop-byte.byte-index c.args.bytes.now c.loop-byte.text.items c.loop-byte.escape c.loop-byte-test.false ∙ ap (prefixed c.loop-byte.text.items) (not_between c.loop-byte.escape c.in_default.not-Between)) ∙ c.loop-byte.invariant.same
