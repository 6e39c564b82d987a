use Rattle.std.proofs.Common.{◌∷◌, sym, ap, ◌∙◌, false}
use Rattle.yaml_lines.specs.declared.flow.Within.TheVariants.{Before as before}
use Rattle.yaml_lines.specs.Flow.{pieces, gather, gathered}
use Rattle.yaml_lines.specs.Gathering.{gathering_shown}
use Rattle.yaml_lines.proofs.Items.{gone_comma, gone_close, gone_other, gone_end, gathered_one}
use Rattle.yaml_lines.proofs.flow.gather_items.Goals as goal

pub loop-gathering-preserved : goal.loop-gathering-preserved
loop-gathering-preserved c =
    let g = gathering_shown c.loop-gathering.gathering in
    let gone = gone_comma g c.loop-gathering.left.now c.split_at.result.0.now c.split_at.result.1.now c.in-Some.others.now c.in-Some.byte.now c.item_length.result c.item_length.ensures.exact c.split_at.ensures.front c.split_at.ensures.back c.in-Some.ensures.cases.0 c.if-byte-eq44.true in
    record {
      items = ap (λ x. gathered x ((pieces (before false) c.in-Some.others.now).first ∷ (pieces (before false) c.in-Some.others.now).others)) (c.in_ok-add.ensures ∙ ap (gather g) c.in_ok-item_of.ensures) ∙ sym gone.items ∙ c.loop-gathering.invariant.items;
      rest = sym gone.rest ∙ c.loop-gathering.invariant.rest;
    }

pub returns-then-byte-eq93 : goal.returns-then-byte-eq93
returns-then-byte-eq93 c =
    let g = gathering_shown c.loop-gathering.gathering in
    let gone = gone_close g c.loop-gathering.left.now c.split_at.result.0.now c.split_at.result.1.now c.in-Some.others.now c.in-Some.byte.now c.item_length.result c.item_length.ensures.exact c.split_at.ensures.front c.split_at.ensures.back c.in-Some.ensures.cases.0 c.if-byte-eq93.true in
    record {
      items = c.in_ok-add.ensures ∙ ap (gather g) c.in_ok-item_of.ensures ∙ sym (gone.items ∙ gathered_one (gather g _)) ∙ c.loop-gathering.invariant.items;
      rest = sym gone.rest ∙ c.loop-gathering.invariant.rest;
    }

pub returns-else-byte-eq93 : goal.returns-else-byte-eq93
returns-else-byte-eq93 c =
    let g = gathering_shown c.loop-gathering.gathering in
    let gone = gone_other g c.loop-gathering.left.now c.split_at.result.0.now c.split_at.result.1.now c.in-Some.others.now c.in-Some.byte.now c.item_length.result c.item_length.ensures.exact c.split_at.ensures.front c.split_at.ensures.back c.in-Some.ensures.cases.0 c.if-byte-eq44.false c.if-byte-eq93.false in
    record {
      items = c.in_ok-add.ensures ∙ ap (gather g) c.in_ok-item_of.ensures ∙ sym (gone.items ∙ gathered_one (gather g _)) ∙ c.loop-gathering.invariant.items;
      rest = sym gone.rest ∙ c.loop-gathering.invariant.rest;
    }

pub returns-in-None : goal.returns-in-None
returns-in-None c =
    let g = gathering_shown c.loop-gathering.gathering in
    let gone = gone_end g c.loop-gathering.left.now c.split_at.result.0.now c.split_at.result.1.now c.item_length.result c.item_length.ensures.exact c.split_at.ensures.front c.split_at.ensures.back c.in-None.ensures.cases in
    record {
      items = c.in_ok-add.ensures ∙ ap (gather g) c.in_ok-item_of.ensures ∙ sym (gone.items ∙ gathered_one (gather g _)) ∙ c.loop-gathering.invariant.items;
      rest = sym gone.rest ∙ c.loop-gathering.invariant.rest;
    }
