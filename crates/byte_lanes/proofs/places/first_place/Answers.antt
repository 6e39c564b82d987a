use Rattle.std.proofs.Common.{◌<◌, ◌≤◌, ◌/◌, [], get_or, length, ◌-◌, arith}
use Rattle.byte_lanes.proofs.Blocks.{block_of, length_of_block, found_in_block, none_in_block}
use Rattle.byte_lanes.proofs.places.first_place.Goals as goal

pub lanes_before-before-requires : goal.lanes_before-before-requires
lanes_before-before-requires g c =
    let bytes = c.args.bytes.now in
    let at = c.loop-block.at in
    let within : c.loop-block.block-index < (length bytes - c.args.from) / 32 = omega (arith, c.loop-block-test.true, c.blocks_from-block-items.ensures.count) in
    let there = block_of bytes c.args.from c.loop-block.block-index at c.blocks_from-block-items.result.now c.requires c.blocks_from-block-items.ensures.blocks within c.loop-block.invariant.place in
    length_of_block bytes (get_or c.blocks_from-block-items.result.now c.loop-block.block-index []) at there.0 there.1

pub returns-then-before-lt-BLOCK : goal.returns-then-before-lt-BLOCK
returns-then-before-lt-BLOCK g c =
    let bytes = c.args.bytes.now in
    let at = c.loop-block.at in
    let block = get_or c.blocks_from-block-items.result.now c.loop-block.block-index [] in
    let within : c.loop-block.block-index < (length bytes - c.args.from) / 32 = omega (arith, c.loop-block-test.true, c.blocks_from-block-items.ensures.count) in
    let there = block_of bytes c.args.from c.loop-block.block-index at c.blocks_from-block-items.result.now c.requires c.blocks_from-block-items.ensures.blocks within c.loop-block.invariant.place in
    let low : c.args.from ≤ at = omega (arith, c.loop-block.invariant.place) in
    found_in_block g.T.ByteTest.passes bytes block c.args.from at c.lanes_before-before.result there.0 there.1 c.lanes_before-before.ensures low c.loop-block.invariant.passed c.if-before-lt-BLOCK.true

pub loop-block-preserved : goal.loop-block-preserved
loop-block-preserved g c =
    let bytes = c.args.bytes.now in
    let at = c.loop-block.at in
    let block = get_or c.blocks_from-block-items.result.now c.loop-block.block-index [] in
    let within : c.loop-block.block-index < (length bytes - c.args.from) / 32 = omega (arith, c.loop-block-test.true, c.blocks_from-block-items.ensures.count) in
    let there = block_of bytes c.args.from c.loop-block.block-index at c.blocks_from-block-items.result.now c.requires c.blocks_from-block-items.ensures.blocks within c.loop-block.invariant.place in
    record {
      place = omega (arith, c.loop-block.invariant.place);
      passed = none_in_block g.T.ByteTest.passes bytes block c.args.from at c.lanes_before-before.result there.0 there.1 c.lanes_before-before.ensures c.loop-block.invariant.passed c.if-before-lt-BLOCK.false;
    }
