use Rattle.std.proofs.Common.{lit≤, ◌||◌, eqb, ltb, w8}
use Rattle.std.proofs.lemmas.Simd.{bitmask_splat}
use Rattle.byte_lanes.proofs.Masks.{bit_or-mask_l}
use Rattle.byte_lanes.proofs.lanes.SpecialByteTest.passing_lanes.Goals as goal

pub returns : goal.returns
returns c =
    let v = c.args.block in
    let controls = bitmask_splat w8 ltb v 32 32 c.requires (lit≤ tt) in
    let quotes = bitmask_splat w8 eqb v 32 34 c.requires (lit≤ tt) in
    let backslashes = bitmask_splat w8 eqb v 32 92 c.requires (lit≤ tt) in
    rw (controls, quotes, backslashes, bit_or-mask_l (λ x. ltb x 32) (λ x. eqb x 34) v) (bit_or-mask_l (λ x. ltb x 32 || eqb x 34) (λ x. eqb x 92) v)
