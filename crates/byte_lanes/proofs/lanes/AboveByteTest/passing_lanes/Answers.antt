use Rattle.std.proofs.Common.{ℕ, ◌%◌, ◌^◌, ◌≤◌, Bool, leb, length, map, replicate, ap, ◌∙◌, arith, w8}
use Rattle.std.specs.Simd.Lanes.{mask_l}
use Rattle.std.proofs.lemmas.Simd.{tops_compared, zip2_splat_left, mask_l-mod}
use Rattle.std.proofs.lemmas.List.{length-map}
use Rattle.byte_lanes.proofs.lanes.AboveByteTest.passing_lanes.Goals as goal

pub returns : goal.returns
returns c =
    let v = c.args.block in
    let above : ℕ → Bool = leb 128 in
    let room : length (map above v) ≤ 64 = simp length-map (omega (arith, c.requires)) in
    ap (λ ms. mask_l ms % 2 ^ 64) (tops_compared w8 leb (replicate 32 128) v ∙ zip2_splat_left leb 128 32 v c.requires) ∙ mask_l-mod (map above v) 64 room
