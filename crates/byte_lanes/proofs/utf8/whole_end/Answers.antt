use Rattle.std.proofs.Common.{◌≡◌, ℕ, ◌-◌, get_or, sym, arith}
use Rattle.byte_lanes.proofs.InOrder.{begun_one, begun_two, begun_three, begun_none}
use Rattle.byte_lanes.proofs.Ordered.{whole_before}
use Rattle.byte_lanes.proofs.utf8.whole_end.Goals as goal

pub returns-then-bytes-end-ge-TWO-clause-utf8 : goal.returns-then-bytes-end-ge-TWO-clause-utf8
returns-then-bytes-end-ge-TWO-clause-utf8 c =
    let at : ℕ → ℕ = λ n. get_or c.args.bytes.now (c.args.end - n) 0 in
    (whole_before c.args.bytes.now c.args.end 1 c.requires.low c.requires.inside c.requires.begins c.requires.ordered (sym (begun_one (at 3) (at 2) (at 1) (omega (arith, c.if-bytes-end-ge-TWO.true))))).1

pub returns-then-bytes-end-ge-TWO-clause-low : goal.returns-then-bytes-end-ge-TWO-clause-low
returns-then-bytes-end-ge-TWO-clause-low c =
    let at : ℕ → ℕ = λ n. get_or c.args.bytes.now (c.args.end - n) 0 in
    (whole_before c.args.bytes.now c.args.end 1 c.requires.low c.requires.inside c.requires.begins c.requires.ordered (sym (begun_one (at 3) (at 2) (at 1) (omega (arith, c.if-bytes-end-ge-TWO.true))))).0

pub returns-then-bytes-end-ge-THREE-clause-utf8 : goal.returns-then-bytes-end-ge-THREE-clause-utf8
returns-then-bytes-end-ge-THREE-clause-utf8 c =
    let at : ℕ → ℕ = λ n. get_or c.args.bytes.now (c.args.end - n) 0 in
    (whole_before c.args.bytes.now c.args.end 2 c.requires.low c.requires.inside c.requires.begins c.requires.ordered (sym (begun_two (at 3) (at 2) (at 1) (omega (arith, c.if-bytes-end-ge-TWO.false)) (omega (arith, c.if-bytes-end-ge-THREE.true))))).1

pub returns-then-bytes-end-ge-THREE-clause-low : goal.returns-then-bytes-end-ge-THREE-clause-low
returns-then-bytes-end-ge-THREE-clause-low c =
    let at : ℕ → ℕ = λ n. get_or c.args.bytes.now (c.args.end - n) 0 in
    (whole_before c.args.bytes.now c.args.end 2 c.requires.low c.requires.inside c.requires.begins c.requires.ordered (sym (begun_two (at 3) (at 2) (at 1) (omega (arith, c.if-bytes-end-ge-TWO.false)) (omega (arith, c.if-bytes-end-ge-THREE.true))))).0

pub returns-then-bytes-end-ge-FOUR-clause-utf8 : goal.returns-then-bytes-end-ge-FOUR-clause-utf8
returns-then-bytes-end-ge-FOUR-clause-utf8 c =
    let at : ℕ → ℕ = λ n. get_or c.args.bytes.now (c.args.end - n) 0 in
    (whole_before c.args.bytes.now c.args.end 3 c.requires.low c.requires.inside c.requires.begins c.requires.ordered (sym (begun_three (at 3) (at 2) (at 1) (omega (arith, c.if-bytes-end-ge-TWO.false)) (omega (arith, c.if-bytes-end-ge-THREE.false)) (omega (arith, c.if-bytes-end-ge-FOUR.true))))).1

pub returns-then-bytes-end-ge-FOUR-clause-low : goal.returns-then-bytes-end-ge-FOUR-clause-low
returns-then-bytes-end-ge-FOUR-clause-low c =
    let at : ℕ → ℕ = λ n. get_or c.args.bytes.now (c.args.end - n) 0 in
    (whole_before c.args.bytes.now c.args.end 3 c.requires.low c.requires.inside c.requires.begins c.requires.ordered (sym (begun_three (at 3) (at 2) (at 1) (omega (arith, c.if-bytes-end-ge-TWO.false)) (omega (arith, c.if-bytes-end-ge-THREE.false)) (omega (arith, c.if-bytes-end-ge-FOUR.true))))).0

pub returns-clause-utf8 : goal.returns-clause-utf8
returns-clause-utf8 c =
    let at : ℕ → ℕ = λ n. get_or c.args.bytes.now (c.args.end - n) 0 in
    let all : c.args.end - 0 ≡ c.args.end = omega arith in
    rw all at ((whole_before c.args.bytes.now c.args.end 0 c.requires.low c.requires.inside c.requires.begins c.requires.ordered (sym (begun_none (at 3) (at 2) (at 1) (omega (arith, c.if-bytes-end-ge-TWO.false)) (omega (arith, c.if-bytes-end-ge-THREE.false)) (omega (arith, c.if-bytes-end-ge-FOUR.false))))).1)

pub returns-clause-low : goal.returns-clause-low
returns-clause-low c =
    let at : ℕ → ℕ = λ n. get_or c.args.bytes.now (c.args.end - n) 0 in
    let all : c.args.end - 0 ≡ c.args.end = omega arith in
    rw all at ((whole_before c.args.bytes.now c.args.end 0 c.requires.low c.requires.inside c.requires.begins c.requires.ordered (sym (begun_none (at 3) (at 2) (at 1) (omega (arith, c.if-bytes-end-ge-TWO.false)) (omega (arith, c.if-bytes-end-ge-THREE.false)) (omega (arith, c.if-bytes-end-ge-FOUR.false))))).0)
