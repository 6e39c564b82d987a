use Rattle.std.proofs.Common.{◌≤◌, ℕ, length, take, drop, subst, sym, ap, arith, length-drop, take-add}
use Rattle.std.proofs.Math.Seq.{take-length}
use Rattle.std.proofs.lemmas.Str.{IsUtf8-append}
use Rattle.std.specs.Str.{IsUtf8}
use Rattle.byte_lanes.proofs.Ordered.{all_ascii, rest_is_drop, longest_behind}
use Rattle.byte_lanes.proofs.utf8.utf8_len.Goals as goal

pub returns-in-Some-clause-utf8 : goal.returns-in-Some-clause-utf8
returns-in-Some-clause-utf8 c =
    let bytes = c.args.bytes.now in
    let whole = c.utf8_by_blocks-whole in
    let rest = c.utf8_by_chars in
    subst IsUtf8 (sym (take-add whole.result rest.result bytes)) (IsUtf8-append (take whole.result bytes) (take rest.result (drop whole.result bytes)) whole.ensures.utf8 (subst (λ l. IsUtf8 (take rest.result l)) (rest_is_drop bytes whole.result) rest.ensures.utf8))

pub returns-in-Some-clause-most : goal.returns-in-Some-clause-most
returns-in-Some-clause-most c =
    let bytes = c.args.bytes.now in
    let whole = c.utf8_by_blocks-whole in
    let rest = c.utf8_by_chars in
    longest_behind bytes whole.result rest.result whole.ensures.within whole.ensures.utf8 (subst (λ l. (j : ℕ) → j ≤ length l → IsUtf8 (take j l) → j ≤ rest.result) (rest_is_drop bytes whole.result) rest.ensures.most)

pub returns-in-Some-clause-all : goal.returns-in-Some-clause-all
returns-in-Some-clause-all c utf8 =
    let bytes = c.args.bytes.now in
    let whole = c.utf8_by_blocks-whole in
    let most = returns-in-Some-clause-most c (length bytes) (omega arith) (subst IsUtf8 (sym (take-length bytes)) utf8) in
    omega (arith, most, c.utf8_by_chars.ensures.within, ap length (rest_is_drop bytes whole.result), length-drop whole.result bytes, whole.ensures.within)

pub returns-in-None-clause-utf8 : goal.returns-in-None-clause-utf8
returns-in-None-clause-utf8 c = subst IsUtf8 (sym (take-length c.args.bytes.now)) (all_ascii c.args.bytes.now c.in-None.ensures)
