use Rattle.std.proofs.Common.{◌≡◌, take, length, refl}
use Rattle.std.proofs.lemmas.List.Folds.{length-prefix_len}
use Rattle.std.specs.Char.{is_ascii_digit}
use Rattle.side_base.specs.Decimal.{digits_at}
use Rattle.side_base.proofs.Decimals.{AllDigits-digits_at}
use Rattle.side_base.proofs.decimal.split_digits.Goals as goal

pub returns : goal.returns
returns c =
    let text = c.args.text.now in
    let all : take (length (digits_at text)) text ≡ digits_at text = rw (length-prefix_len is_ascii_digit text) refl in
    rw (c.split_at.ensures.front, c.split_at.ensures.back, c.digits_len.ensures.value, all)
    (record { digits = refl; rest = refl; decimal = AllDigits-digits_at text })
