use Rattle.std.proofs.Common.{rules}
use Rattle.http_client.proofs.FramingLemmas.{length_is}
use Rattle.http_client.proofs.framing.length_of.Goals as goal

pub returns-then-digits-le-LENGTH_DIGITS : goal.returns-then-digits-le-LENGTH_DIGITS
returns-then-digits-le-LENGTH_DIGITS c =
    length_is _ _ _ _ c.split_digits.ensures.digits c.split_digits.ensures.rest (search rules) c.split_digits.ensures.decimal (search rules) (search rules) c.number_of.ensures
