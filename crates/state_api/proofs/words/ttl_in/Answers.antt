use Rattle.std.proofs.Common.{sym, ◌∙◌}
use Rattle.state_api.proofs.Wording.{number_digits}
use Rattle.state_api.proofs.words.ttl_in.Goals as goal

pub number_of-seconds-requires : goal.number_of-seconds-requires
number_of-seconds-requires c = number_digits c.args.text.now (sym c.is_number.ensures ∙ c.if-not-is_number.false)
