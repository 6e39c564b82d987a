use Rattle.std.proofs.Common.{rules}
use Rattle.std.proofs.lemmas.Result.{IfOk-weaker}
use Rattle.sidecar_words.proofs.OneMeaning.{means_values, one_meaning, values_mean}
use Rattle.sidecar_words.proofs.Parsing.{spelled_plain}
use Rattle.sidecar_words.proofs.reading.read_words.Goals as goal

pub returns-then-not-are_plain-clause-usage : goal.returns-then-not-are_plain-clause-usage
returns-then-not-are_plain-clause-usage c is_usage given (pairs, spelled, once, gives) =
    let plain = spelled_plain pairs c.args.words.now spelled in
    search rules

pub returns-clause-only : goal.returns-clause-only
returns-clause-only c given means =
    let words = c.args.words.now in
    let (pairs, spelled, once, holds) = c.in_ok-values.ensures.ok in
    IfOk-weaker c.words_of.result _ _ (λ read gives. one_meaning words read given (values_mean words pairs c.in_ok-values.values read (search rules) once holds gives) means)
    c.words_of.ensures.ok

pub returns-clause-usage : goal.returns-clause-usage
returns-clause-usage c is_usage given means =
    let pairs = c.in_ok-values.ensures.ok in
    c.words_of.ensures.usage is_usage given
    (means_values c.args.words.now pairs.0 c.in_ok-values.values given (search rules) pairs.3 means)
