use Rattle.std.proofs.Common.{◌∙◌, ap, sym, map, Result, Ok, Err, Bor, List, ℕ, Bool, true, false, true≢false}
use Rattle.clap.specs.Words.{app_of}
use Rattle.sidecar_words.specs.declared.given.WordsErr.{WordsErr}
use Rattle.sidecar_words.specs.declared.given.WordsErr.TheVariants as errors
use Rattle.sidecar_words.specs.declared.checking.Values.{Values}
use Rattle.sidecar_words.proofs.Parsing.{found_pairs, no_pairs}
use Rattle.sidecar_words.proofs.reading.values_of.Goals as goal

abbrev is_usage : WordsErr → Bool
is_usage errors.Usage = true
is_usage errors.NoMemory = false

abbrev is_usage_error : Result Values WordsErr → Bool
is_usage_error (Ok values) = false
is_usage_error (Err error) = is_usage error

pub returns-in-Ok-clause-ok : goal.returns-in-Ok-clause-ok
returns-in-Ok-clause-ok c =
    found_pairs (map (λ (text : Bor (List ℕ)). text.now) c.args.texts.now) (app_of c.in_ok-command.field-0) c.in-Ok.matches c.found.result c.in_ok-command.ensures c.requires
    c.in-Ok.ensures.matches c.in-Ok.ensures.kinds c.found.ensures

pub returns-in-Err-clause-usage : goal.returns-in-Err-clause-usage
returns-in-Err-clause-usage c usage =
    no_pairs (map (λ (text : Bor (List ℕ)). text.now) c.args.texts.now) (app_of c.in_ok-command.field-0) c.in-Err.error c.in_ok-command.ensures c.in-Err.ensures.kinds
    (λ memory. true≢false (sym (ap is_usage_error usage) ∙ ap is_usage (c.refusal.ensures.memory memory)))
