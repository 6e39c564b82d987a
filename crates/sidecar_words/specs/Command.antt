-- The command that reads the words, as `clap` sees it.
use Rattle.std.specs.Prelude.{ℕ, true, List, Some, codes, fold}
use Rattle.clap.specs.Words.{App, Rule, new_app, new_rule, with_rule}
use Rattle.clap.specs.Simple.{on_top}
use Rattle.clap.specs.declared.builder.action.ArgAction.TheVariants.{Set, SetTrue}
use Rattle.sidecar_words.specs.Spelling.{options, flags}

-- an option `--name` with a value, and a flag
abbrev pub option_of : List ℕ → Rule
option_of name = record (new_rule name) { long = Some name; action = Some Set }

abbrev pub flag_of : List ℕ → Rule
flag_of name = record (new_rule name) { long = Some name; action = Some SetTrue }

abbrev pub bare : App
bare = on_top (λ shape. record shape { no_binary_name = true; disable_help_flag = true; disable_version_flag = true })
    (new_app (codes "sidecar"))

-- the command with the options and flags, and none of its own
abbrev pub sidecar_app : App
sidecar_app = fold (λ app name. with_rule app (flag_of name)) (fold (λ app name. with_rule app (option_of name)) bare options) flags
