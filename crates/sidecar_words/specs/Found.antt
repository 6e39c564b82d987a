-- Values as the program holds them.
use Rattle.std.specs.Prelude.{◌≡◌, ℕ, Bool, true, false, List, Option, Some, codes}
use Rattle.sidecar_words.specs.Spelling.{Pair}
use Rattle.sidecar_words.specs.Value.{text_of}
use Rattle.sidecar_words.specs.Meaning.{Gives, Options, options_of}
use Rattle.sidecar_words.specs.declared.given.Words.{Words}
use Rattle.sidecar_words.specs.declared.checking.Values.{Values}
use Rattle.clap.specs.Words.{first_value, one_text}
use Rattle.clap.specs.declared.parser.matches.Found.{Found}

-- the values, as texts
abbrev pub shown : Values → Options
shown values = record {
  app = text_of values.app;
  resources = text_of values.resources;
  port = text_of values.port;
  app_port = text_of values.app_port;
  workers = text_of values.workers;
  peers = text_of values.peers;
  drill = text_of values.drill;
  stdio = values.stdio;
  check = values.check;
}

-- what the values come to
abbrev pub GivesValues : Values → Words → Type 0
GivesValues values given = Gives (shown values) given

-- the values are those of the pairs
abbrev pub HoldsOf : List Pair → Values → Type 0
HoldsOf pairs values = shown values ≡ options_of pairs

-- the truth value that a text writes
pub record IsRead (text : Option (List ℕ)) (value : Bool) : Type 0 where
  pub yes : text ≡ Some (codes "true") → value ≡ true
  pub no : text ≡ Some (codes "false") → value ≡ false

-- the values are those that a parse found
pub record IsFound (found : Found) (values : Values) : Type 0 where
  pub app : text_of values.app ≡ first_value found (codes "app-id")
  pub resources : text_of values.resources ≡ first_value found (codes "resources-path")
  pub port : text_of values.port ≡ first_value found (codes "dapr-http-port")
  pub app_port : text_of values.app_port ≡ first_value found (codes "app-port")
  pub workers : text_of values.workers ≡ first_value found (codes "workers")
  pub peers : text_of values.peers ≡ first_value found (codes "peers")
  pub drill : text_of values.drill ≡ first_value found (codes "drill")
  pub stdio : IsRead (one_text found (codes "stdio")) values.stdio
  pub check : IsRead (one_text found (codes "check")) values.check
