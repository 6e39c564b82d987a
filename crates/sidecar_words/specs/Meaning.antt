-- What the words of the command line mean.
use Rattle.std.specs.Prelude.{◌≡◌, ◌-◌, ◌^◌, ℕ, Bool, true, false, List, ◌∷◌, ◌++◌, Option, Some, None, codes, is_some}
use Rattle.sidecar_words.specs.Spelling.{options, flags, Spells, IsOnce, Pair, value_of, stands}
use Rattle.sidecar_words.specs.Value.{ArePeers, IsAppId, IsCount, IsNumberIfAny, IsNumberOr, IsFilled}
use Rattle.sidecar_words.specs.declared.given.Mode.{Mode}
use Rattle.sidecar_words.specs.declared.given.Mode.TheVariants.{Stdio, Check, Drill, Serve}
use Rattle.sidecar_words.specs.declared.given.Words.{Words}

-- the values of the options, and whether the flags stand
pub record Options : Type 0 where
  pub app : Option (List ℕ)
  pub resources : Option (List ℕ)
  pub port : Option (List ℕ)
  pub app_port : Option (List ℕ)
  pub workers : Option (List ℕ)
  pub peers : Option (List ℕ)
  pub drill : Option (List ℕ)
  pub stdio : Bool
  pub check : Bool

-- those of pairs
abbrev pub options_of : List Pair → Options
options_of pairs = record {
  app = value_of pairs (codes "app-id");
  resources = value_of pairs (codes "resources-path");
  port = value_of pairs (codes "dapr-http-port");
  app_port = value_of pairs (codes "app-port");
  workers = value_of pairs (codes "workers");
  peers = value_of pairs (codes "peers");
  drill = value_of pairs (codes "drill");
  stdio = stands pairs (codes "stdio");
  check = stands pairs (codes "check");
}

-- the texts write the number that a drill begins from, below 2^64, and how many requests it has, at most 99,999
abbrev pub AreNumbers : List ℕ → List ℕ → Mode → Type 0
AreNumbers first second (Drill start requests) = IsCount (2 ^ 64 - 1) first start × IsCount 99999 second requests
AreNumbers first second Stdio = ⊥
AreNumbers first second Check = ⊥
AreNumbers first second Serve = ⊥

-- the text is `a,n`, the numbers of a drill
pub record IsDrill (text : List ℕ) (mode : Mode) : Type 0 where
  pub first : List ℕ
  pub second : List ℕ
  pub form : text ≡ first ++ 44 ∷ second
  pub numbers : AreNumbers first second mode

-- what is to be done, by whether `--stdio` and `--check` stand and by the value of `--drill`: at most one of the three does
abbrev pub IsMode : Bool → Bool → Option (List ℕ) → Mode → Type 0
IsMode false false None mode = mode ≡ Serve
IsMode false false (Some text) mode = IsDrill text mode
IsMode false true None mode = mode ≡ Check
IsMode false true (Some text) mode = ⊥
IsMode true false None mode = mode ≡ Stdio
IsMode true false (Some text) mode = ⊥
IsMode true true drill mode = ⊥

-- what the values of the options, and the flags that stand, come to
pub record Gives (options : Options) (given : Words) : Type 0 where
  pub app_is : options.app ≡ Some given.app
  pub app_form : IsAppId given.app
  pub resources_are : options.resources ≡ given.resources
  pub resources_filled : IsFilled given.resources
  pub port_is : IsNumberOr 65535 3500 options.port given.port
  pub app_port_is : IsNumberIfAny 65535 options.app_port given.app_port
  pub workers_are : IsNumberOr 64 4 options.workers given.workers
  pub peers_are : ArePeers given.app options.peers given.peers
  pub mode_is : IsMode options.stdio options.check options.drill given.mode
  pub folder : given.mode ≡ Check → is_some given.resources ≡ true

-- the words mean what is given: they spell pairs in which no name stands twice, and which come to it
abbrev pub Means : List (List ℕ) → Words → Type 0
Means words given = (pairs : List Pair) × Spells options flags words pairs × IsOnce pairs × Gives (options_of pairs) given
