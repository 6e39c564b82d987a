-- Folders of resource files, and what the calls on them answer.
use Rattle.std.specs.Prelude.{◌≡◌, ◌⊎◌, ◌↔◌, ℕ, List, ◌++◌, All, AllPairs, Contains, length, codes, Option, Some, IsSome, Result, Ok, Err}
use Rattle.std.specs.declared.cmp.Ordering.TheVariants.{Less}
use Rattle.std.specs.Ordering.{nat_cmp}
use Rattle.std.specs.Cmp.Lexicographic.{slice_cmp}
use Rattle.side_world.specs.declared.files.FilesErr.{FilesErr}
use Rattle.side_world.specs.declared.files.FilesErr.TheVariants.{Failed, TooLong, NoMemory}
use Rattle.side_world.specs.Faults.{Rose}

-- the bytes of each file of a folder, by its name
abbrev pub Held : Type 0
Held = List ℕ → Option (List ℕ)

-- the folders that are there, by their names
abbrev pub Folders : Type 0
Folders = List ℕ → Option Held

-- a name ends in .yaml or .yml
abbrev pub IsYamlName : List ℕ → Type 0
IsYamlName name = ((front : List ℕ) × (name ≡ front ++ codes ".yaml")) ⊎ ((front : List ℕ) × (name ≡ front ++ codes ".yml"))

-- each name is before those behind it in the order of bytes
abbrev pub AreRising : List (List ℕ) → Type 0
AreRising names = AllPairs (λ earlier later. slice_cmp nat_cmp earlier later ≡ Less) names

-- the names of a folder's resource files, in order
pub record IsListing (names : List (List ℕ)) : Type 0 where
  pub rising : AreRising names
  pub named : All IsYamlName names

-- where the folders are told, this one is there, and a name is listed exactly where it names a resource file of it
abbrev pub ListsAll : Option Folders → List ℕ → List (List ℕ) → Type 0
ListsAll told folder names =
    (folders : Folders) → told ≡ Some folders → (held : Held) × (folders folder ≡ Some held) × ((name : List ℕ) → Contains names name ↔ (IsYamlName name × IsSome (held name)))

-- where the folders are told, this file of this folder has these bytes
abbrev pub HasBytes : Option Folders → List ℕ → List ℕ → List ℕ → Type 0
HasBytes told folder name bytes = (folders : Folders) → told ≡ Some folders → (held : Held) × (folders folder ≡ Some held) × (held name ≡ Some bytes)

-- where the folders are told, this file of this folder has so many bytes
abbrev pub HasLength : Option Folders → List ℕ → List ℕ → ℕ → Type 0
HasLength told folder name len =
    (folders : Folders) → told ≡ Some folders → (held : Held) × ((bytes : List ℕ) × (folders folder ≡ Some held) × (held name ≡ Some bytes) × (length bytes ≡ len))

-- the count of faults rose exactly where the call failed
abbrev pub CountsFault : {X : Type 0} → Result X FilesErr → ℕ → ℕ → Type 0
CountsFault (Ok answer) before after = after ≡ before
CountsFault (Err Failed) before after = Rose before after
CountsFault (Err (TooLong len)) before after = after ≡ before
CountsFault (Err NoMemory) before after = after ≡ before
