-- What the resource files of a folder come to.
use Rattle.std.specs.Prelude.{◌≡◌, ◌⊎◌, ℕ, false, List, [], ◌∷◌, ◌++◌, All, map, Option, Result, Ok, Err}
use Rattle.side_world.specs.declared.files.FilesCall.{FilesCall}
use Rattle.side_world.specs.declared.files.FilesCall.TheVariants as call
use Rattle.side_world.specs.Faults.{Rose}
use Rattle.side_world.specs.Files.{Folders, IsListing, ListsAll, HasBytes}
use Rattle.side_world.specs.Told.{Tells}
use Rattle.resource_files.specs.declared.resources.Resources.{Resources}
use Rattle.resource_files.specs.declared.resources.Refusal.{Refusal}
use Rattle.resource_files.specs.declared.resources.ResourcesErr.{ResourcesErr}
use Rattle.resource_files.specs.declared.resources.ResourcesErr.TheVariants.{Refused, Failed, NoMemory}
use Rattle.resource_files.specs.Refusals.{wants_memory}
use Rattle.resource_files.specs.Added.{nothing_said, Adds, IsRefusedBehind, Reading}

-- a file that was read
pub record FileRead : Type 0 where
  pub name : List ℕ
  pub bytes : List ℕ

abbrev pub names_of : List FileRead → List (List ℕ)
names_of files = map (λ (file : FileRead). file.name) files

-- files that are read one behind the other, none of which is refused
abbrev pub AllAdd : Reading → Resources → List FileRead → Resources → Type 0
AllAdd reading before [] after = after ≡ before
AllAdd reading before (file ∷ later) after = (between : Resources) × (Adds reading file.bytes before between × AllAdd reading between later after)

-- these are the names of the resource files of the folder, in order
pub record AreListed (told : Option Folders) (folder : List ℕ) (names : List (List ℕ)) : Type 0 where
  pub listing : IsListing names
  pub all : ListsAll told folder names

-- where the folders are told, the files are there with these bytes
abbrev pub AreHeld : Option Folders → List ℕ → List FileRead → Type 0
AreHeld told folder files = All (λ (file : FileRead). HasBytes told folder file.name file.bytes) files

-- the calls by which files of these names are read: the folder is listed, and then each file read
abbrev pub calls_for : List ℕ → List (List ℕ) → List FilesCall
calls_for folder names = call.List folder ∷ map (call.Read folder) names

-- all files of the folder were read in order, and together they say this
pub record AreRead (told : Option Folders) (before after : Option (List FilesCall)) (folder : List ℕ) (reading : Reading) (resources : Resources) : Type 0 where
  pub files : List FileRead
  pub listed : AreListed told folder (names_of files)
  pub held : AreHeld told folder files
  pub added : AllAdd reading nothing_said files resources
  pub calls : Tells before after (calls_for folder (names_of files))

-- the file of this name was called for behind those before it in order, none of which is refused, and nothing behind it
pub record IsReached (told : Option Folders) (before after : Option (List FilesCall)) (folder : List ℕ) (reading : Reading) (name : List ℕ) (resources : Resources) : Type 0 where
  pub earlier : List FileRead
  pub later : List (List ℕ)
  pub listed : AreListed told folder (names_of earlier ++ name ∷ later)
  pub held : AreHeld told folder earlier
  pub added : AllAdd reading nothing_said earlier resources
  pub calls : Tells before after (calls_for folder (names_of earlier ++ name ∷ []))

-- the file of this name is refused so, where it is reached
pub record IsRefusedAt (told : Option Folders) (before after : Option (List FilesCall)) (folder : List ℕ) (reading : Reading) (name : List ℕ) (refusal : Refusal) : Type 0 where
  pub resources : Resources
  pub reached : IsReached told before after folder reading name resources
  pub bytes : List ℕ
  pub held : HasBytes told folder name bytes
  pub refused : IsRefusedBehind reading bytes resources refusal
  pub cause : wants_memory refusal ≡ false

-- nothing but the listing was called for, or else a file that is reached
abbrev pub IsCutShort : Option Folders → Option (List FilesCall) → Option (List FilesCall) → List ℕ → Reading → Type 0
IsCutShort told before after folder reading =
    Tells before after (calls_for folder []) ⊎ ((name : List ℕ) × ((resources : Resources) × IsReached told before after folder reading name resources))

-- The resource files of a folder are read with this result, where the folders, the calls before and after, and the count of
-- faults before and after are these.
abbrev pub IsReadFrom : Option Folders → Option (List FilesCall) → Option (List FilesCall) → ℕ → ℕ → List ℕ → Reading → Result Resources ResourcesErr → Type 0
IsReadFrom told before after faults_before faults_after folder reading (Ok resources) =
    AreRead told before after folder reading resources × (faults_after ≡ faults_before)
IsReadFrom told before after faults_before faults_after folder reading (Err (Refused file refusal)) =
    IsRefusedAt told before after folder reading file refusal × (faults_after ≡ faults_before)
IsReadFrom told before after faults_before faults_after folder reading (Err Failed) =
    IsCutShort told before after folder reading × Rose faults_before faults_after
IsReadFrom told before after faults_before faults_after folder reading (Err NoMemory) =
    IsCutShort told before after folder reading × (faults_after ≡ faults_before)
