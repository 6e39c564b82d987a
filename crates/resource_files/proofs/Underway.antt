-- A reading that goes on: some files were read and added, and these names are left.
use Rattle.std.proofs.Common.{◌≡◌, inr, ℕ, List, [], ◌∷◌, ◌++◌, Option, Ok, Err, refl, sym, ap, subst, ◌∙◌, append_assoc}
use Rattle.std.proofs.lemmas.List.{map-append}
use Rattle.std.proofs.lemmas.List.Elements.{All-push}
use Rattle.side_world.specs.declared.files.FilesCall.{FilesCall}
use Rattle.side_world.specs.declared.files.FilesCall.TheVariants as call
use Rattle.side_world.specs.Faults.{Rose}
use Rattle.side_world.specs.Files.{Folders, HasBytes}
use Rattle.side_world.specs.Told.{Tells}
use Rattle.side_world.proofs.Composed.{tells_on}
use Rattle.resource_files.specs.declared.resources.Resources.{Resources}
use Rattle.resource_files.specs.declared.resources.ResourcesErr.{ResourcesErr}
use Rattle.resource_files.specs.declared.resources.ResourcesErr.TheVariants.{Refused, Failed, NoMemory}
use Rattle.resource_files.specs.Added.{nothing_said, Adds, Reading}
use Rattle.resource_files.specs.Read.{FileRead, names_of, AllAdd, AreListed, AreHeld, calls_for, IsReached, IsReadFrom}
use Rattle.resource_files.specs.Steps.{IsNext, CountsFailed}

pub record IsUnderway (told : Option Folders) (before after : Option (List FilesCall)) (folder : List ℕ) (reading : Reading) (rest : List (List ℕ)) (resources : Resources) : Type 0 where
  pub files : List FileRead
  pub listed : AreListed told folder (names_of files ++ rest)
  pub held : AreHeld told folder files
  pub added : AllAdd reading nothing_said files resources
  pub calls : Tells before after (calls_for folder (names_of files))

-- one more file behind others
add_one : (reading : Reading) (before between after : Resources) (files : List FileRead) (file : FileRead) → AllAdd reading before files between → Adds reading file.bytes between after → AllAdd reading before (files ++ file ∷ []) after
add_one reading before between after [] file added adds = (after, (subst (λ (r : Resources). Adds reading file.bytes r after) added adds, refl))
add_one reading before between after (other ∷ files) file added adds = (added.0, (added.1.0, add_one reading added.0 between after files file added.1.1 adds))

-- one more name behind others
names_more : (files : List FileRead) (file : FileRead) → names_of (files ++ file ∷ []) ≡ names_of files ++ file.name ∷ []
names_more files file = map-append (λ (f : FileRead). f.name) files (file ∷ [])

calls_more : (folder : List ℕ) (names : List (List ℕ)) (name : List ℕ) → calls_for folder (names ++ name ∷ []) ≡ calls_for folder names ++ call.Read folder name ∷ []
calls_more folder names name = ap (λ (calls : List FilesCall). call.List folder ∷ calls) (map-append (call.Read folder) names (name ∷ []))

module _ (told : Option Folders) (before between after : Option (List FilesCall)) (folder : List ℕ) (reading : Reading) (name : List ℕ) (later : List (List ℕ)) (old : Resources) (u : IsUnderway told before between folder reading (name ∷ later) old) (read : Tells between after (call.Read folder name ∷ [])) where
  called : Tells before after (calls_for folder (names_of u.files ++ name ∷ []))
  called = subst (λ (calls : List FilesCall). Tells before after calls) (sym (calls_more folder (names_of u.files) name)) (tells_on before between after (calls_for folder (names_of u.files)) (call.Read folder name ∷ []) u.calls read)

  reached : IsReached told before after folder reading name old
  reached = record { earlier = u.files; later = later; listed = u.listed; held = u.held; added = u.added; calls = called }

  -- the file is read and added
  further : (bytes : List ℕ) (new : Resources) → HasBytes told folder name bytes → Adds reading bytes old new → IsUnderway told before after folder reading later new
  further bytes new held adds =
      let file : FileRead = record { name = name; bytes = bytes } in
      let names : names_of (u.files ++ file ∷ []) ≡ names_of u.files ++ name ∷ [] = names_more u.files file in
      record {
        files = u.files ++ file ∷ [];
        listed = subst (λ (all : List (List ℕ)). AreListed told folder all) (sym (ap (λ (front : List (List ℕ)). front ++ later) names ∙ append_assoc (names_of u.files) (name ∷ []) later)) u.listed;
        held = All-push (λ (f : FileRead). HasBytes told folder f.name f.bytes) u.files file u.held held;
        added = add_one reading nothing_said old new u.files file u.added adds;
        calls = subst (λ (all : List (List ℕ)). Tells before after (calls_for folder all)) (sym names) called;
      }

  -- the reading ends with the file
  ends : (new : Resources) (e : ResourcesErr) (first faults faults' : ℕ) → faults ≡ first → IsNext told folder reading name old new (Err e) → CountsFailed {T = Unit {0}} (Err e) faults faults' → IsReadFrom told before after first faults' folder reading (Err e)
  ends new (Refused file refusal) first faults faults' same next counts = (
    record {
      resources = old;
      reached = subst (λ (n : List ℕ). IsReached told before after folder reading n old) (sym next.0) reached;
      bytes = next.1.0;
      held = subst (λ (n : List ℕ). HasBytes told folder n next.1.0) (sym next.0) next.1.1.0;
      refused = next.1.1.1;
      cause = next.1.1.2;
    },
    counts ∙ same,
  )
  ends new Failed first faults faults' same next counts = (inr (name, (old, reached)), subst (λ (n : ℕ). Rose n faults') same counts)
  ends new NoMemory first faults faults' same next counts = (inr (name, (old, reached)), counts ∙ same)

-- one more of the names that are left was called for
module _ (told now : Option Folders) (before between after : Option (List FilesCall)) (folder : List ℕ) (reading : Reading) (name : List ℕ) (names later : List (List ℕ)) (old new : Resources) (same : now ≡ told) (is : names ≡ name ∷ later) (u : IsUnderway told before between folder reading names old) (read : Tells between after (call.Read folder name ∷ [])) where
  begins : IsUnderway told before between folder reading (name ∷ later) old
  begins = subst (λ (left : List (List ℕ)). IsUnderway told before between folder reading left old) is u

  pub goes_on : (done : Unit {0}) → IsNext now folder reading name old new (Ok done) → IsUnderway told before after folder reading later new
  goes_on done next = further told before between after folder reading name later old begins read next.0 new (subst (λ (t : Option Folders). HasBytes t folder name next.0) same next.1.0) next.1.1

  pub ends_so : (e : ResourcesErr) (first faults faults' : ℕ) → faults ≡ first → IsNext now folder reading name old new (Err e) → CountsFailed {T = Unit {0}} (Err e) faults faults' → IsReadFrom told before after first faults' folder reading (Err e)
  ends_so e first faults faults' unchanged next counts = ends told before between after folder reading name later old begins read new e first faults faults' unchanged (subst (λ (t : Option Folders). IsNext t folder reading name old new (Err e)) same next) counts
