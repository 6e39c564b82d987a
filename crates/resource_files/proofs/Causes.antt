-- Why a file isn't read: what its bytes are, or what the call answered.
use Rattle.std.proofs.Common.{◌≡◌, ◌≤◌, ◌<◌, ℕ, Bool, true, false, List, length, replicate, Option, Some, None, Err, refl, sym, subst, if◌then◌else◌}
use Rattle.side_world.specs.declared.files.FilesErr.{FilesErr}
use Rattle.side_world.specs.declared.files.FilesErr.TheVariants as files
use Rattle.side_world.specs.Files.{Folders, HasBytes, HasLength}
use Rattle.std.proofs.lemmas.List.{length-replicate}
use Rattle.yaml_subset.specs.Trees.{Trees}
use Rattle.yaml_subset.specs.File.{IsFile, IsRefusalOrMemory}
use Rattle.yaml_subset.specs.declared.error.YamlErr.{YamlErr}
use Rattle.yaml_subset.specs.declared.error.YamlErr.TheVariants as yaml
use Rattle.resource_files.specs.declared.resources.Resources.{Resources}
use Rattle.resource_files.specs.declared.resources.Refusal.{Refusal}
use Rattle.resource_files.specs.declared.resources.ResourcesErr.{ResourcesErr}
use Rattle.resource_files.specs.declared.resources.ResourcesErr.TheVariants.{Refused, NoMemory}
use Rattle.resource_files.specs.Refusals.{yaml_wants_memory, wants_memory}
use Rattle.resource_files.specs.Added.{IsNoYaml, IsRefusedBehind, Reading}
use Rattle.resource_files.specs.Steps.{IsNext, unread}

pub yaml_cause : (bytes : List ℕ) (e : YamlErr) → length bytes ≤ 1048576 → IsRefusalOrMemory bytes e → ((documents : Trees) → IsFile bytes documents → e ≡ yaml.NoMemory) → yaml_wants_memory e ≡ false → IsNoYaml bytes e
yaml_cause bytes (yaml.Tab line) within is memory known = record { within = within; refusal = is; only = λ documents file. absurd (cc (memory documents file)) }
yaml_cause bytes (yaml.Indent line) within is memory known = record { within = within; refusal = is; only = λ documents file. absurd (cc (memory documents file)) }
yaml_cause bytes (yaml.LeftOut line what) within is memory known = record { within = within; refusal = is; only = λ documents file. absurd (cc (memory documents file)) }
yaml_cause bytes (yaml.Repeated line) within is memory known = record { within = within; refusal = is; only = λ documents file. absurd (cc (memory documents file)) }
yaml_cause bytes (yaml.Scalar line) within is memory known = record { within = within; refusal = is; only = λ documents file. absurd (cc (memory documents file)) }
yaml_cause bytes (yaml.NotUtf8 at) within is memory known = record { within = within; refusal = is; only = λ documents file. absurd (cc (memory documents file)) }
yaml_cause bytes yaml.NoMemory within is memory known = absurd (cc)

-- a file of some length is one of some bytes
bytes_of : (told : Option Folders) (folder name : List ℕ) (len : ℕ) → HasLength told folder name len → (bytes : List ℕ) × (HasBytes told folder name bytes × (length bytes ≡ len))
bytes_of None folder name len has = (replicate len 0, ((λ folders is. absurd (cc)), length-replicate len 0))
bytes_of (Some all) folder name len has =
    let h = has all refl in
    (h.1.0, ((λ folders is. let same : all ≡ folders = cc in (h.0, subst (λ (fs : Folders). fs folder ≡ Some h.0) same h.1.1, h.1.2)), h.1.3))

module _ (told : Option Folders) (folder : List ℕ) (reading : Reading) (name : List ℕ) (old new : Resources) where
  decided : (bytes : List ℕ) (refusal : Refusal) (e : ResourcesErr) (memory : Bool) → wants_memory refusal ≡ memory → e ≡ (if memory then NoMemory else Refused name refusal) → HasBytes told folder name bytes → (wants_memory refusal ≡ false → IsRefusedBehind reading bytes old refusal) → IsNext told folder reading name old new (Err e)
  decided bytes refusal e true known is held why = subst (λ (x : ResourcesErr). IsNext told folder reading name old new (Err x)) (sym is) tt
  decided bytes refusal e false known is held why = subst (λ (x : ResourcesErr). IsNext told folder reading name old new (Err x)) (sym is) (refl, (bytes, (held, why known, known)))

  -- the bytes are refused
  pub refused_next : (bytes : List ℕ) (refusal : Refusal) (e : ResourcesErr) → e ≡ (if wants_memory refusal then NoMemory else Refused name refusal) → HasBytes told folder name bytes → (wants_memory refusal ≡ false → IsRefusedBehind reading bytes old refusal) → IsNext told folder reading name old new (Err e)
  refused_next bytes refusal e is held why = decided bytes refusal e (wants_memory refusal) refl is held why

  -- the file isn't read
  unread_is : (error : FilesErr) → ((len : ℕ) → error ≡ files.TooLong len → 1048576 < len) → ((len : ℕ) → error ≡ files.TooLong len → HasLength told folder name len) → IsNext told folder reading name old new (Err (unread name error))
  unread_is files.Failed long has = tt
  unread_is (files.TooLong len) long has = let b = bytes_of told folder name len (has len refl) in (refl, (b.0, (b.1.0, (b.1.1, long len refl), refl)))
  unread_is files.NoMemory long has = tt

  pub unread_next : (error : FilesErr) (e : ResourcesErr) → e ≡ unread name error → ((len : ℕ) → error ≡ files.TooLong len → 1048576 < len) → ((len : ℕ) → error ≡ files.TooLong len → HasLength told folder name len) → IsNext told folder reading name old new (Err e)
  unread_next error e is long has = subst (λ (x : ResourcesErr). IsNext told folder reading name old new (Err x)) (sym is) (unread_is error long has)
