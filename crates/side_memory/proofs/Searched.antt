-- Files that are looked for.
use Rattle.std.proofs.Common.{◌≡◌, ◌<◌, ◌+◌, ◌⊎◌, ◌↔◌, ◌&&◌, ℕ, Bool, true, false, List, [], ◌∷◌, ◌++◌, take, length, get_or, Some, None, refl, ap, sym, subst, inl, inr, ⊎_elim, true≢false, Result, Ok, Err, IfOk, ◌∙◌}
use Rattle.std.specs.Prelude.{if◌then◌else◌, bytes_eq, Contains, IsSome, Decides}
use Rattle.std.proofs.lemmas.List.{take_more}
use Rattle.std.proofs.lemmas.List.Elements.{Contains-append_left, Contains-push, Contains-push_cases}
use Rattle.std.proofs.lemmas.Slice.Eq.{bytes_eq-Decides}
use Rattle.side_world.specs.Files.{Folders, IsYamlName, HasBytes, HasLength, ListsAll}
use Rattle.side_memory.specs.MemoryFiles.{bytes_at, first_of, with_file, is_one_of, folders_of, files_of, told_of}
use Rattle.side_memory.specs.declared.memory_files.MemoryFiles.{MemoryFiles}
use Rattle.side_memory.specs.declared.memory_files.MemoryFile.{MemoryFile}

both : (a b : Bool) (P Q : Type 0) → Decides a P → Decides b Q → Decides (a && b) (P × Q)
both true b P Q p q = (λ e. (p.0 refl, q.0 e), λ pq. q.1 pq.1)
both false b P Q p q = (λ e. absurd (true≢false (sym e)), λ pq. p.1 pq.0)

-- the test of a file: this name in this folder
abbrev Is : MemoryFile → List ℕ → List ℕ → Bool
Is file folder name = bytes_eq file.folder folder && bytes_eq file.name name

tests : (file : MemoryFile) (folder name : List ℕ) → Decides (Is file folder name) ((file.folder ≡ folder) × (file.name ≡ name))
tests file folder name =
    both (bytes_eq file.folder folder) (bytes_eq file.name name) (file.folder ≡ folder) (file.name ≡ name) (bytes_eq-Decides file.folder folder) (bytes_eq-Decides file.name name)

-- one file more
by_test : (file last : MemoryFile) (files : List MemoryFile) (folder name : List ℕ) (b : Bool) → IsSome (bytes_at (files ++ last ∷ []) folder name) ↔ (IsSome (bytes_at files folder name) ⊎ ((last.folder ≡ folder) × (last.name ≡ name))) → IsSome (if b then Some file.bytes else bytes_at (files ++ last ∷ []) folder name) ↔ (IsSome (if b then Some file.bytes else bytes_at files folder name) ⊎ ((last.folder ≡ folder) × (last.name ≡ name)))
by_test file last files folder name true more = (λ some. inl some, λ either. refl)
by_test file last files folder name false more = more

last_only : (last : MemoryFile) (folder name : List ℕ) (b : Bool) → Decides b ((last.folder ≡ folder) × (last.name ≡ name)) → IsSome (if b then Some last.bytes else None) ↔ (IsSome {T = List ℕ} None ⊎ ((last.folder ≡ folder) × (last.name ≡ name)))
last_only last folder name true test = (λ some. inr (test.0 refl), λ either. refl)
last_only last folder name false test = (λ some. inl some, λ either. ⊎_elim (λ (none : IsSome {T = List ℕ} None). none) (λ (is : (last.folder ≡ folder) × (last.name ≡ name)). test.1 is) either)

pub one_more : (files : List MemoryFile) (last : MemoryFile) (folder name : List ℕ) → IsSome (bytes_at (files ++ last ∷ []) folder name) ↔ (IsSome (bytes_at files folder name) ⊎ ((last.folder ≡ folder) × (last.name ≡ name)))
one_more [] last folder name = last_only last folder name (Is last folder name) (tests last folder name)
one_more (file ∷ files) last folder name = by_test file last files folder name (Is file folder name) (one_more files last folder name)

-- a file that wasn't there is there once it is added
pub there : (files : List MemoryFile) (last : MemoryFile) → bytes_at files last.folder last.name ≡ None → bytes_at (files ++ last ∷ []) last.folder last.name ≡ Some last.bytes
there [] last none = ap (λ (b : Bool). if b then Some last.bytes else None) ((tests last last.folder last.name).1 (refl, refl))
there (file ∷ files) last none = by_front (Is file last.folder last.name) (there files last) none where
  by_front : (b : Bool) → (bytes_at files last.folder last.name ≡ None → bytes_at (files ++ last ∷ []) last.folder last.name ≡ Some last.bytes) → (if b then Some file.bytes else bytes_at files last.folder last.name) ≡ None → (if b then Some file.bytes else bytes_at (files ++ last ∷ []) last.folder last.name) ≡ Some last.bytes
  by_front true more is = absurd (cc)
  by_front false more is = more is

-- what is there once a file is added
pub one_with : (files : List MemoryFile) (last : MemoryFile) (folder name : List ℕ) → bytes_at (files ++ last ∷ []) folder name ≡ with_file (bytes_at files) last.folder last.name last.bytes folder name
one_with [] last folder name = refl
one_with (file ∷ files) last folder name = by_front (Is file folder name) (one_with files last folder name) where
  by_front : (b : Bool) → bytes_at (files ++ last ∷ []) folder name ≡ with_file (bytes_at files) last.folder last.name last.bytes folder name → (if b then Some file.bytes else bytes_at (files ++ last ∷ []) folder name) ≡ first_of (if b then Some file.bytes else bytes_at files folder name) (if Is last folder name then Some last.bytes else None)
  by_front true more = refl
  by_front false more = more

-- the names of the files of a folder
abbrev pub NamesOf : List MemoryFile → List ℕ → List (List ℕ) → Type 0
NamesOf files folder names = (name : List ℕ) → Contains names name ↔ IsSome (bytes_at files folder name)

pub named_in : (files : List MemoryFile) (i : ℕ) (d : MemoryFile) (folder : List ℕ) (names : List (List ℕ)) → NamesOf (take i files) folder names → i < length files → (get_or files i d).folder ≡ folder → NamesOf (take (i + 1) files) folder (names ++ (get_or files i d).name ∷ [])
named_in files i d folder names so_far within in_folder = subst (λ (z : List MemoryFile). NamesOf z folder (names ++ (get_or files i d).name ∷ [])) (sym (take_more files i d within)) (λ name.
    let more = one_more (take i files) (get_or files i d) folder name in (
      λ has. more.1 (⊎_elim (λ (old : Contains names name). inl ((so_far name).0 old)) (λ (e : (get_or files i d).name ≡ name). inr (in_folder, e)) (Contains-push_cases names (get_or files i d).name name has)),
      λ some. ⊎_elim
          (λ (old : IsSome (bytes_at (take i files) folder name)). Contains-append_left names ((get_or files i d).name ∷ []) name ((so_far name).1 old))
          (λ (is : ((get_or files i d).folder ≡ folder) × ((get_or files i d).name ≡ name)). subst (λ (z : List ℕ). Contains (names ++ (get_or files i d).name ∷ []) z) is.1 (Contains-push names (get_or files i d).name)) (more.0 some),
    ))

pub named_out : (files : List MemoryFile) (i : ℕ) (d : MemoryFile) (folder : List ℕ) (names : List (List ℕ)) → NamesOf (take i files) folder names → i < length files → ((get_or files i d).folder ≡ folder → ⊥) → NamesOf (take (i + 1) files) folder names
named_out files i d folder names so_far within elsewhere = subst (λ (z : List MemoryFile). NamesOf z folder names) (sym (take_more files i d within)) (λ name.
    let more = one_more (take i files) (get_or files i d) folder name in (
      λ has. more.1 (inl ((so_far name).0 has)),
      λ some. ⊎_elim
          (λ (old : IsSome (bytes_at (take i files) folder name)). (so_far name).1 old)
          (λ (is : ((get_or files i d).folder ≡ folder) × ((get_or files i d).name ≡ name)). absurd (elsewhere is.0)) (more.0 some),
    ))

-- the resource files among them
pub lists_all : {E : Type 0} (result : Result (List (List ℕ)) E) (files : List MemoryFile) (folder : List ℕ) (lent names : List (List ℕ)) → NamesOf files folder names → lent ≡ names → IfOk result (λ listed. (name : List ℕ) → Contains listed name ↔ (IsYamlName name × Contains lent name)) → IfOk result (λ listed. (name : List ℕ) → Contains listed name ↔ (IsYamlName name × IsSome (bytes_at files folder name)))
lists_all (Ok listed) files folder lent names named is all = λ name.
    let here = named name in
    let yaml = subst (λ (z : List (List ℕ)). Contains listed name ↔ (IsYamlName name × Contains z name)) is (all name) in (
      λ has. let two = yaml.0 has in (two.0, here.0 two.1),
      λ two. yaml.1 (two.0, here.1 two.1),
    )
lists_all (Err e) files folder lent names named is all = all

-- a folder that is there is told with its files
pub told_at : (files : MemoryFiles) (folder : List ℕ) (told : Folders) → is_one_of (folders_of files) folder ≡ true → Some (told_of files) ≡ Some told → told folder ≡ Some (files_of files folder)
told_at files folder told there same = ap (λ (f : Folders). f folder) (sym (told_is same)) ∙ ap (λ (b : Bool). if b then Some (files_of files folder) else None) there where
  told_is : Some (told_of files) ≡ Some told → told_of files ≡ told
  told_is is = cc

pub told_names : (files : MemoryFiles) (folder : List ℕ) (names : List (List ℕ)) → is_one_of (folders_of files) folder ≡ true → ((name : List ℕ) → Contains names name ↔ (IsYamlName name × IsSome (files_of files folder name))) → ListsAll (Some (told_of files)) folder names
told_names files folder names is-there all = λ told same. (files_of files folder, told_at files folder told is-there same, all)

pub told_bytes : {E : Type 0} (result : Result (List ℕ) E) (files : MemoryFiles) (folder name bytes : List ℕ) → is_one_of (folders_of files) folder ≡ true → files_of files folder name ≡ Some bytes → IfOk result (λ copy. copy ≡ bytes) → IfOk result (λ copy. HasBytes (Some (told_of files)) folder name copy)
told_bytes (Ok copy) files folder name bytes is-there is same = λ told told-is. (files_of files folder, told_at files folder told is-there told-is, is ∙ ap Some (sym same))
told_bytes (Err e) files folder name bytes is-there is same = same

pub told_length : (files : MemoryFiles) (folder name bytes : List ℕ) (len : ℕ) → is_one_of (folders_of files) folder ≡ true → files_of files folder name ≡ Some bytes → length bytes ≡ len → HasLength (Some (told_of files)) folder name len
told_length files folder name bytes len is-there is long = λ told same. (files_of files folder, (bytes, told_at files folder told is-there same, is, long))
