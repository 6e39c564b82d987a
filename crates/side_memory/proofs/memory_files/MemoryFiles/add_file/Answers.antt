use Rattle.std.proofs.Common.{◌≡◌, ◌++◌, ◌∷◌, [], ℕ, List, Some, None, ap, subst, ◌∙◌}
use Rattle.side_world.specs.Files.{Held}
use Rattle.side_memory.specs.MemoryFiles.{bytes_at, with_file}
use Rattle.side_memory.specs.declared.memory_files.MemoryFile.{MemoryFile}
use Rattle.side_memory.proofs.Searched.{there, one_with}
use Rattle.side_memory.proofs.memory_files.MemoryFiles.add_file.Goals as goal

pub returns-clause-there : goal.returns-clause-there
returns-clause-there c = λ none.
    let folder = c.args.folder.now in
    let name = c.args.name in
    let files = c.add_folder.new.self.files.items in
    let last : MemoryFile = record { folder = c.in_ok-from_bytes.field-0; name = name; bytes = c.args.bytes } in
    let still = ap (λ (f : List ℕ → Held). f folder name) c.in_ok-add_folder.ensures.files ∙ none in
    let put = subst (λ (z : List ℕ). bytes_at files z name ≡ None → bytes_at (files ++ last ∷ []) z name ≡ Some c.args.bytes) c.in_ok-from_bytes.ensures (there files last) in
    ap (λ (z : List MemoryFile). bytes_at z folder name) c.in_ok-push.ensures.items ∙ put still

pub returns-clause-added : goal.returns-clause-added
returns-clause-added c = λ in_folder named.
    let name = c.args.name in
    let files = c.add_folder.new.self.files.items in
    let last : MemoryFile = record { folder = c.in_ok-from_bytes.field-0; name = name; bytes = c.args.bytes } in
    ap (λ (z : List MemoryFile). bytes_at z in_folder named) c.in_ok-push.ensures.items
    ∙ (one_with files last in_folder named
    ∙ (ap (λ (z : List ℕ). with_file (bytes_at files) z name c.args.bytes in_folder named) c.in_ok-from_bytes.ensures
    ∙ ap (λ (f : List ℕ → Held). with_file f c.args.folder.now name c.args.bytes in_folder named) c.in_ok-add_folder.ensures.files))
