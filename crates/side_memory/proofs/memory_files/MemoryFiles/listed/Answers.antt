use Rattle.std.proofs.Common.{rules, List, ℕ, ◌↔◌, subst}
use Rattle.std.specs.Prelude.{Contains, IsSome}
use Rattle.side_world.specs.Files.{IsYamlName}
use Rattle.side_memory.specs.MemoryFiles.{bytes_at}
use Rattle.side_memory.specs.declared.memory_files.MemoryFile.{MemoryFile}
use Rattle.side_memory.proofs.Searched.{told_names}
use Rattle.side_memory.proofs.memory_files.MemoryFiles.listed.Goals as goal

pub returns-in-Ok-clause-all : goal.returns-in-Ok-clause-all
returns-in-Ok-clause-all c =
    let all = subst (λ (z : List MemoryFile). (name : List ℕ) → Contains c.in-Ok.names name ↔ (IsYamlName name × IsSome (bytes_at z c.args.folder.now name))) c.deref-2.ensures.value c.in-Ok.ensures.all in
    told_names c.args.self.now c.args.folder.now c.in-Ok.names (search rules) all
