use Rattle.std.proofs.Common.{rules}
use Rattle.side_memory.proofs.Searched.{told_bytes, told_length}
use Rattle.side_memory.proofs.memory_files.MemoryFiles.found.Goals as goal

pub returns-in-Some-clause-bytes : goal.returns-in-Some-clause-bytes
returns-in-Some-clause-bytes c = told_bytes c.copied.result c.args.self.now c.args.folder.now c.args.name.now c.in-Some.bytes.now (search rules) (search rules) c.copied.ensures.same

pub returns-in-Some-clause-length : goal.returns-in-Some-clause-length
returns-in-Some-clause-length c len long = told_length c.args.self.now c.args.folder.now c.args.name.now c.in-Some.bytes.now len (search rules) (search rules) (c.copied.ensures.too_long len long).1
