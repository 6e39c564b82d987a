use Rattle.std.proofs.Common.{◌≡◌, ◌+◌, ◌++◌, ◌∷◌, [], ℕ, List, take, get_or, sym, subst, ap, ◌∙◌, true≢false, arith}
use Rattle.std.proofs.lemmas.Slice.Eq.{bytes_eq-Decides}
use Rattle.side_memory.specs.declared.memory_files.MemoryFile.{MemoryFile}
use Rattle.side_memory.proofs.Searched.{NamesOf, named_in, named_out}
use Rattle.side_memory.proofs.file_search.names_in.Goals.{then-eq+in_ok-copy+in_ok-push, else-eq}
use Rattle.side_memory.proofs.file_search.names_in.Goals as goal

pub loop-i-preserved : goal.loop-i-preserved
loop-i-preserved c =
    let files = c.args.files.now in
    let i = c.loop-i.i in
    let d = c.index-files-i.result in
    let folder = c.args.folder.now in
    let at_folder = c.bytes.ensures ∙ ap (λ (f : MemoryFile). f.folder) c.index-files-i.is in
    let test = bytes_eq-Decides c.bytes.result.now folder in
    elim c.if-eq.branch [
      | then-eq+in_ok-copy+in_ok-push w ↦
          let in_folder : (get_or files i d).folder ≡ folder = sym at_folder ∙ test.0 (sym c.eq.ensures ∙ w.if-eq.true) in
          let copy = w.in_ok-copy.ensures ∙ ap (λ (f : MemoryFile). f.name) c.index-files-i.is in
          let items = w.in_ok-push.ensures.items ∙ ap (λ (z : List ℕ). c.loop-i.names.items ++ z ∷ []) copy in
          subst (λ z. NamesOf (take (i + 1) files) folder z.items) (sym w.names-is)
          (subst (λ (z : List (List ℕ)). NamesOf (take (i + 1) files) folder z) (sym items)
          (named_in files i d folder c.loop-i.names.items c.loop-i.invariant (omega arith) in_folder))
      | else-eq w ↦
          subst (λ z. NamesOf (take (i + 1) files) folder z.items) (sym w.names-is)
          (named_out files i d folder c.loop-i.names.items c.loop-i.invariant (omega arith)
          (λ e. true≢false (sym (c.eq.ensures ∙ test.1 (at_folder ∙ e)) ∙ w.if-eq.false)))
    ]
