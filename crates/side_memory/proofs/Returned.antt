-- A connection comes back to an acceptor in memory.
use Rattle.std.proofs.Common.{◌≡◌, List, [], ◌∷◌, ◌++◌, map, Option, Some, None, ap, sym, ◌∙◌}
use Rattle.std.specs.Prelude.{option_map}
use Rattle.std.proofs.lemmas.List.{map-append}
use Rattle.side_world.proofs.Composed.{tells_map}
use Rattle.side_world.specs.Answer.{Answer, conn}
use Rattle.side_world.specs.Told.{Tells}
use Rattle.side_memory.specs.declared.memory_acceptor.AcceptorNote.{AcceptorNote}
use Rattle.side_memory.specs.declared.memory_acceptor.AcceptorNote.TheVariants as note
use Rattle.side_memory.specs.declared.memory_acceptor.Visited.{Visited}
use Rattle.side_memory.specs.MemoryAcceptor.{told_of, back_of}

-- the last note was a connection that is out, which was taken off, and a note with what came back was added
pub returned : (notes between after : Option (List AcceptorNote)) (items : List AcceptorNote) (visited : Visited) → notes ≡ Some (items ++ note.Conn None ∷ []) → between ≡ Some items → Tells between after (note.Conn (Some visited) ∷ []) → (all : List Answer) → option_map (map told_of) after ≡ Some all → (held : List Answer) × (option_map (map told_of) notes ≡ Some (held ++ conn None ∷ [])) × (all ≡ held ++ conn (Some (back_of visited)) ∷ [])
returned notes between after items visited was taken added all is =
    let told = tells_map told_of between after (note.Conn (Some visited) ∷ []) added all is in
    let same : told.0 ≡ map told_of items = cc (sym told.1 ∙ ap (option_map (map told_of)) taken) in (
      map told_of items,
      ap (option_map (map told_of)) was ∙ ap Some (map-append told_of items (note.Conn None ∷ [])),
      told.2 ∙ ap (λ (z : List Answer). z ++ conn (Some (back_of visited)) ∷ []) same,
    )
