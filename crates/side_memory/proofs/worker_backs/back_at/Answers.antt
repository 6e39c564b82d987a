use Rattle.std.proofs.Common.{ap, sym, ◌∙◌, arith}
use Rattle.std.specs.Prelude.{option_map}
use Rattle.side_memory.specs.MemoryOutside.{parts_told}
use Rattle.side_memory.proofs.Backs.{back_in, none_past}
use Rattle.side_memory.proofs.Lent.{lent_option}
use Rattle.side_memory.proofs.worker_backs.back_at.Goals as goal

pub returns-then-place-backs : goal.returns-then-place-backs
returns-then-place-backs c =
    lent_option parts_told c.as_ref.result
    ∙ (ap (option_map parts_told) (c.as_ref.ensures.value ∙ c.index-backs-place.is)
    ∙ sym (back_in c.args.backs.now c.args.number c.index-backs-place.result (omega arith)))

pub returns-else-place-backs : goal.returns-else-place-backs
returns-else-place-backs c = sym (none_past c.args.backs.now c.args.number (omega arith))
