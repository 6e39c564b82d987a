use Rattle.std.proofs.Common.{◌≡◌, ℕ, List, ◌-◌, ◌++◌, length, take, drop, sym, ap, ◌∙◌, subst, arith}
use Rattle.std.proofs.Math.ListN.{replicate}
use Rattle.std.proofs.lemmas.List.{with_items_is, take_all}
use Rattle.disk_journal.proofs.Windows.{moved}
use Rattle.disk_journal.proofs.reading.make_room.Goals as goal

pub returns-clause-front : goal.returns-clause-front
returns-clause-front c =
    let old = c.args.buffer.now.items in
    let grown = c.resize.new.self.items in
    let brought = c.bring_forward.new.bytes in
    let zeros : List ℕ = replicate (c.max.result - c.args.buffer.now.len) 0 in
    let is : grown ≡ old ++ zeros = c.in_ok-resize.ensures.items ∙ ap (λ z. z ++ zeros) (take_all c.max.result old (omega (arith, c.max.ensures, c.len-len.ensures, c.args.buffer.now.ok))) in
    let same = c.bring_forward.ensures.length ∙ ap length c.deref_mut.ensures.value in
    let front = subst (λ z. take (length z - c.args.start) brought ≡ drop c.args.start z) c.deref_mut.ensures.value c.bring_forward.ensures.front in
    ap (take (length old - c.args.start)) (c.truncate.ensures.items ∙ ap (take c.args.size) (with_items_is c.resize.new.self brought (same ∙ sym c.resize.new.self.ok.0)))
    ∙ moved old grown brought zeros c.args.start c.args.size c.requires.within c.requires.fits is front
