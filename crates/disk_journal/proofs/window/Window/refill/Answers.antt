use Rattle.std.proofs.Common.{◌≡◌, ◌+◌, ◌-◌, ◌++◌, take, drop, length, sym, ◌∙◌, ap, arith, take-append-drop, length-drop}
use Rattle.std.specs.Vec.{with_items}
use Rattle.std.proofs.lemmas.List.{with_items_is}
use Rattle.disk_journal.specs.Window.{held_of}
use Rattle.disk_journal.proofs.Windows.{read_on}
use Rattle.disk_journal.proofs.window.Window.refill.Goals as goal

pub invariant_of-self-in-Ok-read_behind : goal.invariant_of-self-in-Ok-read_behind
invariant_of-self-in-Ok-read_behind g c =
    let window = c.args.self.now in
    let room = c.make_room.new.buffer in
    let new = c.read_behind.new.buffer in
    let held = c.len.result - window.start in
    let held_is : held ≡ length window.buffer.items - window.start = omega (arith, c.len.ensures, window.buffer.ok) in
    let sized : length c.deref_mut.result.now ≡ c.args.size = ap length c.deref_mut.ensures.value ∙ c.in-Ok.ensures.length in
    let items : (with_items room new).items ≡ new = with_items_is room new (c.in-Ok-read_behind.ensures.length ∙ ap length c.deref_mut.ensures.value ∙ sym room.ok.0) in
    let long : length (with_items room new).items ≡ c.args.size = ap length items ∙ c.in-Ok-read_behind.ensures.length ∙ sized in
    let whole : c.args.size ≡ length (with_items room new).items - 0 = omega (arith, long) in
    let front : take held new ≡ held_of window =
    c.in-Ok-read_behind.ensures.front ∙ ap (take held) c.deref_mut.ensures.value ∙ ap (λ k. take k room.items) held_is ∙ c.in-Ok.ensures.front in
    record {
      ordered = omega arith;
      within = omega arith;
      short = omega (arith, long, c.requires.fits, window.sized);
      sized = window.sized ∙ sym c.in-Ok-read_behind.ensures.same.size;
      shows = λ bytes told.
          let before = sym c.in-Ok-read_behind.ensures.same.contents ∙ told in
          items
          ∙ read_on (held_of window) new bytes held window.at c.args.size (omega (arith, held_is, c.requires.more, length-drop window.start window.buffer.items)) front
          (window.shows bytes before ∙ ap (λ k. take k (drop window.at bytes)) (sym held_is))
          (c.in-Ok-read_behind.ensures.read bytes before ∙ ap (λ k. take (k - held) (drop (window.at + held) bytes)) sized)
          ∙ ap (λ k. take k (drop window.at bytes)) whole;
    }

pub returns-in-Ok-read_behind-clause-held : goal.returns-in-Ok-read_behind-clause-held
returns-in-Ok-read_behind-clause-held g c =
    let window = c.args.self.now in
    let room = c.make_room.new.buffer in
    let new = c.read_behind.new.buffer in
    let held = c.len.result - window.start in
    let held_is : held ≡ length window.buffer.items - window.start = omega (arith, c.len.ensures, window.buffer.ok) in
    let items : (with_items room new).items ≡ new = with_items_is room new (c.in-Ok-read_behind.ensures.length ∙ ap length c.deref_mut.ensures.value ∙ sym room.ok.0) in
    let front : take held new ≡ held_of window =
    c.in-Ok-read_behind.ensures.front ∙ ap (take held) c.deref_mut.ensures.value ∙ ap (λ k. take k room.items) held_is ∙ c.in-Ok.ensures.front in
    (drop held new, items ∙ sym (take-append-drop held new) ∙ ap (λ z. z ++ drop held new) front)
