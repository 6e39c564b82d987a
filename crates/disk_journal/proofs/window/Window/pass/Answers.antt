use Rattle.std.proofs.Common.{◌+◌, ◌≤◌, length, arith, length-drop}
use Rattle.disk_journal.proofs.Windows.{passed_on}
use Rattle.disk_journal.proofs.window.Window.pass.Goals as goal

pub invariant_of-self : goal.invariant_of-self
invariant_of-self g c =
    let window = c.args.self.now in
    let fits : window.start + c.args.count ≤ length window.buffer.items = omega (arith, c.requires, window.within, length-drop window.start window.buffer.items) in
    record {
      ordered = omega arith;
      within = fits;
      short = omega (arith, fits, window.short);
      sized = window.sized;
      shows = λ bytes told. passed_on window.buffer.items bytes window.start window.at c.args.count fits (window.shows bytes told);
    }
