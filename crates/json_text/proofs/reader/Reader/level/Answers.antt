use Rattle.std.proofs.Common.{◌≡◌, ◌+◌, ◌-◌, length, arith}
use Rattle.json_text.proofs.Steps.{innermost_at}
use Rattle.json_text.proofs.reader.Reader.level.Goals as goal

pub returns-else-count-eq0 : goal.returns-else-count-eq0
returns-else-count-eq0 c =
    let last : (c.len-count.result - 1) + 1 ≡ length c.args.self.now.opened.items = omega (arith, c.len-count.ensures, c.if-count-eq0.false) in
    innermost_at c.args.self.now.opened.items (c.len-count.result - 1) c.index.result.now last c.index.ensures
