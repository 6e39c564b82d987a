use Rattle.std.proofs.Common.{◌≡◌, ◌-◌, ◌++◌, length, take, drop, sym, subst, arith}
use Rattle.json_lexemes.specs.declared.unescape.Pending.{Pending}
use Rattle.json_lexemes.specs.declared.unescape.Pending.TheVariants.{Between as between}
use Rattle.json_lexemes.specs.Unescape.{unescaped_from}
use Rattle.json_lexemes.proofs.CopiedRuns.{run_stands}
use Rattle.json_lexemes.proofs.copies.run_end.Goals as goal

pub returns-in-Some-clause-run : goal.returns-in-Some-clause-run
returns-in-Some-clause-run c some =
    let inside = c.args.inside.now in
    let end = c.in-Some.place in
    subst (λ (p : Pending). unescaped_from p (drop c.args.at inside) ≡ take (end - c.args.at) (drop c.args.at inside) ++ unescaped_from (between 0) (drop end inside)) (sym c.in-Between.is)
    (run_stands inside c.args.at end c.in-Between.high some (omega (arith, c.in-Some.ensures.within)) c.in-Some.ensures.before)

pub returns-in-None-clause-run : goal.returns-in-None-clause-run
returns-in-None-clause-run c some =
    let inside = c.args.inside.now in
    let end = length inside in
    subst (λ (p : Pending). unescaped_from p (drop c.args.at inside) ≡ take (end - c.args.at) (drop c.args.at inside) ++ unescaped_from (between 0) (drop end inside)) (sym c.in-Between.is)
    (run_stands inside c.args.at end c.in-Between.high some (omega arith) c.in-None.ensures)
