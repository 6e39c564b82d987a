use Rattle.std.proofs.Common.{◌<◌, length, sym, arith}
use Rattle.json_lexemes.specs.declared.scan.Scanned.{Scanned}
use Rattle.json_lexemes.specs.Scan.{stay}
use Rattle.json_lexemes.proofs.Runs.{if_ok, if_err, go_on, ended_at, broken_at, broken_on, over_at_end}
use Rattle.json_lexemes.proofs.scan.scan.Goals as goal

pub loop-run-init : goal.loop-run-init
loop-run-init c = record { high = c.requires.inside; passed = stay }

pub returns-in-Err-clause-broken : goal.returns-in-Err-clause-broken
returns-in-Err-clause-broken c = broken_on c.args.bytes.now c.args.from c.loop-run.at c.in-Err.place c.args.first c.loop-run.word c.loop-run.invariant.passed c.in-Err.ensures.lone

pub returns-then-run-bytes-clause-ended : goal.returns-then-run-bytes-clause-ended
returns-then-run-bytes-clause-ended c =
    let run = c.in-Ok.run' in
    if_ok _ _ _ c.finish.ensures.ended (λ (word : Scanned) h. ended_at c.args.bytes.now c.args.from c.loop-run.at run.at word.end c.args.first c.loop-run.word run.word word.kind c.loop-run.invariant.passed c.in-Ok.ensures.passed h.0 h.1 (over_at_end c.args.bytes.now run.at run.word c.if-run-bytes.true))

pub returns-then-run-bytes-clause-broken : goal.returns-then-run-bytes-clause-broken
returns-then-run-bytes-clause-broken c =
    let run = c.in-Ok.run' in
    if_err _ _ _ c.finish.ensures.broken (λ place h. broken_at c.args.bytes.now c.args.from c.loop-run.at run.at place c.args.first c.loop-run.word run.word c.loop-run.invariant.passed c.in-Ok.ensures.passed h.0 h.1 (over_at_end c.args.bytes.now run.at run.word c.if-run-bytes.true))

pub loop-run-preserved : goal.loop-run-preserved
loop-run-preserved c =
    let run = c.in-Ok.run' in
    let inside : run.at < length c.args.bytes.now = omega (arith, c.in-Ok.ensures.high, c.if-run-bytes.false) in
    record {
      high = omega (arith, inside);
      passed = go_on c.args.bytes.now c.args.from c.loop-run.at run.at c.args.first c.loop-run.word run.word c.in-Some.after c.loop-run.invariant.passed c.in-Ok.ensures.passed inside c.in-Ok.ensures.paired (sym c.in-Some.ensures);
    }

pub returns-in-None-clause-ended : goal.returns-in-None-clause-ended
returns-in-None-clause-ended c =
    let run = c.in-Ok.run' in
    if_ok _ _ _ c.finish-in-None.ensures.ended (λ (word : Scanned) h. ended_at c.args.bytes.now c.args.from c.loop-run.at run.at word.end c.args.first c.loop-run.word run.word word.kind c.loop-run.invariant.passed c.in-Ok.ensures.passed h.0 h.1 (λ lt. sym c.in-None.ensures))

pub returns-in-None-clause-broken : goal.returns-in-None-clause-broken
returns-in-None-clause-broken c =
    let run = c.in-Ok.run' in
    if_err _ _ _ c.finish-in-None.ensures.broken (λ place h. broken_at c.args.bytes.now c.args.from c.loop-run.at run.at place c.args.first c.loop-run.word run.word c.loop-run.invariant.passed c.in-Ok.ensures.passed h.0 h.1 (λ lt. sym c.in-None.ensures))
