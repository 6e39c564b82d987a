use Rattle.std.proofs.Common.{◌<◌, ◌^◌, ◌-◌, subst, arith}
use Rattle.drill.specs.Requests.{words_of}
use Rattle.drill.proofs.Words.{Drawn, further}
use Rattle.drill.proofs.generating.push_requests.Goals as goal

pub loop-left-preserved : goal.loop-left-preserved
loop-left-preserved g c =
    let all = words_of c.args.n (g.R.Rng.stream c.args.words.now) in
    let old = g.R.Rng.stream c.loop-left.words in
    let so = subst (λ left. Drawn all c.args.out.now c.loop-left.out left old) (omega (arith, c.loop-left-test.true)) c.loop-left.invariant in
    let small : c.next_u64.result < 2 ^ 64 = search in
    further all c.args.out.now c.loop-left.out c.push_request.new.out (c.loop-left.left - 1) c.next_u64.result old (g.R.Rng.stream c.next_u64.new.self) so c.next_u64.ensures small c.in_ok-push_request.ensures
