use Rattle.cron_ticks.proofs.Stepping.{first_kept}
use Rattle.cron_ticks.proofs.ticks.Ticks.new.Goals as goal

pub invariant_of-result : goal.invariant_of-result
invariant_of-result c =
    let kept = first_kept c.args.periods c.ms-start.result c.following-next.result c.requires.periods c.requires.few c.ms-start.ensures.limit c.following-next.ensures in
    record { bounded = kept.0; fresh = kept.1 }
