use Rattle.std.proofs.Common.{ap, get_or}
use Rattle.sidecar_objects.specs.Kind as kind
use Rattle.serving_tests.proofs.served.started.Goals as goal

pub returns-in-Ok : goal.returns-in-Ok
returns-in-Ok g c =
    let roots = c.in-Ok.ensures.started.roots in
    record {
      root = λ i. record {
        stores = roots.each kind.stores i;
        ledgers = roots.each kind.ledgers i;
        breakers = roots.each kind.breakers i;
        notes = ap (λ l. get_or l 0 c.in-Ok.pass.notes) (roots.each kind.book) i;
        turns = ap (λ l. get_or l 0 c.in-Ok.pass.turns) (roots.each kind.turns) i;
        ticks = ap (λ l. get_or l 0 c.in-Ok.pass.ticks) (roots.each kind.ticks) i;
      };
    }
