use Rattle.std.proofs.Common.{[], Ok, Err, arith}
use Rattle.std.proofs.lemmas.Result.{err_from_is_err_and}
use Rattle.retry_core.specs.declared.trip.Join.TheVariants.{All}
use Rattle.retry_core.specs.declared.trip_text.TripErr.TheVariants.{Counter as NoCounter, Sign as NoSign, Number as NoNumber, Mixed, Long}
use Rattle.retry_core.specs.TripText.{none, Leads}
use Rattle.retry_core.proofs.TripLoops.{TripResult-stopped}
use Rattle.retry_core.proofs.TripTexts.{trip_answers}
use Rattle.retry_core.proofs.trip_text.trip_of.Goals as goal

pub returns-in_err-first : goal.returns-in_err-first
returns-in_err-first c =
    let text = c.args.text.now in
    let p = err_from_is_err_and c.from_residual.result c.from_residual.ensures.1 in
    let leads : Leads text All [] text = record { joined = none; few = omega arith } in
    let stopped = TripResult-stopped text text All [] leads c.in_err-first.field-0.0 c.in_err-first.ensures.absent in
    let t = trip_answers text (Err c.in_err-first.field-0.0) stopped in
    rw (p.1, p.2)
    (record {
      ok = λ trip. t (Ok trip);
      counter = λ at. t (Err (NoCounter at));
      sign = λ at. t (Err (NoSign at));
      number = λ at. t (Err (NoNumber at));
      mixed = λ at. t (Err (Mixed at));
      long = λ at. t (Err (Long at));
    })

pub returns : goal.returns
returns c =
    let t = trip_answers c.args.text.now c.joined.result c.joined.ensures in
    record {
      ok = λ trip. t (Ok trip);
      counter = λ at. t (Err (NoCounter at));
      sign = λ at. t (Err (NoSign at));
      number = λ at. t (Err (NoNumber at));
      mixed = λ at. t (Err (Mixed at));
      long = λ at. t (Err (Long at));
    }
