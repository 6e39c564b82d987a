use Rattle.sidecar_objects.specs.Passes.{IsPassOf}
use Rattle.sidecar_objects.specs.Pass.{cells_of, seats_of}
use Rattle.conn_speed.proofs.measures.serve_all.Given as goal

abbrev pub invariant-loop : goal.invariant-loop
invariant-loop g l = record { pass : IsPassOf (cells_of l.shared.objects) (seats_of l.pass) }
