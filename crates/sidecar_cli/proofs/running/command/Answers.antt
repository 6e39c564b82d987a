use Rattle.sidecar_cli.specs.Run.{played, checked, drilled, served}
use Rattle.sidecar_cli.proofs.running.command.Goals as goal

pub returns-in-Stdio : goal.returns-in-Stdio
returns-in-Stdio g c = played c.in-Stdio.is c.play.ensures

pub returns-in-Check : goal.returns-in-Check
returns-in-Check g c = checked c.in-Check.is c.check.ensures

pub returns-in-Drill : goal.returns-in-Drill
returns-in-Drill g c = drilled c.in-Drill.start c.in-Drill.requests c.in-Drill.is c.run_drill.ensures

pub returns-in-Serve : goal.returns-in-Serve
returns-in-Serve g c = served c.in-Serve.is c.serve_port.ensures

pub serve_port-requires-after_bounds : goal.serve_port-requires-after_bounds
serve_port-requires-after_bounds g c κs within = c.requires
