use Rattle.sidecar_cli.proofs.Causes.{check_run, check_well, ends_well, stdio_run}
use Rattle.sidecar_cli.proofs.ServeCauses.{serve_run, serve_well}
use Rattle.sidecar_cli.proofs.laws.runs_end_well.Goals as goal

pub returns-clause-stdio : goal.returns-clause-stdio
returns-clause-stdio g c = λ words_of words given world world' status means is main well. ends_well _ given world main.between c.streams_are_unique.ensures.single c.streams_are_unique.ensures.exists status (stdio_run _ given world main.between words_of words means status is main.run) well

pub returns-clause-check : goal.returns-clause-check
returns-clause-check g c = λ words_of words given world world' status means is main well. check_well given world main.between status (check_run _ given world main.between words_of words means status is main.run) well

pub returns-clause-serve : goal.returns-clause-serve
returns-clause-serve g c = λ words_of words given world world' status means is main well. serve_well _ given world main.between status (serve_run _ given world main.between words_of words means status is main.run) well
