use Rattle.sidecar_cli.proofs.Causes.{check_run, stdio_run}
use Rattle.sidecar_cli.proofs.DrillCauses.{drill_run}
use Rattle.sidecar_cli.proofs.ServeCauses.{serve_run}
use Rattle.sidecar_cli.proofs.laws.each_status_has_its_cause.Goals as goal

pub returns-clause-stdio : goal.returns-clause-stdio
returns-clause-stdio g c = λ words_of words given world world' status means is main. stdio_run _ given world main.between words_of words means status is main.run

pub returns-clause-check : goal.returns-clause-check
returns-clause-check g c = λ words_of words given world world' status means is main. check_run _ given world main.between words_of words means status is main.run

pub returns-clause-drill : goal.returns-clause-drill
returns-clause-drill g c = λ start requests words_of words given world world' status means is main. drill_run _ start requests given world main.between words_of words means status is main.run

pub returns-clause-serve : goal.returns-clause-serve
returns-clause-serve g c = λ words_of words given world world' status means is main. serve_run _ given world main.between words_of words means status is main.run
