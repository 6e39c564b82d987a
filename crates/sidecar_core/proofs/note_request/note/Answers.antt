use Rattle.sidecar_objects.specs.Kind.{book}
use Rattle.sidecar_objects.proofs.Single.{the_seat}
use Rattle.sidecar_core.proofs.Booked.{booked, unbooked}
use Rattle.sidecar_core.proofs.note_request.note.Goals as goal

pub call-requires-clause-seat : goal.call-requires-clause-seat
call-requires-clause-seat g c = the_seat c.args.shared.now.objects.notes c.args.pass.now.notes _ (c.requires.pass.each book)

pub returns-in-Ok-clause-does : goal.returns-in-Ok-clause-does
returns-in-Ok-clause-does g c = λ clock link words. booked _ _ _ clock link words c.call.new.seat c.args.cmd.now c.in-Ok.reply c.in-Ok.ensures.ok

pub returns-in-Err-clause-does : goal.returns-in-Err-clause-does
returns-in-Err-clause-does g c = λ clock link words. unbooked _ _ _ clock link words c.call.new.seat c.args.cmd.now _ c.in-Err.ensures.err
