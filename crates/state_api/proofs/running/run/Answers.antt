use Rattle.std.proofs.Common.{rules}
use Rattle.state_api.proofs.Answered.{answer_fits}
use Rattle.state_api.proofs.Attempted.{shows_count}
use Rattle.state_api.proofs.running.run.Goals as goal

pub returns-clause-ran : goal.returns-clause-ran
returns-clause-ran g c = let e = c.run_call.ensures.attempts in let own = e.2.owned in let place = own.same_seat in let grew = own.grew in
    (e.0, c.run_call.result, e.1, c.ran_of.ensures, record { owned = search rules; guards = e.2.guards; times = e.2.times; pauses = e.2.pauses; ticks = e.2.ticks; words = e.2.words })

pub returns-clause-shows : goal.returns-clause-shows
returns-clause-shows g c = let e = c.run_call.ensures.attempts in let own = e.2.owned in let place = own.same_seat in
    shows_count _ c.run_call.new.op.seat.now.count (g.G.Guard.shows c.run_call.new.guard) c.run_call.result c.ran_of.result c.ran_of.ensures (search rules) c.run_call.ensures.shown c.run_call.ensures.shows

pub returns-clause-answer : goal.returns-clause-answer
returns-clause-answer g c = let e = c.run_call.ensures.attempts in answer_fits _ _ c.args.cmd.now c.run_call.result e.0 c.ran_of.result e.1 c.ran_of.ensures
