use Rattle.state_core.specs.Store.{held_by}
use Rattle.state_core.specs.History.{held_in, course_of, now_in}
use Rattle.state_core.proofs.Fitting.{reply_fits}
use Rattle.state_core.proofs.laws.replies_fit.Goals as goal

pub returns : goal.returns
returns g c = λ first history before after entry legal is.
    let opening = held_by g.K.Keeper first in
    let course = course_of opening before in
    reply_fits (held_in opening course) (now_in course entry.cmd) entry.cmd _ entry.reply (legal.each before after entry is).1.reply
