use Rattle.meta_api.specs.Notes.{pairs_of}
use Rattle.meta_api.specs.History.{book_after}
use Rattle.meta_api.proofs.Fitting.{reply_fits}
use Rattle.meta_api.proofs.laws.replies_fit.Goals as goal

pub returns : goal.returns
returns c = λ first history before after entry legal is. reply_fits (book_after (pairs_of first) before) entry.cmd entry.reply (legal.each before after entry is).1.answers
