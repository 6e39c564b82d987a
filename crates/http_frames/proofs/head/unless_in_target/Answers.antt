use Rattle.std.proofs.Common.{◌∙◌, sym}
use Rattle.std.proofs.lemmas.Bool.{false≢true}
use Rattle.std.proofs.Common.{inr, append-nil, subst, []}
use Rattle.httparse.specs.Grammar.{HasNoRequest}
use Rattle.http_frames.proofs.TargetLemmas.{ends_in_target-again, ends_in_target-takes}
use Rattle.http_frames.proofs.head.unless_in_target.Goals as goal

pub returns-then-ends_in_target : goal.returns-then-ends_in_target
returns-then-ends_in_target c =
    let text = c.args.text.now in
    (subst HasNoRequest (append-nil text) (c.requires []), inr (ends_in_target-takes text (sym c.if-ends_in_target.ensures)))

pub returns-else-ends_in_target : goal.returns-else-ends_in_target
returns-else-ends_in_target c =
    let text = c.args.text.now in
    (c.requires, λ ends. false≢true (c.if-ends_in_target.ensures ∙ ends_in_target-again text ends))
