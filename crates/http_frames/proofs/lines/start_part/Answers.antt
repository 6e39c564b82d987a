use Rattle.std.proofs.Common.{refl, sym, ap, ◌∙◌}
use Rattle.httparse.specs.Grammar.{is_token}
use Rattle.http_frames.proofs.PlaceLemmas.{method_at}
use Rattle.http_frames.proofs.TargetLemmas.{ends_in_target-takes}
use Rattle.http_frames.proofs.lines.start_part.Goals as goal

pub returns-then-ends_in_target : goal.returns-then-ends_in_target
returns-then-ends_in_target c = (refl, ends_in_target-takes c.args.text.now (sym c.if-ends_in_target.ensures))

pub returns-then-is_token : goal.returns-then-is_token
returns-then-is_token c = method_at c.args.text.now (sym (c.if-is_token.ensures ∙ ap is_token c.after_blank.ensures))
