use Rattle.std.proofs.Common.{◌≡◌, ◌∙◌, ap, sym, ◌+◌, ◌∷◌, drop, false, rules, arith}
use Rattle.std.proofs.lemmas.List.{drop_more, drop_all}
use Rattle.topic_spec.specs.Aiming.{is_yes}
use Rattle.topic_spec.proofs.Pathing.{on_yes, on_no, on_end, first_past}
use Rattle.topic_spec.proofs.aiming.first_yes.Goals as goal

pub loop-i-preserved : goal.loop-i-preserved
loop-i-preserved c =
    let own = c.args.rules.now in
    let i = c.loop-i.i in
    let rule = c.at-rule.result.now in
    let at : drop i own ≡ rule ∷ drop (i + 1) own = drop_more own i rule (omega arith) ∙ ap (λ x. x ∷ drop (i + 1) own) (search rules) in
    let past : is_yes c.matches.result ≡ false = sym c.is_yes.ensures ∙ c.if-is_yes.false in
    record {
      first = λ shown is. first_past shown (drop i own) (drop (i + 1) own) rule _ at (ap is_yes (sym (c.matches.ensures.verdict shown is)) ∙ past) (c.loop-i.invariant.first shown is);
      values = λ shown texts default is are. on_no shown texts default (drop i own) (drop (i + 1) own) rule c.matches.result at (λ tree computes. c.matches.ensures.value shown tree is computes) (c.loop-i.invariant.values shown texts default is are) past;
    }

pub returns-then-is_yes-clause-values : goal.returns-then-is_yes-clause-values
returns-then-is_yes-clause-values c shown texts default is are =
    let own = c.args.rules.now in
    let i = c.loop-i.i in
    let rule = c.at-rule.result.now in
    let at : drop i own ≡ rule ∷ drop (i + 1) own = drop_more own i rule (omega arith) ∙ ap (λ x. x ∷ drop (i + 1) own) (search rules) in
    on_yes shown texts default (drop i own) (drop (i + 1) own) rule c.matches.result at (λ tree computes. c.matches.ensures.value shown tree is computes) (c.loop-i.invariant.values shown texts default is are) (sym c.is_yes.ensures ∙ c.if-is_yes.true)

pub returns-clause-values : goal.returns-clause-values
returns-clause-values c shown texts default is are =
    let own = c.args.rules.now in
    let i = c.loop-i.i in
    on_end shown texts default (drop i own) (drop_all i own (omega arith)) (c.loop-i.invariant.values shown texts default is are)
