use Rattle.std.proofs.Common.{rules, ◌∙◌, ap, sym, subst, refl, length, arith, true}
use Rattle.std.proofs.lemmas.List.{append-nil}
use Rattle.rule_value.specs.declared.part.Part.TheVariants as parts
use Rattle.rule_expr.specs.Parts.{part_at}
use Rattle.rule_value.specs.Trees
use Rattle.rule_expr.specs.Reading.{Reads}
use Rattle.rule_expr.specs.Places.{operand, open_list}
use Rattle.rule_expr.specs.Walking.{Halts, HaltsOperand, HaltsItems, HaltsRound, WalksAtom, Went, WentItems, IsRelationOver, IsAndOver, IsOrOver, is_named_call}
use Rattle.rule_expr.proofs.Producing.{not_end, nothing, bangs_more, and_more, or_more, item_more, post_more, list_some}
use Rattle.rule_expr.proofs.Walking.{at_exit, put_atom, put_went, and_halts, and_again, or_halts, or_again, items_halts, items_again, list_unopened, list_halts, empty_ok, list_ok, list_err, test_halts, in_halts, rel_tested, rel_listed, round_unopened, round_halts, round_ok, round_err}
use Rattle.rule_expr.proofs.WalkingOperands.{no_bangs, bang_more, bangs_before, bangs_halts, text_walk, text_halts, group_ok, group_err, number_walk, true_walk, false_walk, null_walk, int_walk, int_halts, in_refused, call_refused, other_refused, atom_refused, post_again, post_halts, post_over, post_uncalled, not_begun, not_call, not_called}
use Rattle.rule_expr.proofs.parser.Parser.+grammar.Goals as goal

pub both-loop-self-smaller : goal.both-loop-self-smaller
both-loop-self-smaller t c = omega (arith, c.pass.ensures.shorter (not_end c.loop-self.self.rest.now parts.Both (sym c.part.ensures ∙ c.in-Both.is) refl), c.in_ok-relation-2.ensures.ok.shorter, ap length c.put.ensures.rest)

pub either-loop-self-smaller : goal.either-loop-self-smaller
either-loop-self-smaller t c = omega (arith, c.pass.ensures.shorter (not_end c.loop-self.self.rest.now parts.Either (sym c.part.ensures ∙ c.in-Either.is) refl), c.in_ok-both-2.ensures.ok.shorter, ap length c.put.ensures.rest)

pub items-loop-self-smaller : goal.items-loop-self-smaller
items-loop-self-smaller t c = omega (arith, c.pass.ensures.shorter (not_end c.loop-self.self.rest.now parts.Comma (sym c.part.ensures ∙ c.in-Comma.is) refl), c.in_ok-either-2.ensures.ok.shorter, ap length c.put-in-Comma.ensures.rest)

pub unary-loop-self-init : goal.unary-loop-self-init
unary-loop-self-init t c = record { passes = nothing c.args.self.now.rest.now; ops = refl; few = omega arith; walk = no_bangs c.args.self.now.rest.now }

pub unary-loop-self-smaller : goal.unary-loop-self-smaller
unary-loop-self-smaller t c = c.pass.ensures.shorter (not_end c.loop-self.self.rest.now parts.Bang (sym c.part.ensures ∙ c.in-Bang.is) refl)

pub unary-loop-self-preserved : goal.unary-loop-self-preserved
unary-loop-self-preserved t c = record {
  passes = bangs_more c.loop-self.count c.loop-self.invariant.passes (sym c.part.ensures ∙ c.in-Bang.is) c.pass.ensures.rest c.pass.ensures.most;
  ops = c.pass.ensures.ops ∙ c.loop-self.invariant.ops;
  few = omega (arith, c.pass.ensures.shorter (not_end c.loop-self.self.rest.now parts.Bang (sym c.part.ensures ∙ c.in-Bang.is) refl), c.loop-self.invariant.few);
  walk = bang_more c.loop-self.invariant.walk (sym c.part.ensures ∙ c.in-Bang.is) c.pass.ensures.rest;
}

pub atom-returns-in_err-text-in-Quote-clause-err : goal.atom-returns-in_err-text-in-Quote-clause-err
atom-returns-in_err-text-in-Quote-clause-err t c = at_exit (HaltsOperand c.args.room c.args.self.now.rest.now) c.from_residual.result c.in_err-text-in-Quote.field-0.0 c.from_residual.ensures.1 (text_halts (sym c.part.ensures ∙ c.in-Quote.is) c.in_err-text-in-Quote.ensures.err)

pub atom-returns-in-Open-clause-walk : goal.atom-returns-in-Open-clause-walk
atom-returns-in-Open-clause-walk t c = group_ok c.round.result c.args.room c.args.self.now.rest.now c.round.new.self.rest.now (sym c.part.ensures ∙ c.in-Open.is) c.round.ensures.walk

pub atom-returns-in-Open-clause-err : goal.atom-returns-in-Open-clause-err
atom-returns-in-Open-clause-err t c = group_err c.round.result c.args.room c.args.self.now.rest.now (sym c.part.ensures ∙ c.in-Open.is) c.round.ensures.err

pub atom-returns-in_ok-text-in-Quote-clause-walk : goal.atom-returns-in_ok-text-in-Quote-clause-walk
atom-returns-in_ok-text-in-Quote-clause-walk t c = put_atom c.put.result c.put.ensures.rest (text_walk _ c.in_ok-text-in-Quote.ensures.ok.leads)

pub atom-returns-in-Number-clause-walk : goal.atom-returns-in-Number-clause-walk
atom-returns-in-Number-clause-walk t c = put_atom c.word.result refl (number_walk c.in-Number.whole (sym c.part.ensures ∙ c.in-Number.is) c.word.ensures.rest)

pub atom-returns-in_default : goal.atom-returns-in_default
atom-returns-in_default t c = record { ok = tt; walk = tt; err = atom_refused (not_begun (part_at c.args.self.now.rest.now) c.requires (λ bad. c.in_default.not-Open (c.part.ensures ∙ bad)) (λ bad. c.in_default.not-Quote (c.part.ensures ∙ bad)) (λ number bad. c.in_default.not-Number number (c.part.ensures ∙ bad)) (λ word bad. c.in_default.not-Named word (c.part.ensures ∙ bad))) c.refused.ensures }

pub both-returns-in_err-relation-2-clause-err : goal.both-returns-in_err-relation-2-clause-err
both-returns-in_err-relation-2-clause-err t c = at_exit (Halts c.args.room (operand true) c.args.self.now.rest.now) c.from_residual-in_err-relation-2.result c.in_err-relation-2.field-0.0 c.from_residual-in_err-relation-2.ensures.1 (and_halts c.loop-self.invariant.walk (sym c.part.ensures ∙ c.in-Both.is) c.pass.ensures.rest c.in_err-relation-2.ensures.err)

pub both-loop-self-preserved : goal.both-loop-self-preserved
both-loop-self-preserved t c = record { read = grind (arith, and_more); walk = subst (λ own. Went IsRelationOver c.args.room c.args.self.now.rest.now own) (sym c.put.ensures.rest) (and_again c.loop-self.invariant.walk (sym c.part.ensures ∙ c.in-Both.is) c.pass.ensures.rest c.in_ok-relation-2.ensures.walk) }

pub either-returns-in_err-both-2-clause-err : goal.either-returns-in_err-both-2-clause-err
either-returns-in_err-both-2-clause-err t c = at_exit (Halts c.args.room (operand true) c.args.self.now.rest.now) c.from_residual-in_err-both-2.result c.in_err-both-2.field-0.0 c.from_residual-in_err-both-2.ensures.1 (or_halts c.loop-self.invariant.walk (sym c.part.ensures ∙ c.in-Either.is) c.pass.ensures.rest c.in_err-both-2.ensures.err)

pub either-loop-self-preserved : goal.either-loop-self-preserved
either-loop-self-preserved t c = record { read = grind (arith, or_more); walk = subst (λ own. Went IsAndOver c.args.room c.args.self.now.rest.now own) (sym c.put.ensures.rest) (or_again c.loop-self.invariant.walk (sym c.part.ensures ∙ c.in-Either.is) c.pass.ensures.rest c.in_ok-both-2.ensures.walk) }

pub items-returns-in_err-either-2-clause-err : goal.items-returns-in_err-either-2-clause-err
items-returns-in_err-either-2-clause-err t c = at_exit (HaltsItems c.args.room c.args.self.now.rest.now) c.from_residual-in_err-either-2.result c.in_err-either-2.field-0.0 c.from_residual-in_err-either-2.ensures.1 (items_halts c.loop-self.invariant.walk (sym c.part.ensures ∙ c.in-Comma.is) c.pass.ensures.rest c.in_err-either-2.ensures.err)

pub items-loop-self-preserved : goal.items-loop-self-preserved
items-loop-self-preserved t c = record { read = grind (arith, item_more); walk = subst (λ own. WentItems IsOrOver c.args.room c.args.self.now.rest.now own) (sym c.put-in-Comma.ensures.rest) (items_again c.loop-self.invariant.walk (sym c.part.ensures ∙ c.in-Comma.is) c.pass.ensures.rest c.in_ok-either-2.ensures.walk) }

pub list-returns-in_err-open_square-clause-err : goal.list-returns-in_err-open_square-clause-err
list-returns-in_err-open_square-clause-err t c = at_exit (Halts c.args.room open_list c.args.self.now.rest.now) c.from_residual.result c.in_err-open_square.field-0.0 c.from_residual.ensures.1 (list_unopened c.in_err-open_square.ensures.err)

pub list-returns-in_err-items-in_default : goal.list-returns-in_err-items-in_default
list-returns-in_err-items-in_default t c = record { ok = search rules; walk = search rules; err = at_exit (Halts c.args.room open_list c.args.self.now.rest.now) c.from_residual-in_err-items-in_default.result c.in_err-items-in_default.field-0.0 c.from_residual-in_err-items-in_default.ensures.1 (list_halts c.in_ok-open_square.ensures.ok.leads c.in_ok-open_square.ensures.room (λ bad. c.in_default.not-CloseList (c.part.ensures ∙ bad)) (omega (arith, c.in_ok-open_square.ensures.room)) c.in_err-items-in_default.ensures.err) }

pub list-returns-in-CloseList-clause-walk : goal.list-returns-in-CloseList-clause-walk
list-returns-in-CloseList-clause-walk t c = empty_ok c.close_square.result c.close_square.new.self.rest.now c.in_ok-open_square.ensures.ok.leads c.in_ok-open_square.ensures.room c.close_square.ensures.ok

pub list-returns-in_ok-items-in_default : goal.list-returns-in_ok-items-in_default
list-returns-in_ok-items-in_default t c = record { ok = grind (arith, list_some); walk = list_ok c.close_square-in_default.result c.close_square-in_default.new.self.rest.now c.in_ok-open_square.ensures.ok.leads c.in_ok-open_square.ensures.room (λ bad. c.in_default.not-CloseList (c.part.ensures ∙ bad)) (omega (arith, c.in_ok-open_square.ensures.room)) c.in_ok-items-in_default.ensures.walk c.close_square-in_default.ensures.ok; err = list_err c.close_square-in_default.result c.in_ok-open_square.ensures.ok.leads c.in_ok-open_square.ensures.room (λ bad. c.in_default.not-CloseList (c.part.ensures ∙ bad)) (omega (arith, c.in_ok-open_square.ensures.room)) c.in_ok-items-in_default.ensures.walk c.close_square-in_default.ensures.err }

pub named-returns-in_err-round-in-Int-clause-err : goal.named-returns-in_err-round-in-Int-clause-err
named-returns-in_err-round-in-Int-clause-err t c = at_exit (HaltsOperand c.args.room c.args.self.now.rest.now) c.from_residual.result c.in_err-round-in-Int.field-0.0 c.from_residual.ensures.1 (int_halts (c.requires ∙ ap (λ own. parts.Named own) c.in-Int.is) c.pass.ensures.rest c.in_err-round-in-Int.ensures.err)

pub named-returns-in-True-clause-walk : goal.named-returns-in-True-clause-walk
named-returns-in-True-clause-walk t c = put_atom c.word.result refl (true_walk (c.requires ∙ ap (λ own. parts.Named own) c.in-True.is) c.word.ensures.rest)

pub named-returns-in-False-clause-walk : goal.named-returns-in-False-clause-walk
named-returns-in-False-clause-walk t c = put_atom c.word-in-False.result refl (false_walk (c.requires ∙ ap (λ own. parts.Named own) c.in-False.is) c.word-in-False.ensures.rest)

pub named-returns-in-Null-clause-walk : goal.named-returns-in-Null-clause-walk
named-returns-in-Null-clause-walk t c = put_atom c.word-in-Null.result refl (null_walk (c.requires ∙ ap (λ own. parts.Named own) c.in-Null.is) c.word-in-Null.ensures.rest)

pub named-returns-in_ok-round-in-Int-clause-walk : goal.named-returns-in_ok-round-in-Int-clause-walk
named-returns-in_ok-round-in-Int-clause-walk t c = put_atom c.put.result c.put.ensures.rest (int_walk (c.requires ∙ ap (λ own. parts.Named own) c.in-Int.is) c.pass.ensures.rest c.in_ok-round-in-Int.ensures.walk)

pub named-returns-in-In-clause-err : goal.named-returns-in-In-clause-err
named-returns-in-In-clause-err t c = in_refused (c.requires ∙ ap (λ own. parts.Named own) c.in-In.is) c.refused.ensures

pub named-returns-in-Call-clause-err : goal.named-returns-in-Call-clause-err
named-returns-in-Call-clause-err t c = call_refused _ (c.requires ∙ ap (λ own. parts.Named own) c.in-Call.is) c.refused-in-Call.ensures

pub named-returns-in-Other-clause-err : goal.named-returns-in-Other-clause-err
named-returns-in-Other-clause-err t c = other_refused (c.requires ∙ ap (λ own. parts.Named own) c.in-Other.is) c.refused-in-Other.ensures

pub post-returns-in_err-round-in-Call-clause-err : goal.post-returns-in_err-round-in-Call-clause-err
post-returns-in_err-round-in-Call-clause-err t c = at_exit (HaltsOperand c.args.room c.args.self.now.rest.now) c.from_residual-in_err-round-in-Call.result c.in_err-round-in-Call.field-0.0 c.from_residual-in_err-round-in-Call.ensures.1 (post_halts _ c.loop-self.invariant.walk (sym c.part.ensures ∙ c.in-Dot.is) c.pass.ensures.rest (sym c.part-in-Dot.ensures ∙ c.in-Named.is ∙ ap (λ own. parts.Named own) c.in-Call.is) c.pass-in-Call.ensures.rest c.in_err-round-in-Call.ensures.err)

pub post-loop-self-preserved : goal.post-loop-self-preserved
post-loop-self-preserved t c = record { read = grind (arith, post_more); walk = subst (λ own. WalksAtom c.args.room c.args.self.now.rest.now own) (sym c.put.ensures.rest) (post_again _ c.loop-self.invariant.walk (sym c.part.ensures ∙ c.in-Dot.is) c.pass.ensures.rest (sym c.part-in-Dot.ensures ∙ c.in-Named.is ∙ ap (λ own. parts.Named own) c.in-Call.is) c.pass-in-Call.ensures.rest c.in_ok-round-in-Call.ensures.walk) }

pub post-returns-in_default-word : goal.post-returns-in_default-word
post-returns-in_default-word t c = record { ok = tt; walk = tt; err = post_uncalled c.loop-self.invariant.walk (sym c.part.ensures ∙ c.in-Dot.is) c.pass.ensures.rest (ap is_named_call (sym c.part-in-Dot.ensures ∙ c.in-Named.is) ∙ not_call c.in-Named.word c.in_default-word.not-Call) c.refused.ensures }

pub post-returns-in_default-part : goal.post-returns-in_default-part
post-returns-in_default-part t c = record { ok = tt; walk = tt; err = post_uncalled c.loop-self.invariant.walk (sym c.part.ensures ∙ c.in-Dot.is) c.pass.ensures.rest (ap is_named_call (sym c.part-in-Dot.ensures) ∙ not_called c.part-in-Dot.result c.in_default-part.not-Named) c.refused-in_default-part.ensures }

pub post-returns : goal.post-returns
post-returns t c = record { ok = c.loop-self.invariant.read; walk = post_over c.loop-self.invariant.walk (λ bad. c.in_default.not-Dot (c.part.ensures ∙ bad)); err = tt }

pub relation-returns-in_err-unary-in-Test-clause-err : goal.relation-returns-in_err-unary-in-Test-clause-err
relation-returns-in_err-unary-in-Test-clause-err t c = at_exit (Halts c.args.room (operand true) c.args.self.now.rest.now) c.from_residual-in_err-unary-in-Test.result c.in_err-unary-in-Test.field-0.0 c.from_residual-in_err-unary-in-Test.ensures.1 (test_halts _ c.in_ok-unary.ensures.walk (sym c.part.ensures ∙ c.in-Test.is) c.pass.ensures.rest c.in_err-unary-in-Test.ensures.err)

pub relation-returns-in_err-list-in-In-clause-err : goal.relation-returns-in_err-list-in-In-clause-err
relation-returns-in_err-list-in-In-clause-err t c = at_exit (Halts c.args.room (operand true) c.args.self.now.rest.now) c.from_residual-in_err-list-in-In.result c.in_err-list-in-In.field-0.0 c.from_residual-in_err-list-in-In.ensures.1 (in_halts c.in_ok-unary.ensures.walk (sym c.part.ensures ∙ c.in-Named.is ∙ ap (λ own. parts.Named own) c.in-In.is) c.word.ensures.rest c.in_err-list-in-In.ensures.err)

pub relation-returns-in_ok-unary-in-Test-clause-walk : goal.relation-returns-in_ok-unary-in-Test-clause-walk
relation-returns-in_ok-unary-in-Test-clause-walk t c = put_went c.put.result c.put.ensures.rest (rel_tested _ c.in_ok-unary.ensures.walk (sym c.part.ensures ∙ c.in-Test.is) c.pass.ensures.rest c.in_ok-unary-in-Test.ensures.walk)

pub relation-returns-in_ok-list-in-In-clause-walk : goal.relation-returns-in_ok-list-in-In-clause-walk
relation-returns-in_ok-list-in-In-clause-walk t c = put_went c.put-in-In.result c.put-in-In.ensures.rest (rel_listed c.in_ok-unary.ensures.walk (sym c.part.ensures ∙ c.in-Named.is ∙ ap (λ own. parts.Named own) c.in-In.is) c.word.ensures.rest c.in_ok-list-in-In.ensures.walk)

pub round-returns-in_err-open_round-clause-err : goal.round-returns-in_err-open_round-clause-err
round-returns-in_err-open_round-clause-err t c = at_exit (HaltsRound c.args.room c.args.self.now.rest.now) c.from_residual.result c.in_err-open_round.field-0.0 c.from_residual.ensures.1 (round_unopened c.in_err-open_round.ensures.err)

pub round-returns-in_err-either-clause-err : goal.round-returns-in_err-either-clause-err
round-returns-in_err-either-clause-err t c = at_exit (HaltsRound c.args.room c.args.self.now.rest.now) c.from_residual-in_err-either.result c.in_err-either.field-0.0 c.from_residual-in_err-either.ensures.1 (round_halts c.in_ok-open_round.ensures.ok.leads c.in_ok-open_round.ensures.room (omega (arith, c.in_ok-open_round.ensures.room)) c.in_err-either.ensures.err)

pub round-returns-clause-walk : goal.round-returns-clause-walk
round-returns-clause-walk t c = round_ok c.close_round.result c.close_round.new.self.rest.now c.in_ok-open_round.ensures.ok.leads c.in_ok-open_round.ensures.room (omega (arith, c.in_ok-open_round.ensures.room)) c.in_ok-either.ensures.walk c.close_round.ensures.ok

pub round-returns-clause-err : goal.round-returns-clause-err
round-returns-clause-err t c = round_err c.close_round.result c.in_ok-open_round.ensures.ok.leads c.in_ok-open_round.ensures.room (omega (arith, c.in_ok-open_round.ensures.room)) c.in_ok-either.ensures.walk c.close_round.ensures.err

pub unary-returns-in_err-post : goal.unary-returns-in_err-post
unary-returns-in_err-post t c = record { ok = search rules; walk = search rules; err = at_exit (HaltsOperand c.args.room c.args.self.now.rest.now) c.from_residual.result c.in_err-post.field-0.0 c.from_residual.ensures.1 (bangs_halts c.loop-self.invariant.walk c.in_err-post.ensures.err) }

pub unary-loop-init : goal.unary-loop-init
unary-loop-init t c = record { middle = c.loop-self.self.rest.now; begun = c.post.new.self.ops.items; passes = c.loop-self.invariant.passes; read = subst (λ own. Reads Trees.post c.args.room c.loop-self.self.rest.now c.post.new.self.rest.now own c.post.new.self.ops.items) c.loop-self.invariant.ops c.in_ok-post.ensures.ok; steps = sym (append-nil c.post.new.self.ops.items); walk = bangs_before c.loop-self.invariant.walk c.in_ok-post.ensures.walk }
