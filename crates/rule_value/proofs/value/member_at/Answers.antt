use Rattle.std.proofs.Common.{rules, ◌≡◌, ◌∙◌, ap, sym, subst, refl, ◌+◌, List, ℕ, ◌∷◌, drop, Some, IfSome, arith}
use Rattle.std.proofs.lemmas.List.{drop_more, drop_all}
use Rattle.json_text.specs.Forest.{grows}
use Rattle.json_text.specs.Doc.{IsNode}
use Rattle.rule_value.specs.Values.{found_at, member_at}
use Rattle.rule_value.specs.Standing.{IsFound}
use Rattle.rule_value.proofs.Membership.{found_some, found_none}
use Rattle.rule_value.proofs.value.member_at.Goals as goal

pub loop-i-init : goal.loop-i-init
loop-i-init c = record {
  node = c.root-node.ensures.node;
  found = λ event is. (grows is.spot is.children is.later, record { inside = c.root-node.ensures.node; spot = is.spot; children = is.children; later = is.later; are = refl; stands = is.stands c.root-node.result c.root-node.ensures.first }, ap (λ own. found_at event.bytes (Some own) c.args.path.now) (sym is.values));
}

pub loop-i-preserved : goal.loop-i-preserved
loop-i-preserved c =
    let path = c.args.path.now in
    let i = c.loop-i.i in
    let name : List ℕ = c.bytes.result.now in
    let at : drop i path ≡ name ∷ drop (i + 1) path = drop_more path i name (omega arith) ∙ ap (λ x. x ∷ drop (i + 1) path) (search rules) in
    record {
      node = subst (λ own. IfSome own (IsNode c.args.doc.now)) c.in-Some.is c.member.ensures.node;
      found = λ event is. (let before = c.loop-i.invariant.found event is in
          found_some c.args.doc.now event c.loop-i.node before.0 name (drop (i + 1) path) c.member.result (member_at event path) is.bytes before.1 c.member.ensures.node c.member.ensures.last (ap (found_at event.bytes (Some before.0)) (sym at) ∙ before.2) c.in-Some.found c.in-Some.is);
    }

pub returns-in-None-clause-found : goal.returns-in-None-clause-found
returns-in-None-clause-found c =
    let path = c.args.path.now in
    let i = c.loop-i.i in
    let name : List ℕ = c.bytes.result.now in
    let at : drop i path ≡ name ∷ drop (i + 1) path = drop_more path i name (omega arith) ∙ ap (λ x. x ∷ drop (i + 1) path) (search rules) in
    λ event is. (let before = c.loop-i.invariant.found event is in
    found_none c.args.doc.now event c.loop-i.node before.0 name (drop (i + 1) path) c.member.result (member_at event path) is.bytes before.1 c.member.ensures.node c.member.ensures.last (ap (found_at event.bytes (Some before.0)) (sym at) ∙ before.2) c.in-None.is)

pub returns-clause-found : goal.returns-clause-found
returns-clause-found c =
    λ event is. (let before = c.loop-i.invariant.found event is in
    let done : Some before.0 ≡ member_at event c.args.path.now = ap (found_at event.bytes (Some before.0)) (sym (drop_all c.loop-i.i c.args.path.now (omega arith))) ∙ before.2 in
    subst (IsFound c.args.doc.now (Some c.loop-i.node)) done before.1)
