use Rattle.std.proofs.Common.{◌∷◌, ◌++◌, [], sym, ap, ◌∙◌, append_assoc}
use Rattle.std.proofs.lemmas.List.{map-append}
use Rattle.std.proofs.lemmas.List.Elements.{All-same, All-push}
use Rattle.keeper_core.specs.Prepared.{change_of, changes_of, IsReady}
use Rattle.keeper_core.proofs.prepared.Prepared.new.Goals as goal

pub loop-change-preserved : goal.loop-change-preserved
loop-change-preserved c = record {
  whole = ap (λ steps. changes_of steps ++ c.take_first.new.self) c.in_ok-push.ensures.ok
      ∙ ap (λ changes. changes ++ c.take_first.new.self) (map-append change_of c.loop-change.steps (c.in_ok-step_of.field-0 ∷ []))
      ∙ append_assoc (changes_of c.loop-change.steps) (change_of c.in_ok-step_of.field-0 ∷ []) c.take_first.new.self
      ∙ ap (λ change. changes_of c.loop-change.steps ++ change ∷ c.take_first.new.self) c.in_ok-step_of.ensures.change
      ∙ ap (λ list. changes_of c.loop-change.steps ++ list) (sym c.in-Some.ensures.first)
      ∙ c.loop-change.invariant.whole;
  ready = All-same IsReady _ _ c.in_ok-push.ensures.ok (All-push IsReady _ _ c.loop-change.invariant.ready c.in_ok-step_of.ensures.ready);
}
