use Rattle.std.proofs.Common.{◌≡◌, Err, List, refl, sym, subst, ap, ◌∙◌, [], ◌∷◌}
use Rattle.std.specs.Prelude.{All}
use Rattle.std.proofs.lemmas.List.Elements.{All-append}
use Rattle.state_api.specs.Given.{Gives, each}
use Rattle.state_api.proofs.Following.{joined, joined_start, joined_next, joined_stop, joined_end, all_one, all_none}
use Rattle.state_api.proofs.part.ask_all.Goals as goal

pub loop-part-init : goal.loop-part-init
loop-part-init g c = record {
  same = subst (λ a. joined a (each (g.P.Part.means c.args.prefix.now) c.args.parts) ≡ each (g.P.Part.means c.args.prefix.now) c.args.parts) (sym c.new-asked.ensures) (joined_start _);
  fine = subst (All (g.P.Part.fine c.args.prefix.now)) (sym c.new-asked.ensures) (all_none _);
}

pub loop-part-preserved : goal.loop-part-preserved
loop-part-preserved g c =
    let means = g.P.Part.means c.args.prefix.now in
    record {
      same = subst (λ a. joined a (each means c.take_first.new.self) ≡ each means c.args.parts) (sym c.in-Ok-push.ensures.ok)
          (sym (joined_next means c.loop-part.asked c.in-Some.part c.take_first.new.self c.in-Ok.one c.in-Ok.ensures.gives) ∙ ap (λ ps. joined c.loop-part.asked (each means ps)) (sym c.in-Some.ensures.first) ∙ c.loop-part.invariant.same);
      fine = subst (All (g.P.Part.fine c.args.prefix.now)) (sym c.in-Ok-push.ensures.ok) (All-append (g.P.Part.fine c.args.prefix.now) c.loop-part.asked (c.in-Ok.one ∷ []) c.loop-part.invariant.fine (all_one (g.P.Part.fine c.args.prefix.now) c.in-Ok.one c.in-Ok.ensures.fine));
    }

pub returns-in-Err-clause-gives : goal.returns-in-Err-clause-gives
returns-in-Err-clause-gives g c =
    let means = g.P.Part.means c.args.prefix.now in
    subst (Gives {A = List g.row.P-Asked.Denot} (Err c.in-Err.error)) (ap (λ ps. joined c.loop-part.asked (each means ps)) (sym c.in-Some.ensures.first) ∙ c.loop-part.invariant.same) (joined_stop means c.loop-part.asked c.in-Some.part c.take_first.new.self c.in-Err.error c.in-Err.ensures.gives)

pub returns-clause-gives : goal.returns-clause-gives
returns-clause-gives g c =
    let means = g.P.Part.means c.args.prefix.now in
    sym c.loop-part.invariant.same ∙ ap (λ ps. joined c.loop-part.asked (each means ps)) (c.in_default.ensures.none.0 refl) ∙ joined_end means c.loop-part.asked
