use Rattle.std.proofs.Common.{rules, true, subst, ◌≡◌, ◌||◌, ℕ, Bool, List, Option, Result, Ok, Err, IfOk, sym, ap, ◌∙◌}
use Rattle.side_world.specs.Told.{Took}
use Rattle.http_client.specs.Replies.{says_close}
use Rattle.http_client.specs.Taken.{is_interim, IsHead, IsFinal}
use Rattle.http_client.specs.declared.head.Head.{Head}
use Rattle.http_client.proofs.ReplyLemmas.{HeadsSoFar, one_more_head, final_head}
use Rattle.http_client.proofs.incoming.Incoming.take_final_head.Goals as goal

took_from : (read then now : Option (List ℕ)) (text : List ℕ) → read ≡ then → Took read now text → Took then now text
took_from read then now text same took = subst (λ (z : Option (List ℕ)). Took z now text) same took

ended : {E : Type 0} (closing : Bool) (first then read now : Option (List ℕ)) (head : Head) (result : Result Head E) → HeadsSoFar closing first then → read ≡ then
    → (text : List ℕ) → Took read now text → IsHead closing text head → IfOk result (λ (it : Head). it ≡ head)
    → IfOk result (λ (it : Head). (x : List ℕ) × Took first now x × IsFinal x it)
ended closing first then read now head (Ok it) so same text took is equal =
    final_head closing first then now text it so (took_from read then now text same took) (subst (λ (z : Head). IsHead closing text z) (sym equal) is)
ended closing first then read now head (Err e) so same text took is equal = tt

more : (closing closes : Bool) (first then read now : Option (List ℕ)) (head : Head) → HeadsSoFar closing first then → read ≡ then
    → (text : List ℕ) → Took read now text → IsHead closing text head → is_interim head.status ≡ true → closes ≡ (head.closing || says_close head.fields)
    → HeadsSoFar closes first now
more closing closes first then read now head so same text took is interim said =
    subst (λ (b : Bool). HeadsSoFar b first now) (sym said) (one_more_head closing first then now text head so (took_from read then now text same took) is interim)

pub returns-then-not-is_interim-clause-took : goal.returns-then-not-is_interim-clause-took
returns-then-not-is_interim-clause-took g c = ended _ _ _ _ _ _ _ c.loop.invariant.0 c.in_ok-spans.ensures.same _ c.in_ok-head.ensures.took.1 c.in_ok-head.ensures.took.2 c.known.ensures.same

pub loop-preserved : goal.loop-preserved
loop-preserved g c = (
  more _ _ _ _ _ _ _ c.loop.invariant.0 c.in_ok-spans.ensures.same _ c.in_ok-head.ensures.took.1 c.in_ok-head.ensures.took.2 (search rules) c.in_ok-closing.ensures.is,
  search rules,
)
