use Rattle.std.proofs.Common.{◌≡◌, ◌++◌, List, ℕ, ap, ◌∙◌, append_assoc, Result, Ok, Err, OnOk, length}
use Rattle.std.specs.Prelude.{decimal}
use Rattle.drill.specs.Requests.{post_front, line_end}
use Rattle.drill.proofs.writing.push_posted.Goals as goal

-- four pieces that were appended in turn are appended as one
appended : {A E : Type 0} (result : Result A E) (old front piece digits ends content o1 o2 o3 o4 : List ℕ) → piece ≡ digits → o1 ≡ old ++ front → o2 ≡ o1 ++ piece
    → o3 ≡ o2 ++ ends → OnOk result (o4 ≡ o3 ++ content) → OnOk result (o4 ≡ old ++ (front ++ digits ++ ends ++ content))
appended (Ok _) old front piece digits ends content o1 o2 o3 o4 same e1 e2 e3 e4 =
    e4 ∙ ap (λ o. o ++ content) (e3 ∙ ap (λ o. o ++ ends) (e2 ∙ ap (λ o. o ++ piece) e1)) ∙ ap (λ p. ((((old ++ front) ++ p) ++ ends) ++ content)) same ∙ simp append_assoc
appended (Err _) old front piece digits ends content o1 o2 o3 o4 same e1 e2 e3 e4 = tt

pub returns : goal.returns
returns c = appended c.push-4.result c.args.out.now post_front c.as_bytes.result.now (decimal (length c.args.content.now)) (line_end ++ line_end) c.args.content.now _ _ _ _
    (c.as_bytes.ensures.value ∙ c.format.ensures.text) c.in_ok-push.ensures.ok c.in_ok-push-2.ensures.ok c.in_ok-push-3.ensures.ok c.push-4.ensures.ok
