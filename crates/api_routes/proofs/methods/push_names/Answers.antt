use Rattle.std.proofs.Common.{◌≡◌, ◌∙◌, ◌+◌, List, ℕ, ◌++◌, take, codes, sym, ap, subst, arith}
use Rattle.api_routes.specs.declared.methods.TheConstants.{METHODS}
use Rattle.api_routes.proofs.Naming.{Named, named-more, named-skip}
use Rattle.api_routes.proofs.methods.push_names.Goals as goal
use Rattle.api_routes.proofs.methods.push_names.Goals.{then-has+in_ok-push+in_ok-push-2, else-has}

pub loop-method-preserved : goal.loop-method-preserved
loop-method-preserved c =
    let loop = c.loop-method in
    elim c.if-has.branch [
      | then-has+in_ok-push+in_ok-push-2 w ↦
          let out : w.push-then-has.new.self ≡ (loop.out ++ loop.separator.now) ++ w.method_name.result.now =
          w.in_ok-push-2.ensures.ok ∙ ap (λ (t : List ℕ). t ++ w.method_name.result.now) w.in_ok-push.ensures.ok in
          let P : List ℕ → Type 0 = λ t. Named c.args.methods (take (loop.method-index + 1) METHODS) c.args.out.now t (codes ", ") in
          rw (w.out-is, w.separator-is)
          (subst P (sym (out ∙ ap (λ (t : List ℕ). (loop.out ++ loop.separator.now) ++ t) w.method_name.ensures))
          (named-more c.args.methods METHODS loop.method-index _ _ _ _ (omega arith) loop.invariant (sym c.has.ensures ∙ w.if-has.true)))
      | else-has w ↦
          rw (w.out-is, w.separator-is)
          (named-skip c.args.methods METHODS loop.method-index _ _ _ _ (omega arith) loop.invariant (sym c.has.ensures ∙ w.if-has.false))
    ]
