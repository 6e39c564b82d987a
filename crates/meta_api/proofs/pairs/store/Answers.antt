use Rattle.std.proofs.Common.{◌≡◌, ◌<◌, ◌+◌, suc, ◌++◌, ◌∷◌, cond, length, take, drop, ap, sym, subst, ◌∙◌, arith}
use Rattle.std.specs.Bool.{OnTrue}
use Rattle.std.proofs.lemmas.List.{set_split}
use Rattle.meta_api.proofs.pairs.store.Goals as goal

pub returns-then-place-clause-ok : goal.returns-then-place-clause-ok
returns-then-place-clause-ok c =
    let items = c.args.pairs.now.items in
    let at = c.args.place.at in
    set_split items at c.args.pair (subst (λ b. OnTrue b (at < length items)) c.if-place.true c.requires.taken)
    ∙ ap (λ n. take at items ++ c.args.pair ∷ drop n items) (let e : suc at ≡ at + 1 = omega arith in e)
    ∙ ap (λ b. take at items ++ c.args.pair ∷ drop (cond b (at + 1) at) items) (sym c.if-place.true)
