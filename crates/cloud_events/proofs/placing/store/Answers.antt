use Rattle.std.proofs.Common.{◌≡◌, ◌<◌, ◌+◌, suc, ◌++◌, ◌∷◌, cond, length, take, drop, ap, sym, subst, ◌∙◌, arith}
use Rattle.std.specs.Bool.{OnTrue}
use Rattle.std.proofs.lemmas.List.{set_split}
use Rattle.cloud_events.proofs.placing.store.Goals as goal

pub returns-then-place : goal.returns-then-place
returns-then-place c =
    let items = c.args.items.now.items in
    let at = c.args.place.at in
    set_split items at c.args.item (subst (λ b. OnTrue b (at < length items)) c.if-place.true c.requires.taken)
    ∙ ap (λ n. take at items ++ c.args.item ∷ drop n items) (let e : suc at ≡ at + 1 = omega arith in e)
    ∙ ap (λ b. take at items ++ c.args.item ∷ drop (cond b (at + 1) at) items) (sym c.if-place.true)
