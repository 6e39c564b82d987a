use Rattle.std.proofs.Common.{◌≡◌, List, refl, ap, ◌∙◌, codes}
use Rattle.std.proofs.lemmas.Result.{on_ok_weaker}
use Rattle.cloud_events.specs.declared.item.Item.{Item}
use Rattle.cloud_events.specs.Event.{text_item}
use Rattle.cloud_events.specs.Placing.{fill}
use Rattle.cloud_events.proofs.complete.fill_own.Goals as goal

-- one more, which is the same as another
more : (before after held : List Item) (item other : Item) → after ≡ fill held item → held ≡ before → item ≡ other → after ≡ fill before other
more before after held item other e p q = e ∙ (λ i. fill (p i) (q i))

pub returns : goal.returns
returns c =
    on_ok_weaker c.fill_text-5.result (λ e. more _ _ _ _ _ e
    (more _ _ _ _ _ c.in_ok-fill_text-4.ensures
    (more _ _ _ _ _ c.in_ok-fill_text-3.ensures
    (more _ _ _ _ _ c.in_ok-fill_text-2.ensures
    (c.in_ok-fill_text.ensures ∙ ap (λ t. fill c.args.items.now.items (text_item (codes "id") t)) c.in_ok-copy.ensures)
    (ap (text_item (codes "source")) c.in_ok-copy-2.ensures))
    (ap (text_item (codes "specversion")) c.from_static.ensures)) refl)
    (ap (text_item (codes "type")) c.from_static-2.ensures)) c.fill_text-5.ensures
