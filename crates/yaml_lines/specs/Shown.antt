-- What a reader holds, as contracts see it.
use Rattle.std.specs.Prelude.{map}
use Rattle.yaml_lines.specs.declared.value.Item.{Item}
use Rattle.yaml_lines.specs.declared.value.Leaf.{Leaf as LeafHeld}
use Rattle.yaml_lines.specs.declared.value.Spelled.{Spelled as SpelledHeld}
use Rattle.yaml_lines.specs.declared.value.Spelled.TheVariants as held
use Rattle.yaml_lines.specs.Leaf.{Scalar, Leaf}
use Rattle.yaml_lines.specs.LineParts.{Spelled, good, left_out, wrong}

abbrev pub item_shown : Item → Scalar
item_shown item = record { kind = item.kind; text = item.text.items }

abbrev pub leaf_shown : LeafHeld → Leaf
leaf_shown leaf = record { kind = leaf.kind; text = leaf.text.items; items = map item_shown leaf.items.items; plain = leaf.plain }

abbrev pub spelled_shown : {A B : Type 0} → (A → B) → SpelledHeld A → Spelled B
spelled_shown f (held.Good x) = good (f x)
spelled_shown f (held.LeftOut byte) = left_out byte
spelled_shown f (held.Wrong counts) = wrong counts
