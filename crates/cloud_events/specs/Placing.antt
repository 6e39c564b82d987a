-- A member among others, in byte order of their names.
use Rattle.std.specs.Prelude.{◌+◌, List, [], ◌∷◌, ◌++◌, take, drop, is_some, if◌then◌else◌}
use Rattle.std.specs.Ordering.{nat_cmp}
use Rattle.std.specs.declared.cmp.Ordering.{Ordering}
use Rattle.std.specs.declared.cmp.Ordering.TheVariants.{Less, Equal, Greater}
use Rattle.std.specs.Cmp.Lexicographic.{slice_cmp}
use Rattle.cloud_events.specs.declared.item.Item.{Item}
use Rattle.cloud_events.specs.declared.placing.Place.{Place}
use Rattle.cloud_events.specs.Items.{item_in}

-- a member before, in place of, or somewhere behind the first one
abbrev pub placed : Ordering → Item → Item → List Item → List Item → List Item
placed Less item first rest later = item ∷ first ∷ rest
placed Equal item first rest later = item ∷ rest
placed Greater item first rest later = first ∷ later

-- a member, in place of the one that has its name
abbrev pub put : Item → List Item → List Item
put item [] = item ∷ []
put item (first ∷ rest) = placed (slice_cmp nat_cmp item.name first.name) item first rest (put item rest)

-- a member, unless one has its name
abbrev pub fill : List Item → Item → List Item
fill items item = if is_some (item_in item.name items) then items else put item items

-- a member at a place, in place of the one there if it is taken
abbrev pub put_at : Place → Item → List Item → List Item
put_at place item items = take place.at items ++ item ∷ drop (if place.taken then place.at + 1 else place.at) items
