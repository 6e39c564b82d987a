-- How the last members of a map are gathered.
use Rattle.std.specs.Prelude.{◌≡◌, ◌⊎◌, true, false, List, [], ◌∷◌, ◌++◌}
use Rattle.json_text.specs.declared.spot.Spot.{Spot}
use Rattle.json_text.specs.declared.doc.Doc.{Doc}
use Rattle.json_text.specs.declared.last.Member.{Member}
use Rattle.json_text.specs.Doc.{IsNode, bytes_read}
use Rattle.cloud_events.specs.declared.item.Item.{Item}
use Rattle.cloud_events.specs.Items.{item_at}
use Rattle.cloud_events.specs.Members.{IsAt, is_null}

-- all are nodes of the document
abbrev pub AllNodes : Doc → List Member → Type 0
AllNodes doc [] = Unit {0}
AllNodes doc (member ∷ members) = IsNode doc member.node × AllNodes doc members

abbrev pub IsNullMember : Doc → Member → Type 0
IsNullMember doc member = (spot : Spot) → IsAt doc member.node spot → is_null spot.kind ≡ true

-- the item is what the member is
abbrev pub IsItemOf : Doc → Member → Item → Type 0
IsItemOf doc member item =
    (item.name ≡ member.name) × ((spot : Spot) → IsAt doc member.node spot → (is_null spot.kind ≡ false) × (item ≡ item_at (bytes_read doc) member.name spot))

-- the items are those of the members that are not null, in order
pub data AreItems (doc : Doc) : List Member → List Item → Type 0 where
  end : AreItems doc [] []
  skips : {member : Member} {members : List Member} {items : List Item} → IsNullMember doc member → AreItems doc members items → AreItems doc (member ∷ members) items
  keeps : {member : Member} {members : List Member} {item : Item} {items : List Item} → IsItemOf doc member item → AreItems doc members items → AreItems doc (member ∷ members) (item ∷ items)

-- one more member
abbrev pub Adds : Doc → Member → List Item → List Item → Type 0
Adds doc member old new = (IsNullMember doc member × (new ≡ old)) ⊎ ((item : Item) × IsItemOf doc member item × (new ≡ old ++ item ∷ []))
