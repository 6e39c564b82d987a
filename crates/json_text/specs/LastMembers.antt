-- The last member of each name of a map.
use Rattle.std.specs.Prelude.{◌≡◌, ◌<◌, ℕ, List, [], ◌∷◌, Bool, length, slice_index_or, map, if◌then◌else◌, Option, Some, None, IsTrue, ◌↔◌, cond, String}
use Rattle.std.specs.declared.alloc.Global.{Global}
use Rattle.std.specs.Str.{bytes_eq}
use Rattle.std.specs.Ordering.{nat_cmp}
use Rattle.std.specs.Cmp.Lexicographic.{slice_cmp}
use Rattle.std.specs.List.Sorted.{IsStrictlySortedBy}
use Rattle.std.specs.String.{string_bytes}
use Rattle.json_text.specs.declared.spot.Spot.{Spot}
use Rattle.json_text.specs.declared.doc.Doc.{Doc}
use Rattle.json_text.specs.declared.doc.Node.{Node}
use Rattle.json_text.specs.declared.last.Member.{Member}
use Rattle.json_text.specs.Forest.{Forest}
use Rattle.json_text.specs.Unescape.{HasName}
use Rattle.json_text.specs.Doc.{IsNode, IsLastNamed}

-- what a list of members has for a name
unfoldable pub named : List ℕ → List Member → Option Node
named name [] = None
named name (member ∷ members) = if bytes_eq name member.name then Some member.node else named name members

abbrev pub names_of : List Member → List (List ℕ)
names_of members = map (λ (member : Member). member.name) members

-- For each name the list has the last member of that name, and nothing where there is none; and names rise in byte order, so
-- that each stands once. All are values of the document.
pub record AreLastMembers (doc : Doc) (children : Forest) (members : List Member) : Type 0 where
  pub last : (name : List ℕ) → IsLastNamed doc name children (named name members)
  pub rise : IsStrictlySortedBy (slice_cmp nat_cmp) (names_of members)
  pub nodes : (k : ℕ) (some : Member) → k < length members → IsNode doc (slice_index_or members k some).node

-- the entries of a map from names to nodes, as members
abbrev pub member_of : String Global × Node → Member
member_of entry = record { name = string_bytes entry.0; node = entry.1 }

abbrev pub members_of : List (String Global × Node) → List Member
members_of entries = map member_of entries

-- a map from names has the node in place of what it had, exactly for the name of the value
abbrev pub Noted : List ℕ → Spot → List ℕ → Node → Option Node → Option Node → Type 0
Noted bytes spot name node before after = (is : Bool) × (IsTrue is ↔ HasName bytes spot name) × (after ≡ cond is (Some node) before)
