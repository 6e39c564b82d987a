-- The value of a rule over an event, by its structure.
use Rattle.std.specs.Prelude.{ℕ, ◌-◌, Bool, true, false, ◌&&◌, ◌||◌, not, nat_eq, nat_le, nat_lt, if◌then◌else◌, List, [], ◌∷◌, length, drop, Option, Some, None, is_some}
use Rattle.std.specs.List.{starts_with}
use Rattle.std.specs.Str.{bytes_eq}
use Rattle.json_text.specs.Kind.{Kind}
use Rattle.json_text.specs.Kind.TheVariants as kinds
use Rattle.json_text.specs.declared.spot.Spot.{Spot}
use Rattle.json_text.specs.Forest.{Forest, empty, grows}
use Rattle.json_text.specs.Unescape.{text_shown, name_shown}
use Rattle.json_text.specs.Shape.{value_bytes}
use Rattle.rule_value.specs.declared.part.Call.{Call}
use Rattle.rule_value.specs.declared.part.Call.TheVariants.{StartsWith, EndsWith, Contains}
use Rattle.rule_value.specs.declared.part.Relation.{Relation}
use Rattle.rule_value.specs.declared.part.Relation.TheVariants.{Equal, Unlike, AtMost, Below, AtLeast, Above}
use Rattle.rule_value.specs.declared.part.Whole.{Whole}
use Rattle.rule_value.specs.declared.truth.Truth.{Truth}
use Rattle.rule_value.specs.declared.truth.Truth.TheVariants as truths
use Rattle.rule_value.specs.Wholes.{is_less, whole_of}
use Rattle.rule_value.specs.Trees as trees
use Rattle.rule_value.specs.Trees.{Level, Tree, Step}

-- what a rule computes with: `other` is a list, a map, or a number that is no whole one within 64 bits
pub data Value : Type 0 where
  text : List ℕ → Value
  number : Whole → Value
  flag : Bool → Value
  null : Value
  other : Value
  error : Value

-- the value has this name among the members of a map
abbrev pub is_named : List ℕ → List ℕ → Spot → Bool
is_named bytes wanted spot = is_some spot.name && bytes_eq (name_shown bytes spot) wanted

abbrev pub or_else : Option Forest → Option Forest → Option Forest
or_else (Some found) before = Some found
or_else None before = before

-- the last of these values that has the name, with those behind it
unfoldable pub last_named : List ℕ → List ℕ → Forest → Option Forest
last_named bytes wanted empty = None
last_named bytes wanted (grows spot children later) =
    or_else (last_named bytes wanted later) (if is_named bytes wanted spot then Some (grows spot children later) else None)

-- what the first of these values holds
abbrev pub held : Forest → Forest
held empty = empty
held (grows spot children later) = children

-- the member that names lead to, one inside the other; of members of one name the last
abbrev pub found_at : List ℕ → Option Forest → List (List ℕ) → Option Forest
found_at bytes None names = None
found_at bytes (Some values) [] = Some values
found_at bytes (Some values) (wanted ∷ names) = found_at bytes (last_named bytes wanted (held values)) names

abbrev pub number_or_other : Option Whole → Value
number_or_other (Some whole) = number whole
number_or_other None = other

-- a number of the event is a whole one where it has neither fraction nor exponent and is within 64 bits
abbrev pub value_as : List ℕ → Spot → Kind → Value
value_as bytes spot kinds.Null = null
value_as bytes spot (kinds.Flag on) = flag on
value_as bytes spot kinds.Number = number_or_other (whole_of (value_bytes bytes spot))
value_as bytes spot kinds.Text = text (text_shown bytes spot)
value_as bytes spot kinds.List = other
value_as bytes spot kinds.Map = other

-- a member that isn't there is an error
abbrev pub value_found : List ℕ → Option Forest → Value
value_found bytes None = error
value_found bytes (Some empty) = error
value_found bytes (Some (grows spot children later)) = value_as bytes spot spot.kind

-- an event: its bytes, and its values
pub record Event : Type 0 where
  pub bytes : List ℕ
  pub values : Forest

abbrev pub names_of : List Step → List (List ℕ)
names_of [] = []
names_of (trees.dotted letters ∷ steps) = letters ∷ names_of steps
names_of (trees.quoted held ∷ steps) = held ∷ names_of steps

abbrev pub member_at : Event → List (List ℕ) → Option Forest
member_at event names = found_at event.bytes (Some event.values) names

abbrev pub value_at : Event → List (List ℕ) → Value
value_at event names = value_found event.bytes (member_at event names)

-- the truth value that it is, if it is one
abbrev pub flag_in : Value → Option Bool
flag_in (flag on) = Some on
flag_in value = None

-- none stands for an error
abbrev pub flag_or_error : Option Bool → Value
flag_or_error (Some on) = flag on
flag_or_error None = error

-- `&&`: false on either side makes it false; otherwise what is no truth value makes an error
abbrev pub both : Option Bool → Option Bool → Option Bool
both (Some false) b = Some false
both (Some true) (Some on) = Some on
both (Some true) None = None
both None (Some false) = Some false
both None (Some true) = None
both None None = None

-- `||`: true on either side makes it true; otherwise what is no truth value makes an error
abbrev pub either : Option Bool → Option Bool → Option Bool
either (Some true) b = Some true
either (Some false) (Some on) = Some on
either (Some false) None = None
either None (Some true) = Some true
either None (Some false) = None
either None None = None

abbrev pub negated : Option Bool → Option Bool
negated (Some on) = Some (not on)
negated None = None

-- one number is another
abbrev pub is_same : Whole → Whole → Bool
is_same one second = not (is_less one second) && not (is_less second one)

abbrev pub is_same_flag : Bool → Bool → Bool
is_same_flag true on = on
is_same_flag false on = not on

-- a text comes before another by its bytes
abbrev pub comes_before : List ℕ → List ℕ → Bool
comes_before [] [] = false
comes_before [] (b ∷ bs) = true
comes_before (a ∷ rest) [] = false
comes_before (a ∷ rest) (b ∷ bs) = if nat_lt a b then true else (if nat_lt b a then false else comes_before rest bs)

-- an equality with what is neither other nor an error holds, fails, or is an error where this is
abbrev pub unless_error : Value → Option Bool
unless_error other = None
unless_error error = None
unless_error value = Some false

-- `==`: two kinds are unequal; on other and on an error it is an error
abbrev pub equal : Value → Value → Option Bool
equal other b = None
equal error b = None
equal (text a) (text b) = Some (bytes_eq a b)
equal (text a) b = unless_error b
equal (number a) (number b) = Some (is_same a b)
equal (number a) b = unless_error b
equal (flag a) (flag b) = Some (is_same_flag a b)
equal (flag a) b = unless_error b
equal null null = Some true
equal null b = unless_error b

-- `<`: two numbers or two texts have an order
abbrev pub below : Value → Value → Option Bool
below (number a) (number b) = Some (is_less a b)
below (text a) (text b) = Some (comes_before a b)
below a b = None

abbrev pub compared : Relation → Value → Value → Option Bool
compared Equal a b = equal a b
compared Unlike a b = negated (equal a b)
compared Below a b = below a b
compared AtLeast a b = negated (below a b)
compared Above a b = below b a
compared AtMost a b = negated (below b a)

abbrev pub number_or_error : Option Whole → Value
number_or_error (Some whole) = number whole
number_or_error None = error

abbrev pub as_number : Value → Value
as_number (number whole) = number whole
as_number (text held) = number_or_error (whole_of held)
as_number a = error

-- a text ends with another
abbrev pub ends_with : List ℕ → List ℕ → Bool
ends_with all end = nat_le (length end) (length all) && bytes_eq (drop (length all - length end) all) end

-- another stands somewhere in a text
abbrev pub is_inside : List ℕ → List ℕ → Bool
is_inside [] inner = starts_with nat_eq [] inner
is_inside (byte ∷ bytes) inner = starts_with nat_eq (byte ∷ bytes) inner || is_inside bytes inner

abbrev pub holds : Call → List ℕ → List ℕ → Bool
holds StartsWith all part = starts_with nat_eq all part
holds EndsWith all part = ends_with all part
holds Contains all part = is_inside all part

-- the text that a value is, if it is one
abbrev pub text_in : Value → Option (List ℕ)
text_in (text held) = Some held
text_in a = None

-- the calls take two texts
abbrev pub called : Call → Value → Value → Option Bool
called call (text all) (text part) = Some (holds call all part)
called call a b = None

-- the names of a path
abbrev pub path_names : Tree trees.path → List (List ℕ)
path_names (trees.steps all) = names_of all

-- a value is looked for in a list: `||` of the equalities with its items, false of none
abbrev mutual
  pub value : Event → {level : Level} → Tree level → Value
  value event (trees.or_of a) = value event a
  value event (trees.either a b) = flag_or_error (either (flag_in (value event a)) (flag_in (value event b)))
  value event (trees.and_of a) = value event a
  value event (trees.both a b) = flag_or_error (both (flag_in (value event a)) (flag_in (value event b)))
  value event (trees.rel_of a) = value event a
  value event (trees.test relation a b) = flag_or_error (compared relation (value event a) (value event b))
  value event (trees.choice a b) = flag_or_error (is_item event (value event a) b)
  value event (trees.unary_of a) = value event a
  value event (trees.negated a) = flag_or_error (negated (flag_in (value event a)))
  value event (trees.post_of a) = value event a
  value event (trees.called call a b) = flag_or_error (called call (value event a) (value event b))
  value event (trees.rounded a) = value event a
  value event (trees.group a) = value event a
  value event (trees.text held) = text held
  value event (trees.number whole) = number whole
  value event (trees.flag on) = flag on
  value event trees.null = null
  value event (trees.member a) = value event a
  value event (trees.has a) = flag (is_some (member_at event (path_names a)))
  value event (trees.int a) = as_number (value event a)
  value event (trees.steps all) = value_at event (names_of all)
  value event list = error

  pub is_item : Event → Value → {level : Level} → Tree level → Option Bool
  is_item event wanted (trees.some_items a) = is_item event wanted a
  is_item event wanted (trees.first_item a) = equal wanted (value event a)
  is_item event wanted (trees.next_item a b) = either (is_item event wanted a) (equal wanted (value event b))
  is_item event wanted a = Some false

-- what the rule answers
abbrev pub truth : Value → Truth
truth (flag true) = truths.Yes
truth (flag false) = truths.No
truth a = truths.Error
