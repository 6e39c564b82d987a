-- The texts of values, each in one piece.
use Rattle.std.specs.Prelude.{◌≡◌, ℕ, ◌+◌, ◌-◌, ◌<◌, ◌≤◌, ◌==◌, if◌then◌else◌, List, [], ◌∷◌, ◌++◌, length, take, drop, slice_index_or, slice_get, Option, Some, None}
use Rattle.json_lexemes.specs.declared.kind.Kind.{Kind}
use Rattle.json_lexemes.specs.declared.kind.Kind.TheVariants as kinds
use Rattle.json_text.specs.declared.spot.Spot.{Spot}
use Rattle.json_text.specs.declared.spot.Entry.{Entry}
use Rattle.json_text.specs.declared.told.Place.{Place}
use Rattle.json_text.specs.declared.told.Told.{Told}
use Rattle.json_text.specs.Unescape.{unescaped, content, text_shown}

-- the bytes that spell the text of a value: none but a string has any
abbrev pub inside_in : List ℕ → Spot → Kind → List ℕ
inside_in bytes spot kinds.Text = content bytes spot.span
inside_in bytes spot other = []

abbrev pub inside_of : List ℕ → Spot → List ℕ
inside_of bytes spot = inside_in bytes spot spot.kind

-- the text at a place, or else what spells it
abbrev pub piece : List ℕ → Place → List ℕ → List ℕ
piece texts place inside = if place.after == 0 then inside else take (place.after - 1 - place.start) (drop place.start texts)

abbrev pub piece_at : List ℕ → Option Place → List ℕ → List ℕ
piece_at texts None inside = inside
piece_at texts (Some place) inside = piece texts place inside

-- what is told of the value of this number
abbrev pub told_at : Told → ℕ → List ℕ → List ℕ
told_at told number inside = piece_at told.texts (slice_get told.places.items number) inside

-- of each of the first values the text is told
abbrev pub AreWholeUpTo : ℕ → List ℕ → List Entry → Told → Type 0
AreWholeUpTo count bytes nodes told = (k : ℕ) (entry : Entry) → k < count → told_at told k (inside_of bytes (slice_index_or nodes k entry).spot) ≡ text_shown bytes (slice_index_or nodes k entry).spot

-- of each value
abbrev pub TextsAreWhole : List ℕ → List Entry → Told → Type 0
TextsAreWhole bytes nodes told = AreWholeUpTo (length nodes) bytes nodes told

-- the text of each of the first values is what spells it
abbrev pub StandUpTo : ℕ → List ℕ → List Entry → Type 0
StandUpTo count bytes nodes = (k : ℕ) (entry : Entry) → k < count → inside_of bytes (slice_index_or nodes k entry).spot ≡ text_shown bytes (slice_index_or nodes k entry).spot

-- of each value
abbrev pub TextsStand : List ℕ → List Entry → Type 0
TextsStand bytes nodes = StandUpTo (length nodes) bytes nodes

-- the place is that of the text that is spelled so, for which others may have been appended
pub record IsPlaceOf (old new : List ℕ) (place : Place) (inside : List ℕ) : Type 0 where
  pub more : List ℕ
  pub grown : new ≡ old ++ more
  pub within : place.after ≤ length new + 1
  pub is : piece new place inside ≡ unescaped inside

-- one place more, which is that one
pub record AddsText (old new : Told) (inside : List ℕ) : Type 0 where
  pub place : Place
  pub places : new.places.items ≡ old.places.items ++ place ∷ []
  pub of : IsPlaceOf old.texts new.texts place inside
