-- A book: names with values, in byte order of the names.
use Rattle.std.specs.Prelude.{ℕ, ◌+◌, Bool, ◌&&◌, nat_le, List, [], ◌∷◌, ◌++◌, length, take, drop, sum_by, slice_index_or, if◌then◌else◌}
use Rattle.std.specs.Ordering.{nat_cmp}
use Rattle.std.specs.declared.cmp.Ordering.{Ordering}
use Rattle.std.specs.declared.cmp.Ordering.TheVariants.{Less, Equal, Greater}
use Rattle.std.specs.Cmp.Lexicographic.{slice_cmp}
use Rattle.meta_api.specs.declared.command.Pair.{Pair}
use Rattle.meta_api.specs.declared.pairs.Place.{Place}

-- a pair before, in place of, or somewhere behind the first one
abbrev pub placed : Ordering → Pair → Pair → List Pair → List Pair → List Pair
placed Less pair first rest later = pair ∷ first ∷ rest
placed Equal pair first rest later = pair ∷ rest
placed Greater pair first rest later = first ∷ later

-- a value for a name, in place of the one that it has
abbrev pub put : Pair → List Pair → List Pair
put pair [] = pair ∷ []
put pair (first ∷ rest) = placed (slice_cmp nat_cmp pair.name first.name) pair first rest (put pair rest)

-- ---- sizes

abbrev pub pair_len : Pair → ℕ
pair_len pair = length pair.name + length pair.value

-- the bytes of all names and values
abbrev pub bytes_of : List Pair → ℕ
bytes_of pairs = sum_by pair_len pairs

-- at most 1,024 names, and at most 1,048,576 bytes
abbrev pub is_small : List Pair → Bool
is_small pairs = nat_le (length pairs) 1024 && nat_le (bytes_of pairs) 1048576

-- ---- the place of a name

-- a pair at a place, in place of the one there if it is taken
abbrev pub put_at : Place → Pair → List Pair → List Pair
put_at place pair pairs = take place.at pairs ++ pair ∷ drop (if place.taken then place.at + 1 else place.at) pairs

abbrev pub old_len : Place → List Pair → ℕ
old_len place pairs = if place.taken then pair_len (slice_index_or pairs place.at (record { name = []; value = [] })) else 0
