-- What follows a front.
use Rattle.std.specs.Prelude.{ℕ, List, length, take, drop, if◌then◌else◌, Option, Some, None}
use Rattle.std.specs.Str.{bytes_eq}

-- the bytes after front, where they begin with it
unfoldable pub after_front : List ℕ → List ℕ → Option (List ℕ)
after_front front bytes =
    if bytes_eq (take (length front) bytes) front then Some (drop (length front) bytes) else None
