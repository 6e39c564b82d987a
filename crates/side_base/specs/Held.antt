-- What a blob and a text hold.
use Rattle.std.specs.Prelude.{ℕ, List}
use Rattle.std.specs.String.{string_bytes}
use Rattle.side_base.specs.declared.blob.Bytes.{Bytes}
use Rattle.side_base.specs.declared.blob.Bytes.TheVariants.{Own, Shared}
use Rattle.side_base.specs.declared.text.Held.{Held}
use Rattle.side_base.specs.declared.text.Held.TheVariants.{Fixed, Owned, Shared as Common}

-- the bytes of a blob
abbrev pub bytes_of : Bytes → List ℕ
bytes_of (Own bytes) = bytes.items
bytes_of (Shared bytes) = bytes

-- those of a text
abbrev pub held_bytes : Held → List ℕ
held_bytes (Fixed alloc text) = text.now
held_bytes (Owned string) = string_bytes string
held_bytes (Common shared) = shared.bytes
