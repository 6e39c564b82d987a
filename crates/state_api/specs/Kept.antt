-- Of the parts that were read those that are kept.
use Rattle.std.specs.Prelude.{◌≡◌, ◌<◌, ◌≤◌, Bool, true, false, List, length}

-- all of them, up to 1,024; `many` is whether there were more
abbrev pub Kept : {A : Type 0} → Bool → List A → List A → Type 0
Kept false parts read = (parts ≡ read) × (length read ≤ 1024)
Kept true parts read = (length parts ≡ 1024) × (1024 < length read)
