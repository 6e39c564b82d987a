-- Subscriptions behind others.
use Rattle.std.specs.Prelude.{◌≡◌, ℕ, ◌+◌, nat_le, if◌then◌else◌, List, ◌++◌, length, Result, Ok, Err}
use Rattle.topic_spec.specs.declared.sub.Sub.{Sub}
use Rattle.topic_spec.specs.declared.sub_err.SubErr.{SubErr}
use Rattle.topic_spec.specs.declared.sub_err.SubErr.TheVariants.{TooMany}
use Rattle.topic_spec.specs.Draft.{IsSubErr}

-- there are at most 256, and of more their number is told
abbrev pub joined : List Sub → List Sub → Result (List Sub) SubErr
joined one more = if nat_le (length one + length more) 256 then Ok (one ++ more) else Err (TooMany (length one + length more))

-- the subscriptions after a change are these, or they are unchanged
abbrev pub IsChange : Result (Unit {0}) SubErr → List Sub → List Sub → Result (List Sub) SubErr → Type 0
IsChange (Ok done) old new wanted = wanted ≡ Ok new
IsChange (Err e) old new wanted = IsSubErr e wanted × (new ≡ old)
