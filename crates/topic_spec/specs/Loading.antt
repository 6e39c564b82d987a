-- What documents come to, one after the other: the subscriptions, or the first refusal.
use Rattle.std.specs.Prelude.{◌≡◌, ◌<◌, ◌≤◌, ℕ, ◌+◌, ⊤, List, [], ◌∷◌, ◌++◌, length, Option, Some, None, Result, Ok, Err}
use Rattle.topic_spec.specs.declared.draft.Draft.{Draft}
use Rattle.topic_spec.specs.declared.sub.Sub.{Sub}
use Rattle.topic_spec.specs.declared.sub_err.SubErr.{SubErr}
use Rattle.topic_spec.specs.declared.sub_err.SubErr.TheVariants.{Missing, Wrong, NoMemory, SelfDead, TooMany, Rule}
use Rattle.topic_spec.specs.Reading.{IsSub, IsUnread}

-- With what documents say, the first of which has this number, behind the subscriptions that are there, it comes to this. A
-- document says none, or one, or it is refused; of one its rules are read, and then there must be fewer than 256 before it.
pub data Loads : ℕ → List Sub → List (Result (Option Draft) SubErr) → Result (List Sub) SubErr → Type 0 where
  ended : {doc : ℕ} {subs : List Sub} → Loads doc subs [] (Ok subs)
  passed : {doc : ℕ} {subs : List Sub} {more : List (Result (Option Draft) SubErr)} {result : Result (List Sub) SubErr} → Loads (doc + 1) subs more result → Loads doc subs (Ok None ∷ more) result
  added : {doc : ℕ} {subs : List Sub} {draft : Draft} {sub : Sub} {more : List (Result (Option Draft) SubErr)} {result : Result (List Sub) SubErr} → IsSub draft sub → length subs < 256 → Loads (doc + 1) (subs ++ sub ∷ []) more result → Loads doc subs (Ok (Some draft) ∷ more) result
  refused : {doc : ℕ} {subs : List Sub} {more : List (Result (Option Draft) SubErr)} {error : SubErr} → Loads doc subs (Err error ∷ more) (Err error)
  unread : {doc at : ℕ} {subs : List Sub} {draft : Draft} {more : List (Result (Option Draft) SubErr)} → IsUnread draft.rules at → Loads doc subs (Ok (Some draft) ∷ more) (Err (Rule doc at))
  many : {doc : ℕ} {subs : List Sub} {draft : Draft} {sub : Sub} {more : List (Result (Option Draft) SubErr)} → IsSub draft sub → 256 ≤ length subs → Loads doc subs (Ok (Some draft) ∷ more) (Err (TooMany 257))

-- it comes to what is told, but for want of memory
abbrev pub IsLoad : (Result (List Sub) SubErr → Type 0) → Result (List Sub) SubErr → Type 0
IsLoad comes (Ok subs) = comes (Ok subs)
IsLoad comes (Err NoMemory) = ⊤
IsLoad comes (Err (Missing doc field)) = comes (Err (Missing doc field))
IsLoad comes (Err (Wrong doc field)) = comes (Err (Wrong doc field))
IsLoad comes (Err (SelfDead name)) = comes (Err (SelfDead name))
IsLoad comes (Err (TooMany count)) = comes (Err (TooMany count))
IsLoad comes (Err (Rule doc at)) = comes (Err (Rule doc at))

-- one more document was taken: whatever may come of those behind it, may come of all; or it was refused
abbrev pub IsStep : Result (Unit {0}) SubErr → ℕ → List Sub → List Sub → Result (Option Draft) SubErr → Type 0
IsStep (Ok done) doc old new said = (more : List (Result (Option Draft) SubErr)) (result : Result (List Sub) SubErr) → Loads (doc + 1) new more result → Loads doc old (said ∷ more) result
IsStep (Err e) doc old new said = (more : List (Result (Option Draft) SubErr)) → IsLoad (Loads doc old (said ∷ more)) (Err e)

-- one more subscription, or too many
abbrev pub IsAdded : Result (Unit {0}) SubErr → Sub → List Sub → List Sub → Type 0
IsAdded (Ok done) sub old new = (length old < 256) × (new ≡ old ++ sub ∷ [])
IsAdded (Err NoMemory) sub old new = ⊤
IsAdded (Err (TooMany count)) sub old new = (256 ≤ length old) × (count ≡ 257)
IsAdded (Err (Missing doc field)) sub old new = ⊥
IsAdded (Err (Wrong doc field)) sub old new = ⊥
IsAdded (Err (SelfDead name)) sub old new = ⊥
IsAdded (Err (Rule doc at)) sub old new = ⊥
