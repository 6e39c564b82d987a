-- Which apps a pub/sub component lets publish to a topic, and which it lets subscribe to it.
use Rattle.std.specs.Prelude.{ℕ, Bool, true, false, ◌&&◌, ◌||◌, ◌==◌, not, List, [], ◌∷◌, reverse, take_while, bytes_eq, if◌then◌else◌, codes, Option, Some, None}
use Rattle.std.specs.List.{list_any, slice_split}
use Rattle.resource_spec.specs.Component.{Loaded, setting_of}

-- ---- names

abbrev pub without_front_spaces : List ℕ → List ℕ
without_front_spaces [] = []
without_front_spaces (byte ∷ bytes) = if byte == 32 then without_front_spaces bytes else byte ∷ bytes

-- the bytes without the spaces at both ends
unfoldable pub without_spaces : List ℕ → List ℕ
without_spaces bytes = reverse (without_front_spaces (reverse (without_front_spaces bytes)))

abbrev pub is_empty : List ℕ → Bool
is_empty [] = true
is_empty (byte ∷ bytes) = false

-- there is a name between spaces
unfoldable pub is_some_name : List ℕ → Bool
is_some_name piece = not (is_empty (without_spaces piece))

-- there is this name between spaces; an empty one is none
unfoldable pub is_name : List ℕ → List ℕ → Bool
is_name name piece = is_some_name piece && bytes_eq (without_spaces piece) name

-- ---- topics joined by commas

unfoldable pub has_some_topic : List ℕ → Bool
has_some_topic text = list_any is_some_name (slice_split (λ byte. byte == 44) text)

unfoldable pub has_topic : List ℕ → List ℕ → Bool
has_topic topic text = list_any (is_name topic) (slice_split (λ byte. byte == 44) text)

-- where topics are listed, all others are denied
abbrev pub lets_topic : Option (List ℕ) → List ℕ → Bool
lets_topic None topic = true
lets_topic (Some text) topic = not (has_some_topic text) || has_topic topic text

-- ---- scopes: an app, `=` and its topics, joined by semicolons

-- what stands before the first `=`
unfoldable pub before_sign : List ℕ → List ℕ
before_sign item = take_while (λ byte. not (byte == 61)) item

-- what stands behind it: nothing where there is none
unfoldable pub behind_sign : List ℕ → List ℕ
behind_sign [] = []
behind_sign (byte ∷ bytes) = if byte == 61 then bytes else behind_sign bytes

-- the item is for the app
unfoldable pub is_of_app : List ℕ → List ℕ → Bool
is_of_app app item = is_name app (before_sign item)

-- and it lists the topic
unfoldable pub is_of_topic : List ℕ → List ℕ → List ℕ → Bool
is_of_topic app topic item = is_of_app app item && has_topic topic (behind_sign item)

unfoldable pub has_app : List ℕ → List ℕ → Bool
has_app app scopes = list_any (is_of_app app) (slice_split (λ byte. byte == 59) scopes)

unfoldable pub has_app_topic : List ℕ → List ℕ → List ℕ → Bool
has_app_topic app topic scopes = list_any (is_of_topic app topic) (slice_split (λ byte. byte == 59) scopes)

-- an app that is listed is allowed the topics of its items alone, and one that isn't is allowed all
abbrev pub lets_app : Option (List ℕ) → List ℕ → List ℕ → Bool
lets_app None app topic = true
lets_app (Some scopes) app topic = not (has_app app scopes) || has_app_topic app topic scopes

-- ---- both

abbrev pub may_publish : Loaded → List ℕ → List ℕ → Bool
may_publish c app topic = lets_topic (setting_of c (codes "allowedTopics")) topic && lets_app (setting_of c (codes "publishingScopes")) app topic

abbrev pub may_subscribe : Loaded → List ℕ → List ℕ → Bool
may_subscribe c app topic = lets_topic (setting_of c (codes "allowedTopics")) topic && lets_app (setting_of c (codes "subscriptionScopes")) app topic
