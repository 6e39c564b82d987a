-- What an app's reply to the question for its subscriptions says.
use Rattle.std.specs.Prelude.{◌≡◌, ◌≢◌, ℕ, List, [], codes, Result, Ok, Err}
use Rattle.side_base.specs.declared.message.Response.{Response}
use Rattle.json_text.specs.declared.error.JsonErr.{JsonErr}
use Rattle.json_text.specs.declared.error.JsonErr.TheVariants as json
use Rattle.json_text.specs.Forest.{Forest}
use Rattle.cloud_events.specs.Wrapped.{IsRead}
use Rattle.topic_spec.specs.declared.sub.Sub.{Sub}
use Rattle.topic_spec.specs.declared.sub_err.SubErr.{SubErr}
use Rattle.topic_spec.specs.declared.sub_err.SubErr.TheVariants.{Wrong, NoMemory}
use Rattle.topic_spec.specs.Listed.{ListLoads}

-- The subscriptions of a body: none of an empty one, those of a list, and of any other the list is wrong
pub data IsList (body : List ℕ) (said : Result (List Sub) SubErr) : Type 0 where
  empty : body ≡ [] → said ≡ Ok [] → IsList body said
  read : (values : Forest) → body ≢ [] → IsRead body values → ListLoads body values said → IsList body said
  unread : body ≢ [] → ((values : Forest) → ¬ IsRead body values) → said ≡ Err (Wrong 0 (codes "list")) → IsList body said

-- subscriptions come of a reply of 200, and none of any other, whose body isn't read
pub data IsSaid (response : Response) (said : Result (List Sub) SubErr) : Type 0 where
  listed : response.status ≡ 200 → IsList response.body said → IsSaid response said
  none : response.status ≢ 200 → said ≡ Ok [] → IsSaid response said

-- what is told of a body that isn't read
abbrev pub unlisted : JsonErr → SubErr
unlisted (json.Bad at) = Wrong 0 (codes "list")
unlisted (json.Deep at) = Wrong 0 (codes "list")
unlisted json.NoMemory = NoMemory
