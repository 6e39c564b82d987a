-- The command that a state request asks for, or why it is malformed.
use Rattle.std.specs.Prelude.{◌≡◌, ℕ, ◌+◌, ◌==◌, Bool, true, false, nat_le, List, [], ◌∷◌, ◌++◌, length, map, codes, bytes_eq, Option, Some, None, Result, Ok, Err, if◌then◌else◌}
use Rattle.std.specs.Str.{is_utf8}
use Rattle.std.specs.Str.Lossy.{utf8_lossy}
use Rattle.form_urlencoded.specs.Form.{raw_pairs, decode}
use Rattle.json_text.specs.declared.error.JsonErr.{JsonErr}
use Rattle.json_text.specs.declared.error.JsonErr.TheVariants as json
use Rattle.json_text.specs.Forest.{Forest, grows}
use Rattle.json_text.specs.declared.spot.Spot.{Spot}
use Rattle.json_text.specs.Grammar.{IsText}
use Rattle.json_text.specs.Faults.{IsClean, IsFirstBad, IsFirstDeep}
use Rattle.side_base.specs.declared.message.Request.{Request}
use Rattle.side_base.specs.Field.{first_value}
use Rattle.api_routes.specs.declared.route.Route.{Route}
use Rattle.api_routes.specs.declared.route.Route.TheVariants as route
use Rattle.state_core.specs.declared.command.Prefix.{Prefix}
use Rattle.state_core.specs.declared.command.Item.{Item}
use Rattle.state_core.specs.declared.command.Op.{Op}
use Rattle.state_core.specs.declared.command.Op.TheVariants.{Upsert, Remove}
use Rattle.state_core.specs.declared.command.Mode.TheVariants.{LastWrite}
use Rattle.state_core.specs.declared.command.Cmd.{Cmd}
use Rattle.state_core.specs.declared.command.Cmd.TheVariants.{Get, Save, Delete, Bulk, Transact}
use Rattle.state_api.specs.declared.what.What.{What}
use Rattle.state_api.specs.declared.what.StateErr.{StateErr}
use Rattle.state_api.specs.declared.what.StateErr.TheVariants.{Malformed, NoMemory}
use Rattle.state_api.specs.declared.what.What.TheVariants.{Json, Shape, Operation, TooMany}
use Rattle.state_api.specs.declared.raw.RawItem.{RawItem}
use Rattle.state_api.specs.declared.raw.RawOp.{RawOp}
use Rattle.state_api.specs.Given.{followed, provided, each}
use Rattle.state_api.specs.Values.{Value, text_of}
use Rattle.state_api.specs.Words.{front_of, stored_key, etag_of, mode_of, ttl_of}
use Rattle.state_api.specs.Raw.{item_in, op_in, list_in, listed_in}

-- ---- the words of one item, in the order of their tests

abbrev pub item_of : Prefix → RawItem → Result Item What
item_of prefix raw =
    followed (stored_key prefix raw.key) (λ key.
    followed (mode_of raw.concurrency) (λ mode.
    followed (ttl_of raw.ttl) (λ ttl.
    Ok (record { key = key; value = raw.value; etag = etag_of raw.etag; mode = mode; ttl = ttl }))))

-- an upsert or a delete of the key
abbrev pub is_upsert : List ℕ → Bool
is_upsert word = bytes_eq word (codes "upsert")

abbrev pub is_delete : List ℕ → Bool
is_delete word = bytes_eq word (codes "delete")

-- whether the word of an operation is an upsert's
abbrev pub upserts : List ℕ → Result Bool What
upserts word = if is_upsert word then Ok true else if is_delete word then Ok false else Err Operation

abbrev pub op_with : Bool → Item → Op
op_with true item = Upsert item
op_with false item = Remove item.key item.etag item.mode

abbrev pub op_of : Prefix → RawOp → Result Op What
op_of prefix raw =
    followed (stored_key prefix raw.item.key) (λ key.
    followed (mode_of raw.item.concurrency) (λ mode.
    followed (upserts raw.operation) (λ is_upsert.
    followed (ttl_of raw.item.ttl) (λ ttl.
    Ok (op_with is_upsert (record { key = key; value = raw.item.value; etag = etag_of raw.item.etag; mode = mode; ttl = ttl }))))))

-- all of them, of which there are at most 1,024
abbrev pub few : {A B : Type 0} → (A → Result B What) → List A → Result (List B) What
few one raws = provided (nat_le (length raws) 1024) TooMany (each one raws)

-- ---- bodies

abbrev pub save_in : Prefix → List ℕ → Value → Result Cmd What
save_in prefix bytes value =
    followed (list_in (item_in bytes) value) (λ raws. followed (few (item_of prefix) raws) (λ items. Ok (Save items 0)))

abbrev pub transact_in : Prefix → List ℕ → Value → Result Cmd What
transact_in prefix bytes value =
    followed (listed_in (op_in bytes) bytes (codes "operations") value) (λ raws. followed (few (op_of prefix) raws) (λ ops. Ok (Transact ops 0)))

-- the stored keys have those of the request behind the same bytes
abbrev pub bulk_in : Prefix → List ℕ → Value → Result Cmd What
bulk_in prefix bytes value =
    followed (listed_in (text_of bytes) bytes (codes "keys") value) (λ raws.
    followed (few (stored_key prefix) raws) (λ keys. Ok (Bulk keys (length (front_of prefix)) 0)))

-- what a body means, by its one value; or it is no JSON text, or is nested too deep
pub data BodyAsks {A : Type 0} (means : List ℕ → Value → Result A What) (body : List ℕ) (answer : Result A What) : Type 0 where
  bad : (at : ℕ) → IsFirstBad body at → answer ≡ Err (Json at) → BodyAsks means body answer
  deep : (at : ℕ) → IsFirstDeep body at → answer ≡ Err (Json at) → BodyAsks means body answer
  text : (spot : Spot) (children later : Forest) → IsText body (grows spot children later) → IsClean body (length body + 1)
      → answer ≡ means body (record { spot = spot; children = children }) → BodyAsks means body answer

-- ---- the state of an actor

-- an actor's keys stand behind the id of its app, its kind and its own id
abbrev pub actor_front : List ℕ → List ℕ → List ℕ → Prefix
actor_front app kind id = record { text = Some (app ++ codes "||" ++ kind ++ codes "||" ++ id) }

-- the operation whatever stands under its key: its ETag is let go, and its mode
abbrev pub unconditional : Op → Op
unconditional (Upsert item) = Upsert (record { key = item.key; value = item.value; etag = None; mode = LastWrite; ttl = item.ttl })
unconditional (Remove key etag mode) = Remove key None LastWrite

abbrev pub change_of : Prefix → RawOp → Result Op What
change_of prefix raw = followed (op_of prefix raw) (λ op. Ok (unconditional op))

-- the body is a list of a transaction's operations
abbrev pub changes_in : Prefix → List ℕ → Value → Result Cmd What
changes_in prefix bytes value =
    followed (list_in (op_in bytes) value) (λ raws. followed (few (change_of prefix) raws) (λ ops. Ok (Transact ops 0)))

-- ---- a get, and a delete

abbrev pub get_of : Prefix → List ℕ → Result Cmd What
get_of prefix key = followed (stored_key prefix key) (λ stored. Ok (Get stored 0))

-- the query stands behind the first question mark
abbrev pub query_of : List ℕ → List ℕ
query_of [] = []
query_of (byte ∷ bytes) = if byte == 63 then bytes else query_of bytes

-- a name and a value of a query, decoded; what is no UTF-8 is replaced
abbrev pub decoded : List ℕ × List ℕ → List ℕ × List ℕ
decoded pair = (utf8_lossy (decode pair.0), utf8_lossy (decode pair.1))

abbrev pub value_of : List ℕ → List (List ℕ × List ℕ) → Option (List ℕ)
value_of name [] = None
value_of name (pair ∷ pairs) = if bytes_eq pair.0 name then Some pair.1 else value_of name pairs

-- the first concurrency of a query
abbrev pub concurrency_of : List ℕ → Option (List ℕ)
concurrency_of query = value_of (codes "concurrency") (map decoded (raw_pairs query))

-- a field's value as a text
abbrev pub field_text : Option (List ℕ) → Result (Option (List ℕ)) What
field_text None = Ok None
field_text (Some value) = provided (is_utf8 value) Shape (Ok (Some value))

abbrev pub delete_of : Prefix → List ℕ → Request → Result Cmd What
delete_of prefix key request =
    followed (field_text (first_value (codes "If-Match") request.fields)) (λ etag.
    followed (stored_key prefix key) (λ stored.
    followed (mode_of (concurrency_of (query_of request.target))) (λ mode.
    Ok (Delete stored (etag_of etag) mode 0))))

-- ---- all

-- a route of the state API
abbrev pub IsState : Route → Type 0
IsState (route.Save store) = Unit {0}
IsState (route.Get store key) = Unit {0}
IsState (route.Delete store key) = Unit {0}
IsState (route.Bulk store) = Unit {0}
IsState (route.Transact store) = Unit {0}
IsState (route.Invoke app rest) = ⊥
IsState (route.Publish pubsub topic) = ⊥
IsState (route.Binding name) = ⊥
IsState (route.ActorCall actor id) = ⊥
IsState (route.ActorGet actor id key) = ⊥
IsState (route.ActorChange actor id) = ⊥
IsState route.Health = ⊥
IsState route.Metadata = ⊥
IsState (route.SetMetadata name) = ⊥
IsState route.Shutdown = ⊥

-- the answer is what a request of the route means
abbrev pub Asks : Prefix → Request → Route → Result Cmd What → Type 0
Asks prefix request (route.Save store) answer = BodyAsks (save_in prefix) request.body answer
Asks prefix request (route.Get store key) answer = answer ≡ get_of prefix key
Asks prefix request (route.Delete store key) answer = answer ≡ delete_of prefix key request
Asks prefix request (route.Bulk store) answer = BodyAsks (bulk_in prefix) request.body answer
Asks prefix request (route.Transact store) answer = BodyAsks (transact_in prefix) request.body answer
Asks prefix request (route.Invoke app rest) answer = ⊥
Asks prefix request (route.Publish pubsub topic) answer = ⊥
Asks prefix request (route.Binding name) answer = ⊥
Asks prefix request (route.ActorCall actor id) answer = ⊥
Asks prefix request (route.ActorGet actor id key) answer = ⊥
Asks prefix request (route.ActorChange actor id) answer = ⊥
Asks prefix request route.Health answer = ⊥
Asks prefix request route.Metadata answer = ⊥
Asks prefix request (route.SetMetadata name) answer = ⊥
Asks prefix request route.Shutdown answer = ⊥

-- a route of the state of actors
abbrev pub IsActorState : Route → Type 0
IsActorState (route.Save store) = ⊥
IsActorState (route.Get store key) = ⊥
IsActorState (route.Delete store key) = ⊥
IsActorState (route.Bulk store) = ⊥
IsActorState (route.Transact store) = ⊥
IsActorState (route.Invoke app rest) = ⊥
IsActorState (route.Publish pubsub topic) = ⊥
IsActorState (route.Binding name) = ⊥
IsActorState (route.ActorCall kind id) = ⊥
IsActorState (route.ActorGet kind id key) = Unit {0}
IsActorState (route.ActorChange kind id) = Unit {0}
IsActorState route.Health = ⊥
IsActorState route.Metadata = ⊥
IsActorState (route.SetMetadata name) = ⊥
IsActorState route.Shutdown = ⊥

-- the answer is what a request of the route means, of an actor of this app
abbrev pub AsksActor : List ℕ → Request → Route → Result Cmd What → Type 0
AsksActor app request (route.Save store) answer = ⊥
AsksActor app request (route.Get store key) answer = ⊥
AsksActor app request (route.Delete store key) answer = ⊥
AsksActor app request (route.Bulk store) answer = ⊥
AsksActor app request (route.Transact store) answer = ⊥
AsksActor app request (route.Invoke other rest) answer = ⊥
AsksActor app request (route.Publish pubsub topic) answer = ⊥
AsksActor app request (route.Binding name) answer = ⊥
AsksActor app request (route.ActorCall kind id) answer = ⊥
AsksActor app request (route.ActorGet kind id key) answer = answer ≡ get_of (actor_front app kind id) key
AsksActor app request (route.ActorChange kind id) answer = BodyAsks (changes_in (actor_front app kind id)) request.body answer
AsksActor app request route.Health answer = ⊥
AsksActor app request route.Metadata answer = ⊥
AsksActor app request (route.SetMetadata name) answer = ⊥
AsksActor app request route.Shutdown answer = ⊥

-- why a body is no JSON text
abbrev pub fault_of : JsonErr → StateErr
fault_of (json.Bad at) = Malformed (Json at)
fault_of (json.Deep at) = Malformed (Json at)
fault_of json.NoMemory = NoMemory
