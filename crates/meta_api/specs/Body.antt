-- The responses of metadata and health.
use Rattle.std.specs.Prelude.{ℕ, Bool, true, false, List, [], ◌∷◌, ◌++◌, map, codes, decimal, Option, Some, None}
use Rattle.json_text.specs.Spelling.{string_of}
pub use Rattle.json_text.specs.Joined.{joined, comma}
use Rattle.side_base.specs.declared.message.Response.{Response}
use Rattle.api_error.specs.declared.code.Code.TheVariants.{MetadataFull}
use Rattle.api_error.specs.Body.{error_response, json_type}
use Rattle.meta_api.specs.declared.command.Pair.{Pair}
use Rattle.meta_api.specs.declared.command.NotesReply.{NotesReply}
use Rattle.meta_api.specs.declared.command.NotesReply.TheVariants.{Noted, Full, Listed, NoMemory}
use Rattle.meta_api.specs.declared.response.ComponentNote.{ComponentNote}
use Rattle.meta_api.specs.declared.response.SubscriptionNote.{SubscriptionNote}

-- without content
abbrev pub done : Response
done = record { status = 204; fields = []; body = [] }

-- ---- what is listed

abbrev pub component_text : ComponentNote → List ℕ
component_text note =
    codes "{\"name\":" ++ string_of note.name ++ codes ",\"type\":" ++ string_of note.kind ++ codes ",\"version\":" ++ string_of note.version ++ codes "}"

-- a text behind what stands before it
abbrev pub member_text : List ℕ → List ℕ → List ℕ
member_text front text = front ++ string_of text

abbrev pub names_text : SubscriptionNote → List ℕ
names_text note = member_text (codes "{\"pubsubname\":") note.pubsub ++ member_text (codes ",\"topic\":") note.topic

abbrev pub dead_text : Option (List ℕ) → List ℕ
dead_text None = []
dead_text (Some topic) = codes ",\"deadLetterTopic\":" ++ string_of topic

abbrev pub subscription_text : SubscriptionNote → List ℕ
subscription_text note = names_text note ++ dead_text note.dead ++ codes "}"

abbrev pub pair_text : Pair → List ℕ
pair_text pair = string_of pair.name ++ codes ":" ++ string_of pair.value

-- ---- the response

abbrev pub metadata_body : List ℕ → List ComponentNote → List SubscriptionNote → List Pair → List ℕ
metadata_body app components subscriptions pairs =
    codes "{\"id\":" ++ string_of app ++ codes ",\"components\":[" ++ joined (map component_text components)
    ++ codes "],\"subscriptions\":[" ++ joined (map subscription_text subscriptions) ++ codes "],\"extended\":{" ++ joined (map pair_text pairs) ++ codes "}}"

abbrev pub metadata_response : List ℕ → List ComponentNote → List SubscriptionNote → List Pair → Response
metadata_response app components subscriptions pairs = record { status = 200; fields = json_type ∷ []; body = metadata_body app components subscriptions pairs }

-- ---- the response to a value that was to be noted

-- a reply to it that has a response of its own
abbrev pub IsPutReply : NotesReply → Type 0
IsPutReply Noted = Unit {0}
IsPutReply (Full names bytes) = Unit {0}
IsPutReply (Listed pairs) = ⊥
IsPutReply NoMemory = ⊥

abbrev pub full_text : ℕ → ℕ → List ℕ
full_text names bytes = codes "full at " ++ decimal names ++ codes " names and " ++ decimal bytes ++ codes " bytes"

abbrev pub put_response : NotesReply → Response
put_response Noted = done
put_response (Full names bytes) = error_response 500 MetadataFull (full_text names bytes)
-- not asked for
put_response (Listed pairs) = done
put_response NoMemory = done
