-- The names of the codes.
use Rattle.std.specs.Prelude.{ℕ, List, codes}
use Rattle.api_error.specs.declared.code.Code.{Code}
use Rattle.api_error.specs.declared.code.Code.TheVariants.{BadRequest, NotFound, MethodNotAllowed, MalformedRequest, StateStoreNotFound, StateGet, StateBulkGet, StateSave, StateDelete, StateTransaction, DirectInvoke, InvokeOutputBinding, PubsubNotFound, PubsubForbidden, PubsubCloudEventsSer, PubsubPublishMessage, ActorInvokeMethod, ActorState, MetadataFull, Spent, NoMemory}

abbrev pub code_name : Code → List ℕ
code_name BadRequest = codes "ERR_BAD_REQUEST"
code_name NotFound = codes "ERR_NOT_FOUND"
code_name MethodNotAllowed = codes "ERR_METHOD_NOT_ALLOWED"
code_name MalformedRequest = codes "ERR_MALFORMED_REQUEST"
code_name StateStoreNotFound = codes "ERR_STATE_STORE_NOT_FOUND"
code_name StateGet = codes "ERR_STATE_GET"
code_name StateBulkGet = codes "ERR_STATE_BULK_GET"
code_name StateSave = codes "ERR_STATE_SAVE"
code_name StateDelete = codes "ERR_STATE_DELETE"
code_name StateTransaction = codes "ERR_STATE_TRANSACTION"
code_name DirectInvoke = codes "ERR_DIRECT_INVOKE"
code_name InvokeOutputBinding = codes "ERR_INVOKE_OUTPUT_BINDING"
code_name PubsubNotFound = codes "ERR_PUBSUB_NOT_FOUND"
code_name PubsubForbidden = codes "ERR_PUBSUB_FORBIDDEN"
code_name PubsubCloudEventsSer = codes "ERR_PUBSUB_CLOUD_EVENTS_SER"
code_name PubsubPublishMessage = codes "ERR_PUBSUB_PUBLISH_MESSAGE"
code_name ActorInvokeMethod = codes "ERR_ACTOR_INVOKE_METHOD"
code_name ActorState = codes "ERR_ACTOR_STATE"
code_name MetadataFull = codes "ERR_METADATA_FULL"
code_name Spent = codes "ERR_SPENT"
code_name NoMemory = codes "ERR_NO_MEMORY"
