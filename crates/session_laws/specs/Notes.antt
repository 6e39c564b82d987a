-- Requests to metadata: what they are answered, and why.
use Rattle.std.specs.Prelude.{◌≡◌, ◌⊎◌, ℕ, List, [], ◌∷◌, IsUtf8, Ok}
use Rattle.meta_api.specs.declared.command.Pair.{Pair}
use Rattle.meta_api.specs.declared.command.NotesCmd.{NotesCmd}
use Rattle.meta_api.specs.declared.command.NotesCmd.TheVariants.{Put}
use Rattle.meta_api.specs.declared.command.NotesCmd.TheVariants as ask
use Rattle.meta_api.specs.declared.command.NotesReply.{NotesReply}
use Rattle.meta_api.specs.declared.command.NotesReply.TheVariants as says
use Rattle.meta_api.specs.History.{Step}
use Rattle.meta_api.specs.Body.{metadata_response, put_response}
use Rattle.state_api.specs.declared.what.What.TheVariants.{Shape}
use Rattle.state_api.specs.Response.{malformed}
use Rattle.sidecar_objects.specs.declared.doing.Doing.TheVariants.{Stepped}
use Rattle.sidecar_objects.specs.declared.doing.SlotStep.TheVariants.{Book}
use Rattle.sidecar_core.specs.Sites.{notes_of, sub_notes_of}
use Rattle.session_laws.specs.Served.{HasExhausted, HasNoMemory, IsFresh, Served}

module _ {O : Type 0} (served : Served O) where
  -- the book was asked this in one step, and replied so
  pub record HasBookReplied (cmd : NotesCmd) (reply : NotesReply) : Type 0 where
    pub step : Step
    pub asked : step.cmd ≡ cmd
    pub says : step.reply ≡ reply
    pub whole : served.events ≡ Stepped (Book step) ∷ []

  -- the book's pairs are listed, with all components and all subscriptions of the configuration, in their order
  pub record IsListed : Type 0 where
    pub pairs : List Pair
    pub replied : HasBookReplied ask.List (says.Listed pairs)
    pub said : served.reply ≡ Ok (metadata_response served.config.app (notes_of served.config) (sub_notes_of served.config) pairs)

  -- why metadata is answered so
  pub data IsMetadataAnswered : Type 0 where
    listed : IsListed → IsMetadataAnswered
    exhausted : HasExhausted served → IsMetadataAnswered
    lacks : HasNoMemory served → IsMetadataAnswered

  -- where no cell is exhausted it is listed, or there was no memory
  abbrev pub IsListedWhereAllIsWell : Type 0
  IsListedWhereAllIsWell = IsFresh served → IsListed ⊎ HasNoMemory served

  -- why a value that is to be noted for a name is answered so
  pub data IsNoteAnswered (name : List ℕ) : Type 0 where
    no_text : ¬ IsUtf8 served.request.body → served.events ≡ [] → served.reply ≡ Ok (malformed Shape) → IsNoteAnswered name
    noted : HasBookReplied (Put name served.request.body) says.Noted → served.reply ≡ Ok (put_response says.Noted) → IsNoteAnswered name
    full : (names bytes : ℕ) → HasBookReplied (Put name served.request.body) (says.Full names bytes) → served.reply ≡ Ok (put_response (says.Full names bytes)) → IsNoteAnswered name
    exhausted : HasExhausted served → IsNoteAnswered name
    lacks : HasNoMemory served → IsNoteAnswered name

  -- the value is noted, and the answer is 204
  pub record IsNoted (name : List ℕ) : Type 0 where
    pub replied : HasBookReplied (Put name served.request.body) says.Noted
    pub said : served.reply ≡ Ok (put_response says.Noted)

  -- where it is UTF-8, the book is not full and no cell is exhausted, it is noted, or there was no memory
  abbrev pub IsNotedWhereAllIsWell : List ℕ → Type 0
  IsNotedWhereAllIsWell name =
      IsUtf8 served.request.body → IsFresh served → ((names bytes : ℕ) → ¬ HasBookReplied (Put name served.request.body) (says.Full names bytes)) → IsNoted name ⊎ HasNoMemory served
