-- What requests to metadata are answered, and why.
use Rattle.std.proofs.Common.{◌≡◌, ◌⊎◌, ◌∙◌, ℕ, List, Result, Ok, Err, inl, inr, ap}
use Rattle.turn_cell.specs.declared.error.ApiErr.{ApiErr}
use Rattle.turn_cell.specs.declared.error.ApiErr.TheVariants as error
use Rattle.api_routes.specs.declared.route.Route.TheVariants.{Metadata, SetMetadata}
use Rattle.meta_api.specs.declared.command.NotesCmd.{NotesCmd}
use Rattle.meta_api.specs.declared.command.NotesCmd.TheVariants.{Put}
use Rattle.meta_api.specs.declared.command.NotesCmd.TheVariants as ask
use Rattle.meta_api.specs.declared.command.NotesReply.{NotesReply}
use Rattle.meta_api.specs.declared.command.NotesReply.TheVariants as says
use Rattle.sidecar_objects.specs.Kind.{CellsAt, Kinds}
use Rattle.sidecar_core.specs.Exchange as at
use Rattle.sidecar_core.specs.Exchange.{AtNotes, ListReplies, NotesRan, NotesReplies, PutReplies, SetsNote}
use Rattle.sidecar_core.specs.Shown.{some_seat}
use Rattle.session_laws.specs.Served.{HasNoMemory, IsServed, Served}
use Rattle.session_laws.specs.Notes.{HasBookReplied, IsListedWhereAllIsWell, IsMetadataAnswered, IsNoteAnswered, IsNotedWhereAllIsWell}
use Rattle.session_laws.specs.Notes as notes
use Rattle.session_laws.proofs.Routed.{by_route, exhausted_so}

module _ {O : Type 0} (kinds : Kinds O) (cells : CellsAt O) (served : Served O) where
  book_said : (cmd : NotesCmd) (reply : NotesReply) → NotesRan cmd served.events (Ok reply) → HasBookReplied served cmd reply
  book_said cmd reply (at.stepped step asked whole is) = record { step = step; asked = asked; says = (let same : step.reply ≡ reply = cc in same); whole = whole }
  book_said cmd reply (at.exhausted count none is) = absurd (cc)

  book_spent : (cmd : NotesCmd) (e : ApiErr) → NotesRan cmd served.events (Err e) → (count : ℕ) × (e ≡ error.Exhausted count)
  book_spent cmd e (at.stepped step asked whole is) = absurd (cc)
  book_spent cmd e (at.exhausted count none is) = (count, (let same : e ≡ error.Exhausted count = cc in same))

  module _ (is : IsServed kinds cells Metadata served) where
    listed_so : (reply : NotesReply) → HasBookReplied served ask.List reply → ListReplies served.config reply served.reply → IsMetadataAnswered served
    listed_so says.Noted has said = absurd said
    listed_so (says.Full names bytes) has said = absurd said
    listed_so (says.Listed pairs) has (inl said) = notes.listed (record { pairs = pairs; replied = has; said = said })
    listed_so (says.Listed pairs) has (inr none) = notes.lacks none
    listed_so says.NoMemory has none = notes.lacks none

    of_list : (ran : Result NotesReply ApiErr) → NotesRan ask.List served.events ran → NotesReplies (ListReplies served.config) ran served.reply → IsMetadataAnswered served
    of_list (Ok reply) ran said = listed_so reply (book_said ask.List reply ran) said
    of_list (Err e) ran said = let which = book_spent ask.List e ran in notes.exhausted (exhausted_so kinds cells Metadata served is which.0 (said ∙ ap (λ (z : ApiErr). Err z) which.1))

    pub metadata_answered : IsMetadataAnswered served
    metadata_answered = by (by_route kinds cells Metadata served is)
      where
        by : AtNotes ask.List (ListReplies served.config) served.events served.reply ⊎ HasNoMemory served → IsMetadataAnswered served
        by (inl book) = of_list book.ran book.steps book.says
        by (inr none) = notes.lacks none

    pub well_listed : IsListedWhereAllIsWell served
    well_listed = by metadata_answered
      where
        by : IsMetadataAnswered served → IsListedWhereAllIsWell served
        by (notes.listed listed) fresh = inl listed
        by (notes.exhausted e) fresh = absurd (fresh e.count (some_seat served.config served.after.seats e.count served.request e.shown))
        by (notes.lacks none) fresh = inr none

  module _ (name : List ℕ) (is : IsServed kinds cells (SetMetadata name) served) where
    abbrev put : NotesCmd
    put = Put name served.request.body

    noted_so : (reply : NotesReply) → HasBookReplied served put reply → PutReplies reply served.reply → IsNoteAnswered served name
    noted_so says.Noted has (inl said) = notes.noted has said
    noted_so says.Noted has (inr none) = notes.lacks none
    noted_so (says.Full names bytes) has (inl said) = notes.full names bytes has said
    noted_so (says.Full names bytes) has (inr none) = notes.lacks none
    noted_so (says.Listed pairs) has said = absurd said
    noted_so says.NoMemory has none = notes.lacks none

    of_put : (ran : Result NotesReply ApiErr) → NotesRan put served.events ran → NotesReplies PutReplies ran served.reply → IsNoteAnswered served name
    of_put (Ok reply) ran said = noted_so reply (book_said put reply ran) said
    of_put (Err e) ran said = let which = book_spent put e ran in notes.exhausted (exhausted_so kinds cells (SetMetadata name) served is which.0 (said ∙ ap (λ (z : ApiErr). Err z) which.1))

    sets_so : SetsNote name served.request.body served.events served.reply → IsNoteAnswered served name
    sets_so (at.lacks none) = notes.lacks none.1
    sets_so (at.refused unlike (nothing, inl said)) = notes.no_text unlike nothing said
    sets_so (at.refused unlike (nothing, inr none)) = notes.lacks none
    sets_so (at.noted text book) = of_put book.ran book.steps book.says

    pub note_answered : IsNoteAnswered served name
    note_answered = by (by_route kinds cells (SetMetadata name) served is)
      where
        by : SetsNote name served.request.body served.events served.reply ⊎ HasNoMemory served → IsNoteAnswered served name
        by (inl sets) = sets_so sets
        by (inr none) = notes.lacks none

    pub well_noted : IsNotedWhereAllIsWell served name
    well_noted = by note_answered
      where
        by : IsNoteAnswered served name → IsNotedWhereAllIsWell served name
        by (notes.no_text unlike nothing said) text fresh room = absurd (unlike text)
        by (notes.noted has said) text fresh room = inl (record { replied = has; said = said })
        by (notes.full names bytes has said) text fresh room = absurd (room names bytes has)
        by (notes.exhausted e) text fresh room = absurd (fresh e.count (some_seat served.config served.after.seats e.count served.request e.shown))
        by (notes.lacks none) text fresh room = inr none
