-- The history of a book.
use Rattle.std.specs.Prelude.{◌≡◌, ◌⊎◌, List, length, fold, if◌then◌else◌}
use Rattle.turn_cell.specs.declared.entry.Entry.{Entry}
use Rattle.meta_api.specs.declared.command.Pair.{Pair}
use Rattle.meta_api.specs.declared.command.NotesCmd.{NotesCmd}
use Rattle.meta_api.specs.declared.command.NotesCmd.TheVariants.{Put, List as list}
use Rattle.meta_api.specs.declared.command.NotesReply.{NotesReply}
use Rattle.meta_api.specs.declared.command.NotesReply.TheVariants.{Noted, Full, Listed, NoMemory}
use Rattle.meta_api.specs.Book.{put, bytes_of, is_small}

-- an entry of a book's history
abbrev pub Step : Type 0
Step = Entry NotesCmd NotesReply

-- ---- what is noted

-- a pair is in the book from the entry on that answered that it was noted
abbrev pub after_put : List Pair → Pair → NotesReply → List Pair
after_put book pair Noted = put pair book
after_put book pair (Full names bytes) = book
after_put book pair (Listed pairs) = book
after_put book pair NoMemory = book

abbrev pub after_cmd : List Pair → NotesCmd → NotesReply → List Pair
after_cmd book (Put name value) reply = after_put book (record { name = name; value = value }) reply
after_cmd book list reply = book

abbrev pub after_entry : List Pair → Step → List Pair
after_entry book entry = after_cmd book entry.cmd entry.reply

-- the book that a history leads to
abbrev pub book_after : List Pair → List Step → List Pair
book_after first history = fold after_entry first history

-- ---- replies

-- a pair is noted, unless the book with it would be too large
abbrev pub put_reply : List Pair → NotesReply
put_reply with_it = if is_small with_it then Noted else Full (length with_it) (bytes_of with_it)

abbrev pub PutAnswers : List Pair → Pair → NotesReply → Type 0
PutAnswers book pair reply = (reply ≡ NoMemory) ⊎ (reply ≡ put_reply (put pair book))

abbrev pub Answers : List Pair → NotesCmd → NotesReply → Type 0
Answers book (Put name value) reply = PutAnswers book (record { name = name; value = value }) reply
Answers book list reply = (reply ≡ NoMemory) ⊎ (reply ≡ Listed book)

-- an entry is a step after others
pub record IsStep (first : List Pair) (history : List Step) (entry : Step) : Type 0 where
  pub answers : Answers (book_after first history) entry.cmd entry.reply
  pub mark : entry.mark ≡ 0
