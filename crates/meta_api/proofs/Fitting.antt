-- Each reply fits its command.
use Rattle.std.proofs.Common.{inl, inr, ℕ, true, false, cond, List, length, sym, subst}
use Rattle.meta_api.specs.declared.command.Pair.{Pair}
use Rattle.meta_api.specs.declared.command.NotesCmd.{NotesCmd}
use Rattle.meta_api.specs.declared.command.NotesCmd.TheVariants.{Put, List as list}
use Rattle.meta_api.specs.declared.command.NotesReply.{NotesReply}
use Rattle.meta_api.specs.declared.command.NotesReply.TheVariants.{Noted, Full}
use Rattle.meta_api.specs.Book.{put, bytes_of, is_small}
use Rattle.meta_api.specs.History.{Answers, put_reply}
use Rattle.meta_api.specs.Fits.{Fits}

fits_put : (name value : List ℕ) (with_it : List Pair) → Fits (Put name value) (put_reply with_it)
fits_put name value with_it = elim (is_small with_it) as (λ b. Fits (Put name value) (cond b Noted (Full (length with_it) (bytes_of with_it)))) [
  | true ↦ tt
  | false ↦ tt
]

pub reply_fits : (book : List Pair) (cmd : NotesCmd) (reply : NotesReply) → Answers book cmd reply → Fits cmd reply
reply_fits book (Put name value) reply (inl is) = subst (Fits (Put name value)) (sym is) tt
reply_fits book (Put name value) reply (inr is) = subst (Fits (Put name value)) (sym is) (fits_put name value (put (record { name = name; value = value }) book))
reply_fits book list reply (inl is) = subst (Fits list) (sym is) tt
reply_fits book list reply (inr is) = subst (Fits list) (sym is) tt
