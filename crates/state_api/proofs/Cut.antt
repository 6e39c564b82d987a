-- The keys of a bulk get's rows are those of its command.
use Rattle.std.proofs.Common.{◌≡◌, ℕ, List, [], ◌∷◌, map, sym, subst, arith}
use Rattle.std.specs.Prelude.{All}
use Rattle.std.proofs.lemmas.List.Elements.{All-cons, All-tail}
use Rattle.state_core.specs.declared.reply.Reply.{Reply}
use Rattle.state_api.specs.declared.running.Ran.TheVariants.{Replied}
use Rattle.state_api.specs.Ran.{IsAnswer}
use Rattle.std.specs.Str.{IsCharBoundary}
use Rattle.state_core.specs.declared.command.Cmd.{Cmd}
use Rattle.state_core.specs.declared.command.Cmd.TheVariants.{Get, Save, Delete, Bulk, Transact}
use Rattle.state_core.specs.declared.reply.BulkRow.{BulkRow}
use Rattle.state_core.specs.declared.reply.Reply.TheVariants.{Rows}
use Rattle.state_core.specs.Fits.{Fits, key_of}
use Rattle.state_api.specs.Response.{IsCut, skip_of}

all_of : (P : List ℕ → Type 0) (rows : List BulkRow) → All P (map key_of rows) → All (λ row. P row.key) rows
all_of P [] h = λ k d below. absurd (omega (arith, below))
all_of P (row ∷ rows) h = All-cons (λ row. P row.key) row rows (h 0 [] (omega arith)) (all_of P rows (All-tail P row.key (map key_of rows) h))

pub rows_cut : (cmd : Cmd) (rows : List BulkRow) → Fits cmd (Rows rows) → IsCut cmd → All (λ row. IsCharBoundary row.key (skip_of cmd)) rows
rows_cut (Bulk keys skip now) rows fits cut = all_of (λ key. IsCharBoundary key skip) rows (subst (λ z. All (λ key. IsCharBoundary key skip) z) (sym fits) cut)
rows_cut (Get key now) rows fits cut = absurd fits
rows_cut (Save items now) rows fits cut = absurd fits
rows_cut (Delete key etag mode now) rows fits cut = absurd fits
rows_cut (Transact ops now) rows fits cut = absurd fits

pub reply_cut : (cmd : Cmd) (reply : Reply) (rows : List BulkRow) (skip : ℕ) → IsAnswer cmd (Replied reply) → IsCut cmd → reply ≡ Rows rows → skip ≡ skip_of cmd → All (λ row. IsCharBoundary row.key skip) rows
reply_cut cmd reply rows skip answer cut is skip-is = subst (λ n. All (λ row. IsCharBoundary row.key n) rows) (sym skip-is) (rows_cut cmd rows (subst (λ r. Fits cmd r) is answer.0) cut)
