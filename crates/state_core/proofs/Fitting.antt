-- Each reply fits its command.
use Rattle.std.proofs.Common.{◌≡◌, ◌≢◌, inl, inr, ◌+◌, ◌++◌, ◌≤◌, ◌∷◌, [], ℕ, true, false, List, Option, Some, None, nat_lt, length, map, fold, refl, ap, sym, subst, arith, cond}
use Rattle.std.proofs.lemmas.Bool.{false≢true}
use Rattle.std.proofs.lemmas.Bool.Decides.{nat_tests}
use Rattle.std.proofs.lemmas.List.{length-map}
use Rattle.keeper_core.specs.Rows.{Rows, Row}
use Rattle.state_core.specs.declared.command.Mode.{Mode}
use Rattle.state_core.specs.declared.command.Item.{Item}
use Rattle.state_core.specs.declared.command.Op.{Op}
use Rattle.state_core.specs.declared.command.Op.TheVariants.{Upsert}
use Rattle.state_core.specs.declared.command.Cmd.{Cmd}
use Rattle.state_core.specs.declared.command.Cmd.TheVariants.{Get, Save, Delete, Bulk, Transact}
use Rattle.state_core.specs.declared.reply.Reply.{Reply}
use Rattle.state_core.specs.declared.reply.Reply.TheVariants as reply
use Rattle.state_core.specs.Current.{live_at}
use Rattle.state_core.specs.Write.{Write}
use Rattle.state_core.specs.Judged.{Judged, ops_of, key_of, passes, write_of, version_in, passed, refused, judge, unjudged}
use Rattle.state_core.specs.Reply.{Held, reading, bulk_row, bulk_len, bulk_reading, verdict, is_spent, size_with, refusal_or, outcome, has_commit, judged, writes_of, reply_to, IsReply}
use Rattle.state_core.specs.Fits as fits
use Rattle.state_core.specs.Fits.{ArePlaces, MayWrite, Fits}

-- ---- places

longer : (low high : ℕ) (places : List ℕ) → ArePlaces low high places → ArePlaces low (high + 1) places
longer low high [] are = tt
longer low high (place ∷ places) are = (are.0, omega (arith, are.1), longer (place + 1) high places are.2)

one_more : (low high : ℕ) (places : List ℕ) → low ≤ high → ArePlaces low high places → ArePlaces low (high + 1) (places ++ high ∷ [])
one_more low high [] within are = (within, omega arith, tt)
one_more low high (place ∷ places) within are = (are.0, omega (arith, are.1), one_more (place + 1) high places (omega (arith, are.1)) are.2)

module _ (rows : Rows) (next moment : ℕ) where
  -- the refused places of operations that are judged on
  pub are_places : (so_far : Judged) (ops : List Op) → ArePlaces 0 so_far.place so_far.refused → ArePlaces 0 (so_far.place + length ops) (fold (judge rows next moment) so_far ops).refused
  are_places so_far [] are = subst (λ n. ArePlaces 0 n so_far.refused) (omega arith) are
  are_places so_far (op ∷ ops) are =
      let version = version_in rows next moment so_far.writes (key_of op) in
      let w = write_of moment op version in
      subst (λ n. ArePlaces 0 n (fold (judge rows next moment) so_far (op ∷ ops)).refused) (omega arith)
      (elim (passes op version) as (λ b. ArePlaces 0 ((so_far.place + 1) + length ops) (fold (judge rows next moment) (cond b (passed so_far w) (refused so_far)) ops).refused) [
        | true ↦ are_places (passed so_far w) ops (longer 0 so_far.place so_far.refused are)
        | false ↦ are_places (refused so_far) ops (one_more 0 so_far.place so_far.refused (omega arith) are)
      ])

-- ---- readings

fits_reading : (key : List ℕ) (now : ℕ) (row : Option Row) → Fits (Get key now) (reading row)
fits_reading key now None = tt
fits_reading key now (Some row) = tt

same_keys : (rows : Rows) (moment : ℕ) (keys : List (List ℕ)) → map fits.key_of (map (bulk_row rows moment) keys) ≡ keys
same_keys rows moment [] = refl
same_keys rows moment (key ∷ keys) = ap (λ (z : List (List ℕ)). key ∷ z) (same_keys rows moment keys)

fits_bulk : (rows : Rows) (moment : ℕ) (keys : List (List ℕ)) (skip now : ℕ) → Fits (Bulk keys skip now) (bulk_reading rows moment keys)
fits_bulk rows moment keys skip now =
    let len = bulk_len rows moment keys in
    elim (nat_lt 67108864 len) as (λ b. nat_lt 67108864 len ≡ b → Fits (Bulk keys skip now) (cond b (reply.TooLong len) (reply.Rows (map (bulk_row rows moment) keys)))) [
      | true ↦ λ long. grind (arith, nat_tests)
      | false ↦ λ short. same_keys rows moment keys
    ] refl

-- ---- writes

fits_refusal : (h : Held) (moment : ℕ) (cmd : Cmd) (writes : List Write) (done : Reply) → MayWrite cmd → Fits cmd done → Fits cmd (refusal_or h moment writes done)
fits_refusal h moment cmd writes done may fit =
    elim (is_spent h.next writes) as (λ b. Fits cmd (cond b (reply.Spent h.next) (cond (nat_lt h.limit (size_with h moment writes)) (reply.Full (size_with h moment writes)) done))) [
      | true ↦ may
      | false ↦ elim (nat_lt h.limit (size_with h moment writes)) as (λ b. Fits cmd (cond b (reply.Full (size_with h moment writes)) done)) [ true ↦ may | false ↦ fit ]
    ]

fits_outcome : (h : Held) (moment : ℕ) (cmd : Cmd) (writes : List Write) (done : Reply) → MayWrite cmd → Fits cmd done → Fits cmd (outcome h moment writes done)
fits_outcome h moment cmd [] done may fit = fit
fits_outcome h moment cmd (write ∷ writes) done may fit = fits_refusal h moment cmd (write ∷ writes) done may fit

some_place : (place : ℕ) (places : List ℕ) → (place ∷ places) ≢ []
some_place place places is = cc

fits_save : (items : List Item) (now : ℕ) (places : List ℕ) → ArePlaces 0 (length items) places → Fits (Save items now) (verdict (Save items now) places)
fits_save items now [] are = tt
fits_save items now (place ∷ places) are = (some_place place places, are)

fits_delete : (key : List ℕ) (etag : Option (List ℕ)) (mode : Mode) (now : ℕ) (places : List ℕ) → ArePlaces 0 1 places → Fits (Delete key etag mode now) (verdict (Delete key etag mode now) places)
fits_delete key etag mode now [] are = tt
fits_delete key etag mode now (place ∷ places) are = omega (arith, are.1)

fits_transact : (ops : List Op) (now : ℕ) (places : List ℕ) → ArePlaces 0 (length ops) places → Fits (Transact ops now) (verdict (Transact ops now) places)
fits_transact ops now [] are = tt
fits_transact ops now (place ∷ places) are = are.1

-- the refused places of a command are places of its items
places_in : (h : Held) (moment : ℕ) (cmd : Cmd) → ArePlaces 0 (length (ops_of cmd)) (judged h moment cmd).refused
places_in h moment cmd = subst (λ (n : ℕ). ArePlaces 0 n (judged h moment cmd).refused) (omega arith) (are_places h.rows h.next moment unjudged (ops_of cmd) tt)

fits_to : (h : Held) (moment : ℕ) (cmd : Cmd) → Fits cmd (reply_to h moment cmd)
fits_to h moment (Get key now) = fits_reading key now (live_at h.rows moment key)
fits_to h moment (Bulk keys skip now) = fits_bulk h.rows moment keys skip now
fits_to h moment (Save items now) =
    let cmd = Save items now in
    fits_outcome h moment cmd (writes_of h moment cmd) (verdict cmd (judged h moment cmd).refused) tt
    (fits_save items now (judged h moment cmd).refused (subst (λ n. ArePlaces 0 n (judged h moment cmd).refused) (length-map items (λ item. Upsert item)) (places_in h moment cmd)))
fits_to h moment (Delete key etag mode now) =
    let cmd = Delete key etag mode now in
    fits_outcome h moment cmd (writes_of h moment cmd) (verdict cmd (judged h moment cmd).refused) tt (fits_delete key etag mode now (judged h moment cmd).refused (places_in h moment cmd))
fits_to h moment (Transact ops now) =
    let cmd = Transact ops now in
    fits_outcome h moment cmd (writes_of h moment cmd) (verdict cmd (judged h moment cmd).refused) tt (fits_transact ops now (judged h moment cmd).refused (places_in h moment cmd))

-- only a command that may write makes a commit
may_write : (h : Held) (moment : ℕ) (cmd : Cmd) → has_commit h.next (writes_of h moment cmd) ≡ true → MayWrite cmd
may_write h moment (Get key now) has = absurd (false≢true has)
may_write h moment (Bulk keys skip now) has = absurd (false≢true has)
may_write h moment (Save items now) has = tt
may_write h moment (Delete key etag mode now) has = tt
may_write h moment (Transact ops now) has = tt

pub reply_fits : (h : Held) (moment : ℕ) (cmd : Cmd) (faulted : Type 0) (answer : Reply) → IsReply h moment cmd faulted answer → Fits cmd answer
reply_fits h moment cmd faulted answer (inl is) = subst (Fits cmd) (sym is) (fits_to h moment cmd)
reply_fits h moment cmd faulted answer (inr (inl is)) = subst (Fits cmd) (sym is) tt
reply_fits h moment cmd faulted answer (inr (inr failed)) = subst (Fits cmd) (sym failed.0) (may_write h moment cmd failed.1)
