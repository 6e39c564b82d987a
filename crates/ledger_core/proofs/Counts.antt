-- The counters of the books after the standing of one pair has changed.
use Rattle.std.proofs.Common.{◌≡◌, ◌+◌, ℕ, Bool, cond, List, [], ◌++◌, map, Some, ap, ◌∙◌, arith, append-nil}
use Rattle.std.specs.Prelude.{if◌then◌else◌}
use Rattle.ledger_core.specs.declared.plan.Plan.{Plan}
use Rattle.ledger_core.specs.declared.books.Books.{Books}
use Rattle.ledger_core.specs.declared.command.LedgerCmd.{LedgerCmd}
use Rattle.ledger_core.specs.declared.reply.LedgerReply.{LedgerReply}
use Rattle.ledger_core.specs.Standing.{Standing, Status}
use Rattle.ledger_core.specs.Course.{Course, count_of, is_owed, is_done, is_dropped, is_dead, standing_at, row_bytes, is_claim}
use Rattle.ledger_core.specs.Books.{IsIndex, waiting_slot, held_slot, Shows}
use Rattle.ledger_core.specs.After.{moved, fresh_by, added_by, course_after, AreDistinct}
use Rattle.ledger_core.proofs.Lookups.{MovesOnly, sum_moved}

-- what a pair counts among those of a status, and the bytes of its row
abbrev pub unit : (Status → Bool) → Standing → ℕ
unit is s = cond (is s.status) 1 0

abbrev pub weight : Standing → ℕ
weight s = if is_owed s.status then row_bytes s else 0

-- an entry that makes no message
pub only_moves : (course : Course) (cmd : LedgerCmd) (reply : LedgerReply) → fresh_by course cmd reply ≡ [] → added_by course cmd reply ≡ 0
    → course_after course cmd reply ≡ record { made = course.made; claims = course.claims + (if is_claim reply then 1 else 0); book = map (moved cmd reply) course.book }
only_moves course cmd reply none zero =
    λ i. record { made = made i; claims = course.claims + (if is_claim reply then 1 else 0); book = book i }
  where
    made : course.made + added_by course cmd reply ≡ course.made
    made = omega (arith, zero)

    book : map (moved cmd reply) course.book ++ fresh_by course cmd reply ≡ map (moved cmd reply) course.book
    book = ap (λ xs. map (moved cmd reply) course.book ++ xs) none ∙ append-nil (map (moved cmd reply) course.book)

pub shows_moved : (plans : List Plan) (course : Course) (before : Books) (f : Standing → Standing) (k j : ℕ) → MovesOnly f k j → AreDistinct course.book → (s : Standing) → standing_at k j course.book ≡ Some s → Shows plans course before
    → (claims : ℕ) (after : Books) → after.made ≡ before.made → after.claims ≡ claims
    → IsIndex plans waiting_slot (map f course.book) after.waiting → IsIndex plans held_slot (map f course.book) after.held
    → after.owed + unit is_owed s ≡ before.owed + unit is_owed (f s) → after.done + unit is_done s ≡ before.done + unit is_done (f s)
    → after.dropped + unit is_dropped s ≡ before.dropped + unit is_dropped (f s) → after.dead + unit is_dead s ≡ before.dead + unit is_dead (f s)
    → after.bytes + weight s ≡ before.bytes + weight (f s)
    → Shows plans (record { made = course.made; claims = claims; book = map f course.book }) after
shows_moved plans course before f k j only distinct s there shows claims after made_is claims_is waiting held owed done dropped dead bytes = record {
  made = made_is ∙ shows.made;
  claims = claims_is;
  waiting = waiting;
  held = held;
  owed = counted is_owed after.owed before.owed shows.owed owed;
  done = counted is_done after.done before.done shows.done done;
  dropped = counted is_dropped after.dropped before.dropped shows.dropped dropped;
  dead = counted is_dead after.dead before.dead shows.dead dead;
  bytes = let e = sum_moved weight f k j only course.book distinct s there in let g = shows.bytes in omega (arith, e, g, bytes);
}
  where
    counted : (is : Status → Bool) (new old : ℕ) → old ≡ count_of is course.book → new + unit is s ≡ old + unit is (f s) → new ≡ count_of is (map f course.book)
    counted is new old e g = let m = sum_moved (unit is) f k j only course.book distinct s there in omega (arith, m, e, g)
