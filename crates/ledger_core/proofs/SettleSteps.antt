-- The replies to a `Settle`.
use Rattle.std.proofs.Common.{◌≡◌, ◌+◌, ◌-◌, ℕ, Bool, true, false, cond, List, [], map, length, Some, None, refl, sym, ap, subst, ◌∙◌, arith, add-zero}
use Rattle.std.specs.Prelude.{◌⊎◌, ◌==◌, ◌&&◌, option_map, unwrap_or, if◌then◌else◌}
use Rattle.std.specs.FinMap.{find, put}
use Rattle.ledger_core.specs.declared.place.Place.{Place}
use Rattle.ledger_core.specs.declared.plan.Plan.{Plan}
use Rattle.ledger_core.specs.declared.books.Books.{Books}
use Rattle.ledger_core.specs.declared.command.LedgerCmd.{LedgerCmd}
use Rattle.ledger_core.specs.declared.reply.LedgerReply.{LedgerReply}
use Rattle.ledger_core.specs.Place.{place_order}
use Rattle.ledger_core.specs.Row.{Row, Entry}
use Rattle.ledger_core.specs.Tree.{without}
use Rattle.ledger_core.specs.Size.{path_bytes}
use Rattle.ledger_core.specs.Standing.{Standing, Status, owed, settles, takes, status_by, claim_by, due_by}
use Rattle.ledger_core.specs.Course.{Course, is_owed, is_done, is_dropped, is_dead, standing_at, row_bytes, is_claim}
use Rattle.ledger_core.specs.Books.{row_for, slotted, numbered, IsIndex, waiting_slot, held_slot, Shows, moved_to}
use Rattle.ledger_core.specs.After.{moved, settled_status, fresh_by, added_by, course_after, IsBook, InHand}
use Rattle.ledger_core.proofs.Counts.{unit, weight, only_moves, shows_moved}
use Rattle.ledger_core.proofs.Indexes.{look_put, look_out, look_same}
use Rattle.ledger_core.proofs.Lookups.{MovesOnly, standing_at_key, sum_moved}
use Rattle.ledger_core.proofs.Moves.{moved_other, moved_settled, settled_to, look_of, others_seen, moved_seen, Held, held_parts, held_waits_not, held_stands, owed_status}

-- an entry that settles the pair k, j and takes none
pub record Settles (k j : ℕ) (cmd : LedgerCmd) (reply : LedgerReply) : Type 0 where
  pub one : (m sub : ℕ) → settles m sub cmd reply ≡ (m == k) && (sub == j)
  pub none : (m sub : ℕ) → takes m sub cmd reply ≡ false

moves_only : (k j : ℕ) (cmd : LedgerCmd) (reply : LedgerReply) → Settles k j cmd reply → MovesOnly (moved cmd reply) k j
moves_only k j cmd reply is = record { pairs = λ s. refl; others = λ s e. moved_other cmd reply s (is.one s.pair.no s.pair.sub ∙ e) (is.none s.pair.no s.pair.sub) }

settled_here : (k j : ℕ) (cmd : LedgerCmd) (reply : LedgerReply) (book : List Standing) (s : Standing) → Settles k j cmd reply → standing_at k j book ≡ Some s → moved cmd reply s ≡ settled_to cmd reply s
settled_here k j cmd reply book s is there = moved_settled cmd reply s (is.one s.pair.no s.pair.sub ∙ standing_at_key k j s book there) (is.none s.pair.no s.pair.sub)

-- the held rows without the one that was taken out
held_out : (plans : List Plan) (f : Standing → Standing) (k j claim : ℕ) (book : List Standing) (entries : List Entry) (s : Standing) → MovesOnly f k j → Held claim k j book s → held_slot (f s) ≡ None → IsIndex plans held_slot book entries
    → IsIndex plans held_slot (map f book) (without (record { at = claim; no = k; sub = j }) entries)
held_out plans f k j claim book entries s only held gone index =
    look_out (look_of plans held_slot book) (look_of plans held_slot (map f book)) entries claim k j (row_for plans s) index
    (ap (slotted plans held_slot) held.there ∙ ap (numbered (row_for plans s)) (held_stands s claim held.owed_is held.claim_is))
    (moved_seen plans held_slot f k j book s only held.there ∙ ap (numbered (row_for plans (f s))) gone)
    (others_seen plans held_slot f k j book only)

unclaimed : (s : Standing) → s.claim ≡ None → held_slot s ≡ None
unclaimed s e = by_bool (is_owed s.status)
  where
    by_bool : (b : Bool) → (if b then s.claim else None) ≡ None
    by_bool true = e
    by_bool false = refl

-- ---- the row waits again

pub requeued : (plans : List Plan) (course : Course) (place : Place) (row again : Row) (s : Standing) (mid after : Books) (cmd : LedgerCmd) (reply : LedgerReply) (due : ℕ)
    → IsBook course → InHand plans course place row s mid → Settles place.no place.sub cmd reply
    → fresh_by course cmd reply ≡ [] → added_by course cmd reply ≡ 0 → is_claim reply ≡ false → status_by reply ≡ owed → claim_by reply ≡ None → due_by s.pair.moment cmd reply ≡ due
    → again ≡ row_for plans (settled_to cmd reply s) → after ≡ record mid { waiting = put place_order (moved_to due place) again mid.waiting }
    → Shows plans (course_after course cmd reply) after
requeued plans course place row again s mid after cmd reply due is_book hand is none zero no_claim status_is claim_is due_is row_is after_is =
    subst (λ c. Shows plans c after) (sym (only_moves course cmd reply none zero))
    (subst (λ b. Shows plans (record { made = course.made; claims = course.claims + (if is_claim reply then 1 else 0); book = map (moved cmd reply) course.book }) b) (sym whole) shown)
  where
    held : Held place.at place.no place.sub course.book s
    held = held_parts place.at place.no place.sub course.book s hand.there

    only : MovesOnly (moved cmd reply) place.no place.sub
    only = moves_only place.no place.sub cmd reply is

    hit : moved cmd reply s ≡ settled_to cmd reply s
    hit = settled_here place.no place.sub cmd reply course.book s is held.there

    path : (path : List ℕ) × (s.pair.path ≡ Some path)
    path = is_book.pathed place.no place.sub s held.there held.owed_is

    status : (moved cmd reply s).status ≡ owed
    status = ap (λ (t : Standing). t.status) hit ∙ ap (λ p. settled_status p reply) path.1 ∙ status_is

    claim : (moved cmd reply s).claim ≡ None
    claim = ap (λ (t : Standing). t.claim) hit ∙ claim_is

    same : (moved cmd reply s).status ≡ s.status
    same = status ∙ sym (owed_status s.status held.owed_is)

    whole : after ≡ record hand.before { held = without place hand.before.held; waiting = put place_order (moved_to due place) again hand.before.waiting }
    whole = after_is ∙ ap (λ (b : Books). record b { waiting = put place_order (moved_to due place) again b.waiting }) hand.books_are

    waits : waiting_slot (moved cmd reply s) ≡ Some due
    waits =
        ap (λ st. if is_owed st && Rattle.std.specs.Prelude.is_none (moved cmd reply s).claim then Some (moved cmd reply s).due else None) status
        ∙ ap (λ c. if Rattle.std.specs.Prelude.is_none c then Some (moved cmd reply s).due else None) claim
        ∙ ap (λ (t : Standing). Some t.due) hit ∙ ap (λ n. Some n) due_is

    count : (is_it : Status → Bool) (n : ℕ) → n + unit is_it s ≡ n + unit is_it (moved cmd reply s)
    count is_it n = ap (λ st. n + cond (is_it st) 1 0) (sym same)

    shown : Shows plans (record { made = course.made; claims = course.claims + (if is_claim reply then 1 else 0); book = map (moved cmd reply) course.book })
        (record hand.before { held = without place hand.before.held; waiting = put place_order (moved_to due place) again hand.before.waiting })
    shown =
        shows_moved plans course hand.before (moved cmd reply) place.no place.sub only is_book.distinct s held.there hand.shows
        (course.claims + (if is_claim reply then 1 else 0)) (record hand.before { held = without place hand.before.held; waiting = put place_order (moved_to due place) again hand.before.waiting })
        refl (hand.shows.claims ∙ sym (ap (λ b. course.claims + (if b then 1 else 0)) no_claim ∙ add-zero course.claims))
        (look_put (look_of plans waiting_slot course.book) (look_of plans waiting_slot (map (moved cmd reply) course.book)) hand.before.waiting due place.no place.sub again hand.shows.waiting
        (ap (slotted plans waiting_slot) held.there ∙ ap (numbered (row_for plans s)) (held_waits_not s place.at held.claim_is))
        (moved_seen plans waiting_slot (moved cmd reply) place.no place.sub course.book s only held.there ∙ ap (numbered (row_for plans (moved cmd reply s))) waits ∙ ap (λ r. Some (due, r)) (ap (row_for plans) hit ∙ sym row_is))
        (others_seen plans waiting_slot (moved cmd reply) place.no place.sub course.book only))
        (held_out plans (moved cmd reply) place.no place.sub place.at course.book hand.before.held s only held (unclaimed (moved cmd reply s) claim) hand.shows.held)
        (count is_owed hand.before.owed) (count is_done hand.before.done) (count is_dropped hand.before.dropped) (count is_dead hand.before.dead)
        (ap (λ st. hand.before.bytes + (if is_owed st then row_bytes s else 0)) (sym same))

-- ---- the row is gone

-- the counters after a row left with a status
pub record IsClosed (place : Place) (row : Row) (status : Status) (before after : Books) : Type 0 where
  pub waiting : after.waiting ≡ before.waiting
  pub held : after.held ≡ without place before.held
  pub made : after.made ≡ before.made
  pub claims : after.claims ≡ before.claims
  pub owed_is : after.owed ≡ before.owed - 1
  pub done_is : after.done ≡ before.done + cond (is_done status) 1 0
  pub dropped_is : after.dropped ≡ before.dropped + cond (is_dropped status) 1 0
  pub dead_is : after.dead ≡ before.dead + cond (is_dead status) 1 0
  pub bytes : after.bytes ≡ before.bytes - (length row.event + length row.path)

-- what is known of a pair that an entry closes
pub shows_closed : (plans : List Plan) (course : Course) (place : Place) (row : Row) (s : Standing) (mid after : Books) (cmd : LedgerCmd) (reply : LedgerReply) (status : Status)
    → IsBook course → (hand : InHand plans course place row s mid) → Settles place.no place.sub cmd reply → status_by reply ≡ status → is_owed status ≡ false → claim_by reply ≡ None → IsClosed place row status hand.before after
    → Shows plans (record { made = course.made; claims = course.claims; book = map (moved cmd reply) course.book }) after
shows_closed plans course place row s mid after cmd reply status is_book hand is status_is not_owed claim_is closed =
    shows_moved plans course hand.before (moved cmd reply) place.no place.sub only is_book.distinct s held.there hand.shows course.claims after
    closed.made (closed.claims ∙ hand.shows.claims)
    (subst (IsIndex plans waiting_slot (map (moved cmd reply) course.book)) (sym closed.waiting)
    (look_same (look_of plans waiting_slot course.book) (look_of plans waiting_slot (map (moved cmd reply) course.book)) hand.before.waiting hand.shows.waiting seen))
    (subst (IsIndex plans held_slot (map (moved cmd reply) course.book)) (sym closed.held)
    (held_out plans (moved cmd reply) place.no place.sub place.at course.book hand.before.held s only held (unclaimed (moved cmd reply s) claim) hand.shows.held))
    owed_count
    (count is_done after.done hand.before.done closed.done_is refl)
    (count is_dropped after.dropped hand.before.dropped closed.dropped_is refl)
    (count is_dead after.dead hand.before.dead closed.dead_is refl)
    bytes_count
  where
    held : Held place.at place.no place.sub course.book s
    held = held_parts place.at place.no place.sub course.book s hand.there

    only : MovesOnly (moved cmd reply) place.no place.sub
    only = moves_only place.no place.sub cmd reply is

    hit : moved cmd reply s ≡ settled_to cmd reply s
    hit = settled_here place.no place.sub cmd reply course.book s is held.there

    path : (path : List ℕ) × (s.pair.path ≡ Some path)
    path = is_book.pathed place.no place.sub s held.there held.owed_is

    now_is : (moved cmd reply s).status ≡ status
    now_is = ap (λ (t : Standing). t.status) hit ∙ ap (λ p. settled_status p reply) path.1 ∙ status_is

    was : s.status ≡ owed
    was = owed_status s.status held.owed_is

    claim : (moved cmd reply s).claim ≡ None
    claim = ap (λ (t : Standing). t.claim) hit ∙ claim_is

    waits_not : waiting_slot (moved cmd reply s) ≡ None
    waits_not = ap (λ b. if b && Rattle.std.specs.Prelude.is_none (moved cmd reply s).claim then Some (moved cmd reply s).due else None) (ap is_owed now_is ∙ not_owed)

    seen : (m sub : ℕ) → look_of plans waiting_slot (map (moved cmd reply) course.book) m sub ≡ look_of plans waiting_slot course.book m sub
    seen m sub =
        Rattle.ledger_core.proofs.Indexes.by_pair (λ n j. look_of plans waiting_slot (map (moved cmd reply) course.book) n j ≡ look_of plans waiting_slot course.book n j) place.no place.sub m sub
        (moved_seen plans waiting_slot (moved cmd reply) place.no place.sub course.book s only held.there ∙ ap (numbered (row_for plans (moved cmd reply s))) waits_not
        ∙ sym (ap (slotted plans waiting_slot) held.there ∙ ap (numbered (row_for plans s)) (held_waits_not s place.at held.claim_is)))
        (λ apart. others_seen plans waiting_slot (moved cmd reply) place.no place.sub course.book only m sub apart)

    count : (is_it : Status → Bool) (new old : ℕ) → new ≡ old + cond (is_it status) 1 0 → is_it owed ≡ false → new + unit is_it s ≡ old + unit is_it (moved cmd reply s)
    count is_it new old e not_it =
        let a : unit is_it s ≡ 0 = ap (λ st. cond (is_it st) 1 0) was ∙ ap (λ b. cond b 1 0) not_it in
        let b : unit is_it (moved cmd reply s) ≡ cond (is_it status) 1 0 = ap (λ st. cond (is_it st) 1 0) now_is in
        omega (arith, a, b, e)

    one : unit is_owed s ≡ 1
    one = ap (λ st. cond (is_owed st) 1 0) was

    zero_now : unit is_owed (moved cmd reply s) ≡ 0
    zero_now = ap (λ st. cond (is_owed st) 1 0) now_is ∙ ap (λ b. cond b 1 0) not_owed

    owed_count : after.owed + unit is_owed s ≡ hand.before.owed + unit is_owed (moved cmd reply s)
    owed_count =
        let m = sum_moved (unit is_owed) (moved cmd reply) place.no place.sub only course.book is_book.distinct s held.there in
        let e = closed.owed_is in let g = hand.shows.owed in
        omega (arith, m, e, g, one, zero_now)

    weighs : weight s ≡ length row.event + length row.path
    weighs =
        ap (λ b. if b then row_bytes s else 0) held.owed_is
        ∙ ap (path_bytes (length s.pair.event)) path.1
        ∙ sym (ap (λ (r : Row). length r.event + length r.path) hand.row_is ∙ ap (λ o. length s.pair.event + length (unwrap_or o [])) path.1)

    weighs_not : weight (moved cmd reply s) ≡ 0
    weighs_not = ap (λ b. if b then row_bytes (moved cmd reply s) else 0) (ap is_owed now_is ∙ not_owed)

    bytes_count : after.bytes + weight s ≡ hand.before.bytes + weight (moved cmd reply s)
    bytes_count =
        let m = sum_moved weight (moved cmd reply) place.no place.sub only course.book is_book.distinct s held.there in
        let e = closed.bytes in let g = hand.shows.bytes in
        omega (arith, m, e, g, weighs, weighs_not)

-- and it makes no message
pub closed_shows : (plans : List Plan) (course : Course) (place : Place) (row : Row) (s : Standing) (mid after : Books) (cmd : LedgerCmd) (reply : LedgerReply) (status : Status)
    → IsBook course → (hand : InHand plans course place row s mid) → Settles place.no place.sub cmd reply → status_by reply ≡ status → is_owed status ≡ false → claim_by reply ≡ None → is_claim reply ≡ false
    → fresh_by course cmd reply ≡ [] → added_by course cmd reply ≡ 0 → IsClosed place row status hand.before after
    → Shows plans (course_after course cmd reply) after
closed_shows plans course place row s mid after cmd reply status is_book hand is status_is not_owed claim_is no_claim none zero closed =
    subst (λ c. Shows plans c after) (sym (only_moves course cmd reply none zero ∙ claims))
    (shows_closed plans course place row s mid after cmd reply status is_book hand is status_is not_owed claim_is closed)
  where
    claims : ◌≡◌ {A = Course} (record { made = course.made; claims = course.claims + (if is_claim reply then 1 else 0); book = map (moved cmd reply) course.book }) (record { made = course.made; claims = course.claims; book = map (moved cmd reply) course.book })
    claims = λ i. record { made = course.made; claims = (ap (λ b. course.claims + (if b then 1 else 0)) no_claim ∙ add-zero course.claims) i; book = map (moved cmd reply) course.book }
