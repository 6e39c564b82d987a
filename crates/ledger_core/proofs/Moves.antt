-- What one entry makes of the standings that were there.
use Rattle.std.proofs.Common.{◌≡◌, ℕ, Bool, true, false, List, [], ◌∷◌, ◌++◌, map, Option, Some, None, refl, ap, subst, ◌∙◌}
use Rattle.std.specs.Prelude.{◌==◌, ◌&&◌, ◌||◌, is_none, option_map, if◌then◌else◌}
use Rattle.std.proofs.lemmas.Bool.{false≢true, and_parts, eqb-true}
use Rattle.ledger_core.specs.declared.plan.Plan.{Plan}
use Rattle.ledger_core.specs.declared.command.LedgerCmd.{LedgerCmd}
use Rattle.ledger_core.specs.declared.reply.LedgerReply.{LedgerReply}
use Rattle.ledger_core.specs.Standing.{Standing, Status, owed, done, dropped, dead, settles, takes, claim_by, due_by, words_by}
use Rattle.ledger_core.specs.Course.{standing_at, is_owed, is_claimed, is_held, held_at, kept_if}
use Rattle.ledger_core.specs.Books.{row_for, slotted, IsIndex, row_at, held_slot, waiting_slot}
use Rattle.ledger_core.specs.After.{moved, settled_status}
use Rattle.ledger_core.proofs.Lookups.{MovesOnly, standing_at-map, standing_at_key, is_pair_other}
use Rattle.ledger_core.proofs.Indexes.{Look, OthersStay}

pub moved_other : (cmd : LedgerCmd) (reply : LedgerReply) (s : Standing) → settles s.pair.no s.pair.sub cmd reply ≡ false → takes s.pair.no s.pair.sub cmd reply ≡ false → moved cmd reply s ≡ s
moved_other cmd reply s e f = λ i. record {
  pair = s.pair;
  status = if e i then settled_status s.pair.path reply else s.status;
  claim = if f i || e i then claim_by reply else s.claim;
  due = if e i then due_by s.pair.moment cmd reply else s.due;
  words = if e i then words_by cmd reply ++ s.words else s.words;
}

-- a pair that the entry settles
abbrev pub settled_to : LedgerCmd → LedgerReply → Standing → Standing
settled_to cmd reply s = record {
  pair = s.pair;
  status = settled_status s.pair.path reply;
  claim = claim_by reply;
  due = due_by s.pair.moment cmd reply;
  words = words_by cmd reply ++ s.words;
}

pub moved_settled : (cmd : LedgerCmd) (reply : LedgerReply) (s : Standing) → settles s.pair.no s.pair.sub cmd reply ≡ true → takes s.pair.no s.pair.sub cmd reply ≡ false → moved cmd reply s ≡ settled_to cmd reply s
moved_settled cmd reply s e f = λ i. record {
  pair = s.pair;
  status = if e i then settled_status s.pair.path reply else s.status;
  claim = if f i || e i then claim_by reply else s.claim;
  due = if e i then due_by s.pair.moment cmd reply else s.due;
  words = if e i then words_by cmd reply ++ s.words else s.words;
}

-- one that the entry takes
abbrev pub taken_to : LedgerReply → Standing → Standing
taken_to reply s = record { pair = s.pair; status = s.status; claim = claim_by reply; due = s.due; words = s.words }

pub moved_taken : (cmd : LedgerCmd) (reply : LedgerReply) (s : Standing) → settles s.pair.no s.pair.sub cmd reply ≡ false → takes s.pair.no s.pair.sub cmd reply ≡ true → moved cmd reply s ≡ taken_to reply s
moved_taken cmd reply s e f = λ i. record {
  pair = s.pair;
  status = if e i then settled_status s.pair.path reply else s.status;
  claim = if f i || e i then claim_by reply else s.claim;
  due = if e i then due_by s.pair.moment cmd reply else s.due;
  words = if e i then words_by cmd reply ++ s.words else s.words;
}

pub map_same : (f : Standing → Standing) → ((s : Standing) → f s ≡ s) → (book : List Standing) → map f book ≡ book
map_same f same [] = refl
map_same f same (s ∷ book) = ap (λ x. x ∷ map f book) (same s) ∙ ap (λ xs. s ∷ xs) (map_same f same book)

-- ---- what an index looks at

abbrev pub look_of : List Plan → (Standing → Option ℕ) → List Standing → Look
look_of plans slot book m sub = slotted plans slot (standing_at m sub book)

-- other pairs are seen as before
pub others_seen : (plans : List Plan) (slot : Standing → Option ℕ) (f : Standing → Standing) (k j : ℕ) (book : List Standing) → MovesOnly f k j → OthersStay (look_of plans slot book) (look_of plans slot (map f book)) k j
others_seen plans slot f k j book only m sub apart =
    ap (slotted plans slot) (standing_at-map f only.pairs m sub book ∙ same (standing_at m sub book) refl)
  where
    same : (o : Option Standing) → standing_at m sub book ≡ o → option_map f o ≡ o
    same None e = refl
    same (Some s) e = ap (λ x. Some x) (only.others s (is_pair_other m sub k j s.pair (standing_at_key m sub s book e) apart))

pub moved_seen : (plans : List Plan) (slot : Standing → Option ℕ) (f : Standing → Standing) (k j : ℕ) (book : List Standing) (s : Standing) → MovesOnly f k j → standing_at k j book ≡ Some s → look_of plans slot (map f book) k j ≡ slotted plans slot (Some (f s))
moved_seen plans slot f k j book s only e = ap (slotted plans slot) (standing_at-map f only.pairs k j book ∙ ap (option_map f) e)

-- ---- held rows

-- an index of held rows gives the row that is held under a claim
pub held_row : (plans : List Plan) (claim : ℕ) (o : Option Standing) → row_at claim (slotted plans held_slot o) ≡ option_map (row_for plans) (kept_if (is_held claim) o)
held_row plans claim None = refl
held_row plans claim (Some s) = by_status s.status s.claim
  where
    by_number : (b : Bool) → (if b then Some (row_for plans s) else None) ≡ option_map (row_for plans) (if b then Some s else None)
    by_number true = refl
    by_number false = refl

    by_status : (status : Status) (c : Option ℕ)
        → row_at claim (Rattle.ledger_core.specs.Books.numbered (row_for plans s) (if is_owed status then c else None)) ≡ option_map (row_for plans) (if is_owed status && is_claimed claim c then Some s else None)
    by_status owed None = refl
    by_status owed (Some number) = by_number (number == claim)
    by_status done c = refl
    by_status dropped c = refl
    by_status dead c = refl

-- what is held under a claim
pub record Held (claim k j : ℕ) (book : List Standing) (s : Standing) : Type 0 where
  pub there : standing_at k j book ≡ Some s
  pub owed_is : is_owed s.status ≡ true
  pub claim_is : s.claim ≡ Some claim

pub held_parts : (claim k j : ℕ) (book : List Standing) (s : Standing) → held_at claim k j book ≡ Some s → Held claim k j book s
held_parts claim k j book s e = by_option (standing_at k j book) refl e
  where
    claimed : (c : Option ℕ) → is_claimed claim c ≡ true → c ≡ Some claim
    claimed None f = absurd (false≢true f)
    claimed (Some number) f = ap (λ n. Some n) (eqb-true number claim f)

    found : (t : Standing) (b : Bool) → is_held claim t ≡ b → standing_at k j book ≡ Some t → (if b then Some t else None) ≡ Some s → Held claim k j book s
    found t true h f g =
        let same = Rattle.std.proofs.lemmas.Option.same_Some t s g in
        let parts = and_parts _ _ h in
        record { there = f ∙ g; owed_is = subst (λ (x : Standing). is_owed x.status ≡ true) same parts.0; claim_is = subst (λ (x : Standing). x.claim ≡ Some claim) same (claimed t.claim parts.1) }
    found t false h f g = absurd (Rattle.std.proofs.lemmas.Option.none-some s g)

    by_option : (o : Option Standing) → standing_at k j book ≡ o → kept_if (is_held claim) o ≡ Some s → Held claim k j book s
    by_option None f g = absurd (Rattle.std.proofs.lemmas.Option.none-some s g)
    by_option (Some t) f g = found t (is_held claim t) refl f g

pub owed_status : (status : Status) → is_owed status ≡ true → status ≡ owed
owed_status owed e = refl
owed_status done e = absurd (false≢true e)
owed_status dropped e = absurd (false≢true e)
owed_status dead e = absurd (false≢true e)

-- it does not wait, and stands among the held rows under its claim
pub held_waits_not : (s : Standing) (claim : ℕ) → s.claim ≡ Some claim → waiting_slot s ≡ None
held_waits_not s claim e = by_status s.status ∙ refl
  where
    none_of : (status : Status) (c : Option ℕ) → is_none c ≡ false → (if is_owed status && is_none c then Some s.due else None) ≡ None
    none_of owed c f = ap (λ b. if b then Some s.due else None) f
    none_of done c f = refl
    none_of dropped c f = refl
    none_of dead c f = refl

    by_status : (status : Status) → (if is_owed status && is_none s.claim then Some s.due else None) ≡ None
    by_status status = none_of status s.claim (ap is_none e)

pub held_stands : (s : Standing) (claim : ℕ) → is_owed s.status ≡ true → s.claim ≡ Some claim → held_slot s ≡ Some claim
held_stands s claim e f = ap (λ b. if b then s.claim else None) e ∙ f
