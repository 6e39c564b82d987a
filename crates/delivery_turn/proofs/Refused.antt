-- Turns that are none, by how many events of each kind they have.
use Rattle.std.proofs.Common.{◌≡◌, ℕ, ◌≤◌, true, List, refl, sym, arith}
use Rattle.ledger_core.specs.declared.reply.LedgerReply.{LedgerReply}
use Rattle.ledger_core.specs.declared.reply.LedgerReply.TheVariants.{Again, Done}
use Rattle.delivery_turn.specs.declared.ending.Turn.{Turn}
use Rattle.delivery_turn.specs.declared.ending.Turn.TheVariants.{Delivered}
use Rattle.delivery_turn.specs.Delivery.{Setting, guarded, Delivery}
use Rattle.delivery_turn.specs.Kinds.{IsUnspent, kinds_of, so_many, is_settling, is_retry, is_call, is_report, is_draw}
use Rattle.delivery_turn.specs.Samples.{settled_twice, unreported, called_first, called_idly, undrawn, overdrawn}
use Rattle.delivery_turn.proofs.Counts.{turn_settles_once, turn_begins, turn_reports, turn_draws}

unspent : (number sub : ℕ) (reply : LedgerReply) → IsUnspent (Delivered number sub reply)
unspent number sub reply count e = let bad : ⊥ = cc in bad

not_two : (n : ℕ) → n ≡ 2 → n ≤ 1 → ⊥
not_two n e low = omega (arith, e, low)

not_one : (n m : ℕ) → n ≡ 0 → m ≡ 1 → n ≡ m → ⊥
not_one n m e h same = omega (arith, e, h, same)

module _ (setting : Setting) (drawn : ℕ) (event : List ℕ) where
  pub twice : (turn : Turn) → Delivery setting (settled_twice drawn event) turn → ⊥
  twice turn d = not_two (so_many is_settling (kinds_of (settled_twice drawn event))) refl (turn_settles_once setting _ turn d)

  pub no_report : guarded setting ≡ true → Delivery setting (unreported drawn event) (Delivered 2 1 (Again 1009)) → ⊥
  no_report on d = not_one (so_many is_report (kinds_of (unreported drawn event))) (so_many is_call (kinds_of (unreported drawn event))) refl refl (turn_reports setting _ _ d on (unspent 2 1 (Again 1009)))

  pub call_first : (turn : Turn) → Delivery setting (called_first event) turn → ⊥
  call_first turn d = turn_begins setting (called_first event) turn d

  pub call_idle : (turn : Turn) → Delivery setting (called_idly event) turn → ⊥
  call_idle turn d = let alone = turn_begins setting (called_idly event) turn d in let bad : ⊥ = cc in bad

  pub no_draw : Delivery setting (undrawn event) (Delivered 2 1 (Again 1009)) → ⊥
  no_draw d = not_one (so_many is_draw (kinds_of (undrawn event))) (so_many is_retry (kinds_of (undrawn event))) refl refl (turn_draws setting _ _ d (unspent 2 1 (Again 1009)))

  pub no_retry : Delivery setting (overdrawn drawn event) (Delivered 2 1 Done) → ⊥
  no_retry d = not_one (so_many is_retry (kinds_of (overdrawn drawn event))) (so_many is_draw (kinds_of (overdrawn drawn event))) refl refl (sym (turn_draws setting _ _ d (unspent 2 1 Done)))
