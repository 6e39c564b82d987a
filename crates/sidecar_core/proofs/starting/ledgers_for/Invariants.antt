use Rattle.std.proofs.Common.{◌≡◌, length, take, All}
use Rattle.ledger_core.specs.Ledger.{plans_of}
use Rattle.sidecar_core.specs.Plans.{plans_in}
use Rattle.sidecar_turns.specs.Brokers.{brokers_of}
use Rattle.sidecar_core.proofs.starting.ledgers_for.Given as goal

abbrev pub invariant-loop-place : goal.invariant-loop-place
invariant-loop-place l = record {
  wide : length l.ledgers.items ≡ length (brokers_of (take l.place l.config.components));
  planned : All (λ ledger. plans_of ledger ≡ plans_in l.config) l.ledgers.items;
  unused : All (λ ledger. ledger.used ≡ 0) l.ledgers.items;
}
