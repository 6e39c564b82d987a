use Rattle.std.proofs.Common.{◌≡◌, ◌≤◌, length, take}
use Rattle.sidecar_turns.specs.Brokers.{brokers_of}
use Rattle.sidecar_core.proofs.shared.Shared.ledger_of.Given as goal

abbrev pub invariant-loop-before : goal.invariant-loop-before
invariant-loop-before g l = record {
  exact : l.ledger ≡ length (brokers_of (take l.before l.self.config.components));
  within : l.ledger ≤ l.before;
}
