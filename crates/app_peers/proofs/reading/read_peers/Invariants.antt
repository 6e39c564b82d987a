use Rattle.std.proofs.Common.{ℕ, List, Option, Some, None, Bor, length, suc}
use Rattle.std.specs.Prelude.{option_copied}
use Rattle.app_peers.proofs.Read.{ReadSoFar}
use Rattle.app_peers.proofs.reading.read_peers.Given as goal

abbrev pub left_of : Option (Bor (List ℕ)) → ℕ
left_of None = 0
left_of (Some text) = suc (length text.now)

abbrev pub invariant-loop-rest : goal.invariant-loop-rest
invariant-loop-rest l = ReadSoFar l.own l.text l.peers (option_copied l.rest)

abbrev pub decreases-loop-rest : goal.decreases-loop-rest
decreases-loop-rest l = left_of l.rest
