use Rattle.std.proofs.Common.{◌≡◌, ◌++◌, map}
use Rattle.side_world.proofs.names.copied.Given as goal

-- the names so far, and those that are left
abbrev pub invariant-loop-name : goal.invariant-loop-name
invariant-loop-name l = l.names ++ map (λ k. k.now) l.name-iterator ≡ map (λ k. k.now) l.kept.keys
