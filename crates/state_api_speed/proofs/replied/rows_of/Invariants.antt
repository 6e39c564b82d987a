use Rattle.std.proofs.Common.{◌≡◌, map, take}
use Rattle.state_core.specs.Fits.{key_of}
use Rattle.state_api_speed.proofs.replied.rows_of.Given as goal

abbrev pub invariant-loop-place : goal.invariant-loop-place
invariant-loop-place l = map key_of l.rows ≡ take l.place l.keys
