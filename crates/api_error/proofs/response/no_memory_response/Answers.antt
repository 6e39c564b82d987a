use Rattle.std.proofs.Common.{refl}
use Rattle.byte_lanes.specs.Spelling.{spelled_byte}
use Rattle.api_error.proofs.response.no_memory_response.Goals as goal

pub returns : goal.returns
unfolding spelled_byte
returns c = refl
