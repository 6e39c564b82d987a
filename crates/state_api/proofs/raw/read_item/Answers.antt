use Rattle.std.proofs.Common.{sym, ◌∙◌}
use Rattle.state_api.proofs.Following.{held_on, failed}
use Rattle.state_api.proofs.raw.read_item.Goals as goal

pub returns-then-not-is_map : goal.returns-then-not-is_map
returns-then-not-is_map c value at = failed _ _ _ (sym (c.is_map.ensures value at) ∙ c.if-not-is_map.true)

pub returns : goal.returns
returns c value at = held_on _ _ _ c.read_members.result (sym (c.is_map.ensures value at) ∙ c.if-not-is_map.false) (c.read_members.ensures value at)
