use Rattle.std.specs.String.{string_bytes}
use Rattle.std.proofs.lemmas.Map.Text.{btree_map_updates_text}
use Rattle.json_text.proofs.last.put.Goals as goal

pub returns-clause-put : goal.returns-clause-put
returns-clause-put c other = btree_map_updates_text (string_bytes c.args.name) c.args.map.now c.insert.new.self _ c.in_ok-insert.ensures.updates other
