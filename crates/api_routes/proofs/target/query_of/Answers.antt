use Rattle.std.proofs.Common.{◌∙◌}
use Rattle.std.proofs.lemmas.List.{take_rest}
use Rattle.api_routes.proofs.Query.{query-behind, no-query}
use Rattle.api_routes.proofs.target.query_of.Goals as goal

pub returns-in-empty : goal.returns-in-empty
returns-in-empty c = no-query c.args.target.now c.split_at.result.1.now c.path_len.result c.split_at.ensures.back c.path_len.ensures.value c.in-empty.len_below

pub returns-in-len1-up : goal.returns-in-len1-up
returns-in-len1-up c = take_rest c.split_at.result.1.now 1 ∙ query-behind c.args.target.now c.split_at.result.1.now c.path_len.result c.split_at.ensures.back c.path_len.ensures.value
