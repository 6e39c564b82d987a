use Rattle.json_text.proofs.Visits.{is_visited, has_value}
use Rattle.json_text.proofs.laws.a_walk_visits_all_items.Goals as goal

pub returns-clause-visits : goal.returns-clause-visits
returns-clause-visits c = λ doc node spot children later h. is_visited doc node spot children later h

pub returns-clause-stands : goal.returns-clause-stands
returns-clause-stands c = λ doc bytes node shows h. has_value doc bytes node shows h
