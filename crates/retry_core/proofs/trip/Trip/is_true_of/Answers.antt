use Rattle.std.proofs.Common.{◌≡◌, ◌∙◌, sym, true, false, ap, rules, tests}
use Rattle.std.specs.List.{list_all, list_any}
use Rattle.std.specs.Option.{option_map_or}
use Rattle.std.proofs.lemmas.Iterator.{YieldsList-from_slice}
use Rattle.std.proofs.lemmas.Iterator.Search.{all_from_yields_List, any_from_yields_List}
use Rattle.retry_core.specs.Trip.{holds, joined, comparisons_of}
use Rattle.retry_core.proofs.Trips.{list_all-filter_map, list_any-filter_map}
use Rattle.retry_core.proofs.trip.Trip.is_true_of.Goals as goal

pub returns-in-All : goal.returns-in-All
returns-in-All c =
    let slots = c.args.self.now.comparisons in
    let test = holds c.args.counts.now in
    let over : c.all.result ≡ list_all (λ slot. option_map_or test slot true) slots =
    all_from_yields_List (λ slot. option_map_or test slot true) _ _ c.all.result c.all.ensures.ran (YieldsList-from_slice slots cc) (λ x b q k. search (rules, tests))
    in
    over ∙ list_all-filter_map test slots ∙ ap (λ join. joined join test (comparisons_of c.args.self.now)) (sym c.in-All.is)

pub returns-in-Any : goal.returns-in-Any
returns-in-Any c =
    let slots = c.args.self.now.comparisons in
    let test = holds c.args.counts.now in
    let over : c.any.result ≡ list_any (λ slot. option_map_or test slot false) slots =
    any_from_yields_List (λ slot. option_map_or test slot false) _ _ c.any.result c.any.ensures.ran (YieldsList-from_slice slots cc) (λ x b q k. search (rules, tests))
    in
    over ∙ list_any-filter_map test slots ∙ ap (λ join. joined join test (comparisons_of c.args.self.now)) (sym c.in-Any.is)
