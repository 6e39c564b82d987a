-- The order of rows: by moment or claim, then by message, then by subscription.
use Rattle.std.specs.Ordering.{nat_cmp, ordering_then}
use Rattle.std.specs.declared.cmp.Ordering.{Ordering}
use Rattle.ledger_core.specs.declared.place.Place.{Place}

abbrev pub place_order : Place → Place → Ordering
place_order a b = ordering_then (nat_cmp a.at b.at) (ordering_then (nat_cmp a.no b.no) (nat_cmp a.sub b.sub))
