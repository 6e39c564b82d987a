-- What holds of each kind holds of every kind.
use Rattle.sidecar_objects.specs.Kind.{Kind, stores, ledgers, breakers, book, turns, ticks}

pub by_kind : (P : Kind → Type 0) → P stores → P ledgers → P breakers → P book → P turns → P ticks → (kind : Kind) → P kind
by_kind P store ledger breaker one actors crons stores = store
by_kind P store ledger breaker one actors crons ledgers = ledger
by_kind P store ledger breaker one actors crons breakers = breaker
by_kind P store ledger breaker one actors crons book = one
by_kind P store ledger breaker one actors crons turns = actors
by_kind P store ledger breaker one actors crons ticks = crons
