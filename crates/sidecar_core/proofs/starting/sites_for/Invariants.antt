use Rattle.std.proofs.Common.{◌≡◌, ◌<◌, length, map, take, All}
use Rattle.std.specs.Option.{ForSome}
use Rattle.sidecar_core.specs.Sites.{site_of, stores_of}
use Rattle.sidecar_core.proofs.starting.sites_for.Given as goal

abbrev pub invariant-loop-place : goal.invariant-loop-place
invariant-loop-place l = record {
  sites : l.sites.items ≡ map (site_of l.config) (stores_of (take l.place l.config.components));
  bounds : All (λ site. ForSome site.bound.breaker (λ place. place < length l.config.policies.breakers)) l.sites.items;
}
