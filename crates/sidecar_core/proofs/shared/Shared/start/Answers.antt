use Rattle.std.proofs.Common.{◌≡◌, ◌∙◌, ◌<◌, length, sym, ap, subst, arith}
use Rattle.std.specs.Option.{ForSome}
use Rattle.std.proofs.lemmas.List.{length-map}
use Rattle.state_core.specs.Store.{keeper_of}
use Rattle.breaker_core.specs.Breaker.{policy_of}
use Rattle.cron_ticks.specs.Schedule.{Schedule}
use Rattle.sidecar_core.specs.Sites.{site_of, stores_of}
use Rattle.sidecar_core.specs.Started.{IsRoomFor}
use Rattle.sidecar_core.proofs.Beginning.{all_at, as_many}
use Rattle.sidecar_core.proofs.Rooted.{pass_alone, pass_seated}
use Rattle.sidecar_core.proofs.shared.Shared.start.Goals as goal

pub invariant_of-shared : goal.invariant_of-shared
invariant_of-shared g c =
    let started = c.in_ok-objects.ensures.started in
    let tables = c.in_ok-tables.ensures in record {
      has_sites = tables.sites;
      has_notes = tables.notes;
      has_sub_notes = tables.sub_notes;
      has_brokers = tables.brokers;
      has_crons = tables.crons;
      stores = as_many (λ cell. keeper_of cell.first) c.in_ok-objects.objects.stores.items c.args.keepers.items started.stores ∙ c.requires ∙ sym (ap length tables.sites ∙ length-map (stores_of c.args.config.components) (site_of c.args.config));
      ledgers = started.ledgers;
      plans = started.plans;
      inbound = tables.inbound;
      periods = ap (λ (s : Schedule). s.periods) started.ticks;
      gates = tables.gates;
      breakers = as_many (λ cell. policy_of cell.first) c.in_ok-objects.objects.breakers.items c.args.config.policies.breakers started.breakers;
      bounds = all_at (λ site. ForSome site.bound.breaker (λ place. place < length c.args.config.policies.breakers)) c.in_ok-tables.tables.sites.items tables.bounds;
    }

pub returns-clause-started : goal.returns-clause-started
returns-clause-started g c = c.in_ok-objects.ensures.started

pub returns-clause-pass : goal.returns-clause-pass
returns-clause-pass g c = pass_seated _ _ c.in_ok-objects.ensures.started.roots

pub returns-clause-lone : goal.returns-clause-lone
returns-clause-lone g c = pass_alone _ _ c.in_ok-objects.ensures.started.roots

pub returns-clause-sound : goal.returns-clause-sound
returns-clause-sound g c = c.in_ok-objects.ensures.sound

pub returns-clause-room : goal.returns-clause-room
returns-clause-room g c =
    let same : c.len.result ≡ length c.in_ok-objects.objects.stores.items = omega (arith, c.len.ensures, c.args.keepers.ok, as_many (λ cell. keeper_of cell.first) c.in_ok-objects.objects.stores.items c.args.keepers.items c.in_ok-objects.ensures.started.stores) in
    subst (λ n. IsRoomFor n c.in_ok-room.room) same c.in_ok-room.ensures
