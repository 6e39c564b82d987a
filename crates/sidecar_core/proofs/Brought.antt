-- The cells of a configuration are those of its brokers and of its cron components, and what a turn of delivery shows of them.
use Rattle.std.proofs.Common.{◌≡◌, ◌∙◌, ℕ, length, sym, ap, subst, refl, ⊎_elim}
use Rattle.std.specs.List.{All}
use Rattle.std.proofs.lemmas.List.{length-map}
use Rattle.ledger_core.specs.Ledger.{plans_of}
use Rattle.cron_ticks.specs.Ticks.{schedule_of}
use Rattle.sidecar_objects.specs.Kind.{CellsAt, SeatsAt}
use Rattle.sidecar_objects.specs.Kind as kind
use Rattle.sidecar_objects.specs.Shown.{Shows}
use Rattle.sidecar_turns.specs.Brokers.{AreOf, HaveBreakers, Sites, brokers_of, inbound_of, planned_as}
use Rattle.sidecar_turns.specs.Crons.{AreTicksOf, HaveGates, Inputs, period_of_each, periods_of}
use Rattle.sidecar_turns.specs.Delivering.{ShowsOne}
use Rattle.sidecar_core.specs.declared.config.Config.{Config}
use Rattle.sidecar_core.specs.Delivery.{brokers_in, crons_in}
use Rattle.sidecar_core.specs.Plans.{plan_of, plans_in}

module _ {O : Type 0} (config : Config) (cells : CellsAt O) (sites : Sites) (is : sites ≡ brokers_in config) where
  pub are_of : length cells.ledgers ≡ length (brokers_of config.components) → All (λ cell. plans_of cell.first ≡ plans_in config) cells.ledgers → length cells.breakers ≡ length config.policies.breakers
      → HaveBreakers (length config.policies.breakers) sites.inbound → AreOf cells sites config.subs
  are_of wide planned gates inbound = record {
    ledgers = wide ∙ sym (ap (λ (s : Sites). length s.inbound) is ∙ length-map (brokers_of config.components) (inbound_of config.policies));
    planned = planned_as config.subs (plan_of config.policies) (λ sub. refl) cells.ledgers planned;
    breakers = subst (λ n. HaveBreakers n sites.inbound) (sym gates) inbound;
  }

module _ {O : Type 0} (config : Config) (cells : CellsAt O) (inputs : Inputs) (is : inputs ≡ crons_in config) where
  pub ticks_of : (schedule_of cells.ticks.first).periods ≡ periods_of config.components → length cells.breakers ≡ length config.policies.breakers → HaveGates (length config.policies.breakers) inputs.crons → AreTicksOf cells inputs
  ticks_of periods breakers gates = record {
    periods = ap length periods ∙ period_of_each config.app_port config.components config.policies ∙ sym (ap (λ (i : Inputs). length i.crons) is);
    breakers = subst (λ n. HaveGates n inputs.crons) (sym breakers) gates;
  }

pub shows_one : {O : Type 0} (sites : Sites) (seats : SeatsAt O) (count : ℕ) → ShowsOne sites.inbound seats count → Shows seats count
shows_one sites seats count one = ⊎_elim (λ here. record { kind = kind.ledgers; place = one.place; shown = here }) (λ there. record { kind = kind.breakers; place = there.0; shown = there.2 }) one.shown
