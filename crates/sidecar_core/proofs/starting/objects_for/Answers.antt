use Rattle.std.proofs.Common.{◌≡◌, ◌∙◌, ℕ, List, All, sym, ap, subst, refl}
use Rattle.state_core.specs.Store.{keeper_of}
use Rattle.ledger_core.specs.Ledger.{plans_of}
use Rattle.breaker_core.specs.Breaker.{policy_of}
use Rattle.meta_api.specs.Notes.{pairs_of}
use Rattle.cron_ticks.specs.Following.{schedule}
use Rattle.cron_ticks.specs.Ticks.{schedule_of}
use Rattle.sidecar_core.specs.Plans.{plans_in}
use Rattle.sidecar_core.proofs.Beginning.{all_unmap, as_many, made_of}
use Rattle.sidecar_core.proofs.starting.objects_for.Goals as goal

pub returns-clause-started : goal.returns-clause-started
returns-clause-started g c = let o = c.in_ok-objects.ensures in record {
  same = refl;
  stores = made_of keeper_of (λ cell. cell.first) c.in_ok-objects.objects.stores.items c.in_ok-stores.stores.items c.args.keepers.items o.stores c.in_ok-stores.ensures.keepers;
  ledgers = as_many (λ cell. cell.first) c.in_ok-objects.objects.ledgers.items c.in_ok-ledgers.ledgers.items o.ledgers ∙ c.in_ok-ledgers.ensures.wide;
  plans = all_unmap (λ ledger. plans_of ledger ≡ plans_in c.args.config.now) (λ cell. cell.first) c.in_ok-objects.objects.ledgers.items (subst (All (λ ledger. plans_of ledger ≡ plans_in c.args.config.now)) (sym o.ledgers) c.in_ok-ledgers.ensures.planned);
  breakers = made_of policy_of (λ cell. cell.first) c.in_ok-objects.objects.breakers.items c.in_ok-breakers.breakers.items _ o.breakers c.in_ok-breakers.ensures.policies ∙ c.breakers.ensures.exact;
  notes = ap pairs_of o.notes ∙ c.new.ensures.empty;
  ticks = ap schedule_of o.ticks ∙ c.new-3.ensures.schedule ∙ ap (λ (periods : List ℕ). schedule periods c.args.start) c.in_ok-periods.ensures.exact;
  roots = o.roots;
}

pub returns-clause-sound : goal.returns-clause-sound
returns-clause-sound g c = c.in_ok-objects.ensures.sound
