-- What is done before a ledger is given a message.
use Rattle.std.proofs.Common.{◌≡◌, refl, ℕ, true, false, List, []}
use Rattle.std.specs.Prelude.{Result, Err}
use Rattle.ledger_core.specs.declared.command.LedgerCmd.{LedgerCmd}
use Rattle.policy_run.specs.Effects.{AreNone, Clocked, Effects, Made}
use Rattle.policy_run.proofs.Composed.{no_effects}
use Rattle.pubsub_api.specs.declared.publication.Publication.{Publication}
use Rattle.pubsub_api.specs.declared.publication.PubErr.{PubErr}
use Rattle.pubsub_api.specs.declared.publication.PubErr.TheVariants as refusal
use Rattle.pubsub_api.specs.declared.stamp.Stamp.{Stamp}
use Rattle.pubsub_api.specs.Publishing.{Commands, Prepares, denied, is_allowed, sent_of, stamped, stamps}

module _ (p : Publication) (drawn : List ℕ → Type 0) where
  -- the scopes deny it
  pub nothing_prepared : (clock : Clocked) → is_allowed p ≡ false → drawn [] → Made (λ events. Prepares p events (Err refusal.Forbidden)) AreNone AreNone (record { before = clock; after = clock }) drawn
  nothing_prepared clock denies none-drawn = ([], denied denies refl refl, no_effects AreNone AreNone clock drawn refl refl none-drawn)

  pub prepared : (clock clock' : Clocked) (stamp : Stamp) (came : Result LedgerCmd PubErr) → is_allowed p ≡ true → Effects (stamps stamp) AreNone AreNone clock clock' drawn → Commands p.subs.now (sent_of p) stamp came
      → Made (λ events. Prepares p events came) AreNone AreNone (record { before = clock; after = clock' }) drawn
  prepared clock clock' stamp came allows effects commands = (stamps stamp, stamped stamp allows refl commands, effects)
