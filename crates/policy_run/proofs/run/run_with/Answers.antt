use Rattle.std.proofs.Common.{◌∙◌, refl, true, false, rules}
use Rattle.rand_core.specs.Stream.{next_u64}
use Rattle.side_world.specs.Moments.{Drawn}
use Rattle.policy_run.specs.declared.turn.Turned.TheVariants.{Failed, Ended}
use Rattle.policy_run.specs.Effects.{clocked}
use Rattle.policy_run.proofs.Composed.{no_effects}
use Rattle.policy_run.proofs.Turning.{turn_from}
use Rattle.policy_run.proofs.Trying.{begun, ended, one_more, given_up, decided_as}
use Rattle.policy_run.proofs.run.run_with.Goals as goal

pub loop-init : goal.loop-init
loop-init g c = (
  tt,
  tt,
  c.requires.guard,
  c.requires.op,
  refl,
  begun _ _ (g.P.Operation.makes c.args.op.now c.args.limit) (λ xs. g.P.Operation.did c.args.op.now xs c.args.op.now) (λ xs. g.G.Guard.held c.args.guard.now xs c.args.guard.now) _ (λ ws. Drawn next_u64 (g.R.Rng.stream c.args.rng.now) ws (g.R.Rng.stream c.args.rng.now)) _ c.start-run.ensures
      (no_effects (λ xs. g.P.Operation.did c.args.op.now xs c.args.op.now) (λ xs. g.G.Guard.held c.args.guard.now xs c.args.guard.now) _ (λ ws. Drawn next_u64 (g.R.Rng.stream c.args.rng.now) ws (g.R.Rng.stream c.args.rng.now)) (g.met.P.Operation.none _ c.requires.op) (g.met.G.Guard.none _ c.requires.guard) refl),
)

pub returns-in-Ended-clause-attempts : goal.returns-in-Ended-clause-attempts
returns-in-Ended-clause-attempts g c = ended _ _ (g.P.Operation.makes c.args.op.now c.args.limit) (λ xs. g.P.Operation.did c.args.op.now xs _) (λ xs. g.P.Operation.did _ xs _) (λ xs. g.P.Operation.did c.args.op.now xs _) (λ xs. g.G.Guard.held c.args.guard.now xs _) (λ xs. g.G.Guard.held _ xs _) (λ xs. g.G.Guard.held c.args.guard.now xs _) _ _ _ _ _ _
    (g.met.P.Operation.more _ _ _) (g.met.G.Guard.more _ _ _) c.loop.invariant.5 _
    (turn_from _ (g.P.Operation.makes c.args.op.now c.args.limit) (g.P.Operation.makes c.loop.op c.args.limit) (g.met.P.Operation.alike _ _ _ c.loop.invariant.5.effects.owned _) _ (λ xs. g.P.Operation.did _ xs _) (λ xs. g.G.Guard.held _ xs _) _ _ (Ended c.in-Ended.outcome) c.loop.invariant.4 c.in-Ended.ensures.turn)

pub returns-then-not-goes_on-clause-attempts : goal.returns-then-not-goes_on-clause-attempts
returns-then-not-goes_on-clause-attempts g c = given_up _ _ (g.P.Operation.makes c.args.op.now c.args.limit) (λ xs. g.P.Operation.did c.args.op.now xs _) (λ xs. g.P.Operation.did _ xs _) (λ xs. g.P.Operation.did c.args.op.now xs _) (λ xs. g.G.Guard.held c.args.guard.now xs _) (λ xs. g.G.Guard.held _ xs _) (λ xs. g.G.Guard.held c.args.guard.now xs _) _ _ _ _ _ _
    (g.met.P.Operation.more _ _ _) (g.met.G.Guard.more _ _ _) c.loop.invariant.5 c.in-Failed.bad
    (turn_from _ (g.P.Operation.makes c.args.op.now c.args.limit) (g.P.Operation.makes c.loop.op c.args.limit) (g.met.P.Operation.alike _ _ _ c.loop.invariant.5.effects.owned _) _ (λ xs. g.P.Operation.did _ xs _) (λ xs. g.G.Guard.held _ xs _) _ _ (Failed c.in-Failed.bad) c.loop.invariant.4 c.in-Failed.ensures.turn)
    (clocked g.C.Clock c.goes_on.new.clock) (g.R.Rng.stream c.goes_on.new.rng) c.goes_on.new.run
    (decided_as c.args.policy.now c.loop.invariant.5.words c.goes_on.new.run (clocked g.C.Clock c.turn.new.clock) (clocked g.C.Clock c.goes_on.new.clock) (λ ws. Drawn next_u64 (g.R.Rng.stream c.loop.rng) ws (g.R.Rng.stream c.goes_on.new.rng)) c.goes_on.result false (search rules) (c.goes_on.ensures c.args.policy.now c.loop.invariant.5.words c.loop.invariant.5.run_is))

pub loop-preserved : goal.loop-preserved
loop-preserved g c = (
  tt,
  tt,
  g.met.G.Guard.stays _ _ _ c.loop.invariant.2 c.in-Failed.ensures.turn.2.guards,
  g.met.P.Operation.stays _ _ _ c.loop.invariant.3 c.in-Failed.ensures.turn.2.owned,
  c.in-Failed.ensures.there ∙ c.loop.invariant.4,
  one_more _ _ (g.P.Operation.makes c.args.op.now c.args.limit) (λ xs. g.P.Operation.did c.args.op.now xs _) (λ xs. g.P.Operation.did _ xs _) (λ xs. g.P.Operation.did c.args.op.now xs _) (λ xs. g.G.Guard.held c.args.guard.now xs _) (λ xs. g.G.Guard.held _ xs _) (λ xs. g.G.Guard.held c.args.guard.now xs _) _ _ _ _ _ _
      (g.met.P.Operation.more _ _ _) (g.met.G.Guard.more _ _ _) c.loop.invariant.5 c.in-Failed.bad
      (turn_from _ (g.P.Operation.makes c.args.op.now c.args.limit) (g.P.Operation.makes c.loop.op c.args.limit) (g.met.P.Operation.alike _ _ _ c.loop.invariant.5.effects.owned _) _ (λ xs. g.P.Operation.did _ xs _) (λ xs. g.G.Guard.held _ xs _) _ _ (Failed c.in-Failed.bad) c.loop.invariant.4 c.in-Failed.ensures.turn)
      (clocked g.C.Clock c.goes_on.new.clock) (g.R.Rng.stream c.goes_on.new.rng) c.goes_on.new.run
      (decided_as c.args.policy.now c.loop.invariant.5.words c.goes_on.new.run (clocked g.C.Clock c.turn.new.clock) (clocked g.C.Clock c.goes_on.new.clock) (λ ws. Drawn next_u64 (g.R.Rng.stream c.loop.rng) ws (g.R.Rng.stream c.goes_on.new.rng)) c.goes_on.result true (search rules) (c.goes_on.ensures c.args.policy.now c.loop.invariant.5.words c.loop.invariant.5.run_is)),
)
