use denote.Exit.{no}
use Rattle.std.specs.Prelude.{List, IsSome}
use Rattle.rand_core.specs.Stream.{Stream}
use denote.Param.Send.{arg_send, param_send}
use Rattle.sidecar_serving.proofs.Crossings.{serving_send}
use Rattle.sidecar_objects.specs.contracts.kinds.StoreObjectKinds.TheImpl.{ghosts}
use Rattle.sidecar_objects.specs.Pass.{cells_of}
use Rattle.sidecar_serving.specs.Opened.{AreWorkers, HasWorked}
use Rattle.sidecar_serving.specs.Slots.{IsOpenedSlot, IsReadySlot, worker_at}
use Rattle.sidecar_serving.proofs.Ran.{all_of, mapped_of, ran_one, ran_slots, ready_of}
use Rattle.sidecar_serving.proofs.running.run.Goals as goal

pub run_workers-requires-send-W : goal.run_workers-requires-send-W
run_workers-requires-send-W g c κs within = param_send 0 _ (arg_send _ no _ (serving_send _ _ _ _ _ _ _ _ _ _ _ _ _ _ _ c.type_bounds.send-K c.type_bounds.send-A c.type_bounds.send-L c.type_bounds.send-C c.type_bounds.send-R c.type_bounds.send-A-From c.type_bounds.send-A-Into))

pub run_workers-requires-after_bounds : goal.run_workers-requires-after_bounds
run_workers-requires-after_bounds g c κs within = ready_of c.args.stop.now c.args.shared.now 0 c.requires.0 c.args.slots.now c.requires.1

ran : (g : _) (c : goal.After-slots-1 g) (words : List Stream) → AreWorkers (IsOpenedSlot c.args.stop.now c.args.shared.now) 0 words c.args.slots.now → AreWorkers (λ number word slot. HasWorked c.args.shared.now.config (ghosts g.row.K g.K.Keeper g.K.Keeper-dict g.K.Destruct-dict).kinds (cells_of c.args.shared.now.objects) number word (worker_at slot) × IsReadySlot c.args.stop.now c.args.shared.now slot × IsSome slot.exit) 0 words c.run_workers.new.slots
ran g c words are = ran_slots _ _ _ 0 words _ _ c.run_workers.auto.slots c.run_workers.ensures are (λ number word old new opened run. ran_one _ _ _ number word old new run.ending opened run.exit run.free run.kept.0 run.kept.1 run.own run.number run.seat run.stopped)

pub returns-clause-worked : goal.returns-clause-worked
returns-clause-worked g c = λ words are. mapped_of _ _ worker_at (λ number word slot is. is.0) 0 words _ (ran g c words are)

pub returns-clause-ready : goal.returns-clause-ready
returns-clause-ready g c = all_of _ _ (λ number word slot is. is.1) 0 c.requires.0 _ (ran g c c.requires.0 c.requires.1)

pub returns-clause-ended : goal.returns-clause-ended
returns-clause-ended g c = all_of _ _ (λ number word slot is. is.2) 0 c.requires.0 _ (ran g c c.requires.0 c.requires.1)
