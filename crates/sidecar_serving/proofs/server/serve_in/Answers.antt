use Rattle.std.specs.Prelude.{ℕ, Err}
use Rattle.sidecar_serving.specs.Opened.{AreWorkers, IsAskedUpTo}
use Rattle.std.proofs.Common.{◌∙◌, ◌≡◌, ◌++◌, All, arith, ap, drop, length, map, sym, subst, take}
use Rattle.std.proofs.Math.Seq.{take-append_seam}
use Rattle.std.proofs.lemmas.List.{length-map}
use Rattle.sidecar_objects.specs.Pass.{cells_of, seats_of}
use Rattle.sidecar_workers.specs.StopSeat.{root_of}
use Rattle.sidecar_objects.specs.Passes.{IsRootPass}
use Rattle.sidecar_serving.specs.Slots.{IsOpenedSlot, IsReadySlot, worker_at}
use Rattle.sidecar_serving.proofs.Passes.{root_pass_is}
use Rattle.sidecar_serving.proofs.Ran.{mapped_of, opened_ready, opened_worked}
use Rattle.sidecar_serving.proofs.Whole.{unopened_served, went_served}
use Rattle.sidecar_serving.proofs.server.serve_in.Goals as goal

pub meet_all-requires-clause-ready : goal.meet_all-requires-clause-ready
meet_all-requires-clause-ready g c κs within =
    let new = c.run.new.slots in
    let old = c.open_all.new.slots in
    let long : old.len ≡ length new = omega (arith, c.run.ensures.wide, c.as_mut_slice.ensures.len, old.ok) in
    let same : take old.len (new ++ drop (length new) old.items) ≡ new = ap (λ n. take n (new ++ drop (length new) old.items)) long ∙ take-append_seam new (drop (length new) old.items) in
    subst (λ l. All (IsReadySlot c.args.stop.now c.args.shared.now) l) (sym same) c.run.ensures.ready

pub meet_all-requires-clause-root : goal.meet_all-requires-clause-root
meet_all-requires-clause-root g c κs within =
    let new = c.run.new.slots in
    let old = c.open_all.new.slots in
    let long : old.len ≡ length new = omega (arith, c.run.ensures.wide, c.as_mut_slice.ensures.len, old.ok) in
    let same : take old.len (new ++ drop (length new) old.items) ≡ new = ap (λ n. take n (new ++ drop (length new) old.items)) long ∙ take-append_seam new (drop (length new) old.items) in
    let count : length old.items ≡ length (take old.len (new ++ drop (length new) old.items)) = omega (arith, c.run.ensures.wide, ap length same) in
    subst (λ n. IsRootPass n (cells_of c.args.shared.now.objects) (seats_of c.open_all.new.pass)) count
    (subst (λ s. IsRootPass (length old.items) (cells_of c.args.shared.now.objects) s) (sym c.open_all.ensures.root) (root_pass_is (cells_of c.args.shared.now.objects) (length old.items)))

pub meet_all-requires-clause-seat : goal.meet_all-requires-clause-seat
meet_all-requires-clause-seat g c κs within =
    let new = c.run.new.slots in
    let old = c.open_all.new.slots in
    let long : old.len ≡ length new = omega (arith, c.run.ensures.wide, c.as_mut_slice.ensures.len, old.ok) in
    let same : take old.len (new ++ drop (length new) old.items) ≡ new = ap (λ n. take n (new ++ drop (length new) old.items)) long ∙ take-append_seam new (drop (length new) old.items) in
    let count : length old.items ≡ length (take old.len (new ++ drop (length new) old.items)) = omega (arith, c.run.ensures.wide, ap length same) in
    c.open_all.ensures.seat ∙ ap (λ (n : ℕ). record (root_of c.args.stop.now) { out = n }) count

pub meet_all-requires-in-Err-clause-ready : goal.meet_all-requires-in-Err-clause-ready
meet_all-requires-in-Err-clause-ready g c κs within = opened_ready c.args.stop.now c.args.shared.now 0 _ c.open_all.new.slots.items c.open_all.ensures.opened

pub meet_all-requires-in-Err-clause-root : goal.meet_all-requires-in-Err-clause-root
meet_all-requires-in-Err-clause-root g c κs within = subst (λ s. IsRootPass (length c.open_all.new.slots.items) (cells_of c.args.shared.now.objects) s) (sym c.open_all.ensures.root) (root_pass_is (cells_of c.args.shared.now.objects) (length c.open_all.new.slots.items))

pub returns-in-Ok-clause-served : goal.returns-in-Ok-clause-served
returns-in-Ok-clause-served g c =
    let new = c.run.new.slots in
    let old = c.open_all.new.slots in
    let long : old.len ≡ length new = omega (arith, c.run.ensures.wide, c.as_mut_slice.ensures.len, old.ok) in
    let same : take old.len (new ++ drop (length new) old.items) ≡ new = ap (λ n. take n (new ++ drop (length new) old.items)) long ∙ take-append_seam new (drop (length new) old.items) in
    let words = map g.R.Rng.stream c.args.rngs.items in
    let many : length words ≡ length c.args.rngs.items = length-map c.args.rngs.items g.R.Rng.stream in
    let e = c.meet_all.ensures in
    went_served _ _ _ _ words worker_at old.items new _ _ _ _ _ _ _ _ same (c.run.ensures.wide ∙ ap length c.as_mut_slice.ensures.value) (c.in-Ok.ensures.all ∙ sym many) (c.run.ensures.worked words (subst (λ l. AreWorkers (IsOpenedSlot c.args.stop.now c.args.shared.now) 0 words l) (sym c.as_mut_slice.ensures.value) c.open_all.ensures.opened)) c.run.ensures.ended _ (sym many) c.in-Ok.ensures.calls e.calls
    c.open_all.ensures.root c.in-Ok.ensures.backs c.in-Ok.ensures.no_fault e.met e.lone e.sound e.stopped e.end

pub returns-in-Err-clause-served : goal.returns-in-Err-clause-served
returns-in-Err-clause-served g c =
    let opened = c.open_all.new.slots.items in
    let words = map g.R.Rng.stream c.args.rngs.items in
    let many : length words ≡ length c.args.rngs.items = length-map c.args.rngs.items g.R.Rng.stream in
    let e = c.meet_all-in-Err.ensures in
    let few = c.open_all.ensures.some in
    let asked = c.open_all.ensures.asked in
    let few-asked = asked.1 in
    unopened_served _ _ _ _ words worker_at opened _ _ _ _ _ _ c.in-Err.unopened _ asked.0 (omega (arith, few, many)) (subst (λ n. IsAskedUpTo n (length opened) asked.0) (sym many) few-asked)
    (mapped_of _ _ worker_at (λ number word slot is. opened_worked _ _ _ number word (worker_at slot) is.worker) 0 words opened c.open_all.ensures.opened) (mapped_of _ _ worker_at (λ number word slot is. is.worker) 0 words opened c.open_all.ensures.opened) asked.2 e.calls
    c.open_all.ensures.root c.open_all.ensures.no_fewer e.no_fewer (λ u. c.open_all.ensures.failed (c.in-Err.is ∙ ap Err u)) c.end_without.ensures e.met e.lone e.sound
