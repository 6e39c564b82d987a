use Rattle.std.proofs.Common.{Some, arith, inl, inr, ⊎_elim, ◌≡◌}
use Rattle.atomic_table.proofs.Lists.{at_index, set_here}
use Rattle.sidecar_core.proofs.Doings.{did_plainly, did_gated_at, placed_as, within}
use Rattle.sidecar_core.proofs.storing.run_store.Goals as goal

pub plain-requires-clause-seat : goal.plain-requires-clause-seat
plain-requires-clause-seat g c = c.requires.stores.each c.args.place c.index.result.now c.index_mut.result.now
    (at_index c.args.objects.now.stores.items c.args.place c.index.result.now c.requires.place c.index.ensures)
    (at_index c.args.pass.now.stores.items c.args.place c.index_mut.result.now (omega (arith, c.requires.place, c.requires.stores.wide)) c.index_mut.ensures.value)

pub gated-requires-clause-seat : goal.gated-requires-clause-seat
gated-requires-clause-seat g c = c.requires.stores.each c.args.place c.index-in-Some.result.now c.index_mut-in-Some.result.now
    (at_index c.args.objects.now.stores.items c.args.place c.index-in-Some.result.now c.requires.place c.index-in-Some.ensures)
    (at_index c.args.pass.now.stores.items c.args.place c.index_mut-in-Some.result.now (omega (arith, c.requires.place, c.requires.stores.wide)) c.index_mut-in-Some.ensures.value)

pub gated-requires-clause-key : goal.gated-requires-clause-key
gated-requires-clause-key g c = let low = within c.args.bound.now.breaker c.in-Some.k c.in-Some.is c.requires.breaker in
    c.requires.breakers.each c.in-Some.k c.index-in-Some-2.result.now c.index_mut-in-Some-2.result.now
    (at_index c.args.objects.now.breakers.items c.in-Some.k c.index-in-Some-2.result.now low c.index-in-Some-2.ensures)
    (at_index c.args.pass.now.breakers.items c.in-Some.k c.index_mut-in-Some-2.result.now (omega (arith, low, c.requires.breakers.wide)) c.index_mut-in-Some-2.ensures.value)

pub returns-in-None-clause-ran : goal.returns-in-None-clause-ran
returns-in-None-clause-ran g c = let r = c.plain.ensures.ran in (
  _,
  placed_as c.args.place c.args.bound.now c.args.cmd.now c.plain.result r.0 r.1 r.2 r.3,
  λ link. did_plainly _ _ _ c.args.place _ c.index.result.now c.index_mut.result.now c.plain.new.seat _ _ link _ _
      (at_index c.args.objects.now.stores.items c.args.place c.index.result.now c.requires.place c.index.ensures)
      (at_index c.args.pass.now.stores.items c.args.place c.index_mut.result.now (omega (arith, c.requires.place, c.requires.stores.wide)) c.index_mut.ensures.value)
      r.0 r.4,
)

pub returns-in-Some-clause-ran : goal.returns-in-Some-clause-ran
returns-in-Some-clause-ran g c = let r = c.gated.ensures.ran in let low = within c.args.bound.now.breaker c.in-Some.k c.in-Some.is c.requires.breaker in (
  _,
  placed_as c.args.place c.args.bound.now c.args.cmd.now c.gated.result r.0 r.1 r.2 r.3,
  λ link. did_gated_at _ _ _ c.args.place c.in-Some.k c.args.bound.now c.in-Some.is c.index-in-Some.result.now c.index_mut-in-Some.result.now c.gated.new.seat _ _ link _ _
      (at_index c.args.objects.now.stores.items c.args.place c.index-in-Some.result.now c.requires.place c.index-in-Some.ensures)
      (at_index c.args.pass.now.stores.items c.args.place c.index_mut-in-Some.result.now (omega (arith, c.requires.place, c.requires.stores.wide)) c.index_mut-in-Some.ensures.value)
      c.index-in-Some-2.result.now c.index_mut-in-Some-2.result.now c.gated.new.key
      (at_index c.args.objects.now.breakers.items c.in-Some.k c.index-in-Some-2.result.now low c.index-in-Some-2.ensures)
      (at_index c.args.pass.now.breakers.items c.in-Some.k c.index_mut-in-Some-2.result.now (omega (arith, low, c.requires.breakers.wide)) c.index_mut-in-Some-2.ensures.value)
      r.0 r.4,
)

pub returns-in-None-clause-shows : goal.returns-in-None-clause-shows
returns-in-None-clause-shows g c = λ count is. inl (c.plain.new.seat, set_here c.args.pass.now.stores.items c.args.place c.plain.new.seat (omega (arith, c.requires.place, c.requires.stores.wide)), c.plain.ensures.shows count is)

pub returns-in-Some-clause-shows : goal.returns-in-Some-clause-shows
returns-in-Some-clause-shows g c = λ count is. let low = within c.args.bound.now.breaker c.in-Some.k c.in-Some.is c.requires.breaker in ⊎_elim
    (λ (h : c.gated.new.key.count ≡ Some count). inr (c.in-Some.k, c.in-Some.is, (c.gated.new.key, set_here c.args.pass.now.breakers.items c.in-Some.k c.gated.new.key (omega (arith, low, c.requires.breakers.wide)), h)))
    (λ (h : c.gated.new.seat.count ≡ Some count). inl (c.gated.new.seat, set_here c.args.pass.now.stores.items c.args.place c.gated.new.seat (omega (arith, c.requires.place, c.requires.stores.wide)), h))
    (c.gated.ensures.shows count is)
