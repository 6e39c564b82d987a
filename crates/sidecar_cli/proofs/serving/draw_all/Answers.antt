use Rattle.std.specs.Prelude.{ℕ}
use Rattle.std.proofs.Common.{◌∙◌, ◌++◌, ◌∷◌, [], ap, arith, length, length-append, map, refl, sym}
use Rattle.std.proofs.lemmas.List.{map-append}
use Rattle.side_world.proofs.Composed.{tells_nothing, tells_on}
use Rattle.sidecar_cli.proofs.serving.draw_all.Goals as goal

pub loop-init : goal.loop-init
loop-init g c = let e = c.in_ok-rngs.ensures in let room = e.capacity in record {
  seeds = [];
  count = refl;
  wide = ap length e.items;
  streams = ap (map g.R.Rng.stream) e.items;
  told = tells_nothing _;
  disks = refl;
  calls = refl;
  backs = refl;
  faults = refl;
  room = omega (arith, room);
}

pub loop-preserved : goal.loop-preserved
loop-preserved g c =
    let h = c.loop.invariant in
    let p = c.push_reserved.ensures in
    let e = c.start_number.ensures in
    let n = c.start_number.result in
    let seeds = h.seeds in
    let old = c.loop.rngs.items in
    let more = length-append seeds (n ∷ []) in
    let wide = h.wide in
    let count = h.count in
    let room = h.room in
    let capacity = p.capacity in
    record {
      seeds = seeds ++ n ∷ [];
      count = omega (arith, more, count);
      wide = omega (arith, ap length p.items, length-append old (c.seed_from_u64.result ∷ []), wide);
      streams = ap (map g.R.Rng.stream) p.items ∙ map-append g.R.Rng.stream old (c.seed_from_u64.result ∷ []) ∙ (λ i. h.streams i ++ g.R.Rng.stream (c.seed_from_u64.ensures i) ∷ []) ∙ sym (map-append (λ (m : ℕ). g.R.Rng.stream (g.R.SeedableRng.of_seed (g.R.SeedableRng.seed_of_u64 m))) seeds (n ∷ []));
      told = tells_on _ _ _ seeds (n ∷ []) h.told e.numbers;
      disks = e.disks ∙ h.disks;
      calls = e.calls ∙ h.calls;
      backs = e.backs ∙ h.backs;
      faults = e.faults ∙ h.faults;
      room = omega (arith, room, capacity);
    }
