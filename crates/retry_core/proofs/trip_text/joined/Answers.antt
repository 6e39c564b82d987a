use Rattle.std.proofs.Common.{◌≡◌, ◌≢◌, ◌<◌, [], ◌∷◌, ◌++◌, List, length, ap, arith, refl}
use Rattle.std.proofs.lemmas.Result.{err_from_is_err_and}
use Rattle.retry_core.specs.declared.trip.Comparison.{Comparison}
use Rattle.retry_core.specs.TripText.{none}
use Rattle.retry_core.proofs.TripLoops.{Compares-length, Joined-length, Joined-rejoin, takes_join, meets_join, read_leads, read_more, TripResult-stopped}
use Rattle.retry_core.proofs.trip_text.joined.Goals as goal

pub loop-after-init : goal.loop-after-init
loop-after-init c =
    record {
      front = [];
      last = c.args.first;
      rest = c.args.whole.now;
      joined = none;
      compares = c.requires;
      places_are = refl;
      count_is = omega arith;
      few = omega arith;
      alone = λ one. refl;
    }

pub overflow_sub-at : goal.overflow_sub-at
overflow_sub-at c =
    let r = c.loop-after.invariant in
    omega (arith, c.skip_spaces-rest.ensures.len, Compares-length _ _ _ r.compares, Joined-length _ _ _ _ r.joined)

pub returns-then-is_unlike : goal.returns-then-is_unlike
returns-then-is_unlike c =
    let r = c.loop-after.invariant in
    let found = c.in-Some.ensures.some in
    let size : (front : List Comparison) → front ≡ [] → length front ≡ 0 = λ front empty. ap length empty in
    record {
      join = c.loop-after.join;
      other = c.in-Some.found;
      front = r.front;
      rest = r.rest;
      stop = c.skip_spaces-rest.result.now;
      leads = record { joined = r.joined; few = omega (arith, r.count_is, r.few) };
      later = λ empty. c.if-is_unlike.ensures.unlike.0 (omega (arith, r.count_is, size r.front empty));
      meets = meets_join r.rest c.loop-after.after.now c.skip_spaces-rest.result.now found.0 r.last c.in-Some.found r.compares c.skip_spaces-rest.ensures.value found.1;
      unlike = c.if-is_unlike.ensures.unlike.1;
      place = refl;
    }

pub returns-then-count-eq4 : goal.returns-then-count-eq4
returns-then-count-eq4 c =
    let r = c.loop-after.invariant in
    let found = c.in-Some.ensures.some in
    let same : r.front ≢ [] → c.loop-after.join ≡ c.in-Some.found = λ later. c.if-is_unlike.ensures.like (omega arith) in
    record {
      join = c.in-Some.found;
      front = r.front;
      rest = r.rest;
      stop = c.skip_spaces-rest.result.now;
      leads = record {
        joined = Joined-rejoin c.loop-after.join c.in-Some.found r.rest c.args.whole.now r.front r.joined same;
        few = omega (arith, r.count_is);
      };
      fourth = omega (arith, r.count_is);
      meets = meets_join r.rest c.loop-after.after.now c.skip_spaces-rest.result.now found.0 r.last c.in-Some.found r.compares c.skip_spaces-rest.ensures.value found.1;
      place = refl;
    }

pub comparison_of-requires : goal.comparison_of-requires
comparison_of-requires c =
    let r = c.loop-after.invariant in
    omega (arith, c.after_word.ensures.shorter, c.skip_spaces-rest.ensures.len, Compares-length _ _ _ r.compares, Joined-length _ _ _ _ r.joined)

pub returns-in_err-comparison : goal.returns-in_err-comparison
returns-in_err-comparison c =
    let r = c.loop-after.invariant in
    let found = c.in-Some.ensures.some in
    let takes = takes_join c.loop-after.after.now c.skip_spaces-rest.result.now c.after_word.result.now found.0 c.in-Some.len c.in-Some.found c.skip_spaces-rest.ensures.value found.1 found.2 c.after_word.ensures.value in
    let few : c.loop-after.count < 4 = omega (arith, r.few) in
    let leads = read_leads c.args.whole.now c.loop-after.after.now c.loop-after.join c.in-Some.found c.loop-after.comparisons c.loop-after.count r c.if-is_unlike.ensures.like few c.after_word.result.now takes in
    let stopped = TripResult-stopped c.args.whole.now c.after_word.result.now c.in-Some.found (r.front ++ r.last ∷ []) leads c.in_err-comparison.field-0.0 c.in_err-comparison.ensures.absent in
    let p = err_from_is_err_and c.from_residual.result c.from_residual.ensures.1 in
    rw (p.1, p.2) stopped

pub loop-after-smaller : goal.loop-after-smaller
loop-after-smaller c =
    omega (arith, c.after_word.ensures.shorter, c.skip_spaces-rest.ensures.len, Compares-length _ _ _ c.in_ok-comparison.ensures.found)

pub loop-after-preserved : goal.loop-after-preserved
loop-after-preserved c =
    let r = c.loop-after.invariant in
    let found = c.in-Some.ensures.some in
    let takes = takes_join c.loop-after.after.now c.skip_spaces-rest.result.now c.after_word.result.now found.0 c.in-Some.len c.in-Some.found c.skip_spaces-rest.ensures.value found.1 found.2 c.after_word.ensures.value in
    let few : c.loop-after.count < 4 = omega (arith, r.few) in
    read_more c.args.whole.now c.loop-after.after.now c.loop-after.join c.in-Some.found c.loop-after.comparisons c.loop-after.count r c.if-is_unlike.ensures.like few c.after_word.result.now takes
    c.in_ok-comparison.comparison c.in_ok-comparison.next.now c.in_ok-comparison.ensures.found
