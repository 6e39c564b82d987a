-- The counters of the books stay bounded, and the trees in order.
use Rattle.std.proofs.Common.{◌≡◌, ◌+◌, ◌-◌, ◌*◌, ◌^◌, ◌<◌, ◌≤◌, ℕ, List, length, ap, sym, subst, arith}
use Rattle.std.specs.FinMap.{is_sorted, put}
use Rattle.ledger_core.specs.declared.place.Place.{Place}
use Rattle.ledger_core.specs.declared.books.Books.{Books}
use Rattle.ledger_core.specs.Place.{place_order}
use Rattle.ledger_core.specs.Row.{Row, Entry}
use Rattle.ledger_core.specs.Tree.{without}
use Rattle.ledger_core.specs.Books.{AreSorted, HasRoom, IsBounded, put_all}
use Rattle.ledger_core.specs.After.{Grows}
use Rattle.ledger_core.proofs.Sizes.{put_size, put_all_size, without_fewer}
use Rattle.ledger_core.proofs.Sorted.{sorted_put, sorted_put_all, sorted_without}

sorted_as : (es fs : List Entry) → es ≡ fs → is_sorted place_order fs ≡ Rattle.std.proofs.Common.true → is_sorted place_order es ≡ Rattle.std.proofs.Common.true
sorted_as es fs e sorted = subst (λ xs. is_sorted place_order xs ≡ Rattle.std.proofs.Common.true) (sym e) sorted

-- a row waits
pub wait_grows : (before after : Books) (place : Place) (row : Row) → AreSorted before → after ≡ record before { waiting = put place_order place row before.waiting } → Grows before after
wait_grows before after place row sorted is = record {
  bounded = λ used bounded. record {
    rows =
        let w = ap (λ (b : Books). length b.waiting) is in
        let h = ap (λ (b : Books). length b.held) is in
        let more = (put_size before.waiting place row sorted.waiting).most in
        let g = bounded.rows in
        omega (arith, w, h, more, g);
    made = let e = ap (λ (b : Books). b.made) is in let g = bounded.made in omega (arith, e, g);
    claims = let e = ap (λ (b : Books). b.claims) is in let g = bounded.claims in omega (arith, e, g);
    done = let e = ap (λ (b : Books). b.done) is in let g = bounded.done in omega (arith, e, g);
    dead = let e = ap (λ (b : Books). b.dead) is in let g = bounded.dead in omega (arith, e, g);
    dropped = let e = ap (λ (b : Books). b.dropped) is in let g = bounded.dropped in omega (arith, e, g);
    owed = let e = ap (λ (b : Books). b.owed) is in let g = bounded.owed in omega (arith, e, g);
    bytes = let e = ap (λ (b : Books). b.bytes) is in let g = bounded.bytes in omega (arith, e, g);
  };
  sorted = record {
    waiting = sorted_as _ _ (ap (λ (b : Books). b.waiting) is) (sorted_put before.waiting place row sorted.waiting);
    held = sorted_as _ _ (ap (λ (b : Books). b.held) is) sorted.held;
  };
}

-- a message is added, and a dead letter counted
pub add_grows : (before after : Books) (entries : List Entry) (owed bytes drops letters : ℕ) → AreSorted before → owed ≤ 65536 → bytes ≤ 268435456 → drops < 2 ^ 64 → length entries < 2 ^ 64 → letters ≤ 1
    → after ≡ record before { waiting = put_all entries before.waiting; made = before.made + 1; owed = owed; bytes = bytes; dropped = before.dropped + drops; dead = before.dead + letters } → Grows before after
add_grows before after entries owed bytes drops letters sorted few_rows few_bytes few short one is = record {
  bounded = λ used bounded. record {
    rows =
        let w = ap (λ (b : Books). length b.waiting) is in
        let h = ap (λ (b : Books). length b.held) is in
        let more = put_all_size entries before.waiting sorted.waiting in
        let g = bounded.rows in
        omega (arith, w, h, more, short, g);
    made = let e = ap (λ (b : Books). b.made) is in let g = bounded.made in omega (arith, e, g);
    claims = let e = ap (λ (b : Books). b.claims) is in let g = bounded.claims in omega (arith, e, g);
    done = let e = ap (λ (b : Books). b.done) is in let g = bounded.done in omega (arith, e, g);
    dead = let e = ap (λ (b : Books). b.dead) is in let g = bounded.dead in omega (arith, e, g, one);
    dropped = let e = ap (λ (b : Books). b.dropped) is in let g = bounded.dropped in omega (arith, e, g, few);
    owed = let e = ap (λ (b : Books). b.owed) is in omega (arith, e, few_rows);
    bytes = let e = ap (λ (b : Books). b.bytes) is in omega (arith, e, few_bytes);
  };
  sorted = record {
    waiting = sorted_as _ _ (ap (λ (b : Books). b.waiting) is) (sorted_put_all entries before.waiting sorted.waiting);
    held = sorted_as _ _ (ap (λ (b : Books). b.held) is) sorted.held;
  };
}

-- a row that was held is taken out: nothing else changes
pub out_bounded : (before mid : Books) (place : Place) → mid ≡ record before { held = without place before.held } → (used : ℕ) → IsBounded used before → IsBounded used mid
out_bounded before mid place is used bounded = subst (IsBounded used) (sym is) (record {
  rows = let fewer = without_fewer before.held place in let g = bounded.rows in omega (arith, fewer, g);
  made = bounded.made;
  claims = bounded.claims;
  done = bounded.done;
  dead = bounded.dead;
  dropped = bounded.dropped;
  owed = bounded.owed;
  bytes = bounded.bytes;
})

pub out_sorted : (before mid : Books) (place : Place) → mid ≡ record before { held = without place before.held } → AreSorted before → AreSorted mid
out_sorted before mid place is sorted = record {
  waiting = sorted_as _ _ (ap (λ (b : Books). b.waiting) is) sorted.waiting;
  held = sorted_as _ _ (ap (λ (b : Books). b.held) is) (sorted_without before.held place sorted.held);
}

pub out_grows : (before mid after : Books) (place : Place) → mid ≡ record before { held = without place before.held } → Grows mid after → Grows before after
out_grows before mid after place is grows = record { bounded = λ used bounded. grows.bounded used (out_bounded before mid place is used bounded); sorted = grows.sorted }

pub stay_grows : (before : Books) → AreSorted before → Grows before before
stay_grows before sorted = record {
  bounded = λ used bounded. record {
    rows = let g = bounded.rows in omega (arith, g);
    made = let g = bounded.made in omega (arith, g);
    claims = let g = bounded.claims in omega (arith, g);
    done = let g = bounded.done in omega (arith, g);
    dead = let g = bounded.dead in omega (arith, g);
    dropped = let g = bounded.dropped in omega (arith, g);
    owed = bounded.owed;
    bytes = bounded.bytes;
  };
  sorted = sorted;
}

-- a row is gone, and counted by one of two counters
pub close_grows : (before after : Books) (bytes done dropped : ℕ) → AreSorted before → done ≤ before.done + 1 → dropped ≤ before.dropped + 1 → bytes ≤ before.bytes
    → after ≡ record before { owed = before.owed - 1; bytes = bytes; done = done; dropped = dropped } → Grows before after
close_grows before after bytes done dropped sorted one other few is = record {
  bounded = λ used bounded. record {
    rows = let w = ap (λ (b : Books). length b.waiting) is in let h = ap (λ (b : Books). length b.held) is in let g = bounded.rows in omega (arith, w, h, g);
    made = let e = ap (λ (b : Books). b.made) is in let g = bounded.made in omega (arith, e, g);
    claims = let e = ap (λ (b : Books). b.claims) is in let g = bounded.claims in omega (arith, e, g);
    done = let e = ap (λ (b : Books). b.done) is in let g = bounded.done in omega (arith, e, g, one);
    dead = let e = ap (λ (b : Books). b.dead) is in let g = bounded.dead in omega (arith, e, g);
    dropped = let e = ap (λ (b : Books). b.dropped) is in let g = bounded.dropped in omega (arith, e, g, other);
    owed = let e = ap (λ (b : Books). b.owed) is in let g = bounded.owed in omega (arith, e, g);
    bytes = let e = ap (λ (b : Books). b.bytes) is in let g = bounded.bytes in omega (arith, e, g, few);
  };
  sorted = record {
    waiting = sorted_as _ _ (ap (λ (b : Books). b.waiting) is) sorted.waiting;
    held = sorted_as _ _ (ap (λ (b : Books). b.held) is) sorted.held;
  };
}

-- a row was held and is in hand: there is room to put it back
pub out_room : (before mid : Books) (place : Place) → mid ≡ record before { held = without place before.held } → HasRoom before → HasRoom mid
out_room before mid place is room = subst HasRoom (sym is) (record {
  rows = let fewer = without_fewer before.held place in let g = room.rows in omega (arith, fewer, g);
  made = room.made;
  claims = room.claims;
  done = room.done;
  dead = room.dead;
  dropped = room.dropped;
  owed = room.owed;
  bytes = room.bytes;
})
