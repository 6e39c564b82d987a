use Rattle.std.proofs.Common.{◌≡◌, ◌+◌, length, sym, ap, subst, ◌∙◌, arith}
use Rattle.std.specs.declared.cmp.Ordering.TheVariants.{Less, Equal, Greater}
use Rattle.ledger_core.specs.Place.{place_order}
use Rattle.ledger_core.specs.Tree.{entry_of, row_of, listed, listed_in, IsEven}
use Rattle.ledger_core.proofs.Found.{left_sorted, right_sorted, left_shorter, right_shorter}
use Rattle.ledger_core.proofs.Placed.{put_left, put_right, put_here}
use Rattle.ledger_core.proofs.Sizes.{put_size, left_more, right_more, sides_size}
use Rattle.ledger_core.proofs.placing.+put.Goals as goal

pub put-requires : goal.put-requires
put-requires t c =
    let is : c.args.tree ≡ listed c.in-Some.at.value = sym c.tree.view_is ∙ ap listed_in c.in-Some.is in
    let left : c.take_left-left.result ≡ c.in-Some.at.value.left = c.take_left-left.ensures.taken ∙ ap (λ node. node.left) (c.deref_mut.ensures.value ∙ ap (λ at. at.value) c.in-Some.at-is) in
    let shorter = left_shorter _ _ _ _ is in
    let room = c.requires.room in
    rw left (omega arith, (left_sorted _ _ _ _ is c.requires.sorted, omega (arith, shorter, room)))

pub put-requires-in-Greater : goal.put-requires-in-Greater
put-requires-in-Greater t c =
    let is : c.args.tree ≡ listed c.in-Some.at.value = sym c.tree.view_is ∙ ap listed_in c.in-Some.is in
    let right : c.take_right-right.result ≡ c.in-Some.at.value.right = c.take_right-right.ensures.taken ∙ ap (λ node. node.right) (c.deref_mut-in-Greater.ensures.value ∙ ap (λ at. at.value) c.in-Some.at-is) in
    let shorter = right_shorter _ _ _ _ is in
    let room = c.requires.room in
    rw right (omega arith, (right_sorted _ _ _ _ is c.requires.sorted, omega (arith, shorter, room)))

pub returns-in-Less : goal.returns-in-Less
returns-in-Less t c =
    let is : c.args.tree ≡ listed c.in-Some.at.value = sym c.tree.view_is ∙ ap listed_in c.in-Some.is in
    let order : place_order c.args.node.value.place c.in-Some.at.value.place ≡ Less = cc in
    let left : c.take_left-left.result ≡ c.in-Some.at.value.left = c.take_left-left.ensures.taken ∙ ap (λ node. node.left) (c.deref_mut.ensures.value ∙ ap (λ at. at.value) c.in-Some.at-is) in
    let entry : entry_of c.take_left-left.new.self ≡ entry_of c.in-Some.at.value = ap entry_of c.take_left-left.ensures.rest ∙ ap entry_of (c.deref_mut.ensures.value ∙ ap (λ at. at.value) c.in-Some.at-is) in
    let right : c.take_left-left.new.self.right ≡ c.in-Some.at.value.right = ap (λ node. node.right) c.take_left-left.ensures.rest ∙ ap (λ node. node.right) (c.deref_mut.ensures.value ∙ ap (λ at. at.value) c.in-Some.at-is) in
    rw (c.with_left.ensures, c.put.ensures, left, entry, right) (sym (put_left _ _ _ _ _ (row_of c.args.node.value.row) is order))

pub returns-in-Greater : goal.returns-in-Greater
returns-in-Greater t c =
    let is : c.args.tree ≡ listed c.in-Some.at.value = sym c.tree.view_is ∙ ap listed_in c.in-Some.is in
    let order : place_order c.args.node.value.place c.in-Some.at.value.place ≡ Greater = cc in
    let right : c.take_right-right.result ≡ c.in-Some.at.value.right = c.take_right-right.ensures.taken ∙ ap (λ node. node.right) (c.deref_mut-in-Greater.ensures.value ∙ ap (λ at. at.value) c.in-Some.at-is) in
    let entry : entry_of c.take_right-right.new.self ≡ entry_of c.in-Some.at.value = ap entry_of c.take_right-right.ensures.rest ∙ ap entry_of (c.deref_mut-in-Greater.ensures.value ∙ ap (λ at. at.value) c.in-Some.at-is) in
    let left : c.take_right-right.new.self.left ≡ c.in-Some.at.value.left = ap (λ node. node.left) c.take_right-right.ensures.rest ∙ ap (λ node. node.left) (c.deref_mut-in-Greater.ensures.value ∙ ap (λ at. at.value) c.in-Some.at-is) in
    rw (c.with_right.ensures, c.put-in-Greater.ensures, left, entry, right) (sym (put_right _ _ _ _ _ (row_of c.args.node.value.row) is c.requires.sorted order))

pub returns-in-Equal : goal.returns-in-Equal
returns-in-Equal t c =
    let is : c.args.tree ≡ listed c.in-Some.at.value = sym c.tree.view_is ∙ ap listed_in c.in-Some.is in
    let order : place_order c.args.node.value.place c.in-Some.at.value.place ≡ Equal = cc in
    let placed = put_here _ _ _ _ _ (row_of c.args.node.value.row) is c.requires.sorted order in
    cc

pub with_left-requires-clause-nearly : goal.with_left-requires-clause-nearly
with_left-requires-clause-nearly t c =
    let is : c.args.tree ≡ listed c.in-Some.at.value = sym c.tree.view_is ∙ ap listed_in c.in-Some.is in
    let left : c.take_left-left.result ≡ c.in-Some.at.value.left = c.take_left-left.ensures.taken ∙ ap (λ node. node.left) (c.deref_mut.ensures.value ∙ ap (λ at. at.value) c.in-Some.at-is) in
    let right : c.take_left-left.new.self.right ≡ c.in-Some.at.value.right = ap (λ node. node.right) c.take_left-left.ensures.rest ∙ ap (λ node. node.right) (c.deref_mut.ensures.value ∙ ap (λ at. at.value) c.in-Some.at-is) in
    rw (c.put.ensures, left, right) (left_more _ _ _ (subst IsEven c.in-Some.is c.tree.invariant.even) (put_size _ c.args.node.value.place (row_of c.args.node.value.row) (left_sorted _ _ _ _ is c.requires.sorted)))

pub with_left-requires-clause-room : goal.with_left-requires-clause-room
with_left-requires-clause-room t c =
    let is : c.args.tree ≡ listed c.in-Some.at.value = sym c.tree.view_is ∙ ap listed_in c.in-Some.is in
    let left : c.take_left-left.result ≡ c.in-Some.at.value.left = c.take_left-left.ensures.taken ∙ ap (λ node. node.left) (c.deref_mut.ensures.value ∙ ap (λ at. at.value) c.in-Some.at-is) in
    let right : c.take_left-left.new.self.right ≡ c.in-Some.at.value.right = ap (λ node. node.right) c.take_left-left.ensures.rest ∙ ap (λ node. node.right) (c.deref_mut.ensures.value ∙ ap (λ at. at.value) c.in-Some.at-is) in
    let more = (put_size c.in-Some.at.value.left c.args.node.value.place (row_of c.args.node.value.row) (left_sorted _ _ _ _ is c.requires.sorted)).most in
    let sides = sides_size c.args.tree c.in-Some.at.value.left (entry_of c.in-Some.at.value) c.in-Some.at.value.right is in
    let room = c.requires.room in
    rw (c.put.ensures, left, right) (omega (arith, more, sides, room))

pub with_right-requires-clause-nearly : goal.with_right-requires-clause-nearly
with_right-requires-clause-nearly t c =
    let is : c.args.tree ≡ listed c.in-Some.at.value = sym c.tree.view_is ∙ ap listed_in c.in-Some.is in
    let right : c.take_right-right.result ≡ c.in-Some.at.value.right = c.take_right-right.ensures.taken ∙ ap (λ node. node.right) (c.deref_mut-in-Greater.ensures.value ∙ ap (λ at. at.value) c.in-Some.at-is) in
    let left : c.take_right-right.new.self.left ≡ c.in-Some.at.value.left = ap (λ node. node.left) c.take_right-right.ensures.rest ∙ ap (λ node. node.left) (c.deref_mut-in-Greater.ensures.value ∙ ap (λ at. at.value) c.in-Some.at-is) in
    rw (c.put-in-Greater.ensures, left, right) (right_more _ _ _ (subst IsEven c.in-Some.is c.tree.invariant.even) (put_size _ c.args.node.value.place (row_of c.args.node.value.row) (right_sorted _ _ _ _ is c.requires.sorted)))

pub with_right-requires-clause-room : goal.with_right-requires-clause-room
with_right-requires-clause-room t c =
    let is : c.args.tree ≡ listed c.in-Some.at.value = sym c.tree.view_is ∙ ap listed_in c.in-Some.is in
    let right : c.take_right-right.result ≡ c.in-Some.at.value.right = c.take_right-right.ensures.taken ∙ ap (λ node. node.right) (c.deref_mut-in-Greater.ensures.value ∙ ap (λ at. at.value) c.in-Some.at-is) in
    let left : c.take_right-right.new.self.left ≡ c.in-Some.at.value.left = ap (λ node. node.left) c.take_right-right.ensures.rest ∙ ap (λ node. node.left) (c.deref_mut-in-Greater.ensures.value ∙ ap (λ at. at.value) c.in-Some.at-is) in
    let more = (put_size c.in-Some.at.value.right c.args.node.value.place (row_of c.args.node.value.row) (right_sorted _ _ _ _ is c.requires.sorted)).most in
    let sides = sides_size c.args.tree c.in-Some.at.value.left (entry_of c.in-Some.at.value) c.in-Some.at.value.right is in
    let room = c.requires.room in
    rw (c.put-in-Greater.ensures, left, right) (omega (arith, more, sides, room))
