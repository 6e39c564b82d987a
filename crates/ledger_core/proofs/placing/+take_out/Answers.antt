use Rattle.std.proofs.Common.{◌≡◌, ◌+◌, length, sym, ap, subst, ◌∙◌, arith, Some}
use Rattle.std.specs.FinMap.{find}
use Rattle.std.specs.declared.cmp.Ordering.TheVariants.{Less, Equal, Greater}
use Rattle.ledger_core.specs.Place.{place_order}
use Rattle.ledger_core.specs.Tree.{entry_of, row_of, listed, listed_in, IsEven}
use Rattle.ledger_core.proofs.Found.{left_sorted, right_sorted, left_shorter, right_shorter, found_left, found_right, found_here}
use Rattle.ledger_core.proofs.Placed.{without_left, without_right, without_here}
use Rattle.ledger_core.proofs.Sizes.{without_size, left_less, right_less, sides_size}
use Rattle.ledger_core.proofs.placing.+take_out.Goals as goal

pub take_out-found-requires : goal.take_out-found-requires
take_out-found-requires t c =
    let is : c.args.tree ≡ listed c.in-Some.at.value = sym c.tree.view_is ∙ ap listed_in c.in-Some.is in
    let left : c.take_left-left.result ≡ c.in-Some.at.value.left = c.take_left-left.ensures.taken ∙ ap (λ node. node.left) (c.deref_mut.ensures.value ∙ ap (λ at. at.value) c.in-Some.at-is) in
    let shorter = left_shorter _ _ _ _ is in
    rw left (omega arith, left_sorted _ _ _ _ is c.requires)

pub take_out-found-requires-in-Greater : goal.take_out-found-requires-in-Greater
take_out-found-requires-in-Greater t c =
    let is : c.args.tree ≡ listed c.in-Some.at.value = sym c.tree.view_is ∙ ap listed_in c.in-Some.is in
    let right : c.take_right-right.result ≡ c.in-Some.at.value.right = c.take_right-right.ensures.taken ∙ ap (λ node. node.right) (c.deref_mut-in-Greater.ensures.value ∙ ap (λ at. at.value) c.in-Some.at-is) in
    let shorter = right_shorter _ _ _ _ is in
    rw right (omega arith, right_sorted _ _ _ _ is c.requires)

pub returns-in-Less-clause-found : goal.returns-in-Less-clause-found
returns-in-Less-clause-found t c =
    let is : c.args.tree ≡ listed c.in-Some.at.value = sym c.tree.view_is ∙ ap listed_in c.in-Some.is in
    let order : place_order c.args.place.now c.in-Some.at.value.place ≡ Less = cc in
    let left : c.take_left-left.result ≡ c.in-Some.at.value.left = c.take_left-left.ensures.taken ∙ ap (λ node. node.left) (c.deref_mut.ensures.value ∙ ap (λ at. at.value) c.in-Some.at-is) in
    c.take_out-found.ensures.found ∙ ap (find place_order c.args.place.now) left ∙ sym (found_left _ _ _ _ _ is c.requires order)

pub returns-in-Less-clause-rest : goal.returns-in-Less-clause-rest
returns-in-Less-clause-rest t c =
    let is : c.args.tree ≡ listed c.in-Some.at.value = sym c.tree.view_is ∙ ap listed_in c.in-Some.is in
    let order : place_order c.args.place.now c.in-Some.at.value.place ≡ Less = cc in
    let left : c.take_left-left.result ≡ c.in-Some.at.value.left = c.take_left-left.ensures.taken ∙ ap (λ node. node.left) (c.deref_mut.ensures.value ∙ ap (λ at. at.value) c.in-Some.at-is) in
    let entry : entry_of c.take_left-left.new.self ≡ entry_of c.in-Some.at.value = ap entry_of c.take_left-left.ensures.rest ∙ ap entry_of (c.deref_mut.ensures.value ∙ ap (λ at. at.value) c.in-Some.at-is) in
    let right : c.take_left-left.new.self.right ≡ c.in-Some.at.value.right = ap (λ node. node.right) c.take_left-left.ensures.rest ∙ ap (λ node. node.right) (c.deref_mut.ensures.value ∙ ap (λ at. at.value) c.in-Some.at-is) in
    rw (c.with_left.ensures, c.take_out-found.ensures.rest, left, entry, right) (sym (without_left _ _ _ _ c.args.place.now is c.requires order))

pub returns-in-Greater-clause-found : goal.returns-in-Greater-clause-found
returns-in-Greater-clause-found t c =
    let is : c.args.tree ≡ listed c.in-Some.at.value = sym c.tree.view_is ∙ ap listed_in c.in-Some.is in
    let order : place_order c.args.place.now c.in-Some.at.value.place ≡ Greater = cc in
    let right : c.take_right-right.result ≡ c.in-Some.at.value.right = c.take_right-right.ensures.taken ∙ ap (λ node. node.right) (c.deref_mut-in-Greater.ensures.value ∙ ap (λ at. at.value) c.in-Some.at-is) in
    c.take_out-found-in-Greater.ensures.found ∙ ap (find place_order c.args.place.now) right ∙ sym (found_right _ _ _ _ _ is c.requires order)

pub returns-in-Greater-clause-rest : goal.returns-in-Greater-clause-rest
returns-in-Greater-clause-rest t c =
    let is : c.args.tree ≡ listed c.in-Some.at.value = sym c.tree.view_is ∙ ap listed_in c.in-Some.is in
    let order : place_order c.args.place.now c.in-Some.at.value.place ≡ Greater = cc in
    let right : c.take_right-right.result ≡ c.in-Some.at.value.right = c.take_right-right.ensures.taken ∙ ap (λ node. node.right) (c.deref_mut-in-Greater.ensures.value ∙ ap (λ at. at.value) c.in-Some.at-is) in
    let entry : entry_of c.take_right-right.new.self ≡ entry_of c.in-Some.at.value = ap entry_of c.take_right-right.ensures.rest ∙ ap entry_of (c.deref_mut-in-Greater.ensures.value ∙ ap (λ at. at.value) c.in-Some.at-is) in
    let left : c.take_right-right.new.self.left ≡ c.in-Some.at.value.left = ap (λ node. node.left) c.take_right-right.ensures.rest ∙ ap (λ node. node.left) (c.deref_mut-in-Greater.ensures.value ∙ ap (λ at. at.value) c.in-Some.at-is) in
    rw (c.with_right.ensures, c.take_out-found-in-Greater.ensures.rest, left, entry, right) (sym (without_right _ _ _ _ c.args.place.now is c.requires order))

pub returns-in-Equal-clause-found : goal.returns-in-Equal-clause-found
returns-in-Equal-clause-found t c =
    let is : c.args.tree ≡ listed c.in-Some.at.value = sym c.tree.view_is ∙ ap listed_in c.in-Some.is in
    let order : place_order c.args.place.now c.in-Some.at.value.place ≡ Equal = cc in
    let value = c.deref_mut-in-Equal.ensures.value ∙ ap (λ at. at.value) c.in-Some.at-is in
    let row : row_of c.take_right-right-in-Equal.new.self.row ≡ row_of c.in-Some.at.value.row = ap (λ node. row_of node.row) c.take_right-right-in-Equal.ensures.rest ∙ ap (λ node. row_of node.row) c.deref_mut-in-Equal-2.ensures.value ∙ ap (λ node. row_of node.row) c.take_left-left-in-Equal.ensures.rest ∙ ap (λ node. row_of node.row) value in
    ap (λ r. Some r) row ∙ sym (found_here _ _ _ _ _ is c.requires order)

pub returns-in-Equal-clause-rest : goal.returns-in-Equal-clause-rest
returns-in-Equal-clause-rest t c =
    let is : c.args.tree ≡ listed c.in-Some.at.value = sym c.tree.view_is ∙ ap listed_in c.in-Some.is in
    let order : place_order c.args.place.now c.in-Some.at.value.place ≡ Equal = cc in
    let value = c.deref_mut-in-Equal.ensures.value ∙ ap (λ at. at.value) c.in-Some.at-is in
    let left : c.take_left-left-in-Equal.result ≡ c.in-Some.at.value.left = c.take_left-left-in-Equal.ensures.taken ∙ ap (λ node. node.left) value in
    let right : c.take_right-right-in-Equal.result ≡ c.in-Some.at.value.right = c.take_right-right-in-Equal.ensures.taken ∙ ap (λ node. node.right) c.deref_mut-in-Equal-2.ensures.value ∙ ap (λ node. node.right) c.take_left-left-in-Equal.ensures.rest ∙ ap (λ node. node.right) value in
    rw (c.joined.ensures, left, right) (sym (without_here _ _ _ _ c.args.place.now is c.requires order))

pub with_left-requires-clause-nearly : goal.with_left-requires-clause-nearly
with_left-requires-clause-nearly t c =
    let is : c.args.tree ≡ listed c.in-Some.at.value = sym c.tree.view_is ∙ ap listed_in c.in-Some.is in
    let left : c.take_left-left.result ≡ c.in-Some.at.value.left = c.take_left-left.ensures.taken ∙ ap (λ node. node.left) (c.deref_mut.ensures.value ∙ ap (λ at. at.value) c.in-Some.at-is) in
    let right : c.take_left-left.new.self.right ≡ c.in-Some.at.value.right = ap (λ node. node.right) c.take_left-left.ensures.rest ∙ ap (λ node. node.right) (c.deref_mut.ensures.value ∙ ap (λ at. at.value) c.in-Some.at-is) in
    rw (c.take_out-found.ensures.rest, left, right) (left_less _ _ _ (subst IsEven c.in-Some.is c.tree.invariant.even) (without_size _ c.args.place.now (left_sorted _ _ _ _ is c.requires)))

pub with_left-requires-clause-room : goal.with_left-requires-clause-room
with_left-requires-clause-room t c =
    let is : c.args.tree ≡ listed c.in-Some.at.value = sym c.tree.view_is ∙ ap listed_in c.in-Some.is in
    let left : c.take_left-left.result ≡ c.in-Some.at.value.left = c.take_left-left.ensures.taken ∙ ap (λ node. node.left) (c.deref_mut.ensures.value ∙ ap (λ at. at.value) c.in-Some.at-is) in
    let right : c.take_left-left.new.self.right ≡ c.in-Some.at.value.right = ap (λ node. node.right) c.take_left-left.ensures.rest ∙ ap (λ node. node.right) (c.deref_mut.ensures.value ∙ ap (λ at. at.value) c.in-Some.at-is) in
    let less = (without_size c.in-Some.at.value.left c.args.place.now (left_sorted _ _ _ _ is c.requires)).least in
    let sides = sides_size c.args.tree c.in-Some.at.value.left (entry_of c.in-Some.at.value) c.in-Some.at.value.right is in
    let len = c.tree.invariant.len_is ∙ ap length c.tree.view_is in
    let most = c.tree.invariant.most in
    rw (c.take_out-found.ensures.rest, left, right) (omega (arith, less, sides, len, most))

pub with_right-requires-clause-nearly : goal.with_right-requires-clause-nearly
with_right-requires-clause-nearly t c =
    let is : c.args.tree ≡ listed c.in-Some.at.value = sym c.tree.view_is ∙ ap listed_in c.in-Some.is in
    let right : c.take_right-right.result ≡ c.in-Some.at.value.right = c.take_right-right.ensures.taken ∙ ap (λ node. node.right) (c.deref_mut-in-Greater.ensures.value ∙ ap (λ at. at.value) c.in-Some.at-is) in
    let left : c.take_right-right.new.self.left ≡ c.in-Some.at.value.left = ap (λ node. node.left) c.take_right-right.ensures.rest ∙ ap (λ node. node.left) (c.deref_mut-in-Greater.ensures.value ∙ ap (λ at. at.value) c.in-Some.at-is) in
    rw (c.take_out-found-in-Greater.ensures.rest, left, right) (right_less _ _ _ (subst IsEven c.in-Some.is c.tree.invariant.even) (without_size _ c.args.place.now (right_sorted _ _ _ _ is c.requires)))

pub with_right-requires-clause-room : goal.with_right-requires-clause-room
with_right-requires-clause-room t c =
    let is : c.args.tree ≡ listed c.in-Some.at.value = sym c.tree.view_is ∙ ap listed_in c.in-Some.is in
    let right : c.take_right-right.result ≡ c.in-Some.at.value.right = c.take_right-right.ensures.taken ∙ ap (λ node. node.right) (c.deref_mut-in-Greater.ensures.value ∙ ap (λ at. at.value) c.in-Some.at-is) in
    let left : c.take_right-right.new.self.left ≡ c.in-Some.at.value.left = ap (λ node. node.left) c.take_right-right.ensures.rest ∙ ap (λ node. node.left) (c.deref_mut-in-Greater.ensures.value ∙ ap (λ at. at.value) c.in-Some.at-is) in
    let less = (without_size c.in-Some.at.value.right c.args.place.now (right_sorted _ _ _ _ is c.requires)).least in
    let sides = sides_size c.args.tree c.in-Some.at.value.left (entry_of c.in-Some.at.value) c.in-Some.at.value.right is in
    let len = c.tree.invariant.len_is ∙ ap length c.tree.view_is in
    let most = c.tree.invariant.most in
    rw (c.take_out-found-in-Greater.ensures.rest, left, right) (omega (arith, less, sides, len, most))
