use Rattle.std.proofs.Common.{◌<◌, List, sym, subst, arith, refl, length}
use Rattle.std.specs.Prelude.{option_copied}
use Rattle.app_peers.specs.declared.peer.Peer.{Peer}
use Rattle.app_peers.specs.declared.reading.PeersErr.TheVariants as errors
use Rattle.app_peers.proofs.Read.{ended, none_new, further, ReadSoFar, at_end, same_error}
use Rattle.app_peers.proofs.reading.read_peers.Goals as goal

pub loop-rest-preserved : goal.loop-rest-preserved
loop-rest-preserved c =
    let own = c.args.own.now in
    let text = c.args.text.now in
    let so = subst (λ r. ReadSoFar own text c.loop-rest.peers (option_copied r)) c.in-Some.is c.loop-rest.invariant in
    let added = c.in-Ok.ensures.ok in
    let room : length c.loop-rest.peers < 256 = omega (arith, so.few, c.len.ensures, c.if-len-eq-PEERS_LIMIT.false) in
    subst (λ (l : List Peer). ReadSoFar own text l (option_copied c.first_item.result.1)) (sym added.3)
    (further own text c.loop-rest.peers c.in-Some.left.now c.first_item.result.0.now (option_copied c.first_item.result.1) c.first_item.ensures.items so room added.0 added.1 added.2)

pub returns-in-Err-clause-no_list : goal.returns-in-Err-clause-no_list
returns-in-Err-clause-no_list c = λ is all lists.
    let own = c.args.own.now in
    let text = c.args.text.now in
    let so = subst (λ r. ReadSoFar own text c.loop-rest.peers (option_copied r)) c.in-Some.is c.loop-rest.invariant in
    none_new own text c.loop-rest.peers c.in-Some.left.now c.first_item.result.0.now (option_copied c.first_item.result.1) c.first_item.ensures.items so (c.in-Err.ensures.no_list (same_error c.in-Err.error errors.NoList _ _ _ _ refl refl is refl refl)) all lists

pub returns-clause-ok : goal.returns-clause-ok
returns-clause-ok c = ended c.args.own.now c.args.text.now c.loop-rest.peers (at_end c.args.own.now c.args.text.now c.loop-rest.peers c.loop-rest.rest c.in_default.not-Some c.loop-rest.invariant)
