use Rattle.std.proofs.Common.{refl, rules}
use Rattle.invoke_api.specs.Places.{here, there, own_place, peer_place}
use Rattle.invoke_api.proofs.placing.request_for.Goals as goal

pub returns-in_ok-own_request-in-Some : goal.returns-in_ok-own_request-in-Some
returns-in_ok-own_request-in-Some c = (own_place c.in-Some.port c.args.rest.now, here c.in-Some.port (search rules) (search rules) refl, search rules)

pub returns-in_ok-peer_request-in-Some-peer_of : goal.returns-in_ok-peer_request-in-Some-peer_of
returns-in_ok-peer_request-in-Some-peer_of c = (peer_place c.in-Some-peer_of.peer.now c.args.rest.now, there c.in-Some-peer_of.peer.now (search rules) (search rules) refl, search rules)
