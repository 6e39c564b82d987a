use Rattle.std.proofs.Common.{sym, subst, ◌∙◌, true≢false}
use Rattle.app_peers.specs.Peers.{IsHost, IsPort}
use Rattle.app_peers.proofs.Cuts.{no_mark, same_place}
use Rattle.app_peers.proofs.reading.place_of.Goals as goal

pub returns-in-None-clause-none : goal.returns-in-None-clause-none
returns-in-None-clause-none c = λ host digits port w. no_mark 58 c.args.place.now host digits c.in-None.ensures.none w.form

pub returns-then-not-is_host-clause-none : goal.returns-then-not-is_host-clause-none
returns-then-not-is_host-clause-none c = λ host digits port w.
    let cut = c.in-Some.ensures.some in
    let same = same_place c.args.place.now c.in-Some.parts.front.now c.in-Some.parts.back.now host digits port cut.whole cut.first w in
    absurd (true≢false (sym (c.is_host.ensures.1 (subst IsHost (sym same.0 ∙ sym c.as_bytes.ensures.value) w.host_is)) ∙ c.if-not-is_host.true))

pub returns-in-None-port-clause-none : goal.returns-in-None-port-clause-none
returns-in-None-port-clause-none c = λ host digits port w.
    let cut = c.in-Some.ensures.some in
    let same = same_place c.args.place.now c.in-Some.parts.front.now c.in-Some.parts.back.now host digits port cut.whole cut.first w in
    c.in-None-port.ensures.none port (subst (λ l. IsPort l port) (sym same.1) w.port_is)
