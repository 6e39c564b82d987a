use Rattle.std.proofs.Common.{sym, subst, ◌∙◌, true≢false}
use Rattle.app_peers.specs.Peers.{IsId}
use Rattle.app_peers.proofs.Cuts.{no_mark, writes_place, if_none}
use Rattle.app_peers.proofs.reading.parts_of.Goals as goal

pub returns-in-None-clause-none : goal.returns-in-None-clause-none
returns-in-None-clause-none c = λ peer w. no_mark 61 c.args.item.now peer.id _ c.in-None.ensures.none w.form

pub returns-then-not-is_id-clause-none : goal.returns-then-not-is_id-clause-none
returns-then-not-is_id-clause-none c = λ peer w.
    let cut = c.in-Some.ensures.some in
    let same = writes_place c.args.item.now c.in-Some.named.front.now c.in-Some.named.back.now peer cut.whole cut.first w in
    absurd (true≢false (sym (c.is_id.ensures.1 (subst IsId (sym same.0 ∙ sym c.as_bytes.ensures.value) w.id)) ∙ c.if-not-is_id.true))

pub returns-clause-none : goal.returns-clause-none
returns-clause-none c = if_none c.place_of.result _ _ (λ none peer w.
    let cut = c.in-Some.ensures.some in
    let same = writes_place c.args.item.now c.in-Some.named.front.now c.in-Some.named.back.now peer cut.whole cut.first w in
    none peer.host w.digits peer.port same.1) c.place_of.ensures.none
