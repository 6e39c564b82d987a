use Rattle.std.proofs.Common.{sym, subst, ◌∙◌, true≢false}
use Rattle.app_peers.specs.declared.peer.Peer.{Peer}
use Rattle.app_peers.specs.Parts.{IsNew}
use Rattle.app_peers.proofs.Cuts.{writes_once}
use Rattle.app_peers.proofs.reading.add.Goals as goal

pub returns-in-None-clause-no_list : goal.returns-in-None-clause-no_list
returns-in-None-clause-no_list c = λ _ peer w new. c.in-None.ensures.none peer w

pub returns-then-not-is_new-clause-no_list : goal.returns-then-not-is_new-clause-no_list
returns-then-not-is_new-clause-no_list c = λ _ peer w new.
    let same = writes_once c.args.item.now _ peer c.in-Some.ensures.some w in
    absurd (true≢false (sym (c.is_new.ensures.1 (subst (λ (p : Peer). IsNew c.args.own.now c.args.peers.now p.id) (sym same) new)) ∙ c.if-not-is_new.true))
