use Rattle.std.proofs.Common.{◌≢◌, sym, subst, ◌∙◌, arith, true≢false}
use Rattle.std.proofs.lemmas.List.Elements.{All-more}
use Rattle.std.proofs.lemmas.Slice.Eq.{bytes_eq-Decides}
use Rattle.app_peers.specs.declared.peer.Peer.{Peer}
use Rattle.app_peers.proofs.Read.{new_by}
use Rattle.app_peers.proofs.reading.is_new.Goals as goal

pub loop-i-preserved : goal.loop-i-preserved
loop-i-preserved c =
    All-more (λ (one : Peer). one.id ≢ c.args.id.now) c.args.peers.now c.loop-i.i c.at.result.now (omega (arith, c.loop-i-test.true, c.len-i-end.ensures)) c.loop-i.invariant
    (subst (λ (p : Peer). p.id ≢ c.args.id.now) c.at.ensures (λ same.
    true≢false (sym (c.eq.ensures ∙ (bytes_eq-Decides c.bytes.result.now c.as_bytes.result.now).1 (c.bytes.ensures.value ∙ same ∙ sym c.as_bytes.ensures.value)) ∙ c.if-eq.false)))

pub returns : goal.returns
returns c = new_by c.args.own.now c.args.peers.now c.args.id.now c.loop-i.i c.ne.result (omega (arith, c.loop-i-test.false, c.len-i-end.ensures)) c.loop-i.invariant c.ne.ensures
