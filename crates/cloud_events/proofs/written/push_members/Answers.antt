use Rattle.std.proofs.Common.{rules, arith, ◌∙◌, ◌++◌, ◌∷◌, [], take, ap, sym, refl, ◌==◌, append_assoc, append-nil}
use Rattle.std.proofs.lemmas.List.{take_more}
use Rattle.cloud_events.specs.Event.{item_bytes}
use Rattle.json_text.proofs.Joined.{appended_next}
use Rattle.cloud_events.proofs.written.push_members.Goals as goal

pub loop-i-init : goal.loop-i-init
loop-i-init c = sym (append-nil c.args.event.now)

pub loop-i-preserved : goal.loop-i-preserved
loop-i-preserved c =
    appended_next (item_bytes c.args.body.now) c.args.items.now c.loop-i.i c.index-items-i.result (c.loop-i.i == 0) c.args.event.now c.loop-i.event c.push_member.new.event
    (take_more c.args.items.now c.loop-i.i c.index-items-i.result (omega (arith, c.loop-i-test.true)) ∙ ap (λ x. take c.loop-i.i c.args.items.now ++ x ∷ []) (sym c.index-items-i.is)) refl (omega (arith, c.loop-i-test.true)) c.loop-i.invariant (search (rules, append_assoc))
