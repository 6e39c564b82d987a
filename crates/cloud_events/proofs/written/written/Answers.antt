use Rattle.std.proofs.Common.{map, ap, sym}
use Rattle.cloud_events.specs.Event.{attribute_of, item_bytes, joined, member_bytes}
use Rattle.json_text.proofs.Joined.{fused, built}
use Rattle.cloud_events.proofs.written.written.Goals as goal

pub returns : goal.returns
returns c =
    built _ _ _ _ _ (joined (map (item_bytes c.args.body.now) c.args.items.now)) (joined (map member_bytes (map (attribute_of c.args.body.now) c.args.items.now)))
    c.new-event.ensures c.reserve.ensures c.in_ok-push_byte.ensures.ok c.in_ok-push_members.ensures c.in_ok-push_byte-2.ensures.ok
    (ap joined (sym (fused member_bytes (attribute_of c.args.body.now) c.args.items.now)))
