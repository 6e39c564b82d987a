use Rattle.std.specs.Prelude.{IfOk}
use Rattle.std.proofs.lemmas.Result.{IfOk-weaker}
use Rattle.json_text.specs.Doc.{bytes_read}
use Rattle.json_text.specs.LastMembers.{AreLastMembers}
use Rattle.cloud_events.specs.Items.{AreSaid}
use Rattle.cloud_events.proofs.Nodes.{of_map}
use Rattle.cloud_events.proofs.Gathered.{nodes_of, are_said}
use Rattle.cloud_events.proofs.gather.gather.Goals as goal

pub all_items-requires : goal.all_items-requires
all_items-requires c = nodes_of c.args.doc.now c.args.n c.in-Ok.members c.a_walk_visits_all_items.ensures.stands c.root-read.ensures.read c.requires c.in-Ok.ensures

pub returns-in-Ok : goal.returns-in-Ok
returns-in-Ok c =
    let doc = c.args.doc.now in
    of_map doc c.args.n (λ s ch l. AreLastMembers doc ch c.in-Ok.members) (λ s ch l. IfOk c.all_items.result (λ items. AreSaid (bytes_read doc) ch items.items))
    (λ s ch l h. IfOk-weaker c.all_items.result _ _ (λ items of. are_said doc ch c.in-Ok.members items.items h of) c.all_items.ensures) c.in-Ok.ensures
