use Rattle.std.proofs.Common.{refl, ap, ◌∙◌, cond, bytes_eq, Some}
use Rattle.std.proofs.lemmas.Map.Text.{btree_map_updates_str}
use Rattle.state_core.specs.Pending.{key_of}
use Rattle.state_core.specs.Batch.{version_before}
use Rattle.state_core.proofs.Batches.{added_behind}
use Rattle.state_core.proofs.batch.Batch.add.Goals as goal

pub returns : goal.returns
returns c =
    added_behind c.args.self.now (record { earlier = c.push.new.self; last = Some c.args.pending; next = c.args.self.now.next; versions = c.insert.new.self }) c.in-Some.before c.args.pending
    c.in-Some.is refl c.in_ok-push.ensures.items refl (λ q.
    btree_map_updates_str c.key.result.now c.args.self.now.versions c.insert.new.self _ c.in_ok-insert.ensures.updates q
    ∙ ap (λ key. cond (bytes_eq key q) (Some c.version.result) (version_before c.args.self.now q)) c.key.ensures
    ∙ ap (λ version. cond (bytes_eq (key_of c.in-Some.before) q) (Some version) (version_before c.args.self.now q)) c.version.ensures)
