use Rattle.std.proofs.Common.{rules}
use Rattle.meta_api.specs.Body.{IsPutReply}
use Rattle.sidecar_core.proofs.Answering.{put_says}
use Rattle.sidecar_core.proofs.note_request.put_replied.Goals as goal

pub returns-in-Noted : goal.returns-in-Noted
returns-in-Noted c = let is : IsPutReply c.args.reply.now = search rules in put_says c.args.reply.now c.given.result is (c.given.ensures _ c.put_response.ensures)
