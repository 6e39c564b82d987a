use Rattle.std.proofs.Common.{◌≡◌, codes, ℕ, List, cond, ap, sym, ◌∙◌}
use Rattle.json_text.specs.Doc.{bytes_read}
use Rattle.cloud_events.specs.Members.{last_of}
use Rattle.cloud_events.specs.Verdict.{by_member, by_reply, by_status}
use Rattle.cloud_events.proofs.Nodes.{of_map}
use Rattle.cloud_events.proofs.delivery.by_reply.Goals as goal

pub returns-then-is_good : goal.returns-then-is_good
returns-then-is_good c root e =
    let doc = c.args.doc.now in
    let bytes : List ℕ = bytes_read doc in
    of_map doc root (λ s ch l. c.by_member.result ≡ by_member bytes (last_of bytes (codes "status") ch)) (λ s ch l. c.by_member.result ≡ by_reply c.args.status bytes ch)
    (λ s ch l h. h ∙ ap (λ b. cond b (by_member bytes (last_of bytes (codes "status") ch)) (by_status c.args.status)) (sym c.if-is_good.true ∙ c.is_good.ensures))
    (c.by_member.ensures root e)
