use Rattle.std.proofs.Common.{subst}
use Rattle.meta_api.specs.Body.{metadata_response}
use Rattle.link_call.specs.Came.{IsOr}
use Rattle.sidecar_core.proofs.note_request.list_replied.Goals as goal

pub returns-in-Listed : goal.returns-in-Listed
returns-in-Listed g c = rw c.in-Listed.is (subst (λ z. IsOr z c.given.result) (λ i. metadata_response c.args.shared.now.config.app (c.args.shared.now.has_notes i) (c.args.shared.now.has_sub_notes i) c.in-Listed.pairs) (c.given.ensures _ c.metadata.ensures))
