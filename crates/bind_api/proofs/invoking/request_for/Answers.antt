use Rattle.std.proofs.Common.{subst}
use Rattle.std.specs.Prelude.{Ok}
use Rattle.resource_spec.specs.Url.{url_shown}
use Rattle.bind_api.specs.Asked.{BodyAsks, ask_in}
use Rattle.bind_api.proofs.invoking.request_for.Goals as goal

pub returns-in-Ok-request_to : goal.returns-in-Ok-request_to
returns-in-Ok-request_to c = (url_shown c.url_of-url.result, c.in-Ok.ask, c.url_of-url.ensures.address, subst (λ body. BodyAsks ask_in body (Ok c.in-Ok.ask)) c.bytes.ensures c.in-Ok.ensures, c.in-Ok-request_to.ensures)
