use Rattle.std.proofs.Common.{rules}
use Rattle.resource_spec.specs.Url.{url_shown}
use Rattle.bind_api.proofs.Hosts.{host_is_text}
use Rattle.bind_api.proofs.requesting.url_of.Goals as goal

pub returns-clause-text : goal.returns-clause-text
returns-clause-text c = host_is_text (url_shown c.url.result) c.in-Some._url.now (c.url.ensures c.in-Some._url.now (search rules))
