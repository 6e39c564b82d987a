use Rattle.std.proofs.Common.{sym, subst}
use Rattle.topic_spec.specs.Listed.{ListLoads}
use Rattle.topic_spec.specs.Loading.{IsLoad}
use Rattle.topic_spec.proofs.loading.app_list.Goals as goal

pub returns : goal.returns
returns c shown is =
    subst (λ bytes. IsLoad (ListLoads bytes shown.values) c.subs_of.result) (sym is.bytes)
    (c.subs_of.ensures shown.values (record { inside = c.root.ensures.node; spot = is.spot; children = is.children; later = is.later; are = is.values; stands = is.stands c.root.result c.root.ensures.first }))
