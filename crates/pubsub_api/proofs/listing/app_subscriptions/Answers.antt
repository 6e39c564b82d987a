use Rattle.std.proofs.Common.{◌≡◌, subst, rules}
use Rattle.topic_spec.specs.Loading.{IsLoad}
use Rattle.pubsub_api.specs.Listing.{IsList, IsSaid, listed}
use Rattle.pubsub_api.proofs.Listed.{load_more}
use Rattle.pubsub_api.proofs.listing.app_subscriptions.Goals as goal

pub returns : goal.returns
returns c =
    let good : c.args.reply.now.status ≡ 200 = search rules in
    load_more (IsList c.args.reply.now.body) (IsSaid c.args.reply.now) c.listed.result (λ r is. listed good is) (subst (λ b. IsLoad (IsList b) c.listed.result) c.bytes.ensures c.listed.ensures)
