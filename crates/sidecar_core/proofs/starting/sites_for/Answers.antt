use Rattle.std.proofs.Common.{◌∙◌, ◌++◌, ◌∷◌, [], map, sym, ap, arith}
use Rattle.std.proofs.lemmas.List.{map-append}
use Rattle.sidecar_core.specs.Sites.{is_store, site_of, stores_of}
use Rattle.sidecar_core.proofs.Gathered.{more_chosen}
use Rattle.sidecar_core.proofs.starting.sites_for.Goals as goal

pub loop-place-preserved : goal.loop-place-preserved
loop-place-preserved c =
    let more = more_chosen c.args.config.now.components c.loop-place.place c.at.result.now (omega (arith, c.loop-place-test.true, c.len-place-end.ensures.exact)) c.at.ensures (λ z. is_store z.kind) in record {
      sites = c.in_ok-add_site.ensures.added ∙ (λ i. c.loop-place.invariant.sites i ++ map (site_of c.args.config.now) (stores_of (c.at.result.now ∷ []))) ∙ sym (ap (map (site_of c.args.config.now)) more ∙ map-append (site_of c.args.config.now) _ (stores_of (c.at.result.now ∷ [])));
      bounds = c.in_ok-add_site.ensures.bounds c.loop-place.invariant.bounds;
    }
