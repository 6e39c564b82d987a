use Rattle.sidecar_objects.specs.Kind.{stores}
use Rattle.sidecar_cli.proofs.Fitting.{fits_led, fit_closed}
use Rattle.sidecar_cli.proofs.playing.close.Goals as goal

pub give_back-requires-after_bounds : goal.give_back-requires-after_bounds
give_back-requires-after_bounds g c κs within = fit_closed fits_led _ _ c.close-config.ensures.config c.close-config.ensures.keepers c.requires.fit

pub close-config-requires-clause-alone : goal.close-config-requires-clause-alone
close-config-requires-clause-alone g c = c.requires.lone.each stores
