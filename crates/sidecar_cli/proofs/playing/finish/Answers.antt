use Rattle.std.proofs.Common.{◌∙◌, ap}
use Rattle.std.specs.Option.{option_or}
use Rattle.sidecar_cli.proofs.Countings.{lone_counted, sound_counted}
use Rattle.sidecar_cli.proofs.playing.finish.Goals as goal

pub close-requires-clause-lone : goal.close-requires-clause-lone
close-requires-clause-lone g c κs within = lone_counted _ _ _ _ _ _ _ _ c.tell_ledgers-counted.ensures.counted c.requires.lone

pub returns : goal.returns
returns g c = record {
  last = c.tell_ledgers-counted.new.pass;
  counted = c.tell_ledgers-counted.result;
  told = c.tell_ledgers-counted.ensures;
  spent_is = c.or.ensures ∙ ap (λ n. option_or n c.tell_ledgers-counted.result) c.spent-shown.ensures;
  sound = sound_counted _ _ _ _ _ _ _ _ c.tell_ledgers-counted.ensures.counted c.requires.sound;
  closed = c.close.ensures.closed;
}
