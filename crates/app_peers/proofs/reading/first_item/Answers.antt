use Rattle.std.proofs.Common.{◌∙◌, ap, refl}
use Rattle.std.specs.List.{slice_split}
use Rattle.std.proofs.lemmas.List.Splits.{slice_split_at, slice_split_none}
use Rattle.app_peers.specs.Peers.{is_comma}
use Rattle.app_peers.proofs.reading.first_item.Goals as goal

pub returns-in-Some-clause-items : goal.returns-in-Some-clause-items
returns-in-Some-clause-items c =
    let cut = c.in-Some.ensures.some in
    ap (slice_split is_comma) cut.whole ∙ slice_split_at is_comma c.in-Some.parts.front.now 44 c.in-Some.parts.back.now cut.first refl

pub returns-in-None-clause-items : goal.returns-in-None-clause-items
returns-in-None-clause-items c = slice_split_none is_comma c.args.text.now c.in-None.ensures.none
