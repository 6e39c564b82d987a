use Rattle.std.proofs.Common.{◌≡◌, ◌≤◌, List, ℕ, length, take, sym, ap, arith, subst, ◌∙◌, length-take}
use Rattle.std.proofs.lemmas.List.{take_min}
use Rattle.http_frames.specs.HeadRules.{HEAD_LIMIT}
use Rattle.http_frames.specs.Lines.{IsPlace}
use Rattle.http_frames.specs.HeadReading.{IsHeadRead}
use Rattle.http_frames.proofs.PlaceLemmas.{place_front}
use Rattle.http_frames.proofs.head.take_head.Goals as goal

pub read_behind-requires : goal.read_behind-requires
read_behind-requires c =
    let pending = c.args.pending.now in
    let same : take HEAD_LIMIT pending ≡ take c.min.result pending = sym (ap (λ n. take n pending) c.min.ensures ∙ take_min HEAD_LIMIT pending) in
    let L : List ℕ → Type 0 = λ t. IsPlace t c.args.place in
    let S : List ℕ → Type 0 = λ t. length t ≤ HEAD_LIMIT in
    let short : length (take HEAD_LIMIT pending) ≤ HEAD_LIMIT = omega (arith, length-take HEAD_LIMIT pending) in
    record { short = subst S same short; place = subst L same (place_front pending c.args.place c.requires) }

pub judged-requires : goal.judged-requires
judged-requires c =
    let pending = c.args.pending.now in
    let same : take c.min.result pending ≡ take HEAD_LIMIT pending = ap (λ n. take n pending) c.min.ensures ∙ take_min HEAD_LIMIT pending in
    let P : List ℕ → Type 0 = λ t. IsHeadRead t c.in_ok-read.read in
    record { place = c.requires; read = subst P same c.in_ok-read.ensures }
