use Rattle.std.proofs.Common.{◌≡◌, ◌-◌, ◌∙◌, List, ℕ, length, take, drop, [], append-nil, subst}
use Rattle.std.proofs.lemmas.List.{take_rest}
use Rattle.http_chunks.specs.ChunkReading.{HasNoTrailers, AreTrailersRead}
use Rattle.http_chunks.specs.declared.trailers.TrailersRead.{TrailersRead}
use Rattle.http_chunks.proofs.ChunkStepLemmas.{after_line_is, stuck_last, end_whole, end_partial, end_invalid, last_short}
use Rattle.http_chunks.proofs.LinePlaceLemmas.{place_last}
use Rattle.http_chunks.proofs.chunks.after_last.Goals as goal

pub returns-in-Whole : goal.returns-in-Whole
returns-in-Whole c =
    let is = c.requires.line in
    let same : take (length c.args.rest.now - c.args.len) (drop c.args.len c.args.rest.now) ≡ is.after =
    take_rest c.args.rest.now c.args.len ∙ after_line_is c.args.rest.now c.args.len 0 is in
    let P : TrailersRead → List ℕ → Type 0 = λ r t. AreTrailersRead t r in
    let read = subst (P c.in_ok-read.read) same c.in_ok-read.ensures in
    end_whole c.args.rest.now c.args.len _ is (rw c.in-Whole.is at read)

pub returns-in-Partial : goal.returns-in-Partial
returns-in-Partial c =
    let is = c.requires.line in
    let same : take (length c.args.rest.now - c.args.len) (drop c.args.len c.args.rest.now) ≡ is.after =
    take_rest c.args.rest.now c.args.len ∙ after_line_is c.args.rest.now c.args.len 0 is in
    let P : TrailersRead → List ℕ → Type 0 = λ r t. AreTrailersRead t r in
    let all = subst (P c.in_ok-read.read) same c.in_ok-read.ensures in
    let read = rw c.in-Partial.is at all in (
      stuck_last c.args.rest.now c.args.len c.args.sum c.requires.sum is read.1,
      end_partial c.args.rest.now c.args.len is read.2,
      last_short c.args.rest.now c.args.len is read.0,
      place_last c.args.rest.now c.behind_last.result c.args.len c.behind_last.ensures is,
    )

pub returns-in-Invalid : goal.returns-in-Invalid
returns-in-Invalid c =
    let is = c.requires.line in
    let same : take (length c.args.rest.now - c.args.len) (drop c.args.len c.args.rest.now) ≡ is.after =
    take_rest c.args.rest.now c.args.len ∙ after_line_is c.args.rest.now c.args.len 0 is in
    let P : TrailersRead → List ℕ → Type 0 = λ r t. AreTrailersRead t r in
    let all = subst (P c.in_ok-read.read) same c.in_ok-read.ensures in
    let read = rw c.in-Invalid.is at all in (
      stuck_last c.args.rest.now c.args.len c.args.sum c.requires.sum is (subst HasNoTrailers (append-nil is.after) (read [])),
      end_invalid c.args.rest.now c.args.len is read,
    )
