use Rattle.std.proofs.Common.{ℕ, List, Option, drop, arith, subst}
use Rattle.std.proofs.lemmas.List.{take_rest}
use Rattle.http_chunks.specs.ChunkSteps.{IsChunkStep}
use Rattle.http_chunks.specs.ContentSteps.{IsInChunks}
use Rattle.http_chunks.specs.declared.chunks.ChunkStep.{ChunkStep}
use Rattle.http_chunks.proofs.InChunksLemmas.{line_inside, line_kept, content_calm, content_may, content_never, content_flooded}
use Rattle.http_chunks.proofs.LinePlaceLemmas.{place_of_slice, on_looked, on_step, slice_short}
use Rattle.http_chunks.proofs.content.take_line.Goals as goal

pub returns-in-Chunk-clause-on : goal.returns-in-Chunk-clause-on
returns-in-Chunk-clause-on c = λ on.
    let text = c.args.text.now in
    let at = c.args.at.now in
    let P : ChunkStep → List ℕ → Type 0 = λ s t. IsChunkStep t c.len.result s in
    let Q : ChunkStep → ℕ → Type 0 = λ s n. IsChunkStep (drop at text) n s in
    let step = subst (Q c.in_ok-step.step) c.len.ensures (subst (P c.in_ok-step.step) (take_rest text at) c.in_ok-step.ensures) in
    let found = rw c.in-Chunk.is at step in
    omega (arith, (line_inside (drop at text) _ c.in-Chunk.len c.in-Chunk.size found).0)

pub returns-in-Chunk-clause-kept : goal.returns-in-Chunk-clause-kept
returns-in-Chunk-clause-kept c = λ all was.
    let text = c.args.text.now in
    let at = c.args.at.now in
    let P : ChunkStep → List ℕ → Type 0 = λ s t. IsChunkStep t c.len.result s in
    let Q : ChunkStep → ℕ → Type 0 = λ s n. IsChunkStep (drop at text) n s in
    let step = subst (Q c.in_ok-step.step) c.len.ensures (subst (P c.in_ok-step.step) (take_rest text at) c.in_ok-step.ensures) in
    line_kept all text at c.args.body.now.bytes c.args.body.now.left c.in-Chunk.len c.in-Chunk.size c.requires.between was (rw c.in-Chunk.is at step)

pub returns-in-Need-clause-step : goal.returns-in-Need-clause-step
returns-in-Need-clause-step c = λ all was seen.
    let text = c.args.text.now in
    let at = c.args.at.now in
    let P : ChunkStep → List ℕ → Type 0 = λ s t. IsChunkStep t c.len.result s in
    let Q : ChunkStep → ℕ → Type 0 = λ s n. IsChunkStep (drop at text) n s in
    let step = subst (Q c.in_ok-step.step) c.len.ensures (subst (P c.in_ok-step.step) (take_rest text at) c.in_ok-step.ensures) in
    let I : Option ℕ → Type 0 = λ l. IsInChunks all (drop at text) c.args.body.now.bytes l in
    let chunks = subst I c.requires.between was in
    let found = rw c.in-Need.is at step in
    (content_calm all _ c.args.body.now.bytes chunks found.0, content_may all _ c.args.body.now.bytes chunks found.1)

pub returns-in-Need-clause-ends : goal.returns-in-Need-clause-ends
returns-in-Need-clause-ends c =
    let text = c.args.text.now in
    let at = c.args.at.now in
    let P : ChunkStep → List ℕ → Type 0 = λ s t. IsChunkStep t c.len.result s in
    let Q : ChunkStep → ℕ → Type 0 = λ s n. IsChunkStep (drop at text) n s in
    let step = subst (Q c.in_ok-step.step) c.len.ensures (subst (P c.in_ok-step.step) (take_rest text at) c.in_ok-step.ensures) in
    let found = rw c.in-Need.is at step in
    found.2

pub returns-in-TooLong-clause-step : goal.returns-in-TooLong-clause-step
returns-in-TooLong-clause-step c = λ all was seen.
    let text = c.args.text.now in
    let at = c.args.at.now in
    let P : ChunkStep → List ℕ → Type 0 = λ s t. IsChunkStep t c.len.result s in
    let Q : ChunkStep → ℕ → Type 0 = λ s n. IsChunkStep (drop at text) n s in
    let step = subst (Q c.in_ok-step.step) c.len.ensures (subst (P c.in_ok-step.step) (take_rest text at) c.in_ok-step.ensures) in
    let I : Option ℕ → Type 0 = λ l. IsInChunks all (drop at text) c.args.body.now.bytes l in
    let chunks = subst I c.requires.between was in
    content_flooded all _ c.args.body.now.bytes chunks (rw c.in-TooLong.is at step)

pub returns-in-Bad-clause-step : goal.returns-in-Bad-clause-step
returns-in-Bad-clause-step c = λ all was seen.
    let text = c.args.text.now in
    let at = c.args.at.now in
    let P : ChunkStep → List ℕ → Type 0 = λ s t. IsChunkStep t c.len.result s in
    let Q : ChunkStep → ℕ → Type 0 = λ s n. IsChunkStep (drop at text) n s in
    let step = subst (Q c.in_ok-step.step) c.len.ensures (subst (P c.in_ok-step.step) (take_rest text at) c.in_ok-step.ensures) in
    let I : Option ℕ → Type 0 = λ l. IsInChunks all (drop at text) c.args.body.now.bytes l in
    let chunks = subst I c.requires.between was in
    let found = rw c.in-Bad.is at step in
    (content_calm all _ c.args.body.now.bytes chunks found.0, content_never all _ c.args.body.now.bytes chunks found.1)

pub returns-in-Some-clause-looked : goal.returns-in-Some-clause-looked
returns-in-Some-clause-looked c = λ seen.
    on_looked c.args.text.now c.args.at.now c.args.body.now.left c.args.body.now.looked c.in-Some.place c.requires.between c.in-Some.ensures.next seen

pub returns-in-Some-clause-step : goal.returns-in-Some-clause-step
returns-in-Some-clause-step c = λ all was seen.
    on_step all c.args.text.now c.args.at.now c.args.body.now.bytes c.args.body.now.left c.args.body.now.looked c.in-Some.place c.requires.between
    c.in-Some.ensures.next was seen

pub returns-in-Some-clause-ends : goal.returns-in-Some-clause-ends
returns-in-Some-clause-ends c = slice_short c.args.text.now c.args.at.now c.in-Some.ensures.short

pub returns-in-Need-clause-looked : goal.returns-in-Need-clause-looked
returns-in-Need-clause-looked c = λ seen.
    let found = rw c.in-Need.is at c.in_ok-step.ensures in
    place_of_slice c.args.text.now c.args.at.now c.args.body.now.left c.in-Need.place c.requires.between found.3
