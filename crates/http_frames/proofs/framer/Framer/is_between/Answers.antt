use Rattle.std.proofs.Common.{drop, sym, ap, subst, arith}
use Rattle.std.proofs.lemmas.Bool.{false≢true, eq-eqb, eqb-true}
use Rattle.http_frames.specs.declared.framer.Stage.{Stage}
use Rattle.http_frames.specs.Framing.{State, Kept, Stands}
use Rattle.http_frames.specs.Framer.{kept_at, IsStage}
use Rattle.http_frames.proofs.FramerLemmas.{content_bytes, between_head}
use Rattle.http_frames.proofs.framer.Framer.is_between.Goals as goal

pub returns-in-Head : goal.returns-in-Head
returns-in-Head c state is =
    let inside = c.self.inside in
    let bytes = inside.bytes.items in
    let I : Stage → Type 0 = λ s. IsStage (drop inside.start bytes) inside.continued s in
    let told = subst I c.in-Head.is c.self.invariant.1 in
    let V : Kept → Type 0 = λ kept. Stands state kept in
    let S : Stage → Type 0 = λ s. Stands state (kept_at inside.start (drop inside.start bytes) inside.continued s) in
    let both = between_head state bytes inside.start inside.continued c.in-Head.field-0 c.self.invariant.0 told.0 (subst S c.in-Head.is (subst V (sym c.self.view_is) is)) in (
      λ all. both.0 (omega (arith, eqb-true inside.start c.len.result all, c.len.ensures, inside.bytes.ok.0)),
      λ same. eq-eqb inside.start c.len.result (omega (arith, both.1 same, c.len.ensures, inside.bytes.ok.0)),
    )

pub returns-in-Content : goal.returns-in-Content
returns-in-Content c state is =
    let inside = c.self.inside in
    let rest = drop inside.start inside.bytes.items in
    let V : Kept → Type 0 = λ kept. Stands state kept in
    let S : Stage → Type 0 = λ s. Stands state (kept_at inside.start rest inside.continued s) in
    let stands = subst S c.in-Content.is (subst V (sym c.self.view_is) is) in
    (λ wrong. absurd (false≢true wrong), λ same. absurd (content_bytes state.pending rest c.in-Content.field-0 stands.pending (ap (λ (s : State). s.pending) same)))
