use Rattle.std.proofs.Common.{arith, lit<, ◌∷◌, []}
use Rattle.http_chunks.proofs.TrailerLemmas.{may_trailers, no_trailers_from, never_trailers, trailers_of_end}
use Rattle.http_chunks.proofs.trailers.partial_trailers.Goals as goal

pub returns-then-text-le-LINE_LIMIT : goal.returns-then-text-le-LINE_LIMIT
returns-then-text-le-LINE_LIMIT c =
    let text = c.args.text.now in
    (omega arith, no_trailers_from text c.requires.none, may_trailers text c.if-text-le-LINE_LIMIT.true c.requires.may)

pub returns-then-text-eq-LINE_LIMIT : goal.returns-then-text-eq-LINE_LIMIT
returns-then-text-eq-LINE_LIMIT c =
    never_trailers c.args.text.now (omega arith) c.requires.none (λ below. absurd (omega arith)) (λ below. absurd (omega arith))

pub returns-then-one : goal.returns-then-one
returns-then-one c =
    let ends = rw c.if-one.true at c.in_ok-one.ensures in
    trailers_of_end c.args.text.now (10 ∷ []) (omega arith) (lit< tt) c.requires.none ends

pub returns-then-text-eq-LINE_LIMIT-2 : goal.returns-then-text-eq-LINE_LIMIT-2
returns-then-text-eq-LINE_LIMIT-2 c =
    let one = rw c.if-one.false at c.in_ok-one.ensures in
    never_trailers c.args.text.now (omega arith) c.requires.none (λ below. one) (λ below. absurd (omega arith))

pub returns-then-two : goal.returns-then-two
returns-then-two c =
    let ends = rw c.if-two.true at c.in_ok-two.ensures in
    trailers_of_end c.args.text.now (10 ∷ 10 ∷ []) (omega arith) (lit< tt) c.requires.none ends

pub returns-else-two : goal.returns-else-two
returns-else-two c =
    let one = rw c.if-one.false at c.in_ok-one.ensures in
    let two = rw c.if-two.false at c.in_ok-two.ensures in
    never_trailers c.args.text.now (omega arith) c.requires.none (λ below. one) (λ below. two)
