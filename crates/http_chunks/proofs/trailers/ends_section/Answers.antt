use Rattle.std.proofs.Common.{◌≡◌, ◌∙◌, ◌++◌, List, ℕ, ap, [], append-nil, subst}
use Rattle.httparse.specs.Grammar.{HasNoSection, ReadsSection}
use Rattle.http_chunks.proofs.TrailerLemmas.{ended_section}
use Rattle.http_chunks.proofs.trailers.ends_section.Goals as goal

pub returns-in-Whole : goal.returns-in-Whole
returns-in-Whole c =
    let joined : c.deref.result.now ≡ c.args.text.now ++ c.args.more.now =
    c.deref.ensures.value ∙ c.in_ok-extend_from_slice.ensures.items ∙ ap (λ (t : List ℕ). t ++ c.args.more.now) c.in_ok-section.ensures.items in
    let read = rw c.in-Whole.is at c.in_ok-read.ensures in
    let P : List ℕ → Type 0 = λ t. ReadsSection t read.fields read.last read.after in
    ended_section c.args.text.now c.args.more.now read.fields read.last read.after c.requires.none (subst P joined read.reads)

pub returns : goal.returns
returns c =
    let joined : c.deref.result.now ≡ c.args.text.now ++ c.args.more.now =
    c.deref.ensures.value ∙ c.in_ok-extend_from_slice.ensures.items ∙ ap (λ (t : List ℕ). t ++ c.args.more.now) c.in_ok-section.ensures.items in
    let read = rw c.in-Invalid.is at c.in_ok-read.ensures in
    subst HasNoSection (append-nil c.deref.result.now ∙ joined) (read [])
