-- What is told of a section of which this is said.
use Rattle.std.proofs.Common.{◌≡◌, ◌∙◌, ℕ, List, [], Option, Some, None, sym, ap, subst}
use Rattle.std.proofs.lemmas.List.{append-nil}
use Rattle.case_text.specs.declared.lines.Lines.{Lines}
use Rattle.case_text.specs.declared.section.Section.{Section}
use Rattle.case_text.specs.declared.escape.Place.TheVariants.{Outside}
use Rattle.case_text.specs.Escape.{IsSaid}
use Rattle.case_text.specs.Reading.{undone}
use Rattle.case_text.specs.Lines.{Added}
use Rattle.case_text.specs.Piece.{without_blank}
use Rattle.case_text.specs.Section.{told, broken_line}
use Rattle.case_text.proofs.Tokens.{is_said, says_one}

-- of a section that says this, just that is told
told_of : (section : Section) (said : Option (List ℕ)) → IsSaid (without_blank section.text.now) said → told section.word.now said ≡ broken_line section
told_of section said is = ap (told section.word.now) (says_one (without_blank section.text.now) said (undone Outside (without_blank section.text.now)) is (is_said (without_blank section.text.now)))

nothing_added : (lines : Lines) → Added [] lines lines
nothing_added lines whole = (whole, sym (append-nil lines.text))

-- where it says something, nothing is, and else the line is
pub told_some : (section : Section) (text bytes : List ℕ) (said : Option (List ℕ)) (lines : Lines) → text ≡ without_blank section.text.now → IsSaid text said → said ≡ Some bytes → Added (broken_line section) lines lines
told_some section text bytes said lines cut is some =
    subst (λ (more : List ℕ). Added more lines lines) (sym (ap (told section.word.now) some) ∙ told_of section said (subst (λ (t : List ℕ). IsSaid t said) cut is)) (nothing_added lines)

pub told_none : (section : Section) (text : List ℕ) (said : Option (List ℕ)) (old new : Lines) → text ≡ without_blank section.text.now → IsSaid text said → said ≡ None → Added (told section.word.now None) old new → Added (broken_line section) old new
told_none section text said old new cut is none added =
    subst (λ (more : List ℕ). Added more old new) (sym (ap (told section.word.now) none) ∙ told_of section said (subst (λ (t : List ℕ). IsSaid t said) cut is)) added
