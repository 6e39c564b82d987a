use Rattle.std.proofs.Common.{◌∙◌, sym, ap, take, ℕ, drop, subst}
use Rattle.http_frames.specs.Lines.{IsInBlank}
use Rattle.http_frames.specs.declared.lines.Part.TheVariants.{Blank, Method, Target, Field}
use Rattle.http_frames.proofs.BlankLemmas.{on_blank}
use Rattle.http_frames.proofs.PlaceLemmas.{goes_as, on_method, on_target, on_field}
use Rattle.http_frames.proofs.lines.is_on.Goals as goal

pub returns-in-Blank : goal.returns-in-Blank
returns-in-Blank c = λ plain.
    goes_as c.args.text.now c.args.end c.args.part Blank c.in-Blank.is (λ lines low is.
    let front = subst IsInBlank (ap (λ (n : ℕ). drop n (take c.args.end c.args.text.now)) is.0) is.1 in
    on_blank c.args.text.now lines c.blank_end.result (c.blank_end.ensures.blank front) (c.is_in_blank.ensures plain) is.0)

pub returns-in-Method : goal.returns-in-Method
returns-in-Method c = λ plain.
    goes_as c.args.text.now c.args.end c.args.part Method c.in-Method.is (λ lines low is.
    on_method c.args.text.now lines c.args.end low c.requires (sym c.are_of_field.ensures ∙ plain) is)

pub returns-in-Target : goal.returns-in-Target
returns-in-Target c = λ plain.
    goes_as c.args.text.now c.args.end c.args.part Target c.in-Target.is (λ lines low is.
    on_target c.args.text.now lines c.args.end low c.requires (sym c.are_uri_bytes.ensures ∙ plain) is)

pub returns-in-Field : goal.returns-in-Field
returns-in-Field c = λ plain.
    goes_as c.args.text.now c.args.end c.args.part (Field c.in-Field.field) c.in-Field.is (λ lines low is.
    on_field c.in-Field.field c.args.text.now lines c.args.end low c.requires (sym c.are_of_field-in-Field.ensures ∙ plain) is)
