use Rattle.std.proofs.Common.{sym, ap, ◌∙◌}
use Rattle.yaml_subset.specs.Layout.{may_hold}
use Rattle.yaml_subset.specs.Refusal.{may_begin}
use Rattle.yaml_subset.proofs.Opens.{innermost, no_frames, file_begins}
use Rattle.yaml_subset.proofs.place.begins_in.Goals as goal

pub returns-in-Some : goal.returns-in-Some
returns-in-Some c frames e =
    let i = innermost c.in-Some.last.now c.in-Some.field-0-1.now frames (sym c.in-Some.ensures.cases.0 ∙ e) in
    c.may_hold_rows.ensures ∙ ap (λ o. may_hold o.holder o.column c.args.holder c.args.column) i.last_is ∙ sym (ap (λ fs. may_begin fs c.args.holder c.args.column) i.are)

pub returns-in-None : goal.returns-in-None
returns-in-None c frames e = c.is_same_holder.ensures ∙ file_begins c.args.holder c.args.column ∙ sym (ap (λ fs. may_begin fs c.args.holder c.args.column) (no_frames c.args.opened.now frames c.in-None.ensures.cases e))
