use Rattle.case_text.proofs.Broken.{told_some, told_none}
use Rattle.case_text.proofs.section.add_broken_of.Goals as goal

pub returns-in-Ok-Some : goal.returns-in-Ok-Some
returns-in-Ok-Some c = told_some c.args.section.now c.without_blank_end.result.now c.in-Ok-Some.field-0-0 c.in-Ok-Some.field-0 c.args.lines.now c.without_blank_end.ensures c.in-Ok-Some.ensures c.in-Ok-Some.field-0-is

pub returns-in-Ok-None : goal.returns-in-Ok-None
returns-in-Ok-None c = told_none c.args.section.now c.without_blank_end.result.now c.in-Ok-None.field-0 c.args.lines.now c.add_line.new.self c.without_blank_end.ensures c.in-Ok-None.ensures c.in-Ok-None.field-0-is c.add_line.ensures
