use Rattle.std.proofs.Common.{◌≡◌, vec_len, [], arith}
use Rattle.json_text.proofs.Steps.{is_nothing, not_nothing}
use Rattle.json_text.proofs.Tokens.{read_end, read_short}
use Rattle.json_text.proofs.reader.Reader.finish.Goals as goal

pub returns-then-not-is_empty-clause-err : goal.returns-then-not-is_empty-clause-err
returns-then-not-is_empty-clause-err c =
    let self = c.args.self in
    read_short self.bytes.now self.at c.args.here self.nodes.items self.opened.items c.requires.reader.reads c.requires.all (λ is none. not_nothing self.opened.items (vec_len self.opened) c.is_empty.result (omega arith) c.is_empty.ensures c.if-not-is_empty.true none)

pub returns-in-Rest-clause-ok : goal.returns-in-Rest-clause-ok
returns-in-Rest-clause-ok c =
    let self = c.args.self in
    let nothing : self.opened.items ≡ [] = is_nothing self.opened.items (vec_len self.opened) c.is_empty.result (omega arith) c.is_empty.ensures c.if-not-is_empty.false in
    let h = read_end self.bytes.now self.at c.args.here self.nodes.items self.opened.items c.requires.reader.reads c.requires.all c.in-Rest.is nothing in
    record { values = h.0; text = h.1; nodes_are = h.2; clean = h.3 }

pub returns-in_default : goal.returns-in_default
returns-in_default c =
    let self = c.args.self in
    record { ok = tt; err = read_short self.bytes.now self.at c.args.here self.nodes.items self.opened.items c.requires.reader.reads c.requires.all (λ is none. c.in_default.not-Rest is) }
