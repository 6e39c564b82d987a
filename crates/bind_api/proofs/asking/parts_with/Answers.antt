use Rattle.std.proofs.Common.{ap, codes, sym, ◌∙◌, ℕ, List}
use Rattle.std.specs.Prelude.{Ok, Result}
use Rattle.bind_api.specs.declared.malformed.Wrong.{Wrong}
use Rattle.side_base.specs.declared.method.Method.{Method}
use Rattle.bind_api.specs.declared.asking.Ask.{Ask}
use Rattle.json_text.specs.Doc.{bytes_read}
use Rattle.bind_api.specs.Asked.{method_of, parts_shown, sent_of}
use Rattle.bind_api.specs.Values.{held_in, last_named}
use Rattle.bind_api.proofs.Following.{stopped, went}
use Rattle.bind_api.proofs.asking.parts_with.Goals as goal

abbrev ask_with : Method → List ℕ → List ℕ → Result Ask Wrong
ask_with method path sent = Ok (record { method = method; path = path; body = sent })

pub returns-in-Ok : goal.returns-in-Ok
returns-in-Ok c value at =
    went (λ (m : Method). m) parts_shown (method_of c.args.word.now) (λ m. ask_with m c.args.path.now (sent_of (bytes_read c.args.doc.now) (last_named (bytes_read c.args.doc.now) (codes "data") (held_in value)))) c.in-Ok.method (Ok (record { method = c.in-Ok.method; path = c.args.path; sent = c.sent_of-sent.result }))
    (sym c.method_of.ensures ∙ c.in-Ok.is) (ap (ask_with c.in-Ok.method c.args.path.now) (sym (c.sent_of-sent.ensures (last_named (bytes_read c.args.doc.now) (codes "data") (held_in value)) (c.last_member.ensures.last value at))))

pub returns-in-Err : goal.returns-in-Err
returns-in-Err c value at = stopped (λ (m : Method). m) parts_shown _ _ c.in-Err.what (sym c.method_of.ensures ∙ c.in-Err.is)
