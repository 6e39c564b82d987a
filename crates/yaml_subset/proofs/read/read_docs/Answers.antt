use Rattle.std.proofs.Common.{◌≡◌, List, ap, subst, ◌∙◌, true}
use Rattle.std.specs.Str.Lines.{lines}
use Rattle.yaml_lines.specs.LineParts.{Line}
use Rattle.yaml_lines.specs.Texts.{texts}
use Rattle.yaml_subset.specs.Contents.{contents}
use Rattle.yaml_subset.specs.Left.{contents_left}
use Rattle.yaml_subset.specs.File.{without_order_mark, file_lines}
use Rattle.yaml_subset.specs.Trees.{plain}
use Rattle.yaml_subset.specs.ReadLines.{Holds, IsLinesCause}
use Rattle.yaml_subset.proofs.Files.{kept_as, shows, not_refused, cause_in, read_or_memory, told_or_memory}
use Rattle.yaml_subset.proofs.Marked.{file_lawful}
use Rattle.yaml_subset.proofs.read.read_docs.Goals as goal

pub docs_of-requires : goal.docs_of-requires
docs_of-requires c =
    let e : contents_left c.source_of.result ≡ file_lines c.args.bytes.now = c.source_of.ensures ∙ ap (contents 1 true 0 0) (ap texts c.deref.ensures.value ∙ c.in-Ok-lines_in.ensures ∙ ap lines (c.after_order_mark-text.ensures ∙ ap without_order_mark c.in-Ok.ensures.cases.0)) in
    let h : Holds c.in-Ok-nodes_of.nodes.items (file_lines c.args.bytes.now) = subst (Holds c.in-Ok-nodes_of.nodes.items) e c.in-Ok-nodes_of.ensures.ok in
    (plain h.documents, kept_as c.in-Ok-nodes_of.nodes.items _ h, file_lawful c.args.bytes.now h.documents c.in-Ok.ensures.cases.1 h.says)

pub returns-in-Ok-nodes_of-clause-ok : goal.returns-in-Ok-nodes_of-clause-ok
returns-in-Ok-nodes_of-clause-ok c =
    let e : contents_left c.source_of.result ≡ file_lines c.args.bytes.now = c.source_of.ensures ∙ ap (contents 1 true 0 0) (ap texts c.deref.ensures.value ∙ c.in-Ok-lines_in.ensures ∙ ap lines (c.after_order_mark-text.ensures ∙ ap without_order_mark c.in-Ok.ensures.cases.0)) in
    let h : Holds c.in-Ok-nodes_of.nodes.items (file_lines c.args.bytes.now) = subst (Holds c.in-Ok-nodes_of.nodes.items) e c.in-Ok-nodes_of.ensures.ok in
    shows c.in-Ok-nodes_of.nodes.items _ c.args.bytes.now c.in-Ok.ensures.cases.1 h (c.docs_of.ensures (plain h.documents) (kept_as c.in-Ok-nodes_of.nodes.items _ h))

pub returns-in-Ok-nodes_of-clause-is_refused : goal.returns-in-Ok-nodes_of-clause-is_refused
returns-in-Ok-nodes_of-clause-is_refused c error r =
    let e : contents_left c.source_of.result ≡ file_lines c.args.bytes.now = c.source_of.ensures ∙ ap (contents 1 true 0 0) (ap texts c.deref.ensures.value ∙ c.in-Ok-lines_in.ensures ∙ ap lines (c.after_order_mark-text.ensures ∙ ap without_order_mark c.in-Ok.ensures.cases.0)) in
    not_refused c.in-Ok-nodes_of.nodes.items c.args.bytes.now error c.in-Ok.ensures.cases.1 (subst (Holds c.in-Ok-nodes_of.nodes.items) e c.in-Ok-nodes_of.ensures.ok) r

pub returns-clause-err : goal.returns-clause-err
returns-clause-err c =
    let e : contents_left c.source_of.result ≡ file_lines c.args.bytes.now = c.source_of.ensures ∙ ap (contents 1 true 0 0) (ap texts c.deref.ensures.value ∙ c.in-Ok-lines_in.ensures ∙ ap lines (c.after_order_mark-text.ensures ∙ ap without_order_mark c.in-Ok.ensures.cases.0)) in
    cause_in c.args.bytes.now c.in-Err-nodes_of.error c.in-Ok.ensures.cases.1 (subst (λ (l : List Line). IsLinesCause l c.in-Err-nodes_of.error) e c.in-Err-nodes_of.ensures.err)

pub returns-clause-is_read : goal.returns-clause-is_read
returns-clause-is_read c documents f =
    let e : contents_left c.source_of.result ≡ file_lines c.args.bytes.now = c.source_of.ensures ∙ ap (contents 1 true 0 0) (ap texts c.deref.ensures.value ∙ c.in-Ok-lines_in.ensures ∙ ap lines (c.after_order_mark-text.ensures ∙ ap without_order_mark c.in-Ok.ensures.cases.0)) in
    read_or_memory c.args.bytes.now c.in-Err-nodes_of.error documents (subst (λ (l : List Line). IsLinesCause l c.in-Err-nodes_of.error) e c.in-Err-nodes_of.ensures.err) f

pub returns-clause-is_refused : goal.returns-clause-is_refused
returns-clause-is_refused c error r =
    let e : contents_left c.source_of.result ≡ file_lines c.args.bytes.now = c.source_of.ensures ∙ ap (contents 1 true 0 0) (ap texts c.deref.ensures.value ∙ c.in-Ok-lines_in.ensures ∙ ap lines (c.after_order_mark-text.ensures ∙ ap without_order_mark c.in-Ok.ensures.cases.0)) in
    told_or_memory c.args.bytes.now c.in-Err-nodes_of.error error c.in-Ok.ensures.cases.1 (subst (λ (l : List Line). IsLinesCause l c.in-Err-nodes_of.error) e c.in-Err-nodes_of.ensures.err) r
