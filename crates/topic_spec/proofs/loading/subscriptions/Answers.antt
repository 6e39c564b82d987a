use Rattle.std.proofs.Common.{[], subst, arith}
use Rattle.yaml_subset.specs.Docs.{row_of, later_of}
use Rattle.topic_spec.specs.Documents.{all_said}
use Rattle.topic_spec.specs.Loading.{Loads}
use Rattle.topic_spec.proofs.Steps.{GoingDocs, first_part, docs_next, docs_stop, docs_all}
use Rattle.topic_spec.proofs.loading.subscriptions.Goals as goal

pub loop-doc-preserved : goal.loop-doc-preserved
loop-doc-preserved c =
    let app = c.args.app.now in
    let docs = c.args.docs.now in
    let wanted = Loads 0 [] (all_said app 0 docs) in
    record {
      part = first_part docs (later_of (row_of docs c.in-Some.p)) c.next-here.result c.next-here.ensures.next;
      going = docs_next app docs wanted c.loop-doc.doc c.in-Some.p c.next-here.result c.loop-doc.all c.add_document.new.all
          (subst (λ here. GoingDocs app docs wanted c.loop-doc.doc here c.loop-doc.all) c.in-Some.is c.loop-doc.invariant.going) c.next-here.ensures.next c.in-Ok.ensures;
    }

pub returns : goal.returns
returns c =
    let app = c.args.app.now in
    let docs = c.args.docs.now in
    docs_all app docs (Loads 0 [] (all_said app 0 docs)) c.loop-doc.doc c.loop-doc.here c.loop-doc.all c.loop-doc.invariant.going (omega (arith, c.loop-doc-test.false, c.count-count.ensures))

pub returns-in-Err : goal.returns-in-Err
returns-in-Err c =
    let app = c.args.app.now in
    let docs = c.args.docs.now in
    let wanted = Loads 0 [] (all_said app 0 docs) in
    docs_stop app docs wanted c.loop-doc.doc c.in-Some.p c.loop-doc.all c.loop-doc.all c.in-Err.error
    (subst (λ here. GoingDocs app docs wanted c.loop-doc.doc here c.loop-doc.all) c.in-Some.is c.loop-doc.invariant.going) c.in-Err.ensures
