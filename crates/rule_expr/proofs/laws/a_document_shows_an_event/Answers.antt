use Rattle.std.proofs.Common.{◌≡◌, ◌∙◌, sym, subst, refl}
use Rattle.json_text.specs.Forest.{empty, one}
use Rattle.json_text.specs.Doc.{StandsAt}
use Rattle.rule_expr.proofs.laws.a_document_shows_an_event.Goals as goal

pub returns : goal.returns
returns c doc event shows same =
    let v = c.the_root_is_the_value_of_the_text.ensures doc event.bytes (record { number = 0 }) shows refl in
    let are : one v.spot v.children ≡ shows.values = shows.only (one v.spot v.children) v.text in
    record {
      bytes = sym shows.same;
      spot = v.spot;
      children = v.children;
      later = empty;
      values = same ∙ sym are;
      stands = λ root is. subst (StandsAt doc root) (sym are) (shows.from_root root is);
    }
