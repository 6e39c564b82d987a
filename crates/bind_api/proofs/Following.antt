-- One result after the other, and parts that may be absent.
use Rattle.std.proofs.Common.{◌≡◌, Bool, true, false, List, refl, sym, ap, subst, ◌∙◌, cond}
use Rattle.std.specs.Prelude.{Option, Some, None, Result, Ok, Err}
use Rattle.json_text.specs.declared.doc.Doc.{Doc}
use Rattle.json_text.specs.declared.doc.Node.{Node}
use Rattle.json_text.specs.declared.spot.Spot.{Spot}
use Rattle.json_text.specs.Doc.{IsUnlessNull}
use Rattle.json_text.specs.Shape.{is_null}
use Rattle.bind_api.specs.declared.malformed.Wrong.{Wrong}
use Rattle.bind_api.specs.Given.{Says, followed, provided}
use Rattle.bind_api.specs.Values.{AreAt, IsAt, Value, unless_null}

module _ {A B C D : Type 0} (show : A → B) (show' : C → D) where
  -- what follows a value that was said
  pub went : (first : Result B Wrong) (next : B → Result D Wrong) (a : A) (result : Result C Wrong) → Says show (Ok a) first → Says show' result (next (show a)) → Says show' result (followed first next)
  unfolding followed
  went first next a result e h = subst (λ r. Says show' result (followed r next)) (sym e) h

  pub stopped : (first : Result B Wrong) (next : B → Result D Wrong) (what : Wrong) → Says {A = A} show (Err what) first → Says {A = C} show' (Err what) (followed first next)
  unfolding followed
  stopped first next what e = ap (λ r. followed r next) e

module _ {A B : Type 0} (show : A → B) where
  pub held : (test : Bool) (what : Wrong) (answer : Result B Wrong) (result : Result A Wrong) → test ≡ true → Says show result answer → Says show result (provided test what answer)
  unfolding provided
  held test what answer result e h = subst (λ b. Says show result (provided b what answer)) (sym e) h

  pub failed : (test : Bool) (what : Wrong) (answer : Result B Wrong) → test ≡ false → Says {A = A} show (Err what) (provided test what answer)
  unfolding provided
  failed test what answer e = ap (λ b. provided b what answer) e

-- what was found, unless it is null
module _ (doc : Doc) where
  by_null : (value : Value) (n : Node) (there : Option Node) (null : Bool) → there ≡ cond null None (Some n) → IsAt doc n value → AreAt doc there (cond null None (Some value))
  by_null value n there true is at = subst (λ o. AreAt doc o None) (sym is) tt
  by_null value n there false is at = subst (λ o. AreAt doc o (Some value)) (sym is) at

  pub unless_null_is : (found there : Option Node) (value : Option Value) → AreAt doc found value → IsUnlessNull doc found there → AreAt doc there (unless_null value)
  unless_null_is None there None are is = subst (λ o. AreAt doc o None) (sym is) tt
  unless_null_is None there (Some value) are is = absurd are
  unless_null_is (Some n) there None are is = absurd are
  unless_null_is (Some n) there (Some value) are is = by_null value n there (is_null value.spot.kind) (is _ are.1) are
