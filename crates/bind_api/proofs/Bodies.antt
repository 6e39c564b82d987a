-- Wrong a body means, by its one value.
use Rattle.std.proofs.Common.{◌≡◌, ℕ, ◌+◌, List, length, refl, sym, ap, ◌∙◌, arith}
use Rattle.std.specs.Prelude.{Result, Ok, Err, IsErrOf}
use Rattle.json_text.specs.declared.doc.Doc.{Doc}
use Rattle.json_text.specs.declared.doc.Node.{Node}
use Rattle.json_text.specs.declared.error.JsonErr.{JsonErr}
use Rattle.json_text.specs.declared.error.JsonErr.TheVariants as json
use Rattle.json_text.specs.Forest.{Forest, empty, grows, count}
use Rattle.json_text.specs.Grammar.{IsText}
use Rattle.json_text.specs.Faults.{IsClean, IsFirstBad, IsFirstDeep}
use Rattle.json_text.specs.Doc.{bytes_read, values_kept, IsNode, IsRoot, StandsAt, Shows}
use Rattle.bind_api.specs.declared.malformed.Wrong.{Wrong}
use Rattle.bind_api.specs.declared.malformed.AskErr.{AskErr}
use Rattle.bind_api.specs.declared.malformed.AskErr.TheVariants.{Malformed, NoMemory}
use Rattle.bind_api.specs.Given.{Tells, Gives}
use Rattle.bind_api.specs.Values.{Value, IsAt}
use Rattle.bind_api.specs.Asked.{BodyAsks, bad, deep, text}
use Rattle.bind_api.specs.Malformed.{wrong_of}

module _ {A : Type 0} where
  tells_more : (result : Result A AskErr) (P Q : Result A Wrong → Type 0) → ((r : Result A Wrong) → P r → Q r) → Tells result P → Tells result Q
  tells_more (Ok a) P Q f h = f (Ok a) h
  tells_more (Err (Malformed what)) P Q f h = f (Err what) h
  tells_more (Err NoMemory) P Q f h = tt

  module _ (means : List ℕ → Value → Result A Wrong) (body : List ℕ) where
    of_values : (doc : Doc) (root : Node) (result : Result A AskErr) (values : Forest) → IsText body values → IsClean body (length body + 1) → StandsAt doc root values → bytes_read doc ≡ body → length (values_kept doc) ≡ count values → IsNode doc root
        → ((value : Value) → IsAt doc root value → Gives result (means (bytes_read doc) value)) → Tells result (BodyAsks means body)
    of_values doc root result empty is clean stands same all node h = absurd (omega (arith, all, node))
    of_values doc root result (grows s c l) is clean stands same all node h =
        let v : Value = record { spot = s; children = c } in
        tells_more result (λ given. means (bytes_read doc) v ≡ given) (BodyAsks means body) (λ r e. text s c l is clean (sym e ∙ ap (λ b. means b v) same)) (h v (l, stands))

    pub text_asks : (doc : Doc) (root : Node) (result : Result A AskErr) → Shows doc body → IsRoot root → IsNode doc root
        → ((value : Value) → IsAt doc root value → Gives result (means (bytes_read doc) value)) → Tells result (BodyAsks means body)
    text_asks doc root result shows first node h = of_values doc root result shows.values shows.text shows.clean (shows.from_root root first) shows.same shows.all node h

    pub fault_asks : (error : JsonErr) → ((at : ℕ) → IsErrOf {T = Doc} (Err error) (json.Bad at) → IsFirstBad body at) → ((at : ℕ) → IsErrOf {T = Doc} (Err error) (json.Deep at) → IsFirstDeep body at) → Tells {A = A} (Err (wrong_of error)) (BodyAsks means body)
    fault_asks (json.Bad at) h g = bad at (h at refl) refl
    fault_asks (json.Deep at) h g = deep at (g at refl) refl
    fault_asks json.NoMemory h g = tt
