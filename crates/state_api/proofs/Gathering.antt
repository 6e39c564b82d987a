-- The values of a row, read one after the other.
use Rattle.std.proofs.Common.{◌≡◌, ◌≢◌, ℕ, suc, ◌-◌, List, [], ◌∷◌, ◌++◌, Option, Some, None, refl, sym, ap, ◌∙◌, subst}
use Rattle.std.specs.Prelude.{MatchOption, Result, Ok, Err}
use Rattle.json_text.specs.declared.doc.Doc.{Doc}
use Rattle.json_text.specs.declared.doc.Node.{Node}
use Rattle.json_text.specs.Forest.{Forest, empty, grows}
use Rattle.json_text.specs.Doc.{StandsAt, OfNode}
use Rattle.state_api.specs.declared.what.What.{What}
use Rattle.state_api.specs.declared.what.StateErr.{StateErr}
use Rattle.state_api.specs.Given.{Gives, each}
use Rattle.state_api.specs.Values.{Value, IsAt, values_in, held_in}
use Rattle.state_api.proofs.Nodes.{at_node}
use Rattle.state_api.proofs.Following.{joined, joined_start, joined_end, joined_next, joined_stop}

-- how many nodes may still follow
abbrev pub nodes_left : ℕ → Option Node → ℕ
nodes_left n None = 0
nodes_left n (Some node) = suc (n - node.number)

-- `here` is the node of what is still to be read, if there is any
abbrev pub Left : Doc → Option Node → Forest → Type 0
Left doc here tail = MatchOption here (tail ≡ empty) (λ m. StandsAt doc m tail × (tail ≢ empty))

module _ {B : Type 0} (one : Value → Result B What) (doc : Doc) where
  -- what was read, and then what is left, is all that the value holds
  pub record Gathered (value : Value) (here : Option Node) (done : List B) : Type 0 where
    pub tail : Forest
    pub at : Left doc here tail
    pub same : joined done (each one (values_in tail)) ≡ each one (held_in value)

  pub gathered_start : (n : Node) (first : Option Node) → OfNode doc n (λ spot children later. MatchOption first (children ≡ empty) (λ m. StandsAt doc m children × (children ≢ empty))) → (value : Value) → IsAt doc n value → Gathered value first []
  gathered_start n first is value at = record { tail = value.children; at = at_node doc n _ is value at; same = joined_start (each one (held_in value)) }

  next_of : (value : Value) (m : Node) (next : Option Node) (done : List B) (y : B) (tail : Forest) → StandsAt doc m tail → tail ≢ empty → joined done (each one (values_in tail)) ≡ each one (held_in value)
      → OfNode doc m (λ spot children later. MatchOption next (later ≡ empty) (λ k. StandsAt doc k later × (later ≢ empty))) → ((v : Value) → IsAt doc m v → one v ≡ Ok y) → Gathered value next (done ++ y ∷ [])
  next_of value m next done y empty stands some same follows read = absurd (some refl)
  next_of value m next done y (grows s c l) stands some same follows read =
      let v : Value = record { spot = s; children = c } in
      record { tail = l; at = at_node doc m _ follows v (l, stands); same = sym (joined_next one done v (values_in l) y (read v (l, stands))) ∙ same }

  pub gathered_next : (value : Value) (m : Node) (next : Option Node) (done : List B) (y : B) → Gathered value (Some m) done
      → OfNode doc m (λ spot children later. MatchOption next (later ≡ empty) (λ k. StandsAt doc k later × (later ≢ empty))) → ((v : Value) → IsAt doc m v → one v ≡ Ok y) → Gathered value next (done ++ y ∷ [])
  gathered_next value m next done y h follows read = next_of value m next done y h.tail h.at.0 h.at.1 h.same follows read

  stop_of : (value : Value) (m : Node) (done : List B) (error : StateErr) (tail : Forest) → StandsAt doc m tail → tail ≢ empty → joined done (each one (values_in tail)) ≡ each one (held_in value)
      → ((v : Value) → IsAt doc m v → Gives {A = B} (Err error) (one v)) → Gives {A = List B} (Err error) (each one (held_in value))
  stop_of value m done error empty stands some same read = absurd (some refl)
  stop_of value m done error (grows s c l) stands some same read =
      let v : Value = record { spot = s; children = c } in
      subst (Gives {A = List B} (Err error)) same (joined_stop one done v (values_in l) error (read v (l, stands)))

  pub gathered_stop : (value : Value) (m : Node) (done : List B) (error : StateErr) → Gathered value (Some m) done → ((v : Value) → IsAt doc m v → Gives {A = B} (Err error) (one v)) → Gives {A = List B} (Err error) (each one (held_in value))
  gathered_stop value m done error h read = stop_of value m done error h.tail h.at.0 h.at.1 h.same read

  pub gathered_end : (value : Value) (done : List B) → Gathered value None done → each one (held_in value) ≡ Ok done
  gathered_end value done h = sym h.same ∙ ap (λ t. joined done (each one (values_in t))) h.at ∙ joined_end one done
