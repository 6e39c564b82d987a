-- Pending changes are copied one after the other.
use Rattle.std.proofs.Common.{◌≡◌, ◌≤◌, ◌<◌, ◌+◌, ◌++◌, ◌∷◌, [], ℕ, List, length, take, map, get_or, append_assoc, ap, sym, ◌∙◌}
use Rattle.std.proofs.lemmas.List.{take_more, take_all, map-append}
use Rattle.keeper_core.specs.Rows.{Rows}
use Rattle.keeper_core.specs.declared.changes.Change.{Change}
use Rattle.state_core.specs.declared.batch.Pending.{Pending}
use Rattle.state_core.specs.Pending.{change_of}
use Rattle.state_core.specs.Write.{Write, numbered, sweep}
use Rattle.state_core.proofs.Sweeps.{numbered-swept}

pub copied_more : (first : List Change) (items : List Pending) (i : ℕ) (item : Pending) (old new : List Change) (change : Change) → old ≡ first ++ map change_of (take i items)
    → i < length items → item ≡ get_or items i item → change ≡ change_of item → new ≡ old ++ change ∷ [] → new ≡ first ++ map change_of (take (i + 1) items)
copied_more first items i item old new change so_far within is copied pushed =
    pushed
    ∙ ap (λ c. old ++ c ∷ []) copied
    ∙ ap (λ xs. xs ++ change_of item ∷ []) so_far
    ∙ append_assoc first (map change_of (take i items)) (change_of item ∷ [])
    ∙ ap (λ xs. first ++ xs) (sym (map-append change_of (take i items) (item ∷ [])))
    ∙ ap (λ p. first ++ map change_of (take i items ++ p ∷ [])) is
    ∙ ap (λ xs. first ++ map change_of xs) (sym (take_more items i item within))

pub copied_all : (rows : Rows) (moment next : ℕ) (writes : List Write) (items last : List Pending) (i : ℕ) (changes all : List Change) → changes ≡ numbered next (sweep rows moment) ++ map change_of (take i items)
    → length items ≤ i → all ≡ changes ++ map change_of last → map change_of (items ++ last) ≡ numbered next writes → all ≡ numbered next (sweep rows moment ++ writes)
copied_all rows moment next writes items last i changes all so_far whole pushed is =
    pushed
    ∙ ap (λ xs. xs ++ map change_of last) (so_far ∙ ap (λ xs. numbered next (sweep rows moment) ++ map change_of xs) (take_all i items whole))
    ∙ append_assoc (numbered next (sweep rows moment)) (map change_of items) (map change_of last)
    ∙ ap (λ xs. numbered next (sweep rows moment) ++ xs) (sym (map-append change_of items last) ∙ is)
    ∙ numbered-swept rows moment next writes
