-- What came back of workers, by their numbers.
use Rattle.std.proofs.Common.{◌≡◌, ◌≢◌, ◌<◌, ◌≤◌, ℕ, zero, suc, Bool, true, false, List, [], ◌∷◌, length, set, Option, Some, None, refl, subst, arith}
use Rattle.std.specs.Prelude.{if◌then◌else◌, slice_index_or, option_map}
use Rattle.side_world.specs.Outside.{Backs, IsBack}
use Rattle.side_memory.specs.contracts.memory_acceptor.MemoryAcceptorAcceptor.TheImpl as MemoryAcceptorAcceptor
use Rattle.side_memory.specs.contracts.memory_link.MemoryLinkLink.TheImpl as MemoryLinkLink
use Rattle.side_memory.specs.MemoryOutside.{Parts, parts_told, came_back}

pub back_here : (backs : List (Option Parts)) (number : ℕ) (parts : Parts) → number < length backs → came_back (set backs number (Some parts)) number ≡ Some (parts_told parts)
back_here [] number parts below = absurd (omega arith)
back_here (back ∷ backs) zero parts below = refl
back_here (back ∷ backs) (suc number) parts below = back_here backs number parts (omega arith)

pub back_other : (backs : List (Option Parts)) (number : ℕ) (parts : Parts) → number < length backs → (other : ℕ) → other ≢ number → came_back (set backs number (Some parts)) other ≡ came_back backs other
back_other [] number parts below other apart = absurd (omega arith)
back_other (back ∷ backs) zero parts below zero apart = absurd (apart refl)
back_other (back ∷ backs) zero parts below (suc other) apart = refl
back_other (back ∷ backs) (suc number) parts below zero apart = refl
back_other (back ∷ backs) (suc number) parts below (suc other) apart = back_other backs number parts (omega arith) other (λ e. apart (omega arith))

-- what came back, by its place
pub back_in : (backs : List (Option Parts)) (number : ℕ) (d : Option Parts) → number < length backs → came_back backs number ≡ option_map parts_told (slice_index_or backs number d)
back_in [] number d below = absurd (omega arith)
back_in (back ∷ backs) zero d below = refl
back_in (back ∷ backs) (suc number) d below = back_in backs number d (omega arith)

pub none_past : (backs : List (Option Parts)) (number : ℕ) → length backs ≤ number → came_back backs number ≡ None
none_past [] number past = refl
none_past (back ∷ backs) zero past = absurd (omega arith)
none_past (back ∷ backs) (suc number) past = none_past backs number (omega arith)

-- these parts came back, where it is told what did
pub is_back : (told : Bool) (before after : List (Option Parts)) (number : ℕ) (parts : Parts) → came_back after number ≡ Some (parts_told parts) → ((other : ℕ) → other ≢ number → came_back after other ≡ came_back before other) → IsBack MemoryAcceptorAcceptor.ghosts MemoryLinkLink.ghosts number parts (if told then Some (came_back before) else None) (if told then Some (came_back after) else None)
is_back false before after number parts here others = λ backs is. absurd (cc)
is_back true before after number parts here others = λ backs is.
    let same = after_is backs is in
    (came_back before, refl, subst (λ (f : Backs). f number ≡ Some (parts_told parts)) same here, λ other apart. subst (λ (f : Backs). f other ≡ came_back before other) same (others other apart)) where
      after_is : (backs : Backs) → Some (came_back after) ≡ Some backs → came_back after ≡ backs
      after_is backs is = cc
