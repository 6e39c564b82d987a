-- What a store stands for.
use Rattle.std.specs.Prelude.{◌≡◌, List, [], length, refl}
use Rattle.std.proofs.Common.{ap, sym, add-zero}
use Rattle.keeper_core.specs.Commits.{HasMade}
use Rattle.keeper_core.specs.declared.keeper.Keeper.{Ghosts}
use Rattle.state_core.specs.declared.store.Store.{Store}
use Rattle.state_core.specs.Reply.{Held, held}
use Rattle.state_core.specs.History.{Step, held_in, course_of, commits_in, last_mark}

abbrev pub keeper_of : {K : Type 0} {keeping : Ghosts K} → Store K keeping → K
keeper_of store = store.keeper

-- what the keeper of a store holds
abbrev pub held_by : {K : Type 0} (keeping : Ghosts K) → Store K keeping → Held
held_by keeping store = held keeping store.keeper

-- after this history from the store `first`
pub record Stands {K : Type 0} (keeping : Ghosts K) (first : Store K keeping) (history : List Step) (store : Store K keeping) : Type 0 where
  pub held : held_by keeping store ≡ held_in (held_by keeping first) (course_of (held_by keeping first) history)
  pub mark : keeping.faults store.keeper ≡ last_mark (keeping.faults first.keeper) history
  pub latest : store.latest ≡ (course_of (held_by keeping first) history).latest
  pub used : store.used ≡ length history
  -- from the first keeper to the store's, the commits of the history were made, and no others
  pub commits : HasMade keeping first.keeper store.keeper (commits_in (held_by keeping first) history)

held_opens : (h : Held) → h ≡ held_in h (course_of h [])
held_opens h = ap (λ n. record { rows = h.rows; next = n; size = h.size; limit = h.limit; size_after = h.size_after; may_fail = h.may_fail }) (sym (add-zero h.next))

-- a store that was told nothing stands for the empty history
pub opens : {K : Type 0} {keeping : Ghosts K} (first : Store K keeping) → first.used ≡ 0 → keeping.leads first.keeper [] first.keeper → Stands keeping first [] first
opens {keeping = keeping} first unused at_rest = record {
  held = held_opens (held_by keeping first);
  mark = refl;
  latest = first.fresh unused;
  used = unused;
  commits = record { answers = []; leads = at_rest; made = refl };
}

-- some history leads to the store
abbrev pub IsReached : {K : Type 0} (keeping : Ghosts K) → Store K keeping → Type 0
IsReached {K = K} keeping store = (first : Store K keeping) × (history : List Step) × Stands keeping first history store
