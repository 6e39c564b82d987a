use Rattle.std.proofs.Common.{◌≡◌, inl, inr, ℕ, List, sym, subst}
use Rattle.disk_journal.specs.Image.{IsImage}
use Rattle.disk_journal.specs.Refusal.{IsNoJournal}
use Rattle.keeper_core.specs.declared.changes.Changes.{Changes}
use Rattle.keeper_journal.specs.History.{Say, IsFaultyAt, IsHistory, IsRefusedAt}
use Rattle.keeper_journal.proofs.Histories.{one_history, faulty_says_none, one_faulty_place}
use Rattle.keeper_journal.proofs.laws.a_file_says_one_history.Goals as goal

module _ (one_list : (bytes : List ℕ) (bodies others : List (List ℕ)) → IsImage bytes bodies → IsImage bytes others → others ≡ bodies)
    (read : (bytes : List ℕ) (bodies : List (List ℕ)) (at : ℕ) → IsImage bytes bodies → IsNoJournal bytes at → ⊥)
    (refused : (bytes : List ℕ) (at other : ℕ) → IsNoJournal bytes at → IsNoJournal bytes other → other ≡ at) where
  one : (bytes : List ℕ) (commits others : List Changes) → IsHistory bytes commits → IsHistory bytes others → commits ≡ others
  one bytes commits others p q = one_history p.bodies commits others p.say (subst (λ (bs : List (List ℕ)). Say bs others) (one_list bytes p.bodies q.bodies p.image q.image) q.say)

  not_refused : (bytes : List ℕ) (commits : List Changes) (at : ℕ) → IsHistory bytes commits → IsRefusedAt bytes at → ⊥
  not_refused bytes commits at p (inl none) = read bytes p.bodies at p.image none
  not_refused bytes commits at p (inr faulty) = faulty_says_none p.bodies at commits (subst (λ (bs : List (List ℕ)). IsFaultyAt bs at) (one_list bytes p.bodies faulty.bodies p.image faulty.image) faulty.faulty) p.say

  one_place : (bytes : List ℕ) (at other : ℕ) → IsRefusedAt bytes at → IsRefusedAt bytes other → at ≡ other
  one_place bytes at other (inl p) (inl q) = sym (refused bytes at other p q)
  one_place bytes at other (inl p) (inr q) = absurd (read bytes q.bodies at q.image p)
  one_place bytes at other (inr p) (inl q) = absurd (read bytes p.bodies other p.image q)
  one_place bytes at other (inr p) (inr q) = one_faulty_place p.bodies at other p.faulty (subst (λ (bs : List (List ℕ)). IsFaultyAt bs other) (one_list bytes p.bodies q.bodies p.image q.image) q.faulty)

pub returns-clause-one : goal.returns-clause-one
returns-clause-one c = one c.a_file_says_one_list.ensures c.a_file_has_one_answer.ensures.read c.a_file_has_one_answer.ensures.refused

pub returns-clause-read : goal.returns-clause-read
returns-clause-read c = not_refused c.a_file_says_one_list.ensures c.a_file_has_one_answer.ensures.read c.a_file_has_one_answer.ensures.refused

pub returns-clause-refused : goal.returns-clause-refused
returns-clause-refused c = one_place c.a_file_says_one_list.ensures c.a_file_has_one_answer.ensures.read c.a_file_has_one_answer.ensures.refused
