-- How judging goes on by one more operation.
use Rattle.std.proofs.Common.{◌≡◌, ◌+◌, ◌++◌, ◌≤◌, ◌<◌, ◌^◌, ◌∷◌, [], ℕ, Bool, true, false, List, length, take, drop, fold, map, get_or, append_assoc, refl, ap, sym, subst, ◌∙◌, arith, cond}
use Rattle.std.proofs.lemmas.List.Sums.{fold-append}
use Rattle.std.proofs.lemmas.List.{take_more, take_all, take-append-drop, append-nil, get_or-map, length-map}
use Rattle.keeper_core.specs.Rows.{Rows}
use Rattle.state_core.specs.declared.batch.Batch.{Batch}
use Rattle.state_core.specs.declared.command.Op.{Op}
use Rattle.state_core.specs.declared.command.Op.TheVariants.{Upsert}
use Rattle.state_core.specs.declared.command.Item.{Item}
use Rattle.state_core.specs.Judged.{Judged, version_in, passes, key_of, write_of, passed, refused, judge, unjudged, judged_in}
use Rattle.state_core.specs.Batch.{IsBatch, HasJudged, HasJudgedAll, HasStopped}

module _ (rows : Rows) (next moment : ℕ) where
  judged_more : (ops : List Op) (op : Op) → judged_in rows next moment (ops ++ op ∷ []) ≡ judge rows next moment (judged_in rows next moment ops) op
  judged_more ops op = fold-append (judge rows next moment) unjudged ops (op ∷ [])

  -- the batch is what the operations make of it, and these are refused
  pub record IsSoFar (judged : Judged) (place : ℕ) (batch : Batch) (places : List ℕ) : Type 0 where
    pub place_is : judged.place ≡ place
    pub batch_is : IsBatch rows next moment judged.writes batch
    pub refused_is : judged.refused ≡ places
    pub few : batch.next ≤ 2 ^ 62 + place

  judge_is : (judged : Judged) (op : Op) (here : Bool) → here ≡ passes op (version_in rows next moment judged.writes (key_of op))
      → judge rows next moment judged op ≡ cond here (passed judged (write_of moment op (version_in rows next moment judged.writes (key_of op)))) (refused judged)
  judge_is judged op here is = ap (λ b. cond b (passed judged (write_of moment op (version_in rows next moment judged.writes (key_of op)))) (refused judged)) (sym is)

  so_far : (judged : Judged) (op : Op) (place : ℕ) (places : List ℕ) (old new : Batch) (here : Bool) → IsSoFar judged place old places
      → HasJudged rows next moment judged.writes op here new → new.next ≤ old.next + 1
      → IsSoFar (judge rows next moment judged op) (place + 1) new (cond here places (places ++ place ∷ []))
  so_far judged op place places old new true before one few =
      subst (λ j. IsSoFar j (place + 1) new places) (sym (judge_is judged op true one.passed_is)) (record {
        place_is = ap (λ n. n + 1) before.place_is;
        batch_is = one.batch_is;
        refused_is = before.refused_is;
        few = omega (arith, before.few, few);
      })
  so_far judged op place places old new false before one few =
      subst (λ j. IsSoFar j (place + 1) new (places ++ place ∷ [])) (sym (judge_is judged op false one.passed_is)) (record {
        place_is = ap (λ n. n + 1) before.place_is;
        batch_is = subst (λ w. IsBatch rows next moment w new) (append-nil judged.writes) one.batch_is;
        refused_is = ap (λ xs. xs ++ judged.place ∷ []) before.refused_is ∙ ap (λ n. places ++ n ∷ []) before.place_is;
        few = omega (arith, before.few, few);
      })

  -- one more of the operations
  pub so_far_more : (ops : List Op) (op : Op) (place : ℕ) (places : List ℕ) (old new : Batch) (here : Bool) → IsSoFar (judged_in rows next moment (take place ops)) place old places
      → place < length ops → op ≡ get_or ops place op
      → HasJudged rows next moment (judged_in rows next moment (take place ops)).writes op here new → new.next ≤ old.next + 1
      → IsSoFar (judged_in rows next moment (take (place + 1) ops)) (place + 1) new (cond here places (places ++ place ∷ []))
  so_far_more ops op place places old new here before within is one few =
      let snoc : take (place + 1) ops ≡ take place ops ++ op ∷ [] = take_more ops place op within ∙ ap (λ o. take place ops ++ o ∷ []) (sym is) in
      subst (λ j. IsSoFar j (place + 1) new (cond here places (places ++ place ∷ []))) (sym (ap (judged_in rows next moment) snoc ∙ judged_more (take place ops) op))
      (so_far (judged_in rows next moment (take place ops)) op place places old new here before one few)

  -- none is judged yet
  pub so_far_none : (batch : Batch) (n : ℕ) (places : List ℕ) → n ≡ next → next ≤ 2 ^ 62 → IsBatch rows n moment [] batch → places ≡ [] → IsSoFar unjudged 0 batch places
  so_far_none batch n places is most none empty = record {
    place_is = refl;
    batch_is = subst (λ k. IsBatch rows k moment [] batch) is none;
    refused_is = sym empty;
    few = omega (arith, is, most, none.next_is);
  }

  -- all are judged
  pub so_far_all : (ops : List Op) (place : ℕ) (batch : Batch) (places : List ℕ) → IsSoFar (judged_in rows next moment (take place ops)) place batch places → place ≡ length ops
      → HasJudgedAll rows next moment ops batch places
  so_far_all ops place batch places all is =
      let whole : take place ops ≡ ops = take_all place ops (omega (arith, is)) in record {
        batch_is = subst (λ os. IsBatch rows next moment (judged_in rows next moment os).writes batch) whole all.batch_is;
        refused_is = ap (λ os. (judged_in rows next moment os).refused) (sym whole) ∙ all.refused_is;
      }

  -- those that are refused stay the first
  one_more : (judged : Judged) (op : Op) (here : Bool) → here ≡ passes op (version_in rows next moment judged.writes (key_of op))
      → (more : List ℕ) × ((judge rows next moment judged op).refused ≡ judged.refused ++ more)
  one_more judged op true is = ([], ap (λ (j : Judged). j.refused) (judge_is judged op true is) ∙ sym (append-nil judged.refused))
  one_more judged op false is = (judged.place ∷ [], ap (λ (j : Judged). j.refused) (judge_is judged op false is))

  pub all_more : (ops : List Op) (judged : Judged) → (more : List ℕ) × ((fold (judge rows next moment) judged ops).refused ≡ judged.refused ++ more)
  all_more [] judged = ([], sym (append-nil judged.refused))
  all_more (op ∷ ops) judged =
      let one = one_more judged op _ refl in
      let rest = all_more ops (judge rows next moment judged op) in
      (one.0 ++ rest.0, rest.1 ∙ ap (λ xs. xs ++ rest.0) one.1 ∙ append_assoc judged.refused one.0 rest.0)

  pub stopped_at : (ops : List Op) (count place : ℕ) (batch : Batch) → IsSoFar (judged_in rows next moment (take count ops)) count batch (place ∷ []) → HasStopped rows next moment ops place
  stopped_at ops count place batch far =
      let split : judged_in rows next moment ops ≡ fold (judge rows next moment) (judged_in rows next moment (take count ops)) (drop count ops) =
      ap (judged_in rows next moment) (sym (take-append-drop count ops)) ∙ fold-append (judge rows next moment) unjudged (take count ops) (drop count ops) in
      let more = all_more (drop count ops) (judged_in rows next moment (take count ops)) in
      (more.0, ap (λ (j : Judged). j.refused) split ∙ more.1 ∙ ap (λ xs. xs ++ more.0) far.refused_is)

  -- one more that is refused is the first
  pub stopped_more : (ops : List Op) (op : Op) (place : ℕ) (old new : Batch) (here : Bool) → IsSoFar (judged_in rows next moment (take place ops)) place old []
      → place < length ops → op ≡ get_or ops place op
      → HasJudged rows next moment (judged_in rows next moment (take place ops)).writes op here new → new.next ≤ old.next + 1 → here ≡ false
      → HasStopped rows next moment ops place
  stopped_more ops op place old new here before within is one few refuses =
      stopped_at ops (place + 1) place new
      (subst (λ b. IsSoFar (judged_in rows next moment (take (place + 1) ops)) (place + 1) new (cond b [] (place ∷ []))) refuses
      (so_far_more ops op place [] old new here before within is one few))

  -- one more item
  pub item_more : (items : List Item) (item : Item) (place : ℕ) (places : List ℕ) (old new : Batch) (here : Bool) → IsSoFar (judged_in rows next moment (take place (map (λ i. Upsert i) items))) place old places
      → place < length items → item ≡ get_or items place item
      → HasJudged rows next moment (judged_in rows next moment (take place (map (λ i. Upsert i) items))).writes (Upsert item) here new → new.next ≤ old.next + 1
      → IsSoFar (judged_in rows next moment (take (place + 1) (map (λ i. Upsert i) items))) (place + 1) new (cond here places (places ++ place ∷ []))
  item_more items item place places old new here before within is one few =
      so_far_more (map (λ i. Upsert i) items) (Upsert item) place places old new here before (subst (λ n. place < n) (sym (length-map items (λ i. Upsert i))) within)
      (ap (λ i. Upsert i) is ∙ sym (get_or-map (λ i. Upsert i) items place item (Upsert item) within)) one few
