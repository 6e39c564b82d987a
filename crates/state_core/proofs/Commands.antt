-- From what is judged and committed to what a command answers.
use Rattle.std.proofs.Common.{◌≡◌, ◌<◌, ◌∷◌, [], ℕ, Bool, true, List, Option, None, map, refl, ap, sym, subst, ◌∙◌, cond}
use Rattle.std.specs.List.{All}
use Rattle.std.proofs.lemmas.List.{get_or-map, length-map}
use Rattle.keeper_core.specs.declared.changes.Changes.{Changes}
use Rattle.state_core.specs.declared.command.Mode.{Mode}
use Rattle.state_core.specs.declared.command.Mode.TheVariants.{LastWrite}
use Rattle.state_core.specs.declared.command.Item.{Item}
use Rattle.state_core.specs.declared.command.Op.{Op}
use Rattle.state_core.specs.declared.command.Op.TheVariants.{Upsert, Remove}
use Rattle.state_core.specs.declared.command.Cmd.TheVariants.{Save, Delete, Transact}
use Rattle.state_core.specs.declared.reply.Reply.{Reply}
use Rattle.state_core.specs.declared.reply.Reply.TheVariants.{Deleted, Committed}
use Rattle.state_core.specs.Judged.{Judged, version_in, passes, write_of, passed, refused, unjudged, unless_refused}
use Rattle.state_core.specs.Reply.{Held, verdict, judged}
use Rattle.state_core.specs.Written.{stores, IsCommitted, IsAnswered}
use Rattle.state_core.specs.Taken.{IsTtl, HasTtl}

-- every verdict on a save is one that stores
pub stores_verdict : (items : List Item) (now : ℕ) (places : List ℕ) → stores (verdict (Save items now) places) ≡ true
stores_verdict items now [] = refl
stores_verdict items now (place ∷ places) = refl

-- the seconds to live of a save's items
pub ttl_of_items : (items : List Item) → All HasTtl (map (λ item. Upsert item) items) → All (λ item. IsTtl item.ttl) items
ttl_of_items items all = λ k d within.
    subst HasTtl (get_or-map (λ item. Upsert item) items k d (Upsert d) within) (all k (Upsert d) (subst (λ n. k < n) (sym (length-map items (λ item. Upsert item))) within))

-- and of the items, as operations
pub ttl_as_ops : (items : List Item) → All (λ item. IsTtl item.ttl) items → All HasTtl (map (λ item. Upsert item) items)
ttl_as_ops items all = λ k d within.
    let short = subst (λ n. k < n) (length-map items (λ item. Upsert item)) within in
    let blank : Item = record { key = []; value = []; etag = None; mode = LastWrite; ttl = None } in
    subst HasTtl (sym (get_or-map (λ item. Upsert item) items k blank d short)) (all k blank short)

module _ (commits : List Changes → Type 0) (h after : Held) (faults faults_after moment : ℕ) where
  pub answered_save : (items : List Item) (now : ℕ) (reply : Reply)
      → IsCommitted commits h after faults faults_after moment (judged h moment (Save items now)).writes (verdict (Save items now) (judged h moment (Save items now)).refused) reply
      → IsAnswered commits h after faults faults_after moment (Save items now) reply
  answered_save items now reply made = record { reply_is = made.reply_is; held_is = made.held_is; faults = made.faults; steady = made.steady; commits = made.commits }

  pub answered_transact : (ops : List Op) (now : ℕ) (reply : Reply) → (judged h moment (Transact ops now)).refused ≡ []
      → IsCommitted commits h after faults faults_after moment (judged h moment (Transact ops now)).writes Committed reply
      → IsAnswered commits h after faults faults_after moment (Transact ops now) reply
  answered_transact ops now reply none made =
      let j = judged h moment (Transact ops now) in
      let whole =
      subst (λ r. IsCommitted commits h after faults faults_after moment (unless_refused r j.writes) (verdict (Transact ops now) r) reply) (sym none) made in
      record { reply_is = whole.reply_is; held_is = whole.held_is; faults = whole.faults; steady = whole.steady; commits = whole.commits }

  pub answered_delete : (key : List ℕ) (etag : Option (List ℕ)) (mode : Mode) (now : ℕ) (reply : Reply) (here : Bool)
      → here ≡ passes (Remove key etag mode) (version_in h.rows h.next moment [] key) → here ≡ true
      → IsCommitted commits h after faults faults_after moment (cond here (write_of moment (Remove key etag mode) (version_in h.rows h.next moment [] key)) []) Deleted reply
      → IsAnswered commits h after faults faults_after moment (Delete key etag mode now) reply
  answered_delete key etag mode now reply here is passing made =
      let w = write_of moment (Remove key etag mode) (version_in h.rows h.next moment [] key) in
      let taken : judged h moment (Delete key etag mode now) ≡ passed unjudged w = ap (λ b. cond b (passed unjudged w) (refused unjudged)) (sym is ∙ passing) in
      let one = subst (λ b. IsCommitted commits h after faults faults_after moment (cond b w []) Deleted reply) passing made in
      let whole = subst (λ (j : Judged). IsCommitted commits h after faults faults_after moment j.writes (verdict (Delete key etag mode now) j.refused) reply) (sym taken) one in
      record { reply_is = whole.reply_is; held_is = whole.held_is; faults = whole.faults; steady = whole.steady; commits = whole.commits }
