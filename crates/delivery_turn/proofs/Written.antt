-- The turns that are written out are turns of deliveries.
use Rattle.std.proofs.Common.{◌≡◌, ℕ, false, List, [], ◌∷◌, ◌++◌, Ok, refl, ap, subst, codes}
use Rattle.std.specs.Prelude.{◌≢◌}
use Rattle.json_text.specs.Forest.{Forest}
use Rattle.breaker_core.specs.declared.command.BreakerCmd.TheVariants.{Admit}
use Rattle.breaker_core.specs.Fits.{Fits}
use Rattle.ledger_core.specs.declared.command.Finish.TheVariants.{Success, Retry, Later}
use Rattle.ledger_core.specs.declared.command.LedgerCmd.TheVariants.{Take, Settle}
use Rattle.ledger_core.specs.declared.reply.LedgerReply.{LedgerReply}
use Rattle.ledger_core.specs.Fits.{FitsEnd}
use Rattle.ledger_core.specs.declared.reply.LedgerReply.TheVariants.{Taken, Done, Again, NoMemory}
use Rattle.cloud_events.specs.declared.outcome.Verdict.TheVariants as verdict
use Rattle.cloud_events.specs.Wrapped.{IsRead}
use Rattle.topic_spec.specs.declared.sub.Rule.{Rule}
use Rattle.topic_spec.specs.Aiming.{aims_of, aims_from, aim_at, is_to, path_of, first_yes}
use Rattle.policy_run.specs.declared.outcome.Refusal.{Refusal}
use Rattle.policy_run.specs.Event.{Event, own, guarded, word, moment}
use Rattle.policy_run.specs.Turn.{Asks, reply_of}
use Rattle.delivery_turn.specs.declared.ending.Turn.TheVariants.{Delivered}
use Rattle.delivery_turn.specs.Settling.{Own, asked, Row, Settles, settled, postponed}
use Rattle.delivery_turn.specs.Posting.{replied, free, DeadAims, matched, again, otherwise}
use Rattle.delivery_turn.specs.Delivery.{Sent, Tried, Concludes, Postponed, Takes, Delivery, taken}
use Rattle.delivery_turn.specs.Delivery as turns
use Rattle.delivery_turn.specs.Samples.{orders, letters, shop, guarded_shop, ledger_step, stepped, post_of, wants_again, accepts, letter_aims, attempt_at, letter_at, breaker_step, refused_so}
use Rattle.delivery_turn.proofs.Verdicts.{no_body}
use Rattle.delivery_turn.proofs.Retrying.{wants_again_judged}

letter_is : (rules : List Rule) (event : List ℕ) (values : Forest) → letter_aims ≡ aims_of (record { bytes = event; values = values }) (codes "pubsub") (codes "dead") (orders rules ∷ letters ∷ [])
unfolding aims_from aim_at is_to path_of first_yes
letter_is rules event values = refl

-- ---- an attempt whose reply asks for another

module _ (rules : List Rule) (now number drawn : ℕ) (event : List ℕ) (values : Forest) (reply : LedgerReply) where
  abbrev first_row : Row
  first_row = record { no = 1; sub = 0; claim = number; event = event; path = codes "/orders" }

  abbrev first_take : List (Event Own)
  first_take = moment now ∷ stepped (Take now) (Taken 1 0 number event (codes "/orders") number) ∷ []

  abbrev first_post : List (Event Own)
  first_post = own (asked (post_of 0 (codes "/orders") event (Ok wants_again))) ∷ []

  abbrev first_settling : List (Event Own)
  first_settling = moment now ∷ stepped (Settle 1 0 number Retry now drawn letter_aims) reply ∷ []

  first_takes : Takes first_row number first_take
  first_takes = record { now = now; step = ledger_step (Take now) (Taken 1 0 number event (codes "/orders") number); told = refl; answer = refl; fits = tt; whole = refl }

  first_sent : Sent (shop rules) first_row 0 (replied wants_again) first_post
  first_sent = record { admission = []; post = first_post; answer = Ok wants_again; late = false; admitted = refl; posted = free refl refl refl; is_heard = refl; whole = refl }

  first_tried : Tried (shop rules) first_row (replied wants_again) first_post
  first_tried = record { generation = 0; call = first_post; report = []; sent = first_sent; reported = refl; whole = refl }

  first_settles : reply ≢ NoMemory → FitsEnd Retry reply → Settles first_row (λ at. Retry) drawn letter_aims first_settling (Delivered 1 0 reply)
  first_settles some fits = settled reply some (record { now = now; step = ledger_step (Settle 1 0 number Retry now drawn letter_aims) reply; told = refl; answer = refl; fits = fits; whole = refl }) refl

  first_dead : IsRead event values → DeadAims (orders rules ∷ letters ∷ []) first_row letter_aims
  first_dead read = matched (orders rules) (codes "dead") values refl refl read (letter_is rules event values)

  first_concludes : reply ≢ NoMemory → FitsEnd Retry reply → IsRead event values → Concludes (shop rules) first_row (replied wants_again) (word drawn ∷ first_settling) (Delivered 1 0 reply)
  first_concludes some fits read = record {
    finish = Retry;
    drawn = drawn;
    dead = letter_aims;
    draw = word drawn ∷ [];
    settling = first_settling;
    is_finish = (verdict.Retry, wants_again_judged, refl);
    draws = again refl (first_dead read) refl;
    settles = first_settles some fits;
    whole = refl;
  }

  pub attempt : reply ≢ NoMemory → FitsEnd Retry reply → IsRead event values → Delivery (shop rules) (attempt_at now number drawn event reply) (Delivered 1 0 reply)
  attempt some fits read =
      taken first_row number first_take (first_post ++ word drawn ∷ first_settling) first_takes
      (turns.tried (replied wants_again) first_post (word drawn ∷ first_settling) first_tried (first_concludes some fits read) refl) refl

-- ---- the letter

module _ (rules : List Rule) (now claim : ℕ) (event : List ℕ) where
  abbrev letter_row : Row
  letter_row = record { no = 2; sub = 1; claim = claim; event = event; path = codes "/dead" }

  abbrev letter_take : List (Event Own)
  letter_take = moment now ∷ stepped (Take now) (Taken 2 1 claim event (codes "/dead") 1) ∷ []

  abbrev letter_post : List (Event Own)
  letter_post = own (asked (post_of 0 (codes "/dead") event (Ok accepts))) ∷ []

  abbrev letter_settling : List (Event Own)
  letter_settling = moment now ∷ stepped (Settle 2 1 claim Success now 0 []) Done ∷ []

  letter_takes : Takes letter_row 1 letter_take
  letter_takes = record { now = now; step = ledger_step (Take now) (Taken 2 1 claim event (codes "/dead") 1); told = refl; answer = refl; fits = tt; whole = refl }

  letter_sent : Sent (shop rules) letter_row 0 (replied accepts) letter_post
  letter_sent = record { admission = []; post = letter_post; answer = Ok accepts; late = false; admitted = refl; posted = free refl refl refl; is_heard = refl; whole = refl }

  letter_tried : Tried (shop rules) letter_row (replied accepts) letter_post
  letter_tried = record { generation = 0; call = letter_post; report = []; sent = letter_sent; reported = refl; whole = refl }

  some_done : Done ≢ NoMemory
  some_done e = let bad : ⊥ = cc in bad

  not_again : Success ≢ Retry
  not_again e = let bad : ⊥ = cc in bad

  letter_settles : Settles letter_row (λ at. Success) 0 [] letter_settling (Delivered 2 1 Done)
  letter_settles = settled Done some_done (record { now = now; step = ledger_step (Settle 2 1 claim Success now 0 []) Done; told = refl; answer = refl; fits = tt; whole = refl }) refl

  letter_concludes : Concludes (shop rules) letter_row (replied accepts) letter_settling (Delivered 2 1 Done)
  letter_concludes = record {
    finish = Success;
    drawn = 0;
    dead = [];
    draw = [];
    settling = letter_settling;
    is_finish = (verdict.Success, no_body [] 200 verdict.Success refl, refl);
    draws = otherwise not_again refl refl refl;
    settles = letter_settles;
    whole = refl;
  }

  pub letter : Delivery (shop rules) (letter_at now claim event) (Delivered 2 1 Done)
  letter = taken letter_row 1 letter_take (letter_post ++ letter_settling) letter_takes (turns.tried (replied accepts) letter_post letter_settling letter_tried letter_concludes refl) refl

-- ---- a refusal

module _ (rules : List Rule) (event : List ℕ) (refusal : Refusal) (due : ℕ) where
  abbrev refused_row : Row
  refused_row = record { no = 1; sub = 0; claim = 1; event = event; path = codes "/orders" }

  abbrev refused_take : List (Event Own)
  refused_take = moment 4 ∷ stepped (Take 4) (Taken 1 0 1 event (codes "/orders") 1) ∷ []

  abbrev refused_asks : List (Event Own)
  refused_asks = moment 5 ∷ guarded (breaker_step (Admit 5) (reply_of refusal)) ∷ []

  abbrev refused_settling : List (Event Own)
  refused_settling = moment 7 ∷ stepped (Settle 1 0 1 (Later due) 7 0 []) (Again due) ∷ []

  refused_takes : Takes refused_row 1 refused_take
  refused_takes = record { now = 4; step = ledger_step (Take 4) (Taken 1 0 1 event (codes "/orders") 1); told = refl; answer = refl; fits = tt; whole = refl }

  asks : Fits (Admit 5) (reply_of refusal) → Asks (reply_of refusal) refused_asks
  asks fits = record { now = 5; step = breaker_step (Admit 5) (reply_of refusal); answers = record { cmd = refl; reply = refl; fits = fits }; whole = refl }

  some_again : Again due ≢ NoMemory
  some_again e = let bad : ⊥ = cc in bad

  refused_settles : Later due ≡ postponed refusal 7 → Settles refused_row (postponed refusal) 0 [] refused_settling (Delivered 1 0 (Again due))
  refused_settles e = settled (Again due) some_again (record { now = 7; step = ledger_step (Settle 1 0 1 (Later due) 7 0 []) (Again due); told = ap (λ f. Settle 1 0 1 f 7 0 []) e; answer = refl; fits = subst (λ f. FitsEnd f (Again due)) e refl; whole = refl }) refl

  is_postponed : Fits (Admit 5) (reply_of refusal) → Later due ≡ postponed refusal 7 → Postponed (guarded_shop rules) refused_row (refused_asks ++ refused_settling) (Delivered 1 0 (Again due))
  is_postponed fits e = record { refusal = refusal; asks = refused_asks; settling = refused_settling; guards = refl; refused = asks fits; settles = refused_settles e; whole = refl }

  pub refused_turn : Fits (Admit 5) (reply_of refusal) → Later due ≡ postponed refusal 7 → Delivery (guarded_shop rules) (refused_so (reply_of refusal) due event) (Delivered 1 0 (Again due))
  refused_turn fits e = taken refused_row 1 refused_take (refused_asks ++ refused_settling) refused_takes (turns.refused (is_postponed fits e)) refl
