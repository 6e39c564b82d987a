-- The turns that get no reply, and are written out, are turns of deliveries.
use Rattle.std.proofs.Common.{ℕ, true, false, List, [], ◌∷◌, ◌++◌, Ok, Err, refl, arith, codes}
use Rattle.std.specs.Prelude.{◌≢◌}
use Rattle.side_base.specs.declared.message.Response.{Response}
use Rattle.side_world.specs.declared.link.LinkErr.TheVariants.{Failed}
use Rattle.breaker_core.specs.declared.command.BreakerCmd.TheVariants.{Admit, Report}
use Rattle.breaker_core.specs.declared.command.BreakerReply.TheVariants.{Admitted, Counted}
use Rattle.ledger_core.specs.declared.command.Finish.TheVariants.{Retry}
use Rattle.ledger_core.specs.declared.command.LedgerCmd.TheVariants.{Take, Settle}
use Rattle.ledger_core.specs.declared.reply.LedgerReply.TheVariants.{Taken, Again, NoMemory}
use Rattle.topic_spec.specs.declared.sub.Rule.{Rule}
use Rattle.policy_run.specs.Event.{Event, own, guarded, word, moment}
use Rattle.policy_run.specs.Turn.{Asks, Reports}
use Rattle.delivery_turn.specs.declared.ending.Turn.TheVariants.{Delivered}
use Rattle.delivery_turn.specs.Settling.{Own, asked, Row, Settles, settled}
use Rattle.delivery_turn.specs.Posting.{missed, free, timed, DeadAims, nowhere, Draws, again}
use Rattle.delivery_turn.specs.Delivery.{Sent, Tried, Concludes, Takes, Delivery, taken}
use Rattle.delivery_turn.specs.Delivery as turns
use Rattle.delivery_turn.specs.Samples.{orders, letters, guarded_shop, hurried_shop, ledger_step, stepped, post_of, breaker_step, failed_so, late_so}

module _ (rules : List Rule) (drawn : ℕ) (event : List ℕ) where
  abbrev row : Row
  row = record { no = 2; sub = 1; claim = 1; event = event; path = codes "/dead" }

  abbrev take : List (Event Own)
  take = moment 4 ∷ stepped (Take 4) (Taken 2 1 1 event (codes "/dead") 1) ∷ []

  takes : Takes row 1 take
  takes = record { now = 4; step = ledger_step (Take 4) (Taken 2 1 1 event (codes "/dead") 1); told = refl; answer = refl; fits = tt; whole = refl }

  no_letter : DeadAims (orders rules ∷ letters ∷ []) row []
  no_letter = nowhere letters refl refl refl

  draws : Draws (orders rules ∷ letters ∷ []) row Retry drawn [] (word drawn ∷ [])
  draws = again refl no_letter refl

  abbrev settling : ℕ → ℕ → List (Event Own)
  settling now due = moment now ∷ stepped (Settle 2 1 1 Retry now drawn []) (Again due) ∷ []

  some_again : (due : ℕ) → Again due ≢ NoMemory
  some_again due e = let bad : ⊥ = cc in bad

  settles : (now due : ℕ) → Settles row (λ at. Retry) drawn [] (settling now due) (Delivered 2 1 (Again due))
  settles now due = settled (Again due) (some_again due) (record { now = now; step = ledger_step (Settle 2 1 1 Retry now drawn []) (Again due); told = refl; answer = refl; fits = tt; whole = refl }) refl

  -- ---- the call fails

  abbrev admission : List (Event Own)
  admission = moment 5 ∷ guarded (breaker_step (Admit 5) (Admitted 0 false)) ∷ []

  abbrev call : List (Event Own)
  call = own (asked (post_of 0 (codes "/dead") event (Err Failed))) ∷ []

  abbrev report : List (Event Own)
  report = moment 9 ∷ guarded (breaker_step (Report 0 9 false) Counted) ∷ []

  asks : Asks (Admitted 0 false) admission
  asks = record { now = 5; step = breaker_step (Admit 5) (Admitted 0 false); answers = record { cmd = refl; reply = refl; fits = tt }; whole = refl }

  reports : Reports 0 false report
  reports = record { now = 9; step = breaker_step (Report 0 9 false) Counted; reply = Counted; answers = record { cmd = refl; reply = refl; fits = tt }; whole = refl }

  failed_sent : Sent (guarded_shop rules) row 0 missed (admission ++ call)
  failed_sent = record { admission = admission; post = call; answer = Err Failed; late = false; admitted = (false, asks); posted = free refl refl refl; is_heard = refl; whole = refl }

  failed_tried : Tried (guarded_shop rules) row missed ((admission ++ call) ++ report)
  failed_tried = record { generation = 0; call = admission ++ call; report = report; sent = failed_sent; reported = reports; whole = refl }

  failed_concludes : Concludes (guarded_shop rules) row missed (word drawn ∷ settling 9 1009) (Delivered 2 1 (Again 1009))
  failed_concludes = record { finish = Retry; drawn = drawn; dead = []; draw = word drawn ∷ []; settling = settling 9 1009; is_finish = refl; draws = draws; settles = settles 9 1009; whole = refl }

  pub failed : Delivery (guarded_shop rules) (failed_so drawn event) (Delivered 2 1 (Again 1009))
  failed =
      taken row 1 take (((admission ++ call) ++ report) ++ word drawn ∷ settling 9 1009) takes
      (turns.tried missed ((admission ++ call) ++ report) (word drawn ∷ settling 9 1009) failed_tried failed_concludes refl) refl

  -- ---- the reply comes late

  module _ (response : Response) where
    abbrev late_call : List (Event Own)
    late_call = moment 5 ∷ own (asked (post_of 50 (codes "/dead") event (Ok response))) ∷ moment 56 ∷ []

    late_sent : Sent (hurried_shop rules) row 0 missed late_call
    late_sent = record { admission = []; post = late_call; answer = Ok response; late = true; admitted = refl; posted = timed 5 56 (omega arith) refl refl; is_heard = refl; whole = refl }

    late_tried : Tried (hurried_shop rules) row missed late_call
    late_tried = record { generation = 0; call = late_call; report = []; sent = late_sent; reported = refl; whole = refl }

    late_concludes : Concludes (hurried_shop rules) row missed (word drawn ∷ settling 56 1056) (Delivered 2 1 (Again 1056))
    late_concludes = record { finish = Retry; drawn = drawn; dead = []; draw = word drawn ∷ []; settling = settling 56 1056; is_finish = refl; draws = draws; settles = settles 56 1056; whole = refl }

    pub late : Delivery (hurried_shop rules) (late_so drawn event response) (Delivered 2 1 (Again 1056))
    late =
        taken row 1 take (late_call ++ word drawn ∷ settling 56 1056) takes
        (turns.tried missed late_call (word drawn ∷ settling 56 1056) late_tried late_concludes refl) refl
