-- A turn, and all of a call, put together.
use Rattle.std.proofs.Common.{◌≡◌, ◌⊎◌, ℕ, List, [], ◌∷◌, ◌++◌, codes, decimal, Ok, Err, Result, Some, None, refl, sym, subst, inl, inr}
use Rattle.side_base.specs.declared.message.LinkRequest.{LinkRequest}
use Rattle.side_base.specs.declared.message.Request.{Request}
use Rattle.side_base.specs.declared.message.Response.{Response}
use Rattle.side_world.specs.declared.link.LinkErr.{LinkErr}
use Rattle.side_world.specs.declared.link.LinkErr.TheVariants as miss
use Rattle.turn_cell.specs.declared.error.ApiErr.{ApiErr}
use Rattle.turn_cell.specs.declared.error.ApiErr.TheVariants as error
use Rattle.turn_cell.specs.Growth.{Grew}
use Rattle.turn_cell.specs.Sitting.{Begun}
use Rattle.turn_cell.proofs.Growing.{grew_none}
use Rattle.actor_turns.specs.declared.turns.Turns.{Turns}
use Rattle.actor_turns.specs.declared.command.TurnsCmd.TheVariants.{Join, Leave}
use Rattle.actor_turns.specs.declared.command.TurnsReply.{TurnsReply}
use Rattle.actor_turns.specs.declared.command.TurnsReply.TheVariants as says
use Rattle.policy_run.specs.Event.{Event, own}
use Rattle.policy_run.specs.Effects.{Clocked}
use Rattle.link_call.specs.LinkAt.{LinkAt}
use Rattle.link_call.specs.Came.{IsOr, Lacks}
use Rattle.link_call.proofs.Attempting.{Answers}
use Rattle.actor_api.specs.declared.awaiting.Awaited.{Awaited}
use Rattle.actor_api.specs.declared.awaiting.Awaited.TheVariants as awaited
use Rattle.actor_api.specs.Stepping.{Answered, At, Does, Own, StepsBy, TurnsGhosts, TurnsSeat, asked, entered}
use Rattle.actor_api.specs.Calling.{Awaits, Finishes, Invokes, Joins, Replies, not_invoked, request_to}
use Rattle.actor_api.specs.Calling as calling
use Rattle.actor_api.proofs.Going.{call_went, none_went, step_went, went_on}

-- a response, or no memory for it, tells of no exhausted cell
pub not_spent : (response : Response) (reply : Result Response ApiErr) (count : ℕ) → IsOr response reply → reply ≡ Err (error.Exhausted count) → ⊥
not_spent response reply count (inl is) ended = cc (is, ended)
not_spent response reply count (inr is) ended = cc (is, ended)

pub replies_not_spent : (answer : Result Response LinkErr) (reply : Result Response ApiErr) (count : ℕ) → Replies answer reply → reply ≡ Err (error.Exhausted count) → ⊥
replies_not_spent (Ok response) reply count replies ended = not_spent _ reply count replies ended
replies_not_spent (Err miss.Failed) reply count replies ended = not_spent _ reply count replies ended
replies_not_spent (Err miss.Expired) reply count replies ended = not_spent _ reply count replies ended
replies_not_spent (Err miss.NoMemory) reply count replies ended = cc (replies, ended)

module _ (object : TurnsGhosts) (cell : Begun Turns) where
  module _ (request : LinkRequest) (ticket : ℕ) (seat seat' : TurnsSeat) (clock : Clocked) (how : Awaited) (result : Result Response ApiErr) where
    abbrev Ends : LinkAt → LinkAt → Type 0
    Ends link link' = Does object cell (record { seat = seat; link = link; clock = clock }) (record { seat = seat'; link = link'; clock = clock }) (λ events. Finishes request ticket how events result)

    module _ (link link' : LinkAt) (answer : Result Response LinkErr) (is : how ≡ awaited.Yours) (answers : Answers link (record { request = request; limit_ms = 0; answer = answer }) link') where
      pub called_left : (reply : TurnsReply) → StepsBy object cell seat seat' (Leave ticket) (Ok reply) → Replies answer result → Ends link link'
      called_left reply did replies = (
        own (asked (record { request = request; limit_ms = 0; answer = answer })) ∷ own (entered did.0) ∷ [],
        subst (λ h. Finishes request ticket h (own (asked (record { request = request; limit_ms = 0; answer = answer })) ∷ own (entered did.0) ∷ []) result) (sym is) (calling.called answer (own (entered did.0) ∷ []) result (did.0, reply, did.1, refl) replies),
        went_on object cell (record { seat = seat; link = link; clock = clock }) (record { seat = seat; link = link'; clock = clock }) (record { seat = seat'; link = link'; clock = clock })
            (own (asked (record { request = request; limit_ms = 0; answer = answer })) ∷ []) (own (entered did.0) ∷ [])
            (call_went object cell seat link link' clock (record { request = request; limit_ms = 0; answer = answer }) answers) (step_went object cell seat seat' link' clock did.0 did.2),
      )

      pub called_unleft : (count : ℕ) → Grew object cell.first seat [] seat' → result ≡ Err (error.Exhausted count) → Ends link link'
      called_unleft count grew ended = (
        own (asked (record { request = request; limit_ms = 0; answer = answer })) ∷ [],
        subst (λ r. Finishes request ticket how (own (asked (record { request = request; limit_ms = 0; answer = answer })) ∷ []) r) (sym ended)
            (subst (λ h. Finishes request ticket h (own (asked (record { request = request; limit_ms = 0; answer = answer })) ∷ []) (Err (error.Exhausted count))) (sym is) (calling.called_unleft answer count)),
        went_on object cell (record { seat = seat; link = link; clock = clock }) (record { seat = seat; link = link'; clock = clock }) (record { seat = seat'; link = link'; clock = clock })
            (own (asked (record { request = request; limit_ms = 0; answer = answer })) ∷ []) []
            (call_went object cell seat link link' clock (record { request = request; limit_ms = 0; answer = answer }) answers) (none_went object cell seat seat' link' clock grew),
      )

    module _ (link : LinkAt) (ahead : ℕ) (is : how ≡ awaited.Behind ahead) where
      pub tired_left : (reply : TurnsReply) → StepsBy object cell seat seat' (Leave ticket) (Ok reply) → IsOr (not_invoked (codes "waits behind " ++ decimal ahead)) result → Ends link link
      tired_left reply did gives = (
        own (entered did.0) ∷ [],
        subst (λ h. Finishes request ticket h (own (entered did.0) ∷ []) result) (sym is) (calling.tired ahead (own (entered did.0) ∷ []) result (did.0, reply, did.1, refl) gives),
        step_went object cell seat seat' link clock did.0 did.2,
      )

      pub tired_unleft : (count : ℕ) → Grew object cell.first seat [] seat' → result ≡ Err (error.Exhausted count) → Ends link link
      tired_unleft count grew ended = (
        [],
        subst (λ r. Finishes request ticket how [] r) (sym ended) (subst (λ h. Finishes request ticket h [] (Err (error.Exhausted count))) (sym is) (calling.tired_unleft ahead count)),
        none_went object cell seat seat' link clock grew,
      )

  module _ (request : LinkRequest) (ticket : ℕ) (at : At) (how : Awaited) (result : Result Response ApiErr) where
    pub lost_so : how ≡ awaited.Lost → IsOr (not_invoked (codes "turn lost")) result → Does object cell at at (λ events. Finishes request ticket how events result)
    lost_so is gives = ([], subst (λ h. Finishes request ticket h [] result) (sym is) (calling.lost result gives), none_went object cell at.seat at.seat at.link at.clock (grew_none object cell.first at.seat))

    pub unseen_so : (count : ℕ) → how ≡ awaited.Exhausted count → result ≡ Err (error.Exhausted count) → Does object cell at at (λ events. Finishes request ticket how events result)
    unseen_so count is ended = (
      [],
      subst (λ r. Finishes request ticket how [] r) (sym ended) (subst (λ h. Finishes request ticket h [] (Err (error.Exhausted count))) (sym is) (calling.unseen count)),
      none_went object cell at.seat at.seat at.link at.clock (grew_none object cell.first at.seat),
    )

  -- the waiting, and what follows
  pub turn_taken : (at between after : At) (request : LinkRequest) (ticket : ℕ) (how : Awaited) (result : Result Response ApiErr) → Does object cell at between (Awaits ticket how) → Does object cell between after (λ events. Finishes request ticket how events result)
      → Does object cell at after (λ events. calling.TakesTurn request ticket events result)
  turn_taken at between after request ticket how result waits finishes =
      (waits.0 ++ finishes.0, record { how = how; waiting = waits.0; rest = finishes.0; awaits = waits.1; finishes = finishes.1; whole = refl }, went_on object cell at between after waits.0 finishes.0 waits.2 finishes.2)

  -- the line
  module _ (request : LinkRequest) (actor : List ℕ) (result : Result Response ApiErr) where
    abbrev JoinsOr : List (Event Own) → Type 0
    JoinsOr events = Lacks events result ⊎ Joins request actor events result

    pub lacks_so : (at : At) → result ≡ Err error.NoMemory → Does object cell at at JoinsOr
    lacks_so at ended = ([], inl (refl, ended), none_went object cell at.seat at.seat at.link at.clock (grew_none object cell.first at.seat))

    module _ (seat seat' : TurnsSeat) (link : LinkAt) (clock : Clocked) (name : List ℕ) (same : name ≡ actor) where
      module _ (reply : TurnsReply) (did : StepsBy object cell seat seat' (Join name) (Ok reply)) where
        answered : (what : TurnsReply) → reply ≡ what → Answered (Join actor) what did.0
        answered what is = subst (λ n. Answered (Join n) what did.0) same (subst (λ r. Answered (Join name) r did.0) is did.1)

        pub joined_so : (ticket : ℕ) (after : At) → reply ≡ says.Joined ticket → Does object cell (record { seat = seat'; link = link; clock = clock }) after (λ events. calling.TakesTurn request ticket events result)
            → Does object cell (record { seat = seat; link = link; clock = clock }) after JoinsOr
        joined_so ticket after is turns = (
          own (entered did.0) ∷ turns.0,
          inr (calling.joined ticket did.0 turns.0 (answered (says.Joined ticket) is) turns.1 refl),
          went_on object cell (record { seat = seat; link = link; clock = clock }) (record { seat = seat'; link = link; clock = clock }) after (own (entered did.0) ∷ []) turns.0 (step_went object cell seat seat' link clock did.0 did.2) turns.2,
        )

        pub full_so : (waiting : ℕ) → reply ≡ says.Full waiting → IsOr (not_invoked (codes "full at " ++ decimal waiting)) result → Does object cell (record { seat = seat; link = link; clock = clock }) (record { seat = seat'; link = link; clock = clock }) JoinsOr
        full_so waiting is gives = (own (entered did.0) ∷ [], inr (calling.full waiting did.0 (answered (says.Full waiting) is) refl gives), step_went object cell seat seat' link clock did.0 did.2)

        pub unjoined_so : reply ≡ says.NoMemory → result ≡ Err error.NoMemory → Does object cell (record { seat = seat; link = link; clock = clock }) (record { seat = seat'; link = link; clock = clock }) JoinsOr
        unjoined_so is ended = (own (entered did.0) ∷ [], inr (calling.lacks did.0 (answered says.NoMemory is) refl ended), step_went object cell seat seat' link clock did.0 did.2)

      pub exhausted_so : (count : ℕ) → Grew object cell.first seat [] seat' → result ≡ Err (error.Exhausted count) → Does object cell (record { seat = seat; link = link; clock = clock }) (record { seat = seat'; link = link; clock = clock }) JoinsOr
      exhausted_so count grew ended = ([], inr (calling.exhausted count refl ended), none_went object cell seat seat' link clock grew)

  -- all of it
  module _ (request : Request) (actor : List ℕ) (result : Result Response ApiErr) where
    pub without_port : (at : At) → IsOr (not_invoked (codes "no app port")) result → Does object cell at at (λ events. Invokes None request actor events result)
    without_port at gives = ([], (refl, gives), none_went object cell at.seat at.seat at.link at.clock (grew_none object cell.first at.seat))

    pub unmade : (at : At) (port : ℕ) → result ≡ Err error.NoMemory → Does object cell at at (λ events. Invokes (Some port) request actor events result)
    unmade at port ended = ([], inl (refl, ended), none_went object cell at.seat at.seat at.link at.clock (grew_none object cell.first at.seat))

    pub with_port : (at after : At) (port : ℕ) (made : LinkRequest) → made ≡ request_to port request → Does object cell at after (λ events. Lacks events result ⊎ Joins made actor events result) → Does object cell at after (λ events. Invokes (Some port) request actor events result)
    with_port at after port made is joins = subst (λ r. Does object cell at after (λ events. Lacks events result ⊎ Joins r actor events result)) is joins
