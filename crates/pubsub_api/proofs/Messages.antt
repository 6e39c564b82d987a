-- An event, and the command that gives it to its ledger.
use Rattle.std.proofs.Common.{◌≡◌, sym, subst, ℕ, List}
use Rattle.std.specs.Prelude.{Ok, Err}
use Rattle.json_text.specs.Forest.{Forest}
use Rattle.json_text.specs.MapTexts.{map_of}
use Rattle.ledger_core.specs.declared.plan.Aim.{Aim}
use Rattle.ledger_core.specs.declared.command.LedgerCmd.TheVariants.{Accept}
use Rattle.cloud_events.specs.declared.sent.Sent.{Sent}
use Rattle.cloud_events.specs.declared.sent.EventErr.{EventErr}
use Rattle.cloud_events.specs.declared.sent.EventErr.TheVariants.{NotJson, Attribute, BothData, BadBase64, BadTime, NoMemory}
use Rattle.cloud_events.specs.Laws.{AreTexts, IsReadAs}
use Rattle.cloud_events.specs.Wrapped.{IsRead, IsRefused, IsWrapped}
use Rattle.topic_spec.specs.declared.sub.Sub.{Sub}
use Rattle.topic_spec.specs.Aiming.{aims_of}
use Rattle.pubsub_api.specs.declared.publication.PubErr.{PubErr}
use Rattle.pubsub_api.specs.declared.stamp.Stamp.{Stamp}
use Rattle.pubsub_api.specs.Publishing.{Commands, id_of, unmade}

-- the law of what `wrap` makes
abbrev pub AgainLaw : Type 0
AgainLaw = (sent : Sent) (id event : List ℕ) (now : ℕ) (wrapped : IsWrapped sent id now event) → AreTexts sent id → IsReadAs wrapped.event_is.members event

-- the values of an event
pub event_read : (law : AgainLaw) (sent : Sent) (id event : List ℕ) (now : ℕ) → IsWrapped sent id now event → AreTexts sent id → (values : Forest) × IsRead event values
event_read law sent id event now wrapped texts =
    let again = law sent id event now wrapped texts in
    (map_of again.written, record { text = again.text; clean = again.clean })

pub accepts : (subs : List Sub) (sent : Sent) (id event : List ℕ) (now : ℕ) (stamp : Stamp) (values : Forest) (given : List ℕ) (aims : List Aim)
    → IsWrapped sent id now event → IsRead event values → id ≡ id_of stamp → now ≡ stamp.at → given ≡ event → aims ≡ aims_of (record { bytes = event; values = values }) sent.pubsub sent.topic subs
    → Commands subs sent stamp (Ok (Accept given aims now))
accepts subs sent id event now stamp values given aims wrapped read its-id its-now its-event its-aims = (
  event,
  values,
  record { wrapped = subst (λ x. IsWrapped sent x stamp.at event) its-id (subst (λ n. IsWrapped sent id n event) its-now wrapped); read = read },
  λ i. Accept (its-event i) (its-aims i) (its-now i),
)

-- a body that becomes no event gives no command
pub refuses : (subs : List Sub) (sent : Sent) (stamp : Stamp) (why : EventErr) (told : PubErr) → told ≡ unmade why → IsRefused sent why → Commands subs sent stamp (Err told)
refuses subs sent stamp (NotJson at) told is refused = subst (λ e. Commands subs sent stamp (Err e)) (sym is) (refused, λ e. let bad : ⊥ = cc in bad)
refuses subs sent stamp (Attribute name) told is refused = subst (λ e. Commands subs sent stamp (Err e)) (sym is) (refused, λ e. let bad : ⊥ = cc in bad)
refuses subs sent stamp BothData told is refused = subst (λ e. Commands subs sent stamp (Err e)) (sym is) (refused, λ e. let bad : ⊥ = cc in bad)
refuses subs sent stamp (BadBase64 at) told is refused = subst (λ e. Commands subs sent stamp (Err e)) (sym is) (refused, λ e. let bad : ⊥ = cc in bad)
refuses subs sent stamp BadTime told is refused = subst (λ e. Commands subs sent stamp (Err e)) (sym is) (refused, λ e. let bad : ⊥ = cc in bad)
refuses subs sent stamp NoMemory told is refused = subst (λ e. Commands subs sent stamp (Err e)) (sym is) tt
