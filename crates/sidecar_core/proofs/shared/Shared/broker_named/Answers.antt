use Rattle.std.proofs.Common.{◌≡◌, ◌∙◌, ◌⊎◌, inl, inr, sym}
use Rattle.resource_spec.specs.Component.{Loaded}
use Rattle.resource_spec.specs.declared.component.ComponentKind.{ComponentKind}
use Rattle.resource_spec.specs.declared.component.ComponentKind.TheVariants as kinds
use Rattle.sidecar_core.proofs.Requested.{first_named, found_first, none_first}
use Rattle.sidecar_core.proofs.shared.Shared.broker_named.Goals as goal

pub returns-in-PubsubMemory-clause-found : goal.returns-in-PubsubMemory-clause-found
returns-in-PubsubMemory-clause-found g c =
    let first = first_named c.args.self.now.config c.args.name.now c.bytes.result.now c.place_of.result c.in_ok-place.place c.bytes.ensures.value c.place_of.ensures c.in_ok-place.was in
    found_first c.args.self.now.config c.args.name.now c.in_ok-place.place c.at.result.now first c.at.ensures kinds.PubsubMemory (sym c.kind.ensures.kind ∙ c.in-PubsubMemory.is)

-- a kind that was told is another
far_broker : (told : ComponentKind) (component : Loaded) → told ≡ component.kind → (told ≡ kinds.StateMemory) ⊎ ((told ≡ kinds.StateJournal) ⊎ ((told ≡ kinds.BindingHttp) ⊎ (told ≡ kinds.BindingCron))) → component.kind ≡ kinds.PubsubMemory → ⊥
far_broker told component same (inl is) of = differs (sym is ∙ same ∙ of) where
  differs : ◌≡◌ {A = ComponentKind} kinds.StateMemory kinds.PubsubMemory → ⊥
  differs e = absurd (cc)
far_broker told component same (inr (inl is)) of = differs (sym is ∙ same ∙ of) where
  differs : ◌≡◌ {A = ComponentKind} kinds.StateJournal kinds.PubsubMemory → ⊥
  differs e = absurd (cc)
far_broker told component same (inr (inr (inl is))) of = differs (sym is ∙ same ∙ of) where
  differs : ◌≡◌ {A = ComponentKind} kinds.BindingHttp kinds.PubsubMemory → ⊥
  differs e = absurd (cc)
far_broker told component same (inr (inr (inr is))) of = differs (sym is ∙ same ∙ of) where
  differs : ◌≡◌ {A = ComponentKind} kinds.BindingCron kinds.PubsubMemory → ⊥
  differs e = absurd (cc)

pub returns-in-StateMemory : goal.returns-in-StateMemory
returns-in-StateMemory g c =
    let first = first_named c.args.self.now.config c.args.name.now c.bytes.result.now c.place_of.result c.in_ok-place.place c.bytes.ensures.value c.place_of.ensures c.in_ok-place.was in record {
      found = λ place is. absurd (cc);
      none = λ none-there. none_first c.args.self.now.config c.args.name.now c.in_ok-place.place c.at.result.now first c.at.ensures kinds.PubsubMemory (far_broker c.kind.result c.at.result.now c.kind.ensures.kind c.in-StateMemory.is);
    }
