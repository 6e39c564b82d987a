use Rattle.std.proofs.Common.{List, [], ◌∷◌, Ok, Err, refl, subst, sym}
use Rattle.std.proofs.lemmas.Result.{err_from_is_err_and}
use Rattle.api_routes.specs.declared.table.Kind.{Kind}
use Rattle.api_routes.specs.declared.table.Kind.TheVariants as kind
use Rattle.api_routes.specs.declared.route.Route.TheVariants as route
use Rattle.api_routes.specs.Parameters.{Decodes, DecodesInvoked, DecodesRoute, DecodesThree, DecodesTwo, HasNth, Stands, parts_of}
use Rattle.api_routes.specs.Path.{Parameter}
use Rattle.api_routes.proofs.Decoding.{call-route, invoke-route, one-route, third-there, three-route, two-route}
use Rattle.api_routes.proofs.parameters.route_of.Goals as goal

pub returns-in_err-one_text-in-Save : goal.returns-in_err-one_text-in-Save
returns-in_err-one_text-in-Save c parameters stands =
    let e = c.in_err-one_text-in-Save.field-0.0 in
    let p = err_from_is_err_and c.from_residual.result c.from_residual.ensures.1 in
    let P : Kind → Type 0 = λ k. Stands k c.args.path.now parameters → ((p : Parameter) → Stands k c.args.path.now (p ∷ []) → Decodes p (Err e)) → DecodesRoute c.args.target.now k parameters (Err e) in
    rw (p.1, p.2) (subst P (sym c.in-Save.is) (λ stands decodes. one-route c.args.target.now c.args.path.now kind.Save parameters (λ text. route.Save text) (Err e) (Err e) (λ p. refl) (λ p. (refl, p, refl, refl)) refl stands decodes refl) stands c.in_err-one_text-in-Save.ensures)

pub returns-in_ok-one_text-in-Save : goal.returns-in_ok-one_text-in-Save
returns-in_ok-one_text-in-Save c parameters stands =
    let text = c.in_ok-one_text-in-Save.field-0 in
    let P : Kind → Type 0 = λ k. Stands k c.args.path.now parameters → ((p : Parameter) → Stands k c.args.path.now (p ∷ []) → Decodes p (Ok text)) → DecodesRoute c.args.target.now k parameters (Ok (route.Save text)) in
    subst P (sym c.in-Save.is) (λ stands decodes. one-route c.args.target.now c.args.path.now kind.Save parameters (λ text. route.Save text) (Ok text) (Ok (route.Save text)) (λ p. refl) (λ p. (refl, p, refl, refl)) refl stands decodes refl) stands c.in_ok-one_text-in-Save.ensures

pub returns-in_err-one_text-in-Bulk : goal.returns-in_err-one_text-in-Bulk
returns-in_err-one_text-in-Bulk c parameters stands =
    let e = c.in_err-one_text-in-Bulk.field-0.0 in
    let p = err_from_is_err_and c.from_residual-in_err-one_text-in-Bulk.result c.from_residual-in_err-one_text-in-Bulk.ensures.1 in
    let P : Kind → Type 0 = λ k. Stands k c.args.path.now parameters → ((p : Parameter) → Stands k c.args.path.now (p ∷ []) → Decodes p (Err e)) → DecodesRoute c.args.target.now k parameters (Err e) in
    rw (p.1, p.2) (subst P (sym c.in-Bulk.is) (λ stands decodes. one-route c.args.target.now c.args.path.now kind.Bulk parameters (λ text. route.Bulk text) (Err e) (Err e) (λ p. refl) (λ p. (refl, p, refl, refl)) refl stands decodes refl) stands c.in_err-one_text-in-Bulk.ensures)

pub returns-in_ok-one_text-in-Bulk : goal.returns-in_ok-one_text-in-Bulk
returns-in_ok-one_text-in-Bulk c parameters stands =
    let text = c.in_ok-one_text-in-Bulk.field-0 in
    let P : Kind → Type 0 = λ k. Stands k c.args.path.now parameters → ((p : Parameter) → Stands k c.args.path.now (p ∷ []) → Decodes p (Ok text)) → DecodesRoute c.args.target.now k parameters (Ok (route.Bulk text)) in
    subst P (sym c.in-Bulk.is) (λ stands decodes. one-route c.args.target.now c.args.path.now kind.Bulk parameters (λ text. route.Bulk text) (Ok text) (Ok (route.Bulk text)) (λ p. refl) (λ p. (refl, p, refl, refl)) refl stands decodes refl) stands c.in_ok-one_text-in-Bulk.ensures

pub returns-in_err-one_text-in-Transact : goal.returns-in_err-one_text-in-Transact
returns-in_err-one_text-in-Transact c parameters stands =
    let e = c.in_err-one_text-in-Transact.field-0.0 in
    let p = err_from_is_err_and c.from_residual-in_err-one_text-in-Transact.result c.from_residual-in_err-one_text-in-Transact.ensures.1 in
    let P : Kind → Type 0 = λ k. Stands k c.args.path.now parameters → ((p : Parameter) → Stands k c.args.path.now (p ∷ []) → Decodes p (Err e)) → DecodesRoute c.args.target.now k parameters (Err e) in
    rw (p.1, p.2) (subst P (sym c.in-Transact.is) (λ stands decodes. one-route c.args.target.now c.args.path.now kind.Transact parameters (λ text. route.Transact text) (Err e) (Err e) (λ p. refl) (λ p. (refl, p, refl, refl)) refl stands decodes refl) stands c.in_err-one_text-in-Transact.ensures)

pub returns-in_ok-one_text-in-Transact : goal.returns-in_ok-one_text-in-Transact
returns-in_ok-one_text-in-Transact c parameters stands =
    let text = c.in_ok-one_text-in-Transact.field-0 in
    let P : Kind → Type 0 = λ k. Stands k c.args.path.now parameters → ((p : Parameter) → Stands k c.args.path.now (p ∷ []) → Decodes p (Ok text)) → DecodesRoute c.args.target.now k parameters (Ok (route.Transact text)) in
    subst P (sym c.in-Transact.is) (λ stands decodes. one-route c.args.target.now c.args.path.now kind.Transact parameters (λ text. route.Transact text) (Ok text) (Ok (route.Transact text)) (λ p. refl) (λ p. (refl, p, refl, refl)) refl stands decodes refl) stands c.in_ok-one_text-in-Transact.ensures

pub returns-in_err-one_text-in-Binding : goal.returns-in_err-one_text-in-Binding
returns-in_err-one_text-in-Binding c parameters stands =
    let e = c.in_err-one_text-in-Binding.field-0.0 in
    let p = err_from_is_err_and c.from_residual-in_err-one_text-in-Binding.result c.from_residual-in_err-one_text-in-Binding.ensures.1 in
    let P : Kind → Type 0 = λ k. Stands k c.args.path.now parameters → ((p : Parameter) → Stands k c.args.path.now (p ∷ []) → Decodes p (Err e)) → DecodesRoute c.args.target.now k parameters (Err e) in
    rw (p.1, p.2) (subst P (sym c.in-Binding.is) (λ stands decodes. one-route c.args.target.now c.args.path.now kind.Binding parameters (λ text. route.Binding text) (Err e) (Err e) (λ p. refl) (λ p. (refl, p, refl, refl)) refl stands decodes refl) stands c.in_err-one_text-in-Binding.ensures)

pub returns-in_ok-one_text-in-Binding : goal.returns-in_ok-one_text-in-Binding
returns-in_ok-one_text-in-Binding c parameters stands =
    let text = c.in_ok-one_text-in-Binding.field-0 in
    let P : Kind → Type 0 = λ k. Stands k c.args.path.now parameters → ((p : Parameter) → Stands k c.args.path.now (p ∷ []) → Decodes p (Ok text)) → DecodesRoute c.args.target.now k parameters (Ok (route.Binding text)) in
    subst P (sym c.in-Binding.is) (λ stands decodes. one-route c.args.target.now c.args.path.now kind.Binding parameters (λ text. route.Binding text) (Ok text) (Ok (route.Binding text)) (λ p. refl) (λ p. (refl, p, refl, refl)) refl stands decodes refl) stands c.in_ok-one_text-in-Binding.ensures

pub returns-in_err-one_text-in-SetMetadata : goal.returns-in_err-one_text-in-SetMetadata
returns-in_err-one_text-in-SetMetadata c parameters stands =
    let e = c.in_err-one_text-in-SetMetadata.field-0.0 in
    let p = err_from_is_err_and c.from_residual-in_err-one_text-in-SetMetadata.result c.from_residual-in_err-one_text-in-SetMetadata.ensures.1 in
    let P : Kind → Type 0 = λ k. Stands k c.args.path.now parameters → ((p : Parameter) → Stands k c.args.path.now (p ∷ []) → Decodes p (Err e)) → DecodesRoute c.args.target.now k parameters (Err e) in
    rw (p.1, p.2) (subst P (sym c.in-SetMetadata.is) (λ stands decodes. one-route c.args.target.now c.args.path.now kind.SetMetadata parameters (λ text. route.SetMetadata text) (Err e) (Err e) (λ p. refl) (λ p. (refl, p, refl, refl)) refl stands decodes refl) stands c.in_err-one_text-in-SetMetadata.ensures)

pub returns-in_ok-one_text-in-SetMetadata : goal.returns-in_ok-one_text-in-SetMetadata
returns-in_ok-one_text-in-SetMetadata c parameters stands =
    let text = c.in_ok-one_text-in-SetMetadata.field-0 in
    let P : Kind → Type 0 = λ k. Stands k c.args.path.now parameters → ((p : Parameter) → Stands k c.args.path.now (p ∷ []) → Decodes p (Ok text)) → DecodesRoute c.args.target.now k parameters (Ok (route.SetMetadata text)) in
    subst P (sym c.in-SetMetadata.is) (λ stands decodes. one-route c.args.target.now c.args.path.now kind.SetMetadata parameters (λ text. route.SetMetadata text) (Ok text) (Ok (route.SetMetadata text)) (λ p. refl) (λ p. (refl, p, refl, refl)) refl stands decodes refl) stands c.in_ok-one_text-in-SetMetadata.ensures

pub returns-in_err-store-in-Get : goal.returns-in_err-store-in-Get
returns-in_err-store-in-Get c parameters stands =
    let e = c.in_err-store-in-Get.field-0.0 in
    let p = err_from_is_err_and c.from_residual-in_err-store-in-Get.result c.from_residual-in_err-store-in-Get.ensures.1 in
    let P : Kind → Type 0 = λ k. Stands k c.args.path.now parameters → ((p q : Parameter) (others : List Parameter) → Stands k c.args.path.now (p ∷ q ∷ others) → DecodesTwo p q (Err e)) → DecodesRoute c.args.target.now k parameters (Err e) in
    rw (p.1, p.2) (subst P (sym c.in-Get.is) (λ stands decodes. two-route c.args.target.now c.args.path.now kind.Get parameters (λ texts. route.Get texts.0 texts.1) (Err e) (Err e) (λ p q. refl) (λ p q texts one another. (refl, p, q, refl, one, another)) refl stands (λ p q at. decodes p q [] at) refl) stands c.in_err-store-in-Get.ensures)

pub returns-in_ok-store-in-Get : goal.returns-in_ok-store-in-Get
returns-in_ok-store-in-Get c parameters stands =
    let first = c.in_ok-store-in-Get.store in
    let last = c.in_ok-store-in-Get.key in
    let P : Kind → Type 0 = λ k. Stands k c.args.path.now parameters → ((p q : Parameter) (others : List Parameter) → Stands k c.args.path.now (p ∷ q ∷ others) → DecodesTwo p q (Ok (first, last))) → DecodesRoute c.args.target.now k parameters (Ok (route.Get first last)) in
    subst P (sym c.in-Get.is) (λ stands decodes. two-route c.args.target.now c.args.path.now kind.Get parameters (λ texts. route.Get texts.0 texts.1) (Ok (first, last)) (Ok (route.Get first last)) (λ p q. refl) (λ p q texts one another. (refl, p, q, refl, one, another)) refl stands (λ p q at. decodes p q [] at) refl) stands c.in_ok-store-in-Get.ensures

pub returns-in_err-store-in-Delete : goal.returns-in_err-store-in-Delete
returns-in_err-store-in-Delete c parameters stands =
    let e = c.in_err-store-in-Delete.field-0.0 in
    let p = err_from_is_err_and c.from_residual-in_err-store-in-Delete.result c.from_residual-in_err-store-in-Delete.ensures.1 in
    let P : Kind → Type 0 = λ k. Stands k c.args.path.now parameters → ((p q : Parameter) (others : List Parameter) → Stands k c.args.path.now (p ∷ q ∷ others) → DecodesTwo p q (Err e)) → DecodesRoute c.args.target.now k parameters (Err e) in
    rw (p.1, p.2) (subst P (sym c.in-Delete.is) (λ stands decodes. two-route c.args.target.now c.args.path.now kind.Delete parameters (λ texts. route.Delete texts.0 texts.1) (Err e) (Err e) (λ p q. refl) (λ p q texts one another. (refl, p, q, refl, one, another)) refl stands (λ p q at. decodes p q [] at) refl) stands c.in_err-store-in-Delete.ensures)

pub returns-in_ok-store-in-Delete : goal.returns-in_ok-store-in-Delete
returns-in_ok-store-in-Delete c parameters stands =
    let first = c.in_ok-store-in-Delete.store in
    let last = c.in_ok-store-in-Delete.key in
    let P : Kind → Type 0 = λ k. Stands k c.args.path.now parameters → ((p q : Parameter) (others : List Parameter) → Stands k c.args.path.now (p ∷ q ∷ others) → DecodesTwo p q (Ok (first, last))) → DecodesRoute c.args.target.now k parameters (Ok (route.Delete first last)) in
    subst P (sym c.in-Delete.is) (λ stands decodes. two-route c.args.target.now c.args.path.now kind.Delete parameters (λ texts. route.Delete texts.0 texts.1) (Ok (first, last)) (Ok (route.Delete first last)) (λ p q. refl) (λ p q texts one another. (refl, p, q, refl, one, another)) refl stands (λ p q at. decodes p q [] at) refl) stands c.in_ok-store-in-Delete.ensures

pub returns-in_err-pubsub-in-Publish : goal.returns-in_err-pubsub-in-Publish
returns-in_err-pubsub-in-Publish c parameters stands =
    let e = c.in_err-pubsub-in-Publish.field-0.0 in
    let p = err_from_is_err_and c.from_residual-in_err-pubsub-in-Publish.result c.from_residual-in_err-pubsub-in-Publish.ensures.1 in
    let P : Kind → Type 0 = λ k. Stands k c.args.path.now parameters → ((p q : Parameter) (others : List Parameter) → Stands k c.args.path.now (p ∷ q ∷ others) → DecodesTwo p q (Err e)) → DecodesRoute c.args.target.now k parameters (Err e) in
    rw (p.1, p.2) (subst P (sym c.in-Publish.is) (λ stands decodes. two-route c.args.target.now c.args.path.now kind.Publish parameters (λ texts. route.Publish texts.0 texts.1) (Err e) (Err e) (λ p q. refl) (λ p q texts one another. (refl, p, q, refl, one, another)) refl stands (λ p q at. decodes p q [] at) refl) stands c.in_err-pubsub-in-Publish.ensures)

pub returns-in_ok-pubsub-in-Publish : goal.returns-in_ok-pubsub-in-Publish
returns-in_ok-pubsub-in-Publish c parameters stands =
    let first = c.in_ok-pubsub-in-Publish.pubsub in
    let last = c.in_ok-pubsub-in-Publish.topic in
    let P : Kind → Type 0 = λ k. Stands k c.args.path.now parameters → ((p q : Parameter) (others : List Parameter) → Stands k c.args.path.now (p ∷ q ∷ others) → DecodesTwo p q (Ok (first, last))) → DecodesRoute c.args.target.now k parameters (Ok (route.Publish first last)) in
    subst P (sym c.in-Publish.is) (λ stands decodes. two-route c.args.target.now c.args.path.now kind.Publish parameters (λ texts. route.Publish texts.0 texts.1) (Ok (first, last)) (Ok (route.Publish first last)) (λ p q. refl) (λ p q texts one another. (refl, p, q, refl, one, another)) refl stands (λ p q at. decodes p q [] at) refl) stands c.in_ok-pubsub-in-Publish.ensures

pub returns-in_err-actor-in-ActorCall : goal.returns-in_err-actor-in-ActorCall
returns-in_err-actor-in-ActorCall c parameters stands =
    let e = c.in_err-actor-in-ActorCall.field-0.0 in
    let p = err_from_is_err_and c.from_residual-in_err-actor-in-ActorCall.result c.from_residual-in_err-actor-in-ActorCall.ensures.1 in
    let P : Kind → Type 0 = λ k. Stands k c.args.path.now parameters → ((p q : Parameter) (others : List Parameter) → Stands k c.args.path.now (p ∷ q ∷ others) → DecodesTwo p q (Err e)) → DecodesRoute c.args.target.now k parameters (Err e) in
    rw (p.1, p.2) (subst P (sym c.in-ActorCall.is) (λ stands decodes. call-route c.args.target.now c.args.path.now parameters (Err e) (Err e) stands decodes refl) stands c.in_err-actor-in-ActorCall.ensures)

pub returns-in_ok-actor-in-ActorCall : goal.returns-in_ok-actor-in-ActorCall
returns-in_ok-actor-in-ActorCall c parameters stands =
    let first = c.in_ok-actor-in-ActorCall.actor in
    let last = c.in_ok-actor-in-ActorCall.id in
    let P : Kind → Type 0 = λ k. Stands k c.args.path.now parameters → ((p q : Parameter) (others : List Parameter) → Stands k c.args.path.now (p ∷ q ∷ others) → DecodesTwo p q (Ok (first, last))) → DecodesRoute c.args.target.now k parameters (Ok (route.ActorCall first last)) in
    subst P (sym c.in-ActorCall.is) (λ stands decodes. call-route c.args.target.now c.args.path.now parameters (Ok (first, last)) (Ok (route.ActorCall first last)) stands decodes refl) stands c.in_ok-actor-in-ActorCall.ensures

pub three_texts-requires-clause-last : goal.three_texts-requires-clause-last
three_texts-requires-clause-last c =
    let path = c.args.path.now in
    subst (λ (k : Kind). HasNth 0 (parts_of k) path 2) (sym c.in-ActorGet.is) (third-there kind.ActorGet path c.requires.stands.0 refl (subst (λ (k : Kind). Stands k path c.requires.stands.0) c.in-ActorGet.is c.requires.stands.1))

pub returns-in_err-actor-in-ActorGet : goal.returns-in_err-actor-in-ActorGet
returns-in_err-actor-in-ActorGet c parameters stands =
    let e = c.in_err-actor-in-ActorGet.field-0.0 in
    let p = err_from_is_err_and c.from_residual-in_err-actor-in-ActorGet.result c.from_residual-in_err-actor-in-ActorGet.ensures.1 in
    let P : Kind → Type 0 = λ k. Stands k c.args.path.now parameters → ((p q r : Parameter) → Stands k c.args.path.now (p ∷ q ∷ r ∷ []) → DecodesThree p q r (Err e)) → DecodesRoute c.args.target.now k parameters (Err e) in
    rw (p.1, p.2) (subst P (sym c.in-ActorGet.is) (λ stands decodes. three-route c.args.target.now c.args.path.now parameters (Err e) (Err e) stands decodes refl) stands c.in_err-actor-in-ActorGet.ensures)

pub returns-in_ok-actor-in-ActorGet : goal.returns-in_ok-actor-in-ActorGet
returns-in_ok-actor-in-ActorGet c parameters stands =
    let first = c.in_ok-actor-in-ActorGet.actor in
    let next = c.in_ok-actor-in-ActorGet.id in
    let last = c.in_ok-actor-in-ActorGet.key in
    let P : Kind → Type 0 = λ k. Stands k c.args.path.now parameters → ((p q r : Parameter) → Stands k c.args.path.now (p ∷ q ∷ r ∷ []) → DecodesThree p q r (Ok (first, next, last))) → DecodesRoute c.args.target.now k parameters (Ok (route.ActorGet first next last)) in
    subst P (sym c.in-ActorGet.is) (λ stands decodes. three-route c.args.target.now c.args.path.now parameters (Ok (first, next, last)) (Ok (route.ActorGet first next last)) stands decodes refl) stands c.in_ok-actor-in-ActorGet.ensures

pub returns-in_err-actor-in-ActorChange : goal.returns-in_err-actor-in-ActorChange
returns-in_err-actor-in-ActorChange c parameters stands =
    let e = c.in_err-actor-in-ActorChange.field-0.0 in
    let p = err_from_is_err_and c.from_residual-in_err-actor-in-ActorChange.result c.from_residual-in_err-actor-in-ActorChange.ensures.1 in
    let P : Kind → Type 0 = λ k. Stands k c.args.path.now parameters → ((p q : Parameter) (others : List Parameter) → Stands k c.args.path.now (p ∷ q ∷ others) → DecodesTwo p q (Err e)) → DecodesRoute c.args.target.now k parameters (Err e) in
    rw (p.1, p.2) (subst P (sym c.in-ActorChange.is) (λ stands decodes. two-route c.args.target.now c.args.path.now kind.ActorChange parameters (λ texts. route.ActorChange texts.0 texts.1) (Err e) (Err e) (λ p q. refl) (λ p q texts one another. (refl, p, q, refl, one, another)) refl stands (λ p q at. decodes p q [] at) refl) stands c.in_err-actor-in-ActorChange.ensures)

pub returns-in_ok-actor-in-ActorChange : goal.returns-in_ok-actor-in-ActorChange
returns-in_ok-actor-in-ActorChange c parameters stands =
    let first = c.in_ok-actor-in-ActorChange.actor in
    let last = c.in_ok-actor-in-ActorChange.id in
    let P : Kind → Type 0 = λ k. Stands k c.args.path.now parameters → ((p q : Parameter) (others : List Parameter) → Stands k c.args.path.now (p ∷ q ∷ others) → DecodesTwo p q (Ok (first, last))) → DecodesRoute c.args.target.now k parameters (Ok (route.ActorChange first last)) in
    subst P (sym c.in-ActorChange.is) (λ stands decodes. two-route c.args.target.now c.args.path.now kind.ActorChange parameters (λ texts. route.ActorChange texts.0 texts.1) (Ok (first, last)) (Ok (route.ActorChange first last)) (λ p q. refl) (λ p q texts one another. (refl, p, q, refl, one, another)) refl stands (λ p q at. decodes p q [] at) refl) stands c.in_ok-actor-in-ActorChange.ensures

pub returns-in_err-app-in-Invoke : goal.returns-in_err-app-in-Invoke
returns-in_err-app-in-Invoke c parameters stands =
    let e = c.in_err-app-in-Invoke.field-0.0 in
    let p = err_from_is_err_and c.from_residual-in_err-app-in-Invoke.result c.from_residual-in_err-app-in-Invoke.ensures.1 in
    let P : Kind → Type 0 = λ k. Stands k c.args.path.now parameters → ((p q : Parameter) → Stands k c.args.path.now (p ∷ q ∷ []) → DecodesInvoked c.args.target.now p q (Err e)) → DecodesRoute c.args.target.now k parameters (Err e) in
    rw (p.1, p.2) (subst P (sym c.in-Invoke.is) (λ stands decodes. invoke-route c.args.target.now c.args.path.now parameters (Err e) (Err e) stands decodes refl) stands c.in_err-app-in-Invoke.ensures)

pub returns-in_ok-app-in-Invoke : goal.returns-in_ok-app-in-Invoke
returns-in_ok-app-in-Invoke c parameters stands =
    let app = c.in_ok-app-in-Invoke.app in
    let rest = c.in_ok-app-in-Invoke.rest in
    let P : Kind → Type 0 = λ k. Stands k c.args.path.now parameters → ((p q : Parameter) → Stands k c.args.path.now (p ∷ q ∷ []) → DecodesInvoked c.args.target.now p q (Ok (app, rest))) → DecodesRoute c.args.target.now k parameters (Ok (route.Invoke app rest)) in
    subst P (sym c.in-Invoke.is) (λ stands decodes. invoke-route c.args.target.now c.args.path.now parameters (Ok (app, rest)) (Ok (route.Invoke app rest)) stands decodes refl) stands c.in_ok-app-in-Invoke.ensures
