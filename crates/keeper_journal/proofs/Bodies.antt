-- What is read is spelled so, and what is spelled so is read.
use Rattle.std.proofs.Common.{◌≡◌, ℕ, zero, suc, ◌^◌, Bool, true, false, cond, eqb, List, [], ◌∷◌, ◌++◌, length, Option, Some, None, Result, Ok, Err, refl, sym, ap, subst, ◌∙◌, append_assoc, arith}
use Rattle.std.specs.Prelude.{IfOk}
use Rattle.std.specs.List.{flat_map, AllByRecursion}
use Rattle.std.specs.Int.{w32, w64, to_le_bytes}
use Rattle.std.proofs.lemmas.Bool.{eqb-true}
use Rattle.std.proofs.lemmas.List.{append-nil, nil_from_length}
use Rattle.std.proofs.lemmas.List.Concat.{flat_map-cons}
use Rattle.keeper_core.specs.declared.changes.Change.{Change}
use Rattle.keeper_core.specs.declared.changes.Change.TheVariants.{Put, Remove}
use Rattle.keeper_core.specs.declared.changes.Changes.{Changes}
use Rattle.keeper_journal.specs.declared.decoding.BodyErr.{BodyErr}
use Rattle.keeper_journal.specs.Body.{sized, spelled, body_of, HasSpelling, IsBodyOf}
use Rattle.keeper_journal.specs.Reading.{◌>>=◌, Gives, number_at, sized_at, put_at, remove_at, change_at, changes_at, body_at}
use Rattle.keeper_journal.proofs.Fields.{IsBytes, IsBytes-rest, bind_some, some_is, Takes, Takes-then, wide32, wide64, number_takes, number_again, sized_takes, sized_again}

guard_ended : {A : Type 0} (b : Bool) (x y : A) → cond b (Some x) None ≡ Some y → (b ≡ true) × (x ≡ y)
guard_ended true x y e = (refl, cc)
guard_ended false x y e = absurd cc

-- a change that was read behind its first byte
abbrev TakesChange : List ℕ → Change × List ℕ → Type 0
TakesChange bytes x = Takes bytes (spelled x.0) x.1 × HasSpelling x.0

consed : (b : ℕ) (bytes text rest : List ℕ) → Takes bytes text rest → Takes (b ∷ bytes) (b ∷ text) rest
consed b bytes text rest t = record { parts = ap (λ (w : List ℕ). b ∷ w) t.parts; rest_fits = t.rest_fits }

put_takes : (bytes : List ℕ) (x : Change × List ℕ) → IsBytes bytes → put_at bytes ≡ Some x → TakesChange (1 ∷ bytes) x
unfolding put_at
put_takes bytes x fits e =
    let a = bind_some (sized_at bytes) (λ key. number_at w64 key.1 >>= λ version. number_at w64 version.1 >>= λ until. sized_at until.1 >>= λ value. Some (Put key.0 value.0 version.0 until.0, value.1)) x e in
    let b = bind_some (number_at w64 a.0.1) (λ version. number_at w64 version.1 >>= λ until. sized_at until.1 >>= λ value. Some (Put a.0.0 value.0 version.0 until.0, value.1)) x a.2 in
    let d = bind_some (number_at w64 b.0.1) (λ until. sized_at until.1 >>= λ value. Some (Put a.0.0 value.0 b.0.0 until.0, value.1)) x b.2 in
    let f = bind_some (sized_at d.0.1) (λ value. Some (Put a.0.0 value.0 b.0.0 d.0.0, value.1)) x d.2 in
    let t0 = sized_takes bytes a.0.0 a.0.1 fits a.1 in
    let t1 = number_takes w64 (2 ^ 64) wide64 a.0.1 b.0.0 b.0.1 t0.0.rest_fits b.1 in
    let t2 = number_takes w64 (2 ^ 64) wide64 b.0.1 d.0.0 d.0.1 t1.0.rest_fits d.1 in
    let t3 = sized_takes d.0.1 f.0.0 f.0.1 t2.0.rest_fits f.1 in
    let e23 = Takes-then b.0.1 (to_le_bytes w64 d.0.0) d.0.1 (sized f.0.0) f.0.1 t2.0 t3.0 in
    let e13 = Takes-then a.0.1 (to_le_bytes w64 b.0.0) b.0.1 (to_le_bytes w64 d.0.0 ++ sized f.0.0) f.0.1 t1.0 e23 in
    let e03 = Takes-then bytes (sized a.0.0) a.0.1 (to_le_bytes w64 b.0.0 ++ (to_le_bytes w64 d.0.0 ++ sized f.0.0)) f.0.1 t0.0 e13 in
    let made : Change × List ℕ = (Put a.0.0 f.0.0 b.0.0 d.0.0, f.0.1) in
    subst (TakesChange (1 ∷ bytes)) {x = made} (some_is made x f.2) (consed 1 bytes (sized a.0.0 ++ (to_le_bytes w64 b.0.0 ++ (to_le_bytes w64 d.0.0 ++ sized f.0.0))) f.0.1 e03, (t0.1, t1.1, t2.1, t3.1))

remove_takes : (bytes : List ℕ) (x : Change × List ℕ) → IsBytes bytes → remove_at bytes ≡ Some x → TakesChange (2 ∷ bytes) x
unfolding remove_at
remove_takes bytes x fits e =
    let a = bind_some (sized_at bytes) (λ key. Some (Remove key.0, key.1)) x e in
    let t0 = sized_takes bytes a.0.0 a.0.1 fits a.1 in
    let made : Change × List ℕ = (Remove a.0.0, a.0.1) in
    subst (TakesChange (2 ∷ bytes)) (some_is made x a.2) (consed 2 bytes _ a.0.1 t0.0, t0.1)

change_takes : (bytes : List ℕ) (x : Change × List ℕ) → IsBytes bytes → change_at bytes ≡ Some x → TakesChange bytes x
unfolding change_at
change_takes [] x fits e = absurd cc
change_takes (zero ∷ bytes) x fits e = absurd cc
change_takes (suc zero ∷ bytes) x fits e = put_takes bytes x (IsBytes-rest 1 bytes fits) e
change_takes (suc (suc zero) ∷ bytes) x fits e = remove_takes bytes x (IsBytes-rest 2 bytes fits) e
change_takes (suc (suc (suc b)) ∷ bytes) x fits e = absurd cc

change_again : (change : Change) (rest : List ℕ) → HasSpelling change → change_at (spelled change ++ rest) ≡ Some (change, rest)
unfolding change_at put_at remove_at
change_again (Put key value version until) rest fits =
    let regrouped : (sized key ++ (to_le_bytes w64 version ++ (to_le_bytes w64 until ++ sized value))) ++ rest ≡ sized key ++ (to_le_bytes w64 version ++ (to_le_bytes w64 until ++ (sized value ++ rest))) =
    append_assoc (sized key) (to_le_bytes w64 version ++ (to_le_bytes w64 until ++ sized value)) rest
    ∙ ap (λ (x : List ℕ). sized key ++ x) (append_assoc (to_le_bytes w64 version) (to_le_bytes w64 until ++ sized value) rest ∙ ap (λ (x : List ℕ). to_le_bytes w64 version ++ x) (append_assoc (to_le_bytes w64 until) (sized value) rest)) in
    ap put_at regrouped ∙ rw (sized_again key (to_le_bytes w64 version ++ (to_le_bytes w64 until ++ (sized value ++ rest))) fits.0, number_again w64 (2 ^ 64) wide64 version (to_le_bytes w64 until ++ (sized value ++ rest)) fits.1, number_again w64 (2 ^ 64) wide64 until (sized value ++ rest) fits.2, sized_again value rest fits.3) refl
change_again (Remove key) rest fits = rw (sized_again key rest fits) refl

changes_take : (n : ℕ) (bytes : List ℕ) (x : List Change × List ℕ) → IsBytes bytes → changes_at n bytes ≡ Some x → Takes bytes (flat_map spelled x.0) x.1 × (length x.0 ≡ n) × AllByRecursion HasSpelling x.0
unfolding changes_at
changes_take zero bytes x fits e =
    subst (λ (y : List Change × List ℕ). Takes bytes (flat_map spelled y.0) y.1 × (length y.0 ≡ 0) × AllByRecursion HasSpelling y.0) (some_is ([], bytes) x e) (record { parts = refl; rest_fits = fits }, refl, tt)
changes_take (suc n) bytes x fits e =
    let a = bind_some (change_at bytes) (λ first. changes_at n first.1 >>= λ others. Some (first.0 ∷ others.0, others.1)) x e in
    let b = bind_some (changes_at n a.0.1) (λ others. Some (a.0.0 ∷ others.0, others.1)) x a.2 in
    let first = change_takes bytes a.0 fits a.1 in
    let second = changes_take n a.0.1 b.0 first.0.rest_fits b.1 in
    let both = Takes-then bytes (spelled a.0.0) a.0.1 (flat_map spelled b.0.0) b.0.1 first.0 second.0 in
    let made : List Change × List ℕ = (a.0.0 ∷ b.0.0, b.0.1) in
    subst (λ (y : List Change × List ℕ). Takes bytes (flat_map spelled y.0) y.1 × (length y.0 ≡ suc n) × AllByRecursion HasSpelling y.0) (some_is made x b.2) (rw flat_map-cons both, ap suc second.1, (first.1, second.2))

changes_again : (list : List Change) (rest : List ℕ) → AllByRecursion HasSpelling list → changes_at (length list) (flat_map spelled list ++ rest) ≡ Some (list, rest)
unfolding changes_at
changes_again [] rest fits = refl
changes_again (change ∷ list) rest fits =
    let regrouped : flat_map spelled (change ∷ list) ++ rest ≡ spelled change ++ (flat_map spelled list ++ rest) = ap (λ (x : List ℕ). x ++ rest) (flat_map-cons spelled change list) ∙ append_assoc (spelled change) (flat_map spelled list) rest in
    ap (changes_at (suc (length list))) regrouped ∙ rw (change_again change (flat_map spelled list ++ rest) fits.0, changes_again list rest fits.1) refl

abbrev ended : ℕ → List Change × List ℕ → Option Changes
ended next x = cond (eqb (length x.1) 0) (Some (record { list = x.0; next = next })) None

pub body_takes : (bytes : List ℕ) (changes : Changes) → IsBytes bytes → body_at bytes ≡ Some changes → IsBodyOf bytes changes
unfolding body_at
body_takes bytes changes fits e =
    let a = bind_some (number_at w64 bytes) (λ next. number_at w32 next.1 >>= λ count. changes_at count.0 count.1 >>= ended next.0) changes e in
    let b = bind_some (number_at w32 a.0.1) (λ count. changes_at count.0 count.1 >>= ended a.0.0) changes a.2 in
    let d = bind_some (changes_at b.0.0 b.0.1) (ended a.0.0) changes b.2 in
    let made : Changes = record { list = d.0.0; next = a.0.0 } in
    let g = guard_ended (eqb (length d.0.1) 0) made changes d.2 in
    let t0 = number_takes w64 (2 ^ 64) wide64 bytes a.0.0 a.0.1 fits a.1 in
    let t1 = number_takes w32 (2 ^ 32) wide32 a.0.1 b.0.0 b.0.1 t0.0.rest_fits b.1 in
    let t2 = changes_take b.0.0 b.0.1 d.0 t1.0.rest_fits d.1 in
    let nothing : d.0.1 ≡ [] = nil_from_length d.0.1 (eqb-true _ _ g.0) in
    let e12 = Takes-then a.0.1 (to_le_bytes w32 b.0.0) b.0.1 (flat_map spelled d.0.0) d.0.1 t1.0 t2.0 in
    let both = (Takes-then bytes (to_le_bytes w64 a.0.0) a.0.1 (to_le_bytes w32 b.0.0 ++ flat_map spelled d.0.0) d.0.1 t0.0 e12).parts in
    let text : List ℕ = to_le_bytes w64 a.0.0 ++ (to_le_bytes w32 b.0.0 ++ flat_map spelled d.0.0) in
    let whole : bytes ≡ body_of made = both ∙ ap (λ (r : List ℕ). text ++ r) nothing ∙ append-nil text ∙ ap (λ (k : ℕ). to_le_bytes w64 a.0.0 ++ (to_le_bytes w32 k ++ flat_map spelled d.0.0)) (sym t2.1) in
    subst (IsBodyOf bytes) g.1 (record { spelling = whole; next = t0.1; count = omega (arith, t2.1, t1.1); each = t2.2 })

pub body_again : (bytes : List ℕ) (changes : Changes) → IsBodyOf bytes changes → body_at bytes ≡ Some changes
unfolding body_at
body_again bytes changes is =
    let rest : changes_at (length changes.list) (flat_map spelled changes.list) ≡ Some (changes.list, []) = ap (changes_at (length changes.list)) (sym (append-nil (flat_map spelled changes.list))) ∙ changes_again changes.list [] is.each in
    ap body_at is.spelling ∙ rw (number_again w64 (2 ^ 64) wide64 changes.next (to_le_bytes w32 (length changes.list) ++ flat_map spelled changes.list) is.next, number_again w32 (2 ^ 32) wide32 (length changes.list) (flat_map spelled changes.list) is.count, rest) refl

pub is_found : (bytes : List ℕ) (r : Result Changes BodyErr) → IsBytes bytes → Gives (λ changes. changes) r (body_at bytes) → IfOk r (λ changes. IsBodyOf bytes changes)
is_found bytes (Ok changes) fits given = body_takes bytes changes fits given
is_found bytes (Err e) fits given = tt

-- bytes are the body of at most one list of changes
pub same_body : (bytes : List ℕ) (a b : Changes) → IsBodyOf bytes a → IsBodyOf bytes b → a ≡ b
same_body bytes a b p q = some_is a b (sym (body_again bytes a p) ∙ body_again bytes b q)
