-- Whole streams: a text is one, in one way.
use Rattle.std.proofs.Common.{◌≡◌, ℕ, zero, suc, ◌<◌, List, [], ◌∷◌, ◌++◌, length, ◌⊎◌, inl, inr, refl, sym, ap, ◌∙◌, subst, arith, append-nil}
use Rattle.http_frames.specs.Requests.{ReadsWhole, HasNoWhole}
use Rattle.http_frames.specs.Streams.{Whole, Begins, IsStream}
use Rattle.http_frames.proofs.WholeLemmas.{whole_unique, whole_more, whole_shorter}

-- one more whole request behind the others
pub begins_more : (text : List ℕ) (wholes : List Whole) (mid : List ℕ) (whole : Whole) (rest : List ℕ) → Begins text wholes mid
    → ReadsWhole mid whole.head whole.body rest → Begins text (wholes ++ whole ∷ []) rest
begins_more text [] mid whole rest is reads =
    let P : List ℕ → Type 0 = λ t. ReadsWhole t whole.head whole.body rest in
    (rest, subst P (sym is) reads, refl)
begins_more text (w ∷ wholes) mid whole rest is reads = (is.0, is.1, begins_more is.0 wholes mid whole rest is.2 reads)

-- bytes that follow are left
pub begins_on : (text : List ℕ) (wholes : List Whole) (rest more : List ℕ) → Begins text wholes rest → Begins (text ++ more) wholes (rest ++ more)
begins_on text [] rest more is = ap (λ (t : List ℕ). t ++ more) is
begins_on text (w ∷ wholes) rest more is =
    (is.0 ++ more, whole_more text more w.head w.body is.0 is.1, begins_on is.0 wholes rest more is.2)

-- of two lists of whole requests that begin a text one begins the other
pub record Goes (wholes vs : List Whole) (rest last : List ℕ) : Type 0 where
  pub others : List Whole
  pub is : vs ≡ wholes ++ others
  pub begins : Begins rest others last

goes_under : (w v : Whole) (wholes vs : List Whole) (rest last : List ℕ) → w ≡ v → Goes wholes vs rest last → Goes (w ∷ wholes) (v ∷ vs) rest last
goes_under w v wholes vs rest last same goes =
    record { others = goes.others; is = λ i. sym same i ∷ goes.is i; begins = goes.begins }

pub meet : (text : List ℕ) (wholes vs : List Whole) (rest last : List ℕ) → Begins text wholes rest → Begins text vs last
    → Goes wholes vs rest last ⊎ Goes vs wholes last rest
meet text [] vs rest last is it =
    let P : List ℕ → Type 0 = λ t. Begins t vs last in
    inl (record { others = vs; is = refl; begins = subst P is it })
meet text (w ∷ wholes) [] rest last is it =
    let P : List ℕ → Type 0 = λ t. Begins t (w ∷ wholes) rest in
    inr (record { others = w ∷ wholes; is = refl; begins = subst P it is })
meet text (w ∷ wholes) (v ∷ vs) rest last is it =
    let same = whole_unique text w.head v.head w.body v.body is.0 it.0 is.1 it.1 in
    let firsts : w ≡ v = λ i. record { head = same.0 i; body = same.1 i } in
    let P : List ℕ → Type 0 = λ t. Begins t vs last in
    elim (meet is.0 wholes vs rest last is.2 (subst P (sym same.2) it.2)) [
      | inl goes ↦ inl (goes_under w v wholes vs rest last firsts goes)
      | inr goes ↦ inr (goes_under v w vs wholes last rest (sym firsts) goes)
    ]

-- where no whole request begins the rest, none follows
pub ends_there : (rest : List ℕ) (others : List Whole) (last : List ℕ) → HasNoWhole rest → Begins rest others last → (others ≡ []) × (rest ≡ last)
ends_there rest [] last none begins = (refl, begins)
ends_there rest (w ∷ others) last none begins = absurd (none w.head w.body begins.0 begins.1)

pub stream_unique : (text : List ℕ) (one other : List Whole) (rest last : List ℕ) → IsStream text one rest → IsStream text other last
    → (one ≡ other) × (rest ≡ last)
stream_unique text one other rest last is it = elim (meet text one other rest last is.begins it.begins) [
  | inl goes ↦
      let ends = ends_there rest goes.others last is.none goes.begins in
      (sym (append-nil one) ∙ ap (λ (t : List Whole). one ++ t) (sym ends.0) ∙ sym goes.is, ends.1)
  | inr goes ↦
      let ends = ends_there last goes.others rest it.none goes.begins in
      (goes.is ∙ ap (λ (t : List Whole). other ++ t) ends.0 ∙ append-nil other, sym ends.1)
]

-- no text is without
exists_within : (n : ℕ) (text : List ℕ) → length text < n → ((wholes : List Whole) (rest : List ℕ) → ¬ (IsStream text wholes rest)) → ⊥
exists_within zero text few none = omega arith
exists_within (suc n) text few none =
    none [] text (record {
      begins = refl;
      none = λ head body rest whole.
          exists_within n rest (omega (arith, whole_shorter text head body rest whole))
          (λ wholes last is. none (record { head = head; body = body } ∷ wholes) last
          (record { begins = (rest, whole, is.begins); none = is.none }));
    })

pub stream_exists : (text : List ℕ) → ((wholes : List Whole) (rest : List ℕ) → ¬ (IsStream text wholes rest)) → ⊥
stream_exists text none = let few : length text < suc (length text) = omega arith in exists_within (suc (length text)) text few none
