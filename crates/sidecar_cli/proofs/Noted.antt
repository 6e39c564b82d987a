-- Parts of a text, and texts, that are written one after the other.
use Rattle.std.specs.Prelude.{◌≡◌, ◌≤◌, ◌<◌, ◌-◌, ◌^◌, ◌⊎◌, ℕ, List, [], ◌∷◌, ◌++◌, Result, Ok, Err, OnErr, OnOk, refl}
use Rattle.std.specs.List.{flat_map}
use Rattle.std.proofs.Common.{◌∙◌, ap, sym, subst, inl, inr, arith}
use Rattle.side_world.specs.Faults.{Rose}
use Rattle.side_world.specs.Told.{Told}
use Rattle.side_world.proofs.Composed.{sent_after, sent_before, told_nothing, told_on}
use Rattle.conn_serve.specs.Ends.{Cut, Sent, SinkAt}
use Rattle.sidecar_cli.specs.Note.{AreNoted, IsNoted}

module _ {first second : List ℕ} {a b c : SinkAt} where
  pub two_sent : Sent first a b → Sent second b c → Sent (first ++ second) a c
  two_sent one two = record { told = told_on a.contents b.contents c.contents first second one.told two.told; no_fault = two.no_fault ∙ one.no_fault }

  pub cut_late : Sent first a b → Cut second b c → Cut (first ++ second) a c
  cut_late one two = record { front = sent_after a.contents b.contents c.contents first second one.told two.front; failed = subst (λ (n : ℕ). Rose n c.faults) one.no_fault two.failed }

pub cut_early : {first : List ℕ} (second : List ℕ) {a b : SinkAt} → Cut first a b → Cut (first ++ second) a b
cut_early {first} second {a} {b} one = record { front = sent_before a.contents b.contents first second one.front; failed = one.failed }

-- what was sent by its name
pub sent_as : {first text : List ℕ} {a b : SinkAt} → first ≡ text → Sent first a b → Sent text a b
sent_as {a = a} {b = b} same one = subst (λ t. Sent t a b) same one

pub cut_as : {first text : List ℕ} {a b : SinkAt} → first ≡ text → Cut first a b → Cut text a b
cut_as {a = a} {b = b} same one = subst (λ t. Cut t a b) same one

-- what holds, holds where an error comes; and what follows from what holds there or elsewhere
pub on_err : {A E P : Type 0} (result : Result A E) → P → OnErr result P
on_err (Ok a) holds = tt
on_err (Err e) holds = holds

pub then_err : {A E P Q : Type 0} (result : Result A E) → (P → Q) → OnErr result P → OnErr result Q
then_err (Ok a) follows holds = tt
then_err (Err e) follows holds = follows holds

pub then_ok : {A E P Q : Type 0} (result : Result A E) → (P → Q) → OnOk result P → OnOk result Q
then_ok (Ok a) follows holds = follows holds
then_ok (Err e) follows holds = tt

pub noted_nothing : (a : SinkAt) → IsNoted a a []
noted_nothing a = record { went = inl (record { told = told_nothing a.contents; no_fault = refl }); no_fewer = omega arith }

-- one more text
pub noted_more : (a b c : SinkAt) (texts : List (List ℕ)) (text : List ℕ) → AreNoted a b texts → IsNoted b c text → AreNoted a c (texts ++ text ∷ [])
noted_more a b c [] text same one = (c, subst (λ z. IsNoted z c text) same one, refl)
noted_more a b c (first ∷ texts) text many one = (many.0, many.1, noted_more many.0 b c texts text many.2 one)

noted_rises : (a c : SinkAt) (texts : List (List ℕ)) → AreNoted a c texts → a.faults ≤ c.faults
noted_rises a c [] same = let faults = ap (λ (z : SinkAt). z.faults) same in omega (arith, faults)
noted_rises a c (text ∷ texts) noted = let first = noted.1.no_fewer in let later = noted_rises noted.0 c texts noted.2 in omega (arith, first, later)

-- where a text was written and no fault was counted, it is whole
whole_one : (a b : SinkAt) (text : List ℕ) → Sent text a b ⊎ Cut text a b → b.faults ≡ a.faults → a.faults < 2 ^ 64 - 1 → Sent text a b
whole_one a b text (inl sent) same low = sent
whole_one a b text (inr cut) same low = absurd (never cut.failed)
  where
    never : Rose a.faults b.faults → ⊥
    never (inl less) = omega (arith, less, same)
    never (inr top) = omega (arith, top, same, low)

pub whole_all : (a c : SinkAt) (texts : List (List ℕ)) → AreNoted a c texts → c.faults ≡ a.faults → a.faults < 2 ^ 64 - 1 → Told a.contents c.contents (flat_map (λ (text : List ℕ). text) texts)
whole_all a c [] same faults low = subst (λ (z : SinkAt). Told a.contents z.contents []) (sym same) (told_nothing a.contents)
whole_all a c (text ∷ texts) noted faults low =
    let between = noted.0 in
    let first = noted.1.no_fewer in
    let later = noted_rises between c texts noted.2 in
    let here : between.faults ≡ a.faults = omega (arith, first, later, faults) in
    let rest : c.faults ≡ between.faults = omega (arith, here, faults) in
    told_on a.contents between.contents c.contents text (flat_map (λ (t : List ℕ). t) texts) (whole_one a between text noted.1.went here low).told (whole_all between c texts noted.2 rest (omega (arith, here, low)))
