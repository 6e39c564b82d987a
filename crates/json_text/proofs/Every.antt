-- Facts of all values that are kept.
use Rattle.std.proofs.Common.{ℕ, zero, suc, ◌<◌, List, [], ◌∷◌, ◌++◌, length, get_or, arith}
use Rattle.json_text.specs.declared.spot.Spot.{Spot}
use Rattle.json_text.specs.declared.spot.Entry.{Entry}
use Rattle.json_text.specs.Forest.{Forest, empty, grows}
use Rattle.json_text.specs.Reading.{entries}

-- a fact of all values at any depth
abbrev pub Every : (Spot → Type 0) → Forest → Type 0
Every P empty = Unit {0}
Every P (grows spot children later) = P spot × Every P children × Every P later

abbrev AllKept : (Spot → Type 0) → List Entry → Type 0
AllKept P [] = Unit {0}
AllKept P (e ∷ es) = P e.spot × AllKept P es

kept_append : (P : Spot → Type 0) (xs ys : List Entry) → AllKept P xs → AllKept P ys → AllKept P (xs ++ ys)
kept_append P [] ys hx hy = hy
kept_append P (x ∷ xs) ys hx hy = (hx.0, kept_append P xs ys hx.1 hy)

kept : (P : Spot → Type 0) (depth : ℕ) (values : Forest) → Every P values → AllKept P (entries depth values)
unfolding entries
kept P depth empty h = tt
kept P depth (grows s children later) h = (h.0, kept_append P (entries (suc depth) children) (entries depth later) (kept P (suc depth) children h.1) (kept P depth later h.2))

kept_at : (P : Spot → Type 0) (xs : List Entry) (k : ℕ) (e : Entry) → k < length xs → AllKept P xs → P (get_or xs k e).spot
kept_at P [] k e lt h = absurd (omega (arith, lt))
kept_at P (x ∷ xs) zero e lt h = h.0
kept_at P (x ∷ xs) (suc k) e lt h = kept_at P xs k e (omega (arith, lt)) h.1

-- is one of each that is kept
pub every_kept : (P : Spot → Type 0) (depth : ℕ) (values : Forest) → Every P values → (k : ℕ) (e : Entry) → k < length (entries depth values) → P (get_or (entries depth values) k e).spot
every_kept P depth values h k e lt = kept_at P (entries depth values) k e lt (kept P depth values h)
