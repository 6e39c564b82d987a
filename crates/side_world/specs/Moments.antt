-- Moments and pauses of a clock, and words of a stream of numbers.
use Rattle.std.specs.Prelude.{◌≡◌, ◌≤◌, ◌<◌, ◌+◌, ◌-◌, ◌^◌, ℕ, List, [], ◌∷◌}

-- moments that rise, the first not before `first` and the last not after `last`; where there is none, `last` is not before `first`
abbrev pub Between : ℕ → List ℕ → ℕ → Type 0
Between first [] last = first ≤ last
Between first (moment ∷ moments) last = (first ≤ moment) × Between moment moments last

-- a sum that stops at 2^64 - 1 has risen by n
abbrev pub Rises : ℕ → ℕ → ℕ → Type 0
Rises before n after = (before ≤ after) × (after ≤ before + n) × (after < 2 ^ 64 - 1 → after ≡ before + n)

-- these words are the next ones of a stream, where `next` gives a word and the stream behind it
abbrev pub Drawn : {S : Type 0} → (S → ℕ × S) → S → List ℕ → S → Type 0
Drawn next stream [] after = after ≡ stream
Drawn next stream (word ∷ words) after = (word ≡ (next stream).0) × Drawn next (next stream).1 words after
