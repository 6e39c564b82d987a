-- What stands behind the first `?` of a target.
use Rattle.std.proofs.Common.{◌≡◌, ◌+◌, ◌<◌, ◌==◌, not, ℕ, Bool, true, false, cond, List, [], ◌∷◌, length, drop, refl, ap, ◌∙◌, arith, one-add}
use Rattle.std.specs.List.{prefix_len}
use Rattle.api_routes.specs.Path.{query_of}

abbrev pub path_len : List ℕ → ℕ
path_len target = prefix_len (λ byte. not (byte == 63)) target

behind-from : (byte : ℕ) (target : List ℕ) (b : Bool) → drop 1 (drop (path_len target) target) ≡ query_of target
    → drop 1 (drop (cond (not b) (1 + path_len target) 0) (byte ∷ target)) ≡ cond b target (query_of target)
behind-from byte target true rest = refl
behind-from byte target false rest = ap (λ (t : List ℕ). drop 1 t) step ∙ rest
  where
    step : drop (1 + path_len target) (byte ∷ target) ≡ drop (path_len target) target
    step = rw (one-add) refl

pub behind : (target : List ℕ) → drop 1 (drop (path_len target) target) ≡ query_of target
behind [] = refl
behind (byte ∷ target) = behind-from byte target (byte == 63) (behind target)

-- of the rest of a target behind its path
pub query-behind : (target rest : List ℕ) (len : ℕ) → rest ≡ drop len target → len ≡ path_len target → drop 1 rest ≡ query_of target
query-behind target rest len is len_is = ap (drop 1) (is ∙ ap (λ (n : ℕ). drop n target) len_is) ∙ behind target

pub no-query : (target rest : List ℕ) (len : ℕ) → rest ≡ drop len target → len ≡ path_len target → length rest < 1 → rest ≡ query_of target
no-query target [] len is len_is none = query-behind target [] len is len_is
no-query target (byte ∷ rest) len is len_is none = absurd (omega (arith, none))
