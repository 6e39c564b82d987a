-- What `src/target` computes, for the clauses of its private functions.
use Rattle.std.specs.Prelude.{ℕ, List, [], ◌∷◌, drop, Bool, ◌&&◌, ◌==◌, false, nat_lt, if◌then◌else◌}
use Rattle.std.specs.List.{prefix_len, list_all}
use Rattle.httparse.specs.Grammar.{is_token_byte, is_uri_byte}

-- what follows the empty lines at the front
unfoldable pub after_blank : List ℕ → List ℕ
after_blank [] = []
after_blank (b ∷ []) = if b == 10 then [] else b ∷ []
after_blank (b ∷ c ∷ bytes) =
    if b == 10 then after_blank (c ∷ bytes) else (if b == 13 && c == 10 then after_blank bytes else b ∷ c ∷ bytes)

-- a space, and bytes of a target up to the end
unfoldable pub is_target_open : List ℕ → Bool
is_target_open [] = false
is_target_open (b ∷ bytes) = b == 32 && list_all is_uri_byte bytes

-- the length of the token at the front
abbrev pub token_len : List ℕ → ℕ
token_len bytes = prefix_len is_token_byte bytes

unfoldable pub ends_in_target : List ℕ → Bool
ends_in_target text =
    nat_lt 0 (token_len (after_blank text)) && is_target_open (drop (token_len (after_blank text)) (after_blank text))
