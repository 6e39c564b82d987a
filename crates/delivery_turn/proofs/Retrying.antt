-- The reply that asks for another attempt is judged as one, from its bytes.
use Rattle.std.proofs.Common.{◌≡◌, ◌≤◌, ℕ, zero, suc, ◌+◌, Bool, true, false, not, ◌&&◌, ◌||◌, List, [], ◌∷◌, Some, None, refl, sym, ap, ◌∙◌, arith, codes}
use Rattle.std.specs.Prelude.{◌==◌, slice_index}
use Rattle.json_text.specs.Kind.TheVariants as kinds
use Rattle.json_text.specs.declared.spot.Spot.{Spot}
use Rattle.json_text.specs.Forest.{Forest, empty, grows}
use Rattle.json_text.specs.Lexeme.{begins, ends, next, done, more, is_high_surrogate, is_low_surrogate}
use Rattle.json_text.specs.Grammar.{IsText, word, nested, member_name, turn, close, finish, closes, takes_name, takes_value, turns}
use Rattle.json_text.specs.Faults.{IsLoneAt, is_lone, is_low_escape, is_numbered, hex_at, unit_of}
use Rattle.json_text.specs.Shape.{nesting}
use Rattle.json_text.specs.Unescape.{unescaped_from}
use Rattle.json_text.proofs.Depths.{nothing_wrong}
use Rattle.cloud_events.specs.declared.outcome.Verdict.TheVariants.{Retry}
use Rattle.cloud_events.specs.Verdict.{by_reply}
use Rattle.cloud_events.specs.Wrapped.{IsRead}
use Rattle.delivery_turn.specs.Posting.{IsJudged, read}
use Rattle.delivery_turn.specs.Samples.{wants_again}

abbrev body : List ℕ
body = codes "{\"status\":\"RETRY\"}"

abbrev map_spot : Spot
map_spot = record { kind = kinds.Map; span = record { start = 0; end = 18 }; name = None }

abbrev status_spot : Spot
status_spot = record { kind = kinds.Text; span = record { start = 10; end = 17 }; name = Some (record { start = 1; end = 9 }) }

abbrev inside : Forest
inside = grows status_spot empty empty

is_text : IsText body (grows map_spot inside empty)
unfolding begins next ends takes_value takes_name turns closes
is_text = nested refl refl (member_name refl refl (more refl (more refl (more refl (more refl (more refl (more refl (more refl (done refl)))))))) (turn refl (word refl refl (more refl (more refl (more refl (more refl (more refl (more refl (done refl))))))) (close refl)))) (finish refl)

-- ---- no surrogate stands alone where there is no backslash

abbrev plain_bytes : List ℕ → Bool
plain_bytes [] = true
plain_bytes (b ∷ bs) = not (b == 92) && plain_bytes bs

both_of : (a b : Bool) → (not a && b) ≡ true → (a ≡ false) × (b ≡ true)
both_of false true h = (refl, refl)
both_of false false h = let bad : ⊥ = cc in absurd bad
both_of true b h = let bad : ⊥ = cc in absurd bad

no_backslash : (bytes : List ℕ) (at : ℕ) → plain_bytes bytes ≡ true → (slice_index bytes at == 92) ≡ false
no_backslash [] zero h = refl
no_backslash [] (suc at) h = refl
no_backslash (b ∷ bs) zero h = (both_of (b == 92) (plain_bytes bs) h).0
no_backslash (b ∷ bs) (suc at) h = no_backslash bs at (both_of (b == 92) (plain_bytes bs) h).1

not_numbered : (bytes : List ℕ) (at : ℕ) → (slice_index bytes at == 92) ≡ false → is_numbered bytes at ≡ false
unfolding is_numbered
not_numbered bytes at e = ap (λ b. b && slice_index bytes (at + 1) == 117 && hex_at bytes (at + 2) && hex_at bytes (at + 3) && hex_at bytes (at + 4) && hex_at bytes (at + 5)) e

pub none_alone : (bytes : List ℕ) (at : ℕ) → plain_bytes bytes ≡ true → ¬ IsLoneAt bytes at
none_alone bytes at h l =
    let numbered = not_numbered bytes at (no_backslash bytes at h) in
    let paired : is_lone l.0 bytes at ≡ false = ap (λ b. ((b && is_high_surrogate (unit_of bytes at)) && not (is_low_escape bytes (at + 6))) || ((b && is_low_surrogate (unit_of bytes at)) && not l.0)) numbered in
    let both : false ≡ true = sym paired ∙ l.2 in
    let bad : ⊥ = cc in
    bad

low : nesting (grows map_spot inside empty) ≤ 64
unfolding nesting
low = omega arith

is_read : IsRead body (grows map_spot inside empty)
is_read = record { text = is_text; clean = nothing_wrong body (grows map_spot inside empty) is_text low (λ at lt. none_alone body at refl) }

asks_again : Retry ≡ by_reply 200 body inside
unfolding unescaped_from
asks_again = refl

pub wants_again_judged : IsJudged wants_again Retry
wants_again_judged = read refl (λ e. let bad : ⊥ = cc in bad) map_spot inside is_read asks_again
