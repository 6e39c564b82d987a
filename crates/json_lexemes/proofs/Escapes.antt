-- A numbered escape has six bytes, and is of a high surrogate or of a low one.
use Rattle.std.proofs.Common.{◌≡◌, ℕ, ◌+◌, ◌<◌, Bool, true, false, ◌&&◌, ◌||◌, not, List, [], ◌∷◌, drop, length, length-drop, None, get_or, refl, sym, arith}
use Rattle.std.proofs.lemmas.List.{get_or_past}
use Rattle.json_lexemes.specs.declared.kind.Kind.{Kind}
use Rattle.json_lexemes.proofs.Tables.{false_true}
use Rattle.json_lexemes.specs.Lexeme.{ends_after_letters, is_high_surrogate, is_low_surrogate}
use Rattle.json_lexemes.specs.Surrogates.{is_numbered, unit_of, is_high_escape, is_low_escape, is_lone}

and_false : (b : Bool) → (b && false) ≡ false
and_false true = refl
and_false false = refl

pub short_not_numbered : (bytes : List ℕ) (at : ℕ) → length bytes < at + 6 → is_numbered bytes at ≡ false
unfolding is_numbered
short_not_numbered bytes at short =
    let past : get_or bytes (at + 5) 0 ≡ 0 = get_or_past bytes (at + 5) 0 (omega (arith, short)) in
    rw past (and_false _)

pub letters_to_come : (kind : Kind) (read : ℕ) (letters : List ℕ) → read < length letters → ends_after_letters kind (drop read letters) ≡ None
letters_to_come kind read letters h = elim_drop kind (drop read letters) (omega (arith, h, length-drop read letters))
  where
    elim_drop : (kind : Kind) (l : List ℕ) → 0 < length l → ends_after_letters kind l ≡ None
    elim_drop kind [] h = absurd (omega (arith, h))
    elim_drop kind (x ∷ l) h = refl

one_half : (unit : ℕ) → is_high_surrogate unit ≡ true → is_low_surrogate unit ≡ false
one_half unit high = grind (arith, high)

lone_in : (numbered high low behind before : Bool) → (high ≡ true → low ≡ false) → (numbered && high) ≡ true → ((numbered && high && not behind) || (numbered && low && not before)) ≡ not behind
lone_in false high low behind before one h = false_true _ h
lone_in true false low behind before one h = false_true _ h
lone_in true true true behind before one h = false_true _ (sym (one refl))
lone_in true true false true before one h = refl
lone_in true true false false before one h = refl

-- the escape of a high surrogate is lone where that of a low one does not follow
pub lone_high : (bytes : List ℕ) (at : ℕ) (before : Bool) → is_high_escape bytes at ≡ true → is_lone before bytes at ≡ not (is_low_escape bytes (at + 6))
lone_high bytes at before h =
    lone_in (is_numbered bytes at) (is_high_surrogate (unit_of bytes at)) (is_low_surrogate (unit_of bytes at)) (is_low_escape bytes (at + 6)) before (one_half (unit_of bytes at)) h
