-- What the lexer of `clap` makes of a word.
use Rattle.std.proofs.Common.{◌≡◌, ◌∙◌, ◌==◌, ◌+◌, ℕ, Bool, true, false, true≢false, refl, sym, ap, subst, List, [], ◌∷◌, ◌++◌, Option, Some, None, bytes_eq, codes, not, ◌||◌, arith, suc, one-add, take, drop, ap₂}
use Rattle.std.proofs.lemmas.Bool.Decides.{Decides-eqb}
use Rattle.std.specs.List.{before_first, after_first, position_or_len}
use Rattle.clap.specs.Lexer.{long_of, short_of, has_byte}
use Rattle.sidecar_words.specs.Spelling.{begins_with_dash}
use Rattle.sidecar_words.specs.Spelling.{is_plain, has_name}

abbrev pub Text : Type 0
Text = List ℕ

abbrev pub is_mark : ℕ → Bool
is_mark byte = byte == 61

-- the name, and the value behind `=` where there is one
abbrev pub spelled : Text → Option Text → Text
spelled name None = name
spelled name (Some value) = name ++ codes "=" ++ value

-- a byte that is no `=` stands before it
module _ (byte : ℕ) (rest : Text) (other : (byte == 61) ≡ false) where
  one_on : position_or_len is_mark (byte ∷ rest) ≡ suc (position_or_len is_mark rest)
  one_on = rw other (one-add (position_or_len is_mark rest))

  before_on : before_first is_mark (byte ∷ rest) ≡ byte ∷ before_first is_mark rest
  before_on = ap (λ n. take n (byte ∷ rest)) one_on

  after_on : after_first is_mark (byte ∷ rest) ≡ after_first is_mark rest
  after_on =
      let next : position_or_len is_mark (byte ∷ rest) + 1 ≡ suc (position_or_len is_mark rest + 1) = omega (arith, one_on) in
      ap (λ n. drop n (byte ∷ rest)) next

-- where no `=` stands, all is the name
pub all_before : (text : Text) → has_byte 61 text ≡ false → before_first is_mark text ≡ text
all_before [] none = refl
all_before (byte ∷ rest) none = go (byte == 61) refl none (all_before rest)
  where
    go : (b : Bool) → (byte == 61) ≡ b → (b || has_byte 61 rest) ≡ false → (has_byte 61 rest ≡ false → before_first is_mark rest ≡ rest)
        → before_first is_mark (byte ∷ rest) ≡ byte ∷ rest
    go true is none next = absurd (true≢false none)
    go false is none next = before_on byte rest is ∙ ap (λ xs. byte ∷ xs) (next none)

-- where one stands, it is what the name and the value are cut at
pub cut_at : (text : Text) → has_byte 61 text ≡ true → text ≡ before_first is_mark text ++ codes "=" ++ after_first is_mark text
cut_at [] some = absurd (true≢false (sym some))
cut_at (byte ∷ rest) some = go (byte == 61) refl some (cut_at rest)
  where
    go : (b : Bool) → (byte == 61) ≡ b → (b || has_byte 61 rest) ≡ true
        → (has_byte 61 rest ≡ true → rest ≡ before_first is_mark rest ++ codes "=" ++ after_first is_mark rest)
        → byte ∷ rest ≡ before_first is_mark (byte ∷ rest) ++ codes "=" ++ after_first is_mark (byte ∷ rest)
    go true is some next = rw is (ap (λ b. b ∷ rest) ((Decides-eqb byte 61).0 is))
    go false is some next =
        ap (λ xs. byte ∷ xs) (next some)
        ∙ ap₂ (λ before after. before ++ codes "=" ++ after) (sym (before_on byte rest is)) (sym (after_on byte rest is))

module _ (value : Text) where
  pub marked : (name : Text) → has_byte 61 (name ++ codes "=" ++ value) ≡ true
  marked [] = refl
  marked (byte ∷ rest) = go (byte == 61) (marked rest)
    where
      go : (b : Bool) → has_byte 61 (rest ++ codes "=" ++ value) ≡ true → (b || has_byte 61 (rest ++ codes "=" ++ value)) ≡ true
      go true next = refl
      go false next = next

  pub name_before : (name : Text) → has_byte 61 name ≡ false → before_first is_mark (name ++ codes "=" ++ value) ≡ name
  name_before [] none = refl
  name_before (byte ∷ rest) none = go (byte == 61) refl none (name_before rest)
    where
      go : (b : Bool) → (byte == 61) ≡ b → (b || has_byte 61 rest) ≡ false → (has_byte 61 rest ≡ false → before_first is_mark (rest ++ codes "=" ++ value) ≡ rest)
          → before_first is_mark (byte ∷ rest ++ codes "=" ++ value) ≡ byte ∷ rest
      go true is none next = absurd (true≢false none)
      go false is none next = before_on byte (rest ++ codes "=" ++ value) is ∙ ap (λ xs. byte ∷ xs) (next none)

  pub value_after : (name : Text) → has_byte 61 name ≡ false → after_first is_mark (name ++ codes "=" ++ value) ≡ value
  value_after [] none = refl
  value_after (byte ∷ rest) none = go (byte == 61) refl none (value_after rest)
    where
      go : (b : Bool) → (byte == 61) ≡ b → (b || has_byte 61 rest) ≡ false → (has_byte 61 rest ≡ false → after_first is_mark (rest ++ codes "=" ++ value) ≡ value)
          → after_first is_mark (byte ∷ rest ++ codes "=" ++ value) ≡ value
      go true is none next = absurd (true≢false none)
      go false is none next = after_on byte (rest ++ codes "=" ++ value) is ∙ next none

-- a name without `=`, which is not empty, is read again
pub long_alone : (byte : ℕ) (rest : Text) → has_byte 61 (byte ∷ rest) ≡ false → long_of (codes "--" ++ byte ∷ rest) ≡ Some (byte ∷ rest, None)
long_alone byte rest none = rw (all_before (byte ∷ rest) none, none) refl

pub long_with : (byte : ℕ) (rest value : Text) → has_byte 61 (byte ∷ rest) ≡ false
    → long_of (codes "--" ++ (byte ∷ rest) ++ codes "=" ++ value) ≡ Some (byte ∷ rest, Some value)
long_with byte rest value none = rw (name_before value (byte ∷ rest) none, marked value (byte ∷ rest), value_after value (byte ∷ rest) none) refl

-- a plain word begins with no dash, or is a name behind two dashes
pub data Kind (word : Text) : Type 0 where
  undashed : begins_with_dash word ≡ false → Kind word
  dashed : (name : Text) (value : Option Text) → long_of word ≡ Some (name, value) → bytes_eq word (codes "--") ≡ false → word ≡ codes "--" ++ spelled name value → Kind word

long_kind : (byte : ℕ) (rest : Text) → Kind (codes "--" ++ byte ∷ rest)
long_kind byte rest = go (has_byte 61 (byte ∷ rest)) refl
  where
    go : (b : Bool) → has_byte 61 (byte ∷ rest) ≡ b → Kind (codes "--" ++ byte ∷ rest)
    go true some =
        dashed (before_first is_mark (byte ∷ rest)) (Some (after_first is_mark (byte ∷ rest))) (rw some refl) refl (ap (λ text. codes "--" ++ text) (cut_at (byte ∷ rest) some))
    go false none = dashed (byte ∷ rest) None (long_alone byte rest none) refl refl

behind_dash : (rest : Text) → has_name rest ≡ true → Kind (45 ∷ rest)
behind_dash [] named = absurd (true≢false (sym named))
behind_dash (dash ∷ []) named = absurd (true≢false (sym named))
behind_dash (dash ∷ byte ∷ rest) named = subst (λ second. Kind (45 ∷ second ∷ byte ∷ rest)) (sym ((Decides-eqb dash 45).0 named)) (long_kind byte rest)

pub kind_of_word : (word : Text) → is_plain word ≡ true → Kind word
kind_of_word [] plain = undashed refl
kind_of_word (byte ∷ rest) plain = go (byte == 45) refl plain
  where
    go : (b : Bool) → (byte == 45) ≡ b → (not b || has_name rest) ≡ true → Kind (byte ∷ rest)
    go false is plain = undashed is
    go true is plain = subst (λ first. Kind (first ∷ rest)) (sym ((Decides-eqb byte 45).0 is)) (behind_dash rest plain)

-- a word that begins with no dash is none of the lexer's
pub bare_long : (word : Text) → begins_with_dash word ≡ false → long_of word ≡ None
bare_long [] none = refl
bare_long (byte ∷ rest) none = rw none refl

pub bare_short : (word : Text) → begins_with_dash word ≡ false → short_of word ≡ None
bare_short [] none = refl
bare_short (byte ∷ rest) none = rw none refl

pub bare_double : (word : Text) → begins_with_dash word ≡ false → bytes_eq word (codes "--") ≡ false
bare_double [] none = refl
bare_double (byte ∷ rest) none = rw none refl
