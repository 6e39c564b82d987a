-- What a reader takes a text for is what the tokens say that are written so.
use Rattle.std.proofs.Common.{◌≡◌, ◌∙◌, ℕ, ◌+◌, ◌-◌, ◌*◌, ◌%◌, ◌<◌, Bool, true, ◌&&◌, ◌==◌, nat_le, if◌then◌else◌, List, [], ◌∷◌, ◌++◌, Option, Some, None, IfSome, option_map, unwrap_or, codes, refl, sym, ap, subst, arith}
use Rattle.std.proofs.lemmas.Bool.{eqb-true, eqb-false, ne_eqb, cond_both, and_parts, leb-true}
use Rattle.std.proofs.lemmas.Option.{none-some, same_Some}
use Rattle.case_text.specs.declared.escape.Place.{Place}
use Rattle.case_text.specs.declared.escape.Place.TheVariants.{Outside, Backslash, Digits, Digit}
use Rattle.case_text.specs.declared.escape.Said.{Said}
use Rattle.case_text.specs.Escape.{digit_of, Token, Plain, LineEnd, Return, Tab, Doubled, Joined, Numbered, spelling, meaning, written, says, IsWritten, IsSaid}
use Rattle.case_text.specs.Reading.{step, first_digit, second_digit, goes_on, with_more, at_end, undone}
use Rattle.case_text.specs.Reading.{says as says_byte}

-- a digit is below 16
pub digit_small : (byte digit : ℕ) → digit_of byte ≡ Some digit → digit < 16
digit_small byte digit =
    cond_both (nat_le 48 byte && nat_le byte 57) (Some (byte - 48)) (if nat_le 97 byte && nat_le byte 102 then Some (byte - 97 + 10) else None) (λ o. o ≡ Some digit → digit < 16)
    (λ within is. omega (arith, same_Some (byte - 48) digit is, leb-true byte 57 (and_parts _ _ within).1))
    (λ other. cond_both (nat_le 97 byte && nat_le byte 102) (Some (byte - 97 + 10)) None (λ o. o ≡ Some digit → digit < 16)
    (λ within is. omega (arith, same_Some (byte - 97 + 10) digit is, leb-true byte 102 (and_parts _ _ within).1))
    (λ none is. absurd (none-some digit is)))

kept : (more : Option (List ℕ)) → option_map (λ (m : List ℕ). [] ++ m) more ≡ more
kept None = refl
kept (Some m) = refl

-- a token in front says what it means, and what is behind it goes on
forward : (token : Token) (rest : List ℕ) → undone Outside (spelling token ++ rest) ≡ option_map (λ (m : List ℕ). meaning token ++ m) (undone Outside rest)
unfolding undone with_more at_end
forward (Plain byte other) rest = ap (λ (b : Bool). with_more (if b then goes_on Backslash else says_byte byte) (λ (p : Place). undone p rest)) (ne_eqb byte 92 other)
forward LineEnd rest = kept _
forward Return rest = kept _
forward Tab rest = kept _
forward Doubled rest = kept _
forward Joined rest = kept _
forward (Numbered first second high low is_high is_low) rest =
    let small : high % 16 ≡ high = omega (arith, digit_small first high is_high) in
    kept _
    ∙ kept _
    ∙ ap (λ (o : Option ℕ). with_more (first_digit o) (λ (p : Place). undone p (second ∷ rest))) is_high
    ∙ kept _
    ∙ ap (λ (o : Option ℕ). with_more (second_digit high o) (λ (p : Place). undone p rest)) is_low
    ∙ ap (λ (h : ℕ). option_map (λ (m : List ℕ). ((16 * h + low) ∷ []) ++ m) (undone Outside rest)) small

undone_written : (tokens : List Token) → undone Outside (written tokens) ≡ Some (says tokens)
unfolding undone with_more at_end
undone_written [] = refl
undone_written (token ∷ tokens) = forward token (written tokens) ∙ ap (option_map (λ (m : List ℕ). meaning token ++ m)) (undone_written tokens)

-- what was read of an escape before a place, whose first digit is this
ahead : Place → ℕ → List ℕ
ahead Outside first = []
ahead Backslash first = 92 ∷ []
ahead Digits first = 92 ∷ 120 ∷ []
ahead (Digit high) first = 92 ∷ 120 ∷ first ∷ []

Fits : Place → ℕ → Type 0
Fits Outside first = Unit {0}
Fits Backslash first = Unit {0}
Fits Digits first = Unit {0}
Fits (Digit high) first = digit_of first ≡ Some high

-- whatever the rest says behind a place, some tokens are written so
abbrev Reads : List ℕ → Type 0
Reads text = (place : Place) (first : ℕ) (bytes : List ℕ) → Fits place first → undone place text ≡ Some bytes → IsWritten (ahead place first ++ text) bytes

went_on : (more : Option (List ℕ)) (bytes : List ℕ) → option_map (λ (m : List ℕ). [] ++ m) more ≡ Some bytes → more ≡ Some bytes
went_on more bytes is = sym (kept more) ∙ is

-- one more token in front
taken : (token : Token) (text bytes : List ℕ) (more : Option (List ℕ)) → option_map (λ (m : List ℕ). meaning token ++ m) more ≡ Some bytes → ((b : List ℕ) → more ≡ Some b → IsWritten text b) → IsWritten (spelling token ++ text) bytes
taken token text bytes None is reads = absurd (none-some bytes is)
taken token text bytes (Some b) is reads =
    let behind = reads b refl in
    (token ∷ behind.0, ap (λ (t : List ℕ). spelling token ++ t) behind.1, ap (λ (m : List ℕ). meaning token ++ m) behind.2 ∙ same_Some _ _ is)

outside : (byte : ℕ) (text bytes : List ℕ) → Reads text → with_more (step Outside byte) (λ (p : Place). undone p text) ≡ Some bytes → IsWritten (byte ∷ text) bytes
unfolding undone with_more at_end ahead Fits
outside byte text bytes reads =
    cond_both (byte == 92) (goes_on Backslash) (says_byte byte) (λ (s : Option Said). with_more s (λ (p : Place). undone p text) ≡ Some bytes → IsWritten (byte ∷ text) bytes)
    (λ same is. subst (λ (b : ℕ). IsWritten (b ∷ text) bytes) (sym (eqb-true byte 92 same)) (reads Backslash 0 bytes tt (went_on _ bytes is)))
    (λ other is. taken (Plain byte (eqb-false byte 92 other)) text bytes _ is (λ b. reads Outside 0 b tt))

-- behind a backslash each byte of an escape, and no other
behind : (byte : ℕ) (text bytes : List ℕ) → Reads text → with_more (step Backslash byte) (λ (p : Place). undone p text) ≡ Some bytes → IsWritten (92 ∷ byte ∷ text) bytes
unfolding undone with_more at_end ahead Fits
behind byte text bytes reads =
    let Goal : Option Said → Type 0 = λ s. with_more s (λ (p : Place). undone p text) ≡ Some bytes → IsWritten (92 ∷ byte ∷ text) bytes in
    let at : (b : ℕ) → (byte == b) ≡ true → IsWritten (92 ∷ b ∷ text) bytes → IsWritten (92 ∷ byte ∷ text) bytes = λ b same. subst (λ (c : ℕ). IsWritten (92 ∷ c ∷ text) bytes) (sym (eqb-true byte b same)) in
    cond_both (byte == 110) _ _ Goal (λ same is. at 110 same (taken LineEnd text bytes _ is (λ b. reads Outside 0 b tt))) (λ _.
    cond_both (byte == 114) _ _ Goal (λ same is. at 114 same (taken Return text bytes _ is (λ b. reads Outside 0 b tt))) (λ _.
    cond_both (byte == 116) _ _ Goal (λ same is. at 116 same (taken Tab text bytes _ is (λ b. reads Outside 0 b tt))) (λ _.
    cond_both (byte == 92) _ _ Goal (λ same is. at 92 same (taken Doubled text bytes _ is (λ b. reads Outside 0 b tt))) (λ _.
    cond_both (byte == 10) _ _ Goal (λ same is. at 10 same (taken Joined text bytes _ is (λ b. reads Outside 0 b tt))) (λ _.
    cond_both (byte == 120) _ _ Goal (λ same is. at 120 same (reads Digits 0 bytes tt (went_on _ bytes is))) (λ _ is. absurd (none-some bytes is)))))))

behind_x : (byte : ℕ) (text bytes : List ℕ) (digit : Option ℕ) → Reads text → digit_of byte ≡ digit → with_more (first_digit digit) (λ (p : Place). undone p text) ≡ Some bytes → IsWritten (92 ∷ 120 ∷ byte ∷ text) bytes
unfolding undone with_more at_end ahead Fits
behind_x byte text bytes None reads of is = absurd (none-some bytes is)
behind_x byte text bytes (Some high) reads of is = reads (Digit high) byte bytes of (went_on _ bytes is)

behind_digit : (first byte high : ℕ) (text bytes : List ℕ) (digit : Option ℕ) → Reads text → digit_of first ≡ Some high → digit_of byte ≡ digit → with_more (second_digit high digit) (λ (p : Place). undone p text) ≡ Some bytes → IsWritten (92 ∷ 120 ∷ first ∷ byte ∷ text) bytes
unfolding undone with_more at_end ahead Fits
behind_digit first byte high text bytes None reads is_high of is = absurd (none-some bytes is)
behind_digit first byte high text bytes (Some low) reads is_high of is =
    let small : high % 16 ≡ high = omega (arith, digit_small first high is_high) in
    taken (Numbered first byte high low is_high of) text bytes _ (subst (λ (h : ℕ). option_map (λ (m : List ℕ). ((16 * h + low) ∷ []) ++ m) (undone Outside text) ≡ Some bytes) small is) (λ b. reads Outside 0 b tt)

reads_on : (text : List ℕ) → Reads text
unfolding undone with_more at_end ahead Fits
reads_on [] Outside first bytes fits is = ([], refl, same_Some _ _ is)
reads_on [] Backslash first bytes fits is = absurd (none-some bytes is)
reads_on [] Digits first bytes fits is = absurd (none-some bytes is)
reads_on [] (Digit high) first bytes fits is = absurd (none-some bytes is)
reads_on (byte ∷ text) Outside first bytes fits is = outside byte text bytes (reads_on text) is
reads_on (byte ∷ text) Backslash first bytes fits is = behind byte text bytes (reads_on text) is
reads_on (byte ∷ text) Digits first bytes fits is = behind_x byte text bytes (digit_of byte) (reads_on text) refl is
reads_on (byte ∷ text) (Digit high) first bytes fits is = behind_digit first byte high text bytes (digit_of byte) (reads_on text) fits refl is

some_by : (text : List ℕ) (said : Option (List ℕ)) → undone Outside text ≡ said → IfSome said (λ (bytes : List ℕ). IsWritten text bytes)
unfolding ahead Fits
some_by text None is = tt
some_by text (Some bytes) is = reads_on text Outside 0 bytes tt is

-- what a reader takes a text for is what it says
pub is_said : (text : List ℕ) → IsSaid text (undone Outside text)
is_said text = record {
  each = λ tokens is. ap (undone Outside) (sym is) ∙ undone_written tokens;
  some = some_by text (undone Outside text) refl;
}

-- a text says one thing
pub says_one : (text : List ℕ) (a b : Option (List ℕ)) → IsSaid text a → IsSaid text b → a ≡ b
says_one text None None first second = refl
says_one text None (Some c) first second = absurd (none-some _ (first.each second.some.0 second.some.1))
says_one text (Some c) b first second = first.each first.some.0 first.some.1 ∙ sym (second.each first.some.0 first.some.1)

-- what it says, or the words that there is no escape
pub said_some : (bytes text : List ℕ) (said : Option (List ℕ)) → IsSaid bytes said → said ≡ Some text → text ≡ unwrap_or (undone Outside bytes) (codes "no escape")
said_some bytes text said says is = sym (ap (λ (o : Option (List ℕ)). unwrap_or o (codes "no escape")) (says_one bytes (undone Outside bytes) said (is_said bytes) says ∙ is))

pub said_none : (bytes : List ℕ) (said : Option (List ℕ)) → IsSaid bytes said → said ≡ None → codes "no escape" ≡ unwrap_or (undone Outside bytes) (codes "no escape")
said_none bytes said says is = sym (ap (λ (o : Option (List ℕ)). unwrap_or o (codes "no escape")) (says_one bytes (undone Outside bytes) said (is_said bytes) says ∙ is))
