-- What sections say, one more section at a time.
use Rattle.std.proofs.Common.{◌≡◌, ◌∙◌, ◌+◌, ◌-◌, ◌<◌, ◌≤◌, ℕ, zero, suc, Bool, true, false, List, [], ◌∷◌, ◌++◌, drop, length, get_or, subst, add-one, drop-cons, bytes_eq, if◌then◌else◌, sym, ap, append_assoc, decimal, arith}
use Rattle.std.proofs.lemmas.List.{append-nil}
use Rattle.case_text.specs.Lines.{line}
use Rattle.case_text.specs.Section.{repeated, numbered, joined_of, said_of, times_of}
use Rattle.case_text.specs.declared.section.Section.{Section}

-- of a text that stands some times, the first stands before the others
one_less : (text : List ℕ) (left : ℕ) → 0 < left → repeated left text ≡ text ++ repeated (left - 1) text
unfolding repeated
one_less text zero some = absurd (omega (arith, some))
one_less text (suc left) some = ap (λ (n : ℕ). text ++ repeated n text) (omega arith)

-- the text once more
pub one_added : (whole all text more : List ℕ) (left : ℕ) → 0 < left → more ≡ all ++ text → whole ≡ all ++ repeated left text → whole ≡ more ++ repeated (left - 1) text
one_added whole all text more left some added was =
    was
    ∙ ap (λ (m : List ℕ). all ++ m) (one_less text left some)
    ∙ sym (append_assoc all text (repeated (left - 1) text))
    ∙ ap (λ (a : List ℕ). a ++ repeated (left - 1) text) (sym added)

-- no further time
pub none_left : (whole all text : List ℕ) (left : ℕ) → left ≤ 0 → whole ≡ all ++ repeated left text → all ≡ whole
unfolding repeated
none_left whole all text zero none was = sym (was ∙ append-nil all)
none_left whole all text (suc left) none was = absurd (omega (arith, none))

-- of texts with their numbers, the first stands before the others
first_numbered : (text : List ℕ) (number left : ℕ) → 0 < left → numbered number left text ≡ line text (decimal number) ++ numbered (number + 1) (left - 1) text
unfolding numbered
first_numbered text number zero some = absurd (omega (arith, some))
first_numbered text number (suc left) some =
    let next : suc number ≡ number + 1 = omega arith in
    let less : left ≡ suc left - 1 = omega arith in
    ap (λ (n : ℕ). line text (decimal number) ++ numbered n left text) next ∙ ap (λ (n : ℕ). line text (decimal number) ++ numbered (number + 1) n text) less

-- the text with the next number
pub one_numbered : (whole all text more : List ℕ) (number times : ℕ) → number < times → more ≡ all ++ line text (decimal number) → whole ≡ all ++ numbered number (times - number) text → whole ≡ more ++ numbered (number + 1) (times - (number + 1)) text
one_numbered whole all text more number times low added was =
    let less : times - number - 1 ≡ times - (number + 1) = omega arith in
    was
    ∙ ap (λ (m : List ℕ). all ++ m) (first_numbered text number (times - number) (omega (arith, low)))
    ∙ sym (append_assoc all (line text (decimal number)) (numbered (number + 1) (times - number - 1) text))
    ∙ ap (λ (a : List ℕ). a ++ numbered (number + 1) (times - number - 1) text) (sym added)
    ∙ ap (λ (n : ℕ). more ++ numbered (number + 1) n text) less

-- no further number
pub none_numbered : (whole all text : List ℕ) (number times : ℕ) → times ≤ number → whole ≡ all ++ numbered number (times - number) text → all ≡ whole
unfolding numbered
none_numbered whole all text number times none was =
    let over : times - number ≡ 0 = omega (arith, none) in
    sym (was ∙ ap (λ (n : ℕ). all ++ numbered number n text) over ∙ append-nil all)

one_joined : (whole all more word : List ℕ) (section : Section) (rest : List Section) → bytes_eq section.word.now word ≡ true → more ≡ all ++ repeated (times_of section.name.now) (said_of section) → whole ≡ all ++ joined_of word (section ∷ rest) → whole ≡ more ++ joined_of word rest
unfolding joined_of
one_joined whole all more word section rest is says was =
    was
    ∙ ap (λ (b : Bool). all ++ ((if b then repeated (times_of section.name.now) (said_of section) else []) ++ joined_of word rest)) is
    ∙ sym (append_assoc all (repeated (times_of section.name.now) (said_of section)) (joined_of word rest))
    ∙ ap (λ (a : List ℕ). a ++ joined_of word rest) (sym says)

one_passed : (whole all word : List ℕ) (section : Section) (rest : List Section) → bytes_eq section.word.now word ≡ false → whole ≡ all ++ joined_of word (section ∷ rest) → whole ≡ all ++ joined_of word rest
unfolding joined_of
one_passed whole all word section rest is was =
    was ∙ ap (λ (b : Bool). all ++ ((if b then repeated (times_of section.name.now) (said_of section) else []) ++ joined_of word rest)) is

-- the sections from a place on, the first of which is of the word: what it says was added
pub joined_at : (whole all more word : List ℕ) (sections : List Section) (place : ℕ) (other : Section) → place < length sections → bytes_eq (get_or sections place other).word.now word ≡ true → more ≡ all ++ repeated (times_of (get_or sections place other).name.now) (said_of (get_or sections place other)) → whole ≡ all ++ joined_of word (drop place sections) → whole ≡ more ++ joined_of word (drop (place + 1) sections)
joined_at whole all more word sections place other low is says was =
    subst (λ (j : ℕ). whole ≡ more ++ joined_of word (drop j sections)) (sym (add-one place))
    (one_joined whole all more word (get_or sections place other) (drop (suc place) sections) is says (was ∙ ap (λ (rest : List Section). all ++ joined_of word rest) (drop-cons sections place other low)))

-- or of another word
pub passed_at : (whole all word : List ℕ) (sections : List Section) (place : ℕ) (other : Section) → place < length sections → bytes_eq (get_or sections place other).word.now word ≡ false → whole ≡ all ++ joined_of word (drop place sections) → whole ≡ all ++ joined_of word (drop (place + 1) sections)
passed_at whole all word sections place other low is was =
    subst (λ (j : ℕ). whole ≡ all ++ joined_of word (drop j sections)) (sym (add-one place))
    (one_passed whole all word (get_or sections place other) (drop (suc place) sections) is (was ∙ ap (λ (rest : List Section). all ++ joined_of word rest) (drop-cons sections place other low)))

-- or there is none
pub joined_all : (whole all word : List ℕ) (rest : List Section) → rest ≡ [] → whole ≡ all ++ joined_of word rest → all ≡ whole
unfolding joined_of
joined_all whole all word rest none was = sym (was ∙ ap (λ (r : List Section). all ++ joined_of word r) none ∙ append-nil all)
