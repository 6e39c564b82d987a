-- Null as a text.
use Rattle.std.proofs.Common.{◌≡◌, inl, inr, ℕ, suc, ◌+◌, Bool, true, false, cond, eqb, List, [], ◌∷◌, ◌++◌, length, Some, None, refl, sym, ap, subst, ◌∙◌, arith, codes, append-nil, length-append}
use Rattle.std.specs.Str.{bytes_eq}
use Rattle.std.proofs.lemmas.Slice.Eq.{bytes_eq-Decides}
use Rattle.std.proofs.lemmas.Bool.Decides.{eqb_tells}
use Rattle.json_text.specs.Kind.{Kind}
use Rattle.json_text.specs.Kind.TheVariants as kinds
use Rattle.json_text.specs.declared.spot.Spot.{Spot}
use Rattle.json_text.specs.declared.part.Bracket.{Bracket}
use Rattle.json_text.specs.declared.part.Bracket.TheVariants as brackets
use Rattle.json_text.specs.declared.part.Part.TheVariants.{Start as start}
use Rattle.json_text.specs.LexemeState.{Lexeme}
use Rattle.json_text.specs.LexemeState.TheVariants.{Letters as letters}
use Rattle.json_text.specs.LexemeState.TheVariants as Lexemes
use Rattle.json_text.specs.Lexeme.{begins, ends, is_digit, next, done, more}
use Rattle.json_text.specs.Forest.{Forest, empty, grows, one}
use Rattle.json_text.specs.Grammar.{Completes, IsText, blank, word, nested, member_name, turn, close, finish, bracket_kind, closes, takes_name, takes_value, turns}
use Rattle.json_text.proofs.Accepted.{Accepts, accepted, accepted_kind, kind_of}
use Rattle.json_text.proofs.NumberWords.{literal_left}
use Rattle.json_text.proofs.Fronts.{one_tree}
use Rattle.json_text.proofs.Shapes.{starts_later}
use Rattle.cloud_events.specs.Members.{is_null}
use Rattle.cloud_events.proofs.Fine.{Fine}
use Rattle.cloud_events.proofs.Rereading.{whole}
use Rattle.cloud_events.proofs.Scanned.{none_some, some_same}

other_kind : (B : Type 0) → false ≡ true → B
other_kind B h = let bad : ⊥ = cc in absurd bad

-- ---- which word null begins with

not_null : (B : Type 0) (state first : Lexeme) → is_null (kind_of state) ≡ false → Some state ≡ Some first → is_null (kind_of first) ≡ true → B
not_null B state first other e h = other_kind B (sym other ∙ ap (λ w. is_null (kind_of w)) (some_same state first e) ∙ h)

letter : (a b c d e f g : Bool) (first : Lexeme)
    → cond a (Some (Lexemes.Plain false)) (cond b (Some Lexemes.Minus) (cond c (Some Lexemes.LeadingZero) (cond d (Some Lexemes.Integer) (cond e (Some (letters (kinds.Flag true) 1)) (cond f (Some (letters (kinds.Flag false) 1)) (cond g (Some (letters kinds.Null 1)) None)))))) ≡ Some first
    → is_null (kind_of first) ≡ true → (g ≡ true) × (first ≡ letters kinds.Null 1)
letter true b c d e f g first is h = not_null _ (Lexemes.Plain false) first refl is h
letter false true c d e f g first is h = not_null _ Lexemes.Minus first refl is h
letter false false true d e f g first is h = not_null _ Lexemes.LeadingZero first refl is h
letter false false false true e f g first is h = not_null _ Lexemes.Integer first refl is h
letter false false false false true f g first is h = not_null _ (letters (kinds.Flag true) 1) first refl is h
letter false false false false false true g first is h = not_null _ (letters (kinds.Flag false) 1) first refl is h
letter false false false false false false true first is h = (refl, sym (some_same (letters kinds.Null 1) first is))
letter false false false false false false false first is h = none_some first _ is

same_number : (a b : ℕ) → eqb a b ≡ true → a ≡ b
same_number a b h = elim (eqb_tells a b) [ inl is ↦ is.1 | inr not ↦ other_kind _ (sym not.0 ∙ h) ]

begun : (byte : ℕ) (first : Lexeme) → begins byte ≡ Some first → is_null (kind_of first) ≡ true → (byte ≡ 110) × (first ≡ letters kinds.Null 1)
unfolding begins
begun byte first is h =
    let p = letter (eqb byte 34) (eqb byte 45) (eqb byte 48) (is_digit byte) (eqb byte 116) (eqb byte 102) (eqb byte 110) first is h in
    (same_number byte 110 p.0, p.1)

-- ---- a text of null

abbrev first_spot : Forest → Spot
first_spot empty = record { kind = kinds.Number; span = record { start = 0; end = 0 }; name = None }
first_spot (grows spot children later) = spot

no_start : (byte : ℕ) → closes None start byte ≡ false
unfolding closes
no_start byte = refl

no_turn : (byte : ℕ) → turns None start byte ≡ None
unfolding turns
no_turn byte = refl

no_name : takes_name None start ≡ false
unfolding takes_name
no_name = refl

bracket_is : (bracket : Bracket) → is_null (bracket_kind bracket) ≡ false
bracket_is brackets.List = refl
bracket_is brackets.Map = refl

nothing_behind : (s w u : List ℕ) → s ≡ w ++ u → suc (length s) ≡ 1 + length w → s ≡ w
nothing_behind s w [] e long = e ∙ append-nil w
nothing_behind s w (x ∷ u) e long = absurd (omega (arith, ap length e, length-append w (x ∷ u), long))

null_word : (byte : ℕ) (first : Lexeme) (s w u : List ℕ) (kind : Kind) → begins byte ≡ Some first → Accepts first w kind → is_null kind ≡ true → s ≡ w ++ u → suc (length s) ≡ 1 + length w → byte ∷ s ≡ codes "null"
null_word byte first s w u kind b a h e long =
    let p = begun byte first b (ap is_null (sym (accepted_kind first w kind a)) ∙ h) in
    let letters_are : w ≡ 117 ∷ 108 ∷ 108 ∷ [] = literal_left kinds.Null kind 1 w (subst (λ q. Accepts q w kind) p.1 a) in
    λ i. p.0 i ∷ (nothing_behind s w u e long ∙ letters_are) i

null_from : (v : List ℕ) (n : ℕ) (all held : Forest) → Completes None start 0 v n [] all → all ≡ one (whole kinds.Null v) held → v ≡ codes "null"
null_from [] n all held c e = elim c [ ]
null_from (byte ∷ s) n all held (blank b c) e =
    let later = starts_later start 1 n s [] _ held empty (subst (λ x. Completes None start 1 s n [] x) e c) tt in
    absurd (omega (arith, later))
null_from (byte ∷ s) n all held (word {kind = kind} {first = first} {j = k} {t = u} takes b spells c) e =
    let null : is_null kind ≡ true = ap (λ x. is_null (first_spot x).kind) e in
    let end : k ≡ suc (length s) = ap (λ x. (first_spot x).span.end) e in
    let a = accepted first 1 s k u kind spells in
    null_word byte first s a.0 u kind b a.3 null a.1 (sym end ∙ a.2)
null_from (byte ∷ s) n all held (nested {bracket = bracket} takes o inside c) e = other_kind _ (sym (bracket_is bracket) ∙ ap (λ x. is_null (first_spot x).kind) e)
null_from (byte ∷ s) n all held (member_name takes q spells c) e = other_kind _ (sym no_name ∙ takes)
null_from (byte ∷ s) n all held (turn q c) e = none_some _ _ (sym (no_turn byte) ∙ q)
null_from (byte ∷ s) n all held (close c) e = other_kind _ (sym (no_start byte) ∙ c)

null_text : IsText (codes "null") (one (whole kinds.Null (codes "null")) empty)
unfolding begins next ends takes_value
null_text = word refl refl (more refl (more refl (more refl (done refl)))) (finish refl)

kind_null : (kind : Kind) → is_null kind ≡ true → kind ≡ kinds.Null
kind_null kinds.Null h = refl
kind_null (kinds.Flag on) h = other_kind _ h
kind_null kinds.Number h = other_kind _ h
kind_null kinds.Text h = other_kind _ h
kind_null kinds.List h = other_kind _ h
kind_null kinds.Map h = other_kind _ h

from_null : (v : List ℕ) (f : Fine v) → is_null f.kind ≡ true → v ≡ codes "null"
from_null v f h = null_from v (length v) (one (whole kinds.Null v) f.children) f.children (subst (λ k. IsText v (one (whole k v) f.children)) (kind_null f.kind h) f.text) refl

to_null : (v : List ℕ) (f : Fine v) → v ≡ codes "null" → is_null f.kind ≡ true
to_null v f e = ap (λ x. is_null (first_spot x).kind) (one_tree v (one (whole f.kind v) f.children) (one (whole kinds.Null v) empty) f.text (subst (λ (l : List ℕ). IsText l (one (whole kinds.Null l) empty)) (sym e) null_text))

null_by : (v : List ℕ) (f : Fine v) (a b : Bool) → is_null f.kind ≡ a → bytes_eq v (codes "null") ≡ b → a ≡ b
null_by v f true true p q = refl
null_by v f false false p q = refl
null_by v f true false p q = sym ((bytes_eq-Decides v (codes "null")).1 (from_null v f p)) ∙ q
null_by v f false true p q = sym p ∙ to_null v f ((bytes_eq-Decides v (codes "null")).0 q)

-- a value is null exactly where its bytes are
pub null_is : (v : List ℕ) (f : Fine v) → is_null f.kind ≡ bytes_eq v (codes "null")
null_is v f = null_by v f (is_null f.kind) (bytes_eq v (codes "null")) refl refl
