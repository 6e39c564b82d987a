-- Where the values of a text stand.
use Rattle.std.proofs.Common.{◌≡◌, ℕ, suc, ◌+◌, ◌-◌, ◌≤◌, Bool, true, false, cond, eqb, List, [], ◌∷◌, length, Option, Some, None, refl, sym, subst, arith}
use Rattle.std.specs.Prelude.{is_some}
use Rattle.json_lexemes.specs.declared.kind.Kind.{Kind}
use Rattle.json_text.specs.declared.spot.Span.{Span}
use Rattle.json_text.specs.declared.spot.Spot.{Spot}
use Rattle.json_text.specs.declared.part.Bracket.{Bracket}
use Rattle.json_text.specs.declared.part.Bracket.TheVariants.{List as list, Map as map}
use Rattle.json_text.specs.declared.part.Part.{Part}
use Rattle.json_text.specs.declared.part.Part.TheVariants.{Start as start, Next as next_part, Named as named, Member as member, Rest as rest}
use Rattle.json_lexemes.specs.declared.lexeme.Lexeme.{Lexeme}
use Rattle.json_lexemes.specs.declared.lexeme.Lexeme.TheVariants.{Plain as plain}
use Rattle.json_lexemes.specs.Lexeme.{ends, Spells, done, more}
use Rattle.json_text.specs.Forest.{Forest, empty, grows}
use Rattle.json_text.specs.Grammar.{bracket_kind, turns, takes_value, Completes, blank, word, nested, member_name, turn, close, finish, IsText}
use Rattle.json_text.specs.Shape.{is_map, is_holder, StandsBefore, AreInRow}
use Rattle.json_text.proofs.Tables.{none_some, closes_level}

abbrev maps : Option Bracket → Bool
maps None = false
maps (Some list) = false
maps (Some map) = true

-- the bytes that end a list or a map
abbrev closing : Option Bracket → ℕ
closing None = 0
closing (Some bracket) = 1

-- the name of the value that comes next stands before the place
abbrev PartFits : ℕ → Part → Type 0
PartFits i start = Unit {0}
PartFits i next_part = Unit {0}
PartFits i (named name) = StandsBefore (Some name) i
PartFits i (member name) = StandsBefore (Some name) i
PartFits i rest = Unit {0}

part_on : (i k : ℕ) (here : Part) → i ≤ k → PartFits i here → PartFits k here
part_on i k start le h = tt
part_on i k next_part le h = tt
part_on i k (named name) le h = (h.0, omega (arith, le, h.1))
part_on i k (member name) le h = (h.0, omega (arith, le, h.1))
part_on i k rest le h = tt

named_back : (level : Option Bracket) (there : Part) (i byte : ℕ) (name : Span) → turns level (named name) byte ≡ Some there → StandsBefore (Some name) i → PartFits i there
unfolding turns
named_back None there i byte name e h = none_some there _ e
named_back (Some list) there i byte name e h = none_some there _ e
named_back (Some map) there i byte name e h = colon (eqb byte 58) there e
  where
    colon : (b : Bool) (there : Part) → cond b (Some (member name)) None ≡ Some there → PartFits i there
    colon true there e = let is : member name ≡ there = cc in subst (PartFits i) is h
    colon false there e = none_some there _ e

rest_back : (level : Option Bracket) (there : Part) (i byte : ℕ) → turns level rest byte ≡ Some there → PartFits i there
unfolding turns
rest_back None there i byte e = none_some there _ e
rest_back (Some list) there i byte e = comma (eqb byte 44) there e
  where
    comma : (b : Bool) (there : Part) → cond b (Some next_part) None ≡ Some there → PartFits i there
    comma true there e = let is : next_part ≡ there = cc in subst (PartFits i) is tt
    comma false there e = none_some there _ e
rest_back (Some map) there i byte e = comma (eqb byte 44) there e
  where
    comma : (b : Bool) (there : Part) → cond b (Some next_part) None ≡ Some there → PartFits i there
    comma true there e = let is : next_part ≡ there = cc in subst (PartFits i) is tt
    comma false there e = none_some there _ e

-- a comma or a colon
part_turn : (level : Option Bracket) (here there : Part) (i byte : ℕ) → turns level here byte ≡ Some there → PartFits i here → PartFits i there
unfolding turns
part_turn level (named name) there i byte e h = named_back level there i byte name e h
part_turn level rest there i byte e h = rest_back level there i byte e
part_turn None start there i byte e h = none_some there _ e
part_turn (Some list) start there i byte e h = none_some there _ e
part_turn (Some map) start there i byte e h = none_some there _ e
part_turn None next_part there i byte e h = none_some there _ e
part_turn (Some list) next_part there i byte e h = none_some there _ e
part_turn (Some map) next_part there i byte e h = none_some there _ e
part_turn None (member name) there i byte e h = none_some there _ e
part_turn (Some list) (member name) there i byte e h = none_some there _ e
part_turn (Some map) (member name) there i byte e h = none_some there _ e

-- what a value's name is
record Naming (level : Option Bracket) (i : ℕ) (name : Option Span) : Type 0 where
  is : is_some name ≡ maps level
  before : StandsBefore name i

no_name : (level : Option Bracket) (i : ℕ) (nothing name : Option Span) → maps level ≡ false → nothing ≡ None → Some nothing ≡ Some name → Naming level i name
no_name level i nothing None m is e = record { is = sym m; before = tt }
no_name level i nothing (Some n) m is e = let bad : ⊥ = cc in absurd bad

naming : (level : Option Bracket) (here : Part) (i : ℕ) (name : Option Span) → takes_value level here ≡ Some name → PartFits i here → Naming level i name
unfolding takes_value
naming None start i name e h = no_name None i None name refl refl e
naming None next_part i name e h = no_name None i None name refl refl e
naming None (named n) i name e h = no_name None i None name refl refl e
naming None (member n) i name e h = no_name None i None name refl refl e
naming None rest i name e h = none_some name _ e
naming (Some list) start i name e h = no_name (Some list) i None name refl refl e
naming (Some list) next_part i name e h = no_name (Some list) i None name refl refl e
naming (Some list) (named n) i name e h = no_name (Some list) i None name refl refl e
naming (Some list) (member n) i name e h = no_name (Some list) i None name refl refl e
naming (Some list) rest i name e h = none_some name _ e
naming (Some map) start i name e h = none_some name _ e
naming (Some map) next_part i name e h = none_some name _ e
naming (Some map) (named n) i name e h = none_some name _ e
naming (Some map) (member n) i name e h = let same : Some n ≡ name = cc in subst (Naming (Some map) i) same (record { is = refl; before = h })
naming (Some map) rest i name e h = none_some name _ e

spells_on : (q : Lexeme) (i j : ℕ) (s t : List ℕ) (kind : Kind) → Spells q i s j t kind → i ≤ j
spells_on q i j s t kind (done e) = omega arith
spells_on q i j (byte ∷ s) t kind (more e h) = omega (arith, spells_on _ (suc i) j s t kind h)

text_on : (i j : ℕ) (s t : List ℕ) (kind : Kind) → Spells (plain false) i s j t kind → suc i ≤ j
unfolding ends
text_on i j s t kind (done e) = none_some kind _ e
text_on i j (byte ∷ s) t kind (more e h) = spells_on _ (suc i) j s t kind h

row_from : (names : Bool) (f g m : ℕ) (values : Forest) → f ≤ g → AreInRow names g m values → AreInRow names f m values
row_from names f g m empty le h = tt
row_from names f g m (grows s c l) le h =
    (record { low = omega (arith, le, h.0.low); some = h.0.some; high = h.0.high; name = h.0.name; before = h.0.before; leaf = h.0.leaf }, h.1, h.2)

row_at : (a b : Bool) (f g m n : ℕ) (values : Forest) → a ≡ b → f ≡ g → m ≡ n → AreInRow a f m values → AreInRow b g n values
row_at a b f g m n values ab fg mn h = subst (λ x. AreInRow b g x values) mn (subst (λ x. AreInRow b x m values) fg (subst (λ x. AreInRow x f m values) ab h))

bracket_maps : (bracket : Bracket) → maps (Some bracket) ≡ is_map (bracket_kind bracket)
bracket_maps list = refl
bracket_maps map = refl

bracket_holds : (bracket : Bracket) → is_holder (bracket_kind bracket) ≡ true
bracket_holds list = refl
bracket_holds map = refl

record Row (level : Option Bracket) (i j : ℕ) (values : Forest) : Type 0 where
  end : ℕ
  low : i ≤ end
  closed : end + closing level ≡ j
  are : AreInRow (maps level) i end values

row : (level : Option Bracket) (here : Part) (i j : ℕ) (s t : List ℕ) (values : Forest) → Completes level here i s j t values → PartFits i here → Row level i j values
row level here i j (byte ∷ s) t values (blank b c) fits =
    let r = row level here (suc i) j s t values c (part_on i (suc i) here (omega arith) fits) in
    record { end = r.end; low = omega (arith, r.low); closed = r.closed; are = row_from _ i (suc i) r.end values (omega arith) r.are }
row level here i j (byte ∷ s) t values (word {name = name} {kind = kind} {j = k} {t = u} {values = others} takes b spells c) fits =
    let r = row level rest k j u t others c tt in
    let on = spells_on _ (suc i) k s u kind spells in
    let is = naming level here i name takes fits in
    record {
      end = r.end;
      low = omega (arith, on, r.low);
      closed = r.closed;
      are = (record { low = omega arith; some = omega (arith, on); high = r.low; name = is.is; before = is.before; leaf = λ e. tt }, tt, r.are);
    }
row level here i j (byte ∷ s) t values (nested {name = name} {bracket = bracket} {j = k} {t = u} {children = children} {values = others} takes o inner c) fits =
    let r = row level rest k j u t others c tt in
    let held = row (Some bracket) start (suc i) k s u children inner tt in
    let is = naming level here i name takes fits in
    record {
      end = r.end;
      low = omega (arith, held.low, held.closed, r.low);
      closed = r.closed;
      are = (
        record { low = omega arith; some = omega (arith, held.low, held.closed); high = r.low; name = is.is; before = is.before; leaf = λ e. absurd (let bad : ⊥ = cc (bracket_holds bracket) in bad) },
        row_at _ _ (suc i) (i + 1) held.end (k - 1) children (bracket_maps bracket) (omega arith) (omega (arith, held.closed)) held.are,
        r.are,
      );
    }
row level here i j (byte ∷ s) t values (member_name {j = k} {t = u} takes e spells c) fits =
    let on = text_on (suc i) k s u _ spells in
    let r = row level (named (record { start = i; end = k })) k j u t values c (omega (arith, on), omega arith) in
    record { end = r.end; low = omega (arith, on, r.low); closed = r.closed; are = row_from _ i k r.end values (omega (arith, on)) r.are }
row level here i j (byte ∷ s) t values (turn {after = there} q c) fits =
    let r = row level there (suc i) j s t values c (part_on i (suc i) there (omega arith) (part_turn level here there i byte q fits)) in
    record { end = r.end; low = omega (arith, r.low); closed = r.closed; are = row_from _ i (suc i) r.end values (omega arith) r.are }
row level here i j (byte ∷ s) t values (close c) fits =
    let closed = closes_level level here byte c in
    subst (λ (x : Option Bracket). Row x i (suc i) empty) (sym closed.1) (record { end = i; low = omega arith; closed = omega arith; are = tt })
row level here i j s t values (finish e) fits =
    subst (λ (x : Option Bracket). Row x i i empty) (sym e) (record { end = i; low = omega arith; closed = omega arith; are = tt })

-- the values of a text stand within it, and the one that it is has no name
pub text_in_row : (bytes : List ℕ) (values : Forest) → IsText bytes values → AreInRow false 0 (length bytes) values
text_in_row bytes values h =
    let r = row None start 0 (length bytes) bytes [] values h tt in
    row_at false false 0 0 r.end (length bytes) values refl refl (omega (arith, r.closed)) r.are

-- a value that is still to come doesn't start before the place
pub starts_later : (here : Part) (i j : ℕ) (s t : List ℕ) (spot : Spot) (children later : Forest) → Completes None here i s j t (grows spot children later) → PartFits i here → i ≤ spot.span.start
starts_later here i j s t spot children later c fits = (row None here i j s t (grows spot children later) c fits).are.0.low
