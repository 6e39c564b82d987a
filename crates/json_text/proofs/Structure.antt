-- The grammar's texts are those of the productions.
use Rattle.std.proofs.Common.{◌≡◌, ◌⊎◌, inl, inr, ℕ, suc, Bool, true, false, cond, eqb, List, [], ◌∷◌, ◌++◌, length, Option, Some, None, refl, sym, ap, subst, ◌∙◌, arith}
use Rattle.std.specs.Prelude.{◌↔◌}
use Rattle.json_lexemes.specs.declared.kind.Kind.{Kind}
use Rattle.json_lexemes.specs.declared.kind.Kind.TheVariants as kinds
use Rattle.json_text.specs.declared.spot.Span.{Span}
use Rattle.json_text.specs.declared.spot.Spot.{Spot}
use Rattle.json_text.specs.declared.part.Bracket.{Bracket}
use Rattle.json_text.specs.declared.part.Bracket.TheVariants.{List as list, Map as map}
use Rattle.json_text.specs.declared.part.Part.{Part}
use Rattle.json_text.specs.declared.part.Part.TheVariants.{Start as start, Next as next_part, Named as named, Member as member, Rest as rest}
use Rattle.json_lexemes.specs.declared.lexeme.Lexeme.TheVariants.{Plain as plain}
use Rattle.json_text.specs.Forest.{Forest, empty, grows, one, append}
use Rattle.json_lexemes.specs.Lexeme.{Spells, begins}
use Rattle.json_lexemes.specs.Productions.{inside_of}
use Rattle.json_text.specs.Grammar.{opens, closes, turns, takes_value, takes_name, bracket_kind, Completes, IsText, blank, word, nested, member_name, turn, close, finish}
use Rattle.json_text.specs.Progress.{spot}
use Rattle.json_lexemes.specs.Words.{HasProduced}
use Rattle.json_text.specs.Structure.{Blanks, no_blank, one_blank, Structural, Production, a_value, items, members, Produces, a_word, empty_array, array, empty_object, object, last_item, more_items, last_member, more_members, IsJsonText}
use Rattle.json_text.proofs.Tables.{none_some, false_true, is_it}
use Rattle.json_lexemes.proofs.Accepted.{spelled_out}
use Rattle.json_lexemes.proofs.StringWords.{string_accepts}
use Rattle.json_lexemes.proofs.Productions.{words}
use Rattle.json_text.proofs.Residue.{append-empty, append-assoc}

-- ---- from the grammar to the productions

-- blanks, and then the rest
record After (Goes : ℕ → List ℕ → Type 0) (i : ℕ) (s : List ℕ) : Type 0 where
  k : ℕ
  u : List ℕ
  passed : Blanks i s k u
  goes : Goes k u

-- a byte, blanks, and then the rest
record Behind (byte : ℕ) (Goes : ℕ → List ℕ → Type 0) (i : ℕ) (s : List ℕ) : Type 0 where
  u : List ℕ
  here : s ≡ byte ∷ u
  goes : After Goes (suc i) u

-- the bracket that ends a row
record Ends (byte i : ℕ) (s : List ℕ) (j : ℕ) (t : List ℕ) : Type 0 where
  here : s ≡ byte ∷ t
  far : j ≡ suc i

-- a row of one value at least, with the bracket behind it
record Row (what : Production) (byte i : ℕ) (s : List ℕ) (j : ℕ) (t : List ℕ) (values : Forest) : Type 0 where
  m : ℕ
  v : List ℕ
  e : ℕ
  row : Produces what i s m v values
  ended : Blanks m v e (byte ∷ t)
  far : j ≡ suc e

-- the value of the text, and blanks behind it
record Alone (i : ℕ) (s : List ℕ) (j : ℕ) (t : List ℕ) (values : Forest) : Type 0 where
  m : ℕ
  v : List ℕ
  made : Produces (a_value None) i s m v values
  ended : Blanks m v j t

-- the rest of a row behind a value: its end, or a comma and one more at least
abbrev Rest : Production → ℕ → ℕ → List ℕ → ℕ → List ℕ → Forest → Type 0
Rest what byte i s j t values = (Ends byte i s j t × (values ≡ empty)) ⊎ Behind 44 (λ k u. Row what byte k u j t values) i s

-- the value of a member, and the rest of its row
record Held (name : Span) (i : ℕ) (s : List ℕ) (j : ℕ) (t : List ℕ) (values : Forest) : Type 0 where
  m : ℕ
  v : List ℕ
  first : Forest
  others : Forest
  made : Produces (a_value (Some name)) i s m v first
  left : After (λ k u. Rest members 125 k u j t others) m v
  are : values ≡ append first others

-- what is still to come from a part on that is no blank; of parts that are never reached nothing
abbrev Here : Option Bracket → Part → ℕ → List ℕ → ℕ → List ℕ → Forest → Type 0
Here None start i s j t values = Alone i s j t values
Here None rest i s j t values = (i ≡ j) × (s ≡ t) × (values ≡ empty)
Here None next_part i s j t values = Unit {0}
Here None (named name) i s j t values = Unit {0}
Here None (member name) i s j t values = Unit {0}
Here (Some list) start i s j t values = (Ends 93 i s j t × (values ≡ empty)) ⊎ Row items 93 i s j t values
Here (Some list) next_part i s j t values = Row items 93 i s j t values
Here (Some list) rest i s j t values = Rest items 93 i s j t values
Here (Some list) (named name) i s j t values = Unit {0}
Here (Some list) (member name) i s j t values = Unit {0}
Here (Some map) start i s j t values = (Ends 125 i s j t × (values ≡ empty)) ⊎ Row members 125 i s j t values
Here (Some map) next_part i s j t values = Row members 125 i s j t values
Here (Some map) rest i s j t values = Rest members 125 i s j t values
Here (Some map) (named name) i s j t values = Behind 58 (λ k u. Held name k u j t values) i s
Here (Some map) (member name) i s j t values = Held name i s j t values

abbrev Wants : Option Bracket → Part → ℕ → List ℕ → ℕ → List ℕ → Forest → Type 0
Wants level part_here i s j t values = After (λ k u. Here level part_here k u j t values) i s

at_once : (Goes : ℕ → List ℕ → Type 0) (i : ℕ) (s : List ℕ) → Goes i s → After Goes i s
at_once Goes i s h = record { k = i; u = s; passed = no_blank; goes = h }

struck : (byte i k m : ℕ) (s u v w : List ℕ) → Blanks i s k u → u ≡ byte ∷ w → Blanks (suc k) w m v → Structural byte i s k m v
struck byte i k m s u v w a e b = record { behind = w; before = subst (Blanks i s k) e a; after = b }

-- the last value of a row
row_ends : (what : Production) (byte i m k j : ℕ) (s v u t : List ℕ) (values : Forest) → Produces what i s m v values → Blanks m v k u → Ends byte k u j t → Row what byte i s j t values
row_ends what byte i m k j s v u t values made passed h = record { m = m; v = v; e = k; row = made; ended = subst (Blanks m v k) h.here passed; far = h.far }

alone_empty : (sp : Spot) (c values : Forest) → values ≡ empty → one sp c ≡ grows sp c values
alone_empty sp c values e = ap (λ f. grows sp c f) (sym e)

-- a value in a list
item_on : (i m j : ℕ) (s v t : List ℕ) (sp : Spot) (c values : Forest) → Produces (a_value None) i s m v (one sp c) → After (λ k u. Rest items 93 k u j t values) m v → Row items 93 i s j t (grows sp c values)
item_on i m j s v t sp c values made w = elim w.goes [
  | inl h ↦ subst (λ f. Row items 93 i s j t f) (alone_empty sp c values h.1) (row_ends items 93 i m w.k j s v w.u t (one sp c) (last_item made) w.passed h.0)
  | inr b ↦ (let r = b.goes.goes in record { m = r.m; v = r.v; e = r.e; row = more_items made (struck 44 m w.k b.goes.k v w.u b.goes.u b.u w.passed b.here b.goes.passed) r.row; ended = r.ended; far = r.far })
]

-- a member in a map
member_on : (i k j : ℕ) (s u t : List ℕ) (values : Forest) → HasProduced kinds.Text i s k u → After (λ n x. Here (Some map) (named (record { start = i; end = k })) n x j t values) k u → Row members 125 i s j t values
member_on i k j s u t values name w =
    let colon = w.goes in
    let at_value = colon.goes in
    let held = at_value.goes in
    let point = struck 58 k w.k at_value.k u w.u at_value.u colon.u w.passed colon.here at_value.passed in
    subst (λ f. Row members 125 i s j t f) (sym held.are) (elim held.left.goes [
      | inl h ↦ subst (λ f. Row members 125 i s j t f) (sym (append-empty held.first) ∙ ap (append held.first) (sym h.1)) (row_ends members 125 i held.m held.left.k j s held.v held.left.u t held.first (last_member name point held.made) held.left.passed h.0)
      | inr b ↦ (let r = b.goes.goes in record { m = r.m; v = r.v; e = r.e; row = more_members name point held.made (struck 44 held.m held.left.k b.goes.k held.v held.left.u b.goes.u b.u held.left.passed b.here b.goes.passed) r.row; ended = r.ended; far = r.far })
    ])

value_on : (level : Option Bracket) (part_here : Part) (name : Option Span) (i m j : ℕ) (s v t : List ℕ) (sp : Spot) (c values : Forest) → takes_value level part_here ≡ Some name → Produces (a_value name) i s m v (one sp c) → Wants level rest m v j t values → Here level part_here i s j t (grows sp c values)
unfolding takes_value
value_on None start name i m j s v t sp c values takes made w =
    let own : name ≡ None = cc in
    record {
      m = m;
      v = v;
      made = subst (λ f. Produces (a_value None) i s m v f) (alone_empty sp c values w.goes.2) (subst (λ n. Produces (a_value n) i s m v (one sp c)) own made);
      ended = subst (λ n. Blanks m v n t) w.goes.0 (subst (Blanks m v w.k) w.goes.1 w.passed);
    }
value_on None rest name i m j s v t sp c values takes made w = none_some name _ takes
value_on None next_part name i m j s v t sp c values takes made w = tt
value_on None (named n) name i m j s v t sp c values takes made w = tt
value_on None (member n) name i m j s v t sp c values takes made w = tt
value_on (Some list) start name i m j s v t sp c values takes made w =
    let own : name ≡ None = cc in
    inr (item_on i m j s v t sp c values (subst (λ n. Produces (a_value n) i s m v (one sp c)) own made) w)
value_on (Some list) next_part name i m j s v t sp c values takes made w =
    let own : name ≡ None = cc in
    item_on i m j s v t sp c values (subst (λ n. Produces (a_value n) i s m v (one sp c)) own made) w
value_on (Some list) rest name i m j s v t sp c values takes made w = none_some name _ takes
value_on (Some list) (named n) name i m j s v t sp c values takes made w = tt
value_on (Some list) (member n) name i m j s v t sp c values takes made w = tt
value_on (Some map) start name i m j s v t sp c values takes made w = none_some name _ takes
value_on (Some map) next_part name i m j s v t sp c values takes made w = none_some name _ takes
value_on (Some map) rest name i m j s v t sp c values takes made w = none_some name _ takes
value_on (Some map) (named n) name i m j s v t sp c values takes made w = none_some name _ takes
value_on (Some map) (member n) name i m j s v t sp c values takes made w =
    let own : name ≡ Some n = cc in
    record { m = m; v = v; first = one sp c; others = values; made = subst (λ o. Produces (a_value o) i s m v (one sp c)) own made; left = w; are = refl }

opens_by : (bracket : Bracket) (a b : Bool) → cond a (Some list) (cond b (Some map) None) ≡ Some bracket → (bracket ≡ list → a ≡ true) × (bracket ≡ map → b ≡ true)
opens_by bracket true b h = (λ e. refl, λ e. (let bad : ⊥ = cc in absurd bad))
opens_by bracket false true h = (λ e. (let bad : ⊥ = cc in absurd bad), λ e. refl)
opens_by bracket false false h = none_some bracket _ h

opens_list : (byte : ℕ) → opens byte ≡ Some list → byte ≡ 91
opens_list byte h = is_it byte 91 ((opens_by list (eqb byte 91) (eqb byte 123) h).0 refl)

opens_map : (byte : ℕ) → opens byte ≡ Some map → byte ≡ 123
opens_map byte h = is_it byte 123 ((opens_by map (eqb byte 91) (eqb byte 123) h).1 refl)

-- a list or a map
nested_made : (bracket : Bracket) (name : Option Span) (byte i j : ℕ) (s t : List ℕ) (c : Forest) → opens byte ≡ Some bracket → Wants (Some bracket) start (suc i) s j t c → Produces (a_value name) i (byte ∷ s) j t (one (spot (bracket_kind bracket) i j name) c)
nested_made list name byte i j s t c o w =
    let is : byte ≡ 91 = opens_list byte o in
    let first = struck 91 i i w.k (byte ∷ s) (byte ∷ s) w.u s no_blank (ap (λ b. b ∷ s) is) w.passed in
    elim w.goes [
      | inl h ↦ subst (λ n. Produces (a_value name) i (byte ∷ s) n t (one (spot kinds.List i n name) c)) (sym h.0.far)
          (subst (λ f. Produces (a_value name) i (byte ∷ s) (suc w.k) t (one (spot kinds.List i (suc w.k) name) f)) (sym h.1)
          (empty_array first (struck 93 w.k w.k (suc w.k) w.u w.u t t no_blank h.0.here no_blank)))
      | inr r ↦ subst (λ n. Produces (a_value name) i (byte ∷ s) n t (one (spot kinds.List i n name) c)) (sym r.far)
          (array first r.row (struck 93 r.m r.e (suc r.e) r.v (93 ∷ t) t t r.ended refl no_blank))
    ]
nested_made map name byte i j s t c o w =
    let is : byte ≡ 123 = opens_map byte o in
    let first = struck 123 i i w.k (byte ∷ s) (byte ∷ s) w.u s no_blank (ap (λ b. b ∷ s) is) w.passed in
    elim w.goes [
      | inl h ↦ subst (λ n. Produces (a_value name) i (byte ∷ s) n t (one (spot kinds.Map i n name) c)) (sym h.0.far)
          (subst (λ f. Produces (a_value name) i (byte ∷ s) (suc w.k) t (one (spot kinds.Map i (suc w.k) name) f)) (sym h.1)
          (empty_object first (struck 125 w.k w.k (suc w.k) w.u w.u t t no_blank h.0.here no_blank)))
      | inr r ↦ subst (λ n. Produces (a_value name) i (byte ∷ s) n t (one (spot kinds.Map i n name) c)) (sym r.far)
          (object first r.row (struck 125 r.m r.e (suc r.e) r.v (125 ∷ t) t t r.ended refl no_blank))
    ]

begins_quote : begins 34 ≡ Some (plain false)
unfolding begins
begins_quote = refl

name_made : (byte i j : ℕ) (s t : List ℕ) → byte ≡ 34 → Spells (plain false) (suc i) s j t kinds.Text → HasProduced kinds.Text i (byte ∷ s) j t
name_made byte i j s t e spells = (words kinds.Text i j (byte ∷ s) t).0 (byte, s, plain false, refl, ap begins e ∙ begins_quote, spells)

name_on : (level : Option Bracket) (part_here : Part) (i k j : ℕ) (s u t : List ℕ) (values : Forest) → takes_name level part_here ≡ true → HasProduced kinds.Text i s k u → Wants level (named (record { start = i; end = k })) k u j t values → Here level part_here i s j t values
unfolding takes_name
name_on None part_here i k j s u t values takes name w = absurd (let bad : ⊥ = cc in bad)
name_on (Some list) part_here i k j s u t values takes name w = absurd (let bad : ⊥ = cc in bad)
name_on (Some map) start i k j s u t values takes name w = inr (member_on i k j s u t values name w)
name_on (Some map) next_part i k j s u t values takes name w = member_on i k j s u t values name w
name_on (Some map) rest i k j s u t values takes name w = absurd (let bad : ⊥ = cc in bad)
name_on (Some map) (named n) i k j s u t values takes name w = absurd (let bad : ⊥ = cc in bad)
name_on (Some map) (member n) i k j s u t values takes name w = absurd (let bad : ⊥ = cc in bad)

on_by : (b : Bool) (there after : Part) → cond b (Some there) None ≡ Some after → (b ≡ true) × (after ≡ there)
on_by true there after h = (refl, (let same : after ≡ there = cc in same))
on_by false there after h = none_some after _ h

turn_on : (level : Option Bracket) (part_here : Part) (byte : ℕ) (after : Part) (i j : ℕ) (s t : List ℕ) (values : Forest) → turns level part_here byte ≡ Some after → Wants level after (suc i) s j t values → Here level part_here i (byte ∷ s) j t values
unfolding turns
turn_on None part_here byte after i j s t values q w = none_some after _ q
turn_on (Some list) rest byte after i j s t values q w =
    let e = on_by (eqb byte 44) next_part after q in
    inr (record { u = s; here = ap (λ b. b ∷ s) (is_it byte 44 e.0); goes = subst (λ p. Wants (Some list) p (suc i) s j t values) e.1 w })
turn_on (Some list) start byte after i j s t values q w = none_some after _ q
turn_on (Some list) next_part byte after i j s t values q w = none_some after _ q
turn_on (Some list) (named n) byte after i j s t values q w = tt
turn_on (Some list) (member n) byte after i j s t values q w = tt
turn_on (Some map) rest byte after i j s t values q w =
    let e = on_by (eqb byte 44) next_part after q in
    inr (record { u = s; here = ap (λ b. b ∷ s) (is_it byte 44 e.0); goes = subst (λ p. Wants (Some map) p (suc i) s j t values) e.1 w })
turn_on (Some map) (named n) byte after i j s t values q w =
    let e = on_by (eqb byte 58) (member n) after q in
    record { u = s; here = ap (λ b. b ∷ s) (is_it byte 58 e.0); goes = subst (λ p. Wants (Some map) p (suc i) s j t values) e.1 w }
turn_on (Some map) start byte after i j s t values q w = none_some after _ q
turn_on (Some map) next_part byte after i j s t values q w = none_some after _ q
turn_on (Some map) (member n) byte after i j s t values q w = none_some after _ q

close_on : (level : Option Bracket) (part_here : Part) (byte i : ℕ) (s : List ℕ) → closes level part_here byte ≡ true → Here level part_here i (byte ∷ s) (suc i) s empty
unfolding closes
close_on None part_here byte i s h = false_true _ h
close_on (Some list) start byte i s h = inl (record { here = ap (λ b. b ∷ s) (is_it byte 93 h); far = refl }, refl)
close_on (Some list) rest byte i s h = inl (record { here = ap (λ b. b ∷ s) (is_it byte 93 h); far = refl }, refl)
close_on (Some list) next_part byte i s h = false_true _ h
close_on (Some list) (named n) byte i s h = tt
close_on (Some list) (member n) byte i s h = tt
close_on (Some map) start byte i s h = inl (record { here = ap (λ b. b ∷ s) (is_it byte 125 h); far = refl }, refl)
close_on (Some map) rest byte i s h = inl (record { here = ap (λ b. b ∷ s) (is_it byte 125 h); far = refl }, refl)
close_on (Some map) next_part byte i s h = false_true _ h
close_on (Some map) (named n) byte i s h = false_true _ h
close_on (Some map) (member n) byte i s h = false_true _ h

walk : (level : Option Bracket) (part_here : Part) (i j : ℕ) (s t : List ℕ) (values : Forest) → Completes level part_here i s j t values → Wants level part_here i s j t values
walk level part_here i j (byte ∷ s) t values (blank b c) =
    let w = walk level part_here (suc i) j s t values c in
    record { k = w.k; u = w.u; passed = one_blank b w.passed; goes = w.goes }
walk level part_here i j (byte ∷ s) t values (word {name = name} {kind = kind} {first = first} {j = k} {t = u} {values = others} takes b spells c) =
    at_once (λ n x. Here level part_here n x j t (grows (spot kind i k name) empty others)) i (byte ∷ s)
    (value_on level part_here name i k j (byte ∷ s) u t (spot kind i k name) empty others takes (a_word ((words kind i k (byte ∷ s) u).0 (byte, s, first, refl, b, spells))) (walk level rest k j u t others c))
walk level part_here i j (byte ∷ s) t values (nested {name = name} {bracket = bracket} {j = k} {t = u} {children = children} {values = others} takes o held c) =
    at_once (λ n x. Here level part_here n x j t (grows (spot (bracket_kind bracket) i k name) children others)) i (byte ∷ s)
    (value_on level part_here name i k j (byte ∷ s) u t (spot (bracket_kind bracket) i k name) children others takes (nested_made bracket name byte i k s u children o (walk (Some bracket) start (suc i) k s u children held)) (walk level rest k j u t others c))
walk level part_here i j (byte ∷ s) t values (member_name {j = k} {t = u} takes q spells c) =
    at_once (λ n x. Here level part_here n x j t values) i (byte ∷ s)
    (name_on level part_here i k j (byte ∷ s) u t values takes (name_made byte i k s u q spells) (walk level (named (record { start = i; end = k })) k j u t values c))
walk level part_here i j (byte ∷ s) t values (turn {after = there} q c) =
    at_once (λ n x. Here level part_here n x j t values) i (byte ∷ s) (turn_on level part_here byte there i j s t values q (walk level there (suc i) j s t values c))
walk level part_here i j (byte ∷ s) t values (close c) =
    at_once (λ n x. Here level part_here n x (suc i) s empty) i (byte ∷ s) (close_on level part_here byte i s c)
walk level part_here i j s t values (finish l) =
    subst (λ o. Wants o rest i [] i [] empty) (sym l) (at_once (λ n x. Here None rest n x i [] empty) i [] (refl, refl, refl))

forth : (bytes : List ℕ) (values : Forest) → IsText bytes values → IsJsonText bytes values
forth bytes values h =
    let w = walk None start 0 (length bytes) bytes [] values h in
    record { from = w.k; front = w.u; to = w.goes.m; back = w.goes.v; before = w.passed; produced = w.goes.made; after = w.goes.ended }

-- ---- and back

past : (level : Option Bracket) (part_here : Part) (i j k : ℕ) (s t u : List ℕ) (values : Forest) → Blanks i s j t → Completes level part_here j t k u values → Completes level part_here i s k u values
past level part_here i j k s t u values no_blank c = c
past level part_here i j k (byte ∷ s) t u values (one_blank b h) c = blank b (past level part_here (suc i) j k s t u values h c)

name_back : (part_here : Part) (i k e : ℕ) (s u x : List ℕ) (values : Forest) → takes_name (Some map) part_here ≡ true → HasProduced kinds.Text i s k u → Completes (Some map) (named (record { start = i; end = k })) k u e x values → Completes (Some map) part_here i s e x values
name_back part_here i k e s u x values takes (bytes, is, far, made) c =
    let inner = inside_of made.0 ++ 34 ∷ [] in
    subst (λ l. Completes (Some map) part_here i l e x values) (sym (is ∙ ap (λ l. l ++ u) made.2))
    (member_name takes refl (spelled_out (plain false) (suc i) inner u k kinds.Text (string_accepts inner (record { chars = made.0; are = made.1; is = refl })) (omega (arith, far, ap length made.2))) c)

word_back : (level : Option Bracket) (part_here : Part) (name : Option Span) (kind : Kind) (i k e : ℕ) (s u x : List ℕ) (others : Forest) → takes_value level part_here ≡ Some name → HasProduced kind i s k u → Completes level rest k u e x others → Completes level part_here i s e x (grows (spot kind i k name) empty others)
word_back level part_here name kind i k e s u x others takes p c =
    let h = (words kind i k s u).1 p in
    subst (λ l. Completes level part_here i l e x (grows (spot kind i k name) empty others)) (sym h.3) (word takes h.4 h.5 c)

list_takes : (takes_value (Some list) start ≡ Some None) × (takes_value (Some list) next_part ≡ Some None) × (takes_value None start ≡ Some None)
unfolding takes_value
list_takes = (refl, refl, refl)

member_takes : (name : Span) → takes_value (Some map) (member name) ≡ Some (Some name)
unfolding takes_value
member_takes name = refl

map_takes : (takes_name (Some map) start ≡ true) × (takes_name (Some map) next_part ≡ true)
unfolding takes_name
map_takes = (refl, refl)

all_close : (closes (Some list) start 93 ≡ true) × (closes (Some list) rest 93 ≡ true) × (closes (Some map) start 125 ≡ true) × (closes (Some map) rest 125 ≡ true)
unfolding closes
all_close = (refl, refl, refl, refl)

commas : (turns (Some list) rest 44 ≡ Some next_part) × (turns (Some map) rest 44 ≡ Some next_part)
unfolding turns
commas = (refl, refl)

colon_turns : (name : Span) → turns (Some map) (named name) 58 ≡ Some (member name)
unfolding turns
colon_turns name = refl

-- what a production leads through
abbrev Leads : Production → ℕ → List ℕ → ℕ → List ℕ → Forest → Type 0
Leads (a_value name) i s k u values = (level : Option Bracket) (part_here : Part) (e : ℕ) (x : List ℕ) (others : Forest) → takes_value level part_here ≡ Some name → Completes level rest k u e x others → Completes level part_here i s e x (append values others)
Leads items i s k u values = (part_here : Part) (e : ℕ) (x : List ℕ) (others : Forest) → takes_value (Some list) part_here ≡ Some None → Completes (Some list) rest k u e x others → Completes (Some list) part_here i s e x (append values others)
Leads members i s k u values = (part_here : Part) (e : ℕ) (x : List ℕ) (others : Forest) → takes_name (Some map) part_here ≡ true → Completes (Some map) rest k u e x others → Completes (Some map) part_here i s e x (append values others)

leads : (what : Production) (i k : ℕ) (s u : List ℕ) (values : Forest) → Produces what i s k u values → Leads what i s k u values
leads (a_value name) i k s u values (a_word {kind = kind} p) = λ level part_here e x others takes c. word_back level part_here name kind i k e s u x others takes p c
leads (a_value name) i k s u values (empty_array {at = at} {k = k1} {end = end} {u = u1} o h) = λ level part_here e x others takes c.
    past level part_here i at e s (91 ∷ o.behind) x (grows (spot kinds.List at (suc end) name) empty others) o.before
    (nested {bracket = list} takes refl (past (Some list) start (suc at) k1 (suc end) o.behind u1 h.behind empty o.after (past (Some list) start k1 end (suc end) u1 (93 ∷ h.behind) h.behind empty h.before (close all_close.0)))
    (past level rest (suc end) k e h.behind u x others h.after c))
leads (a_value name) i k s u values (array {at = at} {k = k1} {m = m} {end = end} {u = u1} {v = v} {held = held} o r h) = λ level part_here e x others takes c.
    past level part_here i at e s (91 ∷ o.behind) x (grows (spot kinds.List at (suc end) name) held others) o.before
    (nested {bracket = list} takes refl (past (Some list) start (suc at) k1 (suc end) o.behind u1 h.behind held o.after
    (subst (λ f. Completes (Some list) start k1 u1 (suc end) h.behind f) (append-empty held)
    (leads items k1 m u1 v held r start (suc end) h.behind empty list_takes.0 (past (Some list) rest m end (suc end) v (93 ∷ h.behind) h.behind empty h.before (close all_close.1)))))
    (past level rest (suc end) k e h.behind u x others h.after c))
leads (a_value name) i k s u values (empty_object {at = at} {k = k1} {end = end} {u = u1} o h) = λ level part_here e x others takes c.
    past level part_here i at e s (123 ∷ o.behind) x (grows (spot kinds.Map at (suc end) name) empty others) o.before
    (nested {bracket = map} takes refl (past (Some map) start (suc at) k1 (suc end) o.behind u1 h.behind empty o.after (past (Some map) start k1 end (suc end) u1 (125 ∷ h.behind) h.behind empty h.before (close all_close.2)))
    (past level rest (suc end) k e h.behind u x others h.after c))
leads (a_value name) i k s u values (object {at = at} {k = k1} {m = m} {end = end} {u = u1} {v = v} {held = held} o r h) = λ level part_here e x others takes c.
    past level part_here i at e s (123 ∷ o.behind) x (grows (spot kinds.Map at (suc end) name) held others) o.before
    (nested {bracket = map} takes refl (past (Some map) start (suc at) k1 (suc end) o.behind u1 h.behind held o.after
    (subst (λ f. Completes (Some map) start k1 u1 (suc end) h.behind f) (append-empty held)
    (leads members k1 m u1 v held r start (suc end) h.behind empty map_takes.0 (past (Some map) rest m end (suc end) v (125 ∷ h.behind) h.behind empty h.before (close all_close.3)))))
    (past level rest (suc end) k e h.behind u x others h.after c))
leads items i k s u values (last_item p) = λ part_here e x others takes c. leads (a_value None) i k s u values p (Some list) part_here e x others takes c
leads items i k s u values (more_items {k = k1} {at = at} {m = m} {u = u1} {v = v} {first = first} {others = more} p comma q) = λ part_here e x others takes c.
    subst (λ f. Completes (Some list) part_here i s e x f) (sym (append-assoc first more others))
    (leads (a_value None) i k1 s u1 first p (Some list) part_here e x (append more others) takes
    (past (Some list) rest k1 at e u1 (44 ∷ comma.behind) x (append more others) comma.before
    (turn commas.0 (past (Some list) next_part (suc at) m e comma.behind v x (append more others) comma.after
    (leads items m k v u more q next_part e x others list_takes.1 c)))))
leads members i k s u values (last_member {k = k1} {at = at} {m = m} {u = u1} {v = v} name point p) = λ part_here e x others takes c.
    let own : Span = record { start = i; end = k1 } in
    name_back part_here i k1 e s u1 x (append values others) takes name
    (past (Some map) (named own) k1 at e u1 (58 ∷ point.behind) x (append values others) point.before
    (turn (colon_turns own) (past (Some map) (member own) (suc at) m e point.behind v x (append values others) point.after
    (leads (a_value (Some own)) m k v u values p (Some map) (member own) e x others (member_takes own) c))))
leads members i k s u values (more_members {k = k1} {at = at} {m = m} {n = n} {comma = at_comma} {p = p1} {u = u1} {v = v} {w = w} {x = x1} {first = first} {others = more} name point p comma q) = λ part_here e x others takes c.
    let own : Span = record { start = i; end = k1 } in
    subst (λ f. Completes (Some map) part_here i s e x f) (sym (append-assoc first more others))
    (name_back part_here i k1 e s u1 x (append first (append more others)) takes name
    (past (Some map) (named own) k1 at e u1 (58 ∷ point.behind) x (append first (append more others)) point.before
    (turn (colon_turns own) (past (Some map) (member own) (suc at) m e point.behind v x (append first (append more others)) point.after
    (leads (a_value (Some own)) m n v w first p (Some map) (member own) e x (append more others) (member_takes own)
    (past (Some map) rest n at_comma e w (44 ∷ comma.behind) x (append more others) comma.before
    (turn commas.1 (past (Some map) next_part (suc at_comma) p1 e comma.behind x1 x (append more others) comma.after
    (leads members p1 k x1 u more q next_part e x others map_takes.1 c)))))))))

back : (bytes : List ℕ) (values : Forest) → IsJsonText bytes values → IsText bytes values
back bytes values h =
    past None start 0 h.from (length bytes) bytes h.front [] values h.before
    (subst (λ f. Completes None start h.from h.front (length bytes) [] f) (append-empty values)
    (leads (a_value None) h.from h.to h.front h.back values h.produced None start (length bytes) [] empty list_takes.2
    (past None rest h.to (length bytes) (length bytes) h.back [] [] empty h.after (finish refl))))

pub structure : (bytes : List ℕ) (values : Forest) → IsText bytes values ↔ IsJsonText bytes values
structure bytes values = (λ h. forth bytes values h, λ h. back bytes values h)

-- a text is one value
pub record IsOne (values : Forest) : Type 0 where
  pub first : Spot
  pub children : Forest
  pub is : values ≡ one first children

made_one : (name : Option Span) (i k : ℕ) (s u : List ℕ) (values : Forest) → Produces (a_value name) i s k u values → IsOne values
made_one name i k s u values (a_word {kind = kind} p) = record { first = spot kind i k name; children = empty; is = refl }
made_one name i k s u values (empty_array {at = at} {end = end} o h) = record { first = spot kinds.List at (suc end) name; children = empty; is = refl }
made_one name i k s u values (array {at = at} {end = end} {held = held} o r h) = record { first = spot kinds.List at (suc end) name; children = held; is = refl }
made_one name i k s u values (empty_object {at = at} {end = end} o h) = record { first = spot kinds.Map at (suc end) name; children = empty; is = refl }
made_one name i k s u values (object {at = at} {end = end} {held = held} o r h) = record { first = spot kinds.Map at (suc end) name; children = held; is = refl }

pub text_is_one : (bytes : List ℕ) (values : Forest) → IsText bytes values → IsOne values
text_is_one bytes values h = let t = forth bytes values h in made_one None t.from t.to t.front t.back values t.produced
