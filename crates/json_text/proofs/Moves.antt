-- What completes a list or a map does so at other places, whatever follows.
use Rattle.std.proofs.Common.{◌≡◌, ℕ, zero, suc, ◌+◌, ◌-◌, ◌≤◌, Bool, true, false, cond, eqb, List, [], ◌∷◌, ◌++◌, length, take, drop, Option, Some, None, refl, sym, ap, subst, ◌∙◌, arith, append_assoc, append-nil, length-append}
use Rattle.std.proofs.lemmas.List.{take-append-le, take_all, drop-drop}
use Rattle.json_lexemes.specs.declared.kind.Kind.{Kind}
use Rattle.json_lexemes.specs.declared.kind.Kind.TheVariants as kinds
use Rattle.json_text.specs.declared.spot.Span.{Span}
use Rattle.json_text.specs.declared.spot.Spot.{Spot}
use Rattle.json_text.specs.Shape.{value_bytes, is_holder, levels, nesting}
use Rattle.json_text.specs.declared.part.Bracket.{Bracket}
use Rattle.json_text.specs.declared.part.Bracket.TheVariants.{List as list, Map as map}
use Rattle.json_text.specs.declared.part.Part.{Part}
use Rattle.json_text.specs.declared.part.Part.TheVariants.{Start as start, Next as next_part, Named as named, Member as member, Rest as rest}
use Rattle.json_lexemes.specs.declared.lexeme.Lexeme.{Lexeme}
use Rattle.json_lexemes.specs.declared.lexeme.Lexeme.TheVariants.{Plain as plain}
use Rattle.json_lexemes.specs.Lexeme.{begins, ends}
use Rattle.json_text.specs.Forest.{Forest, empty, grows, one}
use Rattle.json_text.specs.Grammar.{bracket_kind, opens, closes, turns, takes_value, takes_name}
use Rattle.json_text.specs.Moved.{moved_span, moved_name, moved, back, alone}
use Rattle.json_lexemes.proofs.Courses.{Course}
use Rattle.json_lexemes.proofs.StringTails.{whole_word}
use Rattle.json_text.proofs.Clear.{Clear, c_blank, c_word, c_nested, c_name, c_turn, c_close, c_finish}
use Rattle.json_text.proofs.ValueFacts.{EachValue}
use Rattle.json_text.proofs.Readable.{drop_tail}
use Rattle.json_text.proofs.Tables.{some_none}

abbrev moved_part : (ℕ → ℕ) → Part → Part
moved_part to start = start
moved_part to next_part = next_part
moved_part to (named name) = named (moved_span to name)
moved_part to (member name) = member (moved_span to name)
moved_part to rest = rest

closes_moved : (to : ℕ → ℕ) (level : Option Bracket) (here : Part) (byte : ℕ) → closes level (moved_part to here) byte ≡ closes level here byte
unfolding closes
closes_moved to None here byte = refl
closes_moved to (Some list) start byte = refl
closes_moved to (Some list) next_part byte = refl
closes_moved to (Some list) (named name) byte = refl
closes_moved to (Some list) (member name) byte = refl
closes_moved to (Some list) rest byte = refl
closes_moved to (Some map) start byte = refl
closes_moved to (Some map) next_part byte = refl
closes_moved to (Some map) (named name) byte = refl
closes_moved to (Some map) (member name) byte = refl
closes_moved to (Some map) rest byte = refl

names_moved : (to : ℕ → ℕ) (level : Option Bracket) (here : Part) → takes_name level (moved_part to here) ≡ takes_name level here
unfolding takes_name
names_moved to None start = refl
names_moved to None next_part = refl
names_moved to None (named name) = refl
names_moved to None (member name) = refl
names_moved to None rest = refl
names_moved to (Some list) start = refl
names_moved to (Some list) next_part = refl
names_moved to (Some list) (named name) = refl
names_moved to (Some list) (member name) = refl
names_moved to (Some list) rest = refl
names_moved to (Some map) start = refl
names_moved to (Some map) next_part = refl
names_moved to (Some map) (named name) = refl
names_moved to (Some map) (member name) = refl
names_moved to (Some map) rest = refl

abbrev takes_if : (ℕ → ℕ) → Option (Option Span) → Option (Option Span)
takes_if to None = None
takes_if to (Some name) = Some (moved_name to name)

values_moved : (to : ℕ → ℕ) (level : Option Bracket) (here : Part) → takes_value level (moved_part to here) ≡ takes_if to (takes_value level here)
unfolding takes_value
values_moved to None start = refl
values_moved to None next_part = refl
values_moved to None (named name) = refl
values_moved to None (member name) = refl
values_moved to None rest = refl
values_moved to (Some list) start = refl
values_moved to (Some list) next_part = refl
values_moved to (Some list) (named name) = refl
values_moved to (Some list) (member name) = refl
values_moved to (Some list) rest = refl
values_moved to (Some map) start = refl
values_moved to (Some map) next_part = refl
values_moved to (Some map) (named name) = refl
values_moved to (Some map) (member name) = refl
values_moved to (Some map) rest = refl

abbrev part_if : (ℕ → ℕ) → Option Part → Option Part
part_if to None = None
part_if to (Some here) = Some (moved_part to here)

on_moved : (to : ℕ → ℕ) (b : Bool) (there : Part) → cond b (Some (moved_part to there)) None ≡ part_if to (cond b (Some there) None)
on_moved to true there = refl
on_moved to false there = refl

turns_moved : (to : ℕ → ℕ) (level : Option Bracket) (here : Part) (byte : ℕ) → turns level (moved_part to here) byte ≡ part_if to (turns level here byte)
unfolding turns
turns_moved to None here byte = refl
turns_moved to (Some list) rest byte = on_moved to (eqb byte 44) next_part
turns_moved to (Some list) start byte = refl
turns_moved to (Some list) next_part byte = refl
turns_moved to (Some list) (named name) byte = refl
turns_moved to (Some list) (member name) byte = refl
turns_moved to (Some map) rest byte = on_moved to (eqb byte 44) next_part
turns_moved to (Some map) (named name) byte = on_moved to (eqb byte 58) (member name)
turns_moved to (Some map) start byte = refl
turns_moved to (Some map) next_part byte = refl
turns_moved to (Some map) (member name) byte = refl

-- one place further on is one place further on
abbrev pub Steady : (ℕ → ℕ) → ℕ → Type 0
Steady to i = (p : ℕ) → i ≤ p → to (suc p) ≡ suc (to p)

steady_from : (to : ℕ → ℕ) (i k : ℕ) → Steady to i → i ≤ k → Steady to k
steady_from to i k h le p lp = h p (omega (arith, le, lp))

steady_add : (to : ℕ → ℕ) (i n : ℕ) → Steady to i → to (i + n) ≡ to i + n
steady_add to i zero h = ap to (let e : i + zero ≡ i = omega arith in e) ∙ (let e : to i ≡ to i + zero = omega arith in e)
steady_add to i (suc n) h =
    let e : i + suc n ≡ suc (i + n) = omega arith in
    let f : suc (to i + n) ≡ to i + suc n = omega arith in
    ap to e ∙ h (i + n) (omega arith) ∙ ap suc (steady_add to i n h) ∙ f

-- the bytes of a row that ends with its bracket
pub record Cut (to : ℕ → ℕ) (level : Option Bracket) (here : Part) (i j : ℕ) (s t : List ℕ) (values : Forest) : Type 0 where
  pub bytes : List ℕ
  pub are : s ≡ bytes ++ t
  pub far : j ≡ i + length bytes
  pub again : (more : List ℕ) → Clear level (moved_part to here) (to i) (bytes ++ more) (to j) more (moved to values)

moved_end : (to : ℕ → ℕ) (i k n : ℕ) → Steady to i → k ≡ suc i + n → to k ≡ suc (to i) + n
moved_end to i k n steady e = ap to e ∙ steady_add to (suc i) n (steady_from to i (suc i) steady (omega arith)) ∙ ap (λ p. p + n) (steady i (omega arith))

joined : (s w u h t : List ℕ) → s ≡ w ++ u → u ≡ h ++ t → s ≡ (w ++ h) ++ t
joined s w u h t a b = a ∙ ap (λ l. w ++ l) b ∙ sym (append_assoc w h t)

pub cut : (to : ℕ → ℕ) (level : Option Bracket) (here : Part) (i j : ℕ) (s t : List ℕ) (values : Forest) (bracket : Bracket) → Clear level here i s j t values → level ≡ Some bracket → Steady to i → Cut to level here i j s t values
cut to level here i j (byte ∷ s) t values bracket (c_blank b c) inner steady =
    let h = cut to level here (suc i) j s t values bracket c inner (steady_from to i (suc i) steady (omega arith)) in
    record {
      bytes = byte ∷ h.bytes;
      are = ap (λ l. byte ∷ l) h.are;
      far = omega (arith, h.far);
      again = λ more. c_blank b (subst (λ p. Clear level (moved_part to here) p (h.bytes ++ more) (to j) more (moved to values)) (steady i (omega arith)) (h.again more));
    }
cut to level here i j (byte ∷ s) t values bracket (c_turn {there = there} q c) inner steady =
    let h = cut to level there (suc i) j s t values bracket c inner (steady_from to i (suc i) steady (omega arith)) in
    record {
      bytes = byte ∷ h.bytes;
      are = ap (λ l. byte ∷ l) h.are;
      far = omega (arith, h.far);
      again = λ more. c_turn (turns_moved to level here byte ∙ ap (part_if to) q) (subst (λ p. Clear level (moved_part to there) p (h.bytes ++ more) (to j) more (moved to values)) (steady i (omega arith)) (h.again more));
    }
cut to level here i j (byte ∷ s) t values bracket (c_close c) inner steady = record {
  bytes = byte ∷ [];
  are = refl;
  far = omega arith;
  again = λ more. subst (λ p. Clear level (moved_part to here) (to i) (byte ∷ more) p more empty) (sym (steady i (omega arith))) (c_close (closes_moved to level here byte ∙ c));
}
cut to level here i j (byte ∷ s) t values bracket (c_name {last = last} {j = k} {t = u} takes e course over far c) inner steady =
    let w = whole_word (plain false) last s u kinds.Text course over in
    let ahead_is : k ≡ suc i + length w.bytes = omega (arith, far, ap length w.are, length-append w.bytes u) in
    let on : i ≤ k = omega (arith, ahead_is) in
    let h = cut to level (named (record { start = i; end = k })) k j u t values bracket c inner (steady_from to i k steady on) in
    let there : to k ≡ suc (to i) + length w.bytes = moved_end to i k (length w.bytes) steady ahead_is in
    record {
      bytes = byte ∷ (w.bytes ++ h.bytes);
      are = ap (λ l. byte ∷ l) (joined s w.bytes u h.bytes t w.are h.are);
      far = omega (arith, ahead_is, h.far, length-append w.bytes h.bytes);
      again = λ more. subst (λ l. Clear level (moved_part to here) (to i) (byte ∷ l) (to j) more (moved to values)) (sym (append_assoc w.bytes h.bytes more))
          (c_name (names_moved to level here ∙ takes) e (w.again (h.bytes ++ more)) over (omega (arith, there, length-append w.bytes (h.bytes ++ more))) (h.again more));
    }
cut to level here i j (byte ∷ s) t values bracket (c_word {name = name} {kind = kind} {first = first} {last = last} {j = k} {t = u} {values = others} takes b course over far c) inner steady =
    let w = whole_word first last s u kind course over in
    let ahead_is : k ≡ suc i + length w.bytes = omega (arith, far, ap length w.are, length-append w.bytes u) in
    let on : i ≤ k = omega (arith, ahead_is) in
    let h = cut to level rest k j u t others bracket c inner (steady_from to i k steady on) in
    let there : to k ≡ suc (to i) + length w.bytes = moved_end to i k (length w.bytes) steady ahead_is in
    record {
      bytes = byte ∷ (w.bytes ++ h.bytes);
      are = ap (λ l. byte ∷ l) (joined s w.bytes u h.bytes t w.are h.are);
      far = omega (arith, ahead_is, h.far, length-append w.bytes h.bytes);
      again = λ more. subst (λ l. Clear level (moved_part to here) (to i) (byte ∷ l) (to j) more (moved to values)) (sym (append_assoc w.bytes h.bytes more))
          (c_word (values_moved to level here ∙ ap (takes_if to) takes) b (w.again (h.bytes ++ more)) over (omega (arith, there, length-append w.bytes (h.bytes ++ more))) (h.again more));
    }
cut to level here i j (byte ∷ s) t values bracket (c_nested {name = name} {bracket = own} {j = k} {t = u} {children = children} {values = others} takes o held c) inner steady =
    let w = cut to (Some own) start (suc i) k s u children own held refl (steady_from to i (suc i) steady (omega arith)) in
    let on : i ≤ k = omega (arith, w.far) in
    let h = cut to level rest k j u t others bracket c inner (steady_from to i k steady on) in
    record {
      bytes = byte ∷ (w.bytes ++ h.bytes);
      are = ap (λ l. byte ∷ l) (joined s w.bytes u h.bytes t w.are h.are);
      far = omega (arith, w.far, h.far, length-append w.bytes h.bytes);
      again = λ more. subst (λ l. Clear level (moved_part to here) (to i) (byte ∷ l) (to j) more (moved to values)) (sym (append_assoc w.bytes h.bytes more))
          (c_nested (values_moved to level here ∙ ap (takes_if to) takes) o (subst (λ p. Clear (Some own) start p (w.bytes ++ (h.bytes ++ more)) (to k) (h.bytes ++ more) (moved to children)) (steady i (omega arith)) (w.again (h.bytes ++ more))) (h.again more));
    }
cut to level here i j s t values bracket (c_finish e) inner steady = some_none bracket _ (sym inner ∙ e)

-- ---- a value by itself

taken : (bytes : List ℕ) (i k byte : ℕ) (s w u : List ℕ) → byte ∷ s ≡ drop i bytes → s ≡ w ++ u → k ≡ suc i + length w → take (k - i) (drop i bytes) ≡ byte ∷ w
taken bytes i k byte s w u here split far =
    let n : k - i ≡ suc (length w) = omega (arith, far) in
    ap (λ m. take m (drop i bytes)) n ∙ ap (take (suc (length w))) (sym here ∙ ap (λ l. byte ∷ l) split) ∙ ap (λ l. byte ∷ l) (take-append-le (length w) w u (omega arith) ∙ take_all (length w) w (omega arith))

pub takes_first : takes_value None start ≡ Some None
unfolding takes_value
takes_first = refl

-- a text by itself in which no surrogate stands alone
abbrev pub IsClearText : List ℕ → Forest → Type 0
IsClearText bytes values = Clear None start 0 bytes (length bytes) [] values

abbrev pub IsClearAlone : List ℕ → Spot → Forest → Type 0
IsClearAlone bytes spot children = IsClearText (value_bytes bytes spot) (alone spot children)

word_alone : (byte : ℕ) (w : List ℕ) (kind : Kind) (first last : Lexeme) → begins byte ≡ Some first → Course first w [] last → ends last ≡ Some kind → IsClearText (byte ∷ w) (one (record { kind = kind; span = record { start = 0; end = suc (length w) }; name = None }) empty)
word_alone byte w kind first last b course over = c_word takes_first b course over (omega arith) (c_finish refl)

nested_alone : (byte : ℕ) (w : List ℕ) (bracket : Bracket) (children : Forest) → opens byte ≡ Some bracket → Clear (Some bracket) start 1 w (suc (length w)) [] children → IsClearText (byte ∷ w) (one (record { kind = bracket_kind bracket; span = record { start = 0; end = suc (length w) }; name = None }) children)
nested_alone byte w bracket children o held = c_nested takes_first o held (c_finish refl)

-- where its bytes and its places are
placed_alone : (bytes all : List ℕ) (i k n : ℕ) (kind : Kind) (name : Option Span) (children : Forest) → take (k - i) (drop i bytes) ≡ all → k - i ≡ n → IsClearText all (one (record { kind = kind; span = record { start = 0; end = n }; name = None }) (moved (back i) children)) → IsClearAlone bytes (record { kind = kind; span = record { start = i; end = k }; name = name }) children
placed_alone bytes all i k n kind name children e far h =
    let first : 0 ≡ i - i = omega arith in
    subst (λ b. IsClearText b (one (record { kind = kind; span = record { start = i - i; end = k - i }; name = None }) (moved (back i) children))) (sym e)
    (subst (λ m. IsClearText all (one (record { kind = kind; span = record { start = i - i; end = m }; name = None }) (moved (back i) children))) (sym far)
    (subst (λ m. IsClearText all (one (record { kind = kind; span = record { start = m; end = n }; name = None }) (moved (back i) children))) first h))

steady_back : (i : ℕ) → Steady (back i) (suc i)
steady_back i p le = omega (arith, le)

rest_of : (bytes : List ℕ) (i k byte : ℕ) (s w u : List ℕ) → byte ∷ s ≡ drop i bytes → s ≡ w ++ u → k ≡ suc i + length w → u ≡ drop k bytes
rest_of bytes i k byte s w u here split far =
    drop_front w u ∙ ap (drop (length w)) (sym split) ∙ ap (drop (suc (length w))) here ∙ drop-drop (suc (length w)) i bytes ∙ ap (λ n. drop n bytes) (let e : i + suc (length w) ≡ k = omega (arith, far) in e)
  where
    drop_front : (w u : List ℕ) → u ≡ drop (length w) (w ++ u)
    drop_front [] u = refl
    drop_front (x ∷ w) u = drop_front w u

-- each value of a row is a text by itself
each_alone : (bytes : List ℕ) (level : Option Bracket) (here : Part) (i j : ℕ) (s t : List ℕ) (values : Forest) → Clear level here i s j t values → s ≡ drop i bytes → EachValue (IsClearAlone bytes) values
each_alone bytes level here i j (byte ∷ s) t values (c_blank b c) e = each_alone bytes level here (suc i) j s t values c (drop_tail bytes i byte s e)
each_alone bytes level here i j (byte ∷ s) t values (c_turn {there = there} q c) e = each_alone bytes level there (suc i) j s t values c (drop_tail bytes i byte s e)
each_alone bytes level here i j (byte ∷ s) t values (c_close c) e = tt
each_alone bytes level here i j s t values (c_finish l) e = tt
each_alone bytes level here i j (byte ∷ s) t values (c_name {last = last} {j = k} {t = u} takes q course over far c) e =
    let w = whole_word (plain false) last s u kinds.Text course over in
    let ahead_is : k ≡ suc i + length w.bytes = omega (arith, far, ap length w.are, length-append w.bytes u) in
    each_alone bytes level (named (record { start = i; end = k })) k j u t values c (rest_of bytes i k byte s w.bytes u e w.are ahead_is)
each_alone bytes level here i j (byte ∷ s) t values (c_word {name = name} {kind = kind} {first = first} {last = last} {j = k} {t = u} {values = others} takes b course over far c) e =
    let w = whole_word first last s u kind course over in
    let ahead_is : k ≡ suc i + length w.bytes = omega (arith, far, ap length w.are, length-append w.bytes u) in
    let n : k - i ≡ suc (length w.bytes) = omega (arith, ahead_is) in
    let inside : Course first w.bytes [] last = subst (λ l. Course first l [] last) (append-nil w.bytes) (w.again []) in (
      placed_alone bytes (byte ∷ w.bytes) i k (suc (length w.bytes)) kind name empty (taken bytes i k byte s w.bytes u e w.are ahead_is) n (word_alone byte w.bytes kind first last b inside over),
      tt,
      each_alone bytes level rest k j u t others c (rest_of bytes i k byte s w.bytes u e w.are ahead_is),
    )
each_alone bytes level here i j (byte ∷ s) t values (c_nested {name = name} {bracket = own} {j = k} {t = u} {children = children} {values = others} takes o held c) e =
    let w = cut (back i) (Some own) start (suc i) k s u children own held refl (steady_back i) in
    let n : k - i ≡ suc (length w.bytes) = omega (arith, w.far) in
    let at : suc i - i ≡ 1 = omega arith in
    let inside : Clear (Some own) start 1 w.bytes (suc (length w.bytes)) [] (moved (back i) children) =
    subst (λ l. Clear (Some own) start 1 l (suc (length w.bytes)) [] (moved (back i) children)) (append-nil w.bytes)
    (subst (λ m. Clear (Some own) start 1 (w.bytes ++ []) m [] (moved (back i) children)) n
    (subst (λ m. Clear (Some own) start m (w.bytes ++ []) (k - i) [] (moved (back i) children)) at (w.again []))) in (
      placed_alone bytes (byte ∷ w.bytes) i k (suc (length w.bytes)) (bracket_kind own) name children (taken bytes i k byte s w.bytes u e w.are w.far) n (nested_alone byte w.bytes own (moved (back i) children) o inside),
      each_alone bytes (Some own) start (suc i) k s u children held (drop_tail bytes i byte s e),
      each_alone bytes level rest k j u t others c (rest_of bytes i k byte s w.bytes u e w.are w.far),
    )

pub all_alone : (bytes : List ℕ) (values : Forest) → IsClearText bytes values → EachValue (IsClearAlone bytes) values
all_alone bytes values h = each_alone bytes None start 0 (length bytes) bytes [] values h refl

pub nesting_moved : (to : ℕ → ℕ) (values : Forest) → nesting (moved to values) ≡ nesting values
unfolding nesting
nesting_moved to empty = refl
nesting_moved to (grows s c l) = omega (arith, ap (levels (is_holder s.kind)) (nesting_moved to c), nesting_moved to l)

-- a value by itself is nested as it was
pub alone_low : (spot : Spot) (children : Forest) → levels (is_holder spot.kind) (nesting children) ≤ 64 → nesting (alone spot children) ≤ 64
unfolding nesting
alone_low spot children low = omega (arith, low, ap (levels (is_holder spot.kind)) (nesting_moved (back spot.span.start) children))
