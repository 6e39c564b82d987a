-- Lines and their marks: what is placed line by line is what the marks lead to.
use Rattle.std.proofs.Common.{◌≡◌, ℕ, Bool, true, false, ◌&&◌, ◌||◌, ◌==◌, List, [], ◌∷◌, ◌++◌, refl, sym, ap, subst, ◌∙◌, append_assoc, append-nil, arith, Option, Some, None, Result, Ok, Err}
use Rattle.std.specs.Prelude.{nat_lt, if◌then◌else◌}
use Rattle.yaml_lines.specs.Leaf.{Leaf}
use Rattle.yaml_lines.specs.LineParts.{Line, Name, Value, Parts, dashed, member, alone, name_in, value_in, column_of, first_of, Spelled, good, left_out, wrong}
use Rattle.yaml_subset.specs.declared.error.YamlErr.{YamlErr}
use Rattle.yaml_subset.specs.declared.error.YamlErr.TheVariants.{LeftOut, Repeated}
use Rattle.yaml_subset.specs.declared.open.Holder.{Holder}
use Rattle.yaml_subset.specs.declared.open.Holder.TheVariants as holders
use Rattle.yaml_subset.specs.Tree.{What, absent, leaf, rows, Forest, empty}
use Rattle.yaml_subset.specs.Layout.{Mark, Says, start, item, named, value, nests}
use Rattle.yaml_subset.specs.Front.{Frame, Front, IsFront}
use Rattle.yaml_subset.specs.Line.{text_said, start_marks, name_marks, leaf_marks, value_marks, part_marks, line_marks, IsGood, IsGoodName, IsGoodValue, IsClean}
use Rattle.yaml_subset.specs.Refusal.{is_holder, is_absent, is_plain, turned, turned_or, may_begin, may_have, is_deep, has_column, Misplaced, too_deep, misplaced_in, with_row, with_lead, with_value, name_is_taken, is_repeated, at_line, ◌>>=◌, with_start, with_name, counts_as_level, leaf_said, with_leaf, with_parts, goes_on, byte_left_out, name_left_out, value_left_out, first_of_two, what_left_out, is_wrong, wrong_name_in, wrong_value_in, has_wrong, repeats, placed, unless_left_out, unless_goes_on, after_line}
use Rattle.yaml_subset.proofs.Machine.{run, said, led, had, kept}
use Rattle.yaml_subset.proofs.Sound.{lead_sound, value_sound, same_holder}

-- a document begins in column 0
abbrev pub IsSayable : ℕ → Says → Type 0
IsSayable column start = column ≡ 0
IsSayable column item = Unit {0}
IsSayable column (named name) = Unit {0}
IsSayable column (value v) = Unit {0}

unfoldable pub AreSayable : List Mark → Type 0
AreSayable [] = Unit {0}
AreSayable (m ∷ ms) = IsSayable m.column m.says × AreSayable ms

none_some : (f : Front) → None ≡ Some f → ⊥
none_some f e = cc

abbrev pub fine : Front → Result Front Misplaced
fine front = Ok front

led_some : (r : Result Front Misplaced) (next : Front) → led r ≡ Some next → (r ≡ Ok next) × (is_repeated next.frames ≡ false)
led_some (Err why) next e = absurd (none_some next e)
led_some (Ok front) next e = by_kept (is_repeated front.frames) refl e
  where
    by_kept : (b : Bool) → is_repeated front.frames ≡ b → kept front b ≡ Some next → (fine front ≡ fine next) × (is_repeated next.frames ≡ false)
    by_kept true b e = absurd (none_some next e)
    by_kept false b e = let same : front ≡ next = cc in (ap fine same, ap (λ n. is_repeated n.frames) (sym same) ∙ b)

had_some : (r : Result Front Misplaced) (next : Front) → had r ≡ Some next → r ≡ Ok next
had_some (Err why) next e = absurd (none_some next e)
had_some (Ok front) next e = cc

said_sound : (ms : List Mark) (front : Front) (line c : ℕ) (says : Says) (next : Front) → IsFront ms front → IsSayable c says → said line c says front ≡ Some next → IsFront (ms ++ (record { line = line; column = c; says = says } ∷ [])) next
said_sound ms front line c start next is s e =
    let p = led_some (with_lead holders.File c line [] front) next e in
    lead_sound ms front holders.File c line [] next is (record { nameless = λ n. refl; at_start = λ h. s }) p.0 p.1
said_sound ms front line c item next is s e =
    let p = led_some (with_lead holders.Sequence c line [] front) next e in
    lead_sound ms front holders.Sequence c line [] next is (record { nameless = λ n. refl; at_start = λ h. cc }) p.0 p.1
said_sound ms front line c (named name) next is s e =
    let p = led_some (with_lead holders.Mapping c line name front) next e in
    lead_sound ms front holders.Mapping c line name next is (record { nameless = λ n. absurd (n refl); at_start = λ h. cc }) p.0 p.1
said_sound ms front line c (value v) next is s e = value_sound ms front c line v next is (had_some (with_value (nests v) c (leaf line c v) front) next e)

pub run_none : (ms : List Mark) → run None ms ≡ None
unfolding run
run_none [] = refl
run_none (m ∷ ms) = refl

-- a front that takes marks is the front of a layout again
pub run_sound : (ns ms : List Mark) (front next : Front) → IsFront ms front → AreSayable ns → run (Some front) ns ≡ Some next → IsFront (ms ++ ns) next
unfolding run AreSayable
run_sound [] ms front next is s e =
    let same : front ≡ next = cc in
    subst (λ (l : List Mark). IsFront l next) (sym (append-nil ms)) (subst (IsFront ms) same is)
run_sound (m ∷ ns) ms front next is s e = by_said (λ middle. run_sound ns (ms ++ (m ∷ [])) middle next) (said m.line m.column m.says front) refl e
  where
    by_said : ((middle : Front) → IsFront (ms ++ (m ∷ [])) middle → AreSayable ns → run (Some middle) ns ≡ Some next → IsFront ((ms ++ (m ∷ [])) ++ ns) next) → (o : Option Front) → said m.line m.column m.says front ≡ o → run o ns ≡ Some next → IsFront (ms ++ (m ∷ ns)) next
    by_said again None o e = absurd (none_some next (sym (run_none ns) ∙ e))
    by_said again (Some middle) o e = subst (λ (l : List Mark). IsFront l next) (append_assoc ms (m ∷ []) ns) (again middle (said_sound ms front m.line m.column m.says middle is s.0 o) s.1 e)

pub sayable_append : (a b : List Mark) → AreSayable a → AreSayable b → AreSayable (a ++ b)
unfolding AreSayable
sayable_append [] b x y = y
sayable_append (m ∷ a) b x y = (x.0, sayable_append a b x.1 y)

pub line_sayable : (line : Line) → AreSayable (line_marks line)
unfolding AreSayable line_marks
line_sayable line = sayable_append (start_marks line line.starts) (part_marks line.number line.parts) (starts line.starts) (parts line.parts)
  where
    starts : (b : Bool) → AreSayable (start_marks line b)
    starts true = (refl, tt)
    starts false = tt

    leaves : (column : ℕ) (l : Spelled Leaf) → AreSayable (leaf_marks line.number column l)
    leaves column (good l) = (tt, tt)
    leaves column (left_out byte) = tt
    leaves column (wrong counts) = tt

    values : (v : Option Value) → AreSayable (value_marks line.number v)
    values None = tt
    values (Some v) = leaves v.column v.leaf

    names : (n : Option Name) → AreSayable (name_marks line.number n)
    names None = tt
    names (Some n) = (tt, tt)

    parts : (p : Parts) → AreSayable (part_marks line.number p)
    parts (dashed column n v) = (tt, sayable_append (name_marks line.number n) (value_marks line.number v) (names n) (values v))
    parts (member n v) = (tt, values v)
    parts (alone v) = leaves v.column v.leaf

abbrev pub okay : Result Front YamlErr → Option Front
okay (Ok front) = Some front
okay (Err error) = None

abbrev pub checked : Option Name → ℕ → Result Front YamlErr → Result Front YamlErr
checked name number (Err error) = Err error
checked name number (Ok front) = if repeats name front.frames then Err (Repeated number) else Ok front

-- rows that have no names are not repeated
unnamed : (h : Holder) (c line : ℕ) (name : List ℕ) (frames : List Frame) (what : What) (inner : Forest) (next : List Frame) → is_holder h holders.Mapping ≡ false → turned h c line name frames what inner ≡ Some next → is_repeated next ≡ false
unfolding turned
unnamed h c line name [] what inner next n e = cc
unnamed h c line name (f ∷ outer) what inner next n e =
    by_match (λ k. unnamed h c line name outer (rows f.holder f.column) (with_row f what inner) next n k) (is_holder f.holder h) (f.column == c) (nat_lt f.column c) refl e
  where
    by_match : (turned h c line name outer (rows f.holder f.column) (with_row f what inner) ≡ Some next → is_repeated next ≡ false) → (b g d : Bool) → is_holder f.holder h ≡ b → (if b && g then Some (record { holder = f.holder; column = f.column; before = with_row f what inner; line = line; name = name } ∷ outer) else if d then None else turned h c line name outer (rows f.holder f.column) (with_row f what inner)) ≡ Some next → is_repeated next ≡ false
    by_match again true true d m e =
        let is : record { holder = f.holder; column = f.column; before = with_row f what inner; line = line; name = name } ∷ outer ≡ next = cc in
        let plain : is_holder f.holder holders.Mapping ≡ false = ap (λ x. is_holder x holders.Mapping) (same_holder f.holder h m) ∙ n in
        ap is_repeated (sym is) ∙ ap (λ b. b && name_is_taken (with_row f what inner) name) plain
    by_match again true false true m e = cc
    by_match again true false false m e = again e
    by_match again false g true m e = cc
    by_match again false g false m e = again e

pub unnamed_lead : (h : Holder) (c line : ℕ) (name : List ℕ) (front next : Front) → is_holder h holders.Mapping ≡ false → with_lead h c line name front ≡ Ok next → is_repeated next.frames ≡ false
unfolding with_lead
unnamed_lead h c line name front next n e = by_begin (is_absent front.tip && may_begin front.frames h c) (is_deep front.frames) e
  where
    by_turn : (o : Option (List Frame)) (has : Bool) → turned h c line name front.frames front.tip empty ≡ o → turned_or o has ≡ Ok next → is_repeated next.frames ≡ false
    by_turn (Some frames) has t e =
        let is : record { frames = frames; tip = absent } ≡ next = cc in
        ap (λ x. is_repeated x.frames) (sym is) ∙ unnamed h c line name front.frames front.tip empty frames n t
    by_turn None true t e = cc
    by_turn None false t e = cc

    by_begin : (b d : Bool) → (if b then (if d then Err too_deep else Ok (record { frames = record { holder = h; column = c; before = empty; line = line; name = name } ∷ front.frames; tip = absent })) else turned_or (turned h c line name front.frames front.tip empty) (has_column c front.frames)) ≡ Ok next → is_repeated next.frames ≡ false
    by_begin true true e = cc
    by_begin true false e =
        let is : record { frames = record { holder = h; column = c; before = empty; line = line; name = name } ∷ front.frames; tip = absent } ≡ next = cc in
        ap (λ x. is_repeated x.frames) (sym is) ∙ ap (λ b. b && false) n
    by_begin false d e = by_turn (turned h c line name front.frames front.tip empty) (has_column c front.frames) refl e

unnamed_led : (number first : ℕ) (h : Holder) (c line : ℕ) (name : List ℕ) (front : Front) → is_holder h holders.Mapping ≡ false → led (with_lead h c line name front) ≡ okay (at_line number first (with_lead h c line name front))
unnamed_led number first h c line name front n = by_result (with_lead h c line name front) refl
  where
    by_result : (r : Result Front Misplaced) → with_lead h c line name front ≡ r → led r ≡ okay (at_line number first r)
    by_result (Err why) e = refl
    by_result (Ok next) e = ap (kept next) (unnamed_lead h c line name front next n e)

leaf_run : (number : ℕ) (v : Option Value) (front : Front) → IsGoodValue v → run (Some front) (value_marks number v) ≡ okay (with_leaf number v front)
unfolding run
leaf_run number None front g = refl
leaf_run number (Some v) front g = by_leaf v.leaf g
  where
    by_result : (r : Result Front Misplaced) → run (had r) [] ≡ okay (at_line number v.first r)
    by_result (Err why) = refl
    by_result (Ok next) = refl

    by_leaf : (l : Spelled Leaf) → IsGood l → run (Some front) (leaf_marks number v.column l) ≡ okay (at_line number v.first (with_value (counts_as_level l) v.column (leaf_said number v.column l) front))
    by_leaf (good l) g = by_result (with_value (nests l) v.column (leaf number v.column l) front)
    by_leaf (left_out byte) g = absurd g
    by_leaf (wrong counts) g = absurd g

-- a value leaves what is open
pub leaf_frames : (number : ℕ) (v : Option Value) (front next : Front) → with_leaf number v front ≡ Ok next → next.frames ≡ front.frames
unfolding with_value
leaf_frames number None front next e = let same : front ≡ next = cc in ap (λ f. f.frames) (sym same)
leaf_frames number (Some v) front next e =
    by_begin (is_absent front.tip && may_have front.frames v.column) (counts_as_level v.leaf && is_deep front.frames) (has_column v.column front.frames) e
  where
    by_begin : (b d has : Bool) → at_line number v.first (if b then (if d then Err too_deep else Ok (record { frames = front.frames; tip = leaf_said number v.column v.leaf })) else Err (misplaced_in has)) ≡ Ok next → next.frames ≡ front.frames
    by_begin true true has e = cc
    by_begin true false has e = let same : record { frames = front.frames; tip = leaf_said number v.column v.leaf } ≡ next = cc in ap (λ f. f.frames) (sym same)
    by_begin false d true e = cc
    by_begin false d false e = cc

-- the marks of a value behind a front whose name is as it is
kept_leaf : (number : ℕ) (name : Option Name) (v : Option Value) (front : Front) (b : Bool) → repeats name front.frames ≡ b → IsGoodValue v → run (kept front b) (value_marks number v) ≡ okay (checked name number (with_leaf number v front))
kept_leaf number name v front true r g = run_none (value_marks number v) ∙ sym (by_leaf (with_leaf number v front) refl)
  where
    by_leaf : (l : Result Front YamlErr) → with_leaf number v front ≡ l → okay (checked name number l) ≡ None
    by_leaf (Err error) e = refl
    by_leaf (Ok next) e = ap (λ b. okay (if b then Err (Repeated number) else Ok next)) (ap (repeats name) (leaf_frames number v front next e) ∙ r)
kept_leaf number name v front false r g = leaf_run number v front g ∙ sym (by_leaf (with_leaf number v front) refl)
  where
    by_leaf : (l : Result Front YamlErr) → with_leaf number v front ≡ l → okay (checked name number l) ≡ okay l
    by_leaf (Err error) e = refl
    by_leaf (Ok next) e = ap (λ b. okay (if b then Err (Repeated number) else Ok next)) (ap (repeats name) (leaf_frames number v front next e) ∙ r)

name_run : (number : ℕ) (n : Name) (v : Option Value) (front : Front) → IsGoodValue v → run (Some front) (name_marks number (Some n) ++ value_marks number v) ≡ okay (checked (Some n) number (with_name number (Some n) front >>= λ second. with_leaf number v second))
unfolding run
name_run number n v front g = by_result (with_lead holders.Mapping n.column number (text_said n.text) front)
  where
    by_result : (r : Result Front Misplaced) → run (led r) (value_marks number v) ≡ okay (checked (Some n) number (at_line number n.first r >>= λ second. with_leaf number v second))
    by_result (Err why) = run_none (value_marks number v)
    by_result (Ok next) = kept_leaf number (Some n) v next (is_repeated next.frames) refl g

rest_run : (number : ℕ) (n : Option Name) (v : Option Value) (front : Front) → IsGoodValue v → run (Some front) (name_marks number n ++ value_marks number v) ≡ okay (checked n number (with_name number n front >>= λ third. with_leaf number v third))
rest_run number None v front g = kept_leaf number None v front false refl g
rest_run number (Some n) v front g = name_run number n v front g

pub parts_run : (number : ℕ) (p : Parts) (front : Front) → IsGoodValue (value_in p) → run (Some front) (part_marks number p) ≡ okay (checked (name_in p) number (with_parts number p front))
unfolding run
parts_run number (dashed column n v) front g =
    ap (λ o. run o (name_marks number n ++ value_marks number v)) (unnamed_led number 45 holders.Sequence column number [] front refl)
    ∙ by_result (at_line number 45 (with_lead holders.Sequence column number [] front))
  where
    by_result : (r : Result Front YamlErr) → run (okay r) (name_marks number n ++ value_marks number v) ≡ okay (checked n number (r >>= λ second. with_name number n second >>= λ third. with_leaf number v third))
    by_result (Err error) = run_none (name_marks number n ++ value_marks number v)
    by_result (Ok second) = rest_run number n v second g
parts_run number (member n v) front g = name_run number n v front g
parts_run number (alone v) front g = kept_leaf number None (Some v) front false refl g

shallow_turned : (h : Holder) (c line : ℕ) (name : List ℕ) (f : Frame) (outer : List Frame) (what : What) (inner : Forest) → nat_lt f.column c ≡ true → turned h c line name (f ∷ outer) what inner ≡ None
unfolding turned
shallow_turned h c line name f outer what inner l =
    let apart : (f.column == c) ≡ false = grind (arith, l) in
    rw (apart, l) (by_holder (is_holder f.holder h))
  where
    by_holder : (b : Bool) → (if b && false then Some (record { holder = f.holder; column = f.column; before = with_row f what inner; line = line; name = name } ∷ outer) else None) ≡ None
    by_holder true = refl
    by_holder false = refl

deep_lead : (h : Holder) (c line : ℕ) (name : List ℕ) (front : Front) → is_absent front.tip ≡ false → may_have front.frames c ≡ true → led (with_lead h c line name front) ≡ None
unfolding with_lead
deep_lead h c line name front a m = by_begin (is_absent front.tip) a (turned h c line name front.frames front.tip empty) (has_column c front.frames) (none front.frames m)
  where
    none : (frames : List Frame) → may_have frames c ≡ true → turned h c line name frames front.tip empty ≡ None
    none [] m = cc
    none (f ∷ outer) m = shallow_turned h c line name f outer front.tip empty m

    by_begin : (b : Bool) → b ≡ false → (o : Option (List Frame)) (has : Bool) → o ≡ None → led (if b && may_begin front.frames h c then (if is_deep front.frames then Err too_deep else Ok (record { frames = record { holder = h; column = c; before = empty; line = line; name = name } ∷ front.frames; tip = absent })) else turned_or o has) ≡ None
    by_begin true e o has n = cc
    by_begin false e (Some frames) has n = cc
    by_begin false e None true n = refl
    by_begin false e None false n = refl

deep_value : (counts : Bool) (c : ℕ) (what : What) (front : Front) → is_absent front.tip ≡ false → had (with_value counts c what front) ≡ None
unfolding with_value
deep_value counts c what front a = by_begin (is_absent front.tip) (has_column c front.frames) a
  where
    by_begin : (b has : Bool) → b ≡ false → had (if b && may_have front.frames c then (if counts && is_deep front.frames then Err too_deep else Ok (record { frames = front.frames; tip = what })) else Err (misplaced_in has)) ≡ None
    by_begin true has e = cc
    by_begin false true e = refl
    by_begin false false e = refl

not_absent : (tip : What) → is_plain tip ≡ true → is_absent tip ≡ false
not_absent absent e = cc
not_absent (leaf at place v) e = refl
not_absent (rows h c) e = cc

both : (a b : Bool) → (a && b) ≡ true → (a ≡ true) × (b ≡ true)
both true b e = (refl, e)
both false b e = cc

-- what goes on behind a plain scalar has no place
goes_nowhere : (number : ℕ) (p : Parts) (front : Front) → IsGoodValue (value_in p) → (is_plain front.tip && may_have front.frames (column_of p)) ≡ true → run (Some front) (part_marks number p) ≡ None
unfolding run
goes_nowhere number (dashed column n v) front g on =
    let p = both (is_plain front.tip) (may_have front.frames column) on in
    ap (λ o. run o (name_marks number n ++ value_marks number v)) (deep_lead holders.Sequence column number [] front (not_absent front.tip p.0) p.1) ∙ run_none (name_marks number n ++ value_marks number v)
goes_nowhere number (member n v) front g on =
    let p = both (is_plain front.tip) (may_have front.frames n.column) on in
    ap (λ o. run o (value_marks number v)) (deep_lead holders.Mapping n.column number (text_said n.text) front (not_absent front.tip p.0) p.1) ∙ run_none (value_marks number v)
goes_nowhere number (alone v) front g on = by_leaf v.leaf g
  where
    by_leaf : (l : Spelled Leaf) → IsGood l → run (Some front) (leaf_marks number v.column l) ≡ None
    by_leaf (good l) g =
        let p = both (is_plain front.tip) (may_have front.frames v.column) on in
        ap (λ o. run o []) (deep_value (nests l) v.column (leaf number v.column l) front (not_absent front.tip p.0)) ∙ run_none []
    by_leaf (left_out byte) g = absurd g
    by_leaf (wrong counts) g = absurd g

good_not_out : {T : Type 0} (s : Spelled T) → IsGood s → (byte_left_out s ≡ None) × (is_wrong s ≡ false)
good_not_out (good x) g = (refl, refl)
good_not_out (left_out byte) g = absurd g
good_not_out (wrong counts) g = absurd g

good_name : (n : Option Name) → IsGoodName n → name_left_out n ≡ None
good_name None g = refl
good_name (Some n) g = (good_not_out n.text g).0

good_value : (v : Option Value) → IsGoodValue v → value_left_out v ≡ None
good_value None g = refl
good_value (Some v) g = (good_not_out v.leaf g).0

clean_left_out : (line : Line) → IsClean line → what_left_out line ≡ None
clean_left_out line clean = ap (λ o. first_of_two o (value_left_out (value_in line.parts))) (good_name (name_in line.parts) clean.name) ∙ good_value (value_in line.parts) clean.value

clean_right : (line : Line) → IsClean line → has_wrong line ≡ false
clean_right line clean = by_parts (name_in line.parts) (value_in line.parts) clean.name clean.value
  where
    by_parts : (n : Option Name) (v : Option Value) → IsGoodName n → IsGoodValue v → (wrong_name_in n || wrong_value_in v) ≡ false
    by_parts None None g k = refl
    by_parts None (Some v) g k = (good_not_out v.leaf k).1
    by_parts (Some n) None g k = ap (λ b. b || false) (good_not_out n.text g).1
    by_parts (Some n) (Some v) g k = ap (λ b. b || is_wrong v.leaf) (good_not_out n.text g).1 ∙ (good_not_out v.leaf k).1

placed_run : (line : Line) → IsClean line → (r : Result Front YamlErr) → okay (checked (name_in line.parts) line.number r) ≡ okay (placed line r)
placed_run line clean (Err error) = refl
placed_run line clean (Ok front) = rw (clean_right line clean)

left_run : (line : Line) → IsClean line → (first : Front) (o : Option ℕ) → o ≡ None → run (Some first) (part_marks line.number line.parts) ≡ okay (unless_left_out line o first)
left_run line clean first (Some byte) e = cc
left_run line clean first None e = parts_run line.number line.parts first clean.value ∙ placed_run line clean (with_parts line.number line.parts first)

going_run : (line : Line) → IsClean line → (first : Front) → run (Some first) (part_marks line.number line.parts) ≡ okay (unless_goes_on line first)
going_run line clean first = by_going (goes_on line first) refl
  where
    by_going : (b : Bool) → goes_on line first ≡ b → run (Some first) (part_marks line.number line.parts) ≡ okay (if b then Err (LeftOut line.number (first_of line.parts)) else unless_left_out line (what_left_out line) first)
    by_going true on = goes_nowhere line.number line.parts first clean.value on
    by_going false on = left_run line clean first (what_left_out line) (clean_left_out line clean)

-- a clean line is placed where its marks lead, or refused where they lead nowhere
pub line_run : (line : Line) (front : Front) → IsClean line → run (Some front) (line_marks line) ≡ okay (after_line line front)
unfolding line_marks after_line run
line_run line front clean = rw clean.no_tab (by_start line.starts)
  where
    by_result : (r : Result Front YamlErr) → run (okay r) (part_marks line.number line.parts) ≡ okay (r >>= λ first. unless_goes_on line first)
    by_result (Err error) = run_none (part_marks line.number line.parts)
    by_result (Ok first) = going_run line clean first

    by_start : (b : Bool) → run (Some front) (start_marks line b ++ part_marks line.number line.parts) ≡ okay (with_start line b front >>= λ first. unless_goes_on line first)
    by_start true = ap (λ o. run o (part_marks line.number line.parts)) (unnamed_led line.number (first_of line.parts) holders.File 0 line.number [] front refl) ∙ by_result (at_line line.number (first_of line.parts) (with_lead holders.File 0 line.number [] front))
    by_start false = by_result (Ok front)
