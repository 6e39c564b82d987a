-- A map written of names and of values that are texts by themselves is a text.
use Rattle.std.proofs.Common.{◌≡◌, ◌≤◌, ℕ, suc, ◌+◌, true, false, List, [], ◌∷◌, ◌++◌, length, take, drop, ◌-◌, Some, None, refl, sym, ap, subst, ◌∙◌, arith, append_assoc, append-nil, length-append}
use Rattle.std.specs.List.{AllByRecursion}
use Rattle.std.specs.Str.{IsUtf8}
use Rattle.byte_lanes.specs.Spelling.{spelled}
use Rattle.json_lexemes.specs.declared.kind.Kind.{Kind}
use Rattle.json_lexemes.specs.declared.kind.Kind.TheVariants as kinds
use Rattle.json_text.specs.declared.spot.Span.{Span}
use Rattle.json_text.specs.declared.spot.Spot.{Spot}
use Rattle.json_text.specs.declared.part.Bracket.{Bracket}
use Rattle.json_text.specs.declared.part.Bracket.TheVariants.{Map as map}
use Rattle.json_text.specs.declared.part.Part.{Part}
use Rattle.json_text.specs.declared.part.Part.TheVariants.{Start as start, Next as next_part, Named as named, Member as member, Rest as rest}
use Rattle.json_lexemes.specs.declared.lexeme.Lexeme.{Lexeme}
use Rattle.json_lexemes.specs.declared.lexeme.Lexeme.TheVariants.{Plain as plain, Closed as closed}
use Rattle.json_lexemes.specs.Lexeme.{begins, ends, next}
use Rattle.json_text.specs.Faults.{is_numbered, IsClean}
use Rattle.json_text.specs.Forest.{Forest, empty, grows, one}
use Rattle.json_text.specs.Grammar.{bracket_kind, opens, closes, turns, takes_value, takes_name, Completes, IsText}
use Rattle.json_lexemes.specs.Spelling.{string_of}
use Rattle.json_text.specs.Moved.{moved}
use Rattle.json_text.specs.Shape.{is_holder, levels, nesting, value_bytes}
use Rattle.json_text.specs.Unescape.{unescaped, name_shown}
use Rattle.std.proofs.lemmas.List.{drop-drop}
use Rattle.json_text.specs.MapTexts.{ShowsMembers, Written, IsWritten, IsDeep, member_bytes, joined_bytes, map_bytes, ahead, value_place, member_spot, member_values, map_of}
use Rattle.json_text.proofs.Clear.{Clear, c_blank, c_word, c_nested, c_name, c_turn, c_close, c_finish, clear_completes, text_clear, clear_clean}
use Rattle.json_lexemes.proofs.StringTails.{whole_word}
use Rattle.json_lexemes.proofs.Courses.{Course, course_on, here as stop, on as go}
use Rattle.json_text.proofs.WrittenTexts.{spelling_leads, closed_next, spelled_text}
use Rattle.json_text.proofs.Moves.{Steady, cut, takes_first, nesting_moved}
use Rattle.json_text.proofs.Shapes.{starts_later}
use Rattle.json_text.proofs.Tables.{none_some, false_true}

steady_ahead : (by i : ℕ) → Steady (ahead by) i
steady_ahead by i p le = omega arith

-- ---- a value

-- what a text is that is one value from its first byte to its last
data Alone (bytes : List ℕ) (kind : Kind) (children : Forest) : Type 0 where
  a_word : (byte : ℕ) (w : List ℕ) (first last : Lexeme) → bytes ≡ byte ∷ w → begins byte ≡ Some first → ((more : List ℕ) → Course first (w ++ more) more last) → ends last ≡ Some kind → children ≡ empty → Alone bytes kind children
  a_holder : (byte : ℕ) (w : List ℕ) (bracket : Bracket) → bytes ≡ byte ∷ w → opens byte ≡ Some bracket → kind ≡ bracket_kind bracket → ((at : ℕ) (more : List ℕ) → Clear (Some bracket) start (suc at) (w ++ more) (suc at + length w) more (moved (ahead at) children)) → Alone bytes kind children

no_start : (byte : ℕ) → closes None start byte ≡ false
unfolding closes
no_start byte = refl

no_turn : (byte : ℕ) → turns None start byte ≡ None
unfolding turns
no_turn byte = refl

no_name : takes_name None start ≡ false
unfolding takes_name
no_name = refl

no_length : (bytes : List ℕ) → length bytes ≡ 0 → bytes ≡ []
no_length [] e = refl
no_length (byte ∷ bytes) e = absurd (omega (arith, e))

whole_front : (s w u : List ℕ) → s ≡ w ++ u → u ≡ [] → w ≡ s
whole_front s w u e none = sym (append-nil w) ∙ ap (λ l. w ++ l) (sym none) ∙ sym e

abbrev first_spot : Forest → Spot
first_spot empty = record { kind = kinds.Null; span = record { start = 0; end = 0 }; name = None }
first_spot (grows spot children later) = spot

abbrev first_children : Forest → Forest
first_children empty = empty
first_children (grows spot children later) = children

alone_is : (bytes : List ℕ) (kind : Kind) (children whole : Forest) (n : ℕ) → Clear None start 0 bytes n [] whole → whole ≡ one (record { kind = kind; span = record { start = 0; end = length bytes }; name = None }) children → Alone bytes kind children
alone_is [] kind children whole n c e = elim c [ ]
alone_is (byte ∷ s) kind children whole n (c_blank b c) e =
    let later = starts_later start 1 n s [] _ children empty (subst (λ x. Completes None start 1 s n [] x) e (clear_completes None start 1 n s [] whole c)) tt in
    absurd (omega (arith, later))
alone_is (byte ∷ s) kind children whole n (c_turn q c) e = none_some _ _ (sym (no_turn byte) ∙ q)
alone_is (byte ∷ s) kind children whole n (c_close c) e = false_true _ (sym (no_start byte) ∙ c)
alone_is (byte ∷ s) kind children whole n (c_name takes q course over far c) e = false_true _ (sym no_name ∙ takes)
alone_is (byte ∷ s) kind children whole n (c_word {name = name} {kind = own} {first = first} {last = last} {j = k} {t = u} {values = others} takes b course over far c) e =
    let w = whole_word first last s u own course over in
    let kinds_are : own ≡ kind = ap (λ x. (first_spot x).kind) e in
    let end_is : k ≡ suc (length s) = ap (λ x. (first_spot x).span.end) e in
    let held : empty ≡ children = ap first_children e in
    let nothing : u ≡ [] = no_length u (omega (arith, far, end_is)) in
    a_word byte w.bytes first last (ap (λ l. byte ∷ l) (sym (whole_front s w.bytes u w.are nothing))) b w.again (over ∙ ap Some kinds_are) (sym held)
alone_is (byte ∷ s) kind children whole n (c_nested {name = name} {bracket = own} {j = k} {t = u} {children = inner} {values = others} takes o held c) e =
    let kinds_are : bracket_kind own ≡ kind = ap (λ x. (first_spot x).kind) e in
    let end_is : k ≡ suc (length s) = ap (λ x. (first_spot x).span.end) e in
    let same : inner ≡ children = ap first_children e in
    let some = cut (ahead 0) (Some own) start 1 k s u inner own held refl (steady_ahead 0 1) in
    let nothing : u ≡ [] = no_length u (omega (arith, some.far, end_is, ap length some.are, length-append some.bytes u)) in
    a_holder byte s own refl o (sym kinds_are) (λ at more.
    (let h = cut (ahead at) (Some own) start 1 k s u inner own held refl (steady_ahead at 1) in
    let bytes_are : h.bytes ≡ s = whole_front s h.bytes u h.are nothing in
    let from : 1 + at ≡ suc at = omega arith in
    let to : k + at ≡ suc at + length s = omega (arith, end_is) in
    subst (λ x. Clear (Some own) start (suc at) (s ++ more) (suc at + length s) more (moved (ahead at) x)) same
    (subst (λ x. Clear (Some own) start (suc at) (s ++ more) x more (moved (ahead at) inner)) to
    (subst (λ x. Clear (Some own) start x (s ++ more) (k + at) more (moved (ahead at) inner)) from
    (subst (λ l. Clear (Some own) start (1 + at) (l ++ more) (k + at) more (moved (ahead at) inner)) bytes_are (h.again more))))))

-- ---- a member

takes_member : (name : Span) → takes_value (Some map) (member name) ≡ Some (Some name)
unfolding takes_value
takes_member name = refl

-- what follows a name and its colon
value_on : (bytes : List ℕ) (kind : Kind) (children : Forest) (at k j : ℕ) (name : Span) (u t : List ℕ) (later : Forest) → Alone bytes kind children → k ≡ at + length bytes → Clear (Some map) rest k u j t later → Clear (Some map) (member name) at (bytes ++ u) j t (grows (record { kind = kind; span = record { start = at; end = k }; name = Some name }) (moved (ahead at) children) later)
value_on bytes kind children at k j name u t later (a_word byte w first last is b course over none) far c =
    let end : k + length u ≡ suc at + length (w ++ u) = omega (arith, far, ap length is, length-append w u) in
    subst (λ l. Clear (Some map) (member name) at (l ++ u) j t (grows (record { kind = kind; span = record { start = at; end = k }; name = Some name }) (moved (ahead at) children) later)) (sym is)
    (subst (λ x. Clear (Some map) (member name) at (byte ∷ (w ++ u)) j t (grows (record { kind = kind; span = record { start = at; end = k }; name = Some name }) (moved (ahead at) x) later)) (sym none) (c_word (takes_member name) b (course u) over end c))
value_on bytes kind children at k j name u t later (a_holder byte w bracket is o kinds_are held) far c =
    let end : suc at + length w ≡ k = omega (arith, far, ap length is) in
    let held_there : Clear (Some bracket) start (suc at) (w ++ u) k u (moved (ahead at) children) = subst (λ x. Clear (Some bracket) start (suc at) (w ++ u) x u (moved (ahead at) children)) end (held at u) in
    subst (λ l. Clear (Some map) (member name) at (l ++ u) j t (grows (record { kind = kind; span = record { start = at; end = k }; name = Some name }) (moved (ahead at) children) later)) (sym is)
    (subst (λ x. Clear (Some map) (member name) at (byte ∷ (w ++ u)) j t (grows (record { kind = x; span = record { start = at; end = k }; name = Some name }) (moved (ahead at) children) later)) (sym kinds_are) (c_nested (takes_member name) o held_there c))

quote_ends : (rest_bytes : List ℕ) → Course (plain false) (34 ∷ rest_bytes) rest_bytes closed
unfolding next is_numbered
quote_ends rest_bytes = go refl refl stop

colon_turns : (name : Span) → turns (Some map) (named name) 58 ≡ Some (member name)
unfolding turns
colon_turns name = refl

name_course : (name rest_bytes : List ℕ) → IsUtf8 name → Course (plain false) (spelled name ++ 34 ∷ rest_bytes) rest_bytes closed
name_course name rest_bytes utf8 = course_on (plain false) (spelled name ++ 34 ∷ rest_bytes) (34 ∷ rest_bytes) (plain false) rest_bytes closed (spelling_leads name (34 ∷ rest_bytes) utf8) (quote_ends rest_bytes)

member_split : (name bytes u : List ℕ) → (string_of name ++ 58 ∷ bytes) ++ u ≡ 34 ∷ (spelled name ++ 34 ∷ (58 ∷ (bytes ++ u)))
member_split name bytes u = ap (λ l. 34 ∷ l) (append_assoc (spelled name ++ 34 ∷ []) (58 ∷ bytes) u ∙ append_assoc (spelled name) (34 ∷ []) (58 ∷ (bytes ++ u)))

member_on : (m : Written) (at j : ℕ) (here_part : Part) (u t : List ℕ) (later : Forest) → IsWritten m → takes_name (Some map) here_part ≡ true → Clear (Some map) rest (value_place at m + length m.bytes) u j t later → Clear (Some map) here_part at (member_bytes m ++ u) j t (grows (member_spot at m) (moved (ahead (value_place at m)) m.children) later)
member_on m at j here_part u t later is takes c =
    let k = at + length (string_of m.name) in
    let name : Span = record { start = at; end = k } in
    let place : k + 1 ≡ suc k = omega arith in
    let far : k + length (58 ∷ (m.bytes ++ u)) ≡ suc at + length (spelled m.name ++ 34 ∷ (58 ∷ (m.bytes ++ u))) = omega (arith, length-append (spelled m.name) (34 ∷ []), length-append (spelled m.name) (34 ∷ (58 ∷ (m.bytes ++ u)))) in
    let alone = alone_is m.bytes m.kind m.children _ (length m.bytes) (text_clear m.bytes _ is.text is.clean) refl in
    let value = value_on m.bytes m.kind m.children (value_place at m) (value_place at m + length m.bytes) j name u t later alone refl c in
    subst (λ l. Clear (Some map) here_part at l j t (grows (member_spot at m) (moved (ahead (value_place at m)) m.children) later)) (sym (member_split m.name m.bytes u))
    (c_name takes refl (name_course m.name (58 ∷ (m.bytes ++ u)) is.utf8) closed_next.1 far
    (c_turn (colon_turns name) (subst (λ p. Clear (Some map) (member name) p (m.bytes ++ u) j t (grows (member_spot at m) (moved (ahead (value_place at m)) m.children) later)) place value)))

-- ---- all members

brace_closes : (closes (Some map) rest 125 ≡ true) × (closes (Some map) start 125 ≡ true) × (turns (Some map) rest 44 ≡ Some next_part) × (takes_name (Some map) start ≡ true) × (takes_name (Some map) next_part ≡ true)
unfolding closes turns takes_name
brace_closes = (refl, refl, refl, refl, refl)

members_on : (m : Written) (members : List Written) (at j : ℕ) (here_part : Part) → IsWritten m → AllByRecursion IsWritten members → takes_name (Some map) here_part ≡ true → j ≡ at + length (joined_bytes (m ∷ members)) + 1 → Clear (Some map) here_part at (joined_bytes (m ∷ members) ++ 125 ∷ []) j [] (member_values at (m ∷ members))
members_on m [] at j here_part is all takes far =
    let end : suc (value_place at m + length m.bytes) ≡ j = omega (arith, far, length-append (string_of m.name) (58 ∷ m.bytes)) in
    member_on m at j here_part (125 ∷ []) [] empty is takes (subst (λ p. Clear (Some map) rest (value_place at m + length m.bytes) (125 ∷ []) p [] empty) end (c_close brace_closes.0))
members_on m (q ∷ members) at j here_part is all takes far =
    let place : value_place at m + length m.bytes + 1 ≡ suc (value_place at m + length m.bytes) = omega arith in
    let end : j ≡ value_place at m + length m.bytes + 1 + length (joined_bytes (q ∷ members)) + 1 = omega (arith, far, length-append (string_of m.name) (58 ∷ m.bytes), length-append (member_bytes m) (44 ∷ joined_bytes (q ∷ members))) in
    let others = members_on q members (value_place at m + length m.bytes + 1) j next_part all.0 all.1 brace_closes.4 end in
    let values = member_values (value_place at m + length m.bytes + 1) (q ∷ members) in
    subst (λ l. Clear (Some map) here_part at l j [] (grows (member_spot at m) (moved (ahead (value_place at m)) m.children) values)) (sym (append_assoc (member_bytes m) (44 ∷ joined_bytes (q ∷ members)) (125 ∷ [])))
    (member_on m at j here_part (44 ∷ (joined_bytes (q ∷ members) ++ 125 ∷ [])) [] values is takes
    (c_turn brace_closes.2 (subst (λ p. Clear (Some map) next_part p (joined_bytes (q ∷ members) ++ 125 ∷ []) j [] values) place others)))

brace_opens : opens 123 ≡ Some map
brace_opens = refl

map_clear : (members : List Written) → AllByRecursion IsWritten members → Clear None start 0 (map_bytes members) (length (map_bytes members)) [] (map_of members)
map_clear [] all = c_nested takes_first brace_opens (c_close brace_closes.1) (c_finish refl)
map_clear (m ∷ members) all =
    let far : length (map_bytes (m ∷ members)) ≡ 1 + length (joined_bytes (m ∷ members)) + 1 = omega (arith, length-append (joined_bytes (m ∷ members)) (125 ∷ [])) in
    c_nested takes_first brace_opens (members_on m members 1 (length (map_bytes (m ∷ members))) start all.0 all.1 brace_closes.3 far) (c_finish refl)

pub map_text : (members : List Written) → AllByRecursion IsWritten members → IsText (map_bytes members) (map_of members)
map_text members all = clear_completes None start 0 (length (map_bytes members)) (map_bytes members) [] (map_of members) (map_clear members all)

-- ---- how deep

values_low : (at n : ℕ) (members : List Written) → AllByRecursion (IsDeep n) members → nesting (member_values at members) ≤ n
unfolding nesting
values_low at n [] all = omega arith
values_low at n (m ∷ members) all = omega (arith, all.0, values_low (value_place at m + length m.bytes + 1) n members all.1, ap (levels (is_holder m.kind)) (nesting_moved (ahead (value_place at m)) m.children))

map_low : (n : ℕ) (members : List Written) → AllByRecursion (IsDeep n) members → nesting (map_of members) ≤ n + 1
unfolding nesting
map_low n members all = omega (arith, values_low 1 n members all)

pub map_clean : (members : List Written) → AllByRecursion IsWritten members → AllByRecursion (IsDeep 63) members → IsClean (map_bytes members) (length (map_bytes members) + 1)
map_clean members all low = clear_clean (map_bytes members) (map_of members) (map_clear members all) (map_low 63 members low)

-- ---- what the members show

-- what stands behind some bytes
behind : (front back : List ℕ) → drop (length front) (front ++ back) ≡ back
behind [] back = refl
behind (x ∷ front) back = behind front back

before : (front back : List ℕ) → take (length front) (front ++ back) ≡ front
before [] back = refl
before (x ∷ front) back = ap (λ l. x ∷ l) (before front back)

drop_on : (bytes front back : List ℕ) (at n : ℕ) → drop at bytes ≡ front ++ back → n ≡ at + length front → drop n bytes ≡ back
drop_on bytes front back at n e far = ap (λ k. drop k bytes) far ∙ sym (drop-drop (length front) at bytes) ∙ ap (drop (length front)) e ∙ behind front back

name_read : (bytes : List ℕ) (at : ℕ) (m : Written) (back : List ℕ) → drop at bytes ≡ member_bytes m ++ back → name_shown bytes (member_spot at m) ≡ m.name
name_read bytes at m back e =
    let inside = spelled m.name in
    let split : drop at bytes ≡ (34 ∷ []) ++ (inside ++ 34 ∷ (58 ∷ (m.bytes ++ back))) = e ∙ member_split m.name m.bytes back in
    let rest_is = drop_on bytes (34 ∷ []) (inside ++ 34 ∷ (58 ∷ (m.bytes ++ back))) at (at + 1) split (omega arith) in
    let long : at + length (string_of m.name) - 1 - (at + 1) ≡ length inside = omega (arith, length-append inside (34 ∷ [])) in
    ap unescaped (ap (λ n. take n (drop (at + 1) bytes)) long ∙ ap (take (length inside)) rest_is ∙ before inside (34 ∷ (58 ∷ (m.bytes ++ back)))) ∙ spelled_text m.name

value_read : (bytes : List ℕ) (at : ℕ) (m : Written) (back : List ℕ) → drop at bytes ≡ member_bytes m ++ back → value_bytes bytes (member_spot at m) ≡ m.bytes
value_read bytes at m back e =
    let front = string_of m.name ++ 58 ∷ [] in
    let split : drop at bytes ≡ front ++ (m.bytes ++ back) = e ∙ append_assoc (string_of m.name) (58 ∷ m.bytes) back ∙ sym (append_assoc (string_of m.name) (58 ∷ []) (m.bytes ++ back)) in
    let rest_is = drop_on bytes front (m.bytes ++ back) at (value_place at m) split (omega (arith, length-append (string_of m.name) (58 ∷ []))) in
    let long : value_place at m + length m.bytes - value_place at m ≡ length m.bytes = omega arith in
    ap (λ n. take n (drop (value_place at m) bytes)) long ∙ ap (take (length m.bytes)) rest_is ∙ before m.bytes back

members_shown : (bytes : List ℕ) (at : ℕ) (m : Written) (members : List Written) → drop at bytes ≡ joined_bytes (m ∷ members) ++ 125 ∷ [] → ShowsMembers bytes at (m ∷ members)
members_shown bytes at m [] e = (name_read bytes at m (125 ∷ []) e, value_read bytes at m (125 ∷ []) e, tt)
members_shown bytes at m (q ∷ members) e =
    let others = joined_bytes (q ∷ members) ++ 125 ∷ [] in
    let split : drop at bytes ≡ member_bytes m ++ (44 ∷ others) = e ∙ append_assoc (member_bytes m) (44 ∷ joined_bytes (q ∷ members)) (125 ∷ []) in
    let front = member_bytes m ++ 44 ∷ [] in
    let past : drop at bytes ≡ front ++ others = split ∙ sym (append_assoc (member_bytes m) (44 ∷ []) others) in
    let place : value_place at m + length m.bytes + 1 ≡ at + length front = omega (arith, length-append (member_bytes m) (44 ∷ []), length-append (string_of m.name) (58 ∷ m.bytes)) in
    (name_read bytes at m (44 ∷ others) split, value_read bytes at m (44 ∷ others) split, members_shown bytes (value_place at m + length m.bytes + 1) q members (drop_on bytes front others at (value_place at m + length m.bytes + 1) past place))

pub map_shown : (members : List Written) → ShowsMembers (map_bytes members) 1 members
map_shown [] = tt
map_shown (m ∷ members) = members_shown (map_bytes (m ∷ members)) 1 m members refl
