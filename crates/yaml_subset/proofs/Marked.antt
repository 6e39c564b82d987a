-- What holds of the marks that lines leave.
use Rattle.std.proofs.Common.{◌≡◌, ℕ, zero, suc, ◌+◌, ◌-◌, ◌<◌, Bool, true, false, ◌||◌, ◌==◌, not, List, [], ◌∷◌, take, drop, refl, sym, ap, subst, ◌∙◌, arith, Option, Some, None}
use Rattle.std.specs.Prelude.{IsUtf8, if◌then◌else◌}
use Rattle.std.proofs.lemmas.Bool.{and_parts}
use Rattle.std.proofs.lemmas.List.{drop-drop}
use Rattle.std.proofs.lemmas.Str.{IsUtf8-nil}
use Rattle.std.specs.Str.Lines.{lines}
use Rattle.yaml_lines.specs.Leaf.{Leaf}
use Rattle.yaml_lines.specs.Blank.{spaces_of, whites_of, is_tail, is_mark, is_passed_over}
use Rattle.yaml_lines.specs.LineParts.{Spelled, good, left_out, wrong, Name, Value, Parts, dashed, member, alone, name_in, value_in, Line}
use Rattle.yaml_lines.specs.Plain.{trimmed, ends_name, colon_place, begins_plain, is_left_out}
use Rattle.yaml_lines.specs.Quoted.{quoted_len, text_within}
use Rattle.yaml_lines.specs.LineText.{first_byte, NameAt, quoted_name, ends_here, colon_behind, quoted_name_at, plain_name_at, name_by, name_at, Held, value_at, value_behind, block_from, Cut, item_named, item_cut, line_named, is_item, cut, cut_line, line_with, holder_column, lines_below}
use Rattle.yaml_lines.specs.ValueText.{opens_block}
use Rattle.yaml_lines.proofs.Branches.{if_of}
use Rattle.yaml_lines.proofs.Chars.{take_low, drop_low, AreTexts}
use Rattle.yaml_lines.proofs.Cuts.{behind_whites, behind_spaces, trimmed_utf8, colon_at, within_quotes}
use Rattle.yaml_lines.proofs.FlowTexts.{lines_utf8}
use Rattle.yaml_subset.specs.Tree.{Forest}
use Rattle.yaml_subset.specs.Line.{start_marks, text_said, name_marks, leaf_marks, value_marks, part_marks, line_marks, marks_of}
use Rattle.yaml_subset.specs.Contents.{contents}
use Rattle.yaml_subset.specs.Trees.{plain}
use Rattle.yaml_subset.specs.Reading.{Says}
use Rattle.yaml_subset.specs.File.{without_order_mark, file_lines}
use Rattle.yaml_subset.specs.Lawful.{AreOfFile}
use Rattle.yaml_subset.proofs.OrderMark.{unmarked_utf8}
use Rattle.yaml_subset.proofs.Leaves.{OfSpelled, IsTextIf, between_quotes, behind_byte, IsLeaf, value_good}
use Rattle.yaml_subset.proofs.Lawful.{AreGood, good_append, documents_lawful}

abbrev OfName : Option Name → Type 0
OfName None = Unit {0}
OfName (Some n) = OfSpelled IsUtf8 n.text

abbrev OfValue : Option Value → Type 0
OfValue None = Unit {0}
OfValue (Some v) = OfSpelled IsLeaf v.leaf

abbrev OfParts : Parts → Type 0
OfParts parts = OfName (name_in parts) × OfValue (value_in parts)

abbrev AreLines : List Line → Type 0
AreLines [] = Unit {0}
AreLines (line ∷ others) = OfParts line.parts × AreLines others

-- from the lines to their marks
leaf_marks_good : (number column : ℕ) (s : Spelled Leaf) → OfSpelled IsLeaf s → AreGood (leaf_marks number column s)
leaf_marks_good number column (good v) is = (is, tt)
leaf_marks_good number column (left_out byte) is = tt
leaf_marks_good number column (wrong counts) is = tt

value_marks_good : (number : ℕ) (o : Option Value) → OfValue o → AreGood (value_marks number o)
value_marks_good number None is = tt
value_marks_good number (Some v) is = leaf_marks_good number v.column v.leaf is

said_utf8 : (s : Spelled (List ℕ)) → OfSpelled IsUtf8 s → IsUtf8 (text_said s)
said_utf8 (good text) is = is
said_utf8 (left_out byte) is = IsUtf8-nil
said_utf8 (wrong counts) is = IsUtf8-nil

name_marks_good : (number : ℕ) (o : Option Name) → OfName o → AreGood (name_marks number o)
name_marks_good number None is = tt
name_marks_good number (Some n) is = (said_utf8 n.text is, tt)

part_marks_good : (number : ℕ) (p : Parts) → OfParts p → AreGood (part_marks number p)
part_marks_good number (dashed column n v) is = (tt, good_append (name_marks number n) (value_marks number v) (name_marks_good number n is.0) (value_marks_good number v is.1))
part_marks_good number (member n v) is = good_append (name_marks number (Some n)) (value_marks number v) (name_marks_good number (Some n) is.0) (value_marks_good number v is.1)
part_marks_good number (alone v) is = value_marks_good number (Some v) is.1

start_marks_good : (line : Line) (starts : Bool) → AreGood (start_marks line starts)
start_marks_good line true = (tt, tt)
start_marks_good line false = tt

marks_good : (lines : List Line) → AreLines lines → AreGood (marks_of lines)
unfolding marks_of line_marks
marks_good [] are = tt
marks_good (line ∷ others) are =
    good_append (line_marks line) (marks_of others)
    (good_append (start_marks line line.starts) (part_marks line.number line.parts) (start_marks_good line line.starts) (part_marks_good line.number line.parts are.0))
    (marks_good others are.1)

-- a name, and what follows its colon
behind_this : (n : ℕ) (bytes : List ℕ) → n < 128 → ends_here n bytes ≡ true → IsUtf8 bytes → IsUtf8 (drop 1 bytes)
behind_this n [] l e u = IsUtf8-nil
behind_this n (byte ∷ bytes) l e u = behind_byte byte n bytes u (and_parts (byte == n) (ends_name bytes) e).0 l

abbrev OfNameAt : List ℕ → Option NameAt → Type 0
OfNameAt bytes None = Unit {0}
OfNameAt bytes (Some n) = OfSpelled IsUtf8 n.text × IsUtf8 (drop n.behind bytes)

quoted_name_utf8 : (o : Option (List ℕ)) → IsTextIf o → OfSpelled IsUtf8 (quoted_name o)
quoted_name_utf8 None u = tt
quoted_name_utf8 (Some text) u = u

quoted_name_good : (is_double : Bool) (byte : ℕ) (bytes : List ℕ) (o : Option ℕ) → o ≡ quoted_len is_double false bytes → IsUtf8 bytes → OfNameAt (byte ∷ bytes) (quoted_name_at is_double bytes o)
quoted_name_good is_double byte bytes None e u = tt
quoted_name_good is_double byte bytes (Some count) e u =
    let rest : List ℕ = drop count bytes in
    if_of (OfNameAt (byte ∷ bytes)) (colon_behind rest) (Some (record { text = quoted_name (text_within is_double (take (count - 1) bytes)); behind = 1 + count + spaces_of rest + 1 })) None
    (λ c. (
      quoted_name_utf8 (text_within is_double (take (count - 1) bytes)) (between_quotes is_double bytes count e u),
      subst IsUtf8 (same (spaces_of rest)) (behind_this 58 (drop (spaces_of rest) rest) (omega arith) c (behind_spaces rest (within_quotes is_double bytes count (sym e) u).1)),
    ))
    (λ c. tt)
  where
    same : (n : ℕ) → drop 1 (drop n (drop count bytes)) ≡ drop (1 + count + n + 1) (byte ∷ bytes)
    same n =
        let k : suc (count + (n + 1)) ≡ 1 + count + n + 1 = omega arith in
        drop-drop 1 n (drop count bytes) ∙ drop-drop (n + 1) count bytes ∙ ap (λ m. drop m (byte ∷ bytes)) k

plain_name_good : (bytes : List ℕ) (o : Option ℕ) → o ≡ colon_place false bytes → IsUtf8 bytes → OfNameAt bytes (plain_name_at bytes o)
plain_name_good bytes None e u = tt
plain_name_good bytes (Some place) e u =
    let text : List ℕ = trimmed (take place bytes) in
    let at = colon_at false bytes place (sym e) in (
      if_of (OfSpelled IsUtf8) (is_left_out bytes) (left_out (first_byte bytes)) (if begins_plain text then good text else wrong false) (λ a. tt)
          (λ a. if_of (OfSpelled IsUtf8) (begins_plain text) (good text) (wrong false) (λ b. trimmed_utf8 (take place bytes) (take_low bytes place u at)) (λ b. tt)),
      drop_low bytes place u at,
    )

name_by_good : (byte : ℕ) (bytes : List ℕ) → IsUtf8 (byte ∷ bytes) → OfNameAt (byte ∷ bytes) (name_by byte bytes)
name_by_good byte bytes u =
    if_of (OfNameAt (byte ∷ bytes)) (byte == 34) (quoted_name_at true bytes (quoted_len true false bytes)) _ (λ e. quoted_name_good true byte bytes (quoted_len true false bytes) refl (behind_byte byte 34 bytes u e (omega arith)))
    (λ a. if_of (OfNameAt (byte ∷ bytes)) (byte == 39) (quoted_name_at false bytes (quoted_len false false bytes)) _ (λ e. quoted_name_good false byte bytes (quoted_len false false bytes) refl (behind_byte byte 39 bytes u e (omega arith)))
    (λ b. if_of (OfNameAt (byte ∷ bytes)) (byte == 91 || byte == 123 || byte == 124) None (plain_name_at (byte ∷ bytes) (colon_place false (byte ∷ bytes))) (λ e. tt) (λ e. plain_name_good (byte ∷ bytes) (colon_place false (byte ∷ bytes)) refl u)))

name_good : (bytes : List ℕ) → IsUtf8 bytes → OfNameAt bytes (name_at bytes)
unfolding name_at
name_good [] u = tt
name_good (byte ∷ bytes) u = name_by_good byte bytes u

-- from the bytes to the lines
abbrev OfCut : Cut → Type 0
OfCut c = OfParts c.parts

abbrev OfHeld : Held → Type 0
OfHeld h = OfValue h.value

behind_good : (column least : ℕ) (bytes : List ℕ) (lines : List (List ℕ)) → IsUtf8 bytes → AreTexts lines → OfHeld (value_behind column least bytes lines)
unfolding value_behind
behind_good column least bytes lines u texts =
    let b : List ℕ = drop (whites_of bytes) bytes in
    if_of OfHeld (is_tail bytes) (record { value = None; block = None }) (record { value = Some (value_at (column + whites_of bytes) least b lines); block = block_from (opens_block b) least }) (λ e. tt) (λ e. value_good b least lines (behind_whites bytes u) texts)

item_named_good : (tab : Bool) (dash column : ℕ) (bytes : List ℕ) (lines : List (List ℕ)) (o : Option NameAt) → IsUtf8 bytes → AreTexts lines → OfNameAt bytes o → OfCut (item_named tab dash column bytes lines o)
item_named_good tab dash column bytes lines None u texts is = (tt, value_good bytes dash lines u texts)
item_named_good tab dash column bytes lines (Some n) u texts is = (is.0, behind_good (column + n.behind) column (drop n.behind bytes) lines is.1 texts)

item_cut_good : (dash : ℕ) (bytes : List ℕ) (lines : List (List ℕ)) → IsUtf8 bytes → AreTexts lines → OfCut (item_cut dash bytes lines)
unfolding item_cut
item_cut_good dash bytes lines u texts =
    let b : List ℕ = drop (whites_of bytes) bytes in
    if_of OfCut (is_tail bytes) (record { tab = false; parts = dashed dash None None; block = None }) (item_named (not (whites_of bytes == spaces_of bytes)) dash (dash + 1 + whites_of bytes) b lines (name_at b))
    (λ e. (tt, tt)) (λ e. item_named_good (not (whites_of bytes == spaces_of bytes)) dash (dash + 1 + whites_of bytes) b lines (name_at b) (behind_whites bytes u) texts (name_good b (behind_whites bytes u)))

line_named_good : (column least : ℕ) (bytes : List ℕ) (lines : List (List ℕ)) (o : Option NameAt) → IsUtf8 bytes → AreTexts lines → OfNameAt bytes o → OfCut (line_named column least bytes lines o)
line_named_good column least bytes lines None u texts is = (tt, value_good bytes least lines u texts)
line_named_good column least bytes lines (Some n) u texts is = (is.0, behind_good (column + n.behind) column (drop n.behind bytes) lines is.1 texts)

cut_good : (column least : ℕ) (bytes : List ℕ) (lines : List (List ℕ)) → IsUtf8 bytes → AreTexts lines → OfCut (cut column least bytes lines)
unfolding cut
cut_good column least bytes lines u texts =
    if_of OfCut (is_item bytes) (item_cut column (drop 1 bytes) lines) (line_named column least bytes lines (name_at bytes))
    (λ e. item_cut_good column (drop 1 bytes) lines (behind_this 45 bytes (omega arith) e u) texts) (λ e. line_named_good column least bytes lines (name_at bytes) u texts (name_good bytes u))

contents_good : (lines : List (List ℕ)) (number : ℕ) (starts : Bool) (least skip : ℕ) → AreTexts lines → AreLines (contents number starts least skip lines)
unfolding contents
contents_good [] number starts least zero texts = tt
contents_good [] number starts least (suc skip) texts = tt
contents_good (raw ∷ lines) number starts least (suc skip) texts = contents_good lines (number + 1) starts least skip texts.1
contents_good (raw ∷ lines) number starts least zero texts =
    if_of AreLines (is_mark raw) (contents (number + 1) true 0 0 lines) _ (λ e. contents_good lines (number + 1) true 0 0 texts.1)
    (λ a. if_of AreLines (is_passed_over raw) (contents (number + 1) starts least 0 lines)
    (line_with number starts raw (cut_line least raw lines) ∷ contents (number + 1) false (holder_column least (cut_line least raw lines).parts) (lines_below lines (cut_line least raw lines).block) lines)
    (λ e. contents_good lines (number + 1) starts least 0 texts.1)
    (λ e. (
      cut_good (spaces_of raw + 1) least (drop (spaces_of raw) raw) lines (behind_spaces raw texts.0) texts.1,
      contents_good lines (number + 1) false (holder_column least (cut_line least raw lines).parts) (lines_below lines (cut_line least raw lines).block) texts.1,
    )))

-- the documents of a file
pub file_lawful : (bytes : List ℕ) (documents : Forest) → IsUtf8 bytes → Says (file_lines bytes) documents → AreOfFile (plain documents)
file_lawful bytes documents u says =
    documents_lawful documents (marks_of (file_lines bytes)) says.marks_are says.fits
    (marks_good (file_lines bytes) (contents_good (lines (without_order_mark bytes)) 1 true 0 0 (lines_utf8 (without_order_mark bytes) (unmarked_utf8 bytes u))))
