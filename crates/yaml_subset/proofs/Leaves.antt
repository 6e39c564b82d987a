-- What holds of the values that are written in one piece.
use Rattle.std.proofs.Common.{◌≡◌, ℕ, ◌-◌, ◌<◌, Bool, true, false, ◌&&◌, ◌||◌, not, ◌==◌, List, [], ◌∷◌, ◌++◌, drop, take, refl, sym, arith, Option, Some, None}
use Rattle.std.specs.Prelude.{IsUtf8, if◌then◌else◌}
use Rattle.std.proofs.lemmas.Str.{IsUtf8-nil}
use Rattle.yaml_lines.specs.declared.kind.PartKind.{PartKind}
use Rattle.yaml_lines.specs.declared.kind.PartKind.TheVariants as kinds
use Rattle.yaml_lines.specs.declared.flow.Within.TheVariants.{Before as before}
use Rattle.yaml_lines.specs.Leaf.{Scalar, Leaf}
use Rattle.yaml_lines.specs.LineParts.{Spelled, good, left_out, wrong}
use Rattle.yaml_lines.proofs.Branches.{if_of}
use Rattle.yaml_lines.proofs.Chars.{low_by, utf8_tail, AreTexts}
use Rattle.yaml_lines.proofs.Cuts.{behind_whites, trimmed_utf8, before_comment_utf8, within_quotes}
use Rattle.yaml_lines.proofs.Spelling.{unquoted_utf8}
use Rattle.yaml_lines.proofs.BlockTexts.{block_utf8}
use Rattle.yaml_lines.proofs.FlowTexts.{pieces_utf8}
use Rattle.yaml_lines.specs.Blank.{whites_of, begins_with, is_end, is_tail}
use Rattle.yaml_lines.specs.Plain.{trimmed, before_comment, begins_plain, has_colon_space, is_left_out, is_null}
use Rattle.yaml_lines.specs.Quoted.{quoted_len, text_within}
use Rattle.yaml_lines.specs.Block.{block_text}
use Rattle.yaml_lines.specs.Flow.{plain_scalar, is_plain_item, quoted_scalar, quoted_item, item_by, trimmed_item, first_of_item, item_text, Gathered, gather, gathered, gathered_none, sequence_leaf, sequence_out, closed_by, pieces, flow_leaf}
use Rattle.yaml_lines.specs.ValueText.{text_leaf, bare_leaf, plain_leaf, quoted_text_leaf, quoted_leaf, header_keeps, header_tail, block_leaf, brace_leaf, value_by, value_text}
use Rattle.yaml_subset.specs.Lawful.{MayTell}

-- a fact of what is spelled, if something is
abbrev pub OfSpelled : {T : Type 0} → (T → Type 0) → Spelled T → Type 0
OfSpelled P (good x) = P x
OfSpelled P (left_out byte) = Unit {0}
OfSpelled P (wrong counts) = Unit {0}

-- a text of these bytes is in UTF-8, if it is one
abbrev pub IsTextIf : Option (List ℕ) → Type 0
IsTextIf None = Unit {0}
IsTextIf (Some text) = IsUtf8 text

unquoted : (is_double : Bool) (bytes : List ℕ) (o : Option (List ℕ)) → IsUtf8 bytes → text_within is_double bytes ≡ o → IsTextIf o
unquoted is_double bytes None u e = tt
unquoted is_double bytes (Some text) u e = unquoted_utf8 is_double bytes text u e

-- what stands between quotes
pub between_quotes : (is_double : Bool) (bytes : List ℕ) (count : ℕ) → Some count ≡ quoted_len is_double false bytes → IsUtf8 bytes → IsTextIf (text_within is_double (take (count - 1) bytes))
between_quotes is_double bytes count e u = unquoted is_double (take (count - 1) bytes) (text_within is_double (take (count - 1) bytes)) (within_quotes is_double bytes count (sym e) u).0 refl

pub behind_byte : (byte n : ℕ) (bytes : List ℕ) → IsUtf8 (byte ∷ bytes) → (byte == n) ≡ true → n < 128 → IsUtf8 bytes
behind_byte byte n bytes u e l = utf8_tail byte bytes (low_by byte n e l) u

abbrev pub IsItem : Scalar → Type 0
IsItem i = MayTell i.kind i.text × IsUtf8 i.text

abbrev pub AreItems : List Scalar → Type 0
AreItems [] = Unit {0}
AreItems (i ∷ others) = IsItem i × AreItems others

-- only a sequence lists items
abbrev pub MayList : PartKind → List Scalar → Type 0
MayList kinds.Sequence items = Unit {0}
MayList kinds.Mapping items = items ≡ []
MayList kinds.Scalar items = items ≡ []
MayList kinds.Empty items = items ≡ []

pub record IsLeaf (v : Leaf) : Type 0 where
  pub tells : MayTell v.kind v.text
  pub utf8 : IsUtf8 v.text
  pub lists : MayList v.kind v.items
  pub items : AreItems v.items

text_is_leaf : (plain : Bool) (text : List ℕ) → IsUtf8 text → IsLeaf (text_leaf plain text)
text_is_leaf plain text u = record { tells = tt; utf8 = u; lists = refl; items = tt }

bare_mapping : (plain : Bool) → IsLeaf (bare_leaf kinds.Mapping plain)
bare_mapping plain = record { tells = refl; utf8 = IsUtf8-nil; lists = refl; items = tt }

bare_empty : (plain : Bool) → IsLeaf (bare_leaf kinds.Empty plain)
bare_empty plain = record { tells = refl; utf8 = IsUtf8-nil; lists = refl; items = tt }

-- items in brackets
plain_item : (text : List ℕ) → IsUtf8 text → IsItem (plain_scalar text)
plain_item text u = if_of IsItem (is_null text) (record { kind = kinds.Empty; text = [] }) (record { kind = kinds.Scalar; text = text }) (λ e. (refl, IsUtf8-nil)) (λ e. (tt, u))

quoted_is_item : (o : Option (List ℕ)) → IsTextIf o → OfSpelled IsItem (quoted_scalar o)
quoted_is_item None u = tt
quoted_is_item (Some text) u = (tt, u)

quoted_item_good : (is_double : Bool) (bytes : List ℕ) (o : Option ℕ) → o ≡ quoted_len is_double false bytes → IsUtf8 bytes → OfSpelled IsItem (quoted_item is_double bytes o)
quoted_item_good is_double bytes None e u = tt
quoted_item_good is_double bytes (Some count) e u =
    if_of (OfSpelled IsItem) (is_end (drop count bytes)) (quoted_scalar (text_within is_double (take (count - 1) bytes))) (wrong false)
    (λ d. quoted_is_item (text_within is_double (take (count - 1) bytes)) (between_quotes is_double bytes count e u)) (λ d. tt)

item_by_good : (byte : ℕ) (bytes : List ℕ) → IsUtf8 (byte ∷ bytes) → OfSpelled IsItem (item_by byte bytes)
item_by_good byte bytes u =
    if_of (OfSpelled IsItem) (byte == 34) (quoted_item true bytes (quoted_len true false bytes)) _ (λ e. quoted_item_good true bytes (quoted_len true false bytes) refl (behind_byte byte 34 bytes u e (omega arith)))
    (λ a. if_of (OfSpelled IsItem) (byte == 39) (quoted_item false bytes (quoted_len false false bytes)) _ (λ e. quoted_item_good false bytes (quoted_len false false bytes) refl (behind_byte byte 39 bytes u e (omega arith)))
    (λ b. if_of (OfSpelled IsItem) (is_plain_item (byte ∷ bytes)) (good (plain_scalar (byte ∷ bytes))) (wrong false) (λ e. plain_item (byte ∷ bytes) u) (λ e. tt)))

trimmed_good : (bytes : List ℕ) → IsUtf8 bytes → OfSpelled IsItem (trimmed_item bytes)
trimmed_good [] u = tt
trimmed_good (byte ∷ bytes) u = item_by_good byte bytes u

item_good : (bytes : List ℕ) → IsUtf8 bytes → OfSpelled IsItem (item_text bytes)
item_good bytes u =
    let b : List ℕ = drop (whites_of bytes) bytes in
    if_of (OfSpelled IsItem) (is_left_out b) (left_out (first_of_item b)) (trimmed_item (trimmed b)) (λ e. tt) (λ e. trimmed_good (trimmed b) (trimmed_utf8 b (behind_whites bytes u)))

items_push : (items : List Scalar) (i : Scalar) → AreItems items → IsItem i → AreItems (items ++ i ∷ [])
items_push [] i are is = (is, tt)
items_push (x ∷ items) i are is = (are.0, items_push items i are.1 is)

gather_good : (g : Gathered) (s : Spelled Scalar) → AreItems g.items → OfSpelled IsItem s → AreItems (gather g s).items
gather_good g (good i) are is = items_push g.items i are is
gather_good g (left_out byte) are is = are
gather_good g (wrong counts) are is = are

gathered_good : (all : List (List ℕ)) (g : Gathered) → AreTexts all → AreItems g.items → AreItems (gathered g all).items
unfolding gathered
gathered_good [] g texts are = are
gathered_good (piece ∷ others) g texts are = gathered_good others (gather g (item_text piece)) texts.1 (gather_good g (item_text piece) are (item_good piece texts.0))

sequence_is_leaf : (items : List Scalar) → AreItems items → IsLeaf (sequence_leaf items)
sequence_is_leaf items are = record { tells = refl; utf8 = IsUtf8-nil; lists = tt; items = are }

sequence_good : (o : Option ℕ) (g : Gathered) (closed : Bool) → AreItems g.items → OfSpelled IsLeaf (sequence_out o g closed)
sequence_good (Some byte) g closed are = tt
sequence_good None g closed are = if_of (OfSpelled IsLeaf) (g.bad || not closed) (wrong true) (good (sequence_leaf g.items)) (λ e. tt) (λ e. sequence_is_leaf g.items are)

flow_good : (bytes : List ℕ) → IsUtf8 bytes → OfSpelled IsLeaf (flow_leaf bytes)
unfolding flow_leaf
flow_good bytes u =
    let b : List ℕ = drop (whites_of bytes) bytes in
    let g : Gathered = gathered gathered_none ((pieces (before false) bytes).first ∷ (pieces (before false) bytes).others) in
    if_of (OfSpelled IsLeaf) (begins_with 93 b) (if is_tail (drop 1 b) then good (sequence_leaf []) else wrong true) (sequence_out g.out g (closed_by (pieces (before false) bytes).rest))
    (λ e. if_of (OfSpelled IsLeaf) (is_tail (drop 1 b)) (good (sequence_leaf [])) (wrong true) (λ d. sequence_is_leaf [] tt) (λ d. tt))
    (λ e. sequence_good g.out g (closed_by (pieces (before false) bytes).rest) (gathered_good ((pieces (before false) bytes).first ∷ (pieces (before false) bytes).others) gathered_none (pieces_utf8 bytes u (before false)) tt))

-- other values
null_or_text : (text : List ℕ) → IsUtf8 text → IsLeaf (if is_null text then bare_leaf kinds.Empty true else text_leaf true text)
null_or_text text u = if_of IsLeaf (is_null text) (bare_leaf kinds.Empty true) (text_leaf true text) (λ e. bare_empty true) (λ e. text_is_leaf true text u)

plain_good : (text : List ℕ) → IsUtf8 text → OfSpelled IsLeaf (plain_leaf text)
plain_good text u =
    if_of (OfSpelled IsLeaf) (begins_plain text && not (has_colon_space text)) (good (if is_null text then bare_leaf kinds.Empty true else text_leaf true text)) (wrong false)
    (λ e. null_or_text text u) (λ e. tt)

quoted_text_good : (o : Option (List ℕ)) → IsTextIf o → OfSpelled IsLeaf (quoted_text_leaf o)
quoted_text_good None u = tt
quoted_text_good (Some text) u = text_is_leaf false text u

quoted_good : (is_double : Bool) (bytes : List ℕ) (o : Option ℕ) → o ≡ quoted_len is_double false bytes → IsUtf8 bytes → OfSpelled IsLeaf (quoted_leaf is_double bytes o)
quoted_good is_double bytes None e u = tt
quoted_good is_double bytes (Some count) e u =
    if_of (OfSpelled IsLeaf) (is_tail (drop count bytes)) (quoted_text_leaf (text_within is_double (take (count - 1) bytes))) (wrong false)
    (λ d. quoted_text_good (text_within is_double (take (count - 1) bytes)) (between_quotes is_double bytes count e u)) (λ d. tt)

block_good : (bytes : List ℕ) (least : ℕ) (lines : List (List ℕ)) → AreTexts lines → OfSpelled IsLeaf (block_leaf bytes least lines)
block_good bytes least lines texts =
    if_of (OfSpelled IsLeaf) (is_tail (header_tail bytes)) (good (text_leaf false (block_text (header_keeps bytes) least lines))) (wrong false)
    (λ e. text_is_leaf false (block_text (header_keeps bytes) least lines) (block_utf8 (header_keeps bytes) least lines texts)) (λ e. tt)

brace_good : (bytes : List ℕ) → OfSpelled IsLeaf (brace_leaf bytes)
brace_good [] = tt
brace_good (byte ∷ bytes) = if_of (OfSpelled IsLeaf) (is_tail bytes) (good (bare_leaf kinds.Mapping false)) (wrong true) (λ e. bare_mapping false) (λ e. tt)

value_by_good : (byte : ℕ) (bytes : List ℕ) (least : ℕ) (lines : List (List ℕ)) → IsUtf8 (byte ∷ bytes) → AreTexts lines → OfSpelled IsLeaf (value_by byte bytes least lines)
value_by_good byte bytes least lines u texts =
    if_of (OfSpelled IsLeaf) (byte == 34) (quoted_leaf true bytes (quoted_len true false bytes)) _ (λ e. quoted_good true bytes (quoted_len true false bytes) refl (behind_byte byte 34 bytes u e (omega arith)))
    (λ a. if_of (OfSpelled IsLeaf) (byte == 39) (quoted_leaf false bytes (quoted_len false false bytes)) _ (λ e. quoted_good false bytes (quoted_len false false bytes) refl (behind_byte byte 39 bytes u e (omega arith)))
    (λ b. if_of (OfSpelled IsLeaf) (byte == 91) (flow_leaf bytes) _ (λ e. flow_good bytes (behind_byte byte 91 bytes u e (omega arith)))
    (λ c. if_of (OfSpelled IsLeaf) (byte == 124) (block_leaf bytes least lines) _ (λ e. block_good bytes least lines texts)
    (λ d. if_of (OfSpelled IsLeaf) (is_left_out (byte ∷ bytes)) (left_out byte) _ (λ e. tt)
    (λ f. if_of (OfSpelled IsLeaf) (byte == 123) (brace_leaf bytes) (plain_leaf (trimmed (before_comment (byte ∷ bytes)))) (λ e. brace_good bytes)
    (λ e. plain_good (trimmed (before_comment (byte ∷ bytes))) (trimmed_utf8 (before_comment (byte ∷ bytes)) (before_comment_utf8 (byte ∷ bytes) u))))))))

pub value_good : (bytes : List ℕ) (least : ℕ) (lines : List (List ℕ)) → IsUtf8 bytes → AreTexts lines → OfSpelled IsLeaf (value_text bytes least lines)
unfolding value_text
value_good [] least lines u texts = tt
value_good (byte ∷ bytes) least lines u texts = value_by_good byte bytes least lines u texts
