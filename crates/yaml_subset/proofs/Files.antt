-- A file as a whole.
use Rattle.std.proofs.Common.{◌≡◌, ◌⊎◌, inl, inr, ℕ, suc, List, [], ◌∷◌, ◌++◌, refl, sym, ap, ◌∙◌, append_assoc, Result, Ok, Err}
use Rattle.std.specs.Prelude.{map, IsUtf8}
use Rattle.yaml_lines.specs.Leaf.{Scalar as ItemText}
use Rattle.yaml_lines.specs.LineParts.{Line}
use Rattle.yaml_subset.specs.declared.error.YamlErr.{YamlErr}
use Rattle.yaml_subset.specs.declared.error.YamlErr.TheVariants.{Tab, Indent, LeftOut, Repeated, Scalar, NotUtf8, NoMemory}
use Rattle.yaml_subset.specs.declared.node.Node.{Node}
use Rattle.yaml_subset.specs.Tree.{What, absent, leaf, rows, Forest, empty, grows, Entry, kind_of, text_of, item_entries, leaf_entries, row_entries, entries}
use Rattle.yaml_subset.specs.Front.{Front}
use Rattle.yaml_subset.specs.Reading.{Says, IsRefused}
use Rattle.yaml_subset.specs.Trees.{Trees, item_trees, inner_trees, plain, tree_entries}
use Rattle.yaml_subset.specs.File.{file_lines, IsFile, IsRefusal, IsRefusalOrMemory}
use Rattle.yaml_subset.specs.Held.{node_shown}
use Rattle.yaml_subset.specs.ReadLines.{Holds, IsLinesCause}
use Rattle.yaml_subset.specs.Docs.{Shows}
use Rattle.yaml_subset.proofs.Whole.{nothing_yet}
use Rattle.yaml_subset.proofs.Laws.{after_lines, says_read, says_one, refused_read}
use Rattle.yaml_subset.proofs.Mild.{line_error}

items_same : (depth line : ℕ) (items : List ItemText) (others : Trees) → item_entries depth line items ++ tree_entries depth others ≡ tree_entries depth (item_trees line items others)
unfolding tree_entries
items_same depth line [] others = refl
items_same depth line (item ∷ items) others = ap (λ l. record { depth = depth; line = line; kind = item.kind; name = []; text = item.text } ∷ l) (items_same depth line items others)

inner_same : (depth : ℕ) (what : What) (inner : Trees) → leaf_entries depth what ++ tree_entries depth inner ≡ tree_entries depth (inner_trees what inner)
inner_same depth absent inner = refl
inner_same depth (leaf line column v) inner = items_same depth line v.items inner
inner_same depth (rows h c) inner = refl

pub plain_entries : (depth : ℕ) (f : Forest) → entries depth f ≡ tree_entries depth (plain f)
unfolding entries tree_entries plain
plain_entries depth empty = refl
plain_entries depth (grows line name what inner later) =
    ap (λ l. row_entries depth line name what ++ (l ++ entries depth later)) (plain_entries (suc depth) inner)
    ∙ ap (λ l. row_entries depth line name what ++ (tree_entries (suc depth) (plain inner) ++ l)) (plain_entries depth later)
    ∙ sym (append_assoc (row_entries depth line name what) (tree_entries (suc depth) (plain inner)) (tree_entries depth (plain later)))
    ∙ ap (λ l. (head ∷ l) ++ tree_entries depth (plain later)) (inner_same (suc depth) what (plain inner))
  where
    head : Entry
    head = record { depth = depth; line = line; kind = kind_of what; name = name; text = text_of what }

two_ends : (r : Result Front YamlErr) (front : Front) (error : YamlErr) → r ≡ Ok front → r ≡ Err error → ⊥
two_ends r front error a b = cc

one_error : (r : Result Front YamlErr) (a b : YamlErr) → r ≡ Err a → r ≡ Err b → a ≡ b
one_error r a b x y = cc

-- lines that say documents are not refused
never_both : (lines : List Line) (documents : Forest) (error : YamlErr) → Says lines documents → IsRefused lines error → ⊥
never_both lines documents error s r = let p = says_read lines documents s in two_ends (after_lines nothing_yet lines) p.end error p.reads (refused_read lines error r)

-- and have one refusal at most
one_refusal : (lines : List Line) (a b : YamlErr) → IsRefused lines a → IsRefused lines b → a ≡ b
one_refusal lines a b x y = one_error (after_lines nothing_yet lines) a b (refused_read lines a x) (refused_read lines b y)

-- the documents that lines say, as they are kept
pub kept_as : (nodes : List Node) (lines : List Line) (h : Holds nodes lines) → map node_shown nodes ≡ tree_entries 0 (plain h.documents)
kept_as nodes lines h = h.shown ∙ plain_entries 0 h.documents

pub shows : (nodes : List Node) (documents : Trees) (bytes : List ℕ) → IsUtf8 bytes → (h : Holds nodes (file_lines bytes)) → documents ≡ plain h.documents → Shows documents bytes
shows nodes documents bytes utf8 h e = record {
  file = record { utf8 = utf8; layout = h.documents; says = h.says; are = e };
  only = λ others f. f.are ∙ ap plain (says_one (file_lines bytes) f.layout h.documents f.says h.says) ∙ sym e;
}

pub not_refused : (nodes : List Node) (bytes : List ℕ) (error : YamlErr) → IsUtf8 bytes → Holds nodes (file_lines bytes) → IsRefusal bytes error → ⊥
not_refused nodes bytes (Tab n) utf8 h r = never_both (file_lines bytes) h.documents (Tab n) h.says r.1
not_refused nodes bytes (Indent n) utf8 h r = never_both (file_lines bytes) h.documents (Indent n) h.says r.1
not_refused nodes bytes (LeftOut n w) utf8 h r = never_both (file_lines bytes) h.documents (LeftOut n w) h.says r.1
not_refused nodes bytes (Repeated n) utf8 h r = never_both (file_lines bytes) h.documents (Repeated n) h.says r.1
not_refused nodes bytes (Scalar n) utf8 h r = never_both (file_lines bytes) h.documents (Scalar n) h.says r.1
not_refused nodes bytes (NotUtf8 n) utf8 h r = r.0 utf8
not_refused nodes bytes NoMemory utf8 h r = r

not_of_line : (lines : List Line) (at : ℕ) → IsRefused lines (NotUtf8 at) → ⊥
not_of_line lines at r = line_error r.line r.front (NotUtf8 at) r.why

pub cause_in : (bytes : List ℕ) (error : YamlErr) → IsUtf8 bytes → IsLinesCause (file_lines bytes) error → IsRefusalOrMemory bytes error
cause_in bytes (Tab n) utf8 c = (utf8, c)
cause_in bytes (Indent n) utf8 c = (utf8, c)
cause_in bytes (LeftOut n w) utf8 c = (utf8, c)
cause_in bytes (Repeated n) utf8 c = (utf8, c)
cause_in bytes (Scalar n) utf8 c = (utf8, c)
cause_in bytes (NotUtf8 n) utf8 c = absurd (not_of_line (file_lines bytes) n c)
cause_in bytes NoMemory utf8 c = tt

pub read_or_memory : (bytes : List ℕ) (error : YamlErr) (documents : Trees) → IsLinesCause (file_lines bytes) error → IsFile bytes documents → error ≡ NoMemory
read_or_memory bytes (Tab n) documents c f = absurd (never_both (file_lines bytes) f.layout (Tab n) f.says c)
read_or_memory bytes (Indent n) documents c f = absurd (never_both (file_lines bytes) f.layout (Indent n) f.says c)
read_or_memory bytes (LeftOut n w) documents c f = absurd (never_both (file_lines bytes) f.layout (LeftOut n w) f.says c)
read_or_memory bytes (Repeated n) documents c f = absurd (never_both (file_lines bytes) f.layout (Repeated n) f.says c)
read_or_memory bytes (Scalar n) documents c f = absurd (never_both (file_lines bytes) f.layout (Scalar n) f.says c)
read_or_memory bytes (NotUtf8 n) documents c f = absurd (not_of_line (file_lines bytes) n c)
read_or_memory bytes NoMemory documents c f = refl

refusal_of : (bytes : List ℕ) (error other : YamlErr) → IsUtf8 bytes → IsRefused (file_lines bytes) error → IsRefusal bytes other → error ≡ other
refusal_of bytes error (Tab n) utf8 c r = one_refusal (file_lines bytes) error (Tab n) c r.1
refusal_of bytes error (Indent n) utf8 c r = one_refusal (file_lines bytes) error (Indent n) c r.1
refusal_of bytes error (LeftOut n w) utf8 c r = one_refusal (file_lines bytes) error (LeftOut n w) c r.1
refusal_of bytes error (Repeated n) utf8 c r = one_refusal (file_lines bytes) error (Repeated n) c r.1
refusal_of bytes error (Scalar n) utf8 c r = one_refusal (file_lines bytes) error (Scalar n) c r.1
refusal_of bytes error (NotUtf8 n) utf8 c r = absurd (r.0 utf8)
refusal_of bytes error NoMemory utf8 c r = absurd r

pub told_or_memory : (bytes : List ℕ) (error other : YamlErr) → IsUtf8 bytes → IsLinesCause (file_lines bytes) error → IsRefusal bytes other → (error ≡ other) ⊎ (error ≡ NoMemory)
told_or_memory bytes (Tab n) other utf8 c r = inl (refusal_of bytes (Tab n) other utf8 c r)
told_or_memory bytes (Indent n) other utf8 c r = inl (refusal_of bytes (Indent n) other utf8 c r)
told_or_memory bytes (LeftOut n w) other utf8 c r = inl (refusal_of bytes (LeftOut n w) other utf8 c r)
told_or_memory bytes (Repeated n) other utf8 c r = inl (refusal_of bytes (Repeated n) other utf8 c r)
told_or_memory bytes (Scalar n) other utf8 c r = inl (refusal_of bytes (Scalar n) other utf8 c r)
told_or_memory bytes (NotUtf8 n) other utf8 c r = absurd (not_of_line (file_lines bytes) n c)
told_or_memory bytes NoMemory other utf8 c r = inr refl
