-- Where the values that are kept stand, and that they show the text.
use Rattle.std.proofs.Common.{◌≡◌, ℕ, ◌+◌, ◌-◌, ◌<◌, ◌≤◌, Bool, false, List, [], length, take, drop, get_or, refl, sym, ap, subst, ◌∙◌, arith, append-nil}
use Rattle.json_text.specs.declared.spot.Entry.{Entry}
use Rattle.json_text.specs.declared.doc.Doc.{Doc}
use Rattle.json_text.specs.Forest.{Forest, empty, grows}
use Rattle.json_text.specs.Reading.{entries, Holds}
use Rattle.json_text.specs.Readable.{IsWithin, ValuesAreWithin}
use Rattle.json_text.specs.Shape.{AreInRow, value_bytes}
use Rattle.json_text.specs.Doc.{bytes_read, values_kept, Shows, ForFirst}
use Rattle.json_text.proofs.Fronts.{one_tree}
use Rattle.json_text.proofs.Shapes.{text_in_row}
use Rattle.json_text.proofs.Kept.{length-entries}
use Rattle.json_text.proofs.Every.{Every, every_kept}

-- every value of a row is within the text
row_within : (bytes : List ℕ) (names : Bool) (from to : ℕ) (values : Forest) → to ≤ length bytes → AreInRow names from to values → Every (IsWithin bytes) values
row_within bytes names from to empty le h = tt
row_within bytes names from to (grows s c l) le h =
    ((h.0.some, omega (arith, le, h.0.high)), row_within bytes _ (s.span.start + 1) (s.span.end - 1) c (omega (arith, le, h.0.high)) h.1, row_within bytes names s.span.end to l le h.2)

pub values_within : (bytes : List ℕ) (nodes : List Entry) → Holds bytes nodes → ValuesAreWithin bytes nodes
values_within bytes nodes h k e lt =
    subst (λ (x : List Entry). k < length x → IsWithin bytes (get_or x k e).spot) (sym h.nodes_are) (every_kept (IsWithin bytes) 0 h.values (row_within bytes false 0 (length bytes) h.values (omega arith) (text_in_row bytes h.values h.text)) k e) lt

-- all values of the text
pub shown : (doc : Doc) → Holds (bytes_read doc) (values_kept doc) → Shows doc (bytes_read doc)
shown doc h = record {
  values = h.values;
  text = h.text;
  only = λ others t. one_tree (bytes_read doc) others h.values t h.text;
  clean = h.clean;
  from_root = λ node is. record { depth = 0; others = []; are = ap (λ k. drop k (values_kept doc)) is ∙ h.nodes_are ∙ sym (append-nil (entries 0 h.values)); end = tt };
  same = refl;
  all = ap length h.nodes_are ∙ length-entries 0 h.values;
}

-- the bytes between the places of a value are its bytes
pub bytes_between : (bytes : List ℕ) (start end : ℕ) (values : Forest) → ForFirst values (λ spot children later. start ≡ spot.span.start) → ForFirst values (λ spot children later. end ≡ spot.span.end) → ForFirst values (λ spot children later. take (end - start) (drop start bytes) ≡ value_bytes bytes spot)
bytes_between bytes start end empty a b = tt
bytes_between bytes start end (grows s c l) a b = ap (λ k. take (k - start) (drop start bytes)) b ∙ ap (λ k. take (s.span.end - k) (drop k bytes)) a
