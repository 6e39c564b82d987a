-- Reading what was written of a text.
use Rattle.std.proofs.Common.{◌≡◌, ℕ, suc, ◌+◌, ◌-◌, false, List, [], ◌∷◌, ◌++◌, length, take, Some, None, refl, ap, ◌∙◌, arith, length-append}
use Rattle.std.proofs.lemmas.List.{take-append-le}
use Rattle.std.proofs.Math.Seq.{take-length}
use Rattle.std.specs.Str.{IsUtf8}
use Rattle.json_lexemes.specs.declared.kind.Kind.TheVariants as kinds
use Rattle.json_lexemes.specs.declared.lexeme.Lexeme.TheVariants.{Plain as plain, Closed as closed}
use Rattle.json_text.specs.declared.part.Part.TheVariants.{Start as start, Rest as rest}
use Rattle.json_lexemes.specs.Lexeme.{next, ends, begins, Spells, done, more}
use Rattle.json_text.specs.Faults.{is_numbered, IsClean}
use Rattle.json_text.specs.Forest.{empty, one}
use Rattle.json_text.specs.Grammar.{IsText, word, finish, closes, turns, takes_value}
use Rattle.json_lexemes.specs.Scan.{EndsAt}
use Rattle.json_text.specs.Between.{Between}
use Rattle.json_text.specs.Unescape.{unescaped, content}
use Rattle.json_lexemes.specs.Spelling.{string_of}
use Rattle.json_text.specs.Written.{ReadsBack, whole_string}
use Rattle.byte_lanes.specs.Spelling.{spelled}
use Rattle.json_lexemes.proofs.Runs.{over_at_end}
use Rattle.json_lexemes.proofs.Courses.{Course, here, on, course_on, course_passes, course_spells}
pub use Rattle.json_lexemes.proofs.SpelledTexts.{spelled_text, spelling_leads}
use Rattle.json_text.proofs.Tokens.{read_start, read_word, read_end}

-- ---- what a reader makes of it

closed_end : (i : ℕ) → Spells (plain false) i (34 ∷ []) (suc i) [] kinds.Text
unfolding next ends
closed_end i = more {after = closed} refl (done refl)

pub closed_next : (next (plain false) 34 ≡ Some closed) × (ends closed ≡ Some kinds.Text)
unfolding next ends
closed_next = (refl, refl)

string_starts : (begins 34 ≡ Some (plain false)) × (closes None start 34 ≡ false) × (turns None start 34 ≡ None) × (takes_value None start ≡ Some None)
unfolding begins closes turns takes_value
string_starts = (refl, refl, refl, refl)

quote_course : Course (plain false) (34 ∷ []) [] closed
unfolding next is_numbered
quote_course = on refl refl here

module _ (text : List ℕ) (utf8 : IsUtf8 text) where
  size : length (string_of text) ≡ suc (suc (length (spelled text)))
  size = omega (arith, length-append (spelled text) (34 ∷ []))

  inside_size : length (spelled text ++ 34 ∷ []) ≡ length (spelled text) + 1
  inside_size = length-append (spelled text) (34 ∷ [])

  course : Course (plain false) (spelled text ++ 34 ∷ []) [] closed
  course = course_on (plain false) (spelled text ++ 34 ∷ []) (34 ∷ []) (plain false) [] closed (spelling_leads text (34 ∷ []) utf8) quote_course

  word_spells : Spells (plain false) 1 (spelled text ++ 34 ∷ []) (length (string_of text)) [] kinds.Text
  word_spells = course_spells (plain false) (spelled text ++ 34 ∷ []) [] closed 1 (length (string_of text)) (length (string_of text)) [] kinds.Text course (done closed_next.1) (omega (arith, size, inside_size))

  is_text : IsText (string_of text) (one (whole_string (length (string_of text))) empty)
  is_text = word string_starts.3 string_starts.0 word_spells (finish refl)

  ends_there : EndsAt (string_of text) 1 (plain false) (length (string_of text)) kinds.Text
  ends_there = record {
    word = closed;
    passes = course_passes (string_of text) (plain false) (spelled text ++ 34 ∷ []) [] closed 1 (length (string_of text)) course refl (omega (arith, size, inside_size));
    ends_there = closed_next.1;
    over = over_at_end (string_of text) (length (string_of text)) closed refl;
  }

  clean : IsClean (string_of text) (length (string_of text) + 1)
  clean =
      let starts : Between (string_of text) 0 None [] = record { inside = omega (arith, size); level_is = refl; not_blank = refl } in
      let read = read_word (string_of text) 0 start [] [] None (read_start (string_of text)) starts None (plain false) (length (string_of text)) kinds.Text string_starts.1 string_starts.2 string_starts.3 refl string_starts.0 ends_there in
      (read_end (string_of text) (length (string_of text)) rest _ [] read refl refl refl).3

  inside_is : content (string_of text) (record { start = 0; end = length (string_of text) }) ≡ spelled text
  inside_is =
      let len : length (string_of text) - 1 - 1 ≡ length (spelled text) = omega (arith, size) in
      ap (λ n. take n (spelled text ++ 34 ∷ [])) len ∙ take-append-le (length (spelled text)) (spelled text) (34 ∷ []) (omega arith) ∙ take-length (spelled text)

  pub reads_back : ReadsBack text
  reads_back = record { spells = is_text; clean = clean; same = ap unescaped inside_is ∙ spelled_text text }
