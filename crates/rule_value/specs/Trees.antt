-- The grammar of rules. Each constructor is a production, and the index is what it makes:
--
--   or    = and , { "||" , and }
--   and   = rel , { "&&" , rel }
--   rel   = unary , [ ( "==" | "!=" | "<=" | "<" | ">=" | ">" ) , unary | "in" , list ]
--   unary = { "!" } , post
--   post  = atom , { "." , ( "startsWith" | "endsWith" | "contains" ) , "(" , or , ")" }
--   atom  = "(" , or , ")" | text | int | "true" | "false" | "null" | path
--         | "has" , "(" , path , ")" | "int" , "(" , or , ")"
--   path  = "event" , { "." , name | "[" , text , "]" }
--   list  = "[" , [ or , { "," , or } ] , "]"
use Rattle.std.specs.Prelude.{ℕ, suc, max, Bool, true, false, List, [], ◌∷◌, ◌++◌}
use Rattle.rule_value.specs.declared.part.Part.{Part}
use Rattle.rule_value.specs.declared.part.Part.TheVariants as parts
use Rattle.rule_value.specs.declared.part.Word.{Word}
use Rattle.rule_value.specs.declared.part.Word.TheVariants as words
use Rattle.rule_value.specs.declared.part.Call.{Call}
use Rattle.rule_value.specs.declared.part.Relation.{Relation}
use Rattle.rule_value.specs.declared.part.Whole.{Whole}

pub data Level : Type 0 where
  or : Level
  and : Level
  rel : Level
  list : Level
  items : Level
  unary : Level
  post : Level
  round : Level
  atom : Level
  path : Level

-- a step of a path: a name behind a dot, or a text in brackets
pub data Step : Type 0 where
  dotted : List ℕ → Step
  quoted : List ℕ → Step

pub data Tree : Level → Type 0 where
  or_of : Tree and → Tree or
  either : Tree or → Tree and → Tree or
  and_of : Tree rel → Tree and
  both : Tree and → Tree rel → Tree and
  rel_of : Tree unary → Tree rel
  test : Relation → Tree unary → Tree unary → Tree rel
  choice : Tree unary → Tree list → Tree rel
  -- `[` and `]` stand round the items of a list, and commas between them
  no_items : Tree list
  some_items : Tree items → Tree list
  first_item : Tree or → Tree items
  next_item : Tree items → Tree or → Tree items
  unary_of : Tree post → Tree unary
  negated : Tree unary → Tree unary
  post_of : Tree atom → Tree post
  called : Call → Tree post → Tree round → Tree post
  -- `(`, an `or`, and `)`
  rounded : Tree or → Tree round
  group : Tree round → Tree atom
  text : List ℕ → Tree atom
  number : Whole → Tree atom
  flag : Bool → Tree atom
  null : Tree atom
  member : Tree path → Tree atom
  has : Tree path → Tree atom
  int : Tree round → Tree atom
  steps : List Step → Tree path

-- a part of a text, with what a name or a text in quotes holds
pub data Token : Type 0 where
  mark : Part → Token
  name : List ℕ → Token
  quote : List ℕ → Token

abbrev pub step_tokens : Step → List Token
step_tokens (dotted letters) = mark parts.Dot ∷ name letters ∷ []
step_tokens (quoted held) = mark parts.OpenList ∷ quote held ∷ mark parts.CloseList ∷ []

abbrev pub steps_tokens : List Step → List Token
steps_tokens [] = []
steps_tokens (step ∷ later) = step_tokens step ++ steps_tokens later

abbrev pub flag_word : Bool → Word
flag_word true = words.True
flag_word false = words.False

-- a name that is no member's
abbrev pub word : Word → Token
word means = mark (parts.Named means)

-- the parts of which each production is made
abbrev pub spelled : {level : Level} → Tree level → List Token
spelled (or_of a) = spelled a
spelled (either a b) = spelled a ++ mark parts.Either ∷ spelled b
spelled (and_of a) = spelled a
spelled (both a b) = spelled a ++ mark parts.Both ∷ spelled b
spelled (rel_of a) = spelled a
spelled (test relation a b) = spelled a ++ mark (parts.Test relation) ∷ spelled b
spelled (choice a b) = spelled a ++ word words.In ∷ spelled b
spelled no_items = mark parts.OpenList ∷ mark parts.CloseList ∷ []
spelled (some_items a) = mark parts.OpenList ∷ (spelled a ++ mark parts.CloseList ∷ [])
spelled (first_item a) = spelled a
spelled (next_item a b) = spelled a ++ mark parts.Comma ∷ spelled b
spelled (unary_of a) = spelled a
spelled (negated a) = mark parts.Bang ∷ spelled a
spelled (post_of a) = spelled a
spelled (called call a b) = spelled a ++ mark parts.Dot ∷ word (words.Call call) ∷ spelled b
spelled (rounded a) = mark parts.Open ∷ (spelled a ++ mark parts.Close ∷ [])
spelled (group a) = spelled a
spelled (text held) = quote held ∷ []
spelled (number whole) = mark (parts.Number whole) ∷ []
spelled (flag on) = word (flag_word on) ∷ []
spelled null = word words.Null ∷ []
spelled (member a) = spelled a
spelled (has a) = word words.Has ∷ mark parts.Open ∷ (spelled a ++ mark parts.Close ∷ [])
spelled (int a) = word words.Int ∷ spelled a
spelled (steps all) = word words.Event ∷ steps_tokens all

-- how many brackets stand within one another, at most: those of groups, calls, `has`, `int` and lists
abbrev pub levels : {level : Level} → Tree level → ℕ
levels (or_of a) = levels a
levels (either a b) = max (levels a) (levels b)
levels (and_of a) = levels a
levels (both a b) = max (levels a) (levels b)
levels (rel_of a) = levels a
levels (test relation a b) = max (levels a) (levels b)
levels (choice a b) = max (levels a) (levels b)
levels no_items = 1
levels (some_items a) = suc (levels a)
levels (first_item a) = levels a
levels (next_item a b) = max (levels a) (levels b)
levels (unary_of a) = levels a
levels (negated a) = levels a
levels (post_of a) = levels a
levels (called call a b) = max (levels a) (levels b)
levels (rounded a) = suc (levels a)
levels (group a) = levels a
levels (text held) = 0
levels (number whole) = 0
levels (flag on) = 0
levels null = 0
levels (member a) = 0
levels (has a) = 1
levels (int a) = levels a
levels (steps all) = 0
