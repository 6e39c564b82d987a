-- A line that has been cut, as contracts see it.
use Rattle.std.specs.Prelude.{option_map}
use Rattle.yaml_lines.specs.declared.line.Name.{Name as NameHeld}
use Rattle.yaml_lines.specs.declared.line.Value.{Value as ValueHeld}
use Rattle.yaml_lines.specs.declared.line.Parts.{Parts as PartsHeld}
use Rattle.yaml_lines.specs.declared.line.Parts.TheVariants as held
use Rattle.yaml_lines.specs.declared.line.NameEnd.{NameEnd}
use Rattle.yaml_lines.specs.declared.line.Behind.{Behind}
use Rattle.yaml_lines.specs.declared.line.LineCut.{LineCut}
use Rattle.yaml_lines.specs.declared.line.Line.{Line as LineHeld}
use Rattle.yaml_lines.specs.LineParts.{Name, Value, Parts, dashed, member, alone, Line}
use Rattle.yaml_lines.specs.LineText.{NameAt, Held, Cut}
use Rattle.yaml_lines.specs.Shown.{leaf_shown, spelled_shown}

abbrev pub name_shown : NameHeld → Name
name_shown name = record { column = name.column; first = name.first; text = spelled_shown (λ t. t.items) name.text }

abbrev pub value_shown : ValueHeld → Value
value_shown v = record { column = v.column; first = v.first; leaf = spelled_shown leaf_shown v.leaf }

abbrev pub parts_shown : PartsHeld → Parts
parts_shown (held.Dashed column name v) = dashed column (option_map name_shown name) (option_map value_shown v)
parts_shown (held.Member name v) = member (name_shown name) (option_map value_shown v)
parts_shown (held.Alone v) = alone (value_shown v)

abbrev pub name_end_shown : NameEnd → NameAt
name_end_shown n = record { text = spelled_shown (λ t. t.items) n.text; behind = n.behind }

abbrev pub behind_shown : Behind → Held
behind_shown b = record { value = option_map value_shown b.value; block = b.block }

abbrev pub cut_shown : LineCut → Cut
cut_shown c = record { tab = c.tab; parts = parts_shown c.parts; block = c.block }

abbrev pub line_shown : LineHeld → Line
line_shown l = record { number = l.number; starts = l.starts; tab = l.tab; parts = parts_shown l.parts }
