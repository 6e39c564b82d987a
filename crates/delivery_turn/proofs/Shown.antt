-- A text that was read, as an event.
use Rattle.std.proofs.Common.{◌≡◌, ◌∙◌, ℕ, List, refl, sym, subst}
use Rattle.json_text.specs.declared.doc.Doc.{Doc}
use Rattle.json_text.specs.declared.doc.Node.{Node}
use Rattle.json_text.specs.Forest.{Forest, one, empty}
use Rattle.json_text.specs.Doc.{IsRoot, Shows, StandsAt}
use Rattle.json_text.specs.Root.{IsValueOf}
use Rattle.rule_value.specs.Standing.{IsEvent}
use Rattle.cloud_events.specs.Wrapped.{IsRead}

-- the law of a text that was read
abbrev pub RootLaw : Type 0
RootLaw = (doc : Doc) (bytes : List ℕ) (root : Node) → Shows doc bytes → IsRoot root → IsValueOf doc bytes root

pub is_event : (law : RootLaw) (doc : Doc) (bytes : List ℕ) (values : Forest) → Shows doc bytes → IsRead bytes values → IsEvent doc (record { bytes = bytes; values = values })
is_event law doc bytes values shows read =
    let first : Node = record { number = 0 } in
    let value = law doc bytes first shows refl in
    let whole : one value.spot value.children ≡ shows.values = shows.only (one value.spot value.children) value.text in
    record {
      bytes = sym shows.same;
      spot = value.spot;
      children = value.children;
      later = empty;
      values = shows.only values read.text ∙ sym whole;
      stands = λ root is. subst (StandsAt doc root) (sym whole) (shows.from_root root is);
    }

pub is_read : (doc : Doc) (bytes : List ℕ) (shows : Shows doc bytes) → IsRead bytes shows.values
is_read doc bytes shows = record { text = shows.text; clean = shows.clean }
