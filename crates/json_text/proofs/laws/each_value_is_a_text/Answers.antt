use Rattle.std.proofs.Common.{ℕ, List, arith, refl, length, [], None}
use Rattle.json_text.specs.declared.doc.Doc.{Doc}
use Rattle.json_text.specs.declared.spot.Spot.{Spot}
use Rattle.json_text.specs.declared.part.Part.TheVariants.{Start as start}
use Rattle.json_text.specs.Forest.{Forest, grows}
use Rattle.json_text.specs.Doc.{StandAt, Shows}
use Rattle.json_text.specs.Shape.{value_bytes, IsPlaced}
use Rattle.json_text.specs.Moved.{alone}
use Rattle.json_text.proofs.Walks.{stands_inside}
use Rattle.json_text.proofs.ValueFacts.{value_in, fact_at, placed}
use Rattle.json_text.proofs.Clear.{text_clear, clear_completes, clear_clean}
use Rattle.json_text.proofs.Moves.{IsClearAlone, all_alone, alone_low}
use Rattle.json_text.proofs.laws.each_value_is_a_text.Goals as goal

clear_alone : (doc : Doc) (bytes : List ℕ) (n : ℕ) (spot : Spot) (children later : Forest) → Shows doc bytes → StandAt doc n (grows spot children later) → IsClearAlone bytes spot children
clear_alone doc bytes n spot children later shows stands =
    let inside = stands_inside doc n spot children later stands in
    fact_at (IsClearAlone bytes) doc n spot children later
    (value_in (IsClearAlone bytes) doc n shows.values 0 (all_alone bytes shows.values (text_clear bytes shows.values shows.text shows.clean)) (shows.from_root (record { number = 0 }) refl) (omega arith) (omega (arith, inside, shows.all))) stands

pub returns-clause-text : goal.returns-clause-text
returns-clause-text c doc bytes node spot children later shows stands =
    clear_completes None start 0 (length (value_bytes bytes spot)) (value_bytes bytes spot) [] (alone spot children) (clear_alone doc bytes node.number spot children later shows stands)

pub returns-clause-clean : goal.returns-clause-clean
returns-clause-clean c doc bytes node spot children later shows stands =
    let place = fact_at (IsPlaced bytes) doc node.number spot children later (placed doc bytes node.number shows (stands_inside doc node.number spot children later stands)) stands in
    clear_clean (value_bytes bytes spot) (alone spot children) (clear_alone doc bytes node.number spot children later shows stands) (alone_low spot children place.deep)
