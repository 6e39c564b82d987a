-- The event that is written out is a JSON text.
use Rattle.std.proofs.Common.{◌≤◌, Some, None, refl, arith}
use Rattle.json_text.specs.Kind.TheVariants as kinds
use Rattle.json_text.specs.Forest.{Forest, empty, grows}
use Rattle.json_text.specs.Lexeme.{begins, ends, next, done, more}
use Rattle.json_text.specs.Grammar.{IsText, word, nested, member_name, turn, close, finish, closes, takes_name, takes_value, turns}
use Rattle.json_text.specs.Shape.{nesting}
use Rattle.json_text.proofs.Depths.{nothing_wrong}
use Rattle.cloud_events.specs.Wrapped.{IsRead}
use Rattle.delivery_turn.specs.Samples.{order_event}
use Rattle.delivery_turn.proofs.Retrying.{none_alone}

abbrev pub values : Forest
values = grows (record { kind = kinds.Map; span = record { start = 0; end = 159 }; name = None }) (grows (record { kind = kinds.Map; span = record { start = 8; end = 15 }; name = Some (record { start = 1; end = 7 }) }) (grows (record { kind = kinds.Number; span = record { start = 13; end = 14 }; name = Some (record { start = 9; end = 12 }) }) empty (empty)) (grows (record { kind = kinds.Text; span = record { start = 21; end = 24 }; name = Some (record { start = 16; end = 20 }) }) empty (grows (record { kind = kinds.Text; span = record { start = 38; end = 46 }; name = Some (record { start = 25; end = 37 }) }) empty (grows (record { kind = kinds.Text; span = record { start = 56; end = 62 }; name = Some (record { start = 47; end = 55 }) }) empty (grows (record { kind = kinds.Text; span = record { start = 77; end = 82 }; name = Some (record { start = 63; end = 76 }) }) empty (grows (record { kind = kinds.Text; span = record { start = 90; end = 112 }; name = Some (record { start = 83; end = 89 }) }) empty (grows (record { kind = kinds.Text; span = record { start = 121; end = 129 }; name = Some (record { start = 113; end = 120 }) }) empty (grows (record { kind = kinds.Text; span = record { start = 137; end = 158 }; name = Some (record { start = 130; end = 136 }) }) empty (empty))))))))) empty

is_text : IsText order_event values
unfolding begins next ends takes_value takes_name turns closes
is_text = nested refl refl (member_name refl refl (more refl (more refl (more refl (more refl (more refl (done refl)))))) (turn refl (nested refl refl (member_name refl refl (more refl (more refl (done refl))) (turn refl (word refl refl (done refl) (close refl)))) (turn refl (member_name refl refl (more refl (more refl (more refl (done refl)))) (turn refl (word refl refl (more refl (more refl (done refl))) (turn refl (member_name refl refl (more refl (more refl (more refl (more refl (more refl (more refl (more refl (more refl (more refl (more refl (more refl (done refl)))))))))))) (turn refl (word refl refl (more refl (more refl (more refl (more refl (more refl (more refl (more refl (done refl)))))))) (turn refl (member_name refl refl (more refl (more refl (more refl (more refl (more refl (more refl (more refl (done refl)))))))) (turn refl (word refl refl (more refl (more refl (more refl (more refl (more refl (done refl)))))) (turn refl (member_name refl refl (more refl (more refl (more refl (more refl (more refl (more refl (more refl (more refl (more refl (more refl (more refl (more refl (done refl))))))))))))) (turn refl (word refl refl (more refl (more refl (more refl (more refl (done refl))))) (turn refl (member_name refl refl (more refl (more refl (more refl (more refl (more refl (done refl)))))) (turn refl (word refl refl (more refl (more refl (more refl (more refl (more refl (more refl (more refl (more refl (more refl (more refl (more refl (more refl (more refl (more refl (more refl (more refl (more refl (more refl (more refl (more refl (more refl (done refl)))))))))))))))))))))) (turn refl (member_name refl refl (more refl (more refl (more refl (more refl (more refl (more refl (done refl))))))) (turn refl (word refl refl (more refl (more refl (more refl (more refl (more refl (more refl (more refl (done refl)))))))) (turn refl (member_name refl refl (more refl (more refl (more refl (more refl (more refl (done refl)))))) (turn refl (word refl refl (more refl (more refl (more refl (more refl (more refl (more refl (more refl (more refl (more refl (more refl (more refl (more refl (more refl (more refl (more refl (more refl (more refl (more refl (more refl (more refl (done refl))))))))))))))))))))) (close refl)))))))))))))))))))))))))))))))) (finish refl)

low : nesting values ≤ 64
unfolding nesting
low = omega arith

pub event_read : IsRead order_event values
event_read = record { text = is_text; clean = nothing_wrong order_event values is_text low (λ at lt. none_alone order_event at refl) }
