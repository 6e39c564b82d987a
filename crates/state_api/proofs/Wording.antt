-- The words of state requests.
use Rattle.std.proofs.Common.{◌≡◌, ℕ, ◌<◌, Bool, true, false, ◌&&◌, ◌==◌, List, [], ◌∷◌, map, refl, arith}
use Rattle.std.specs.Str.{IsUtf8, IsCharBoundary}
use Rattle.std.specs.List.{list_all}
use Rattle.std.specs.Char.{is_ascii_digit, digit_value}
use Rattle.std.specs.Str.Parse.{AllDigits}
use Rattle.std.proofs.lemmas.Str.{IsCharBoundary-after_ascii}
use Rattle.std.proofs.lemmas.Bool.Decides.{nat_tests}
use Rattle.state_api.proofs.Members.{false_true}
use Rattle.std.specs.Prelude.{All}
use Rattle.std.proofs.lemmas.List.Elements.{All-cons, All-tail}
use Rattle.state_core.specs.declared.command.Item.{Item}
use Rattle.state_core.specs.declared.command.Op.TheVariants.{Upsert}
use Rattle.state_core.specs.Taken.{IsTtl, HasTtl}
use Rattle.state_api.proofs.Following.{all_none}
use Rattle.state_api.specs.Asked.{op_with}
use Rattle.state_api.specs.Words.{is_quoted, is_number}

pub both_true : (a b : Bool) → (a && b) ≡ true → (a ≡ true) × (b ≡ true)
both_true true b h = (refl, h)
both_true false b h = false_true _ h

quote_is : (byte : ℕ) → (byte == 34) ≡ true → byte < 128
quote_is byte h = grind (arith, nat_tests)

pub quoted_start : (text : List ℕ) → IsUtf8 text → is_quoted text ≡ true → IsCharBoundary text 1
quoted_start [] utf8 h = false_true _ h
quoted_start (first ∷ rest) utf8 h = IsCharBoundary-after_ascii (first ∷ rest) 0 utf8 (omega arith) (quote_is first (both_true (first == 34) _ (both_true _ _ h).0).0)

digit_below : (c : ℕ) → is_ascii_digit c ≡ true → digit_value c < 10
digit_below c h = grind (arith, nat_tests)

digits_of : (text : List ℕ) → list_all is_ascii_digit text ≡ true → AllDigits 10 text
digits_of [] h = tt
digits_of (first ∷ rest) h = let p = both_true (is_ascii_digit first) (list_all is_ascii_digit rest) h in (digit_below first p.0, digits_of rest p.1)

pub number_digits : (text : List ℕ) → is_number text ≡ true → AllDigits 10 text
number_digits text h = digits_of text (both_true (list_all is_ascii_digit text) _ h).0

pub op_fine : (is_upsert : Bool) (item : Item) → IsTtl item.ttl → HasTtl (op_with is_upsert item)
op_fine true item h = h
op_fine false item h = tt

pub upserts_fine : (items : List Item) → All (λ item. IsTtl item.ttl) items → All HasTtl (map (λ item. Upsert item) items)
upserts_fine [] h = all_none HasTtl
upserts_fine (item ∷ items) h = All-cons HasTtl (Upsert item) (map (λ item. Upsert item) items) (h 0 item (omega arith)) (upserts_fine items (All-tail (λ item. IsTtl item.ttl) item items h))
