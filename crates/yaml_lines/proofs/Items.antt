-- Items in brackets, one after the other.
use Rattle.std.proofs.Common.{◌≡◌, ℕ, suc, ◌+◌, Bool, true, false, ◌==◌, List, [], ◌∷◌, length, take, drop, refl, sym, ap, ◌∙◌, arith, Option, Some, None}
use Rattle.std.specs.Prelude.{if◌then◌else◌}
use Rattle.yaml_lines.specs.declared.found.Found.{Found}
use Rattle.yaml_lines.specs.declared.found.Found.TheVariants.{Here as here, Past as past, Nowhere as nowhere, Later as later}
use Rattle.yaml_lines.specs.declared.flow.Within.{Within}
use Rattle.yaml_lines.specs.declared.flow.Within.TheVariants.{Before as before}
use Rattle.std.proofs.lemmas.Bool.{false_from_ne_true}
use Rattle.std.proofs.lemmas.Bool.Decides.{Decides-eqb}
use Rattle.yaml_lines.specs.Flow.{Gathered, gather, gathered, item_text, item_found, within_after, Pieces, with_byte, after_comma, last_piece, stopped, piece_by, pieces}
use Rattle.yaml_lines.specs.ItemLength.{len_by, item_len}
use Rattle.yaml_lines.proofs.Words.{no_bytes}

pub len_on : (at : ℕ) (within next : Within) (byte : ℕ) (others left : List ℕ) → left ≡ byte ∷ others → later ≡ item_found within byte → next ≡ within_after within byte → at + 1 + item_len next others ≡ at + item_len within left
unfolding item_len
len_on at within next byte others left e f n =
    let step : item_len within left ≡ suc (item_len next others) = ap (item_len within) e ∙ ap (λ x. len_by x (item_len (within_after within byte) others)) (sym f) ∙ ap (λ w. suc (item_len w others)) (sym n) in
    omega (arith, step)

pub len_stop : (at : ℕ) (within : Within) (byte : ℕ) (others left : List ℕ) (f : Found) → left ≡ byte ∷ others → f ≡ item_found within byte → (f ≡ later → ⊥) → at + item_len within left ≡ at
unfolding item_len
len_stop at within byte others left f e g n =
    let step : item_len within left ≡ 0 = ap (item_len within) e ∙ ap (λ x. len_by x (item_len (within_after within byte) others)) (sym g) ∙ none f n in
    omega (arith, step)
  where
    none : (f : Found) → (f ≡ later → ⊥) → len_by f (item_len (within_after within byte) others) ≡ 0
    none here n = refl
    none past n = refl
    none nowhere n = refl
    none later n = absurd (n refl)

pub len_end : (at : ℕ) (within : Within) (left : List ℕ) → length left ≡ 0 → at + item_len within left ≡ at
unfolding item_len
len_end at within left e =
    let step : item_len within left ≡ 0 = ap (item_len within) (no_bytes left e) in
    omega (arith, step)

-- a piece, and what comes behind it
abbrev pub joined : List ℕ → List ℕ → Pieces
joined piece [] = record { first = piece; others = []; rest = None }
joined piece (byte ∷ bytes) =
    if byte == 44 then record { first = piece; others = (pieces (before false) bytes).first ∷ (pieces (before false) bytes).others; rest = (pieces (before false) bytes).rest }
    else if byte == 93 then record { first = piece; others = []; rest = Some bytes } else record { first = piece; others = []; rest = None }

longer : (byte : ℕ) (piece rest : List ℕ) → with_byte byte (joined piece rest) ≡ joined (byte ∷ piece) rest
longer byte piece [] = refl
longer byte piece (next ∷ bytes) = by_tests (next == 44) (next == 93)
  where
    p : Pieces
    p = pieces (before false) bytes

    by_tests : (b d : Bool) → with_byte byte (if b then record { first = piece; others = p.first ∷ p.others; rest = p.rest } else if d then record { first = piece; others = []; rest = Some bytes } else record { first = piece; others = []; rest = None }) ≡ (if b then record { first = byte ∷ piece; others = p.first ∷ p.others; rest = p.rest } else if d then record { first = byte ∷ piece; others = []; rest = Some bytes } else record { first = byte ∷ piece; others = []; rest = None })
    by_tests true d = refl
    by_tests false true = refl
    by_tests false false = refl

pub pieces_split : (within : Within) (bytes : List ℕ) → pieces within bytes ≡ joined (take (item_len within bytes) bytes) (drop (item_len within bytes) bytes)
unfolding pieces item_len
pieces_split within [] = refl
pieces_split within (byte ∷ bytes) = by_found (item_found within byte) (pieces_split (within_after within byte) bytes)
  where
    next : Pieces
    next = pieces (before false) bytes

    ends : stopped byte bytes next ≡ joined [] (byte ∷ bytes)
    ends = by_tests (byte == 44) (byte == 93)
      where
        by_tests : (b d : Bool) → (if b then after_comma next else if d then last_piece (Some bytes) else last_piece None) ≡ (if b then record { first = []; others = next.first ∷ next.others; rest = next.rest } else if d then record { first = []; others = []; rest = Some bytes } else record { first = []; others = []; rest = None })
        by_tests true d = refl
        by_tests false true = refl
        by_tests false false = refl

    by_found : (f : Found) → pieces (within_after within byte) bytes ≡ joined (take (item_len (within_after within byte) bytes) bytes) (drop (item_len (within_after within byte) bytes) bytes) → piece_by f byte bytes (pieces (within_after within byte) bytes) next ≡ joined (take (len_by f (item_len (within_after within byte) bytes)) (byte ∷ bytes)) (drop (len_by f (item_len (within_after within byte) bytes)) (byte ∷ bytes))
    by_found later e = ap (with_byte byte) e ∙ longer byte (take (item_len (within_after within byte) bytes) bytes) (drop (item_len (within_after within byte) bytes) bytes)
    by_found here e = ends
    by_found past e = ends
    by_found nowhere e = ends

-- what an item leaves to gather
pub record Gone (g : Gathered) (left piece : List ℕ) (behind : Option (List ℕ)) (others : List (List ℕ)) : Type 0 where
  pub items : gathered g ((pieces (before false) left).first ∷ (pieces (before false) left).others) ≡ gathered (gather g (item_text piece)) others
  pub rest : (pieces (before false) left).rest ≡ behind

gone_as : (g : Gathered) (left piece : List ℕ) (p : Pieces) → pieces (before false) left ≡ p → p.first ≡ piece → Gone g left piece p.rest p.others
unfolding gathered
gone_as g left piece p e f = record {
  items = ap (λ (q : Pieces). gathered g (q.first ∷ q.others)) e ∙ ap (λ x. gathered (gather g (item_text x)) p.others) f;
  rest = ap (λ (q : Pieces). q.rest) e;
}

split_as : (left piece after : List ℕ) (count : ℕ) → count ≡ item_len (before false) left → piece ≡ take count left → after ≡ drop count left → pieces (before false) left ≡ joined piece after
split_as left piece after count c p a =
    pieces_split (before false) left
    ∙ ap (λ n. joined (take n left) (drop n left)) (sym c)
    ∙ ap (λ x. joined x (drop count left)) (sym p)
    ∙ ap (joined piece) (sym a)

pub gone_comma : (g : Gathered) (left piece after others : List ℕ) (byte count : ℕ) → count ≡ item_len (before false) left → piece ≡ take count left → after ≡ drop count left → after ≡ byte ∷ others → byte ≡ 44 → Gone g left piece (pieces (before false) others).rest ((pieces (before false) others).first ∷ (pieces (before false) others).others)
gone_comma g left piece after others byte count c p a e b =
    let test : (byte == 44) ≡ true = (Decides-eqb byte 44).1 b in
    gone_as g left piece (record { first = piece; others = (pieces (before false) others).first ∷ (pieces (before false) others).others; rest = (pieces (before false) others).rest }) (split_as left piece after count c p a ∙ ap (joined piece) e ∙ rw test) refl

pub gone_close : (g : Gathered) (left piece after others : List ℕ) (byte count : ℕ) → count ≡ item_len (before false) left → piece ≡ take count left → after ≡ drop count left → after ≡ byte ∷ others → byte ≡ 93 → Gone g left piece (Some others) []
gone_close g left piece after others byte count c p a e b =
    let test : (byte == 93) ≡ true = (Decides-eqb byte 93).1 b in
    let none : (byte == 44) ≡ false = false_from_ne_true (byte == 44) (λ t. let d : byte ≡ 44 = (Decides-eqb byte 44).0 t in absurd (omega (arith, b, d))) in
    gone_as g left piece (record { first = piece; others = []; rest = Some others }) (split_as left piece after count c p a ∙ ap (joined piece) e ∙ rw (none, test)) refl

pub gone_other : (g : Gathered) (left piece after others : List ℕ) (byte count : ℕ) → count ≡ item_len (before false) left → piece ≡ take count left → after ≡ drop count left → after ≡ byte ∷ others → (byte ≡ 44 → ⊥) → (byte ≡ 93 → ⊥) → Gone g left piece None []
gone_other g left piece after others byte count c p a e b d =
    let none : (byte == 44) ≡ false = false_from_ne_true (byte == 44) (λ t. b ((Decides-eqb byte 44).0 t)) in
    let other : (byte == 93) ≡ false = false_from_ne_true (byte == 93) (λ t. d ((Decides-eqb byte 93).0 t)) in
    gone_as g left piece (record { first = piece; others = []; rest = None }) (split_as left piece after count c p a ∙ ap (joined piece) e ∙ rw (none, other)) refl

pub gone_end : (g : Gathered) (left piece after : List ℕ) (count : ℕ) → count ≡ item_len (before false) left → piece ≡ take count left → after ≡ drop count left → length after ≡ 0 → Gone g left piece None []
gone_end g left piece after count c p a e =
    gone_as g left piece (record { first = piece; others = []; rest = None }) (split_as left piece after count c p a ∙ ap (joined piece) (no_bytes after e)) refl

pub gathered_one : (g : Gathered) → gathered g [] ≡ g
unfolding gathered
gathered_one g = refl
