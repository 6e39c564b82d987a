-- The set of bytes that are escaped has those that the definition says.
use Rattle.std.proofs.Common.{◌≡◌, ℕ, ◌<◌, Bool, true, false, not, List, [], ◌∷◌, cond, refl, ap, ◌∙◌, All}
use Rattle.std.proofs.lemmas.Bool.{agree_below, agree_below_at}
use Rattle.std.proofs.lemmas.List.Elements.{All-head, All-tail}
use Rattle.percent_encoding.specs.AsciiSet.{should_percent_encode}
use Rattle.percent_encoding.specs.Percent.{encode_byte, percent_encode, percent_encode_byte}
use Rattle.cron_bind.specs.declared.requesting.TheConstants.{RESERVED}
use Rattle.cron_bind.specs.Posting.{escaped, escaped_byte, is_unreserved}

reserved : agree_below (should_percent_encode RESERVED) (λ b. not (is_unreserved b)) 256 ≡ true
unfolding should_percent_encode
reserved = refl

turned : {A : Type 0} (kept : Bool) (x y : A) → cond (not kept) x y ≡ cond kept y x
turned true x y = refl
turned false x y = refl

byte_so : (b : ℕ) → b < 256 → encode_byte RESERVED b ≡ escaped_byte b
byte_so b small =
    ap (λ escapes. cond escapes (percent_encode_byte b) (b ∷ [])) (agree_below_at (should_percent_encode RESERVED) (λ z. not (is_unreserved z)) 256 b reserved small)
    ∙ turned (is_unreserved b) (percent_encode_byte b) (b ∷ [])

pub escaped_so : (name : List ℕ) → All (λ (b : ℕ). b < 256) name → percent_encode RESERVED name ≡ escaped name
unfolding percent_encode escaped
escaped_so [] small = refl
escaped_so (b ∷ bs) small = cc (byte_so b (All-head (λ (z : ℕ). z < 256) b bs small), escaped_so bs (All-tail (λ (z : ℕ). z < 256) b bs small))
