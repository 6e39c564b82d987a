-- What is ahead of a reader: the bytes that came, and those that are left.
use Rattle.std.proofs.Common.{◌≡◌, ℕ, List, [], ◌∷◌, ◌++◌, length, take, drop, Option, Some, None, refl, sym, ap, ◌∙◌, subst, append_assoc, append-nil, take-append-drop}
use Rattle.side_world.specs.Told.{Took}
use Rattle.http_client.specs.Replies.{ahead}

-- what a read gave was ahead before
pub ahead_filled : (pending : List ℕ) (before after : Option (List ℕ)) (piece : List ℕ) → Took before after piece → ahead (pending ++ piece) after ≡ ahead pending before
ahead_filled pending None after piece took = ap (ahead (pending ++ piece)) took
ahead_filled pending (Some left) after piece took =
    ap (ahead (pending ++ piece)) took.2
    ∙ ap Some (append_assoc pending piece took.0 ∙ ap (λ (z : List ℕ). pending ++ z) (sym took.1))

-- a read that gave nothing
pub ahead_ended : (pending : List ℕ) (before after : Option (List ℕ)) → Took before after [] → ahead pending after ≡ ahead pending before
ahead_ended pending before after took =
    ap (λ (p : List ℕ). ahead p after) (sym (append-nil pending)) ∙ ahead_filled pending before after [] took

-- a front that came is taken
pub ahead_skipped : (pending : List ℕ) (left : Option (List ℕ)) (count : ℕ) → Took (ahead pending left) (ahead (drop count pending) left) (take count pending)
ahead_skipped pending None count = refl
ahead_skipped pending (Some left) count = (
  drop count pending ++ left,
  ap (λ (z : List ℕ). z ++ left) (sym (take-append-drop count pending)) ∙ append_assoc (take count pending) (drop count pending) left,
  refl,
)

-- a part that begins the bytes is that many of them
pub front_is : (bytes front rest : List ℕ) → bytes ≡ front ++ rest → take (length front) bytes ≡ front
front_is bytes front rest whole = ap (take (length front)) whole ∙ take_front front rest where
  take_front : (xs ys : List ℕ) → take (length xs) (xs ++ ys) ≡ xs
  take_front [] ys = refl
  take_front (x ∷ xs) ys = ap (λ (z : List ℕ). x ∷ z) (take_front xs ys)

-- the same where it is taken, with what was ahead at the beginning
pub took_front : (first ahead_then after : Option (List ℕ)) (taken front : List ℕ) → ahead_then ≡ first → Took ahead_then after taken → taken ≡ front → Took first after front
took_front first ahead_then after taken front same took is =
    subst (λ (z : Option (List ℕ)). Took z after front) same (subst (λ (z : List ℕ). Took ahead_then after z) is took)

-- a text of which nothing had come was taken: with what came behind it, it was taken off what was left
pub took_all : (before after : Option (List ℕ)) (text behind : List ℕ) → Took (ahead [] before) (ahead behind after) text → Took before after (text ++ behind)
took_all None None text behind took = refl
took_all None (Some left) text behind took = absurd (cc)
took_all (Some all) None text behind took = absurd (some_is took.2) where
  some_is : {rest : List ℕ} → None ≡ Some rest → ⊥
  some_is e = absurd (cc)
took_all (Some all) (Some left) text behind took = (left, whole, refl) where
  rest_is : behind ++ left ≡ took.0
  rest_is = cc

  whole : all ≡ (text ++ behind) ++ left
  whole = took.1 ∙ ap (λ (r : List ℕ). text ++ r) (sym rest_is) ∙ sym (append_assoc text behind left)
