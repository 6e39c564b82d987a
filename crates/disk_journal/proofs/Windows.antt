-- A part of a file in a buffer.
use Rattle.std.proofs.Common.{◌≡◌, ℕ, ◌+◌, ◌-◌, ◌≤◌, List, ◌++◌, length, take, drop, sym, ◌∙◌, ap, arith, length-append, length-drop, take-append-drop}
use Rattle.std.proofs.lemmas.List.{append-nil, take-take, take_at, drop-drop, drop-take, drop_at, drop_all, drop-append-le, length-take-le}
use Rattle.std.proofs.Math.Seq.{take-add}
use borrow.Rule.Slice.PartMut.{put_mid}

-- from each later byte on too the buffer has what the file has
pub passed_on : (buffer all : List ℕ) (start at count : ℕ) → start + count ≤ length buffer → drop start buffer ≡ take (length buffer - start) (drop at all) → drop (start + count) buffer ≡ take (length buffer - (start + count)) (drop (at + count) all)
passed_on buffer all start at count within shows =
    let n = length buffer - (start + count) in
    let split : length buffer - start ≡ count + n = omega (arith, within) in
    sym (drop-drop count start buffer) ∙ ap (drop count) (shows ∙ ap (λ k. take k (drop at all)) split) ∙ drop-take count n (drop at all) ∙ ap (take n) (drop-drop count at all)

-- what was held, and what was read behind it
pub read_on : (old new all : List ℕ) (held at size : ℕ) → held ≤ size → take held new ≡ old → old ≡ take held (drop at all) → drop held new ≡ take (size - held) (drop (at + held) all) → new ≡ take size (drop at all)
read_on old new all held at size fits front shows read =
    let split : size ≡ held + (size - held) = omega (arith, fits) in
    sym (take-append-drop held new) ∙ ap (λ z. z ++ drop held new) (front ∙ shows) ∙ ap (λ z. take held (drop at all) ++ z) (read ∙ ap (take (size - held)) (sym (drop-drop held at all)))
    ∙ sym (take-add held (size - held) (drop at all)) ∙ ap (λ k. take k (drop at all)) (sym split)

-- what stood behind `start` stands in front
pub moved : (old grown brought zeros : List ℕ) (start size : ℕ) → start ≤ length old → length old - start ≤ size → grown ≡ old ++ zeros → take (length grown - start) brought ≡ drop start grown
    → take (length old - start) (take size brought) ≡ drop start old
moved old grown brought zeros start size within fits is front =
    let n = length old - start in
    let longer : n ≤ length grown - start = omega (arith, ap length is, length-append old zeros) in
    take-take n size brought fits ∙ sym (take-take n (length grown - start) brought longer) ∙ ap (take n) (front ∙ ap (drop start) is ∙ drop-append-le start old zeros within)
    ∙ take_at (drop start old) (drop 0 zeros) n (length-drop start old)

-- what was written behind the front of a slice
pub behind_front : (held k : ℕ) (xs ys : List ℕ) → held ≤ length xs → length xs ≤ held + k → drop held (put_mid held k xs ys) ≡ ys
behind_front held k xs ys within all =
    drop_at (take held xs) (ys ++ drop k (drop held xs)) held (length-take-le held xs within) ∙ ap (λ z. ys ++ z) (drop_all k (drop held xs) (omega (arith, all, length-drop held xs)))
    ∙ append-nil ys
