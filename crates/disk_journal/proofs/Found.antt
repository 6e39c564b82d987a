-- What stands at the place of a gate, by the bytes there.
use Rattle.std.proofs.Common.{◌≡◌, ◌≢◌, ◌⊎◌, inl, inr, min, ℕ, zero, suc, ◌+◌, ◌-◌, ◌^◌, ◌<◌, ◌≤◌, List, [], ◌∷◌, ◌++◌, length, take, drop, get_or, refl, sym, ◌∙◌, ap, subst, arith, append_assoc, length-append, length-drop, take-append-drop}
use Rattle.std.proofs.Math.ListN.{replicate}
use Rattle.std.proofs.Math.Seq.{take-length}
use Rattle.std.proofs.lemmas.List.{length-replicate, length-take-le, take_at, take-append-le, drop-append-le}
use Rattle.std.proofs.lemmas.Bool.{cases_order}
use Rattle.std.proofs.lemmas.Nat.{le_bytes_8, from_le_bytes-to_le_bytes_8}
use Rattle.std.specs.Prelude.{slice_index}
use Rattle.std.specs.Int.{w64, to_le_bytes, from_le_bytes}
use Rattle.disk_journal.specs.Image.{record_of}
use Rattle.disk_journal.specs.Parsing.{BeginsWith}
use Rattle.disk_journal.specs.Refusal.{IsPart}
use Rattle.disk_journal.proofs.Images.{length-len, length-record_of}

-- all bytes are below 256
abbrev pub AreBytes : List ℕ → Type 0
AreBytes bytes = (i : ℕ) → get_or bytes i 0 < 256

abbrev zeros : ℕ → List ℕ
zeros n = replicate n 0

length-zeros : (n : ℕ) → length (zeros n) ≡ n
length-zeros n = length-replicate n 0

zeros_some : (n : ℕ) → 0 < n → zeros n ≢ []
zeros_some n more none = omega (arith, more, ap length none, length-zeros n)

-- no byte at all
pub cut_before : (bytes : List ℕ) → length bytes < 1 → IsPart bytes
cut_before [] short = record { body = []; missing = record_of []; some = λ e. cc e; has_length = omega arith; whole = refl }
cut_before (x ∷ bytes) short = absurd (omega (arith, short))

-- zeros behind bytes are bytes
zeros_are : (n : ℕ) → AreBytes (zeros n)
zeros_are zero i = omega arith
zeros_are (suc n) zero = omega arith
zeros_are (suc n) (suc i) = zeros_are n i

padded : (bytes : List ℕ) (n : ℕ) → AreBytes bytes → AreBytes (bytes ++ zeros n)
padded [] n are i = zeros_are n i
padded (x ∷ bytes) n are zero = are 0
padded (x ∷ bytes) n are (suc i) = padded bytes n (λ k. are (suc k)) i

front_are : (n : ℕ) (bytes : List ℕ) → AreBytes bytes → AreBytes (take n bytes)
front_are zero bytes are i = omega arith
front_are (suc n) [] are i = omega arith
front_are (suc n) (x ∷ bytes) are zero = are 0
front_are (suc n) (x ∷ bytes) are (suc i) = front_are n bytes (λ k. are (suc k)) i

-- eight bytes say a length
below : (bytes : List ℕ) → AreBytes bytes → from_le_bytes w64 bytes < 2 ^ 64
below bytes are = omega (arith, are 0, are 1, are 2, are 3, are 4, are 5, are 6, are 7)

-- the front of the eight bytes of a length
cut_len : (behind : List ℕ) → AreBytes behind → length behind < 8 → IsPart (1 ∷ behind)
cut_len behind are short =
    let lacks = zeros (8 - length behind) in
    let eight = behind ++ lacks in
    let are_bytes = padded behind (8 - length behind) are in
    let n = from_le_bytes w64 eight in
    let body = zeros n in
    let size : length eight ≡ 8 = omega (arith, short, length-append behind lacks, length-zeros (8 - length behind)) in
    let says : to_le_bytes w64 (length body) ≡ eight = ap (to_le_bytes w64) (length-zeros n) ∙ le_bytes_8 eight n size are_bytes refl in
    record {
      body = body;
      missing = lacks ++ body;
      some = λ none. omega (arith, short, ap length none, length-append lacks body, length-zeros (8 - length behind));
      has_length = omega (arith, length-zeros n, below eight are_bytes);
      whole = ap (λ z. 1 ∷ z) (sym (append_assoc behind lacks body) ∙ ap (λ z. z ++ body) (sym says));
    }

-- a length, and too few bytes
cut_body : (eight content : List ℕ) (n : ℕ) → AreBytes eight → length eight ≡ 8 → n ≡ from_le_bytes w64 eight → length content < n → IsPart (1 ∷ (eight ++ content))
cut_body eight content n are size is short =
    let lacks = zeros (n - length content) in
    let body = content ++ lacks in
    let long : length body ≡ n = omega (arith, short, length-append content lacks, length-zeros (n - length content)) in
    let says : to_le_bytes w64 (length body) ≡ eight = ap (to_le_bytes w64) long ∙ le_bytes_8 eight n size are is in
    record {
      body = body;
      missing = lacks;
      some = zeros_some (n - length content) (omega (arith, short));
      has_length = omega (arith, long, is, below eight are);
      whole = ap (λ z. 1 ∷ z) (append_assoc eight content lacks ∙ ap (λ z. z ++ body) (sym says));
    }

module _ (bytes : List ℕ) (are : AreBytes bytes) (some : 1 ≤ length bytes) (is_open : get_or bytes 0 0 ≡ 1) where
  behind_is : take (length bytes - 1) (drop 1 bytes) ≡ drop 1 bytes
  behind_is = ap (λ n. take n (drop 1 bytes)) (sym (length-drop 1 bytes)) ∙ take-length (drop 1 bytes)

  opened : bytes ≡ 1 ∷ drop 1 bytes
  opened = by_cases bytes some is_open where
    by_cases : (xs : List ℕ) → 1 ≤ length xs → get_or xs 0 0 ≡ 1 → xs ≡ 1 ∷ drop 1 xs
    by_cases [] none is = absurd (omega (arith, none))
    by_cases (x ∷ xs) one is = ap (λ z. z ∷ xs) is

  behind_are : AreBytes (drop 1 bytes)
  behind_are i = subst (λ z. get_or z (suc i) 0 < 256) opened (are (suc i))

  pub cut_in_len : length (take (length bytes - 1) (drop 1 bytes)) < 8 → IsPart bytes
  cut_in_len short = subst IsPart (sym opened) (cut_len (drop 1 bytes) behind_are (subst (λ z. length z < 8) behind_is short))

  module _ (eight content : List ℕ) (n : ℕ) (first : eight ≡ take 8 (take (length bytes - 1) (drop 1 bytes))) (then : content ≡ drop 8 (take (length bytes - 1) (drop 1 bytes)))
      (fits : length content + 8 ≡ length (take (length bytes - 1) (drop 1 bytes))) (is : n ≡ from_le_bytes w64 eight) where
    size : length eight ≡ 8
    size = ap length first ∙ length-take-le 8 (take (length bytes - 1) (drop 1 bytes)) (omega (arith, fits))

    eight_are : AreBytes eight
    eight_are = subst AreBytes (sym (first ∙ ap (take 8) behind_is)) (front_are 8 (drop 1 bytes) behind_are)

    all : bytes ≡ 1 ∷ (eight ++ content)
    all = opened ∙ ap (λ z. 1 ∷ z) (sym behind_is ∙ sym (take-append-drop 8 (take (length bytes - 1) (drop 1 bytes))) ∙ ap (λ z. z ++ drop 8 (take (length bytes - 1) (drop 1 bytes))) (sym first) ∙ ap (λ z. eight ++ z) (sym then))

    pub cut_in_body : length content < n → IsPart bytes
    cut_in_body short = subst IsPart (sym all) (cut_body eight content n eight_are size is short)

    pub begins_with : (body rest : List ℕ) → n ≤ length content → body ≡ take n content → rest ≡ drop n content → BeginsWith bytes body rest
    begins_with body rest within body_is rest_is =
        let long : length body ≡ n = ap length body_is ∙ length-take-le n content within in
        let says : to_le_bytes w64 (length body) ≡ eight = ap (to_le_bytes w64) long ∙ le_bytes_8 eight n size eight_are is in
        let parts : content ≡ body ++ rest = sym (take-append-drop n content) ∙ ap (λ z. z ++ drop n content) (sym body_is) ∙ ap (λ z. body ++ z) (sym rest_is) in
        record {
          has_length = omega (arith, long, is, below eight eight_are);
          bytes_are = all ∙ ap (λ z. 1 ∷ z) (ap (λ z. eight ++ z) parts ∙ sym (append_assoc eight body rest) ∙ ap (λ z. (z ++ body) ++ rest) (sym says));
        }

-- a part of a record begins with an open gate
pub open_gate : (bytes more : List ℕ) → 1 ≤ length bytes → IsPart (bytes ++ more) → slice_index bytes 0 ≡ 1
open_gate [] more some part = absurd (omega (arith, some))
open_gate (gate ∷ behind) more some part = cc part.whole

at_least_one : (missing : List ℕ) → missing ≢ [] → 1 ≤ length missing
at_least_one [] some = absurd (some refl)
at_least_one (x ∷ missing) some = omega arith

-- a part of a record is shorter than the record, whose length is told by the eight bytes behind its gate
pub part_is_shorter : (bytes more eight : List ℕ) → 9 ≤ length bytes → eight ≡ take 8 (drop 1 bytes) → IsPart (bytes ++ more) → length (bytes ++ more) < from_le_bytes w64 eight + 9
part_is_shorter bytes more eight nine is part =
    let le = to_le_bytes w64 (length part.body) in
    let behind = more ++ part.missing in
    let whole : bytes ++ behind ≡ record_of part.body = sym (append_assoc bytes more part.missing) ∙ part.whole in
    let first : drop 1 bytes ++ behind ≡ le ++ part.body = sym (drop-append-le 1 bytes behind (omega (arith, nine))) ∙ ap (drop 1) whole in
    let same : eight ≡ le = is ∙ sym (take-append-le 8 (drop 1 bytes) behind (omega (arith, nine, length-drop 1 bytes))) ∙ ap (take 8) first ∙ take_at le part.body 8 (length-len (length part.body)) in
    let told : from_le_bytes w64 eight ≡ length part.body = ap (from_le_bytes w64) same ∙ from_le_bytes-to_le_bytes_8 (length part.body) part.has_length in
    omega (arith, told, at_least_one part.missing part.some, ap length part.whole, length-append (bytes ++ more) part.missing, length-record_of part.body)

pub at_most : {read told n long : ℕ} → told ≡ read → n ≡ min (told + 9) (2 ^ 64 - 1) → long < read + 9 → (long < n) ⊎ (n ≡ 2 ^ 64 - 1)
at_most {read} {told} {n} {long} same is shorter = elim (cases_order (told + 9) (2 ^ 64 - 1)) [
  | inl at_it ↦ inr (omega (arith, is, at_it))
  | inr (inl below) ↦ inl (omega (arith, is, below, same, shorter))
  | inr (inr above) ↦ inr (omega (arith, is, above))
]
