-- A file says one list of bodies, or is refused at one place.
use Rattle.std.proofs.Common.{◌≡◌, ◌≢◌, ◌⊎◌, inl, inr, ℕ, ◌^◌, ◌<◌, List, [], ◌∷◌, ◌++◌, length, take, get_or, refl, sym, ◌∙◌, ap, subst, arith, append_assoc, length-append}
use Rattle.std.proofs.lemmas.List.{append-nil, append_cancel_left, take_at, get_or_append_left, get_or-take}
use Rattle.std.proofs.lemmas.List.Elements.{All-head, All-tail}
use Rattle.std.proofs.lemmas.Bool.{cases_order}
use Rattle.std.proofs.lemmas.Nat.{from_le_bytes-to_le_bytes_8}
use Rattle.std.specs.Int.{w64, to_le_bytes, from_le_bytes}
use Rattle.disk_journal.specs.Image.{header, record_of, records, front, end_of, HaveLengths, IsImage}
use Rattle.disk_journal.specs.Refusal.{IsTooShort, HasOtherHeader, IsPart, IsNoJournal}
use Rattle.disk_journal.proofs.Images.{length-header, length-len}

-- two lists of records that begin alike begin with the same record
pub record SameRecord (a b xs ys : List ℕ) : Type 0 where
  pub body : a ≡ b
  pub rest : xs ≡ ys

tail_of : List ℕ → List ℕ
tail_of [] = []
tail_of (x ∷ xs) = xs

head_of : List ℕ → ℕ
head_of [] = 0
head_of (x ∷ xs) = x

pub same_record : (a b xs ys : List ℕ) → length a < 2 ^ 64 → length b < 2 ^ 64 → record_of a ++ xs ≡ record_of b ++ ys → SameRecord a b xs ys
unfolding tail_of
same_record a b xs ys short_a short_b same =
    let la = to_le_bytes w64 (length a) in
    let lb = to_le_bytes w64 (length b) in
    let behind : (la ++ a) ++ xs ≡ (lb ++ b) ++ ys = ap tail_of same in
    let parts : la ++ (a ++ xs) ≡ lb ++ (b ++ ys) = sym (append_assoc la a xs) ∙ behind ∙ append_assoc lb b ys in
    let lens : la ≡ lb = sym (take_at la (a ++ xs) 8 (length-len (length a))) ∙ ap (take 8) parts ∙ take_at lb (b ++ ys) 8 (length-len (length b)) in
    let long : length a ≡ length b = sym (from_le_bytes-to_le_bytes_8 (length a) short_a) ∙ ap (from_le_bytes w64) lens ∙ from_le_bytes-to_le_bytes_8 (length b) short_b in
    let rest : a ++ xs ≡ b ++ ys = append_cancel_left la (a ++ xs) (b ++ ys) (parts ∙ ap (λ l. l ++ (b ++ ys)) (sym lens)) in
    let body : a ≡ b = sym (take_at a xs (length a) refl) ∙ ap (take (length a)) rest ∙ take_at b ys (length a) (sym long) in
    record { body = body; rest = append_cancel_left a xs ys (rest ∙ ap (λ l. l ++ ys) (sym body)) }

-- a gate that is not open begins no record
pub shut_is_no_record : (gate : ℕ) (behind body rest : List ℕ) → gate ≢ 1 → gate ∷ behind ≡ record_of body ++ rest → ⊥
shut_is_no_record gate behind body rest shut same = shut (cc same)

-- what lacks some bytes of a record begins with no whole record
pub part_is_no_record : (part body rest : List ℕ) → IsPart part → length body < 2 ^ 64 → part ≡ record_of body ++ rest → ⊥
part_is_no_record part body rest is short same =
    let whole : record_of body ++ (rest ++ is.missing) ≡ record_of is.body ++ [] =
    sym (append_assoc (record_of body) rest is.missing) ∙ ap (λ z. z ++ is.missing) (sym same) ∙ is.whole ∙ sym (append-nil (record_of is.body)) in
    let both = same_record body is.body (rest ++ is.missing) [] short is.has_length whole in
    is.some (nothing rest is.missing both.rest)
  where
    nothing : (xs ys : List ℕ) → xs ++ ys ≡ [] → ys ≡ []
    nothing [] ys none = none
    nothing (x ∷ xs) ys none = absurd (cc none)

part_is_not_shut : (gate : ℕ) (behind : List ℕ) → gate ≢ 1 → IsPart (gate ∷ behind) → ⊥
part_is_not_shut gate behind shut is = shut (cc is.whole)

-- what follows the records of some bodies, and of some others, where both are the same bytes
pub split : (body : List ℕ) (bodies : List (List ℕ)) (rest : List ℕ) → records (body ∷ bodies) ++ rest ≡ record_of body ++ (records bodies ++ rest)
split body bodies rest = append_assoc (record_of body) (records bodies) rest

one_list : (bodies others : List (List ℕ)) (gate other : ℕ) (behind beyond : List ℕ) → HaveLengths bodies → HaveLengths others → gate ≢ 1 → other ≢ 1
    → records bodies ++ gate ∷ behind ≡ records others ++ other ∷ beyond → others ≡ bodies
one_list [] [] gate other behind beyond has had shut closed same = refl
one_list [] (b ∷ others) gate other behind beyond has had shut closed same = absurd (shut_is_no_record gate behind b (records others ++ other ∷ beyond) shut (same ∙ split b others (other ∷ beyond)))
one_list (a ∷ bodies) [] gate other behind beyond has had shut closed same = absurd (shut_is_no_record other beyond a (records bodies ++ gate ∷ behind) closed (sym same ∙ split a bodies (gate ∷ behind)))
one_list (a ∷ bodies) (b ∷ others) gate other behind beyond has had shut closed same =
    let both =
    same_record a b (records bodies ++ gate ∷ behind) (records others ++ other ∷ beyond) (All-head (λ z. length z < 2 ^ 64) a bodies has) (All-head (λ z. length z < 2 ^ 64) b others had)
    (sym (split a bodies (gate ∷ behind)) ∙ same ∙ split b others (other ∷ beyond)) in
    let rest = one_list bodies others gate other behind beyond (All-tail (λ z. length z < 2 ^ 64) a bodies has) (All-tail (λ z. length z < 2 ^ 64) b others had) shut closed both.rest in
    ap (λ z. z ∷ others) (sym both.body) ∙ ap (λ z. a ∷ z) rest

not_both : (bodies others : List (List ℕ)) (gate : ℕ) (behind part : List ℕ) → HaveLengths bodies → HaveLengths others → gate ≢ 1 → IsPart part → records bodies ++ gate ∷ behind ≡ records others ++ part → ⊥
not_both [] [] gate behind part has had shut is same = part_is_not_shut gate behind shut (subst IsPart (sym same) is)
not_both [] (b ∷ others) gate behind part has had shut is same = shut_is_no_record gate behind b (records others ++ part) shut (same ∙ split b others part)
not_both (a ∷ bodies) [] gate behind part has had shut is same =
    part_is_no_record part a (records bodies ++ gate ∷ behind) is (All-head (λ z. length z < 2 ^ 64) a bodies has) (sym same ∙ split a bodies (gate ∷ behind))
not_both (a ∷ bodies) (b ∷ others) gate behind part has had shut is same =
    let both =
    same_record a b (records bodies ++ gate ∷ behind) (records others ++ part) (All-head (λ z. length z < 2 ^ 64) a bodies has) (All-head (λ z. length z < 2 ^ 64) b others had)
    (sym (split a bodies (gate ∷ behind)) ∙ same ∙ split b others part) in
    not_both bodies others gate behind part (All-tail (λ z. length z < 2 ^ 64) a bodies has) (All-tail (λ z. length z < 2 ^ 64) b others had) shut is both.rest

one_end : (bodies others : List (List ℕ)) (part other : List ℕ) → HaveLengths bodies → HaveLengths others → IsPart part → IsPart other → records bodies ++ part ≡ records others ++ other → others ≡ bodies
one_end [] [] part other has had is also same = refl
one_end [] (b ∷ others) part other has had is also same = absurd (part_is_no_record part b (records others ++ other) is (All-head (λ z. length z < 2 ^ 64) b others had) (same ∙ split b others other))
one_end (a ∷ bodies) [] part other has had is also same = absurd (part_is_no_record other a (records bodies ++ part) also (All-head (λ z. length z < 2 ^ 64) a bodies has) (sym same ∙ split a bodies part))
one_end (a ∷ bodies) (b ∷ others) part other has had is also same =
    let both =
    same_record a b (records bodies ++ part) (records others ++ other) (All-head (λ z. length z < 2 ^ 64) a bodies has) (All-head (λ z. length z < 2 ^ 64) b others had)
    (sym (split a bodies part) ∙ same ∙ split b others other) in
    let rest = one_end bodies others part other (All-tail (λ z. length z < 2 ^ 64) a bodies has) (All-tail (λ z. length z < 2 ^ 64) b others had) is also both.rest in
    ap (λ z. z ∷ others) (sym both.body) ∙ ap (λ z. a ∷ z) rest

-- what stands behind the header of the same bytes
behind_header : (bytes : List ℕ) (bodies others : List (List ℕ)) (rest other : List ℕ) → bytes ≡ front bodies ++ rest → bytes ≡ front others ++ other → records bodies ++ rest ≡ records others ++ other
behind_header bytes bodies others rest other first second =
    append_cancel_left header (records bodies ++ rest) (records others ++ other)
    (sym (append_assoc header (records bodies) rest) ∙ sym first ∙ second ∙ append_assoc header (records others) other)

pub says_one_list : (bytes : List ℕ) (bodies others : List (List ℕ)) → IsImage bytes bodies → IsImage bytes others → others ≡ bodies
says_one_list bytes bodies others first second =
    one_list bodies others first.gate second.gate first.behind second.behind first.lengths second.lengths first.shut second.shut
    (behind_header bytes bodies others (first.gate ∷ first.behind) (second.gate ∷ second.behind) first.bytes_are second.bytes_are)

-- bytes that begin with the header
has_header : (bytes : List ℕ) (bodies : List (List ℕ)) (rest : List ℕ) (at : ℕ) → bytes ≡ front bodies ++ rest → IsTooShort bytes at ⊎ HasOtherHeader bytes at → ⊥
has_header bytes bodies rest at is (inl brief) =
    omega (arith, brief.short, ap length is, length-append (front bodies) rest, length-append header (records bodies), length-header)
has_header bytes bodies rest at is (inr other) =
    other.differs (ap (λ z. get_or z at 0) (is ∙ append_assoc header (records bodies) rest) ∙ get_or_append_left header (records bodies ++ rest) 0 at (omega (arith, other.within, length-header)))

-- two headers differ first at one place
no_earlier : (bytes : List ℕ) (at other : ℕ) → HasOtherHeader bytes at → HasOtherHeader bytes other → at < other → ⊥
no_earlier bytes at other first second before =
    first.differs (sym (get_or-take other bytes at 0 before) ∙ ap (λ z. get_or z at 0) second.same ∙ get_or-take other header at 0 before)

pub image_is_no_refusal : (bytes : List ℕ) (bodies : List (List ℕ)) (at : ℕ) → IsImage bytes bodies → IsNoJournal bytes at → ⊥
image_is_no_refusal bytes bodies at image (inl brief) = has_header bytes bodies (image.gate ∷ image.behind) at image.bytes_are (inl brief)
image_is_no_refusal bytes bodies at image (inr (inl other)) = has_header bytes bodies (image.gate ∷ image.behind) at image.bytes_are (inr other)
image_is_no_refusal bytes bodies at image (inr (inr cut)) =
    not_both bodies cut.bodies image.gate image.behind cut.rest image.lengths cut.lengths image.shut cut.part (behind_header bytes bodies cut.bodies (image.gate ∷ image.behind) cut.rest image.bytes_are cut.bytes_are)

one_place : (bytes : List ℕ) (at other : ℕ) → IsNoJournal bytes at → IsNoJournal bytes other → at < other → ⊥
one_place bytes at other (inl brief) (inl too) before = omega (arith, brief.ends, too.ends, before)
one_place bytes at other (inl brief) (inr (inl differs)) before = omega (arith, brief.short, differs.long)
one_place bytes at other (inl brief) (inr (inr cut)) before = has_header bytes cut.bodies cut.rest at cut.bytes_are (inl brief)
one_place bytes at other (inr (inl differs)) (inl brief) before = omega (arith, brief.short, differs.long)
one_place bytes at other (inr (inl differs)) (inr (inl too)) before = no_earlier bytes at other differs too before
one_place bytes at other (inr (inl differs)) (inr (inr cut)) before = has_header bytes cut.bodies cut.rest at cut.bytes_are (inr differs)
one_place bytes at other (inr (inr cut)) (inl brief) before = has_header bytes cut.bodies cut.rest other cut.bytes_are (inl brief)
one_place bytes at other (inr (inr cut)) (inr (inl differs)) before = has_header bytes cut.bodies cut.rest other cut.bytes_are (inr differs)
one_place bytes at other (inr (inr cut)) (inr (inr too)) before =
    let same = one_end cut.bodies too.bodies cut.rest too.rest cut.lengths too.lengths cut.part too.part (behind_header bytes cut.bodies too.bodies cut.rest too.rest cut.bytes_are too.bytes_are) in
    omega (arith, cut.ends, too.ends, before, ap end_of same)

pub refused_at_one_place : (bytes : List ℕ) (at other : ℕ) → IsNoJournal bytes at → IsNoJournal bytes other → other ≡ at
refused_at_one_place bytes at other first second = elim (cases_order at other) [
  | inl same ↦ sym same
  | inr (inl before) ↦ absurd (one_place bytes at other first second before)
  | inr (inr after) ↦ absurd (one_place bytes other at second first after)
]
