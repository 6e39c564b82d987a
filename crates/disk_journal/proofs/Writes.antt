-- What a write behind the closed gate, or at it, leaves of a file.
use Rattle.std.proofs.Common.{◌≡◌, ◌≢◌, ℕ, ◌+◌, ◌^◌, ◌<◌, ◌≤◌, List, [], ◌∷◌, ◌++◌, length, take, drop, get_or, sym, ◌∙◌, ap, arith, append_assoc, length-append, take-append-drop}
use Rattle.std.proofs.lemmas.List.{take_at, drop_at, drop_more, take-take}
use Rattle.std.specs.Int.{w64, to_le_bytes}
use Rattle.side_world.specs.Disk.{overwritten, Torn}
use Rattle.disk_journal.specs.Image.{content_of, front, end_of, IsImage, IsRecorded}
use Rattle.disk_journal.specs.Staging.{IsBegun}

-- nothing stands behind the gate yet
pub image_begins : (bytes : List ℕ) (bodies : List (List ℕ)) → IsImage bytes bodies → IsBegun bytes bodies []
image_begins bytes bodies image = record {
  gate = image.gate;
  behind = image.behind;
  shut = image.shut;
  lengths = image.lengths;
  bytes_are = image.bytes_are ∙ sym (append_assoc (front bodies) (image.gate ∷ []) image.behind);
}

pub begun_is_image : (bytes : List ℕ) (bodies : List (List ℕ)) (begun : List ℕ) → IsBegun bytes bodies begun → IsImage bytes bodies
begun_is_image bytes bodies begun is = record {
  gate = is.gate;
  behind = begun ++ is.behind;
  shut = is.shut;
  lengths = is.lengths;
  bytes_are = is.bytes_are ∙ append_assoc (front bodies) (is.gate ∷ begun) is.behind;
}

length-begun : (bodies : List (List ℕ)) (gate : ℕ) (begun : List ℕ) → length (front bodies ++ gate ∷ begun) ≡ end_of bodies + 1 + length begun
length-begun bodies gate begun = omega (arith, length-append (front bodies) (gate ∷ begun))

-- a write further behind, torn, leaves the gate and what stands behind it
pub torn_behind : (bytes c : List ℕ) (bodies : List (List ℕ)) (begun : List ℕ) (at n : ℕ) → IsBegun bytes bodies begun → end_of bodies + 1 + length begun ≤ at → Torn at n bytes c → IsBegun c bodies begun
torn_behind bytes c bodies begun at n is behind torn =
    let k = end_of bodies + 1 + length begun in
    let kept : take k c ≡ take k bytes = sym (take-take k at c behind) ∙ ap (take k) torn.front ∙ take-take k at bytes behind in
    let whole : take k bytes ≡ front bodies ++ is.gate ∷ begun =
    ap (take k) is.bytes_are ∙ take_at (front bodies ++ is.gate ∷ begun) is.behind k (length-begun bodies is.gate begun) in
    record {
      gate = is.gate;
      behind = drop k c;
      shut = is.shut;
      lengths = is.lengths;
      bytes_are = sym (take-append-drop k c) ∙ ap (λ z. z ++ drop k c) (kept ∙ whole);
    }

-- a write right behind what stands behind the gate adds to it
pub written_behind : (bytes c : List ℕ) (bodies : List (List ℕ)) (begun piece : List ℕ) (at : ℕ) → IsBegun bytes bodies begun → at ≡ end_of bodies + 1 + length begun → c ≡ overwritten at piece bytes → IsBegun c bodies (begun ++ piece)
written_behind bytes c bodies begun piece at is place written =
    let kept : take at bytes ≡ front bodies ++ is.gate ∷ begun =
    ap (take at) is.bytes_are ∙ take_at (front bodies ++ is.gate ∷ begun) is.behind at (length-begun bodies is.gate begun ∙ sym place) in
    record {
      gate = is.gate;
      behind = drop (at + length piece) bytes;
      shut = is.shut;
      lengths = is.lengths;
      bytes_are =
          written ∙ ap (λ z. z ++ piece ++ drop (at + length piece) bytes) kept
          ∙ ap (λ z. z ++ drop (at + length piece) bytes) (append_assoc (front bodies) (is.gate ∷ begun) piece);
    }

-- the length, the body and a closed gate behind the gate are a record
pub recorded : (bytes : List ℕ) (bodies : List (List ℕ)) (body : List ℕ) → length body < 2 ^ 64 → IsBegun bytes bodies ((to_le_bytes w64 (length body) ++ body) ++ 0 ∷ []) → (gate : ℕ) × (gate ≢ 1) × IsRecorded bytes bodies gate body
recorded bytes bodies body short is = (
  is.gate,
  is.shut,
  record {
    next = 0;
    behind = is.behind;
    shut = omega arith;
    lengths = is.lengths;
    has_length = short;
    bytes_are =
        is.bytes_are
        ∙ ap (λ z. z ++ is.behind) (sym (append_assoc (front bodies) (is.gate ∷ content_of body) (0 ∷ [])))
        ∙ append_assoc (front bodies ++ is.gate ∷ content_of body) (0 ∷ []) is.behind;
  },
)

-- what stands behind the gate of a record
after_gate : (bytes : List ℕ) (bodies : List (List ℕ)) (gate : ℕ) (body : List ℕ) (is : IsRecorded bytes bodies gate body) → bytes ≡ front bodies ++ gate ∷ (content_of body ++ is.next ∷ is.behind)
after_gate bytes bodies gate body is = is.bytes_are ∙ append_assoc (front bodies) (gate ∷ content_of body) (is.next ∷ is.behind)

regated : (bytes c : List ℕ) (bodies : List (List ℕ)) (gate other : ℕ) (body : List ℕ) (is : IsRecorded bytes bodies gate body) → c ≡ front bodies ++ other ∷ (content_of body ++ is.next ∷ is.behind) → IsRecorded c bodies other body
regated bytes c bodies gate other body is c_is = record {
  next = is.next;
  behind = is.behind;
  shut = is.shut;
  lengths = is.lengths;
  has_length = is.has_length;
  bytes_are = c_is ∙ sym (append_assoc (front bodies) (other ∷ content_of body) (is.next ∷ is.behind));
}

module _ (bytes : List ℕ) (bodies : List (List ℕ)) (gate : ℕ) (body : List ℕ) (is : IsRecorded bytes bodies gate body) (at : ℕ) (place : at ≡ end_of bodies) where
  before : take at bytes ≡ front bodies
  before = ap (take at) (after_gate bytes bodies gate body is) ∙ take_at (front bodies) (gate ∷ (content_of body ++ is.next ∷ is.behind)) at (sym place)

  behind : drop (at + 1) bytes ≡ content_of body ++ is.next ∷ is.behind
  behind =
      ap (drop (at + 1)) (after_gate bytes bodies gate body is ∙ sym (append_assoc (front bodies) (gate ∷ []) (content_of body ++ is.next ∷ is.behind)))
      ∙ drop_at (front bodies ++ gate ∷ []) (content_of body ++ is.next ∷ is.behind) (at + 1) (omega (arith, place, length-append (front bodies) (gate ∷ [])))

  -- a write of the gate, torn, leaves any gate
  pub torn_gate : (c : List ℕ) → Torn at 1 bytes c → (other : ℕ) × IsRecorded c bodies other body
  torn_gate c torn =
      let long : at < length c = omega (arith, torn.no_shorter, place, ap length (after_gate bytes bodies gate body is), length-append (front bodies) (gate ∷ (content_of body ++ is.next ∷ is.behind))) in
      let other = get_or c at 0 in (
        other,
        regated bytes c bodies gate other body is
            (sym (take-append-drop at c) ∙ ap (λ z. z ++ drop at c) (torn.front ∙ before) ∙ ap (λ z. front bodies ++ z) (drop_more c at 0 long ∙ ap (λ z. other ∷ z) (torn.rest ∙ behind))),
      )

  pub written_gate : (c : List ℕ) (other : ℕ) → c ≡ overwritten at (other ∷ []) bytes → IsRecorded c bodies other body
  written_gate c other written =
      regated bytes c bodies gate other body is
      (written ∙ ap (λ z. z ++ (other ∷ []) ++ drop (at + 1) bytes) before ∙ ap (λ z. (front bodies ++ other ∷ []) ++ z) behind
      ∙ append_assoc (front bodies) (other ∷ []) (content_of body ++ is.next ∷ is.behind))
