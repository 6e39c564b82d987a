-- Files of bodies, and files of one body more.
use Rattle.std.proofs.Common.{◌≡◌, ◌≢◌, inl, inr, ℕ, ◌+◌, ◌^◌, ◌<◌, ◌≤◌, List, [], ◌∷◌, ◌++◌, length, Option, Some, None, refl, sym, ◌∙◌, ap, arith, append_assoc, length-append}
use Rattle.std.proofs.lemmas.List.{append-nil}
use Rattle.std.proofs.lemmas.List.Elements.{All-push}
use Rattle.std.proofs.lemmas.Bool.{cases_eq}
use Rattle.std.specs.Int.{w64, to_le_bytes}
use Rattle.disk_journal.specs.Image.{header, content_of, record_of, records, front, end_of, IsImage, IsRecorded, IsFile, IsWithOrWithout}
use Rattle.disk_journal.specs.OneMore.{WithDoubt}

pub length-header : length header ≡ 16
unfolding header
length-header = refl

pub length-len : (n : ℕ) → length (to_le_bytes w64 n) ≡ 8
length-len n = refl

pub length-record_of : (body : List ℕ) → length (record_of body) ≡ 9 + length body
length-record_of body =
    omega (arith, length-len (length body), length-append (to_le_bytes w64 (length body)) body)

records-joined : (bodies others : List (List ℕ)) → records (bodies ++ others) ≡ records bodies ++ records others
records-joined [] others = refl
records-joined (body ∷ bodies) others = ap (λ z. record_of body ++ z) (records-joined bodies others) ∙ sym (append_assoc (record_of body) (records bodies) (records others))

front-joined : (bodies others : List (List ℕ)) → front (bodies ++ others) ≡ front bodies ++ records others
front-joined bodies others = ap (λ z. header ++ z) (records-joined bodies others) ∙ sym (append_assoc header (records bodies) (records others))

-- one body more is one record more
pub records-push : (bodies : List (List ℕ)) (body : List ℕ) → records (bodies ++ body ∷ []) ≡ records bodies ++ record_of body
records-push bodies body = records-joined bodies (body ∷ []) ∙ ap (λ z. records bodies ++ z) (append-nil (record_of body))

pub front-push : (bodies : List (List ℕ)) (body : List ℕ) → front (bodies ++ body ∷ []) ≡ front bodies ++ record_of body
front-push bodies body = front-joined bodies (body ∷ []) ∙ ap (λ z. front bodies ++ z) (append-nil (record_of body))

-- a front of bodies ends no later
pub end_of-front : (bodies others : List (List ℕ)) → end_of bodies ≤ end_of (bodies ++ others)
end_of-front bodies others = omega (arith, ap length (front-joined bodies others), length-append (front bodies) (records others))

pub end_of-push : (bodies : List (List ℕ)) (body : List ℕ) → end_of (bodies ++ body ∷ []) ≡ end_of bodies + 9 + length body
end_of-push bodies body = omega (arith, ap length (front-push bodies body), length-append (front bodies) (record_of body), length-record_of body)

pub end_of-nil : end_of [] ≡ 16
end_of-nil = ap length (append-nil header) ∙ length-header

-- what stands behind the bodies counts where its gate is open, and else it does not
pub without : (bytes : List ℕ) (bodies : List (List ℕ)) (gate : ℕ) (body : List ℕ) → IsRecorded bytes bodies gate body → gate ≢ 1 → IsImage bytes bodies
without bytes bodies gate body recorded shut = record {
  gate = gate;
  behind = content_of body ++ recorded.next ∷ recorded.behind;
  shut = shut;
  lengths = recorded.lengths;
  bytes_are = recorded.bytes_are ∙ append_assoc (front bodies) (gate ∷ content_of body) (recorded.next ∷ recorded.behind);
}

pub with_one : (bytes : List ℕ) (bodies : List (List ℕ)) (gate : ℕ) (body : List ℕ) → IsRecorded bytes bodies gate body → gate ≡ 1 → IsImage bytes (bodies ++ body ∷ [])
with_one bytes bodies gate body recorded is_open = record {
  gate = recorded.next;
  behind = recorded.behind;
  shut = recorded.shut;
  lengths = All-push (λ b. length b < 2 ^ 64) bodies body recorded.lengths recorded.has_length;
  bytes_are =
      recorded.bytes_are ∙ ap (λ g. (front bodies ++ (g ∷ content_of body)) ++ recorded.next ∷ recorded.behind) is_open
      ∙ ap (λ z. z ++ recorded.next ∷ recorded.behind) (sym (front-push bodies body));
}

pub with_or_without : (bytes : List ℕ) (bodies : List (List ℕ)) (gate : ℕ) (body : List ℕ) → IsRecorded bytes bodies gate body → IsWithOrWithout bodies body bytes
with_or_without bytes bodies gate body recorded = elim (cases_eq gate 1) [
  | inl is_open ↦ inr (with_one bytes bodies gate body recorded is_open)
  | inr shut ↦ inl (without bytes bodies gate body recorded shut)
]

-- where a gate is in doubt, its body counts or does not
pub with_doubt : (bytes : List ℕ) (bodies : List (List ℕ)) (doubt : Option (List ℕ)) → IsFile bodies doubt bytes → WithDoubt (IsImage bytes) bodies doubt
with_doubt bytes bodies None image = inl image
with_doubt bytes bodies (Some body) is = with_or_without bytes bodies is.0 body is.1
