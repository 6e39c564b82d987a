-- Policies of a document, by their names.
use Rattle.std.specs.Prelude.{◌≡◌, ℕ, zero, suc, Bool, true, false, ◌&&◌, not, nat_le, bytes_eq, if◌then◌else◌, List, [], ◌∷◌, length, codes, unwrap_or, Option, Some, None, option_map, Result, Ok, Err}
use Rattle.std.specs.Str.{is_utf8}
use Rattle.std.specs.Str.Parse.{digits_value}
use Rattle.side_base.specs.Decimal.{digits_at, after_digits}
use Rattle.yaml_subset.specs.PartKind.{PartKind}
use Rattle.yaml_subset.specs.PartKind.TheVariants as parts
use Rattle.yaml_subset.specs.Trees.{Trees, none, tree}
use Rattle.std.specs.Borrow.{Bor}
use Rattle.yaml_subset.specs.declared.preorder.Part.{Part}
use Rattle.yaml_subset.specs.Docs.{told_of, inner_of, member, Walked, absent, wrong, here, walked, IsFirst}
use Rattle.resource_spec.specs.declared.field_err.FieldErr.{FieldErr}
use Rattle.resource_spec.specs.declared.field_err.FieldErr.TheVariants.{Wrong}
use Rattle.resource_spec.specs.Follow.{follow}
use Rattle.resource_spec.specs.Field.{with_name, field_at, text_of, text_at, IsFieldErr}
use Rattle.resource_spec.specs.Load.{is_there}
use Rattle.policy_spec.specs.declared.policy.Policy.{Policy}
use Rattle.policy_spec.specs.declared.policy.Policy.TheVariants.{Timeout, Retry, Breaker}
use Rattle.policy_spec.specs.declared.policy.Section.{Section}
use Rattle.policy_spec.specs.declared.policy.Section.TheVariants.{Timeouts, Retries, Breakers}
use Rattle.policy_spec.specs.Named.{put_under}
use Rattle.policy_spec.specs.Readers.{Readers}

-- what a text says, or else the field is wrong
abbrev pub known : {T : Type 0} → List ℕ → Option T → Result T FieldErr
known field None = Err (Wrong field)
known field (Some x) = Ok x

-- the text of a member, or this one where it is absent
abbrev pub text_with_default : List ℕ → List ℕ → List ℕ → Trees → Result (List ℕ) FieldErr
text_with_default field name default row = follow (text_at field (name ∷ []) row) (λ said. Ok (unwrap_or said default))

-- what it says
abbrev pub member_says : {T : Type 0} → (List ℕ → Option T) → List ℕ → List ℕ → List ℕ → Trees → Result T FieldErr
member_says reader field name default row = follow (text_with_default field name default row) (λ text. known (with_name field name) (reader text))

abbrev pub is_end : List ℕ → Bool
is_end [] = true
is_end (byte ∷ others) = false

-- a whole number of 32 bits in decimal digits
abbrev pub whole : List ℕ → Option ℕ
whole text =
    if not (is_end text) && is_end (after_digits text) && nat_le (digits_value 10 (digits_at text)) 4294967295 then Some (digits_value 10 (digits_at text)) else None

-- how often a call is made again: -1 is without end
abbrev pub retries_said : List ℕ → Option (Option ℕ)
retries_said text = if bytes_eq text (codes "-1") then Some None else option_map (λ n. Some n) (whole text)

-- how many calls a half-open breaker lets through: at least one
abbrev pub one_or_more : Option ℕ → Option ℕ
one_or_more None = None
one_or_more (Some zero) = None
one_or_more (Some (suc n)) = Some (suc n)

abbrev pub requests_said : List ℕ → Option ℕ
requests_said text = one_or_more (whole text)

abbrev pub is_exponential : List ℕ → Option Bool
is_exponential text = if bytes_eq text (codes "constant") then Some false else if bytes_eq text (codes "exponential") then Some true else None

-- a timeout is the text of a duration
abbrev pub timeout_said : Readers → List ℕ → Option (List ℕ) → Result Policy FieldErr
timeout_said readers field None = Err (Wrong field)
timeout_said readers field (Some text) = follow (known field (readers.duration text)) (λ ms. Ok (Timeout ms))

abbrev pub without_matching : List ℕ → Trees → Policy → Result Policy FieldErr
without_matching field row policy = if is_there (member (codes "matching") row) then Err (Wrong (with_name field (codes "matching"))) else Ok policy

abbrev pub retry_said : Readers → List ℕ → Trees → Result Policy FieldErr
retry_said readers field row =
    follow (member_says is_exponential field (codes "policy") (codes "constant") row) (λ exponential.
    follow (member_says readers.duration field (codes "duration") (codes "5s") row) (λ wait.
    follow (member_says readers.duration field (codes "maxInterval") (codes "60s") row) (λ most.
    follow (member_says retries_said field (codes "maxRetries") (codes "-1") row) (λ retries.
    without_matching field row (Retry exponential wait most retries)))))

abbrev pub breaker_said : Readers → List ℕ → Trees → Result Policy FieldErr
breaker_said readers field row =
    follow (member_says requests_said field (codes "maxRequests") (codes "1") row) (λ requests.
    follow (member_says readers.duration field (codes "interval") (codes "0s") row) (λ interval.
    follow (member_says readers.duration field (codes "timeout") (codes "60s") row) (λ timeout.
    follow (member_says readers.trip field (codes "trip") (codes "consecutiveFailures > 5") row) (λ trip.
    Ok (Breaker requests interval timeout trip)))))

-- the policy that a member of a section is
abbrev pub policy_said : Readers → Section → List ℕ → Trees → Result Policy FieldErr
policy_said readers Timeouts field row = timeout_said readers field (text_of (told_of row))
policy_said readers Retries field row = retry_said readers field row
policy_said readers Breakers field row = breaker_said readers field row

-- a member's field, whose name must be UTF-8
abbrev pub member_field : List ℕ → List ℕ → Result (List ℕ) FieldErr
member_field field name = if is_utf8 name then Ok (with_name field name) else Err (Wrong field)

-- a section's policies with that of one more member
abbrev pub policy_put : Readers → Section → List ℕ → List (List ℕ × Policy) → Trees → Result (List (List ℕ × Policy)) FieldErr
policy_put readers section field table row =
    follow (member_field field (told_of row).name) (λ own.
    follow (policy_said readers section own row) (λ policy.
    Ok (put_under table (told_of row).name policy)))

-- the policies of a section's members, beside those that are there
abbrev pub policies_from : Readers → Section → List ℕ → List (List ℕ × Policy) → Trees → Result (List (List ℕ × Policy)) FieldErr
policies_from readers section field table none = Ok table
policies_from readers section field table (tree t inner later) = follow (policy_put readers section field table (tree t inner later)) (λ more. policies_from readers section field more later)

-- the members at a path, if a mapping stands there, and none where nothing does
abbrev pub mapping_of : List ℕ → Trees → Result Trees FieldErr
mapping_of field part = of_kind (told_of part).kind
  where
    of_kind : PartKind → Result Trees FieldErr
    of_kind parts.Mapping = Ok (inner_of part)
    of_kind parts.Scalar = Err (Wrong field)
    of_kind parts.Sequence = Err (Wrong field)
    of_kind parts.Empty = Ok none

abbrev pub mapping_walked : List (List ℕ) → Walked → Result Trees FieldErr
mapping_walked path absent = Ok none
mapping_walked path (wrong passed) = Err (Wrong (field_at [] path passed))
mapping_walked path (here part) = mapping_of (field_at [] path (length path)) part

abbrev pub mapping_at : List (List ℕ) → Trees → Result Trees FieldErr
mapping_at path row = mapping_walked path (walked 0 row path)

abbrev pub section_name : Section → List ℕ
section_name Timeouts = codes "timeouts"
section_name Retries = codes "retries"
section_name Breakers = codes "circuitBreakers"

abbrev pub section_field : Section → List ℕ
section_field Timeouts = codes "spec.policies.timeouts"
section_field Retries = codes "spec.policies.retries"
section_field Breakers = codes "spec.policies.circuitBreakers"

-- the policies of a section of a document
abbrev pub section_said : Readers → Section → Trees → Result (List (List ℕ × Policy)) FieldErr
section_said readers section row =
    follow (mapping_at (codes "spec" ∷ codes "policies" ∷ section_name section ∷ []) row) (policies_from readers section (section_field section) [])

-- what is read are these members, of which the first is told
abbrev pub IsMembers : Trees → Result (Option Part) FieldErr → Result Trees FieldErr → Type 0
IsMembers documents (Ok found) wanted = (row : Trees) × (wanted ≡ Ok row) × IsFirst documents row found
IsMembers documents (Err e) wanted = IsFieldErr e wanted

-- what is read is a name and this field
abbrev pub IsOwnField : List ℕ → Result (Bor (List ℕ) × List ℕ) FieldErr → Result (List ℕ) FieldErr → Type 0
IsOwnField name (Ok own) wanted = (own.0.now ≡ name) × (wanted ≡ Ok own.1)
IsOwnField name (Err e) wanted = IsFieldErr e wanted

-- a table is this after a change, but for a refusal
abbrev pub IsPut : {T : Type 0} → Result (Unit {0}) FieldErr → T → Result T FieldErr → Type 0
IsPut (Ok done) new wanted = wanted ≡ Ok new
IsPut (Err e) new wanted = IsFieldErr e wanted
