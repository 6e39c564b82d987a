-- The first fault of a save.
use Rattle.std.proofs.Common.{◌≡◌, ◌≤◌, ◌∷◌, inl, inr, ℕ, Bool, true, false, nat_le, List, [], length, Option, Some, None, refl, sym, ap, subst}
use Rattle.std.specs.Prelude.{◌⊎◌, Result, Ok, Err, codes}
use Rattle.std.proofs.lemmas.List.Elements.{All-cons}
use Rattle.side_base.specs.declared.message.Request.{Request}
use Rattle.state_core.specs.declared.command.Prefix.{Prefix}
use Rattle.state_core.specs.declared.command.Item.{Item}
use Rattle.state_core.specs.declared.command.Cmd.TheVariants.{Save}
use Rattle.state_api.specs.declared.what.What.{What}
use Rattle.state_api.specs.declared.what.What.TheVariants.{Json, Shape, TooMany}
use Rattle.state_api.specs.declared.raw.RawItem.{RawItem}
use Rattle.state_api.specs.Given.{followed, provided, each}
use Rattle.state_api.specs.Values.{Value, held_in, member, is_list, is_map, is_text, are_texts, text_of, needed, optional}
use Rattle.state_api.specs.Words.{stored_key, mode_of, ttl_of, etag_of}
use Rattle.state_api.specs.Raw.{concurrency_in, ttl_text_in, item_members, item_in, list_in}
use Rattle.json_text.specs.Unescape.{text_shown}
use Rattle.state_api.specs.Asked.{BodyAsks, bad, deep, text, item_of, few, save_in}
use Rattle.state_api.specs.Laws.{IsFine, IsFaultOf, IsFirstFault, IsFaultySave, IsOfWords}
use Rattle.state_api.proofs.Following.{all_none}
use Rattle.state_api.proofs.Keyed.{followed_ok, le_of}
use Rattle.state_api.proofs.Judging.{in_err, ok_err, key_ok, key_err, mode_ok, mode_err, ttl_ok, ttl_err}

-- ---- what stands behind a fault

module _ {A B : Type 0} where
  pub followed_err : (first : Result A What) (next : A → Result B What) (what : What) → followed first next ≡ Err what → (first ≡ Err what) ⊎ ((a : A) × (first ≡ Ok a) × (next a ≡ Err what))
  unfolding followed
  followed_err (Ok a) next what h = inr (a, refl, h)
  followed_err (Err other) next what h = inl (ap Err (in_err other what h))

pub provided_err : {A : Type 0} (test : Bool) (fault : What) (answer : Result A What) (what : What) → provided test fault answer ≡ Err what → (fault ≡ what) ⊎ ((test ≡ true) × (answer ≡ Err what))
unfolding provided
provided_err true fault answer what h = inr (refl, h)
provided_err false fault answer what h = inl (in_err fault what h)

-- ---- what a body says is wrong in its form alone

abbrev OnlyShape : {A : Type 0} → Result A What → Type 0
OnlyShape given = (what : What) → given ≡ Err what → Shape ≡ what

shape_ok : {A : Type 0} (a : A) → OnlyShape {A = A} (Ok a)
shape_ok a what h = ok_err what a _ h

shape_err : {A : Type 0} → OnlyShape {A = A} (Err Shape)
shape_err what h = in_err Shape what h

shape_provided : {A : Type 0} (test : Bool) (answer : Result A What) → OnlyShape answer → OnlyShape (provided test Shape answer)
shape_provided test answer only what h = elim (provided_err test Shape answer what h) [ inl is ↦ is | inr behind ↦ only what behind.1 ]

shape_followed : {A B : Type 0} (first : Result A What) (next : A → Result B What) → OnlyShape first → ((a : A) → OnlyShape (next a)) → OnlyShape (followed first next)
shape_followed first next only later what h = elim (followed_err first next what h) [ inl is ↦ only what is | inr behind ↦ later behind.0 what behind.2 ]

shape_each : {A B : Type 0} (one : A → Result B What) → ((x : A) → OnlyShape (one x)) → (xs : List A) → OnlyShape (each one xs)
unfolding each
shape_each one only [] = shape_ok []
shape_each one only (x ∷ xs) = shape_followed (one x) (λ y. followed (each one xs) (λ ys. Ok (y ∷ ys))) (only x) (λ y. shape_followed (each one xs) (λ ys. Ok (y ∷ ys)) (shape_each one only xs) (λ ys. shape_ok (y ∷ ys)))

module _ (bytes : List ℕ) where
  shape_text : (value : Value) → OnlyShape (text_of bytes value)
  shape_text value = shape_provided (is_text value.spot.kind) (Ok (text_shown bytes value.spot)) (shape_ok (text_shown bytes value.spot))

  shape_needed : (value : Option Value) → OnlyShape (needed bytes value)
  shape_needed None = shape_err
  shape_needed (Some value) = shape_text value

  shape_optional : (value : Option Value) → OnlyShape (optional bytes value)
  shape_optional None = shape_ok None
  shape_optional (Some value) = shape_followed (text_of bytes value) (λ word. Ok (Some word)) (shape_text value) (λ word. shape_ok (Some word))

  shape_concurrency : (value : Option Value) → OnlyShape (concurrency_in bytes value)
  shape_concurrency None = shape_ok None
  shape_concurrency (Some options) =
      let inside = member bytes (codes "concurrency") options in
      shape_provided (is_map options.spot.kind) (optional bytes inside) (shape_optional inside)

  shape_ttl : (value : Option Value) → OnlyShape (ttl_text_in bytes value)
  shape_ttl None = shape_ok None
  shape_ttl (Some metadata) =
      let inside = member bytes (codes "ttlInSeconds") metadata in
      shape_provided (is_map metadata.spot.kind) (provided (are_texts bytes (held_in metadata)) Shape (optional bytes inside)) (shape_provided (are_texts bytes (held_in metadata)) (optional bytes inside) (shape_optional inside))

  shape_members : (value : Value) → OnlyShape (item_members bytes value)
  shape_members value =
      shape_followed (needed bytes (member bytes (codes "key") value)) _ (shape_needed (member bytes (codes "key") value)) (λ key.
      shape_followed (optional bytes (member bytes (codes "etag") value)) _ (shape_optional (member bytes (codes "etag") value)) (λ etag.
      shape_followed (concurrency_in bytes (member bytes (codes "options") value)) _ (shape_concurrency (member bytes (codes "options") value)) (λ concurrency.
      shape_followed (ttl_text_in bytes (member bytes (codes "metadata") value)) _ (shape_ttl (member bytes (codes "metadata") value)) (λ ttl. shape_ok _))))

  shape_item : (value : Value) → OnlyShape (item_in bytes value)
  shape_item value = shape_provided (is_map value.spot.kind) (item_members bytes value) (shape_members value)

  shape_list : (value : Value) → OnlyShape (list_in (item_in bytes) value)
  shape_list value = shape_provided (is_list value.spot.kind) (each (item_in bytes) (held_in value)) (shape_each (item_in bytes) shape_item (held_in value))

-- ---- items

module _ (prefix : Prefix) where
  abbrev item_next : RawItem → List ℕ → Result Item What
  item_next raw key = followed (mode_of raw.concurrency) (λ mode. followed (ttl_of raw.ttl) (λ ttl. Ok (record { key = key; value = raw.value; etag = etag_of raw.etag; mode = mode; ttl = ttl })))

  pub item_fine : (raw : RawItem) (item : Item) → item_of prefix raw ≡ Ok item → IsFine raw
  item_fine raw item h =
      let key = followed_ok (stored_key prefix raw.key) (item_next raw) item h in
      let mode = followed_ok (mode_of raw.concurrency) (λ mode. followed (ttl_of raw.ttl) (λ ttl. Ok (record { key = key.0; value = raw.value; etag = etag_of raw.etag; mode = mode; ttl = ttl }))) item key.2 in
      let ttl = followed_ok (ttl_of raw.ttl) (λ ttl. Ok (record { key = key.0; value = raw.value; etag = etag_of raw.etag; mode = mode.0; ttl = ttl })) item mode.2 in
      record { key = key_ok prefix raw.key key.0 key.1; concurrency = mode_ok raw.concurrency mode.0 mode.1; ttl = ttl_ok raw.ttl ttl.0 ttl.1 }

  pub item_fault : (raw : RawItem) (what : What) → item_of prefix raw ≡ Err what → IsFaultOf raw what
  item_fault raw what h = elim (followed_err (stored_key prefix raw.key) (item_next raw) what h) [
    | inl is ↦ let fault = key_err prefix raw.key what is in subst (IsFaultOf raw) fault.0 fault.1
    | inr key ↦ let good = key_ok prefix raw.key key.0 key.1 in
        elim (followed_err (mode_of raw.concurrency) (λ mode. followed (ttl_of raw.ttl) (λ ttl. Ok (record { key = key.0; value = raw.value; etag = etag_of raw.etag; mode = mode; ttl = ttl }))) what key.2) [
          | inl is ↦ let fault = mode_err raw.concurrency what is in subst (IsFaultOf raw) fault.0 (good, fault.1)
          | inr mode ↦
              elim (followed_err (ttl_of raw.ttl) (λ ttl. Ok (record { key = key.0; value = raw.value; etag = etag_of raw.etag; mode = mode.0; ttl = ttl })) what mode.2) [
                | inl is ↦ let fault = ttl_err raw.ttl what is in subst (IsFaultOf raw) fault.0 (good, mode_ok raw.concurrency mode.0 mode.1, fault.1)
                | inr ttl ↦ ok_err what _ _ ttl.2
              ]
        ]
  ]

  -- the fault of a list is that of its first item that has one
  later_fault : (raw : RawItem) (raws : List RawItem) (what : What) → IsFine raw → IsFirstFault raws what → IsFirstFault (raw ∷ raws) what
  later_fault raw raws what fine first = record { before = raw ∷ first.before; raw = first.raw; after = first.after; split = ap (λ z. raw ∷ z) first.split; fine = All-cons IsFine raw first.before fine first.fine; fault = first.fault }

  each_fault : (raws : List RawItem) (what : What) → each (item_of prefix) raws ≡ Err what → IsFirstFault raws what
  unfolding each
  each_fault [] what h = ok_err what [] _ h
  each_fault (raw ∷ raws) what h = elim (followed_err (item_of prefix raw) (λ y. followed (each (item_of prefix) raws) (λ ys. Ok (y ∷ ys))) what h) [
    | inl is ↦ record { before = []; raw = raw; after = raws; split = refl; fine = all_none IsFine; fault = item_fault raw what is }
    | inr head ↦ elim (followed_err (each (item_of prefix) raws) (λ ys. Ok (head.0 ∷ ys)) what head.2) [
      | inl is ↦ later_fault raw raws what (item_fine raw head.0 head.1) (each_fault raws what is)
      | inr tail ↦ ok_err what (head.0 ∷ tail.0) _ tail.2
    ]
  ]

  -- ---- saves

  abbrev FaultyItems : List ℕ → Value → What → Type 0
  FaultyItems bytes value what = (raws : List RawItem) × (list_in (item_in bytes) value ≡ Ok raws) × (length raws ≤ 1024) × IsFirstFault raws what

  few_fault : (bytes : List ℕ) (value : Value) (raws : List RawItem) (what : What) → IsOfWords what → list_in (item_in bytes) value ≡ Ok raws → few (item_of prefix) raws ≡ Err what → FaultyItems bytes value what
  few_fault bytes value raws what words said h = elim (provided_err (nat_le (length raws) 1024) TooMany (each (item_of prefix) raws) what h) [
    | inl is ↦ absurd (subst IsOfWords (sym is) words)
    | inr behind ↦ (raws, said, le_of (length raws) 1024 behind.0, each_fault raws what behind.1)
  ]

  save_fault : (bytes : List ℕ) (value : Value) (what : What) → IsOfWords what → save_in prefix bytes value ≡ Err what → FaultyItems bytes value what
  save_fault bytes value what words h = elim (followed_err (list_in (item_in bytes) value) (λ raws. followed (few (item_of prefix) raws) (λ items. Ok (Save items 0))) what h) [
    | inl is ↦ absurd (subst IsOfWords (sym (shape_list bytes value what is)) words)
    | inr raws ↦ elim (followed_err (few (item_of prefix) raws.0) (λ items. Ok (Save items 0)) what raws.2) [
      | inl is ↦ few_fault bytes value raws.0 what words raws.1 is
      | inr items ↦ ok_err what (Save items.0 0) _ items.2
    ]
  ]

  pub body_fault : (request : Request) (what : What) → IsOfWords what → BodyAsks (save_in prefix) request.body (Err what) → IsFaultySave request what
  body_fault request what words (bad at first is) = absurd (subst IsOfWords (in_err what (Json at) is) words)
  body_fault request what words (deep at first is) = absurd (subst IsOfWords (in_err what (Json at) is) words)
  body_fault request what words (text spot children later tree clean is) =
      let faulty = save_fault request.body (record { spot = spot; children = children }) what words (sym is) in
      record { raws = faulty.0; items = text spot children later tree clean (sym faulty.1); few = faulty.2; first = faulty.3 }
