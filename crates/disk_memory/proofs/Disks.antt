-- What a write does to contents, and what one note more says.
use Rattle.std.proofs.Common.{◌≡◌, ◌≤◌, ℕ, List, [], ◌∷◌, ◌++◌, ◌+◌, length, take, drop, max, refl, ap, sym, subst, ◌∙◌, inl, inr, arith, append_assoc}
use Rattle.std.proofs.lemmas.List.{take_more, take-append-drop, take_at, length-take-le, length-drop, length-append, reverse-append}
use Rattle.std.proofs.lemmas.Slice.{drop-append-drop}
use Rattle.std.specs.Prelude.{reverse, get_or, if◌then◌else◌, Bool, true, false, ◌<◌}
use Rattle.std.proofs.Common.{Result, Ok, Err, OnOk, OnErr}
use Rattle.side_world.specs.Disk.{overwritten, Torn}
use Rattle.disk_memory.specs.MemoryDisk.{opening_of, notes_of, bytes_of, HasNoted, HasNotedNothing}
use Rattle.disk_memory.specs.declared.memory_disk.MemoryDisk.{MemoryDisk}
use Rattle.disk_memory.specs.DiskNotes.{held, AllTorn, MayLeave, Fit, ChangesNoByte}
use Rattle.disk_memory.specs.declared.note.Note.{Note}
use Rattle.disk_memory.specs.declared.note.Note.TheVariants.{Written, Lost, Synced}

-- how long contents are after a write
pub length-overwritten : (at : ℕ) (piece contents : List ℕ) → at ≤ length contents → length (overwritten at piece contents) ≡ max (length contents) (at + length piece)
length-overwritten at piece contents within =
    omega (
      length-append (take at contents ++ piece) (drop (at + length piece) contents),
      length-append (take at contents) piece,
      length-take-le at contents within,
      length-drop (at + length piece) contents,
      arith,
    )

-- a write of a part of what it may write is a torn one
pub part_is_torn : (at n : ℕ) (part contents : List ℕ) → at ≤ length contents → length part ≤ n → Torn at n contents (overwritten at part contents)
part_is_torn at n part contents within shorter = record {
  front =
      ap (take at) (append_assoc (take at contents) part (drop (at + length part) contents))
      ∙ take_at (take at contents) (part ++ drop (at + length part) contents) at (length-take-le at contents within);
  rest =
      drop-append-drop (at + length part) contents (take at contents ++ part) (at + n) (omega (shorter, arith))
      (omega (length-append (take at contents) part, length-take-le at contents within, arith));
  no_shorter = omega (length-overwritten at part contents within, arith);
  no_longer = omega (length-overwritten at part contents within, shorter, arith);
}

-- nothing of a write is a torn one
pub nothing_is_torn : (at n : ℕ) (contents : List ℕ) → Torn at n contents contents
nothing_is_torn at n contents = record { front = refl; rest = refl; no_shorter = omega arith; no_longer = omega arith }

-- one note more
pub latest_first : (notes : List Note) (note : Note) → reverse (notes ++ note ∷ []) ≡ note ∷ reverse notes
latest_first notes note = reverse-append notes (note ∷ [])

pub fit_more : (opening : List ℕ) (notes : List Note) (note : Note) → Fit opening notes → ((at : ℕ) (piece : List ℕ) → note ≡ Written at piece → at ≤ length (held opening notes)) → Fit opening (note ∷ notes)
fit_more opening notes note fit own [] earlier at piece is = let e : notes ≡ earlier = cc is in subst (λ z. at ≤ length (held opening z)) e (own at piece (cc is))
fit_more opening notes note fit own (other ∷ later) earlier at piece is = fit later earlier at piece (cc is)

-- what changed no byte
pub held_still : (opening : List ℕ) (notes : List Note) (note : Note) → ChangesNoByte note → held opening (note ∷ notes) ≡ held opening notes
held_still opening notes (Written at piece) no_write = absurd no_write
held_still opening notes (Lost at piece) no_write = refl
held_still opening notes Synced no_write = refl

pub is_no_write : (note : Note) → ChangesNoByte note → (at : ℕ) (piece : List ℕ) → note ≡ Written at piece → ⊥
is_no_write note no_write at piece is = subst ChangesNoByte is no_write

-- a crash inside a write, or after it, leaves what one before it may leave, torn
pub write_leaves : (opening : List ℕ) (notes after : List Note) (at : ℕ) (piece c : List ℕ) → at ≤ length (held opening notes) → after ≡ Written at piece ∷ notes → MayLeave opening after c → (d : List ℕ) × MayLeave opening notes d × Torn at (length piece) d c
write_leaves opening notes after at piece c within is left = made (subst (λ z. MayLeave opening z c) is left) where
  made : MayLeave opening (Written at piece ∷ notes) c → (d : List ℕ) × MayLeave opening notes d × Torn at (length piece) d c
  made (inl whole) = (held opening notes, inl refl, subst (Torn at (length piece) (held opening notes)) (sym whole) (part_is_torn at (length piece) piece (held opening notes) within (omega arith)))
  made (inr torn) = (torn.0, inr torn.1, torn.2)

-- a write that is this one begins where this one does
pub same_place : (opening : List ℕ) (notes : List Note) (at : ℕ) (piece : List ℕ) (other : ℕ) (its : List ℕ) → at ≤ length (held opening notes) → Written at piece ≡ Written other its → other ≤ length (held opening notes)
same_place opening notes at piece other its within is = let e : at ≡ other = cc is in subst (λ z. z ≤ length (held opening notes)) e within

-- the same, whether the write could be noted or not
pub write_leaves_either : {X E : Type 0} (result : Result X E) (old new : MemoryDisk) (at : ℕ) (piece c : List ℕ)
    → OnOk result (HasNoted (Written at piece) old new) → OnErr result (HasNotedNothing old new) → at ≤ length (bytes_of old)
    → MayLeave (opening_of new) (notes_of new) c → (d : List ℕ) × MayLeave (opening_of old) (notes_of old) d × Torn at (length piece) d c
write_leaves_either (Ok x) old new at piece c noted same within left =
    write_leaves (opening_of old) (notes_of old) (notes_of new) at piece c (subst (λ z. at ≤ length z) old.bytes_are within) noted.notes
    (subst (λ z. MayLeave z (notes_of new) c) noted.opening left)
write_leaves_either (Err e) old new at piece c noted same within left =
    (c, subst (λ z. MayLeave (opening_of old) z c) same.notes (subst (λ z. MayLeave z (notes_of new) c) same.opening left), nothing_is_torn at (length piece) c)

-- a note that may have found no room
pub held_either : (opening : List ℕ) (notes after : List Note) (note : Note) (b : Bool) → ChangesNoByte note → after ≡ (if b then notes ++ note ∷ [] else notes) → held opening (reverse after) ≡ held opening (reverse notes)
held_either opening notes after note true no_write is = ap (λ z. held opening (reverse z)) is ∙ ap (held opening) (latest_first notes note) ∙ held_still opening (reverse notes) note no_write
held_either opening notes after note false no_write is = ap (λ z. held opening (reverse z)) is

pub fit_either : (opening : List ℕ) (notes after : List Note) (note : Note) (b : Bool) → ChangesNoByte note → after ≡ (if b then notes ++ note ∷ [] else notes) → Fit opening (reverse notes) → Fit opening (reverse after)
fit_either opening notes after note true no_write is fit =
    subst (Fit opening) (sym (ap reverse is ∙ latest_first notes note)) (fit_more opening (reverse notes) note fit (λ at piece e. absurd (is_no_write note no_write at piece e)))
fit_either opening notes after note false no_write is fit = subst (λ z. Fit opening (reverse z)) (sym is) fit

-- the notes up to one more
pub up_to_next : (notes : List Note) (i : ℕ) (note : Note) → i < length notes → note ≡ get_or notes i note → reverse (take (i + 1) notes) ≡ note ∷ reverse (take i notes)
up_to_next notes i note within is =
    ap reverse (take_more notes i note within) ∙ latest_first (take i notes) (get_or notes i note) ∙ ap (λ z. z ∷ reverse (take i notes)) (sym is)

-- what has followed the notes one by one has what a read gives, and an image of them all torn
pub record Followed (opening : List ℕ) (notes : List Note) (whole image : List ℕ) : Type 0 where
  pub whole_is : whole ≡ held opening notes
  pub torn : AllTorn opening notes image

pub synced_on : (opening : List ℕ) (notes after : List Note) (whole image whole' image' : List ℕ) → Followed opening notes whole image → after ≡ Synced ∷ notes → whole' ≡ whole → image' ≡ whole → Followed opening after whole' image'
synced_on opening notes after whole image whole' image' so_far is same copied =
    subst (λ z. Followed opening z whole' image') (sym is) (record { whole_is = same ∙ so_far.whole_is; torn = copied ∙ so_far.whole_is })

pub written_on : (opening : List ℕ) (notes after : List Note) (whole image whole' image' : List ℕ) (at : ℕ) (piece : List ℕ) → Followed opening notes whole image → after ≡ Written at piece ∷ notes → whole' ≡ overwritten at piece whole → Torn at (length piece) image image' → Followed opening after whole' image'
written_on opening notes after whole image whole' image' at piece so_far is written torn =
    subst (λ z. Followed opening z whole' image') (sym is) (record { whole_is = written ∙ ap (overwritten at piece) so_far.whole_is; torn = (image, so_far.torn, torn) })

pub lost_on : (opening : List ℕ) (notes after : List Note) (whole image whole' image' : List ℕ) (at : ℕ) (piece : List ℕ) → Followed opening notes whole image → after ≡ Lost at piece ∷ notes → whole' ≡ whole → Torn at (length piece) image image' → Followed opening after whole' image'
lost_on opening notes after whole image whole' image' at piece so_far is same torn =
    subst (λ z. Followed opening z whole' image') (sym is) (record { whole_is = same ∙ so_far.whole_is; torn = (image, so_far.torn, torn) })

-- where a note is reached that is a write, the write fits
pub fits_here : (opening : List ℕ) (all : List Note) (moment i : ℕ) (note : Note) (at : ℕ) (piece : List ℕ) → Fit opening (reverse all) → i < length (take moment all) → note ≡ get_or (take moment all) i note → note ≡ Written at piece → at ≤ length (held opening (reverse (take i (take moment all))))
fits_here opening all moment i note at piece fit within is written =
    let part = take moment all in
    let front = take (i + 1) part in
    let whole : all ≡ front ++ (drop (i + 1) part ++ drop moment all) =
    sym (take-append-drop moment all) ∙ ap (λ z. z ++ drop moment all) (sym (take-append-drop (i + 1) part)) ∙ append_assoc front (drop (i + 1) part) (drop moment all) in
    fit (reverse (drop (i + 1) part ++ drop moment all)) (reverse (take i part)) at piece
    (ap reverse whole ∙ reverse-append front (drop (i + 1) part ++ drop moment all)
    ∙ ap (λ z. reverse (drop (i + 1) part ++ drop moment all) ++ z) (up_to_next part i note within is ∙ ap (λ z. z ∷ reverse (take i part)) written))
