-- What a window holds behind the bodies that were given: one more, a closed gate, or a part of a record.
use Rattle.std.proofs.Common.{◌≡◌, ℕ, ◌+◌, ◌-◌, ◌^◌, ◌<◌, ◌≤◌, List, [], ◌∷◌, ◌++◌, length, take, drop, Some, refl, sym, ◌∙◌, ap, subst, arith, append_assoc, length-append, length-drop, take-append-drop}
use Rattle.std.proofs.lemmas.List.{take_at, take_all, drop_at}
use Rattle.std.proofs.lemmas.List.Elements.{All-push}
use Rattle.std.specs.Int.{w64, to_le_bytes}
use Rattle.side_world.specs.declared.disk.Disk.{Ghosts}
use Rattle.disk_journal.specs.Image.{record_of, front, IsImage}
use Rattle.disk_journal.specs.Moments.{Reads, ChangesNothing}
use Rattle.disk_journal.specs.Opening.{opening_disk, gate_of, body_of, HasGiven, HasGivenAll}
use Rattle.disk_journal.specs.Parsing.{IsClosed, BeginsWithOf}
use Rattle.disk_journal.specs.Refusal.{IsPart, IsCutShort}
use Rattle.disk_journal.specs.Window.{disk_of, place_of, held_of}
use Rattle.disk_journal.specs.declared.opening.Opening.{Opening}
use Rattle.disk_journal.specs.declared.window.Window.{Window}
use Rattle.disk_journal.proofs.Images.{front-push, end_of-push}
use Rattle.disk_journal.proofs.Opened.{nothing_then}
use Rattle.disk_journal.proofs.Unique.{says_one_list}

-- behind a front of the file stands what is held
stands : (bytes before left held : List ℕ) (at n : ℕ) → at ≡ length before → bytes ≡ before ++ left → held ≡ take n (drop at bytes) → held ≡ take n left
stands bytes before left held at n place is shows = shows ∙ ap (take n) (ap (drop at) is ∙ drop_at before left at (sym place))

-- behind the nine bytes of a record stands its body
behind_nine : (body rest : List ℕ) → drop 9 (record_of body ++ rest) ≡ body ++ rest
behind_nine body rest =
    let nine = 1 ∷ to_le_bytes w64 (length body) in
    ap (drop 9) (append_assoc nine body rest) ∙ drop_at nine (body ++ rest) 9 refl

module _ {D : Type 0} (disking : Ghosts D) (first : D) (old new : Opening D disking) (mid : Window D disking) (bodies : List (List ℕ)) (given : HasGiven disking first old bodies)
    (place : place_of mid ≡ gate_of old) (same : ChangesNothing disking (opening_disk old) (disk_of mid)) where
  abbrev n : ℕ
  n = length mid.buffer.items - mid.start

  changed : ChangesNothing disking first (disk_of mid)
  changed = nothing_then disking first (opening_disk old) (disk_of mid) given.changed same

  long : length (held_of mid) ≡ n
  long = length-drop mid.start mid.buffer.items

  -- what is left of the file begins with what is held
  held_is : (bytes : List ℕ) → disking.contents first ≡ Some bytes → (left : List ℕ) × (bytes ≡ front bodies ++ left) × (held_of mid ≡ take n left)
  held_is bytes told =
      let begins = given.begins bytes told in
      (begins.0, begins.1, stands bytes (front bodies) begins.0 (held_of mid) mid.at n (place ∙ given.gate) begins.1 (mid.shows bytes (changed.contents ∙ told)))

  whole : (bytes left : List ℕ) → bytes ≡ front bodies ++ left → held_of mid ≡ take n left → bytes ≡ front bodies ++ (held_of mid ++ drop n left)
  whole bytes left is held = is ∙ ap (λ z. front bodies ++ z) (sym (take-append-drop n left) ∙ ap (λ z. z ++ drop n left) (sym held))

  module _ (disk : opening_disk new ≡ disk_of mid) where
    changed_new : ChangesNothing disking first (opening_disk new)
    changed_new = subst (λ d. ChangesNothing disking first d) (sym disk) changed

    -- nothing more was given
    pub given_none : gate_of new ≡ place_of mid → HasGiven disking first new bodies
    given_none gate = record {
      lengths = given.lengths;
      gate = gate ∙ place ∙ given.gate;
      begins = given.begins;
      changed = changed_new;
      synced = λ c bytes leaves told. given.synced c bytes (same.leaves c (subst (λ d. disking.leaves d c) disk leaves)) told;
    }

    -- one body more
    pub given_more : (len : ℕ) → BeginsWithOf (held_of mid) len → gate_of new ≡ place_of mid + 9 + len → body_of new ≡ take len (drop 9 (held_of mid)) → HasGiven disking first new (bodies ++ body_of new ∷ [])
    given_more len has gate passed =
        let body = has.0 in
        let rest = has.1 in
        let is : body_of new ≡ body = passed ∙ ap (λ z. take len (drop 9 z)) has.2.bytes_are ∙ ap (take len) (behind_nine body rest) ∙ take_at body rest len has.3 in
        subst (λ (b : List ℕ). HasGiven disking first new (bodies ++ b ∷ [])) (sym is) (record {
          lengths = All-push (λ b. length b < 2 ^ 64) bodies body given.lengths has.2.has_length;
          gate = omega (arith, gate, place, given.gate, has.3, end_of-push bodies body);
          begins = λ bytes told.
              let held = held_is bytes told in (
                rest ++ drop n held.0,
                whole bytes held.0 held.1 held.2 ∙ ap (λ z. front bodies ++ (z ++ drop n held.0)) has.2.bytes_are ∙ ap (λ z. front bodies ++ z) (append_assoc (record_of body) rest (drop n held.0))
                    ∙ sym (append_assoc (front bodies) (record_of body) (rest ++ drop n held.0)) ∙ ap (λ z. z ++ (rest ++ drop n held.0)) (sym (front-push bodies body)),
              );
          changed = changed_new;
          synced = λ c bytes leaves told. given.synced c bytes (same.leaves c (subst (λ d. disking.leaves d c) disk leaves)) told;
        })

    -- all were given
    pub given_all : IsClosed (held_of mid) → gate_of new ≡ place_of mid → HasGivenAll disking first new bodies
    given_all closed gate =
        let image : Reads disking first (λ bytes. IsImage bytes bodies) = λ bytes told.
        let held = held_is bytes told in
        record {
          gate = closed.gate;
          behind = closed.behind ++ drop n held.0;
          shut = closed.shut;
          lengths = given.lengths;
          bytes_are = whole bytes held.0 held.1 held.2 ∙ ap (λ z. front bodies ++ (z ++ drop n held.0)) closed.bytes_are;
        } in
        record {
          given = given_none gate;
          within = omega (arith, gate, long, ap length closed.bytes_are, mid.short, mid.sized, ap disking.size disk);
          image = image;
          only = λ bytes told others is. says_one_list bytes bodies others (image bytes told) is;
        }

  -- the file ends at a part of a record
  pub cut_short : ((disk : D) (bytes : List ℕ) → disking.contents disk ≡ Some bytes → disking.size disk ≡ length bytes) → IsPart (held_of mid) → place_of mid + length (held_of mid) ≡ disking.size (disk_of mid) → Reads disking first (λ bytes. IsCutShort bytes (place_of mid))
  cut_short as_long part ends bytes told =
      let held = held_is bytes told in
      let all : length held.0 ≤ n = omega (arith, ends, long, place, given.gate, as_long (disk_of mid) bytes (changed.contents ∙ told), ap length held.1, length-append (front bodies) held.0) in
      record {
        bodies = bodies;
        rest = held_of mid;
        lengths = given.lengths;
        bytes_are = held.1 ∙ ap (λ z. front bodies ++ z) (sym (held.2 ∙ take_all n held.0 all));
        part = part;
        ends = place ∙ given.gate;
      }
