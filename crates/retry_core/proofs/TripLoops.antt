-- What the loop over the comparisons of a trip has read.
use Rattle.std.proofs.Common.{◌≡◌, ◌≢◌, ◌+◌, ◌<◌, ◌≤◌, inl, ◌∙◌, ℕ, List, [], ◌∷◌, ◌++◌, length, drop, set, Option, Some, Err, sym, ap, subst, arith, refl}
use Rattle.std.proofs.lemmas.List.{length-drop, length-append}
use Rattle.std.proofs.lemmas.List.Folds.{length-prefix_len}
use Rattle.std.proofs.lemmas.List.Sums.{prefix_len-le-length}
use Rattle.std.specs.Char.{is_ascii_digit}
use Rattle.side_base.specs.Decimal.{digits_at}
use Rattle.retry_core.specs.declared.trip.Join.{Join}
use Rattle.retry_core.specs.declared.trip.Join.TheVariants.{All}
use Rattle.retry_core.specs.declared.trip.Comparison.{Comparison}
use Rattle.retry_core.specs.declared.trip_text.TripErr.{TripErr}
use Rattle.retry_core.specs.declared.trip_text.TripErr.TheVariants.{Counter as NoCounter, Sign as NoSign, Number as NoNumber, Mixed, Long}
use Rattle.retry_core.specs.TripText.{word_at, after_spaces, counters, signs, joins, Takes, Compares, Joined, none, more, Leads, trip_with, TripResult, LacksComparison, MeetsJoin}

-- the places of a trip, with these comparisons first
abbrev pub slots : List Comparison → List (Option Comparison)
slots comparisons = (trip_with All comparisons).comparisons

-- the text is read up to `after`, by comparisons with the join between each two
pub record IsReadTo (text after : List ℕ) (join : Join) (places : List (Option Comparison)) (count : ℕ) : Type 0 where
  pub front : List Comparison
  pub last : Comparison
  pub rest : List ℕ
  pub joined : Joined join rest text front
  pub compares : Compares rest last after
  pub places_are : places ≡ slots (front ++ last ∷ [])
  pub count_is : count ≡ length front + 1
  pub few : count < 5
  pub alone : count ≡ 1 → join ≡ All

-- what is left is no longer than the text
pub length-after_spaces : (text : List ℕ) → length (after_spaces text) ≤ length text
unfolding after_spaces
length-after_spaces text = omega (arith, length-drop {A = ℕ})

pub Takes-length : {X : Type 0} (words : List (List ℕ × X)) (text : List ℕ) (x : X) (rest : List ℕ) → Takes words text x rest → length rest ≤ length text
Takes-length words text x rest p =
    rw p.rest_is (omega (arith, length-after_spaces (drop (length p.word) text), length-drop (length p.word) text))

some_length : (xs : List ℕ) → xs ≢ [] → 0 < length xs
some_length [] h = absurd (h refl)
some_length (x ∷ xs) h = omega arith

pub digits_within : (text : List ℕ) → length (digits_at text) ≤ length text
digits_within text = rw (length-prefix_len is_ascii_digit text) (prefix_len-le-length is_ascii_digit text)

pub Compares-length : (text : List ℕ) (c : Comparison) (rest : List ℕ) → Compares text c rest → length rest < length text
Compares-length text c rest p =
    let first = Takes-length counters text c.counter p.signed p.counter in
    let second = Takes-length signs p.signed c.sign p.numbered p.sign in
    let some = some_length (digits_at p.numbered) p.number.0 in
    rw p.rest_is (omega (arith, digits_within p.numbered, length-drop (length (digits_at p.numbered)) p.numbered))

pub Joined-length : (join : Join) (rest text : List ℕ) (front : List Comparison) → Joined join rest text front → length rest ≤ length text
Joined-length join rest text front none = omega arith
Joined-length join rest text front (more t c after next tail compares takes p) =
    omega (arith, Joined-length join rest next tail p, Compares-length t c after compares, length-after_spaces after, Takes-length joins (after_spaces after) join next takes)

-- one comparison and join more at the end
pub Joined-push : (join : Join) (rest : List ℕ) (c : Comparison) (after next : List ℕ) → Compares rest c after → Takes joins (after_spaces after) join next → (text : List ℕ) (front : List Comparison) → Joined join rest text front
    → Joined join next text (front ++ c ∷ [])
Joined-push join rest c after next compares takes text front none = more rest c after next [] compares takes none
Joined-push join rest c after next compares takes text front (more t d between then tail first joins_it p) =
    more t d between then (tail ++ c ∷ []) first joins_it (Joined-push join rest c after next compares takes then tail p)

-- no join is fixed while no join was read
pub Joined-rejoin : (j i : Join) (rest text : List ℕ) (front : List Comparison) → Joined j rest text front → (front ≢ [] → j ≡ i) → Joined i rest text front
Joined-rejoin j i rest text front none same = none
Joined-rejoin j i rest text front (more t c after next tail compares takes p) same =
    subst (λ (x : Join). Joined x rest t (c ∷ tail)) (same (λ e. cc)) (more t c after next tail compares takes p)

pub slots-push : (front : List Comparison) (c : Comparison) → length front < 4 → set (slots front) (length front) (Some c) ≡ slots (front ++ c ∷ [])
slots-push [] c h = refl
slots-push (x ∷ []) c h = refl
slots-push (x ∷ y ∷ []) c h = refl
slots-push (x ∷ y ∷ z ∷ []) c h = refl
slots-push (x ∷ y ∷ z ∷ w ∷ ws) c h = absurd (omega arith)

-- the comparison that was read last, with the join after it
pub read_leads : (text after : List ℕ) (join found : Join) (places : List (Option Comparison)) (count : ℕ) (r : IsReadTo text after join places count) → (count ≢ 1 → join ≡ found) → count < 4
    → (next : List ℕ) → Takes joins (after_spaces after) found next → Leads text found (r.front ++ r.last ∷ []) next
read_leads text after join found places count r same few next takes =
    let fixed : r.front ≢ [] → join ≡ found = λ later. same (λ one. later (none_in r.front (omega (arith, r.count_is)))) in
    let joined = Joined-rejoin join found r.rest text r.front r.joined fixed in
    record {
      joined = Joined-push found r.rest r.last after next r.compares takes text r.front joined;
      few = rw (length-append r.front (r.last ∷ [])) (omega (arith, r.count_is));
    }
  where
    none_in : (xs : List Comparison) → length xs ≤ 0 → xs ≡ []
    none_in [] h = refl
    none_in (x ∷ xs) h = absurd (omega arith)

pub read_more : (text after : List ℕ) (join found : Join) (places : List (Option Comparison)) (count : ℕ) (r : IsReadTo text after join places count) → (count ≢ 1 → join ≡ found) → count < 4
    → (next : List ℕ) → Takes joins (after_spaces after) found next → (c : Comparison) (end : List ℕ) → Compares next c end → IsReadTo text end found (set places count (Some c)) (count + 1)
read_more text after join found places count r same few next takes c end compares =
    let leads = read_leads text after join found places count r same few next takes in
    let size : length (r.front ++ r.last ∷ []) ≡ count = length-append r.front (r.last ∷ []) ∙ sym r.count_is in
    record {
      front = r.front ++ r.last ∷ [];
      last = c;
      rest = next;
      joined = leads.joined;
      compares = compares;
      places_are = rw (r.places_are, ← size) (slots-push (r.front ++ r.last ∷ []) c leads.few);
      count_is = omega (arith, size);
      few = omega arith;
      alone = λ one. absurd (omega (arith, r.count_is));
    }

-- a comparison that is not there ends the trip
pub TripResult-stopped : (text rest : List ℕ) (join : Join) (front : List Comparison) → Leads text join front rest → (e : TripErr)
    → LacksComparison text rest e → TripResult text (Err e)
TripResult-stopped text rest join front leads (NoCounter at) h = record { join = join; front = front; rest = rest; leads = leads; absent = h.0; place = h.1 }
TripResult-stopped text rest join front leads (NoSign at) h = record { join = join; front = front; rest = rest; stop = h.0; leads = leads; absent = inl h.1; place = h.2 }
TripResult-stopped text rest join front leads (NoNumber at) h = record { join = join; front = front; rest = rest; stop = h.0; leads = leads; absent = h.1; place = h.2 }
TripResult-stopped text rest join front leads (Mixed at) h = absurd h
TripResult-stopped text rest join front leads (Long at) h = absurd h

-- the join that was found where the spaces after a comparison end
pub takes_join : (after rest next word : List ℕ) (len : ℕ) (found : Join) → rest ≡ after_spaces after → word_at joins rest ≡ Some (word, found) → len ≡ length word → next ≡ after_spaces (drop len rest)
    → Takes joins (after_spaces after) found next
takes_join after rest next word len found skipped stands size is =
    record {
      word = word;
      stands = ap (λ (t : List ℕ). word_at joins t) (sym skipped) ∙ stands;
      rest_is = is ∙ ap (λ (n : ℕ). after_spaces (drop n rest)) size ∙ ap (λ (t : List ℕ). after_spaces (drop (length word) t)) skipped;
    }

pub meets_join : (text after stop word : List ℕ) (c : Comparison) (found : Join) → Compares text c after → stop ≡ after_spaces after → word_at joins stop ≡ Some (word, found) → MeetsJoin text found stop
meets_join text after stop word c found compares skipped stands =
    record {
      comparison = c;
      after = after;
      next = after_spaces (drop (length word) stop);
      compares = compares;
      rest_is = skipped;
      joins_is = record { word = word; stands = stands; rest_is = refl };
    }
