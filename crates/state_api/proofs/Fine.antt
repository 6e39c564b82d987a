-- What a save comes to whose items are known.
use Rattle.std.proofs.Common.{◌≡◌, ◌≤◌, ◌<◌, ◌++◌, ◌∷◌, ℕ, Bool, true, false, cond, nat_le, List, [], length, refl, sym, ap, subst, ◌∙◌}
use Rattle.std.specs.Prelude.{Result, Ok, Err, All, map}
use Rattle.std.proofs.lemmas.List.Elements.{All-head, All-tail}
use Rattle.side_base.specs.declared.message.Request.{Request}
use Rattle.state_core.specs.declared.command.Prefix.{Prefix}
use Rattle.state_core.specs.declared.command.Item.{Item}
use Rattle.state_core.specs.declared.command.Cmd.{Cmd}
use Rattle.state_core.specs.declared.command.Cmd.TheVariants.{Save}
use Rattle.state_api.specs.declared.what.What.{What}
use Rattle.state_api.specs.declared.what.What.TheVariants.{Json, Shape, Key, Concurrency, Operation, TooMany, Ttl}
use Rattle.state_api.specs.declared.what.StateErr.TheVariants.{Malformed}
use Rattle.state_api.specs.declared.raw.RawItem.{RawItem}
use Rattle.state_api.specs.Given.{followed, each}
use Rattle.state_api.specs.Values.{Value}
use Rattle.state_api.specs.Words.{front_of, is_key, stored_key, mode_of, ttl_of, etag_of}
use Rattle.state_api.specs.Raw.{item_in, list_in}
use Rattle.state_api.specs.Asked.{BodyAsks, bad, deep, text, item_of, few, save_in}
use Rattle.state_api.specs.Laws.{IsFine, IsFaultOf, IsFaultySave, HasItems, AreOf}
use Rattle.state_api.proofs.Following.{in_ok, went, stopped, held, failed, few_more, few_enough}
use Rattle.state_api.proofs.Keyed.{err_ok, followed_ok}
use Rattle.state_api.proofs.FirstFault.{item_fine, item_fault}

-- ---- faults

-- what has a fault is not fine
not_fine : (raw : RawItem) (what : What) → IsFine raw → IsFaultOf raw what → ⊥
not_fine raw (Json at) fine fault = fault
not_fine raw Shape fine fault = fault
not_fine raw Key fine fault = fault fine.key
not_fine raw Concurrency fine fault = fault.1 fine.concurrency
not_fine raw Operation fine fault = fault
not_fine raw TooMany fine fault = fault
not_fine raw Ttl fine fault = fault.2 fine.ttl

-- an item has one fault at most
one_fault : (raw : RawItem) (one other : What) → IsFaultOf raw one → IsFaultOf raw other → one ≡ other
one_fault raw (Json at) other h k = absurd h
one_fault raw Shape other h k = absurd h
one_fault raw Operation other h k = absurd h
one_fault raw TooMany other h k = absurd h
one_fault raw Key (Json at) h k = absurd k
one_fault raw Key Shape h k = absurd k
one_fault raw Key Key h k = refl
one_fault raw Key Concurrency h k = absurd (h k.0)
one_fault raw Key Operation h k = absurd k
one_fault raw Key TooMany h k = absurd k
one_fault raw Key Ttl h k = absurd (h k.0)
one_fault raw Concurrency (Json at) h k = absurd k
one_fault raw Concurrency Shape h k = absurd k
one_fault raw Concurrency Key h k = absurd (k h.0)
one_fault raw Concurrency Concurrency h k = refl
one_fault raw Concurrency Operation h k = absurd k
one_fault raw Concurrency TooMany h k = absurd k
one_fault raw Concurrency Ttl h k = absurd (h.1 k.1)
one_fault raw Ttl (Json at) h k = absurd k
one_fault raw Ttl Shape h k = absurd k
one_fault raw Ttl Key h k = absurd (k h.0)
one_fault raw Ttl Concurrency h k = absurd (k.1 h.1)
one_fault raw Ttl Operation h k = absurd k
one_fault raw Ttl TooMany h k = absurd k
one_fault raw Ttl Ttl h k = refl

module _ (prefix : Prefix) where
  -- ---- items

  fine_by : (raw : RawItem) (result : Result Item What) → item_of prefix raw ≡ result → IsFine raw → (item : Item) × (item_of prefix raw ≡ Ok item)
  fine_by raw (Ok item) is fine = (item, is)
  fine_by raw (Err what) is fine = absurd (not_fine raw what fine (item_fault prefix raw what is))

  fine_item : (raw : RawItem) → IsFine raw → (item : Item) × (item_of prefix raw ≡ Ok item)
  fine_item raw fine = fine_by raw (item_of prefix raw) refl fine

  faulty_by : (raw : RawItem) (result : Result Item What) (what : What) → item_of prefix raw ≡ result → IsFaultOf raw what → item_of prefix raw ≡ Err what
  faulty_by raw (Ok item) what is fault = absurd (not_fine raw what (item_fine prefix raw item is) fault)
  faulty_by raw (Err other) what is fault = is ∙ ap Err (one_fault raw other what (item_fault prefix raw other is) fault)

  faulty_item : (raw : RawItem) (what : What) → IsFaultOf raw what → item_of prefix raw ≡ Err what
  faulty_item raw what fault = faulty_by raw (item_of prefix raw) what refl fault

  stored_by : (key stored : List ℕ) (b : Bool) → cond b (Ok (front_of prefix ++ key)) (Err Key) ≡ Ok stored → stored ≡ front_of prefix ++ key
  stored_by key stored true h = sym (in_ok (front_of prefix ++ key) stored h)
  stored_by key stored false h = err_ok Key stored _ h

  -- it is stored under its key, with its value
  item_is : (raw : RawItem) (item : Item) → item_of prefix raw ≡ Ok item → (item.key ≡ front_of prefix ++ raw.key) × (item.value ≡ raw.value)
  item_is raw item h =
      let key = followed_ok (stored_key prefix raw.key) (λ key.
      followed (mode_of raw.concurrency) (λ mode. followed (ttl_of raw.ttl) (λ ttl. Ok (record { key = key; value = raw.value; etag = etag_of raw.etag; mode = mode; ttl = ttl })))) item h in
      let mode = followed_ok (mode_of raw.concurrency) (λ mode.
      followed (ttl_of raw.ttl) (λ ttl. Ok (record { key = key.0; value = raw.value; etag = etag_of raw.etag; mode = mode; ttl = ttl }))) item key.2 in
      let ttl = followed_ok (ttl_of raw.ttl) (λ ttl. Ok (record { key = key.0; value = raw.value; etag = etag_of raw.etag; mode = mode.0; ttl = ttl })) item mode.2 in
      subst (λ (z : Item). (z.key ≡ front_of prefix ++ raw.key) × (z.value ≡ raw.value)) (in_ok _ item ttl.2) (stored_by raw.key key.0 (is_key raw.key) key.1, refl)

  -- ---- lists of them

  abbrev later : RawItem → List RawItem → Item → Result (List Item) What
  later raw raws item = followed (each (item_of prefix) raws) (λ items. Ok (item ∷ items))

  more_of : (raw : RawItem) (raws : List RawItem) (item : Item) (items : List Item) → (item.key ≡ front_of prefix ++ raw.key) × (item.value ≡ raw.value) → AreOf prefix raws items → AreOf prefix (raw ∷ raws) (item ∷ items)
  more_of raw raws item items one all = record {
    keys = ap (λ z. z ∷ map (λ (item : Item). item.key) items) one.0 ∙ ap (λ z. (front_of prefix ++ raw.key) ∷ z) all.keys;
    values = ap (λ z. z ∷ map (λ (item : Item). item.value) items) one.1 ∙ ap (λ z. raw.value ∷ z) all.values;
  }

  fine_items : (raws : List RawItem) → All IsFine raws → (items : List Item) × (each (item_of prefix) raws ≡ Ok items) × AreOf prefix raws items
  unfolding each
  fine_items [] fine = ([], refl, record { keys = refl; values = refl })
  fine_items (raw ∷ raws) fine =
      let one = fine_item raw (All-head IsFine raw raws fine) in
      let all = fine_items raws (All-tail IsFine raw raws fine) in (
        one.0 ∷ all.0,
        went (item_of prefix raw) (later raw raws) one.0 (Ok (one.0 ∷ all.0)) one.1 (went (each (item_of prefix) raws) (λ items. Ok (one.0 ∷ items)) all.0 (Ok (one.0 ∷ all.0)) all.1 refl),
        more_of raw raws one.0 all.0 (item_is raw one.0 one.1) all.2,
      )

  faulty_items : (before : List RawItem) (raw : RawItem) (after : List RawItem) (what : What) → All IsFine before → IsFaultOf raw what → each (item_of prefix) (before ++ raw ∷ after) ≡ Err what
  unfolding each
  faulty_items [] raw after what fine fault = stopped (item_of prefix raw) (later raw after) (Malformed what) (faulty_item raw what fault)
  faulty_items (first ∷ before) raw after what fine fault =
      let one = fine_item first (All-head IsFine first before fine) in
      went (item_of prefix first) (later first (before ++ raw ∷ after)) one.0 (Err what) one.1
      (stopped (each (item_of prefix) (before ++ raw ∷ after)) (λ items. Ok (one.0 ∷ items)) (Malformed what) (faulty_items before raw after what (All-tail IsFine first before fine) fault))

  -- ---- saves

  abbrev saved : List Item → Result Cmd What
  saved items = Ok (Save items 0)

  abbrev asked : List RawItem → Result Cmd What
  asked raws = followed (few (item_of prefix) raws) saved

  save_with : (bytes : List ℕ) (value : Value) (raws : List RawItem) (answer : Result Cmd What) → Ok raws ≡ list_in (item_in bytes) value → asked raws ≡ answer → save_in prefix bytes value ≡ answer
  save_with bytes value raws answer said is = went (list_in (item_in bytes) value) asked raws answer (sym said) is

  -- what a body of these items comes to
  body_with : (request : Request) (raws : List RawItem) (answer : Result Cmd What) → HasItems request raws → asked raws ≡ answer → BodyAsks (save_in prefix) request.body answer
  body_with request raws answer (bad at first is) all = err_ok _ _ _ (sym is)
  body_with request raws answer (deep at first is) all = err_ok _ _ _ (sym is)
  body_with request raws answer (text spot children rest tree clean is) all = text spot children rest tree clean (sym (save_with request.body (record { spot = spot; children = children }) raws answer is all))

  few_are : (raws : List RawItem) (answer : Result (List Item) What) → length raws ≤ 1024 → each (item_of prefix) raws ≡ answer → few (item_of prefix) raws ≡ answer
  few_are raws answer short is = held (nat_le (length raws) 1024) TooMany (each (item_of prefix) raws) answer (few_enough (length raws) short) is

  pub fine_save : (request : Request) (raws : List RawItem) → HasItems request raws → length raws ≤ 1024 → All IsFine raws → (items : List Item) × BodyAsks (save_in prefix) request.body (Ok (Save items 0)) × AreOf prefix raws items
  fine_save request raws has short fine =
      let all = fine_items raws fine in
      (all.0, body_with request raws (saved all.0) has (went (few (item_of prefix) raws) saved all.0 (saved all.0) (few_are raws (Ok all.0) short all.1) refl), all.2)

  pub faulty_save : (request : Request) (what : What) → IsFaultySave request what → BodyAsks (save_in prefix) request.body (Err what)
  faulty_save request what faulty =
      let first = faulty.first in
      let is = ap (each (item_of prefix)) first.split ∙ faulty_items first.before first.raw first.after what first.fine first.fault in
      body_with request faulty.raws (Err what) faulty.items (stopped (few (item_of prefix) faulty.raws) saved (Malformed what) (few_are faulty.raws (Err what) faulty.few is))

  pub long_save : (request : Request) (raws : List RawItem) → HasItems request raws → 1024 < length raws → BodyAsks (save_in prefix) request.body (Err TooMany)
  long_save request raws has long =
      body_with request raws (Err TooMany) has (stopped (few (item_of prefix) raws) saved (Malformed TooMany) (failed (nat_le (length raws) 1024) TooMany (each (item_of prefix) raws) (few_more (length raws) long)))
