-- What a save that is understood has.
use Rattle.std.proofs.Common.{◌≡◌, ◌≤◌, ◌++◌, ◌∷◌, ◌&&◌, ◌||◌, ◌==◌, ℕ, suc, Bool, true, false, not, cond, nat_le, List, [], length, refl, sym, ap, subst, ◌∙◌, arith}
use Rattle.std.specs.Prelude.{Result, Ok, Err, All, codes}
use Rattle.std.proofs.lemmas.Bool.Decides.{nat_tests}
use Rattle.std.proofs.lemmas.List.Elements.{All-cons}
use Rattle.state_core.specs.declared.command.Prefix.{Prefix}
use Rattle.state_core.specs.declared.command.Item.{Item}
use Rattle.state_core.specs.declared.command.Cmd.{Cmd}
use Rattle.state_core.specs.declared.command.Cmd.TheVariants.{Save}
use Rattle.state_api.specs.declared.what.What.{What}
use Rattle.state_api.specs.declared.what.What.TheVariants.{Key, TooMany}
use Rattle.state_api.specs.declared.raw.RawItem.{RawItem}
use Rattle.state_api.specs.Given.{followed, provided, each}
use Rattle.state_api.specs.Values.{Value}
use Rattle.state_api.specs.Words.{front_of, begins_with_bar, has_bars, is_key, stored_key, mode_of, ttl_of, etag_of}
use Rattle.state_api.specs.Raw.{item_in, list_in}
use Rattle.state_api.specs.Asked.{BodyAsks, bad, deep, text, item_of, few, save_in}
use Rattle.state_api.specs.Laws.{HasNoBars, IsKey, IsStored, AreKeyed}
use Rattle.state_api.proofs.Members.{false_true}
use Rattle.state_api.proofs.Following.{in_ok, all_none}
use Rattle.state_api.proofs.Wording.{both_true}

-- ---- what stands behind an answer

pub err_ok : {A : Type 0} (what : What) (a : A) (B : Type 0) → ◌≡◌ {A = Result A What} (Err what) (Ok a) → B
err_ok what a B h = absurd (let bad : ⊥ = cc in bad)

module _ {A B : Type 0} where
  pub followed_ok : (first : Result A What) (next : A → Result B What) (b : B) → followed first next ≡ Ok b → (a : A) × (first ≡ Ok a) × (next a ≡ Ok b)
  unfolding followed
  followed_ok (Ok a) next b h = (a, refl, h)
  followed_ok (Err what) next b h = err_ok what b _ h

pub provided_ok : {A : Type 0} (test : Bool) (what : What) (answer : Result A What) (a : A) → provided test what answer ≡ Ok a → (test ≡ true) × (answer ≡ Ok a)
unfolding provided
provided_ok true what answer a h = (refl, h)
provided_ok false what answer a h = err_ok what a _ h

-- as many as there were, and each is one that can be given
pub each_ok : {A B : Type 0} (one : A → Result B What) (P : B → Type 0) → ((x : A) (y : B) → one x ≡ Ok y → P y) → (xs : List A) (ys : List B) → each one xs ≡ Ok ys → (length ys ≡ length xs) × All P ys
unfolding each
each_ok one P holds [] ys h = subst (λ zs. (length zs ≡ 0) × All P zs) (in_ok [] ys h) (refl, all_none P)
each_ok one P holds (x ∷ xs) ys h =
    let head = followed_ok (one x) (λ y. followed (each one xs) (λ ys. Ok (y ∷ ys))) ys h in
    let tail = followed_ok (each one xs) (λ zs. Ok (head.0 ∷ zs)) ys head.2 in
    let later = each_ok one P holds xs tail.0 tail.1 in
    subst (λ zs. (length zs ≡ suc (length xs)) × All P zs) (in_ok (head.0 ∷ tail.0) ys tail.2) (ap suc later.0, All-cons P head.0 tail.0 (holds x head.0 head.1) later.1)

-- ---- keys

or_right : (a b : Bool) → b ≡ true → (a || b) ≡ true
or_right true b h = refl
or_right false b h = h

bars_found : (before after : List ℕ) → has_bars (before ++ codes "||" ++ after) ≡ true
bars_found [] after = refl
bars_found (byte ∷ before) after = or_right (byte == 124 && begins_with_bar (before ++ codes "||" ++ after)) (has_bars (before ++ codes "||" ++ after)) (bars_found before after)

pub not_of : (b : Bool) → not b ≡ true → b ≡ false
not_of true h = false_true _ h
not_of false h = refl

pub no_bars : (key : List ℕ) → has_bars key ≡ false → HasNoBars key
no_bars key none-found before after is = false_true ⊥ (sym none-found ∙ ap has_bars is ∙ bars_found before after)

pub le_of : (n m : ℕ) → nat_le n m ≡ true → n ≤ m
le_of n m h = grind (arith, nat_tests)

pub key_is : (key : List ℕ) → is_key key ≡ true → IsKey key
key_is key h =
    let both = both_true (nat_le 1 (length key) && nat_le (length key) 1024) (not (has_bars key)) h in
    let sizes = both_true (nat_le 1 (length key)) (nat_le (length key) 1024) both.0 in
    record { least = le_of 1 (length key) sizes.0; most = le_of (length key) 1024 sizes.1; no_bars = no_bars key (not_of (has_bars key) both.1) }

stored_by : (prefix : Prefix) (key stored : List ℕ) (b : Bool) → is_key key ≡ b → cond b (Ok (front_of prefix ++ key)) (Err Key) ≡ Ok stored → IsStored prefix stored
stored_by prefix key stored true is h = (key, key_is key is, sym (in_ok (front_of prefix ++ key) stored h))
stored_by prefix key stored false is h = err_ok Key stored _ h

stored_is : (prefix : Prefix) (key stored : List ℕ) → stored_key prefix key ≡ Ok stored → IsStored prefix stored
stored_is prefix key stored h = stored_by prefix key stored (is_key key) refl h

-- ---- items

module _ (prefix : Prefix) where
  item_stored : (raw : RawItem) (item : Item) → item_of prefix raw ≡ Ok item → IsStored prefix item.key
  item_stored raw item h =
      let key = followed_ok (stored_key prefix raw.key) (λ key.
      followed (mode_of raw.concurrency) (λ mode. followed (ttl_of raw.ttl) (λ ttl. Ok (record { key = key; value = raw.value; etag = etag_of raw.etag; mode = mode; ttl = ttl })))) item h in
      let mode = followed_ok (mode_of raw.concurrency) (λ mode.
      followed (ttl_of raw.ttl) (λ ttl. Ok (record { key = key.0; value = raw.value; etag = etag_of raw.etag; mode = mode; ttl = ttl }))) item key.2 in
      let ttl = followed_ok (ttl_of raw.ttl) (λ ttl. Ok (record { key = key.0; value = raw.value; etag = etag_of raw.etag; mode = mode.0; ttl = ttl })) item mode.2 in
      subst (λ (z : Item). IsStored prefix z.key) (in_ok _ item ttl.2) (stored_is prefix raw.key key.0 key.1)

  same_items : (one other : List Item) (now later : ℕ) → ◌≡◌ {A = Result Cmd What} (Ok (Save one now)) (Ok (Save other later)) → one ≡ other
  same_items one other now later h = cc

  save_keyed : (bytes : List ℕ) (value : Value) (items : List Item) → save_in prefix bytes value ≡ Ok (Save items 0) → AreKeyed prefix items
  save_keyed bytes value items h =
      let raws = followed_ok (list_in (item_in bytes) value) (λ raws. followed (few (item_of prefix) raws) (λ items. Ok (Save items 0))) (Save items 0) h in
      let asked = followed_ok (few (item_of prefix) raws.0) (λ items. Ok (Save items 0)) (Save items 0) raws.2 in
      let limit = provided_ok (nat_le (length raws.0) 1024) TooMany (each (item_of prefix) raws.0) asked.0 asked.1 in
      let all = each_ok (item_of prefix) (λ item. IsStored prefix item.key) item_stored raws.0 asked.0 limit.1 in
      subst (AreKeyed prefix) (same_items asked.0 items 0 0 asked.2) (record { few = subst (λ n. n ≤ 1024) (sym all.0) (le_of (length raws.0) 1024 limit.0); keys = all.1 })

  pub body_keyed : (body : List ℕ) (items : List Item) → BodyAsks (save_in prefix) body (Ok (Save items 0)) → AreKeyed prefix items
  body_keyed body items (bad at first is) = err_ok _ _ _ (sym is)
  body_keyed body items (deep at first is) = err_ok _ _ _ (sym is)
  body_keyed body items (text spot children later tree clean is) = save_keyed body (record { spot = spot; children = children }) items (sym is)
