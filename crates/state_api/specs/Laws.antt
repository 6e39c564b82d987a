-- What a save means, in terms of its items and their words, and how deep the values of a transaction are nested.
use Rattle.std.specs.Prelude.{◌≡◌, ◌≢◌, ◌≤◌, ◌⊎◌, ℕ, ◌+◌, List, [], ◌∷◌, ◌++◌, length, map, codes, decimal, Option, Some, None, Ok, Err, All}
use Rattle.side_base.specs.declared.message.Request.{Request}
use Rattle.api_routes.specs.declared.route.Route.TheVariants as route
use Rattle.state_core.specs.declared.command.Prefix.{Prefix}
use Rattle.state_core.specs.declared.command.Item.{Item}
use Rattle.state_core.specs.declared.command.Op.{Op}
use Rattle.state_core.specs.declared.command.Op.TheVariants.{Upsert, Remove}
use Rattle.state_core.specs.declared.command.Cmd.TheVariants.{Save, Transact}
use Rattle.json_text.specs.Kind.{Kind}
use Rattle.json_text.specs.Forest.{Forest, one}
use Rattle.json_text.specs.Grammar.{IsText}
use Rattle.json_text.specs.Faults.{IsClean}
use Rattle.json_text.specs.Shape.{is_holder, levels, nesting}
use Rattle.state_api.specs.declared.what.What.{What}
use Rattle.state_api.specs.declared.what.What.TheVariants.{Json, Shape, Key, Concurrency, Operation, TooMany, Ttl}
use Rattle.state_api.specs.declared.raw.RawItem.{RawItem}
use Rattle.state_api.specs.Words.{front_of}
use Rattle.state_api.specs.Raw.{item_in, list_in}
use Rattle.state_api.specs.Asked.{Asks, BodyAsks}

-- ---- keys

-- two bars stand in a row nowhere
abbrev pub HasNoBars : List ℕ → Type 0
HasNoBars key = (before after : List ℕ) → key ≢ before ++ codes "||" ++ after

-- a key has 1 to 1,024 bytes, and no two bars in a row
pub record IsKey (key : List ℕ) : Type 0 where
  pub least : 1 ≤ length key
  pub most : length key ≤ 1024
  pub no_bars : HasNoBars key

-- it is stored behind the bytes that the prefix puts before it
abbrev pub IsStored : Prefix → List ℕ → Type 0
IsStored prefix stored = (key : List ℕ) × IsKey key × (stored ≡ front_of prefix ++ key)

-- ---- other words

-- a concurrency that an item may have
abbrev pub IsConcurrency : Option (List ℕ) → Type 0
IsConcurrency None = Unit {0}
IsConcurrency (Some word) = (word ≡ codes "first-write") ⊎ ((word ≡ codes "last-write") ⊎ ((word ≡ []) ⊎ (word ≡ codes "unspecified")))

-- a number of seconds, in decimal digits
abbrev pub IsSeconds : List ℕ → Type 0
IsSeconds text = (seconds : ℕ) × (1 ≤ seconds) × (seconds ≤ 4294967295) × (text ≡ decimal seconds)

-- a time to live that an item may have
abbrev pub IsTtlText : Option (List ℕ) → Type 0
IsTtlText None = Unit {0}
IsTtlText (Some text) = (text ≡ codes "-1") ⊎ IsSeconds text

-- ---- faults

-- nothing is wrong with an item's words
pub record IsFine (raw : RawItem) : Type 0 where
  pub key : IsKey raw.key
  pub concurrency : IsConcurrency raw.concurrency
  pub ttl : IsTtlText raw.ttl

-- what is wrong with them: the key is looked at first, then the concurrency, then the time to live
abbrev pub IsFaultOf : RawItem → What → Type 0
IsFaultOf raw (Json at) = ⊥
IsFaultOf raw Shape = ⊥
IsFaultOf raw Key = ¬ IsKey raw.key
IsFaultOf raw Concurrency = IsKey raw.key × (¬ IsConcurrency raw.concurrency)
IsFaultOf raw Operation = ⊥
IsFaultOf raw TooMany = ⊥
IsFaultOf raw Ttl = IsKey raw.key × IsConcurrency raw.concurrency × (¬ IsTtlText raw.ttl)

-- it is the fault of the first item that has one
pub record IsFirstFault (raws : List RawItem) (what : What) : Type 0 where
  pub before : List RawItem
  pub raw : RawItem
  pub after : List RawItem
  pub split : raws ≡ before ++ raw ∷ after
  pub fine : All IsFine before
  pub fault : IsFaultOf raw what

-- ---- saves

-- the body is a list of these items, whatever their words
abbrev pub HasItems : Request → List RawItem → Type 0
HasItems request raws = BodyAsks (λ bytes value. list_in (item_in bytes) value) request.body (Ok raws)

-- a save with these items is malformed only in their words, and in this way
pub record IsFaultySave (request : Request) (what : What) : Type 0 where
  pub raws : List RawItem
  pub items : HasItems request raws
  pub few : length raws ≤ 1024
  pub first : IsFirstFault raws what

-- the request is malformed as a save
abbrev pub RefusesSave : Prefix → Request → List ℕ → What → Type 0
RefusesSave prefix request store what = Asks prefix request (route.Save store) (Err what)

-- a fault of an item's words
abbrev pub IsOfWords : What → Type 0
IsOfWords (Json at) = ⊥
IsOfWords Shape = ⊥
IsOfWords Key = Unit {0}
IsOfWords Concurrency = Unit {0}
IsOfWords Operation = ⊥
IsOfWords TooMany = ⊥
IsOfWords Ttl = Unit {0}

-- the request means a save of these items
abbrev pub AsksSave : Prefix → Request → List ℕ → List Item → Type 0
AsksSave prefix request store items = Asks prefix request (route.Save store) (Ok (Save items 0))

-- there are at most 1,024, and each is stored under a key
pub record AreKeyed (prefix : Prefix) (items : List Item) : Type 0 where
  pub few : length items ≤ 1024
  pub keys : All (λ item. IsStored prefix item.key) items

-- these are the items of a save, in their order: each under its key behind what the prefix puts before it, with its value
pub record AreOf (prefix : Prefix) (raws : List RawItem) (items : List Item) : Type 0 where
  pub keys : map (λ (item : Item). item.key) items ≡ map (λ (raw : RawItem). front_of prefix ++ raw.key) raws
  pub values : map (λ (item : Item). item.value) items ≡ map (λ (raw : RawItem). raw.value) raws

-- where a request has these items, at most 1,024 and with nothing wrong in the words of any, it means a save of such items, in their order
abbrev pub SavesFineItems : Prefix → Request → List ℕ → List RawItem → Type 0
SavesFineItems prefix request store raws =
    HasItems request raws → length raws ≤ 1024 → All IsFine raws → (items : List Item) × AsksSave prefix request store items × AreOf prefix raws items

-- ---- transactions

-- the value is a JSON text in which nothing is wrong, without white space round it, and in which at most so many lists and maps stand within one another
pub record IsNested (most : ℕ) (value : List ℕ) : Type 0 where
  pub kind : Kind
  pub children : Forest
  pub text : IsText value (one (record { kind = kind; span = record { start = 0; end = length value }; name = None }) children)
  pub clean : IsClean value (length value + 1)
  pub low : levels (is_holder kind) (nesting children) ≤ most

-- of an operation that has a value
abbrev pub IsNestedOp : ℕ → Op → Type 0
IsNestedOp most (Upsert item) = IsNested most item.value
IsNestedOp most (Remove key etag mode) = Unit {0}

-- the request means a transaction of these operations
abbrev pub AsksTransaction : Prefix → Request → List ℕ → List Op → Type 0
AsksTransaction prefix request store ops = Asks prefix request (route.Transact store) (Ok (Transact ops 0))
