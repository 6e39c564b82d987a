-- What a book has after one more pair.
use Rattle.std.proofs.Common.{◌≡◌, ℕ, Bool, true, false, cond, List, [], ◌∷◌, fold, Option, Some, refl, sym, ap, ◌∙◌}
use Rattle.std.specs.Str.{bytes_eq}
use Rattle.std.specs.Ordering.{nat_cmp, is_eq}
use Rattle.std.specs.declared.cmp.Ordering.{Ordering}
use Rattle.std.specs.declared.cmp.Ordering.TheVariants.{Less, Equal, Greater}
use Rattle.std.specs.Cmp.Lexicographic.{slice_cmp}
use Rattle.std.specs.Ordering.{ordering_reverse}
use Rattle.std.specs.FinMap.{nat_cmp-IsAntisymmetric, slice_cmp-IsAntisymmetric}
use Rattle.std.proofs.lemmas.Cmp.{nat_list_cmp_total}
use Rattle.std.proofs.lemmas.Map.Text.{is_eq-slice_cmp}
use Rattle.std.proofs.lemmas.Slice.Eq.{bytes_eq-Decides}
use Rattle.meta_api.specs.declared.command.Pair.{Pair}
use Rattle.meta_api.specs.declared.command.NotesCmd.{NotesCmd}
use Rattle.meta_api.specs.declared.command.NotesCmd.TheVariants.{Put, List as list}
use Rattle.meta_api.specs.declared.command.NotesReply.{NotesReply}
use Rattle.meta_api.specs.declared.command.NotesReply.TheVariants.{Noted, Full, Listed, NoMemory}
use Rattle.meta_api.specs.Book.{placed, put}
use Rattle.meta_api.specs.History.{Step, after_cmd, after_entry}
use Rattle.meta_api.specs.Laws.{value_in, value_by, Rise}

-- ---- names rise

other_head : (first pair : Pair) (rest : List Pair) → pair.name ≡ first.name → Rise (first ∷ rest) → Rise (pair ∷ rest)
other_head first pair [] e h = tt
other_head first pair (next ∷ rest) e h = (ap (λ n. slice_cmp nat_cmp n next.name) e ∙ h.0, h.1)

head_by : (first pair second : Pair) (more : List Pair) (o : Ordering) → slice_cmp nat_cmp first.name pair.name ≡ Less → slice_cmp nat_cmp first.name second.name ≡ Less → Rise (placed o pair second more (put pair more)) → Rise (first ∷ placed o pair second more (put pair more))
head_by first pair second more Less lt before h = (lt, h)
head_by first pair second more Equal lt before h = (lt, h)
head_by first pair second more Greater lt before h = (before, h)

head_below : (first pair : Pair) (rest : List Pair) → slice_cmp nat_cmp first.name pair.name ≡ Less → Rise (first ∷ rest) → Rise (put pair rest) → Rise (first ∷ put pair rest)
head_below first pair [] lt h rise = (lt, tt)
head_below first pair (second ∷ more) lt h rise = head_by first pair second more (slice_cmp nat_cmp pair.name second.name) lt h.0 rise

tail_rises : (first : Pair) (rest : List Pair) → Rise (first ∷ rest) → Rise rest
tail_rises first [] h = tt
tail_rises first (next ∷ rest) h = h.1

rise_by : (pair first : Pair) (rest : List Pair) (o : Ordering) → slice_cmp nat_cmp pair.name first.name ≡ o → Rise (first ∷ rest) → Rise (put pair rest) → Rise (placed o pair first rest (put pair rest))
rise_by pair first rest Less e h later = (e, h)
rise_by pair first rest Equal e h later = other_head first pair rest (slice_cmp-IsAntisymmetric nat_cmp-IsAntisymmetric pair.name first.name e) h
rise_by pair first rest Greater e h later = head_below first pair rest (nat_list_cmp_total.antisymm first.name pair.name ∙ ap ordering_reverse e) h later

rise_put : (pair : Pair) (book : List Pair) → Rise book → Rise (put pair book)
rise_put pair [] h = tt
rise_put pair (first ∷ rest) h = rise_by pair first rest (slice_cmp nat_cmp pair.name first.name) refl h (rise_put pair rest (tail_rises first rest h))

rise_cmd : (book : List Pair) (cmd : NotesCmd) (reply : NotesReply) → Rise book → Rise (after_cmd book cmd reply)
rise_cmd book (Put name value) Noted h = rise_put (record { name = name; value = value }) book h
rise_cmd book (Put name value) (Full names bytes) h = h
rise_cmd book (Put name value) (Listed pairs) h = h
rise_cmd book (Put name value) NoMemory h = h
rise_cmd book list reply h = h

pub rise_after : (history : List Step) (book : List Pair) → Rise book → Rise (fold after_entry book history)
rise_after [] book h = h
rise_after (entry ∷ history) book h = rise_after history (after_entry book entry) (rise_cmd book entry.cmd entry.reply h)

-- ---- values

twice : (b : Bool) (x y z : Option (List ℕ)) → cond b x z ≡ cond b x (cond b y z)
twice true x y z = refl
twice false x y z = refl

turned : (b c : Bool) (x y z : Option (List ℕ)) → (b ≡ true → c ≡ true → ⊥) → cond c y (cond b x z) ≡ cond b x (cond c y z)
turned true true x y z h = absurd (h refl refl)
turned true false x y z h = refl
turned false true x y z h = refl
turned false false x y z h = refl

apart : (pair first : Pair) (name : List ℕ) → slice_cmp nat_cmp pair.name first.name ≡ Greater → bytes_eq pair.name name ≡ true → bytes_eq first.name name ≡ true → ⊥
apart pair first name e p q =
    let same : pair.name ≡ first.name = (bytes_eq-Decides pair.name name).0 p ∙ sym ((bytes_eq-Decides first.name name).0 q) in
    let yes : bytes_eq pair.name first.name ≡ true = (bytes_eq-Decides pair.name first.name).1 same in
    let no : bytes_eq pair.name first.name ≡ false = sym (is_eq-slice_cmp pair.name first.name) ∙ ap is_eq e in
    let bad : ⊥ = cc in bad

value_first : (name : List ℕ) (pair first : Pair) (rest : List Pair) (o : Ordering) → slice_cmp nat_cmp pair.name first.name ≡ o → value_in name (put pair rest) ≡ cond (bytes_eq pair.name name) (Some pair.value) (value_in name rest)
    → value_in name (placed o pair first rest (put pair rest)) ≡ cond (bytes_eq pair.name name) (Some pair.value) (value_in name (first ∷ rest))
value_first name pair first rest Less e later = refl
value_first name pair first rest Equal e later =
    let same : pair.name ≡ first.name = slice_cmp-IsAntisymmetric nat_cmp-IsAntisymmetric pair.name first.name e in
    twice (bytes_eq pair.name name) (Some pair.value) (Some first.value) (value_in name rest)
    ∙ ap (λ n. cond (bytes_eq pair.name name) (Some pair.value) (cond (bytes_eq n name) (Some first.value) (value_in name rest))) same
value_first name pair first rest Greater e later =
    ap (cond (bytes_eq first.name name) (Some first.value)) later
    ∙ turned (bytes_eq pair.name name) (bytes_eq first.name name) (Some pair.value) (Some first.value) (value_in name rest) (apart pair first name e)

value_put : (name : List ℕ) (pair : Pair) (book : List Pair) → value_in name (put pair book) ≡ cond (bytes_eq pair.name name) (Some pair.value) (value_in name book)
value_put name pair [] = refl
value_put name pair (first ∷ rest) = value_first name pair first rest (slice_cmp nat_cmp pair.name first.name) refl (value_put name pair rest)

value_cmd : (name : List ℕ) (book : List Pair) (before : Option (List ℕ)) (cmd : NotesCmd) (reply : NotesReply) → value_in name book ≡ before → value_in name (after_cmd book cmd reply) ≡ value_by name before cmd reply
value_cmd name book before (Put other value) Noted e = value_put name (record { name = other; value = value }) book ∙ ap (cond (bytes_eq other name) (Some value)) e
value_cmd name book before (Put other value) (Full names bytes) e = e
value_cmd name book before (Put other value) (Listed pairs) e = e
value_cmd name book before (Put other value) NoMemory e = e
value_cmd name book before list reply e = e

pub value_after : (history : List Step) (name : List ℕ) (book : List Pair) (before : Option (List ℕ)) → value_in name book ≡ before → value_in name (fold after_entry book history) ≡ fold (λ before (entry : Step). value_by name before entry.cmd entry.reply) before history
value_after [] name book before e = e
value_after (entry ∷ history) name book before e = value_after history name (after_entry book entry) (value_by name before entry.cmd entry.reply) (value_cmd name book before entry.cmd entry.reply e)
