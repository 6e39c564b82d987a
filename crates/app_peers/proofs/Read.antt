-- The list that is read so far.
use Rattle.std.proofs.Common.{get_or, take, not, Bool, true, false, true≢false, IsTrue, ◌↔◌, Result, Err, ◌≡◌, ◌≢◌, ◌≤◌, ◌<◌, ℕ, List, [], ◌∷◌, ◌++◌, length, All, AllPairs, Option, Some, None, Bor, refl, sym, ap, subst, ◌∙◌, arith, append_assoc, append-nil, length-append}
use Rattle.std.specs.Prelude.{option_copied}
use Rattle.std.specs.List.{AllZip, slice_split}
use Rattle.std.proofs.lemmas.Grind.{common_steps}
use Rattle.std.specs.Str.{bytes_eq}
use Rattle.std.proofs.lemmas.Slice.Eq.{bytes_eq-Decides}
use Rattle.std.proofs.lemmas.List.{take_all}
use Rattle.std.proofs.lemmas.List.Elements.{All-push}
use Rattle.std.proofs.lemmas.List.Quantifiers.{all_pairs_push}
use Rattle.app_peers.specs.declared.peer.Peer.{Peer}
use Rattle.app_peers.specs.Parts.{IsNew}
use Rattle.app_peers.specs.Peers.{IsPeers, Writes, is_comma, items_behind}
use Rattle.app_peers.proofs.Cuts.{writes_once}

-- these apps are those of the first items of the text, and what is left are the others; and every list of apps that the text lists begins with them
pub record ReadSoFar (own text : List ℕ) (peers : List Peer) (rest : Option (List ℕ)) : Type 0 where
  pub items : (more : List Peer) → AllZip Writes (items_behind rest) more → AllZip Writes (slice_split is_comma text) (peers ++ more)
  pub few : length peers ≤ 256
  pub others : All (λ (peer : Peer). peer.id ≢ own) peers
  pub once : AllPairs (λ (one other : Peer). one.id ≢ other.id) peers
  pub first : (all : List Peer) → IsPeers own text all → (more : List Peer) × (all ≡ peers ++ more) × AllZip Writes (items_behind rest) more

module _ (own text : List ℕ) where
  pub begun : ReadSoFar own text [] (Some text)
  begun = record {
    items = λ more zip. zip;
    few = omega arith;
    others = λ k d inside. absurd (omega arith);
    once = λ i j d below inside. absurd (omega arith);
    first = λ all is. (all, refl, is.items);
  }

  pub ended : (peers : List Peer) → ReadSoFar own text peers None → IsPeers own text peers
  ended peers so = record { items = subst (AllZip Writes (slice_split is_comma text)) (append-nil peers) (so.items [] tt); few = so.few; others = so.others; once = so.once }

  pub only : (peers all : List Peer) → ReadSoFar own text peers None → IsPeers own text all → peers ≡ all
  only peers all so is = let f = so.first all is in sym (f.1 ∙ ap (λ (l : List Peer). peers ++ l) (none_left f.0 f.2) ∙ append-nil peers)
    where
      none_left : (more : List Peer) → AllZip Writes [] more → more ≡ []
      none_left [] zip = refl
      none_left (x ∷ more) zip = absurd zip

  module _ (peers : List Peer) (left item : List ℕ) (behind : Option (List ℕ)) (cut : slice_split is_comma left ≡ item ∷ items_behind behind) (so : ReadSoFar own text peers (Some left)) where
    -- a list that the text lists has this item's app next
    pub next : (all : List Peer) → IsPeers own text all → (peer : Peer) × (more : List Peer) × (all ≡ peers ++ peer ∷ more) × Writes item peer × AllZip Writes (items_behind behind) more
    next all is = let f = so.first all is in by f.0 f.1 (subst (λ (l : List (List ℕ)). AllZip Writes l f.0) cut f.2)
      where
        by : (more : List Peer) → all ≡ peers ++ more → AllZip Writes (item ∷ items_behind behind) more → (peer : Peer) × (more : List Peer) × (all ≡ peers ++ peer ∷ more) × Writes item peer × AllZip Writes (items_behind behind) more
        by [] same zip = absurd zip
        by (peer ∷ more) same zip = (peer, more, same, zip.0, zip.1)

    pub is_new : (all : List Peer) (peer : Peer) (more : List Peer) → IsPeers own text all → all ≡ peers ++ peer ∷ more → IsNew own peers peer.id
    is_new all peer more is same =
        let is' = subst (IsPeers own text) same is in
        let inside : length peers < length (peers ++ peer ∷ more) = omega (arith, length-append peers (peer ∷ more)) in
        let there : (d : Peer) → get_or (peers ++ peer ∷ more) (length peers) d ≡ peer = λ d. grind (arith, common_steps) in record {
          other = λ e. is'.others (length peers) peer inside (ap (λ (p : Peer). p.id) (there peer) ∙ e);
          once = λ k d within e. let one : get_or (peers ++ peer ∷ more) k d ≡ get_or peers k d = grind (arith, common_steps) in
              is'.once k (length peers) d within inside (ap (λ (p : Peer). p.id) one ∙ e ∙ ap (λ (p : Peer). p.id) (sym (there d)));
        }

    -- no such list has an item more
    pub too_many : length peers ≡ 256 → (all : List Peer) → IsPeers own text all → ⊥
    too_many full all is = let n = next all is in omega (arith, full, is.few, ap length n.2, length-append peers (n.0 ∷ n.1))

    -- nor one that writes no new app
    pub none_new : ((peer : Peer) → Writes item peer → ¬ IsNew own peers peer.id) → (all : List Peer) → IsPeers own text all → ⊥
    none_new none all is = let n = next all is in none n.0 n.3 (is_new all n.0 n.1 is n.2)

    -- one more was read
    pub further : length peers < 256 → (peer : Peer) → Writes item peer → IsNew own peers peer.id → ReadSoFar own text (peers ++ peer ∷ []) behind
    further room peer writes new = record {
      items = λ more zip. subst (AllZip Writes (slice_split is_comma text)) (sym (append_assoc peers (peer ∷ []) more)) (so.items (peer ∷ more) (subst (λ (l : List (List ℕ)). AllZip Writes l (peer ∷ more)) (sym cut) (writes, zip)));
      few = omega (arith, room, length-append peers (peer ∷ []));
      others = All-push (λ (p : Peer). p.id ≢ own) peers peer so.others new.other;
      once = all_pairs_push (λ (one other : Peer). one.id ≢ other.id) peers peer so.once (λ k d within. new.once k d within);
      first = λ all is. let n = next all is in (n.1, n.2 ∙ ap (λ (p : Peer). peers ++ p ∷ n.1) (writes_once item n.0 peer n.3 writes) ∙ sym (append_assoc peers (peer ∷ []) n.1), n.4);
    }

-- nothing is left
pub at_end : (own text : List ℕ) (peers : List Peer) (rest : Option (Bor (List ℕ))) → ((left : Bor (List ℕ)) → rest ≡ Some left → ⊥) → ReadSoFar own text peers (option_copied rest) → ReadSoFar own text peers None
at_end own text peers None none so = so
at_end own text peers (Some left) none so = absurd (none left refl)

-- none of all has the id
pub new_by : (own : List ℕ) (peers : List Peer) (id : List ℕ) (i : ℕ) (differs : Bool) → length peers ≤ i → All (λ (one : Peer). one.id ≢ id) (take i peers) → differs ≡ not (bytes_eq id own) → IsTrue differs ↔ IsNew own peers id
new_by own peers id i differs far none is = (λ t. record { other = λ same. true≢false (sym t ∙ is ∙ ap not ((bytes_eq-Decides id own).1 same)); once = all }, λ new. is ∙ ap not (apart (bytes_eq id own) refl new))
  where
    all : All (λ (one : Peer). one.id ≢ id) peers
    all = subst (All (λ (one : Peer). one.id ≢ id)) (take_all i peers far) none

    apart : (b : Bool) → bytes_eq id own ≡ b → IsNew own peers id → bytes_eq id own ≡ false
    apart false is' new = is'
    apart true is' new = absurd (new.other ((bytes_eq-Decides id own).0 is'))

-- an error of one result is that of another
pub same_error : {T U E : Type 0} (error is : E) (one one' : Result T E) (other other' : Result U E) → one ≡ Err error → one' ≡ Err is → one ≡ one' → other ≡ Err error → other' ≡ Err is → other ≡ other'
same_error error is one one' other other' a b same c d = let e : error ≡ is = cc in c ∙ ap Err e ∙ sym d
