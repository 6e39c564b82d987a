-- Texts that are cut at the first of a mark, and what an item writes.
use Rattle.std.proofs.Common.{◌≡◌, ℕ, ◌==◌, Bool, true, false, List, [], ◌∷◌, ◌++◌, IsTrue, IfNone, Option, Some, None, refl, sym, ap, subst, ◌∙◌, arith, true≢false}
use Rattle.std.proofs.lemmas.List.Elements.{All-head, All-tail, All-weaker}
use Rattle.std.proofs.lemmas.Bool.Decides.{nat_tests}
use Rattle.std.specs.Str.Parse.{digits_value}
use Rattle.app_peers.specs.declared.peer.Peer.{Peer}
use Rattle.app_peers.specs.Parts.{Lacks, WritesPlace}
use Rattle.app_peers.specs.Peers.{IsId, IsHost, Writes, is_id_byte, is_host_byte}

-- there is one such cut
pub cut_once : (mark : ℕ) (a b x y : List ℕ) → Lacks mark a → Lacks mark b → a ++ mark ∷ x ≡ b ++ mark ∷ y → (a ≡ b) × (x ≡ y)
cut_once mark [] [] x y la lb is = (refl, cc)
cut_once mark [] (v ∷ b) x y la lb is = let first : v ≡ mark = cc in absurd (grind (arith, nat_tests, All-head (λ byte. (byte == mark) ≡ false) v b lb))
cut_once mark (v ∷ a) [] x y la lb is = let first : v ≡ mark = cc in absurd (grind (arith, nat_tests, All-head (λ byte. (byte == mark) ≡ false) v a la))
cut_once mark (v ∷ a) (w ∷ b) x y la lb is =
    let first : v ≡ w = cc in
    let rest = cut_once mark a b x y (All-tail (λ byte. (byte == mark) ≡ false) v a la) (All-tail (λ byte. (byte == mark) ≡ false) w b lb) (cc) in
    (cc, rest.1)

-- an id has no `=`, and a host no `:`
id_lacks : (b : ℕ) → IsTrue (is_id_byte b) → (b == 61) ≡ false
id_lacks b is = by (b == 61) refl
  where
    by : (t : Bool) → (b == 61) ≡ t → (b == 61) ≡ false
    by false isnt = isnt
    by true is-so = let same : b ≡ 61 = grind (arith, nat_tests) in absurd (true≢false (sym (subst (λ (n : ℕ). IsTrue (is_id_byte n)) same is)))

host_lacks : (b : ℕ) → IsTrue (is_host_byte b) → (b == 58) ≡ false
host_lacks b is = by (b == 58) refl
  where
    by : (t : Bool) → (b == 58) ≡ t → (b == 58) ≡ false
    by false isnt = isnt
    by true is-so = let same : b ≡ 58 = grind (arith, nat_tests) in absurd (true≢false (sym (subst (λ (n : ℕ). IsTrue (is_host_byte n)) same is)))

pub id_is_cut : (id : List ℕ) → IsId id → Lacks 61 id
id_is_cut id is = All-weaker (λ byte. IsTrue (is_id_byte byte)) (λ byte. (byte == 61) ≡ false) id_lacks id is.each

pub host_is_cut : (host : List ℕ) → IsHost host → Lacks 58 host
host_is_cut host is = All-weaker (λ byte. IsTrue (is_host_byte byte)) (λ byte. (byte == 58) ≡ false) host_lacks host is.each

pub no_mark : (mark : ℕ) (text a b : List ℕ) → Lacks mark text → text ≡ a ++ mark ∷ b → ⊥
no_mark mark text [] b lacks is = absurd (grind (arith, nat_tests, All-head (λ byte. (byte == mark) ≡ false) mark b (subst (Lacks mark) is lacks)))
no_mark mark text (v ∷ a) b lacks is = no_mark mark (a ++ mark ∷ b) a b (All-tail (λ byte. (byte == mark) ≡ false) v (a ++ mark ∷ b) (subst (Lacks mark) is lacks)) refl

-- what a whole item writes
pub writes_place : (item front back : List ℕ) (peer : Peer) → item ≡ front ++ 61 ∷ back → Lacks 61 front → (w : Writes item peer) → (front ≡ peer.id) × WritesPlace back peer.host w.digits peer.port
writes_place item front back peer whole lacks w =
    let same = cut_once 61 front peer.id back (peer.host ++ 58 ∷ w.digits) lacks (id_is_cut peer.id w.id) (sym whole ∙ w.form) in
    (same.0, record { form = same.1; host_is = w.host; port_is = w.port })

pub same_place : (place front back host digits : List ℕ) (port : ℕ) → place ≡ front ++ 58 ∷ back → Lacks 58 front → WritesPlace place host digits port → (front ≡ host) × (back ≡ digits)
same_place place front back host digits port whole lacks w = cut_once 58 front host back digits lacks (host_is_cut host w.host_is) (sym whole ∙ w.form)

pub if_none : {A : Type 0} (result : Option A) (P Q : Type 0) → (P → Q) → IfNone result P → IfNone result Q
if_none None P Q then is = then is
if_none (Some x) P Q then is = is

abbrev pub the_peer : List ℕ → List ℕ → ℕ → Peer
the_peer id host port = record { id = id; host = host; port = port }

-- an item writes one app
pub writes_once : (item : List ℕ) (one other : Peer) → Writes item one → Writes item other → one ≡ other
writes_once item one other w v =
    let ids = writes_place item one.id (one.host ++ 58 ∷ w.digits) other w.form (id_is_cut one.id w.id) v in
    let places = same_place (one.host ++ 58 ∷ w.digits) one.host w.digits other.host v.digits other.port refl (host_is_cut one.host w.host) ids.1 in
    let ports : one.port ≡ other.port = w.port.value ∙ ap (digits_value 10) places.1 ∙ sym v.port.value in
    same one.id other.id one.host other.host one.port other.port ids.0 places.0 ports
  where
    same : (id id' host host' : List ℕ) (port port' : ℕ) → id ≡ id' → host ≡ host' → port ≡ port' → the_peer id host port ≡ the_peer id' host' port'
    same id id' host host' port port' a b c = ap (λ (z : List ℕ). the_peer z host port) a ∙ ap (λ (z : List ℕ). the_peer id' z port) b ∙ ap (λ (z : ℕ). the_peer id' host' z) c
