use Rattle.std.proofs.Common.{◌≡◌, ◌-◌, ◌^◌, ℕ, List, [], ◌∷◌, Some, None, is_some, arith, refl, rules, IsTrue, sym, ap, subst, inl, inr, codes, true≢false}
use Rattle.sidecar_words.specs.Spelling.{Pair, IsOnce, Spells, options, flags}
use Rattle.sidecar_words.specs.Meaning.{Gives, Means, options_of}
use Rattle.sidecar_words.specs.Value.{IsAppId, IsCount, IsNumber, is_app_id_byte}
use Rattle.sidecar_words.specs.declared.given.Words.{Words}
use Rattle.sidecar_words.proofs.OneMeaning.{one_spelling}
use Rattle.sidecar_words.proofs.Parsing.{all_cons}
use Rattle.sidecar_words.proofs.Settling.{once_more}
use Rattle.sidecar_words.proofs.laws.words_of_examples.Goals as goal

none_once : IsOnce []
none_once = λ i j d lt within. absurd (omega arith)

abbrev app : List ℕ → Pair
app id = (codes "app-id", Some id)

abbrev stdio : Pair
stdio = (codes "stdio", None)

abbrev check : Pair
check = (codes "check", None)

spells_stdio : Spells options flags (codes "--stdio" ∷ []) (stdio ∷ [])
spells_stdio = (codes "--stdio" ∷ [], [], refl, ((0, omega arith, refl), refl), refl)

spells_check : Spells options flags (codes "--check" ∷ []) (check ∷ [])
spells_check = (codes "--check" ∷ [], [], refl, ((1, omega arith, refl), refl), refl)

spells_app : (words : List (List ℕ)) (pairs : List Pair) → Spells options flags words pairs → Spells options flags (codes "--app-id" ∷ codes "a" ∷ words) (app (codes "a") ∷ pairs)
spells_app words pairs spelled = (codes "--app-id" ∷ codes "a" ∷ [], words, refl, ((0, omega arith, refl), inr (refl, refl)), spelled)

a_is_id : IsAppId (codes "a")
a_is_id = record { some = omega arith; few = omega arith; each = all_cons (λ byte. IsTrue (is_app_id_byte byte)) 97 [] refl (λ k d lt. absurd (omega arith)) }

dashes_are_id : IsAppId (codes "--b")
dashes_are_id = record {
  some = omega arith;
  few = omega arith;
  each = let P = λ (byte : ℕ). IsTrue (is_app_id_byte byte) in
      all_cons P 45 (45 ∷ 98 ∷ []) refl (all_cons P 45 (98 ∷ []) refl (all_cons P 98 [] refl (λ k d lt. absurd (omega arith))));
}

sixty_four : IsNumber 64 (codes "64") 64
sixty_four = record {
  digits = (omega arith, (omega arith, tt));
  no_zero = λ rest e. let bad : 54 ≡ 48 = ap (λ text. first_in text) e in absurd (omega arith);
  value = refl;
  least = omega arith;
  limit = omega arith;
}
  where
    first_in : List ℕ → ℕ
    first_in [] = 0
    first_in (byte ∷ rest) = byte

five : IsCount (2 ^ 64 - 1) (codes "05") 5
five = record { some = omega arith; digits = (omega arith, (omega arith, tt)); value = refl; limit = omega arith }

thousand : IsCount 99999 (codes "1000") 1000
thousand = record { some = omega arith; digits = (omega arith, (omega arith, (omega arith, (omega arith, tt)))); value = refl; limit = omega arith }

none_some : {X : Type 0} (x : X) → None ≡ Some x → ⊥
none_some x e = true≢false (sym (ap (λ o. is_some o) e))

-- what the pairs that words are known to spell come to is what the words mean
module _ (words : List (List ℕ)) (known : List Pair) (spells : Spells options flags words known) (given : Words) (means : Means words given) where
  same : means.0 ≡ known
  same = one_spelling means.0 known words means.1 spells

  known_once : IsOnce known
  known_once = subst IsOnce same means.2

  known_gives : Gives (options_of known) given
  known_gives = subst (λ ps. Gives (options_of ps) given) same means.3

pub returns : goal.returns
returns c = record {
  stdio = (
    app (codes "a") ∷ stdio ∷ [],
    spells_app (codes "--stdio" ∷ []) (stdio ∷ []) spells_stdio,
    once_more (app (codes "a") ∷ []) stdio (once_more [] (app (codes "a")) none_once refl) refl,
    record {
      app_is = refl;
      app_form = a_is_id;
      resources_are = refl;
      resources_filled = tt;
      port_is = refl;
      app_port_is = refl;
      workers_are = refl;
      peers_are = refl;
      mode_is = refl;
      folder = λ e. search rules;
    },
  );
  serving = (
    (codes "workers", Some (codes "64")) ∷ app (codes "--b") ∷ [],
    (codes "--workers=64" ∷ [], codes "--app-id=--b" ∷ [], refl, ((4, omega arith, refl), inl refl), (codes "--app-id=--b" ∷ [], [], refl, ((0, omega arith, refl), inl refl), refl)),
    once_more ((codes "workers", Some (codes "64")) ∷ []) (app (codes "--b")) (once_more [] (codes "workers", Some (codes "64")) none_once refl) refl,
    record {
      app_is = refl;
      app_form = dashes_are_id;
      resources_are = refl;
      resources_filled = tt;
      port_is = refl;
      app_port_is = refl;
      workers_are = sixty_four;
      peers_are = refl;
      mode_is = refl;
      folder = λ e. search rules;
    },
  );
  drill = (
    app (codes "a") ∷ (codes "drill", Some (codes "05,1000")) ∷ [],
    spells_app (codes "--drill" ∷ codes "05,1000" ∷ []) ((codes "drill", Some (codes "05,1000")) ∷ [])
        (codes "--drill" ∷ codes "05,1000" ∷ [], [], refl, ((6, omega arith, refl), inr (refl, refl)), refl),
    once_more (app (codes "a") ∷ []) (codes "drill", Some (codes "05,1000")) (once_more [] (app (codes "a")) none_once refl) refl,
    record {
      app_is = refl;
      app_form = a_is_id;
      resources_are = refl;
      resources_filled = tt;
      port_is = refl;
      app_port_is = refl;
      workers_are = refl;
      peers_are = refl;
      mode_is = record { first = codes "05"; second = codes "1000"; form = refl; numbers = (five, thousand) };
      folder = λ e. search rules;
    },
  );
  no_app = λ given means. none_some given.app (known_gives (codes "--stdio" ∷ []) (stdio ∷ []) spells_stdio given means).app_is;
  twice = λ given means. known_once (codes "--app-id" ∷ codes "a" ∷ codes "--app-id" ∷ codes "b" ∷ []) (app (codes "a") ∷ app (codes "b") ∷ [])
      (spells_app (codes "--app-id" ∷ codes "b" ∷ []) (app (codes "b") ∷ [])
      (codes "--app-id" ∷ codes "b" ∷ [], [], refl, ((0, omega arith, refl), inr (refl, refl)), refl)) given means 0 1 stdio (omega arith) (omega arith) refl;
  two_modes = λ given means. (known_gives (codes "--app-id" ∷ codes "a" ∷ codes "--stdio" ∷ codes "--check" ∷ []) (app (codes "a") ∷ stdio ∷ check ∷ [])
      (spells_app (codes "--stdio" ∷ codes "--check" ∷ []) (stdio ∷ check ∷ [])
      (codes "--stdio" ∷ [], codes "--check" ∷ [], refl, ((0, omega arith, refl), refl), spells_check)) given means).mode_is;
}
