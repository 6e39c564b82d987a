use Rattle.std.proofs.Common.{◌≡◌, ℕ, List, [], ◌∷◌, ◌++◌, ap, ◌∙◌, append_assoc}
use Rattle.std.specs.Int.{w64, to_le_bytes}
use Rattle.keeper_journal.specs.Body.{sized}
use Rattle.keeper_journal.proofs.encoding.push_put.Goals as goal

regrouped : (a b d e f g : List ℕ) → ((((a ++ b) ++ d) ++ e) ++ f) ++ g ≡ a ++ (b ++ (d ++ (e ++ (f ++ g))))
regrouped a b d e f g = simp append_assoc

joined : (m0 m1 m2 m3 m4 m5 b d e f g : List ℕ) → m1 ≡ m0 ++ b → m2 ≡ m1 ++ d → m3 ≡ m2 ++ e → m4 ≡ m3 ++ f → m5 ≡ m4 ++ g → m5 ≡ m0 ++ (b ++ (d ++ (e ++ (f ++ g))))
joined m0 m1 m2 m3 m4 m5 b d e f g h1 h2 h3 h4 h5 =
    h5 ∙ ap (λ (x : List ℕ). x ++ g) (h4 ∙ ap (λ (x : List ℕ). x ++ f) (h3 ∙ ap (λ (x : List ℕ). x ++ e) (h2 ∙ ap (λ (x : List ℕ). x ++ d) h1))) ∙ regrouped m0 b d e f g

pub returns-clause-pushed : goal.returns-clause-pushed
returns-clause-pushed c =
    joined c.args.body.now c.push_byte.new.self c.push_sized.new.body c.push.new.self c.push-2.new.self c.push_sized-2.new.body
    (1 ∷ []) (sized c.args.key.now) (to_le_bytes w64 c.args.version) (to_le_bytes w64 c.args.until) (sized c.args.value.now)
    c.in_ok-push_byte.ensures.ok c.in_ok-push_sized.ensures
    (c.in_ok-push.ensures.ok ∙ ap (λ (x : List ℕ). c.push_sized.new.body ++ x) c.to_le_bytes.ensures)
    (c.in_ok-push-2.ensures.ok ∙ ap (λ (x : List ℕ). c.push.new.self ++ x) c.to_le_bytes-2.ensures)
    c.in_ok-push_sized-2.ensures
