use Rattle.std.proofs.Common.{◌≡◌, ℕ, List, ◌++◌, ap, ◌∙◌, append_assoc}
use Rattle.http_frames.specs.Written.{written}
use Rattle.http_frames.proofs.response.push_parts.Goals as goal

-- six pieces that were appended in turn are appended as one
appended : (old a b c d e f : List ℕ) {o1 o2 o3 o4 o5 o6 : List ℕ}
    → o1 ≡ old ++ a → o2 ≡ o1 ++ b → o3 ≡ o2 ++ c → o4 ≡ o3 ++ d → o5 ≡ o4 ++ e → o6 ≡ o5 ++ f
    → o6 ≡ old ++ (a ++ b ++ c ++ d ++ e ++ f)
appended old a b c d e f e1 e2 e3 e4 e5 e6 =
    e6 ∙ ap (λ o. o ++ f) (e5 ∙ ap (λ o. o ++ e) (e4 ∙ ap (λ o. o ++ d) (e3 ∙ ap (λ o. o ++ c) (e2 ∙ ap (λ o. o ++ b) e1))))
    ∙ simp append_assoc

pub returns-clause-ok : goal.returns-clause-ok
unfolding written
returns-clause-ok c = appended _ _ _ _ _ _ _ c.in_ok-push_status_line.ensures.ok c.in_ok-push_fields.ensures.ok
    c.in_ok-push_length_line.ensures.ok c.in_ok-push_close_line.ensures.ok c.in_ok-push.ensures.ok
    c.in_ok-push_content.ensures.ok
