use Rattle.std.proofs.Common.{◌≡◌, ℕ, List, ◌++◌, ap, ◌∙◌, append_assoc, Result, Ok, Err, OnOk}
use Rattle.http_client.specs.Written.{head}
use Rattle.http_client.proofs.written.push_head.Goals as goal

-- five pieces that were appended in turn are appended as one
appended : {A E : Type 0} (result : Result A E) (old a b c d e o1 o2 o3 o4 o5 : List ℕ)
    → o1 ≡ old ++ a → o2 ≡ o1 ++ b → o3 ≡ o2 ++ c → o4 ≡ o3 ++ d → OnOk result (o5 ≡ o4 ++ e)
    → OnOk result (o5 ≡ old ++ (a ++ b ++ c ++ d ++ e))
appended (Ok _) old a b c d e o1 o2 o3 o4 o5 e1 e2 e3 e4 e5 =
    e5 ∙ ap (λ o. o ++ e) (e4 ∙ ap (λ o. o ++ d) (e3 ∙ ap (λ o. o ++ c) (e2 ∙ ap (λ o. o ++ b) e1)))
    ∙ simp append_assoc
appended (Err _) old a b c d e o1 o2 o3 o4 o5 e1 e2 e3 e4 e5 = tt

pub returns : goal.returns
unfolding head
returns c = appended _ _ _ _ _ _ _ _ _ _ _ _ c.in_ok-push_request_line.ensures c.in_ok-push_host_line.ensures c.in_ok-push_fields.ensures
    c.in_ok-push_length_line.ensures c.push.ensures.ok
