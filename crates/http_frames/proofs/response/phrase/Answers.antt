use Rattle.std.proofs.Common.{◌≡◌, ℕ, List, [], Option, unwrap_or, ap, ◌∙◌}
use Rattle.http.specs.StatusCode.{reason_phrase}
use Rattle.http_frames.specs.Written.{phrase}
use Rattle.http_frames.proofs.response.phrase.Goals as goal

-- what the code's reason is, or nothing, is the phrase
phrase_of : (status code : ℕ) (reason : Option (List ℕ)) → code ≡ status → reason ≡ reason_phrase code
    → unwrap_or reason [] ≡ phrase status
unfolding phrase
phrase_of status code reason same is = ap (λ o. unwrap_or o []) (is ∙ ap reason_phrase same)

pub returns-in-Some : goal.returns-in-Some
returns-in-Some c = phrase_of _ _ _ c.in-Ok.ensures.1 c.in-Some.ensures.value

pub returns-in-None : goal.returns-in-None
returns-in-None c = phrase_of _ _ _ c.in-Ok.ensures.1 c.in-None.ensures.value
