-- What some replies are judged as, whatever their bodies are.
use Rattle.std.proofs.Common.{◌≡◌, ℕ, true, false, List, [], refl, ap, sym, ◌∙◌}
use Rattle.side_base.specs.declared.message.Response.{Response}
use Rattle.side_base.specs.declared.message.Field.{Field}
use Rattle.json_text.specs.Forest.{Forest, empty, grows}
use Rattle.json_text.proofs.Fronts.{one_tree}
use Rattle.cloud_events.specs.declared.outcome.Verdict.{Verdict}
use Rattle.cloud_events.specs.declared.outcome.Verdict.TheVariants.{Retry, Drop}
use Rattle.cloud_events.specs.Verdict.{by_reply, by_status, is_good as is_success}
use Rattle.delivery_turn.specs.Posting.{IsJudged, by_number, empty_handed, read, unread}

pub absent : (response : Response) (v : Verdict) → response.status ≡ 404 → IsJudged response v → v ≡ Drop
absent response v is (by_number fails e) = e ∙ ap by_status is
absent response v is (empty_handed none e) = e ∙ ap by_status is
absent response v is (read succeeds some spot inside text e) = e ∙ ap (λ s. by_reply s response.body inside) is
absent response v is (unread succeeds some none e) = e ∙ ap by_status is

pub failing : (response : Response) (v : Verdict) → response.status ≡ 500 → IsJudged response v → v ≡ Retry
failing response v is (by_number fails e) = e ∙ ap by_status is
failing response v is (empty_handed none e) = e ∙ ap by_status is
failing response v is (read succeeds some spot inside text e) = e ∙ ap (λ s. by_reply s response.body inside) is
failing response v is (unread succeeds some none e) = e ∙ ap by_status is

pub no_body : (fields : List Field) (status : ℕ) (v : Verdict) → v ≡ by_status status → IsJudged (record { status = status; fields = fields; body = [] }) v
no_body fields status v e = empty_handed refl e

-- ---- one verdict

abbrev held : Forest → Forest
held empty = empty
held (grows spot children later) = children

both : {A : Type 0} (status : ℕ) → is_success status ≡ false → is_success status ≡ true → A
both status fails succeeds = (let e = sym fails ∙ succeeds in let wrong : ⊥ = cc in absurd wrong)

pub one_verdict : (response : Response) (v w : Verdict) → IsJudged response v → IsJudged response w → v ≡ w
one_verdict response v w (by_number fails e) (by_number nor h) = e ∙ sym h
one_verdict response v w (by_number fails e) (empty_handed none h) = e ∙ sym h
one_verdict response v w (by_number fails e) (read succeeds some spot inside text h) = both response.status fails succeeds
one_verdict response v w (by_number fails e) (unread succeeds some none h) = e ∙ sym h
one_verdict response v w (empty_handed none e) (by_number fails h) = e ∙ sym h
one_verdict response v w (empty_handed none e) (empty_handed neither h) = e ∙ sym h
one_verdict response v w (empty_handed none e) (read succeeds some spot inside text h) = absurd (some none)
one_verdict response v w (empty_handed none e) (unread succeeds some neither h) = e ∙ sym h
one_verdict response v w (read succeeds some spot inside text e) (by_number fails h) = both response.status fails succeeds
one_verdict response v w (read succeeds some spot inside text e) (empty_handed none h) = absurd (some none)
one_verdict response v w (read succeeds some spot inside text e) (read good has other within found h) =
    e ∙ ap (by_reply response.status response.body) (ap held (one_tree response.body (grows spot inside empty) (grows other within empty) text.text found.text)) ∙ sym h
one_verdict response v w (read succeeds some spot inside text e) (unread good has none h) = absurd (none (grows spot inside empty) text)
one_verdict response v w (unread succeeds some none e) (by_number fails h) = e ∙ sym h
one_verdict response v w (unread succeeds some none e) (empty_handed neither h) = e ∙ sym h
one_verdict response v w (unread succeeds some none e) (read good has spot inside text h) = absurd (none (grows spot inside empty) text)
one_verdict response v w (unread succeeds some none e) (unread good has neither h) = e ∙ sym h
