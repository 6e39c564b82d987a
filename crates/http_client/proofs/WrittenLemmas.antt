-- A request that was prepared, and its bytes.
use Rattle.std.proofs.Common.{◌≡◌, ℕ, ◌-◌, Bool, true, false, List, [], ◌++◌, length, Option, Some, None, Result, Ok, Err, OnOk, OnErr, refl, sym, ap, ◌∙◌, subst, append-nil}
use Rattle.std.specs.Prelude.{option_map, if◌then◌else◌}
use Rattle.side_base.specs.declared.message.LinkRequest.{LinkRequest}
use Rattle.side_world.specs.Told.{Told, SentSome}
use Rattle.side_world.proofs.Composed.{told_on, sent_after, sent_before}
use Rattle.http_client.specs.declared.written.Prepared.{Prepared}
use Rattle.http_client.specs.Written.{token_of, is_sendable, head, written, is_with_head, prepared_with, prepared, sent, Sends, SendsSome}

-- what goes out behind the first piece
abbrev pub rest_of : Prepared → LinkRequest → List ℕ
rest_of it request = if it.is_whole then [] else request.body

-- the bytes are the two pieces
pub pieces : (request : LinkRequest) (it : Prepared) (bytes : List ℕ) → prepared request ≡ Some it → sent request ≡ Some bytes
    → bytes ≡ it.first ++ rest_of it request
pieces request it bytes = of (is_sendable request) (token_of request.method) where
  cut : (token : List ℕ) (whole : Bool)
      → Some (if whole then (record { first = written token request; is_whole = true }) else (record { first = head token request; is_whole = false })) ≡ Some it
      → Some (written token request) ≡ Some bytes → bytes ≡ it.first ++ rest_of it request
  cut token true is same =
      let ready : record { first = written token request; is_whole = true } ≡ it = cc in
      let whole : written token request ≡ bytes = cc in
      subst (λ (p : Prepared). bytes ≡ p.first ++ rest_of p request) ready (sym whole ∙ sym (append-nil (written token request)))
  cut token false is same =
      let ready : record { first = head token request; is_whole = false } ≡ it = cc in
      let whole : written token request ≡ bytes = cc in
      subst (λ (p : Prepared). bytes ≡ p.first ++ rest_of p request) ready (sym whole)

  of : (sends : Bool) (token : Option (List ℕ)) → (if sends then option_map (λ (t : List ℕ). prepared_with t request) token else None) ≡ Some it
      → (if sends then option_map (λ (t : List ℕ). written t request) token else None) ≡ Some bytes → bytes ≡ it.first ++ rest_of it request
  of true (Some token) is same = cut token (is_with_head (head token request) request.body) is same
  of true None is same = absurd (cc)
  of false token is same = absurd (cc)

-- the first piece was all of it
pub sends_first : (request : LinkRequest) (it : Prepared) (before after : Option (List ℕ)) → prepared request ≡ Some it → it.is_whole ≡ true
    → Told before after it.first → Sends request before after
sends_first request it before after ready whole told bytes same =
    let all : bytes ≡ it.first ++ [] = pieces request it bytes ready same ∙ ap (λ (b : Bool). it.first ++ (if b then [] else request.body)) whole in
    subst (Told before after) (sym (all ∙ append-nil it.first)) told

-- the content went out behind it
pub sends_both : (request : LinkRequest) (it : Prepared) (before between after : Option (List ℕ)) → prepared request ≡ Some it → it.is_whole ≡ false
    → Told before between it.first → Told between after request.body → Sends request before after
sends_both request it before between after ready whole first second bytes same =
    let all : bytes ≡ it.first ++ request.body = pieces request it bytes ready same ∙ ap (λ (b : Bool). it.first ++ (if b then [] else request.body)) whole in
    subst (Told before after) (sym all) (told_on before between after it.first request.body first second)

-- some of the first piece went out
pub sends_some : (request : LinkRequest) (it : Prepared) (before after : Option (List ℕ)) → prepared request ≡ Some it
    → SentSome before after it.first → SendsSome request before after
sends_some request it before after ready some bytes same =
    subst (SentSome before after) (sym (pieces request it bytes ready same)) (sent_before before after it.first (rest_of it request) some)

-- some of the content did
pub sends_more : (request : LinkRequest) (it : Prepared) (before between after : Option (List ℕ)) → prepared request ≡ Some it → it.is_whole ≡ false
    → Told before between it.first → SentSome between after request.body → SendsSome request before after
sends_more request it before between after ready whole first second bytes same =
    let all : bytes ≡ it.first ++ request.body = pieces request it bytes ready same ∙ ap (λ (b : Bool). it.first ++ (if b then [] else request.body)) whole in
    subst (SentSome before after) (sym all) (sent_after before between after it.first request.body first second)

-- the same of a write that may have failed
pub on_more : {A E : Type 0} (result : Result A E) (request : LinkRequest) (it : Prepared) (before between after : Option (List ℕ)) (first body : List ℕ)
    → prepared request ≡ Some it → it.is_whole ≡ false → first ≡ it.first → body ≡ request.body
    → Told before between first → OnErr result (SentSome between after body) → OnErr result (SendsSome request before after)
on_more (Ok _) request it before between after first body ready whole one two told some = tt
on_more (Err _) request it before between after first body ready whole one two told some =
    sends_more request it before between after ready whole (subst (Told before between) one told) (subst (SentSome between after) two some)

pub on_both : {A E : Type 0} (result : Result A E) (request : LinkRequest) (it : Prepared) (before between after : Option (List ℕ)) (first body : List ℕ)
    → prepared request ≡ Some it → it.is_whole ≡ false → first ≡ it.first → body ≡ request.body
    → Told before between first → OnOk result (Told between after body) → OnOk result (Sends request before after)
on_both (Ok _) request it before between after first body ready whole one two told all =
    sends_both request it before between after ready whole (subst (Told before between) one told) (subst (Told between after) two all)
on_both (Err _) request it before between after first body ready whole one two told all = tt
