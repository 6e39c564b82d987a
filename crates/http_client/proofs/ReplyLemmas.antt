-- Heads that were taken one after the other, and a reply of its parts.
use Rattle.std.proofs.Common.{◌≡◌, ◌≢◌, ℕ, ◌<◌, ◌≤◌, ◌||◌, Bool, true, false, List, [], ◌∷◌, ◌++◌, take, drop, map, All, Option, Result, Ok, Err, IfOk, refl, sym, ap, ◌∙◌, subst, arith, append_assoc, append-nil}
use Rattle.std.specs.List.{flat_map}
use Rattle.std.proofs.lemmas.Grind.{flat_map-append}
use Rattle.std.proofs.lemmas.Bool.Decides.{nat_tests}
use Rattle.std.proofs.Math.Bool.{or-false}
use Rattle.std.proofs.lemmas.List.Folds.{list_any-append}
use Rattle.std.proofs.lemmas.List.Elements.{All-nil, All-cons, All-append}
use Rattle.side_world.specs.Told.{Took, IsDrained}
use Rattle.side_world.proofs.Composed.{took_nothing, took_on}
use Rattle.httparse.specs.Grammar.{ResponseHead, IsResponseHead, print_response, status_code}
use Rattle.httparse.specs.declared.spans.HeaderSpan.{HeaderSpan}
use Rattle.httparse.specs.declared.spans.ResponseSpans.{ResponseSpans}
use Rattle.httparse.specs.Grammar as grammar
use Rattle.httparse.specs.Spans.{IsResponseOf, header_bytes, name_and_value}
use Rattle.side_base.specs.declared.message.Field.{Field}
use Rattle.http_client.specs.declared.framing.Framing.{Framing}
use Rattle.http_client.specs.declared.framing.Framing.TheVariants as framing
use Rattle.http_client.specs.declared.head.Head.{Head}
use Rattle.http_client.specs.declared.reply.Reply.{Reply}
use Rattle.http_client.specs.Replies.{field_of, fields_of, says_close, is_closing, IsInterim, IsFraming, IsContent, kept, may_persist, IsReplyText}
use Rattle.http_client.specs.Taken.{is_interim, header_field, head_of, IsHead, IsFinal}
use Rattle.http_client.proofs.AheadLemmas.{front_is}

-- interim heads were taken, of which one says that the connection closes or none does
pub record HeadsSoFar (closing : Bool) (first now : Option (List ℕ)) : Type 0 where
  pub interims : List ResponseHead
  pub each : All IsInterim interims
  pub took : Took first now (flat_map print_response interims)
  pub said : closing ≡ is_closing interims

pub no_heads : (first : Option (List ℕ)) → HeadsSoFar false first first
no_heads first = record { interims = []; each = All-nil IsInterim; took = took_nothing first; said = refl }

interim_is : (status : ℕ) → is_interim status ≡ true → (100 ≤ status) × (status < 200) × (status ≢ 101)
interim_is status e = (grind (arith, nat_tests), grind (arith, nat_tests), grind (arith, nat_tests))

pub one_more_head : (closing : Bool) (first then now : Option (List ℕ)) (text : List ℕ) (head : Head)
    → HeadsSoFar closing first then → Took then now text → IsHead closing text head → is_interim head.status ≡ true
    → HeadsSoFar (head.closing || says_close head.fields) first now
one_more_head closing first then now text head so took is interim =
    let parts = interim_is (status_code is.h) (sym (ap (λ (z : Head). is_interim z.status) is.is) ∙ interim) in
    let valid : IsInterim is.h = record { valid = is.valid; from = parts.0; below = parts.1; stays = parts.2 } in
    let printed : text ≡ flat_map print_response (is.h ∷ []) = is.whole ∙ sym (append-nil (print_response is.h)) in
    record {
      interims = so.interims ++ is.h ∷ [];
      each = All-append IsInterim so.interims (is.h ∷ []) so.each (All-cons IsInterim is.h [] valid (All-nil IsInterim));
      took = subst (Took first now) (sym (flat_map-append print_response so.interims (is.h ∷ [])))
          (took_on first then now _ _ so.took (subst (Took then now) printed took));
      said = ap (λ (z : Head). z.closing || says_close z.fields) is.is
          ∙ ap (λ (b : Bool). b || says_close (fields_of is.h)) so.said
          ∙ ap (λ (b : Bool). is_closing so.interims || b) (sym (or-false (says_close (fields_of is.h))))
          ∙ sym (list_any-append (λ (h : ResponseHead). says_close (fields_of h)) so.interims (is.h ∷ []));
    }

pub final_head : (closing : Bool) (first then now : Option (List ℕ)) (text : List ℕ) (head : Head)
    → HeadsSoFar closing first then → Took then now text → IsHead closing text head
    → (whole : List ℕ) × Took first now whole × IsFinal whole head
final_head closing first then now text head so took is = (
  flat_map print_response so.interims ++ print_response is.h,
  took_on first then now _ _ so.took (subst (Took then now) is.whole took),
  record {
    interims = so.interims;
    h = is.h;
    each = so.each;
    valid = is.valid;
    whole = refl;
    is = is.is ∙ ap (λ (b : Bool). head_of b is.h) so.said;
  },
)

pub whole_reply : (first between now left : Option (List ℕ)) (to_head : Bool) (head : Head) (kind : Framing) (text framed came : List ℕ) (reply : Reply)
    → Took first between text → IsFinal text head → IsFraming to_head head.status head.minor head.fields kind
    → Took between now framed → IsContent kind framed reply.response.body → (kind ≡ framing.ToEnd → IsDrained left)
    → reply.response.status ≡ head.status → reply.response.fields ≡ kept head.fields
    → reply.persists ≡ may_persist head.minor (head.closing || says_close head.fields) kind came
    → (whole : List ℕ) × Took first now whole × IsReplyText to_head whole came left reply
whole_reply first between now left to_head head kind text framed came reply took final is_framed then content all status fields again = (
  text ++ framed,
  took_on first between now text framed took then,
  record {
    interims = final.interims;
    head = final.h;
    kind = kind;
    framed = framed;
    each = final.each;
    valid = final.valid;
    whole = ap (λ (t : List ℕ). t ++ framed) final.whole ∙ append_assoc (flat_map print_response final.interims) (print_response final.h) framed;
    is_framed = subst (λ (h : Head). IsFraming to_head h.status h.minor h.fields kind) final.is is_framed;
    content = content;
    status = status ∙ ap (λ (h : Head). h.status) final.is;
    fields = fields ∙ ap (λ (h : Head). kept h.fields) final.is;
    all = all;
    again = again ∙ ap (λ (h : Head). may_persist h.minor (h.closing || says_close h.fields) kind came) final.is;
  },
)

-- the fields that the spans cover are those of the head
pub fields_are : (text : List ℕ) (headers : List HeaderSpan) (fields : List grammar.Field)
    → map (header_bytes text) headers ≡ map name_and_value fields
    → map (header_field text) headers ≡ map field_of fields
fields_are text [] [] e = refl
fields_are text [] (f ∷ fs) e = absurd (cc)
fields_are text (h ∷ hs) [] e = absurd (cc)
fields_are text (h ∷ hs) (f ∷ fs) e =
    let first : header_bytes text h ≡ name_and_value f = cc in
    let others : map (header_bytes text) hs ≡ map name_and_value fs = cc in
    let to_field : List ℕ × List ℕ → Field = λ p. record { name = p.0; value = p.1 } in
    let here : header_field text h ≡ field_of f = ap to_field first in
    let more = fields_are text hs fs others in
    cc

-- what the spans cover of a text that a head begins is that head
pub head_taken : (closing : Bool) (pending : List ℕ) (headers : List HeaderSpan) (spans : ResponseSpans) (fields : List Field)
    → IsResponseOf pending headers spans → fields ≡ map (header_field pending) (take spans.headers headers)
    → IsHead closing (take spans.len pending) (record { status = spans.code; minor = spans.version; fields = fields; closing = closing })
head_taken closing pending headers spans fields (h, at) covered = record {
  h = h;
  valid = at.reads.0;
  whole = ap (λ (n : ℕ). take n pending) at.len ∙ front_is pending (print_response h) (drop spans.len pending) at.reads.1;
  is = λ i. record {
    status = at.code i;
    minor = at.version i;
    fields = (covered ∙ fields_are pending (take spans.headers headers) h.fields at.fields) i;
    closing = closing;
  };
}

-- what is so of a value that is there
pub ok_both : {A E : Type 0} (r : Result A E) (P Q R : A → Type 0) → IfOk r P → IfOk r Q → ((a : A) → P a → Q a → R a) → IfOk r R
ok_both (Ok a) P Q R p q make = make a p q
ok_both (Err e) P Q R p q make = tt
