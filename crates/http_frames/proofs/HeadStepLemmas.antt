-- What was read at the front of the first 16,384 bytes, as a fact about all of them.
use Rattle.std.proofs.Common.{◌≡◌, ℕ, ◌<◌, ◌≤◌, List, [], ◌++◌, length, take, drop, Some, None, inl, inr, sym, ap, ◌∙◌, subst, arith, append_assoc, append-nil, length-append, take-append-drop, length-take}
use Rattle.std.proofs.lemmas.Bool.{cases_lt}
use Rattle.std.proofs.lemmas.List.{take_all, nil_from_length}
use Rattle.httparse.proofs.GrammarLemmas.{request_unique}
use Rattle.http_frames.specs.HeadReading.{HasNoHead}
use Rattle.http_chunks.proofs.SplitLemmas.{split_append}
use Rattle.httparse.specs.Grammar.{RequestHead, print_request, ReadsRequest, HasNoRequest, NeverHasRequest, EndsInTarget, MayBecomeRequest}
use Rattle.http_frames.specs.declared.refusal.FrameErr.{FrameErr}
use Rattle.http_frames.specs.declared.refusal.FrameErr.TheVariants.{HeadTooLong, BadHead}
use Rattle.http_frames.specs.HeadRules.{HEAD_LIMIT, head_refusal}
use Rattle.http_frames.specs.Requests.{ReadsHead, IsRefused, IsAccepted}
use Rattle.http_chunks.proofs.FrontLemmas.{none_is_some}
use Rattle.http_frames.proofs.RowLemmas.{refusal_meets, refused_head_alone, long_head_alone, bad_head_alone, partial_head_accepted, head_before}

front_short : (text : List ℕ) → length (take HEAD_LIMIT text) ≤ HEAD_LIMIT
front_short text = omega (arith, length-take HEAD_LIMIT text)

cut : (text : List ℕ) → text ≡ take HEAD_LIMIT text ++ drop HEAD_LIMIT text
cut text = sym (take-append-drop HEAD_LIMIT text)

head_short : (text : List ℕ) (h : RequestHead) (after : List ℕ) → ReadsRequest (take HEAD_LIMIT text) h after → length (print_request h) ≤ HEAD_LIMIT
head_short text h after reads = omega (arith, front_short text, ap length reads.1, length-append (print_request h) after)

pub judged_refused : (text : List ℕ) (h : RequestHead) (after : List ℕ) (e : FrameErr)
    → ReadsRequest (take HEAD_LIMIT text) h after → head_refusal h ≡ Some e → IsRefused text e
judged_refused text h after e reads is = record {
  prefix = print_request h;
  rest = after ++ drop HEAD_LIMIT text;
  whole = cut text ∙ ap (λ (t : List ℕ). t ++ drop HEAD_LIMIT text) reads.1 ∙ append_assoc (print_request h) after (drop HEAD_LIMIT text);
  meets = refusal_meets h (print_request h) e (reads.0, sym (append-nil (print_request h))) is;
  alone = refused_head_alone h e reads.0 (head_short text h after reads) is;
}

pub judged_taken : (text : List ℕ) (h : RequestHead) (after : List ℕ)
    → ReadsRequest (take HEAD_LIMIT text) h after → head_refusal h ≡ None → ReadsHead text h (after ++ drop HEAD_LIMIT text)
judged_taken text h after reads is = record {
  reads = head_before text (take HEAD_LIMIT text) (drop HEAD_LIMIT text) h after (cut text) reads;
  short = head_short text h after reads;
  accepted = is;
}

pub judged_need : (text : List ℕ) → length text < HEAD_LIMIT → HasNoRequest (take HEAD_LIMIT text) → MayBecomeRequest (take HEAD_LIMIT text)
    → HasNoRequest text × IsAccepted text
judged_need text short none may =
    let whole : take HEAD_LIMIT text ≡ text = take_all HEAD_LIMIT text (omega arith) in
    let none_on = subst HasNoRequest whole none in
    (none_on, partial_head_accepted text short none_on (subst MayBecomeRequest whole may))

pub judged_long : (text : List ℕ) → HEAD_LIMIT ≤ length text → HasNoRequest (take HEAD_LIMIT text) → MayBecomeRequest (take HEAD_LIMIT text)
    → IsRefused text HeadTooLong
judged_long text long none may = record {
  prefix = take HEAD_LIMIT text;
  rest = drop HEAD_LIMIT text;
  whole = cut text;
  meets = (omega (arith, length-take HEAD_LIMIT text), none, may);
  alone = long_head_alone (take HEAD_LIMIT text) none may;
}

pub judged_bad : (text : List ℕ) → NeverHasRequest (take HEAD_LIMIT text) → ¬ (EndsInTarget (take HEAD_LIMIT text)) → IsRefused text BadHead
judged_bad text never outside = record {
  prefix = take HEAD_LIMIT text;
  rest = drop HEAD_LIMIT text;
  whole = cut text;
  meets = (never, outside);
  alone = bad_head_alone (take HEAD_LIMIT text) (front_short text) never outside;
}

-- no accepted head begins the text
pub no_head_refused : (text : List ℕ) (h : RequestHead) (after : List ℕ) (e : FrameErr)
    → ReadsRequest (take HEAD_LIMIT text) h after → head_refusal h ≡ Some e → HasNoHead text
no_head_refused text h after e reads is k others there =
    let on = head_before text (take HEAD_LIMIT text) (drop HEAD_LIMIT text) h after (cut text) reads in
    let same = request_unique text k h others _ there.reads on in
    none_is_some e (sym there.accepted ∙ ap head_refusal same.0 ∙ is)

pub no_head_none : (text : List ℕ) → HasNoRequest (take HEAD_LIMIT text) → HasNoHead text
no_head_none text none k after there =
    elim (split_append (print_request k) after (take HEAD_LIMIT text) (drop HEAD_LIMIT text) (sym there.reads.1 ∙ cut text)) [
      | inl (m, longer, rest) ↦ elim (cases_lt (length text) HEAD_LIMIT) [
        | inl below ↦
            let all : take HEAD_LIMIT text ≡ text = take_all HEAD_LIMIT text (omega arith) in
            let P : List ℕ → Type 0 = λ t. ReadsRequest t k after in
            none k after (subst P (sym all) there.reads)
        | inr above ↦
            let nothing : length m ≡ 0 = omega (arith, there.short, ap length longer, length-append (take HEAD_LIMIT text) m, length-take HEAD_LIMIT text) in
            none k [] (there.reads.0, sym (longer ∙ ap (λ (t : List ℕ). take HEAD_LIMIT text ++ t) (nil_from_length m nothing) ∙ append-nil (take HEAD_LIMIT text)) ∙ sym (append-nil (print_request k)))
      ]
      | inr (m, shorter, rest) ↦ none k m (there.reads.0, shorter)
    ]

pub judged_may : (text : List ℕ) → length text < HEAD_LIMIT → MayBecomeRequest (take HEAD_LIMIT text) → MayBecomeRequest text
judged_may text short may = subst MayBecomeRequest (take_all HEAD_LIMIT text (omega arith)) may
