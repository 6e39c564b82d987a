-- What `src/head` reads, for the clauses of its private functions.
use Rattle.std.specs.Prelude.{◌≡◌, ℕ, ◌<◌, List, length, Option, Some, None}
use Rattle.httparse.specs.Grammar.{RequestHead, print_request, ReadsRequest, HasNoRequest, NeverHasRequest, EndsInTarget, MayBecomeRequest}
use Rattle.httparse.specs.declared.spans.HeaderSpan.{HeaderSpan}
use Rattle.httparse.specs.Spans.{span_bytes, RequestExceeds}
use Rattle.side_base.specs.declared.message.Field.{Field}
use Rattle.http_frames.specs.HeadRules.{HEAD_LIMIT, method_of, fields_of}
use Rattle.http_frames.specs.Lines.{IsPlace}
use Rattle.http_frames.specs.Said.{IsSaid}
use Rattle.http_frames.specs.declared.head.Head.{Head}
use Rattle.http_frames.specs.Requests.{ReadsHead, IsRefused, IsAccepted}
use Rattle.http_frames.specs.declared.head.HeadStep.{HeadStep}
use Rattle.http_frames.specs.declared.head.HeadStep.TheVariants.{Taken, Refused, Need}
use Rattle.http_frames.specs.declared.head.HeadRead.{HeadRead}
use Rattle.http_frames.specs.declared.head.HeadRead.TheVariants.{Whole, Partial, Invalid}

-- the parts of a head that are kept
abbrev pub head_of : RequestHead → Head
head_of h = record {
  method = method_of h.method;
  target = h.target;
  minor = h.minor;
  fields = fields_of h;
  len = length (print_request h);
}

-- the field whose name and value the spans cover
abbrev pub header_field : List ℕ → HeaderSpan → Field
header_field text header = record { name = span_bytes text header.name; value = span_bytes text header.value }

-- what was read is what stands at the front of the text
abbrev pub IsHeadRead : List ℕ → HeadRead → Type 0
IsHeadRead text (Whole head) = (h : RequestHead) × (after : List ℕ) × ReadsRequest text h after × (head ≡ head_of h)
IsHeadRead text Partial = HasNoRequest text × MayBecomeRequest text
IsHeadRead text Invalid = NeverHasRequest text × ¬ (EndsInTarget text)

-- the same, or the text has a start line and more than room fields
abbrev pub IsReadOf : List ℕ → ℕ → Option HeadRead → Type 0
IsReadOf text room (Some read) = IsHeadRead text read
IsReadOf text room None = RequestExceeds room text

-- no head that breaks no rule begins the text
abbrev pub HasNoHead : List ℕ → Type 0
HasNoHead text = (h : RequestHead) (after : List ℕ) → ¬ (ReadsHead text h after)

-- what a head at the front of the bytes that came leads to
abbrev pub IsHeadStep : List ℕ → HeadStep → Type 0
IsHeadStep text (Taken head said) = (h : RequestHead) × (after : List ℕ) × ReadsHead text h after × (head ≡ head_of h) × IsSaid head.fields said
IsHeadStep text (Refused error) = IsRefused text error × HasNoHead text
IsHeadStep text (Need place) = HasNoRequest text × IsAccepted text × HasNoHead text × IsPlace text place × (length text < HEAD_LIMIT)
