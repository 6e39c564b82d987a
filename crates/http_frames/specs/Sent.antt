-- What the bytes of a written response are read as: one head of the grammar, and then the content (RFC 9112, sections 2.1, 4 and 5).
use Rattle.std.specs.Prelude.{◌≡◌, ℕ, ◌<◌, ◌^◌, List, [], ◌∷◌, ◌++◌, length, map, reverse, Bool, if◌then◌else◌, codes, All}
use Rattle.http.specs.StatusCode.{IsStatusCode}
use Rattle.httparse.specs.Grammar.{ResponseHead, ReadsResponse, IsToken, AllPass, is_value_byte, skip_ows, status_code, reason_phrase}
use Rattle.side_base.specs.declared.message.Field.{Field}
use Rattle.side_base.specs.declared.message.Response.{Response}
use Rattle.http_frames.specs.HeadRules.{field_of}
use Rattle.http_frames.specs.Printed.{length_field}
use Rattle.http_frames.specs.Written.{phrase, is_bare}

-- a field that may be sent: its name is a token, and its value has no control byte but the tab and no white space at its ends
pub record MayBeField (field : Field) : Type 0 where
  pub name : IsToken field.name
  pub value : AllPass is_value_byte field.value
  pub front : skip_ows field.value ≡ field.value
  pub back : skip_ows (reverse field.value) ≡ reverse field.value

pub record MayBeSent (response : Response) : Type 0 where
  pub status : IsStatusCode response.status
  pub fields : All MayBeField response.fields
  pub body : length response.body < 2 ^ 64

abbrev pub close_field : Field
close_field = record { name = codes "Connection"; value = codes "close" }

-- how long the content is, where there may be some
abbrev pub length_fields : Response → List Field
length_fields response = if is_bare response.status then [] else (length_field (length response.body) ∷ [])

-- that the connection ends
abbrev pub close_fields : Bool → List Field
close_fields close = if close then (close_field ∷ []) else []

-- the fields that are sent: those of the response, and behind them these
abbrev pub sent_fields : Response → Bool → List Field
sent_fields response close = response.fields ++ length_fields response ++ close_fields close

-- the text is one head of HTTP/1.1 with this status, the phrase that belongs to it and these fields, and then the rest; it is so in no other way
pub record IsOneHead (text : List ℕ) (status : ℕ) (fields : List Field) (rest : List ℕ) : Type 0 where
  pub head : ResponseHead
  pub reads : ReadsResponse text head rest
  pub minor : head.minor ≡ 1
  pub status_is : status_code head ≡ status
  pub phrase_is : reason_phrase head.reason ≡ phrase status
  pub fields_are : map field_of head.fields ≡ fields
  pub only : (other : ResponseHead) (after : List ℕ) → ReadsResponse text other after → (other ≡ head) × (after ≡ rest)
