-- What `src/rules` finds in one pass over the fields of a head, for the clauses of private functions.
use Rattle.std.specs.Prelude.{◌≡◌, ℕ, ◌+◌, List, Bool, ◌&&◌, ◌||◌, not, ◌==◌, nat_lt, if◌then◌else◌, true, false, Option, Some, None, codes}
use Rattle.std.specs.Str.Parse.{digits_value}
use Rattle.side_base.specs.declared.message.Field.{Field}
use Rattle.side_base.specs.Field.{is_same_word}
use Rattle.http_chunks.specs.Chunked.{BODY_LIMIT}
use Rattle.http_frames.specs.HeadRules.{FIELD_LIMIT, is_named, count_named, any_value, is_length, content_length}
use Rattle.http_frames.specs.declared.refusal.FrameErr.{FrameErr}
use Rattle.http_frames.specs.declared.refusal.FrameErr.TheVariants.{TooManyHeaders, BadHost, BothLengths, TransferCoding, BadLength, Coding, TooLong}
use Rattle.http_frames.specs.declared.rules.Said.{Said}

-- the fields say this
pub record IsSaid (fields : List Field) (said : Said) : Type 0 where
  pub hosts : said.hosts ≡ count_named (codes "host") fields
  pub lengths : said.lengths ≡ count_named (codes "content-length") fields
  pub codings : said.codings ≡ count_named (codes "transfer-encoding") fields
  pub other_length : said.other_length ≡ any_value (λ value. not (is_length value)) (codes "content-length") fields
  pub other_coding : said.other_coding ≡ any_value (λ value. not (is_same_word value (codes "chunked"))) (codes "transfer-encoding") fields
  pub encoded : said.encoded ≡ any_value (λ value. not (is_same_word value (codes "identity"))) (codes "content-encoding") fields
  pub expects : said.expects ≡ any_value (λ value. is_same_word value (codes "100-continue")) (codes "expect") fields
  pub length : said.other_length ≡ false → said.length ≡ content_length fields

-- one field more says this
pub record IsMore (field : Field) (old new : Said) : Type 0 where
  pub hosts : new.hosts ≡ (if is_named (codes "host") field then old.hosts + 1 else old.hosts)
  pub lengths : new.lengths ≡ (if is_named (codes "content-length") field then old.lengths + 1 else old.lengths)
  pub codings : new.codings ≡ (if is_named (codes "transfer-encoding") field then old.codings + 1 else old.codings)
  pub other_length : new.other_length ≡ (is_named (codes "content-length") field && not (is_length field.value) || old.other_length)
  pub other_coding : new.other_coding
      ≡ (is_named (codes "transfer-encoding") field && not (is_same_word field.value (codes "chunked")) || old.other_coding)
  pub encoded : new.encoded
      ≡ (is_named (codes "content-encoding") field && not (is_same_word field.value (codes "identity")) || old.encoded)
  pub expects : new.expects
      ≡ (is_named (codes "expect") field && is_same_word field.value (codes "100-continue") || old.expects)
  pub other : is_named (codes "content-length") field ≡ false → new.length ≡ old.length
  pub number : is_named (codes "content-length") field ≡ true → is_length field.value ≡ true → new.length ≡ digits_value 10 field.value

-- the first rule that so many fields break which say this
unfoldable pub broken : ℕ → ℕ → Said → Option FrameErr
broken minor count said =
    if nat_lt FIELD_LIMIT count then Some TooManyHeaders else (
    if minor == 1 && not (said.hosts == 1) then Some BadHost else (
    if nat_lt 0 said.lengths && nat_lt 0 said.codings then Some BothLengths else (
    if nat_lt 0 said.codings && (minor == 0 || not (said.codings == 1) || said.other_coding) then Some TransferCoding else (
    if nat_lt 1 said.lengths || said.other_length then Some BadLength else (
    if said.encoded then Some Coding else (
    if nat_lt BODY_LIMIT said.length then Some TooLong else
    None))))))

-- a request whose fields say this asks to be told that its content is wanted
unfoldable pub asks : ℕ → Said → Bool
asks minor said = minor == 1 && (said.expects && (nat_lt 0 said.codings || nat_lt 0 said.length))
