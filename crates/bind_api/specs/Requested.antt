-- The request to the program at a component's address.
use Rattle.std.specs.Prelude.{ℕ, Bool, false, ◌==◌, if◌then◌else◌, List, [], ◌∷◌, ◌++◌, Option, Some, None}
use Rattle.side_base.specs.declared.message.LinkRequest.{LinkRequest}
use Rattle.api_error.specs.Body.{json_type}
use Rattle.resource_spec.specs.Url.{Address, address_of}
use Rattle.bind_api.specs.declared.asking.Ask.{Ask}

abbrev pub address_in : Option (List ℕ) → Option Address
address_in None = None
address_in (Some url) = address_of url

-- it begins with a slash
abbrev pub is_absolute : List ℕ → Bool
is_absolute [] = false
is_absolute (byte ∷ bytes) = byte == 47

-- a request line has an absolute path (RFC 9112, section 3.2.1): where no slash begins one, there is one before it
abbrev pub origin_form : List ℕ → List ℕ
origin_form path = if is_absolute path then path else 47 ∷ path

abbrev pub request_to : Address → Ask → LinkRequest
request_to address ask = record { host = address.host; port = address.port; method = ask.method; target = origin_form (address.path ++ ask.path); fields = json_type ∷ []; body = ask.body }
