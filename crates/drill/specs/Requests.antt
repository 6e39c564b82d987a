-- The requests of a drill: each word means one.
use Rattle.std.specs.Prelude.{ℕ, Bool, zero, suc, ◌/◌, ◌%◌, ◌==◌, if◌then◌else◌, List, [], ◌∷◌, ◌++◌, length, Some, None, codes, decimal}
use Rattle.rand_core.specs.Stream.{Stream, next_u64}
use Rattle.side_base.specs.declared.message.Request.{Request}
use Rattle.http_frames.specs.Printed.{printed_request}

-- the first words of a stream
abbrev pub words_of : ℕ → Stream → List ℕ
words_of zero stream = []
words_of (suc n) stream = (next_u64 stream).0 ∷ words_of n (next_u64 stream).1

-- the name of a key: `k` and a number from 0 to 15
unfoldable pub key_text : ℕ → List ℕ
key_text word = codes "k" ++ decimal (word / 4 % 16)

-- the list of one item, with the key and the value, and what else is said of it
unfoldable pub save_text : ℕ → List ℕ → List ℕ
save_text word options = codes "[{\"key\":\"" ++ key_text word ++ codes "\",\"value\":" ++ decimal (word / 64) ++ options ++ codes "}]"

-- that there must be no row
abbrev pub first_write : List ℕ
first_write = codes ",\"options\":{\"concurrency\":\"first-write\"}"

abbrev pub line_end : List ℕ
line_end = 13 ∷ 10 ∷ []

-- a post to the store, up to the length of its content
abbrev pub post_front : List ℕ
post_front = codes "POST /v1.0/state/statestore HTTP/1.1" ++ line_end ++ codes "Host: a" ++ line_end ++ codes "Content-Length: "

-- a post of this content
abbrev pub posted : List ℕ → List ℕ
posted content = post_front ++ decimal (length content) ++ (line_end ++ line_end) ++ content

unfoldable pub save_request : ℕ → List ℕ → List ℕ
save_request word options = posted (save_text word options)

-- a request of the key's row
unfoldable pub row_request : List ℕ → ℕ → List ℕ
row_request method word = method ++ codes " /v1.0/state/statestore/" ++ key_text word ++ codes " HTTP/1.1" ++ line_end ++ codes "Host: a" ++ line_end ++ line_end

-- the bytes of the request, by the two lowest bits of the word: 0, 1, 2 or another number
abbrev pub text_when : Bool → Bool → Bool → ℕ → List ℕ
text_when is_zero is_one is_two word = if is_zero then save_request word [] else if is_one then row_request (codes "GET") word
    else if is_two then save_request word first_write else row_request (codes "DELETE") word

unfoldable pub request_text : ℕ → List ℕ
request_text word = text_when (word % 4 == 0) (word % 4 == 1) (word % 4 == 2) word

-- the request that they are
abbrev pub saved : ℕ → List ℕ → Request
saved word options = printed_request (codes "POST") (codes "/v1.0/state/statestore") (Some (save_text word options))

abbrev pub asked : List ℕ → ℕ → Request
asked method word = printed_request method (codes "/v1.0/state/statestore/" ++ key_text word) None

abbrev pub request_when : Bool → Bool → Bool → ℕ → Request
request_when is_zero is_one is_two word = if is_zero then saved word [] else if is_one then asked (codes "GET") word
    else if is_two then saved word first_write else asked (codes "DELETE") word

unfoldable pub request_of : ℕ → Request
request_of word = request_when (word % 4 == 0) (word % 4 == 1) (word % 4 == 2) word
