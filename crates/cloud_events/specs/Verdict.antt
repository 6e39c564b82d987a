-- What the reply to a delivery says of it.
use Rattle.std.specs.Prelude.{◌≡◌, ℕ, Bool, ◌&&◌, ◌||◌, ◌==◌, nat_le, List, [], codes, Option, Some, None, if◌then◌else◌}
use Rattle.std.specs.Str.{bytes_eq}
use Rattle.json_text.specs.Kind.{Kind}
use Rattle.json_text.specs.Kind.TheVariants as kinds
use Rattle.json_text.specs.declared.spot.Spot.{Spot}
use Rattle.json_text.specs.declared.doc.Doc.{Doc}
use Rattle.json_text.specs.declared.doc.Node.{Node}
use Rattle.json_text.specs.Forest.{Forest}
use Rattle.json_text.specs.Unescape.{text_shown}
use Rattle.json_text.specs.Doc.{bytes_read, IsRoot, OfNode}
use Rattle.cloud_events.specs.declared.outcome.Verdict.{Verdict}
use Rattle.cloud_events.specs.declared.outcome.Verdict.TheVariants.{Success, Retry, Drop}
use Rattle.cloud_events.specs.Members.{last_of}

-- 200 to 299
abbrev pub is_good : ℕ → Bool
is_good status = nat_le 200 status && nat_le status 299

-- `SUCCESS` and the empty text, `DROP`, or any other
abbrev pub by_word : List ℕ → Verdict
by_word word = if bytes_eq word (codes "SUCCESS") || bytes_eq word [] then Success else if bytes_eq word (codes "DROP") then Drop else Retry

abbrev pub IsText : Kind → Type 0
IsText kinds.Text = Unit {0}
IsText _ = ⊥

-- null, a text, or any other
abbrev pub by_value : Kind → List ℕ → Verdict
by_value kinds.Null text = Success
by_value kinds.Text text = by_word text
by_value other text = Retry

abbrev pub by_member : List ℕ → Option Spot → Verdict
by_member bytes None = Success
by_member bytes (Some spot) = by_value spot.kind (text_shown bytes spot)

-- a reply whose body says nothing
abbrev pub by_status : ℕ → Verdict
by_status status = if is_good status then Success else if status == 404 then Drop else Retry

-- A reply whose body is a JSON text, the value of which holds these; the last member `status` counts. Only the values of a map are
-- members.
abbrev pub by_reply : ℕ → List ℕ → Forest → Verdict
by_reply status bytes children = if is_good status then by_member bytes (last_of bytes (codes "status") children) else by_status status

-- the verdict on a reply, of which the JSON text is told, if its body is one
abbrev pub IsVerdict : ℕ → Option Doc → Verdict → Type 0
IsVerdict status None verdict = verdict ≡ by_status status
IsVerdict status (Some doc) verdict = (root : Node) → IsRoot root → OfNode doc root (λ spot children later. verdict ≡ by_reply status (bytes_read doc) children)
