-- A request that was sent, and what came of it.
use Rattle.std.specs.Prelude.{◌≡◌, ℕ, List, Bool, true, false, Option, Result, Ok, Err}
use Rattle.side_base.specs.declared.message.LinkRequest.{LinkRequest}
use Rattle.side_base.specs.declared.method.Method.{Method}
use Rattle.side_base.specs.declared.method.Method.TheVariants.{Get, Head, Post, Put, Patch, Delete, Options, Other}
use Rattle.side_world.specs.Faults.{Rose}
use Rattle.http_client.specs.Written.{Sends, SendsSome}
use Rattle.http_client.specs.declared.reply.Reply.{Reply}
use Rattle.http_client.specs.declared.asking.AskErr.{AskErr}
use Rattle.http_client.specs.declared.asking.AskErr.TheVariants.{Unsent, Unanswered}
use Rattle.http_client.specs.declared.incoming.ReplyErr.TheVariants.{SourceFailed}

-- the reply to this method has no content
abbrev pub is_to_head : Method → Bool
is_to_head Head = true
is_to_head Get = false
is_to_head Post = false
is_to_head Put = false
is_to_head Patch = false
is_to_head Delete = false
is_to_head Options = false
is_to_head Other = false

-- the request was sent once and whole, but where a write failed: there it was a prefix of it
abbrev pub Sent : LinkRequest → Result Reply AskErr → Option (List ℕ) → Option (List ℕ) → Type 0
Sent request (Ok reply) before after = Sends request before after
Sent request (Err Unsent) before after = SendsSome request before after
Sent request (Err (Unanswered why)) before after = Sends request before after

-- a fault is told where it was counted: that of the sink, or of the source
abbrev pub CountsWhy : ℕ → ℕ → ℕ → ℕ → AskErr → Type 0
CountsWhy read_before read_after written_before written_after Unsent = Rose written_before written_after
CountsWhy read_before read_after written_before written_after (Unanswered why) = why ≡ SourceFailed → Rose read_before read_after

-- the request was sent, and a read that failed was counted
abbrev pub IsUnanswered : ℕ → ℕ → AskErr → Type 0
IsUnanswered before after Unsent = ⊥
IsUnanswered before after (Unanswered why) = why ≡ SourceFailed → Rose before after
