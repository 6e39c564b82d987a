use Rattle.std.proofs.Common.{◌≡◌, ℕ, List, [], Bool, Option, Result, Ok, Err, IfOk, subst}
use Rattle.side_world.specs.Told.{Took}
use Rattle.http_client.specs.declared.reply.Reply.{Reply}
use Rattle.http_client.specs.Replies.{ahead, IsReplyText, IsReplyOf}
use Rattle.http_client.proofs.AheadLemmas.{took_all}
use Rattle.http_client.proofs.reply.read_reply.Goals as goal

whole : {E : Type 0} (to_head : Bool) (before after : Option (List ℕ)) (pending behind : List ℕ) (result : Result Reply E) → pending ≡ []
    → IfOk result (λ (reply : Reply). (text : List ℕ) × Took (ahead pending before) (ahead behind after) text × IsReplyText to_head text behind (ahead behind after) reply)
    → IfOk result (IsReplyOf to_head before after)
whole to_head before after pending behind (Ok reply) none took = record {
  text = took.0;
  behind = behind;
  took = took_all before after took.0 behind (subst (λ (p : List ℕ). Took (ahead p before) (ahead behind after) took.0) none took.1);
  is = took.2;
}
whole to_head before after pending behind (Err e) none took = tt

pub returns-clause-is : goal.returns-clause-is
returns-clause-is g c = whole _ _ _ _ _ _ c.new.ensures c.take_reply-reply.ensures.took
