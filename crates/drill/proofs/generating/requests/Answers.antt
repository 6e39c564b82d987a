use Rattle.drill.proofs.Whole.{seeded_whole}
use Rattle.drill.proofs.generating.requests.Goals as goal

pub returns-clause-whole : goal.returns-clause-whole
returns-clause-whole c =
    seeded_whole c.printed_requests_are_whole.ensures (record { none = c.whole_requests_are_a_stream.ensures.none; more = c.whole_requests_are_a_stream.ensures.more })
    c.args.n _ _ _ _ c.in_ok-push_requests.ensures.bytes c.new-bytes.ensures c.in_ok-push_requests.ensures.words c.generator-words.ensures
