use Rattle.std.proofs.Common.{◌≡◌, codes, ℕ, List, refl, Some, None}
use Rattle.json_text.specs.declared.spot.Spot.{Spot}
use Rattle.json_text.specs.Doc.{bytes_read, IsLastNamed}
use Rattle.json_text.specs.Unescape.{text_shown}
use Rattle.cloud_events.specs.declared.outcome.Verdict.TheVariants.{Success}
use Rattle.cloud_events.specs.Members.{last_of}
use Rattle.cloud_events.specs.Verdict.{by_member, by_value}
use Rattle.cloud_events.proofs.Nodes.{of_root, of_map, at_some, at_none, at_value}
use Rattle.cloud_events.proofs.Lasts.{last_is}
use Rattle.cloud_events.proofs.delivery.by_member.Goals as goal

pub returns-in-Some : goal.returns-in-Some
returns-in-Some c =
    let doc = c.args.doc.now in
    let bytes : List ℕ = bytes_read doc in
    let n = c.in-Some.n in
    of_root doc c.root.result (λ s ch l. c.by_value.result ≡ by_member bytes (last_of bytes (codes "status") ch)) c.root.ensures.first
    (of_map doc c.root.result (λ s ch l. IsLastNamed doc (codes "status") ch (Some n)) (λ s ch l. c.by_value.result ≡ by_member bytes (last_of bytes (codes "status") ch))
    (λ s ch l h. at_some doc n (λ o. c.by_value.result ≡ by_member bytes o) (λ spot at. at_value doc n (λ (t : Spot). c.by_value.result ≡ by_value t.kind (text_shown bytes t)) c.by_value.ensures spot at) (last_of bytes (codes "status") ch) (last_is doc (codes "status") ch (Some n) h))
    c.in-Some.ensures.last)

pub returns-in-None : goal.returns-in-None
returns-in-None c =
    let doc = c.args.doc.now in
    let bytes : List ℕ = bytes_read doc in
    of_root doc c.root.result (λ s ch l. Success ≡ by_member bytes (last_of bytes (codes "status") ch)) c.root.ensures.first
    (of_map doc c.root.result (λ s ch l. IsLastNamed doc (codes "status") ch None) (λ s ch l. Success ≡ by_member bytes (last_of bytes (codes "status") ch))
    (λ s ch l h. at_none doc (λ o. Success ≡ by_member bytes o) refl (last_of bytes (codes "status") ch) (last_is doc (codes "status") ch None h))
    c.in-None.ensures.last)
