use Rattle.sidecar_core.proofs.state_request.given_fault.Goals as goal

pub returns-in-Malformed : goal.returns-in-Malformed
returns-in-Malformed c = rw c.in-Malformed.is (c.given.ensures _ c.malformed_response.ensures)
