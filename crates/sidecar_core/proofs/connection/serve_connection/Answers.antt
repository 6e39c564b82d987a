use Rattle.std.proofs.Common.{◌≡◌, subst, rules}
use Rattle.conn_serve.specs.Served.{IsShown}
use Rattle.sidecar_objects.specs.Composed.{pass_stays}
use Rattle.sidecar_objects.specs.Passes.{IsPassOf}
use Rattle.sidecar_objects.specs.Pass.{cells_of, seats_of}
use Rattle.sidecar_core.specs.Shown.{ShownFor}
use Rattle.sidecar_core.proofs.Moved.{served_at}
use Rattle.sidecar_core.proofs.connection.serve_connection.Goals as goal

pub returns-clause-served : goal.returns-clause-served
returns-clause-served g c =
    let s = c.serve.ensures in
    let same_pass = s.acted.same_pass in
    let same_link = s.acted.same_link in
    let same_clock = s.acted.same_clock in
    let same_rng = s.acted.same_rng in
    let desk = c.serve.new.handler in
    served_at g.L.Link g.C.Clock g.R.Rng.stream c.args.shared.now.config desk.pass.now c.pass-1.given.0 desk.link.now c.link-1.given.0 desk.clock.now c.clock-1.given.0 desk.rng.now c.rng-1.given.0 (search rules) (search rules) (search rules) (search rules)
    (record { bytes = s.bytes; done = s.done; more = s.more; session = s.session; took = s.took; taken = s.taken; before_read = s.before_read; gathered = s.gathered; acted = s.acted.went; shown = subst (λ shared. IsShown (ShownFor shared.config (seats_of desk.pass.now)) s.more) s.acted.same s.shown; cause = s.cause })

pub returns-clause-pass : goal.returns-clause-pass
returns-clause-pass g c =
    let s = c.serve.ensures in
    let same_pass = s.acted.same_pass in
    let here : c.serve.new.handler.pass.now ≡ c.pass-1.given.0 = search rules in
    subst (λ pass. IsPassOf (cells_of c.args.shared.now.objects) (seats_of pass)) here (pass_stays _ _ _ _ _ s.acted.went c.requires.pass)
