use Rattle.std.proofs.Common.{refl, sym}
use Rattle.side_world.specs.Answer.{closed, failed}
use Rattle.sidecar_serving.proofs.Doings.{conn_came, idle_came, none_came}
use Rattle.sidecar_serving.proofs.working.ServingWork.accept.Goals as goal

pub returns-in-Conn-clause-kept : goal.returns-in-Conn-clause-kept
returns-in-Conn-clause-kept g c = (refl, λ start done. conn_came _ _ _ _ _ start _ _ _ c.in-Conn.source c.in-Conn.sink _ _ _ c.requires.free c.requires.on c.set.ensures c.in-Conn.ensures.new c.in-Conn.ensures.told done)

pub returns-in-Idle-clause-kept : goal.returns-in-Idle-clause-kept
returns-in-Idle-clause-kept g c = (refl, λ start done. idle_came _ _ _ _ _ start _ _ _ _ _ _ c.requires.free c.requires.on c.set-in-Idle.ensures c.in-Idle.ensures.told done)

pub returns-in-Closed-clause-kept : goal.returns-in-Closed-clause-kept
returns-in-Closed-clause-kept g c = (refl, λ start done. none_came _ _ _ _ _ start _ _ closed _ _ _ c.requires.free c.requires.on (refl, refl) c.in-Closed.ensures.told done)

pub returns-in-Failed-clause-kept : goal.returns-in-Failed-clause-kept
returns-in-Failed-clause-kept g c = (refl, λ start done. none_came _ _ _ _ _ start _ _ failed _ _ _ c.requires.free c.requires.on (refl, refl) (rw (sym c.leave.ensures.told) at c.in-Failed.ensures.told) done)
