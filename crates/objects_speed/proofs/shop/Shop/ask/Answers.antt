use Rattle.objects_speed.proofs.shop.Shop.ask.Goals as goal

pub invariant_of-self : goal.invariant_of-self
invariant_of-self c =
    let r = c.self.invariant in
    (r.0, _, (c.apply-reply.ensures.step r.0 r.1 0 r.2 c.requires).1)
