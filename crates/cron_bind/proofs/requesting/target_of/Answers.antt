use Rattle.std.proofs.Common.{ℕ, ◌<◌, ◌∷◌, ap, arith}
use Rattle.std.proofs.lemmas.List.Elements.{All-from_get_or}
use Rattle.cron_bind.proofs.Escaping.{escaped_so}
use Rattle.cron_bind.proofs.requesting.target_of.Goals as goal

pub returns : goal.returns
unfolding lib.Utf8.encode
returns c =
    rw (c.from_vec.ensures, c.into_bytes.ensures.value, c.in_ok-append_to.ensures.ok, c.in_ok-push.ensures.bytes, c.new-target.ensures.bytes, c.percent_encode.ensures.text)
    (ap (λ bytes. 47 ∷ bytes) (escaped_so c.args.name.now (All-from_get_or (λ (b : ℕ). b < 256) c.args.name.now 0 (λ i within. omega (arith, c.type_inv.name i)))))
