-- Numbers that are told are those of what is counted.
use Rattle.std.specs.Prelude.{◌≡◌, ℕ}
use Rattle.std.proofs.Common.{subst}
use Rattle.conn_serve.specs.Ends.{SinkAt}
use Rattle.sidecar_cli.specs.Check.{IsCounted}
use Rattle.sidecar_cli.specs.declared.status.Status.{Status}

pub counted_as : {n m k l : ℕ} {sink sink' : SinkAt} {status : Status} → n ≡ m → k ≡ l → IsCounted n k sink sink' status → IsCounted m l sink sink' status
counted_as {m = m} {k = k} {sink = sink} {sink' = sink'} {status = status} same also counted =
    subst (λ z. IsCounted m z sink sink' status) also (subst (λ z. IsCounted z k sink sink' status) same counted)
