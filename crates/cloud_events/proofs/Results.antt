-- What follows of results.
use Rattle.std.specs.Prelude.{Result, Ok, Err, IfOk, IfErr, OnOk}

pub err_weaker : {X Y : Type 0} (r : Result X Y) (P Q : Y → Type 0) → ((y : Y) → P y → Q y) → IfErr r P → IfErr r Q
err_weaker (Ok x) P Q f h = tt
err_weaker (Err y) P Q f h = f y h

pub ok_both : {X Y : Type 0} (r : Result X Y) (P R : X → Type 0) (Q : Type 0) → ((x : X) → P x → Q → R x) → IfOk r P → OnOk r Q → IfOk r R
ok_both (Ok x) P R Q f h k = f x h k
ok_both (Err y) P R Q f h k = tt

pub ok_if : {X Y : Type 0} (r : Result X Y) {P : Type 0} → P → OnOk r P
ok_if (Ok x) h = h
ok_if (Err y) h = tt
