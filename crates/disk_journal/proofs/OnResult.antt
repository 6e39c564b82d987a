-- What holds where a call succeeds, or fails.
use Rattle.std.proofs.Common.{◌≡◌, Result, Ok, Err, OnOk, OnErr, IfOk, IfErr}

pub on_ok : {X E : Type 0} (result : Result X E) {P Q : Type 0} → (P → Q) → OnOk result P → OnOk result Q
on_ok (Ok x) leads holds = leads holds
on_ok (Err e) leads holds = holds

pub on_err : {X E : Type 0} (result : Result X E) {P : Type 0} → P → OnErr result P
on_err (Ok x) holds = tt
on_err (Err e) holds = holds

pub if_ok : {X E : Type 0} (result : Result X E) (P Q : X → Type 0) → ((x : X) → P x → Q x) → IfOk result P → IfOk result Q
if_ok (Ok x) P Q leads holds = leads x holds
if_ok (Err e) P Q leads holds = tt

pub if_err : {X E : Type 0} (result : Result X E) (P Q : E → Type 0) → ((e : E) → P e → Q e) → IfErr result P → IfErr result Q
if_err (Ok x) P Q leads holds = tt
if_err (Err e) P Q leads holds = leads e holds

pub same_error : {X E : Type 0} {e f : E} → ◌≡◌ {A = Result X E} (Err e) (Err f) → e ≡ f
same_error same = cc same
